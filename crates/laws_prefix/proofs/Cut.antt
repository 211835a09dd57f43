-- A file of lines is decided by its first bytes: those of the lines that it may have, and one more, which is surplus. What stands in these
-- lines is kept (`line_kept`, `field_kept`, `end_kept`), and so is a check of line 1, of lines after it, and of a surplus line (`cut_kept`).
use Prim.Native.Nat.{ℕ, suc, ◌+◌, ◌*◌, ◌<◌, ◌≤◌}
use mathlib.Core.Path.{◌≡◌, refl, sym, ◌∙◌, ap}
use mathlib.Core.Bool.{Bool, true, false}
use mathlib.Core.List.{List}
use native.Mathlib.Omega.{arith}
use native.Mathlib.Nat.{mul-suc, mul-le-mul_left}
use lib.Dec.{leb}
use lib.ListN.{length, take, length-take}
use lib.Seq.{length-take-le, take_all}
use borrow.Author.Tests.{le-leb, lt-leb, leb-true, leb-false}
use Rattle.fields.specs.Field.{number_at}
use Rattle.fields.specs.Line.{is_line_at, line_length}
use Rattle.fields.proofs.Taken.{number_take, line_take}
use Rattle.model.specs.Refusal.{Check, pass, fail, first, first_below}
use Rattle.model.proofs.Refusals.{first_stays, below_same}
use Rattle.file_lines.proofs.Lines.{surplus, test_stops}

-- the first `count` lines of n fields, and at least one byte more
module _ (n count m : ℕ) (l : List ℕ) (enough : line_length n * count < m) where
  abbrev width : ℕ
  width = line_length n

  within : (i : ℕ) → i < count → width * i + width < m
  within i low = omega (arith, mul-suc width i, mul-le-mul_left {m = suc i} {n = count} width low)

  module _ (i : ℕ) (low : i < count) where
    pub line_kept : is_line_at (take m l) (width * i) n ≡ is_line_at l (width * i) n
    line_kept = line_take m l (width * i) n (omega (arith, within i low))

    pub field_kept : (column : ℕ) → column < n → number_at (take m l) (width * i + 6 * column) ≡ number_at l (width * i + 6 * column)
    field_kept column h = number_take m l (width * i + 6 * column) (omega (arith, within i low))

  -- where the file ends
  pub end_kept : (i : ℕ) → i ≤ count → leb (length (take m l)) (width * i) ≡ leb (length l) (width * i)
  end_kept i low = go (leb (length l) (width * i)) refl
    where
      before : width * i < m
      before = omega (arith, mul-le-mul_left {m = i} {n = count} width low)

      go : (b : Bool) → leb (length l) (width * i) ≡ b → leb (length (take m l)) (width * i) ≡ b
      go true e = le-leb (length (take m l)) (width * i) (omega (arith, length-take m l, leb-true (length l) (width * i) e))
      go false e = lt-leb (length (take m l)) (width * i) (omega (arith, before, length-take m l, leb-false (length l) (width * i) e))

-- a check of line 1, of as many lines after it as line 1 says, at most `most`, of a line after these, and of more
module _ (width most number : ℕ) (header : List ℕ → Check) (lines : List ℕ → ℕ) (line : List ℕ → ℕ → Check) (rest : List ℕ → Check)
    (m : ℕ) (enough : width * (most + 1) < m) (l : List ℕ) where
  abbrev check : List ℕ → Check
  check file = first (header file) (first (first_below (lines file) (line file)) (first (surplus file width (lines file) number) (rest file)))

  module _ (header-kept : header (take m l) ≡ header l) (count_kept : lines (take m l) ≡ lines l) (few : header l ≡ pass → lines l ≤ most)
      (lines-kept : header l ≡ pass → (k : ℕ) → k < lines l → line (take m l) k ≡ line l k) where
    -- a file that is longer has a line after the last, and so have its first bytes
    longer : m < length l → (k : Check) → header l ≡ k → check (take m l) ≡ check l
    longer h (fail number returned) e = first_stays _ _ (header-kept ∙ e) ∙ sym (first_stays _ _ e)
    longer h pass e =
        rw (header-kept, count_kept, below_same (lines l) (line (take m l)) (line l) (lines-kept e))
        (ap (λ (k : Check). first (header l) (first (first_below (lines l) (line l)) k))
        (more (take m l) (omega (arith, length-take-le m l (omega arith))) ∙ sym (more l (omega arith))))
      where
        more : (file : List ℕ) → m ≤ length file → first (surplus file width (lines l) number) (rest file) ≡ fail number (lines l + 2)
        more file far =
            let last : width * (lines l + 1) ≤ width * (most + 1) =
            mul-le-mul_left {m = lines l + 1} {n = most + 1} width (omega (arith, few e)) in
            test_stops _ number (lines l + 2) _ (lt-leb (length file) (width * (lines l + 1)) (omega arith))

    pub cut_kept : check (take m l) ≡ check l
    cut_kept = go (leb (length l) m) refl
      where
        go : (b : Bool) → leb (length l) m ≡ b → check (take m l) ≡ check l
        go true e = ap check (take_all m l (leb-true (length l) m e))
        go false e = longer (leb-false (length l) m e) (header l) refl
