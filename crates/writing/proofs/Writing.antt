-- Fields and lines stored one after the other.
use Prim.Native.Nat.{ℕ, suc, ◌+◌, ◌*◌, ◌<◌, ◌≤◌}
use mathlib.Core.Path.{◌≡◌, refl, sym, ◌∙◌, ap}
use mathlib.Core.List.{List, [], ◌∷◌, ◌++◌, flat_map, append_assoc, append-nil}
use native.Mathlib.Omega.{arith}
use native.Mathlib.Nat.{add-zero}
use native.Mathlib.Numerals.{add-one, towards_suc}
use lib.ListN.{length, get_or, take, drop, set, length-append}
use lib.Seq.{sets, sets-eq, take-suc, take-length, length-take-le}
use borrow.Rule.Slice.PartMut.{put_mid}
use Rattle.std.proofs.lemmas.List.{drop-drop}
use borrow.Author.Tests.{lt-leb}
use Rattle.logic.specs.Test.{◌or◌}
use Rattle.writing.specs.Text.{column_of, field_text, line_text}

-- no number reaches the column of weight 100000
pub column_first : (n : ℕ) → n ≤ 65535 → column_of n 100000 ≡ 32
unfolding column_of ◌or◌
column_first n h = rw (lt-leb 100000 n (omega arith))

-- the columns of a field together
pub columns_text : (n a b c d e : ℕ) → n ≤ 65535 → a ≡ column_of n 10000 → b ≡ column_of n 1000 → c ≡ column_of n 100 → d ≡ column_of n 10
    → e ≡ column_of n 1 → 32 ∷ a ∷ b ∷ c ∷ d ∷ e ∷ [] ≡ field_text n
unfolding field_text
columns_text n a b c d e h p q r s t = rw (p, q, r, s, t, column_first n h)

-- the stores of a field's columns
pub field_stored : (l : List ℕ) (at n a b c d e : ℕ) → n ≤ 65535 → a ≡ column_of n 10000 → b ≡ column_of n 1000
    → c ≡ column_of n 100 → d ≡ column_of n 10 → e ≡ column_of n 1
    → set (set (set (set (set (set l at 32) (at + 1) a) (at + 2) b) (at + 3) c) (at + 4) d) (at + 5) e ≡ sets l at (field_text n)
unfolding field_text
field_stored l at n a b c d e h p q r s t = rw (p, q, r, s, t, column_first n h) (simp towards_suc)

-- a part of a buffer, written whole
pub put_sets : (l xs : List ℕ) (at k : ℕ) → k ≡ length xs → at + k ≤ length l → put_mid at k l xs ≡ sets l at xs
put_sets l xs at k size inside =
    ap (λ (r : List ℕ). take at l ++ (xs ++ r)) (drop-drop k at l ∙ ap (λ (n : ℕ). drop (at + n) l) size)
    ∙ sym (append_assoc (take at l) xs (drop (at + length xs) l))
    ∙ sym (sets-eq xs l at (omega arith))

-- stores go on where the last one ended
pub sets_append : (l xs ys : List ℕ) (i j : ℕ) → j ≡ i + length xs → sets (sets l i xs) j ys ≡ sets l i (xs ++ ys)
sets_append l [] ys i j e = ap (λ (k : ℕ). sets l k ys) (e ∙ add-zero i)
sets_append l (x ∷ xs) ys i j e = sets_append (set l i x) xs ys (suc i) j (omega arith)

pub flat_map_append : (f : ℕ → List ℕ) (xs ys : List ℕ) → flat_map f (xs ++ ys) ≡ flat_map f xs ++ flat_map f ys
unfolding flat_map
flat_map_append f [] ys = refl
flat_map_append f (x ∷ xs) ys = ap (λ (r : List ℕ). f x ++ r) (flat_map_append f xs ys) ∙ sym (append_assoc (f x) (flat_map f xs) (flat_map f ys))

pub length_text : (n : ℕ) → length (field_text n) ≡ 6
unfolding field_text
length_text n = refl

pub length_fields : (xs : List ℕ) → length (flat_map field_text xs) ≡ 6 * length xs
unfolding flat_map field_text
length_fields [] = refl
length_fields (x ∷ xs) = omega (arith, length-append (field_text x) (flat_map field_text xs), length_fields xs)

module _ (l numbers : List ℕ) (at : ℕ) where
  -- the first k fields of the line
  abbrev pub fields : ℕ → List ℕ
  fields k = sets l at (flat_map field_text (take k numbers))

  pub fields_more : (out : List ℕ) (k : ℕ) → out ≡ fields k → k < length numbers
      → sets out (at + 6 * k) (field_text (get_or numbers k 0)) ≡ fields (k + 1)
  unfolding flat_map
  fields_more out k o h =
      let size : length (take k numbers) ≡ k = length-take-le k numbers (omega arith) in
      ap (λ (r : List ℕ). sets r (at + 6 * k) (field_text n)) o
      ∙ sets_append l (flat_map field_text (take k numbers)) (field_text n) at (at + 6 * k) (omega (arith, length_fields (take k numbers)))
      ∙ ap (λ (r : List ℕ). sets l at r) text
    where
      n : ℕ
      n = get_or numbers k 0

      text : flat_map field_text (take k numbers) ++ field_text n ≡ flat_map field_text (take (k + 1) numbers)
      text = rw (add-one, take-suc numbers k 0, flat_map_append field_text (take k numbers) (n ∷ []), append-nil (field_text n))

  pub line_stored : (out : List ℕ) (k end : ℕ) → out ≡ fields k → k ≡ length numbers → end ≡ at + 6 * length numbers
      → set out end 10 ≡ sets l at (line_text numbers)
  unfolding line_text
  line_stored out k end o e p =
      ap (λ (r : List ℕ). set r end 10) o
      ∙ sets_append l (flat_map field_text (take k numbers)) (10 ∷ []) at end (rw (e, take-length) (omega (arith, length_fields numbers)))
      ∙ rw (e, take-length)

-- six columns a field, and the end of the line
pub length_line : (numbers : List ℕ) → length (line_text numbers) ≡ 6 * length numbers + 1
unfolding line_text
length_line numbers = length-append (flat_map field_text numbers) _ ∙ omega (arith, length_fields numbers)
