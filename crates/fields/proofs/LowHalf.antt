-- The number of a right field from the low halves of its bytes: a space's is 0, a digit's is its value.
use Prim.Native.Nat.{ℕ, ◌+◌, ◌-◌, ◌*◌, ◌%◌, ◌≤◌}
use mathlib.Core.Path.{◌≡◌, refl, sym, ◌∙◌}
use mathlib.Core.Bool.{Bool, true, false, true≢false}
use mathlib.Core.List.{List, [], ◌∷◌}
use native.Mathlib.Omega.{arith}
use lib.Dec.{eqb, leb}
use lib.ListN.{length}
use borrow.Author.Tests.{eqb-true, leb-true, leb-false}
use Rattle.logic.specs.Test.{every}
use Rattle.std.specs.Prelude.{if◌then◌else◌}
use Rattle.logic.proofs.Tests.{and_left, and_right}
use Rattle.fields.specs.Field.{is_digit, after_spaces, decimal, is_numeral, is_field_at, number, number_at}
use Rattle.fields.specs.Scan.{low_number}
use Rattle.fields.proofs.Digit.{digit_low, digit_high, numeral_digits, numeral_small}
use Rattle.fields.proofs.Columns.{six, columns_six, six_field, field_cut}

low : ℕ → List ℕ → ℕ
low n [] = n
low n (c ∷ cs) = low (10 * n + c % 16) cs

low_digits : (cs : List ℕ) (n : ℕ) → every is_digit cs ≡ true → decimal n cs ≡ low n cs
unfolding decimal low every
low_digits [] n h = refl
low_digits (c ∷ cs) n h =
    let d : is_digit c ≡ true = and_left (is_digit c) (every is_digit cs) h in
    let a = digit_low c d in
    let b = digit_high c d in
    let e : c - 48 ≡ c % 16 = omega arith in
    rw e (low_digits cs (10 * n + c % 16) (and_right (is_digit c) (every is_digit cs) h))

low_numeral : (cs : List ℕ) → is_numeral (after_spaces cs) ≡ true → decimal 0 (after_spaces cs) ≡ low 0 cs
unfolding after_spaces low
low_numeral [] h = unfold decimal in refl
low_numeral (c ∷ cs) h = go (eqb c 32) refl h (low_numeral cs)
  where
    rest : Bool → List ℕ
    rest b = if b then after_spaces cs else c ∷ cs

    go : (b : Bool) → eqb c 32 ≡ b → is_numeral (rest b) ≡ true
        → (is_numeral (after_spaces cs) ≡ true → decimal 0 (after_spaces cs) ≡ low 0 cs)
        → decimal 0 (rest b) ≡ low (10 * 0 + c % 16) cs
    go true e q next = let z : 10 * 0 + c % 16 ≡ 0 = omega (arith, eqb-true c 32 e) in rw z (next q)
    go false e q next = low_digits (c ∷ cs) 0 (numeral_digits (c ∷ cs) q)

module _ (l : List ℕ) (at : ℕ) (h : is_field_at l at ≡ true) where
  pub field_length : at + 6 ≤ length l
  field_length = go (leb (at + 6) (length l)) refl
    where
      go : (b : Bool) → leb (at + 6) (length l) ≡ b → at + 6 ≤ length l
      go true e = leb-true (at + 6) (length l) e
      go false e = absurd (true≢false (sym h ∙ field_cut l at (leb-false (at + 6) (length l) e)))

  numeral : is_numeral (after_spaces (six l at)) ≡ true
  numeral = sym (six_field l at field_length) ∙ h

  pub number_small : number_at l at ≤ 65535
  unfolding number
  number_small = rw (columns_six l at field_length) (numeral_small (after_spaces (six l at)) numeral)

  -- the first column, of weight 100000, is a space
  pub number_low : number_at l at ≡ low_number l at
  unfolding number low
  number_low =
      let e : number_at l at ≡ low 0 (six l at) = rw (columns_six l at field_length) (low_numeral (six l at) numeral) in
      let s : number_at l at ≤ 65535 = number_small in
      omega arith
