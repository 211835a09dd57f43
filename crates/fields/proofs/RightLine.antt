-- The parts of a right line of n fields at a place of a file: each field is right, byte 10 ends it, and it lies within the file.
use Prim.Native.Nat.{ℕ, ◌+◌, ◌*◌, ◌<◌, ◌≤◌}
use mathlib.Core.Path.{◌≡◌, refl}
use mathlib.Core.Bool.{Bool, true, false}
use mathlib.Core.List.{List}
use native.Mathlib.Omega.{arith}
use lib.Dec.{ltb}
use lib.ListN.{length, get_or, get_or-eq_default}
use borrow.Author.Tests.{eqb-true, ltb-true, ltb-false}
use Rattle.logic.proofs.Tests.{and_left, and_right, all_at}
use Rattle.fields.specs.Field.{is_field_at}
use Rattle.fields.specs.Line.{is_line_at, line_length, newline}

module _ (bytes : List ℕ) (at n : ℕ) (right : is_line_at bytes at n ≡ true) where
  pub line_field : (k : ℕ) → k < n → is_field_at bytes (at + 6 * k) ≡ true
  unfolding is_line_at
  line_field = all_at _ n (and_left _ _ right)

  pub line_newline : get_or bytes (at + 6 * n) 0 ≡ newline
  unfolding is_line_at
  line_newline = eqb-true _ _ (and_right _ _ right)

  pub line_within : at + line_length n ≤ length bytes
  line_within = go (ltb (at + 6 * n) (length bytes)) refl
    where
      go : (b : Bool) → ltb (at + 6 * n) (length bytes) ≡ b → at + (6 * n + 1) ≤ length bytes
      go true e = omega (arith, ltb-true)
      go false e = absurd (omega (arith, line_newline, get_or-eq_default bytes 0 (ltb-false (at + 6 * n) (length bytes) e)))
