-- Fields and lines that lie within the first m bytes of a file are the same in those bytes alone.
use Prim.Native.Nat.{ℕ, ◌+◌, ◌-◌, ◌*◌, ◌≤◌}
use mathlib.Core.Path.{◌≡◌, ap, ◌∙◌}
use mathlib.Core.List.{List}
use native.Mathlib.Omega.{arith}
use lib.ListN.{take, drop}
use lib.Seq.{take-take, get_or-take}
use Rattle.std.proofs.lemmas.List.{drop-take}
use Rattle.logic.proofs.Tests.{all_same}
use Rattle.fields.specs.Field.{columns_at, is_field, is_field_at, number, number_at}
use Rattle.fields.specs.Line.{is_line_at, line_length}

module _ (m : ℕ) (l : List ℕ) where
  columns_take : (at : ℕ) → at + 6 ≤ m → columns_at (take m l) at ≡ columns_at l at
  columns_take at h =
      let within : m ≡ at + (m - at) = omega arith in
      ap (λ k. take 6 (drop at (take k l))) within ∙ rw (drop-take at (m - at) l) (take-take 6 (m - at) (drop at l) (omega arith))

  pub number_take : (at : ℕ) → at + 6 ≤ m → number_at (take m l) at ≡ number_at l at
  number_take at h = ap number (columns_take at h)

  pub line_take : (at n : ℕ) → at + line_length n ≤ m → is_line_at (take m l) at n ≡ is_line_at l at n
  unfolding is_line_at
  line_take at n h =
      rw (
        all_same (λ k. is_field_at (take m l) (at + 6 * k)) (λ k. is_field_at l (at + 6 * k)) n
            (λ k s. ap is_field (columns_take (at + 6 * k) (omega arith))),
        get_or-take m l (at + 6 * n) 0 (omega arith),
      )
