-- The unused bits of a block, judged cycle by cycle from the count on.
use Prim.Native.Nat.{ℕ, ◌+◌, ◌-◌, ◌<◌}
use mathlib.Core.Path.{◌≡◌, ◌∙◌}
use mathlib.Core.Bool.{Bool, true}
use mathlib.Core.List.{List}
use native.Mathlib.Omega.{arith}
use native.Mathlib.Decide.{dec_lt}
use lib.Dec.{eqb, ltb}
use borrow.Author.Tests.{lt-ltb, le-ltb}
use Rattle.std.specs.List.{list_all, range_with_len}
use Rattle.logic.specs.Test.{◌or◌, all}
use Rattle.logic.proofs.Judged.{same_test}
use Rattle.logic.proofs.Ranges.{by_first}
use Rattle.logic.proofs.Tests.{or_left, or_right, all_true, all_at}
use Rattle.traces.specs.Turned.{values_length, block_value, unused_clear}

-- the tests of the cycles past the count are those of all, where a cycle within it passes
pub unused_judged : (block : List ℕ) (count : ℕ)
    → list_all (λ c. eqb (block_value block c) 0) (range_with_len count (values_length - count)) ≡ unused_clear block count
unfolding unused_clear ◌or◌
unused_judged block count = by_first clear (values_length - count) count ∙ same_test _ _ forth back
  where
    clear : ℕ → Bool
    clear c = eqb (block_value block c) 0

    forth : all (values_length - count) (λ k. clear (count + k)) ≡ true → all values_length (λ c. ltb c count or clear c) ≡ true
    forth e = all_true _ values_length (λ c low. at c low (dec_lt c count))
      where
        at : (c : ℕ) → c < values_length → Dec (c < count) → ltb c count or clear c ≡ true
        at c low (yes l) = or_left _ _ (lt-ltb c count l)
        at c low (no d) =
            let here : count + (c - count) ≡ c = omega arith in
            or_right _ _ (rw here at (all_at (λ k. clear (count + k)) (values_length - count) e (c - count) (omega arith)))

    back : all values_length (λ c. ltb c count or clear c) ≡ true → all (values_length - count) (λ k. clear (count + k)) ≡ true
    back e =
        all_true _ (values_length - count) (λ k low. rw (le-ltb (count + k) count (omega arith)) at (all_at _ values_length e (count + k) (omega arith)))
