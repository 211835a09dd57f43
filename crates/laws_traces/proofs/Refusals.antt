-- What the two calls may refuse by: 40, 52 and, when turning, 42, so that an answer of 0 is a call that was done; and what 42 looks at.
use Prim.Native.Nat.{ℕ, ◌<◌}
use mathlib.Core.Path.{◌≡◌, ap, ap₂}
use mathlib.Core.List.{List, [], ◌∷◌}
use native.Mathlib.Omega.{arith}
use lib.ListN.{length, get_or}
use Rattle.model.specs.Refusal.{first, unless}
use Rattle.model.specs.Session.{same_lengths}
use Rattle.model.proofs.Refusals.{below_same}
use Rattle.session_answers.specs.Recorded.{recorded_check}
use Rattle.session_answers.proofs.Calls.{Numbered, unless_numbered, first_numbered, below_numbered, recorded_numbered}
use Rattle.traces.specs.Checks.{turn_fixed, count_check, sizes_check, values_check, unused_check, turn_check, turn_back_check}

module _ (values block : List ℕ) (count : ℕ) where
  sizes_numbered : Numbered (sizes_check values block count)
  unfolding sizes_check count_check
  sizes_numbered = first_numbered _ _ (unless_numbered _ 40 0 (omega arith)) (unless_numbered _ 52 0 (omega arith))

  pub turn_numbered : Numbered (turn_check values block count)
  unfolding turn_check values_check
  turn_numbered = first_numbered _ _ sizes_numbered (below_numbered count _ (λ c. recorded_numbered (get_or values c 0)))

  pub back_numbered : Numbered (turn_back_check block values count)
  unfolding turn_back_check unused_check
  back_numbered = first_numbered _ _ sizes_numbered (unless_numbered _ 52 0 (omega arith))

-- values past the count are not judged
pub check_within : (values others block : List ℕ) (count : ℕ) → length values ≡ length others
    → ((c : ℕ) → c < count → get_or values c 0 ≡ get_or others c 0) → turn_check values block count ≡ turn_check others block count
unfolding turn_check sizes_check values_check
check_within values others block count long same =
    ap₂ first
    (ap (λ (n : ℕ). first (unless (same_lengths (n ∷ length block ∷ []) turn_fixed) 40 0) (count_check count)) long)
    (below_same count _ _ (λ c low. ap recorded_check (same c low)))
