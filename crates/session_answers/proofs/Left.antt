-- Laws of what a call leaves: the new bytes where its check passes, the old ones where it does not.
use Prim.Native.Nat.{ℕ}
use mathlib.Core.Path.{◌≡◌, refl}
use mathlib.Core.List.{List}
use Rattle.model.specs.Refusal.{Check, pass, fail}
use Rattle.session_answers.specs.Left.{left_after}

module _ (check : Check) (bytes lent : List ℕ) where
  pub left_done : check ≡ pass → left_after check bytes lent ≡ bytes
  unfolding left_after
  left_done e = rw e

  pub left_refused : (check ≡ pass → ⊥) → left_after check bytes lent ≡ lent
  unfolding left_after
  left_refused fails = go check fails
    where
      go : (k : Check) → (k ≡ pass → ⊥) → left_after k bytes lent ≡ lent
      go pass fails = absurd (fails refl)
      go (fail number returned) fails = refl
