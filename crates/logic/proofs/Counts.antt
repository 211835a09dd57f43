-- Laws of `count`, for lists that are stored into.
use Prim.Native.Nat.{ℕ, zero, suc, ◌+◌, ◌<◌, ◌≤◌}
use mathlib.Core.Path.{◌≡◌}
use mathlib.Core.Bool.{Bool, true}
use mathlib.Core.List.{List, [], ◌∷◌}
use native.Mathlib.Omega.{arith}
use lib.ListN.{length, get_or, set}
use Rattle.logic.specs.Test.{one, count}

module _ {A : Type 0} (p : A → Bool) where
  -- a store changes the count by the old and the new element alone
  pub count_set : (l : List A) (i : ℕ) (v d : A) → i < length l
      → count p (set l i v) + one (p (get_or l i d)) ≡ count p l + one (p v)
  unfolding count
  count_set [] i v d h = absurd (omega arith)
  count_set (x ∷ xs) zero v d h = omega arith
  count_set (x ∷ xs) (suc i) v d h = omega (arith, count_set xs i v d (omega arith))

  -- an element that passes is counted
  pub count_at : (l : List A) (i : ℕ) (d : A) → i < length l → p (get_or l i d) ≡ true → 1 ≤ count p l
  unfolding count
  count_at [] i d h e = absurd (omega arith)
  count_at (x ∷ xs) zero d h e = rw e (omega arith)
  count_at (x ∷ xs) (suc i) d h e = omega (arith, count_at xs i d (omega arith) e)
