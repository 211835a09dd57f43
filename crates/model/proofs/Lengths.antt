-- The test that two lists of lengths are the same is exact.
use mathlib.Core.Path.{◌≡◌, refl, ◌∙◌, ap}
use mathlib.Core.Bool.{true, false≢true}
use mathlib.Core.List.{[], ◌∷◌}
use borrow.Author.Tests.{eqb-true, eq-eqb}
use Prim.Native.Nat.{ℕ}
use Rattle.logic.proofs.Tests.{and_true, and_left, and_right}
use Rattle.model.specs.Session.{Lengths, same_lengths}

pub lengths_same : (a b : Lengths) → same_lengths a b ≡ true → a ≡ b
unfolding same_lengths
lengths_same [] [] e = refl
lengths_same [] (y ∷ ys) e = absurd (false≢true e)
lengths_same (x ∷ xs) [] e = absurd (false≢true e)
lengths_same (x ∷ xs) (y ∷ ys) e =
    ap (λ (k : ℕ). k ∷ xs) (eqb-true x y (and_left _ _ e)) ∙ ap (λ (l : Lengths). y ∷ l) (lengths_same xs ys (and_right _ _ e))

pub same_self : (a : Lengths) → same_lengths a a ≡ true
unfolding same_lengths
same_self [] = refl
same_self (x ∷ xs) = and_true _ _ (eq-eqb x x refl) (same_self xs)
