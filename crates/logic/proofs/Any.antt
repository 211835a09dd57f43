-- Laws of `any`: where the test passes that passes at some number below n.
use Prim.Native.Nat.{ℕ, zero, suc, ◌<◌}
use mathlib.Core.Path.{◌≡◌, sym, subst, ◌∙◌}
use mathlib.Core.Bool.{Bool, true, false, false≢true}
use mathlib.Core.Logic.{⊎_elim}
use native.Mathlib.Omega.{arith}
use native.Mathlib.Nat.{eq-or-lt_of_le}
use Rattle.logic.specs.Test.{any}
use Rattle.logic.proofs.Tests.{or_cases, or_left, or_right}

-- a number below n where the test passes
pub record Passes (n : ℕ) (p : ℕ → Bool) : Type 0 where
  pub at : ℕ
  pub low : at < n
  pub is : p at ≡ true

module _ (p : ℕ → Bool) where
  pub any_passes : (n : ℕ) → any n p ≡ true → Passes n p
  unfolding any
  any_passes zero e = absurd (false≢true e)
  any_passes (suc n) e =
      ⊎_elim
      (λ q. let r = any_passes n q in record { at = r.at; low = omega (arith, r.low); is = r.is })
      (λ q. record { at = n; low = omega arith; is = q })
      (or_cases (any n p) (p n) e)

  pub any_true : (n k : ℕ) → k < n → p k ≡ true → any n p ≡ true
  unfolding any
  any_true zero k h e = absurd (omega arith)
  any_true (suc n) k h e =
      ⊎_elim
      (λ q. or_right (any n p) (p n) (subst (λ (m : ℕ). p m ≡ true) q e))
      (λ l. or_left (any n p) (p n) (any_true n k l e))
      (eq-or-lt_of_le {n = k} {m = n} (omega arith))

  pub any_false : (n : ℕ) → any n p ≡ false → (k : ℕ) → k < n → p k ≡ true → ⊥
  any_false n e k h q = false≢true (sym e ∙ any_true n k h q)
