-- Laws of `specs/Refusal.antt`: a check made of others passes exactly when they all pass, and where it fails, it fails as the first of
-- them that does.
use Prim.Native.Nat.{ℕ, zero, suc, ◌<◌}
use mathlib.Core.Path.{◌≡◌, refl, sym, subst, ◌∙◌}
use mathlib.Core.Bool.{Bool, true, false}
use mathlib.Core.Logic.{◌⊎◌, inl, inr, ⊎_elim}
use native.Mathlib.Omega.{arith}
use native.Mathlib.Nat.{eq-or-lt_of_le}
use Rattle.model.specs.Refusal.{Check, pass, fail, first, unless, first_below}

pub pass_not_fail : {number returned : ℕ} → pass ≡ fail number returned → ⊥
pass_not_fail e = let z : ◌≡◌ {A = ℕ} 0 1 = cc in omega arith

-- both of two
pub first_left : (a b : Check) → first a b ≡ pass → a ≡ pass
unfolding first
first_left pass b e = refl
first_left (fail number returned) b e = e

pub first_right : (a b : Check) → first a b ≡ pass → b ≡ pass
unfolding first
first_right pass b e = e
first_right (fail number returned) b e = absurd (pass_not_fail (sym e))

pub first_both : (a b : Check) → a ≡ pass → b ≡ pass → first a b ≡ pass
unfolding first
first_both a b p q = rw p q

-- the second where the first passes, else the first
pub first_second : (a b : Check) → a ≡ pass → first a b ≡ b
unfolding first
first_second a b p = rw p

pub first_stays : (a b : Check) {number returned : ℕ} → a ≡ fail number returned → first a b ≡ fail number returned
unfolding first
first_stays a b p = rw p

-- one that does not pass answers for those after it
pub first_failed : (a b : Check) → (a ≡ pass → ⊥) → first a b ≡ a
unfolding first
first_failed pass b d = absurd (d refl)
first_failed (fail number returned) b d = refl

pub first_fail : (a b : Check) {number returned : ℕ} → first a b ≡ fail number returned
    → (a ≡ fail number returned) ⊎ ((a ≡ pass) × (b ≡ fail number returned))
unfolding first
first_fail pass b e = inr (refl, e)
first_fail (fail number returned) b e = inl e

pub first_first : (a b c : Check) → first (first a b) c ≡ first a (first b c)
unfolding first
first_first pass b c = refl
first_first (fail number returned) b c = refl

-- a test
pub unless_true : (t : Bool) (x y : ℕ) → unless t x y ≡ pass → t ≡ true
unfolding unless
unless_true true x y e = refl
unless_true false x y e = absurd (pass_not_fail (sym e))

pub unless_pass : (t : Bool) (x y : ℕ) → t ≡ true → unless t x y ≡ pass
unfolding unless
unless_pass t x y e = rw e

pub unless_false : (t : Bool) (x y : ℕ) {number returned : ℕ} → unless t x y ≡ fail number returned
    → (t ≡ false) × (number ≡ x) × (returned ≡ y)
unfolding unless
unless_false true x y e = absurd (pass_not_fail e)
unless_false false x y e = (refl, cc, cc)

-- the first that fails of the checks of 0 to n - 1: which it is, and what it answers
pub record FirstFails (n : ℕ) (f : ℕ → Check) (number returned : ℕ) : Type 0 where
  pub at : ℕ
  pub low : at < n
  pub fails : f at ≡ fail number returned
  pub before : (k : ℕ) → k < at → f k ≡ pass

pub below_pass : (n : ℕ) (f : ℕ → Check) → first_below n f ≡ pass → (k : ℕ) → k < n → f k ≡ pass
unfolding first_below
below_pass zero f e k h = absurd (omega arith)
below_pass (suc n) f e k h =
    ⊎_elim
    (λ q. subst (λ (m : ℕ). f m ≡ pass) (sym q) (first_right (first_below n f) (f n) e))
    (below_pass n f (first_left (first_below n f) (f n) e) k)
    (eq-or-lt_of_le {n = k} {m = n} (omega arith))

pub below_all : (n : ℕ) (f : ℕ → Check) → ((k : ℕ) → k < n → f k ≡ pass) → first_below n f ≡ pass
unfolding first_below
below_all zero f h = refl
below_all (suc n) f h =
    first_both (first_below n f) (f n) (below_all n f (λ k l. h k (omega arith))) (h n (omega arith))

pub below_fail : (n : ℕ) (f : ℕ → Check) {number returned : ℕ} → first_below n f ≡ fail number returned
    → FirstFails n f number returned
unfolding first_below
below_fail zero f e = absurd (pass_not_fail e)
below_fail (suc n) f e =
    ⊎_elim
    (λ q. let r = below_fail n f q in record { at = r.at; low = omega (arith, r.low); fails = r.fails; before = r.before })
    (λ q. record { at = n; low = omega arith; fails = q.1; before = below_pass n f q.0 })
    (first_fail (first_below n f) (f n) e)

pub below_first : (n : ℕ) (f : ℕ → Check) {number returned : ℕ} → FirstFails n f number returned
    → first_below n f ≡ fail number returned
unfolding first_below
below_first zero f r = absurd (omega (arith, r.low))
below_first (suc n) f {number} {returned} r =
    ⊎_elim
    (λ q.
    first_second (first_below n f) (f n) (below_all n f (λ k l. r.before k (omega arith)))
    ∙ subst (λ (m : ℕ). f m ≡ fail number returned) q r.fails)
    (λ l.
    first_stays (first_below n f) (f n)
    (below_first n f (record { at = r.at; low = l; fails = r.fails; before = r.before })))
    (eq-or-lt_of_le {n = r.at} {m = n} (omega (arith, r.low)))

-- checks that agree below n
pub below_same : (n : ℕ) (f g : ℕ → Check) → ((k : ℕ) → k < n → f k ≡ g k) → first_below n f ≡ first_below n g
unfolding first_below
below_same zero f g h = refl
below_same (suc n) f g h = rw (below_same n f g (λ k l. h k (omega arith)), h n (omega arith))
