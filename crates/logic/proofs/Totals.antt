-- Laws of `total`: the sum is 0 exactly when every term is, and 1 exactly when one term is 1 and all others are 0.
use Prim.Native.Nat.{ℕ, zero, suc, ◌+◌, ◌<◌, ◌≤◌}
use mathlib.Core.Path.{◌≡◌, refl}
use mathlib.Core.Bool.{Bool, true, false}
use native.Mathlib.Omega.{arith}
use native.Mathlib.Decide.{ℕ_discrete}
use Rattle.logic.specs.Test.{one, total}

pub one_true : (b : Bool) → one b ≡ 1 → b ≡ true
one_true true e = refl
one_true false e = absurd (omega arith)

-- a law of one number more, from the numbers below and the last
one_more : (P : ℕ → Type 0) (n : ℕ) → ((k : ℕ) → k < n → P k) → P n → (k : ℕ) → k < suc n → P k
one_more P n below last k h = go (ℕ_discrete k n)
  where
    go : Dec (k ≡ n) → P k
    go (yes e) = rw e last
    go (no d) = below k (omega arith)

-- the one number below n at which f is 1, f being 0 at all others
pub record Only (n : ℕ) (f : ℕ → ℕ) : Type 0 where
  pub at : ℕ
  pub below : at < n
  pub is : f at ≡ 1
  pub rest : (k : ℕ) → k < n → (k ≡ at → ⊥) → f k ≡ 0

module _ (f : ℕ → ℕ) where
  term_total : (n k : ℕ) → k < n → f k ≤ total n f
  unfolding total
  term_total zero k h = absurd (omega arith)
  term_total (suc n) k h =
      one_more (λ k. f k ≤ total n f + f n) n (λ k l. omega (arith, term_total n k l)) (omega arith) k h

  pub total_zero : (n : ℕ) → total n f ≡ 0 → (k : ℕ) → k < n → f k ≡ 0
  total_zero n t k h = omega (arith, term_total n k h)

  pub zero_total : (n : ℕ) → ((k : ℕ) → k < n → f k ≡ 0) → total n f ≡ 0
  unfolding total
  zero_total zero z = refl
  zero_total (suc n) z = omega (arith, zero_total n (λ k h. z k (omega arith)), z n (omega arith))

  pub total_one : (n : ℕ) → total n f ≡ 1 → Only n f
  unfolding total
  total_one zero t = absurd (omega arith)
  total_one (suc n) t = go (ℕ_discrete (f n) 0) (total_one n) (total_zero n)
    where
      go : Dec (f n ≡ 0) → (total n f ≡ 1 → Only n f) → (total n f ≡ 0 → (k : ℕ) → k < n → f k ≡ 0) → Only (suc n) f
      go (yes z) before none =
          let o = before (omega arith) in
          record {
            at = o.at;
            below = omega (arith, o.below);
            is = o.is;
            rest = one_more (λ k. (k ≡ o.at → ⊥) → f k ≡ 0) n o.rest (λ d. z);
          }
      go (no z) before none =
          record {
            at = n;
            below = omega arith;
            is = omega arith;
            rest = one_more (λ k. (k ≡ n → ⊥) → f k ≡ 0) n (λ k h d. none (omega arith) k h) (λ d. absurd (d refl));
          }

  pub one_total : (n : ℕ) → Only n f → total n f ≡ 1
  unfolding total
  one_total zero o = absurd (omega arith)
  one_total (suc n) o = go (ℕ_discrete o.at n) (one_total n)
    where
      below : (o.at ≡ n → ⊥) → Only n f
      below d = record { at = o.at; below = omega arith; is = o.is; rest = λ k h. o.rest k (omega arith) }

      go : Dec (o.at ≡ n) → (Only n f → total n f ≡ 1) → total n f + f n ≡ 1
      go (yes e) before =
          let last : f n ≡ 1 = rw (← e) o.is in
          let others = zero_total n (λ k h. o.rest k (omega arith) (λ (q : k ≡ o.at). omega arith)) in
          omega arith
      go (no d) before =
          let last = o.rest n (omega arith) (λ (q : n ≡ o.at). d (omega arith)) in
          omega (arith, before (below d))
