-- Among n + 1 numbers below n two are equal: the last is equal to one before it, or it is not, and then those before it are n
-- numbers below n - 1 once n - 1 is renamed to the last one's number.
use Prim.Native.Nat.{ℕ, zero, suc, ◌≤◌, ◌<◌}
use mathlib.Core.Path.{◌≡◌, refl, sym, ◌∙◌}
use mathlib.Core.Bool.{Bool, true, false}
use native.Mathlib.Omega.{arith}
use lib.Dec.{eqb}
use borrow.Author.Tests.{eqb-true, eqb-false, eq-eqb}
use Rattle.logic.specs.Test.{any}
use Rattle.std.specs.Prelude.{if◌then◌else◌}
use Rattle.logic.proofs.Any.{any_passes, any_false}

-- two of the numbers f 0 to f n that are equal
pub record Twice (n : ℕ) (f : ℕ → ℕ) : Type 0 where
  pub i : ℕ
  pub j : ℕ
  pub less : i < j
  pub last : j ≤ n
  pub same : f i ≡ f j

-- x in the place of n
renamed : ℕ → ℕ → ℕ → ℕ
renamed n x y = if eqb y n then x else y

module _ (n x : ℕ) where
  renamed_below : (y : ℕ) → x < suc n → y < suc n → (y ≡ x → ⊥) → renamed n x y < n
  unfolding renamed
  renamed_below y hx hy other = go (eqb y n) refl
    where
      go : (b : Bool) → eqb y n ≡ b → (if b then x else y) < n
      go true e = let q = eqb-true y n e in let ne : (x ≡ n → ⊥) = λ h. other (q ∙ sym h) in omega arith
      go false e = let ne : (y ≡ n → ⊥) = eqb-false y n e in omega arith

  renamed_same : (y z : ℕ) → (y ≡ x → ⊥) → (z ≡ x → ⊥) → renamed n x y ≡ renamed n x z → y ≡ z
  unfolding renamed
  renamed_same y z other-y other-z = go (eqb y n) (eqb z n) refl refl
    where
      go : (b c : Bool) → eqb y n ≡ b → eqb z n ≡ c → (if b then x else y) ≡ (if c then x else z) → y ≡ z
      go true true e f h = eqb-true y n e ∙ sym (eqb-true z n f)
      go true false e f h = absurd (other-z (sym h))
      go false true e f h = absurd (other-y h)
      go false false e f h = h

pub pigeon : (n : ℕ) (f : ℕ → ℕ) → ((i : ℕ) → i ≤ n → f i < n) → Twice n f
pigeon zero f h = absurd (omega (arith, h 0 (omega arith)))
pigeon (suc n) f h = go (any (suc n) equal) refl (pigeon n (λ i. renamed n (f (suc n)) (f i)))
  where
    equal : ℕ → Bool
    equal i = eqb (f i) (f (suc n))

    go : (b : Bool) → any (suc n) equal ≡ b
        → (((i : ℕ) → i ≤ n → renamed n (f (suc n)) (f i) < n) → Twice n (λ i. renamed n (f (suc n)) (f i)))
        → Twice (suc n) f
    go true e before =
        let r = any_passes equal (suc n) e in
        record { i = r.at; j = suc n; less = r.low; last = omega arith; same = eqb-true (f r.at) (f (suc n)) r.is }
    go false e before =
        record {
          i = r.i;
          j = r.j;
          less = r.less;
          last = omega (arith, r.last);
          same = renamed_same n (f (suc n)) (f r.i) (f r.j) (other r.i (omega (arith, r.less, r.last))) (other r.j r.last) r.same;
        }
      where
        other : (i : ℕ) → i ≤ n → f i ≡ f (suc n) → ⊥
        other i l q = any_false equal (suc n) e i (omega arith) (eq-eqb (f i) (f (suc n)) q)

        r : Twice n (λ i. renamed n (f (suc n)) (f i))
        r = before (λ i l. renamed_below n (f (suc n)) (f i) (h (suc n) (omega arith)) (h i (omega arith)) (other i l))
