-- Laws of the tests of `specs/Test.antt`.
use Prim.Native.Nat.{ℕ, zero, suc, ◌+◌, ◌<◌, ◌≤◌}
use mathlib.Core.Path.{◌≡◌, refl, sym, subst, ◌∙◌}
use mathlib.Core.Bool.{Bool, true, false, true≢false}
use mathlib.Core.Logic.{◌⊎◌, inl, inr}
use mathlib.Core.List.{List, [], ◌∷◌}
use native.Mathlib.Omega.{arith}
use native.Mathlib.Numerals.{add-one}
use lib.Dec.{eqb}
use lib.ListN.{length}
use borrow.Author.Tests.{eqb-true, eqb-false, eq-eqb, ne_eqb, lt-ltb, le-ltb, le-leb, lt-leb}
use Rattle.logic.specs.Test.{◌and◌, ◌or◌, all, one, count}

-- a test's value from the fact that a branch leaves
pub ruleset decided = (eq-eqb, ne_eqb, lt-ltb, le-ltb, le-leb, lt-leb)

pub and_true : (a b : Bool) → a ≡ true → b ≡ true → a and b ≡ true
unfolding ◌and◌
and_true a b p q = rw p q

pub and_left : (a b : Bool) → a and b ≡ true → a ≡ true
unfolding ◌and◌
and_left true b p = refl
and_left false b p = p

pub and_right : (a b : Bool) → a and b ≡ true → b ≡ true
unfolding ◌and◌
and_right true b p = p
and_right false true p = refl
and_right false false p = p

pub or_cases : (a b : Bool) → a or b ≡ true → (a ≡ true) ⊎ (b ≡ true)
unfolding ◌or◌
or_cases true b e = inl refl
or_cases false b e = inr e

pub or_left : (a b : Bool) → a ≡ true → a or b ≡ true
unfolding ◌or◌
or_left a b e = rw e

pub or_right : (a b : Bool) → b ≡ true → a or b ≡ true
unfolding ◌or◌
or_right true b e = refl
or_right false b e = e

-- the second passes where the first does not
pub or_otherwise : (a b : Bool) → a or b ≡ true → (a ≡ true → ⊥) → b ≡ true
unfolding ◌or◌
or_otherwise true b p d = absurd (d refl)
or_otherwise false b p d = p

module _ {A : Type 0} (p : A → Bool) where
  pub count_length : (xs : List A) → count p xs ≤ length xs
  unfolding count
  count_length [] = omega arith
  count_length (x ∷ xs) = go (p x) (count_length xs)
    where
      go : (b : Bool) → count p xs ≤ length xs → one b + count p xs ≤ suc (length xs)
      go true h = omega arith
      go false h = omega arith

module _ (p : ℕ → Bool) where
  -- one number more
  pub all_more : (n : ℕ) → all n p ≡ true → p n ≡ true → all (n + 1) p ≡ true
  unfolding all
  all_more n h k = rw add-one (and_true (all n p) (p n) h k)

  -- the test at each number below n, and back
  pub all_at : (n : ℕ) → all n p ≡ true → (k : ℕ) → k < n → p k ≡ true
  unfolding all
  all_at zero h k l = absurd (omega arith)
  all_at (suc n) h k l =
      go (all_at n (and_left (all n p) (p n) h)) (and_right (all n p) (p n) h) (eqb k n) refl
    where
      go : ((k : ℕ) → k < n → p k ≡ true) → p n ≡ true → (b : Bool) → eqb k n ≡ b → p k ≡ true
      go below here true e = subst (λ (m : ℕ). p m ≡ true) (sym (eqb-true k n e)) here
      go below here false e = let ne = eqb-false k n e in below k (under ne)
        where
          under : (k ≡ n → ⊥) → k < n
          under ne = omega arith

  pub all_true : (n : ℕ) → ((k : ℕ) → k < n → p k ≡ true) → all n p ≡ true
  unfolding all
  all_true zero h = refl
  all_true (suc n) h = and_true (all n p) (p n) (all_true n (λ k l. h k (omega arith))) (h n (omega arith))

  -- where the test fails at one, it fails at all
  pub all_fails : (n k : ℕ) → k < n → p k ≡ false → all n p ≡ false
  all_fails n k l e = go (all n p) refl
    where
      go : (b : Bool) → all n p ≡ b → b ≡ false
      go false q = refl
      go true q = absurd (true≢false (sym (all_at n q k l) ∙ e))

  -- a count that has come to its end
  pub all_ends : (n k : ℕ) → k ≤ n → n ≤ k → all k p ≡ true → all n p ≡ true
  all_ends n k low high h = let e : k ≡ n = omega arith in subst (λ (m : ℕ). all m p ≡ true) e h

-- tests that agree below n
pub all_same : (p q : ℕ → Bool) (n : ℕ) → ((k : ℕ) → k < n → p k ≡ q k) → all n p ≡ all n q
unfolding all
all_same p q zero h = refl
all_same p q (suc n) h = rw (all_same p q n (λ k l. h k (omega arith)), h n (omega arith))

-- four tests, the first first
pub all_four : (p : ℕ → Bool) → all 4 p ≡ p 0 and p 1 and p 2 and p 3
unfolding all ◌and◌
all_four p = go (p 0) (p 1) (p 2) (p 3)
  where
    go : (a b c d : Bool) → ((a and b) and c) and d ≡ a and b and c and d
    go true true c d = refl
    go true false c d = refl
    go false b c d = refl
