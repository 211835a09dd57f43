-- What `(0..n).all(..)` answers, where the closure computes a test of each number: `all n` of the test.
use Prim.Native.Nat.{ℕ, zero, suc, ◌+◌}
use mathlib.Core.Path.{◌≡◌, refl, sym, ap, ◌∙◌}
use mathlib.Core.Bool.{Bool, true, false, ◌&&◌, true≢false}
use mathlib.Core.List.{List}
use native.Mathlib.Omega.{arith}
use denote.Param.Members.{Mut}
use Rattle.std.specs.Prelude.{Option}
use Rattle.std.specs.Fn.{Called}
use Rattle.std.specs.Iterator.{YieldsThen}
use Rattle.std.specs.List.{FoldsTo, list_all, range_with_len}
use Rattle.std.specs.Option.{MatchOption}
use Rattle.std.specs.declared.ops.Range.{Range}
use Rattle.std.proofs.iter.Yields.{nat_range_steps}
use Rattle.std.proofs.lemmas.Iterator.{YieldsList-from_range}
use Rattle.std.proofs.lemmas.Iterator.Search.{all_from_yields_List}
use Rattle.logic.specs.Test.{◌and◌, all}
use Rattle.logic.proofs.Judged.{and_assoc}
use Rattle.logic.proofs.Tests.{all_same}

-- the first test taken out in front
all_front : (p : ℕ → Bool) (n : ℕ) → all (suc n) p ≡ p 0 and all n (λ k. p (suc k))
unfolding all ◌and◌
all_front p zero = go (p 0)
  where
    go : (b : Bool) → true and b ≡ b and true
    go true = refl
    go false = refl
all_front p (suc n) = ap (λ (b : Bool). b and p (suc n)) (all_front p n) ∙ and_assoc (p 0) (all n (λ k. p (suc k))) (p (suc n))

-- the tests of the numbers from a on, the first first, or the last first
pub by_first : (p : ℕ → Bool) (n a : ℕ) → list_all p (range_with_len a n) ≡ all n (λ k. p (a + k))
unfolding all ◌and◌
by_first p zero a = refl
by_first p (suc n) a =
    let rest : all n (λ k. p (a + 1 + k)) ≡ all n (λ k. p (a + suc k)) =
    all_same (λ k. p (a + 1 + k)) (λ k. p (a + suc k)) n (λ k low. let e : a + 1 + k ≡ a + suc k = omega arith in ap p e) in
    let here : a ≡ a + 0 = omega arith in
    go (p a) (p (a + 0)) (ap p here) (by_first p n (a + 1) ∙ rest) ∙ sym (all_front (λ k. p (a + k)) n)
  where
    go : (b c : Bool) {x y : Bool} → b ≡ c → x ≡ y → b && x ≡ c and y
    go true true same e = e
    go false false same e = refl
    go true false same e = absurd (true≢false same)
    go false true same e = absurd (true≢false (sym same))

by_last : (p : ℕ → Bool) (n : ℕ) → list_all p (range_with_len 0 n) ≡ all n p
by_last p n = by_first p n 0 ∙ all_same (λ k. p (0 + k)) p n (λ k low. let e : 0 + k ≡ k = omega arith in ap p e)

-- by what the call says that ran, and by what each call of the closure answers
pub all_in_range : {F : Type 0} {g : Mut F (ℕ × Unit {0}) Bool} {f : F} {u : Range ℕ} {r : Bool} (test : ℕ → Bool) (n : ℕ)
    → (xs : List ℕ) × (o : Option ℕ) × (j : F) × YieldsThen nat_range_steps (record { start = 0; end = n }) xs o u
    × FoldsTo (λ p x q. Called g p (x, tt) true q) f xs j
    × MatchOption o (r ≡ true) (λ x. (r ≡ false) × ((h : F) × Called g j (x, tt) false h))
    → ((x : ℕ) (b : Bool) (q : F) → Called g f (x, tt) b q → (q ≡ f) × (b ≡ test x))
    → r ≡ all n test
all_in_range {f = f} {u = u} {r = r} test n ran calls =
    all_from_yields_List test u f r ran (YieldsList-from_range 0 n n refl (omega arith)) calls ∙ by_last test n
