-- What the largest byte of a run tells: a test that passes of every number below one that passes, passes of the whole run exactly when it
-- passes of the largest.
use Prim.Native.Nat.{ℕ, zero, suc, ◌+◌, ◌-◌, ◌<◌, ◌≤◌, max}
use mathlib.Core.Path.{◌≡◌, refl, subst, ◌∙◌, ap}
use mathlib.Core.Bool.{Bool, true, false}
use mathlib.Core.Logic.{⊎_elim}
use mathlib.Core.List.{List}
use native.Mathlib.Omega.{arith}
use native.Mathlib.Numerals.{add-one}
use lib.Dec.{eqb, leb}
use lib.ListN.{length, get_or, take, drop}
use Rattle.std.proofs.Math.Nat.{le-max_left, le-max_right, max-eq_left, max-eq_right}
use Rattle.std.proofs.lemmas.Bool.{cases_lt}
use Rattle.std.specs.List.{fold}
use Rattle.std.proofs.lemmas.List.{get_or-drop, length-drop}
use Rattle.std.proofs.lemmas.List.Sums.{fold_more}
use borrow.Author.Tests.{leb-true, le-leb, eqb-true, eq-eqb}
use Rattle.logic.specs.Test.{◌and◌, all}
use Rattle.logic.proofs.Tests.{all_at, all_true, and_true, and_left, and_right}
use Rattle.logic.proofs.Judged.{same_test}
use Rattle.gates.specs.Translation.{is_translation}
use Rattle.buffers_runs.specs.Zeros.{zeros}
use Rattle.buffers_runs.specs.Largest.{largest_of}

-- below a number that passes every number passes
abbrev Falls : (ℕ → Bool) → Type 0
Falls test = (a b : ℕ) → a ≤ b → test b ≡ true → test a ≡ true

module _ (test : ℕ → Bool) (falls : Falls test) where
  larger_tells : (a b : ℕ) → test (max a b) ≡ test a and test b
  larger_tells a b =
      same_test (test (max a b)) (test a and test b)
      (λ e. and_true _ _ (falls a (max a b) (le-max_left a b) e) (falls b (max a b) (le-max_right a b) e))
      (λ e. ⊎_elim (λ l. rw (max-eq_right {n = a} {m = b} (omega arith)) (and_right _ _ e)) (λ l. rw (max-eq_left {n = a} {m = b} l) (and_left _ _ e)) (cases_lt a b))

  largest_tells : (bytes : List ℕ) (at n : ℕ) → test 0 ≡ true → test (largest_of bytes at n) ≡ all n (λ k. test (get_or bytes (at + k) 0))
  unfolding largest_of all
  largest_tells bytes at zero e = e
  largest_tells bytes at (suc n) e =
      larger_tells (largest_of bytes at n) (get_or bytes (at + n) 0)
      ∙ ap (λ (b : Bool). b and test (get_or bytes (at + n) 0)) (largest_tells bytes at n e)

module _ (bytes : List ℕ) (at n : ℕ) where
  pub largest_limit : (limit : ℕ) → leb (largest_of bytes at n) limit ≡ all n (λ k. leb (get_or bytes (at + k) 0) limit)
  largest_limit limit =
      largest_tells (λ x. leb x limit) (λ a b l e. let h = leb-true b limit e in le-leb a limit (omega arith)) bytes at n (le-leb 0 limit (omega arith))

  pub largest_zeros : eqb (largest_of bytes at n) 0 ≡ zeros bytes at n
  unfolding zeros
  largest_zeros =
      largest_tells (λ x. eqb x 0) (λ a b l e. let h = eqb-true b 0 e in eq-eqb a 0 (omega arith)) bytes at n refl

  pub largest_translations : is_translation (largest_of bytes at n) ≡ all n (λ k. is_translation (get_or bytes (at + k) 0))
  unfolding is_translation
  largest_translations = largest_limit 6

-- a run that is taken as a slice and folded
pub largest_folded : (bytes : List ℕ) (at n : ℕ) → at + n ≤ length bytes → fold max 0 (take n (drop at bytes)) ≡ largest_of bytes at n
unfolding largest_of
largest_folded bytes at zero h = refl
largest_folded bytes at (suc n) h =
    rw (← add-one, fold_more max 0 (drop at bytes) n 0 (omega (arith, length-drop at bytes)), get_or-drop at bytes n 0, largest_folded bytes at n (omega arith))

-- the bytes of a run of zeros, and back
module _ (bytes : List ℕ) (at n : ℕ) where
  pub zeros_byte : zeros bytes at n ≡ true → (x : ℕ) → at ≤ x → x < at + n → get_or bytes x 0 ≡ 0
  unfolding zeros
  zeros_byte h x low high =
      let e : at + (x - at) ≡ x = omega arith in
      eqb-true _ 0 (subst (λ (a : ℕ). eqb (get_or bytes a 0) 0 ≡ true) e (all_at (λ k. eqb (get_or bytes (at + k) 0) 0) n h (x - at) (omega arith)))

  pub zeros_true : ((x : ℕ) → at ≤ x → x < at + n → get_or bytes x 0 ≡ 0) → zeros bytes at n ≡ true
  unfolding zeros
  zeros_true h = all_true (λ k. eqb (get_or bytes (at + k) 0) 0) n (λ k l. eq-eqb (get_or bytes (at + k) 0) 0 (h (at + k) (omega arith) (omega arith)))

-- what `r && x` of the code answers, r being what a run of records is judged to be
module _ {r a : Bool} (b : Bool) (judged : r ≡ a) where
  pub run_passes : r ≡ true → {x : Bool} → x ≡ b → x ≡ a and b
  unfolding ◌and◌
  run_passes t e = rw (← judged, t) e

  pub run_fails : r ≡ false → r ≡ a and b
  unfolding ◌and◌
  run_fails t = rw (← judged, t)
