-- Counted faults: there is none of a pair exactly when it is in range, and none of several exactly when there is none of each.
use Prim.Native.Nat.{ℕ, ◌+◌, ◌-◌, ◌*◌, ◌<◌, ◌≤◌}
use mathlib.Core.Path.{◌≡◌, refl, sym}
use mathlib.Core.Bool.{Bool, true, false}
use native.Mathlib.Omega.{arith}
use lib.Dec.{eqb, leb, ltb}
use borrow.Author.Tests.{eqb-true, eqb-false, leb-true, leb-false, eq-eqb, ne_eqb, lt-ltb, le-ltb, le-leb, lt-leb}
use Rattle.logic.specs.Test.{◌and◌, one}
use Rattle.logic.proofs.Tests.{and_true, and_left, and_right}
use Rattle.std.specs.Prelude.{if◌then◌else◌}
use Rattle.buffers_range_program.specs.Order.{pair_ranged}
use Rattle.logic.proofs.Judged.{same_test}

module _ (slots most part k : ℕ) (parts : most < 9) where
  -- a pair that is none has a part above most
  pub none_fault : one (eqb (part + 256 * k) 9) ≤ one (leb (most + 1) part)
  none_fault = go (eqb (part + 256 * k) 9) refl
    where
      go : (b : Bool) → eqb (part + 256 * k) 9 ≡ b → one b ≤ one (leb (most + 1) part)
      go true e = let q = eqb-true (part + 256 * k) 9 e in rw (le-leb (most + 1) part (omega arith)) (omega arith)
      go false e = omega arith

  pub pair_fault : eqb (one (leb (most + 1) part) + one (leb slots k) - one (eqb (part + 256 * k) 9)) 0 ≡ pair_ranged slots most part k
  unfolding pair_ranged ◌and◌
  pair_fault = go (eqb (part + 256 * k) 9) refl (leb (most + 1) part) refl (leb slots k) refl
    where
      go : (n : Bool) → eqb (part + 256 * k) 9 ≡ n → (p : Bool) → leb (most + 1) part ≡ p → (l : Bool) → leb slots k ≡ l
          → eqb (one p + one l - one n) 0 ≡ ltb k slots and (if eqb part 9 then eqb k 0 else leb part most)
      go true e p f true g =
          let q = eqb-true (part + 256 * k) 9 e in
          let t : leb (most + 1) part ≡ true = le-leb (most + 1) part (omega arith) in
          rw (← f, t, le-ltb k slots (leb-true slots k g))
      go true e p f false g =
          let q = eqb-true (part + 256 * k) 9 e in
          let t : leb (most + 1) part ≡ true = le-leb (most + 1) part (omega arith) in
          rw (← f, t, lt-ltb k slots (leb-false slots k g), eq-eqb part 9 (omega arith), eq-eqb k 0 (omega arith))
      go false e p f true g = rw (le-ltb k slots (leb-true slots k g)) (go2 p)
        where
          go2 : (p : Bool) → eqb (one p + 1 - 0) 0 ≡ false
          go2 true = refl
          go2 false = refl
      go false e true f false g =
          rw (lt-ltb k slots (leb-false slots k g)) (rest (eqb part 9) refl)
        where
          rest : (b : Bool) → eqb part 9 ≡ b → false ≡ (if b then eqb k 0 else leb part most)
          rest true q = sym (ne_eqb k 0 (λ (z : k ≡ 0). eqb-false (part + 256 * k) 9 e (let x = eqb-true part 9 q in omega arith)))
          rest false q = sym (lt-leb part most (let h = leb-true (most + 1) part f in omega arith))
      go false e false f false g =
          let h = leb-false (most + 1) part f in
          rw (lt-ltb k slots (leb-false slots k g), ne_eqb part 9 (λ (x : part ≡ 9). omega arith), le-leb part most (omega arith))

-- two and four counts
pub both_none : (a b : ℕ) (p q : Bool) → eqb a 0 ≡ p → eqb b 0 ≡ q → eqb (a + b) 0 ≡ p and q
both_none a b p q e f =
    rw (← e, ← f)
    (same_test (eqb (a + b) 0) (eqb a 0 and eqb b 0)
    (λ h. let z = eqb-true (a + b) 0 h in and_true _ _ (eq-eqb a 0 (omega arith)) (eq-eqb b 0 (omega arith)))
    (λ h. let x = eqb-true a 0 (and_left _ _ h) in let y = eqb-true b 0 (and_right _ _ h) in eq-eqb (a + b) 0 (omega arith)))

pub four_none : (a b c d : ℕ) (p q r s : Bool) → eqb a 0 ≡ p → eqb b 0 ≡ q → eqb c 0 ≡ r → eqb d 0 ≡ s
    → eqb (a + b + c + d) 0 ≡ p and q and r and s
four_none a b c d p q r s e f g h =
    let l : a + b + c + d ≡ a + (b + (c + d)) = omega arith in
    rw l (both_none a (b + (c + d)) p (q and r and s) e (both_none b (c + d) q (r and s) f (both_none c d r s g h)))
