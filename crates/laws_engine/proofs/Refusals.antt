-- What a session over any engine refuses a call by: 41 with the signal, 42 with the value or the mask, 43 with the cycles finished. So "44
-- never comes" (01, Session).
use Prim.Native.Nat.{ℕ}
use mathlib.Core.Path.{◌≡◌, refl, sym, subst₂}
use mathlib.Core.Bool.{Bool}
use mathlib.Core.Logic.{⊎_elim}
use native.Mathlib.Omega.{arith}
use Rattle.model.specs.Refusal.{Check, pass, fail, unless}
use Rattle.model.specs.Network.{Network}
use Rattle.model.specs.Session.{Engine, Head, Call, set, watch, read, run, Lengths, call_check, running, perform, meet}
use Rattle.model.proofs.Refusals.{first_fail, unless_false}
use Rattle.laws_engine.specs.Lending.{number_of}

-- P holds of each number and returned value that a call may be refused by
abbrev pub OfRefusals : (ℕ → ℕ → Type 0) → ℕ → Call → Type 0
OfRefusals P finished (set s v) = P 41 s × P 42 v
OfRefusals P finished (watch s mask) = P 41 s × P 42 mask
OfRefusals P finished (read s) = P 41 s
OfRefusals P finished (run k) = P 43 finished

module _ (P : ℕ → ℕ → Type 0) where
  of_unless : (t : Bool) (x y : ℕ) {number returned : ℕ} → P x y → unless t x y ≡ fail number returned → P number returned
  of_unless t x y p e = let u = unless_false t x y e in subst₂ P (sym u.1) (sym u.2) p

  pub of_call : (n : Network) (finished : ℕ) (c : Call) → OfRefusals P finished c → {number returned : ℕ}
      → call_check n finished c ≡ fail number returned → P number returned
  unfolding call_check
  of_call n finished (set s v) (p, q) e = ⊎_elim (of_unless _ 41 s p) (λ r. of_unless _ 42 v q r.1) (first_fail _ _ e)
  of_call n finished (watch s mask) (p, q) e = ⊎_elim (of_unless _ 41 s p) (λ r. of_unless _ 42 mask q r.1) (first_fail _ _ e)
  of_call n finished (read s) p e = of_unless _ 41 s p e
  of_call n finished (run k) p e = of_unless _ 43 finished p e

abbrev pub Not44 : ℕ → Type 0
Not44 number = number ≡ 44 → ⊥

call_44 : (n : Network) (finished : ℕ) (c : Call) {number returned : ℕ} → call_check n finished c ≡ fail number returned → Not44 number
call_44 n finished c = of_call (λ number returned. Not44 number) n finished c (others c)
  where
    others : (c : Call) → OfRefusals (λ number returned. Not44 number) finished c
    others (set s v) = (λ e. omega arith, λ e. omega arith)
    others (watch s mask) = (λ e. omega arith, λ e. omega arith)
    others (read s) = λ e. omega arith
    others (run k) = λ e. omega arith

-- a command is not refused with 44
module _ (fixed : Lengths) (n : Network) (E : Engine) (h : Head) (x : E.State) where
  meet_44 : (c : Call) (k : Check) → call_check n h.finished c ≡ k → Not44 (number_of (meet fixed n E h x c k).answer)
  unfolding meet perform running
  meet_44 (set s v) pass e = λ q. omega arith
  meet_44 (watch s mask) pass e = λ q. omega arith
  meet_44 (read s) pass e = λ q. omega arith
  meet_44 (run k) pass e = λ q. omega arith
  meet_44 c (fail number returned) e = call_44 n h.finished c e

  pub command_44 : (c : Call) → Not44 (number_of (meet fixed n E h x c (call_check n h.finished c)).answer)
  command_44 c = meet_44 c (call_check n h.finished c) refl
