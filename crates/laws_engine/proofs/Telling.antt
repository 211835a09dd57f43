-- What a session over any engine answers has its bits: numbers that have 32 bits are handed back, a value that is read is at most 3, and
-- the cycles finished are at most 65535, before every call and after it.
use Prim.Native.Nat.{ℕ, ◌+◌, ◌<◌, ◌≤◌}
use mathlib.Core.Path.{◌≡◌, refl}
use native.Mathlib.Omega.{arith}
use borrow.Author.Tests.{leb-true}
use Rattle.model.specs.Refusal.{Check, pass, fail}
use Rattle.model.specs.Network.{Network, Signal}
use Rattle.model.specs.Session.{Engine, watched, Head, Call, set, watch, read, run, Lengths, call_check, running, perform, meet}
use Rattle.model.proofs.Refusals.{unless_true}
use Rattle.model.proofs.Chains.{signal_true}
use Rattle.model.proofs.Runs.{runs_exact}
use Rattle.session_answers.proofs.Bits.{AnswerOf, refusal, nothing, read_value, cycles}
use Rattle.laws_engine.specs.Lending.{kind_of, Has32}
use Rattle.laws_engine.proofs.Networks.{command}
use Rattle.laws_engine.proofs.Refusals.{OfRefusals, of_call}

-- a refusal's numbers have their bits
abbrev Fit : ℕ → ℕ → Type 0
Fit number returned = (1 ≤ number) × (number < 256) × (returned < 4294967296)

call_fit : (finished : ℕ) → finished ≤ 65535 → (c : Call) → Has32 c → OfRefusals Fit finished c
call_fit finished few (set s v) (a, b) = ((omega arith, omega arith, a), (omega arith, omega arith, b))
call_fit finished few (watch s mask) (a, b) = ((omega arith, omega arith, a), (omega arith, omega arith, b))
call_fit finished few (read s) a = (omega arith, omega arith, a)
call_fit finished few (run k) a = (omega arith, omega arith, omega arith)

module _ (fixed : Lengths) (n : Network) (E : Engine) (h : Head) (x : E.State) (few : h.finished ≤ 65535) where
  -- a run is within the cycles that there are
  run_few : (k : ℕ) → call_check n h.finished (run k) ≡ pass → h.finished + (running fixed n E h k x).count ≤ 65535
  unfolding call_check running
  run_few k e =
      let most = (runs_exact (E.tick h.hand) (λ y. watched h.watch.mask (E.value y h.watch.signal)) k x).most in
      omega (arith, most, leb-true (h.finished + k) 65535 (unless_true _ 43 h.finished e))

  read_signal : (s : ℕ) → call_check n h.finished (read s) ≡ pass → Signal n s
  unfolding call_check
  read_signal s e = signal_true n s (unless_true _ 41 s e)

  performed_few : (c : Call) → call_check n h.finished c ≡ pass → (perform fixed n E h x c).head.finished ≤ 65535
  unfolding perform
  performed_few (set s v) e = few
  performed_few (watch s mask) e = few
  performed_few (read s) e = few
  performed_few (run k) e = run_few k e

  met_few : (c : Call) (k : Check) → call_check n h.finished c ≡ k → (meet fixed n E h x c k).head.finished ≤ 65535
  unfolding meet
  met_few c pass e = performed_few c e
  met_few c (fail number returned) e = few

  pub command_few : (c : Call) → (command fixed n E h x c).head.finished ≤ 65535
  command_few c = met_few c (call_check n h.finished c) refl

  module _ (low : (s : ℕ) → Signal n s → E.value x s ≤ 3) where
    performed_of : (c : Call) → call_check n h.finished c ≡ pass → AnswerOf (kind_of c) (perform fixed n E h x c).answer
    unfolding perform
    performed_of (set s v) e = nothing
    performed_of (watch s mask) e = nothing
    performed_of (read s) e = read_value {v = E.value x s} (omega (arith, low s (read_signal s e)))
    performed_of (run k) e = cycles {count = (running fixed n E h k x).count} (omega (arith, run_few k e))

    met_of : (c : Call) (k : Check) → Has32 c → call_check n h.finished c ≡ k → AnswerOf (kind_of c) (meet fixed n E h x c k).answer
    unfolding meet
    met_of c pass numbers e = performed_of c e
    met_of c (fail number returned) numbers e =
        let fit = of_call Fit n h.finished c (call_fit h.finished few c numbers) e in refusal fit.0 fit.1 fit.2

    pub command_of : (c : Call) → Has32 c → AnswerOf (kind_of c) (command fixed n E h x c).answer
    command_of c numbers = met_of c (call_check n h.finished c) numbers refl
