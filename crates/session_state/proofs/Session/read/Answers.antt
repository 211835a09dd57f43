-- `read`: 41, or the value at the signal's place.
use mathlib.Core.Path.{refl, sym, ap}
use Prim.Native.Nat.{ℕ}
use Rattle.model.specs.Session.{value}
use Rattle.session_state.specs.Carried.{head_of}
use Rattle.logic.proofs.Judged.{fails, passes}
use Rattle.session_state.proofs.Commands.{signal_low, signal_high, read_no_signal, read_done, tells}
use Rattle.buffers_tables.proofs.Hands.{hands_own}
use native.Mathlib.Omega.{arith}
use mathlib.Core.Bool.{not}
use Rattle.session_state.proofs.Session.read.Goals as goal

pub returns-then-not-is_signal : goal.returns-then-not-is_signal
returns-then-not-is_signal c =
    λ program.
    rw c.refused.ensures
    (tells _ _ _ _ _
    (read_no_signal c.args.readable.now.panel.now program c.args.readable.now.memory.now (head_of c.args.self c.args.readable.now.panel.now) c.args.signal (fails _ _ c.is_signal.ensures (ap not c.if-not-is_signal.true)))
    refl refl refl (sym (hands_own _ c.args.readable.now.panel_size)))

pub overflow_cast-signal : goal.overflow_cast-signal
overflow_cast-signal c =
    let l = signal_high c.args.readable.now.panel.now c.args.signal (passes _ _ c.is_signal.ensures (ap not c.if-not-is_signal.false)) in
    omega (arith, c.args.readable.now.signals_high)

pub value_of-value-requires : goal.value_of-value-requires
value_of-value-requires c =
    let there = passes _ _ c.is_signal.ensures (ap not c.if-not-is_signal.false) in
    (signal_low c.args.readable.now.panel.now c.args.signal there, signal_high c.args.readable.now.panel.now c.args.signal there)

pub returns : goal.returns
returns c =
    λ program.
    tells _ _ _ _ _
    (read_done c.args.readable.now.panel.now program c.args.readable.now.memory.now (head_of c.args.self c.args.readable.now.panel.now) c.args.signal (passes _ _ c.is_signal.ensures (ap not c.if-not-is_signal.false)))
    (ap (λ (x : ℕ). value x) c.value_of-value.ensures.0) refl refl (sym (hands_own _ c.args.readable.now.panel_size))
