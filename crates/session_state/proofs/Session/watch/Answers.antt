-- `watch`: 41, 42 and the watch, each as the model has it.
use mathlib.Core.Path.{refl, sym}
use Rattle.session_state.specs.Carried.{head_of}
use Rattle.logic.proofs.Judged.{passes}
use Rattle.session_state.proofs.Commands.{signal_high, watch_41, watch_42, watch_done, tells}
use Rattle.buffers_tables.proofs.Hands.{hands_own}
use native.Mathlib.Omega.{arith}
use mathlib.Core.Path.{ap}
use mathlib.Core.Bool.{not}
use Rattle.session_state.proofs.Session.watch.Goals as goal

pub returns-then-not-is_signal : goal.returns-then-not-is_signal
returns-then-not-is_signal c =
    λ program memory. rw c.refused.ensures (watch_41 c.args.panel.now program memory (head_of c.args.self c.args.panel.now) c.args.signal c.args.mask _ c.is_signal.ensures (ap not c.if-not-is_signal.true) _ refl refl refl (sym (hands_own _ c.told-panel)))

pub returns-then-mask-gt15 : goal.returns-then-mask-gt15
returns-then-mask-gt15 c =
    λ program memory. rw c.refused-then-mask-gt15.ensures (watch_42 c.args.panel.now program memory (head_of c.args.self c.args.panel.now) c.args.signal c.args.mask _ c.is_signal.ensures (ap not c.if-not-is_signal.false) c.if-mask-gt15.true _ refl refl refl (sym (hands_own _ c.told-panel)))

pub overflow_cast-result : goal.overflow_cast-result
overflow_cast-result c =
    let l = signal_high c.args.panel.now c.args.signal (passes _ _ c.is_signal.ensures (ap not c.if-not-is_signal.false)) in
    omega arith

pub returns : goal.returns
returns c =
    λ program memory.
    tells _ _ _ _ _
    (watch_done c.args.panel.now program memory (head_of c.args.self c.args.panel.now) c.args.signal c.args.mask (passes _ _ c.is_signal.ensures (ap not c.if-not-is_signal.false)) c.if-mask-gt15.false)
    refl refl refl (sym (hands_own _ c.told-panel))
