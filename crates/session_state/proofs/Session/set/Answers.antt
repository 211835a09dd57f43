-- `set`: 41, 42 and the setting, each as the model has it.
use mathlib.Core.Path.{◌≡◌, refl, sym, ◌∙◌}
use Rattle.session_state.specs.Carried.{head_of}
use Rattle.logic.proofs.Judged.{passes}
use Rattle.session_state.proofs.Commands.{signal_low, signal_high, input_signal, set_41, set_42, set_done, tells}
use Rattle.buffers_tables.proofs.Hands.{hands_own, hands_replaced}
use native.Mathlib.Omega.{arith}
use mathlib.Core.Path.{ap}
use mathlib.Core.Bool.{true, not}
use Rattle.session_state.proofs.Session.set.Goals as goal

pub returns-then-not-is_input : goal.returns-then-not-is_input
returns-then-not-is_input c =
    λ program memory. rw c.refused.ensures (set_41 c.args.panel.now program memory (head_of c.args.self c.args.panel.now) c.args.input c.args.value _ c.is_input.ensures (ap not c.if-not-is_input.true) _ refl refl refl (sym (hands_own _ c.told-panel)))

pub returns-then-value-gt3 : goal.returns-then-value-gt3
returns-then-value-gt3 c =
    let there : c.is_input.result ≡ true = cc in
    λ program memory. rw c.refused-then-value-gt3.ensures (set_42 c.args.panel.now program memory (head_of c.args.self c.args.panel.now) c.args.input c.args.value _ c.is_input.ensures (ap not there) c.if-value-gt3.true _ refl refl refl (sym (hands_own _ c.told-panel)))

pub set_hand-requires : goal.set_hand-requires
set_hand-requires c =
    (omega (arith, c.requires, signal_high c.args.panel.now c.args.input (input_signal c.args.panel.now c.args.input (passes _ _ c.is_input.ensures (ap not c.if-not-is_input.false)))))

pub returns : goal.returns
returns c =
    let there = passes _ _ c.is_input.ensures (ap not c.if-not-is_input.false) in
    let known = input_signal c.args.panel.now c.args.input there in
    λ program memory.
    tells _ _ _ _ _
    (set_done c.args.panel.now program memory (head_of c.args.self c.args.panel.now) c.args.input c.args.value there c.if-value-gt3.false)
    refl refl refl
    (c.set_hand.ensures ∙ hands_replaced c.args.panel.now c.told-panel c.args.input c.args.value (signal_low c.args.panel.now c.args.input known) (omega (arith, c.requires, signal_high c.args.panel.now c.args.input known)))
