-- By cases of the line, as `evaluated_on` tests it: an empty slot, an input, or a gate by `gate_on`.
use mathlib.Core.Path.{sym, ◌∙◌}
use Rattle.model.specs.Network.{input}
use Rattle.machine_slot.specs.Storing.{evaluated_on}
use Rattle.machine_slot.proofs.Fetching.{line_signal, line_codes}
use native.Mathlib.Omega.{arith}
use borrow.Author.Tests.{eq-eqb, ne_eqb}
use Rattle.machine_slot.proofs.Machine.evaluate.Goals as goal

pub returns-then-signal-eq0 : goal.returns-then-signal-eq0
unfolding evaluated_on
returns-then-signal-eq0 c = rw (← (c.from-signal.ensures ∙ c.signal_in.ensures), eq-eqb _ 0 c.if-signal-eq0.true)

pub kind-requires : goal.kind-requires
kind-requires c =
    rw (c.from-signal.ensures ∙ c.signal_in.ensures) (line_signal c.args.self.now.in_range c.requires.placed.0 c.requires.placed.1)

pub returns-then-kind-eq1 : goal.returns-then-kind-eq1
unfolding evaluated_on
returns-then-kind-eq1 c =
    rw (
      ← (c.from-signal.ensures ∙ c.signal_in.ensures),
      ne_eqb _ 0 c.if-signal-eq0.false,
      eq-eqb _ input (sym c.kind.ensures ∙ c.if-kind-eq1.true),
    ) c.hand.ensures

pub gate_on-requires-clause-line_bound : goal.gate_on-requires-clause-line_bound
gate_on-requires-clause-line_bound c =
    let machine = c.args.self.now in
    (omega (arith, machine.in_range.processors_high, c.requires.placed.0), rw c.instruction_in-line.ensures (line_signal machine.in_range c.requires.placed.0 c.requires.placed.1))

pub gate_on-requires-clause-legal : goal.gate_on-requires-clause-legal
gate_on-requires-clause-legal c =
    rw c.instruction_in-line.ensures
    (line_codes c.args.self.now.in_range c.requires.placed.0 c.requires.placed.1 (λ e. c.if-signal-eq0.false ((c.from-signal.ensures ∙ c.signal_in.ensures) ∙ e)))

pub returns : goal.returns
unfolding evaluated_on
returns c =
    let kind = rw (c.from-signal.ensures ∙ c.signal_in.ensures) at c.kind.ensures in
    rw (
      ne_eqb _ 0 (λ e. c.if-signal-eq0.false ((c.from-signal.ensures ∙ c.signal_in.ensures) ∙ e)),
      ne_eqb _ input (λ e. c.if-kind-eq1.false (kind ∙ e)),
    ) (rw c.instruction_in-line.ensures at c.gate_on.ensures)
