-- All slots and then the change of the halves, on the bytes, are the model's cycle (`cycle_done`).
use mathlib.Core.Path.{◌∙◌}
use Rattle.machine_run.proofs.Tables.{cycle_done}
use Rattle.machine_run.proofs.run_cycle.Goals as goal

pub returns : goal.returns
returns c =
    let machine = c.args.machine.now in
    cycle_done machine.in_range c.args.memory.now machine.processors_value (c.from.ensures ∙ machine.slots_value) c.run_slots.ensures c.alternate.ensures
