-- The invariant: the memory holds what the cycles done left, and none of them showed a watched value.
use mathlib.Core.Path.{◌≡◌}
use Rattle.model.specs.Session.{ticks, watched}
use Rattle.buffers_memory.specs.Memory.{memory_of, with_memory, MemoryBytes}
use Rattle.buffers_tables.specs.Panel.{processors_in, slots_in}
use Rattle.machine_run.specs.Running.{cycle_in, value_in}
use Rattle.machine_run.proofs.Cycles.{QuietTo}
use Rattle.machine_run.proofs.run.Given as goal

abbrev pub invariant-loop-before : goal.invariant-loop-before
invariant-loop-before l =
    MemoryBytes l.memory
    × (l.memory ≡ with_memory (processors_in l.machine.panel.now) (slots_in l.machine.panel.now) (ticks (cycle_in l.machine.panel.now l.machine.program.now) l.before (memory_of l.initial.memory)) l.initial.memory)
    × QuietTo (cycle_in l.machine.panel.now l.machine.program.now) (λ w. watched l.watch.mask (value_in l.machine.panel.now w l.watch.signal)) (memory_of l.initial.memory) l.before
