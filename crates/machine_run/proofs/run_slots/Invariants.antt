-- The invariant: the memory holds what the slots below i left.
use mathlib.Core.Path.{◌≡◌}
use Rattle.model.specs.Machine.{slots as slots_done}
use Rattle.buffers_memory.specs.Memory.{memory_of, with_memory, MemoryBytes}
use Rattle.buffers_tables.specs.Panel.{processors_in, slots_in}
use Rattle.machine_slot.specs.Held.{network_of, module_of, hands_of}
use Rattle.machine_run.proofs.run_slots.Given as goal

abbrev pub invariant-loop-i : goal.invariant-loop-i
invariant-loop-i l =
    MemoryBytes l.memory
    × (l.memory ≡ with_memory (processors_in l.machine.panel.now) (slots_in l.machine.panel.now) (slots_done (network_of l.machine) (module_of l.machine) (hands_of l.machine) l.i (memory_of l.initial.memory)) l.initial.memory)
