-- The invariant: location i of the processors below p holds what they stored.
use mathlib.Core.Path.{◌≡◌}
use Rattle.buffers_memory.specs.Memory.{memory_of, written}
use Rattle.machine_slot.specs.Held.{module_of}
use Rattle.machine_slot.specs.Storing.{storing, passed}
use Rattle.machine_slot.proofs.Machine.store_all.Given as goal

abbrev pub invariant-loop-p : goal.invariant-loop-p
invariant-loop-p l =
    l.memory ≡ written (passed l.p l.slot.0) (storing (module_of l.self) l.slot.0 l.results l.sent (memory_of l.initial.memory)) l.initial.memory
