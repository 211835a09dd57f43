-- The invariant: the locations of the processors below p hold the other half.
use mathlib.Core.Path.{◌≡◌}
use Rattle.model.specs.Machine.{alternate as alternated}
use Rattle.buffers_memory.specs.Memory.{memory_of, with_memory}
use Rattle.buffers_memory.proofs.alternate.Given as goal

abbrev pub invariant-loop-p : goal.invariant-loop-p
invariant-loop-p l = l.memory ≡ with_memory l.p l.slots (alternated (memory_of l.initial.memory)) l.initial.memory
