-- The invariant: the locations below k hold the other half.
use mathlib.Core.Path.{◌≡◌}
use Rattle.model.specs.Machine.{alternate}
use Rattle.buffers_memory.specs.Memory.{memory_of, written, below}
use Rattle.buffers_memory.proofs.alternate_one.Given as goal

abbrev pub invariant-loop-k : goal.invariant-loop-k
invariant-loop-k l = l.memory ≡ written (below l.processor l.k) (alternate (memory_of l.initial.memory)) l.initial.memory
