-- The invariant: the bytes read so far stand within the buffer, which keeps its length.
use Rattle.std.proofs.Common.{length, ◌-◌, ◌≤◌}
use Rattle.file_reading.proofs.read_whole.Given as goal

abbrev pub invariant-loop-done : goal.invariant-loop-done
invariant-loop-done l = l.done ≤ length l.bytes

abbrev pub decreases-loop-done : goal.decreases-loop-done
decreases-loop-done l = length l.initial.bytes - l.done
