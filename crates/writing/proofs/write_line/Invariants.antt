-- The invariant: the fields of the first k numbers are written.
use Rattle.std.proofs.Common.{◌≡◌}
use Rattle.writing.proofs.Writing.{fields}
use Rattle.writing.proofs.write_line.Given as goal

abbrev pub invariant-loop-k : goal.invariant-loop-k
invariant-loop-k l = l.out ≡ fields l.initial.out l.numbers l.at l.k
