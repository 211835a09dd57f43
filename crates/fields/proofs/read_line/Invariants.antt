-- The invariant: the fields so far are right, and `place` is where the next begins (`FieldsRight`).
use Rattle.fields.proofs.Lines.{FieldsRight}
use Rattle.fields.proofs.read_line.Given as goal

abbrev pub invariant-loop : goal.invariant-loop
invariant-loop l = FieldsRight l.s l.at l.count l.counter l.place
