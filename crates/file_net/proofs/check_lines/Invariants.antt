-- The invariants: the lines of the signals before this one pass, and the first fields of its line are right. Each way out of the loops has its own answer.
use Rattle.std.proofs.Common.{◌≡◌, ◌+◌, ◌-◌, ◌*◌, ◌≤◌, Ok}
use Rattle.fields.proofs.Lines.{FieldsRight}
use Rattle.model.specs.Refusal.{pass, first_below}
use Rattle.file_net.proofs.Lines.{signals}
use Rattle.file_net.proofs.check_lines.Given as goal

abbrev pub invariant-loop-column : goal.invariant-loop-column
invariant-loop-column l = (l.answer ≡ l.initial.answer) × FieldsRight l.net l.at 12 l.column (l.at + 6 * l.column)

abbrev pub invariant-lines : goal.invariant-lines
invariant-lines l = (l.answer ≡ Ok tt) × (l.signal ≤ l.size + 1) × (first_below (l.signal - 1) (signals l.net) ≡ pass)
