-- The invariants: the lines before line k pass, and its first fields are right. Each way out of the loops has its own answer.
use Prim.Native.Nat.{◌+◌, ◌*◌}
use mathlib.Core.Path.{◌≡◌}
use Rattle.std.specs.Prelude.{Ok}
use Rattle.fields.proofs.Lines.{FieldsRight}
use Rattle.file_mod_lines.proofs.Lines.{LinesPass}
use Rattle.file_mod_lines.proofs.check_lines.Given as goal

abbrev pub invariant-loop-column : goal.invariant-loop-column
invariant-loop-column l = (l.answer ≡ Ok tt) × FieldsRight l.modfile l.at 14 l.column (l.at + 6 * l.column)

abbrev pub invariant-lines : goal.invariant-lines
invariant-lines l = (l.answer ≡ Ok tt) × LinesPass l.signals l.modfile l.k
