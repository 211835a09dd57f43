-- The counts from 1 to 64 are right.
use Rattle.std.proofs.Common.{rules, refl}
use Rattle.logic.proofs.Judged.{connected}
use Rattle.model.proofs.Refusals.{unless_pass}
use Rattle.file_lines.proofs.Lines.{test_fails}
use Rattle.file_lines.proofs.Stages.{refused, accepted}
use Rattle.traces.specs.Checks.{count_right, count_check}
use Rattle.traces.proofs.cycles_of.Goals as goal

pub returns-then-not-contains-clause-answers : goal.returns-then-not-contains-clause-answers
unfolding count_check count_right
returns-then-not-contains-clause-answers c = refused refl (test_fails _ 52 0 (search (rules, connected)))

pub returns-clause-answers : goal.returns-clause-answers
unfolding count_check count_right
returns-clause-answers c = accepted refl (unless_pass _ 52 0 (search (rules, connected)))
