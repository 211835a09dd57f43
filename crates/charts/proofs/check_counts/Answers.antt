-- A count or a last cycle that no page has is the refusal; with none the check passes.
use Rattle.std.proofs.Common.{rules, refl}
use Rattle.logic.proofs.Judged.{connected}
use Rattle.model.proofs.Refusals.{unless_pass}
use Rattle.file_lines.proofs.Lines.{test_fails}
use Rattle.file_lines.proofs.Stages.{refused, accepted}
use Rattle.charts.specs.Checks.{on_page, counts_check}
use Rattle.charts.proofs.check_counts.Goals as goal

pub returns-then-not-contains : goal.returns-then-not-contains
unfolding counts_check on_page
returns-then-not-contains c = refused refl (test_fails _ 46 0 (search (rules, connected)))

pub returns-then-not-contains-2 : goal.returns-then-not-contains-2
unfolding counts_check on_page
returns-then-not-contains-2 c = refused refl (test_fails _ 46 0 (search (rules, connected)))

pub returns-then-cycles-first : goal.returns-then-cycles-first
unfolding counts_check on_page
returns-then-cycles-first c = refused refl (test_fails _ 46 0 (search (rules, connected)))

pub returns : goal.returns
unfolding counts_check on_page
returns c = accepted refl (unless_pass _ 46 0 (search (rules, connected)))
