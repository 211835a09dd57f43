-- The invariant: the lines before this one have no value above 3.
use mathlib.Core.Path.{refl, sym, ◌∙◌}
use Rattle.model.specs.Refusal.{first_below}
use Rattle.file_lines.proofs.Stages.{passes}
use Rattle.file_lines.proofs.Lines.{lines_go_on, lines_stop, lines_end}
use Rattle.session_answers.proofs.Calls.{exit_told}
use Rattle.charts.specs.Checks.{rows_check}
use Rattle.charts.proofs.Refusals.{row_recorded}
use Rattle.charts.proofs.Plot.check_values.Goals as goal

pub loop-line-init : goal.loop-line-init
unfolding first_below
loop-line-init c = refl

pub returns-in_err-check_recorded : goal.returns-in_err-check_recorded
unfolding rows_check
returns-in_err-check_recorded c =
    lines_stop _ _ c.loop-line.invariant _ c.loop-line-test.true (exit_told _ _ c.from_residual.ensures.1)
    (sym (c.in_err-check_recorded.ensures.refuses ∙ row_recorded _ _ c.loop-line.line _ c.row.ensures.size c.row.ensures.values))

pub loop-line-preserved : goal.loop-line-preserved
loop-line-preserved c =
    lines_go_on _ _ c.loop-line.invariant
    (sym (row_recorded _ _ c.loop-line.line _ c.row.ensures.size c.row.ensures.values) ∙ passes c.check_recorded.ensures c.in_ok-check_recorded.was)

pub returns : goal.returns
unfolding rows_check
returns c = lines_end _ _ c.loop-line.invariant _ c.loop-line.auto.line-end c.loop-line-test.false refl
