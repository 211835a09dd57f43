-- The invariant: the values before this one are legal.
use mathlib.Core.Path.{refl}
use Rattle.model.specs.Refusal.{first_below}
use Rattle.file_lines.proofs.Lines.{lines_go_on, lines_stop, lines_end}
use Rattle.session_answers.specs.Recorded.{recorded_checks}
use Rattle.session_answers.proofs.Recorded.{recorded_above, recorded_pass}
use Rattle.session_answers.proofs.check_recorded.Goals as goal

pub loop-value-init : goal.loop-value-init
unfolding first_below
loop-value-init c = refl

pub returns-then-value-gt3 : goal.returns-then-value-gt3
unfolding recorded_checks
returns-then-value-gt3 c =
    lines_stop _ _ c.loop-value.invariant _ c.loop-value-test.true refl (recorded_above _ c.if-value-gt3.true)

pub loop-value-preserved : goal.loop-value-preserved
loop-value-preserved c = lines_go_on _ _ c.loop-value.invariant (recorded_pass _ c.if-value-gt3.false)

pub returns : goal.returns
unfolding recorded_checks
returns c = lines_end _ _ c.loop-value.invariant _ c.loop-value.auto.value-index-end c.loop-value-test.false refl
