-- A stage that accepts leaves the check to the next (`stage_passed`), with what that requires; the first that refuses answers for all.
use Rattle.std.proofs.Common.{refl}
use Rattle.file_lines.proofs.Stages.{same, stage_passed, stage_refused, last_refused, last_passed}
use Rattle.file_mod_lines.proofs.Accepted.{shape_sized}
use Rattle.file_mod_lines.proofs.check_form.Goals as goal

pub returns-in_err-shape : goal.returns-in_err-shape
returns-in_err-shape c n e = stage_refused _ _ c.in_err-shape.ensures c.from_residual.ensures.1

pub check_lines-requires : goal.check_lines-requires
check_lines-requires c = shape_sized c.in_ok-shape.ensures

pub returns-in_err-check_lines : goal.returns-in_err-check_lines
returns-in_err-check_lines c n e =
    stage_passed _ _ c.in_ok-shape.ensures
    (stage_refused _ _ (c.in_err-check_lines.ensures n e) c.from_residual-in_err-check_lines.ensures.1)

pub check_surplus-requires : goal.check_surplus-requires
check_surplus-requires c = shape_sized c.in_ok-shape.ensures

pub returns-in_err-check_surplus : goal.returns-in_err-check_surplus
returns-in_err-check_surplus c n e =
    stage_passed _ _ c.in_ok-shape.ensures
    (stage_passed _ _ (c.in_ok-check_lines.ensures n e)
    (last_refused _ c.in_err-check_surplus.ensures c.from_residual-in_err-check_surplus.ensures.1))

pub returns : goal.returns
returns c n e =
    stage_passed _ _ c.in_ok-shape.ensures
    (stage_passed _ _ (c.in_ok-check_lines.ensures n e) (last_passed c.in_ok-check_surplus.ensures (same c.in_ok-shape.ensures refl)))
