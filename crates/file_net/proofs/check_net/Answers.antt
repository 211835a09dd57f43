-- A stage that accepts leaves the check to the next (`stage_passed`), with what that requires; the first that refuses answers for all.
use Rattle.model.specs.Netlist.{net_check}
use Rattle.std.proofs.Common.{refl}
use Rattle.file_lines.proofs.Stages.{same, stage_passed, stage_refused, last_refused, last_passed}
use Rattle.file_net.proofs.Accepted.{size_read, lines_read}
use Rattle.file_net.proofs.check_net.Goals as goal

pub returns-in_err-size : goal.returns-in_err-size
unfolding net_check
returns-in_err-size c = stage_refused _ _ c.in_err-size.ensures c.from_residual.ensures.1

pub check_lines-requires : goal.check_lines-requires
check_lines-requires c = size_read _ _ c.in_ok-size.ensures c.requires

pub returns-in_err-check_lines : goal.returns-in_err-check_lines
unfolding net_check
returns-in_err-check_lines c =
    stage_passed _ _ c.in_ok-size.ensures
    (stage_refused _ _ c.in_err-check_lines.ensures c.from_residual-in_err-check_lines.ensures.1)

pub check_surplus-requires : goal.check_surplus-requires
check_surplus-requires c = size_read _ _ c.in_ok-size.ensures c.requires

pub returns-in_err-check_surplus : goal.returns-in_err-check_surplus
unfolding net_check
returns-in_err-check_surplus c =
    stage_passed _ _ c.in_ok-size.ensures
    (stage_passed _ _ c.in_ok-check_lines.ensures
    (stage_refused _ _ c.in_err-check_surplus.ensures c.from_residual-in_err-check_surplus.ensures.1))

pub new-requires : goal.new-requires
new-requires c = lines_read _ _ c.in_ok-size.ensures c.requires c.in_ok-check_lines.ensures

pub returns-in_err-check_chains : goal.returns-in_err-check_chains
unfolding net_check
returns-in_err-check_chains c =
    stage_passed _ _ c.in_ok-size.ensures
    (stage_passed _ _ c.in_ok-check_lines.ensures
    (stage_passed _ _ c.in_ok-check_surplus.ensures
    (last_refused _ (rw c.new.ensures.0 at c.in_err-check_chains.ensures) c.from_residual-in_err-check_chains.ensures.1)))

pub returns : goal.returns
unfolding net_check
returns c =
    stage_passed _ _ c.in_ok-size.ensures
    (stage_passed _ _ c.in_ok-check_lines.ensures
    (stage_passed _ _ c.in_ok-check_surplus.ensures
    (last_passed (rw c.new.ensures.0 at c.in_ok-check_chains.ensures) (same c.in_ok-size.ensures refl))))
