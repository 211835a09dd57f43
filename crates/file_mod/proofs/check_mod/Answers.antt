-- Right lines leave what the conditions require; lines that are refused answer for all.
use Rattle.std.proofs.Common.{refl}
use Rattle.file_lines.proofs.Stages.{passes, same, stage_passed, stage_refused, last_refused, last_passed}
use Rattle.model.specs.Netlist.{network}
use Rattle.file_mod.proofs.Formed.{lines_formed, known, net_signals, checked}
use Rattle.file_mod.proofs.check_mod.Goals as goal

pub returns-in_err-shape : goal.returns-in_err-shape
returns-in_err-shape c =
    let lines = c.in_err-shape.ensures (network c.args.net.now.net.now) (net_signals c.args.net.now.net.now _ c.signals.ensures.0) in
    checked _ _ _ (stage_refused _ _ lines c.from_residual.ensures.1)

pub new-table-requires : goal.new-table-requires
new-table-requires c =
    let lines = c.in_ok-shape.ensures (network c.args.net.now.net.now) (net_signals c.args.net.now.net.now _ c.signals.ensures.0) in
    lines_formed _ _ _ (rw c.signals.ensures.0 at c.signals.ensures.2) (passes lines refl) (same lines refl)

pub check_module-requires : goal.check_module-requires
check_module-requires c =
    let lines = c.in_ok-shape.ensures (network c.args.net.now.net.now) (net_signals c.args.net.now.net.now _ c.signals.ensures.0) in
    rw (c.new-table.ensures.0, c.new-table.ensures.1) (known _ _ _ (passes lines refl) (same lines refl))

pub returns-in_err-check_module : goal.returns-in_err-check_module
returns-in_err-check_module c =
    let lines = c.in_ok-shape.ensures (network c.args.net.now.net.now) (net_signals c.args.net.now.net.now _ c.signals.ensures.0) in
    let rest = rw c.new-table.ensures.0 at c.in_err-check_module.ensures in
    checked _ _ _ (stage_passed _ _ lines (last_refused _ rest c.from_residual-in_err-check_module.ensures.1))

pub returns : goal.returns
returns c =
    let lines = c.in_ok-shape.ensures (network c.args.net.now.net.now) (net_signals c.args.net.now.net.now _ c.signals.ensures.0) in
    let rest = rw c.new-table.ensures.0 at c.in_ok-check_module.ensures in
    checked _ _ _ (stage_passed _ _ lines (last_passed rest (same lines refl)))
