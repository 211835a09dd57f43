-- 10 where line 1 is broken, 11 where its layout is wrong, else N is accepted.
use Rattle.std.proofs.Common.{refl, sym, ◌∙◌, ap, arith, Ok}
use Rattle.fields.proofs.Lines.{line_right, line_wrong}
use Rattle.model.specs.Netlist.{net_header}
use Rattle.model.proofs.Refusals.{unless_pass}
use Rattle.file_lines.proofs.Stages.{refused, accepted, handed}
use Rattle.file_lines.proofs.Lines.{test_stops, test_goes_on, test_fails}
use Rattle.file_net.specs.Answer.{net_refusal}
use Rattle.file_net.proofs.check_header.Goals as goal

pub returns-in_err-ok_or : goal.returns-in_err-ok_or
unfolding net_header
returns-in_err-ok_or c =
    let wrong = line_wrong _ 0 12 c.read_line.ensures _ c.in_err-ok_or.ensures.value in
    handed c.from_residual.ensures.1 (refused (ap net_refusal wrong.1) (test_stops _ 10 1 _ wrong.0))

pub new-header-requires : goal.new-header-requires
new-header-requires c = (omega arith, line_right _ 0 12 c.read_line.ensures _ c.in_ok-ok_or.ensures.value)

pub returns-then-not-is_header_laid : goal.returns-then-not-is_header_laid
unfolding net_header
returns-then-not-is_header_laid c =
    let laid = rw c.new-header.ensures.0 at c.if-not-is_header_laid.ensures in
    refused refl (test_goes_on _ 10 1 _ (line_right _ 0 12 c.read_line.ensures _ c.in_ok-ok_or.ensures.value) ∙ test_fails _ 11 1 (sym laid))

pub returns : goal.returns
unfolding net_header
returns c =
    let laid = rw c.new-header.ensures.0 at c.if-not-is_header_laid.ensures in
    let size = rw (c.new-header.ensures.0, c.new-header.ensures.1) at c.field.ensures in
    accepted (ap Ok size) (test_goes_on _ 10 1 _ (line_right _ 0 12 c.read_line.ensures _ c.in_ok-ok_or.ensures.value) ∙ unless_pass _ 11 1 (sym laid))
