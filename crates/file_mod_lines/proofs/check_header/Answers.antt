-- 20 where line 1 is broken, 21 where its layout is wrong, else P and C are accepted.
use Rattle.std.proofs.Common.{refl, sym, ◌∙◌, ap, arith, Ok}
use Rattle.fields.proofs.Lines.{line_right, line_wrong}
use Rattle.model.specs.ModuleFile.{mod_header}
use Rattle.model.proofs.Refusals.{unless_pass}
use Rattle.file_lines.proofs.Stages.{refused, accepted, handed}
use Rattle.file_lines.proofs.Lines.{test_stops, test_goes_on, test_fails}
use Rattle.file_mod_lines.specs.Answer.{mod_refusal}
use Rattle.file_mod_lines.proofs.Lines.{same_shape}
use Rattle.file_mod_lines.proofs.check_header.Goals as goal

pub returns-in_err-ok_or : goal.returns-in_err-ok_or
unfolding mod_header
returns-in_err-ok_or c =
    let wrong = line_wrong _ 0 14 c.read_line.ensures _ c.in_err-ok_or.ensures.value in
    handed c.from_residual.ensures.1 (refused (ap mod_refusal wrong.1) (test_stops _ 20 1 _ wrong.0))

pub new-line-requires : goal.new-line-requires
new-line-requires c = (omega arith, line_right _ 0 14 c.read_line.ensures _ c.in_ok-ok_or.ensures.value)

pub returns-then-not-is_header_laid : goal.returns-then-not-is_header_laid
unfolding mod_header
returns-then-not-is_header_laid c =
    let laid = rw (c.new-line.ensures.0, c.new-line.ensures.1) at c.if-not-is_header_laid.ensures in
    refused refl (test_goes_on _ 20 1 _ (line_right _ 0 14 c.read_line.ensures _ c.in_ok-ok_or.ensures.value) ∙ test_fails _ 21 1 (sym laid))

pub returns : goal.returns
unfolding mod_header
returns c =
    let laid = rw (c.new-line.ensures.0, c.new-line.ensures.1) at c.if-not-is_header_laid.ensures in
    let shape = rw (c.new-line.ensures.0, c.new-line.ensures.1) at c.of_line.ensures in
    accepted (ap Ok (same_shape shape.0 shape.1)) (test_goes_on _ 20 1 _ (line_right _ 0 14 c.read_line.ensures _ c.in_ok-ok_or.ensures.value) ∙ unless_pass _ 21 1 (sym laid))
