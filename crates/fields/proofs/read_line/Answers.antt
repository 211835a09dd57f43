-- The fields are read one after the other (`fields_begin`, `fields_go_on`), up to one that is wrong (`fields_stop`); then byte 10 decides
-- (`line_answered`).
use Rattle.std.proofs.Common.{rules, refl, sym, ◌∙◌}
use Rattle.fields.specs.Reading.{read_line}
use Rattle.fields.proofs.Lines.{fields_begin, fields_stop, fields_go_on, line_answered}
use Rattle.fields.proofs.read_line.Goals as goal

pub loop-init : goal.loop-init
loop-init c = fields_begin refl

pub returns-in_err-next : goal.returns-in_err-next
unfolding read_line
returns-in_err-next c =
    c.from_residual.ensures ∙ sym (rw (fields_stop c.loop.invariant c.loop-test.true (sym c.read_field.ensures ∙ c.in_err-next.was)))

pub loop-preserved : goal.loop-preserved
loop-preserved c = fields_go_on c.loop.invariant c.loop-test.true (sym c.read_field.ensures ∙ c.in_ok-next.was)

pub returns : goal.returns
returns c =
    line_answered c.loop.invariant c.loop-test.false _ (c.then.ensures.variant ∙ c.ends_line.ensures) c.then.ensures.some (λ end e. search rules)
