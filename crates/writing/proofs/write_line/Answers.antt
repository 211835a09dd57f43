-- Each field goes behind the last (`fields_more`), and byte 10 ends the line (`line_stored`).
use Rattle.std.proofs.Common.{arith, rules, refl, ◌∙◌}
use mathlib.Core.List.{flat_map}
use Rattle.writing.proofs.Writing.{fields_more, line_stored}
use Rattle.writing.proofs.write_line.Goals as goal

pub loop-k-init : goal.loop-k-init
unfolding flat_map
loop-k-init c = search rules

pub loop-k-preserved : goal.loop-k-preserved
loop-k-preserved c = c.write_field.ensures ∙ fields_more _ _ _ _ _ c.loop-k.invariant c.loop-k-test.true

pub returns-clause-out_after : goal.returns-clause-out_after
returns-clause-out_after c = line_stored _ _ _ _ _ _ c.loop-k.invariant (omega (arith, c.loop-k-test.false, c.loop-k.auto.k-end)) refl
