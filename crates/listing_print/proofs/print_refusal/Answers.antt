-- The line of a refusal fits, and is the one part of what is printed.
use mathlib.Core.Path.{sym, ◌∙◌, ap}
use lib.Seq.{length-take-le}
use native.Mathlib.Omega.{arith}
use Rattle.file_checks.specs.Refused.{refused_text}
use Rattle.file_checks.proofs.Refused.{refused_short}
use Rattle.listing_print.specs.declared.Printed.{Printed}
use Rattle.listing_print.proofs.Printing.{written, line_short, refusal_part, refusal_count, refusal_handed}
use Rattle.listing_print.proofs.print_refusal.Goals as goal

pub slice_bounds-line-end : goal.slice_bounds-line-end
slice_bounds-line-end g c = omega (arith, line_short _ _ c.write_refusal-length.ensures.value)

pub slice_bounds-put-end : goal.slice_bounds-put-end
slice_bounds-put-end g c =
    sym (length-take-le c.write_refusal-length.result c.write_refusal-length.new.out (omega (arith, line_short _ _ c.write_refusal-length.ensures.value)))

pub put-requires-clause-part_value : goal.put-requires-clause-part_value
put-requires-clause-part_value g c =
    written (refused_text _) _ _ _ c.write_refusal-length.ensures.out_after c.write_refusal-length.ensures.value (refused_short _)
    ∙ refusal_part _ c.args.refusal c.requires.refusal_value _

pub put-requires-clause-parts_bound : goal.put-requires-clause-parts_bound
put-requires-clause-parts_bound g c =
    omega (arith, refusal_count _ c.args.refusal c.requires.refusal_value, ap (λ (p : Printed). p.parts) c.requires.nothing_yet)

pub returns : goal.returns
returns g c =
    record { handed = refusal_handed _ c.args.refusal c.requires.refusal_value _ (ap (λ (p : Printed). p.parts) c.requires.nothing_yet) _ c.put.ensures.counted }
