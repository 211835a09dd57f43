-- The half of each case (`earlier_asked`, `present_asked`, `neither_asked`).
use mathlib.Core.Path.{◌∙◌, ap, sym}
use lib.Dec.{eqb}
use Rattle.instruction.specs.Operand.{part_of}
use Rattle.file_mod_sources.specs.Mirror.{half_part}
use Rattle.file_mod_sources.proofs.Senders.{earlier_asked, present_asked, neither_asked}
use Rattle.file_mod_sources.proofs.gate.is_of_half.Goals as goal

pub returns-in-LocalEarlier : goal.returns-in-LocalEarlier
returns-in-LocalEarlier c = earlier_asked c.args.present ∙ ap (λ x. eqb (part_of x) (half_part c.args.present)) (sym c.in-LocalEarlier.is)

pub returns-in-LocalPresent : goal.returns-in-LocalPresent
returns-in-LocalPresent c = present_asked c.args.present ∙ ap (λ x. eqb (part_of x) (half_part c.args.present)) (sym c.in-LocalPresent.is)

pub returns-in_default : goal.returns-in_default
returns-in_default c = neither_asked _ _ c.in_default.not-LocalEarlier c.in_default.not-LocalPresent
