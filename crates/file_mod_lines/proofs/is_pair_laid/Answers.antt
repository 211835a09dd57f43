-- By cases of the code: part 9 (`pair_none`), another part (`pair_part`), the location is not below C (`pair_far`).
use mathlib.Core.Path.{sym, ◌∙◌}
use Rattle.file_mod_lines.proofs.Judged.{pair_far, pair_none, pair_part}
use borrow.Author.Tests.{le-ltb}
use Rattle.file_mod_lines.proofs.is_pair_laid.Goals as goal

pub returns-then-part-eq-NO_PART : goal.returns-then-part-eq-NO_PART
returns-then-part-eq-NO_PART c =
    rw (← c.number-part.ensures, ← c.number-location.ensures) (sym (pair_none _ c.args.most _ _ c.if-location-slots.true c.if-part-eq-NO_PART.true))

pub returns-else-part-eq-NO_PART : goal.returns-else-part-eq-NO_PART
returns-else-part-eq-NO_PART c =
    rw (← c.number-part.ensures, ← c.number-location.ensures) (sym (pair_part _ c.args.most _ _ c.if-location-slots.true c.if-part-eq-NO_PART.false))

pub returns-else-location-slots : goal.returns-else-location-slots
returns-else-location-slots c =
    rw (← c.number-part.ensures, ← c.number-location.ensures) (le-ltb _ _ c.if-location-slots.false ∙ sym (pair_far _ c.args.most c.number-part.result _ c.if-location-slots.false))
