-- The lines passed are of time 0, and the one at the cursor is not.
use mathlib.Core.Path.{sym, subst, ◌∙◌}
use Rattle.file_stim.specs.declared.Cursor.{Cursor}
use Rattle.file_stim.proofs.Steps.{gave_none, none_at}
use Rattle.listing_cycle.specs.Feeding.{Passed}
use Rattle.listing_cycle.proofs.Feeding.{skipped_ends}
use Rattle.listing_cycle.proofs.first_later.Goals as goal

pub returns-clause-passed : goal.returns-clause-passed
returns-clause-passed c =
    let none = gave_none _ _ _ _ c.next_of.ensures (sym c.is_some.ensures ∙ c.lines-test.false) in
    subst (λ (x : Cursor). Passed c.args.stim.bytes.now 0 x.line) (sym none.1)
    (skipped_ends c.lines.invariant.skipped (none_at c.lines.invariant.same none.0))
