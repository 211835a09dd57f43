-- The settings so far are those of the lines passed.
use Prim.Native.Nat.{◌<◌}
use mathlib.Core.Path.{◌≡◌, refl, sym, subst, ◌∙◌}
use mathlib.Core.List.{[]}
use borrow.Author.Rules.{rules}
use Rattle.model.specs.Stimulus.{stim_time, stim_count}
use Rattle.file_stim.specs.declared.Cursor.{Cursor}
use Rattle.file_stim.proofs.Steps.{given_at, none_at}
use Rattle.listing_cycle.proofs.Feeding.{set_keeps, fed_starts, fed_signals, fed_more}
use Rattle.listing_cycle.proofs.take_settings.Goals as goal

pub loop-line-init : goal.loop-line-init
loop-line-init c = record { same = refl; fed = fed_starts _ _ _ _ (search rules) c.args.cursor.now.within; same_numbers = (refl, refl) }

pub returns-clause-no_more : goal.returns-clause-no_more
returns-clause-no_more c =
    let none = c.in_default.ensures in
    let stim = c.args.cursor.now.stimulus.bytes.now in
    subst (λ (x : Cursor). x.line < stim_count stim → stim_time stim x.line ≡ c.args.time.0 → ⊥) (sym none.1)
    (none_at c.loop-line.invariant.same none.0)

pub set-told-requires : goal.set-told-requires
set-told-requires c = fed_signals c.loop-line.invariant.fed c.requires.signals_high

pub loop-line-preserved : goal.loop-line-preserved
loop-line-preserved c =
    let told = c.set-told.ensures [] [] in
    let hand = rw (c.from.ensures, c.from-in-Some.ensures) at told.hand in
    let kept = set_keeps _ _ _ _ in
    let same = c.loop-line.invariant.same in
    let numbers = c.loop-line.invariant.same_numbers in
    record {
      same = c.in-Some.ensures.0.same ∙ same;
      fed = fed_more c.loop-line.invariant.fed (given_at _ same c.in-Some.ensures) c.requires.signals_high _ _ _ hand;
      same_numbers = (told.finished ∙ kept.0 ∙ numbers.0, told.watch ∙ kept.1 ∙ numbers.1);
    }
