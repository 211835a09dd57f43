-- The settings so far are those of the lines passed.
use Prim.Native.Nat.{◌-◌}
use mathlib.Core.Path.{◌≡◌}
use Rattle.model.specs.Stimulus.{stim_count}
use Rattle.listing_cycle.specs.Feeding.{Fed, SameNumbers}
use Rattle.listing_cycle.proofs.take_settings.Given as goal

abbrev pub invariant-loop-line : goal.invariant-loop-line
invariant-loop-line l =
    record {
      same : l.cursor.stimulus ≡ l.initial.cursor.stimulus;
      fed : Fed l.initial.cursor.stimulus.bytes.now l.initial.panel l.time.0 l.initial.cursor.line l.panel l.cursor.line;
      same_numbers : SameNumbers l.initial.session l.session;
    }

abbrev pub decreases-loop-line : goal.decreases-loop-line
decreases-loop-line l = stim_count l.initial.cursor.stimulus.bytes.now - l.cursor.line
