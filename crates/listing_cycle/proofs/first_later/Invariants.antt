-- The lines passed are of time 0.
use Prim.Native.Nat.{◌-◌}
use mathlib.Core.Path.{◌≡◌}
use Rattle.model.specs.Stimulus.{stim_count}
use Rattle.listing_cycle.proofs.Feeding.{Skipped}
use Rattle.listing_cycle.proofs.first_later.Given as goal

abbrev pub invariant-lines : goal.invariant-lines
invariant-lines l =
    record {
      same : l.cursor.stimulus ≡ l.stim;
      skipped : Skipped l.stim.bytes.now l.cursor.line;
    }

abbrev pub decreases-lines : goal.decreases-lines
decreases-lines l = stim_count l.stim.bytes.now - l.cursor.line
