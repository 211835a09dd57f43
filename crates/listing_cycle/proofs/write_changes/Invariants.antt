-- `write_changes` goes through the signals: those before s are written and shown.
use lib.ListN.{get_or}
use Rattle.listing_cycle.specs.Changes.{value_held}
use Rattle.listing_cycle.proofs.Changes.{WrittenBefore}
use Rattle.listing_cycle.proofs.write_changes.Given as goal

abbrev pub invariant-loop-s : goal.invariant-loop-s
invariant-loop-s l = WrittenBefore l.s-end l.time.0 (value_held l.readable.panel.now l.readable.memory.now) (λ s. get_or l.initial.shown s 0) l.initial.out l.s l.at l.shown l.out
