-- One cycle of the session, whose watch ends no run.
use Rattle.listing_cycle.proofs.Cycling.{right_memory, ready_watching, cycle_left}
use Rattle.listing_cycle.proofs.run_one.Goals as goal

pub run-told-requires-clause-watching : goal.run-told-requires-clause-watching
run-told-requires-clause-watching c = ready_watching _ _ _ _ c.requires

pub run-told-requires-clause-memory_bytes : goal.run-told-requires-clause-memory_bytes
run-told-requires-clause-memory_bytes c = right_memory c.requires.right

pub returns : goal.returns
returns c =
    let both = cycle_left _ _ _ _ c.requires _ _ c.run-told.ensures.tells c.run-told.ensures.memory_after in
    record { one_more = both.0; memory_after = both.1 }
