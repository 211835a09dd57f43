-- The invariant: the array has the last of the first k lines with each signal.
use Rattle.buffers_load_panel.proofs.Places.{PlacesTo}
use Rattle.buffers_load_panel.proofs.places_of.Given as goal

abbrev pub invariant-loop-k : goal.invariant-loop-k
invariant-loop-k l = PlacesTo l.table.modfile.now l.k l.places
