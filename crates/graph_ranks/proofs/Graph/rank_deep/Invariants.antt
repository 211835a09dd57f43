-- `rank_deep` keeps ranks right: the invariant has that, nodes on the way, and that each step makes it longer by one at most.
use Prim.Native.Nat.{◌+◌, ◌≤◌}
use lib.ListN.{length}
use Rattle.graph_ranks.specs.Methods.{SomeRanked}
use Rattle.graph_ranks.specs.Descent.{Nodes}
use Rattle.graph_ranks.proofs.Graph.rank_deep.Given as goal

abbrev pub invariant-loop-step : goal.invariant-loop-step
invariant-loop-step l = SomeRanked l.self l.ranks × Nodes l.self.size l.way × (length l.way ≤ l.self.size + l._step)
