-- `rank_above` goes over the feeders: the invariant is that the rank is above the first j.
use Rattle.graph_ranks.specs.Ranks.{RankAbove}
use Rattle.graph_ranks.proofs.Graph.rank_above.Given as goal

abbrev pub invariant-loop-j : goal.invariant-loop-j
invariant-loop-j l = RankAbove l.self.edges l.ranks l.node l.j l.rank
