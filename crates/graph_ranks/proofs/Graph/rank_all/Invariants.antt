-- `rank_all` passes until no node gets a rank: ranks are right, and each pass but the last leaves fewer nodes without one.
use Rattle.graph_ranks.specs.Zeros.{zeros}
use Rattle.graph_ranks.specs.Methods.{SomeRanked}
use Rattle.graph_ranks.proofs.Graph.rank_all.Given as goal

abbrev pub invariant-passes : goal.invariant-passes
invariant-passes l = SomeRanked l.self l.ranks

abbrev pub decreases-passes : goal.decreases-passes
decreases-passes l = zeros l.ranks
