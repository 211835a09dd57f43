-- `reaches_itself` tells whether s is on a loop. The invariant is `Searching`; each turn has less left over.
use Rattle.graph_chains.specs.Search.{state}
use Rattle.graph_chains.proofs.Pushing.{left_over}
use Rattle.graph_chains.proofs.Searching.{Searching}
use Rattle.graph_chains.proofs.reaches_itself.Given as goal

abbrev pub invariant-loop-node : goal.invariant-loop-node
invariant-loop-node l = Searching l.graph.edges l.graph.size l.s 0 (state l.search.marks l.search.stack)

abbrev pub decreases-loop-node : goal.decreases-loop-node
decreases-loop-node l = left_over (state l.search.marks l.search.stack)
