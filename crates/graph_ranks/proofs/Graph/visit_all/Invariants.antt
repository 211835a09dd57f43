-- `visit_all` visits each node: the invariant is that the nodes below this one are visited.
use Rattle.graph_ranks.specs.Methods.{Passed}
use Rattle.graph_ranks.proofs.Graph.visit_all.Given as goal

abbrev pub invariant-loop-node : goal.invariant-loop-node
invariant-loop-node l = Passed l.self l.node l.initial.ranks l.ranks l.some
