-- `push_feeders` pushes four: the invariant is that the first j are pushed.
use mathlib.Core.Path.{◌≡◌}
use Rattle.graph_chains.specs.Search.{pushed_to}
use Rattle.graph_chains.specs.Methods.{state_of}
use Rattle.graph_chains.proofs.Search.push_feeders.Given as goal

abbrev pub invariant-loop-j : goal.invariant-loop-j
invariant-loop-j l = state_of l.self ≡ pushed_to l.graph.edges (state_of l.initial.self) l.node l.j
