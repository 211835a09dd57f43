-- `line_up` pushes 1 to size: the invariant is that the nodes below this one are lined up.
use Prim.Native.Nat.{◌+◌, ◌-◌, ◌≤◌}
use mathlib.Core.Path.{◌≡◌}
use Rattle.graph_ranks.specs.Descent.{lined_up}
use Rattle.graph_ranks.proofs.Graph.line_up.Given as goal

abbrev pub invariant-loop-node : goal.invariant-loop-node
invariant-loop-node l = (l.node ≤ l.self.size + 1) × (l.way ≡ lined_up (l.node - 1))
