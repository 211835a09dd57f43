-- The invariant: the entries from 4 to below i hold their feeders, and the others are as they were (`edges_to`).
use Prim.Native.Nat.{◌-◌}
use mathlib.Core.Path.{◌≡◌}
use Rattle.file_net_graph.specs.Graph.{edges_to}
use Rattle.file_net_graph.proofs.CheckedLines.load_edges.Given as goal

abbrev pub invariant-loop-i : goal.invariant-loop-i
invariant-loop-i l = l.edges ≡ edges_to l.self.net.now l.follow l.initial.edges (l.i - 4)
