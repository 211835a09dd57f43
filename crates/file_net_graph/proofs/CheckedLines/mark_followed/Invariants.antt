-- The invariant: the signals below s have their marks, and the others are as they were (`follow_to`).
use Prim.Native.Nat.{◌+◌, ◌-◌, ◌≤◌}
use mathlib.Core.Path.{◌≡◌}
use Rattle.file_net_graph.specs.Graph.{follow_to}
use Rattle.file_net_graph.proofs.CheckedLines.mark_followed.Given as goal

abbrev pub invariant-loop-s : goal.invariant-loop-s
invariant-loop-s l = (l.s ≤ l.self.size + 1) × (l.follow ≡ follow_to l.self.net.now l.initial.follow (l.s - 1))
