-- What the private methods of a graph do, and `Ranked` is what a caller reads.
use Rattle.std.specs.Prelude.{ℕ, ◌+◌, ◌≤◌, ◌<◌, ◌≡◌, Bool, true, false, List, length}
use Rattle.graph_ranks.specs.declared.Graph.{Graph}
use Rattle.graph_ranks.specs.Zeros.{zeros}
use Rattle.graph_ranks.specs.Passes.{RankedSoFar, OpenNode}
use Rattle.graph_ranks.specs.Descent.{Nodes}

-- some nodes of the graph are ranked
abbrev pub SomeRanked : Graph → List ℕ → Type 0
SomeRanked g ranks = RankedSoFar g.follow g.edges g.size ranks

-- y is visited: where it gained a rank, fewer nodes have none, and else ranks are as they were and y could not have one
pub record Visited (g : Graph) (y : ℕ) (before after : List ℕ) (gained : Bool) : Type 0 where
  pub so_far : SomeRanked g after
  pub fewer : gained ≡ true → zeros after < zeros before
  pub same : gained ≡ false → after ≡ before
  pub still : gained ≡ false → OpenNode g.follow g.edges g.size after y

-- the nodes below k are visited: where some gained a rank, fewer nodes have none, and else none of them could have one
pub record Passed (g : Graph) (k : ℕ) (before after : List ℕ) (gained : Bool) : Type 0 where
  pub so_far : SomeRanked g after
  pub most : zeros after ≤ zeros before
  pub fewer : gained ≡ true → zeros after < zeros before
  pub still : gained ≡ false → (y : ℕ) → y < k → OpenNode g.follow g.edges g.size after y

-- a step of the descent: how far it comes is a matter of time alone
pub record Descended (g : Graph) (ranks before after : List ℕ) : Type 0 where
  pub so_far : SomeRanked g ranks
  pub nodes : Nodes g.size after
  pub near : length after ≤ length before + 2
