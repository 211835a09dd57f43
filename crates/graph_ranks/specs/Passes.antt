-- Ranks on the way to `Ranked`: some nodes have theirs, and others may get one yet.
use Rattle.std.specs.Prelude.{ℕ, ◌+◌, ◌≤◌, ◌≡◌, Bool, List, length, get_or}
use Rattle.graph_ranks.specs.Graph.{places, Followed}
use Rattle.graph_ranks.specs.Zeros.{zeros}
use Rattle.graph_ranks.specs.Ranks.{RanksRight, OpenFeeder}

-- some nodes are ranked: a rank and the number of nodes that have none are together at most the number of places
pub record RankedSoFar (follow : List Bool) (edges : List ℕ) (size : ℕ) (ranks : List ℕ) : Type 0 where
  pub long : length ranks ≡ places
  pub right : RanksRight follow edges size ranks
  pub few : (y : ℕ) → get_or ranks y 0 + zeros ranks ≤ places

-- where y is followed and has no rank, a feeder of it has none
abbrev pub OpenNode : List Bool → List ℕ → ℕ → List ℕ → ℕ → Type 0
OpenNode follow edges size ranks y = Followed follow size y → get_or ranks y 0 ≡ 0 → OpenFeeder edges ranks y
