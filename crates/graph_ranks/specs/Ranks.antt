-- Ranks: how far each followed node stands above the nodes that nothing feeds.
use Rattle.std.specs.Prelude.{ℕ, zero, suc, ◌+◌, ◌*◌, ◌≤◌, ◌<◌, max, ◌≡◌, Bool, List, get_or}
use Rattle.graph_ranks.specs.Graph.{places, Edge, Followed}

-- the highest rank among the first j feeders of y; an entry 0 is no feeder, and what stands at 0 is 0
unfoldable pub highest_to : List ℕ → List ℕ → ℕ → ℕ → ℕ
highest_to edges ranks y zero = 0
highest_to edges ranks y (suc j) = max (highest_to edges ranks y j) (get_or ranks (get_or edges (4 * y + j) 0) 0)

-- the highest rank among the feeders of y, 0 where it has none
abbrev pub highest : List ℕ → List ℕ → ℕ → ℕ
highest edges ranks y = highest_to edges ranks y 4

-- What has a rank (not 0) has the right one.
-- others: what is not followed has none. grounded: the feeders of a node that has one have one.
-- exact: it is one more than the highest of the feeders', 1 where there is no feeder.
pub record RanksRight (follow : List Bool) (edges : List ℕ) (size : ℕ) (ranks : List ℕ) : Type 0 where
  pub others : (y : ℕ) → (Followed follow size y → ⊥) → get_or ranks y 0 ≡ 0
  pub grounded : (x y : ℕ) → 1 ≤ get_or ranks y 0 → Edge edges x y → 1 ≤ get_or ranks x 0
  pub exact : (y : ℕ) → 1 ≤ get_or ranks y 0 → get_or ranks y 0 ≡ highest edges ranks y + 1

-- each of the first j feeders of y has a rank, and h is one more than the highest of these
pub record RankAbove (edges ranks : List ℕ) (y j h : ℕ) : Type 0 where
  pub ranked : (k : ℕ) → k < j → 1 ≤ get_or edges (4 * y + k) 0 → 1 ≤ get_or ranks (get_or edges (4 * y + k) 0) 0
  pub is : h ≡ highest_to edges ranks y j + 1

-- x feeds y and has no rank
pub record OpenAt (edges ranks : List ℕ) (y x : ℕ) : Type 0 where
  pub edge : Edge edges x y
  pub unranked : get_or ranks x 0 ≡ 0

-- x is the last of the feeders of y that have no rank: those in later entries have one
pub record LastOpen (edges ranks : List ℕ) (y x : ℕ) : Type 0 where
  pub is_open : OpenAt edges ranks y x
  pub later : (k : ℕ) → is_open.edge.index < k → k < 4 → 1 ≤ get_or edges (4 * y + k) 0 → 1 ≤ get_or ranks (get_or edges (4 * y + k) 0) 0

-- a feeder of y that has no rank
pub record OpenFeeder (edges ranks : List ℕ) (y : ℕ) : Type 0 where
  pub feeder : ℕ
  pub edge : Edge edges feeder y
  pub unranked : get_or ranks feeder 0 ≡ 0

-- Every node is ranked that can be.
-- rest: a followed node that has no rank has a feeder that has none. small: ranks are at most 4096.
pub record Ranked (follow : List Bool) (edges : List ℕ) (size : ℕ) (ranks : List ℕ) : Type 0 where
  pub right : RanksRight follow edges size ranks
  pub rest : (y : ℕ) → Followed follow size y → get_or ranks y 0 ≡ 0 → OpenFeeder edges ranks y
  pub small : (y : ℕ) → get_or ranks y 0 < places
