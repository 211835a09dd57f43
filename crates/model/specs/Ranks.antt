-- Ranks (000, Rank-order simulation): the rules, and a function that computes the one numbering that follows them. The network of 000
-- has no unit-delay gate there. Here a unit-delay gate has its value before any rank-order gate is evaluated, so that it counts with
-- the inputs.
use Rattle.std.specs.Prelude.{ℕ, zero, suc, max, ◌≡◌, true, false, eqb}
use Rattle.model.specs.Network.{Network, Signal, input, unit_delay, rank_order}
use Rattle.model.specs.Value.{value_of}

-- the highest rank among the first j sources of s, 0 where none of them is there
unfoldable pub highest : Network → (ℕ → ℕ) → ℕ → ℕ → ℕ
highest n rank s zero = 0
highest n rank s (suc j) = max (highest n rank s j) (value_of rank (n.source s j))

-- inputs, unit-delays: "rank(s) = 0 if indeg(s) = 0".
-- rank-orders: "rank(s) = n + 1 if rank(t) < n + 1 for all immediate predecessors t of s while rank(u) = n for some immediate
-- predecessor u of s": one more than the highest source. A gate without a source is evaluated all the same, and has rank 1.
pub record Ranks (n : Network) (rank : ℕ → ℕ) : Type 0 where
  pub inputs : (s : ℕ) → Signal n s → n.kind s ≡ input → rank s ≡ 0
  pub unit_delays : (s : ℕ) → Signal n s → n.kind s ≡ unit_delay → rank s ≡ 0
  pub rank_orders : (s : ℕ) → Signal n s → n.kind s ≡ rank_order → rank s ≡ suc (highest n rank s 4)

-- the rules followed back along at most d rank-order gates
unfoldable pub rank_to : Network → ℕ → ℕ → ℕ
rank_to n zero s = 0
rank_to n (suc d) s = elim (eqb (n.kind s) rank_order) [ true ↦ suc (highest n (rank_to n d) s 4) | false ↦ 0 ]

-- no chain of rank-order gates is longer than the network
unfoldable pub rank_of : Network → ℕ → ℕ
rank_of n s = rank_to n (suc n.size) s
