-- The rank-order gates and their feeders, store by store as the code loads them. `proofs/Closed` says what graph this is.
use Rattle.std.specs.Prelude.{ℕ, zero, suc, ◌+◌, ◌*◌, ◌/◌, ◌%◌, Bool, false, List, eqb, get_or, set, replicate}
use Rattle.std.specs.Prelude.{if◌then◌else◌}
use Rattle.model.specs.Network.{rank_order}
use Rattle.model.specs.Netlist.{net_field}

-- a mark for each of the rank-order gates among the signals 1 to k
unfoldable pub follow_to : List ℕ → List Bool → ℕ → List Bool
follow_to net l zero = l
follow_to net l (suc k) = set (follow_to net l k) (k + 1) (eqb (net_field net (k + 1) 0) rank_order)

-- the feeder that entry i of the graph names: a rank-order gate that is a source of a rank-order gate
unfoldable pub feeder_of : List ℕ → List Bool → ℕ → ℕ
feeder_of net follow i =
    if get_or follow (i / 4) false then
    (if get_or follow (net_field net (i / 4) (8 + i % 4)) false then net_field net (i / 4) (8 + i % 4) else 0)
    else 0

-- the entries 4 to 3 + k
unfoldable pub edges_to : List ℕ → List Bool → List ℕ → ℕ → List ℕ
edges_to net follow l zero = l
edges_to net follow l (suc k) = set (edges_to net follow l k) (k + 4) (feeder_of net follow (k + 4))

-- the arrays of the graph, loaded into arrays without a mark and an entry
abbrev pub follow_of : List ℕ → ℕ → List Bool
follow_of net size = follow_to net (replicate 4097 false) size

abbrev pub edges_of : List ℕ → ℕ → List ℕ
edges_of net size = edges_to net (follow_of net size) (replicate 16388 0) (4 * size)
