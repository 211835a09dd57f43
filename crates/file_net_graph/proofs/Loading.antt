-- The stores by which the graph of the rank-order gates is loaded, and what stands in it.
use Prim.Native.Nat.{ℕ, suc, ◌+◌, ◌-◌, ◌*◌, ◌≤◌}
use mathlib.Core.Path.{◌≡◌, ◌∙◌, ap}
use mathlib.Core.Bool.{Bool}
use mathlib.Core.List.{List}
use native.Mathlib.Omega.{arith}
use lib.Dec.{eqb}
use lib.ListN.{set, replicate}
use Rattle.model.specs.Netlist.{net_field}
use Rattle.file_net_graph.specs.Graph.{follow_to, feeder_of, edges_to, follow_of, edges_of}

module _ (net : List ℕ) (l : List Bool) where
  -- one more mark
  pub follow_more : (follow : List Bool) (s : ℕ) (v : Bool) → 1 ≤ s → follow ≡ follow_to net l (s - 1) → v ≡ eqb (net_field net s 0) 3
      → set follow s v ≡ follow_to net l (s + 1 - 1)
  unfolding follow_to
  follow_more follow s v h e q =
      let k : s ≡ s - 1 + 1 = omega arith in
      let n : s + 1 - 1 ≡ suc (s - 1) = omega arith in
      rw (n, ← k, q, e)

module _ (net : List ℕ) (follow : List Bool) (l : List ℕ) where
  -- one more entry
  pub edges_more : (edges : List ℕ) (i v : ℕ) → 4 ≤ i → edges ≡ edges_to net follow l (i - 4) → v ≡ feeder_of net follow i
      → set edges i v ≡ edges_to net follow l (i + 1 - 4)
  unfolding edges_to
  edges_more edges i v h e q =
      let k : i ≡ i - 4 + 4 = omega arith in
      let n : i + 1 - 4 ≡ suc (i - 4) = omega arith in
      rw (n, ← k, q, e)

-- the entries by the marks, from zeros
pub entries_loaded : (net : List ℕ) (follow : List Bool) (edges : List ℕ) (size : ℕ) → follow ≡ follow_of net size
    → edges ≡ edges_to net follow (replicate 16388 0) (4 * size) → edges ≡ edges_of net size
entries_loaded net follow edges size marked loaded =
    loaded ∙ ap (λ (f : List Bool). edges_to net f (replicate 16388 0) (4 * size)) marked
