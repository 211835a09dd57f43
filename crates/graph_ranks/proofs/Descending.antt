-- The way of the descent: nodes alone stand on it.
use Prim.Native.Nat.{ℕ, zero, suc, ◌≤◌}
use mathlib.Core.Path.{◌≡◌, refl, ap}
use native.Mathlib.Omega.{arith}
use lib.ListN.{length}
use Rattle.graph_ranks.specs.Descent.{Nodes, lined_up}

pub length_lined_up : (n : ℕ) → length (lined_up n) ≡ n
length_lined_up zero = refl
length_lined_up (suc n) = ap suc (length_lined_up n)

pub nodes_lined_up : (size n : ℕ) → n ≤ size → Nodes size (lined_up n)
nodes_lined_up size zero h = tt
nodes_lined_up size (suc n) h = (omega arith, h, nodes_lined_up size n (omega arith))
