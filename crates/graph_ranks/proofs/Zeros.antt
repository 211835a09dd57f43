-- Laws of `zeros`.
use Prim.Native.Nat.{ℕ, ◌+◌, ◌<◌, ◌≤◌}
use mathlib.Core.Path.{◌≡◌}
use mathlib.Core.List.{List}
use native.Mathlib.Omega.{arith}
use lib.Dec.{eqb}
use lib.ListN.{length, get_or, set}
use borrow.Author.Tests.{eq-eqb, ne_eqb}
use Rattle.logic.proofs.Tests.{count_length}
use Rattle.logic.proofs.Counts.{count_at}
use Rattle.graph_ranks.specs.Zeros.{zeros}
use Rattle.graph_ranks.proofs.Stores.{count_filled}

pub zeros_length : (l : List ℕ) → zeros l ≤ length l
unfolding zeros
zeros_length l = count_length (λ (x : ℕ). eqb x 0) l

-- a 0 is counted
pub zeros_at : (l : List ℕ) (i : ℕ) → i < length l → get_or l i 0 ≡ 0 → 1 ≤ zeros l
unfolding zeros
zeros_at l i h e = count_at (λ (x : ℕ). eqb x 0) l i 0 h (eq-eqb (get_or l i 0) 0 e)

-- one 0 fewer
pub zeros_filled : (l : List ℕ) (i v : ℕ) → i < length l → get_or l i 0 ≡ 0 → 1 ≤ v → zeros (set l i v) + 1 ≡ zeros l
unfolding zeros
zeros_filled l i v h e k =
    count_filled (λ (x : ℕ). eqb x 0) l i v 0 h (eq-eqb (get_or l i 0) 0 e) (ne_eqb v 0 (λ (q : v ≡ 0). omega arith))
