-- A node that has a rank is on no loop, since ranks rise along edges; and one that is not followed is on none, since it feeds nothing.
use Prim.Native.Nat.{ℕ, ◌+◌, ◌≤◌, ◌<◌}
use mathlib.Core.Path.{◌≡◌, sym, subst, ◌∙◌}
use mathlib.Core.Bool.{Bool, true, false, true≢false}
use mathlib.Core.List.{List}
use native.Mathlib.Omega.{arith}
use Rattle.std.specs.Prelude.{Option, Some, None, MatchOption}
use lib.ListN.{get_or}
use Rattle.graph_ranks.specs.Graph.{Edge, Path, one, more, Loops, IsGraph, Decides, FirstLoop}
use Rattle.graph_ranks.specs.Ranks.{highest, RanksRight}
use Rattle.graph_ranks.proofs.Ranking.{highest_above}

module _ {follow : List Bool} {edges : List ℕ} {size : ℕ} {ranks : List ℕ} (r : RanksRight follow edges size ranks) where
  -- the rank rises along an edge
  pub edge_rises : {x y : ℕ} → 1 ≤ get_or ranks y 0 → Edge edges x y → get_or ranks x 0 < get_or ranks y 0
  edge_rises {x} {y} l e =
      let below = highest_above edges ranks y 4 e.index e.small in
      omega (arith, r.exact y l, subst (λ (w : ℕ). get_or ranks w 0 ≤ highest edges ranks y) e.is_entry below)

  path_rises : {a b : ℕ} → 1 ≤ get_or ranks b 0 → Path edges a b → get_or ranks a 0 < get_or ranks b 0
  path_rises l (one e) = edge_rises l e
  path_rises {a} {b} l (more {b = m} p e) =
      omega (arith, edge_rises l e, path_rises (r.grounded m b l e) p)

  pub ranked_no_loop : (s : ℕ) → 1 ≤ get_or ranks s 0 → Loops edges s → ⊥
  ranked_no_loop s l p = omega (arith, path_rises l p)

-- what a path begins with feeds
path_followed : {follow : List Bool} {edges : List ℕ} {size : ℕ} → IsGraph follow edges size → {a b : ℕ} → Path edges a b → get_or follow a false ≡ true
path_followed g {a} {b} (one e) = g.feeders a b e
path_followed g (more p e) = path_followed g p

-- the ways to tell that s is on no loop
no_loop : {edges : List ℕ} {s : ℕ} → (Loops edges s → ⊥) → Decides (Loops edges s) false
no_loop n = record { holds = λ e. absurd (true≢false (sym e)); fails = λ _. n }

pub ranked_tells : {follow : List Bool} {edges : List ℕ} {size : ℕ} {ranks : List ℕ} → RanksRight follow edges size ranks
    → (s : ℕ) → (get_or ranks s 0 ≡ 0 → ⊥) → Decides (Loops edges s) false
ranked_tells r s n = no_loop (ranked_no_loop r s (omega arith))

pub unfollowed_tells : {follow : List Bool} {edges : List ℕ} {size : ℕ} → IsGraph follow edges size
    → (s : ℕ) → get_or follow s false ≡ false → Decides (Loops edges s) false
unfollowed_tells g s e = no_loop (λ p. true≢false (sym (path_followed g p) ∙ e))

-- the first of 1 to size that is on a loop
pub first_found : (edges : List ℕ) (size : ℕ) (r : Option ℕ)
    → MatchOption r ((k : ℕ) → 1 ≤ k → k < size + 1 → Loops edges k → ⊥)
    (λ i. (1 ≤ i) × (i < size + 1) × Loops edges i × ((k : ℕ) → 1 ≤ k → k < i → Loops edges k → ⊥))
    → FirstLoop edges size r
first_found edges size None none = λ s low high. none s low (omega arith)
first_found edges size (Some r) is = record { low = is.0; high = omega (arith, is.1); loops = is.2; smallest = is.3 }
