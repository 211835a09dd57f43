-- A visit that ranks a node keeps the ranks right and leaves fewer nodes without one; where a pass ranks none, every node is ranked that can be.
use Prim.Native.Nat.{ℕ, ◌+◌, ◌≤◌}
use mathlib.Core.Path.{◌≡◌, sym, subst, ap, ◌∙◌}
use mathlib.Core.Bool.{Bool, true, false, true≢false}
use mathlib.Core.List.{List}
use native.Mathlib.Omega.{arith}
use lib.ListN.{length, get_or, set, replicate, length-replicate}
use Rattle.graph_ranks.specs.Graph.{places, Followed}
use Rattle.graph_ranks.specs.Ranks.{RankAbove, Ranked}
use Rattle.graph_ranks.specs.declared.Graph.{Graph}
use Rattle.graph_ranks.specs.Passes.{RankedSoFar}
use Rattle.graph_ranks.specs.Methods.{SomeRanked, Visited, Passed}
use Rattle.graph_ranks.proofs.Zeros.{zeros_filled, zeros_length}
use Rattle.graph_ranks.proofs.Stores.{all_same}
use Rattle.graph_ranks.proofs.Ranking.{rank_small, store_so_far}

module _ (g : Graph) where
  -- y, whose place it is, gets the rank h
  pub visit_new : {ranks : List ℕ} → SomeRanked g ranks → (y place h : ℕ) → place ≡ y → (1 ≤ y) × (y ≤ g.size)
      → get_or g.follow place false ≡ true → get_or ranks place 0 ≡ 0 → RankAbove g.edges ranks y 4 h
      → Visited g y ranks (set ranks place h) true
  visit_new {ranks} s y place h here node marked bare above = rw here (record {
    so_far = store_so_far s y h g.is_graph.each.small followed unranked above;
    fewer = λ _. omega (arith, zeros_filled ranks y h (omega (arith, s.long, g.is_graph.each.small, node.1)) unranked (omega (arith, above.is)));
    same = λ e. absurd (true≢false e);
    still = λ e. absurd (true≢false e);
  })
    where
      unranked : get_or ranks y 0 ≡ 0
      unranked = rw here at bare

      followed : Followed g.follow g.size y
      followed = record { low = node.0; high = node.1; chosen = rw here at marked }

  -- a pass ranked none
  pub all_ranked : {before ranks : List ℕ} {gained : Bool} → Passed g (g.size + 1) before ranks gained → gained ≡ false
      → Ranked g.follow g.edges g.size ranks
  all_ranked p e = record {
    right = p.so_far.right;
    rest = λ y f. p.still e y (omega (arith, f.high)) f;
    small = rank_small p.so_far;
  }

-- before the first pass
none_ranked : (follow : List Bool) (edges : List ℕ) (size : ℕ) → RankedSoFar follow edges size (replicate places 0)
none_ranked follow edges size = record {
  long = length-replicate {A = ℕ} places 0;
  right = record {
    others = λ y _. all_same {A = ℕ} 0 places y;
    grounded = λ x y l. absurd (none y l);
    exact = λ y l. absurd (none y l);
  };
  few = λ y. omega (arith, all_same {A = ℕ} 0 places y, zeros_length (replicate places 0), length-replicate {A = ℕ} places 0);
}
  where
    none : (y : ℕ) → 1 ≤ get_or (replicate places 0) y 0 → ⊥
    none y l = omega (arith, all_same {A = ℕ} 0 places y)

pub start_ranked : (follow : List Bool) (edges : List ℕ) (size : ℕ) (l ranks : List ℕ) → length l ≡ places → ranks ≡ replicate (length l) 0
    → RankedSoFar follow edges size ranks
start_ranked follow edges size l ranks e q =
    subst (RankedSoFar follow edges size) (sym (q ∙ ap (λ (n : ℕ). replicate n 0) e)) (none_ranked follow edges size)
