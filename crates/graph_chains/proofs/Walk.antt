-- Where no node is on a loop, every followed node has a rank: from a node without one a walk back over such nodes would never end, and
-- so would come to a node again.
use Prim.Native.Nat.{ℕ, zero, suc, ◌+◌, ◌*◌, ◌≤◌, ◌<◌}
use mathlib.Core.Path.{◌≡◌, sym, subst, ◌∙◌}
use mathlib.Core.Bool.{Bool, true, false, true≢false}
use mathlib.Core.List.{List}
use mathlib.Core.Logic.{⊎_elim}
use Rattle.std.proofs.lemmas.Bool.{cases_Bool}
use native.Mathlib.Omega.{arith}
use lib.ListN.{length, get_or, set, replicate, length-set, length-replicate}
use Rattle.graph_ranks.specs.Graph.{places, Edge, Path, one, Followed, IsGraph, NoLoops}
use Rattle.graph_ranks.specs.Ranks.{Ranked}
use Rattle.graph_ranks.proofs.Stores.{read_cases, all_same}
use Rattle.graph_chains.specs.Search.{unmarked}
use Rattle.graph_chains.proofs.Unmarked.{unmarked_at, unmarked_filled}
use Rattle.graph_chains.proofs.Pushing.{Marked}
use Rattle.graph_chains.proofs.Searching.{edge_path}

module _ {follow : List Bool} {edges : List ℕ} {size : ℕ} {ranks : List ℕ} (g : IsGraph follow edges size) (r : Ranked follow edges size ranks)
    (no_loops : NoLoops edges size) where
  feeder_followed : {x y : ℕ} → Edge edges x y → Followed follow size x
  feeder_followed {x} {y} e = record {
    low = e.real;
    high = subst (λ (v : ℕ). v ≤ size) e.is_entry (g.each.within (4 * y + e.index));
    chosen = g.feeders x y e;
  }

  -- at the node c, the marked nodes being those passed; at most n nodes are left
  walk : (n c : ℕ) (marks : List Bool) → length marks ≡ places → unmarked marks ≤ n → ((z : ℕ) → Marked marks z → Path edges c z)
      → Followed follow size c → get_or ranks c 0 ≡ 0 → ⊥
  walk zero c marks long few paths f u =
      ⊎_elim
      (λ old. no_loops c f.low f.high (paths c old))
      (λ new. omega (arith, unmarked_at marks c (omega (arith, f.high, g.each.small)) new))
      (cases_Bool (get_or marks c false))
  walk (suc n) c marks long few paths f u =
      ⊎_elim
      (λ old. no_loops c f.low f.high (paths c old))
      (λ new.
      let back = r.rest c f u in
      let inside : c < length marks = omega (arith, f.high, g.each.small) in
      walk n back.feeder (set marks c true) (length-set marks c true ∙ long)
      (omega (arith, unmarked_filled marks c inside new))
      (λ z.
      read_cases (λ w v. v ≡ true → Path edges back.feeder w) marks c true false inside (λ _. one back.edge) z
      (λ _ m. edge_path back.edge (paths z m)))
      (feeder_followed back.edge)
      back.unranked)
      (cases_Bool (get_or marks c false))

  pub all_have_ranks : (y : ℕ) → Followed follow size y → 1 ≤ get_or ranks y 0
  all_have_ranks y f =
      let blank = replicate {A = Bool} places false in
      let ranked : (get_or ranks y 0 ≡ 0 → ⊥) =
      walk (unmarked blank) y blank (length-replicate {A = Bool} places false) (omega arith)
      (λ z m. absurd (true≢false (sym m ∙ all_same false places z)))
      f
      in
      omega arith
