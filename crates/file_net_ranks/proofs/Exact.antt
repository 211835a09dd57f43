-- The ranks of the graph of a checked NET are `rank_of`: no chain is closed, so that every rank-order gate has a rank, and the numbering
-- follows the rules of ranks, which one numbering does.
use Prim.Native.Nat.{ℕ, zero, suc, ◌≤◌, max}
use mathlib.Core.Path.{◌≡◌, refl, sym, ◌∙◌, ap, ap₂}
use mathlib.Core.Bool.{Bool, true, false, true≢false}
use mathlib.Core.List.{List}
use native.Mathlib.Omega.{arith}
use native.Mathlib.Numerals.{add-one}
use lib.ListN.{length, get_or}
use Rattle.std.specs.Prelude.{if◌then◌else◌}
use Rattle.logic.proofs.Listed.{is_listed}
use Rattle.graph_ranks.specs.Graph.{Followed, NoLoops}
use Rattle.graph_ranks.specs.Ranks.{highest_to, Ranked}
use Rattle.graph_chains.proofs.Walk.{all_have_ranks}
use Rattle.model.specs.Network.{Signal, is_signal, rank_order}
use Rattle.model.specs.Netlist.{net_size, network}
use Rattle.model.specs.Value.{value_of}
use Rattle.model.specs.Ranks.{highest, Ranks, rank_of}
use Rattle.model.specs.Checked.{Checked}
use Rattle.model.proofs.Chains.{signal_true, signal_test}
use Rattle.model.proofs.Ranks.{rank_follows, ranks_unique}
use Rattle.model.proofs.Checked.{checked_formed, checked_acyclic}
use Rattle.file_net_graph.specs.Lines.{Lines}
use Rattle.file_net_graph.specs.Graph.{follow_of, edges_of}
use Rattle.file_net_graph.proofs.Closed.{graph, path_chain, followed_signal, followed_gate, gate_followed, entry_cases}
use Rattle.file_net_graph.proofs.Checked.{checked_lines}
use Rattle.file_net_ranks.specs.Ranks.{ranks_of}

module _ (net : List ℕ) (checked : Checked net) (size : ℕ) (is : size ≡ net_size net) where
  lines : Lines net size
  lines = checked_lines net checked size is

  -- no closed chain is no loop
  no_loops : NoLoops (edges_of net size) size
  no_loops s low high loop = checked_acyclic net checked s (path_chain net size lines loop)

  module _ (ranks : List ℕ) (ranked : Ranked (follow_of net size) (edges_of net size) size ranks) where
    abbrev rank : ℕ → ℕ
    rank s = get_or ranks s 0

    none_at_0 : rank 0 ≡ 0
    none_at_0 = ranked.right.others 0 (λ (f : Followed (follow_of net size) size 0). omega (arith, f.low))

    -- what an entry's rank is to the graph, a source's is to the network
    followed_rank : (x : ℕ) → Followed (follow_of net size) size x → rank x ≡ value_of rank x
    followed_rank zero f = absurd (omega (arith, f.low))
    followed_rank (suc x) f = refl

    other_rank : (x : ℕ) → (Followed (follow_of net size) size x → ⊥) → rank 0 ≡ value_of rank x
    other_rank zero out = none_at_0
    other_rank (suc x) out = none_at_0 ∙ sym (ranked.right.others (suc x) out)

    highest_same : (y : ℕ) → Followed (follow_of net size) size y → (j : ℕ) → j ≤ 4
        → highest_to (edges_of net size) ranks y j ≡ highest (network net) rank y j
    unfolding highest_to highest
    highest_same y f zero h = refl
    highest_same y f (suc j) h =
        ap₂ max (highest_same y f j (omega arith))
        (entry_cases net size lines (λ x. rank x ≡ value_of rank ((network net).source y j)) y j f (omega arith)
        (followed_rank ((network net).source y j))
        (other_rank ((network net).source y j)))

    -- what is no rank-order gate is not followed
    others_0 : (s : ℕ) → ((network net).kind s ≡ rank_order → ⊥) → rank s ≡ 0
    others_0 s other = ranked.right.others s (λ f. other (followed_gate net size lines s f))

    -- every gate has a rank, and each as the rules say
    follows : Ranks (network net) rank
    follows = record {
      inputs = λ s g k. others_0 s (λ (z : (network net).kind s ≡ rank_order). omega arith);
      unit_delays = λ s g k. others_0 s (λ (z : (network net).kind s ≡ rank_order). omega arith);
      rank_orders = λ s g k.
          let f = gate_followed net size lines s g k in
          ranked.right.exact s (all_have_ranks (graph net size lines) ranked no_loops s f)
          ∙ add-one _ ∙ ap suc (highest_same s f 4 (omega arith));
    }

    signal_rank : (s : ℕ) → Signal (network net) s → rank s ≡ rank_of (network net) s
    signal_rank =
        let formed = checked_formed net checked in
        let acyclic = checked_acyclic net checked in
        ranks_unique (network net) formed acyclic rank (rank_of (network net)) follows (rank_follows (network net) formed acyclic)

    -- a place that is no signal's is not followed either
    place_rank : (s : ℕ) → rank s ≡ (if is_signal (network net) s then rank_of (network net) s else 0)
    place_rank s = go (is_signal (network net) s) refl
      where
        go : (b : Bool) → is_signal (network net) s ≡ b → rank s ≡ (if b then rank_of (network net) s else 0)
        go true e = signal_rank s (signal_true (network net) s e)
        go false e =
            ranked.right.others s
            (λ f. true≢false (sym (signal_test (network net) s (followed_signal net size lines s f)) ∙ e))

    pub ranks_exact : length ranks ≡ 4097 → ranks ≡ ranks_of (network net)
    unfolding ranks_of
    ranks_exact long = is_listed ranks 4097 _ long (λ s l. place_rank s)
