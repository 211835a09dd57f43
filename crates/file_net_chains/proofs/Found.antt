-- 13 from the graph's loops: the smallest node on a loop is the smallest signal on a closed chain, and no loop is no closed chain.
use Prim.Native.Nat.{ℕ, ◌≤◌}
use mathlib.Core.Path.{◌≡◌, sym}
use mathlib.Core.List.{List}
use Rattle.std.specs.Prelude.{Option, Some, None}
use Rattle.graph_ranks.specs.Graph.{SmallestLoop, NoLoops, FirstLoop}
use Rattle.model.specs.Refusal.{pass, fail}
use Rattle.model.specs.Netlist.{network, net_chains}
use Rattle.model.proofs.Chains.{chain_signal, chains_acyclic, chains_smallest}
use Rattle.file_net_graph.specs.Lines.{Lines}
use Rattle.file_net_graph.specs.Graph.{edges_of}
use Rattle.file_net_graph.proofs.Closed.{path_chain, chain_path}
use Rattle.file_net_chains.specs.Chain.{chain_check}

module _ (net : List ℕ) (size : ℕ) (right : Lines net size) where
  found : (r : ℕ) → SmallestLoop (edges_of net size) size r → fail 13 r ≡ net_chains net
  found r least =
      sym (chains_smallest net r
      (record {
        closed = path_chain net size right least.loops;
        no_smaller = λ s l c. least.smallest s (chain_signal c).low l (chain_path net size right c);
      }))

  none : NoLoops (edges_of net size) size → pass ≡ net_chains net
  unfolding network
  none loopless =
      sym (chains_acyclic net (λ s c. loopless s (chain_signal c).low (top s (chain_signal c).high) (chain_path net size right c)))
    where
      top : (s : ℕ) → s ≤ (network net).size → s ≤ size
      top s h = rw right.is h

  pub chain_found : (r : Option ℕ) → FirstLoop (edges_of net size) size r → chain_check r ≡ net_chains net
  chain_found None = none
  chain_found (Some r) = found r
