-- `first_loop` finds the first node that is on a loop.
use borrow.Author.Rules.{rules}
use Rattle.std.proofs.lemmas.Iterator.{first_from_Range}
use Rattle.graph_ranks.specs.Graph.{Loops}
use Rattle.graph_chains.proofs.Loops.{first_found}
use Rattle.graph_chains.proofs.first_loop.Goals as goal

pub returns : goal.returns
returns c =
    let edges = c.args.graph.now.edges in
    first_found _ _ _ (first_from_Range _ _ _ _ (λ s. Loops edges s) (λ s. Loops edges s → ⊥) c.find.ensures.ran (λ s q k. search rules) (λ s q k. search rules))
