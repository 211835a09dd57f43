-- `reaches_itself` tells whether s is on a loop. The invariant is `Searching`; each turn has less left over.
use mathlib.Core.Path.{◌∙◌, ap}
use Rattle.graph_chains.specs.Search.{State, pushed_all}
use Rattle.graph_chains.proofs.Searching.{first_turn, next_turn, turn_less, top_low, search_tells}
use Rattle.graph_chains.proofs.reaches_itself.Goals as goal

pub loop-node-init : goal.loop-node-init
loop-node-init c =
    first_turn _ _ c.args.graph.now.is_graph.each _ _ (c.push_feeders.ensures ∙ ap (λ (at : State). pushed_all c.args.graph.now.edges at c.args.s) c.new-search.ensures)

pub push_feeders-requires-in-Some : goal.push_feeders-requires-in-Some
push_feeders-requires-in-Some c = top_low c.loop-node.invariant c.in-Some.ensures

pub loop-node-smaller : goal.loop-node-smaller
loop-node-smaller c =
    turn_less _ _ c.args.graph.now.is_graph.each c.args.s _ _ _ _ _ c.in-Some.ensures c.loop-node.invariant.room c.push_feeders-in-Some.ensures

pub loop-node-preserved : goal.loop-node-preserved
loop-node-preserved c =
    next_turn _ _ c.args.graph.now.is_graph.each _ _ _ _ _ _ c.in-Some.ensures c.loop-node.invariant c.push_feeders-in-Some.ensures

pub returns : goal.returns
returns c = rw c.from.ensures (search_tells _ _ _ _ c.loop-node.invariant c.in_default.ensures.0)
