-- `visit` stores the rank above the feeders, where there is one.
use Rattle.graph_ranks.proofs.Passing.{visit_new}
use Rattle.graph_ranks.proofs.Graph.visit.Goals as goal

pub returns : goal.returns
returns c =
    visit_new c.args.self.now c.requires.ranked_so_far _ _ _ c.from-place.ensures c.requires.is_node c.if-not-self-place.false c.if-ranks-place-ne0.false c.in-Some.ensures
