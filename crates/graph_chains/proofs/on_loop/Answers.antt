-- `on_loop` tells whether s is on a loop, by its rank, by `follow`, or by a search.
use mathlib.Core.Path.{sym, ◌∙◌}
use Rattle.graph_chains.proofs.Loops.{ranked_tells, unfollowed_tells}
use Rattle.graph_chains.proofs.on_loop.Goals.{then-ranks-place-eq0, else-ranks-place-eq0}
use Rattle.graph_chains.proofs.on_loop.Goals as goal

pub returns-else-graph-place : goal.returns-else-graph-place
returns-else-graph-place c = rw c.if-graph-place.false (elim c.if-ranks-place-eq0.branch [
  | then-ranks-place-eq0 w ↦ unfollowed_tells c.args.graph.now.is_graph c.args.s (rw c.from-place.ensures at (sym w.value-is ∙ c.if-graph-place.false))
  | else-ranks-place-eq0 w ↦ ranked_tells c.requires.ranked.right c.args.s (rw c.from-place.ensures at w.if-ranks-place-eq0.false)
])
