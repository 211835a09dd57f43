-- `open_feeder` finds the first of the feeders that has no rank, from the last entry on.
use Rattle.std.proofs.Common.{rules, refl}
use borrow.Author.Tests.{tests}
use Rattle.std.proofs.lemmas.Iterator.{YieldsList-from_range, YieldsList-from_map, first_from_find}
use Rattle.graph_ranks.proofs.Feeders.{entry, IsOpen, IsShut, first_open}
use Rattle.graph_ranks.proofs.Graph.open_feeder.Goals as goal

pub returns : goal.returns
returns c =
    let edges = c.args.self.now.edges in
    let ranks = c.args.ranks.now in
    let y = c.args.node in
    first_open edges ranks y _
    (first_from_find _ _ _ (IsOpen edges ranks y) (IsShut edges ranks y) c.find.ensures.ran
    (YieldsList-from_map _ (entry edges ranks y) (YieldsList-from_range 0 4 4 c.map.ensures.source refl) c.map.ensures.closure (λ x r q k. search rules))
    (λ x q k. search (rules, tests))
    (λ x q k. search (rules, tests)))
