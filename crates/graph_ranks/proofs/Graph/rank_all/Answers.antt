-- `rank_all` begins with no ranks.
use borrow.Author.Rules.{rules}
use Rattle.graph_ranks.proofs.Passing.{start_ranked}
use Rattle.graph_ranks.proofs.Graph.rank_all.Goals as goal

pub rank_deep-requires : goal.rank_deep-requires
rank_deep-requires c = record { ranked_so_far = start_ranked _ _ _ c.args.ranks.now _ c.told-ranks (search rules) }
