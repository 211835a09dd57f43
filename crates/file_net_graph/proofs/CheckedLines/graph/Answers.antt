-- The marks and then the entries, each from an array of zeros: they are the graph of the rank-order gates.
use Rattle.file_net_graph.proofs.Loading.{entries_loaded}
use Rattle.file_net_graph.proofs.Closed.{graph_loaded}
use Rattle.file_net_graph.proofs.CheckedLines.graph.Goals as goal

pub invariant_of-result : goal.invariant_of-result
invariant_of-result c = record { is_graph = graph_loaded _ _ _ _ c.args.self.now.lines c.mark_followed.ensures c.load_edges.ensures }

pub returns-clause-edges : goal.returns-clause-edges
returns-clause-edges c = entries_loaded _ _ _ _ c.mark_followed.ensures c.load_edges.ensures
