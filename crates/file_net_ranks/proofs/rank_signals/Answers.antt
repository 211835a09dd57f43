-- A checked NET has right lines (`checked_lines`).
use Rattle.netlist.proofs.InPlace.{checked}
use Rattle.file_net_graph.proofs.Checked.{checked_lines}
use Rattle.file_net_ranks.proofs.rank_signals.Goals as goal

pub new-lines-requires : goal.new-lines-requires
new-lines-requires c = checked_lines _ (checked _ c.args.net.now.accepted) _ c.signals.ensures.0
