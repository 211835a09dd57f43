-- The counts are the placements of each signal, so the smallest not counted once is the answer of 22 (`counted_placed`).
use mathlib.Core.Path.{refl}
use native.Mathlib.Omega.{arith}
use lib.ListN.{get_or-replicate}
use Rattle.file_lines.proofs.Stages.{renamed}
use Rattle.file_mod.proofs.Counts.{counted_placed}
use Rattle.model.specs.Netlist.{network}
use Rattle.file_mod.proofs.Formed.{net_signals}
use Rattle.file_mod.proofs.check_placements.Goals as goal

pub count_signals-requires : goal.count_signals-requires
count_signals-requires c = λ s h. get_or-replicate 4097 s 0 0 (omega arith)

pub returns : goal.returns
returns c =
    let signals = c.signals.ensures in
    renamed refl (counted_placed _ _ _ (omega (arith, signals.0, signals.2)) c.count_signals.ensures (network c.args.net.now.net.now) (net_signals c.args.net.now.net.now _ signals.0)) c.find_unplaced.ensures
