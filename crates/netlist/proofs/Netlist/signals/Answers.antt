-- N is 1 to 4096.
use native.Mathlib.Omega.{arith}
use Rattle.netlist.proofs.InPlace.{size_range}
use Rattle.netlist.proofs.Netlist.signals.Goals as goal

pub returns : goal.returns
returns c =
    let size = size_range _ c.args.self.now.accepted in
    (c.field.ensures, omega (arith, c.field.ensures, size), omega (arith, c.field.ensures, size))
