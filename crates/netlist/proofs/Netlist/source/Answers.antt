-- The sources are the fields after the codes.
use native.Mathlib.Omega.{arith}
use Rattle.netlist.proofs.InPlace.{high}
use Rattle.netlist.proofs.Netlist.source.Goals as goal

pub field-requires : goal.field-requires
field-requires c = (high _ c.args.self.now.accepted _ c.requires.0, omega (arith, c.requires.1))
