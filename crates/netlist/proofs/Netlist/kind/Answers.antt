-- The number of a signal's kind names one.
use native.Mathlib.Omega.{arith}
use Rattle.std.proofs.Common.{◌∙◌, Ok}
use Rattle.netlist.specs.Kind.{Decodes}
use Rattle.netlist.proofs.InPlace.{high, kind_named, kind_is}
use Rattle.netlist.proofs.Netlist.kind.Goals as goal

pub field-requires : goal.field-requires
field-requires c = (high _ c.args.self.now.accepted _ c.requires, omega arith)

pub unwrap-requires : goal.unwrap-requires
unwrap-requires c = kind_named _ c.args.self.now.accepted _ c.requires _ (rw c.field.ensures at c.try_from.ensures)

pub returns : goal.returns
returns c =
    let named : Decodes c.field.result (Ok c.unwrap.result) = rw c.unwrap.ensures at c.try_from.ensures in
    named ∙ c.field.ensures ∙ kind_is _ _
