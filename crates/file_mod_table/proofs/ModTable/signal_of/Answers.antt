-- Line k is right at its offset (`line_there`), and its signal is at most 4096 (`signal_few`).
use mathlib.Core.Path.{◌∙◌}
use native.Mathlib.Omega.{arith}
use Rattle.file_mod_table.proofs.Numbered.{line_there, signal_few}
use Rattle.file_mod_table.proofs.ModTable.signal_of.Goals as goal

pub new-requires : goal.new-requires
new-requires c = (omega arith, rw c.from.ensures (line_there _ _ _ c.args.self.now.laid _ c.requires))

pub returns : goal.returns
returns c =
    let number = rw (c.new.ensures.0, c.new.ensures.1, c.from.ensures) at c.number.ensures in
    let is = c.from-2.ensures ∙ number in
    (is, omega (arith, is, signal_few _ _ _ c.args.self.now.laid _ c.requires))
