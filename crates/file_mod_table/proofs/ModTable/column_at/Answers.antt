-- The line is right where it is read (`line_laid`), and the number is the module file's (`field_read`).
use mathlib.Core.Path.{◌∙◌}
use native.Mathlib.Omega.{arith}
use Rattle.file_mod_table.proofs.Slots.{line_within, line_laid, field_read}
use Rattle.file_mod_table.proofs.ModTable.column_at.Goals as goal

pub new-requires : goal.new-requires
new-requires c = (omega arith, line_laid _ _ _ _ (line_within c.args.self.now.laid c.requires.within) _ c.line_in-at.ensures.0)

pub returns : goal.returns
returns c =
    let number = rw (c.new.ensures.0, c.new.ensures.1) at c.number.ensures in
    number ∙ field_read _ _ _ _ (line_within c.args.self.now.laid c.requires.within) _ c.line_in-at.ensures.0 c.args.column
