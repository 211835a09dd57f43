-- The pieces of the line, each where the one before it ends.
use Rattle.charts.proofs.Writing.{row_stored}
use Rattle.charts.proofs.write_row.Goals as goal

pub returns : goal.returns
returns c =
    row_stored _ _ _ c.requires.1 _ _ _ _ _ _ c.write_field.ensures c.write_spaces.ensures c.write_glyphs.ensures
    c.write_spaces-2.ensures
