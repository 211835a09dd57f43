-- In a checked MOD line 1 is right (`header_line`), and its lines are laid (`lines_laid`).
use Rattle.std.proofs.Common.{arith}
use Rattle.buffers_load_files.proofs.Fields.{header_line, lines_laid}
use Rattle.buffers_load_files.proofs.table_of.Goals as goal

pub new-line-requires : goal.new-line-requires
new-line-requires c = (omega arith, header_line c.requires)

pub new-requires : goal.new-requires
new-requires c =
    let shape = rw (c.new-line.ensures.0, c.new-line.ensures.1) at c.of_line-shape.ensures in
    lines_laid c.requires _ _ shape.0 shape.1
