-- `line_byte` reads the column of MOD that the byte is; what 21 leaves of the line bounds it.
use Prim.Native.Nat.{◌≤◌}
use native.Mathlib.Omega.{arith}
use Rattle.file_mod_table.proofs.Slots.{line_within}
use Rattle.buffers_tables.specs.Program.{operands_column}
use Rattle.buffers_load_program.proofs.Line.{column_small, line_column_lem}
use Rattle.buffers_load_program.proofs.line_byte.Goals as goal

pub overflow_cast-result : goal.overflow_cast-result
overflow_cast-result c =
    let high : operands_column ≤ c.args.column = omega arith in
    omega (arith, c.column_at-2.ensures, column_small (line_within c.args.table.now.laid c.requires.within) c.args.column high c.requires.column_bound)

pub returns : goal.returns
returns c =
    let high : operands_column ≤ c.args.column = omega arith in
    rw (line_column_lem c.args.table.now.modfile.now c.args.place.processor c.args.place.slot.0 c.args.column high c.requires.column_bound) c.column_at-2.ensures
