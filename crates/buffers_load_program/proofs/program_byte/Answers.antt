-- `program_byte`: the module has the line, or the byte is 0.
use mathlib.Core.Path.{sym, ◌∙◌}
use native.Mathlib.Omega.{arith}
use Rattle.file_mod_table.proofs.Slots.{tested_within}
use Rattle.buffers_tables.specs.Program.{line_processor, line_slot, line_column}
use Rattle.buffers_load_files.proofs.Has.{has_place}
use Rattle.buffers_load_program.proofs.Program.{byte_within, byte_without}
use Rattle.buffers_load_program.proofs.program_byte.Goals as goal

pub returns-then-not-has : goal.returns-then-not-has
returns-then-not-has c = sym (byte_without _ _ _ _ (has_place c.args.table.now.laid.sized _ _ c.has.ensures ∙ c.if-not-has.true))

pub line_byte-requires-clause-within : goal.line_byte-requires-clause-within
line_byte-requires-clause-within c = tested_within c.args.table.now.shape _ _ (sym c.has.ensures ∙ c.if-not-has.false)

pub returns : goal.returns
returns c =
    let in-shape = tested_within c.args.table.now.shape _ _ (sym c.has.ensures ∙ c.if-not-has.false) in
    let sized = c.args.table.now.laid.sized in
    rw (byte_within c.args.table.now.modfile.now (line_processor c.args.a) (line_slot c.args.a) (line_column c.args.a) (omega (arith, in-shape.processor, sized.processors)) (omega (arith, in-shape.slot, sized.slots))) c.line_byte.ensures
