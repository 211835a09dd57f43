-- The bytes are those of the program, one by one.
use borrow.Author.Rules.{rules}
use Rattle.buffers_tables.specs.Program.{line_processor, line_slot, line_column}
use Rattle.buffers_load_files.specs.Loaded.{program_byte, program_from}
use Rattle.buffers_load_program.proofs.load_program.Goals as goal

pub returns : goal.returns
unfolding program_from
returns c =
    rw c.told-program at
    (c.fill_by.ensures (λ a. program_byte c.args.table.now.modfile.now (line_processor a) (line_slot a) (line_column a)) (λ a x low q. search rules))
