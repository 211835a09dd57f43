-- The bytes are those of the opening memory, one by one.
use borrow.Author.Rules.{rules}
use Rattle.buffers_memory.specs.Memory.{written, byte_processor, byte_part, byte_location}
use Rattle.buffers_load_files.specs.Checked.{value_in}
use Rattle.buffers_load_memory.specs.Bytes.{opening_byte}
use Rattle.buffers_load_memory.proofs.load_memory.Goals as goal

pub returns : goal.returns
unfolding written
returns c =
    rw c.told-memory at
    (c.fill_by.ensures (λ a. opening_byte c.args.table.now.modfile.now (value_in c.args.values.now) (byte_processor a) (byte_part a) (byte_location a)) (λ a x low q. search rules))
