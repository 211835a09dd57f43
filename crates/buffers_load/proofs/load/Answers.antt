-- `load`: the array of values is `time_zero`, and so the buffers by it are the buffers by the files.
use mathlib.Core.Path.{◌∙◌}
use Rattle.file_bytes.specs.Bytes.{bytes_of}
use Rattle.buffers_load_files.proofs.Fields.{schedules}
use Rattle.buffers_load.proofs.Opening.{panel_zeroth, opening_zeroth}
use Rattle.buffers_load.proofs.load.Goals as goal

pub table_of-table-requires : goal.table_of-table-requires
table_of-table-requires c = schedules _ _ c.requires.checked c.requires.modfile_value

pub returns-clause-panel_after : goal.returns-clause-panel_after
returns-clause-panel_after c =
    rw (c.table_of-table.ensures, c.new-net.ensures) at c.load_panel.ensures ∙ panel_zeroth (bytes_of c.args.files.now) _ (rw c.new-net.ensures at c.load_values-values.ensures) c.requires.checked

pub returns-clause-program_after : goal.returns-clause-program_after
returns-clause-program_after c = rw c.table_of-table.ensures at c.load_program.ensures

pub returns-clause-memory_after : goal.returns-clause-memory_after
returns-clause-memory_after c =
    rw c.table_of-table.ensures at c.load_memory.ensures ∙ opening_zeroth (bytes_of c.args.files.now) _ (rw c.new-net.ensures at c.load_values-values.ensures) c.requires.checked c.requires.modfile_value
