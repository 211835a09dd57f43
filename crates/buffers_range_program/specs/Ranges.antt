-- 44 (01, Refusals), of the program. Numbers that are not in use are 0.
use Rattle.std.specs.Prelude.{ℕ, ◌*◌, ◌/◌, ◌%◌, Bool, List, leb}
use Rattle.logic.specs.Test.{◌and◌, all}
use Rattle.std.specs.Prelude.{if◌then◌else◌}
use Rattle.model.specs.Network.{Network}
use Rattle.model.specs.Module.{Module}
use Rattle.model.specs.ModuleFile.{operand_layout, send_layout, sender_layout}
use Rattle.buffers_memory.specs.Memory.{within}
use Rattle.buffers_tables.specs.Panel.{processors_in, slots_in}
use Rattle.buffers_tables.specs.Program.{line_stride, slot_lines}
use Rattle.buffers_tables.specs.Tables.{network_in, module_in}
use Rattle.buffers_runs.specs.Zeros.{zeros}

-- the line of processor p and slot i: "signal (1 to N, or 0: empty slot)", the pairs, and the processor received from
unfoldable pub line_ranged : Network → Module → ℕ → ℕ → Bool
line_ranged n m p i = leb (m.signal p i) n.size and all 4 (operand_layout m p i) and send_layout m p i and sender_layout m p i

-- every line of the program, slot by slot: the k-th is that of processor k % 16 and slot k / 16
unfoldable pub program_ranged : List ℕ → List ℕ → Bool
program_ranged panel program =
    all 4096 (λ k.
    if within (processors_in panel) (slots_in panel) (k % slot_lines) (k / slot_lines)
    then line_ranged (network_in panel program) (module_in panel program) (k % slot_lines) (k / slot_lines)
    else zeros program (line_stride * k) line_stride)
