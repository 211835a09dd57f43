-- The order in which the code judges the memory, part by part: it mirrors private functions, and `memory_ranged` is what a caller reads.
use Rattle.std.specs.Prelude.{ℕ, ◌+◌, ◌-◌, ◌*◌, ◌/◌, ◌%◌, Bool, List, leb, ltb, get_or}
use Rattle.logic.specs.Test.{◌and◌, all}
use Rattle.std.specs.Prelude.{if◌then◌else◌}
use Rattle.buffers_memory.specs.Memory.{part_stride, processor_parts, memory_parts, blank}
use Rattle.buffers_runs.specs.Zeros.{zeros}

-- how many values part j of the memory holds, the j-th being that of processor j / 5: C, or none
unfoldable pub values_in : ℕ → ℕ → ℕ → ℕ
values_in processors slots j = if ltb (j / processor_parts) processors and ltb (j % processor_parts) blank then slots else 0

-- the 256 bytes of a part: values in the module's slots, and zeros
unfoldable pub part_at : List ℕ → ℕ → ℕ → Bool
part_at memory at values =
    all values (λ k. leb (get_or memory (at + k) 0) 3)
    and zeros memory (at + values) (part_stride - values)

unfoldable pub parts_at : List ℕ → ℕ → ℕ → Bool
parts_at memory processors slots = all memory_parts (λ j. part_at memory (part_stride * j) (values_in processors slots j))
