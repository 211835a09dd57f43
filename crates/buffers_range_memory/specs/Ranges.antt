-- 44 (01, Refusals), of the memory. Bytes that are not in use are 0.
use Rattle.std.specs.Prelude.{ℕ, Bool, List, leb, ltb, get_or}
use Rattle.logic.specs.Test.{◌and◌, all}
use Rattle.std.specs.Prelude.{if◌then◌else◌}
use Rattle.buffers_memory.specs.Memory.{memory_length, blank, byte_processor, byte_part, byte_location, within}
use Rattle.buffers_tables.specs.Panel.{processors_in, slots_in}

-- every byte of the memory: a value 0 to 3 in the module's locations, 0 elsewhere
unfoldable pub memory_ranged : List ℕ → List ℕ → Bool
memory_ranged panel memory =
    all memory_length (λ a.
    leb (get_or memory a 0)
    (if within (processors_in panel) (slots_in panel) (byte_processor a) (byte_location a) and ltb (byte_part a) blank then 3 else 0))
