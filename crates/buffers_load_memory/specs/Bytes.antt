-- What a byte of the opening memory is, by the signals' time 0 values. They mirror private functions: `opening_bytes` is what a caller reads.
use Rattle.std.specs.Prelude.{ℕ, List}
use Rattle.std.specs.Prelude.{if◌then◌else◌}
use Rattle.logic.specs.Listed.{listed}
use Rattle.model.specs.Value.{value_of}
use Rattle.model.specs.Module.{Module, received, sent_signal}
use Rattle.model.specs.Machine.{opening}
use Rattle.model.specs.ModuleFile.{mod_processors, mod_slots, module_of}
use Rattle.buffers_memory.specs.Memory.{memory_length, written_at, within}

-- the time 0 value of the signal sent into switch location k of processor p, and 0 where nothing is received
unfoldable pub sent_value : Module → (ℕ → ℕ) → ℕ → ℕ → ℕ
sent_value m zeroth p k = if received m p k then value_of zeroth (sent_signal m p k) else 0

-- the byte of location k of a part of processor p in the opening memory
abbrev pub opening_byte : List ℕ → (ℕ → ℕ) → ℕ → ℕ → ℕ → ℕ
opening_byte modfile zeroth p part k =
    written_at (within (mod_processors modfile) (mod_slots modfile)) (opening (module_of modfile) zeroth) (listed memory_length (λ a. 0)) p part k
