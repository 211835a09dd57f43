-- The bytes that hold the machine's memory: for each of 16 processors the four parts in the order of their numbers (01, One cycle of the
-- machine), 256 locations each, and then 256 zeros, which an operand that is none reads.
use Rattle.std.specs.Prelude.{ℕ, ◌+◌, ◌*◌, ◌/◌, ◌%◌, ◌<◌, ◌≡◌, Bool, List, eqb, ltb, length, get_or}
use Rattle.logic.specs.Test.{◌and◌}
use Rattle.std.specs.Prelude.{if◌then◌else◌}
use Rattle.logic.specs.Listed.{listed}
use Rattle.gates.specs.Value.{Code}
use Rattle.model.specs.Module.{local_earlier, local_present, switch_earlier, switch_present}
use Rattle.model.specs.Machine.{Memory, nothing, fetch}
use Rattle.instruction.specs.declared.Operand.{Operand}
use Rattle.instruction.specs.declared.Operand.TheVariants.{LocalEarlier, LocalPresent, SwitchEarlier, SwitchPresent, None}

abbrev pub memory_length : ℕ
memory_length = 20480

-- the fifth part, which is none
abbrev pub blank : ℕ
blank = 4

-- the bytes of a processor, those of each of its parts, its parts, and the parts of all processors
abbrev pub processor_stride : ℕ
processor_stride = 1280

abbrev pub part_stride : ℕ
part_stride = 256

abbrev pub processor_parts : ℕ
processor_parts = 5

abbrev pub memory_parts : ℕ
memory_parts = 80

-- the byte of location k of a part of processor p
abbrev pub place : ℕ → ℕ → ℕ → ℕ
place p part k = processor_stride * p + part_stride * part + k

-- the processor, the part and the location of a byte
abbrev pub byte_processor : ℕ → ℕ
byte_processor a = a / processor_stride

abbrev pub byte_part : ℕ → ℕ
byte_part a = a % processor_stride / part_stride

abbrev pub byte_location : ℕ → ℕ
byte_location a = a % part_stride

-- the memory that bytes hold: "earlier" and "present" are roles
unfoldable pub memory_of : List ℕ → Memory
memory_of bytes =
    record {
      earlier_local = λ p k. get_or bytes (place p local_earlier k) 0;
      present_local = λ p k. get_or bytes (place p local_present k) 0;
      earlier_switch = λ p k. get_or bytes (place p switch_earlier k) 0;
      present_switch = λ p k. get_or bytes (place p switch_present k) 0;
    }

-- the part that an operand is fetched from
abbrev pub fetched_part : Operand → ℕ
fetched_part (LocalEarlier k) = local_earlier
fetched_part (LocalPresent k) = local_present
fetched_part (SwitchEarlier k) = switch_earlier
fetched_part (SwitchPresent k) = switch_present
fetched_part (None k) = blank

-- the bytes are of the right number, each is a value, and the fifth parts are blank
pub record MemoryBytes (bytes : List ℕ) : Type 0 where
  pub size : length bytes ≡ memory_length
  pub values : (a : ℕ) → a < memory_length → Code (get_or bytes a 0)
  pub blanks : (p k : ℕ) → p < 16 → k < part_stride → get_or bytes (place p blank k) 0 ≡ nothing

-- what the byte of location k of a part of processor p is after the memory w is written over old where the test of processor and
-- location passes; a fifth part keeps its bytes
unfoldable pub written_at : (ℕ → ℕ → Bool) → Memory → List ℕ → ℕ → ℕ → ℕ → ℕ
written_at test w old p part k = if test p k and ltb part blank then fetch w p part k else get_or old (place p part k) 0

unfoldable pub written : (ℕ → ℕ → Bool) → Memory → List ℕ → List ℕ
written test w old = listed memory_length (λ a. written_at test w old (byte_processor a) (byte_part a) (byte_location a))

-- p is one of the module's processors, and k one of its locations
unfoldable pub within : ℕ → ℕ → ℕ → ℕ → Bool
within processors slots p k = ltb p processors and ltb k slots

-- location k of processor p alone, and the locations of processor p below k
unfoldable pub here : ℕ → ℕ → ℕ → ℕ → Bool
here p k q x = eqb q p and eqb x k

unfoldable pub below : ℕ → ℕ → ℕ → ℕ → Bool
below p k q x = eqb q p and ltb x k

-- the bytes old with the memory w in the locations of a module of that many processors and slots; all other bytes stay
abbrev pub with_memory : ℕ → ℕ → Memory → List ℕ → List ℕ
with_memory processors slots w old = written (within processors slots) w old
