-- What stands at the place of an operand is what the machine fetches, for the four parts and none alike.
use Prim.Native.Nat.{ℕ, ◌<◌}
use mathlib.Core.Path.{◌≡◌, refl}
use mathlib.Core.List.{List}
use lib.ListN.{get_or}
use Rattle.model.specs.Machine.{fetch}
use Rattle.instruction.specs.declared.Operand.{Operand}
use Rattle.instruction.specs.declared.Operand.TheVariants.{LocalEarlier, LocalPresent, SwitchEarlier, SwitchPresent, None}
use Rattle.instruction.specs.Operand.{part_of, location_of}
use Rattle.buffers_memory.specs.Memory.{part_stride, place, memory_of, fetched_part, MemoryBytes}

pub fetched_there : (bytes : List ℕ) (p : ℕ) (a : Operand) → MemoryBytes bytes → p < 16 → location_of a < part_stride
    → get_or bytes (place p (fetched_part a) (location_of a)) 0 ≡ fetch (memory_of bytes) p (part_of a) (location_of a)
unfolding fetch memory_of
fetched_there bytes p (LocalEarlier k) h l b = refl
fetched_there bytes p (LocalPresent k) h l b = refl
fetched_there bytes p (SwitchEarlier k) h l b = refl
fetched_there bytes p (SwitchPresent k) h l b = refl
fetched_there bytes p (None k) h l b = h.blanks p k l b
