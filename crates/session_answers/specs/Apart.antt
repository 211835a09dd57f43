-- An answer taken out of its 64 bits, as a caller in C does by the functions of include/cavundir.h (docs/PANEL.md). The caller knows the
-- kind of the call; answers of different kinds share bits (a read of 3, and a run of 3 cycles).
use Rattle.std.specs.Prelude.{ℕ, ◌/◌, ◌%◌, ◌^◌, Bool, eqb}
use Rattle.std.specs.Prelude.{if◌then◌else◌}
use Rattle.model.specs.Session.{Answer, refused, done, value, ran}

-- set and watch, read, run
pub data Kind : Type 0 where
  setting reading running : Kind

-- bits 56 to 63, bits 0 to 31, bits 0 to 15, bit 16
abbrev pub number_in : ℕ → ℕ
number_in bits = bits / 2 ^ 56

abbrev pub returned_in : ℕ → ℕ
returned_in bits = bits % 2 ^ 32

abbrev pub count_in : ℕ → ℕ
count_in bits = bits % 65536

abbrev pub stopped_in : ℕ → Bool
stopped_in bits = eqb (bits / 65536 % 2) 1

-- what a call that was not refused answers
abbrev pub accepted : Kind → ℕ → Answer
accepted setting bits = done
accepted reading bits = value (returned_in bits)
accepted running bits = ran (count_in bits) (stopped_in bits)

unfoldable pub apart : Kind → ℕ → Answer
apart k bits = if eqb (number_in bits) 0 then accepted k bits else refused (number_in bits) (returned_in bits)
