-- What a pair of a table line names (01, One cycle of the machine): "0 local, earlier half; 1 local, present half; 2 switch, earlier
-- half; 3 switch, present half", and 9 none.
use Rattle.std.specs.Prelude.{ℕ, eqb}
use Rattle.std.specs.Prelude.{if◌then◌else◌}
use Rattle.model.specs.Module.{local_earlier, local_present, switch_earlier, switch_present, no_part}
use Rattle.instruction.specs.declared.Operand.{Operand}
use Rattle.instruction.specs.declared.Operand.TheVariants.{LocalEarlier, LocalPresent, SwitchEarlier, SwitchPresent, None}

-- the operand of a pair: part, then location
unfoldable pub operand_of : ℕ → ℕ → Operand
operand_of part k =
    if eqb part local_earlier then LocalEarlier k else
    if eqb part local_present then LocalPresent k else
    if eqb part switch_earlier then SwitchEarlier k else
    if eqb part switch_present then SwitchPresent k else
    None k

-- the pair of an operand: "Part 9 with location 0 means none" (01, Files); none keeps the location of its pair
abbrev pub part_of : Operand → ℕ
part_of (LocalEarlier k) = local_earlier
part_of (LocalPresent k) = local_present
part_of (SwitchEarlier k) = switch_earlier
part_of (SwitchPresent k) = switch_present
part_of (None k) = no_part

abbrev pub location_of : Operand → ℕ
location_of (LocalEarlier k) = k
location_of (LocalPresent k) = k
location_of (SwitchEarlier k) = k
location_of (SwitchPresent k) = k
location_of (None k) = k
