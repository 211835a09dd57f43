-- 23: what is wanted of an operand, by the gate that is found for it.
use Prim.Native.Nat.{ℕ}
use mathlib.Core.Path.{◌≡◌}
use lib.Dec.{eqb}
use Rattle.std.specs.Prelude.{None, Some}
use Rattle.model.specs.Network.{Network}
use Rattle.model.specs.Module.{no_part, operand_right}
use Rattle.model.specs.ModuleFile.{module_of}
use Rattle.instruction.specs.Operand.{part_of, location_of}
use Rattle.instruction.specs.declared.Operand.{Operand}
use Rattle.file_mod_lines.specs.declared.Place.{Place}
use Rattle.file_mod_table.specs.declared.ModTable.{ModTable}
use Rattle.file_mod_sources.specs.declared.gate.Gate.{Gate}
use Rattle.file_mod_sources.specs.Found.{FoundGate}
use Rattle.file_mod_sources.specs.Mirror.{gate_reads}
use Rattle.file_mod_sources.proofs.Operands.{Names}

-- operand j of the line is a, where no gate is found, and where one is
module _ (n : Network) (table : ModTable) (place : Place) (j : ℕ) (a : Operand) (names : Names (module_of table.modfile.now) place.processor place.slot.0 j a) where
  pub operand_free : FoundGate n table place j None → operand_right n (module_of table.modfile.now) place.processor place.slot.0 j ≡ eqb (part_of a) no_part
  unfolding operand_right
  operand_free free = rw (free, names.part)

  pub operand_reads : (gate : Gate) → FoundGate n table place j (Some gate) → operand_right n (module_of table.modfile.now) place.processor place.slot.0 j
      ≡ gate_reads gate.table.now.modfile.now gate.place gate.kind gate.source (part_of a) (location_of a)
  unfolding operand_right
  operand_reads gate found = rw (found.0, names.part, names.location, found.3, found.4, found.2, found.1)
