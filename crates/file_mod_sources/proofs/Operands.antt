-- 23: an operand as it is read of a right line.
use Prim.Native.Nat.{ℕ, ◌<◌}
use mathlib.Core.Path.{◌≡◌, refl, sym, ap, ◌∙◌}
use mathlib.Core.Bool.{false}
use mathlib.Core.List.{List}
use native.Mathlib.Omega.{arith}
use lib.Dec.{eqb}
use Rattle.model.specs.Module.{Module, no_part}
use Rattle.model.specs.ModuleFile.{module_of}
use Rattle.instruction.specs.Operand.{part_of, location_of}
use Rattle.instruction.specs.Instruction.{operand_named}
use Rattle.instruction.specs.declared.Operand.{Operand}
use Rattle.instruction.specs.declared.Operand.TheVariants.{LocalEarlier, LocalPresent, SwitchEarlier, SwitchPresent, None}
use Rattle.instruction.proofs.Pairs.{part_of_pair, location_of_pair}
use Rattle.file_mod_lines.specs.declared.Shape.{Shape}
use Rattle.file_mod_table.specs.Line.{LinesLaid, Within, LineOf}
use Rattle.file_mod_table.proofs.Slots.{line_within, slot_laid, operand_low}

pub none_apart : (a : Operand) → ((k : ℕ) → a ≡ None k → ⊥) → false ≡ eqb (part_of a) no_part
none_apart (LocalEarlier k) d = refl
none_apart (LocalPresent k) d = refl
none_apart (SwitchEarlier k) d = refl
none_apart (SwitchPresent k) d = refl
none_apart (None k) d = absurd (d k refl)

-- operand j of a line is a
pub record Names (m : Module) (p i j : ℕ) (a : Operand) : Type 0 where
  pub part : m.part p i j ≡ part_of a
  pub location : m.location p i j ≡ location_of a

-- the operand that is read of a right line
module _ {l : List ℕ} {shape : Shape} {p i j : ℕ} (laid : LinesLaid l shape.processors shape.slots) (within : Within shape p i) (low : j < 4)
    {a : Operand} (is : a ≡ operand_named (module_of l) p i j) where
  line : LineOf l shape.slots p i
  line = line_within laid within

  pub operand_names : Names (module_of l) p i j a
  operand_names =
      let known = ((slot_laid l shape.slots p i line).operand j low).part_known in
      record { part = sym (ap part_of is ∙ part_of_pair _ _ known); location = sym (ap location_of is ∙ location_of_pair _ _) }

  pub operand_within : Within shape p (location_of a)
  operand_within = record { processor = within.processor; slot = omega (arith, operand_low l shape.slots p i line j low, operand_names.location) }
