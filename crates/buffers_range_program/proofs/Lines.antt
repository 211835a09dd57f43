-- A line is judged at its place as the module's layout judges it.
use Prim.Native.Nat.{ℕ, ◌+◌, ◌*◌}
use mathlib.Core.Path.{◌≡◌, refl, ◌∙◌, ap₂}
use mathlib.Core.Bool.{Bool, true, false, not}
use mathlib.Core.List.{List}
use native.Mathlib.Omega.{arith}
use lib.Dec.{eqb, leb, ltb}
use Rattle.logic.specs.Test.{◌and◌, ◌or◌, all}
use Rattle.std.specs.Prelude.{if◌then◌else◌}
use Rattle.model.specs.Module.{switch_present}
use Rattle.model.specs.ModuleFile.{location_layout, operand_layout, send_layout, sender_layout}
use Rattle.buffers_tables.specs.Panel.{signals_in, processors_in, slots_in}
use Rattle.buffers_tables.specs.Program.{operands_column, pair_stride, operand_column, send_column, line_in, part_at, location_at, send_part_at, send_location_at}
use Rattle.buffers_tables.specs.Tables.{network_in, module_in}
use Rattle.buffers_range_program.specs.Ranges.{line_ranged}
use Rattle.instruction.specs.Sender.{sender_laid}
use Rattle.buffers_range_program.specs.Order.{pair_ranged, pair_at, operands_at, line_at}
use Rattle.logic.proofs.Tests.{all_four}
use Rattle.logic.proofs.Judged.{and_false}

-- a pair in the words of the layout
pair_order : (slots most part k : ℕ)
    → (leb part most or eqb part 9) and ltb k slots and (not (eqb part 9) or eqb k 0) ≡ pair_ranged slots most part k
unfolding pair_ranged ◌and◌ ◌or◌
pair_order slots most part k = go (leb part most) (eqb part 9) (ltb k slots) (eqb k 0)
  where
    go : (a b c d : Bool) → (a or b) and c and (not b or d) ≡ c and (if b then d else a)
    go a b false d = and_false (a or b)
    go true true true d = refl
    go false true true d = refl
    go true false true d = refl
    go false false true d = refl

module _ (panel program : List ℕ) (p i : ℕ) where
  operand_order : (j place : ℕ) → place ≡ line_in p i + operands_column + pair_stride * j
      → operand_layout (module_in panel program) p i j ≡ pair_at program place switch_present (slots_in panel)
  unfolding module_in operand_layout location_layout
  operand_order j place e =
      let q : place + 1 ≡ line_in p i + (operands_column + 1) + pair_stride * j = omega arith in
      pair_order (slots_in panel) 3 (part_at program p i j) (location_at program p i j) ∙ rw (q, e)

  operands_order : all 4 (operand_layout (module_in panel program) p i) ≡ operands_at program (line_in p i) (slots_in panel)
  unfolding operands_at
  operands_order =
      all_four (operand_layout (module_in panel program) p i)
      ∙ ap₂ ◌and◌ (operand_order 0 (line_in p i + operand_column 0) (omega arith))
      (ap₂ ◌and◌ (operand_order 1 (line_in p i + operand_column 1) (omega arith))
      (ap₂ ◌and◌ (operand_order 2 (line_in p i + operand_column 2) (omega arith)) (operand_order 3 (line_in p i + operand_column 3) (omega arith))))

  send_order : send_layout (module_in panel program) p i ≡ pair_at program (line_in p i + send_column) 1 (slots_in panel)
  unfolding module_in send_layout location_layout
  send_order =
      let q : line_in p i + send_column + 1 ≡ line_in p i + (send_column + 1) = omega arith in
      pair_order (slots_in panel) 1 (send_part_at program p i) (send_location_at program p i) ∙ rw q

  pub line_order : (place : ℕ) → place ≡ line_in p i
      → line_ranged (network_in panel program) (module_in panel program) p i ≡ line_at program place (signals_in panel) (processors_in panel) (slots_in panel)
  unfolding line_ranged network_in module_in sender_layout line_at sender_laid
  line_order place e = rw e (ap₂ ◌and◌ refl (ap₂ ◌and◌ operands_order (ap₂ ◌and◌ send_order refl)))
