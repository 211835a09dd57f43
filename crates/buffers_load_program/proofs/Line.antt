-- The bytes of a right line of MOD: which column each is, and that all but the signal are below 256.
use Prim.Native.Nat.{ℕ, zero, suc, ◌+◌, ◌*◌, ◌<◌, ◌≤◌}
use mathlib.Core.Path.{◌≡◌, refl}
use mathlib.Core.List.{List}
use mathlib.Core.Logic.{⊎_elim}
use native.Mathlib.Omega.{arith}
use lib.ListN.{get_or}
use Rattle.model.specs.ModuleFile.{mod_field, mod_index, module_of}
use Rattle.buffers_tables.specs.Program.{line_stride, operands_column, line_bytes}
use Rattle.file_mod_table.specs.Line.{LineOf}
use Rattle.file_mod_table.proofs.Slots.{slot_laid, pair_small, sender_small}

module _ {modfile : List ℕ} {C p i : ℕ} (line : LineOf modfile C p i) where
  -- the part of an operand and of the send, which the layout leaves
  part_small : (j : ℕ) → j < 4 → mod_field modfile (mod_index modfile p i) (3 + 2 * j) < 256
  unfolding module_of
  part_small j h =
      ⊎_elim (λ (l : mod_field modfile (mod_index modfile p i) (3 + 2 * j) ≤ 3). omega arith)
      (λ (l : mod_field modfile (mod_index modfile p i) (3 + 2 * j) ≡ 9). omega arith) ((slot_laid _ _ _ _ line).operand j h).part_known

  send_small : mod_field modfile (mod_index modfile p i) 11 < 256
  unfolding module_of
  send_small =
      ⊎_elim (λ (l : mod_field modfile (mod_index modfile p i) 11 ≤ 1). omega arith)
      (λ (l : mod_field modfile (mod_index modfile p i) 11 ≡ 9). omega arith) (slot_laid _ _ _ _ line).send.part_known

  pub column_small : (c : ℕ) → operands_column ≤ c → c < line_stride → mod_field modfile (mod_index modfile p i) (c + 1) < 256
  column_small zero low h = absurd (omega arith)
  column_small (suc zero) low h = absurd (omega arith)
  column_small (suc (suc zero)) low h = part_small 0 (omega arith)
  column_small (suc (suc (suc zero))) low h = pair_small _ _ _ _ line 0 (omega arith)
  column_small (suc (suc (suc (suc zero)))) low h = part_small 1 (omega arith)
  column_small (suc (suc (suc (suc (suc zero))))) low h = pair_small _ _ _ _ line 1 (omega arith)
  column_small (suc (suc (suc (suc (suc (suc zero)))))) low h = part_small 2 (omega arith)
  column_small (suc (suc (suc (suc (suc (suc (suc zero))))))) low h = pair_small _ _ _ _ line 2 (omega arith)
  column_small (suc (suc (suc (suc (suc (suc (suc (suc zero)))))))) low h = part_small 3 (omega arith)
  column_small (suc (suc (suc (suc (suc (suc (suc (suc (suc zero))))))))) low h = pair_small _ _ _ _ line 3 (omega arith)
  column_small (suc (suc (suc (suc (suc (suc (suc (suc (suc (suc zero)))))))))) low h = send_small
  column_small (suc (suc (suc (suc (suc (suc (suc (suc (suc (suc (suc zero))))))))))) low h = pair_small _ _ _ _ line 4 (omega arith)
  column_small (suc (suc (suc (suc (suc (suc (suc (suc (suc (suc (suc (suc zero)))))))))))) low h = sender_small _ _ _ _ line
  column_small (suc (suc (suc (suc (suc (suc (suc (suc (suc (suc (suc (suc (suc c))))))))))))) low h = absurd (omega arith)

-- the bytes of a line are MOD's columns from the third on
module _ (modfile : List ℕ) (p i : ℕ) where
  pub line_column_lem : (c : ℕ) → operands_column ≤ c → c < line_stride → get_or (line_bytes (module_of modfile) p i) c 0 ≡ mod_field modfile (mod_index modfile p i) (c + 1)
  unfolding module_of
  line_column_lem zero low h = absurd (omega arith)
  line_column_lem (suc zero) low h = absurd (omega arith)
  line_column_lem (suc (suc zero)) low h = refl
  line_column_lem (suc (suc (suc zero))) low h = refl
  line_column_lem (suc (suc (suc (suc zero)))) low h = refl
  line_column_lem (suc (suc (suc (suc (suc zero))))) low h = refl
  line_column_lem (suc (suc (suc (suc (suc (suc zero)))))) low h = refl
  line_column_lem (suc (suc (suc (suc (suc (suc (suc zero))))))) low h = refl
  line_column_lem (suc (suc (suc (suc (suc (suc (suc (suc zero)))))))) low h = refl
  line_column_lem (suc (suc (suc (suc (suc (suc (suc (suc (suc zero))))))))) low h = refl
  line_column_lem (suc (suc (suc (suc (suc (suc (suc (suc (suc (suc zero)))))))))) low h = refl
  line_column_lem (suc (suc (suc (suc (suc (suc (suc (suc (suc (suc (suc zero))))))))))) low h = refl
  line_column_lem (suc (suc (suc (suc (suc (suc (suc (suc (suc (suc (suc (suc zero)))))))))))) low h = refl
  line_column_lem (suc (suc (suc (suc (suc (suc (suc (suc (suc (suc (suc (suc (suc c))))))))))))) low h = absurd (omega arith)
