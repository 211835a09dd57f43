-- What an accepted MOD gives: line 1 is right where it is read, P and C are in range, and the lines after it may be read.
use Prim.Native.Nat.{ℕ, ◌<◌, ◌≤◌}
use mathlib.Core.Path.{◌≡◌}
use mathlib.Core.Bool.{true}
use mathlib.Core.List.{List}
use native.Mathlib.Omega.{arith}
use Rattle.fields.specs.Line.{is_line_at}
use Rattle.model.specs.Refusal.{pass}
use Rattle.model.specs.Netlist.{network}
use Rattle.model.specs.Module.{At}
use Rattle.model.specs.ModuleFile.{mod_processors, mod_slots, module_of, mod_check}
use Rattle.model.specs.Checked.{Checked}
use Rattle.model.proofs.Checked.{checked_size}
use Rattle.model.proofs.Accepted.{mod_processors_lem, mod_slots_lem, mod_lines}
use Rattle.model.proofs.Refusals.{first_left, first_right}
use Rattle.file_mod_lines.proofs.Accepted.{header_sized}
use Rattle.file_mod_table.specs.Line.{LinesLaid}
use Rattle.file_mod_table.proofs.Widest.{lines_widened}
use Rattle.buffers_load_files.specs.Checked.{ModuleChecked}

-- a MOD that is accepted with a checked NET
pub schedules : (net modfile : List ℕ) → Checked net → mod_check (network net) modfile ≡ pass → ModuleChecked modfile
unfolding network
schedules net modfile n m = record { network = network net; few = (checked_size net n).1; passes = m }

module _ {modfile : List ℕ} (s : ModuleChecked modfile) where
  pub processors_range : (1 ≤ mod_processors modfile) × (mod_processors modfile ≤ 16)
  processors_range = mod_processors_lem s.network modfile s.passes

  pub slots_range : (1 ≤ mod_slots modfile) × (mod_slots modfile ≤ 256)
  slots_range = mod_slots_lem s.network modfile s.passes

  pub header_line : is_line_at modfile 0 14 ≡ true
  header_line = mod_lines s.network modfile s.passes 0 (omega arith)

  pub is_at : {p i : ℕ} → p < mod_processors modfile → i < mod_slots modfile → At (module_of modfile) p i
  unfolding module_of
  is_at low_p low-i = record { processor = low_p; slot = low-i }

  -- its lines may be read with the sizes that line 1 gives
  pub lines_laid : (p c : ℕ) → p ≡ mod_processors modfile → c ≡ mod_slots modfile → LinesLaid modfile p c
  unfolding mod_check
  lines_laid p c processors slots =
      record {
        sized = header_sized modfile p c (first_left _ _ s.passes) processors slots;
        lines = lines_widened s.network s.few modfile (first_left _ _ (first_right _ _ s.passes));
      }
