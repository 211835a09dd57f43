-- A byte of the program, where the module has its line and where not.
use Prim.Native.Nat.{ℕ, ◌<◌}
use mathlib.Core.Path.{◌≡◌}
use mathlib.Core.Bool.{false}
use mathlib.Core.List.{List}
use lib.ListN.{get_or}
use Rattle.model.specs.ModuleFile.{mod_processors, mod_slots, module_of}
use Rattle.buffers_memory.specs.Memory.{within}
use Rattle.buffers_memory.proofs.Within.{is_within}
use Rattle.buffers_tables.specs.Program.{line_bytes}
use Rattle.buffers_load_files.specs.Loaded.{program_byte}

module _ (modfile : List ℕ) (p i column : ℕ) where
  pub byte_within : p < mod_processors modfile → i < mod_slots modfile
      → program_byte modfile p i column ≡ get_or (line_bytes (module_of modfile) p i) column 0
  unfolding program_byte
  byte_within h l = rw (is_within (mod_processors modfile) (mod_slots modfile) p i h l)

  pub byte_without : within (mod_processors modfile) (mod_slots modfile) p i ≡ false → program_byte modfile p i column ≡ 0
  unfolding program_byte
  byte_without e = rw e
