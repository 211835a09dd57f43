-- 40 (01, Refusals): "a lent buffer's length differs from the fixed one that docs/ gives it"
use Rattle.std.specs.Prelude.{ℕ, ◌≡◌, List, [], ◌∷◌, length}
use Rattle.model.specs.Session.{Lengths}
use Rattle.buffers_memory.specs.Memory.{memory_length}
use Rattle.buffers_tables.specs.Panel.{panel_length}
use Rattle.buffers_tables.specs.Program.{program_length}

-- the lengths that docs/PANEL.md gives panel, program and memory, and those of three lists
abbrev pub fixed : Lengths
fixed = panel_length ∷ program_length ∷ memory_length ∷ []

abbrev pub lengths_lent : List ℕ → List ℕ → List ℕ → Lengths
lengths_lent panel program memory = length panel ∷ length program ∷ length memory ∷ []

-- the fixed lengths, one by one
pub record Sizes (a b c : ℕ) : Type 0 where
  pub panel_size : a ≡ panel_length
  pub program_size : b ≡ program_length
  pub memory_size : c ≡ memory_length
