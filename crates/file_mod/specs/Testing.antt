-- The tests of every line (01, Refusals: "24, 25, 23, each over all lines first"): what a test computes, and the check of it over all lines.
-- They mirror private functions and need not be believed; `mod_check` is what a caller reads.
use Rattle.std.specs.Prelude.{ℕ, ◌+◌, ◌≡◌, Bool, List}
use Rattle.model.specs.Refusal.{Check, first, unless}
use Rattle.model.specs.Network.{Network}
use Rattle.model.specs.ModuleFile.{mod_index, module_of, each_line, placed, sending, receiving, operands}
use Rattle.file_mod_lines.specs.declared.Place.{Place}
use Rattle.file_mod_lines.specs.declared.Shape.{Shape}
use Rattle.file_mod_table.specs.Line.{Within}

-- what is answered of a place of the module is the test of its processor and its slot
abbrev pub Computes : (Place → Bool → Type 0) → Shape → (ℕ → ℕ → Bool) → Type 0
Computes answers shape test =
    (place : Place) (b : Bool) → Within shape place.processor place.slot.0 → answers place b → b ≡ test place.processor place.slot.0

-- every line passes the test, or the first that does not is refused
abbrev pub each_right : ℕ → (ℕ → ℕ → Bool) → List ℕ → Check
each_right number test modfile = each_line modfile (λ p i. unless (test p i) number (mod_index modfile p i + 1))

-- what `mod_check` wants of right lines
abbrev pub module_check : Network → List ℕ → Check
module_check n modfile = first (placed n (module_of modfile)) (first (sending modfile) (first (receiving modfile) (operands n modfile)))
