-- What is asked where MOD's lines are judged together: NET has the signals of MOD's lines.
use Rattle.std.specs.Prelude.{ℕ, ◌≤◌, List}
use Rattle.model.specs.Netlist.{net_size}
use Rattle.model.specs.ModuleFile.{module_of}
use Rattle.file_mod_lines.specs.declared.Shape.{Shape}
use Rattle.file_mod_table.specs.Line.{Within}

abbrev pub Known : List ℕ → List ℕ → Shape → Type 0
Known net modfile shape = (p i : ℕ) → Within shape p i → (module_of modfile).signal p i ≤ net_size net
