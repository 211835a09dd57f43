-- What is asked where the operands of a line are judged.
use Rattle.std.specs.Prelude.{ℕ, ◌≤◌, List}
use Rattle.model.specs.ModuleFile.{module_of}
use Rattle.model.specs.Netlist.{net_size}
use Rattle.file_mod_lines.specs.declared.Shape.{Shape}
use Rattle.file_mod_table.specs.Line.{Within}

-- p and i are a processor and a slot of the module, whose signal NET has
pub record Placed (net modfile : List ℕ) (shape : Shape) (p i : ℕ) : Type 0 where
  pub within : Within shape p i
  pub known : (module_of modfile).signal p i ≤ net_size net
