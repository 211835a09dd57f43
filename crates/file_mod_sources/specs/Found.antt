-- The gate that the code finds for an operand: it mirrors a private function and need not be believed. `must_be_none` is what it tells of.
use Rattle.std.specs.Prelude.{ℕ, ◌≡◌, true, false, Option, MatchOption}
use Rattle.model.specs.Network.{Network}
use Rattle.model.specs.Module.{must_be_none}
use Rattle.model.specs.ModuleFile.{module_of}
use Rattle.file_mod_lines.specs.declared.Place.{Place}
use Rattle.file_mod_table.specs.declared.ModTable.{ModTable}
use Rattle.netlist.specs.Kind.{code_of}
use Rattle.file_mod_sources.specs.declared.gate.Gate.{Gate}

-- the gate at a place of MOD with the source of its operand j, or none where the operand must be none
abbrev pub FoundGate : Network → ModTable → Place → ℕ → Option Gate → Type 0
FoundGate n table place j r =
    MatchOption r (must_be_none n (module_of table.modfile.now) place.processor place.slot.0 j ≡ true)
    (λ gate.
    (must_be_none n (module_of table.modfile.now) place.processor place.slot.0 j ≡ false) × (gate.table.now ≡ table) × (gate.place ≡ place)
    × (code_of gate.kind ≡ n.kind ((module_of table.modfile.now).signal place.processor place.slot.0))
    × (gate.source ≡ n.source ((module_of table.modfile.now).signal place.processor place.slot.0) j))
