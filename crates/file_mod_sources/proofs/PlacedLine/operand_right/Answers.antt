-- Where no gate is found the operand must be none (`operand_free`); for a gate `reads` decides (`operand_reads`).
use mathlib.Core.Path.{sym, ◌∙◌}
use Rattle.model.specs.ModuleFile.{module_of}
use Rattle.file_mod_sources.proofs.Operands.{Names, none_apart, operand_names, operand_within}
use Rattle.file_mod_sources.proofs.Found.{operand_free, operand_reads}
use Rattle.file_mod_sources.proofs.PlacedLine.operand_right.Goals as goal
use Rattle.file_mod_sources.proofs.PlacedLine.operand_right.Goals.{After-operand_at-a}

-- the operand is that of the line
named : (c : After-operand_at-a) → Names (module_of c.args.self.now.table.now.modfile.now) c.args.self.now.place.processor c.args.self.now.place.slot.0 c.args.j c.operand_at-a.result
named c = operand_names c.args.self.now.table.now.laid c.args.self.now.placed.within c.requires c.operand_at-a.ensures

pub reads-requires : goal.reads-requires
reads-requires c =
    rw (c.in-Some.ensures.1, c.in-Some.ensures.2) (operand_within c.args.self.now.table.now.laid c.args.self.now.placed.within c.requires c.operand_at-a.ensures)

pub returns-in-Some : goal.returns-in-Some
returns-in-Some c =
    let names = named (goal.at.returns-in-Some c).After-operand_at-a in
    c.reads.ensures ∙ sym (operand_reads _ _ _ _ _ names c.in-Some.gate c.in-Some.ensures)

pub returns-in-None-matches : goal.returns-in-None-matches
returns-in-None-matches c =
    let names = named (goal.at.returns-in-None-matches c).After-operand_at-a in
    rw c.in-None-matches.is at (sym (operand_free _ c.args.self.now.table.now _ _ _ names c.in-None.ensures))

pub returns-in_default : goal.returns-in_default
returns-in_default c =
    let names = named (goal.at.returns-in_default c).After-operand_at-a in
    none_apart _ c.in_default.not-None ∙ sym (operand_free _ c.args.self.now.table.now _ _ _ names c.in-None.ensures)
