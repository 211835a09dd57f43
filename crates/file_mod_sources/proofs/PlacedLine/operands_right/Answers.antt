-- Each operand is judged (`all_in_range`).
use borrow.Author.Rules.{rules}
use Rattle.logic.proofs.Ranges.{all_in_range}
use Rattle.model.specs.Netlist.{network}
use Rattle.model.specs.Module.{operand_right}
use Rattle.model.specs.ModuleFile.{module_of}
use Rattle.file_mod_sources.proofs.PlacedLine.operands_right.Goals as goal

pub returns : goal.returns
returns c =
    all_in_range (operand_right (network c.args.self.now.net.now.net.now) (module_of c.args.self.now.table.now.modfile.now) c.args.self.now.place.processor c.args.self.now.place.slot.0) 4 c.all.ensures.ran (λ x b q k. search rules)
