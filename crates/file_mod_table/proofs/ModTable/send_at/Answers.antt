-- The location is below C (`send_low`).
use Rattle.model.specs.ModuleFile.{module_of}
use Rattle.instruction.proofs.Pairs.{location_of_pair}
use Rattle.file_mod_table.proofs.Slots.{line_within, send_low}
use Rattle.file_mod_table.proofs.ModTable.send_at.Goals as goal

pub returns-clause-within : goal.returns-clause-within
unfolding module_of
returns-clause-within c = rw (c.pair_at.ensures, location_of_pair) (send_low _ _ _ _ (line_within c.args.self.now.laid c.requires))
