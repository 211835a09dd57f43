-- Column 13 is the processor received from, by the definition of the module; one that is received from is the module's (`sender_low`).
use mathlib.Core.Path.{◌≡◌}
use native.Mathlib.Omega.{arith}
use borrow.Author.Rules.{rules}
use Rattle.model.specs.ModuleFile.{module_of}
use Rattle.instruction.specs.Sender.{sender_numbered}
use Rattle.file_mod_table.proofs.Slots.{line_within, sender_low, sender_small}
use Rattle.file_mod_table.proofs.Senders.{sender_within}
use Rattle.file_mod_table.proofs.ModTable.sender_at.Goals as goal

pub overflow_cast-column_at : goal.overflow_cast-column_at
overflow_cast-column_at c =
    omega (arith, c.column_at.ensures, sender_small _ _ _ _ (line_within c.args.self.now.laid c.requires))

pub returns-clause-within : goal.returns-clause-within
unfolding module_of
returns-clause-within c =
    let line = line_within c.args.self.now.laid c.requires in
    let value : c.map.result ≡ sender_numbered ((module_of c.args.self.now.modfile.now).sender c.args.place.processor c.args.place.slot.0) = search rules in
    rw value (sender_within _ _ (λ d. omega (arith, sender_low _ _ _ _ line d, c.args.self.now.laid.sized.processors)))
