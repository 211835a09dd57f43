-- What the processor that it receives from sends decides, if there is one.
use mathlib.Core.Path.{sym, ap, ◌∙◌}
use mathlib.Core.Bool.{not}
use borrow.Author.Tests.{eqb-true}
use lib.Dec.{eqb}
use Rattle.model.specs.Module.{no_part}
use Rattle.instruction.specs.Operand.{part_of}
use Rattle.file_mod_table.proofs.Senders.{no_sender_is}
use Rattle.file_mod_sources.proofs.Senders.{received_from, received_sends, reception_none, reception_some}
use Rattle.file_mod_sources.proofs.Operands.{none_apart}
use Rattle.file_mod_sources.proofs.reception_right.Goals as goal
use Rattle.file_mod_sources.proofs.reception_right.Goals.{in-None, in_default-matches}

pub returns-in_default : goal.returns-in_default
returns-in_default c = reception_none _ _ _ (eqb-true _ _ (no_sender_is _ c.in_default.ensures))

pub returns : goal.returns
returns c =
    let received = c.in-Some.ensures in
    let right = reception_some _ _ _ (received_from c.args.table.now.laid received) (received_sends c.args.table.now.laid received) in
    elim c.match-matches.branch [
      | in-None w ↦ ap not (w.matches-is ∙ ap (λ x. eqb (part_of x) no_part) (sym w.in-None.is)) ∙ right
      | in_default-matches w ↦ ap not (w.matches-is ∙ none_apart _ w.in_default-matches.not-None) ∙ right
    ]
