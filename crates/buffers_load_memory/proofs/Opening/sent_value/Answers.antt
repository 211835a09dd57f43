-- Nothing is received (`nothing_sent`), or the sender's line says what is sent (`something_sent`).
use mathlib.Core.Path.{refl, sym, ap, ◌∙◌}
use borrow.Author.Tests.{eqb-true, eqb-false}
use Rattle.model.specs.ModuleFile.{module_of}
use Rattle.instruction.specs.Operand.{location_of}
use Rattle.instruction.proofs.Pairs.{location_of_pair}
use Rattle.file_mod_table.proofs.Senders.{sender_is, no_sender_is}
use Rattle.buffers_load_files.specs.Checked.{value_in}
use Rattle.buffers_load_memory.proofs.Memory.{nothing_sent, something_sent}
use Rattle.buffers_load_memory.proofs.Opening.sent_value.Goals as goal

pub returns-in_default : goal.returns-in_default
returns-in_default c =
    sym (nothing_sent (module_of c.args.self.now.table.now.modfile.now) (value_in c.args.self.now.values.now) _ _ _ refl (eqb-true _ _ (no_sender_is _ c.in_default.ensures)))

pub returns : goal.returns
returns c =
    let received = c.in-Some.ensures in
    let from = sender_is _ _ received.sender in
    let location = c.location.ensures ∙ ap location_of received.sends ∙ location_of_pair _ _ in
    (rw (c.at.ensures.0, c.at.ensures.1) at c.local_value.ensures)
    ∙ sym (something_sent (module_of c.args.self.now.table.now.modfile.now) (value_in c.args.self.now.values.now) _ _ _ (sym from.same) (λ e. eqb-false _ _ from.some (from.same ∙ e)) _ location)
