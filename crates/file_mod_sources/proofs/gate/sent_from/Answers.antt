-- Nothing is received (`sent_none`), or the sender's line says what is sent, and from which half (`sent_some`, `sent_apart`).
use mathlib.Core.Path.{sym, ◌∙◌}
use borrow.Author.Tests.{eqb-true}
use Rattle.file_mod_table.proofs.Senders.{no_sender_is}
use Rattle.file_mod_sources.proofs.Senders.{received_from, received_sends, sent_none, sent_some, sent_apart}
use Rattle.file_mod_sources.proofs.gate.sent_from.Goals as goal

pub returns-in_err-from : goal.returns-in_err-from
returns-in_err-from c = c.from_residual.ensures ∙ sent_none _ _ _ _ (eqb-true _ _ (no_sender_is _ c.in_err-from.ensures))

pub returns-then-not-is_of_half : goal.returns-then-not-is_of_half
returns-then-not-is_of_half c =
    let received = c.in_ok-from.ensures in
    sent_apart _ _ _ _ (received_from c.args.table.now.laid received) _ (received_sends c.args.table.now.laid received) (sym c.if-not-is_of_half.ensures)

pub returns : goal.returns
returns c =
    let received = c.in_ok-from.ensures in
    rw (c.signal_at.ensures, c.at.ensures.0, c.at.ensures.1, c.location.ensures)
    (sent_some _ _ _ _ (received_from c.args.table.now.laid received) _ (received_sends c.args.table.now.laid received) (sym c.if-not-is_of_half.ensures))
