-- What is sent decides, half by half (`send_earlier`, `send_below`).
use mathlib.Core.Path.{sym, ◌∙◌}
use native.Mathlib.Omega.{arith}
use Rattle.file_mod_sources.proofs.Senders.{sends, send_earlier, send_below, send_above, send_else}
use Rattle.file_mod_sources.proofs.send_right.Goals as goal

pub returns-in-LocalEarlier : goal.returns-in-LocalEarlier
returns-in-LocalEarlier c =
    let s = sends c.args.table.now.laid c.requires (sym c.in-LocalEarlier.is ∙ c.send_at.ensures.value) in
    rw (c.is_some.ensures, c.signal_at.ensures, c.at.ensures.0, c.at.ensures.1) (send_earlier _ _ _ s)

pub returns-then-lt : goal.returns-then-lt
returns-then-lt c =
    let s = sends c.args.table.now.laid c.requires (sym c.in-LocalPresent.is ∙ c.send_at.ensures.value) in
    let at = c.at-sent.ensures in
    rw (c.is_some-then-lt.ensures, c.signal_at-then-lt.ensures, at.0, at.1) (send_below _ _ _ s (grind arith))

pub returns-else-lt : goal.returns-else-lt
returns-else-lt c =
    let s = sends c.args.table.now.laid c.requires (sym c.in-LocalPresent.is ∙ c.send_at.ensures.value) in
    c.if-lt.false ∙ send_above _ _ _ s (grind arith)

pub returns-in_default : goal.returns-in_default
returns-in_default c =
    send_else _ _ _ _ (sends c.args.table.now.laid c.requires c.send_at.ensures.value) c.in_default.not-LocalEarlier c.in_default.not-LocalPresent
