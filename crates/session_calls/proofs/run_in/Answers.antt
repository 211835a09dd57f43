-- `run_in`: decoded, run and encoded, the panel has the head of the outcome, and the memory its state.
use mathlib.Core.Path.{sym, subst, ap}
use Rattle.model.specs.Session.{Head, Watch}
use Rattle.machine_run.specs.Running.{Watching}
use Rattle.session_calls.proofs.Replies.{writes}
use Rattle.session_calls.proofs.run_in.Goals as goal

pub run-told-requires-clause-watching : goal.run-told-requires-clause-watching
run-told-requires-clause-watching c =
    rw c.new.ensures.0 (subst (λ (w : Watch). Watching c.args.panel.now w) (sym (ap (λ (h : Head). h.watch) c.decode-session.ensures.0)) c.requires.watching)

pub returns-clause-writes : goal.returns-clause-writes
returns-clause-writes c =
    let tells = rw (c.new.ensures.0, c.new.ensures.1) at c.run-told.ensures.tells in
    writes c.args.panel.now c.args.program.now c.args.memory.now _ _ c.decode-session.ensures.0 c.decode-session.ensures.1 _ _ tells _ _ c.tell.ensures.value c.tell.ensures.panel_after
