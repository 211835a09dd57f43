-- `watch`: the buffers are judged, and each case is that of the reply.
use mathlib.Core.Path.{◌≡◌}
use Rattle.session_calls.proofs.Judged.{right_sizes, right_panel, array_is}
use Rattle.session_calls.proofs.Replies.{replies_refused, replies, watch_state}
use Rattle.session_calls.proofs.watch.Goals as goal
use Rattle.session_calls.proofs.watch.Goals.{After-unwrap}

pub unwrap-requires : goal.unwrap-requires
unwrap-requires c = c.as_mut_array.ensures.variant.1 (right_sizes _ _ c.readiness.ensures c.in-Ok.is).panel_size

whole : (c : After-unwrap) → c.unwrap.result.now ≡ c.args.panel.now
whole c = array_is _ _ (λ y. y.now) c.as_mut_array.ensures.cases c.unwrap.ensures

pub watch_in-requires : goal.watch_in-requires
watch_in-requires c = rw (whole (goal.at.watch_in-requires c).After-unwrap) (right_panel _ _ c.readiness.ensures c.in-Ok.is).1

pub returns-in-Err : goal.returns-in-Err
returns-in-Err c =
    let both = replies_refused _ _ _ c.readiness.ensures _ c.in-Err.is _ c.answer_bits.ensures in
    record { answer = both.0; left = both.1 }

pub returns-in-Ok : goal.returns-in-Ok
returns-in-Ok c =
    let written = rw (whole (goal.at.returns-in-Ok c).After-unwrap) at (c.watch_in.ensures c.args.program.now c.args.memory.now) in
    let both = replies _ _ _ c.readiness.ensures c.in-Ok.is _ _ written (watch_state _ _ _ _ _ _) in
    record { answer = both.0; left = both.1 }
