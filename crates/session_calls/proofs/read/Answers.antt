-- `read`: the buffers are judged, and each case is that of the reply.
use mathlib.Core.Path.{◌≡◌}
use Rattle.session_calls.proofs.Judged.{right_sizes, right_panel, right_processor, right_memory, array_is}
use Rattle.session_calls.proofs.Replies.{replies_refused, replies, read_state}
use Rattle.session_calls.proofs.read.Goals as goal
use Rattle.session_calls.proofs.read.Goals.{After-unwrap-in-Ok}

pub unwrap-requires : goal.unwrap-requires
unwrap-requires c = c.as_array.ensures.variant.1 (right_sizes _ _ c.readiness.ensures c.in-Ok.is).panel_size

pub unwrap-requires-in-Ok : goal.unwrap-requires-in-Ok
unwrap-requires-in-Ok c = c.as_array-in-Ok.ensures.variant.1 (right_sizes _ _ c.readiness.ensures c.in-Ok.is).memory_size

panel_is : (c : After-unwrap-in-Ok) → c.unwrap.result.now ≡ c.args.panel.now
panel_is c = array_is _ _ (λ y. y.now) c.as_array.ensures.cases c.unwrap.ensures

memory_is : (c : After-unwrap-in-Ok) → c.unwrap-in-Ok.result.now ≡ c.args.memory.now
memory_is c = array_is _ _ (λ y. y.now) c.as_array-in-Ok.ensures.cases c.unwrap-in-Ok.ensures

pub invariant_of-readable : goal.invariant_of-readable
invariant_of-readable c =
    let at = (goal.at.invariant_of-readable c).After-unwrap-in-Ok in
    let right = right_panel _ _ c.readiness.ensures c.in-Ok.is in
    record {
      panel_size = rw (panel_is at) right.0;
      signals_high = rw (panel_is at) right.1;
      processors_low = rw (panel_is at) (right_processor _ _ c.readiness.ensures c.in-Ok.is);
      memory_bytes = rw (memory_is at) (right_memory _ _ c.readiness.ensures c.in-Ok.is);
    }

pub returns-in-Err : goal.returns-in-Err
returns-in-Err c =
    let both = replies_refused _ _ _ c.readiness.ensures _ c.in-Err.is _ c.answer_bits.ensures in
    record { answer = both.0; left = both.1 }

pub returns-in-Ok : goal.returns-in-Ok
returns-in-Ok c =
    let at = (goal.at.returns-in-Ok c).After-unwrap-in-Ok in
    let written = rw (panel_is at, memory_is at) at (c.read_in.ensures c.args.program.now) in
    let both = replies _ _ _ c.readiness.ensures c.in-Ok.is _ _ written (read_state _ _ _ _ _) in
    record { answer = both.0; left = both.1 }
