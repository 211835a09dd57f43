-- `run`: the buffers are judged, and each case is that of the reply.
use mathlib.Core.Path.{◌≡◌}
use Rattle.session_calls.proofs.Judged.{right_sizes, right_tables, right_watching, right_memory, array_is}
use Rattle.session_calls.proofs.Replies.{replies_refused, replies_run}
use Rattle.session_calls.proofs.run.Goals as goal
use Rattle.session_calls.proofs.run.Goals.{After-unwrap-in-Ok-2}

pub unwrap-requires : goal.unwrap-requires
unwrap-requires c = c.as_mut_array.ensures.variant.1 (right_sizes _ _ c.readiness.ensures c.in-Ok.is).panel_size

pub unwrap-requires-in-Ok : goal.unwrap-requires-in-Ok
unwrap-requires-in-Ok c = c.as_array.ensures.variant.1 (right_sizes _ _ c.readiness.ensures c.in-Ok.is).program_size

pub unwrap-requires-in-Ok-2 : goal.unwrap-requires-in-Ok-2
unwrap-requires-in-Ok-2 c = c.as_mut_array-in-Ok.ensures.variant.1 (right_sizes _ _ c.readiness.ensures c.in-Ok.is).memory_size

panel_is : (c : After-unwrap-in-Ok-2) → c.unwrap.result.now ≡ c.args.panel.now
panel_is c = array_is _ _ (λ y. y.now) c.as_mut_array.ensures.cases c.unwrap.ensures

program_is : (c : After-unwrap-in-Ok-2) → c.unwrap-in-Ok.result.now ≡ c.args.program.now
program_is c = array_is _ _ (λ y. y.now) c.as_array.ensures.cases c.unwrap-in-Ok.ensures

memory_is : (c : After-unwrap-in-Ok-2) → c.unwrap-in-Ok-2.result.now ≡ c.args.memory.now
memory_is c = array_is _ _ (λ y. y.now) c.as_mut_array-in-Ok.ensures.cases c.unwrap-in-Ok-2.ensures

pub run_in-requires-clause-tables : goal.run_in-requires-clause-tables
run_in-requires-clause-tables c =
    let at = (goal.at.run_in-requires-clause-tables c).After-unwrap-in-Ok-2 in
    rw (panel_is at, program_is at) (right_tables _ _ c.readiness.ensures c.in-Ok.is)

pub run_in-requires-clause-watching : goal.run_in-requires-clause-watching
run_in-requires-clause-watching c =
    rw (panel_is (goal.at.run_in-requires-clause-watching c).After-unwrap-in-Ok-2) (right_watching _ _ c.readiness.ensures c.in-Ok.is)

pub run_in-requires-clause-memory_bytes : goal.run_in-requires-clause-memory_bytes
run_in-requires-clause-memory_bytes c =
    rw (memory_is (goal.at.run_in-requires-clause-memory_bytes c).After-unwrap-in-Ok-2) (right_memory _ _ c.readiness.ensures c.in-Ok.is)

pub returns-in-Err : goal.returns-in-Err
returns-in-Err c =
    let both = replies_refused _ _ _ c.readiness.ensures _ c.in-Err.is _ c.answer_bits.ensures in
    record { answer = both.0; left = both.1 }

pub returns-in-Ok : goal.returns-in-Ok
returns-in-Ok c =
    let at = (goal.at.returns-in-Ok c).After-unwrap-in-Ok-2 in
    let written = rw (panel_is at, program_is at, memory_is at) at c.run_in.ensures.writes in
    let memory = rw (panel_is at, program_is at, memory_is at) at c.run_in.ensures.memory_after in
    let both = replies_run _ _ _ c.readiness.ensures c.in-Ok.is _ _ _ written memory in
    record { answer = both.0; left = both.1 }
