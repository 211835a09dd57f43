-- The lines of P processors are judged (`all_in_range`), and then the zeros after them.
use Rattle.std.proofs.Common.{rules}
use Rattle.logic.proofs.Ranges.{all_in_range}
use Rattle.buffers_range_program.specs.Order.{slot_at}
use Rattle.buffers_runs.proofs.Runs.{run_passes, run_fails}
use Rattle.buffers_range_program.proofs.Judged.slot_right.Goals as goal

pub returns-then-all : goal.returns-then-all
unfolding slot_at
returns-then-all c = rw (← c.from-lines.ensures) (run_passes _ (all_in_range _ _ c.all.ensures.ran (λ x b q h. search rules)) c.if-all.true (rw c.from.ensures at c.all_zero.ensures))

pub returns-else-all : goal.returns-else-all
unfolding slot_at
returns-else-all c = rw (← c.from-lines.ensures) (run_fails _ (all_in_range _ _ c.all.ensures.ran (λ x b q h. search rules)) c.if-all.false)
