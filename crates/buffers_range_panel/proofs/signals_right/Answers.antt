-- Every signal is judged (`all_in_range`), and then the bytes above N.
use Rattle.std.proofs.Common.{rules, arith}
use Rattle.std.proofs.lemmas.Iterator.{serves_from_Range}
use Rattle.logic.proofs.Ranges.{all_in_range}
use Rattle.buffers_runs.proofs.Runs.{run_passes, run_fails}
use Rattle.buffers_range_panel.proofs.signals_right.Goals as goal

pub all-requires-clause-callable : goal.all-requires-clause-callable
all-requires-clause-callable c = serves_from_Range (λ x q k. search rules) (λ x low high. search (rules, arith))

pub returns-then-all : goal.returns-then-all
returns-then-all c = run_passes _ (all_in_range _ _ c.all.ensures.ran (λ x b q h. search rules)) c.if-all.true c.all_zero.ensures

pub returns-else-all : goal.returns-else-all
returns-else-all c = run_fails _ (all_in_range _ _ c.all.ensures.ran (λ x b q h. search rules)) c.if-all.false
