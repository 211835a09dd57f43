-- The invariant: the values before this one are legal.
use mathlib.Core.Path.{◌≡◌}
use lib.ListN.{get_or}
use Rattle.model.specs.Refusal.{pass, first_below}
use Rattle.session_answers.specs.Recorded.{recorded_check}
use Rattle.session_answers.proofs.check_recorded.Given as goal

abbrev pub invariant-loop-value : goal.invariant-loop-value
invariant-loop-value l = first_below l.value-index (λ c. recorded_check (get_or l.values c 0)) ≡ pass
