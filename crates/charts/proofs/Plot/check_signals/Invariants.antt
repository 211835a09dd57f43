-- The invariant: the signals chosen before line k can be.
use mathlib.Core.Path.{◌≡◌}
use Rattle.model.specs.Refusal.{pass, first_below}
use Rattle.charts.specs.Checks.{signal_check}
use Rattle.charts.proofs.Plot.check_signals.Given as goal

abbrev pub invariant-loop-k : goal.invariant-loop-k
invariant-loop-k l = first_below l.k (signal_check l.self.signals.now) ≡ pass
