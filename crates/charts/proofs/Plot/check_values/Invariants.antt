-- The invariant: the lines before this one have no value above 3.
use mathlib.Core.Path.{◌≡◌}
use Rattle.model.specs.Refusal.{pass, first_below}
use Rattle.charts.specs.Checks.{row_check}
use Rattle.charts.proofs.Plot.check_values.Given as goal

abbrev pub invariant-loop-line : goal.invariant-loop-line
invariant-loop-line l = first_below l.line (row_check l.self.values.now l.self.cycles) ≡ pass
