-- The invariant: the lines of the first k signals are stored.
use Rattle.charts.specs.Page.{line_bytes}
use Rattle.charts.specs.Text.{chart_row}
use Rattle.charts.proofs.Writing.{StoredUpTo}
use Rattle.charts.proofs.Plot.fill_rows.Given as goal

abbrev pub invariant-loop-k : goal.invariant-loop-k
invariant-loop-k l = StoredUpTo l.initial.page line_bytes (chart_row l.self.signals.now l.self.values.now l.self.cycles) l.self.count l.k l.page
