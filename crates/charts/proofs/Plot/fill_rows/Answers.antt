-- The invariant: the lines of the first k signals are stored.
use Rattle.charts.proofs.Writing.{stored_starts, rows_more}
use Rattle.charts.proofs.Plot.fill_rows.Goals as goal

pub loop-k-init : goal.loop-k-init
loop-k-init c = stored_starts _ _ _ _

pub loop-k-preserved : goal.loop-k-preserved
loop-k-preserved c =
    rows_more c.args.self.now.signals.now c.args.self.now.values.now _ c.args.self.now.cycles_high c.row.result.now c.loop-k.invariant c.loop-k-test.true
    c.signal.ensures
    c.row.ensures.size
    c.row.ensures.values
    c.write_row.ensures
