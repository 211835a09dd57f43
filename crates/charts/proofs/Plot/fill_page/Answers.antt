-- The first line, and the lines of the signals behind it.
use native.Mathlib.Omega.{arith}
use Rattle.charts.proofs.Writing.{page_stored}
use Rattle.charts.proofs.Plot.fill_page.Goals as goal

pub returns : goal.returns
returns c =
    page_stored _ _ _ _ _ c.args.self.now.cycles_high _ _ _ (omega (arith, c.told-page, c.args.self.now.count_high)) _
    (omega (arith, c.args.self.now.cycles_low))
    c.write_head.ensures
    c.fill_rows.ensures
