-- The invariant: the signals chosen before line k can be.
use Rattle.std.proofs.Common.{rules, refl, ◌∙◌}
use Rattle.logic.proofs.Judged.{connected}
use Rattle.model.proofs.Refusals.{unless_pass}
use Rattle.model.specs.Refusal.{first_below}
use Rattle.file_lines.proofs.Lines.{test_fails, lines_go_on, lines_stop, lines_end}
use Rattle.charts.specs.Checks.{signals_check}
use Rattle.charts.proofs.Refusals.{signal_judged}
use Rattle.charts.proofs.Plot.check_signals.Goals as goal

pub loop-k-init : goal.loop-k-init
unfolding first_below
loop-k-init c = refl

pub returns-then-not-contains : goal.returns-then-not-contains
unfolding signals_check
returns-then-not-contains c =
    lines_stop _ _ c.loop-k.invariant _ c.loop-k-test.true refl
    (signal_judged _ c.loop-k.k c.signal-signal.ensures ∙ test_fails _ 41 _ (search (rules, connected)))

pub loop-k-preserved : goal.loop-k-preserved
loop-k-preserved c =
    lines_go_on _ _ c.loop-k.invariant (signal_judged _ c.loop-k.k c.signal-signal.ensures ∙ unless_pass _ 41 _ (search (rules, connected)))

pub returns : goal.returns
unfolding signals_check
returns c = lines_end _ _ c.loop-k.invariant _ c.loop-k.auto.k-end c.loop-k-test.false refl
