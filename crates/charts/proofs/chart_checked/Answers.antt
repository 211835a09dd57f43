-- Each refusal at its place leaves the page as it was lent; where none applies, the page is printed.
use Prim.Native.Nat.{ℕ}
use mathlib.Core.Path.{◌≡◌, refl, ◌∙◌, ap, ap₂}
use mathlib.Core.List.{List}
use native.Mathlib.Omega.{arith}
use Rattle.model.specs.Refusal.{pass}
use Rattle.model.proofs.Refusals.{first_stays, first_both}
use Rattle.file_lines.proofs.Stages.{refused, passes, after, stops, renamed}
use Rattle.session_answers.proofs.Calls.{leaves_lent, leaves_done, array_lent, lent_refused}
use Rattle.charts.specs.Checks.{counts_check, signals_check, rows_check, chart_check}
use Rattle.charts.specs.Text.{page_text, printed_on}
use Rattle.charts.proofs.Refusals.{ChartSizes, ChartCounts, lent_wrong, lent_pass, counts_right}
use Rattle.std.specs.Array.{IsWholeChunk}
use Rattle.charts.specs.Page.{page_length}
use Rattle.charts.proofs.chart_checked.Goals as goal
use Rattle.charts.proofs.chart_checked.Goals.{In_ok-page, In_ok-check_counts}

-- the page is the whole slice that was lent
whole : (c : In_ok-page) → IsWholeChunk c.args.page.now c.in_ok-page.page.now page_length
whole c = array_lent _ (λ x. x.now) _ _ _ c.as_mut_array.ensures.cases c.ok_or.ensures.value c.in_ok-page.was

sizes : (c : In_ok-page) → ChartSizes c.args.signals.now c.args.values.now c.args.page.now
sizes c =
    record {
      signals_size = c.in_ok-signals.ensures.1.long;
      values_size = c.in_ok-values.ensures.1.long;
      page_size = (whole c).long;
    }

counted : (c : In_ok-check_counts) → counts_check c.args.count c.args.first c.args.cycles ≡ pass
counted c = passes c.check_counts.ensures c.in_ok-check_counts.was

counts : (c : In_ok-check_counts) → ChartCounts c.args.count c.args.first c.args.cycles
counts c = counts_right _ _ _ (counted c)

pub returns-in_err-signals : goal.returns-in_err-signals
unfolding chart_check
returns-in_err-signals c =
    leaves_lent (refused refl (first_stays _ _ (lent_wrong _ _ _ (λ s. c.in_err-signals.ensures.1 s.signals_size)))) c.from_residual.ensures.1 refl

pub returns-in_err-values : goal.returns-in_err-values
unfolding chart_check
returns-in_err-values c =
    leaves_lent
    (refused refl (first_stays _ _ (lent_wrong _ _ _ (λ s. c.in_err-values.ensures.1 s.values_size))))
    c.from_residual-in_err-values.ensures.1
    refl

pub returns-in_err-page : goal.returns-in_err-page
unfolding chart_check
returns-in_err-page c =
    lent_refused _ (λ x. x.now) _ _ _ c.as_mut_array.ensures.cases c.ok_or.ensures.value c.in_err-page.was (λ none. refused refl (first_stays _ _ (lent_wrong _ _ _ (λ s. none s.page_size)))) c.from_residual-in_err-page.ensures.1

pub returns-in_err-check_counts : goal.returns-in_err-check_counts
unfolding chart_check
returns-in_err-check_counts c =
    let at = (goal.at.returns-in_err-check_counts c).In_ok-page in
    leaves_lent (after (lent_pass _ _ _ (sizes at)) (stops c.in_err-check_counts.ensures refl _)) c.from_residual-in_err-check_counts.ensures.1 (whole at).same

pub overflow_cast-plot-2 : goal.overflow_cast-plot-2
overflow_cast-plot-2 c =
    let r = counts (goal.at.overflow_cast-plot-2 c).In_ok-check_counts in omega (arith, r.cycles_low, r.last_high)

pub invariant_of-plot : goal.invariant_of-plot
invariant_of-plot c =
    let r = counts (goal.at.invariant_of-plot c).In_ok-check_counts in
    record { count_high = r.count_high; cycles_low = r.cycles_low; cycles_high = r.cycles_high; last_high = r.last_high }

pub returns-in_err-check_signals : goal.returns-in_err-check_signals
unfolding chart_check
returns-in_err-check_signals c =
    let at = goal.at.returns-in_err-check_signals c in
    leaves_lent
    (after (lent_pass _ _ _ (sizes at.In_ok-page))
    (after (counted at.In_ok-check_counts)
    (stops (renamed refl (ap (λ (s : List ℕ). signals_check s c.args.count) c.in_ok-signals.ensures.1.same) c.in_err-check_signals.ensures) refl _)))
    c.from_residual-in_err-check_signals.ensures.1
    (whole at.In_ok-page).same

pub returns-in_err-check_values : goal.returns-in_err-check_values
unfolding chart_check
returns-in_err-check_values c =
    let at = goal.at.returns-in_err-check_values c in
    let chosen = renamed refl (ap (λ (s : List ℕ). signals_check s c.args.count) c.in_ok-signals.ensures.1.same) c.check_signals.ensures in
    leaves_lent
    (after (lent_pass _ _ _ (sizes at.In_ok-page))
    (after (counted at.In_ok-check_counts)
    (after (passes chosen c.in_ok-check_signals.was)
    (renamed refl (ap (λ (v : List ℕ). rows_check v c.args.count c.args.cycles) c.in_ok-values.ensures.1.same) c.in_err-check_values.ensures))))
    c.from_residual-in_err-check_values.ensures.1
    (whole at.In_ok-page).same

pub returns : goal.returns
unfolding chart_check
returns c =
    let at = goal.at.returns c in
    let s = c.in_ok-signals.ensures.1.same in
    let v = c.in_ok-values.ensures.1.same in
    let chosen = renamed refl (ap (λ (x : List ℕ). signals_check x c.args.count) s) c.check_signals.ensures in
    let recorded = renamed refl (ap (λ (x : List ℕ). rows_check x c.args.count c.args.cycles) v) c.check_values.ensures in
    leaves_done
    (first_both _ _ (lent_pass _ _ _ (sizes at.In_ok-page))
    (first_both _ _ (counted at.In_ok-check_counts) (first_both _ _ (passes chosen c.in_ok-check_signals.was) (passes recorded c.in_ok-check_values.was))))
    (c.fill_page.ensures
    ∙ ap (λ (x : List ℕ). printed_on x (page_text c.in_ok-signals.signals.now c.in_ok-values.values.now c.args.count c.args.first c.args.cycles)) (whole at.In_ok-page).same
    ∙ ap₂ (λ (x y : List ℕ). printed_on c.args.page.now (page_text x y c.args.count c.args.first c.args.cycles)) s v)
