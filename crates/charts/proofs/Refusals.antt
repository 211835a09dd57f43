-- Laws of the refusals: lengths, counts, each chosen signal and each value decide as the code asks for them.
use Prim.Native.Nat.{ℕ, ◌≤◌, ◌<◌}
use mathlib.Core.Path.{◌≡◌, refl}
use mathlib.Core.Bool.{true}
use mathlib.Core.List.{List}
use lib.ListN.{length, get_or}
use lib.Dec.{leb}
use borrow.Author.Tests.{eqb-true, eq-eqb, leb-true}
use Rattle.logic.specs.Test.{◌and◌}
use Rattle.logic.proofs.Tests.{and_true, and_left, and_right}
use Rattle.model.specs.Refusal.{pass, fail, unless}
use Rattle.model.specs.Session.{same_lengths}
use Rattle.model.proofs.Refusals.{first_left, first_right, unless_true, unless_pass}
use Rattle.session_answers.proofs.Recorded.{recorded_same}
use Rattle.session_answers.proofs.Calls.{unless_fails}
use Rattle.session_answers.specs.Recorded.{recorded_checks}
use Rattle.charts.specs.Page.{page_signals, page_cycles, signals_length, record_length, page_length, chosen, charted, last_cycle}
use Rattle.charts.specs.Checks.{chart_lent, chart_fixed, lent_check, on_page, counts_check, signal_check, value_check, row_check, chart_check}

module _ (signals values page : List ℕ) where
  -- buffers of the right lengths
  pub record ChartSizes : Type 0 where
    pub signals_size : length signals ≡ signals_length
    pub values_size : length values ≡ record_length
    pub page_size : length page ≡ page_length

  lengths : same_lengths (chart_lent signals values page) chart_fixed ≡ true → ChartSizes
  unfolding same_lengths
  lengths e =
      let others = and_right _ _ e in
      record {
        signals_size = eqb-true _ _ (and_left _ _ e);
        values_size = eqb-true _ _ (and_left _ _ others);
        page_size = eqb-true _ _ (and_left _ _ (and_right _ _ others));
      }

  pub lent_wrong : (ChartSizes → ⊥) → lent_check signals values page ≡ fail 40 0
  unfolding lent_check
  lent_wrong d = unless_fails _ 40 0 (λ e. d (lengths e))

  pub lent_pass : ChartSizes → lent_check signals values page ≡ pass
  unfolding lent_check same_lengths
  lent_pass l =
      unless_pass _ 40 0
      (and_true _ _ (eq-eqb _ _ l.signals_size) (and_true _ _ (eq-eqb _ _ l.values_size) (and_true _ _ (eq-eqb _ _ l.page_size) refl)))

  pub lent_right : lent_check signals values page ≡ pass → ChartSizes
  unfolding lent_check
  lent_right e = lengths (unless_true _ 40 0 e)

module _ (count first_cycle cycles : ℕ) where
  -- counts and cycles that a page can carry
  pub record ChartCounts : Type 0 where
    pub count_low : 1 ≤ count
    pub count_high : count ≤ page_signals
    pub cycles_low : 1 ≤ cycles
    pub cycles_high : cycles ≤ page_cycles
    pub last_high : last_cycle first_cycle cycles ≤ 65535

  counted : on_page count first_cycle cycles ≡ true → ChartCounts
  unfolding on_page
  counted e =
      let most = and_right _ _ e in
      let some = and_right _ _ most in
      let rest = and_right _ _ some in
      record {
        count_low = leb-true 1 count (and_left _ _ e);
        count_high = leb-true count page_signals (and_left _ _ most);
        cycles_low = leb-true 1 cycles (and_left _ _ some);
        cycles_high = leb-true cycles page_cycles (and_left _ _ rest);
        last_high = leb-true (last_cycle first_cycle cycles) 65535 (and_right _ _ rest);
      }

  pub counts_right : counts_check count first_cycle cycles ≡ pass → ChartCounts
  unfolding counts_check
  counts_right e = counted (unless_true _ 46 0 e)

-- the signal that was read for line k
pub signal_judged : (signals : List ℕ) (k : ℕ) {s : ℕ} → s ≡ chosen signals k → signal_check signals k ≡ unless (leb 1 s and leb s 4096) 41 s
unfolding signal_check
signal_judged signals k e = rw e

-- the values of line k
module _ (values : List ℕ) (cycles k : ℕ) (row : List ℕ) (size : length row ≡ cycles)
    (recorded : (c : ℕ) → c < cycles → get_or row c 0 ≡ charted values k c) where
  pub row_recorded : recorded_checks row ≡ row_check values cycles k
  unfolding row_check value_check
  row_recorded = recorded_same row cycles (charted values k) size recorded

-- what a call that is not refused has been lent
module _ (signals values page : List ℕ) (count first_cycle cycles : ℕ) (e : chart_check signals values page count first_cycle cycles ≡ pass) where
  pub chart_lent_lem : ChartSizes signals values page
  unfolding chart_check
  chart_lent_lem = lent_right signals values page (first_left _ _ e)

  pub chart_counts : ChartCounts count first_cycle cycles
  unfolding chart_check
  chart_counts = counts_right count first_cycle cycles (first_left _ _ (first_right _ _ e))
