-- What the call may refuse by, 40, 46, 41 and 42, so that an answer of 0 is a page that was printed.
use Prim.Native.Nat.{ℕ, ◌≤◌, ◌<◌}
use mathlib.Core.Path.{◌≡◌}
use mathlib.Core.List.{List}
use native.Mathlib.Omega.{arith}
use borrow.Author.Tests.{leb-true}
use Rattle.logic.proofs.Tests.{and_right}
use Rattle.model.specs.Refusal.{pass}
use Rattle.model.proofs.Refusals.{first_left, first_right, unless_true, below_pass}
use Rattle.session_answers.proofs.Calls.{Numbered, unless_numbered, first_numbered, below_numbered, recorded_numbered}
use Rattle.charts.specs.Page.{chosen, charted}
use Rattle.charts.specs.Checks.{lent_check, counts_check, signal_check, signals_check, value_check, row_check, rows_check, chart_check}

module _ (signals values page : List ℕ) (count first_cycle cycles : ℕ) where
  pub chart_numbered : Numbered (chart_check signals values page count first_cycle cycles)
  unfolding chart_check lent_check counts_check signals_check signal_check rows_check row_check value_check
  chart_numbered =
      first_numbered _ _ (unless_numbered _ 40 0 (omega arith))
      (first_numbered _ _ (unless_numbered _ 46 0 (omega arith))
      (first_numbered _ _ (below_numbered count _ (λ k. unless_numbered _ 41 (chosen signals k) (omega arith)))
      (below_numbered count _ (λ k. below_numbered cycles _ (λ c. recorded_numbered (charted values k c))))))

  -- the signals of a page that is printed
  pub signals_high : chart_check signals values page count first_cycle cycles ≡ pass → (k : ℕ) → k < count → chosen signals k ≤ 4096
  unfolding chart_check signals_check signal_check
  signals_high e k h =
      leb-true (chosen signals k) 4096
      (and_right _ _ (unless_true _ 41 _ (below_pass count _ (first_left _ _ (first_right _ _ (first_right _ _ e))) k h)))
