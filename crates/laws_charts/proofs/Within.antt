-- What stands past the counts in signals and values plays no part: with others that agree within them a call answers and leaves the same.
use Prim.Native.Nat.{ℕ, ◌+◌, ◌-◌, ◌<◌}
use mathlib.Core.Path.{◌≡◌, sym, ◌∙◌, ap, ap₂}
use mathlib.Core.List.{List, [], ◌∷◌, ◌++◌}
use lib.Dec.{leb}
use lib.ListN.{length}
use Rattle.logic.specs.Test.{◌and◌}
use Rattle.logic.proofs.Listed.{listed_same}
use Rattle.fields.specs.Line.{newline}
use Rattle.writing.specs.Text.{field_text}
use Rattle.model.specs.Refusal.{Check, first, unless}
use Rattle.model.specs.Session.{same_lengths}
use Rattle.model.proofs.Refusals.{below_same}
use Rattle.model.proofs.Demands.{joined_same}
use Rattle.session_answers.specs.Answers.{check_bits}
use Rattle.session_answers.specs.Recorded.{recorded_check}
use Rattle.session_answers.specs.Left.{left_after}
use Rattle.charts.specs.Page.{line_columns, value_column, chosen, charted, glyph, last_cycle}
use Rattle.charts.specs.Text.{spaces, head_text, row_text, chart_row, page_text, printed_on}
use Rattle.charts.specs.Checks.{chart_fixed, lent_check, counts_check, signal_check, signals_check, value_check, row_check, rows_check, chart_check}
use Rattle.laws_charts.specs.Calls.{Charts}

-- signals and values that agree within the counts
module _ (signals values signals' values' : List ℕ) (count cycles : ℕ) (same : (k : ℕ) → k < count → chosen signals k ≡ chosen signals' k)
    (equal : (k : ℕ) → k < count → (c : ℕ) → c < cycles → charted values k c ≡ charted values' k c) where
  -- are judged alike
  check_within : (page : List ℕ) (first_cycle : ℕ) → length signals ≡ length signals' → length values ≡ length values'
      → chart_check signals values page count first_cycle cycles ≡ chart_check signals' values' page count first_cycle cycles
  unfolding chart_check lent_check signals_check signal_check rows_check row_check value_check
  check_within page first_cycle long wide =
      ap₂ first
      (ap₂ (λ (m n : ℕ). unless (same_lengths (m ∷ n ∷ length page ∷ []) chart_fixed) 40 0) long wide)
      (ap (first (counts_check count first_cycle cycles))
      (ap₂ first
      (below_same count _ _ (λ k h. ap (λ (s : ℕ). unless (leb 1 s and leb s 4096) 41 s) (same k h)))
      (below_same count _ _ (λ k h. below_same cycles _ _ (λ c l. ap recorded_check (equal k h c l))))))

  -- and printed alike
  text_within : (first_cycle : ℕ) → page_text signals values count first_cycle cycles ≡ page_text signals' values' count first_cycle cycles
  unfolding page_text row_text
  text_within first_cycle =
      ap (λ (rows : List ℕ). head_text first_cycle (last_cycle first_cycle cycles) ++ rows)
      (joined_same count (chart_row signals values cycles) (chart_row signals' values' cycles)
      (λ k h.
      ap₂ (λ (s : ℕ) (shown : List ℕ). field_text s ++ spaces 2 ++ shown ++ spaces (line_columns - (value_column + cycles)) ++ newline ∷ []) (same k h)
      (listed_same cycles _ _ (λ c l. ap glyph (equal k h c l)))))

  pub chart_reads_within : {page left left' : List ℕ} {first_cycle bits bits' : ℕ} → length signals ≡ length signals' → length values ≡ length values'
      → Charts signals values page count first_cycle cycles bits left → Charts signals' values' page count first_cycle cycles bits' left'
      → (bits ≡ bits') × (left ≡ left')
  chart_reads_within {page} {first_cycle = first_cycle} long wide one other =
      let check = check_within page first_cycle long wide in (
        one.answer ∙ ap check_bits check ∙ sym other.answer,
        one.leaves ∙ ap₂ (λ (k : Check) (t : List ℕ). left_after k (printed_on page t) page) check (text_within first_cycle) ∙ sym other.leaves,
      )
