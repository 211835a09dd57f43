-- What a call leaves, by its contract: a page on which a reader finds what was recorded, or the bytes that were lent.
use Prim.Native.Nat.{ℕ, zero, suc, ◌+◌, ◌<◌, ◌≤◌}
use mathlib.Core.Path.{◌≡◌, refl, sym, subst, ◌∙◌, ap}
use mathlib.Core.List.{List}
use native.Mathlib.Omega.{arith}
use lib.Dec.{eqb}
use lib.ListN.{length, get_or, drop, length-drop}
use lib.Seq.{length-take-le, get_or-take, get_or-drop, ext_get_or}
use Rattle.std.specs.Prelude.{if◌then◌else◌}
use Rattle.fields.specs.Field.{columns_at, is_field, number}
use Rattle.fields.specs.Line.{newline}
use Rattle.writing.specs.Text.{field_text}
use Rattle.writing.proofs.Writing.{length_text}
use Rattle.session_answers.proofs.Left.{left_done, left_refused}
use Rattle.session_answers.proofs.Calls.{done_passed, passed_done}
use Rattle.charts.specs.Page.{number_columns, value_column, page_cycles, page_length, line_columns, line_bytes, chosen, charted, glyph, last_cycle}
use Rattle.charts.specs.Text.{head_text, chart_row, page_text, printed_on}
use Rattle.charts.proofs.Refusals.{ChartSizes, ChartCounts, chart_lent_lem, chart_counts}
use Rattle.laws_writing.proofs.Spelling.{text_right}
use Rattle.laws_charts.specs.Calls.{Charts}
use Rattle.laws_charts.specs.Claim.{ChartClaim}
use Rattle.laws_charts.specs.Reading.{column_place, byte_at, ShowsNumber, PageOf}
use Rattle.laws_charts.proofs.Lines.{head_first, head_last, head_spaces, head_end, head_printed, row_signal, row_two_spaces, row_glyph, row_spaces, row_end, row_printed, page_size, page_head, page_row, page_others}
use Rattle.laws_charts.proofs.Refusals.{chart_numbered, signals_high}

-- six columns with the text of a number show it
shows_text : (page : List ℕ) (place n : ℕ) → place + 6 ≤ length page → n ≤ 65535
    → ((i : ℕ) → i < 6 → get_or page (place + i) 0 ≡ get_or (field_text n) i 0) → ShowsNumber page place n
shows_text page place n room small same =
    let r = text_right n small in
    record { form = ap is_field columns ∙ r.form; is = ap number columns ∙ r.is }
  where
    long : length (columns_at page place) ≡ 6
    long = length-take-le 6 (drop place page) (omega (arith, length-drop place page))

    columns : columns_at page place ≡ field_text n
    columns =
        ext_get_or 0 (columns_at page place) (field_text n) (long ∙ sym (length_text n))
        (λ i l.
        let low : i < 6 = omega (arith, long) in
        get_or-take 6 (drop place page) i 0 low ∙ get_or-drop place page i 0 ∙ same i low)

-- the value that a byte of 0 1 U Z stands for
value_of : ℕ → ℕ
value_of byte = if eqb byte 48 then 0 else if eqb byte 49 then 1 else if eqb byte 85 then 2 else 3

value_back_lem : (v : ℕ) → v ≤ 3 → value_of (glyph v) ≡ v
unfolding value_of glyph
value_back_lem zero h = refl
value_back_lem (suc zero) h = refl
value_back_lem (suc (suc zero)) h = refl
value_back_lem (suc (suc (suc zero))) h = refl
value_back_lem (suc (suc (suc (suc v)))) h = absurd (omega arith)

-- four values have four bytes
pub glyph_one_to_one : (v w : ℕ) → v ≤ 3 → w ≤ 3 → glyph v ≡ glyph w → v ≡ w
glyph_one_to_one v w h l e = sym (value_back_lem v h) ∙ ap value_of e ∙ value_back_lem w l

-- a page that was printed
module _ (signals values old : List ℕ) (count first_cycle cycles : ℕ) (lent : ChartSizes signals values old) (counts : ChartCounts count first_cycle cycles)
    (high : (k : ℕ) → k < count → chosen signals k ≤ 4096) where
  abbrev page : List ℕ
  page = printed_on old (page_text signals values count first_cycle cycles)

  abbrev last : ℕ
  last = last_cycle first_cycle cycles

  few : cycles ≤ page_cycles
  few = counts.cycles_high

  size : length page ≡ page_length
  size = page_size signals values old count first_cycle cycles few (omega (arith, lent.page_size, counts.count_high)) ∙ lent.page_size

  on_head : (i : ℕ) → i < line_bytes → byte_at page 0 i ≡ get_or (head_text first_cycle last) i 0
  on_head = page_head signals values old count first_cycle cycles few

  on_row : (k i : ℕ) → k < count → i < line_bytes → byte_at page (suc k) i ≡ get_or (chart_row signals values cycles k) i 0
  on_row = page_row signals values old count first_cycle cycles few

  line_ends : (line : ℕ) → line ≤ count → byte_at page line line_columns ≡ newline
  line_ends zero h = on_head line_columns (omega arith) ∙ head_end first_cycle last
  line_ends (suc k) h = on_row k line_columns (omega arith) (omega arith) ∙ row_end (chosen signals k) cycles (charted values k) few

  line_columns_lem : (line : ℕ) → line ≤ count → (column : ℕ) → column < line_columns → byte_at page line column ≡ newline → ⊥
  line_columns_lem zero h i l e = omega (arith, on_head i (omega arith), head_printed first_cycle last i l, e)
  line_columns_lem (suc k) h i l e = omega (arith, on_row k i (omega arith) (omega arith), row_printed (chosen signals k) cycles (charted values k) few i l, e)

  shows_first : ShowsNumber page (column_place 0 0) first_cycle
  shows_first =
      shows_text page (column_place 0 0) first_cycle (omega (arith, size)) (omega (arith, counts.cycles_low, counts.last_high))
      (λ i l. on_head i (omega arith) ∙ head_first first_cycle last i l)

  shows_last : ShowsNumber page (column_place 0 number_columns) last
  shows_last =
      shows_text page (column_place 0 number_columns) last (omega (arith, size)) counts.last_high
      (λ i l.
      let place : column_place 0 number_columns + i ≡ column_place 0 (6 + i) = omega arith in
      ap (λ (m : ℕ). get_or page m 0) place ∙ on_head (6 + i) (omega arith) ∙ head_last first_cycle last i l)

  shows_signal : (k : ℕ) → k < count → ShowsNumber page (column_place (suc k) 0) (chosen signals k)
  shows_signal k h =
      shows_text page (column_place (suc k) 0) (chosen signals k) (omega (arith, size, counts.count_high)) (omega (arith, high k h))
      (λ i l.
      let place : column_place (suc k) 0 + i ≡ column_place (suc k) i = omega arith in
      ap (λ (m : ℕ). get_or page m 0) place ∙ on_row k i h (omega arith) ∙ row_signal (chosen signals k) cycles (charted values k) few i l)

  page_of : PageOf signals values old count first_cycle cycles page
  page_of =
      record {
        size = size;
        ends = line_ends;
        columns = line_columns_lem;
        shows_first = shows_first;
        shows_last = shows_last;
        first_spaces = λ i low l. on_head i (omega arith) ∙ head_spaces first_cycle last i low l;
        shows_signal = shows_signal;
        two_spaces = λ k h i low l. on_row k i h (omega arith) ∙ row_two_spaces (chosen signals k) cycles (charted values k) few i low l;
        values_shown = λ k h c l. on_row k (value_column + c) h (omega (arith, few)) ∙ row_glyph (chosen signals k) cycles (charted values k) few c l;
        last_spaces = λ k h i low l. on_row k i h (omega arith) ∙ row_spaces (chosen signals k) cycles (charted values k) few i low l;
        others = page_others signals values old count first_cycle cycles few;
      }

module _ {signals values page left : List ℕ} {count first_cycle cycles bits : ℕ} (charts : Charts signals values page count first_cycle cycles bits left) where
  -- a refused call leaves the page as it was
  pub chart_refused : (bits ≡ 0 → ⊥) → left ≡ page
  chart_refused some = charts.leaves ∙ left_refused _ _ page (λ p. some (charts.answer ∙ passed_done _ p))

  -- one that is not refused leaves a page on which a reader finds what the request says
  pub chart_printed : bits ≡ 0 → PageOf signals values page count first_cycle cycles left
  chart_printed done =
      let accepted = done_passed _ (chart_numbered signals values page count first_cycle cycles) (sym charts.answer ∙ done) in
      let is = charts.leaves ∙ left_done _ _ page accepted in
      subst (PageOf signals values page count first_cycle cycles) (sym is)
      (page_of signals values page count first_cycle cycles (chart_lent_lem signals values page count first_cycle cycles accepted)
      (chart_counts signals values page count first_cycle cycles accepted)
      (signals_high signals values page count first_cycle cycles accepted))

  pub chart_claim : ChartClaim signals values page count first_cycle cycles bits left
  chart_claim = record { answer = charts.answer; refused = chart_refused; printed = chart_printed }
