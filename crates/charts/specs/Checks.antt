-- The refusals of a chart page (02, ticket 1), in their order.
use Rattle.std.specs.Prelude.{ℕ, Bool, List, [], ◌∷◌, leb, length}
use Rattle.logic.specs.Test.{◌and◌}
use Rattle.model.specs.Refusal.{Check, first, unless, first_below}
use Rattle.model.specs.Session.{Lengths, same_lengths}
use Rattle.session_answers.specs.Recorded.{recorded_check}
use Rattle.charts.specs.Page.{page_signals, page_cycles, signals_length, record_length, page_length, chosen, charted, last_cycle}

-- the lengths lent, those of the signals, the values and the page, and the fixed ones
abbrev pub chart_lent : List ℕ → List ℕ → List ℕ → Lengths
chart_lent signals values page = length signals ∷ length values ∷ length page ∷ []

abbrev pub chart_fixed : Lengths
chart_fixed = signals_length ∷ record_length ∷ page_length ∷ []

unfoldable pub lent_check : List ℕ → List ℕ → List ℕ → Check
lent_check signals values page = unless (same_lengths (chart_lent signals values page) chart_fixed) 40 0

-- no "signal or cycle count outside these ends or a last cycle past 65535"
unfoldable pub on_page : ℕ → ℕ → ℕ → Bool
on_page count first_cycle cycles =
    leb 1 count and leb count page_signals and leb 1 cycles and leb cycles page_cycles and leb (last_cycle first_cycle cycles) 65535

unfoldable pub counts_check : ℕ → ℕ → ℕ → Check
counts_check count first_cycle cycles = unless (on_page count first_cycle cycles) 46 0

-- "first chosen signal that is 0 or above 4096"
unfoldable pub signal_check : List ℕ → ℕ → Check
signal_check signals k = unless (leb 1 (chosen signals k) and leb (chosen signals k) 4096) 41 (chosen signals k)

unfoldable pub signals_check : List ℕ → ℕ → Check
signals_check signals count = first_below count (signal_check signals)

-- "first recorded value above 3 of those to be printed, by line, then cycle"
unfoldable pub value_check : List ℕ → ℕ → ℕ → Check
value_check values k c = recorded_check (charted values k c)

unfoldable pub row_check : List ℕ → ℕ → ℕ → Check
row_check values cycles k = first_below cycles (value_check values k)

unfoldable pub rows_check : List ℕ → ℕ → ℕ → Check
rows_check values count cycles = first_below count (row_check values cycles)

unfoldable pub chart_check : List ℕ → List ℕ → List ℕ → ℕ → ℕ → ℕ → Check
chart_check signals values page count first_cycle cycles =
    first (lent_check signals values page)
    (first (counts_check count first_cycle cycles)
    (first (signals_check signals count) (rows_check values count cycles)))
