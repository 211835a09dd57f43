-- The text of a chart page (02, ticket 1), byte by byte. crates/laws_charts/specs/Reading.antt says the same of each line and column.
use Rattle.std.specs.Prelude.{ℕ, ◌+◌, ◌-◌, List, [], ◌∷◌, ◌++◌, length, drop}
use Rattle.logic.specs.Listed.{listed}
use Rattle.fields.specs.Field.{space}
use Rattle.fields.specs.Line.{newline}
use Rattle.writing.specs.Text.{field_text}
use Rattle.model.specs.Listing.{joined}
use Rattle.charts.specs.Page.{line_columns, cycles_columns, value_column, chosen, charted, glyph, last_cycle}

abbrev pub spaces : ℕ → List ℕ
spaces n = listed n (λ k. space)

-- "The first line has first and last cycle, six columns each, then spaces."
unfoldable pub head_text : ℕ → ℕ → List ℕ
head_text first_cycle last = field_text first_cycle ++ field_text last ++ spaces (line_columns - cycles_columns) ++ newline ∷ []

-- "its number in six columns, two spaces, then one of 0 1 U Z for each cycle, spaces to column 80"
unfoldable pub row_text : ℕ → ℕ → (ℕ → ℕ) → List ℕ
row_text signal cycles value =
    field_text signal ++ spaces 2 ++ listed cycles (λ c. glyph (value c)) ++ spaces (line_columns - (value_column + cycles)) ++ newline ∷ []

-- the line of the signal chosen for line k
abbrev pub chart_row : List ℕ → List ℕ → ℕ → ℕ → List ℕ
chart_row signals values cycles k = row_text (chosen signals k) cycles (charted values k)

-- "Each further line is one chosen signal, in the order chosen"
unfoldable pub page_text : List ℕ → List ℕ → ℕ → ℕ → ℕ → List ℕ
page_text signals values count first_cycle cycles =
    head_text first_cycle (last_cycle first_cycle cycles) ++ joined count (chart_row signals values cycles)

-- a page with a text in its first bytes: "Bytes of the page buffer after the last line keep their values."
unfoldable pub printed_on : List ℕ → List ℕ → List ℕ
printed_on page text = text ++ drop (length text) page
