-- What a reader finds on a page, line by line and column by column, both counted from 0: the sentences of 02, ticket 1, without the text
-- that the contract builds. Line 0 has the cycles, line k + 1 the signal chosen for line k.
use Rattle.std.specs.Prelude.{ℕ, suc, ◌+◌, ◌*◌, ◌<◌, ◌≤◌, ◌≡◌, true, List, length, get_or}
use Rattle.fields.specs.Field.{space, is_field_at, number_at}
use Rattle.fields.specs.Line.{newline}
use Rattle.charts.specs.Page.{page_length, line_columns, line_bytes, number_columns, cycles_columns, value_column, chosen, charted, glyph, last_cycle}

-- the place of a column of a line, and its byte
abbrev pub column_place : ℕ → ℕ → ℕ
column_place line column = line_bytes * line + column

abbrev pub byte_at : List ℕ → ℕ → ℕ → ℕ
byte_at page line column = get_or page (column_place line column) 0

-- six columns from a place on are a field that shows a number
pub record ShowsNumber (page : List ℕ) (place number : ℕ) : Type 0 where
  pub form : is_field_at page place ≡ true
  pub is : number_at page place ≡ number

pub record PageOf (signals values old : List ℕ) (count first_cycle cycles : ℕ) (page : List ℕ) : Type 0 where
  pub size : length page ≡ page_length
  -- "Every line has exactly 80 columns and a line end."
  pub ends : (line : ℕ) → line ≤ count → byte_at page line line_columns ≡ newline
  pub columns : (line : ℕ) → line ≤ count → (column : ℕ) → column < line_columns → byte_at page line column ≡ newline → ⊥
  -- "The first line has first and last cycle, six columns each, then spaces."
  pub shows_first : ShowsNumber page (column_place 0 0) first_cycle
  pub shows_last : ShowsNumber page (column_place 0 number_columns) (last_cycle first_cycle cycles)
  pub first_spaces : (column : ℕ) → cycles_columns ≤ column → column < line_columns → byte_at page 0 column ≡ space
  -- "Each further line is one chosen signal, in the order chosen: its number in six columns, two spaces, then one of 0 1 U Z for each
  -- cycle, spaces to column 80."
  pub shows_signal : (k : ℕ) → k < count → ShowsNumber page (column_place (suc k) 0) (chosen signals k)
  pub two_spaces : (k : ℕ) → k < count → (column : ℕ) → number_columns ≤ column → column < value_column → byte_at page (suc k) column ≡ space
  pub values_shown : (k : ℕ) → k < count → (c : ℕ) → c < cycles → byte_at page (suc k) (value_column + c) ≡ glyph (charted values k c)
  pub last_spaces : (k : ℕ) → k < count → (column : ℕ) → value_column + cycles ≤ column → column < line_columns → byte_at page (suc k) column ≡ space
  -- "Bytes of the page buffer after the last line keep their values."
  pub others : (place : ℕ) → line_bytes * suc count ≤ place → get_or page place 0 ≡ get_or old place 0
