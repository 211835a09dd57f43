-- A chart page (02, ticket 1): how large it is, and what it shows. Its signals and its cycles are counted from 0.
use Rattle.std.specs.Prelude.{ℕ, ◌+◌, ◌-◌, ◌*◌, List, eqb, get_or}
use Rattle.std.specs.Prelude.{if◌then◌else◌}
use Rattle.fields.specs.Field.{digit0}
use Rattle.words.specs.Word.{word}

-- "A page carries 1 to 56 signals and 1 to 72 cycles."
abbrev pub page_signals : ℕ
page_signals = 56

abbrev pub page_cycles : ℕ
page_cycles = 72

-- "Every line has exactly 80 columns and a line end."
abbrev pub line_columns : ℕ
line_columns = 80

abbrev pub line_bytes : ℕ
line_bytes = 81

-- Columns are counted from 0. "first and last cycle, six columns each": the last cycle begins in column 6, and spaces follow from 12 on.
-- "its number in six columns, two spaces": the values begin in column 8.
abbrev pub number_columns : ℕ
number_columns = 6

abbrev pub cycles_columns : ℕ
cycles_columns = 12

abbrev pub value_column : ℕ
value_column = 8

-- the lengths of the buffers: two bytes for each signal's number, a row of 72 values for each signal, and the page with its first line
abbrev pub signals_length : ℕ
signals_length = 2 * page_signals

abbrev pub record_length : ℕ
record_length = page_cycles * page_signals

abbrev pub page_length : ℕ
page_length = line_bytes * (page_signals + 1)

-- the number of the signal chosen for line k
abbrev pub chosen : List ℕ → ℕ → ℕ
chosen signals k = word signals (2 * k)

-- its recorded value in cycle c of the page
abbrev pub charted : List ℕ → ℕ → ℕ → ℕ
charted values k c = get_or values (page_cycles * k + c) 0

-- "one of 0 1 U Z", as bytes: 85 is U, 90 is Z
unfoldable pub glyph : ℕ → ℕ
glyph value =
    if eqb value 0 then digit0 else
    if eqb value 1 then digit0 + 1 else
    if eqb value 2 then 85 else
    90

-- the last of some cycles, the first being given
abbrev pub last_cycle : ℕ → ℕ → ℕ
last_cycle first_cycle cycles = first_cycle + cycles - 1
