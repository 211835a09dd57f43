-- The bytes of the panel (docs/PANEL.md): ten for the session, and ten for each signal s at 10 * s.
use Rattle.std.specs.Prelude.{ℕ, ◌+◌, ◌*◌, ◌/◌, ◌%◌, List, [], ◌∷◌, get_or}
use Rattle.words.specs.Word.{word}
use Rattle.gates.specs.declared.Gate.{Gate}

abbrev pub panel_length : ℕ
panel_length = 40970

-- the bytes of the session, and of each signal
abbrev pub panel_stride : ℕ
panel_stride = 10

-- where the session's numbers stand: N, P, C, the cycles finished, the watch
abbrev pub signals_place : ℕ
signals_place = 0

abbrev pub processors_place : ℕ
processors_place = 2

abbrev pub slots_place : ℕ
slots_place = 3

abbrev pub finished_place : ℕ
finished_place = 5

abbrev pub watched_place : ℕ
watched_place = 7

abbrev pub mask_place : ℕ
mask_place = 9

abbrev pub signals_in : List ℕ → ℕ
signals_in panel = word panel signals_place

abbrev pub processors_in : List ℕ → ℕ
processors_in panel = get_or panel processors_place 0

abbrev pub slots_in : List ℕ → ℕ
slots_in panel = word panel slots_place

abbrev pub finished_in : List ℕ → ℕ
finished_in panel = word panel finished_place

abbrev pub watched_in : List ℕ → ℕ
watched_in panel = word panel watched_place

abbrev pub mask_in : List ℕ → ℕ
mask_in panel = get_or panel mask_place 0

-- the session's bytes in their order
abbrev pub head_bytes : ℕ → ℕ → ℕ → ℕ → ℕ → ℕ → List ℕ
head_bytes signals processors slots finished watched mask =
    signals % 256 ∷ signals / 256
    ∷ processors
    ∷ slots % 256 ∷ slots / 256
    ∷ finished % 256 ∷ finished / 256
    ∷ watched % 256 ∷ watched / 256
    ∷ mask
    ∷ []

-- where the numbers of signal s begin, and the columns in which they stand: kind, f and g1 to g5 as in NET, the value in hand, the
-- processor and the slot of its place
abbrev pub signal_start : ℕ → ℕ
signal_start s = panel_stride * s

abbrev pub kind_column : ℕ
kind_column = 0

abbrev pub codes_column : ℕ
codes_column = 1

abbrev pub hand_column : ℕ
hand_column = 7

abbrev pub processor_column : ℕ
processor_column = 8

abbrev pub slot_column : ℕ
slot_column = 9

-- the byte of signal s in a column, and the number in it
abbrev pub signal_byte : ℕ → ℕ → ℕ
signal_byte s column = signal_start s + column

abbrev pub column_in : List ℕ → ℕ → ℕ → ℕ
column_in panel s column = get_or panel (signal_byte s column) 0

-- the signal and the column of a byte
abbrev pub signal_of : ℕ → ℕ
signal_of a = a / panel_stride

abbrev pub column_of : ℕ → ℕ
column_of a = a % panel_stride

abbrev pub kind_in : List ℕ → ℕ → ℕ
kind_in panel s = get_or panel (signal_start s) 0

abbrev pub codes_in : List ℕ → ℕ → Gate
codes_in panel s =
    record {
      f = column_in panel s codes_column;
      g1 = column_in panel s (codes_column + 1);
      g2 = column_in panel s (codes_column + 2);
      g3 = column_in panel s (codes_column + 3);
      g4 = column_in panel s (codes_column + 4);
      g5 = column_in panel s (codes_column + 5);
    }

abbrev pub hand_in : List ℕ → ℕ → ℕ
hand_in panel s = column_in panel s hand_column

abbrev pub processor_in : List ℕ → ℕ → ℕ
processor_in panel s = column_in panel s processor_column

abbrev pub slot_in : List ℕ → ℕ → ℕ
slot_in panel s = column_in panel s slot_column

-- the bytes of a signal in their order
abbrev pub signal_bytes : ℕ → Gate → ℕ → ℕ → ℕ → List ℕ
signal_bytes kind codes hand processor slot =
    kind
    ∷ codes.f ∷ codes.g1 ∷ codes.g2 ∷ codes.g3 ∷ codes.g4 ∷ codes.g5
    ∷ hand
    ∷ processor ∷ slot
    ∷ []
