-- The panel with a number of the session or of a signal written into it; all other bytes stay.
use Rattle.std.specs.Prelude.{ℕ, Bool, List, eqb, leb, get_or, set}
use Rattle.logic.specs.Test.{◌and◌}
use Rattle.std.specs.Prelude.{if◌then◌else◌}
use Rattle.logic.specs.Listed.{listed}
use Rattle.words.specs.Stored.{word_stored}
use Rattle.buffers_tables.specs.Panel.{panel_length, panel_stride, finished_place, watched_place, mask_place, hand_column, signal_byte, signal_of, column_of}

-- with the cycles finished
abbrev pub with_finished : ℕ → List ℕ → List ℕ
with_finished number panel = word_stored number finished_place panel

-- with the watch
abbrev pub with_watch : ℕ → ℕ → List ℕ → List ℕ
with_watch signal mask panel = set (word_stored signal watched_place panel) mask_place mask

-- with the value in hand of signal s
abbrev pub with_hand : ℕ → ℕ → List ℕ → List ℕ
with_hand s value panel = set panel (signal_byte s hand_column) value

-- with the values in hand of all signals
unfoldable pub is_hand : ℕ → Bool
is_hand a = leb panel_stride a and eqb (column_of a) hand_column

unfoldable pub with_hands : (ℕ → ℕ) → List ℕ → List ℕ
with_hands hand panel = listed panel_length (λ a. if is_hand a then hand (signal_of a) else get_or panel a 0)
