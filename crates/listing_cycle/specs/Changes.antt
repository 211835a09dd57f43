-- The lines of the signals whose value is not the one last shown (01, Listing: "each whose value differs from the time before, by time
-- and signal").
use Rattle.std.specs.Prelude.{ℕ, suc, List, [], ◌∷◌, eqb, leb}
use Rattle.logic.specs.Test.{◌and◌}
use Rattle.std.specs.Prelude.{if◌then◌else◌}
use Rattle.logic.specs.Listed.{listed}
use Rattle.writing.specs.Text.{line_text}
use Rattle.model.specs.Listing.{joined}
use Rattle.buffers_memory.specs.Memory.{memory_of}
use Rattle.machine_run.specs.Running.{value_in}

-- the longest piece: a line of each signal
abbrev pub piece_length : ℕ
piece_length = 77824

-- the values shown, by signal, 1 to 4096; the code of none before time 0
abbrev pub shown_length : ℕ
shown_length = 4097

abbrev pub not_shown : ℕ
not_shown = 4

-- the value at the place of signal s
abbrev pub value_held : List ℕ → List ℕ → ℕ → ℕ
value_held panel memory s = value_in panel (memory_of memory) s

-- the line of signal s at a time
unfoldable pub change_line : ℕ → ℕ → ℕ → ℕ → List ℕ
change_line time s value shown = if eqb value shown then [] else line_text (time ∷ s ∷ value ∷ [])

-- those of the signals 1 to n
unfoldable pub change_lines : ℕ → ℕ → (ℕ → ℕ) → (ℕ → ℕ) → List ℕ
change_lines n time values shown = joined n (λ k. change_line time (suc k) (values (suc k)) (shown (suc k)))

-- the values of the signals 1 to n shown, and all else as it was
unfoldable pub shown_with : ℕ → (ℕ → ℕ) → (ℕ → ℕ) → List ℕ
shown_with n values shown = listed shown_length (λ s. if leb 1 s and leb s n then values s else shown s)
