-- The listing in pieces (01, Listing): time 0, then each cycle, then the last line.
use Rattle.std.specs.Prelude.{ℕ, zero, suc, ◌+◌, List, [], ◌∷◌, ltb}
use Rattle.std.specs.Prelude.{if◌then◌else◌}
use Rattle.writing.specs.Text.{line_text}
use Rattle.model.specs.Files.{Files}
use Rattle.model.specs.Stimulus.{end_time}
use Rattle.model.specs.Acceptance.{network_of}
use Rattle.model.specs.Listing.{value_at, listed_first, listed_cycle}

-- how many there are: T cycles, and two more
abbrev pub piece_count : Files → ℕ
piece_count files = end_time files.STIM + 2

-- "All signals at time 0, then each whose value differs from the time before .., last line T, 0, 0."
unfoldable pub piece_at : Files → ℕ → List ℕ
piece_at files zero = listed_first (network_of files).size (end_time files.STIM) (value_at files)
piece_at files (suc t) =
    if ltb t (end_time files.STIM)
    then listed_cycle (network_of files).size (end_time files.STIM) (value_at files) t
    else line_text (end_time files.STIM ∷ 0 ∷ 0 ∷ [])
