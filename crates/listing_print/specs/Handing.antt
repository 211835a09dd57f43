-- What the program hands to its one writer for the bytes that it read of the files: the pieces of the listing in order, or the one line of
-- the refusal.
use Rattle.std.specs.Prelude.{ℕ, ◌≤◌, ◌<◌, ◌≡◌, Bool, true, false, List, Result, Ok, Err}
use Rattle.model.specs.Refusal.{Check, pass, fail}
use Rattle.model.specs.Files.{Files}
use Rattle.model.specs.Acceptance.{panel_limit, file_check}
use Rattle.model.specs.Listing.{refusal_line}
use Rattle.listing.specs.Pieces.{piece_count, piece_at}
use Rattle.listing_print.specs.declared.Printed.{Printed}
use Rattle.listing_print.specs.declared.CutShort.{CutShort}

-- nothing is handed over yet
abbrev pub unprinted : Printed
unprinted = record { parts = 0 }

unfoldable pub part_for : Check → Files → ℕ → List ℕ
part_for pass files k = piece_at files k
part_for (fail number returned) files k = refusal_line number returned

abbrev pub part_at : Files → ℕ → List ℕ
part_at files k = part_for (file_check panel_limit files) files k

unfoldable pub count_for : Check → Files → ℕ
count_for pass files = piece_count files
count_for (fail number returned) files = 1

abbrev pub part_count : Files → ℕ
part_count files = count_for (file_check panel_limit files) files

-- how many parts are written, whether or not the writing of the next one failed
abbrev pub parts_of : Result Printed CutShort → ℕ
parts_of (Ok printed) = printed.parts
parts_of (Err cut) = cut.parts

-- Parts were handed over from the first on, and `parts` counts those that were written: all, unless the writing of the next one failed
pub record Handing (files : Files) (parts : ℕ) (failed : Bool) : Type 0 where
  pub few : parts ≤ part_count files
  pub whole : failed ≡ false → parts ≡ part_count files
  pub cut : failed ≡ true → parts < part_count files
