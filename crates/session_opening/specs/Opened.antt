-- The opening (01, Session: "It opens when the three files are accepted"): its answer, and every byte that it leaves.
use Rattle.std.specs.Prelude.{ℕ, List, length}
use Rattle.logic.specs.Listed.{listed}
use Rattle.model.specs.Refusal.{Check, pass, fail, first, unless}
use Rattle.model.specs.Files.{Files}
use Rattle.model.specs.Acceptance.{file_check}
use Rattle.model.specs.Session.{Lengths, same_lengths}
use Rattle.buffers_lengths.specs.Lengths.{fixed, lengths_lent}

-- "At the opening 40 comes before all file refusals." The lengths are those of panel, program and memory as lent; the
-- limit is the most signals that a NET may have.
unfoldable pub opening_check : ℕ → Files → Lengths → Check
opening_check limit files lent = first (unless (same_lengths lent fixed) 40 0) (file_check limit files)

-- the same by the bytes lent
abbrev pub opening_check_lent : ℕ → Files → (panel program memory : List ℕ) → Check
opening_check_lent limit files panel program memory = opening_check limit files (lengths_lent panel program memory)

-- "A refused opening leaves the working buffers all zero, as far as they were lent to it": that number of zeros
abbrev pub cleared : ℕ → List ℕ
cleared size = listed size (λ a. 0)

-- what a buffer holds after the opening: bytes of the files alone, or zeros
unfoldable pub left_by : Check → List ℕ → List ℕ → List ℕ
left_by pass bytes lent = bytes
left_by (fail number returned) bytes lent = cleared (length lent)
