-- A number stored in two bytes, the low one first.
use Rattle.std.specs.Prelude.{ℕ, ◌+◌, ◌/◌, ◌%◌, List, set}

-- the bytes with a number stored at a place
unfoldable pub word_stored : ℕ → ℕ → List ℕ → List ℕ
word_stored number at bytes = set (set bytes at (number % 256)) (at + 1) (number / 256)
