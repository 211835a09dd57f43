-- The largest byte of a run: one number tells whether the whole run is 0, or in a range that has an upper end alone.
use Rattle.std.specs.Prelude.{ℕ, zero, suc, ◌+◌, max, List, get_or}

-- of `count` bytes starting at `at`, 0 of none
unfoldable pub largest_of : List ℕ → ℕ → ℕ → ℕ
largest_of bytes at zero = 0
largest_of bytes at (suc n) = max (largest_of bytes at n) (get_or bytes (at + n) 0)
