-- A run of bytes that are 0, as every number that is not in use (D25).
use Rattle.std.specs.Prelude.{ℕ, ◌+◌, Bool, List, eqb, get_or}
use Rattle.logic.specs.Test.{all}

-- `count` bytes starting at `at` are 0
unfoldable pub zeros : List ℕ → ℕ → ℕ → Bool
zeros bytes at count = all count (λ k. eqb (get_or bytes (at + k) 0) 0)
