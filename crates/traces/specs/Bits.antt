-- A number and its bits.
use Rattle.std.specs.Prelude.{ℕ, zero, suc, ◌+◌, ◌*◌, ◌/◌, ◌%◌}

-- bit i of a number, of weight 2^i
unfoldable pub bit : ℕ → ℕ → ℕ
bit x zero = x % 2
bit x (suc i) = bit (x / 2) i

-- the number of k bits, f 0 the lowest
unfoldable pub bits : (ℕ → ℕ) → ℕ → ℕ
bits f zero = 0
bits f (suc k) = f 0 + 2 * bits (λ i. f (suc i)) k
