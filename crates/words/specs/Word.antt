-- Numbers of two bytes, as the working buffers hold them (docs/PANEL.md).
use Rattle.std.specs.Prelude.{ℕ, ◌+◌, ◌*◌, List, get_or}

-- a number in two bytes, the low one first
abbrev pub word : List ℕ → ℕ → ℕ
word bytes at = get_or bytes at 0 + 256 * get_or bytes (at + 1) 0
