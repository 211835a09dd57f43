-- What a call leaves in a buffer that it writes, by its check: "A refused session call changes no byte, and so does any refused call on
-- lent buffers but the opening" (01, Refusals).
use Rattle.std.specs.Prelude.{ℕ, List}
use Rattle.model.specs.Refusal.{Check, pass, fail}

-- the new bytes where the check passes, else those lent
unfoldable pub left_after : Check → List ℕ → List ℕ → List ℕ
left_after pass bytes lent = bytes
left_after (fail number returned) bytes lent = lent
