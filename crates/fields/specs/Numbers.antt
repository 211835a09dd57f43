-- The numbers of a row of fields, as the law that a right line is the text of its numbers has them (crates/laws_writing): no demand is stated
-- with them, and they need not be believed.
use Rattle.std.specs.Prelude.{ℕ, zero, suc, ◌+◌, List, [], ◌∷◌}
use Rattle.fields.specs.Field.{number_at}

-- those of the n fields at a place
unfoldable pub numbers_at : List ℕ → ℕ → ℕ → List ℕ
numbers_at bytes at zero = []
numbers_at bytes at (suc n) = number_at bytes at ∷ numbers_at bytes (at + 6) n
