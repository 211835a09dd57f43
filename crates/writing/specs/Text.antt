-- Numbers as fields and lines: what a listing and a refusal print (01, Files: "right-justified, spaces before it, no leading zeros").
use Rattle.std.specs.Prelude.{ℕ, ◌+◌, ◌/◌, ◌%◌, eqb, leb}
use mathlib.Core.List.{List, [], ◌∷◌, ◌++◌, map, flat_map}
use Rattle.logic.specs.Test.{◌or◌}
use Rattle.std.specs.Prelude.{if◌then◌else◌}
use Rattle.fields.specs.Field.{space, digit0}
use Rattle.fields.specs.Line.{newline}

-- the column of weight w: a digit where the number reaches it and in the last column, else a space
unfoldable pub column_of : ℕ → ℕ → ℕ
column_of n w = if leb w n or eqb w 1 then digit0 + n / w % 10 else space

unfoldable pub field_text : ℕ → List ℕ
field_text n = map (column_of n) (100000 ∷ 10000 ∷ 1000 ∷ 100 ∷ 10 ∷ 1 ∷ [])

unfoldable pub line_text : List ℕ → List ℕ
line_text numbers = flat_map field_text numbers ++ newline ∷ []
