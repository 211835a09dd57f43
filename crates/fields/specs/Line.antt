-- "A line is fields of six columns, .., then byte 10" (01, Files).
use Rattle.std.specs.Prelude.{ℕ, ◌+◌, ◌*◌, Bool, List, eqb, get_or}
use Rattle.logic.specs.Test.{◌and◌, all}
use Rattle.fields.specs.Field.{is_field_at}

abbrev pub newline : ℕ
newline = 10

-- the length of a line of n fields
abbrev pub line_length : ℕ → ℕ
line_length n = 6 * n + 1

-- a line of n fields stands at a place of a file
unfoldable pub is_line_at : List ℕ → ℕ → ℕ → Bool
is_line_at bytes at n = all n (λ k. is_field_at bytes (at + 6 * k)) and eqb (get_or bytes (at + 6 * n) 0) newline
