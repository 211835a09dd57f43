-- The answers of reading a field and a line at a place of a file.
use Rattle.std.specs.Prelude.{ℕ, ◌+◌, List, Option, Some, None}
use Rattle.std.specs.Prelude.{if◌then◌else◌}
use Rattle.fields.specs.Field.{is_field_at, number_at}
use Rattle.fields.specs.Line.{is_line_at, line_length}

-- a right field: its number and the place after it
unfoldable pub read_field : List ℕ → ℕ → Option (ℕ × ℕ)
read_field bytes at = if is_field_at bytes at then Some (number_at bytes at, at + 6) else None

-- a right line of n fields: the place after it
unfoldable pub read_line : List ℕ → ℕ → ℕ → Option ℕ
read_line bytes at n = if is_line_at bytes at n then Some (at + line_length n) else None
