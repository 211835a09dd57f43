-- How the code reads a field, column by column, and a field's number by low halves: it mirrors private functions and need not be
-- believed. `read_field` and `number_at` are what a caller reads.
use Rattle.std.specs.Prelude.{ℕ, ◌+◌, ◌-◌, ◌*◌, ◌%◌, List, [], ◌∷◌, eqb, leb, get_or, Option, Some, None}
use Rattle.std.specs.Prelude.{if◌then◌else◌}
use Rattle.std.specs.Option.{option_map}
use Rattle.fields.specs.Field.{space, digit0, is_digit}
use Rattle.fields.specs.declared.Scan.{Scan}
use Rattle.fields.specs.declared.Scan.TheVariants.{Blank, Digits}

-- the number n with the digit d after it, or none
unfoldable pub extended : ℕ → ℕ → Option ℕ
extended n d =
    if eqb n 0 then None else
    if leb (10 * n + d) 65535 then Some (10 * n + d) else
    None

-- the column c after those before it
unfoldable pub scan : Scan → ℕ → Option Scan
scan Blank c = if eqb c space then Some Blank else if is_digit c then Some (Digits (c - digit0)) else None
scan (Digits n) c = if is_digit c then option_map Digits (extended n (c - digit0)) else None

-- further columns, as far as there is a scan
unfoldable pub scans_on : Option Scan → List ℕ → Option Scan
scans_on None cs = None
scans_on (Some s) [] = Some s
scans_on (Some s) (c ∷ cs) = scans_on (scan s c) cs

abbrev pub scans : Scan → List ℕ → Option Scan
scans s cs = scans_on (Some s) cs

-- the number that columns are
abbrev pub number_of : Scan → Option ℕ
number_of Blank = None
number_of (Digits n) = Some n

-- a right field's number by the low halves of its last five bytes
abbrev pub low_number : List ℕ → ℕ → ℕ
low_number l at =
    10000 * (get_or l (at + 1) 0 % 16) + 1000 * (get_or l (at + 2) 0 % 16)
    + (100 * (get_or l (at + 3) 0 % 16) + 10 * (get_or l (at + 4) 0 % 16) + get_or l (at + 5) 0 % 16)
