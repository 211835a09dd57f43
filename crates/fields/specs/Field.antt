-- A field (01, Files): "six columns, each a decimal number from 0 to 65535, right-justified, spaces before it, no leading zeros".
use Rattle.std.specs.Prelude.{ℕ, ◌+◌, ◌-◌, ◌*◌, Bool, true, false, not, List, [], ◌∷◌, eqb, leb, length, take, drop}
use Rattle.logic.specs.Test.{◌and◌, every}
use Rattle.std.specs.Prelude.{if◌then◌else◌}

-- the byte of a space, of the digit 0 and of the digit 9
abbrev pub space : ℕ
space = 32

abbrev pub digit0 : ℕ
digit0 = 48

abbrev pub digit9 : ℕ
digit9 = 57

unfoldable pub is_digit : ℕ → Bool
is_digit c = leb digit0 c and leb c digit9

-- what stands after the spaces
unfoldable pub after_spaces : List ℕ → List ℕ
after_spaces [] = []
after_spaces (c ∷ cs) = if eqb c space then after_spaces cs else c ∷ cs

-- the number that digits spell, n being spelt before them
unfoldable pub decimal : ℕ → List ℕ → ℕ
decimal n [] = n
decimal n (c ∷ cs) = decimal (10 * n + (c - digit0)) cs

-- there is a digit, and 0 begins no other number than 0
unfoldable pub no_leading_zero : List ℕ → Bool
no_leading_zero [] = false
no_leading_zero (c ∷ []) = true
no_leading_zero (c ∷ d ∷ ds) = not (eqb c digit0)

-- "a decimal number from 0 to 65535, .., no leading zeros"
unfoldable pub is_numeral : List ℕ → Bool
is_numeral ds = no_leading_zero ds and every is_digit ds and leb (decimal 0 ds) 65535

-- the six columns are a right field, and the number that they show
unfoldable pub is_field : List ℕ → Bool
is_field columns = eqb (length columns) 6 and is_numeral (after_spaces columns)

unfoldable pub number : List ℕ → ℕ
number columns = decimal 0 (after_spaces columns)

-- the columns at a place of a file, fewer than six where it ends
abbrev pub columns_at : List ℕ → ℕ → List ℕ
columns_at bytes at = take 6 (drop at bytes)

abbrev pub is_field_at : List ℕ → ℕ → Bool
is_field_at bytes at = is_field (columns_at bytes at)

abbrev pub number_at : List ℕ → ℕ → ℕ
number_at bytes at = number (columns_at bytes at)
