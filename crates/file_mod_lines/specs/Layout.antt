-- How the code judges line 1 and a line's layout, at the line's place: it mirrors private functions and need not be believed. `mod_header`
-- and `line_layout` are what a caller reads.
use Rattle.std.specs.Prelude.{ℕ, ◌+◌, ◌*◌, Bool, not, List, eqb, leb, ltb}
use Rattle.logic.specs.Test.{◌and◌, ◌or◌, all}
use Rattle.fields.specs.Field.{number_at}
use Rattle.model.specs.Module.{local_present, switch_present, no_part}
use Rattle.instruction.specs.Sender.{sender_laid}

-- the number in a column of the line at an offset
abbrev pub number_in : List ℕ → ℕ → ℕ → ℕ
number_in modfile at column = number_at modfile (at + 6 * column)

-- "P (1 to 16), C (1 to 256), twelve zeros"
abbrev pub header_at : List ℕ → ℕ → Bool
header_at modfile at =
    (leb 1 (number_in modfile at 0) and leb (number_in modfile at 0) 16)
    and (leb 1 (number_in modfile at 1) and leb (number_in modfile at 1) 256)
    and all 12 (λ k. eqb (number_in modfile at (2 + k)) 0)

-- a pair, its part being most at most
unfoldable pub pair_laid : ℕ → ℕ → ℕ → ℕ → Bool
pair_laid slots most part k = (leb part most or eqb part no_part) and ltb k slots and (not (eqb part no_part) or eqb k 0)

-- the pair in a column and the next one
abbrev pub pair_at : List ℕ → ℕ → ℕ → ℕ → ℕ → Bool
pair_at modfile at column most slots = pair_laid slots most (number_in modfile at column) (number_in modfile at (column + 1))

-- the four operands of the line at an offset
unfoldable pub operands_at : List ℕ → ℕ → ℕ → Bool
operands_at modfile at slots = all 4 (λ j. pair_at modfile at (3 + 2 * j) switch_present slots)

-- the line of a processor and a slot
unfoldable pub line_at : List ℕ → ℕ → ℕ → ℕ → ℕ → ℕ → ℕ → Bool
line_at modfile at processor slot signals processors slots =
    eqb (number_in modfile at 0) processor
    and eqb (number_in modfile at 1) slot
    and leb (number_in modfile at 2) signals
    and operands_at modfile at slots
    and pair_at modfile at 11 local_present slots
    and sender_laid processors (number_in modfile at 13)
