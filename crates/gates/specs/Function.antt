-- Functions of four operands, house definitions (01, Values and gates).
use Rattle.std.specs.Prelude.{ℕ, ◌+◌, ◌%◌, Bool, [], ◌∷◌, eqb, leb}
use Rattle.logic.specs.Test.{◌and◌, some, every, count}
use Rattle.std.specs.Prelude.{if◌then◌else◌}
use Rattle.gates.specs.Value.{U, is, known, unknown}

-- the codes supplied: 0 to 4
unfoldable pub is_function : ℕ → Bool
is_function f = leb f 4

-- "0 if some operand is 0, 1 if all four are 1, else U"
unfoldable pub conjunction : ℕ → ℕ → ℕ → ℕ → ℕ
conjunction a b c d =
    if some (is 0) (a ∷ b ∷ c ∷ d ∷ []) then 0 else
    if every (is 1) (a ∷ b ∷ c ∷ d ∷ []) then 1 else
    U

-- "U if some operand is U or Z, else the parity of the four"
unfoldable pub parity : ℕ → ℕ → ℕ → ℕ → ℕ
parity a b c d =
    if some unknown (a ∷ b ∷ c ∷ d ∷ []) then U else
    (a + b + c + d) % 2

-- "first operand 0 gives the second, 1 the third; otherwise the second if it equals the third and is 0 or 1, else U"
unfoldable pub selection : ℕ → ℕ → ℕ → ℕ
selection a b c =
    if eqb a 0 then b else
    if eqb a 1 then c else
    if eqb b c and known b then b else
    U

-- "MAJORITY of the first three: 0 if two or more are 0, 1 if two or more are 1, else U"
unfoldable pub majority : ℕ → ℕ → ℕ → ℕ
majority a b c =
    if leb 2 (count (is 0) (a ∷ b ∷ c ∷ [])) then 0 else
    if leb 2 (count (is 1) (a ∷ b ∷ c ∷ [])) then 1 else
    U

-- 0 AND, 1 XOR, 2 IDENTITY ("the first operand"), 3 SELECT, 4 MAJORITY; a code not supplied gives U
unfoldable pub function : ℕ → ℕ → ℕ → ℕ → ℕ → ℕ
function f a b c d =
    if eqb f 0 then conjunction a b c d else
    if eqb f 1 then parity a b c d else
    if eqb f 2 then a else
    if eqb f 3 then selection a b c else
    if eqb f 4 then majority a b c else
    U
