-- Translations (01, Values and gates), which the source calls GDM.
use Rattle.std.specs.Prelude.{ℕ, Bool, eqb, leb}
use Rattle.std.specs.Prelude.{if◌then◌else◌}
use Rattle.gates.specs.Value.{U, Z}

-- the codes supplied: 0 to 6
unfoldable pub is_translation : ℕ → Bool
is_translation g = leb g 6

-- "codes 0 to 3 give that constant"
unfoldable pub is_constant : ℕ → Bool
is_constant g = leb g 3

-- "invert (0,1,U,Z to 1,0,U,U)"
unfoldable pub invert : ℕ → ℕ
invert v =
    if eqb v 0 then 1 else
    if eqb v 1 then 0 else
    U

-- "6 reads Z as U"
unfoldable pub without_z : ℕ → ℕ
without_z v = if eqb v Z then U else v

-- "codes 0 to 3 give that constant, 4 identity, 5 invert .., 6 reads Z as U"; a code not supplied gives U
unfoldable pub translation : ℕ → ℕ → ℕ
translation g v =
    if is_constant g then g else
    if eqb g 4 then v else
    if eqb g 5 then invert v else
    if eqb g 6 then without_z v else
    U
