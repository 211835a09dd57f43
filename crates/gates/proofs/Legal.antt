-- A result of legal operands is legal: for all translations, all functions and every gate in common. Each of them chooses among
-- constants, operands and a parity, so one lemma on choices serves them all.
use Prim.Native.Nat.{ℕ, ◌+◌, ◌%◌}
use mathlib.Core.Path.{◌≡◌, refl}
use mathlib.Core.Bool.{Bool, true, false}
use mathlib.Core.List.{[], ◌∷◌}
use native.Mathlib.Omega.{arith}
use lib.Dec.{eqb, leb}
use borrow.Author.Tests.{leb-true}
use Rattle.logic.specs.Test.{◌and◌, some, every, count}
use Rattle.std.specs.Prelude.{if◌then◌else◌}
use Rattle.gates.specs.Value.{U, Z, Code, is, known, unknown}
use Rattle.gates.specs.Translation.{is_constant, invert, without_z, translation}
use Rattle.gates.specs.Function.{conjunction, parity, selection, majority, function}
use Rattle.gates.specs.Gate.{gate}
use Rattle.gates.specs.declared.Gate.{Gate}

choice : (b : Bool) {x y : ℕ} → (b ≡ true → Code x) → Code y → Code (if b then x else y)
choice true h k = h refl
choice false h k = k

either : (b : Bool) {x y : ℕ} → Code x → Code y → Code (if b then x else y)
either b h k = choice b (λ e. h) k

zero_code : Code 0
zero_code = omega arith

one_code : Code 1
one_code = omega arith

U_code : Code U
U_code = omega arith

even_odd : (n : ℕ) → Code (n % 2)
even_odd n = omega arith

pub translation_code : (g : ℕ) {v : ℕ} → Code v → Code (translation g v)
unfolding translation invert without_z is_constant
translation_code g {v} h =
    choice (is_constant g) (leb-true g 3)
    (either (eqb g 4) h
    (either (eqb g 5) (either (is 0 v) one_code (either (is 1 v) zero_code U_code))
    (either (eqb g 6) (either (is Z v) U_code h) U_code)))

pub function_code : (f : ℕ) {a b c d : ℕ} → Code a → Code b → Code c → Code d → Code (function f a b c d)
unfolding function conjunction parity selection majority
function_code f {a} {b} {c} {d} p q r s =
    let four = a ∷ b ∷ c ∷ d ∷ [] in
    let three = a ∷ b ∷ c ∷ [] in
    either (eqb f 0) (either (some (is 0) four) zero_code (either (every (is 1) four) one_code U_code))
    (either (eqb f 1) (either (some unknown four) U_code (even_odd (a + b + c + d)))
    (either (eqb f 2) p
    (either (eqb f 3) (either (is 0 a) q (either (is 1 a) r (either (eqb b c and known b) q U_code)))
    (either (eqb f 4) (either (leb 2 (count (is 0) three)) zero_code (either (leb 2 (count (is 1) three)) one_code U_code))
    U_code))))

pub gate_code : (n : Gate) {a1 a2 a3 a4 : ℕ} → Code a1 → Code a2 → Code a3 → Code a4 → Code (gate n a1 a2 a3 a4)
unfolding gate
gate_code n p q r s =
    translation_code n.g5
    (function_code n.f (translation_code n.g1 p) (translation_code n.g2 q) (translation_code n.g3 r) (translation_code n.g4 s))
