-- "A gate is g5(f(g1(a1), g2(a2), g3(a3), g4(a4)))" (01, Values and gates).
use Rattle.std.specs.Prelude.{ℕ}
use Rattle.gates.specs.Translation.{translation}
use Rattle.gates.specs.Function.{function}
use Rattle.gates.specs.declared.Gate.{Gate}

unfoldable pub gate : Gate → ℕ → ℕ → ℕ → ℕ → ℕ
gate n a1 a2 a3 a4 =
    translation n.g5
    (function n.f (translation n.g1 a1) (translation n.g2 a2) (translation n.g3 a3) (translation n.g4 a4))
