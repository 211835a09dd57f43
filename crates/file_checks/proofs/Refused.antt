-- A refusal has at most one line, of two fields; and none of the three files' refusals passes.
use Prim.Native.Nat.{◌≤◌}
use mathlib.Core.Path.{◌≡◌}
use mathlib.Core.List.{[], ◌∷◌}
use native.Mathlib.Omega.{arith}
use lib.ListN.{length}
use Rattle.writing.proofs.Writing.{length_line}
use Rattle.model.specs.Refusal.{Check, pass, fail}
use Rattle.model.specs.Listing.{refusal_line}
use Rattle.model.proofs.Refusals.{pass_not_fail}
use Rattle.file_checks.specs.declared.FileRefusal.{FileRefusal}
use Rattle.file_checks.specs.Answer.{file_refusal}
use Rattle.file_checks.specs.Refused.{refused_text}

pub refused_short : (c : Check) → length (refused_text c) ≤ 13
unfolding refused_text refusal_line
refused_short pass = omega arith
refused_short (fail number returned) = omega (arith, length_line (number ∷ returned ∷ []))

pub not_passed : (refusal : FileRefusal) → file_refusal refusal ≡ pass → ⊥
not_passed = grind (arith, pass_not_fail)
