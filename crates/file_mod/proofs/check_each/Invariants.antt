-- The invariant: the lines before line k pass the test.
use Prim.Native.Nat.{ℕ}
use mathlib.Core.Path.{◌≡◌}
use mathlib.Core.Bool.{Bool}
use Rattle.model.specs.Refusal.{pass, first_below}
use Rattle.file_mod.specs.Testing.{Computes}
use Rattle.file_mod.proofs.Testing.{line_test}
use Rattle.file_mod.proofs.check_each.Given as goal

abbrev pub invariant-loop-k : goal.invariant-loop-k
invariant-loop-k g l =
    (number : ℕ) (test : ℕ → ℕ → Bool) → Computes (goal.F-post g l.right) l.table.shape test
    → first_below l.k (line_test number test l.table.modfile.now) ≡ pass
