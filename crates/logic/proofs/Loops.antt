-- A test of every number below n, judged by a loop that asks for r, the answer at number k, and goes on while it passes: `loop_fails`
-- and `loop_ends` are its two ends, `loop_goes_on` is a turn. What is joined to the test by `and` is judged after the loop.
use Prim.Native.Nat.{ℕ, ◌+◌, ◌<◌, ◌≤◌}
use mathlib.Core.Path.{◌≡◌}
use mathlib.Core.Bool.{Bool, true, false, not}
use Rattle.logic.specs.Test.{◌and◌, all}
use Rattle.logic.proofs.Tests.{all_more, all_fails, all_ends}
use Rattle.logic.proofs.Judged.{no, yes, fails, passes}

module _ (test : ℕ → Bool) (k : ℕ) where
  module _ {r : Bool} (e : r ≡ test k) where
    pub loop_goes_on : all k test ≡ true → not r ≡ false → all (k + 1) test ≡ true
    loop_goes_on before h = all_more test k before (passes r (test k) e h)

    pub loop_fails : (n : ℕ) → k < n → not r ≡ true → all n test ≡ false
    loop_fails n l h = all_fails test n k l (fails r (test k) e h)

    pub loop_stops : (n : ℕ) (rest : Bool) → k < n → not r ≡ true → all n test and rest ≡ false
    loop_stops n rest l h = no (all n test) rest (loop_fails n l h)

  pub loop_ends : (n : ℕ) (rest : Bool) → k ≤ n → n ≤ k → all k test ≡ true → all n test and rest ≡ rest
  loop_ends n rest low high h = yes (all n test) rest (all_ends test n k low high h)
