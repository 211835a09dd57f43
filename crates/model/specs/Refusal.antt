-- A check passes, or fails with a refusal's number and returned value (01, Refusals). The order of refusals is the text of a check.
use Rattle.std.specs.Prelude.{ℕ, zero, suc, Bool, true, false}

pub data Check : Type 0 where
  pass : Check
  fail : ℕ → ℕ → Check

-- the first of two checks that fails
unfoldable pub first : Check → Check → Check
first pass c = c
first (fail number returned) c = fail number returned

-- refused unless the test passes
unfoldable pub unless : Bool → ℕ → ℕ → Check
unless true number returned = pass
unless false number returned = fail number returned

-- the first that fails of the checks of 0 to n - 1
unfoldable pub first_below : ℕ → (ℕ → Check) → Check
first_below zero f = pass
first_below (suc n) f = first (first_below n f) (f n)
