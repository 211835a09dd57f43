-- How a check is answered (01, Refusals): by a `Result`, whose error is a refusal. Each file, and each call on recorded values, has its own
-- refusals E, and `refusal` lists the number and the returned value of each.
use Rattle.std.specs.Prelude.{◌≡◌, Result, Ok, Err}
use Rattle.model.specs.Refusal.{Check, pass}

-- an answer as a check: it passes, or fails as its refusal says
abbrev pub answered : {A E : Type 0} → (E → Check) → Result A E → Check
answered refusal (Ok a) = pass
answered refusal (Err e) = refusal e

-- r answers a check: it refuses as the check does, and where the check passes it accepts with the value `accepted`
pub record Answers {A E : Type 0} (refusal : E → Check) (accepted : A) (check : Check) (r : Result A E) : Type 0 where
  pub refuses : answered refusal r ≡ check
  pub accepts : check ≡ pass → r ≡ Ok accepted
