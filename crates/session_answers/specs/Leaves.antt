-- What a function that makes a call's answer says of it and of the buffer that it writes: the contracts of inner functions use it.
use Rattle.std.specs.Prelude.{◌≡◌, ℕ, List, Result}
use Rattle.model.specs.Refusal.{Check}
use Rattle.file_lines.specs.Answer.{answered}
use Rattle.session_answers.specs.Left.{left_after}

-- a call answers as its check says, and leaves the new bytes or those lent
pub record Leaves {E : Type 0} (refusal : E → Check) (check : Check) (bytes lent : List ℕ) (r : Result (Unit {0}) E) (left : List ℕ) : Type 0 where
  pub answers : answered refusal r ≡ check
  pub leaves : left ≡ left_after check bytes lent
