-- The two calls as C has them: the 64 bits handed back, and the bytes of the buffer that is written.
use Rattle.std.specs.Prelude.{ℕ, ◌≡◌, List}
use Rattle.session_answers.specs.Answers.{check_bits}
use Rattle.session_answers.specs.Left.{left_after}
use Rattle.traces.specs.Turned.{turned, turned_back}
use Rattle.traces.specs.Checks.{turn_check, turn_back_check}

-- a call of cavundir_turn that met its contract
pub record Turns (values block : List ℕ) (count bits : ℕ) (left : List ℕ) : Type 0 where
  pub answer : bits ≡ check_bits (turn_check values block count)
  pub leaves : left ≡ left_after (turn_check values block count) (turned values count) block

-- a call of cavundir_turn_back that met its contract
pub record TurnsBack (block values : List ℕ) (count bits : ℕ) (left : List ℕ) : Type 0 where
  pub answer : bits ≡ check_bits (turn_back_check block values count)
  pub leaves : left ≡ left_after (turn_back_check block values count) (turned_back block count) values
