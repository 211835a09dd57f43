-- What a command answers and writes.
use Rattle.std.specs.Prelude.{ℕ, ◌≡◌, List}
use Rattle.model.specs.Session.{Outcome}
use Rattle.session_answers.specs.Answers.{answer_bits}
use Rattle.session_state.specs.Header.{head_in, with_head}

-- the bits that a call answers, and the panel that it leaves, are those of an outcome; the panel's own head, written back, changes no byte
pub record Writes {State : Type 0} (o : Outcome State) (panel : List ℕ) (bits : ℕ) (left : List ℕ) : Type 0 where
  pub answer : bits ≡ answer_bits o.answer
  pub written : left ≡ with_head o.head panel
  pub own : with_head (head_in panel) panel ≡ panel
