-- The call as C has it: the 64 bits handed back, and the bytes of the page.
use Rattle.std.specs.Prelude.{ℕ, ◌≡◌, List}
use Rattle.session_answers.specs.Answers.{check_bits}
use Rattle.session_answers.specs.Left.{left_after}
use Rattle.charts.specs.Text.{page_text, printed_on}
use Rattle.charts.specs.Checks.{chart_check}

-- a call of cavundir_chart that met its contract
pub record Charts (signals values page : List ℕ) (count first_cycle cycles bits : ℕ) (left : List ℕ) : Type 0 where
  pub answer : bits ≡ check_bits (chart_check signals values page count first_cycle cycles)
  pub leaves : left
      ≡ left_after (chart_check signals values page count first_cycle cycles) (printed_on page (page_text signals values count first_cycle cycles)) page
