-- What is proved of a call of cavundir_chart, in the sentences of the request: what it answers, and what it leaves in the page.
use Rattle.std.specs.Prelude.{ℕ, ◌≡◌, List}
use Rattle.session_answers.specs.Answers.{check_bits}
use Rattle.charts.specs.Checks.{chart_check}
use Rattle.laws_charts.specs.Reading.{PageOf}

pub record ChartClaim (signals values page : List ℕ) (count first_cycle cycles bits : ℕ) (left : List ℕ) : Type 0 where
  -- the refusals, in their order; 0 where there is none
  pub answer : bits ≡ check_bits (chart_check signals values page count first_cycle cycles)
  -- "A refused session call changes no byte, and so does any refused call on lent buffers but the opening" (01, Refusals)
  pub refused : (bits ≡ 0 → ⊥) → left ≡ page
  -- a page, and no other: `page_exact` (crates/laws_charts/proofs/Exact.antt)
  pub printed : bits ≡ 0 → PageOf signals values page count first_cycle cycles left
