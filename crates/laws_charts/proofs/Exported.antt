-- The contract of the function that cavundir_panel_c exports for C is `Charts`: it asks nothing, and whatever is told of the bits and of the page at the return
-- is what this says. So the theorems of `Pages` are about this function, and the claim holds of it.
use Prim.Native.Nat.{ℕ}
use contract.Lifetimes.{Lfts}
use denote.Triple.Clauses.{AtExit}
use borrow.Fn.Kinds.{Dens, ended_of}
use Rattle.cavundir_panel.proofs.cavundir_chart.Kinds.{ps, r}
use Rattle.cavundir_panel.proofs.cavundir_chart.Reads.{Asked, Learnt}
use Rattle.laws_charts.specs.Calls.{Charts}
use Rattle.laws_charts.specs.Claim.{ChartClaim}
use Rattle.laws_charts.proofs.Pages.{chart_claim}

module _ (κs : Lfts 3) (a : Dens κs ps) where
  pub chart_asks_nothing : Asked κs a
  chart_asks_nothing = tt

  pub chart_charts : (bits : ℕ) (left : AtExit (ended_of 3 ps r) κs) → Learnt κs a bits left
      → Charts a.0.now a.1.0.now a.1.1.0.now a.1.1.1.0 a.1.1.1.1.0 a.1.1.1.1.1.0 bits left.1.1.0.now
  chart_charts bits left (answer, page) = record { answer = answer; leaves = page }

  pub chart_claims : (bits : ℕ) (left : AtExit (ended_of 3 ps r) κs) → Learnt κs a bits left
      → ChartClaim a.0.now a.1.0.now a.1.1.0.now a.1.1.1.0 a.1.1.1.1.0 a.1.1.1.1.1.0 bits left.1.1.0.now
  chart_claims bits left told = chart_claim (chart_charts bits left told)
