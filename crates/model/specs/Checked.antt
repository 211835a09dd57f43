-- What the functions that read a checked NET ask of it. Only inner functions ask it, and their callers show it: no demand needs it, so that
-- a reader need not believe it.
use Rattle.std.specs.Prelude.{ℕ, ◌≤◌, ◌≡◌, List}
use Rattle.model.specs.Refusal.{pass}
use Rattle.model.specs.Netlist.{net_check}
use Rattle.model.specs.Acceptance.{panel_limit}

-- NET passed its check, by some limit of signals that the unit has room for
pub record Checked (net : List ℕ) : Type 0 where
  pub limit : ℕ
  pub few : limit ≤ panel_limit
  pub passes : net_check limit net ≡ pass
