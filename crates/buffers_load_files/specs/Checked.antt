-- What loading asks of MOD: some network of at most 4096 signals accepts it. And what is read from its arrays of a number for each signal.
use Rattle.std.specs.Prelude.{ℕ, ◌≤◌, ◌≡◌, List, get_or}
use Rattle.model.specs.Refusal.{pass}
use Rattle.model.specs.Network.{Network}
use Rattle.model.specs.ModuleFile.{mod_check}

pub record ModuleChecked (modfile : List ℕ) : Type 0 where
  pub network : Network
  pub few : network.size ≤ 4096
  pub passes : mod_check network modfile ≡ pass

-- the number of signal s in an array of them
abbrev pub value_in : List ℕ → ℕ → ℕ
value_in values s = get_or values s 0
