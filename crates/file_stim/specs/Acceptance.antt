-- What a STIM that is accepted is, whatever network it is for.
use Rattle.std.specs.Prelude.{ℕ, ◌≡◌, List}
use Rattle.model.specs.Refusal.{pass}
use Rattle.model.specs.Network.{Network}
use Rattle.model.specs.Stimulus.{stim_check}

-- a STIM that some network accepts
pub record SomeAccepts (stim : List ℕ) : Type 0 where
  pub network : Network
  pub passes : stim_check network stim ≡ pass
