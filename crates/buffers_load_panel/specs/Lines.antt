-- What the panel's filling asks of an array of the signals' lines: each is a line of at most 16 processors, with that number of slots.
use Rattle.std.specs.Prelude.{ℕ, ◌*◌, ◌≤◌, ◌<◌, List, get_or}

pub record LineNumbers (slots : ℕ) (places : List ℕ) : Type 0 where
  pub few : (s : ℕ) → s ≤ 4096 → get_or places s 0 < 16 * slots
