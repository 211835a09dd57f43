-- What a caller in C has of an engine: the working buffers that it lends, of any lengths, and what a call makes of them.
use Rattle.std.specs.Prelude.{ℕ}
use Rattle.model.specs.Session.{Call, Lengths, Reply}

pub record Interface : Type 1 where
  pub Buffers : Type 0
  pub lengths : Buffers → Lengths
  -- the lengths that docs/PANEL.md gives them
  pub fixed : Lengths
  -- the answer of a call, and the buffers as it leaves them
  pub reply : Buffers → Call → Reply Buffers
  -- the 64 bits that the call hands back
  pub bits : Buffers → Call → ℕ
