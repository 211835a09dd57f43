-- A processor below P is right; of another whether it is 99 decides.
use Prim.Native.Nat.{ℕ, ◌<◌}
use mathlib.Core.Path.{◌≡◌}
use mathlib.Core.Bool.{true}
use native.Mathlib.Omega.{arith}
use lib.Dec.{eqb}
use borrow.Author.Tests.{lt-ltb, le-ltb}
use Rattle.logic.specs.Test.{◌or◌}
use Rattle.model.specs.Module.{no_sender}
use Rattle.instruction.specs.Sender.{sender_laid}

pub below : (sender processors : ℕ) → sender < processors → sender_laid processors sender ≡ true
unfolding sender_laid ◌or◌
below sender processors h = rw (lt-ltb sender processors h)

pub other : (sender processors : ℕ) → (sender < processors → ⊥) → sender_laid processors sender ≡ eqb sender no_sender
unfolding sender_laid ◌or◌
other sender processors h = rw (le-ltb sender processors (omega (arith, h)))
