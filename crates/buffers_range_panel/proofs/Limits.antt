-- An answer about numbers that the code read, x and most, in the words of what it read them of.
use Prim.Native.Nat.{ℕ}
use mathlib.Core.Path.{◌≡◌}
use mathlib.Core.Bool.{Bool}
use lib.Dec.{leb}
use Rattle.logic.specs.Test.{◌and◌}

module _ {r : Bool} {x most number limit : ℕ} where
  pub counted_of : r ≡ leb 1 x and leb x most → x ≡ number → most ≡ limit → r ≡ leb 1 number and leb number limit
  counted_of e f g = rw (← f, ← g) e
