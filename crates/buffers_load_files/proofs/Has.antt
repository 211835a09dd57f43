-- What the code tests of a place, by the sizes that line 1 of MOD gives.
use Prim.Native.Nat.{ℕ}
use mathlib.Core.Path.{◌≡◌, sym}
use mathlib.Core.Bool.{Bool}
use mathlib.Core.List.{List}
use lib.Dec.{ltb}
use Rattle.logic.specs.Test.{◌and◌}
use Rattle.model.specs.ModuleFile.{mod_processors, mod_slots}
use Rattle.file_mod_lines.specs.Answer.{Sized}
use Rattle.file_mod_lines.specs.declared.Shape.{Shape}
use Rattle.buffers_memory.specs.Memory.{within}

module _ {l : List ℕ} {shape : Shape} (sized : Sized l shape.processors shape.slots) where
  pub has_place : (q i : ℕ) {b : Bool} → b ≡ ltb q shape.processors and ltb i shape.slots → within (mod_processors l) (mod_slots l) q i ≡ b
  unfolding within
  has_place q i e = rw (← sized.processors, ← sized.slots) (sym e)
