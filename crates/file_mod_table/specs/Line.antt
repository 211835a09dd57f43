-- What is asked where a line of MOD is read by its processor and slot.
use Rattle.std.specs.Prelude.{ℕ, ◌<◌, ◌≡◌, List}
use Rattle.model.specs.Refusal.{pass}
use Rattle.model.specs.Network.{Network, input}
use Rattle.model.specs.ModuleFile.{mod_processors, mod_slot, each_line}
use Rattle.model.specs.Acceptance.{panel_limit}
use Rattle.file_mod_lines.specs.Answer.{Sized}
use Rattle.file_mod_lines.specs.declared.Shape.{Shape}

-- A network of as many signals as any may have. A line's layout asks for the size alone, so that a line right by itself for any network is
-- right for this one.
abbrev pub widest : Network
widest = record { size = panel_limit; kind = λ s. input; source = λ s j. 0; gate = λ s a b c d. 0 }

-- line 1 gives the sizes p and c, and the lines after it are right by themselves, those of a network of at most 4096 signals
pub record LinesLaid (modfile : List ℕ) (p c : ℕ) : Type 0 where
  pub sized : Sized modfile p c
  pub lines : each_line modfile (mod_slot widest modfile) ≡ pass

-- q and i are a processor and a slot of a module of that shape
pub record Within (shape : Shape) (q i : ℕ) : Type 0 where
  pub processor : q < shape.processors
  pub slot : i < shape.slots

-- MOD has C slots, its lines are right by themselves, and q and i are a processor and a slot of it
pub record LineOf (modfile : List ℕ) (c q i : ℕ) : Type 0 where
  pub laid : LinesLaid modfile (mod_processors modfile) c
  pub processor : q < mod_processors modfile
  pub slot : i < c
