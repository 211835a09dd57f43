-- MOD's answers (01, Refusals): the number and the returned value of each.
use Rattle.std.specs.Prelude.{ℕ, ◌≤◌, ◌≡◌, List, Result}
use Rattle.model.specs.Refusal.{Check, fail}
use Rattle.model.specs.ModuleFile.{mod_processors, mod_slots}
use Rattle.file_lines.specs.Answer.{Answers}
use Rattle.file_mod_lines.specs.declared.Shape.{Shape}
use Rattle.file_mod_lines.specs.declared.ModRefusal.{ModRefusal}
use Rattle.file_mod_lines.specs.declared.ModRefusal.TheVariants.{Misformed, Layout, Placement, Send, Reception, WrongOperand}

-- 22 returns a signal, the others the line
abbrev pub mod_refusal : ModRefusal → Check
mod_refusal (Misformed line) = fail 20 line
mod_refusal (Layout line) = fail 21 line
mod_refusal (Placement signal) = fail 22 signal
mod_refusal (WrongOperand line) = fail 23 line
mod_refusal (Send line) = fail 24 line
mod_refusal (Reception line) = fail 25 line

-- P and C
abbrev pub shape_of : List ℕ → Shape
shape_of modfile = record { processors = mod_processors modfile; slots = mod_slots modfile }

-- r answers a check of MOD; where it accepts, it gives P and C
abbrev pub ModAnswers : List ℕ → Check → Result Shape ModRefusal → Type 0
ModAnswers modfile check r = Answers mod_refusal (shape_of modfile) check r

-- p and c are the sizes that line 1 gives, and are in their ranges
pub record Sized (modfile : List ℕ) (p c : ℕ) : Type 0 where
  pub processors : p ≡ mod_processors modfile
  pub slots : c ≡ mod_slots modfile
  pub processors_low : 1 ≤ p
  pub processors_high : p ≤ 16
  pub slots_low : 1 ≤ c
  pub slots_high : c ≤ 256
