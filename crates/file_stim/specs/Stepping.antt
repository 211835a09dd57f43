-- STIM line by line: what a step from a cursor gives.
use Rattle.std.specs.Prelude.{ℕ, ◌+◌, ◌≡◌, true, false, Option, MatchOption}
use Rattle.model.specs.Stimulus.{stim_time, is_end}
use Rattle.file_stim.specs.declared.Line.{Line}
use Rattle.file_stim.specs.declared.Cursor.{Cursor}
use Rattle.file_stim.specs.Judging.{numbers_of}

-- the line at a cursor, which is not the end line, and the cursor on the next line of the same STIM
pub record Steps (c : Cursor) (line : Line) (next : Cursor) : Type 0 where
  pub no_end : is_end c.stimulus.bytes.now c.line ≡ false
  pub numbers : line ≡ numbers_of c.stimulus.bytes.now c.line
  pub same : next.stimulus ≡ c.stimulus
  pub follows : next.line ≡ c.line + 1

-- these; none at the end line, and the cursor stays
abbrev pub StepAt : Cursor → Cursor → Option Line → Type 0
StepAt before after step =
    MatchOption step ((is_end before.stimulus.bytes.now before.line ≡ true) × (after ≡ before)) (λ line. Steps before line after)

-- the same, where the line is of time t
abbrev pub StepOf : Cursor → Cursor → ℕ → Option Line → Type 0
StepOf before after t step =
    MatchOption step
    ((is_end before.stimulus.bytes.now before.line ≡ false → stim_time before.stimulus.bytes.now before.line ≡ t → ⊥) × (after ≡ before))
    (λ line. Steps before line after × (stim_time before.stimulus.bytes.now before.line ≡ t))
