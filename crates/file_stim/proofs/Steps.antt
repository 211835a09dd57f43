-- STIM line by line. In an accepted STIM every line up to the end line can be read, and the lines before it give values.
use Prim.Native.Nat.{ℕ, ◌+◌, ◌*◌, ◌<◌, ◌≤◌}
use mathlib.Core.Path.{◌≡◌, sym, subst, ◌∙◌, ap}
use mathlib.Core.Bool.{true, false, Bool-set, true≢false}
use mathlib.Core.List.{List}
use mathlib.Core.Logic.{∥∥₁_elim}
use native.Mathlib.Omega.{arith}
use native.Mathlib.Decide.{ℕ_discrete}
use lib.ListN.{length}
use borrow.Author.Tests.{lt-ltb, ltb-true}
use Rattle.std.specs.Prelude.{Option, Some, None}
use Rattle.std.specs.Option.{is_some}
use Rattle.fields.specs.Field.{is_field_at}
use Rattle.fields.specs.Line.{is_line_at}
use Rattle.model.specs.Stimulus.{stim_line, stim_limit, stim_time, stim_signal, stim_value, is_end, stim_count}
use Rattle.model.proofs.Accepted.{stim_right}
use Rattle.fields.proofs.RightLine.{line_field, line_within}
use Rattle.file_stim.specs.declared.Line.{Line}
use Rattle.file_stim.specs.declared.Stimulus.{Stimulus}
use Rattle.file_stim.specs.declared.Cursor.{Cursor}
use Rattle.file_stim.specs.Acceptance.{SomeAccepts}
use Rattle.file_stim.specs.Stepping.{Steps, StepOf}

-- what an accepted STIM gives, whatever network it is for
module _ {stim : List ℕ} (accepted : ∥ SomeAccepts stim ∥₁) where
  given : {line : ℕ} → line < stim_count stim → (is_line_at stim (stim_line line) 3 ≡ true) × (is_end stim line ≡ false)
  given h = (
    ∥∥₁_elim accepted (Bool-set _ _) (λ a. ((stim_right a.network stim a.passes).given _ h).line),
    ∥∥₁_elim accepted (Bool-set _ _) (λ a. ((stim_right a.network stim a.passes).given _ h).no_end),
  )

  end : (is_line_at stim (stim_line (stim_count stim)) 3 ≡ true) × (is_end stim (stim_count stim) ≡ true)
  end = (
    ∥∥₁_elim accepted (Bool-set _ _) (λ a. (stim_right a.network stim a.passes).end.line),
    ∥∥₁_elim accepted (Bool-set _ _) (λ a. (stim_right a.network stim a.passes).end.is_end_lem),
  )

  -- fewer lines than the limit stand before the end line
  pub few : stim_count stim < stim_limit
  few = ltb-true _ _ (∥∥₁_elim accepted (Bool-set _ _) (λ a. lt-ltb _ _ (stim_right a.network stim a.passes).few))

  -- each line up to the end line is right
  pub line_right : {line : ℕ} → line ≤ stim_count stim → is_line_at stim (stim_line line) 3 ≡ true
  line_right {line} h = go (ℕ_discrete line (stim_count stim))
    where
      go : Dec (line ≡ stim_count stim) → is_line_at stim (stim_line line) 3 ≡ true
      go (yes e) = rw e end.0
      go (no d) = (given (omega arith)).0

  -- the end line is the one after those that are counted
  pub end_at : {line : ℕ} → line ≤ stim_count stim → is_end stim line ≡ true → line ≡ stim_count stim
  end_at {line} h e = go (ℕ_discrete line (stim_count stim))
    where
      go : Dec (line ≡ stim_count stim) → line ≡ stim_count stim
      go (yes q) = q
      go (no d) = absurd (true≢false (sym e ∙ (given (omega arith)).1))

  -- one that is not the end line stands before it
  pub before_end : {line : ℕ} → line ≤ stim_count stim → is_end stim line ≡ false → line < stim_count stim
  before_end {line} h e = go (ℕ_discrete line (stim_count stim))
    where
      go : Dec (line ≡ stim_count stim) → line < stim_count stim
      go (yes q) = absurd (true≢false (sym end.1 ∙ rw q at e))
      go (no d) = omega arith

-- the first field of a right line
pub time_field : (stim : List ℕ) (line : ℕ) → is_line_at stim (stim_line line) 3 ≡ true → is_field_at stim (19 * line) ≡ true
time_field stim line right =
    let e : 19 * line + 6 * 0 ≡ 19 * line = omega arith in
    rw e at (line_field stim (19 * line) 3 right 0 (omega arith))

-- a right line lies within the bytes
pub line_fits : (stim : List ℕ) (line : ℕ) → is_line_at stim (stim_line line) 3 ≡ true → 19 * line + 19 ≤ length stim
line_fits stim line right = line_within stim (19 * line) 3 right

-- fewer lines than the limit are before the line at a cursor
pub cursor_few : (c : Cursor) → c.line < stim_limit
cursor_few c = omega (arith, c.within, few c.stimulus.accepted)

-- a line before the end line that gives a value at time t, and the line after it
pub record GivenAt (stim : List ℕ) (t line : ℕ) (given : Line) (next : ℕ) : Type 0 where
  pub before_end : line < stim_count stim
  pub time_is : stim_time stim line ≡ t
  pub signal_is : given.signal ≡ stim_signal stim line
  pub value_is : given.value ≡ stim_value stim line
  pub follows : next ≡ line + 1

-- what a step of time t tells, from a cursor of a STIM
pub given_at : (c : Cursor) {s : Stimulus} → c.stimulus ≡ s → {t : ℕ} {line : Line} {next : Cursor}
    → Steps c line next × (stim_time c.stimulus.bytes.now c.line ≡ t) → GivenAt s.bytes.now t c.line line next.line
given_at c same {t} {line} {next} told =
    subst (λ (y : Stimulus). GivenAt y.bytes.now t c.line line next.line) same
    (record {
      before_end = before_end c.stimulus.accepted c.within told.0.no_end;
      time_is = told.1;
      signal_is = ap (λ (y : Line). y.signal) told.0.numbers;
      value_is = ap (λ (y : Line). y.value) told.0.numbers;
      follows = told.0.follows;
    })

pub none_at : {at s : Stimulus} → at ≡ s → {line t : ℕ} → (is_end at.bytes.now line ≡ false → stim_time at.bytes.now line ≡ t → ⊥)
    → line < stim_count s.bytes.now → stim_time s.bytes.now line ≡ t → ⊥
none_at {at} same {line} {t} none =
    subst (λ (y : Stimulus). line < stim_count y.bytes.now → stim_time y.bytes.now line ≡ t → ⊥) same
    (λ low q. none (given at.accepted low).1 q)

-- a step of time t that gives no line
pub gave_none : (c after : Cursor) (t : ℕ) (step : Option Line) → StepOf c after t step → is_some step ≡ false → StepOf c after t None
gave_none c after t None told e = told
gave_none c after t (Some line) told e = absurd (true≢false e)
