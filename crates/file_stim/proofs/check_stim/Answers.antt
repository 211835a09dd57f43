-- The invariants: the lines below the index are passed, and its first fields are right. Each way out of the loops has its own answer.
use Prim.Native.Nat.{◌+◌, ◌*◌}
use mathlib.Core.Path.{◌≡◌, refl, sym, ◌∙◌}
use mathlib.Core.Bool.{true}
use native.Mathlib.Omega.{arith}
use lib.ListN.{get_or}
use Rattle.fields.specs.Line.{is_line_at}
use Rattle.fields.proofs.Lines.{FieldsRight, fields_begin, fields_stop, fields_go_on, fields_number, fields_end}
use Rattle.file_stim.specs.Judging.{numbers_of, numbers_before}
use Rattle.file_stim.proofs.Lines.{numbers_more, numbers_here, reached_first, limit_reached, misformed, end_answers, given_wrong, line_passed, next_before}
use Rattle.file_stim.proofs.check_stim.Goals as goal
use Rattle.file_stim.proofs.check_stim.Goals.{After-ends_line, Else-not-ends_line}

-- behind the last field stands the line's end
all_read : (c : After-ends_line) → FieldsRight c.args.stim.now (19 * c.lines.index) 3 c.loop-column.column (19 * c.from-at.result + 18)
all_read c =
    let fields = c.loop-column.invariant.fields in
    record { few = fields.few; here = omega (arith, fields.few, c.from-at.ensures, c.loop-column-test.false); right = fields.right }

-- the line is right where all its fields are and byte 10 ends it
form : (c : Else-not-ends_line) → FieldsRight c.args.stim.now (19 * c.lines.index) 3 c.loop-column.column (19 * c.from-at.result + 18)
    → is_line_at c.args.stim.now (19 * c.lines.index) 3 ≡ true
form c read = fields_end read c.loop-column-test.false c.ends_line.ensures ∙ c.if-not-ends_line.false

-- the numbers in hand are those of the line
collected : (c : Else-not-ends_line) → record { time = record { 0 = get_or c.loop-column.numbers 0 0 }; signal = get_or c.loop-column.numbers 1 0; value = get_or c.loop-column.numbers 2 0 }
    ≡ numbers_of c.args.stim.now c.lines.index
collected c = numbers_here _ c.loop-column.invariant.numbers (omega (arith, c.loop-column-test.false))

pub lines-init : goal.lines-init
unfolding numbers_before
lines-init c = record { unanswered = refl; before = refl; reached = reached_first _ _ }

pub loop-column-init : goal.loop-column-init
loop-column-init c = record { unanswered = refl; fields = fields_begin (omega (arith, c.from-at.ensures)); numbers = record { size = refl; are = λ j l. absurd (omega arith) } }

pub loop-column-preserved : goal.loop-column-preserved
loop-column-preserved c =
    let so_far = c.loop-column.invariant in
    let number = sym c.read_field.ensures ∙ c.in-Some.is in
    let more = fields_go_on so_far.fields c.loop-column-test.true number in
    record {
      unanswered = so_far.unanswered;
      fields = record { few = more.few; here = omega (arith, c.from-at.ensures); right = more.right };
      numbers = numbers_more so_far.numbers c.loop-column-test.true _ (fields_number so_far.fields number);
    }

pub lines-preserved : goal.lines-preserved
lines-preserved c =
    let past = goal.at.lines-preserved c in
    let numbers = collected past.Else-not-ends_line in
    record {
      unanswered = c.loop-column.invariant.unanswered ∙ c.lines.invariant.unanswered;
      before = next_before _ _ _ numbers;
      reached = line_passed _ _ _ c.lines.invariant.reached c.lines-test.true (form past.Else-not-ends_line (all_read past.After-ends_line)) c.lines.invariant.before numbers
          (sym c.if-is_end.false ∙ c.is_end.ensures) c.judge_given.ensures c.in_default-judge_given.not-Err;
    }

-- line 65535
pub returns-after-lines : goal.returns-after-lines
returns-after-lines c = rw c.lines.invariant.unanswered (limit_reached _ _ _ c.lines.invariant.reached c.lines-test.false)

-- a field that is wrong
pub returns-in_default : goal.returns-in_default
returns-in_default c =
    let wrong = fields_stop c.loop-column.invariant.fields c.loop-column-test.true (sym c.read_field.ensures ∙ c.in_default.is) in
    misformed _ _ _ c.lines.invariant.reached c.lines-test.true wrong

-- another byte than 10
pub returns-then-not-ends_line : goal.returns-then-not-ends_line
returns-then-not-ends_line c =
    let read = all_read (goal.at.returns-then-not-ends_line c).After-ends_line in
    let wrong = fields_end read c.loop-column-test.false c.ends_line.ensures ∙ c.if-not-ends_line.true in
    misformed _ _ _ c.lines.invariant.reached c.lines-test.true wrong

-- the end line
pub returns-then-is_end : goal.returns-then-is_end
returns-then-is_end c =
    let past = goal.at.returns-then-is_end c in
    end_answers _ _ _ c.lines.invariant.reached c.lines-test.true (form past.Else-not-ends_line (all_read past.After-ends_line)) c.lines.invariant.before (collected past.Else-not-ends_line)
    (sym c.if-is_end.true ∙ c.is_end.ensures) _ (omega (arith, c.from-at.ensures)) c.judge_end-answer.ensures

-- a line that can not give its value
pub returns-in-Err : goal.returns-in-Err
returns-in-Err c =
    let past = goal.at.returns-in-Err c in
    given_wrong _ _ _ c.lines.invariant.reached c.lines-test.true (form past.Else-not-ends_line (all_read past.After-ends_line)) c.lines.invariant.before (collected past.Else-not-ends_line)
    (sym c.if-is_end.false ∙ c.is_end.ensures) c.judge_given.ensures c.in-Err.is
