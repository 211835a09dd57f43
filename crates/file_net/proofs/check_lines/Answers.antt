-- The invariants: the lines of the signals before this one pass, and the first fields of its line are right. Each way out of the loops has
-- its own answer.
use Rattle.std.proofs.Common.{◌≡◌, ◌+◌, ◌-◌, ◌*◌, refl, sym, ◌∙◌, arith, Ok}
use Rattle.fields.specs.Line.{is_line_at}
use Rattle.fields.proofs.Lines.{fields_begin, fields_left, fields_passed, line_ends}
use Rattle.model.specs.Netlist.{sources_right}
use Rattle.model.specs.Refusal.{pass, first_below}
use Rattle.file_net_line.specs.Layout.{signal_layout}
use Rattle.file_lines.proofs.Lines.{lines_stop, lines_end}
use Rattle.file_net.proofs.Lines.{signals, misformed, layout_wrong, sources_wrong, signal_passes}
use Rattle.file_net.proofs.check_lines.Goals as goal
use Rattle.file_net.proofs.check_lines.Goals.{After-ends_line, After-is_signal_laid, After-are_sources_right, Else-not-are_sources_right}

-- byte 10 decides whether the line is right, and then its layout and its sources are judged
ends : (c : After-ends_line) → is_line_at c.args.net.now (73 * c.lines.signal) 12 ≡ c.ends_line.result
ends c = rw c.from-index.ensures at (line_ends c.loop-column.invariant.1 c.loop-column-test.false refl c.ends_line.ensures)

laid : (c : After-is_signal_laid) → signal_layout c.args.net.now c.lines.signal ≡ c.is_signal_laid.result
laid c = rw (c.new-line.ensures.0, c.new-line.ensures.1, c.from-index.ensures) at (sym c.is_signal_laid.ensures)

sourced : (c : After-are_sources_right) → sources_right c.args.net.now c.lines.signal ≡ c.are_sources_right.result
sourced c = rw (c.new-line.ensures.0, c.new-line.ensures.1, c.from-index.ensures) at (sym c.are_sources_right.ensures)

pub lines-init : goal.lines-init
unfolding first_below
lines-init c = (refl, omega arith, refl)

pub loop-column-init : goal.loop-column-init
loop-column-init c = (refl, fields_begin (omega arith))

pub loop-column-preserved : goal.loop-column-preserved
loop-column-preserved c =
    let more = fields_passed c.loop-column.invariant.1 c.read_field.ensures _ c.is_none.ensures c.loop-column-test.true c.if-is_none.false in
    (c.loop-column.invariant.0, record { few = more.few; here = omega arith; right = more.right })

pub new-line-requires : goal.new-line-requires
new-line-requires c = (omega arith, line_ends c.loop-column.invariant.1 c.loop-column-test.false refl c.if-not-ends_line.ensures)

-- this line passes, too
passed : (c : Else-not-are_sources_right) → (is_line_at c.args.net.now (73 * c.lines.signal) 12 ≡ c.ends_line.result)
    → (signal_layout c.args.net.now c.lines.signal ≡ c.is_signal_laid.result) → (sources_right c.args.net.now c.lines.signal ≡ c.are_sources_right.result)
    → (c.loop-column.answer-1 ≡ Ok tt) × (first_below (c.lines.signal + 1 - 1) (signals c.args.net.now) ≡ pass)
passed c form layout sources = (
  c.loop-column.invariant.0 ∙ c.lines.invariant.0,
  signal_passes _ (omega arith) (form ∙ c.if-not-ends_line.false) (layout ∙ c.if-not-is_signal_laid.false) (sources ∙ c.if-not-are_sources_right.false) c.lines.invariant.2,
)

pub lines-preserved : goal.lines-preserved
lines-preserved c =
    let past = goal.at.lines-preserved c in
    let p = passed past.Else-not-are_sources_right (ends past.After-ends_line) (laid past.After-is_signal_laid) (sourced past.After-are_sources_right) in
    (p.0, omega arith, p.1)

-- the lines end: there is none, or the last has passed
pub returns : goal.returns
returns c =
    lines_end _ _ c.lines.invariant.2 _ (omega (arith, c.requires.0)) (omega (arith, c.requires.0)) c.lines.invariant.0

pub returns-else-not-are_sources_right : goal.returns-else-not-are_sources_right
returns-else-not-are_sources_right c =
    let past = goal.at.returns-else-not-are_sources_right c in
    let p = passed past.Else-not-are_sources_right (ends past.After-ends_line) (laid past.After-is_signal_laid) (sourced past.After-are_sources_right) in
    lines_end _ _ p.1 _ (omega (arith, c.requires.0)) (omega (arith, c.requires.0)) p.0

-- a field that is wrong
pub returns-then-is_none : goal.returns-then-is_none
returns-then-is_none c =
    let wrong = fields_left c.loop-column.invariant.1 c.read_field.ensures _ c.is_none.ensures c.loop-column-test.true c.if-is_none.true in
    lines_stop _ _ c.lines.invariant.2 _ (omega (arith, c.requires.0)) refl (misformed _ (omega arith) (rw c.from-index.ensures at wrong))

-- another byte than 10
pub returns-then-not-ends_line : goal.returns-then-not-ends_line
returns-then-not-ends_line c =
    let past = goal.at.returns-then-not-ends_line c in
    let wrong = ends past.After-ends_line ∙ c.if-not-ends_line.true in
    lines_stop _ _ c.lines.invariant.2 _ (omega (arith, c.requires.0)) refl (misformed _ (omega arith) wrong)

-- a wrong layout
pub returns-then-not-is_signal_laid : goal.returns-then-not-is_signal_laid
returns-then-not-is_signal_laid c =
    let past = goal.at.returns-then-not-is_signal_laid c in
    let form = ends past.After-ends_line ∙ c.if-not-ends_line.false in
    let wrong = laid past.After-is_signal_laid ∙ c.if-not-is_signal_laid.true in
    lines_stop _ _ c.lines.invariant.2 _ (omega (arith, c.requires.0)) refl (layout_wrong _ (omega arith) form wrong)

-- a wrong source
pub returns-then-not-are_sources_right : goal.returns-then-not-are_sources_right
returns-then-not-are_sources_right c =
    let past = goal.at.returns-then-not-are_sources_right c in
    let form = ends past.After-ends_line ∙ c.if-not-ends_line.false in
    let layout = laid past.After-is_signal_laid ∙ c.if-not-is_signal_laid.false in
    let wrong = sourced past.After-are_sources_right ∙ c.if-not-are_sources_right.true in
    lines_stop _ _ c.lines.invariant.2 _ (omega (arith, c.requires.0)) refl (sources_wrong _ (omega arith) form layout wrong)
