-- The invariants: the lines before line k pass, and its first fields are right. Each way out of the loops has its own answer.
use Rattle.std.proofs.Common.{◌≡◌, ◌+◌, ◌*◌, refl, sym, ◌∙◌, arith}
use Rattle.fields.specs.Line.{is_line_at}
use Rattle.fields.proofs.Lines.{fields_begin, fields_left, fields_passed, line_ends}
use Rattle.model.specs.Refusal.{first_below}
use Rattle.model.specs.ModuleFile.{each_line}
use Rattle.file_lines.proofs.Lines.{lines_go_on, lines_stop, lines_end}
use Rattle.file_mod_lines.proofs.Lines.{line_total, misformed, layout_wrong, slot_passes}
use Rattle.file_mod_lines.proofs.check_lines.Goals as goal
use Rattle.file_mod_lines.proofs.check_lines.Goals.{After-ends_line}

-- byte 10 decides whether the line is right
ends : (c : After-ends_line) → is_line_at c.args.modfile.now (85 * (c.lines.k + 1)) 14 ≡ c.ends_line.result
ends c = rw c.from.ensures at (line_ends c.loop-column.invariant.1 c.loop-column-test.false refl c.ends_line.ensures)

pub lines-init : goal.lines-init
unfolding first_below
lines-init c = (refl, λ n e. refl)

pub loop-column-init : goal.loop-column-init
loop-column-init c = (c.lines.invariant.0, fields_begin (omega arith))

pub loop-column-preserved : goal.loop-column-preserved
loop-column-preserved c =
    let more = fields_passed c.loop-column.invariant.1 c.read_field.ensures _ c.is_none.ensures c.loop-column-test.true c.if-is_none.false in
    (c.loop-column.invariant.0, record { few = more.few; here = omega arith; right = more.right })

pub new-line-requires : goal.new-line-requires
new-line-requires c = (omega arith, line_ends c.loop-column.invariant.1 c.loop-column-test.false refl c.if-not-ends_line.ensures)

pub lines-preserved : goal.lines-preserved
lines-preserved c =
    let form = ends (goal.at.lines-preserved c).After-ends_line ∙ c.if-not-ends_line.false in
    let laid = rw (c.new-line.ensures.0, c.new-line.ensures.1, c.place_of.ensures.0, c.place_of.ensures.1, c.from.ensures) at c.if-not-is_slot_laid.ensures in
    (c.loop-column.invariant.0, λ n e. lines_go_on _ _ (c.lines.invariant.1 n e) (slot_passes _ _ n form c.requires (rw e (sym laid))))

pub returns-after-lines : goal.returns-after-lines
unfolding each_line
returns-after-lines c n e =
    let total = line_total _ _ _ c.requires in
    lines_end _ _ (c.lines.invariant.1 n e) _ (omega (arith, total)) (omega (arith, total)) c.lines.invariant.0

-- a field that is wrong
pub returns-then-is_none : goal.returns-then-is_none
unfolding each_line
returns-then-is_none c n e =
    let wrong = fields_left c.loop-column.invariant.1 c.read_field.ensures _ c.is_none.ensures c.loop-column-test.true c.if-is_none.true in
    lines_stop _ _ (c.lines.invariant.1 n e) _ (omega (arith, line_total _ _ _ c.requires)) refl (misformed _ _ n (rw c.from.ensures at wrong))

-- another byte than 10
pub returns-then-not-ends_line : goal.returns-then-not-ends_line
unfolding each_line
returns-then-not-ends_line c n e =
    let wrong = ends (goal.at.returns-then-not-ends_line c).After-ends_line ∙ c.if-not-ends_line.true in
    lines_stop _ _ (c.lines.invariant.1 n e) _ (omega (arith, line_total _ _ _ c.requires)) refl (misformed _ _ n wrong)

-- a wrong layout
pub returns-then-not-is_slot_laid : goal.returns-then-not-is_slot_laid
unfolding each_line
returns-then-not-is_slot_laid c n e =
    let form = ends (goal.at.returns-then-not-is_slot_laid c).After-ends_line ∙ c.if-not-ends_line.false in
    let laid = rw (c.new-line.ensures.0, c.new-line.ensures.1, c.place_of.ensures.0, c.place_of.ensures.1, c.from.ensures) at c.if-not-is_slot_laid.ensures in
    lines_stop _ _ (c.lines.invariant.1 n e) _ (omega (arith, line_total _ _ _ c.requires)) refl (layout_wrong _ _ n form c.requires (rw e (sym laid)))
