-- The six columns are those of the place (`columns_taken`). Where scanning them finds a number, it is the field's (`field_found`); where it
-- finds none, or fewer than six remain, there is no right field (`scan_missed`, `number_missed`, `field_none`).
use Rattle.std.proofs.Common.{arith, sym, ◌∙◌}
use Rattle.fields.proofs.Columns.{field_found, scan_missed, number_missed, field_none, columns_taken, place_missed}
use Rattle.fields.proofs.read_field.Goals as goal

pub returns-in_err-get : goal.returns-in_err-get
returns-in_err-get c = c.from_residual.ensures ∙ sym (place_missed _ _ c.in_err-get.ensures.lookup.0)

pub returns-in_err-columns : goal.returns-in_err-columns
returns-in_err-columns c =
    c.from_residual-in_err-columns.ensures ∙ sym (field_none _ _ (omega (arith, c.in_err-columns.ensures.cases, c.in_ok-get.ensures.lookup.0.3)))

pub returns-in_err-scan_columns : goal.returns-in_err-scan_columns
returns-in_err-scan_columns c =
    let same = columns_taken c.args.s.now c.args.at c.in_ok-get.ensures.lookup.0.2 c.in_ok-columns.ensures.cases.same in
    let scanned = rw same at c.in_err-scan_columns.ensures in
    c.from_residual-in_err-scan_columns.ensures ∙ sym (scan_missed _ _ (omega (arith, c.in_ok-columns.ensures.cases.enough, c.in_ok-get.ensures.lookup.0.3)) (sym scanned))

pub returns-in_err-number : goal.returns-in_err-number
returns-in_err-number c =
    let same = columns_taken c.args.s.now c.args.at c.in_ok-get.ensures.lookup.0.2 c.in_ok-columns.ensures.cases.same in
    let scanned = rw same at c.in_ok-scan_columns.ensures in
    c.from_residual-in_err-number.ensures ∙ sym (number_missed _ _ (omega (arith, c.in_ok-columns.ensures.cases.enough, c.in_ok-get.ensures.lookup.0.3)) _ (sym scanned) (sym c.in_err-number.ensures))

pub returns : goal.returns
returns c =
    let same = columns_taken c.args.s.now c.args.at c.in_ok-get.ensures.lookup.0.2 c.in_ok-columns.ensures.cases.same in
    let scanned = rw same at c.in_ok-scan_columns.ensures in
    sym (field_found _ _ (omega (arith, c.in_ok-columns.ensures.cases.enough, c.in_ok-get.ensures.lookup.0.3)) _ _ (sym scanned) (sym c.in_ok-number.ensures))
