-- The low halves of a right field's bytes spell its number (`number_low`), which fits in 16 bits (`number_small`).
use mathlib.Core.Path.{sym, ◌∙◌}
use native.Mathlib.Omega.{arith}
use Rattle.fields.proofs.LowHalf.{field_length, number_small, number_low}
use Rattle.fields.proofs.number_at.Goals as goal

pub low_number-requires : goal.low_number-requires
low_number-requires c = field_length _ _ c.requires

pub overflow_cast-result : goal.overflow_cast-result
overflow_cast-result c =
    let a = c.args in
    omega (arith, number_low a.s.now a.at c.requires, number_small a.s.now a.at c.requires)

pub returns : goal.returns
returns c =
    let a = c.args in
    c.low_number.ensures ∙ sym (number_low a.s.now a.at c.requires)
