-- The closure tests field k, which is right and so lies within the bytes (`field_length`).
use Rattle.std.proofs.Common.{rules, arith, eqb, ◌+◌, ◌*◌}
use Rattle.std.proofs.lemmas.Iterator.{serves_from_Range}
use Rattle.logic.proofs.Ranges.{all_in_range}
use Rattle.fields.specs.Field.{number_at}
use Rattle.fields.proofs.LowHalf.{field_length}
use Rattle.fields.proofs.zeros_at.Goals as goal

pub all-requires-clause-callable : goal.all-requires-clause-callable
all-requires-clause-callable c =
    serves_from_Range (λ x q k. search rules) (λ x low high. let r = c.requires x high in let h = field_length c.args.s.now (c.args.at + 6 * x) r in search (rules, arith))

pub returns : goal.returns
returns c = all_in_range (λ k. eqb (number_at c.args.s.now (c.args.at + 6 * k)) 0) _ c.all.ensures.ran (λ x b q h. search rules)
