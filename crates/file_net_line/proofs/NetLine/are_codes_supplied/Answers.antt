-- The function, and then the translations.
use Rattle.std.proofs.Common.{rules, sym, ◌∙◌, ap, ◌+◌}
use Rattle.gates.specs.Translation.{is_translation}
use Rattle.gates.specs.Function.{is_function}
use Rattle.model.specs.Netlist.{net_field}
use Rattle.logic.proofs.Judged.{yes}
use Rattle.logic.proofs.Ranges.{all_in_range}
use Rattle.file_net_line.proofs.NetLine.are_codes_supplied.Goals as goal

pub returns-then-is_function : goal.returns-then-is_function
returns-then-is_function c =
    all_in_range (λ k. is_translation (net_field c.args.self.now.fields.bytes.now c.args.self.now.line (3 + k))) _ c.all.ensures.ran (λ x b q h. search rules)
    ∙ sym (yes _ _ (ap is_function (sym c.field.ensures) ∙ sym c.is_function.ensures ∙ c.if-is_function.true))
