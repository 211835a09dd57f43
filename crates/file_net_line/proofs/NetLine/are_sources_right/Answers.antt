-- For a gate the four sources decide.
use Rattle.std.proofs.Common.{rules, sym, ◌∙◌}
use Rattle.model.specs.Netlist.{source_right}
use Rattle.logic.proofs.Ranges.{all_in_range}
use Rattle.file_net_line.proofs.Layouts.{sources_gate}
use Rattle.file_net_line.proofs.NetLine.are_sources_right.Goals as goal

pub returns-else-eq : goal.returns-else-eq
returns-else-eq c =
    all_in_range (source_right c.args.self.now.fields.bytes.now c.args.self.now.line) _ c.all.ensures.ran (λ x b q h. search rules)
    ∙ sym (sources_gate _ _ _ c.field.ensures c.try_from.ensures (λ e. search rules))
