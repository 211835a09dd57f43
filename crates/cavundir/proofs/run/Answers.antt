-- A refusal is the first of the files read, and the listing is of accepted files.
use mathlib.Core.Path.{sym, ap, ◌∙◌}
use Rattle.file_lines.specs.Answer.{answered}
use Rattle.file_lines.proofs.Stages.{passes}
use Rattle.file_checks.specs.Answer.{file_refusal}
use Rattle.cavundir.proofs.Running.{handed_prints}
use Rattle.cavundir.proofs.run.Goals as goal

pub print_refusal-printed-requires-clause-refusal_value : goal.print_refusal-printed-requires-clause-refusal_value
print_refusal-printed-requires-clause-refusal_value g c =
    rw c.of-files.ensures (sym (ap (answered file_refusal) c.in-Err.is) ∙ c.read_checked-checked.ensures.answers.refuses)

pub print_listing-printed-requires-clause-accepted : goal.print_listing-printed-requires-clause-accepted
print_listing-printed-requires-clause-accepted g c = rw c.of-files.ensures (passes c.read_checked-checked.ensures.answers c.in-Ok.is)

pub returns-in-Ok-clause-prints : goal.returns-in-Ok-clause-prints
returns-in-Ok-clause-prints g c = handed_prints (rw c.of-files.ensures at c.print_listing-printed.ensures.handed)

pub returns-in-Err-clause-prints : goal.returns-in-Err-clause-prints
returns-in-Err-clause-prints g c = handed_prints (rw c.of-files.ensures at c.print_refusal-printed.ensures.handed)
