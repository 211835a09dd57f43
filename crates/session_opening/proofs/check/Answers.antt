-- Accepted files, or a refused one: the files' answer is their check, and gives its bits.
use mathlib.Core.Path.{sym, ◌∙◌, ap}
use Rattle.session_answers.specs.Answers.{check_bits}
use Rattle.session_opening.proofs.Outcome.{files_accepted, files_refused, accepted_bits}
use Rattle.session_opening.proofs.check.Goals as goal

pub returns-in_default : goal.returns-in_default
returns-in_default c = record { answer = accepted_bits (files_accepted _ _ c.check_files.ensures c.in_default.is) }

pub returns : goal.returns
returns c =
    record { answer = c.check_bits.ensures ∙ ap check_bits (sym (files_refused _ _ c.check_files.ensures c.in-Err.is)) }
