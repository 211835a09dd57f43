-- `write_refusal` writes the line of two fields, or nothing.
use mathlib.Core.Path.{refl, ◌∙◌, sym}
use Rattle.model.specs.Listing.{refusal_line}
use Rattle.writing.proofs.Writing.{length_line}
use Rattle.file_checks.specs.Refused.{refused_text}
use Rattle.file_checks.proofs.write_refusal.Goals as goal

pub returns : goal.returns
unfolding refused_text refusal_line
returns g c =
    rw (c.in-Err.is, c.fields-number.ensures)
    (record { value = c.write_line.ensures.value ∙ sym (length_line _); out_after = rw (← c.from.ensures) c.write_line.ensures.out_after })

pub returns-in_default : goal.returns-in_default
unfolding refused_text
returns-in_default g c = rw c.in_default.is (record { value = refl; out_after = refl })
