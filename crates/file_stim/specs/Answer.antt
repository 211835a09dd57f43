-- STIM's answers (01, Refusals): "a definition lists this paper's number and values for each case".
use Rattle.std.specs.Prelude.{ℕ, List, Result}
use Rattle.model.specs.Refusal.{Check, fail}
use Rattle.model.specs.Stimulus.{stim_count}
use Rattle.file_lines.specs.Answer.{Answers}
use Rattle.file_stim.specs.declared.StimRefusal.{StimRefusal}
use Rattle.file_stim.specs.declared.StimRefusal.TheVariants.{Misformed, Layout, NotInput}

-- 30: line misformed, missing or surplus. 31: value or order against the layout. 32: later time on a signal that is no input.
abbrev pub stim_refusal : StimRefusal → Check
stim_refusal (Misformed line) = fail 30 line
stim_refusal (Layout line) = fail 31 line
stim_refusal (NotInput line) = fail 32 line

-- r answers a check of STIM; where it accepts, it gives the number of lines before the end line
abbrev pub StimAnswers : List ℕ → Check → Result ℕ StimRefusal → Type 0
StimAnswers stim check r = Answers stim_refusal (stim_count stim) check r
