-- The refusals of NET's check: number and returned value for each case (01, Refusals).
use Rattle.std.specs.Prelude.{ℕ, List, Result}
use Rattle.model.specs.Refusal.{Check, fail}
use Rattle.model.specs.Netlist.{net_size}
use Rattle.file_lines.specs.Answer.{Answers}
use Rattle.file_net.specs.declared.NetRefusal.{NetRefusal}
use Rattle.file_net.specs.declared.NetRefusal.TheVariants.{Misformed, Layout, Sources, Chain}

-- a line misformed, missing or surplus; a line against the layout; a line with a wrong source; a signal on a closed chain
abbrev pub net_refusal : NetRefusal → Check
net_refusal (Misformed line) = fail 10 line
net_refusal (Layout line) = fail 11 line
net_refusal (Sources line) = fail 12 line
net_refusal (Chain signal) = fail 13 signal

-- r answers a check of NET; where it accepts, it gives N
abbrev pub NetAnswers : List ℕ → Check → Result ℕ NetRefusal → Type 0
NetAnswers net check r = Answers net_refusal (net_size net) check r
