-- The refusals of the three files: each as its file's check says it (01, Refusals).
use Rattle.model.specs.Refusal.{Check}
use Rattle.file_net.specs.Answer.{net_refusal}
use Rattle.file_mod_lines.specs.Answer.{mod_refusal}
use Rattle.file_stim.specs.Answer.{stim_refusal}
use Rattle.file_checks.specs.declared.FileRefusal.{FileRefusal}
use Rattle.file_checks.specs.declared.FileRefusal.TheVariants.{Net, Mod, Stim}

abbrev pub file_refusal : FileRefusal → Check
file_refusal (Net refusal) = net_refusal refusal
file_refusal (Mod refusal) = mod_refusal refusal
file_refusal (Stim refusal) = stim_refusal refusal
