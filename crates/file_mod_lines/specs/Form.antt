-- What `mod_check` wants of the lines, whatever they say together (01, Refusals: 20 and 21).
use Rattle.std.specs.Prelude.{ℕ, List}
use Rattle.model.specs.Refusal.{Check, first}
use Rattle.model.specs.Network.{Network}
use Rattle.model.specs.ModuleFile.{mod_header, mod_slot, each_line, mod_surplus}

abbrev pub form_check : Network → List ℕ → Check
form_check n modfile = first (mod_header modfile) (first (each_line modfile (mod_slot n modfile)) (mod_surplus modfile))
