-- "Order: NET, MOD, STIM." "Files are accepted if no file refusal applies to them." (01, Refusals, Session)
use Rattle.std.specs.Prelude.{ℕ, ◌≡◌}
use Rattle.model.specs.Refusal.{Check, pass, first}
use Rattle.model.specs.Files.{Files}
use Rattle.model.specs.Network.{Network}
use Rattle.model.specs.Netlist.{network, net_check}
use Rattle.model.specs.Module.{Module}
use Rattle.model.specs.ModuleFile.{module_of, mod_check}
use Rattle.model.specs.Stimulus.{stim_check, held}

-- the limit on N of the panel and the program (01, Files: "N (1 to 4096)")
abbrev pub panel_limit : ℕ
panel_limit = 4096

abbrev pub network_of : Files → Network
network_of files = network files.NET

abbrev pub module_of_files : Files → Module
module_of_files files = module_of files.MOD

-- time 0: each signal's given value, or U
abbrev pub given_of : Files → ℕ → ℕ
given_of files = held files.STIM 0

unfoldable pub file_check : ℕ → Files → Check
file_check limit files =
    first (net_check limit files.NET) (first (mod_check (network_of files) files.MOD) (stim_check (network_of files) files.STIM))

abbrev pub Accepted : ℕ → Files → Type 0
Accepted limit files = file_check limit files ≡ pass
