-- A refusal is the first of the files read (`net_stops`, `mod_stops`), and where there is none the check of STIM answers for all
-- (`stim_last`).
use Rattle.file_lines.proofs.Stages.{passes}
use Rattle.file_checks.proofs.Joined.{net_stops, mod_stops, stim_last}
use Rattle.cavundir.proofs.read_checked.Goals as goal

pub returns-in_default-clause-answers : goal.returns-in_default-clause-answers
returns-in_default-clause-answers g c = net_stops _ _ _ c.check_net-first.ensures c.unwrap_err.ensures

pub returns-in_default-second-clause-answers : goal.returns-in_default-second-clause-answers
returns-in_default-second-clause-answers g c =
    let net_right = passes c.check_net-first.ensures c.in-Ok.is in
    mod_stops _ _ _ net_right (rw c.new-netlist.ensures at c.check_mod-second.ensures) c.unwrap_err-in_default-second.ensures

pub returns-clause-answers : goal.returns-clause-answers
returns-clause-answers g c =
    let net_right = passes c.check_net-first.ensures c.in-Ok.is in
    let mod_right = passes (rw c.new-netlist.ensures at c.check_mod-second.ensures) c.in-Ok-second.is in
    stim_last _ _ _ net_right mod_right (rw c.new-netlist.ensures at c.check_stim.ensures)
