-- The three checks: each answer carries its refusal, and the ones before it passed.
use mathlib.Core.Path.{◌≡◌, sym, ap, ◌∙◌}
use borrow.Author.Rules.{rules}
use Rattle.std.specs.Prelude.{Err}
use Rattle.model.specs.Refusal.{pass}
use Rattle.model.specs.Netlist.{net_check}
use Rattle.file_lines.specs.Answer.{answered}
use Rattle.file_lines.proofs.Stages.{passes}
use Rattle.file_checks.specs.Answer.{file_refusal}
use Rattle.file_checks.proofs.Joined.{net_stops, mod_stops, stim_last}
use Rattle.file_checks.proofs.check_files.Goals as goal
use Rattle.file_checks.proofs.check_files.Goals.{In-Ok}

-- NET is accepted, where its answer says so
net_right : (c : In-Ok) → net_check 4096 c.args.files.now.net.now ≡ pass
net_right c = passes c.check_net-first.ensures c.in-Ok.is

pub returns-in_default : goal.returns-in_default
returns-in_default c = rw c.in_default.is (net_stops _ _ _ {x = tt {0}} c.check_net-first.ensures c.in_default.is).refuses

pub returns-in_default-second : goal.returns-in_default-second
returns-in_default-second c =
    let answers = rw c.new-net.ensures at c.check_mod-second.ensures in
    rw c.in_default-second.is (mod_stops _ _ _ {x = tt {0}} (net_right (goal.at.returns-in_default-second c).In-Ok) answers c.in_default-second.is).refuses

pub returns-in_err-check_stim : goal.returns-in_err-check_stim
returns-in_err-check_stim c =
    let mod_right = passes (rw c.new-net.ensures at c.check_mod-second.ensures) c.in-Ok-second.is in
    let answers = rw c.new-net.ensures at c.check_stim.ensures in
    let last = (stim_last _ _ _ (net_right (goal.at.returns-in_err-check_stim c).In-Ok) mod_right answers).refuses in
    let same : c.from_residual.result ≡ Err c.in_err-check_stim.field-0.0 = search rules in
    ap (answered file_refusal) same ∙ sym (ap (answered file_refusal) c.in_err-check_stim.was) ∙ last

pub returns : goal.returns
returns c =
    let mod_right = passes (rw c.new-net.ensures at c.check_mod-second.ensures) c.in-Ok-second.is in
    let answers = rw c.new-net.ensures at c.check_stim.ensures in
    sym (ap (answered file_refusal) c.in_ok-check_stim.was)
    ∙ (stim_last _ _ _ (net_right (goal.at.returns c).In-Ok) mod_right answers).refuses
