-- The first of the checks that refuses answers for all.
use mathlib.Core.Path.{◌≡◌, refl}
use borrow.Author.Rules.{rules}
use Rattle.logic.specs.Test.{all}
use Rattle.model.specs.Netlist.{network}
use Rattle.model.specs.Module.{send_right, reception_right, operand_right}
use Rattle.model.specs.ModuleFile.{module_of, sending, receiving, operands}
use Rattle.file_lines.specs.Answer.{Answers}
use Rattle.file_lines.proofs.Stages.{renamed, passes, after, stops, handed}
use Rattle.file_mod_lines.specs.Answer.{mod_refusal}
use Rattle.file_mod_lines.specs.declared.ModRefusal.TheVariants.{Send, Reception, WrongOperand}
use Rattle.file_mod.proofs.Mapped.{mapped}
use Rattle.file_mod.proofs.Testing.{operands_each}
use Rattle.file_mod.proofs.check_module.Goals as goal
use Rattle.file_mod.proofs.check_module.Goals.{After-map_err, After-map_err-2, After-map_err-3}

-- 24, 25 and 23 of the module
sends : (c : After-map_err) → Answers mod_refusal (tt {0}) (sending c.args.table.now.modfile.now) c.map_err.result
unfolding sending
sends c =
    mapped _ (λ line refusal p. let e : refusal ≡ Send line = search rules in rw e refl)
    (c.check_each.ensures 24 (send_right (module_of c.args.table.now.modfile.now)) (λ place b within q. search rules)) c.map_err.ensures.cases

receptions : (c : After-map_err-2) → Answers mod_refusal (tt {0}) (receiving c.args.table.now.modfile.now) c.map_err-2.result
unfolding receiving
receptions c =
    mapped _ (λ line refusal p. let e : refusal ≡ Reception line = search rules in rw e refl)
    (c.check_each-2.ensures 25 (reception_right (module_of c.args.table.now.modfile.now)) (λ place b within q. search rules)) c.map_err-2.ensures.cases

read : (c : After-map_err-3) → Answers mod_refusal (tt {0}) (operands (network c.args.net.now.net.now) c.args.table.now.modfile.now) c.map_err-3.result
read c =
    mapped _ (λ line refusal p. let e : refusal ≡ WrongOperand line = search rules in rw e refl)
    (renamed refl (operands_each (network c.args.net.now.net.now) c.args.table.now.modfile.now)
    (c.check_each-3.ensures 23 (λ p i. all 4 (operand_right (network c.args.net.now.net.now) (module_of c.args.table.now.modfile.now) p i)) (λ place b within q. search rules))) c.map_err-3.ensures.cases

pub returns-in_err-check_placements : goal.returns-in_err-check_placements
returns-in_err-check_placements c =
    handed c.from_residual.ensures.1 (stops c.check_placements.ensures c.in_err-check_placements.was _)

pub returns-in_err-map_err : goal.returns-in_err-map_err
returns-in_err-map_err c =
    after (passes c.check_placements.ensures c.in_ok-check_placements.was)
    (handed c.from_residual-in_err-map_err.ensures.1 (stops (sends (goal.at.returns-in_err-map_err c).After-map_err) c.in_err-map_err.was _))

pub returns-in_err-map_err-2 : goal.returns-in_err-map_err-2
returns-in_err-map_err-2 c =
    after (passes c.check_placements.ensures c.in_ok-check_placements.was)
    (after (passes (sends (goal.at.returns-in_err-map_err-2 c).After-map_err) c.in_ok-map_err.was)
    (handed c.from_residual-in_err-map_err-2.ensures.1 (stops (receptions (goal.at.returns-in_err-map_err-2 c).After-map_err-2) c.in_err-map_err-2.was _)))

pub returns : goal.returns
returns c =
    after (passes c.check_placements.ensures c.in_ok-check_placements.was)
    (after (passes (sends (goal.at.returns c).After-map_err) c.in_ok-map_err.was)
    (after (passes (receptions (goal.at.returns c).After-map_err-2) c.in_ok-map_err-2.was) (read c)))
