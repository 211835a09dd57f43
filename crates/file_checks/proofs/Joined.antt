-- The three checks in the order of the files: the first that refuses answers for all, and the last where those before it accept.
use Prim.Native.Nat.{ℕ}
use mathlib.Core.Path.{◌≡◌}
use mathlib.Core.List.{List}
use Rattle.std.specs.Prelude.{Result, Err}
use Rattle.model.specs.Refusal.{Check, pass}
use Rattle.model.specs.Files.{files_of}
use Rattle.model.specs.Netlist.{network, net_check}
use Rattle.model.specs.ModuleFile.{mod_check}
use Rattle.model.specs.Stimulus.{stim_check}
use Rattle.model.specs.Acceptance.{panel_limit, file_check}
use Rattle.file_lines.specs.Answer.{Answers}
use Rattle.file_lines.proofs.Stages.{after, stops}
use Rattle.file_checks.specs.declared.FileRefusal.{FileRefusal}
use Rattle.file_checks.specs.Answer.{file_refusal}

module _ (net modfile stim : List ℕ) where
  abbrev all_files : Check
  all_files = file_check panel_limit (files_of net modfile stim)

  module _ {A : Type 0} {x : A} where
    pub net_stops : {r : Result (Unit {0}) FileRefusal} → Answers file_refusal tt (net_check 4096 net) r → {e : FileRefusal} → r ≡ Err e
        → Answers file_refusal x all_files (Err e)
    unfolding file_check
    net_stops answers is = stops answers is _

    module _ (net-right : net_check 4096 net ≡ pass) where
      pub mod_stops : {r : Result (Unit {0}) FileRefusal} → Answers file_refusal tt (mod_check (network net) modfile) r → {e : FileRefusal} → r ≡ Err e
          → Answers file_refusal x all_files (Err e)
      unfolding file_check
      mod_stops answers is = after net-right (stops answers is _)

      pub stim_last : {r : Result A FileRefusal} → mod_check (network net) modfile ≡ pass → Answers file_refusal x (stim_check (network net) stim) r
          → Answers file_refusal x all_files r
      unfolding file_check
      stim_last mod-right answers = after net-right (after mod-right answers)
