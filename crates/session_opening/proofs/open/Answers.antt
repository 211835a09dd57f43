-- The three ways out: a wrong length, accepted files, a refused file. Each gives the check, and with it the answer and the bytes.
use mathlib.Core.Path.{◌≡◌, sym, ◌∙◌}
use Rattle.model.specs.Refusal.{pass}
use Rattle.model.proofs.Refusals.{pass_not_fail}
use Rattle.file_checks.proofs.Refused.{not_passed}
use Rattle.session_opening.specs.Opened.{opening_check}
use Rattle.model.specs.Files.{files_of}
use Rattle.model.specs.Acceptance.{panel_limit}
use Rattle.buffers_lengths.specs.Lengths.{lengths_lent}
use Rattle.model.proofs.Accepted.{mod_accepted, stim_accepted}
use native.Mathlib.Omega.{arith}
use Rattle.model.proofs.Checked.{files_checked}
use Rattle.buffers_load_files.specs.Loaded.{panel_of, program_of, opening_bytes}
use Rattle.buffers_lengths.proofs.Sizes.{same_sizes}
use Rattle.session_opening.proofs.Outcome.{wrong_length, right_length, files_accepted, files_refused, refused_left, accepted_bits, accepted_left}
use Rattle.session_opening.proofs.open.Goals as goal

pub returns-then-not-lengths_right : goal.returns-then-not-lengths_right
returns-then-not-lengths_right c =
    let files = files_of c.args.net.now c.args.modfile.now c.args.stim.now in
    let lent = lengths_lent c.args.panel.now c.args.program.now c.args.memory.now in
    let e = wrong_length panel_limit files lent (sym c.lengths_right.ensures ∙ c.if-not-lengths_right.true) in
    let fails : opening_check panel_limit files lent ≡ pass → ⊥ = λ p. pass_not_fail (sym p ∙ e) in
    record {
      answer = rw e c.refuse.ensures.value;
      panel = refused_left _ fails _ _ _ c.refuse.ensures.panel_after;
      program = refused_left _ fails _ _ _ c.refuse.ensures.program_after;
      memory = refused_left _ fails _ _ _ c.refuse.ensures.memory_after;
    }

pub unwrap-requires : goal.unwrap-requires
unwrap-requires c =
    c.as_mut_array.ensures.variant.1 (same_sizes _ _ _ (sym c.lengths_right.ensures ∙ c.if-not-lengths_right.false)).panel_size

pub unwrap-requires-in_default : goal.unwrap-requires-in_default
unwrap-requires-in_default c =
    c.as_mut_array-in_default.ensures.variant.1 (same_sizes _ _ _ (sym c.lengths_right.ensures ∙ c.if-not-lengths_right.false)).program_size

pub unwrap-requires-in_default-2 : goal.unwrap-requires-in_default-2
unwrap-requires-in_default-2 c =
    c.as_mut_array-in_default-2.ensures.variant.1 (same_sizes _ _ _ (sym c.lengths_right.ensures ∙ c.if-not-lengths_right.false)).memory_size

pub load-requires : goal.load-requires
load-requires c =
    let e = files_accepted _ _ c.check_files.ensures c.in_default.is in
    record {
      checked = files_checked 4096 (omega arith) _ e;
      modfile_value = mod_accepted 4096 _ e;
      stim_value = stim_accepted 4096 _ e;
    }

pub returns-in_default : goal.returns-in_default
returns-in_default c =
    let files = files_of c.args.net.now c.args.modfile.now c.args.stim.now in
    let e = right_length _ _ _ (sym c.lengths_right.ensures ∙ c.if-not-lengths_right.false)
    ∙ files_accepted _ _ c.check_files.ensures c.in_default.is in
    record {
      answer = accepted_bits e;
      panel = accepted_left e _ (panel_of files) _ c.load.ensures.panel_after;
      program = accepted_left e _ (program_of files) _ c.load.ensures.program_after;
      memory = accepted_left e _ (opening_bytes files) _ c.load.ensures.memory_after;
    }

pub returns : goal.returns
returns c =
    let files = files_of c.args.net.now c.args.modfile.now c.args.stim.now in
    let lent = lengths_lent c.args.panel.now c.args.program.now c.args.memory.now in
    let e = right_length _ _ _ (sym c.lengths_right.ensures ∙ c.if-not-lengths_right.false)
    ∙ files_refused _ _ c.check_files.ensures c.in-Err.is in
    let fails : opening_check panel_limit files lent ≡ pass → ⊥ = λ p. not_passed _ (sym e ∙ p) in
    record {
      answer = rw e c.refuse-2.ensures.value;
      panel = refused_left _ fails _ _ _ c.refuse-2.ensures.panel_after;
      program = refused_left _ fails _ _ _ c.refuse-2.ensures.program_after;
      memory = refused_left _ fails _ _ _ c.refuse-2.ensures.memory_after;
    }
