-- What load, fill, decode and the cursor give.
use Prim.Native.Nat.{ℕ}
use mathlib.Core.Path.{refl, ◌∙◌, ap}
use Rattle.logic.specs.Listed.{listed}
use native.Mathlib.Omega.{arith}
use Rattle.model.proofs.Accepted.{mod_accepted, stim_accepted}
use Rattle.model.proofs.Checked.{files_checked}
use Rattle.model.specs.Acceptance.{panel_limit}
use Rattle.logic.proofs.Listed.{filled}
use Rattle.listing_cycle.specs.Changes.{not_shown}
use Rattle.file_stim.specs.declared.Stimulus.{Stimulus}
use Rattle.listing.proofs.Opening.{accepted_stimulus, opened}
use Rattle.listing.proofs.open.Goals as goal

pub load-requires-clause-checked : goal.load-requires-clause-checked
load-requires-clause-checked c = files_checked panel_limit (omega arith) _ c.requires.accepted

pub load-requires-clause-modfile_value : goal.load-requires-clause-modfile_value
load-requires-clause-modfile_value c = mod_accepted panel_limit _ c.requires.accepted

pub load-requires-clause-stim_value : goal.load-requires-clause-stim_value
load-requires-clause-stim_value c = stim_accepted panel_limit _ c.requires.accepted

pub invariant_of-stim : goal.invariant_of-stim
invariant_of-stim c = record { accepted = ∣ accepted_stimulus _ c.requires.accepted ∣₁ }

pub returns : goal.returns
returns c =
    opened _ c.requires.accepted _ _ _ _ _ c.load.ensures.panel_after c.load.ensures.program_after c.load.ensures.memory_after c.decode-session.ensures.0 (ap (λ (x : Stimulus). x.bytes.now) c.first_later-cursor.ensures.same_stimulus) c.first_later-cursor.ensures.passed c.end_time-end.ensures refl (c.fill.ensures.after (λ y e. e) ∙ filled _ not_shown ∙ ap (λ (n : ℕ). listed n (λ a. not_shown)) c.told-shown)
