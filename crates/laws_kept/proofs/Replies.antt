-- 44 never comes in a session: every call leaves working buffers that are of their lengths and in range so, and tables that hold a
-- network and a module still hold them.
use mathlib.Core.Path.{◌≡◌, refl, sym, subst, ap}
use mathlib.Core.Bool.{Bool, true, false}
use Rattle.model.specs.Network.{Network}
use Rattle.model.specs.Module.{Module}
use Rattle.model.specs.Session.{Call, same_lengths}
use Rattle.buffers_memory.specs.Memory.{memory_of, within}
use Rattle.buffers_memory.proofs.Written.{written_length}
use Rattle.buffers_tables.specs.Panel.{processors_in, slots_in}
use Rattle.buffers_tables.specs.Holding.{Holding}
use Rattle.buffers_range.specs.Ranges.{ranged}
use Rattle.buffers_range.proofs.Ranged.{memory_in_range, head_ranged_lem}
use Rattle.session_state.specs.Header.{head_in}
use Rattle.session_calls.specs.Reply.{Buffers, lengths_of, leaving, reply, Reply}
use Rattle.laws_kept.proofs.Tables.{same_holding}
use Rattle.laws_kept.proofs.Heads.{with_head_length, with_head_fixed}
use Rattle.buffers_lengths.specs.Lengths.{fixed}
use Rattle.buffers_lengths.proofs.Sizes.{sizes_same, same_sizes}
use Rattle.session_calls.proofs.Replies.{outcome_in, reply_44, Leaves, done, stays, reply_leaves}
use Rattle.laws_kept.proofs.Panels.{with_head_ranged}
use Rattle.laws_kept.proofs.Memories.{with_memory_values}
use Rattle.laws_kept.proofs.Outcomes.{outcome_kept}

module _ (b : Buffers) (c : Call) (lent : same_lengths (lengths_of b) fixed ≡ true) where
  -- where 44 does not come, what holds of the outcome written into the buffers holds of what a call leaves: of the buffers as lent, too, where
  -- the outcome is what they have
  pub kept : ranged b.panel b.program b.memory ≡ true → (P : Buffers → Type 0)
      → ((outcome_in b c).head ≡ head_in b.panel → (outcome_in b c).state ≡ memory_of b.memory → P b)
      → P (leaving b (outcome_in b c)) → P (reply b c).buffers
  kept r P here written = go (reply_leaves b c lent r)
    where
      go : Leaves b c → P (reply b c).buffers
      go (done is) = subst P (sym is) written
      go (stays is head state) = subst P (sym is) (here head state)

  left_lengths : same_lengths (lengths_of (leaving b (outcome_in b c))) fixed ≡ true
  left_lengths =
      sizes_same _ _ _
      (record {
        panel_size = with_head_length (outcome_in b c).head b.panel;
        program_size = (same_sizes _ _ _ lent).program_size;
        memory_size = written_length (within (processors_in b.panel) (slots_in b.panel)) (outcome_in b c).state b.memory;
      })

  pub reply_lengths : same_lengths (lengths_of (reply b c).buffers) fixed ≡ true
  reply_lengths = go (ranged b.panel b.program b.memory) refl
    where
      go : (t : Bool) → ranged b.panel b.program b.memory ≡ t → same_lengths (lengths_of (reply b c).buffers) fixed ≡ true
      go true r = kept r (λ d. same_lengths (lengths_of d) fixed ≡ true) (λ h w. lent) left_lengths
      go false r = subst (λ (d : Buffers). same_lengths (lengths_of d) fixed ≡ true) (sym (ap (λ (x : Reply). x.buffers) (reply_44 b c lent r))) lent

  module _ (r : ranged b.panel b.program b.memory ≡ true) where
    left_ranged : ranged (leaving b (outcome_in b c)).panel b.program (leaving b (outcome_in b c)).memory ≡ true
    left_ranged =
        with_head_ranged (outcome_in b c).head b.panel b.program b.memory _ (outcome_kept b r c).head r
        (with_memory_values b.panel b.program b.memory (outcome_in b c).state (outcome_kept b r c).state
        (memory_in_range b.panel b.program b.memory r))

    pub reply_ranged : ranged (reply b c).buffers.panel (reply b c).buffers.program (reply b c).buffers.memory ≡ true
    reply_ranged = kept r (λ d. ranged d.panel d.program d.memory ≡ true) (λ h w. r) left_ranged

    module _ {n : Network} {m : Module} (holding : Holding n m b.panel b.program) where
      left_holding : Holding n m (leaving b (outcome_in b c)).panel b.program
      left_holding =
          same_holding _ b.panel b.program (with_head_fixed (outcome_in b c).head b.panel)
          (head_ranged_lem b.panel b.program b.memory r).signals_high holding

      pub reply_holding : Holding n m (reply b c).buffers.panel (reply b c).buffers.program
      reply_holding = kept r (λ d. Holding n m d.panel d.program) (λ h w. holding) left_holding
