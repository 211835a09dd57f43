-- The machine's calls serve the session over the files' machine, on buffers that hold the files' network and module.
use Prim.Native.Nat.{ℕ, ◌≤◌}
use mathlib.Core.Path.{◌≡◌, subst, ◌∙◌, ap}
use mathlib.Core.Bool.{true}
use native.Mathlib.Omega.{arith}
use Rattle.model.specs.Network.{Network, Signal}
use Rattle.model.specs.Module.{Module, At}
use Rattle.model.specs.Machine.{Memory}
use Rattle.model.specs.Session.{Engine, lockstep, Head, Call, same_lengths, Outcome}
use Rattle.model.proofs.Conditions.{Scheduled}
use Rattle.model.proofs.Machine.{Near}
use Rattle.model.proofs.Session.{Like, like_trans, SameOutcome}
use Rattle.buffers_memory.specs.Memory.{memory_of}
use Rattle.buffers_tables.specs.Panel.{finished_in, watched_in, mask_in}
use Rattle.buffers_tables.specs.Tables.{network_in}
use Rattle.buffers_tables.specs.Holding.{Holding}
use Rattle.buffers_range.specs.Ranges.{ranged}
use Rattle.buffers_range.proofs.Ranged.{head_ranged_lem}
use Rattle.buffers_lengths.specs.Lengths.{fixed}
use Rattle.session_answers.specs.Answers.{answer_bits}
use Rattle.session_state.specs.Header.{head_in, with_head}
use Rattle.session_calls.specs.Reply.{Buffers, lengths_of, Reply, reply}
use Rattle.session_calls.proofs.Replies.{outcome_in, reply_40, reply_answer}
use Rattle.laws_values.proofs.Same.{near_trans}
use Rattle.laws_values.proofs.Valued.{written_near}
use Rattle.laws_kept.proofs.Heads.{with_head_finished, with_head_hand, with_head_watched, with_head_mask}
use Rattle.laws_kept.proofs.Replies.{kept, reply_lengths, reply_ranged, reply_holding}
use Rattle.laws_engine.proofs.Calls.{Refuses}
use Rattle.laws_engine.proofs.Serving.{told, Serves}
use Rattle.laws_demand3.specs.Lockstep.{lockstep_calls, working}
use Rattle.laws_demand3.proofs.Meeting.{in_tables, tables_step, tables_alike}
use Rattle.laws_demand3.proofs.Telling.{reply_taken, reply_few}

-- a wrong length gives 40, and all stays
pub refuses : Refuses lockstep_calls
refuses = record { replies = reply_40; hands = λ b c l. ap (λ (r : Reply). answer_bits r.answer) (reply_40 b c l) }

-- the session's buffers: right in length and range, and the files' network and module in them
pub record Good (f : Network) (g : Module) (b : Buffers) : Type 0 where
  pub lengths : same_lengths (lengths_of b) fixed ≡ true
  pub range : ranged b.panel b.program b.memory ≡ true
  pub holding : Holding f g b.panel b.program
  pub watching : Signal f (watched_in b.panel)
  pub few : finished_in b.panel ≤ 65535

-- a head written into the session's panel is read back
head_back : (f : Network) (g : Module) (h : Head) (b : Buffers) → Good f g b → Like f (head_in (with_head h b.panel)) h
unfolding network_in
head_back f g h b good =
    let high = (head_ranged_lem b.panel b.program b.memory good.range).signals_high in
    let size = good.holding.signals.size in
    record {
      finished = with_head_finished h b.panel;
      hand = λ s a k. with_head_hand h b.panel s a.low (omega (arith, a.high, high, size));
      watch = ap (λ (x : ℕ). record { signal = x; mask = mask_in (with_head h b.panel) }) (with_head_watched h b.panel)
          ∙ ap (λ (x : ℕ). record { signal = h.watch.signal; mask = x }) (with_head_mask h b.panel);
    }

-- buffers in range watch a signal
pub watching_in : (f : Network) (g : Module) (b : Buffers) → ranged b.panel b.program b.memory ≡ true → Holding f g b.panel b.program
    → Signal f (watched_in b.panel)
unfolding network_in
watching_in f g b r holding =
    let head = head_ranged_lem b.panel b.program b.memory r in
    let size = holding.signals.size in
    record { low = head.watched_low; high = omega (arith, head.watched_high, size) }

module _ (f : Network) (g : Module) where
  pub reply_stays : (b : Buffers) (c : Call) → Good f g b → Good f g (reply b c).buffers
  reply_stays b c good =
      let range = reply_ranged b c good.lengths good.range in
      let holding = reply_holding b c good.lengths good.range good.holding in
      record {
        lengths = reply_lengths b c good.lengths;
        range = range;
        holding = holding;
        watching = watching_in f g (reply b c).buffers range holding;
        few = reply_few b good.lengths good.range good.few c;
      }

module _ {f : Network} {g : Module} (ok : Scheduled f g) (few : g.processors ≤ 16) (short : g.slots ≤ 256) (processor slot : ℕ → ℕ)
    (placed : (s : ℕ) → Signal f s → At g (processor s) (slot s) × (g.signal (processor s) (slot s) ≡ s)) where
  abbrev machine : Engine
  machine = lockstep f g processor slot

  -- a call lent the session's buffers does what the session over the files' machine does
  module _ (b : Buffers) (c : Call) (good : Good f g b) where
    abbrev does : Outcome Memory
    does = told lockstep_calls f machine working (Near g) (Good f g) b c

    alike : SameOutcome fixed f (in_tables ok processor slot placed b.panel b.program good.holding) machine
        (tables_step ok processor slot placed b.panel b.program good.holding) (outcome_in b c) does
    alike = tables_alike ok processor slot placed b.panel b.program good.holding (head_in b.panel) (memory_of b.memory) c good.watching

    reply_head : Like f (head_in (reply b c).buffers.panel) does.head
    reply_head =
        kept b c good.lengths good.range (λ x. Like f (head_in x.panel) does.head) (λ h w. subst (λ (x : Head). Like f x does.head) h alike.head)
        (like_trans f _ _ _ (head_back f g (outcome_in b c).head b good) alike.head)

    reply_memory : Near g (memory_of (reply b c).buffers.memory) does.state
    reply_memory =
        kept b c good.lengths good.range (λ x. Near g (memory_of x.memory) does.state) (λ h w. subst (λ (x : Memory). Near g x does.state) w alike.state)
        (near_trans (written_near good.holding few short (outcome_in b c).state b.memory) alike.state)

  pub lockstep_serves : Serves lockstep_calls f machine working (Near g) (Good f g)
  lockstep_serves =
      record {
        refuses = refuses;
        lengths = λ b good. good.lengths;
        taken = λ b c good numbers. reply_taken b good.lengths good.range good.few c numbers;
        answer = λ b c good. reply_answer b c good.lengths good.range ∙ (alike b c good).answer;
        head = reply_head;
        state = reply_memory;
        stays = reply_stays f g;
      }
