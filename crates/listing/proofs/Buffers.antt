-- What the files say of the buffers after t cycles: the panel holds the network and the module, the inputs' values in hand are STIM's and the
-- places hold VAL; and one cycle more turns them into what the files say of t + 1.
use Prim.Native.Nat.{ℕ, zero, suc, ◌<◌, ◌≤◌}
use mathlib.Core.Path.{◌≡◌, refl, sym, ◌∙◌, ap}
use mathlib.Core.Bool.{Bool, true, false}
use mathlib.Core.List.{List}
use native.Mathlib.Omega.{arith}
use native.Mathlib.Decide.{ℕ_discrete, dec_lt}
use lib.ListN.{get_or}
use borrow.Author.Tests.{lt-ltb, le-ltb, eq-eqb, ne_eqb}
use Rattle.std.specs.Prelude.{if◌then◌else◌}
use Rattle.logic.specs.Listed.{listed}
use Rattle.logic.proofs.Listed.{listed_length, listed_at, is_listed}
use Rattle.model.specs.Files.{Files}
use Rattle.model.specs.Network.{Network, Signal, is_signal, input}
use Rattle.model.specs.Value.{start, history}
use Rattle.model.specs.Module.{Module}
use Rattle.model.specs.Machine.{Memory, cycle, opening, after}
use Rattle.model.specs.ModuleFile.{module_of}
use Rattle.model.specs.Stimulus.{held, end_time}
use Rattle.model.specs.Acceptance.{panel_limit, network_of, module_of_files, given_of, Accepted}
use Rattle.model.specs.Listing.{value_at}
use Rattle.model.proofs.Checked.{panel_few}
use Rattle.model.proofs.Value.{start_input}
use Rattle.model.proofs.Chains.{signal_true, signal_test}
use Rattle.model.proofs.Machine.{Near, near_refl, cycle_rows, cycle_near}
use Rattle.model.proofs.Keeping.{machine_holds_VAL}
use Rattle.model.proofs.Demands.{accepted_formed, accepted_acyclic, accepted_scheduled}
use Rattle.buffers_memory.specs.Memory.{memory_length, memory_of, within, with_memory}
use Rattle.buffers_memory.proofs.Written.{written_same}
use Rattle.buffers_memory.proofs.Near.{agree_near, with_memory_near, with_memory_step}
use Rattle.buffers_tables.specs.Panel.{signals_in, hand_in}
use Rattle.buffers_tables.specs.Tables.{network_in}
use Rattle.buffers_tables.specs.Holding.{Holding}
use Rattle.machine_run.specs.Running.{cycle_in}
use Rattle.buffers_load_files.specs.Loaded.{panel_of, program_of}
use Rattle.buffers_load.proofs.Loaded.{loaded_panel_size, loaded_few, loaded_holding, loaded_network}
use Rattle.laws_values.proofs.Same.{cycle_same, near_trans}
use Rattle.laws_values.proofs.Valued.{processors_few, slots_few}
use Rattle.buffers_range.proofs.Ranged.{panel_in_range}
use Rattle.buffers_tables.specs.Stores.{with_hands}
use Rattle.buffers_tables.proofs.Hands.{hands_hand, hands_fixed, hands_own, hands_over, hands_same}
use Rattle.laws_opening.proofs.Opened.{opened_ranged}
use Rattle.laws_kept.proofs.Tables.{signal_high, same_holding}
use Rattle.laws_kept.proofs.Panels.{head_in_range}
use Rattle.listing_cycle.specs.Changes.{shown_length, not_shown, value_held, shown_with}
use Rattle.listing.specs.Buffers.{cycles_after, hand_at, panel_at, memory_at, shown_at, shown_after}

module _ (files : Files) where
  abbrev n : Network
  n = network_of files

  abbrev m : Module
  m = module_of_files files

  abbrev stim : List ℕ
  stim = files.STIM

  -- the cycles finished after piece t, and after the last piece
  pub cycles_at : (t : ℕ) → t ≤ end_time stim → cycles_after files (suc t) ≡ t
  unfolding cycles_after
  cycles_at t h = go (dec_lt t (end_time stim))
    where
      go : Dec (t < end_time stim) → cycles_after files (suc t) ≡ t
      go (yes l) = rw (lt-ltb t (end_time stim) l)
      go (no d) = rw (le-ltb t (end_time stim) (omega arith)) (omega arith)

  pub cycles_last : cycles_after files (suc (suc (end_time stim))) ≡ cycles_after files (suc (end_time stim))
  unfolding cycles_after
  cycles_last = rw (le-ltb (suc (end_time stim)) (end_time stim) (omega arith), le-ltb (end_time stim) (end_time stim) (omega arith))

  -- what is shown of a signal
  pub shown_signal : (t : ℕ) → t ≤ end_time stim → (s : ℕ) → Signal n s → shown_at files (suc t) s ≡ value_at files t s
  unfolding shown_at
  shown_signal t h s g = rw (signal_test n s g, cycles_at t h)

  shown_other : (k s : ℕ) → is_signal n s ≡ false → shown_at files k s ≡ not_shown
  unfolding shown_at
  shown_other zero s e = refl
  shown_other (suc t) s e = rw e

  pub shown_last : shown_after files (suc (suc (end_time stim))) ≡ shown_after files (suc (end_time stim))
  unfolding shown_at
  shown_last = ap (λ (t : ℕ). listed shown_length (λ s. if is_signal n s then value_at files t s else not_shown)) cycles_last

  -- what stands as the value in hand of an input, of a gate, and of none
  pub hand_input : (t s : ℕ) → Signal n s → n.kind s ≡ input → hand_at files t s ≡ held stim t s
  unfolding hand_at
  hand_input t s g i = rw (signal_test n s g, eq-eqb (n.kind s) input i)

  pub hand_gate : (t s : ℕ) → Signal n s → (n.kind s ≡ input → ⊥) → hand_at files t s ≡ start n (given_of files) s
  unfolding hand_at
  hand_gate t s g d = rw (signal_test n s g, ne_eqb (n.kind s) input d)

  pub hand_none : (t s : ℕ) → n.size < s → hand_at files t s ≡ 0
  unfolding hand_at
  hand_none t s h = go (is_signal n s) refl
    where
      go : (b : Bool) → is_signal n s ≡ b → hand_at files t s ≡ 0
      go true e = absurd (omega (arith, (signal_true n s e).high))
      go false e = rw e

  pub panel_hand : (t s : ℕ) → 1 ≤ s → s ≤ 4096 → hand_in (panel_at files t) s ≡ hand_at files t s
  unfolding panel_at
  panel_hand t = hands_hand (hand_at files t) (panel_of files)

  -- the settings of one time more
  pub panel_next : (t u : ℕ) (panel : List ℕ) → panel ≡ with_hands (hand_in panel) (panel_at files t)
      → ((s : ℕ) → 1 ≤ s → s ≤ 4096 → hand_in panel s ≡ hand_at files u s) → panel ≡ panel_at files u
  unfolding panel_at
  panel_next t u panel only hands = only ∙ hands_over (hand_in panel) _ _ ∙ hands_same (hand_in panel) _ _ hands

  module _ (accepted : Accepted panel_limit files) where
    abbrev loaded : List ℕ
    loaded = panel_of files

    abbrev program : List ℕ
    program = program_of files

    few : signals_in loaded ≤ 4096
    few = loaded_few panel_few files accepted

    -- the panel holds the files' network and module
    loaded_here : Holding n m loaded program
    loaded_here = loaded_holding panel_few files accepted

    pub panel_holding : (t : ℕ) → Holding n m (panel_at files t) program
    unfolding panel_at
    panel_holding t = same_holding _ loaded program (hands_fixed (hand_at files t) loaded) few loaded_here

    -- at time 0 it is the one that was loaded
    pub panel_loaded : loaded ≡ panel_at files 0
    unfolding panel_at network_in
    panel_loaded =
        sym (hands_own loaded (loaded_panel_size panel_few files accepted)) ∙ hands_same _ _ loaded (λ s low high. hand s low high (dec_lt n.size s))
      where
        size_there : signals_in loaded ≡ n.size
        size_there = loaded_here.signals.size

        hand : (s : ℕ) → 1 ≤ s → s ≤ 4096 → Dec (n.size < s) → hand_in loaded s ≡ hand_at files 0 s
        hand s low high (yes q) =
            (head_in_range loaded (panel_in_range loaded program _ (opened_ranged panel_few files accepted))).rest s (omega (arith, size_there)) high
            ∙ sym (hand_none 0 s q)
        hand s low high (no d) = kind (ℕ_discrete (n.kind s) input)
          where
            g : Signal n s
            g = record { low = low; high = omega arith }

            kind : Dec (n.kind s ≡ input) → hand_in loaded s ≡ hand_at files 0 s
            kind (yes i) = (loaded_network panel_few files accepted).hands s g ∙ start_input n (given_of files) s g i ∙ sym (hand_input 0 s g i)
            kind (no d) = (loaded_network panel_few files accepted).hands s g ∙ sym (hand_gate 0 s g d)

    -- the inputs have STIM's values in hand
    pub panel_input : (t s : ℕ) → Signal n s → n.kind s ≡ input → hand_in (panel_at files t) s ≡ held stim t s
    panel_input t s g i = panel_hand t s g.low (signal_high loaded program n s few loaded_here.signals g) ∙ hand_input t s g i

    -- the places hold VAL
    pub places_hold : (panel program : List ℕ) → Holding n m panel program → (t s : ℕ) → Signal n s → value_held panel (memory_at files t) s ≡ value_at files t s
    unfolding memory_at module_of value_at
    places_hold panel program holding t s g =
        let there = holding.places s g in
        let w = after n m (opening m (start n (given_of files))) (history (held stim) t) in
        (with_memory_near m (processors_few panel_few files accepted) (slots_few panel_few files accepted) w (listed memory_length (λ a. 0))).earlier_local _ _ there.at
        ∙ machine_holds_VAL (accepted_formed panel_limit files accepted) (accepted_acyclic panel_limit files accepted) (accepted_scheduled panel_limit files accepted)
        (given_of files) (history (held stim) t) s _ _ g there.at there.is

    -- a cycle of the tables is one of the files' machine
    cycle_is : (t : ℕ) (w : Memory) → Near m (cycle_in (panel_at files t) program w) (cycle n m (held stim t) w)
    cycle_is t w =
        let laid = (accepted_scheduled panel_limit files accepted).laid in
        let holding = panel_holding t in
        near_trans
        (cycle_same (network_in (panel_at files t) program) holding.lines laid holding.signals.kinds holding.signals.gates (hand_in (panel_at files t)) near_refl)
        (cycle_rows laid (hand_in (panel_at files t)) (held stim t) (λ s g i. panel_input t s g i) near_refl)

    pub memory_next : (t : ℕ) (memory left : List ℕ) → memory ≡ memory_at files t
        → left ≡ with_memory m.processors m.slots (cycle_in (panel_at files (suc t)) program (memory_of memory)) memory
        → left ≡ memory_at files (suc t)
    unfolding memory_at module_of after history
    memory_next t memory left is e =
        let laid = (accepted_scheduled panel_limit files accepted).laid in
        with_memory_step m (processors_few panel_few files accepted) (slots_few panel_few files accepted) (cycle n m (held stim (suc t))) (λ w u. cycle_near laid (held stim (suc t)))
        (after n m (opening m (start n (given_of files))) (history (held stim) t)) (listed memory_length (λ a. 0)) memory left is
        (e ∙ written_same (within m.processors m.slots) _ _ memory (agree_near m _ _ (cycle_is (suc t) (memory_of memory))))

    -- what the changes of time t leave shown
    pub shown_next : (t : ℕ) → t ≤ end_time stim → (values : ℕ → ℕ) → ((s : ℕ) → Signal n s → values s ≡ value_at files t s)
        → shown_with n.size values (λ s. get_or (shown_after files t) s 0) ≡ shown_after files (suc t)
    unfolding shown_with is_signal
    shown_next t h values are =
        is_listed (shown_with n.size values (λ s. get_or (shown_after files t) s 0)) shown_length (shown_at files (suc t)) (listed_length shown_length _)
        (λ s l. listed_at shown_length _ s l ∙ byte s l (is_signal n s) refl)
      where
        byte : (s : ℕ) → s < shown_length → (b : Bool) → is_signal n s ≡ b
            → (if is_signal n s then values s else get_or (shown_after files t) s 0) ≡ shown_at files (suc t) s
        byte s l true e = let g = signal_true n s e in rw e (are s g ∙ sym (shown_signal t h s g))
        byte s l false e = rw e (listed_at shown_length (shown_at files t) s l ∙ shown_other t s e ∙ sym (shown_other (suc t) s e))
