-- A time's lines of STIM, one after the other, as settings of the session.
use Prim.Native.Nat.{ℕ, suc, ◌+◌, ◌<◌, ◌≤◌}
use mathlib.Core.Path.{◌≡◌, refl, sym, subst, ◌∙◌, ap}
use mathlib.Core.Bool.{Bool, true, false, false≢true}
use mathlib.Core.List.{List, []}
use native.Mathlib.Omega.{arith}
use native.Mathlib.Numerals.{add-one}
use native.Mathlib.Decide.{ℕ_discrete}
use lib.Dec.{eqb, leb}
use lib.ListN.{length, get_or}
use borrow.Author.Tests.{eq-eqb, ne_eqb, le-leb, leb-true, leb-false}
use Rattle.logic.specs.Test.{◌and◌}
use Rattle.model.specs.Network.{Network, Signal, input}
use Rattle.model.specs.Machine.{Memory}
use Rattle.model.specs.Stimulus.{stim_time, stim_signal, stim_count, last_given}
use Rattle.model.specs.Session.{Head, Watch, set, replaced, Outcome, done}
use Rattle.model.proofs.Accepted.{stim_right}
use Rattle.buffers_tables.specs.Panel.{panel_length, panel_stride, watched_place, mask_place, signals_in, watched_in, kind_in, hand_in}
use Rattle.buffers_range.proofs.Ranged.{panel_in_range, memory_in_range}
use Rattle.session_state.specs.Header.{head_in}
use Rattle.buffers_tables.specs.Stores.{with_hands}
use Rattle.session_state.specs.Commands.{signal_in, input_in, with_value, commanded}
use Rattle.buffers_tables.specs.Holding.{SameFixed}
use Rattle.buffers_tables.proofs.Stores.{fixed_kind}
use Rattle.buffers_tables.proofs.Hands.{hands_length, hands_hand, hands_else, hands_fixed, hands_own, hands_over, hands_same}
use Rattle.session_state.proofs.Commands.{input_signal, input_kind, signal_low, signal_high, set_no_signal, set_no_value, set_done}
use Rattle.laws_kept.specs.InRange.{InRange}
use Rattle.laws_kept.proofs.Panels.{replaced_code, replaced_else, head_in_range, same_ranged}
use Rattle.file_stim.specs.declared.Line.{Line}
use Rattle.file_stim.proofs.Steps.{GivenAt}
use Rattle.listing_cycle.specs.Feeding.{Passed, PanelInputs, InHand, Fed}
use Rattle.listing_cycle.specs.Cycling.{RightBuffers}

-- a line of a later time sets an input of the panel
line_input : {n : Network} {stim panel : List ℕ} → PanelInputs n stim panel → (line : ℕ) → line < stim_count stim → 1 ≤ stim_time stim line
    → (s : ℕ) → s ≡ stim_signal stim line → input_in panel s ≡ true
line_input {n} {stim} {panel} feeds line l later s e =
    let g = (stim_right n stim feeds.passes).given line l in
    subst (λ (x : ℕ). input_in panel x ≡ true) (sym e) (feeds.inputs _ g.signal (g.later (λ q. omega arith)))

-- the setting of a line of a later time is never refused
pub setting_done : (n : Network) (stim panel program memory : List ℕ) (h : Head) → PanelInputs n stim panel → (line : ℕ) → line < stim_count stim
    → 1 ≤ stim_time stim line → (s v : ℕ) → s ≡ stim_signal stim line → v ≤ 3
    → (commanded panel program memory h (set s v)).answer ≡ done
setting_done n stim panel program memory h feeds line l later s v e few =
    ap (λ (o : Outcome Memory). o.answer) (set_done panel program memory h s v (line_input feeds line l later s e) few)

-- panels with the same fixed numbers have the same inputs
same_input : {old new : List ℕ} → SameFixed new old → signals_in old ≤ 4096 → (s : ℕ) → input_in new s ≡ input_in old s
unfolding input_in signal_in ◌and◌
same_input {old} {new} same few s = rw same.signals (go (leb 1 s) refl (leb s (signals_in old)) refl)
  where
    go : (a : Bool) → leb 1 s ≡ a → (b : Bool) → leb s (signals_in old) ≡ b → ((a and b) and eqb (kind_in new s) input) ≡ ((a and b) and eqb (kind_in old s) input)
    go false e b f = refl
    go true e false f = refl
    go true e true f =
        let low = leb-true 1 s e in
        let high = leb-true s (signals_in old) f in
        ap (λ (x : ℕ). eqb x input) (fixed_kind new old same s low (omega arith))

-- what is no signal, or no input of the panel
pub no_input : (panel : List ℕ) (s : ℕ) → (1 ≤ s → s ≤ signals_in panel → kind_in panel s ≡ input → ⊥) → input_in panel s ≡ false
no_input panel s d = go (input_in panel s) refl
  where
    go : (b : Bool) → input_in panel s ≡ b → input_in panel s ≡ false
    go true e =
        let known = input_signal panel s e in
        absurd (d (signal_low panel s known) (signal_high panel s known) (input_kind panel s e))
    go false e = e

-- the head after a setting: as it was, or the value in hand of an input replaced by a code
module _ (panel : List ℕ) (h : Head) (s v : ℕ) where
  abbrev handed : ℕ → ℕ
  handed = (commanded panel [] [] h (set s v)).head.hand

  set_either : (P : Head → Type 0) → P h → (input_in panel s ≡ true → v ≤ 3 → P (with_value h s v)) → P (commanded panel [] [] h (set s v)).head
  set_either P same changed = go (input_in panel s) refl (leb v 3) refl
    where
      to : {o : Outcome Memory} → commanded panel [] [] h (set s v) ≡ o → P o.head → P (commanded panel [] [] h (set s v)).head
      to e r = subst (λ (x : Outcome Memory). P x.head) (sym e) r

      go : (a : Bool) → input_in panel s ≡ a → (b : Bool) → leb v 3 ≡ b → P (commanded panel [] [] h (set s v)).head
      go false e b f = to (set_no_signal panel [] [] h s v e) same
      go true e false f = to (set_no_value panel [] [] h s v e (leb-false v 3 f)) same
      go true e true f = to (set_done panel [] [] h s v e (leb-true v 3 f)) (changed e (leb-true v 3 f))

  pub set_keeps : ((commanded panel [] [] h (set s v)).head.finished ≡ h.finished) × ((commanded panel [] [] h (set s v)).head.watch ≡ h.watch)
  set_keeps = set_either (λ (x : Head). (x.finished ≡ h.finished) × (x.watch ≡ h.watch)) (refl, refl) (λ e l. (refl, refl))

  set_gate : (x : ℕ) → input_in panel x ≡ false → handed x ≡ h.hand x
  set_gate x e =
      set_either (λ (y : Head). y.hand x ≡ h.hand x) refl
      (λ i l. replaced_else h.hand s v x (λ q. false≢true (sym e ∙ ap (input_in panel) q ∙ i)))

  set_code : (x : ℕ) → h.hand x ≤ 3 → handed x ≤ 3
  set_code x l = set_either (λ (y : Head). y.hand x ≤ 3) l (λ i few. replaced_code h.hand s v x few l)

pub fed_starts : (stim panel : List ℕ) (t line : ℕ) → length panel ≡ panel_length → line ≤ stim_count stim → Fed stim panel t line panel line
fed_starts stim panel t line size few =
    record {
      low = omega arith;
      few = few;
      times = λ k l u. absurd (omega arith);
      only = sym (hands_own panel size);
      gates = λ s low high e. refl;
      codes = λ s low high l. l;
      hands = λ n feeds l hand. hand;
    }

module _ {stim before : List ℕ} {t line : ℕ} {panel : List ℕ} {at : ℕ} (fed : Fed stim before t line panel at) where
  pub fed_size : length panel ≡ panel_length
  fed_size = ap length fed.only ∙ hands_length (hand_in panel) before

  pub fed_fixed : SameFixed panel before
  fed_fixed = subst (λ (x : List ℕ). SameFixed x before) (sym fed.only) (hands_fixed (hand_in panel) before)

  pub fed_signals : signals_in before ≤ 4096 → signals_in panel ≤ 4096
  fed_signals few = rw fed_fixed.signals few

  module _ {given : Line} {next : ℕ} (g : GivenAt stim t at given next) where
    -- the value in hand after an accepted setting is what one line more gives
    hand_more : (n : Network) → (hand : ℕ → ℕ) → ((s : ℕ) → Signal n s → n.kind s ≡ input → hand s ≡ last_given stim t s at)
        → (s : ℕ) → Signal n s → n.kind s ≡ input → replaced hand given.signal given.value s ≡ last_given stim t s (suc at)
    unfolding last_given ◌and◌ replaced
    hand_more n hand so_far s a i = go (ℕ_discrete s given.signal)
      where
        early : leb (stim_time stim at) t ≡ true
        early = le-leb (stim_time stim at) t (omega (arith, g.time_is))

        go : Dec (s ≡ given.signal) → replaced hand given.signal given.value s ≡ last_given stim t s (suc at)
        go (yes e) = rw (eq-eqb s given.signal e, eq-eqb (stim_signal stim at) s (sym g.signal_is ∙ sym e), early) g.value_is
        go (no d) = rw (ne_eqb s given.signal d, ne_eqb (stim_signal stim at) s (λ q. d (sym q ∙ sym g.signal_is))) (so_far s a i)

    -- the panel that the setting leaves
    pub fed_more : signals_in before ≤ 4096 → (finished : ℕ) (watch : Watch) (after : List ℕ)
        → after ≡ with_hands (commanded panel [] [] (record { finished = finished; hand = hand_in panel; watch = watch }) (set given.signal given.value)).head.hand panel
        → Fed stim before t line after next
    fed_more few finished watch after e =
        subst (λ (x : ℕ). Fed stim before t line after x) (sym (g.follows ∙ add-one at)) more
      where
        h : Head
        h = record { finished = finished; hand = hand_in panel; watch = watch }

        low : at < stim_count stim
        low = g.before_end

        there : (s : ℕ) → 1 ≤ s → s ≤ 4096 → hand_in after s ≡ handed panel h given.signal given.value s
        there s a b = ap (λ (x : List ℕ). hand_in x s) e ∙ hands_hand (handed panel h given.signal given.value) panel s a b

        passed : (k : ℕ) → line ≤ k → k < suc at → Dec (k ≡ at) → stim_time stim k ≡ t
        passed k l u (yes q) = rw q g.time_is
        passed k l u (no d) = fed.times k l (omega arith)

        hands : (n : Network) → PanelInputs n stim before → 1 ≤ t → InHand n stim t line before → InHand n stim t (suc at) after
        hands n feeds l hand s a i =
            let right = (stim_right n stim feeds.passes).given at low in
            let is = same_input fed_fixed few given.signal ∙ line_input feeds at low (omega (arith, g.time_is)) given.signal g.signal_is in
            let known = signal_high before s (input_signal before s (feeds.inputs s a i)) in
            there s a.low (omega arith)
            ∙ ap (λ (o : Outcome Memory). o.head.hand s) (set_done panel [] [] h given.signal given.value is (omega (arith, g.value_is, right.value)))
            ∙ hand_more n (hand_in panel) (fed.hands n feeds l hand) s a i

        more : Fed stim before t line after (suc at)
        more =
            record {
              low = omega (arith, fed.low);
              few = omega arith;
              times = λ k l u. passed k l u (ℕ_discrete k at);
              only =
                  e ∙ ap (with_hands (handed panel h given.signal given.value)) fed.only
                  ∙ hands_over (handed panel h given.signal given.value) (hand_in panel) before
                  ∙ hands_same (handed panel h given.signal given.value) (hand_in after) before (λ s a b. sym (there s a b));
              gates = λ s a b q.
                  there s a b ∙ set_gate panel h given.signal given.value s (same_input fed_fixed few s ∙ q) ∙ fed.gates s a b q;
              codes = λ s a b l. rw (there s a b) (set_code panel h given.signal given.value s (fed.codes s a b l));
              hands = hands;
            }

-- buffers that are right stay so
pub fed_right : {stim before program memory : List ℕ} {t line : ℕ} {panel : List ℕ} {at : ℕ} → Fed stim before t line panel at
    → RightBuffers before program memory → RightBuffers panel program memory
fed_right {stim} {before} {program} {memory} {panel = panel} fed right =
    record {
      sizes = record { panel_size = fed_size fed; program_size = right.sizes.program_size; memory_size = right.sizes.memory_size };
      range =
          same_ranged panel before (fed_fixed fed)
          (record {
            watched_low = rw watched_kept own.watched_low;
            watched_high = rw watched_kept own.watched_high;
            mask_high = rw (kept mask_place (omega arith)) own.mask_high;
            hands = λ s low high. fed.codes s low (omega (arith, many)) (own.hands s low high);
            rest = λ s low high. fed.gates s (omega arith) high (no_input before s (λ b c. omega arith)) ∙ own.rest s low high;
          })
          program memory memory right.range (memory_in_range before program memory right.range);
    }
  where
    own : InRange before (head_in before)
    own = head_in_range before (panel_in_range before program memory right.range)

    many : signals_in before ≤ 4096
    many = (panel_in_range before program memory right.range).head.signals_high

    kept : (a : ℕ) → a < panel_stride → get_or panel a 0 ≡ get_or before a 0
    kept a l = ap (λ (x : List ℕ). get_or x a 0) fed.only ∙ hands_else (hand_in panel) before a (omega arith) (λ u e. omega arith)

    watched_kept : watched_in panel ≡ watched_in before
    watched_kept = rw (kept watched_place (omega arith), kept (watched_place + 1) (omega arith))

-- the lines of time 0, passed one after the other
pub record Skipped (stim : List ℕ) (line : ℕ) : Type 0 where
  pub few : line ≤ stim_count stim
  pub earlier : (k : ℕ) → k < line → stim_time stim k ≤ 0

-- up to the first later one
pub skipped_ends : {stim : List ℕ} {line : ℕ} → Skipped stim line → (line < stim_count stim → stim_time stim line ≡ 0 → ⊥) → Passed stim 0 line
skipped_ends so_far other = record { few = so_far.few; earlier = so_far.earlier; later = λ h. omega (arith, other h) }
