-- What a panel in range tells of its numbers, and back: the session's, and those of each signal.
use Prim.Native.Nat.{ℕ, ◌+◌, ◌-◌, ◌*◌, ◌<◌, ◌≤◌}
use mathlib.Core.Path.{◌≡◌, refl, sym, subst, ◌∙◌}
use mathlib.Core.Bool.{Bool, true, false}
use mathlib.Core.Logic.{◌⊎◌, inl, inr}
use mathlib.Core.List.{List}
use native.Mathlib.Omega.{arith}
use lib.Dec.{eqb}
use lib.ListN.{get_or}
use borrow.Author.Tests.{leb-true, ltb-true, eqb-true, eqb-false, le-leb, lt-ltb, eq-eqb, ne_eqb}
use Rattle.logic.specs.Test.{◌and◌, all}
use Rattle.logic.proofs.Tests.{and_true, and_left, and_right, all_at, all_true}
use Rattle.gates.specs.Translation.{is_translation}
use Rattle.gates.specs.Function.{is_function}
use Rattle.gates.specs.Legal.{Legal}
use Rattle.model.specs.Network.{input, unit_delay, rank_order}
use Rattle.buffers_tables.specs.Panel.{panel_length, panel_stride, codes_column, hand_column, signal_start, signal_byte, column_in, signals_in, processors_in, slots_in, watched_in, mask_in, kind_in, codes_in, hand_in, processor_in, slot_in}
use Rattle.buffers_runs.specs.Zeros.{zeros}
use Rattle.buffers_range_panel.specs.Ranges.{head_ranged, codes_ranged, signal_ranged, panel_ranged}
use Rattle.buffers_runs.proofs.Runs.{zeros_byte, zeros_true}

-- N, P, C and the watch
pub record Head (panel : List ℕ) : Type 0 where
  pub signals_low : 1 ≤ signals_in panel
  pub signals_high : signals_in panel ≤ 4096
  pub processors_low : 1 ≤ processors_in panel
  pub processors_high : processors_in panel ≤ 16
  pub slots_low : 1 ≤ slots_in panel
  pub slots_high : slots_in panel ≤ 256
  pub watched_low : 1 ≤ watched_in panel
  pub watched_high : watched_in panel ≤ signals_in panel
  pub mask_high : mask_in panel ≤ 15

zero_function : is_function 0 ≡ true
unfolding is_function
zero_function = refl

zero_translation : is_translation 0 ≡ true
unfolding is_translation
zero_translation = refl

-- the numbers of signal s
pub record Numbers (panel : List ℕ) (s : ℕ) : Type 0 where
  pub kind_low : 1 ≤ kind_in panel s
  pub kind_high : kind_in panel s ≤ rank_order
  pub codes : codes_ranged panel s ≡ true
  pub hand_high : hand_in panel s ≤ 3
  pub processor_low : processor_in panel s < processors_in panel
  pub slot_low : slot_in panel s < slots_in panel

module _ (panel : List ℕ) where
  pub head_numbers : head_ranged panel ≡ true → Head panel
  unfolding head_ranged
  head_numbers e =
      let a = and_left _ _ e in
      let b = and_left _ _ (and_right _ _ e) in
      let c = and_left _ _ (and_right _ _ (and_right _ _ e)) in
      let d = and_right _ _ (and_right _ _ (and_right _ _ e)) in
      let w = and_left _ _ d in
      record {
        signals_low = leb-true _ _ (and_left _ _ a);
        signals_high = leb-true _ _ (and_right _ _ a);
        processors_low = leb-true _ _ (and_left _ _ b);
        processors_high = leb-true _ _ (and_right _ _ b);
        slots_low = leb-true _ _ (and_left _ _ c);
        slots_high = leb-true _ _ (and_right _ _ c);
        watched_low = leb-true _ _ (and_left _ _ w);
        watched_high = leb-true _ _ (and_right _ _ w);
        mask_high = leb-true _ _ (and_right _ _ d);
      }

  pub head_signals : head_ranged panel ≡ true → signals_in panel ≤ 4096
  head_signals e = (head_numbers e).signals_high

  pub numbers_head : Head panel → head_ranged panel ≡ true
  unfolding head_ranged
  numbers_head h =
      and_true _ _ (and_true _ _ (le-leb _ _ h.signals_low) (le-leb _ _ h.signals_high))
      (and_true _ _ (and_true _ _ (le-leb _ _ h.processors_low) (le-leb _ _ h.processors_high))
      (and_true _ _ (and_true _ _ (le-leb _ _ h.slots_low) (le-leb _ _ h.slots_high))
      (and_true _ _ (and_true _ _ (le-leb _ _ h.watched_low) (le-leb _ _ h.watched_high))
      (le-leb _ _ h.mask_high))))

  pub signal_numbers : (s : ℕ) → signal_ranged panel s ≡ true → Numbers panel s
  unfolding signal_ranged
  signal_numbers s e =
      let a = and_left _ _ e in
      let b = and_right _ _ e in
      let c = and_right _ _ b in
      let d = and_right _ _ c in
      record {
        kind_low = leb-true _ _ (and_left _ _ a);
        kind_high = leb-true _ _ (and_right _ _ a);
        codes = and_left _ _ b;
        hand_high = leb-true _ _ (and_left _ _ c);
        processor_low = ltb-true _ _ (and_left _ _ d);
        slot_low = ltb-true _ _ (and_right _ _ d);
      }

  pub numbers_signal : (s : ℕ) → Numbers panel s → signal_ranged panel s ≡ true
  unfolding signal_ranged
  numbers_signal s h =
      and_true _ _ (and_true _ _ (le-leb _ _ h.kind_low) (le-leb _ _ h.kind_high))
      (and_true _ _ h.codes
      (and_true _ _ (le-leb _ _ h.hand_high)
      (and_true _ _ (lt-ltb _ _ h.processor_low) (lt-ltb _ _ h.slot_low))))

-- the whole panel
pub record Panel (panel : List ℕ) : Type 0 where
  pub head : Head panel
  pub signals : (s : ℕ) → 1 ≤ s → s ≤ signals_in panel → Numbers panel s
  pub rest : (x : ℕ) → signal_start (signals_in panel + 1) ≤ x → x < panel_length → get_or panel x 0 ≡ 0

module _ (panel : List ℕ) where
  pub ranged_panel : panel_ranged panel ≡ true → Panel panel
  unfolding panel_ranged
  ranged_panel e =
      let head = head_numbers panel (and_left _ _ e) in
      let high = head.signals_high in
      let later = and_right _ _ e in
      record {
        head = head;
        signals = λ s low l.
            let q : s - 1 + 1 ≡ s = omega arith in
            signal_numbers panel s
            (subst (λ (x : ℕ). signal_ranged panel x ≡ true) q
            (all_at (λ k. signal_ranged panel (k + 1)) (signals_in panel) (and_left _ _ later) (s - 1) (omega arith)));
        rest = λ x low l.
            zeros_byte panel (signal_start (signals_in panel + 1)) (panel_stride * (4096 - signals_in panel)) (and_right _ _ later) x low (omega arith);
      }

  pub processors_limit : panel_ranged panel ≡ true → processors_in panel ≤ 16
  processors_limit e = (ranged_panel e).head.processors_high

  pub slots_limit : panel_ranged panel ≡ true → slots_in panel ≤ 256
  slots_limit e = (ranged_panel e).head.slots_high

  pub panel_ranged_lem : Panel panel → panel_ranged panel ≡ true
  unfolding panel_ranged
  panel_ranged_lem h =
      let high = h.head.signals_high in
      and_true _ _ (numbers_head panel h.head)
      (and_true _ _
      (all_true _ (signals_in panel) (λ k l. numbers_signal panel (k + 1) (h.signals (k + 1) (omega arith) (omega arith))))
      (zeros_true panel (signal_start (signals_in panel + 1)) (panel_stride * (4096 - signals_in panel)) (λ x low l. h.rest x low (omega arith))))

-- "Kind 1 is an input .., 2 unit-delay, 3 rank-order"
pub kinds : (panel : List ℕ) (s : ℕ) → Numbers panel s → (kind_in panel s ≡ input) ⊎ (kind_in panel s ≡ unit_delay) ⊎ (kind_in panel s ≡ rank_order)
kinds panel s h = go (eqb (kind_in panel s) input) refl (eqb (kind_in panel s) unit_delay) refl
  where
    low : 1 ≤ kind_in panel s
    low = h.kind_low

    high : kind_in panel s ≤ 3
    high = h.kind_high

    third : (kind_in panel s ≡ 1 → ⊥) → (kind_in panel s ≡ 2 → ⊥) → kind_in panel s ≡ 3
    third a b = let l = low in let u = high in omega arith

    go : (b : Bool) → eqb (kind_in panel s) input ≡ b → (d : Bool) → eqb (kind_in panel s) unit_delay ≡ d
        → (kind_in panel s ≡ input) ⊎ (kind_in panel s ≡ unit_delay) ⊎ (kind_in panel s ≡ rank_order)
    go true e d f = inl (eqb-true _ _ e)
    go false e true f = inr (inl (eqb-true _ _ f))
    go false e false f = inr (inr (third (eqb-false _ _ e) (eqb-false _ _ f)))

-- the codes of signal s
module _ (panel : List ℕ) (s : ℕ) where
  abbrev supplied : Bool
  supplied = is_function (column_in panel s codes_column) and all 5 (λ k. is_translation (get_or panel (signal_byte s (codes_column + 1) + k) 0))

  input_codes : kind_in panel s ≡ input → codes_ranged panel s ≡ zeros panel (signal_byte s codes_column) 6
  unfolding codes_ranged
  input_codes e = rw (eq-eqb (kind_in panel s) 1 e)

  gate_codes : (kind_in panel s ≡ input → ⊥) → codes_ranged panel s ≡ supplied
  unfolding codes_ranged
  gate_codes d = rw (ne_eqb (kind_in panel s) 1 d)

  pub input_zeros : codes_ranged panel s ≡ true → kind_in panel s ≡ input → (x : ℕ) → signal_byte s codes_column ≤ x → x < signal_byte s hand_column → get_or panel x 0 ≡ 0
  input_zeros h e x low high = zeros_byte panel (signal_byte s codes_column) 6 (sym (input_codes e) ∙ h) x (omega arith) (omega arith)

  pub zeros_input : kind_in panel s ≡ input → ((x : ℕ) → signal_byte s codes_column ≤ x → x < signal_byte s hand_column → get_or panel x 0 ≡ 0) → codes_ranged panel s ≡ true
  zeros_input e h = input_codes e ∙ zeros_true panel (signal_byte s codes_column) 6 (λ x low high. h x (omega arith) (omega arith))

  pub supplied_gate : (kind_in panel s ≡ input → ⊥) → is_function (column_in panel s codes_column) ≡ true
      → ((k : ℕ) → k < 5 → is_translation (get_or panel (signal_byte s (codes_column + 1) + k) 0) ≡ true) → codes_ranged panel s ≡ true
  supplied_gate d f g = gate_codes d ∙ and_true _ _ f (all_true _ 5 g)

  -- an input's zeros are codes that are supplied too
  codes_supplied : codes_ranged panel s ≡ true → supplied ≡ true
  codes_supplied h = go (eqb (kind_in panel s) input) refl
    where
      first : (kind_in panel s ≡ input) → is_function (column_in panel s codes_column) ≡ true
      first e =
          subst (λ (x : ℕ). is_function x ≡ true) (sym (input_zeros h e (signal_byte s codes_column) (omega arith) (omega arith))) zero_function

      rest : (kind_in panel s ≡ input) → (k : ℕ) → k < 5 → is_translation (get_or panel (signal_byte s (codes_column + 1) + k) 0) ≡ true
      rest e k l =
          subst (λ (x : ℕ). is_translation x ≡ true) (sym (input_zeros h e (signal_byte s (codes_column + 1) + k) (omega arith) (omega arith))) zero_translation

      go : (b : Bool) → eqb (kind_in panel s) input ≡ b → supplied ≡ true
      go true e = let i = eqb-true (kind_in panel s) input e in and_true _ _ (first i) (all_true _ 5 (rest i))
      go false e = sym (gate_codes (eqb-false (kind_in panel s) input e)) ∙ h

  pub codes_function : codes_ranged panel s ≡ true → is_function (column_in panel s codes_column) ≡ true
  codes_function h = and_left _ _ (codes_supplied h)

  pub codes_translation : codes_ranged panel s ≡ true → (k : ℕ) → k < 5 → is_translation (get_or panel (signal_byte s (codes_column + 1) + k) 0) ≡ true
  codes_translation h k l = all_at (λ j. is_translation (get_or panel (signal_byte s (codes_column + 1) + j) 0)) 5 (and_right _ _ (codes_supplied h)) k l

  pub legal_codes : codes_ranged panel s ≡ true → Legal (codes_in panel s)
  unfolding is_function is_translation
  legal_codes h =
      record {
        function_high = leb-true _ 4 (codes_function h);
        first_high = translation 0 (codes_column + 1) (omega arith) refl;
        second_high = translation 1 (codes_column + 2) (omega arith) refl;
        third_high = translation 2 (codes_column + 3) (omega arith) refl;
        fourth_high = translation 3 (codes_column + 4) (omega arith) refl;
        last_high = translation 4 (codes_column + 5) (omega arith) refl;
      }
    where
      translation : (k c : ℕ) → k < 5 → c ≡ codes_column + 1 + k → column_in panel s c ≤ 6
      translation k c l e =
          let there : signal_byte s (codes_column + 1) + k ≡ signal_byte s c = omega (arith, e) in
          leb-true _ 6 (subst (λ (x : ℕ). is_translation (get_or panel x 0) ≡ true) there (codes_translation h k l))
