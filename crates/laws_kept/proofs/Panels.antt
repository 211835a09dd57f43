-- A panel and a program in range stay so with a panel of the same fixed numbers whose head is in range.
use Prim.Native.Nat.{ℕ, ◌+◌, ◌<◌, ◌≤◌}
use mathlib.Core.Path.{◌≡◌, refl, sym, subst, ◌∙◌}
use mathlib.Core.Bool.{Bool, true, false}
use mathlib.Core.List.{List}
use native.Mathlib.Omega.{arith}
use native.Mathlib.Decide.{ℕ_discrete}
use lib.Dec.{eqb}
use lib.ListN.{get_or}
use borrow.Author.Tests.{eqb-true, eqb-false, ne_eqb}
use Rattle.std.specs.Prelude.{if◌then◌else◌}
use Rattle.gates.specs.Translation.{is_translation}
use Rattle.gates.specs.Function.{is_function}
use Rattle.model.specs.Network.{input}
use Rattle.model.specs.Module.{Module, At}
use Rattle.model.specs.Session.{Head, replaced}
use Rattle.buffers_tables.specs.Panel.{panel_length, codes_column, hand_column, signal_start, signal_byte, signal_of, column_of, signals_in, kind_in, hand_in}
use Rattle.buffers_tables.specs.Tables.{network_in, module_in}
use Rattle.buffers_tables.specs.Holding.{SameFixed}
use Rattle.buffers_tables.proofs.Stores.{fixed_kind, fixed_processor, fixed_slot, fixed_byte, fixed_module}
use Rattle.session_state.specs.Header.{head_in, with_head}
use Rattle.session_state.specs.Commands.{with_value}
use Rattle.buffers_range_panel.specs.Ranges.{codes_ranged}
use Rattle.buffers_range_panel.proofs.Numbers.{Numbers, Panel, input_zeros, zeros_input, supplied_gate, codes_function, codes_translation}
use Rattle.model.proofs.Accepted.{Line}
use Rattle.buffers_range.specs.Ranges.{ranged}
use Rattle.buffers_range.proofs.Ranged.{Program, Values, is_ranged, panel_in_range, program_in_range}
use Rattle.laws_kept.specs.InRange.{InRange}
use Rattle.laws_kept.proofs.Tables.{same_size}
use Rattle.laws_kept.proofs.Heads.{with_head_hand, with_head_watched, with_head_mask, with_head_fixed}

-- the head of a panel in range
pub head_in_range : (panel : List ℕ) → Panel panel → InRange panel (head_in panel)
head_in_range panel r =
    record {
      watched_low = r.head.watched_low;
      watched_high = r.head.watched_high;
      mask_high = r.head.mask_high;
      hands = λ s low high. (r.signals s low high).hand_high;
      rest = λ s low high. r.rest (signal_byte s hand_column) (omega arith) (omega arith);
    }

-- a value in hand replaced
pub replaced_code : (hand : ℕ → ℕ) (s v x : ℕ) → v ≤ 3 → hand x ≤ 3 → replaced hand s v x ≤ 3
unfolding replaced
replaced_code hand s v x l h = go (eqb x s)
  where
    go : (t : Bool) → ◌≤◌ (if t then v else hand x) 3
    go true = l
    go false = h

pub replaced_else : (hand : ℕ → ℕ) (s v x : ℕ) → (x ≡ s → ⊥) → replaced hand s v x ≡ hand x
unfolding replaced
replaced_else hand s v x d = rw (ne_eqb x s d)

pub with_value_in_range : (panel : List ℕ) (h : Head) → InRange panel h → (s v : ℕ) → s ≤ signals_in panel → v ≤ 3 → InRange panel (with_value h s v)
with_value_in_range panel h good s v high l =
    record {
      watched_low = good.watched_low;
      watched_high = good.watched_high;
      mask_high = good.mask_high;
      hands = λ x a c. replaced_code h.hand s v x l (good.hands x a c);
      rest = λ x a c. replaced_else h.hand s v x (λ q. omega arith) ∙ good.rest x a c;
    }

module _ (new old : List ℕ) (same : SameFixed new old) where
  module _ (s : ℕ) (low : 1 ≤ s) (high : s ≤ 4096) where
    codes_ranged_lem : codes_ranged old s ≡ true → codes_ranged new s ≡ true
    codes_ranged_lem r = go (eqb (kind_in old s) input) refl
      where
        go : (b : Bool) → eqb (kind_in old s) input ≡ b → codes_ranged new s ≡ true
        go true e =
            let i = eqb-true (kind_in old s) input e in
            zeros_input new s (fixed_kind new old same s low high ∙ i) (λ x l u.
            fixed_byte new old same x (omega arith) (omega arith) (λ q. omega arith) ∙ input_zeros old s r i x l u)
        go false e =
            let d = eqb-false (kind_in old s) input e in
            supplied_gate new s (λ q. d (sym (fixed_kind new old same s low high) ∙ q))
            (subst (λ (x : ℕ). is_function x ≡ true) (sym (same.columns s codes_column low high (omega arith) (λ q. omega arith))) (codes_function old s r))
            (λ k l.
            subst (λ (x : ℕ). is_translation x ≡ true)
            (sym (fixed_byte new old same (signal_byte s (codes_column + 1) + k) (omega arith) (omega arith) (λ q. omega arith))) (codes_translation old s r k l))

    numbers_ranged : hand_in new s ≤ 3 → Numbers old s → Numbers new s
    numbers_ranged hand r =
        record {
          kind_low = rw (fixed_kind new old same s low high) r.kind_low;
          kind_high = rw (fixed_kind new old same s low high) r.kind_high;
          codes = codes_ranged_lem r.codes;
          hand_high = hand;
          processor_low = rw (fixed_processor new old same s low high, same.processors) r.processor_low;
          slot_low = rw (fixed_slot new old same s low high, same.slots) r.slot_low;
        }

  same_panel : InRange old (head_in new) → Panel old → Panel new
  same_panel good r =
      let many = r.head.signals_high in
      record {
        head =
            record {
              signals_low = rw same.signals r.head.signals_low;
              signals_high = rw same.signals r.head.signals_high;
              processors_low = rw same.processors r.head.processors_low;
              processors_high = rw same.processors r.head.processors_high;
              slots_low = rw same.slots r.head.slots_low;
              slots_high = rw same.slots r.head.slots_high;
              watched_low = good.watched_low;
              watched_high = rw same.signals good.watched_high;
              mask_high = good.mask_high;
            };
        signals = λ s low high.
            let l : s ≤ signals_in old = rw same.signals at high in
            numbers_ranged s low (omega arith) (good.hands s low l) (r.signals s low l);
        rest = λ x low high.
            let l : signal_start (signals_in old + 1) ≤ x = rw same.signals at low in
            go x l high (ℕ_discrete (column_of x) hand_column);
      }
    where
      go : (x : ℕ) → signal_start (signals_in old + 1) ≤ x → x < panel_length → Dec (column_of x ≡ hand_column) → get_or new x 0 ≡ 0
      go x low high (yes e) =
          let q : signal_byte (signal_of x) hand_column ≡ x = omega arith in
          subst (λ (y : ℕ). get_or new y 0 ≡ 0) q (good.rest (signal_of x) (omega arith) (omega arith))
      go x low high (no d) = fixed_byte new old same x (omega arith) high d ∙ r.rest x low high

  same_program : (program : List ℕ) → Program old program → Program new program
  same_program program r =
      record {
        lines =
            subst (λ (m : Module). (p i : ℕ) → At m p i → Line (network_in new program) m p i)
            (sym (fixed_module new old same program)) line;
        rest = λ p i b pl il bl e. r.rest p i b pl il bl (rw (same.processors, same.slots) at e);
      }
    where
      line : (p i : ℕ) → At (module_in old program) p i → Line (network_in new program) (module_in old program) p i
      line p i a =
          let l = r.lines p i a in
          record {
            signal = subst (λ (x : ℕ). (module_in old program).signal p i ≤ x) (sym (same_size new old program same)) l.signal;
            operand = l.operand;
            send = l.send;
            sender = l.sender;
          }

  -- the memory is judged by P and C alone
  same_values : (memory : List ℕ) → Values old memory → Values new memory
  same_values memory v = record { values = v.values; rest = λ a e. v.rest a (rw (same.processors, same.slots) at e) }

  pub same_ranged : InRange old (head_in new) → (program memory left : List ℕ) → ranged old program memory ≡ true → Values old left
      → ranged new program left ≡ true
  same_ranged good program memory left r v =
      is_ranged new program left (same_panel good (panel_in_range old program memory r))
      (same_program program (program_in_range old program memory r)) (same_values left v)

-- a head in range, written into a panel, is in range there
pub with_head_in_range : (h : Head) (panel : List ℕ) → signals_in panel ≤ 4096 → InRange panel h → InRange panel (head_in (with_head h panel))
with_head_in_range h panel few good =
    record {
      watched_low = rw (with_head_watched h panel) good.watched_low;
      watched_high = rw (with_head_watched h panel) good.watched_high;
      mask_high = rw (with_head_mask h panel) good.mask_high;
      hands = λ s low high. rw (with_head_hand h panel s low (omega arith)) (good.hands s low high);
      rest = λ s low high. with_head_hand h panel s (omega arith) high ∙ good.rest s low high;
    }

pub with_head_ranged : (h : Head) (panel program memory left : List ℕ) → InRange panel h → ranged panel program memory ≡ true → Values panel left
    → ranged (with_head h panel) program left ≡ true
with_head_ranged h panel program memory left good r v =
    same_ranged (with_head h panel) panel (with_head_fixed h panel)
    (with_head_in_range h panel (panel_in_range panel program memory r).head.signals_high good) program memory left r v
