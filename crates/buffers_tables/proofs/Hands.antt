-- A panel with values in hand written into it for all signals: its bytes, and what it is where they are its own or one is replaced.
use Prim.Native.Nat.{ℕ, ◌≤◌, ◌<◌}
use mathlib.Core.Path.{◌≡◌, refl, sym, ◌∙◌, ap}
use mathlib.Core.Bool.{Bool, true, false, false≢true}
use mathlib.Core.List.{List}
use native.Mathlib.Omega.{arith}
use native.Mathlib.Decide.{ℕ_discrete}
use lib.ListN.{length, get_or}
use borrow.Author.Tests.{eqb-true, leb-true, eq-eqb, ne_eqb, le-leb}
use Rattle.std.specs.Prelude.{if◌then◌else◌}
use Rattle.logic.proofs.Tests.{and_true, and_left, and_right}
use Rattle.logic.proofs.Listed.{is_listed, listed_at, listed_length}
use Rattle.model.specs.Session.{replaced}
use Rattle.buffers_tables.specs.Panel.{panel_length, panel_stride, hand_column, signal_byte, signal_of, column_of, hand_in}
use Rattle.buffers_tables.specs.Stores.{with_hand, is_hand, with_hands}
use Rattle.buffers_tables.specs.Holding.{SameFixed}
use Rattle.buffers_tables.proofs.Places.{byte_is, at_signal, at_column, byte_low}
use Rattle.buffers_tables.proofs.Stores.{fixed_bytes, hand_length, hand_stored, hand_else, hand_other}

-- the bytes that are values in hand
module _ (a : ℕ) where
  is_hand_lem : panel_stride ≤ a → column_of a ≡ hand_column → is_hand a ≡ true
  unfolding is_hand
  is_hand_lem low e = and_true _ _ (le-leb panel_stride a low) (eq-eqb (column_of a) hand_column e)

  hand_there : is_hand a ≡ true → (panel_stride ≤ a) × (column_of a ≡ hand_column)
  unfolding is_hand
  hand_there e = (leb-true panel_stride a (and_left _ _ e), eqb-true (column_of a) hand_column (and_right _ _ e))

  no_hand : (panel_stride ≤ a → column_of a ≡ hand_column → ⊥) → is_hand a ≡ false
  no_hand d = go (is_hand a) refl
    where
      go : (b : Bool) → is_hand a ≡ b → is_hand a ≡ false
      go true e = absurd (d (hand_there e).0 (hand_there e).1)
      go false e = e

module _ (hand : ℕ → ℕ) (panel : List ℕ) where
  pub hands_length : length (with_hands hand panel) ≡ panel_length
  unfolding with_hands
  hands_length = listed_length panel_length _

  byte_at : (a : ℕ) → a < panel_length → get_or (with_hands hand panel) a 0 ≡ (if is_hand a then hand (signal_of a) else get_or panel a 0)
  unfolding with_hands
  byte_at a l = listed_at panel_length _ a l

  pub hands_hand : (s : ℕ) → 1 ≤ s → s ≤ 4096 → hand_in (with_hands hand panel) s ≡ hand s
  hands_hand s low high =
      byte_at (signal_byte s hand_column) (byte_low s hand_column (omega arith) high)
      ∙ rw (is_hand_lem (signal_byte s hand_column) (omega arith) (at_column s hand_column (omega arith)), at_signal s hand_column (omega arith))

  -- the session's bytes, and of a signal's all but the value in hand
  pub hands_else : (a : ℕ) → a < panel_length → (panel_stride ≤ a → column_of a ≡ hand_column → ⊥) → get_or (with_hands hand panel) a 0 ≡ get_or panel a 0
  hands_else a high d = byte_at a high ∙ rw (no_hand a d)

  -- a panel that has these values in hand, and otherwise the bytes of this one
  is_with_hands : (l : List ℕ) → length l ≡ panel_length → ((s : ℕ) → 1 ≤ s → s ≤ 4096 → hand_in l s ≡ hand s)
      → ((a : ℕ) → a < panel_length → (panel_stride ≤ a → column_of a ≡ hand_column → ⊥) → get_or l a 0 ≡ get_or panel a 0) → l ≡ with_hands hand panel
  unfolding with_hands
  is_with_hands l size hands others = is_listed l panel_length _ size (λ a b. byte a b (is_hand a) refl)
    where
      byte : (a : ℕ) → a < panel_length → (t : Bool) → is_hand a ≡ t → get_or l a 0 ≡ (if t then hand (signal_of a) else get_or panel a 0)
      byte a b true e =
          let there = hand_there a e in
          let q : a ≡ signal_byte (signal_of a) hand_column = sym (byte_is a) ∙ ap (signal_byte (signal_of a)) there.1 in
          ap (λ (x : ℕ). get_or l x 0) q ∙ hands (signal_of a) (omega (arith, there.0)) (omega arith)
      byte a b false e = others a b (λ low c. false≢true (sym e ∙ is_hand_lem a low c))

  pub hands_fixed : SameFixed (with_hands hand panel) panel
  hands_fixed =
      fixed_bytes (with_hands hand panel) panel
      (λ x l. hands_else x (omega arith) (λ low e. omega arith))
      (λ x l h d. hands_else x h (λ low e. d e))

module _ (panel : List ℕ) (size : length panel ≡ panel_length) where
  -- its own values in hand
  pub hands_own : with_hands (hand_in panel) panel ≡ panel
  hands_own = sym (is_with_hands (hand_in panel) panel panel size (λ s low high. refl) (λ a l d. refl))

  -- one of them replaced
  pub hands_replaced : (s v : ℕ) → 1 ≤ s → s ≤ 4096 → with_hand s v panel ≡ with_hands (replaced (hand_in panel) s v) panel
  unfolding replaced
  hands_replaced s v low high =
      is_with_hands (replaced (hand_in panel) s v) panel (with_hand s v panel) (hand_length s v panel ∙ size) (λ x a b. value x (ℕ_discrete x s))
      (λ a l d. hand_else s v panel a (λ e. d (omega arith) (ap column_of e ∙ at_column s hand_column (omega arith))))
    where
      value : (x : ℕ) → Dec (x ≡ s) → hand_in (with_hand s v panel) x ≡ replaced (hand_in panel) s v x
      value x (yes e) = rw (e, eq-eqb s s refl) (hand_stored s v panel size high)
      value x (no d) = rw (ne_eqb x s d) (hand_other s v panel x d)

-- values in hand written over others
pub hands_over : (h g : ℕ → ℕ) (panel : List ℕ) → with_hands h (with_hands g panel) ≡ with_hands h panel
hands_over h g panel =
    is_with_hands h panel (with_hands h (with_hands g panel)) (hands_length h _) (hands_hand h _)
    (λ a l d. hands_else h _ a l d ∙ hands_else g panel a l d)

-- and the same values
pub hands_same : (h g : ℕ → ℕ) (panel : List ℕ) → ((s : ℕ) → 1 ≤ s → s ≤ 4096 → h s ≡ g s) → with_hands h panel ≡ with_hands g panel
hands_same h g panel e =
    is_with_hands g panel (with_hands h panel) (hands_length h panel) (λ s low high. hands_hand h panel s low high ∙ e s low high) (hands_else h panel)
