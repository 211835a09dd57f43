-- The bytes of the panel: the session's, those of a signal, and which bytes they are; and panels by the same numbers are the same.
use Prim.Native.Nat.{ℕ, zero, suc, ◌+◌, ◌<◌, ◌≤◌}
use mathlib.Core.Path.{◌≡◌, refl, ◌∙◌, ap}
use mathlib.Core.Bool.{Bool, true, false}
use mathlib.Core.List.{List}
use mathlib.Core.Logic.{⊎_elim}
use native.Mathlib.Omega.{arith}
use lib.Dec.{leb}
use lib.ListN.{get_or}
use borrow.Author.Tests.{le-leb, lt-leb, leb-true}
use Rattle.std.specs.Prelude.{if◌then◌else◌}
use Rattle.logic.specs.Listed.{listed}
use Rattle.logic.proofs.Listed.{listed_same}
use Rattle.gates.specs.Function.{is_function}
use Rattle.gates.specs.Translation.{is_translation}
use Rattle.model.specs.Network.{input, unit_delay, rank_order}
use Rattle.model.specs.Netlist.{net_field, net_size, codes, network}
use Rattle.model.specs.ModuleFile.{mod_processors, mod_slots}
use Rattle.model.specs.Checked.{Checked}
use Rattle.model.proofs.Accepted.{SignalRight}
use Rattle.model.proofs.Checked.{checked_signal}
use Rattle.buffers_tables.specs.Panel.{panel_length, codes_column, hand_column, head_bytes, signal_bytes, signal_of, column_of}
use Rattle.buffers_load_files.specs.Loaded.{place_of, placed_bytes, panel_byte, panel_with}
use Rattle.buffers_load_files.specs.Checked.{value_in}
use Rattle.buffers_load_files.proofs.Arrays.{array_at, in_array}

-- the fields of a signal of a checked NET: kind and codes are below 256
module _ (net : List ℕ) (checked : Checked net) {s : ℕ} (low : 1 ≤ s) (high : s ≤ net_size net) where
  right : SignalRight net s
  unfolding network
  right = checked_signal net checked s (record { low = low; high = high })

  pub kind_small : net_field net s 0 < 256
  kind_small =
      ⊎_elim (λ (e : net_field net s 0 ≡ input). omega arith)
      (⊎_elim (λ (e : net_field net s 0 ≡ unit_delay). omega arith) (λ (e : net_field net s 0 ≡ rank_order). omega arith)) right.kind

  function_small : net_field net s 2 < 256
  unfolding is_function
  function_small = omega (arith, leb-true (net_field net s 2) 4 right.function)

  translation_small : (k : ℕ) → k < 5 → net_field net s (3 + k) < 256
  unfolding is_translation
  translation_small k h = omega (arith, leb-true (net_field net s (3 + k)) 6 (right.translations k h))

  pub code_small : (c : ℕ) → codes_column ≤ c → c < hand_column → net_field net s (c + 1) < 256
  code_small zero l h = absurd (omega arith)
  code_small (suc zero) l h = function_small
  code_small (suc (suc zero)) l h = translation_small 0 (omega arith)
  code_small (suc (suc (suc zero))) l h = translation_small 1 (omega arith)
  code_small (suc (suc (suc (suc zero)))) l h = translation_small 2 (omega arith)
  code_small (suc (suc (suc (suc (suc zero))))) l h = translation_small 3 (omega arith)
  code_small (suc (suc (suc (suc (suc (suc zero)))))) l h = translation_small 4 (omega arith)
  code_small (suc (suc (suc (suc (suc (suc (suc c))))))) l h = absurd (omega arith)

-- the bytes of a signal
module _ (net : List ℕ) (s v p i : ℕ) where
  pub code_byte : (c : ℕ) → codes_column ≤ c → c < hand_column → net_field net s (c + 1) ≡ get_or (signal_bytes (net_field net s 0) (codes net s) v p i) c 0
  code_byte zero l h = absurd (omega arith)
  code_byte (suc zero) l h = refl
  code_byte (suc (suc zero)) l h = refl
  code_byte (suc (suc (suc zero))) l h = refl
  code_byte (suc (suc (suc (suc zero)))) l h = refl
  code_byte (suc (suc (suc (suc (suc zero))))) l h = refl
  code_byte (suc (suc (suc (suc (suc (suc zero)))))) l h = refl
  code_byte (suc (suc (suc (suc (suc (suc (suc c))))))) l h = absurd (omega arith)

-- which bytes they are
module _ (net : List ℕ) (P C : ℕ) (place hand : ℕ → ℕ) (column : ℕ) where
  pub panel_head : (s : ℕ) → s ≡ 0 → panel_byte net P C place hand s column ≡ get_or (head_bytes (net_size net) P C 0 1 0) column 0
  unfolding panel_byte
  panel_head s e = rw e

  pub panel_above : (s : ℕ) → net_size net < s → panel_byte net P C place hand s column ≡ 0
  unfolding panel_byte
  panel_above zero h = absurd (omega arith)
  panel_above (suc s) h = rw (lt-leb (suc s) (net_size net) h)

  pub panel_signal : (s : ℕ) → (s ≡ 0 → ⊥) → s ≤ net_size net
      → panel_byte net P C place hand s column ≡ get_or (placed_bytes net s (hand s) (place s) C) column 0
  unfolding panel_byte
  panel_signal zero d h = absurd (d refl)
  panel_signal (suc s) d h = rw (le-leb (suc s) (net_size net) h)

  -- the places and the values of the signals are all that is read
  pub panel_same : (place' hand' : ℕ → ℕ)
      → ((s : ℕ) → 1 ≤ s → s ≤ net_size net → place s ≡ place' s)
      → ((s : ℕ) → 1 ≤ s → s ≤ net_size net → hand s ≡ hand' s)
      → (s : ℕ) → panel_byte net P C place hand s column ≡ panel_byte net P C place' hand' s column
  unfolding panel_byte
  panel_same place' hand' p h zero = refl
  panel_same place' hand' p h (suc s) = go (leb (suc s) (net_size net)) refl
    where
      go : (b : Bool) → leb (suc s) (net_size net) ≡ b →
          (if b then get_or (placed_bytes net (suc s) (hand (suc s)) (place (suc s)) C) column 0 else 0)
          ≡ (if b then get_or (placed_bytes net (suc s) (hand' (suc s)) (place' (suc s)) C) column 0 else 0)
      go true e =
          let high = leb-true (suc s) (net_size net) e in
          ap (λ (x : ℕ). get_or (placed_bytes net (suc s) (hand (suc s)) x C) column 0) (p (suc s) (omega arith) high)
          ∙ ap (λ (x : ℕ). get_or (placed_bytes net (suc s) x (place' (suc s)) C) column 0) (h (suc s) (omega arith) high)
      go false e = refl

-- the panel filled by an array of the signals' lines
pub panel_placed : (net modfile : List ℕ) → Checked net → (P C : ℕ) (places : List ℕ) (hand : ℕ → ℕ) → P ≡ mod_processors modfile
    → C ≡ mod_slots modfile → places ≡ listed 4097 (place_of modfile)
    → (panel : List ℕ) → panel ≡ listed panel_length (λ a. panel_byte net P C (value_in places) hand (signal_of a) (column_of a))
    → panel ≡ panel_with net modfile hand
unfolding panel_with
panel_placed net modfile checked P C places hand p c e panel is =
    is
    ∙ rw (p, c)
    (listed_same panel_length _ _
    (λ a b. panel_same net (mod_processors modfile) (mod_slots modfile) (value_in places) hand (column_of a) (place_of modfile) hand
    (λ s l h. array_at (place_of modfile) places e s (in_array net checked s h)) (λ s l h. refl) (signal_of a)))
