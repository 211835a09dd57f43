-- Panels with the same fixed numbers hold one network and one module.
use Prim.Native.Nat.{ℕ, ◌≤◌}
use mathlib.Core.Path.{◌≡◌, sym, subst, ◌∙◌, ap}
use mathlib.Core.List.{List}
use native.Mathlib.Omega.{arith}
use Rattle.gates.specs.Gate.{gate}
use Rattle.model.specs.Network.{Network, Signal}
use Rattle.model.specs.Module.{Module}
use Rattle.buffers_tables.specs.Panel.{signals_in}
use Rattle.buffers_tables.specs.Tables.{network_in}
use Rattle.buffers_tables.specs.Holding.{SameFixed, SameLines, SameGates, Holding}
use Rattle.buffers_tables.proofs.Stores.{fixed_kind, fixed_codes, fixed_processor, fixed_slot, fixed_module}

-- a signal of the network that the tables hold is one of 4096
pub signal_high : (panel program : List ℕ) (n : Network) (s : ℕ) → signals_in panel ≤ 4096 → SameGates (network_in panel program) n → Signal n s
    → s ≤ 4096
unfolding network_in
signal_high panel program n s high same g = let e = same.size in let l = g.high in omega arith

module _ (new old program : List ℕ) (same : SameFixed new old) where
  pub same_size : (network_in new program).size ≡ (network_in old program).size
  unfolding network_in
  same_size = same.signals

  module _ (s : ℕ) (low : 1 ≤ s) (high : s ≤ 4096) where
    same_kind : (network_in new program).kind s ≡ (network_in old program).kind s
    unfolding network_in
    same_kind = fixed_kind new old same s low high

    same_gate : (network_in new program).gate s ≡ (network_in old program).gate s
    unfolding network_in
    same_gate = ap gate (fixed_codes new old same s low high)

  -- what the one holds the other does
  pub same_holding : {n : Network} {m : Module} → signals_in old ≤ 4096 → Holding n m old program → Holding n m new program
  same_holding {n} {m} few holding =
      record {
        lines = subst (λ (x : Module). SameLines x m) (sym (fixed_module new old same program)) holding.lines;
        signals =
            record {
              size = same_size ∙ holding.signals.size;
              kinds = λ s g. same_kind s g.low (high s g) ∙ holding.signals.kinds s g;
              gates = λ s g. same_gate s g.low (high s g) ∙ holding.signals.gates s g;
            };
        places = λ s g.
            record {
              at = rw (fixed_processor new old same s g.low (high s g), fixed_slot new old same s g.low (high s g)) (holding.places s g).at;
              is = rw (fixed_processor new old same s g.low (high s g), fixed_slot new old same s g.low (high s g)) (holding.places s g).is;
            };
      }
    where
      high : (s : ℕ) → Signal n s → s ≤ 4096
      high s g = signal_high old program n s few holding.signals g
