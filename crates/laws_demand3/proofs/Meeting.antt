-- The machine in buffers that hold the files' network and module keeps step with the files' own machine: the two differ only in where they
-- read the network and the module from, and do the same with a call.
use Prim.Native.Nat.{ℕ}
use mathlib.Core.Path.{◌≡◌, sym, ◌∙◌, ap}
use mathlib.Core.List.{List}
use Rattle.model.specs.Network.{Network, Signal}
use Rattle.model.specs.Module.{Module, At}
use Rattle.model.specs.Machine.{Memory}
use Rattle.model.specs.Session.{Engine, lockstep, Head, Call}
use Rattle.model.proofs.Conditions.{Scheduled}
use Rattle.model.proofs.Machine.{Near, near_refl, cycle_rows}
use Rattle.model.proofs.Session.{KeepStep, SameOutcome}
use Rattle.buffers_tables.specs.Panel.{processor_in, slot_in}
use Rattle.buffers_tables.specs.Tables.{network_in, module_in}
use Rattle.buffers_tables.specs.Holding.{Holding}
use Rattle.buffers_lengths.specs.Lengths.{fixed}
use Rattle.laws_values.proofs.Same.{near_trans, cycle_same}
use Rattle.laws_engine.proofs.Networks.{command, commands_alike}

module _ {f : Network} {g : Module} (ok : Scheduled f g) (processor slot : ℕ → ℕ)
    (placed : (s : ℕ) → Signal f s → At g (processor s) (slot s) × (g.signal (processor s) (slot s) ≡ s)) (panel program : List ℕ)
    (holding : Holding f g panel program) where
  abbrev pub in_tables : Engine
  in_tables = lockstep (network_in panel program) (module_in panel program) (processor_in panel) (slot_in panel)

  -- there is one place of a signal
  pub place_same : (s : ℕ) → Signal f s → (processor_in panel s ≡ processor s) × (slot_in panel s ≡ slot s)
  place_same s a =
      let there = holding.places s a in
      let one = (ok.places s a).only (processor_in panel s) (slot_in panel s) there.at there.is in
      let two = (ok.places s a).only (processor s) (slot s) (placed s a).0 (placed s a).1 in
      (one.0 ∙ sym two.0, one.1 ∙ sym two.1)

  abbrev pub tables_step : KeepStep f in_tables (lockstep f g processor slot)
  tables_step =
      record {
        R = Near g;
        step = λ row hand same w u near.
            near_trans (cycle_same (network_in panel program) holding.lines ok.laid holding.signals.kinds holding.signals.gates row near)
            (cycle_rows ok.laid row hand same near_refl);
        same = λ w u near s a.
            let there = holding.places s a in
            let e = place_same s a in
            near.earlier_local (processor_in panel s) (slot_in panel s) there.at
            ∙ ap (λ (p : ℕ). u.earlier_local p (slot_in panel s)) e.0 ∙ ap (λ (k : ℕ). u.earlier_local (processor s) k) e.1;
      }

  pub tables_alike : (h : Head) (w : Memory) (c : Call) → Signal f h.watch.signal
      → SameOutcome fixed f in_tables (lockstep f g processor slot) tables_step (command fixed (network_in panel program) in_tables h w c)
      (command fixed f (lockstep f g processor slot) h w c)
  tables_alike h w c watching =
      commands_alike fixed (network_in panel program) f holding.signals.size holding.signals.kinds in_tables (lockstep f g processor slot) tables_step h w w c near_refl watching
