-- Bytes hold a memory at the module's locations: what they hold is near to it, and a step that keeps nearness is a step of the bytes.
use Prim.Native.Nat.{ℕ, zero, suc, ◌<◌, ◌≤◌}
use mathlib.Core.Path.{◌≡◌, ◌∙◌, ap}
use mathlib.Core.List.{List}
use native.Mathlib.Omega.{arith}
use Rattle.model.specs.Module.{Module, At}
use Rattle.model.specs.Machine.{Memory, fetch}
use Rattle.model.proofs.Machine.{Near}
use Rattle.buffers_memory.specs.Memory.{blank, memory_of, within, with_memory}
use Rattle.buffers_memory.proofs.Written.{Agree, written_at_lem, written_here, written_same, written_over, fetch_bytes}
use Rattle.buffers_memory.proofs.Within.{within_true, is_within}

pub agree_near : (m : Module) (w u : Memory) → Near m w u → Agree (within m.processors m.slots) w u
unfolding fetch
agree_near m w u near p zero k a h t =
    let l = within_true m.processors m.slots p k t in near.earlier_local p k (record { processor = l.0; slot = l.1 })
agree_near m w u near p (suc zero) k a h t =
    let l = within_true m.processors m.slots p k t in near.present_local p k (record { processor = l.0; slot = l.1 })
agree_near m w u near p (suc (suc zero)) k a h t =
    let l = within_true m.processors m.slots p k t in near.earlier_switch p k (record { processor = l.0; slot = l.1 })
agree_near m w u near p (suc (suc (suc zero))) k a h t =
    let l = within_true m.processors m.slots p k t in near.present_switch p k (record { processor = l.0; slot = l.1 })
agree_near m w u near p (suc (suc (suc (suc part)))) k a h t = absurd (omega arith)

module _ (m : Module) (few : m.processors ≤ 16) (short : m.slots ≤ 256) where
  module _ (w : Memory) (old : List ℕ) where
    held_fetch : (p part k : ℕ) → At m p k → part < blank
        → fetch (memory_of (with_memory m.processors m.slots w old)) p part k ≡ fetch w p part k
    held_fetch p part k a h =
        let l = a.processor in
        let s = a.slot in
        fetch_bytes (with_memory m.processors m.slots w old) p part k h
        ∙ written_at_lem (within m.processors m.slots) w old (record { processor_low = omega arith; part_low = omega arith; location_low = omega arith })
        ∙ written_here (within m.processors m.slots) w old p part k (is_within m.processors m.slots p k l s) h

    pub with_memory_near : Near m (memory_of (with_memory m.processors m.slots w old)) w
    unfolding fetch
    with_memory_near =
        record {
          earlier_local = λ p k a. held_fetch p 0 k a (omega arith);
          present_local = λ p k a. held_fetch p 1 k a (omega arith);
          earlier_switch = λ p k a. held_fetch p 2 k a (omega arith);
          present_switch = λ p k a. held_fetch p 3 k a (omega arith);
        }

  -- a step of the machine on the bytes l, which hold w over old
  pub with_memory_step : (f : Memory → Memory) → ((w u : Memory) → Near m w u → Near m (f w) (f u)) → (w : Memory) (old l r : List ℕ)
      → l ≡ with_memory m.processors m.slots w old → r ≡ with_memory m.processors m.slots (f (memory_of l)) l
      → r ≡ with_memory m.processors m.slots (f w) old
  with_memory_step f keeps w old l r el er =
      er ∙ ap (λ (x : List ℕ). with_memory m.processors m.slots (f (memory_of x)) x) el
      ∙ written_over (within m.processors m.slots) w (f (memory_of (with_memory m.processors m.slots w old))) old
      ∙ written_same (within m.processors m.slots) (f (memory_of (with_memory m.processors m.slots w old))) (f w) old
      (agree_near m (f (memory_of (with_memory m.processors m.slots w old))) (f w) (keeps (memory_of (with_memory m.processors m.slots w old)) w (with_memory_near w old)))
