-- A slot's stores, processor by processor, are the model's slot. The invariant: location i of the processors passed holds what they
-- stored.
use Prim.Native.Nat.{ℕ, zero, suc, ◌+◌, ◌<◌}
use mathlib.Core.Path.{◌≡◌, refl, sym, ◌∙◌, ap}
use mathlib.Core.Bool.{Bool, true, false, not, false≢true}
use mathlib.Core.Logic.{◌⊎◌, inl, inr}
use mathlib.Core.List.{List}
use native.Mathlib.Omega.{arith}
use lib.Dec.{eqb, ltb}
use lib.ListN.{length, get_or, length-set}
use borrow.Author.Tests.{eqb-true, eq-eqb, ne_eqb, ltb-true, ltb-false, lt-ltb, le-ltb}
use Rattle.logic.specs.Test.{◌and◌}
use Rattle.std.specs.Prelude.{if◌then◌else◌}
use Rattle.model.specs.Network.{Network}
use Rattle.model.specs.Module.{Module, Laid, local_present, switch_present, no_sender, received}
use Rattle.model.specs.Machine.{Memory, fetch, result, sent, stored, slot}
use Rattle.buffers_memory.specs.Memory.{memory_length, processor_parts, blank, place, memory_of, written_at, written, within, here, with_memory}
use Rattle.buffers_memory.proofs.Written.{Place, is_written, written_length, written_at_lem, written_here, written_else, written_blank, fetch_bytes, stored_there, stored_else, Agree, written_join, written_kept, written_same}
use Rattle.buffers_memory.proofs.Regions.{here_is, here_test, here_written}
use Rattle.buffers_memory.proofs.Within.{within_true, is_within}
use Rattle.machine_slot.specs.Storing.{evaluated, storing, stored_if, passed, FirstAre}

-- a byte after a store that is made or not
module _ (b : Bool) (l : List ℕ) (size : length l ≡ memory_length) {p part k : ℕ} (a : Place p part k) (v : ℕ) where
  kept_size : length (stored_if b l (place p part k) v) ≡ memory_length
  kept_size = go b
    where
      go : (t : Bool) → length (stored_if t l (place p part k) v) ≡ memory_length
      go true = length-set l (place p part k) v ∙ size
      go false = size

  kept_there : get_or (stored_if b l (place p part k) v) (place p part k) 0 ≡ (if b then v else get_or l (place p part k) 0)
  kept_there = go b
    where
      go : (t : Bool) → get_or (stored_if t l (place p part k) v) (place p part k) 0 ≡ (if t then v else get_or l (place p part k) 0)
      go true = stored_there l size a v
      go false = refl

  kept_else : {q x j : ℕ} → Place q x j → ((q ≡ p) × (x ≡ part) × (j ≡ k) → ⊥)
      → get_or (stored_if b l (place p part k) v) (place q x j) 0 ≡ get_or l (place q x j) 0
  kept_else {q} {x} {j} c d = go b
    where
      go : (t : Bool) → get_or (stored_if t l (place p part k) v) (place q x j) 0 ≡ get_or l (place q x j) 0
      go true = stored_else l size a v c d
      go false = refl

-- what `storing` keeps, and what it stores at location i
module _ (m : Module) (i : ℕ) (results sents : List ℕ) (w : Memory) (p k : ℕ) where
  storing_else : (part : ℕ) → part < blank → (k ≡ i → ⊥) → fetch (storing m i results sents w) p part k ≡ fetch w p part k
  unfolding fetch storing stored
  storing_else zero h d = refl
  storing_else (suc zero) h d = rw (ne_eqb k i d)
  storing_else (suc (suc zero)) h d = refl
  storing_else (suc (suc (suc zero))) h d = rw (ne_eqb k i d)
  storing_else (suc (suc (suc (suc part)))) h d = absurd (omega arith)

storing_same : (m : Module) (i : ℕ) (results sents l old : List ℕ) (p k part : ℕ) → part < blank
    → get_or l (place p part k) 0 ≡ get_or old (place p part k) 0
    → fetch (storing m i results sents (memory_of l)) p part k ≡ fetch (storing m i results sents (memory_of old)) p part k
unfolding fetch storing memory_of
storing_same m i results sents l old p k zero h e = e
storing_same m i results sents l old p k (suc zero) h e = ap (stored k i (not (eqb (m.signal p i) 0)) (get_or results p 0)) e
storing_same m i results sents l old p k (suc (suc zero)) h e = e
storing_same m i results sents l old p k (suc (suc (suc zero))) h e = ap (stored k i (received m p i) (get_or sents (m.sender p i) 0)) e
storing_same m i results sents l old p k (suc (suc (suc (suc part)))) h e = absurd (omega arith)

evaluated_some : (n : Network) (m : Module) (row : ℕ → ℕ) (w : Memory) (p i : ℕ) → eqb (m.signal p i) 0 ≡ false
    → evaluated n m row w p i ≡ result n m row w p i
unfolding evaluated
evaluated_some n m row w p i e = rw e

-- the two stores of processor p
module _ (m : Module) (i : ℕ) (results sents l : List ℕ) (size : length l ≡ memory_length) (p : ℕ) (low : p < 16) (small : i < 256) where
  at : (part : ℕ) → part < processor_parts → Place p part i
  at part h = record { processor_low = low; part_low = h; location_low = small }

  abbrev once : List ℕ
  once = stored_if (not (eqb (m.signal p i) 0)) l (place p local_present i) (get_or results p 0)

  abbrev twice : List ℕ
  twice = stored_if (received m p i) once (place p switch_present i) (get_or sents (m.sender p i) 0)

  once_size : length once ≡ memory_length
  once_size = kept_size (not (eqb (m.signal p i) 0)) l size (at local_present (omega arith)) (get_or results p 0)

  twice_size : length twice ≡ memory_length
  twice_size = kept_size (received m p i) once once_size (at switch_present (omega arith)) (get_or sents (m.sender p i) 0)

  twice_else : {q x j : ℕ} → Place q x j → ((q ≡ p) × (x ≡ local_present) × (j ≡ i) → ⊥) → ((q ≡ p) × (x ≡ switch_present) × (j ≡ i) → ⊥)
      → get_or twice (place q x j) 0 ≡ get_or l (place q x j) 0
  twice_else a d e =
      kept_else (received m p i) once once_size (at switch_present (omega arith)) (get_or sents (m.sender p i) 0) a e
      ∙ kept_else (not (eqb (m.signal p i) 0)) l size (at local_present (omega arith)) (get_or results p 0) a d

  apart : (x y : ℕ) → (x < y) ⊎ (y < x) → x ≡ y → ⊥
  apart x y (inl h) e = omega arith
  apart x y (inr h) e = omega arith

  -- at location i of processor p: what `storing` gives
  twice_at : (part : ℕ) → part < blank → get_or twice (place p part i) 0 ≡ fetch (storing m i results sents (memory_of l)) p part i
  unfolding fetch storing stored memory_of
  twice_at zero h =
      twice_else (at 0 (omega arith)) (λ e. apart 0 1 (inl (omega arith)) e.1) (λ e. apart 0 3 (inl (omega arith)) e.1)
  twice_at (suc zero) h =
      kept_else (received m p i) once once_size (at switch_present (omega arith)) (get_or sents (m.sender p i) 0) (at 1 (omega arith))
      (λ e. apart 1 3 (inl (omega arith)) e.1)
      ∙ kept_there (not (eqb (m.signal p i) 0)) l size (at local_present (omega arith)) (get_or results p 0)
      ∙ sym (rw (eq-eqb i i refl))
  twice_at (suc (suc zero)) h =
      twice_else (at 2 (omega arith)) (λ e. apart 2 1 (inr (omega arith)) e.1) (λ e. apart 2 3 (inl (omega arith)) e.1)
  twice_at (suc (suc (suc zero))) h =
      kept_there (received m p i) once once_size (at switch_present (omega arith)) (get_or sents (m.sender p i) 0)
      ∙ ap (λ (old : ℕ). if received m p i then get_or sents (m.sender p i) 0 else old)
      (kept_else (not (eqb (m.signal p i) 0)) l size (at local_present (omega arith)) (get_or results p 0) (at 3 (omega arith))
      (λ e. apart 3 1 (inr (omega arith)) e.1))
      ∙ sym (rw (eq-eqb i i refl))
  twice_at (suc (suc (suc (suc part)))) h = absurd (omega arith)

  stored_twice : twice ≡ written (here p i) (storing m i results sents (memory_of l)) l
  stored_twice =
      here_written p i (storing m i results sents (memory_of l)) l twice twice_size twice_at
      (λ q part j a d. twice_else a (λ f. d (f.0, omega (arith, f.1), f.2)) (λ f. d (f.0, omega (arith, f.1), f.2)))

  pub both_stored : (first r : List ℕ) → first ≡ stored_if (not (eqb (m.signal p i) 0)) l (place p local_present i) (get_or results p 0)
      → r ≡ stored_if (not (eqb (m.sender p i) no_sender)) first (place p switch_present i) (get_or sents (m.sender p i) 0)
      → r ≡ written (here p i) (storing m i results sents (memory_of l)) l
  both_stored first r e f =
      f ∙ ap (λ (x : List ℕ). stored_if (received m p i) x (place p switch_present i) (get_or sents (m.sender p i) 0)) e ∙ stored_twice

-- the processors passed
module _ (p i q x : ℕ) where
  passed_here : here p i q x ≡ true → passed (p + 1) i q x ≡ true
  unfolding passed ◌and◌
  passed_here t = let e = here_is p i q x t in rw (lt-ltb q (p + 1) (omega (arith, e.0))) (eq-eqb x i e.1)

  passed_else : here p i q x ≡ false → passed (p + 1) i q x ≡ passed p i q x
  unfolding passed here ◌and◌
  passed_else t = go (eqb x i) refl
    where
      go : (b : Bool) → eqb x i ≡ b → (ltb q (p + 1) and eqb x i) ≡ (ltb q p and eqb x i)
      go true e =
          let d : (q ≡ p → ⊥) = λ (s : q ≡ p). false≢true (sym t ∙ here_test p i q x s (eqb-true x i e)) in
          ap (λ (y : Bool). y and eqb x i) (more d (ltb q p) refl)
        where
          more : (q ≡ p → ⊥) → (b : Bool) → ltb q p ≡ b → ltb q (p + 1) ≡ ltb q p
          more d true r = let h = ltb-true q p r in lt-ltb q (p + 1) (omega arith) ∙ sym r
          more d false r = let h = ltb-false q p r in le-ltb q (p + 1) (omega arith) ∙ sym r
      go false e = rw e (nothing (ltb q (p + 1)) ∙ sym (nothing (ltb q p)))
        where
          nothing : (y : Bool) → (y and false) ≡ false
          nothing true = refl
          nothing false = refl

  passed_new : here p i q x ≡ true → passed p i q x ≡ false
  unfolding passed ◌and◌
  passed_new t = let e = here_is p i q x t in rw (le-ltb q p (omega (arith, e.0)))

pub none_passed : (i : ℕ) (w : Memory) (l : List ℕ) → length l ≡ memory_length → l ≡ written (passed 0 i) w l
unfolding passed ◌and◌
none_passed i w l size =
    is_written (passed 0 i) w l l size (λ p part k a. sym (written_else (passed 0 i) w l p part k (rw (le-ltb p 0 (omega arith)))))

-- one more processor
pub processor_stored : (m : Module) (i : ℕ) (results sents old l r : List ℕ) (p : ℕ)
    → l ≡ written (passed p i) (storing m i results sents (memory_of old)) old
    → r ≡ written (here p i) (storing m i results sents (memory_of l)) l
    → r ≡ written (passed (p + 1) i) (storing m i results sents (memory_of old)) old
processor_stored m i results sents old l r p el er =
    er ∙ ap (written (here p i) (storing m i results sents (memory_of l))) el
    ∙ written_join (passed p i) (here p i) (passed (p + 1) i) (storing m i results sents (memory_of old)) (storing m i results sents (memory_of l)) old agree
    (passed_here p i) (passed_else p i)
  where
    same : (q part k : ℕ) → Place q part k → here p i q k ≡ true → get_or l (place q part k) 0 ≡ get_or old (place q part k) 0
    same q part k a t =
        ap (λ (x : List ℕ). get_or x (place q part k) 0) el ∙ written_kept (passed p i) (storing m i results sents (memory_of old)) old a (passed_new p i q k t)

    agree : Agree (here p i) (storing m i results sents (memory_of l)) (storing m i results sents (memory_of old))
    agree q part k a h t = storing_same m i results sents l old q k part h (same q part k a t)

-- location i of the processors, or all of the module's locations
module _ (m : Module) (i : ℕ) (small : i < m.slots) (p part k : ℕ) where
  passed_is : passed m.processors i p k ≡ true → (p < m.processors) × (k ≡ i)
  unfolding passed ◌and◌
  passed_is t = go (ltb p m.processors) refl t
    where
      go : (b : Bool) → ltb p m.processors ≡ b → (b and eqb k i) ≡ true → (p < m.processors) × (k ≡ i)
      go true e r = (ltb-true p m.processors e, eqb-true k i r)
      go false e r = absurd (false≢true r)

  passed_test : p < m.processors → k ≡ i → passed m.processors i p k ≡ true
  unfolding passed ◌and◌
  passed_test h e = rw (lt-ltb p m.processors h) (eq-eqb k i e)

  written_wider : (w : Memory) (l : List ℕ) → passed m.processors i p k ≡ true
      → written_at (passed m.processors i) w l p part k ≡ written_at (within m.processors m.slots) w l p part k
  unfolding written_at
  written_wider w l t =
      let e = passed_is t in
      rw (t, is_within m.processors m.slots p k e.0 (omega (arith, e.1)))

  written_narrow : (results sents l : List ℕ) → Place p part k → passed m.processors i p k ≡ false
      → written_at (passed m.processors i) (storing m i results sents (memory_of l)) l p part k
      ≡ written_at (within m.processors m.slots) (storing m i results sents (memory_of l)) l p part k
  written_narrow results sents l a t = written_else (passed m.processors i) W l p part k t ∙ sym (go (within m.processors m.slots p k) refl)
    where
      W : Memory
      W = storing m i results sents (memory_of l)

      inside : within m.processors m.slots p k ≡ true → (b : Bool) → ltb part blank ≡ b
          → written_at (within m.processors m.slots) W l p part k ≡ get_or l (place p part k) 0
      inside e true b =
          let h = ltb-true part blank b in
          written_here (within m.processors m.slots) W l p part k e h
          ∙ storing_else m i results sents (memory_of l) p k part h
          (λ q. false≢true (sym t ∙ passed_test (within_true m.processors m.slots p k e).0 q))
          ∙ fetch_bytes l p part k h
      inside e false b =
          let h = ltb-false part blank b in
          written_blank (within m.processors m.slots) W l p part k h

      go : (b : Bool) → within m.processors m.slots p k ≡ b
          → written_at (within m.processors m.slots) W l p part k ≡ get_or l (place p part k) 0
      go true e = inside e (ltb part blank) refl
      go false e = written_else (within m.processors m.slots) W l p part k e

-- all processors: the model's slot
module _ (n : Network) (m : Module) (laid : Laid n m) (row : ℕ → ℕ) (i : ℕ) (small : i < m.slots) (results sents l : List ℕ)
    (are : FirstAre m.processors (λ p. evaluated n m row (memory_of l) p i) results)
    (sends : FirstAre m.processors (λ p. sent m (memory_of l) p i) sents) where
  abbrev W : Memory
  W = storing m i results sents (memory_of l)

  stored_same : (k : ℕ) (b : Bool) (x y old : ℕ) → (b ≡ true → x ≡ y) → stored k i b x old ≡ stored k i b y old
  unfolding stored
  stored_same k true x y old h = rw (h refl)
  stored_same k false x y old h = refl

  slot_agree : Agree (within m.processors m.slots) W (slot n m row i (memory_of l))
  unfolding fetch storing slot
  slot_agree p zero k a h t = refl
  slot_agree p (suc zero) k a h t =
      stored_same k (not (eqb (m.signal p i) 0)) (get_or results p 0) (result n m row (memory_of l) p i) ((memory_of l).present_local p k)
      (λ e. are p (within_true m.processors m.slots p k t).0 ∙ some (eqb (m.signal p i) 0) refl e)
    where
      some : (b : Bool) → eqb (m.signal p i) 0 ≡ b → not b ≡ true → evaluated n m row (memory_of l) p i ≡ result n m row (memory_of l) p i
      some true q r = absurd (false≢true r)
      some false q r = evaluated_some n m row (memory_of l) p i q
  slot_agree p (suc (suc zero)) k a h t = refl
  slot_agree p (suc (suc (suc zero))) k a h t =
      stored_same k (received m p i) (get_or sents (m.sender p i) 0) (sent m (memory_of l) (m.sender p i) i) ((memory_of l).present_switch p k)
      (λ e. sends (m.sender p i) (sender_low e (laid.senders p i (record { processor = (within_true m.processors m.slots p k t).0; slot = small }))))
    where
      sender_low : received m p i ≡ true → (m.sender p i < m.processors) ⊎ (m.sender p i ≡ no_sender) → m.sender p i < m.processors
      sender_low e (inl h) = h
      sender_low e (inr q) = absurd (false≢true (sym (ap not (eq-eqb (m.sender p i) no_sender q)) ∙ e))
  slot_agree p (suc (suc (suc (suc part)))) k a h t = absurd (omega arith)

  pub slot_finished : (r : List ℕ) → r ≡ written (passed m.processors i) W l → r ≡ with_memory m.processors m.slots (slot n m row i (memory_of l)) l
  slot_finished r e = e ∙ widened ∙ written_same (within m.processors m.slots) W (slot n m row i (memory_of l)) l slot_agree
    where
      inside : (p part k : ℕ) → Place p part k → (b : Bool) → passed m.processors i p k ≡ b
          → written_at (passed m.processors i) W l p part k ≡ written_at (within m.processors m.slots) W l p part k
      inside p part k a true t = written_wider m i small p part k W l t
      inside p part k a false t = written_narrow m i small p part k results sents l a t

      widened : written (passed m.processors i) W l ≡ written (within m.processors m.slots) W l
      widened =
          is_written (within m.processors m.slots) W l (written (passed m.processors i) W l) (written_length (passed m.processors i) W l)
          (λ p part k a. written_at_lem (passed m.processors i) W l a ∙ inside p part k a (passed m.processors i p k) refl)
