-- The halves change places, location by location. The invariant of the loops: the locations that were passed hold the other half.
use Prim.Native.Nat.{ℕ, zero, suc, ◌+◌, ◌<◌}
use mathlib.Core.Path.{◌≡◌, refl, sym, ◌∙◌, ap}
use mathlib.Core.Bool.{Bool, true, false}
use mathlib.Core.List.{List}
use native.Mathlib.Omega.{arith}
use lib.ListN.{length, get_or, set, length-set}
use Rattle.std.specs.List.{SwappedAt}
use Rattle.model.specs.Machine.{Memory, fetch, alternate}
use Rattle.buffers_memory.specs.Memory.{memory_length, processor_parts, blank, place, memory_of, written, within, here, below, with_memory}
use Rattle.buffers_memory.proofs.Written.{Place, place_same, is_written, written_else, written_join, written_kept}
use Rattle.buffers_memory.proofs.Regions.{here_written, below_none, within_none, below_here, below_else, here_new, within_below, within_else, below_new}

-- the part whose half it changes with
other : ℕ → ℕ
other zero = 1
other (suc zero) = 0
other (suc (suc zero)) = 3
other (suc (suc (suc part))) = 2

alternated_at : (l : List ℕ) (p part k : ℕ) → part < blank → fetch (alternate (memory_of l)) p part k ≡ get_or l (place p (other part) k) 0
unfolding fetch alternate memory_of other
alternated_at l p zero k h = refl
alternated_at l p (suc zero) k h = refl
alternated_at l p (suc (suc zero)) k h = refl
alternated_at l p (suc (suc (suc zero))) k h = refl
alternated_at l p (suc (suc (suc (suc part)))) k h = absurd (omega arith)

other_low : (part : ℕ) → part < blank → other part < blank
unfolding other
other_low zero h = omega arith
other_low (suc zero) h = omega arith
other_low (suc (suc zero)) h = omega arith
other_low (suc (suc (suc part))) h = omega arith

swapped_length : (l m : List ℕ) (a b : ℕ) → SwappedAt l m a b → length m ≡ length l
swapped_length l m a b s = ap length (s.3 0) ∙ length-set (set l a (get_or l b 0)) b (get_or l a 0) ∙ length-set l a (get_or l b 0)

-- the local halves of a location change places, and then those of the switch
module _ (p k : ℕ) (low : p < 16) (small : k < 256) where
  at : (part : ℕ) → part < processor_parts → Place p part k
  at part h = record { processor_low = low; part_low = h; location_low = small }

  module _ (l m r : List ℕ) (local : SwappedAt l m (place p 0 k) (place p 1 k)) (switch : SwappedAt m r (place p 2 k) (place p 3 k)) where
    four_at : (part : ℕ) → part < blank → get_or r (place p part k) 0 ≡ get_or l (place p (other part) k) 0
    unfolding other
    four_at zero h = switch.2 (place p 0 k) 0 (λ e. omega arith) (λ e. omega arith) ∙ local.0 0
    four_at (suc zero) h = switch.2 (place p 1 k) 0 (λ e. omega arith) (λ e. omega arith) ∙ local.1 0
    four_at (suc (suc zero)) h = switch.0 0 ∙ local.2 (place p 3 k) 0 (λ e. omega arith) (λ e. omega arith)
    four_at (suc (suc (suc zero))) h = switch.1 0 ∙ local.2 (place p 2 k) 0 (λ e. omega arith) (λ e. omega arith)
    four_at (suc (suc (suc (suc part)))) h = absurd (omega arith)

    four_else : {q part j : ℕ} → Place q part j → ((q ≡ p) × (part < blank) × (j ≡ k) → ⊥) → get_or r (place q part j) 0 ≡ get_or l (place q part j) 0
    four_else {q} {part} {j} a d =
        switch.2 (place q part j) 0 (apart 2 (omega arith)) (apart 3 (omega arith)) ∙ local.2 (place q part j) 0 (apart 0 (omega arith)) (apart 1 (omega arith))
      where
        apart : (x : ℕ) → x < blank → place q part j ≡ place p x k → ⊥
        apart x h e = let same = place_same (at x (omega arith)) a e in d (same.0, omega (arith, same.1), same.2)

    four_written : length l ≡ memory_length → r ≡ written (here p k) (alternate (memory_of l)) l
    four_written size =
        here_written p k (alternate (memory_of l)) l r (swapped_length m r _ _ switch ∙ swapped_length l m _ _ local ∙ size)
        (λ part h. four_at part h ∙ sym (alternated_at l p part k h)) (λ q part j a d. four_else a d)

  -- what the swaps at the places of the four parts leave
  pub exchanged : (l m r : List ℕ) → length l ≡ memory_length → (a b c d : ℕ) → a ≡ place p 0 k → b ≡ place p 1 k → c ≡ place p 2 k → d ≡ place p 3 k
      → SwappedAt l m a b → SwappedAt m r c d → r ≡ written (here p k) (alternate (memory_of l)) l
  exchanged l m r size a b c d ea eb ec ed local switch = four_written l m r (rw (ea, eb) at local) (rw (ec, ed) at switch) size

-- one more region: in m, which holds the other halves where the first test passes, the halves change where the second does
more_alternated : (first second both : ℕ → ℕ → Bool) (old m r : List ℕ) → m ≡ written first (alternate (memory_of old)) old
    → r ≡ written second (alternate (memory_of m)) m
    → ((p k : ℕ) → second p k ≡ true → first p k ≡ false)
    → ((p k : ℕ) → second p k ≡ true → both p k ≡ true) → ((p k : ℕ) → second p k ≡ false → both p k ≡ first p k)
    → r ≡ written both (alternate (memory_of old)) old
more_alternated first second both old m r em er new inside outside =
    er ∙ ap (written second (alternate (memory_of m))) em
    ∙ written_join first second both (alternate (memory_of old)) (alternate (memory_of m)) old agree inside outside
  where
    agree : (p part k : ℕ) → Place p part k → part < blank → second p k ≡ true
        → fetch (alternate (memory_of m)) p part k ≡ fetch (alternate (memory_of old)) p part k
    agree p part k a h t =
        let l = other_low part h in
        let o : Place p (other part) k = record { processor_low = a.processor_low; part_low = omega arith; location_low = a.location_low } in
        alternated_at m p part k h ∙ ap (λ (x : List ℕ). get_or x (place p (other part) k) 0) em
        ∙ written_kept first (alternate (memory_of old)) old o (new p k t) ∙ sym (alternated_at old p part k h)

pub location_alternated : (p k : ℕ) (old m r : List ℕ) → m ≡ written (below p k) (alternate (memory_of old)) old
    → r ≡ written (here p k) (alternate (memory_of m)) m → r ≡ written (below p (k + 1)) (alternate (memory_of old)) old
location_alternated p k old m r em er =
    more_alternated (below p k) (here p k) (below p (k + 1)) old m r em er (here_new p k) (below_here p k) (below_else p k)

pub processor_alternated : (p c : ℕ) (old m r : List ℕ) → m ≡ with_memory p c (alternate (memory_of old)) old
    → r ≡ written (below p c) (alternate (memory_of m)) m → r ≡ with_memory (p + 1) c (alternate (memory_of old)) old
processor_alternated p c old m r em er =
    more_alternated (within p c) (below p c) (within (p + 1) c) old m r em er (below_new p c) (within_below p c) (within_else p c)

-- before the first
none_written : (test : ℕ → ℕ → Bool) (w : Memory) (l : List ℕ) → length l ≡ memory_length → ((p k : ℕ) → test p k ≡ false) → l ≡ written test w l
none_written test w l size none = is_written test w l l size (λ p part k a. sym (written_else test w l p part k (none p k)))

pub none_below : (p : ℕ) (w : Memory) (l : List ℕ) → length l ≡ memory_length → l ≡ written (below p 0) w l
none_below p w l size = none_written (below p 0) w l size (below_none p)

pub none_within : (c : ℕ) (w : Memory) (l : List ℕ) → length l ≡ memory_length → l ≡ with_memory 0 c w l
none_within c w l size = none_written (within 0 c) w l size (within_none c)
