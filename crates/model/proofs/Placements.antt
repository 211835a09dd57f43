-- Refusal 22 leaves exactly the signals with one place: `placements` is 1 exactly when there is a place and no other.
use Prim.Native.Nat.{ℕ}
use mathlib.Core.Path.{◌≡◌, ap}
use native.Mathlib.Omega.{arith}
use native.Mathlib.Decide.{ℕ_discrete}
use lib.Dec.{eqb}
use borrow.Author.Tests.{eqb-true, eq-eqb, ne_eqb}
use Rattle.logic.specs.Test.{one, total}
use Rattle.logic.proofs.Totals.{Only, one_true, total_zero, zero_total, total_one, one_total}
use Rattle.model.specs.Module.{Module, At, placements}
use Rattle.model.proofs.Conditions.{Placed}

not_both : {x : ℕ} → x ≡ 0 → x ≡ 1 → ⊥
not_both z o = omega arith

module _ (m : Module) (s : ℕ) where
  -- whether s is placed at p and i, as a number, and how often it is placed on p
  here : ℕ → ℕ → ℕ
  here p i = one (eqb (m.signal p i) s)

  row : ℕ → ℕ
  row p = total m.slots (here p)

  here_one : (p i : ℕ) → m.signal p i ≡ s → here p i ≡ 1
  unfolding here
  here_one p i e = ap one (eq-eqb (m.signal p i) s e)

  here_zero : (p i : ℕ) → (m.signal p i ≡ s → ⊥) → here p i ≡ 0
  unfolding here
  here_zero p i d = ap one (ne_eqb (m.signal p i) s d)

  one_here : (p i : ℕ) → here p i ≡ 1 → m.signal p i ≡ s
  unfolding here
  one_here p i e = eqb-true (m.signal p i) s (one_true (eqb (m.signal p i) s) e)

  pub placed_once : placements m s ≡ 1 → Placed m s
  unfolding placements row here
  placed_once t =
      let a = total_one row m.processors t in
      let b = total_one (here a.at) m.slots a.is in
      record {
        processor = a.at;
        slot = b.at;
        at = record { processor = a.below; slot = b.below };
        is = one_here a.at b.at b.is;
        only = λ p i h e. same a b p i h (here_one p i e);
      }
    where
      same : (a : Only m.processors row) (b : Only m.slots (here a.at)) (p i : ℕ) → At m p i → here p i ≡ 1
          → (p ≡ a.at) × (i ≡ b.at)
      same a b p i h o = go (ℕ_discrete p a.at) (ℕ_discrete i b.at)
        where
          go : Dec (p ≡ a.at) → Dec (i ≡ b.at) → (p ≡ a.at) × (i ≡ b.at)
          go (yes e) (yes q) = (e, q)
          go (yes e) (no d) = absurd (not_both (b.rest i h.slot d) (rw e at o))
          go (no d) c = absurd (not_both (total_zero (here p) m.slots (a.rest p h.processor d) i h.slot) o)

  pub once_placed : Placed m s → placements m s ≡ 1
  unfolding placements row here
  once_placed x =
      one_total row m.processors
      (record {
        at = x.processor;
        below = x.at.processor;
        is = in_row;
        rest = λ p h d.
            zero_total (here p) m.slots (λ i l. elsewhere p i (record { processor = h; slot = l }) (λ same. d same.0));
      })
    where
      elsewhere : (p i : ℕ) → At m p i → ((p ≡ x.processor) × (i ≡ x.slot) → ⊥) → here p i ≡ 0
      elsewhere p i a d = here_zero p i (λ e. d (x.only p i a e))

      in_row : row x.processor ≡ 1
      in_row =
          one_total (here x.processor) m.slots
          (record {
            at = x.slot;
            below = x.at.slot;
            is = here_one x.processor x.slot x.is;
            rest = λ i h d.
                elsewhere x.processor i (record { processor = x.at.processor; slot = h }) (λ same. d same.1);
          })
