-- How the regions of the memory that loops write grow: location by location, processor by processor.
use Prim.Native.Nat.{ℕ, ◌+◌, ◌<◌}
use mathlib.Core.Path.{◌≡◌, refl, sym, ◌∙◌, ap}
use mathlib.Core.Bool.{Bool, true, false, false≢true}
use mathlib.Core.List.{List}
use native.Mathlib.Omega.{arith}
use lib.Dec.{eqb, ltb}
use lib.ListN.{length, get_or}
use borrow.Author.Tests.{eqb-true, eqb-false, ltb-true, ltb-false, lt-ltb, le-ltb, eq-eqb}
use Rattle.logic.specs.Test.{◌and◌}
use Rattle.model.specs.Machine.{Memory, fetch}
use Rattle.buffers_memory.specs.Memory.{memory_length, blank, place, written_at, written, within, here, below}
use Rattle.buffers_memory.proofs.Written.{Place, is_written, written_here, written_else, written_blank}

-- below one more
ltb_more : (x k : ℕ) → (eqb x k ≡ true → ltb x (k + 1) ≡ true) × (eqb x k ≡ false → ltb x (k + 1) ≡ ltb x k)
ltb_more x k = (
  λ e. let q = eqb-true x k e in lt-ltb x (k + 1) (omega arith),
  λ e. let d = eqb-false x k e in go d (ltb x k) refl,
)
  where
    go : (x ≡ k → ⊥) → (b : Bool) → ltb x k ≡ b → ltb x (k + 1) ≡ b
    go d true e = let l = ltb-true x k e in lt-ltb x (k + 1) (omega arith)
    go d false e = let l = ltb-false x k e in le-ltb x (k + 1) (omega arith)

pub here_is : (p k q x : ℕ) → here p k q x ≡ true → (q ≡ p) × (x ≡ k)
unfolding here ◌and◌
here_is p k q x t = go (eqb q p) refl t
  where
    go : (b : Bool) → eqb q p ≡ b → (b and eqb x k) ≡ true → (q ≡ p) × (x ≡ k)
    go true e r = (eqb-true q p e, eqb-true x k r)
    go false e r = absurd (false≢true r)

pub here_test : (p k q x : ℕ) → q ≡ p → x ≡ k → here p k q x ≡ true
unfolding here ◌and◌
here_test p k q x e f = rw (eq-eqb q p e) (eq-eqb x k f)

-- a list that differs from l at location k of processor p alone, where it holds w
pub here_written : (p k : ℕ) (w : Memory) (l r : List ℕ) → length r ≡ memory_length
    → ((part : ℕ) → part < blank → get_or r (place p part k) 0 ≡ fetch w p part k)
    → ((q part j : ℕ) → Place q part j → ((q ≡ p) × (part < blank) × (j ≡ k) → ⊥) → get_or r (place q part j) 0 ≡ get_or l (place q part j) 0)
    → r ≡ written (here p k) w l
here_written p k w l r size there rest =
    is_written (here p k) w l r size (λ q part j a. go q part j a (here p k q j) refl)
  where
    inside : (q part j : ℕ) → Place q part j → (q ≡ p) × (j ≡ k) → here p k q j ≡ true → (b : Bool) → ltb part blank ≡ b
        → get_or r (place q part j) 0 ≡ written_at (here p k) w l q part j
    inside q part j a e t true b =
        let h = ltb-true part blank b in
        ap (λ (y : ℕ). get_or r (place y part j) 0) e.0 ∙ ap (λ (y : ℕ). get_or r (place p part y) 0) e.1
        ∙ there part h
        ∙ sym (ap (λ (y : ℕ). fetch w y part j) e.0 ∙ ap (λ (y : ℕ). fetch w p part y) e.1)
        ∙ sym (written_here (here p k) w l q part j t h)
    inside q part j a e t false b =
        let h = ltb-false part blank b in
        rest q part j a (λ f. omega (arith, f.1)) ∙ sym (written_blank (here p k) w l q part j h)

    go : (q part j : ℕ) → Place q part j → (b : Bool) → here p k q j ≡ b → get_or r (place q part j) 0 ≡ written_at (here p k) w l q part j
    go q part j a true t = inside q part j a (here_is p k q j t) t (ltb part blank) refl
    go q part j a false t =
        rest q part j a (λ f. false≢true (sym t ∙ here_test p k q j f.0 f.2)) ∙ sym (written_else (here p k) w l q part j t)

pub below_none : (p q x : ℕ) → below p 0 q x ≡ false
unfolding below ◌and◌
below_none p q x = go (eqb q p)
  where
    go : (b : Bool) → (b and ltb x 0) ≡ false
    go true = le-ltb x 0 (omega arith)
    go false = refl

pub within_none : (c q x : ℕ) → within 0 c q x ≡ false
unfolding within ◌and◌
within_none c q x = rw (le-ltb q 0 (omega arith))

-- the locations of a processor below k, and k
module _ (p k q x : ℕ) where
  pub below_here : here p k q x ≡ true → below p (k + 1) q x ≡ true
  unfolding here below ◌and◌
  below_here t = go (eqb q p) t
    where
      go : (b : Bool) → (b and eqb x k) ≡ true → (b and ltb x (k + 1)) ≡ true
      go true r = (ltb_more x k).0 r
      go false r = r

  pub below_else : here p k q x ≡ false → below p (k + 1) q x ≡ below p k q x
  unfolding here below ◌and◌
  below_else t = go (eqb q p) t
    where
      go : (b : Bool) → (b and eqb x k) ≡ false → (b and ltb x (k + 1)) ≡ (b and ltb x k)
      go true r = (ltb_more x k).1 r
      go false r = refl

  pub here_new : here p k q x ≡ true → below p k q x ≡ false
  unfolding below ◌and◌
  here_new t = let e = here_is p k q x t in rw (eq-eqb q p e.0) (le-ltb x k (omega (arith, e.1)))

-- the processors below p, and p
module _ (p c q x : ℕ) where
  pub within_below : below p c q x ≡ true → within (p + 1) c q x ≡ true
  unfolding within below ◌and◌
  within_below t = go (eqb q p) refl t
    where
      go : (b : Bool) → eqb q p ≡ b → (b and ltb x c) ≡ true → (ltb q (p + 1) and ltb x c) ≡ true
      go true e r = rw ((ltb_more q p).0 e) r
      go false e r = absurd (false≢true r)

  pub within_else : below p c q x ≡ false → within (p + 1) c q x ≡ within p c q x
  unfolding within below ◌and◌
  within_else t = go (eqb q p) refl t
    where
      go : (b : Bool) → eqb q p ≡ b → (b and ltb x c) ≡ false → (ltb q (p + 1) and ltb x c) ≡ (ltb q p and ltb x c)
      go true e r = let i = eqb-true q p e in rw ((ltb_more q p).0 e, le-ltb q p (omega arith)) r
      go false e r = rw ((ltb_more q p).1 e)

  pub below_new : below p c q x ≡ true → within p c q x ≡ false
  unfolding within below ◌and◌
  below_new t = go (eqb q p) refl t
    where
      go : (b : Bool) → eqb q p ≡ b → (b and ltb x c) ≡ true → (ltb q p and ltb x c) ≡ false
      go true e r = let i = eqb-true q p e in rw (le-ltb q p (omega arith))
      go false e r = absurd (false≢true r)
