-- A run finishes exactly the cycles that 01 gives it: "A run stops after the first cycle whose end shows a watched value, else after k.
-- It answers the cycles done and whether it stopped; stopped is true exactly if its last cycle done shows a watched value. Run 0 does
-- none and isn't stopped."
use Prim.Native.Nat.{ℕ, zero, suc, ◌<◌, ◌≤◌}
use mathlib.Core.Path.{◌≡◌, refl, sym, ◌∙◌, ap}
use mathlib.Core.Bool.{Bool, true, false, false≢true}
use native.Mathlib.Omega.{arith}
use Rattle.model.specs.Session.{Run, unless_stopped, runs, ticks}

module _ {S : Type 0} (tick : S → S) (stops : S → Bool) where
  -- state: what that number of cycles leaves. most: no more than k. before: no cycle before the last one shows a watched value.
  -- last: if it was stopped, the last cycle shows one. whole: if not, all k cycles were done and the last shows none.
  pub record Exact (k : ℕ) (s : S) (r : Run S) : Type 0 where
    pub state : r.state ≡ ticks tick r.count s
    pub most : r.count ≤ k
    pub before : (j : ℕ) → 1 ≤ j → j < r.count → stops (ticks tick j s) ≡ false
    pub last : r.stopped ≡ true → (1 ≤ r.count) × (stops r.state ≡ true)
    pub whole : r.stopped ≡ false → (r.count ≡ k) × (1 ≤ k → stops r.state ≡ false)

  one_more : (k : ℕ) (s : S) (b : Bool) (r : Run S) → stops (tick s) ≡ b → Exact k (tick s) r → Exact (suc k) s (unless_stopped b (tick s) r)
  unfolding unless_stopped ticks
  one_more k s true r e x =
      record {
        state = refl;
        most = omega arith;
        before = λ j l h. absurd (omega arith);
        last = λ q. (omega arith, e);
        whole = λ q. absurd (false≢true (sym q));
      }
  one_more k s false r e x =
      record {
        state = x.state;
        most = omega (arith, x.most);
        before = earlier;
        last = λ q. (omega arith, (x.last q).1);
        whole = λ q. (ap suc (x.whole q).0, λ l. final k (x.whole q));
      }
    where
      earlier : (j : ℕ) → 1 ≤ j → j < suc r.count → stops (ticks tick j s) ≡ false
      earlier zero l h = absurd (omega arith)
      earlier (suc zero) l h = e
      earlier (suc (suc j)) l h = x.before (suc j) (omega arith) (omega arith)

      final : (k : ℕ) → (r.count ≡ k) × (1 ≤ k → stops r.state ≡ false) → stops r.state ≡ false
      final zero w = ap stops (x.state ∙ ap (λ (c : ℕ). ticks tick c (tick s)) w.0) ∙ e
      final (suc k) w = w.1 (omega arith)

  pub runs_exact : (k : ℕ) (s : S) → Exact k s (runs tick stops k s)
  unfolding runs ticks
  runs_exact zero s =
      record {
        state = refl;
        most = omega arith;
        before = λ j l h. absurd (omega arith);
        last = λ q. absurd (false≢true q);
        whole = λ q. (refl, λ l. absurd (omega arith));
      }
  runs_exact (suc k) s = one_more k s (stops (tick s)) (runs tick stops k (tick s)) refl (runs_exact k (tick s))
