-- Two engines that keep step answer every call alike. The idea: a relation between their states that a cycle keeps and under which
-- they read the same values; then runs stop together, and calls leave related sessions.
use Prim.Native.Nat.{ℕ, zero, suc}
use mathlib.Core.Path.{◌≡◌, refl, sym, ◌∙◌, ap, subst}
use mathlib.Core.Bool.{Bool, true, false}
use lib.Dec.{eqb, leb}
use Rattle.std.specs.Prelude.{if◌then◌else◌}
use Rattle.model.specs.Refusal.{Check, pass, fail, unless}
use Rattle.model.specs.Network.{Network, Signal, is_signal}
use Rattle.model.specs.Session.{Engine, watched, Head, Call, set, watch, read, run, Lengths, Lent, value, Run, unless_stopped, runs, ticks, replaced, Outcome, same_lengths, call_check, lent_check, running, perform, meet, outcome}
use Rattle.model.proofs.Chains.{signal_true}
use Rattle.model.proofs.Value.{SameInputs}
use Rattle.model.proofs.Refusals.{first_left, first_right, unless_true}

-- heads that agree but for the values in hand of gates, which nothing reads
pub record Like (n : Network) (g h : Head) : Type 0 where
  pub finished : g.finished ≡ h.finished
  pub hand : SameInputs n g.hand h.hand
  pub watch : g.watch ≡ h.watch

pub like_refl : (n : Network) (h : Head) → Like n h h
like_refl n h = record { finished = refl; hand = λ s g k. refl; watch = refl }

pub like_trans : (n : Network) (f g h : Head) → Like n f g → Like n g h → Like n f h
like_trans n f g h a b =
    record { finished = a.finished ∙ b.finished; hand = λ s q k. a.hand s q k ∙ b.hand s q k; watch = a.watch ∙ b.watch }

replaced_same : (n : Network) (f g : ℕ → ℕ) (s v : ℕ) → SameInputs n f g → SameInputs n (replaced f s v) (replaced g s v)
unfolding replaced
replaced_same n f g s v h x q k = ap (λ (y : ℕ). if eqb x s then v else y) (h x q k)

-- runs that keep step stop together
module _ {S T : Type 0} (tick : S → S) (tock : T → T) (stops : S → Bool) (halts : T → Bool) (R : S → T → Type 0)
    (step : (x : S) (y : T) → R x y → R (tick x) (tock y)) (alike : (x : S) (y : T) → R x y → stops x ≡ halts y) where
  pub record SameRun (a : Run S) (b : Run T) : Type 0 where
    pub count : a.count ≡ b.count
    pub stopped : a.stopped ≡ b.stopped
    pub state : R a.state b.state

  stopped_alike : (t : Bool) (x : S) (y : T) (a : Run S) (b : Run T) → R x y → SameRun a b → SameRun (unless_stopped t x a) (unless_stopped t y b)
  unfolding unless_stopped
  stopped_alike true x y a b r h = record { count = refl; stopped = refl; state = r }
  stopped_alike false x y a b r h = record { count = ap suc h.count; stopped = h.stopped; state = h.state }

  pub runs_alike : (k : ℕ) (x : S) (y : T) → R x y → SameRun (runs tick stops k x) (runs tock halts k y)
  unfolding runs
  runs_alike zero x y r = record { count = refl; stopped = refl; state = r }
  runs_alike (suc k) x y r =
      let q = step x y r in
      rw (← (alike (tick x) (tock y) q)) (stopped_alike (stops (tick x)) (tick x) (tock y) _ _ q (runs_alike k (tick x) (tock y) q))

pub ticks_alike : {S T : Type 0} (tick : S → S) (tock : T → T) (R : S → T → Type 0) → ((x : S) (y : T) → R x y → R (tick x) (tock y))
    → (j : ℕ) (x : S) (y : T) → R x y → R (ticks tick j x) (ticks tock j y)
unfolding ticks
ticks_alike tick tock R step zero x y r = r
ticks_alike tick tock R step (suc j) x y r = ticks_alike tick tock R step j (tick x) (tock y) (step x y r)

-- two engines keep step
pub record KeepStep (n : Network) (E F : Engine) : Type 1 where
  pub R : E.State → F.State → Type 0
  pub step : (row hand : ℕ → ℕ) → SameInputs n row hand → (x : E.State) (y : F.State) → R x y → R (E.tick row x) (F.tick hand y)
  pub same : (x : E.State) (y : F.State) → R x y → (s : ℕ) → Signal n s → E.value x s ≡ F.value y s

module _ (fixed : Lengths) (n : Network) (E F : Engine) (K : KeepStep n E F) where
  -- what two sessions answer and leave
  pub record SameOutcome (o : Outcome E.State) (q : Outcome F.State) : Type 0 where
    pub answer : o.answer ≡ q.answer
    pub head : Like n o.head q.head
    pub state : K.R o.state q.state
    pub watching : Signal n q.head.watch.signal

  perform_alike : (g h : Head) (x : E.State) (y : F.State) (c : Call) → call_check n h.finished c ≡ pass → Like n g h → K.R x y
      → Signal n h.watch.signal → SameOutcome (perform fixed n E g x c) (perform fixed n F h y c)
  unfolding perform running call_check
  perform_alike g h x y (set s v) t l r a =
      record {
        answer = refl;
        head = record { finished = l.finished; hand = replaced_same n g.hand h.hand s v l.hand; watch = l.watch };
        state = r;
        watching = a;
      }
  perform_alike g h x y (watch s mask) t l r a =
      record {
        answer = refl;
        head = record { finished = l.finished; hand = l.hand; watch = refl };
        state = r;
        watching = signal_true n s (unless_true (is_signal n s) 41 s (first_left (unless (is_signal n s) 41 s) (unless (leb mask 15) 42 mask) t));
      }
  perform_alike g h x y (read s) t l r a =
      record { answer = ap value (K.same x y r s (signal_true n s (unless_true (is_signal n s) 41 s t))); head = l; state = r; watching = a }
  perform_alike g h x y (run k) t l r a =
      let e = runs_alike (E.tick g.hand) (F.tick h.hand) (λ z. watched g.watch.mask (E.value z g.watch.signal))
      (λ z. watched h.watch.mask (F.value z h.watch.signal)) K.R (K.step g.hand h.hand l.hand) together k x y r in
      record {
        answer = cc (e.count, e.stopped);
        head = record { finished = cc (l.finished, e.count); hand = l.hand; watch = l.watch };
        state = e.state;
        watching = a;
      }
    where
      together : (z : E.State) (w : F.State) → K.R z w
          → watched g.watch.mask (E.value z g.watch.signal) ≡ watched h.watch.mask (F.value w h.watch.signal)
      together z w q = rw l.watch (ap (watched h.watch.mask) (K.same z w q h.watch.signal a))

  pub outcome_alike : (g h : Head) (x : E.State) (y : F.State) (c : Lent) → Like n g h → K.R x y → Signal n h.watch.signal
      → SameOutcome (outcome fixed n E g x c) (outcome fixed n F h y c)
  unfolding outcome meet lent_check
  outcome_alike g h x y c l r a =
      subst (λ (d : ℕ). SameOutcome (meet fixed n E g x c.call (lent_check fixed n d c)) (meet fixed n F h y c.call (lent_check fixed n h.finished c)))
      (sym l.finished) (go (lent_check fixed n h.finished c) refl)
    where
      go : (k : Check) → lent_check fixed n h.finished c ≡ k → SameOutcome (meet fixed n E g x c.call k) (meet fixed n F h y c.call k)
      go pass e =
          perform_alike g h x y c.call
          (first_right (unless (same_lengths c.lengths fixed) 40 0) (call_check n h.finished c.call) e) l r a
      go (fail u w) e = record { answer = refl; head = l; state = r; watching = a }
