-- A call asks a network only for its size and for the kinds of its signals: engines that keep step, one on another network that has these,
-- do the same with it. And 40 comes before all that a session finds.
use Prim.Native.Nat.{ℕ}
use mathlib.Core.Path.{◌≡◌, refl, sym, subst, ◌∙◌, ap}
use mathlib.Core.Bool.{Bool, true, false}
use lib.Dec.{eqb, leb}
use Rattle.logic.specs.Test.{◌and◌}
use Rattle.model.specs.Refusal.{Check, pass, fail, first, unless}
use Rattle.model.specs.Network.{Network, Signal, input, is_signal}
use Rattle.model.specs.Session.{Engine, Head, Call, set, watch, read, run, Lengths, Lent, same_lengths, refused, Outcome, call_check, lent_check, running, perform, meet, outcome}
use Rattle.model.proofs.Chains.{signal_true}
use Rattle.model.proofs.Lengths.{same_self}
use Rattle.model.proofs.Session.{like_refl, KeepStep, SameOutcome, outcome_alike}

module _ (fixed : Lengths) where
  -- a call that is not refused does not ask for the network
  perform_same : (n f : Network) (E : Engine) (h : Head) (x : E.State) (c : Call) → perform fixed n E h x c ≡ perform fixed f E h x c
  unfolding perform running
  perform_same n f E h x (set s v) = refl
  perform_same n f E h x (watch s mask) = refl
  perform_same n f E h x (read s) = refl
  perform_same n f E h x (run k) = refl

  meet_same : (n f : Network) (E : Engine) (h : Head) (x : E.State) (c : Call) (k : Check) → meet fixed n E h x c k ≡ meet fixed f E h x c k
  unfolding meet
  meet_same n f E h x c pass = perform_same n f E h x c
  meet_same n f E h x c (fail number returned) = refl

  -- 40 is the first refusal of the session too
  pub outcome_wrong : (n : Network) (E : Engine) (h : Head) (x : E.State) (c : Lent) → same_lengths c.lengths fixed ≡ false
      → outcome fixed n E h x c ≡ record { answer = refused 40 0; head = h; state = x }
  unfolding outcome lent_check meet first unless
  outcome_wrong n E h x c l = rw l

  -- 41 to 43, or what the call does
  abbrev pub command : (n : Network) (E : Engine) → Head → E.State → Call → Outcome E.State
  command n E h x c = meet fixed n E h x c (call_check n h.finished c)

  -- with right lengths they come
  pub outcome_right : (n : Network) (E : Engine) (h : Head) (x : E.State) (c : Lent) → same_lengths c.lengths fixed ≡ true
      → outcome fixed n E h x c ≡ command n E h x c.call
  unfolding outcome lent_check first unless
  outcome_right n E h x c l = rw l

  -- 41 to 43 ask for its size and for the kinds of its signals
  module _ (n f : Network) (size : n.size ≡ f.size) (kinds : (s : ℕ) → Signal f s → n.kind s ≡ f.kind s) where
    signal_same : (s : ℕ) → is_signal n s ≡ is_signal f s
    unfolding is_signal
    signal_same s = rw size

    input_same : (s : ℕ) → (is_signal n s and eqb (n.kind s) input) ≡ (is_signal f s and eqb (f.kind s) input)
    unfolding ◌and◌
    input_same s = rw (signal_same s) (go (is_signal f s) refl)
      where
        go : (b : Bool) → is_signal f s ≡ b → (b and eqb (n.kind s) input) ≡ (b and eqb (f.kind s) input)
        go true e = ap (λ (k : ℕ). eqb k input) (kinds s (signal_true f s e))
        go false e = refl

    check_same : (finished : ℕ) (c : Call) → call_check n finished c ≡ call_check f finished c
    unfolding call_check
    check_same finished (set s v) = ap (λ (b : Bool). first (unless b 41 s) (unless (leb v 3) 42 v)) (input_same s)
    check_same finished (watch s mask) = ap (λ (b : Bool). first (unless b 41 s) (unless (leb mask 15) 42 mask)) (signal_same s)
    check_same finished (read s) = ap (λ (b : Bool). unless b 41 s) (signal_same s)
    check_same finished (run k) = refl

    command_same : (E : Engine) (h : Head) (x : E.State) (c : Call) → command n E h x c ≡ command f E h x c
    command_same E h x c = meet_same n f E h x c _ ∙ ap (meet fixed f E h x c) (check_same h.finished c)

    -- so engines that keep step, one on each network, do the same with a call
    pub commands_alike : (E F : Engine) (K : KeepStep f E F) (h : Head) (x : E.State) (y : F.State) (c : Call) → K.R x y → Signal f h.watch.signal
        → SameOutcome fixed f E F K (command n E h x c) (command f F h y c)
    commands_alike E F K h x y c r watching =
        let lent : Lent = record { lengths = fixed; call = c } in
        let right = same_self fixed in
        subst (λ (o : Outcome E.State). SameOutcome fixed f E F K o (command f F h y c)) (sym (command_same E h x c))
        (subst (λ (o : Outcome E.State). SameOutcome fixed f E F K o (command f F h y c)) (outcome_right f E h x lent right)
        (subst (SameOutcome fixed f E F K (outcome fixed f E h x lent)) (outcome_right f F h y lent right)
        (outcome_alike fixed f E F K h h x y lent (like_refl f h) r watching)))
