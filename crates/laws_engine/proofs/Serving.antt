-- Demand 3 over any engine. Its calls serve a session where they give 40 for a wrong length, and on good buffers do what the session over
-- the engine does. Then every list of calls, each meeting its contract, does what the plain session does.
use Prim.Native.Nat.{ℕ, ◌≤◌}
use mathlib.Core.Path.{◌≡◌, refl, sym, subst, ◌∙◌, ap}
use mathlib.Core.Bool.{true, false}
use mathlib.Core.List.{List, []}
use native.Mathlib.Omega.{arith}
use Rattle.model.specs.Network.{Network}
use Rattle.model.specs.Session.{Engine, plain, fresh, Call, Lengths, Lent, same_lengths, Answer, refused, Outcome, plain_after}
use Rattle.model.specs.Demands.{Working, Trace, end, next, Demand3}
use Rattle.model.proofs.Session.{Like, like_refl, KeepStep}
use Rattle.model.proofs.Traces.{Met, demand_3}
use Rattle.session_answers.specs.Answers.{answer_bits}
use Rattle.session_answers.specs.Apart.{apart}
use Rattle.laws_engine.specs.Interface.{Interface}
use Rattle.laws_engine.specs.Lending.{kind_of, Has32, number_of, Post, Throughout, EveryCall}
use Rattle.laws_engine.proofs.Networks.{outcome_wrong, outcome_right, command}
use Rattle.laws_engine.proofs.Refusals.{Not44, command_44}
use Rattle.laws_engine.proofs.Calls.{Refuses, by_call}

-- The calls of the interface I serve the session over the engine E on the network n: decode reads its head and E's state from the buffers,
-- Close says which states count as one, and Good holds of the session's buffers and is kept.
module _ (I : Interface) (n : Network) (E : Engine) (decode : I.Buffers → Working E.State) (Close : E.State → E.State → Type 0)
    (Good : I.Buffers → Type 0) where
  -- what the session does with a call whose lengths are right
  abbrev pub told : I.Buffers → Call → Outcome E.State
  told b c = command I.fixed n E (decode b).head (decode b).state c

  -- On good buffers C takes the answer out of the bits (taken), and the call answers and leaves what the session does, on buffers that are
  -- good again.
  pub record Serves : Type 0 where
    pub refuses : Refuses I
    pub lengths : (b : I.Buffers) → Good b → same_lengths (I.lengths b) I.fixed ≡ true
    pub taken : (b : I.Buffers) (c : Call) → Good b → Has32 c → apart (kind_of c) (I.bits b c) ≡ (I.reply b c).answer
    pub answer : (b : I.Buffers) (c : Call) → Good b → (I.reply b c).answer ≡ (told b c).answer
    pub head : (b : I.Buffers) (c : Call) → Good b → Like n (decode (I.reply b c).buffers).head (told b c).head
    pub state : (b : I.Buffers) (c : Call) → Good b → Close (decode (I.reply b c).buffers).state (told b c).state
    pub stays : (b : I.Buffers) (c : Call) → Good b → Good (I.reply b c).buffers

  module _ (serves : Serves) where
    pub call_stays : (b : I.Buffers) (c : Lent) (a : Answer) (b' : I.Buffers) → Good b → Post I b c a b' → Good b'
    call_stays b c a b' good p = by_call I serves.refuses p (λ bits x left. Good left) (λ e. serves.stays b c.call good) (λ l. good)

    -- the buffers are good before and after every call
    pub good_throughout : {b : I.Buffers} {cs : List Lent} → Good b → (t : Trace (Post I) b cs) → Throughout I Good t
    unfolding Throughout
    good_throughout good end = good
    good_throughout good (next {b} {c} a b' p rest) = (good, good_throughout (call_stays b c a b' good p) rest)

    -- what holds of the replies on good buffers and of 40 holds of every call of a list
    pub every_call : (P : Lent → ℕ → Answer → Type 0)
        → ((b : I.Buffers) (c : Lent) → Good b → P c (I.bits b c.call) (I.reply b c.call).answer)
        → ((c : Lent) → P c (answer_bits (refused 40 0)) (refused 40 0))
        → {b : I.Buffers} {cs : List Lent} → Good b → (t : Trace (Post I) b cs) → EveryCall I P t
    unfolding EveryCall
    every_call P replied stayed good end = tt
    every_call P replied stayed good (next {b} {c} a b' p rest) = (
      by_call I serves.refuses p (λ bits x left. P c bits x)
          (λ e. subst (P c (I.bits b c.call)) (sym (serves.taken b c.call good p.numbers)) (replied b c good)) (λ l. stayed c),
      every_call P replied stayed (call_stays b c a b' good p) rest,
    )

    -- 44 never comes
    pub never_44 : {b : I.Buffers} {cs : List Lent} → Good b → (t : Trace (Post I) b cs) → EveryCall I (λ c bits a. Not44 (number_of a)) t
    never_44 good t =
        every_call (λ c bits a. Not44 (number_of a))
        (λ b c g. subst (λ (x : Answer). Not44 (number_of x)) (sym (serves.answer b c.call g)) (command_44 I.fixed n E (decode b).head (decode b).state c.call))
        (λ c e. omega arith) good t

    -- Demand 3, whichever values follow the rules of VAL: the engine keeps step with the plain session, its states show the values, and
    -- the buffers b are those of a fresh session.
    module _ (Shows : E.State → (ℕ → ℕ) → Type 0) (given : ℕ → ℕ) (table : List (ℕ → ℕ) → ℕ → ℕ) (K : KeepStep n E (plain table))
        (shows : (w : E.State) (rows : List (ℕ → ℕ)) → K.R w rows → Shows w (table rows))
        (close : (w u : E.State) (rows : List (ℕ → ℕ)) → Close w u → K.R u rows → K.R w rows)
        (close-self : (w : E.State) → Close w w) where
      meets : (b : I.Buffers) (c : Lent) (a : Answer) (b' : I.Buffers) → Good b → Post I b c a b' → Met E decode I.fixed n Close b c a b'
      meets b c a b' good p = by_call I serves.refuses p (λ bits x left. Met E decode I.fixed n Close b c x left) replied stayed
        where
          replied : I.lengths b ≡ c.lengths
              → Met E decode I.fixed n Close b c (apart (kind_of c.call) (I.bits b c.call)) (I.reply b c.call).buffers
          replied e =
              let right = outcome_right I.fixed n E (decode b).head (decode b).state c
              (ap (λ (x : Lengths). same_lengths x I.fixed) (sym e) ∙ serves.lengths b good) in
              record {
                answer = serves.taken b c.call good p.numbers ∙ serves.answer b c.call good ∙ ap (λ (o : Outcome E.State). o.answer) (sym right);
                head = rw right (serves.head b c.call good);
                state = rw right (serves.state b c.call good);
              }

          stayed : same_lengths c.lengths I.fixed ≡ false → Met E decode I.fixed n Close b c (refused 40 0) b
          stayed l =
              let wrong = outcome_wrong I.fixed n E (decode b).head (decode b).state c l in
              record {
                answer = sym (ap (λ (o : Outcome E.State). o.answer) wrong);
                head = rw wrong (like_refl n (decode b).head);
                state = rw wrong (close-self (decode b).state);
              }

      pub engine_demand_3 : {b : I.Buffers} {cs : List Lent} (t : Trace (Post I) b cs) → Good b → Like n (decode b).head (fresh given)
          → K.R (decode b).state [] → 1 ≤ n.size → Demand3 (Post I) E.tick Shows decode I.fixed n given table t []
      unfolding fresh plain_after
      engine_demand_3 t good head state size =
          demand_3 E decode I.fixed n Close Shows given table K shows close (Post I) Good meets call_stays t []
          (record { good = good; head = head; state = state; watching = record { low = omega arith; high = size }; rows_finished = refl })
