-- Demand 3 over any trace of calls: what the calls' contracts give of each call, on the buffers as the last one left them, gives the
-- claim of the list. The idea: heads that are alike and a state that keeps step with the plain session's rows, call after call.
use Prim.Native.Nat.{ℕ, zero, suc}
use mathlib.Core.Path.{◌≡◌, refl, sym, subst, ◌∙◌, ap, fun_ext}
use mathlib.Core.List.{List, ◌∷◌, ◌++◌}
use native.Mathlib.Omega.{arith}
use lib.ListN.{length, replicate, length-append, length-replicate}
use Rattle.model.specs.Refusal.{Check, pass, fail}
use Rattle.model.specs.Network.{Network, Signal}
use Rattle.model.specs.Session.{Engine, plain, watched, Head, Call, set, watch, read, run, Lengths, Lent, Answer, runs, ticks, Outcome, lent_check, running, perform, meet, outcome, plain_after, last_set}
use Rattle.model.specs.Demands.{Working, Trace, end, next, Agrees, Inside, Demand3}
use Rattle.model.proofs.Session.{Like, like_trans, KeepStep, outcome_alike, ticks_alike}
use Rattle.model.proofs.Inputs.{copies_more, run_copies, hand_last_set, rows_last_set}

-- "a row of input values for each cycle from 1 to t"
module _ (fixed : Lengths) (n : Network) (table : List (ℕ → ℕ) → ℕ → ℕ) where
  perform_rows : (h : Head) (rows : List (ℕ → ℕ)) (c : Call) → length rows ≡ h.finished
      → length (perform fixed n (plain table) h rows c).state ≡ (perform fixed n (plain table) h rows c).head.finished
  unfolding perform running
  perform_rows h rows (set s v) e = e
  perform_rows h rows (watch s mask) e = e
  perform_rows h rows (read s) e = e
  perform_rows h rows (run k) e =
      let r = runs (λ y. h.hand ∷ y) (λ y. watched h.watch.mask (table y h.watch.signal)) k rows in
      let copies : r.state ≡ replicate r.count h.hand ++ rows = run_copies h.hand _ k rows in
      omega (arith, ap length copies, length-append (replicate r.count h.hand) rows, length-replicate r.count h.hand)

  pub outcome_rows : (h : Head) (rows : List (ℕ → ℕ)) (c : Lent) → length rows ≡ h.finished
      → length (outcome fixed n (plain table) h rows c).state ≡ (outcome fixed n (plain table) h rows c).head.finished
  unfolding outcome meet
  outcome_rows h rows c e = go (lent_check fixed n h.finished c)
    where
      go : (k : Check) → length (meet fixed n (plain table) h rows c.call k).state ≡ (meet fixed n (plain table) h rows c.call k).head.finished
      go pass = perform_rows h rows c.call e
      go (fail x y) = e

-- j cycles of the plain session
copied : (row : ℕ → ℕ) (j : ℕ) (rows : List (ℕ → ℕ)) → ticks (λ r. row ∷ r) j rows ≡ replicate j row ++ rows
unfolding ticks
copied row zero rows = refl
copied row (suc j) rows = copied row j (row ∷ rows) ∙ copies_more row j rows

-- a call met its contract: its answer, and the buffers that it leaves, are those of the session over the engine. Close says which states
-- count as one: of the machine's memories, those that agree at the module's locations.
module _ {Buffers : Type 0} (E : Engine) (decode : Buffers → Working E.State) (fixed : Lengths) (n : Network)
    (Close : E.State → E.State → Type 0) where
  abbrev engined : Buffers → Lent → Outcome E.State
  engined b c = outcome fixed n E (decode b).head (decode b).state c

  pub record Met (b : Buffers) (c : Lent) (a : Answer) (b' : Buffers) : Type 0 where
    pub answer : a ≡ (engined b c).answer
    pub head : Like n (decode b').head (engined b c).head
    pub state : Close (decode b').state (engined b c).state

  module _ (Shows : E.State → (ℕ → ℕ) → Type 0) (given : ℕ → ℕ) (table : List (ℕ → ℕ) → ℕ → ℕ) (K : KeepStep n E (plain table))
      (shows : (w : E.State) (rows : List (ℕ → ℕ)) → K.R w rows → Shows w (table rows))
      (close : (w u : E.State) (rows : List (ℕ → ℕ)) → Close w u → K.R u rows → K.R w rows)
      (Post : Buffers → Lent → Answer → Buffers → Type 0) (Good : Buffers → Type 0)
      (meets : (b : Buffers) (c : Lent) (a : Answer) (b' : Buffers) → Good b → Post b c a b' → Met b c a b')
      (stays : (b : Buffers) (c : Lent) (a : Answer) (b' : Buffers) → Good b → Post b c a b' → Good b') where
    -- the buffers b keep step with the plain session's head h and rows
    pub record InStep (b : Buffers) (h : Head) (rows : List (ℕ → ℕ)) : Type 0 where
      pub good : Good b
      pub head : Like n (decode b).head h
      pub state : K.R (decode b).state rows
      pub watching : Signal n h.watch.signal
      pub rows_finished : length rows ≡ h.finished

    -- the plain session after the calls so far
    abbrev session : List Lent → Outcome (List (ℕ → ℕ))
    session calls = plain_after fixed n given table calls

    abbrev After : Buffers → List Lent → Type 0
    After b calls = InStep b (session calls).head (session calls).state

    agrees : (b : Buffers) (calls : List Lent) → After b calls → Agrees Post E.tick Shows decode fixed n given table b calls
    agrees b calls i =
        let set = rows_last_set fixed n given table calls in
        record {
          finished = i.head.finished;
          rows = set;
          rows_finished = ap length (sym set) ∙ i.rows_finished;
          shows = subst (λ (r : List (ℕ → ℕ)). Shows (decode b).state (table r)) set (shows (decode b).state (session calls).state i.state);
        }

    inside : (b : Buffers) (a : Answer) (calls : List Lent) → After b calls → Inside Post E.tick Shows decode fixed n given table b a calls
    inside b a calls i j l =
        let hand = (session calls).head.hand in
        subst (λ (r : List (ℕ → ℕ)). Shows (ticks (E.tick (decode b).head.hand) j (decode b).state) (table r))
        (copied hand j (session calls).state
        ∙ ap (λ (row : ℕ → ℕ). replicate j row ++ (session calls).state) (fun_ext (hand_last_set fixed n given table calls))
        ∙ ap (λ (r : List (ℕ → ℕ)). replicate j (last_set fixed n given table calls) ++ r) (rows_last_set fixed n given table calls))
        (shows _ _
        (ticks_alike (E.tick (decode b).head.hand) (λ r. hand ∷ r) K.R (K.step (decode b).head.hand hand i.head.hand) j
        (decode b).state (session calls).state i.state))

    pub demand_3 : {b : Buffers} {cs : List Lent} (t : Trace Post b cs) (calls : List Lent) → After b calls
        → Demand3 Post E.tick Shows decode fixed n given table t calls
    unfolding Demand3 plain_after
    demand_3 (end {b}) calls i = agrees b calls i
    demand_3 (next {b} {c} a b' p rest) calls i =
        let h = (session calls).head in
        let rows = (session calls).state in
        let met = meets b c a b' i.good p in
        let o = outcome_alike fixed n E (plain table) K (decode b).head h (decode b).state rows c i.head i.state i.watching in
        let told = outcome fixed n (plain table) h rows c in (
          agrees b calls i,
          met.answer ∙ o.answer,
          inside b a calls i,
          demand_3 rest (c ∷ calls)
              (record {
                good = stays b c a b' i.good p;
                head = like_trans n (decode b').head (engined b c).head told.head met.head o.head;
                state = close (decode b').state (engined b c).state told.state met.state o.state;
                watching = o.watching;
                rows_finished = outcome_rows fixed n table h rows c i.rows_finished;
              }),
        )
