-- A search back from s: what is marked leads to s, and what is marked, or is s, has all its feeders marked or stands on the stack. So
-- when the stack is empty, s is marked exactly when it is on a loop.
use Prim.Native.Nat.{ℕ, zero, suc, ◌+◌, ◌*◌, ◌≤◌, ◌<◌}
use mathlib.Core.Path.{◌≡◌, refl, sym, subst, ap, ◌∙◌}
use mathlib.Core.Bool.{Bool, true, false, true≢false}
use mathlib.Core.List.{List, [], ◌∷◌}
use mathlib.Core.Logic.{◌⊎◌, inl, inr, ⊎_elim}
use native.Mathlib.Decide.{ℕ_discrete}
use native.Mathlib.Omega.{arith}
use native.Mathlib.Nat.{eq-or-lt_of_le}
use lib.ListN.{length, get_or, set, replicate, length-replicate}
use lib.Seq.{get_or-set_same, get_or-set_other}
use Rattle.graph_ranks.specs.Graph.{places, Entries, Edge, Path, one, more, Loops, Decides}
use Rattle.graph_chains.specs.Search.{State, state, blank, Room, pushed, pushed_to, pushed_all}
use Rattle.graph_ranks.proofs.Stores.{read_cases, all_same}
use Rattle.graph_chains.proofs.Unmarked.{unmarked_length}
use Rattle.graph_chains.proofs.Pushing.{Marked, Bare, stacked, push_cases, stack_room, push_room, mark_stays, push_stays, push_marks, left_over, push_less}

-- an edge before a path
pub edge_path : {edges : List ℕ} {x y s : ℕ} → Edge edges x y → Path edges y s → Path edges x s
edge_path e (one f) = more (one e) f
edge_path e (more p f) = more (edge_path e p) f

-- a path begins at a node
path_real : {edges : List ℕ} {a b : ℕ} → Path edges a b → 1 ≤ a
path_real (one e) = e.real
path_real (more p e) = path_real p

-- each feeder of y has a mark
abbrev pub Closed : List ℕ → List Bool → ℕ → Type 0
Closed edges marks y = (x : ℕ) → Edge edges x y → Marked marks x

-- x stands on the stack
abbrev pub On : ℕ → List ℕ → Type 0
On x [] = ⊥
On x (v ∷ stack) = (x ≡ v) ⊎ On x stack

-- a search back from s in which y alone may have feeders that are left out (none, where y is 0)
pub record Searching (edges : List ℕ) (size s y : ℕ) (at : State) : Type 0 where
  pub room : Room at
  pub sound : (x : ℕ) → Marked at.marks x → Path edges x s
  pub stacked : (x : ℕ) → On x at.stack → Marked at.marks x × (x ≤ size)
  pub closed : (z : ℕ) → 1 ≤ z → (z ≡ y → ⊥) → (z ≡ s) ⊎ Marked at.marks z
      → Closed edges at.marks z ⊎ On z at.stack

pub blank_room : Room blank
blank_room =
    let long : length (replicate {A = Bool} places false) ≡ places = length-replicate {A = Bool} places false in
    record { marks_long = long; left = omega (arith, unmarked_length (replicate places false), long) }

-- at the start nothing is marked, and s has all its feeders left out
search_start : (edges : List ℕ) (size s : ℕ) → Searching edges size s s blank
search_start edges size s = record {
  room = blank_room;
  sound = λ x m. absurd (none x m);
  stacked = λ x on. absurd on;
  closed = λ z real other due. absurd (⊎_elim other (none z) due);
}
  where
    none : (x : ℕ) → Marked blank.marks x → ⊥
    none x m = true≢false (sym m ∙ all_same false places x)

pub pop_room : (marks : List Bool) (stack : List ℕ) (v : ℕ) → Room (state marks (v ∷ stack)) → Room (state marks stack)
pop_room marks stack v r = record { marks_long = r.marks_long; left = omega (arith, r.left) }

-- the top of the stack is a node
pub top_low : {edges : List ℕ} {size s y v : ℕ} {at : State} {rest : List ℕ} → Searching edges size s y at → at.stack ≡ v ∷ rest → v ≤ size
top_low {v = v} i e = (i.stacked v (subst (On v) (sym e) (inl refl))).1

module _ (edges : List ℕ) (size s y : ℕ) where
  search_push : (at : State) (x : ℕ) → x < places → x ≤ size → (1 ≤ x → Path edges x s) → Searching edges size s y at
      → Searching edges size s y (pushed at x)
  search_push at x h l path i = push_cases (Searching edges size s y) at x (λ _. i) (λ _. i) new
    where
      new : 1 ≤ x → Bare at.marks x → Searching edges size s y (stacked at x)
      new real e = record {
        room = stack_room at x h i.room e;
        sound = λ z. read_cases (λ w v. v ≡ true → Path edges w s) at.marks x true false low (λ _. path real) z (λ _. i.sound z);
        stacked = λ z.
            ⊎_elim
            (λ same. (subst (Marked (set at.marks x true)) (sym same) here, omega (arith, same)))
            (λ on. let was = i.stacked z on in (mark_stays at.marks x z low was.0, was.1));
        closed = λ z r other due.
            elim (ℕ_discrete z x) [
              | yes same ↦ inr (inl same)
              | no old ↦ ⊎_elim (λ c. inl (λ w f. mark_stays at.marks x w low (c w f))) (λ on. inr (inr on)) (i.closed z r other (was z old due))
            ];
      }
        where
          low : x < length at.marks
          low = omega (arith, i.room.marks_long)

          was : (z : ℕ) → (z ≡ x → ⊥) → (z ≡ s) ⊎ Marked (set at.marks x true) z → (z ≡ s) ⊎ Marked at.marks z
          was z old =
              ⊎_elim inl (λ m. inr (sym (get_or-set_other at.marks x z true false old) ∙ m))

          here : Marked (set at.marks x true) x
          here = get_or-set_same at.marks x true false low

  -- y is taken off the stack
  search_pop : (marks : List Bool) (stack : List ℕ) → Searching edges size s 0 (state marks (y ∷ stack)) → Searching edges size s y (state marks stack)
  search_pop marks stack i = record {
    room = pop_room marks stack y i.room;
    sound = i.sound;
    stacked = λ x on. i.stacked x (inr on);
    closed = λ z real other due.
        ⊎_elim inl (⊎_elim (λ same. absurd (other same)) inr)
        (i.closed z real (λ (n : z ≡ 0). omega arith) due);
  }

-- the first j feeders of y are pushed
module _ (edges : List ℕ) (size : ℕ) (all : Entries edges size) (at : State) (y : ℕ) where
  low_feeder : (i : ℕ) → get_or edges i 0 < places
  low_feeder i = omega (arith, all.within i, all.small)

  to_room : (j : ℕ) → Room at → Room (pushed_to edges at y j)
  unfolding pushed_to
  to_room zero r = r
  to_room (suc j) r = push_room (pushed_to edges at y j) (get_or edges (4 * y + j) 0) (low_feeder (4 * y + j)) (to_room j r)

  to_less : (j : ℕ) → Room at → left_over (pushed_to edges at y j) ≤ left_over at
  unfolding pushed_to
  to_less zero r = omega arith
  to_less (suc j) r =
      omega (
        arith,
        to_less j r,
        push_less (pushed_to edges at y j) (get_or edges (4 * y + j) 0) (low_feeder (4 * y + j)) (to_room j r),
      )

  to_marks : (j : ℕ) → Room at → (k : ℕ) → k < j → 1 ≤ get_or edges (4 * y + k) 0
      → Marked (pushed_to edges at y j).marks (get_or edges (4 * y + k) 0)
  unfolding pushed_to
  to_marks zero r k h l = absurd (omega arith)
  to_marks (suc j) r k h l =
      ⊎_elim
      (λ e.
      subst (λ (i : ℕ). Marked (pushed now x).marks (get_or edges (4 * y + i) 0)) (sym e)
      (push_marks now x (low_feeder (4 * y + j)) (to_room j r) (subst (λ (i : ℕ). 1 ≤ get_or edges (4 * y + i) 0) e l)))
      (λ (before : k < j).
      push_stays now x (get_or edges (4 * y + k) 0) (low_feeder (4 * y + j)) (to_room j r) (to_marks j r k before l))
      (eq-or-lt_of_le {n = k} {m = j} (omega arith))
    where
      now : State
      now = pushed_to edges at y j

      x : ℕ
      x = get_or edges (4 * y + j) 0

  to_searching : (s : ℕ) → (y ≡ s) ⊎ Path edges y s → (j : ℕ) → j ≤ 4 → Searching edges size s y at
      → Searching edges size s y (pushed_to edges at y j)
  unfolding pushed_to
  to_searching s leads zero h i = i
  to_searching s leads (suc j) h i =
      search_push edges size s y (pushed_to edges at y j) x (low_feeder (4 * y + j)) (all.within (4 * y + j))
      (λ real. path (record { real = real; index = j; small = omega arith; is_entry = refl }))
      (to_searching s leads j (omega arith) i)
    where
      x : ℕ
      x = get_or edges (4 * y + j) 0

      path : Edge edges x y → Path edges x s
      path e = ⊎_elim (λ same. one (subst (λ (z : ℕ). Edge edges x z) same e)) (edge_path e) leads

  -- all four are, and nothing is left out any more
  search_all : (s : ℕ) → (y ≡ s) ⊎ Path edges y s → Searching edges size s y at
      → Searching edges size s 0 (pushed_all edges at y)
  search_all s leads i =
      let after = to_searching s leads 4 (omega arith) i in
      record {
        room = after.room;
        sound = after.sound;
        stacked = after.stacked;
        closed = λ z real _ due.
            elim (ℕ_discrete z y) [ yes same ↦ inl (λ x e. mark z same x e) | no other ↦ after.closed z real other due ];
      }
    where
      mark : (z : ℕ) → z ≡ y → Closed edges (pushed_all edges at y).marks z
      mark z same x e =
          let is : get_or edges (4 * y + e.index) 0 ≡ x = subst (λ (w : ℕ). get_or edges (4 * w + e.index) 0 ≡ x) same e.is_entry in
          subst (Marked (pushed_all edges at y).marks) is
          (to_marks 4 i.room e.index e.small (omega (arith, e.real, is)))

-- the turns of the search
module _ (edges : List ℕ) (size : ℕ) (all : Entries edges size) (s : ℕ) where
  pub first_turn : (b : State) → b ≡ pushed_all edges blank s → Searching edges size s 0 b
  first_turn b e =
      subst (Searching edges size s 0) (sym e) (search_all edges size all blank s s (inl refl) (search_start edges size s))

  pub next_turn : (marks : List Bool) (stack rest : List ℕ) (v : ℕ) (b : State) → stack ≡ v ∷ rest → Searching edges size s 0 (state marks stack)
      → b ≡ pushed_all edges (state marks rest) v → Searching edges size s 0 b
  next_turn marks stack rest v b e i p =
      let here : Searching edges size s 0 (state marks (v ∷ rest)) = subst (λ (l : List ℕ). Searching edges size s 0 (state marks l)) e i in
      subst (Searching edges size s 0) (sym p)
      (search_all edges size all (state marks rest) v s
      (inr (i.sound v (here.stacked v (inl refl)).0))
      (search_pop edges size s v marks rest here))

  pub turn_less : (marks : List Bool) (stack rest : List ℕ) (v : ℕ) (b : State) → stack ≡ v ∷ rest → Room (state marks stack)
      → b ≡ pushed_all edges (state marks rest) v → left_over b < left_over (state marks stack)
  turn_less marks stack rest v b e r p =
      let room = pop_room marks rest v (subst (λ (l : List ℕ). Room (state marks l)) e r) in
      omega (arith, ap left_over p, to_less edges size all (state marks rest) v 4 room, ap length e)

-- the search is over
module _ (edges : List ℕ) (size s : ℕ) (at : State) (i : Searching edges size s 0 at) (empty : at.stack ≡ []) where
  closed_at_last : (z : ℕ) → 1 ≤ z → (z ≡ s) ⊎ Marked at.marks z → Closed edges at.marks z
  closed_at_last z real due =
      ⊎_elim (λ c. c) (λ on. absurd (subst (On z) empty on))
      (i.closed z real (λ (n : z ≡ 0). omega arith) due)

  reached : {a b : ℕ} → 1 ≤ b → (b ≡ s) ⊎ Marked at.marks b → Path edges a b → Marked at.marks a
  reached {a} {b} real due (one e) = closed_at_last b real due a e
  reached {a} {b} real due (more {b = m} p e) = reached e.real (inr (closed_at_last b real due m e)) p

  pub search_tells : Decides (Loops edges s) (get_or at.marks s false)
  search_tells = record { holds = i.sound s; fails = λ e p. true≢false (sym (reached (path_real p) (inl refl) p) ∙ e) }
