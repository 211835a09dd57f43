-- Each cycle takes each input as last set before it, or as at cycle 0: the values in hand are those last set, and a run gives each of
-- its cycles a copy of the values in hand as the run found them.
use Prim.Native.Nat.{ℕ, zero, suc}
use mathlib.Core.Path.{◌≡◌, refl, ◌∙◌, ap, fun_ext}
use mathlib.Core.Bool.{Bool, true, false}
use mathlib.Core.List.{List, [], ◌∷◌, ◌++◌}
use lib.ListN.{replicate}
use Rattle.model.specs.Refusal.{Check, pass, fail}
use Rattle.model.specs.Network.{Network}
use Rattle.model.specs.Session.{plain, watched, Head, fresh, Call, set, watch, read, run, Lengths, Lent, Run, unless_stopped, runs, replaced, lent_check, running, perform, meet, outcome, cycles_done, plain_after, set_by, last_set, rows_set}

-- a copy more, in front or behind
pub copies_more : (row : ℕ → ℕ) (k : ℕ) (rows : List (ℕ → ℕ)) → replicate k row ++ row ∷ rows ≡ row ∷ (replicate k row ++ rows)
copies_more row zero rows = refl
copies_more row (suc k) rows = ap (λ (l : List (ℕ → ℕ)). row ∷ l) (copies_more row k rows)

-- the rows that a run makes of row
module _ (row : ℕ → ℕ) (stops : List (ℕ → ℕ) → Bool) where
  abbrev pub Copies : List (ℕ → ℕ) → Run (List (ℕ → ℕ)) → Type 0
  Copies rows r = r.state ≡ replicate r.count row ++ rows

  stop_copies : (t : Bool) (rows : List (ℕ → ℕ)) (r : Run (List (ℕ → ℕ))) → Copies (row ∷ rows) r → Copies rows (unless_stopped t (row ∷ rows) r)
  unfolding unless_stopped
  stop_copies true rows r h = refl
  stop_copies false rows r h = h ∙ copies_more row r.count rows

  pub run_copies : (k : ℕ) (rows : List (ℕ → ℕ)) → Copies rows (runs (λ y. row ∷ y) stops k rows)
  unfolding runs
  run_copies zero rows = refl
  run_copies (suc k) rows = stop_copies (stops (row ∷ rows)) rows (runs (λ y. row ∷ y) stops k (row ∷ rows)) (run_copies k (row ∷ rows))

module _ (fixed : Lengths) (n : Network) (given : ℕ → ℕ) (table : List (ℕ → ℕ) → ℕ → ℕ) where
  meet_rows : (h : Head) (rows : List (ℕ → ℕ)) (c : Call) (k : Check)
      → (meet fixed n (plain table) h rows c k).state
      ≡ replicate (cycles_done (meet fixed n (plain table) h rows c k).answer) h.hand ++ rows
  unfolding meet perform running cycles_done
  meet_rows h rows c (fail x y) = refl
  meet_rows h rows (set s v) pass = refl
  meet_rows h rows (watch s mask) pass = refl
  meet_rows h rows (read s) pass = refl
  meet_rows h rows (run k) pass = run_copies h.hand (λ y. watched h.watch.mask (table y h.watch.signal)) k rows

  meet_hand : (h : Head) (rows : List (ℕ → ℕ)) (c : Call) (k : Check) (s : ℕ)
      → (meet fixed n (plain table) h rows c k).head.hand s ≡ set_by c k s (h.hand s)
  unfolding meet perform set_by replaced
  meet_hand h rows (set x v) (fail a b) s = refl
  meet_hand h rows (watch x mask) (fail a b) s = refl
  meet_hand h rows (read x) (fail a b) s = refl
  meet_hand h rows (run x) (fail a b) s = refl
  meet_hand h rows (set x v) pass s = refl
  meet_hand h rows (watch x mask) pass s = refl
  meet_hand h rows (read x) pass s = refl
  meet_hand h rows (run x) pass s = refl

  -- a call's rows: those that it found, and a copy of the values in hand for each cycle that it did
  pub call_rows : (c : Lent) (before : List Lent)
      → (plain_after fixed n given table (c ∷ before)).state
      ≡ replicate (cycles_done (plain_after fixed n given table (c ∷ before)).answer) (plain_after fixed n given table before).head.hand
      ++ (plain_after fixed n given table before).state
  unfolding plain_after outcome
  call_rows c before =
      let s = plain_after fixed n given table before in
      meet_rows s.head s.state c.call (lent_check fixed n s.head.finished c)

  -- the values in hand are those last set
  pub hand_last_set : (calls : List Lent) (s : ℕ) → (plain_after fixed n given table calls).head.hand s ≡ last_set fixed n given table calls s
  unfolding plain_after outcome last_set fresh
  hand_last_set [] s = refl
  hand_last_set (c ∷ before) s =
      let p = plain_after fixed n given table before in
      let k = lent_check fixed n p.head.finished c in
      meet_hand p.head p.state c.call k s ∙ ap (set_by c.call k s) (hand_last_set before s)

  no_rows : (plain_after fixed n given table []).state ≡ []
  unfolding plain_after
  no_rows = refl

  -- "each input taken in every cycle as last set before it, or as at cycle 0 if not set by then": the plain session's rows
  pub rows_last_set : (calls : List Lent) → (plain_after fixed n given table calls).state ≡ rows_set fixed n given table calls
  unfolding rows_set
  rows_last_set [] = no_rows
  rows_last_set (c ∷ before) =
      call_rows c before
      ∙ ap (λ (row : ℕ → ℕ). replicate (cycles_done (plain_after fixed n given table (c ∷ before)).answer) row ++ (plain_after fixed n given table before).state)
      (fun_ext (hand_last_set before))
      ∙ ap (λ (rows : List (ℕ → ℕ)). replicate (cycles_done (plain_after fixed n given table (c ∷ before)).answer) (last_set fixed n given table before) ++ rows)
      (rows_last_set before)
