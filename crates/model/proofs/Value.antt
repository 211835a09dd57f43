-- VAL follows the rules of 01, no other table does, and it gives codes on codes. The first two go by induction on the walks of
-- `Chains.antt`: a source of a rank-order gate ends shorter walks than the gate, and where no chain is closed no walk has N steps.
use Prim.Native.Nat.{ℕ, zero, suc, ◌≤◌, ◌<◌}
use mathlib.Core.Path.{◌≡◌, refl, sym, subst, ◌∙◌}
use mathlib.Core.Bool.{Bool, true, false}
use mathlib.Core.List.{List, [], ◌∷◌}
use mathlib.Core.Logic.{⊎_elim}
use native.Mathlib.Omega.{arith}
use native.Mathlib.Decide.{ℕ_discrete}
use lib.Dec.{eqb}
use lib.ListN.{length}
use borrow.Author.Tests.{eqb-true, eq-eqb, ne_eqb}
use Rattle.std.specs.Prelude.{if◌then◌else◌}
use Rattle.gates.specs.Value.{Code}
use Rattle.gates.proofs.Legal.{gate_code}
use Rattle.model.specs.Network.{Network, Signal, input, rank_order}
use Rattle.model.specs.Netlist.{network, codes}
use Rattle.model.specs.Value.{value_of, evaluate, Step, start, Follows, driven, settle, next, VAL, history, FollowsAlways}
use Rattle.model.proofs.Conditions.{Formed, Acyclic, Same}
use Rattle.model.proofs.Chains.{Walk, here, on, walk_signal, walk_rank, no_long_walk}

value_of_same : (v w : ℕ → ℕ) (x : ℕ) → (1 ≤ x → v x ≡ w x) → value_of v x ≡ value_of w x
value_of_same v w zero h = refl
value_of_same v w (suc x) h = h (omega arith)

-- a gate's value depends on its sources alone
pub evaluate_same : (n : Network) (v w : ℕ → ℕ) (s : ℕ)
    → ((j : ℕ) → j < 4 → 1 ≤ n.source s j → v (n.source s j) ≡ w (n.source s j)) → evaluate n v s ≡ evaluate n w s
unfolding evaluate
evaluate_same n v w s h = cc (at 0 (omega arith), at 1 (omega arith), at 2 (omega arith), at 3 (omega arith))
  where
    at : (j : ℕ) → j < 4 → value_of v (n.source s j) ≡ value_of w (n.source s j)
    at j l = value_of_same v w (n.source s j) (h j l)

module _ (n : Network) (base : ℕ → ℕ) where
  settle_other : (d s : ℕ) → (n.kind s ≡ rank_order → ⊥) → settle n base d s ≡ base s
  unfolding settle
  settle_other zero s k = refl
  settle_other (suc d) s k = rw (ne_eqb (n.kind s) rank_order k, settle)

  settle_rank : (d s : ℕ) → n.kind s ≡ rank_order → settle n base (suc d) s ≡ evaluate n (settle n base d) s
  unfolding settle
  settle_rank d s k = rw (k, settle)

-- what is known of time 0 without its text: an input starts with its given value, and equal given values start alike
module _ (n : Network) where
  pub start_input : (given : ℕ → ℕ) (s : ℕ) → Signal n s → n.kind s ≡ input → start n given s ≡ given s
  unfolding start
  start_input given s g k = refl

  -- "At t = 0 every signal has its given value": what the code that makes time 0 goes by, and nobody else
  pub start_given : (given : ℕ → ℕ) (s : ℕ) → start n given s ≡ given s
  unfolding start
  start_given given s = refl

  pub start_same : (given given' : ℕ → ℕ) → Same n given given' → Same n (start n given) (start n given')
  unfolding start
  start_same given given' same = same

-- two rows agree on the inputs
abbrev pub SameInputs : Network → (ℕ → ℕ) → (ℕ → ℕ) → Type 0
SameInputs n row row' = (s : ℕ) → Signal n s → n.kind s ≡ input → row s ≡ row' s

-- two lists of rows agree on the inputs, row by row
pub data SameRows (n : Network) : List (ℕ → ℕ) → List (ℕ → ℕ) → Type 0 where
  same_none : SameRows n [] []
  same_more : {row row' : ℕ → ℕ} {rows rows' : List (ℕ → ℕ)} → SameInputs n row row' → SameRows n rows rows'
      → SameRows n (row ∷ rows) (row' ∷ rows')

-- a list of rows, the last first, by the number of the cycle
row_of : List (ℕ → ℕ) → ℕ → ℕ → ℕ
row_of [] t = λ s. 0
row_of (row ∷ rows) t = if eqb t (suc (length rows)) then row else row_of rows t

earlier_rows : (row : ℕ → ℕ) (rows : List (ℕ → ℕ)) (t : ℕ) → t ≤ length rows → history (row_of (row ∷ rows)) t ≡ history (row_of rows) t
unfolding history row_of
earlier_rows row rows zero h = refl
earlier_rows row rows (suc t) h =
    rw (ne_eqb (suc t) (suc (length rows)) (λ (e : suc t ≡ suc (length rows)). omega arith), earlier_rows row rows t (omega arith))

rows_back : (rows : List (ℕ → ℕ)) → history (row_of rows) (length rows) ≡ rows
unfolding history row_of
rows_back [] = refl
rows_back (row ∷ rows) = rw (eq-eqb (suc (length rows)) (suc (length rows)) refl, earlier_rows row rows (length rows) (omega arith), rows_back rows)

-- no walk of d steps ends at s
abbrev pub Within : Network → ℕ → ℕ → Type 0
Within n d s = (a : ℕ) → Walk n d a s → ⊥

module _ (n : Network) (formed : Formed n) where
  pub source_signal : (s j : ℕ) → Signal n s → j < 4 → 1 ≤ n.source s j → Signal n (n.source s j)
  source_signal s j g l low = record { low = low; high = formed.sources s j g l }

  pub evaluate_signals : (v w : ℕ → ℕ) → Same n v w → (s : ℕ) → Signal n s → evaluate n v s ≡ evaluate n w s
  evaluate_signals v w same s g = evaluate_same n v w s (λ j l low. same (n.source s j) (source_signal s j g l low))

  -- walks to a source are shorter
  source_within : (s j d : ℕ) → Signal n s → n.kind s ≡ rank_order → j < 4 → Within n (suc d) s → Within n d (n.source s j)
  source_within s j d g k l within a w =
      within a
      (on w
      (record {
        from = walk_signal n w;
        to = g;
        from_rank = walk_rank n w;
        to_rank = k;
        index = j;
        small = l;
        is_source = refl;
      }))

  -- by induction on the walks to s: what holds of all but rank-order gates, and of a rank-order gate if of its sources, holds of s
  pub by_walks : (P : ℕ → ℕ → Type 0)
      → ((d s : ℕ) → Signal n s → (n.kind s ≡ rank_order → ⊥) → P d s)
      → ((d s : ℕ) → Signal n s → n.kind s ≡ rank_order → ((j : ℕ) → j < 4 → 1 ≤ n.source s j → P d (n.source s j)) → P (suc d) s)
      → (d s : ℕ) → Signal n s → Within n d s → P d s
  by_walks P other rank zero s g within = other 0 s g (λ k. within s (here g k))
  by_walks P other rank (suc d) s g within =
      elim (ℕ_discrete (n.kind s) rank_order) [
        | yes k ↦
            rank d s g k
            (λ j l low. by_walks P other rank d (n.source s j) (source_signal s j g l low) (source_within s j d g k l within))
        | no k ↦ other (suc d) s g k
      ]

  -- one round more changes nothing
  settle_more : (base : ℕ → ℕ) (d s : ℕ) → Signal n s → Within n d s → settle n base d s ≡ settle n base (suc d) s
  settle_more base =
      by_walks (λ d s. settle n base d s ≡ settle n base (suc d) s)
      (λ d s g k. settle_other n base d s k ∙ sym (settle_other n base (suc d) s k))
      (λ d s g k sources.
      settle_rank n base d s k
      ∙ evaluate_same n (settle n base d) (settle n base (suc d)) s sources
      ∙ sym (settle_rank n base (suc d) s k))

  module _ (acyclic : Acyclic n) where
    pub within : (s : ℕ) → Within n n.size s
    within s a w = no_long_walk n acyclic w

    -- the state computed follows the rules, for N rounds settle every signal
    pub next_step : (row a : ℕ → ℕ) → Step n row a (next n row a)
    unfolding next driven
    next_step row a =
        let base = driven n row a in
        record {
          input_rule = λ s g k. settle_other n base (suc n.size) s (λ (z : n.kind s ≡ rank_order). omega arith) ∙ rw k;
          unit_rule = λ s g k. settle_other n base (suc n.size) s (λ (z : n.kind s ≡ rank_order). omega arith) ∙ rw k;
          rank_rule = λ s g k.
              settle_rank n base n.size s k
              ∙ evaluate_signals (settle n base n.size) (next n row a) (λ x h. settle_more base n.size x h (within x)) s g;
        }

    -- and states that follow them from states and rows that agree, agree
    module _ (row row' a c b d : ℕ → ℕ) (inputs : SameInputs n row row') (same : Same n a c) (sb : Step n row a b) (sd : Step n row' c d) where
      others_same : (s : ℕ) → Signal n s → (n.kind s ≡ rank_order → ⊥) → b s ≡ d s
      others_same s g other =
          ⊎_elim
          (λ k. sb.input_rule s g k ∙ inputs s g k ∙ sym (sd.input_rule s g k))
          (⊎_elim (λ k. sb.unit_rule s g k ∙ evaluate_signals a c same s g ∙ sym (sd.unit_rule s g k)) (λ k. absurd (other k)))
          (formed.kinds s g)

      pub step_same : Same n b d
      step_same s g =
          by_walks (λ i s. b s ≡ d s)
          (λ i. others_same)
          (λ i s g k sources. sb.rank_rule s g k ∙ evaluate_same n b d s sources ∙ sym (sd.rank_rule s g k))
          n.size s g (within s)

    pub step_unique : (row a c b d : ℕ → ℕ) → Same n a c → Step n row a b → Step n row c d → Same n b d
    step_unique row a c b d = step_same row row a c b d (λ s g k. refl)

    pub VAL_follows : (given : ℕ → ℕ) (row : ℕ → ℕ → ℕ) → Follows n given row (λ t. VAL n given (history row t))
    unfolding VAL history
    VAL_follows given row =
        record {
          at_start = λ s g. refl;
          at_step = λ t. next_step (row (suc t)) (VAL n given (history row t));
        }

    pub VAL_unique : (given : ℕ → ℕ) (row table : ℕ → ℕ → ℕ) → Follows n given row table
        → (t s : ℕ) → Signal n s → table t s ≡ VAL n given (history row t) s
    VAL_unique given row table follows zero s g = follows.at_start s g ∙ sym ((VAL_follows given row).at_start s g)
    VAL_unique given row table follows (suc t) s g =
        step_unique (row (suc t)) (table t) (VAL n given (history row t)) (table (suc t)) (VAL n given (history row (suc t)))
        (VAL_unique given row table follows t) (follows.at_step t) ((VAL_follows given row).at_step t) s g

    -- values that follow the rules whatever the inputs are, are VAL
    pub table_unique : (given : ℕ → ℕ) (table : List (ℕ → ℕ) → ℕ → ℕ) → FollowsAlways n given table
        → (rows : List (ℕ → ℕ)) → Same n (table rows) (VAL n given rows)
    table_unique given table follows rows s g =
        subst (λ (r : List (ℕ → ℕ)). table r s ≡ VAL n given r s) (rows_back rows)
        (VAL_unique given (row_of rows) (λ t. table (history (row_of rows) t)) (follows (row_of rows)) (length rows) s g)

    pub VAL_same : (given given' : ℕ → ℕ) → Same n given given' → {rows rows' : List (ℕ → ℕ)} → SameRows n rows rows'
        → Same n (VAL n given rows) (VAL n given' rows')
    unfolding VAL
    VAL_same given given' same same_none s g = start_same n given given' same s g
    VAL_same given given' same (same_more {row} {row'} {rows} {rows'} inputs rest) s g =
        step_same row row' (VAL n given rows) (VAL n given' rows') (next n row (VAL n given rows)) (next n row' (VAL n given' rows'))
        inputs (VAL_same given given' same rest) (next_step row (VAL n given rows)) (next_step row' (VAL n given' rows')) s g

-- a state holds codes
abbrev pub Codes : Network → (ℕ → ℕ) → Type 0
Codes n v = (s : ℕ) → Signal n s → Code (v s)

-- codes start as codes
pub start_code : (n : Network) (given : ℕ → ℕ) → Codes n given → Codes n (start n given)
unfolding start
start_code n given h = h

-- a row holds codes for the inputs, and every row of a list does
abbrev pub InputCodes : Network → (ℕ → ℕ) → Type 0
InputCodes n row = (s : ℕ) → Signal n s → n.kind s ≡ input → Code (row s)

pub data CodeRows (n : Network) : List (ℕ → ℕ) → Type 0 where
  code_none : CodeRows n []
  code_more : {row : ℕ → ℕ} {rows : List (ℕ → ℕ)} → InputCodes n row → CodeRows n rows → CodeRows n (row ∷ rows)

-- every gate gives a code on codes
abbrev pub CodeGates : Network → Type 0
CodeGates n = (s a b c d : ℕ) → Code a → Code b → Code c → Code d → Code (n.gate s a b c d)

pub network_code : (net : List ℕ) → CodeGates (network net)
unfolding network
network_code net s a b c d = gate_code (codes net s)

value_of_code : (v : ℕ → ℕ) (x : ℕ) → (1 ≤ x → Code (v x)) → Code (value_of v x)
value_of_code v zero h = omega arith
value_of_code v (suc x) h = h (omega arith)

module _ (n : Network) (formed : Formed n) (gates : CodeGates n) where
  evaluate_code : (v : ℕ → ℕ) → Codes n v → Codes n (evaluate n v)
  unfolding evaluate
  evaluate_code v h s g = gates s _ _ _ _ (at 0 (omega arith)) (at 1 (omega arith)) (at 2 (omega arith)) (at 3 (omega arith))
    where
      at : (j : ℕ) → j < 4 → Code (value_of v (n.source s j))
      at j l = value_of_code v (n.source s j) (λ low. h (n.source s j) (source_signal n formed s j g l low))

  driven_code : (row a : ℕ → ℕ) → InputCodes n row → Codes n a → Codes n (driven n row a)
  unfolding driven
  driven_code row a inputs h s g = go (eqb (n.kind s) input) refl
    where
      go : (b : Bool) → eqb (n.kind s) input ≡ b → Code (if b then row s else evaluate n a s)
      go true e = inputs s g (eqb-true (n.kind s) input e)
      go false e = evaluate_code a h s g

  settle_code : (base : ℕ → ℕ) → Codes n base → (d : ℕ) → Codes n (settle n base d)
  unfolding settle
  settle_code base h zero s g = h s g
  settle_code base h (suc d) s g =
      elim (ℕ_discrete (n.kind s) rank_order) as (λ w. Code (settle n base (suc d) s)) [
        | yes k ↦ rw (settle_rank n base d s k) (evaluate_code (settle n base d) (settle_code base h d) s g)
        | no k ↦ rw (settle_other n base (suc d) s k) (h s g)
      ]

  pub VAL_code : (given : ℕ → ℕ) → Codes n given → {rows : List (ℕ → ℕ)} → CodeRows n rows → Codes n (VAL n given rows)
  unfolding VAL next
  VAL_code given h code_none = start_code n given h
  VAL_code given h (code_more {row} {rows} inputs rest) =
      settle_code (driven n row (VAL n given rows)) (driven_code row (VAL n given rows) inputs (VAL_code given h rest)) (suc n.size)
