-- What pushing feeders keeps: the stack's room, and that the search goes down.
use Prim.Native.Nat.{ℕ, ◌+◌, ◌*◌, ◌≤◌, ◌<◌}
use mathlib.Core.Path.{◌≡◌, refl, ap₂, ◌∙◌}
use mathlib.Core.Bool.{Bool, true, false}
use mathlib.Core.List.{List, ◌∷◌}
use native.Mathlib.Omega.{arith}
use native.Mathlib.Numerals.{add-one}
use lib.Dec.{eqb}
use lib.ListN.{length, get_or, set, length-set}
use lib.Seq.{get_or-set_same}
use borrow.Author.Tests.{eqb-true, eqb-false, eq-eqb, ne_eqb}
use Rattle.std.specs.Prelude.{if◌then◌else◌}
use Rattle.graph_ranks.specs.Graph.{places}
use Rattle.graph_chains.specs.Search.{State, state, unmarked, Room, pushed, pushed_to}
use Rattle.graph_ranks.proofs.Stores.{read_cases}
use Rattle.graph_chains.proofs.Unmarked.{unmarked_filled}

-- x has a mark, x has none
abbrev pub Marked : List Bool → ℕ → Type 0
Marked marks x = get_or marks x false ≡ true

abbrev pub Bare : List Bool → ℕ → Type 0
Bare marks x = get_or marks x false ≡ false

-- x is stacked
abbrev pub stacked : State → ℕ → State
stacked at x = state (set at.marks x true) (x ∷ at.stack)

-- x is none, has a mark, or is stacked
pub push_cases : (P : State → Type 0) (at : State) (x : ℕ) → (x ≡ 0 → P at) → (Marked at.marks x → P at)
    → (1 ≤ x → Bare at.marks x → P (stacked at x)) → P (pushed at x)
unfolding pushed
push_cases P at x none old new = go (eqb x 0) (get_or at.marks x false) refl refl
  where
    go : (b c : Bool) → eqb x 0 ≡ b → get_or at.marks x false ≡ c → P (if b then at else if c then at else stacked at x)
    go true c e f = none (eqb-true x 0 e)
    go false true e f = old f
    go false false e f = let real = eqb-false x 0 e in new (omega arith) f

pub stack_room : (at : State) (x : ℕ) → x < places → Room at → Bare at.marks x → Room (stacked at x)
stack_room at x h r e = record {
  marks_long = length-set at.marks x true ∙ r.marks_long;
  left = omega (arith, r.left, unmarked_filled at.marks x (omega (arith, r.marks_long)) e);
}

pub push_room : (at : State) (x : ℕ) → x < places → Room at → Room (pushed at x)
push_room at x h r = push_cases Room at x (λ e. r) (λ e. r) (λ real e. stack_room at x h r e)

-- a mark stays
pub mark_stays : (marks : List Bool) (x z : ℕ) → x < length marks → Marked marks z → Marked (set marks x true) z
mark_stays marks x z h m = read_cases (λ _ v. v ≡ true) marks x true false h refl z (λ _. m)

pub push_stays : (at : State) (x z : ℕ) → x < places → Room at → Marked at.marks z → Marked (pushed at x).marks z
push_stays at x z h r m =
    push_cases (λ (a : State). Marked a.marks z) at x (λ e. m) (λ e. m)
    (λ real e. mark_stays at.marks x z (omega (arith, r.marks_long)) m)

-- x has its mark
pub push_marks : (at : State) (x : ℕ) → x < places → Room at → 1 ≤ x → Marked (pushed at x).marks x
push_marks at x h r l =
    push_cases (λ (a : State). Marked a.marks x) at x (λ (e : x ≡ 0). absurd (omega arith)) (λ m. m)
    (λ real e. get_or-set_same at.marks x true false (omega (arith, r.marks_long)))

-- what is left of the search: each node with no mark counts twice, each node on the stack once
abbrev pub left_over : State → ℕ
left_over at = 2 * unmarked at.marks + length at.stack

pub push_less : (at : State) (x : ℕ) → x < places → Room at → left_over (pushed at x) ≤ left_over at
push_less at x h r =
    push_cases (λ (a : State). left_over a ≤ left_over at) at x (λ e. omega arith) (λ e. omega arith)
    (λ real e. omega (arith, unmarked_filled at.marks x (omega (arith, r.marks_long)) e))

pub push_none : (at : State) (x : ℕ) → x ≡ 0 → at ≡ pushed at x
unfolding pushed
push_none at x e = rw (eq-eqb x 0 e)

pub push_old : (at : State) (x : ℕ) → (x ≡ 0 → ⊥) → Marked at.marks x → at ≡ pushed at x
unfolding pushed
push_old at x e f = rw (ne_eqb x 0 e, f)

pub push_new : (at : State) (x : ℕ) → (x ≡ 0 → ⊥) → Bare at.marks x → stacked at x ≡ pushed at x
unfolding pushed
push_new at x e f = rw (ne_eqb x 0 e, f)

-- one more feeder
pub push_more : (edges : List ℕ) (at now next : State) (y j x : ℕ) → now ≡ pushed_to edges at y j → x ≡ get_or edges (4 * y + j) 0
    → next ≡ pushed now x → next ≡ pushed_to edges at y (j + 1)
unfolding pushed_to
push_more edges at now next y j x e f p = rw add-one (p ∙ ap₂ pushed e f)
