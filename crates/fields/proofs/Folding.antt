-- What `try_fold` answers, where each call of its closure scans a column: the scan of the columns, as far as there is one.
use mathlib.Core.Path.{◌≡◌, refl, sym, ap, subst, ◌∙◌}
use mathlib.Core.List.{List, [], ◌∷◌}
use Prim.Native.Nat.{ℕ}
use denote.Param.Members.{Mut}
use Rattle.std.specs.Prelude.{Option, Some, None}
use Rattle.std.specs.Fn.{Called}
use Rattle.std.specs.Iterator.{Yields, YieldsThen, AlwaysYields}
use Rattle.std.specs.List.{FoldsTo}
use Rattle.std.specs.Option.{MatchOption}
use Rattle.std.proofs.lemmas.Iterator.{YieldsList}
use Rattle.fields.specs.Scan.{scan, scans_on, scans}
use Rattle.fields.specs.declared.Scan.{Scan}

-- a turn that goes on
abbrev Turn : {A F : Type 0} → Mut F (Scan × (A × Unit {0})) (Option Scan) → F × Scan → A → F × Scan → Type 0
Turn g p x q = (w : Option Scan) × Called g p.0 (p.1, (x, tt)) w q.0 × (w ≡ Some q.1)

module _ {A F S : Type 0} (steps : S → Option A → S → Type 0) (v : A → ℕ) (g : Mut F (Scan × (A × Unit {0})) (Option Scan)) (f : F)
    (calls : (a : Scan) (x : A) (b : Option Scan) (q : F) → Called g f (a, (x, tt)) b q → (q ≡ f) × (b ≡ scan a (v x))) where
  folded : (E : Type 0) (xs : List A) (o : Option A) (p q : F × Scan) (s t u : S) (all : List ℕ) (r : Option Scan) → p.0 ≡ f
      → AlwaysYields steps v s all → Yields steps s xs t → steps t o u → FoldsTo {P = F × Scan} (Turn g) p xs q
      → MatchOption o (r ≡ Some q.1) (λ x. (w : Option Scan) × (h : F) × (e : E) × Called g q.0 (q.1, (x, tt)) w h × (w ≡ None) × (r ≡ None))
      → r ≡ scans p.1 all
  unfolding scans_on
  folded E [] None p q s t u [] r at gives y n turns end = end ∙ ap (λ (z : F × Scan). Some z.1) (sym turns)
  folded E [] None p q s t u (z ∷ all) r at gives y n turns end = absurd (gives.0 u (subst (λ (k : S). steps k None u) (sym y) n))
  folded E [] (Some x) p q s t u [] r at gives y n turns end = absurd (gives x u (subst (λ (k : S). steps k (Some x) u) (sym y) n))
  folded E [] (Some x) p q s t u (z ∷ all) r at gives y n turns end =
      let here = gives.1 x u (subst (λ (k : S). steps k (Some x) u) (sym y) n) in
      let same = ap (λ (z : F × Scan). z.0) (sym turns) ∙ at in
      let call = calls q.1 x end.0 end.1 (subst (λ (k : F). Called g k (q.1, (x, tt)) end.0 end.1) same end.3) in
      let none : scan p.1 z ≡ None = ap (λ (w : F × Scan). scan w.1 z) turns ∙ ap (scan q.1) (sym here.0) ∙ sym call.1 ∙ end.4 in
      end.5 ∙ sym (ap (λ (w : Option Scan). scans_on w all) none)
  folded E (x ∷ xs) o p q s t u [] r at gives y n turns end = absurd (gives x y.0 y.1)
  folded E (x ∷ xs) o p q s t u (z ∷ all) r at gives y n turns end =
      let here = gives.1 x y.0 y.1 in
      let call = calls p.1 x turns.1.0 turns.0.0 (subst (λ (k : F). Called g k (p.1, (x, tt)) turns.1.0 turns.0.0) at turns.1.1) in
      let some : scan p.1 z ≡ Some turns.0.1 = ap (scan p.1) (sym here.0) ∙ sym call.1 ∙ turns.1.2 in
      folded E xs o turns.0 q y.0 t u all r call.0 here.1 y.2 n turns.2 end ∙ sym (ap (λ (w : Option Scan). scans_on w all) some)

-- by what the call says that ran, and by what each call of the closure answers
pub scanned : {A F S E : Type 0} {steps : S → Option A → S → Type 0} {v : A → ℕ} {g : Mut F (Scan × (A × Unit {0})) (Option Scan)} {f : F}
    {s : S} {all : List ℕ} {r : Option Scan} (init : Scan) (u : S)
    → (xs : List A) × (o : Option A) × (q : F) × (a : Scan) × YieldsThen steps s xs o u × FoldsTo {P = F × Scan} (Turn g) (f, init) xs (q, a)
    × MatchOption o (r ≡ Some a) (λ x. (w : Option Scan) × (h : F) × (e : E) × Called g q (a, (x, tt)) w h × (w ≡ None) × (r ≡ None))
    → YieldsList steps v s all
    → ((a : Scan) (x : A) (b : Option Scan) (q : F) → Called g f (a, (x, tt)) b q → (q ≡ f) × (b ≡ scan a (v x)))
    → r ≡ scans init all
scanned {E = E} {steps = steps} {v = v} {g = g} {f = f} {s = s} {all = all} {r = r} init u ran given calls =
    folded steps v g f calls E ran.0 ran.1 (f, init) (ran.2, ran.3) s ran.4.0 u all r refl given.runs ran.4.1 ran.4.2 ran.5 ran.6
