-- Refusal 13 is exact: the test finds a closed chain through s exactly when there is one, and the check returns the smallest such
-- signal. A chain is read as a walk with its steps counted. A walk of N steps or more meets a gate twice, for it has more gates than
-- the network (the pigeon-hole), so it can be cut short: what the test finds by its bounded search is all there is. And where no
-- chain is closed, no walk has N steps.
use Prim.Native.Nat.{ℕ, zero, suc, pred, ◌≤◌, ◌<◌}
use mathlib.Core.Path.{◌≡◌, refl, sym, subst, ◌∙◌}
use mathlib.Core.Bool.{Bool, true, false, not, true≢false}
use mathlib.Core.List.{List}
use mathlib.Core.Logic.{⊎_elim}
use native.Mathlib.Omega.{arith}
use native.Mathlib.Decide.{dec_le}
use lib.Dec.{eqb, leb}
use borrow.Author.Tests.{eqb-true, eq-eqb, leb-true, le-leb, not-true, not-false}
use Rattle.logic.specs.Test.{◌and◌, ◌or◌, any}
use Rattle.logic.proofs.Tests.{and_true, and_left, and_right, or_cases, or_left, or_right}
use Rattle.logic.proofs.Any.{any_passes, any_true}
use Rattle.logic.proofs.Pigeon.{pigeon}
use Rattle.model.specs.Refusal.{Check, pass, fail, unless, first_below}
use Rattle.model.specs.Network.{Network, Signal, is_signal, rank_order, Feeds, Chain, one, more, OnClosedChain}
use Rattle.model.specs.Netlist.{network, feeds, chains, on_closed_chain, net_surplus, net_chains, net_check}
use Rattle.model.proofs.Conditions.{Acyclic}
use Rattle.model.proofs.Refusals.{first_right, unless_true, unless_pass, unless_false, below_pass, below_all, below_fail, below_first}

lazy_or : (a b : Bool) → ◌≡◌ {A = Bool} (elim a [ true ↦ true | false ↦ b ]) (a or b)
unfolding ◌or◌
lazy_or true b = refl
lazy_or false b = refl

lazy_and : (a b : Bool) → ◌≡◌ {A = Bool} (elim a [ true ↦ b | false ↦ false ]) (a and b)
unfolding ◌and◌
lazy_and true b = refl
lazy_and false b = refl

abbrev is_rank : Network → ℕ → Bool
is_rank n s = is_signal n s and eqb (n.kind s) rank_order

-- a walk of d steps along rank-order gates from a to b
pub data Walk (n : Network) : ℕ → ℕ → ℕ → Type 0 where
  here : {s : ℕ} → Signal n s → n.kind s ≡ rank_order → Walk n 0 s s
  on : {d a b c : ℕ} → Walk n d a b → Feeds n b c → Walk n (suc d) a c

-- a walk shorter than d
record Shorter (n : Network) (d a b : ℕ) : Type 0 where
  length : ℕ
  less : length < d
  walk : Walk n length a b

-- what a walk of d steps has that meets a gate twice: a closed chain through that gate, without which it is shorter
record Meets (n : Network) (d a b : ℕ) : Type 0 where
  gate : ℕ
  closed : OnClosedChain n gate
  without : Shorter n d a b

-- a chain is a walk and one step more
record Stepping (n : Network) (a c : ℕ) : Type 0 where
  length : ℕ
  gate : ℕ
  walk : Walk n length a gate
  last : Feeds n gate c

module _ (n : Network) where
  pub signal_true : (s : ℕ) → is_signal n s ≡ true → Signal n s
  unfolding is_signal
  signal_true s e =
      record {
        low = leb-true 1 s (and_left (leb 1 s) (leb s n.size) e);
        high = leb-true s n.size (and_right (leb 1 s) (leb s n.size) e);
      }

  pub signal_test : (s : ℕ) → Signal n s → is_signal n s ≡ true
  unfolding is_signal
  signal_test s g = and_true (leb 1 s) (leb s n.size) (le-leb 1 s g.low) (le-leb s n.size g.high)

  rank_signal : (s : ℕ) → is_rank n s ≡ true → Signal n s
  rank_signal s e = signal_true s (and_left (is_signal n s) (eqb (n.kind s) rank_order) e)

  rank_kind : (s : ℕ) → is_rank n s ≡ true → n.kind s ≡ rank_order
  rank_kind s e = eqb-true (n.kind s) rank_order (and_right (is_signal n s) (eqb (n.kind s) rank_order) e)

  rank_test : (s : ℕ) → Signal n s → n.kind s ≡ rank_order → is_rank n s ≡ true
  rank_test s g k = and_true (is_signal n s) (eqb (n.kind s) rank_order) (signal_test s g) (eq-eqb (n.kind s) rank_order k)

  feeds_true : (a b : ℕ) → feeds n a b ≡ true → Feeds n a b
  unfolding feeds
  feeds_true a b e =
      let source : ℕ → Bool = λ j. eqb (n.source b j) a in
      let from = and_left (is_rank n a) (is_rank n b and any 4 source) e in
      let rest = and_right (is_rank n a) (is_rank n b and any 4 source) e in
      let to = and_left (is_rank n b) (any 4 source) rest in
      let r = any_passes source 4 (and_right (is_rank n b) (any 4 source) rest) in
      record {
        from = rank_signal a from;
        to = rank_signal b to;
        from_rank = rank_kind a from;
        to_rank = rank_kind b to;
        index = r.at;
        small = r.low;
        is_source = eqb-true (n.source b r.at) a r.is;
      }

  feeds_test : (a b : ℕ) → Feeds n a b → feeds n a b ≡ true
  unfolding feeds
  feeds_test a b f =
      let source : ℕ → Bool = λ j. eqb (n.source b j) a in
      and_true (is_rank n a) (is_rank n b and any 4 source) (rank_test a f.from f.from_rank)
      (and_true (is_rank n b) (any 4 source) (rank_test b f.to f.to_rank)
      (any_true source 4 f.index f.small (eq-eqb (n.source b f.index) a f.is_source)))

  -- the search from b goes on at a source of b that feeds it
  onward : ℕ → ℕ → ℕ → ℕ → Bool
  onward d a b j = feeds n (n.source b j) b and chains n d a (n.source b j)

  chains_more : (d a b : ℕ) → chains n (suc d) a b ≡ feeds n a b or any 4 (onward d a b)
  unfolding chains onward
  chains_more d a b =
      λ i. lazy_or (feeds n a b) (any 4 (λ j. lazy_and (feeds n (n.source b j) b) (chains n d a (n.source b j)) i)) i

  -- the test finds only chains
  chains_true : (d a b : ℕ) → chains n d a b ≡ true → Chain n a b
  unfolding chains onward
  chains_true zero a b e = one (feeds_true a b e)
  chains_true (suc d) a b e =
      ⊎_elim
      (λ q. one (feeds_true a b q))
      (λ q.
      let r = any_passes (onward d a b) 4 q in
      let x = n.source b r.at in
      more (chains_true d a x (and_right (feeds n x b) (chains n d a x) r.is))
      (feeds_true x b (and_left (feeds n x b) (chains n d a x) r.is)))
      (or_cases (feeds n a b) (any 4 (onward d a b)) (sym (chains_more d a b) ∙ e))

  onward_test : (d a : ℕ) {b c : ℕ} (f : Feeds n b c) → chains n d a b ≡ true → onward d a c f.index ≡ true
  unfolding onward
  onward_test d a {b} {c} f e =
      subst (λ (x : ℕ). feeds n x c and chains n d a x ≡ true) (sym f.is_source)
      (and_true (feeds n b c) (chains n d a b) (feeds_test b c f) e)

  -- and it finds every short one
  walk_test : {d a b c : ℕ} → Walk n d a b → Feeds n b c → (k : ℕ) → d ≤ k → chains n k a c ≡ true
  unfolding chains
  walk_test {c} (here {s} g e) f zero h = feeds_test s c f
  walk_test {c} (here {s} g e) f (suc k) h =
      chains_more k s c ∙ or_left (feeds n s c) (any 4 (onward k s c)) (feeds_test s c f)
  walk_test (on w e) f zero h = absurd (omega arith)
  walk_test {a} {c} (on w e) f (suc k) h =
      chains_more k a c
      ∙ or_right (feeds n a c) (any 4 (onward k a c))
      (any_true (onward k a c) 4 f.index f.small (onward_test k a f (walk_test w e k (omega arith))))

  pub walk_signal : {d a b : ℕ} → Walk n d a b → Signal n b
  walk_signal (here g e) = g
  walk_signal (on w f) = f.to

  pub walk_rank : {d a b : ℕ} → Walk n d a b → n.kind b ≡ rank_order
  walk_rank (here g e) = e
  walk_rank (on w f) = f.to_rank

  -- the gate i steps before the end
  passed : {d a b : ℕ} → Walk n d a b → ℕ → ℕ
  passed {b} w zero = b
  passed (here g e) (suc i) = 0
  passed (on w f) (suc i) = passed w i

  passed_signal : {d a b : ℕ} (w : Walk n d a b) (i : ℕ) → i ≤ d → Signal n (passed w i)
  unfolding passed
  passed_signal w zero h = walk_signal w
  passed_signal (here g e) (suc i) h = absurd (omega arith)
  passed_signal (on w f) (suc i) h = passed_signal w i (omega arith)

  -- the walk up to that gate, and from it on with one step more
  walk_to_passed : {d a b : ℕ} (w : Walk n d a b) (i : ℕ) → i ≤ d → Shorter n (suc d) a (passed w i)
  unfolding passed
  walk_to_passed {d} w zero h = record { length = d; less = omega arith; walk = w }
  walk_to_passed (here g e) (suc i) h = absurd (omega arith)
  walk_to_passed (on w f) (suc i) h =
      let r = walk_to_passed w i (omega arith) in record { length = r.length; less = omega (arith, r.less); walk = r.walk }

  chain_from_passed : {d a b c : ℕ} (w : Walk n d a b) (i : ℕ) → i ≤ d → Feeds n b c → Chain n (passed w i) c
  unfolding passed
  chain_from_passed w zero h f = one f
  chain_from_passed (here g e) (suc i) h f = absurd (omega arith)
  chain_from_passed (on w e) (suc i) h f = more (chain_from_passed w i (omega arith) e) f

  passed_twice : {d a b : ℕ} (w : Walk n d a b) (i j : ℕ) → i < j → j ≤ d → passed w i ≡ passed w j → Meets n d a b
  unfolding passed
  passed_twice (here g e) i j h l q = absurd (omega arith)
  passed_twice (on w f) zero zero h l q = absurd (omega arith)
  passed_twice {d} {a} {b} (on w f) zero (suc j) h l q =
      record {
        gate = b;
        closed = subst (λ (x : ℕ). Chain n x b) (sym q) (chain_from_passed w j (omega arith) f);
        without = subst (λ (x : ℕ). Shorter n d a x) (sym q) (walk_to_passed w j (omega arith));
      }
  passed_twice (on w f) (suc i) zero h l q = absurd (omega arith)
  passed_twice (on w f) (suc i) (suc j) h l q =
      let r = passed_twice w i j (omega arith) (omega arith) q in
      let s = r.without in
      record {
        gate = r.gate;
        closed = r.closed;
        without = record { length = suc s.length; less = omega (arith, s.less); walk = on s.walk f };
      }

  -- the pigeon-hole
  long_walk_meets : {d a b : ℕ} → Walk n d a b → n.size ≤ d → Meets n d a b
  long_walk_meets w h =
      let r = pigeon n.size (λ i. pred (passed w i)) (λ i l. omega (arith, passed_signal w i (omega arith))) in
      passed_twice w r.i r.j r.less (omega (arith, r.last))
      (omega (arith, r.same, passed_signal w r.i (omega (arith, r.less, r.last)), passed_signal w r.j (omega (arith, r.last))))

  -- no walk is long where no chain is closed
  pub no_long_walk : Acyclic n → {a b : ℕ} → Walk n n.size a b → ⊥
  no_long_walk acyclic w = let r = long_walk_meets w (omega arith) in acyclic r.gate r.closed

  -- every walk has a short one beside it
  shortened : (k : ℕ) {d a b : ℕ} → d ≤ k → Walk n d a b → Shorter n (suc n.size) a b
  shortened zero {d} h w = record { length = d; less = omega arith; walk = w }
  shortened (suc k) {d} h w =
      elim (dec_le d n.size) [
        | yes l ↦ record { length = d; less = omega arith; walk = w }
        | no l ↦ let r = (long_walk_meets w (omega arith)).without in shortened k (omega (arith, r.less)) r.walk
      ]

  chain_stepping : {a c : ℕ} → Chain n a c → Stepping n a c
  chain_stepping {a} (one f) = record { length = 0; gate = a; walk = here f.from f.from_rank; last = f }
  chain_stepping (more {b} c f) =
      let r = chain_stepping c in record { length = suc r.length; gate = b; walk = on r.walk r.last; last = f }

  chain_test : {a b : ℕ} → Chain n a b → chains n n.size a b ≡ true
  chain_test c =
      let r = chain_stepping c in
      let s = shortened r.length (omega arith) r.walk in
      walk_test s.walk r.last n.size (omega (arith, s.less))

  pub chain_exact : (s : ℕ) → (on_closed_chain n s ≡ true → OnClosedChain n s) × (OnClosedChain n s → on_closed_chain n s ≡ true)
  unfolding on_closed_chain
  chain_exact s = (chains_true n.size s s, chain_test)

-- what 13 returns: the "smallest such signal"
pub record Smallest (n : Network) (s : ℕ) : Type 0 where
  pub closed : OnClosedChain n s
  pub no_smaller : (r : ℕ) → r < s → OnClosedChain n r → ⊥

pub chain_signal : {n : Network} {a b : ℕ} → Chain n a b → Signal n b
chain_signal (one f) = f.to
chain_signal (more c f) = f.to

module _ (n : Network) (s : ℕ) where
  open_true : not (on_closed_chain n s) ≡ true → OnClosedChain n s → ⊥
  open_true e c = true≢false (sym ((chain_exact n s).1 c) ∙ not-true (on_closed_chain n s) e)

  open_test : (OnClosedChain n s → ⊥) → not (on_closed_chain n s) ≡ true
  open_test none = go (on_closed_chain n s) refl
    where
      go : (b : Bool) → on_closed_chain n s ≡ b → not b ≡ true
      go true e = absurd (none ((chain_exact n s).0 e))
      go false e = refl

-- 13 of the signal k + 1, as `net_chains` has it
abbrev open_at : Network → ℕ → Check
open_at n k = unless (not (on_closed_chain n (suc k))) 13 (suc k)

module _ (n : Network) where
  open_pass : (s k : ℕ) → open_at n k ≡ pass → s ≡ suc k → OnClosedChain n s → ⊥
  open_pass s k e q c =
      open_true n (suc k) (unless_true (not (on_closed_chain n (suc k))) 13 (suc k) e) (subst (λ (x : ℕ). Chain n x x) q c)

  pass_acyclic : first_below n.size (open_at n) ≡ pass → Acyclic n
  pass_acyclic e s c =
      let g = chain_signal c in open_pass s (pred s) (below_pass n.size (open_at n) e (pred s) (omega arith)) (omega arith) c

  pass_open : (k : ℕ) → (OnClosedChain n (suc k) → ⊥) → open_at n k ≡ pass
  pass_open k none = unless_pass (not (on_closed_chain n (suc k))) 13 (suc k) (open_test n (suc k) none)

  acyclic_pass : Acyclic n → first_below n.size (open_at n) ≡ pass
  acyclic_pass acyclic = below_all n.size (open_at n) (λ k l. pass_open k (acyclic (suc k)))

  fail_smallest : {number returned : ℕ} → first_below n.size (open_at n) ≡ fail number returned → (number ≡ 13) × Smallest n returned
  fail_smallest {number} {returned} e =
      let r = below_fail n.size (open_at n) e in
      let closed = on_closed_chain n (suc r.at) in
      let u = unless_false (not closed) 13 (suc r.at) r.fails in (
        u.1,
        subst (λ (s : ℕ). Smallest n s) (sym u.2)
            (record {
              closed = (chain_exact n (suc r.at)).0 (not-false closed u.0);
              no_smaller = λ s l c. let g = chain_signal c in open_pass s (pred s) (r.before (pred s) (omega arith)) (omega arith) c;
            }),
      )

  smallest_fail : (s : ℕ) → Smallest n s → first_below n.size (open_at n) ≡ fail 13 s
  unfolding unless
  smallest_fail zero m = absurd (omega (arith, chain_signal m.closed))
  smallest_fail (suc k) m =
      below_first n.size (open_at n)
      (record {
        at = k;
        low = omega (arith, chain_signal m.closed);
        fails = rw ((chain_exact n (suc k)).1 m.closed);
        before = λ i l. pass_open i (m.no_smaller (suc i) (omega arith));
      })

-- The check of a file passes exactly when no chain is closed, and fails as 13 with the smallest signal on a closed chain.
module _ (net : List ℕ) where
  pub chains_pass : net_chains net ≡ pass → Acyclic (network net)
  unfolding net_chains network
  chains_pass = pass_acyclic (network net)

  pub chains_acyclic : Acyclic (network net) → net_chains net ≡ pass
  unfolding net_chains network
  chains_acyclic = acyclic_pass (network net)

  pub chains_fail : {number returned : ℕ} → net_chains net ≡ fail number returned → (number ≡ 13) × Smallest (network net) returned
  unfolding net_chains network
  chains_fail = fail_smallest (network net)

  pub chains_smallest : (s : ℕ) → Smallest (network net) s → net_chains net ≡ fail 13 s
  unfolding net_chains network
  chains_smallest = smallest_fail (network net)

  -- so that NET, its whole check passed, has no closed chain
  pub net_acyclic : (limit : ℕ) → net_check limit net ≡ pass → Acyclic (network net)
  unfolding net_check
  net_acyclic limit h = chains_pass (first_right (net_surplus net) (net_chains net) (first_right _ _ (first_right _ _ h)))
