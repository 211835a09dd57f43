-- The graph that the code loads has an edge exactly where a rank-order gate feeds another, so that its loops are the closed chains.
use Prim.Native.Nat.{ℕ, zero, suc, ◌+◌, ◌*◌, ◌/◌, ◌%◌, ◌<◌, ◌≤◌}
use mathlib.Core.Path.{◌≡◌, refl, sym, ◌∙◌, ap, subst}
use mathlib.Core.Bool.{Bool, true, false, true≢false}
use mathlib.Core.List.{List}
use native.Mathlib.Omega.{arith}
use native.Mathlib.Decide.{ℕ_discrete, dec_le}
use lib.Dec.{eqb}
use lib.ListN.{length, get_or, set, replicate, length-set, length-replicate}
use lib.Seq.{get_or-set_same, get_or-set_other}
use borrow.Author.Tests.{eq-eqb, eqb-true}
use Rattle.std.specs.Prelude.{if◌then◌else◌}
use Rattle.graph_ranks.specs.Graph.{Edge, Path, Followed, IsGraph}
use Rattle.graph_ranks.proofs.Stores.{all_same}
use Rattle.model.specs.Network.{Signal, rank_order, Feeds, Chain}
use Rattle.model.specs.Netlist.{net_field, network}
use Rattle.file_net_graph.specs.Lines.{Lines}
use Rattle.file_net_graph.specs.Graph.{follow_to, feeder_of, edges_to, follow_of, edges_of}
use Rattle.file_net_graph.proofs.Loading.{entries_loaded}

abbrev none_marked : List Bool
none_marked = replicate 4097 false

abbrev none_entered : List ℕ
none_entered = replicate 16388 0

-- a list of stores at rising places: what stands where it was stored, and elsewhere
length_follow : (net : List ℕ) (l : List Bool) (k : ℕ) → length (follow_to net l k) ≡ length l
unfolding follow_to
length_follow net l zero = refl
length_follow net l (suc k) = length-set (follow_to net l k) (k + 1) _ ∙ length_follow net l k

length_edges : (net : List ℕ) (follow : List Bool) (l : List ℕ) (k : ℕ) → length (edges_to net follow l k) ≡ length l
unfolding edges_to
length_edges net follow l zero = refl
length_edges net follow l (suc k) = length-set (edges_to net follow l k) (k + 4) _ ∙ length_edges net follow l k

follow_below : (net : List ℕ) (l : List Bool) (k s : ℕ) → 1 ≤ s → s ≤ k → k < length l → get_or (follow_to net l k) s false ≡ eqb (net_field net s 0) rank_order
unfolding follow_to
follow_below net l zero s a b h = absurd (omega arith)
follow_below net l (suc k) s a b h = go (ℕ_discrete s (k + 1)) (follow_below net l k s a)
  where
    v : Bool
    v = eqb (net_field net (k + 1) 0) rank_order

    go : Dec (s ≡ k + 1) → (s ≤ k → k < length l → get_or (follow_to net l k) s false ≡ eqb (net_field net s 0) rank_order)
        → get_or (set (follow_to net l k) (k + 1) v) s false ≡ eqb (net_field net s 0) rank_order
    go (yes e) below =
        rw e (get_or-set_same (follow_to net l k) (k + 1) v false (omega (arith, length_follow net l k)))
    go (no d) below = get_or-set_other (follow_to net l k) (k + 1) s v false d ∙ below (omega arith) (omega arith)

follow_beyond : (net : List ℕ) (l : List Bool) (k s : ℕ) → (1 ≤ s → k < s) → get_or (follow_to net l k) s false ≡ get_or l s false
unfolding follow_to
follow_beyond net l zero s h = refl
follow_beyond net l (suc k) s h =
    get_or-set_other (follow_to net l k) (k + 1) s _ false (λ (e : s ≡ k + 1). omega (arith, h (omega arith)))
    ∙ follow_beyond net l k s (λ a. omega (arith, h a))

edges_below : (net : List ℕ) (follow : List Bool) (l : List ℕ) (k i : ℕ) → 4 ≤ i → i < k + 4 → k + 3 < length l → get_or (edges_to net follow l k) i 0 ≡ feeder_of net follow i
unfolding edges_to
edges_below net follow l zero i a b h = absurd (omega arith)
edges_below net follow l (suc k) i a b h = go (ℕ_discrete i (k + 4)) (edges_below net follow l k i a)
  where
    go : Dec (i ≡ k + 4) → (i < k + 4 → k + 3 < length l → get_or (edges_to net follow l k) i 0 ≡ feeder_of net follow i)
        → get_or (set (edges_to net follow l k) (k + 4) (feeder_of net follow (k + 4))) i 0 ≡ feeder_of net follow i
    go (yes e) below =
        rw e (get_or-set_same (edges_to net follow l k) (k + 4) (feeder_of net follow (k + 4)) 0 (omega (arith, length_edges net follow l k)))
    go (no d) below = get_or-set_other (edges_to net follow l k) (k + 4) i _ 0 d ∙ below (omega arith) (omega arith)

edges_beyond : (net : List ℕ) (follow : List Bool) (l : List ℕ) (k i : ℕ) → (4 ≤ i → k + 4 ≤ i) → get_or (edges_to net follow l k) i 0 ≡ get_or l i 0
unfolding edges_to
edges_beyond net follow l zero i h = refl
edges_beyond net follow l (suc k) i h =
    get_or-set_other (edges_to net follow l k) (k + 4) i _ 0 (λ (e : i ≡ k + 4). omega (arith, h (omega arith)))
    ∙ edges_beyond net follow l k i (λ a. omega (arith, h a))

module _ (net : List ℕ) (size : ℕ) (lines : Lines net size) where
  abbrev follow : List Bool
  follow = follow_of net size

  abbrev edges : List ℕ
  edges = edges_of net size

  follow_length : length follow ≡ 4097
  follow_length = length_follow net none_marked size ∙ length-replicate {A = Bool} 4097 false

  edges_length : length edges ≡ 16388
  edges_length = length_edges net follow none_entered (4 * size) ∙ length-replicate {A = ℕ} 16388 0

  -- a mark stands at the rank-order gates alone
  record Rank (s : ℕ) : Type 0 where
    low : 1 ≤ s
    high : s ≤ size
    kind : net_field net s 0 ≡ rank_order

  mark : (s : ℕ) → 1 ≤ s → s ≤ size → get_or follow s false ≡ eqb (net_field net s 0) rank_order
  mark s low high = follow_below net none_marked size s low high (omega (arith, lines.small, length-replicate {A = Bool} 4097 false))

  marked : (s : ℕ) → Rank s → get_or follow s false ≡ true
  marked s r = mark s r.low r.high ∙ eq-eqb (net_field net s 0) rank_order r.kind

  unmarked : (s : ℕ) → (1 ≤ s → size < s) → get_or follow s false ≡ true → ⊥
  unmarked s h e = true≢false (sym e ∙ follow_beyond net none_marked size s h ∙ all_same false 4097 s)

  rank_marked : (s : ℕ) → get_or follow s false ≡ true → Rank s
  rank_marked s e = go (dec_le 1 s) (dec_le s size)
    where
      go : Dec (1 ≤ s) → Dec (s ≤ size) → Rank s
      go (no a) d = absurd (unmarked s (λ (h : 1 ≤ s). absurd (a h)) e)
      go (yes a) (no d) = absurd (unmarked s (λ (h : 1 ≤ s). omega arith) e)
      go (yes a) (yes d) = record { low = a; high = d; kind = eqb-true (net_field net s 0) rank_order (sym (mark s a d) ∙ e) }

  -- what an entry names
  entry : (y j : ℕ) → 1 ≤ y → y ≤ size → j < 4 → get_or edges (4 * y + j) 0 ≡ feeder_of net follow (4 * y + j)
  entry y j a b l =
      edges_below net follow none_entered (4 * size) (4 * y + j) (omega arith) (omega arith)
      (omega (arith, lines.small, length-replicate {A = ℕ} 16388 0))

  no_entry : (i : ℕ) → (4 ≤ i → 4 * size + 4 ≤ i) → get_or edges i 0 ≡ 0
  no_entry i h = edges_beyond net follow none_entered (4 * size) i h ∙ all_same {A = ℕ} 0 16388 i

  feeder : (y j : ℕ) → j < 4
      → feeder_of net follow (4 * y + j)
      ≡ (if get_or follow y false then (if get_or follow (net_field net y (8 + j)) false then net_field net y (8 + j) else 0) else 0)
  unfolding feeder_of
  feeder y j l =
      let a : (4 * y + j) / 4 ≡ y = omega arith in
      let b : (4 * y + j) % 4 ≡ j = omega arith in
      rw (a, b)

  record Source (x y j : ℕ) : Type 0 where
    gate : Rank y
    source : Rank x
    is : net_field net y (8 + j) ≡ x

  -- an entry that names a gate names a source of a gate, both rank-order
  entry_source : (x y j : ℕ) → 1 ≤ x → 1 ≤ y → y ≤ size → j < 4 → get_or edges (4 * y + j) 0 ≡ x → Source x y j
  entry_source x y j some a b l e = go (get_or follow y false) refl (sym (feeder y j l) ∙ sym (entry y j a b l) ∙ e)
    where
      from : ℕ
      from = net_field net y (8 + j)

      inner : Bool → ℕ
      inner c = if c then from else 0

      go : (c : Bool) → get_or follow y false ≡ c → (if c then inner (get_or follow from false) else 0) ≡ x → Source x y j
      go false p q = absurd (omega arith)
      go true p q = second (get_or follow from false) refl q
        where
          second : (c : Bool) → get_or follow from false ≡ c → inner c ≡ x → Source x y j
          second false r u = absurd (omega arith)
          second true r u =
              record {
                gate = rank_marked y p;
                source = subst Rank u (rank_marked from r);
                is = u;
              }

  source_entry : (x y j : ℕ) → j < 4 → Source x y j → get_or edges (4 * y + j) 0 ≡ x
  source_entry x y j l s =
      entry y j s.gate.low s.gate.high l ∙ feeder y j l
      ∙ rw (marked y s.gate, s.is, marked x s.source)

  signal_of_lem : (s : ℕ) → Rank s → Signal (network net) s
  unfolding network
  signal_of_lem s r = record { low = r.low; high = rw (← lines.is) r.high }

  rank_of_lem : (s : ℕ) → Signal (network net) s → (network net).kind s ≡ rank_order → Rank s
  unfolding network
  rank_of_lem s g k = record { low = g.low; high = rw lines.is g.high; kind = k }

  edge_feeds : (x y : ℕ) → Edge edges x y → Feeds (network net) x y
  unfolding network
  edge_feeds x y e = go (dec_le 1 y) (dec_le y size)
    where
      nothing : get_or edges (4 * y + e.index) 0 ≡ 0 → Feeds (network net) x y
      nothing z = absurd (omega (arith, e.real, e.is_entry))

      go : Dec (1 ≤ y) → Dec (y ≤ size) → Feeds (network net) x y
      go (no a) d = nothing (no_entry (4 * y + e.index) (λ (h : 4 ≤ 4 * y + e.index). omega (arith, e.small)))
      go (yes a) (no d) = nothing (no_entry (4 * y + e.index) (λ (h : 4 ≤ 4 * y + e.index). omega arith))
      go (yes a) (yes d) =
          let s = entry_source x y e.index e.real a d e.small e.is_entry in
          record {
            from = signal_of_lem x s.source;
            to = signal_of_lem y s.gate;
            from_rank = s.source.kind;
            to_rank = s.gate.kind;
            index = e.index;
            small = e.small;
            is_source = s.is;
          }

  feeds_edge : (x y : ℕ) → Feeds (network net) x y → Edge edges x y
  unfolding network
  feeds_edge x y f =
      record {
        real = f.from.low;
        index = f.index;
        small = f.small;
        is_entry =
            source_entry x y f.index f.small
            (record { gate = rank_of_lem y f.to f.to_rank; source = rank_of_lem x f.from f.from_rank; is = f.is_source });
      }

  pub path_chain : {a b : ℕ} → Path edges a b → Chain (network net) a b
  path_chain (Path.one e) = Chain.one (edge_feeds _ _ e)
  path_chain (Path.more p e) = Chain.more (path_chain p) (edge_feeds _ _ e)

  pub chain_path : {a b : ℕ} → Chain (network net) a b → Path edges a b
  chain_path (Chain.one f) = Path.one (feeds_edge _ _ f)
  chain_path (Chain.more p f) = Path.more (chain_path p) (feeds_edge _ _ f)

  pub graph : IsGraph follow edges size
  graph =
      record {
        each = record { small = omega (arith, lines.small); long = edges_length; within = within };
        long = follow_length;
        feeders = λ x y e. marked x (rank_of_lem x (edge_feeds x y e).from (edge_feeds x y e).from_rank);
      }
    where
      within : (i : ℕ) → get_or edges i 0 ≤ size
      within i = go (dec_le 1 (get_or edges i 0))
        where
          go : Dec (1 ≤ get_or edges i 0) → get_or edges i 0 ≤ size
          go (no a) = omega arith
          go (yes a) =
              let e : Edge edges (get_or edges i 0) (i / 4) = record { real = a; index = i % 4; small = omega arith; is_entry = ap (λ (k : ℕ). get_or edges k 0) (omega arith) } in
              (rank_of_lem (get_or edges i 0) (edge_feeds _ _ e).from (edge_feeds _ _ e).from_rank).high

  -- the nodes that are followed are the rank-order gates
  pub followed_signal : (s : ℕ) → Followed follow size s → Signal (network net) s
  followed_signal s f = signal_of_lem s (rank_marked s f.chosen)

  pub followed_gate : (s : ℕ) → Followed follow size s → (network net).kind s ≡ rank_order
  unfolding network
  followed_gate s f = (rank_marked s f.chosen).kind

  pub gate_followed : (s : ℕ) → Signal (network net) s → (network net).kind s ≡ rank_order → Followed follow size s
  gate_followed s g k = let r = rank_of_lem s g k in record { low = r.low; high = r.high; chosen = marked s r }

  -- the entry for a source of a rank-order gate is the source, where it is followed, and else none
  pub entry_cases : (P : ℕ → Type 0) (y j : ℕ) → Followed follow size y → j < 4
      → (Followed follow size ((network net).source y j) → P ((network net).source y j))
      → ((Followed follow size ((network net).source y j) → ⊥) → P 0)
      → P (get_or edges (4 * y + j) 0)
  unfolding network
  entry_cases P y j f l some none =
      subst P (sym (entry y j f.low f.high l ∙ feeder y j l ∙ rw f.chosen)) (go (get_or follow x false) refl)
    where
      x : ℕ
      x = net_field net y (8 + j)

      go : (b : Bool) → get_or follow x false ≡ b → P (if b then x else 0)
      go true e = let r = rank_marked x e in some (record { low = r.low; high = r.high; chosen = e })
      go false e = none (λ g. true≢false (sym g.chosen ∙ e))

-- marks and entries that are loaded are a graph
pub graph_loaded : (net : List ℕ) (marks : List Bool) (entries : List ℕ) (size : ℕ) → Lines net size → marks ≡ follow_of net size
    → entries ≡ edges_to net marks (replicate 16388 0) (4 * size) → IsGraph marks entries size
graph_loaded net marks entries size lines marked loaded =
    rw (entries_loaded net marks entries size marked loaded, marked) (graph net size lines)
