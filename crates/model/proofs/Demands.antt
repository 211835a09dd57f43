-- Demands 2 and 3 for accepted files. Demand 3 is for any buffers whose calls meet their contracts (`Traces`), and here for the session
-- over the machine itself, from the opening, by folding its outcomes over the list of calls.
use Prim.Native.Nat.{ℕ, zero, suc, ◌≤◌}
use mathlib.Core.Path.{◌≡◌, refl, sym, ◌∙◌, ap}
use mathlib.Core.Bool.{Bool, true, false, false≢true}
use mathlib.Core.List.{List, [], ◌∷◌}
use native.Mathlib.Omega.{arith}
use Rattle.writing.specs.Text.{line_text}
use Rattle.model.specs.Files.{Files}
use Rattle.model.specs.Network.{Network, Signal, is_signal}
use Rattle.model.specs.Netlist.{network}
use Rattle.model.specs.Value.{start, Follows, VAL, history, FollowsAlways}
use Rattle.model.specs.Procedures.{simulated}
use Rattle.model.specs.Module.{Module, At}
use Rattle.model.specs.Machine.{Memory, cycle, opening, after}
use Rattle.model.specs.Stimulus.{held, end_time}
use Rattle.model.specs.Acceptance.{network_of, module_of_files, given_of, Accepted}
use Rattle.model.specs.Session.{lockstep, fresh, Lengths, Lent, Answer, Outcome, outcome, plain_after}
use Rattle.model.specs.Listing.{value_at, joined, listed_first, listed_change, listed_cycle, listing_of, listing, printed_for, printed}
use Rattle.model.specs.Demands.{Demand2, Places, Working, Trace, end, next, Demand3}
use Rattle.model.proofs.Conditions.{Formed, Acyclic, Scheduled}
use Rattle.model.proofs.Chains.{net_acyclic, signal_true, signal_test}
use Rattle.model.proofs.Value.{VAL_follows, VAL_unique}
use Rattle.model.proofs.Procedures.{simulated_follows}
use Rattle.model.proofs.Accepted.{net_accepted, mod_accepted, net_formed, net_size_lem, mod_scheduled}
use Rattle.model.proofs.Machine.{Near, near_refl}
use Rattle.model.proofs.Keeping.{kept_table, kept_near, kept_opening, machine_holds_VAL, keeps}
use Rattle.model.proofs.Session.{like_refl}
use Rattle.model.proofs.Traces.{Met, demand_3}

-- a listing depends on the values of the signals alone
pub joined_same : (n : ℕ) (f g : ℕ → List ℕ) → ((k : ℕ) → suc k ≤ n → f k ≡ g k) → joined n f ≡ joined n g
unfolding joined
joined_same zero f g h = refl
joined_same (suc n) f g h = rw (joined_same n f g (λ k l. h k (omega arith)), h n (omega arith))

module _ (n end : ℕ) (a b : ℕ → ℕ → ℕ) (same : (t s : ℕ) → 1 ≤ s → s ≤ n → a t s ≡ b t s) where
  change_same : (t s : ℕ) → 1 ≤ s → s ≤ n → listed_change n end a t s ≡ listed_change n end b t s
  unfolding listed_change
  change_same t s l h = rw (same t s l h, same (suc t) s l h)

  listing_same : listing_of n end a ≡ listing_of n end b
  unfolding listing_of listed_first listed_cycle
  listing_same =
      rw (
        joined_same n (λ k. line_text (0 ∷ suc k ∷ a 0 (suc k) ∷ [])) (λ k. line_text (0 ∷ suc k ∷ b 0 (suc k) ∷ []))
            (λ k l. ap (λ (v : ℕ). line_text (0 ∷ suc k ∷ v ∷ [])) (same 0 (suc k) (omega arith) l)),
        joined_same end (listed_cycle n end a) (listed_cycle n end b)
            (λ t l. joined_same n (λ k. listed_change n end a t (suc k)) (λ k. listed_change n end b t (suc k)) (λ k h. change_same t (suc k) (omega arith) h)),
      )

module _ (limit : ℕ) (files : Files) (accepted : Accepted limit files) where
  pub accepted_formed : Formed (network_of files)
  accepted_formed = net_formed limit files.NET (net_accepted limit files accepted)

  pub accepted_acyclic : Acyclic (network_of files)
  accepted_acyclic = net_acyclic files.NET limit (net_accepted limit files accepted)

  pub accepted_scheduled : Scheduled (network_of files) (module_of_files files)
  accepted_scheduled = mod_scheduled (network_of files) files.MOD (mod_accepted limit files accepted)

  -- VAL of the files follows the rules of 01
  pub value_follows : Follows (network_of files) (given_of files) (held files.STIM) (value_at files)
  unfolding value_at
  value_follows = VAL_follows (network_of files) accepted_formed accepted_acyclic (given_of files) (held files.STIM)

  -- and VAL does so whatever the inputs are
  pub VAL_follows_always : FollowsAlways (network_of files) (given_of files) (VAL (network_of files) (given_of files))
  VAL_follows_always = VAL_follows (network_of files) accepted_formed accepted_acyclic (given_of files)

  -- and so do the procedures of 000
  procedures_follow : Follows (network_of files) (given_of files) (held files.STIM) (λ t. simulated (network_of files) (given_of files) (history (held files.STIM) t))
  procedures_follow = simulated_follows (network_of files) accepted_formed accepted_acyclic (given_of files) (held files.STIM)

  pub value_unique : (table : ℕ → ℕ → ℕ) → Follows (network_of files) (given_of files) (held files.STIM) table
      → (t s : ℕ) → Signal (network_of files) s → table t s ≡ value_at files t s
  unfolding value_at
  value_unique table follows t s g =
      VAL_unique (network_of files) accepted_formed accepted_acyclic (given_of files) (held files.STIM) table follows t s g

  -- after every cycle, whatever the inputs, the place of every signal holds VAL
  pub places_hold_VAL : (rows : List (ℕ → ℕ))
      → Places (network_of files) (module_of_files files)
      (after (network_of files) (module_of_files files) (opening (module_of_files files) (start (network_of files) (given_of files))) rows)
      (VAL (network_of files) (given_of files) rows)
  places_hold_VAL = machine_holds_VAL accepted_formed accepted_acyclic accepted_scheduled (given_of files)

-- What prints what `printed` does meets demand 2
module _ (limit : ℕ) (prints : Files → List ℕ) (is : (files : Files) → prints files ≡ printed limit files) where
  prints_table : (files : Files) → Accepted limit files → (table : ℕ → ℕ → ℕ)
      → Follows (network_of files) (given_of files) (held files.STIM) table
      → prints files ≡ listing_of (network_of files).size (end_time files.STIM) table
  unfolding printed printed_for listing
  prints_table files accepted table follows =
      is files
      ∙ rw accepted
      (listing_same (network_of files).size (end_time files.STIM) (value_at files) table
      (λ t s l h. sym (value_unique limit files accepted table follows t s (record { low = l; high = h }))))

  pub printed_demand_2 : Demand2 limit prints
  unfolding printed printed_for
  printed_demand_2 =
      record {
        lists = prints_table;
        simulates = λ files accepted. prints_table files accepted _ (procedures_follow limit files accepted);
        refuses = λ files number returned e. is files ∙ rw e;
      }

-- The session over the machine: what a call answers and leaves is its outcome, a contract that is a function
module _ (fixed : Lengths) (n : Network) (m : Module) (processor slot : ℕ → ℕ) where
  abbrev result : Working Memory → Lent → Outcome Memory
  result b c = outcome fixed n (lockstep n m processor slot) b.head b.state c

  abbrev pub leaves : Working Memory → Lent → Working Memory
  leaves b c = record { head = (result b c).head; state = (result b c).state }

  pub record Performs (b : Working Memory) (c : Lent) (a : Answer) (b' : Working Memory) : Type 0 where
    pub answer : a ≡ (result b c).answer
    pub left : b' ≡ leaves b c

  -- the calls of a list, one after the other
  unfoldable pub folded : (b : Working Memory) (cs : List Lent) → Trace Performs b cs
  folded b [] = end
  folded b (c ∷ cs) = next (result b c).answer (leaves b c) (record { answer = refl; left = refl }) (folded (leaves b c) cs)

-- Demand 3 without any premise on a trace: from the opening on accepted files, for every list of calls
module _ (limit : ℕ) (files : Files) (accepted : Accepted limit files) (fixed : Lengths) (processor slot : ℕ → ℕ)
    (placed : (s : ℕ) → Signal (network_of files) s
    → At (module_of_files files) (processor s) (slot s) × ((module_of_files files).signal (processor s) (slot s) ≡ s)) where
  abbrev pub opened : Working Memory
  opened = record { head = fresh (given_of files); state = opening (module_of_files files) (start (network_of files) (given_of files)) }

  performs_met : (b : Working Memory) (c : Lent) (a : Answer) (b' : Working Memory) → Performs fixed (network_of files) (module_of_files files) processor slot b c a b'
      → Met (lockstep (network_of files) (module_of_files files) processor slot) (λ w. w) fixed (network_of files) (Near (module_of_files files)) b c a b'
  performs_met b c a b' p =
      record {
        answer = p.answer;
        head = rw p.left (like_refl (network_of files) _);
        state = rw p.left near_refl;
      }

  -- whichever values follow the rules of VAL
  pub session_demand_3 : (table : List (ℕ → ℕ) → ℕ → ℕ) → FollowsAlways (network_of files) (given_of files) table → (cs : List Lent)
      → Demand3 (Performs fixed (network_of files) (module_of_files files) processor slot) (cycle (network_of files) (module_of_files files))
      (Places (network_of files) (module_of_files files)) (λ w. w) fixed (network_of files) (given_of files) table
      (folded fixed (network_of files) (module_of_files files) processor slot opened cs) []
  unfolding fresh network plain_after
  session_demand_3 table follows cs =
      let formed = accepted_formed limit files accepted in
      let acyclic = accepted_acyclic limit files accepted in
      let ok = accepted_scheduled limit files accepted in
      let size = net_size_lem limit files.NET (net_accepted limit files accepted) in
      demand_3 (lockstep (network_of files) (module_of_files files) processor slot) (λ w. w) fixed (network_of files) (Near (module_of_files files))
      (Places (network_of files) (module_of_files files)) (given_of files) table
      (keeps formed acyclic ok (given_of files) table follows processor slot placed) (kept_table formed acyclic ok (given_of files) table follows)
      (kept_near formed acyclic ok (given_of files))
      (Performs fixed (network_of files) (module_of_files files) processor slot) (λ b. Unit {0}) (λ b c a b' g. performs_met b c a b') (λ b c a b' g p. tt)
      (folded fixed (network_of files) (module_of_files files) processor slot opened cs) []
      (record {
        good = tt;
        head = like_refl (network_of files) (fresh (given_of files));
        state = kept_opening formed acyclic ok (given_of files);
        watching = record { low = omega arith; high = size.0 };
        rows_finished = refl;
      })

-- The places that the premise asks for are there
module _ (limit : ℕ) (files : Files) (accepted : Accepted limit files) where
  place : (s : ℕ) (b : Bool) → is_signal (network_of files) s ≡ b → ℕ × ℕ
  place s true e = let p = (accepted_scheduled limit files accepted).places s (signal_true (network_of files) s e) in (p.processor, p.slot)
  place s false e = (0, 0)

  pub place_of : ℕ → ℕ × ℕ
  place_of s = place s (is_signal (network_of files) s) refl

  pub placed_there : (s : ℕ) → Signal (network_of files) s
      → At (module_of_files files) (place_of s).0 (place_of s).1 × ((module_of_files files).signal (place_of s).0 (place_of s).1 ≡ s)
  unfolding place_of place
  placed_there s g = go (is_signal (network_of files) s) refl (signal_test (network_of files) s g)
    where
      go : (b : Bool) (e : is_signal (network_of files) s ≡ b) → b ≡ true
          → At (module_of_files files) (place s b e).0 (place s b e).1 × ((module_of_files files).signal (place s b e).0 (place s b e).1 ≡ s)
      go true e t = let p = (accepted_scheduled limit files accepted).places s (signal_true (network_of files) s e) in (p.at, p.is)
      go false e t = absurd (false≢true t)
