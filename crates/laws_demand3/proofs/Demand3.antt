-- Demand 3 on bytes, for accepted files: over every trace of calls from the opening, and without a trace by folding the calls' definition.
-- It is demand 3 over any engine, at the lockstep machine's calls.
use Prim.Native.Nat.{ℕ, ◌≤◌}
use mathlib.Core.Path.{◌≡◌, refl, sym, subst, ◌∙◌, ap}
use mathlib.Core.Bool.{true}
use mathlib.Core.List.{List, [], ◌∷◌}
use native.Mathlib.Omega.{arith}
use lib.ListN.{length}
use Rattle.logic.specs.Listed.{listed}
use Rattle.logic.proofs.Listed.{listed_length}
use Rattle.model.specs.Refusal.{Check, pass, first, unless}
use Rattle.model.specs.Files.{Files}
use Rattle.model.specs.Network.{Network}
use Rattle.model.specs.Netlist.{network}
use Rattle.model.specs.Value.{start, FollowsAlways}
use Rattle.model.specs.Module.{Module}
use Rattle.model.specs.Machine.{opening, cycle}
use Rattle.model.specs.ModuleFile.{mod_processors, mod_slots, module_of}
use Rattle.model.specs.Session.{Engine, lockstep, fresh, Lengths, Lent, same_lengths, done}
use Rattle.model.specs.Acceptance.{panel_limit, network_of, module_of_files, given_of, Accepted}
use Rattle.model.specs.Demands.{Places, Trace, Demand3}
use Rattle.model.proofs.Machine.{Near, near_refl}
use Rattle.model.proofs.Session.{Like}
use Rattle.model.proofs.Keeping.{kept_table, kept_near, keeps}
use Rattle.model.proofs.Value.{start_input}
use Rattle.model.proofs.Checked.{files_checked, checked_size}
use Rattle.model.proofs.Demands.{accepted_formed, accepted_acyclic, accepted_scheduled, place_of, placed_there}
use Rattle.buffers_memory.specs.Memory.{memory_length, within}
use Rattle.buffers_memory.proofs.Written.{written_length}
use Rattle.buffers_tables.specs.Panel.{mask_in}
use Rattle.buffers_lengths.specs.Lengths.{fixed}
use Rattle.buffers_load_files.specs.Loaded.{panel_of, program_of, opening_bytes}
use Rattle.buffers_load.proofs.Loaded.{loaded_network, loaded_head, loaded_holding, loaded_panel_size, loaded_program_size}
use Rattle.session_answers.specs.Answers.{answer_bits, check_bits}
use Rattle.session_opening.specs.Opened.{opening_check, left_by}
use Rattle.session_state.specs.Header.{head_in}
use Rattle.session_calls.specs.Reply.{Buffers, buffers_of, lengths_of}
use Rattle.session_calls.proofs.Judged.{same_lengths_lem}
use Rattle.laws_opening.proofs.Opened.{opened_ranged}
use Rattle.laws_values.proofs.Valued.{processors_few, slots_few, opening_holds}
use Rattle.laws_engine.specs.Lending.{number_of, Throughout, EveryCall, EveryCallable}
use Rattle.laws_engine.proofs.Serving.{Serves, good_throughout, every_call, never_44, engine_demand_3}
use Rattle.laws_engine.proofs.Folding.{folded}
use Rattle.laws_demand3.specs.Lockstep.{lockstep_calls, Called, working, opened_by, Opens}
use Rattle.laws_demand3.proofs.Serving.{Good, watching_in, reply_stays, lockstep_serves}

-- zeros of three lengths, for a call with a wrong one
lending : (l : Lengths) → length l ≡ length fixed → Buffers
lending [] e = absurd (omega arith)
lending (a ∷ []) e = absurd (omega arith)
lending (a ∷ b ∷ []) e = absurd (omega arith)
lending (a ∷ b ∷ c ∷ []) e = buffers_of (listed a (λ k. 0)) (listed b (λ k. 0)) (listed c (λ k. 0))
lending (a ∷ b ∷ c ∷ d ∷ l) e = absurd (omega arith)

lending_lengths : (l : Lengths) (e : length l ≡ length fixed) → lengths_of (lending l e) ≡ l
unfolding lending
lending_lengths [] e = absurd (omega arith)
lending_lengths (a ∷ []) e = absurd (omega arith)
lending_lengths (a ∷ b ∷ []) e = absurd (omega arith)
lending_lengths (a ∷ b ∷ c ∷ []) e = rw (listed_length a (λ k. 0), listed_length b (λ k. 0), listed_length c (λ k. 0))
lending_lengths (a ∷ b ∷ c ∷ d ∷ l) e = absurd (omega arith)

module _ {limit : ℕ} (few : limit ≤ panel_limit) (files : Files) (accepted : Accepted limit files) where
  abbrev n : Network
  n = network_of files

  abbrev m : Module
  m = module_of_files files

  -- the files' machine, which reads a signal where the module has it
  abbrev machine : Engine
  machine = lockstep n m (λ s. (place_of limit files accepted s).0) (λ s. (place_of limit files accepted s).1)

  serves : Serves lockstep_calls n machine working (Near m) (Good n m)
  serves =
      lockstep_serves (accepted_scheduled limit files accepted) (processors_few few files accepted) (slots_few few files accepted)
      (λ s. (place_of limit files accepted s).0) (λ s. (place_of limit files accepted s).1) (placed_there limit files accepted)

  -- the buffers as an accepted opening leaves them, whatever they held
  abbrev pub opened : Buffers
  opened =
      record {
        panel = panel_of files;
        program = program_of files;
        memory = opening_bytes files;
      }

  pub opened_good : Good n m opened
  unfolding opening_bytes
  opened_good =
      let range = opened_ranged few files accepted in
      let holding = loaded_holding few files accepted in
      record {
        lengths =
            same_lengths_lem opened
            (record {
              panel_size = loaded_panel_size few files accepted;
              program_size = loaded_program_size few files accepted;
              memory_size = written_length (within (mod_processors files.MOD) (mod_slots files.MOD)) (opening m (start n (given_of files))) (listed memory_length (λ a. 0));
            });
        range = range;
        holding = holding;
        watching = watching_in n m opened range holding;
        few = omega (arith, (loaded_head few files accepted).0);
      }

  -- whichever values follow the rules of VAL
  module _ (good : Good n m opened) (table : List (ℕ → ℕ) → ℕ → ℕ) (follows : FollowsAlways n (given_of files) table) where
    bytes_demand_3 : {cs : List Lent} (t : Trace Called opened cs) → Demand3 Called (cycle n m) (Places n m) working fixed n (given_of files) table t []
    unfolding fresh module_of network
    bytes_demand_3 t =
        let formed = accepted_formed limit files accepted in
        let acyclic = accepted_acyclic limit files accepted in
        let ok = accepted_scheduled limit files accepted in
        engine_demand_3 lockstep_calls n machine working (Near m) (Good n m) serves (Places n m) (given_of files) table
        (keeps formed acyclic ok (given_of files) table follows _ _ (placed_there limit files accepted))
        (kept_table formed acyclic ok (given_of files) table follows) (kept_near formed acyclic ok (given_of files)) (λ w. near_refl)
        t good opened_head (opening_holds few files accepted) size.0
      where
        size : (1 ≤ n.size) × (n.size ≤ 4096)
        size = checked_size files.NET (files_checked limit few files accepted)

        opened_head : Like n (head_in opened.panel) (fresh (given_of files))
        opened_head =
            let head = loaded_head few files accepted in
            record {
              finished = head.0;
              hand = λ s i k. (loaded_network few files accepted).hands s i ∙ start_input n (given_of files) s i k;
              watch = ap (λ (x : ℕ). record { signal = x; mask = mask_in opened.panel }) head.1 ∙ ap (λ (x : ℕ). record { signal = 1; mask = x }) head.2;
            }

  -- Demand 3. A list of calls begins with the opening, which meets its contract on any earlier buffers of the right lengths: the files are
  -- accepted, so it is not refused; and whatever calls follow, each meeting its contract, their answers, the cycles finished and the
  -- places are those of the plain session, the buffers hold the files' network and module throughout, and 44 never comes.
  module _ (before left : Buffers) (bits : ℕ) (right : same_lengths (lengths_of before) fixed ≡ true) (opens : Opens limit files before left bits) where
    accepts : opened_by limit files before ≡ pass
    unfolding opening_check first unless
    accepts = rw right accepted

    pub opens_not_refused : bits ≡ answer_bits done
    unfolding check_bits
    opens_not_refused = opens.answer ∙ ap check_bits accepts

    left_opened : left ≡ opened
    unfolding left_by
    left_opened =
        ap (λ (x : List ℕ). buffers_of x left.program left.memory) (opens.panel ∙ ap (λ (c : Check). left_by c opened.panel before.panel) accepts)
        ∙ ap (λ (x : List ℕ). buffers_of opened.panel x left.memory) (opens.program ∙ ap (λ (c : Check). left_by c opened.program before.program) accepts)
        ∙ ap (λ (x : List ℕ). buffers_of opened.panel opened.program x) (opens.memory ∙ ap (λ (c : Check). left_by c opened.memory before.memory) accepts)

    pub session_demand_3 : {cs : List Lent} (t : Trace Called left cs) (table : List (ℕ → ℕ) → ℕ → ℕ) → FollowsAlways n (given_of files) table
        → Demand3 Called (cycle n m) (Places n m) working fixed n (given_of files) table t []
    session_demand_3 {cs} t table follows =
        subst (λ (b : Buffers). (u : Trace Called b cs) → Demand3 Called (cycle n m) (Places n m) working fixed n (given_of files) table u []) (sym left_opened)
        (bytes_demand_3 opened_good table follows) t

    left_good : Good n m left
    left_good = subst (Good n m) (sym left_opened) opened_good

    pub session_good : {cs : List Lent} (t : Trace Called left cs) → Throughout lockstep_calls (Good n m) t
    session_good t = good_throughout lockstep_calls n machine working (Near m) (Good n m) serves left_good t

    pub session_never_44 : {cs : List Lent} (t : Trace Called left cs) → EveryCall lockstep_calls (λ c bits a. number_of a ≡ 44 → ⊥) t
    session_never_44 t = never_44 lockstep_calls n machine working (Near m) (Good n m) serves left_good t

    -- The 64 bits handed back are those of the answers, which are the plain session's by demand 3
    pub session_bits : {cs : List Lent} (t : Trace Called left cs) → EveryCall lockstep_calls (λ c bits a. bits ≡ answer_bits a) t
    session_bits t =
        every_call lockstep_calls n machine working (Near m) (Good n m) serves (λ c bits a. bits ≡ answer_bits a) (λ b c good. refl) (λ c. refl) left_good t

  -- The same without a trace: the calls' definition folded over any list of calls that C can make, from the opened files.
  pub folded_calls : (cs : List Lent) → EveryCallable lockstep_calls cs → Trace Called opened cs
  folded_calls cs callable =
      folded lockstep_calls lending lending_lengths (Good n m) (λ b good. good.lengths) (reply_stays n m) opened opened_good cs callable

  pub folded_demand_3 : (cs : List Lent) (callable : EveryCallable lockstep_calls cs) (table : List (ℕ → ℕ) → ℕ → ℕ) → FollowsAlways n (given_of files) table
      → Demand3 Called (cycle n m) (Places n m) working fixed n (given_of files) table (folded_calls cs callable) []
  folded_demand_3 cs callable table follows = bytes_demand_3 opened_good table follows (folded_calls cs callable)
