-- The listing of accepted files stands by them when it is opened.
use Prim.Native.Nat.{ℕ}
use mathlib.Core.Path.{◌≡◌, refl, sym, subst, ◌∙◌, ap}
use mathlib.Core.List.{List}
use native.Mathlib.Omega.{arith}
use lib.ListN.{length}
use Rattle.logic.specs.Listed.{listed}
use Rattle.logic.proofs.Listed.{listed_length}
use Rattle.model.specs.Files.{Files}
use Rattle.model.specs.Netlist.{network}
use Rattle.model.specs.Value.{start, history}
use Rattle.model.specs.Machine.{opening, after}
use Rattle.model.specs.ModuleFile.{mod_processors, mod_slots, module_of}
use Rattle.model.specs.Stimulus.{end_time}
use Rattle.model.specs.Acceptance.{panel_limit, network_of, module_of_files, given_of, Accepted}
use Rattle.model.specs.Session.{Head}
use Rattle.model.proofs.Checked.{panel_few}
use Rattle.model.proofs.Accepted.{stim_accepted}
use Rattle.buffers_memory.specs.Memory.{memory_length, within}
use Rattle.buffers_memory.proofs.Written.{written_length}
use Rattle.buffers_tables.specs.Panel.{mask_in}
use Rattle.buffers_load_files.specs.Loaded.{panel_of, program_of, opening_bytes}
use Rattle.buffers_load.proofs.Loaded.{loaded_panel_size, loaded_program_size, loaded_head}
use Rattle.laws_opening.proofs.Opened.{opened_ranged}
use Rattle.session_state.specs.Header.{head_in}
use Rattle.session_state.specs.Carried.{head_of}
use Rattle.file_stim.specs.Acceptance.{SomeAccepts}
use Rattle.listing.specs.declared.Lister.{Lister}
use Rattle.listing_cycle.specs.Changes.{shown_length, not_shown}
use Rattle.listing_cycle.specs.Feeding.{Passed}
use Rattle.listing_cycle.specs.Cycling.{RightBuffers}
use Rattle.listing.specs.Buffers.{cycles_after, memory_at, shown_at}
use Rattle.listing.specs.Standing.{stim_of, Stands}
use Rattle.listing.proofs.Lines.{passed_line}
use Rattle.listing.proofs.Buffers.{panel_loaded}

pub accepted_stimulus : (files : Files) → Accepted panel_limit files → SomeAccepts files.STIM
accepted_stimulus files accepted = record { network = network_of files; passes = stim_accepted panel_limit files accepted }

module _ (files : Files) (accepted : Accepted panel_limit files) where
  abbrev panel : List ℕ
  panel = panel_of files

  abbrev program : List ℕ
  program = program_of files

  abbrev memory : List ℕ
  memory = opening_bytes files

  opened_right : RightBuffers panel program memory
  unfolding opening_bytes
  opened_right =
      record {
        sizes = record {
          panel_size = loaded_panel_size panel_few files accepted;
          program_size = loaded_program_size panel_few files accepted;
          memory_size = written_length (within (mod_processors files.MOD) (mod_slots files.MOD)) (opening (module_of_files files) (start (network_of files) (given_of files))) (listed memory_length (λ a. 0));
        };
        range = opened_ranged panel_few files accepted;
      }

  opened_stands : (l : Lister) → head_of l.session panel ≡ head_in panel → stim_of l ≡ files.STIM → Passed files.STIM 0 l.cursor.line → l.end.0 ≡ end_time files.STIM
      → l.pieces ≡ 0 → (shown : List ℕ) → shown ≡ listed shown_length (λ a. not_shown) → Stands files 0 l panel program memory shown
  unfolding cycles_after memory_at shown_at opening_bytes after history module_of network
  opened_stands l head reads passed end count shown none =
      let zeroth = loaded_head panel_few files accepted in
      record {
        accepted = accepted;
        stimulus = reads;
        left = omega arith;
        given = count;
        end = end;
        line_is = passed_line (network_of files) files.STIM (stim_accepted panel_limit files accepted) 0 l.cursor.line passed;
        session_is = (
          ap (λ (h : Head). h.finished) head ∙ zeroth.0,
          ap (λ (h : Head). h.watch) head ∙ ap (λ (x : ℕ). record { signal = x; mask = mask_in panel }) zeroth.1
              ∙ ap (λ (x : ℕ). record { signal = 1; mask = x }) zeroth.2,
        );
        panel_is = panel_loaded files accepted;
        program_is = refl;
        memory_is = refl;
        shown_is = none;
        right = opened_right;
        shown_size = ap length none ∙ listed_length shown_length (λ a. not_shown);
      }

  -- the same of buffers that are equal to those
  pub opened : (l : Lister) (a b c shown : List ℕ) → a ≡ panel → b ≡ program → c ≡ memory → head_of l.session a ≡ head_in a
      → stim_of l ≡ files.STIM → Passed files.STIM 0 l.cursor.line → l.end.0 ≡ end_time files.STIM → l.pieces ≡ 0
      → shown ≡ listed shown_length (λ a. not_shown) → Stands files 0 l a b c shown
  opened l a b c shown p q r head reads passed end count none =
      subst (λ (x : List ℕ). Stands files 0 l a b x shown) (sym r)
      (subst (λ (x : List ℕ). Stands files 0 l a x memory shown) (sym q)
      (subst (λ (x : List ℕ). head_of l.session x ≡ head_in x → Stands files 0 l x program memory shown) (sym p)
      (λ h. opened_stands l h reads passed end count shown none) head))
