-- The signals' lines, line by line, and that they are lines of the module.
use Prim.Native.Nat.{ℕ, zero, suc, ◌+◌, ◌*◌, ◌/◌, ◌%◌, ◌<◌, ◌≤◌}
use mathlib.Core.Path.{◌≡◌, refl, sym, ◌∙◌, ap, subst, subst₂}
use mathlib.Core.Bool.{Bool, true, false}
use mathlib.Core.List.{List}
use native.Mathlib.Omega.{arith}
use native.Mathlib.Decide.{ℕ_discrete}
use native.Mathlib.Nat.{suc-mul, mul-le-mul_right, mul-le-mul, div-eq_of_lt, mod-eq_of_lt, mul-add-div_right, mul-add-mod_self_right, div-lt_iff_lt-mul, mod-lt}
use native.Mathlib.Numerals.{add-one}
use lib.Dec.{eqb}
use lib.ListN.{length, get_or, set, length-set}
use lib.Seq.{get_or-set_same, get_or-set_other}
use borrow.Author.Tests.{eq-eqb, ne_eqb, eqb-true, eqb-false}
use Rattle.std.specs.Prelude.{if◌then◌else◌}
use Rattle.logic.specs.Listed.{listed}
use Rattle.logic.proofs.Listed.{listed_at, is_listed}
use Rattle.model.specs.Module.{Module, At}
use Rattle.model.specs.ModuleFile.{mod_field, mod_index, mod_processors, mod_slots, module_of}
use Rattle.model.proofs.Conditions.{Placed}
use Rattle.file_mod_lines.specs.Answer.{Sized}
use Rattle.file_mod_lines.proofs.Lines.{line_index}
use Rattle.buffers_load_files.specs.Loaded.{place_below, place_of}
use Rattle.buffers_load_files.specs.Checked.{ModuleChecked}
use Rattle.buffers_load_panel.specs.Lines.{LineNumbers}
use Rattle.buffers_load_files.proofs.Fields.{processors_range, slots_range, is_at}

place_low : (m : Module) (s k : ℕ) → place_below m s k ≤ k
unfolding place_below
place_low m s zero = omega arith
place_low m s (suc k) = go (eqb (m.signal (k / m.slots) (k % m.slots)) s) (place_low m s k)
  where
    go : (b : Bool) → place_below m s k ≤ k → (if b then k else place_below m s k) ≤ suc k
    go true h = omega arith
    go false h = omega arith

-- a line below k, where there are some
place_below_lem : (m : Module) (s k : ℕ) → 1 ≤ k → place_below m s k < k
unfolding place_below
place_below_lem m s zero l = absurd (omega arith)
place_below_lem m s (suc k) l = go (eqb (m.signal (k / m.slots) (k % m.slots)) s) (place_low m s k)
  where
    go : (b : Bool) → place_below m s k ≤ k → (if b then k else place_below m s k) < suc k
    go true h = omega arith
    go false h = omega arith

-- it has the signal, if one of the lines has
place_found : (m : Module) (s n k : ℕ) → k < n → m.signal (k / m.slots) (k % m.slots) ≡ s
    → m.signal (place_below m s n / m.slots) (place_below m s n % m.slots) ≡ s
unfolding place_below
place_found m s zero k h e = absurd (omega arith)
place_found m s (suc n) k h e =
    go (eqb (m.signal (n / m.slots) (n % m.slots)) s) refl (λ l. place_found m s n k l e)
  where
    go : (b : Bool) → eqb (m.signal (n / m.slots) (n % m.slots)) s ≡ b
        → (k < n → m.signal (place_below m s n / m.slots) (place_below m s n % m.slots) ≡ s)
        → m.signal ((if b then n else place_below m s n) / m.slots) ((if b then n else place_below m s n) % m.slots) ≡ s
    go true q below = eqb-true _ _ q
    go false q below = below (under (λ (x : k ≡ n). eqb-false _ _ q (subst (λ (y : ℕ). m.signal (y / m.slots) (y % m.slots) ≡ s) x e)))
      where
        under : (k ≡ n → ⊥) → k < n
        under d = omega arith

-- the array after k lines
pub record PlacesTo (modfile : List ℕ) (k : ℕ) (places : List ℕ) : Type 0 where
  pub size : length places ≡ 4097
  pub low : k ≤ mod_processors modfile * mod_slots modfile
  pub lines : (s : ℕ) → s ≤ 4096 → get_or places s 0 ≡ place_below (module_of modfile) s k

module _ {modfile : List ℕ} (s : ModuleChecked modfile) where
  some_lines : 1 ≤ mod_processors modfile * mod_slots modfile
  some_lines = mul-le-mul {n₁ = 1} {m₁ = 1} {n₂ = mod_processors modfile} {m₂ = mod_slots modfile} (processors_range s).0 (slots_range s).0

-- one line more
module _ {modfile : List ℕ} {k : ℕ} (h : k < mod_processors modfile * mod_slots modfile) {places : List ℕ} (so_far : PlacesTo modfile k places)
    (signal : ℕ) (is : signal ≡ mod_field modfile (k + 1) 2) (few : signal ≤ 4096) where
  line_here : mod_field modfile (mod_index modfile (k / mod_slots modfile) (k % mod_slots modfile)) 2 ≡ signal
  line_here = ap (λ (x : ℕ). mod_field modfile x 2) (line_index modfile k) ∙ sym is

  there : place_below (module_of modfile) signal (k + 1) ≡ k
  unfolding place_below module_of
  there = rw (add-one k, eq-eqb (mod_field modfile (mod_index modfile (k / mod_slots modfile) (k % mod_slots modfile)) 2) signal line_here)

  elsewhere : (x : ℕ) → (x ≡ signal → ⊥) → place_below (module_of modfile) x k ≡ place_below (module_of modfile) x (k + 1)
  unfolding place_below module_of
  elsewhere x d =
      rw (
        add-one k,
        ne_eqb (mod_field modfile (mod_index modfile (k / mod_slots modfile) (k % mod_slots modfile)) 2) x (λ e. d (sym e ∙ line_here)),
      )

  pub places_more : PlacesTo modfile (k + 1) (set places signal k)
  places_more =
      record {
        size = length-set places signal k ∙ so_far.size;
        low = omega arith;
        lines = λ x b. at x b (ℕ_discrete x signal);
      }
    where
      at : (x : ℕ) → x ≤ 4096 → Dec (x ≡ signal) → get_or (set places signal k) x 0 ≡ place_below (module_of modfile) x (k + 1)
      at x b (yes e) = rw e (get_or-set_same places signal k 0 (omega (arith, so_far.size)) ∙ sym there)
      at x b (no d) = get_or-set_other places signal x k 0 d ∙ so_far.lines x b ∙ elsewhere x d

pub places_start : (modfile places : List ℕ) → length places ≡ 4097 → ((s : ℕ) → s ≤ 4096 → get_or places s 0 ≡ 0) → PlacesTo modfile 0 places
unfolding place_below
places_start modfile places e h = record { size = e; low = omega arith; lines = h }

pub places_end : (modfile places : List ℕ) (k : ℕ) → PlacesTo modfile k places → mod_processors modfile * mod_slots modfile ≤ k
    → places ≡ listed 4097 (place_of modfile)
unfolding place_of
places_end modfile places k so_far h =
    let e : k ≡ mod_processors modfile * mod_slots modfile = omega (arith, so_far.low) in
    is_listed places 4097 (place_of modfile) so_far.size
    (λ s b. so_far.lines s (omega arith) ∙ ap (place_below (module_of modfile) s) e)

-- the array, as the panel is filled by it
pub placed_lines : {modfile : List ℕ} {p c : ℕ} (sized : Sized modfile p c) (places : List ℕ) → places ≡ listed 4097 (place_of modfile) → LineNumbers c places
unfolding place_of
placed_lines {modfile} sized places e =
    let P = mod_processors modfile in
    let C = mod_slots modfile in
    let some : 1 ≤ P * C = mul-le-mul {n₁ = 1} {m₁ = 1} {n₂ = P} {m₂ = C} (omega (arith, sized.processors, sized.processors_low)) (omega (arith, sized.slots, sized.slots_low)) in
    let few : P ≤ 16 = omega (arith, sized.processors, sized.processors_high) in
    let most = mul-le-mul_right C few in
    record {
      few = λ x b.
          let line = place_below_lem (module_of modfile) x (P * C) some in
          rw (e, sized.slots, listed_at 4097 (place_of modfile) x (omega arith)) (omega arith);
    }

-- the line of a signal is one of the module, and has it
module _ {modfile : List ℕ} (s : ModuleChecked modfile) (x : ℕ) where
  pub place_there : At (module_of modfile) (place_of modfile x / mod_slots modfile) (place_of modfile x % mod_slots modfile)
  unfolding place_of
  place_there =
      let C = mod_slots modfile in
      let line = place_below_lem (module_of modfile) x (mod_processors modfile * C) (some_lines s) in
      let positive : 0 < C = omega (arith, slots_range s) in
      is_at s ((div-lt_iff_lt-mul {k = C} {x = place_of modfile x} {y = mod_processors modfile} positive).1 line)
      (mod-lt (place_of modfile x) {m = C} positive)

  pub place_has : Placed (module_of modfile) x → (module_of modfile).signal (place_of modfile x / mod_slots modfile) (place_of modfile x % mod_slots modfile) ≡ x
  unfolding place_of module_of
  place_has there =
      let C = mod_slots modfile in
      let p = there.processor in
      let i = there.slot in
      let a = there.at in
      let positive : 0 < C = omega (arith, slots_range s) in
      let quotient : (p * C + i) / C ≡ p = omega (arith, mul-add-div_right positive p i, div-eq_of_lt a.slot) in
      let remainder : (p * C + i) % C ≡ i = mul-add-mod_self_right p C i ∙ mod-eq_of_lt a.slot in
      let low : p * C + i < mod_processors modfile * C = omega (arith, suc-mul p C, mul-le-mul_right C a.processor, a.slot) in
      place_found (module_of modfile) x (mod_processors modfile * C) (p * C + i) low
      (subst₂ (λ (q j : ℕ). (module_of modfile).signal q j ≡ x) (sym quotient) (sym remainder) there.is)
