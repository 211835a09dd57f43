-- The parts that the one writer takes make what is printed, and what was written before a failed write is its beginning. So demand 2 holds
-- of whatever the program writes where no write fails.
use Prim.Native.Nat.{ℕ, zero, suc, ◌+◌, ◌-◌}
use mathlib.Core.Path.{◌≡◌, refl, sym, ◌∙◌, ap}
use mathlib.Core.Bool.{Bool, false, false≢true}
use mathlib.Core.List.{List, [], ◌++◌, append_assoc, append-nil}
use native.Mathlib.Omega.{arith}
use Rattle.model.specs.Refusal.{Check, pass, fail}
use Rattle.model.specs.Files.{Files}
use Rattle.model.specs.Acceptance.{panel_limit, file_check}
use Rattle.model.specs.Listing.{joined, printed_for, printed}
use Rattle.model.specs.Demands.{Demand2}
use Rattle.model.proofs.Demands.{printed_demand_2}
use Rattle.laws_listing.specs.Reading.{first_bytes}
use Rattle.laws_listing.proofs.Printed.{pieces_joined, read_printed}
use Rattle.listing_print.specs.Handing.{part_for, part_at, count_for, part_count, Handing}
use Rattle.cavundir.specs.Output.{Output}

-- all parts in order are what is printed
parts_joined : (files : Files) → joined (part_count files) (part_at files) ≡ printed panel_limit files
unfolding part_for count_for printed printed_for joined
parts_joined files = go (file_check panel_limit files)
  where
    go : (c : Check) → joined (count_for c files) (part_for c files) ≡ printed_for files c
    go pass = pieces_joined files
    go (fail number returned) = refl

-- The parts that the one writer takes, in order, for the bytes read of any files: what is printed for the whole files
pub parts_printed : (files : Files) → joined (part_count (first_bytes files)) (part_at (first_bytes files)) ≡ printed panel_limit files
parts_printed files = parts_joined (first_bytes files) ∙ read_printed files

-- Where no write failed, the parts written are what is printed
pub handed_printed : (files : Files) {parts : ℕ} {failed : Bool} → Handing (first_bytes files) parts failed → failed ≡ false
    → joined parts (part_at (first_bytes files)) ≡ printed panel_limit files
handed_printed files handing unfailed =
    ap (λ (n : ℕ). joined n (part_at (first_bytes files))) (handing.whole unfailed) ∙ parts_printed files

-- the first pieces are the beginning of more of them
begins : (f : ℕ → List ℕ) (k more : ℕ) → (rest : List ℕ) × (joined k f ++ rest ≡ joined (k + more) f)
unfolding joined
begins f k zero = ([], append-nil (joined k f) ∙ ap (λ (n : ℕ). joined n f) (let e : k ≡ k + 0 = omega arith in e))
begins f k (suc more) =
    let before = begins f k more in (
      before.0 ++ f (k + more),
      sym (append_assoc (joined k f) before.0 (f (k + more)))
          ∙ ap (λ (x : List ℕ). x ++ f (k + more)) before.1
          ∙ ap (λ (n : ℕ). joined n f) (let e : suc (k + more) ≡ k + suc more = omega arith in e),
    )

-- The parts written are the beginning of what is printed, whether or not a write failed
pub handed_begins : (files : Files) {parts : ℕ} {failed : Bool} → Handing (first_bytes files) parts failed
    → (rest : List ℕ) × (joined parts (part_at (first_bytes files)) ++ rest ≡ printed panel_limit files)
handed_begins files {parts} handing =
    let all = begins (part_at (first_bytes files)) parts (part_count (first_bytes files) - parts) in
    let e : parts + (part_count (first_bytes files) - parts) ≡ part_count (first_bytes files) = omega (arith, handing.few) in
    (all.0, all.1 ∙ ap (λ (n : ℕ). joined n (part_at (first_bytes files))) e ∙ parts_printed files)

pub output_printed : {files : Files} {text : List ℕ} → Output files text → text ≡ printed panel_limit files
output_printed {files} w = w.is ∙ handed_printed files w.handing refl

-- Demand 2 of whatever the program writes for the files where no write fails
pub handed_demand_2 : (prints : Files → List ℕ) → ((files : Files) → Output files (prints files)) → Demand2 panel_limit prints
handed_demand_2 prints by = printed_demand_2 panel_limit prints (λ files. output_printed (by files))

-- and such a text there is for all files
pub output_some : (files : Files) → Output files (printed panel_limit files)
output_some files =
    record {
      parts = part_count (first_bytes files);
      handing = record { few = omega arith; whole = λ q. refl; cut = λ q. absurd (false≢true q) };
      is = sym (parts_printed files);
    }
