-- A store that is made or not, and arrays filled one by one.
use Prim.Native.Nat.{ℕ, ◌+◌, ◌<◌}
use mathlib.Core.Path.{◌≡◌, refl, sym, ◌∙◌, ap}
use mathlib.Core.Bool.{Bool, true, false, not}
use mathlib.Core.List.{List}
use native.Mathlib.Omega.{arith}
use lib.Dec.{eqb}
use lib.ListN.{length, get_or, set}
use lib.Seq.{get_or-set_same, get_or-set_other}
use borrow.Author.Tests.{eqb-true, eqb-false}
use Rattle.std.specs.Prelude.{Some, None}
use Rattle.std.specs.Prelude.{if◌then◌else◌}
use Rattle.model.specs.Module.{no_sender}
use Rattle.instruction.specs.Sender.{sender_numbered}
use Rattle.machine_slot.specs.Storing.{stored_if, received_stored, FirstAre}

-- the value received, by the number of the processor
pub received_numbered : (x : ℕ) (sents l : List ℕ) (place : ℕ)
    → received_stored (sender_numbered x) sents l place ≡ stored_if (not (eqb x no_sender)) l place (get_or sents x 0)
received_numbered x sents l place = go (eqb x no_sender)
  where
    go : (b : Bool) → received_stored (if b then None else Some x) sents l place ≡ stored_if (not b) l place (get_or sents x 0)
    go true = refl
    go false = refl

-- one more element
pub first_more : (f : ℕ → ℕ) (l : List ℕ) (p v : ℕ) → p < length l → FirstAre p f l → v ≡ f p → FirstAre (p + 1) f (set l p v)
first_more f l p v h are e k low = go (eqb k p) refl
  where
    go : (b : Bool) → eqb k p ≡ b → get_or (set l p v) k 0 ≡ f k
    go true q = ap (λ (x : ℕ). get_or (set l p v) x 0) (eqb-true k p q) ∙ get_or-set_same l p v 0 h ∙ e ∙ ap f (sym (eqb-true k p q))
    go false q = let d = eqb-false k p q in get_or-set_other l p k v 0 d ∙ are k (omega arith)
