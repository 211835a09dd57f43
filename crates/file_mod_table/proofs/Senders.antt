-- What is known of the processor received from, which is read as an Option.
use Prim.Native.Nat.{ℕ, ◌<◌}
use mathlib.Core.Path.{◌≡◌, refl}
use mathlib.Core.Bool.{Bool, true, false}
use native.Mathlib.Omega.{arith}
use lib.Dec.{eqb}
use borrow.Author.Tests.{eqb-false}
use Rattle.std.specs.Prelude.{Option, Some, None, IfSome}
use Rattle.std.specs.Prelude.{if◌then◌else◌}
use Rattle.model.specs.Module.{no_sender}
use Rattle.instruction.specs.Sender.{sender_numbered}

pub record From (sender processor : ℕ) : Type 0 where
  pub same : sender ≡ processor
  pub some : eqb sender no_sender ≡ false

pub sender_is : (sender processor : ℕ) → sender_numbered sender ≡ Some processor → From sender processor
sender_is sender processor e = go (eqb sender no_sender) refl e
  where
    numbered : Bool → Option ℕ
    numbered b = if b then None else Some sender

    go : (b : Bool) → eqb sender no_sender ≡ b → numbered b ≡ Some processor → From sender processor
    go true f q = absurd (let z : ◌≡◌ {A = ℕ} 0 1 = cc in omega arith)
    go false f q = record { same = cc; some = f }

pub no_sender_is : (sender : ℕ) → sender_numbered sender ≡ None → eqb sender no_sender ≡ true
no_sender_is sender e = go (eqb sender no_sender) e
  where
    numbered : Bool → Option ℕ
    numbered b = if b then None else Some sender

    go : (b : Bool) → numbered b ≡ None → b ≡ true
    go true q = refl
    go false q = absurd (let z : ◌≡◌ {A = ℕ} 0 1 = cc in omega arith)

-- a processor received from is one of the module's, where the number is 99 or one of these
pub sender_within : (sender processors : ℕ) → ((sender ≡ no_sender → ⊥) → sender < processors) → IfSome (sender_numbered sender) (λ q. q < processors)
sender_within sender processors low = go (eqb sender no_sender) refl
  where
    go : (b : Bool) → eqb sender no_sender ≡ b → IfSome (if b then None else Some sender) (λ q. q < processors)
    go true e = tt
    go false e = low (eqb-false _ _ e)
