-- "A refused session call changes no byte": what a refused call leaves is what it was lent.
use Prim.Native.Nat.{ℕ}
use mathlib.Core.Path.{◌≡◌, refl, sym, ◌∙◌, ap}
use mathlib.Core.Bool.{Bool, true, false, false≢true}
use Rattle.model.specs.Refusal.{Check, pass, fail}
use Rattle.model.specs.Session.{Call, set, watch, read, run, Answer, refused, done, value, ran, perform}
use Rattle.session_calls.specs.Reply.{Buffers, reply_check, performed, replied, reply}

is_refused : Answer → Bool
is_refused (refused number returned) = true
is_refused done = false
is_refused (value v) = false
is_refused (ran count stopped) = false

module _ (b : Buffers) where
  -- a call that passes its check answers no refusal
  performed_done : (c : Call) → is_refused (performed b c).answer ≡ false
  unfolding perform is_refused
  performed_done (set s v) = refl
  performed_done (watch s m) = refl
  performed_done (read s) = refl
  performed_done (run k) = refl

  pub refused_keeps : (c : Call) (number returned : ℕ) → (reply b c).answer ≡ refused number returned → (reply b c).buffers ≡ b
  unfolding reply replied is_refused
  refused_keeps c number returned = go (reply_check b c)
    where
      go : (k : Check) → (replied b c k).answer ≡ refused number returned → (replied b c k).buffers ≡ b
      go pass e = absurd (false≢true (sym (performed_done c) ∙ ap is_refused e))
      go (fail x y) e = refl
