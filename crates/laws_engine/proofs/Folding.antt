-- Lists of calls that meet their contracts are there: each call by its definition, one after the other, on any engine. And a call that
-- met its contract stands in a list.
use Prim.Native.Nat.{ℕ}
use mathlib.Core.Path.{◌≡◌, refl, sym, ◌∙◌}
use mathlib.Core.Bool.{Bool, true, false}
use mathlib.Core.List.{List, [], ◌∷◌}
use lib.ListN.{length}
use Rattle.model.specs.Session.{Call, Lengths, Lent, same_lengths}
use Rattle.model.specs.Demands.{Trace, end, next}
use Rattle.model.proofs.Lengths.{lengths_same}
use Rattle.session_answers.specs.Apart.{apart}
use Rattle.laws_engine.specs.Interface.{Interface}
use Rattle.laws_engine.specs.Lending.{kind_of, Has32, Meets, own, other, Post, EveryCallable}

module _ (I : Interface) where
  -- lent the session's buffers, or others of which a length is wrong
  module _ {lent left : I.Buffers} {c : Call} {bits : ℕ} (numbers : Has32 c) (met : Meets I lent c bits left) where
    abbrev called : Lent
    called = record { lengths = I.lengths lent; call = c }

    pub own_stands : Post I lent called (apart (kind_of c) bits) left
    own_stands = record { bits = bits; numbers = numbers; taken = refl; answered = own refl met }

    pub other_stands : same_lengths (I.lengths lent) I.fixed ≡ false → (around : I.Buffers → I.Buffers)
        → Post I (around lent) called (apart (kind_of c) bits) (around left)
    other_stands wrong around =
        record { bits = bits; numbers = numbers; taken = refl; answered = other lent left around refl wrong met refl refl }

  defined : (b : I.Buffers) (c : Call) → Meets I b c (I.bits b c) (I.reply b c).buffers
  defined b c = record { answer = refl; leaves = refl }

  -- There are buffers of any lengths; those of a session have the right ones, and keep them.
  module _ (lending : (l : Lengths) → length l ≡ length I.fixed → I.Buffers)
      (lending_lengths : (l : Lengths) (e : length l ≡ length I.fixed) → I.lengths (lending l e) ≡ l) (Good : I.Buffers → Type 0)
      (right : (b : I.Buffers) → Good b → same_lengths (I.lengths b) I.fixed ≡ true)
      (stays : (b : I.Buffers) (c : Call) → Good b → Good (I.reply b c).buffers) where
    pub folded : (b : I.Buffers) → Good b → (cs : List Lent) → EveryCallable I cs → Trace (Post I) b cs
    unfolding EveryCallable
    folded b good [] callable = end
    folded b good (c ∷ cs) callable =
        go (folded (I.reply b c.call).buffers (stays b c.call good) cs callable.1) (folded b good cs callable.1)
        (same_lengths c.lengths I.fixed) refl
      where
        go : Trace (Post I) (I.reply b c.call).buffers cs → Trace (Post I) b cs → (t : Bool) → same_lengths c.lengths I.fixed ≡ t
            → Trace (Post I) b (c ∷ cs)
        go rest same true e =
            next _ (I.reply b c.call).buffers
            (record {
              bits = I.bits b c.call;
              numbers = callable.0.numbers;
              taken = refl;
              answered = own (lengths_same (I.lengths b) I.fixed (right b good) ∙ sym (lengths_same c.lengths I.fixed e)) (defined b c.call);
            })
            rest
        go rest same false e =
            let lent = lending c.lengths callable.0.buffers in
            next _ b
            (record {
              bits = I.bits lent c.call;
              numbers = callable.0.numbers;
              taken = refl;
              answered = other lent (I.reply lent c.call).buffers (λ x. b) (lending_lengths c.lengths callable.0.buffers) e (defined lent c.call) refl refl;
            })
            same
