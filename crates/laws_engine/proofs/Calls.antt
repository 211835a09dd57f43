-- A call of a list is either the reply on the session's own buffers, or it is lent a wrong length: then it gets 40, and these stay.
use Prim.Native.Nat.{ℕ}
use mathlib.Core.Path.{◌≡◌, sym, subst, ◌∙◌, ap}
use mathlib.Core.Bool.{false}
use native.Mathlib.Omega.{arith}
use Rattle.model.specs.Session.{Call, Lengths, Lent, same_lengths, Answer, refused, Reply}
use Rattle.session_answers.specs.Answers.{answer_bits}
use Rattle.session_answers.specs.Apart.{apart}
use Rattle.session_answers.proofs.Bits.{refusal, apart_bits}
use Rattle.laws_engine.specs.Interface.{Interface}
use Rattle.laws_engine.specs.Lending.{kind_of, Answered, own, other, Post}

-- "40 .. and all stays", on any buffers
pub record Refuses (I : Interface) : Type 0 where
  pub replies : (b : I.Buffers) (c : Call) → same_lengths (I.lengths b) I.fixed ≡ false
      → I.reply b c ≡ record { answer = refused 40 0; buffers = b }
  pub hands : (b : I.Buffers) (c : Call) → same_lengths (I.lengths b) I.fixed ≡ false → I.bits b c ≡ answer_bits (refused 40 0)

module _ (I : Interface) (refuses : Refuses I) where
  refused_40 : (c : Call) → apart (kind_of c) (answer_bits (refused 40 0)) ≡ refused 40 0
  refused_40 c = apart_bits (kind_of c) (refused 40 0) (refusal (omega arith) (omega arith) (omega arith))

  pub by_call : {b b' : I.Buffers} {c : Lent} {a : Answer} (p : Post I b c a b') (P : ℕ → Answer → I.Buffers → Type 0)
      → (I.lengths b ≡ c.lengths → P (I.bits b c.call) (apart (kind_of c.call) (I.bits b c.call)) (I.reply b c.call).buffers)
      → (same_lengths c.lengths I.fixed ≡ false → P (answer_bits (refused 40 0)) (refused 40 0) b)
      → P p.bits a b'
  by_call {b} {b'} {c} {a} p P replied stayed = go p.answered
    where
      go : Answered I b c p.bits b' → P p.bits a b'
      go (own e met) =
          subst (λ (x : Answer). P p.bits x b') (sym p.taken)
          (subst (λ (x : I.Buffers). P p.bits (apart (kind_of c.call) p.bits) x) (sym met.leaves)
          (subst (λ (k : ℕ). P k (apart (kind_of c.call) k) (I.reply b c.call).buffers) (sym met.answer) (replied e)))
      go (other lent left around e l met here there) =
          let wrong : same_lengths (I.lengths lent) I.fixed ≡ false = ap (λ (x : Lengths). same_lengths x I.fixed) e ∙ l in
          let bits = met.answer ∙ refuses.hands lent c.call wrong in
          let back = met.leaves ∙ ap (λ (r : Reply I.Buffers). r.buffers) (refuses.replies lent c.call wrong) in
          subst (λ (x : Answer). P p.bits x b') (sym (p.taken ∙ ap (apart (kind_of c.call)) bits ∙ refused_40 c.call))
          (subst (λ (k : ℕ). P k (refused 40 0) b') (sym bits)
          (subst (P (answer_bits (refused 40 0)) (refused 40 0)) (sym (there ∙ ap around back ∙ sym here)) (stayed l)))
