-- Buffers on which every call gives 44 and changes nothing: so does every list of calls, but for 40 where a length is wrong.
use mathlib.Core.Path.{◌≡◌, refl, sym, ◌∙◌, ap}
use mathlib.Core.Bool.{true, false}
use mathlib.Core.List.{List}
use native.Mathlib.Omega.{arith}
use Rattle.std.specs.Prelude.{if◌then◌else◌}
use Rattle.model.specs.Session.{Call, Lengths, Lent, same_lengths, Answer, refused, Reply}
use Rattle.model.specs.Demands.{Trace, end, next}
use Rattle.session_answers.specs.Answers.{answer_bits}
use Rattle.session_answers.specs.Apart.{apart}
use Rattle.session_answers.proofs.Bits.{refusal, apart_bits}
use Rattle.laws_engine.specs.Interface.{Interface}
use Rattle.laws_engine.specs.Lending.{kind_of, Post, Throughout, EveryCall}
use Rattle.laws_engine.proofs.Calls.{Refuses, by_call}

-- 44, or 40 where a call is lent a wrong length
abbrev pub AnswersDead : Interface → Lent → Answer → Type 0
AnswersDead I c a = a ≡ refused (if same_lengths c.lengths I.fixed then 44 else 40) 0

module _ (I : Interface) (refuses : Refuses I) (dead : I.Buffers) (right : same_lengths (I.lengths dead) I.fixed ≡ true)
    (replies : (c : Call) → I.reply dead c ≡ record { answer = refused 44 0; buffers = dead })
    (hands : (c : Call) → I.bits dead c ≡ answer_bits (refused 44 0)) where
  call_dead : (b b' : I.Buffers) (c : Lent) (a : Answer) → b ≡ dead → Post I b c a b' → AnswersDead I c a × (b' ≡ dead)
  call_dead b b' c a is p = by_call I refuses p (λ bits x left. AnswersDead I c x × (left ≡ dead)) replied stayed
    where
      told : apart (kind_of c.call) (I.bits dead c.call) ≡ refused 44 0
      told =
          ap (apart (kind_of c.call)) (hands c.call)
          ∙ apart_bits (kind_of c.call) (refused 44 0) (refusal (omega arith) (omega arith) (omega arith))

      replied : I.lengths b ≡ c.lengths
          → AnswersDead I c (apart (kind_of c.call) (I.bits b c.call)) × ((I.reply b c.call).buffers ≡ dead)
      replied e =
          let same : same_lengths c.lengths I.fixed ≡ true = ap (λ (x : Lengths). same_lengths x I.fixed) (sym e ∙ ap I.lengths is) ∙ right in
          (rw (is, same) told, rw is (ap (λ (r : Reply I.Buffers). r.buffers) (replies c.call)))

      stayed : same_lengths c.lengths I.fixed ≡ false → AnswersDead I c (refused 40 0) × (b ≡ dead)
      stayed l = (rw l, is)

  from_dead : {b : I.Buffers} {cs : List Lent} → b ≡ dead → (t : Trace (Post I) b cs)
      → EveryCall I (λ c bits a. AnswersDead I c a) t × Throughout I (λ b. b ≡ dead) t
  unfolding EveryCall Throughout
  from_dead is end = (tt, is)
  from_dead is (next {b} {c} a b' p rest) =
      let call = call_dead b b' c a is p in
      let later = from_dead call.1 rest in
      ((call.0, later.0), (is, later.1))

  pub dead_list : {cs : List Lent} (t : Trace (Post I) dead cs) → EveryCall I (λ c bits a. AnswersDead I c a) t × Throughout I (λ b. b ≡ dead) t
  dead_list t = from_dead refl t
