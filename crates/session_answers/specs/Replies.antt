-- The answers of the session's calls, each case as the model's answer (01, Session and Refusals): the contracts of inner functions use it.
use Rattle.std.specs.Prelude.{Result, Ok, Err}
use Rattle.model.specs.Session.{Answer, done, value, ran}
use Rattle.session_answers.specs.Answers.{check_answer}
use Rattle.session_answers.specs.Refusals.{call_refusal}
use Rattle.session_answers.specs.declared.CallRefusal.{CallRefusal}
use Rattle.session_answers.specs.declared.Reply.{Reply}
use Rattle.session_answers.specs.declared.Reply.TheVariants.{Done, Value, Ran}

-- what a call of the session answers: its refusal, or what it replies
abbrev pub call_answer : Result Reply CallRefusal → Answer
call_answer (Err refusal) = check_answer (call_refusal refusal)
call_answer (Ok Done) = done
call_answer (Ok (Value v)) = value v
call_answer (Ok (Ran run)) = ran run.done.0 run.stopped
