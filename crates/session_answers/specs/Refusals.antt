-- The refusals of the session's calls and of recorded values: number and returned value of each case (01, Refusals).
use Rattle.model.specs.Refusal.{Check, fail}
use Rattle.session_answers.specs.declared.CallRefusal.{CallRefusal}
use Rattle.session_answers.specs.declared.CallRefusal.TheVariants.{WrongLength, OutOfRange, NoSuchSignal, NoSuchValue, TooManyCycles}
use Rattle.session_answers.specs.declared.NoSuchValue.{NoSuchValue as NoSuchRecorded}

-- 40 and 44 return 0, 41 the signal, 42 the value given, 43 the cycles finished
abbrev pub call_refusal : CallRefusal → Check
call_refusal WrongLength = fail 40 0
call_refusal OutOfRange = fail 44 0
call_refusal (NoSuchSignal signal) = fail 41 signal
call_refusal (NoSuchValue given) = fail 42 given
call_refusal (TooManyCycles finished) = fail 43 finished.0

-- of a recorded value: 42, which returns it
abbrev pub recorded_refusal : NoSuchRecorded → Check
recorded_refusal value = fail 42 value.0
