-- Document 01, "Returned numbers": what a call is refused for, each reason with its number, and the number of a call's result.
use Rattle.std.specs.Prelude.{ℕ, List, [], ◌∷◌, Result, Ok, Err}
use Rattle.returned.specs.Returned
use Rattle.returned.specs.declared.Refusal.{Refusal}
use Rattle.returned.specs.declared.Refusal.TheVariants.{WrongBuffer, Damaged, BadProgram, Marked, BadName, LongName, BadNumber, NoObject, WrongKind, Taken, NotEmpty, BadRange, LogFull, Spent, NotFirst, NotFound, LinkLost, LossesLeft, ShortBuffer, BadRecord}

abbrev pub refusal_number : Refusal → ℕ
refusal_number WrongBuffer = Returned.wrong_buffer
refusal_number Damaged = Returned.damaged
refusal_number BadProgram = Returned.bad_program
refusal_number Marked = Returned.marked
refusal_number BadName = Returned.bad_name
refusal_number LongName = Returned.long_name
refusal_number BadNumber = Returned.bad_number
refusal_number NoObject = Returned.no_object
refusal_number WrongKind = Returned.wrong_kind
refusal_number Taken = Returned.taken
refusal_number NotEmpty = Returned.not_empty
refusal_number BadRange = Returned.bad_range
refusal_number LogFull = Returned.log_full
refusal_number Spent = Returned.spent
refusal_number NotFirst = Returned.not_first
refusal_number NotFound = Returned.none
refusal_number LinkLost = Returned.link_lost
refusal_number LossesLeft = Returned.losses_left
refusal_number ShortBuffer = Returned.short_buffer
refusal_number BadRecord = Returned.bad_record

-- the returned number of a result: 0 where the call is accepted, and else the refusal's
abbrev pub number_of : {A : Type 0} → Result A Refusal → ℕ
number_of (Ok x) = Returned.accepted
number_of (Err r) = refusal_number r

-- the other results of a call: "The other results of a refusal are 0"
abbrev pub value_or0 : Result ℕ Refusal → ℕ
value_or0 (Ok x) = x
value_or0 (Err r) = 0
