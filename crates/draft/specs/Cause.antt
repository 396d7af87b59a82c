-- The causes for which a text is refused: their numbers, and the texts that say why.
use Rattle.std.specs.Prelude.{ℕ, ◌+◌, List, codes}
use Rattle.draft.specs.declared.cause.Cause.{Cause}
use Rattle.draft.specs.declared.cause.Cause.TheVariants.{UnknownLine, BadNumber, BadWord, Trailing, FrameMisplaced, SegmentMisplaced, SegmentCount, TooManyLocks, TooLong, Empty, Table}
use Rattle.table.specs.Refusal.{fault_number}
use Rattle.table.specs.declared.Fault.{Fault}
use Rattle.table.specs.declared.Fault.TheVariants.{Unreadable, OutOfBounds, OutOfOrder, Crowded}

-- 1 to 10, or 20 + the number of the table's own fault
abbrev pub cause_number : Cause → ℕ
cause_number UnknownLine = 1
cause_number BadNumber = 2
cause_number BadWord = 3
cause_number Trailing = 4
cause_number FrameMisplaced = 5
cause_number SegmentMisplaced = 6
cause_number SegmentCount = 7
cause_number TooManyLocks = 8
cause_number TooLong = 9
cause_number Empty = 10
cause_number (Table fault) = 20 + fault_number fault

-- why the table itself is refused
abbrev pub fault_text : Fault → List ℕ
fault_text Unreadable = codes "the table does not read whole (refusal 1)"
fault_text OutOfBounds = codes "a number is outside its bounds (refusal 2)"
fault_text OutOfOrder = codes "the job is released earlier than the job before it (refusal 3)"
fault_text Crowded = codes "no job, more than 32 jobs, or more than 64 segments (refusal 4)"

abbrev pub cause_text : Cause → List ℕ
cause_text UnknownLine = codes "a line begins with frame, job or segment"
cause_text BadNumber = codes "a number is due here, of digits alone and not too large"
cause_text BadWord = codes "a word is missing or misspelt: job NAME release N priority N, or segment SHORTEST LONGEST holds LOCK"
cause_text Trailing = codes "there is something after the end of the line"
cause_text FrameMisplaced = codes "frame comes once, as the first line"
cause_text SegmentMisplaced = codes "a segment comes after its job"
cause_text SegmentCount = codes "a job has at least one segment"
cause_text TooManyLocks = codes "there are at most 16 locks"
cause_text TooLong = codes "the text is longer than a table can be"
cause_text Empty = codes "there is no line with words"
cause_text (Table fault) = fault_text fault
