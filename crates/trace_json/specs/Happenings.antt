-- What happens in a step as JSON: its word, and its further members. Names and bytes are strings in which a byte
-- that isn't plain is `\xNN`.
use Rattle.std.specs.Prelude.{ℕ, List, [], ◌∷◌, codes}
use Rattle.std.specs.Int.{cast_signed, w32}
use Rattle.serde_json.specs.Data.{Data, number, string}
use Rattle.serde_json.specs.Find.{of_integer}
use Rattle.board_trace.specs.declared.cause.Cause.{Cause}
use Rattle.board_trace.specs.declared.cause.Cause.TheVariants as causes
use Rattle.board_trace.specs.declared.happening.Happening.{Happening}
use Rattle.board_trace.specs.declared.happening.Happening.TheVariants as told
use Rattle.trace_state.specs.Json.{number_of, number_or_null, text_of}
use Rattle.trace_json.specs.Calls.{call_members}
use Rattle.trace_json.specs.Changes.{change_members, change_word}

-- the word for a happening
abbrev pub event_word : Happening → List ℕ
event_word (told.Tick tick) = codes "tick"
event_word (told.Arrival count) = codes "bytes_arrive"
event_word (told.Interrupt slot) = codes "interrupt"
event_word (told.Delivery slot) = codes "delivery"
event_word (told.Jump time) = codes "nobody_is_ready"
event_word (told.File name) = codes "asks_for_file"
event_word (told.Runs who last) = codes "runs"
event_word (told.Called who call reply) = codes "call"
event_word (told.Exception who at cause) = codes "exception"
event_word told.Abort = codes "aborts_line"
event_word (told.Owned mutex owner) = codes "owns"
event_word (told.Freed mutex owner) = codes "no_longer_owns"
event_word (told.Queued queue sender) = codes "adds_message"
event_word (told.HandedOver queue sender receiver) = codes "hands_message"
event_word (told.Taken queue receiver) = codes "takes_message"
event_word (told.Changed change) = change_word change
event_word told.RoutineEnds = codes "routine_ends"
event_word (told.RoutineBegins entry param) = codes "routine_begins"
event_word (told.Writes who bytes) = codes "writes"
event_word (told.Instructions who count) = codes "instructions"

-- a queue, and the task that a message is handed to
abbrev pub handed_members : ℕ → ℕ → List (List ℕ × Data)
handed_members queue receiver = (codes "queue", number_of queue) ∷ (codes "receiver", number_of receiver) ∷ []

-- the address of a routine, and its parameter as a signed number
abbrev pub routine_members : ℕ → ℕ → List (List ℕ × Data)
routine_members entry param = (codes "entry", number_of entry) ∷ (codes "parameter", number (of_integer (cast_signed w32 param))) ∷ []

-- which exception, with the data address or the word that caused it
abbrev pub cause_word : Cause → List ℕ
cause_word (causes.Access target) = codes "access"
cause_word (causes.Alignment target) = codes "alignment"
cause_word (causes.Illegal word) = codes "illegal"
cause_word causes.Trap = codes "trap"
cause_word causes.SystemCall = codes "system_call"

abbrev pub cause_members : Cause → List (List ℕ × Data)
cause_members (causes.Access target) = (codes "target", number_of target) ∷ []
cause_members (causes.Alignment target) = (codes "target", number_of target) ∷ []
cause_members (causes.Illegal word) = (codes "word", number_of word) ∷ []
cause_members causes.Trap = []
cause_members causes.SystemCall = []

-- the program counter of an exception, and its cause
abbrev pub exception_members : ℕ → Cause → List (List ℕ × Data)
exception_members at cause = (codes "at", number_of at) ∷ (codes "cause", string (cause_word cause)) ∷ cause_members cause

-- what else is told of a happening
abbrev pub event_members : Happening → List (List ℕ × Data)
event_members (told.Tick tick) = (codes "tick", number_of tick) ∷ []
event_members (told.Arrival count) = (codes "count", number_of count) ∷ []
event_members (told.Interrupt slot) = (codes "slot", number_of slot) ∷ []
event_members (told.Delivery slot) = (codes "slot", number_of slot) ∷ []
event_members (told.Jump time) = (codes "until", number_of time) ∷ []
event_members (told.File name) = (codes "file", text_of name) ∷ []
event_members (told.Runs who last) = (codes "in_place_of", number_or_null last) ∷ []
event_members (told.Called who call reply) = call_members call reply
event_members (told.Exception who at cause) = exception_members at cause
event_members told.Abort = []
event_members (told.Owned mutex owner) = (codes "mutex", number_of mutex) ∷ []
event_members (told.Freed mutex owner) = (codes "mutex", number_of mutex) ∷ []
event_members (told.Queued queue sender) = (codes "queue", number_of queue) ∷ []
event_members (told.HandedOver queue sender receiver) = handed_members queue receiver
event_members (told.Taken queue receiver) = (codes "queue", number_of queue) ∷ []
event_members (told.Changed change) = change_members change
event_members told.RoutineEnds = []
event_members (told.RoutineBegins entry param) = routine_members entry param
event_members (told.Writes who bytes) = (codes "bytes", text_of bytes) ∷ []
event_members (told.Instructions who count) = (codes "count", number_of count) ∷ []
