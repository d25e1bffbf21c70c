-- The texts of happenings. They are this project's own.
use Rattle.std.specs.Prelude.{ℕ, ◌==◌, if◌then◌else◌, List, ◌++◌, Option, None, Some, codes}
use Rattle.std.specs.Fmt.{decimal}
use Rattle.kernel_world.specs.CallWords.{gate_of}
use Rattle.kernel_world.specs.declared.call.Call.{Call}
use Rattle.kernel_world.specs.declared.reply.Reply.{Reply}
use Rattle.call_text.specs.Texts.{call_text, reply_text}
use Rattle.board_trace.specs.declared.cause.Cause.{Cause}
use Rattle.board_trace.specs.declared.cause.Cause.TheVariants as causes
use Rattle.board_trace.specs.declared.happening.Happening.{Happening}
use Rattle.board_trace.specs.declared.happening.Happening.TheVariants as told
use Rattle.trace_text.specs.Changes.{change_text}
use Rattle.trace_text.specs.Pieces.{escaped, signed, word_hex}

-- bytes in quotes
abbrev pub quoted : List ℕ → List ℕ
quoted bytes = codes "\"" ++ (escaped bytes ++ codes "\"")

-- a task runs, in place of another if one ran before
abbrev pub runs_text : Option ℕ → List ℕ
runs_text None = codes "runs"
runs_text (Some last) = codes "runs in place of " ++ decimal last

-- a number of instructions
abbrev pub instructions_word : ℕ → List ℕ
instructions_word count = if count == 1 then codes " instruction" else codes " instructions"

abbrev pub instructions_text : ℕ → List ℕ
instructions_text count = decimal count ++ instructions_word count

-- a call with its words, and its reply
abbrev pub called_text : Call → Reply → List ℕ
called_text call reply = call_text call ++ reply_text (gate_of call) reply

-- a message goes from one task to another
abbrev pub handed_text : ℕ → ℕ → List ℕ
handed_text queue receiver = codes "hands a message of queue " ++ (decimal queue ++ (codes " to task " ++ decimal receiver))

-- a routine begins
abbrev pub routine_text : ℕ → ℕ → List ℕ
routine_text entry param = codes "routine " ++ (word_hex entry ++ (codes " begins with " ++ signed param))

-- which exception is caused, after the address of its instruction
abbrev pub cause_text : Cause → List ℕ
cause_text (causes.Access target) = codes ": access to " ++ word_hex target
cause_text (causes.Alignment target) = codes ": alignment of " ++ word_hex target
cause_text (causes.Illegal word) = codes ": illegal word " ++ word_hex word
cause_text causes.Trap = codes ": trap"
cause_text causes.SystemCall = codes ": system call"

abbrev pub exception_text : ℕ → Cause → List ℕ
exception_text at cause = codes "exception at " ++ (word_hex at ++ cause_text cause)

-- the text of a happening
abbrev pub happening_text : Happening → List ℕ
happening_text (told.Tick tick) = codes "tick " ++ decimal tick
happening_text (told.Arrival count) = codes "bytes arrive: " ++ decimal count
happening_text (told.Interrupt slot) = codes "interrupt of slot " ++ decimal slot
happening_text (told.Delivery slot) = codes "delivery of an interrupt of slot " ++ decimal slot
happening_text (told.Jump time) = codes "nobody is ready until " ++ decimal time
happening_text (told.File name) = codes "asks for the file " ++ quoted name
happening_text (told.Runs who last) = runs_text last
happening_text (told.Called who call reply) = called_text call reply
happening_text (told.Exception who at cause) = exception_text at cause
happening_text told.Abort = codes "aborts its line"
happening_text (told.Owned mutex owner) = codes "owns mutex " ++ decimal mutex
happening_text (told.Freed mutex owner) = codes "no longer owns mutex " ++ decimal mutex
happening_text (told.Queued queue sender) = codes "adds a message to queue " ++ decimal queue
happening_text (told.HandedOver queue sender receiver) = handed_text queue receiver
happening_text (told.Taken queue receiver) = codes "takes a message from queue " ++ decimal queue
happening_text (told.Changed change) = change_text change
happening_text told.RoutineEnds = codes "routine ends"
happening_text (told.RoutineBegins entry param) = routine_text entry param
happening_text (told.Writes who bytes) = codes "writes " ++ quoted bytes
happening_text (told.Instructions who count) = instructions_text count
