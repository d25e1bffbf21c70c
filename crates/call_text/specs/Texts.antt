-- The texts of a kernel call and of its reply, for a trace: `semTake(2, -1)` and ` = -1 OBJ_TIMEOUT`. Names and words
-- are those of the call; how they are written is this project's own.
use Rattle.std.specs.Prelude.{ℕ, List, [], ◌∷◌, ◌++◌, map, false, Option, None, Some, codes}
use Rattle.std.specs.Fmt.{signed_decimal, digits}
use Rattle.std.specs.Int.{cast_signed, w32}
use Rattle.wind_base.specs.Errno.{errno_name}
use Rattle.wind_base.specs.Gates.{rules_of}
use Rattle.wind_base.specs.Limits.{ok_word}
use Rattle.wind_base.specs.declared.errno.Errno.{Errno}
use Rattle.wind_base.specs.declared.errno.Errno.TheVariants as errors
use Rattle.wind_base.specs.declared.gate.Gate.{Gate}
use Rattle.wind_base.specs.declared.gate.Gate.TheVariants as gates
use Rattle.kernel_world.specs.CallWords.{gate_of}
use Rattle.kernel_world.specs.declared.call.Call.{Call}
use Rattle.kernel_world.specs.declared.call.Call.TheVariants as calls
use Rattle.kernel_world.specs.declared.reply.Reply.{Reply}
use Rattle.kernel_world.specs.declared.reply.Reply.TheVariants.{Answer, Refusal, Later, Gone}
use Rattle.call_text.specs.declared.word.Word.{Word}
use Rattle.call_text.specs.declared.word.Word.TheVariants.{Number, Hex, Unreadable, Rest}

-- the text of a call has at most this many bytes
abbrev pub most_call_text : ℕ
most_call_text = 256

-- the text of a reply has at most this many bytes
abbrev pub most_reply_text : ℕ
most_reply_text = 64

-- the text of a word: a number signed, in decimal digits; an address or an error number in hexadecimal digits;
-- `?` for words on the stack that are outside RAM; `..` for the rest of the words, which the call doesn't contain
abbrev pub word_text : Word → List ℕ
word_text (Number v) = signed_decimal (cast_signed w32 v)
word_text (Hex v) = codes "0x" ++ digits 16 false v
word_text Unreadable = codes "?"
word_text Rest = codes ".."

-- each word after a comma and a blank
abbrev pub more_text : List Word → List ℕ
more_text [] = []
more_text (w ∷ ws) = codes ", " ++ word_text w ++ more_text ws

-- words with a comma and a blank between each two
abbrev pub list_text : List Word → List ℕ
list_text [] = []
list_text (w ∷ ws) = word_text w ++ more_text ws

-- the ten arguments of a task, or that a byte of them is outside RAM
abbrev pub task_arguments : Option (List ℕ) → List Word
task_arguments None = Unreadable ∷ []
task_arguments (Some words) = map Number words

-- the words of printf: its format, the first seven values, and the rest, which are on the stack
abbrev pub printf_words : ℕ → List ℕ → List Word
printf_words format values = Hex format ∷ map Number values ++ Rest ∷ []

-- the words of a call, in the order of its arguments
abbrev pub words_of : Call → List Word
words_of (calls.TaskSpawn name priority options stack_size entry arguments) = Hex name ∷ Number priority ∷ Number options ∷ Number stack_size ∷ Hex entry ∷ task_arguments arguments
words_of (calls.Sp entry arguments) = Hex entry ∷ task_arguments arguments
words_of (calls.TaskDelete id) = Number id ∷ []
words_of (calls.TaskSuspend id) = Number id ∷ []
words_of (calls.TaskResume id) = Number id ∷ []
words_of (calls.TaskPrioritySet id priority) = Number id ∷ Number priority ∷ []
words_of (calls.TaskPriorityGet id address) = Number id ∷ Hex address ∷ []
words_of (calls.TaskDelay ticks) = Number ticks ∷ []
words_of calls.TaskLock = []
words_of calls.TaskUnlock = []
words_of calls.TaskSafe = []
words_of calls.TaskUnsafe = []
words_of calls.TaskIdSelf = []
words_of (calls.TaskIdVerify id) = Number id ∷ []
words_of (calls.TaskNameToId name) = Hex name ∷ []
words_of (calls.KernelTimeSlice ticks) = Number ticks ∷ []
words_of calls.TickGet = []
words_of (calls.SemBCreate options state) = Number options ∷ Number state ∷ []
words_of (calls.SemCCreate options count) = Number options ∷ Number count ∷ []
words_of (calls.SemMCreate options) = Number options ∷ []
words_of (calls.SemTake id timeout) = Number id ∷ Number timeout ∷ []
words_of (calls.SemGive id) = Number id ∷ []
words_of (calls.SemFlush id) = Number id ∷ []
words_of (calls.SemDelete id) = Number id ∷ []
words_of (calls.MsgQCreate max_msgs max_length options) = Number max_msgs ∷ Number max_length ∷ Number options ∷ []
words_of (calls.MsgQSend id buffer count timeout priority) = Number id ∷ Hex buffer ∷ Number count ∷ Number timeout ∷ Number priority ∷ []
words_of (calls.MsgQReceive id buffer count timeout) = Number id ∷ Hex buffer ∷ Number count ∷ Number timeout ∷ []
words_of (calls.MsgQDelete id) = Number id ∷ []
words_of (calls.MsgQNumMsgs id) = Number id ∷ []
words_of calls.WdCreate = []
words_of (calls.WdStart id delay routine parameter) = Number id ∷ Number delay ∷ Hex routine ∷ Number parameter ∷ []
words_of (calls.WdCancel id) = Number id ∷ []
words_of (calls.WdDelete id) = Number id ∷ []
words_of calls.IntLock = []
words_of (calls.IntUnlock key) = Number key ∷ []
words_of calls.IntContext = []
words_of (calls.Malloc size) = Number size ∷ []
words_of (calls.Free address) = Hex address ∷ []
words_of (calls.Memalign align size) = Number align ∷ Number size ∷ []
words_of (calls.SymAdd table name value kind group) = Number table ∷ Hex name ∷ Hex value ∷ Number kind ∷ Number group ∷ []
words_of (calls.Printf format values stack) = printf_words format values
words_of calls.ErrnoGet = []
words_of (calls.ErrnoSet number) = Hex number ∷ []
words_of (calls.Ld symbols no_abort name) = Number symbols ∷ Number no_abort ∷ Hex name ∷ []
words_of (calls.Unld which options) = Hex which ∷ Number options ∷ []
words_of calls.I = []
words_of (calls.Lkup text) = Hex text ∷ []
words_of calls.ModuleShow = []
words_of (calls.D address units width) = Hex address ∷ Number units ∷ Number width ∷ []
words_of (calls.IntConnect slot routine parameter) = Number slot ∷ Hex routine ∷ Number parameter ∷ []
words_of (calls.IntDisconnect slot routine) = Number slot ∷ Hex routine ∷ []
words_of (calls.IntEnable slot) = Number slot ∷ []
words_of (calls.IntDisable slot) = Number slot ∷ []
words_of (calls.IntPending slot) = Number slot ∷ []
words_of (calls.DevRemove slot) = Number slot ∷ []

-- the name of the call of a gate
abbrev pub name_text : Option (List ℕ) → List ℕ
name_text None = []
name_text (Some name) = name

-- the text of a call: its name, and its words in parentheses
unfoldable pub call_text : Call → List ℕ
call_text c = name_text (rules_of (gate_of c)).name ++ codes "(" ++ list_text (words_of c) ++ codes ")"

-- the result of a gate's call as a word: an address of malloc and memalign, an error number of errnoGet, otherwise a
-- number
abbrev pub result_word : Gate → ℕ → Word
result_word gates.Malloc v = Hex v
result_word gates.Memalign v = Hex v
result_word gates.ErrnoGet v = Hex v
result_word g v = Number v

-- the text of a result
abbrev pub result_text : Gate → ℕ → List ℕ
result_text g v = codes " = " ++ word_text (result_word g v)

-- the result of a refused call: 0 if nothing is loaded, otherwise the word of the gate
abbrev pub refused_result : Gate → Errno → ℕ
refused_result g errors.LoadFailed = ok_word
refused_result g e = (rules_of g).refusal

-- the text of a reply: the result; the result and the error's name if the call is refused; that the caller waits or has
-- ended
unfoldable pub reply_text : Gate → Reply → List ℕ
reply_text g (Answer v) = result_text g v
reply_text g (Refusal e) = result_text g (refused_result g e) ++ codes " " ++ errno_name e
reply_text g Later = codes " waits"
reply_text g Gone = codes " ends its caller"
