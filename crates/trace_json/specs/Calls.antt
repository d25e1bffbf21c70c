-- A kernel call as JSON.
use Rattle.std.specs.Prelude.{ℕ, List, [], ◌∷◌, codes}
use Rattle.std.specs.Int.{cast_signed, w32}
use Rattle.serde_json.specs.Data.{Data, null, number, string}
use Rattle.serde_json.specs.Find.{of_integer}
use Rattle.wind_base.specs.Errno.{errno_name}
use Rattle.wind_base.specs.Gates.{rules_of}
use Rattle.wind_base.specs.declared.errno.Errno.{Errno}
use Rattle.wind_base.specs.declared.gate.Gate.{Gate}
use Rattle.kernel_world.specs.CallWords.{gate_of}
use Rattle.kernel_world.specs.declared.call.Call.{Call}
use Rattle.kernel_world.specs.declared.reply.Reply.{Reply}
use Rattle.kernel_world.specs.declared.reply.Reply.TheVariants.{Answer, Refusal, Later, Gone}
use Rattle.call_text.specs.Texts.{name_text, refused_result, result_word, words_of}
use Rattle.call_text.specs.declared.word.Word.{Word}
use Rattle.call_text.specs.declared.word.Word.TheVariants.{Number, Hex, Unreadable, Rest}
use Rattle.trace_state.specs.Json.{list_of, number_of}

-- a word: a number is signed, an address or an error number isn't; null for words on the stack that are outside RAM,
-- and ".." for the rest of the words of printf
abbrev pub word_data : Word → Data
word_data (Number v) = number (of_integer (cast_signed w32 v))
word_data (Hex v) = number_of v
word_data Unreadable = null
word_data Rest = string (codes "..")

-- a refusal has the result and the error's name
abbrev pub refusal_members : Gate → Errno → List (List ℕ × Data)
refusal_members g e =
    (codes "reply", string (codes "refusal")) ∷ (codes "result", word_data (result_word g (refused_result g e))) ∷ (codes "error", string (errno_name e)) ∷ []

-- the reply to the call of a gate: its result, or that the caller waits or has ended
abbrev pub reply_members : Gate → Reply → List (List ℕ × Data)
reply_members g (Answer v) = (codes "reply", string (codes "answer")) ∷ (codes "result", word_data (result_word g v)) ∷ []
reply_members g (Refusal e) = refusal_members g e
reply_members g Later = (codes "reply", string (codes "waits")) ∷ []
reply_members g Gone = (codes "reply", string (codes "ends its caller")) ∷ []

-- a call: its name, its words and its reply
abbrev pub call_members : Call → Reply → List (List ℕ × Data)
call_members call reply =
    (codes "call", string (name_text (rules_of (gate_of call)).name)) ∷ (codes "words", list_of word_data (words_of call)) ∷ reply_members (gate_of call) reply
