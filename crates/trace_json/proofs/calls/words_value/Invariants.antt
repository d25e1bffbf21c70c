use Rattle.std.proofs.Common.{◌≡◌, ◌++◌, drop, map}
use Rattle.trace_state.specs.Held.{items_in}
use Rattle.trace_json.specs.Calls.{word_data}
use Rattle.trace_json.proofs.calls.words_value.Given as goal

abbrev pub invariant-loop-word : goal.invariant-loop-word
invariant-loop-word l = items_in l.items ++ map word_data (drop l.word-index l.words) ≡ map word_data l.words
