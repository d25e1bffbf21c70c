use Rattle.std.proofs.Common.{◌≡◌, ◌++◌, drop, map}
use Rattle.trace_state.specs.Json.{number_of}
use Rattle.trace_state.specs.Held.{items_in}
use Rattle.trace_state.proofs.tasks.words_value.Given as goal

abbrev pub invariant-loop-word : goal.invariant-loop-word
invariant-loop-word l = items_in l.items ++ map number_of (drop l.word-index l.words) ≡ map number_of l.words
