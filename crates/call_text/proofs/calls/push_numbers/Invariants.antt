use Rattle.std.proofs.Common.{◌≡◌, ◌+◌, ◌++◌, drop, length, map}
use Rattle.call_text.specs.declared.word.Word.TheVariants as word
use Rattle.call_text.proofs.calls.push_numbers.Given as goal

abbrev pub invariant-loop-number : goal.invariant-loop-number
invariant-loop-number l =
    (l.words.items ++ map word.Number (drop l.number-index l.numbers) ≡ l.initial.words.items ++ map word.Number l.numbers)
    × (length l.words.items ≡ length l.initial.words.items + l.number-index)
