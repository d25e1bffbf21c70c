use Rattle.std.proofs.Common.{◌≡◌, ◌++◌, drop}
use Rattle.debug_texts.specs.Target.{words_text}
use Rattle.debug_texts.proofs.target.add_words.Given as goal

abbrev pub invariant-loop-word : goal.invariant-loop-word
invariant-loop-word l = l.text.items ++ words_text (drop l.word-index l.words) ≡ l.initial.text.items ++ words_text l.words
