use Rattle.std.proofs.Common.{◌≡◌, ◌≤◌, ◌+◌, ◌*◌, ◌++◌, drop}
use Rattle.wind_base.specs.OutBuf.{KeepsSpace}
use Rattle.call_text.specs.Texts.{more_text}
use Rattle.call_text.proofs.word.add_more.Given as goal

abbrev pub invariant-loop-word : goal.invariant-loop-word
invariant-loop-word l =
    (l.out.bytes ++ more_text (drop l.word-index l.words) ≡ l.initial.out.bytes ++ more_text l.words)
    × (l.initial.out.room ≤ l.out.room + 13 * l.word-index)
    × KeepsSpace l.initial.out l.out
