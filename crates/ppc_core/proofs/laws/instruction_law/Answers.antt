use Rattle.std.proofs.Common.{◌∙◌}
use Rattle.ppc_word.specs.Words.{field_places}
use Rattle.ppc_word.specs.Table.{form_of}
use Rattle.ppc_word.specs.Insn.{word_of}
use Rattle.ppc_core.proofs.Named.{word-read}
use Rattle.ppc_core.proofs.Agreeing.{reads-same}
use Rattle.ppc_core.proofs.SameEffect.{effect-same}
use Rattle.ppc_core.proofs.Effects.{exec-insn, exec-illegal}
use Rattle.ppc_core.proofs.laws.instruction_law.Goals as goal

pub returns : goal.returns
returns g c =
    record {
      fields = word-read;
      effect = λ i w h r b. exec-insn g.B.Bus.meaning i r b ∙ effect-same g.B.Bus.meaning i.row r (word_of i) w b (reads-same (field_places (form_of i.row).pieces) i.fields (word_of i) w (word-read i) h);
      illegal = exec-illegal g.B.Bus.meaning;
    }
