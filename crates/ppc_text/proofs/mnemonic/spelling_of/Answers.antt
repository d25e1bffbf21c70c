use Rattle.std.proofs.Common.{◌∙◌, ap}
use Rattle.ppc_text.specs.Mnemonics.{spelling_in, spelling_of}
use Rattle.ppc_text.proofs.Spellings.{table_seen}
use Rattle.ppc_text.proofs.mnemonic.spelling_of.Goals as goal

pub returns : goal.returns
unfolding spelling_of
returns c = c.spelling_among.ensures ∙ ap (λ ms. spelling_in ms c.args.word.now) table_seen
