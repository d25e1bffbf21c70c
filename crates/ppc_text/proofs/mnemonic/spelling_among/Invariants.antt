use Rattle.std.proofs.Common.{◌≡◌, drop, map}
use Rattle.ppc_text.specs.Mnemonics.{seen, spelling_in}
use Rattle.ppc_text.proofs.mnemonic.spelling_among.Given as goal

-- the mnemonics so far don't name the word
abbrev pub invariant-loop-mnemonic : goal.invariant-loop-mnemonic
invariant-loop-mnemonic l = spelling_in (map seen (drop l.mnemonic-index l.mnemonics)) l.word ≡ spelling_in (map seen l.mnemonics) l.word
