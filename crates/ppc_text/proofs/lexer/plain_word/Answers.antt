use Rattle.std.proofs.Common.{◌∙◌, ap}
use Rattle.ppc_text.specs.declared.token.Token.{Token}
use Rattle.ppc_text.proofs.Lexing.{word_first}
use Rattle.ppc_text.proofs.lexer.plain_word.Goals as goal

pub returns : goal.returns
returns c = ap (λ (t : Token). (t, c.word_len-len.result)) c.word_token.ensures ∙ word_first _ _ _ _ c.requires c.word_len-len.ensures.exact
