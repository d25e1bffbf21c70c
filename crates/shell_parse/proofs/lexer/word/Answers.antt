use Rattle.std.proofs.Common.{◌∙◌, ap}
use Rattle.shell_parse.specs.declared.token.Token.{Token}
use Rattle.shell_parse.proofs.Lexing.{word_first}
use Rattle.shell_parse.proofs.lexer.word.Goals as goal

pub returns : goal.returns
returns c = ap (λ (t : Token). (t, c.word_len-len.result)) c.word_token.ensures ∙ word_first _ _ _ _ c.requires.bytes c.word_len-len.ensures.exact
