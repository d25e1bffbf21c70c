use Rattle.std.proofs.Common.{ap, ◌∙◌}
use Rattle.ppc_word.specs.Words.{joined}
use Rattle.ppc_word.specs.Table.{form_at}
use Rattle.ppc_word.specs.Rows.{word_with}
use Rattle.ppc_word.specs.Patterns.{pieces_of}
use Rattle.ppc_word.proofs.Unique.{fields-parts}
use Rattle.ppc_word.proofs.Whole.{whole-at, pieces-le, pieces_of-at}
use Rattle.ppc_word.proofs.coding.encode.Goals as goal

pub write-requires-clause-count : goal.write-requires-clause-count
write-requires-clause-count c = rw c.pattern.ensures (pieces-le c.place_of.result c.place_of.ensures.within)

pub write-requires-clause-form : goal.write-requires-clause-form
write-requires-clause-form c = rw (c.pattern.ensures, pieces_of-at c.place_of.result c.place_of.ensures.within) (whole-at c.place_of.result c.place_of.ensures.within)

pub write-requires-clause-fields : goal.write-requires-clause-fields
write-requires-clause-fields c =
    rw (c.pattern.ensures, pieces_of-at c.place_of.result c.place_of.ensures.within, c.place_of.ensures.is) (fields-parts c.args.insn.now.row c.args.insn.now.fields c.args.insn.now.in_table).1

pub returns : goal.returns
unfolding word_with
returns c =
    c.write.ensures ∙ ap (λ p. joined (pieces_of p) c.args.insn.now.fields) c.pattern.ensures ∙ ap (λ ps. joined ps c.args.insn.now.fields) (pieces_of-at c.place_of.result c.place_of.ensures.within) ∙ ap (λ k. joined (form_at k).pieces c.args.insn.now.fields) c.place_of.ensures.is
