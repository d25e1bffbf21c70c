use Rattle.std.proofs.Common.{◌∙◌, ℕ, List, ◌-◌, ◌++◌, replicate, ap}
use Rattle.ppc_word.specs.declared.piece.Piece.{Piece}
use Rattle.ppc_word.specs.Words.{parts, fields}
use Rattle.ppc_word.specs.Table.{number, form_at}
use Rattle.ppc_word.specs.Patterns.{pieces_of}
use Rattle.ppc_word.proofs.Whole.{whole-at, number-below, pieces-le, pieces_of-at}
use Rattle.ppc_word.proofs.coding.fields_for.Goals as goal

pub read-requires-clause-count : goal.read-requires-clause-count
read-requires-clause-count c = rw (c.pattern.ensures, c.place_of.ensures.is) (pieces-le (number c.args.row) (number-below c.args.row))

pub read-requires-clause-form : goal.read-requires-clause-form
read-requires-clause-form c =
    rw (c.pattern.ensures, c.place_of.ensures.is, pieces_of-at (number c.args.row) (number-below c.args.row)) (whole-at (number c.args.row) (number-below c.args.row))

-- the fields of a word by these pieces, in six places
abbrev six : List Piece → ℕ → List ℕ
six ps w = parts ps w ++ replicate (6 - fields ps) 0

pub returns : goal.returns
returns c =
    c.read.ensures ∙ ap (λ p. six (pieces_of p) c.args.word) c.pattern.ensures ∙ ap (λ ps. six ps c.args.word) (pieces_of-at c.place_of.result c.place_of.ensures.within) ∙ ap (λ k. six (form_at k).pieces c.args.word) c.place_of.ensures.is
