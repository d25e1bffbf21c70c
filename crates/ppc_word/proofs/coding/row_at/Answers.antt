use Rattle.std.proofs.Common.{◌≡◌, true, false, Some, sym, ap, ◌∙◌, arith}
use Rattle.ppc_word.specs.Table.{form_at}
use Rattle.ppc_word.specs.Rows.{is_word_of}
use Rattle.ppc_word.proofs.Found.{row_of-at, row_of-none, fits-word, word-meets}
use Rattle.ppc_word.proofs.coding.row_at.Goals as goal

pub returns-then-fits : goal.returns-then-fits
returns-then-fits c =
    let t = rw c.pattern-pattern.ensures at (sym c.fits.ensures ∙ c.if-fits.true) in
    let w : is_word_of (form_at c.args.place) c.args.word ≡ true = sym (fits-word c.args.place c.args.word c.requires.within (omega arith)) ∙ t in
    ap (λ f. Some f.row) c.pattern-pattern.ensures ∙ sym (row_of-at c.args.place c.args.word c.requires.within w)

pub returns-else-fits : goal.returns-else-fits
returns-else-fits c =
    let t = rw c.pattern-pattern.ensures at (sym c.fits.ensures ∙ c.if-fits.false) in
    let w : is_word_of (form_at c.args.place) c.args.word ≡ false = sym (fits-word c.args.place c.args.word c.requires.within (omega arith)) ∙ t in
    sym (row_of-none c.args.word (λ j h q.
    let same : c.args.place ≡ j = c.requires.only j h (word-meets (form_at j) c.args.word q).0 in
    let w' = rw same at w in
    let u = sym q ∙ w' in cc))
