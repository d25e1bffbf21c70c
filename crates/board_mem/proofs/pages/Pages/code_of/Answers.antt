use Rattle.std.proofs.Common.{◌-◌, ◌*◌, ◌<◌, List, length, take, drop, subst, sym, ap, ◌∙◌, arith}
use Rattle.std.proofs.lemmas.List.{get_or_read, length-take}
use Rattle.ppc_word.specs.declared.decoded.Decoded.{Decoded}
use Rattle.board_mem.specs.Code.{page_words, AreWords}
use Rattle.board_mem.specs.Pages.{PagesState}
use Rattle.board_mem.proofs.Codes.{words_of}
use Rattle.board_mem.proofs.pages.Pages.code_of.Goals as goal

pub entries_of-requires-clause-within : goal.entries_of-requires-clause-within
entries_of-requires-clause-within c =
    let code = c.self.inside.code in
    let slotted = c.self.invariant.1.slotted in
    let here = sym (get_or_read code.slots.items c.args.page c.index.result.now (omega arith) c.index.ensures 0) in
    let own : (c.index.result.now - 1 < code.used) = (slotted.owned c.args.page (c.index.result.now - 1) (here ∙ omega arith)).0 in
    omega (arith, own, slotted.exact, ap length c.deref.ensures.value)

pub returns-clause-words : goal.returns-clause-words
returns-clause-words c =
    let code = c.self.inside.code in
    let here = sym (get_or_read code.slots.items c.args.page c.index.result.now (omega arith) c.index.ensures 0) in
    let entries = c.entries_of.ensures ∙ ap (λ xs. take page_words (drop (page_words * (c.index.result.now - 1)) xs)) c.deref.ensures.value in
    subst (λ (xs : List Decoded). AreWords xs c.args.self.now.bytes c.args.page) (sym entries)
    (subst (λ (s : PagesState). AreWords (take page_words (drop (page_words * (c.index.result.now - 1)) code.entries.items)) s.bytes c.args.page) c.self.view_is
    (words_of code.slots.items code.entries.items _ c.args.page c.index.result.now (omega arith) here c.self.invariant.1.decoded))

pub returns-clause-most : goal.returns-clause-most
returns-clause-most c =
    omega (arith, ap length c.entries_of.ensures, length-take page_words (drop (page_words * (c.index.result.now - 1)) c.deref.result.now))
