use Rattle.std.proofs.Common.{◌≡◌, ◌+◌, ◌-◌, ◌*◌, ◌/◌, ◌%◌, get_or, List, sym, ap, ◌∙◌, arith}
use Rattle.std.proofs.lemmas.List.{get_or_read, with_items_is}
use Rattle.ppc_word.specs.declared.decoded.Decoded.{Decoded}
use Rattle.board_mem.specs.Pages.{page_of}
use Rattle.board_mem.specs.Code.{page_words}
use Rattle.board_mem.proofs.Codes.{decoded_elsewhere, decoded_dropped}
use Rattle.board_mem.proofs.code.CodePages.drop_words.Goals as goal

pub returns-then-number-eq0-clause-decoded : goal.returns-then-number-eq0-clause-decoded
returns-then-number-eq0-clause-decoded c = λ before after same decoded.
    let slots = c.args.self.now.slots.items in
    let none : get_or slots (page_of c.args.at) 0 ≡ 0 = sym (get_or_read slots (page_of c.args.at) c.index.result.now c.requires.there c.index.ensures 0) ∙ c.if-number-eq0.true in
    decoded_elsewhere slots c.args.self.now.entries.items before after c.args.at c.args.n c.requires.page none same decoded

pub empty_entries-requires-clause-within : goal.empty_entries-requires-clause-within
empty_entries-requires-clause-within c =
    let slots = c.args.self.now.slots.items in
    let here : get_or slots (page_of c.args.at) 0 ≡ (c.index.result.now - 1) + 1 = sym (get_or_read slots (page_of c.args.at) c.index.result.now c.requires.there c.index.ensures 0) ∙ omega arith in
    let own = (c.requires.slots.owned (page_of c.args.at) (c.index.result.now - 1) here).0 in
    omega (arith, own, c.requires.slots.exact)

pub returns-clause-decoded : goal.returns-clause-decoded
returns-clause-decoded c = λ before after same decoded.
    let slots = c.args.self.now.slots.items in
    let place = c.index.result.now - 1 in
    let here : get_or slots (page_of c.args.at) 0 ≡ place + 1 = sym (get_or_read slots (page_of c.args.at) c.index.result.now c.requires.there c.index.ensures 0) ∙ omega arith in
    let first = place * page_words + c.args.at % 4096 / 4 in
    let last = place * page_words + (c.args.at % 4096 + c.args.n - 1) / 4 in
    let items = with_items_is c.args.self.now.entries c.empty_entries.new.entries (omega arith) in
    decoded_dropped slots c.args.self.now.entries.items _ before after c.args.at c.args.n place first last c.requires.some c.requires.page here (omega arith) (omega arith)
    (λ i d lo hi. ap (λ (xs : List Decoded). (get_or xs i d).op) items ∙ c.empty_entries.ensures.emptied i d lo hi)
    (λ i d out. ap (λ xs. get_or xs i d) items ∙ c.empty_entries.ensures.others i d out ∙ ap (λ xs. get_or xs i d) c.deref_mut.ensures.value) same decoded
