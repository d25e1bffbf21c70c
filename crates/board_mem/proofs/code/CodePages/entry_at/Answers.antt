use Rattle.std.proofs.Common.{◌≡◌, ◌+◌, ◌-◌, get_or, sym, ◌∙◌, arith}
use Rattle.std.proofs.lemmas.List.{get_or_read}
use Rattle.board_mem.specs.Pages.{page_of}
use Rattle.board_mem.proofs.code.CodePages.entry_at.Goals as goal

pub index-requires-2 : goal.index-requires-2
index-requires-2 c =
    let slots = c.args.self.now.slots.items in
    let here : get_or slots (page_of c.args.at) 0 ≡ (c.index.result.now - 1) + 1 = sym (get_or_read slots (page_of c.args.at) c.index.result.now c.requires.there c.index.ensures 0) ∙ omega arith in
    let own = (c.requires.slots.owned (page_of c.args.at) (c.index.result.now - 1) here).0 in
    omega (arith, own, c.requires.slots.exact)

pub returns-clause-slot : goal.returns-clause-slot
returns-clause-slot c =
    let slots = c.args.self.now.slots.items in
    (c.index.result.now - 1, sym (get_or_read slots (page_of c.args.at) c.index.result.now c.requires.there c.index.ensures 0) ∙ omega arith, omega arith)

pub returns-clause-within : goal.returns-clause-within
returns-clause-within c =
    let slots = c.args.self.now.slots.items in
    let here : get_or slots (page_of c.args.at) 0 ≡ (c.index.result.now - 1) + 1 = sym (get_or_read slots (page_of c.args.at) c.index.result.now c.requires.there c.index.ensures 0) ∙ omega arith in
    let own = (c.requires.slots.owned (page_of c.args.at) (c.index.result.now - 1) here).0 in
    omega (arith, own, c.requires.slots.exact)
