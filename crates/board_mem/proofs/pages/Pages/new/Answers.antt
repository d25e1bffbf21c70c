use Rattle.std.proofs.Common.{◌≡◌, ◌<◌, ℕ, List, Bool, get_or, ap, ap₂, ◌∙◌, arith, rules, true}
use Rattle.std.specs.Prelude.{is_ok}
use Rattle.board_mem.specs.Pages.{PagesState, page_bytes}
use Rattle.board_mem.specs.Store.{bytes_of, made_of}
use Rattle.board_mem.proofs.Making.{bytes_of-unmade, made_of-unmade}
use Rattle.board_mem.proofs.pages.Pages.new.Goals as goal

pub returns : goal.returns
returns c =
    let index = c.in_ok-index.ensures in
    let store = c.resize.new.self.items in
    let done : is_ok c.resize.result ≡ true = search rules in
    let zeros : (i : ℕ) → i < page_bytes → get_or store i 0 ≡ 0 = λ i h. c.resize.ensures.by_index.1 i 0 done (omega (arith, c.in_ok-store.ensures.len)) h in
    ap₂ (λ (bytes : List ℕ) (made : List Bool). let r : PagesState = record { bytes = bytes; made = made } in r)
    (ap (λ i. bytes_of c.args.size i store) index ∙ bytes_of-unmade c.args.size _ store zeros)
    (ap made_of index ∙ made_of-unmade _)
