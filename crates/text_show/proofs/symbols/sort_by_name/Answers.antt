use Rattle.std.proofs.Common.{ap, ◌∙◌, rules}
use Rattle.std.specs.Prelude.{map}
use Rattle.std.proofs.lemmas.Cmp.{nat_list_cmp_total}
use Rattle.std.proofs.lemmas.List.Sorted.{ranks_by, answers_always}
use Rattle.text_show.specs.Symbols.{name_before}
use Rattle.id_table.proofs.Sorting.{seen_by, seen_sorted}
use Rattle.text_show.proofs.Stable.{stable_sorted}
use Rattle.text_show.proofs.symbols.sort_by_name.Goals as goal

pub returns : goal.returns
returns c =
    let old = c.args.symbols.now.items in
    let new = c.sort_by.new.self.items in
    let order = ranks_by nat_list_cmp_total (λ s. s.now.name) in
    let answers = answers_always _ _ _ (λ f a r g h. search rules) in
    let by = seen_by (λ s. s.now) name_before in
    ap (map (λ s. s.now)) (stable_sorted by order old new (c.in_ok-sort_by.ensures.sorted by order answers) (c.sort_by.ensures.stable by order answers))
    ∙ seen_sorted (λ s. s.now) name_before old
