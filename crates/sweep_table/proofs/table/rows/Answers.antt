use Rattle.std.proofs.Common.{◌≡◌, ℕ, List, subst, rules}
use Rattle.std.specs.List.Sorted.{IsPermutation}
use Rattle.std.specs.declared.cmp.Reverse.{Reverse}
use Rattle.std.proofs.lemmas.Fn.{always_returns_same}
use Rattle.sweep_table.specs.declared.table.Row.{Row}
use Rattle.sweep_table.proofs.TableLemmas.{table_is}
use Rattle.sweep_table.proofs.table.rows.Goals as goal

pub returns : goal.returns
returns c =
    let key : Row → Reverse ℕ × ℕ = λ row. (record { 0 = row.count }, row.first) in
    let computes = always_returns_same _ (λ a r. r ≡ key a.0.now) _ (λ a r f k. search rules) in
    let P : List Row → Type 0 = λ v. IsPermutation v c.sort_unstable_by_key.new.self.items in
    table_is c.args.known.now c.args.runs.now c.args.members c.sort_unstable_by_key.new.self.items c.requires
    (subst P c.in_ok-rows.ensures c.sort_unstable_by_key.ensures.permutation) (c.sort_unstable_by_key.ensures.sorted key computes)
