use Rattle.std.proofs.Common.{◌≡◌, ℕ, ◌+◌, ◌%◌, ◌<◌, ◌≤◌, List, [], ◌∷◌, ◌++◌, length, subst, sym, ap, ◌∙◌, arith, length-append}
use Rattle.wind_base.specs.Limits.{longest_name}
use Rattle.symbol_table.specs.declared.symbol.Symbol.{Symbol}
use Rattle.symbol_table.specs.declared.hashes.Hashes.{Hashes}
use Rattle.symbol_table.specs.State.{IsNamed}
use Rattle.symbol_table.specs.Chains.{ChainsState, chain_by_name, chain_by_value, state_of}
use Rattle.std.specs.List.{All}
use Rattle.std.proofs.lemmas.List.{length-set}
use Rattle.std.proofs.lemmas.List.Elements.{All-push}
use Rattle.std.proofs.lemmas.Nat.{mod_below}
use Rattle.symbol_table.specs.Runs.{AreRuns}
use Rattle.symbol_table.proofs.Chaining.{pushed}
use Rattle.symbol_table.proofs.Hashing.{hashes_are, hashed_more}
use Rattle.symbol_table.proofs.Running.{runs_longer}
use Rattle.symbol_table.proofs.chains.Chains.add.Goals as goal

pub invariant_of-self : goal.invariant_of-self
invariant_of-self c =
    let x = c.args.symbol in
    let list = c.self.inside.list.items in
    let more = c.push_reserved.new.self.items in
    let longer : more ≡ list ++ x ∷ [] = c.push_reserved.ensures.items in
    let size : length more ≡ length list + 1 = ap (λ (xs : List Symbol). length xs) longer ∙ length-append list (x ∷ []) in
    let some : 0 < c.self.inside.spare = subst (λ (t : ChainsState). 0 < t.spare) (sym c.self.view_is) c.requires.room in
    let name : length x.name ≤ longest_name = subst (λ (bs : List ℕ). length bs ≤ longest_name) c.bytes.ensures.value c.bytes.ensures.within in
    let inv = c.self.invariant in
    let few = inv.3.few in
    let one = inv.0 in
    let two = inv.1 in
    let three = inv.2 in
    let a = c.push_reserved.ensures.capacity in
    let b = c.add.ensures.capacity in
    let d = c.add-2.ensures.capacity in
    let names = length c.self.inside.names.heads.items in
    let values = length c.self.inside.values.heads.items in
    let same_names = ap (λ (xs : List ℕ). length xs) c.add.ensures.heads ∙ length-set c.self.inside.names.heads.items (c.new-hashes.result.name % names) _ in
    let same_values = ap (λ (xs : List ℕ). length xs) c.add-2.ensures.heads ∙ length-set c.self.inside.values.heads.items (c.new-hashes.result.value % values) _ in
    let by_name = inv.3.by_name in
    let by_value = inv.3.by_value in
    let hashed = hashes_are x c.bytes.result.now c.new-hashes.result c.new-hashes.ensures c.bytes.ensures.value in (
      omega arith,
      omega arith,
      omega arith,
      record {
        few = omega arith;
        named = subst (All IsNamed) (sym longer) (All-push IsNamed list x inv.3.named (record { some = c.requires.named; within = name }));
        names = pushed chain_by_name list more x (state_of c.self.inside.names) (state_of c.add.new.self) (c.new-hashes.result.name % names) inv.3.names
            (ap (λ (h : Hashes). h.name % names) hashed) (mod_below c.new-hashes.result.name names inv.3.names.some) longer c.add.ensures.before c.add.ensures.heads;
        values = pushed chain_by_value list more x (state_of c.self.inside.values) (state_of c.add-2.new.self) (c.new-hashes.result.value % values) inv.3.values
            (ap (λ (h : Hashes). h.value % values) hashed) (mod_below c.new-hashes.result.value values inv.3.values.some) longer c.add-2.ensures.before c.add-2.ensures.heads;
        by_name = omega arith;
        by_value = omega arith;
      },
      rw c.add_runs.ensures.capacity (omega arith),
      c.add_runs.ensures.count ∙ ap (λ (xs : List Symbol). length xs) c.deref.ensures.value,
      subst (λ (xs : List Symbol). AreRuns xs c.add_runs.new.runs.items) c.deref.ensures.value c.add_runs.ensures.runs,
      omega (arith, c.push_reserved-2.ensures.capacity, inv.7),
      c.push_reserved-2.ensures.items ∙ hashed_more list more c.self.inside.hashes.items x c.new-hashes.result inv.8 hashed longer,
    )

pub add_runs-requires-clause-runs : goal.add_runs-requires-clause-runs
add_runs-requires-clause-runs c =
    rw c.deref.ensures.value (runs_longer c.self.inside.list.items c.push_reserved.new.self.items c.self.inside.runs.items c.args.symbol c.self.invariant.6 c.push_reserved.ensures.items)
