use Rattle.std.proofs.Common.{◌≡◌, ℕ, ◌-◌, ◌%◌, ◌<◌, List, length, take, ap, ◌∙◌, subst, arith}
use Rattle.std.proofs.lemmas.List.{length-set}
use Rattle.std.proofs.lemmas.Nat.{mod_below}
use Rattle.symbol_table.specs.Chains.{AreLinked, chain_by, state_of}
use Rattle.symbol_table.proofs.Chaining.{popped}
use Rattle.symbol_table.proofs.Hashing.{one_of, hash_at}
use Rattle.symbol_table.proofs.search.unlink_from.Goals as goal

pub loop-i-preserved : goal.loop-i-preserved
loop-i-preserved c =
    let list = c.args.list.now in
    let i = c.loop-i.i in
    let less : i - 1 < length list = omega (arith, c.loop-i-test.true, c.loop-i.auto.i) in
    let x = one_of list (omega arith) in
    let many = length c.loop-i.links.heads.items in
    let some = c.loop-i.invariant.chained.some in
    record {
      chained = popped (chain_by c.args.key) list i (i - 1) x (state_of c.loop-i.links) (state_of c.remove_newest.new.self) (c.by.result % many)
          (omega (arith, c.loop-i-test.true)) less c.loop-i.invariant.chained
          (ap (λ y. y % many) (c.by.ensures ∙ hash_at c.args.key list c.args.hashes.now (i - 1) x (record { name = 0; value = 0 }) c.requires.hashed less))
          (mod_below c.by.result many some) c.remove_newest.ensures.before c.remove_newest.ensures.heads;
      heads = ap (λ (xs : List ℕ). length xs) c.remove_newest.ensures.heads ∙ length-set c.loop-i.links.heads.items (c.by.result % many) _ ∙ c.loop-i.invariant.heads;
      capacity = c.remove_newest.ensures.capacity ∙ c.loop-i.invariant.capacity;
      above = omega (arith, c.loop-i-test.true);
    }

pub returns-clause-chained : goal.returns-clause-chained
returns-clause-chained c =
    let is : c.loop-i.i ≡ c.args.n = omega (arith, c.loop-i-test.false, c.loop-i.invariant.above) in
    subst (λ n. AreLinked c.args.key (take n c.args.list.now) (state_of c.loop-i.links)) is c.loop-i.invariant.chained
