use Rattle.std.proofs.Common.{ℕ, ◌+◌, ◌%◌, List, length, take, get_or, ap, ◌∙◌, arith}
use Rattle.std.proofs.lemmas.List.{take_more, length-set}
use Rattle.std.proofs.lemmas.Nat.{mod_below}
use Rattle.symbol_table.specs.Chains.{chain_by, state_of}
use Rattle.symbol_table.proofs.Chaining.{pushed, links_count}
use Rattle.symbol_table.proofs.Hashing.{one_of, hash_at}
use Rattle.symbol_table.proofs.search.link_from.Goals as goal

pub loop-i-preserved : goal.loop-i-preserved
loop-i-preserved c =
    let list = c.args.list.now in
    let i = c.loop-i.i in
    let less = c.loop-i-test.true in
    let x = one_of list (omega arith) in
    let many = length c.loop-i.links.heads.items in
    let some = c.loop-i.invariant.chained.some in
    record {
      chained = pushed (chain_by c.args.key) (take i list) (take (i + 1) list) (get_or list i x) (state_of c.loop-i.links) (state_of c.add.new.self) (c.by.result % many)
          c.loop-i.invariant.chained (ap (λ y. y % many) (c.by.ensures ∙ hash_at c.args.key list c.args.hashes.now i x (record { name = 0; value = 0 }) c.requires.hashed less))
          (mod_below c.by.result many some) (take_more list i x less) c.add.ensures.before c.add.ensures.heads;
      heads = ap (λ (xs : List ℕ). length xs) c.add.ensures.heads ∙ length-set c.loop-i.links.heads.items (c.by.result % many) _ ∙ c.loop-i.invariant.heads;
      capacity = c.add.ensures.capacity ∙ c.loop-i.invariant.capacity;
    }

pub add-requires-clause-few : goal.add-requires-clause-few
add-requires-clause-few c =
    let n = links_count (chain_by c.args.key (length c.loop-i.links.heads.items)) c.args.list.now c.loop-i.i (state_of c.loop-i.links) (omega arith) c.loop-i.invariant.chained in
    let less = c.loop-i-test.true in
    let few = c.requires.few in
    omega arith

pub add-requires-clause-room : goal.add-requires-clause-room
add-requires-clause-room c =
    let n = links_count (chain_by c.args.key (length c.loop-i.links.heads.items)) c.args.list.now c.loop-i.i (state_of c.loop-i.links) (omega arith) c.loop-i.invariant.chained in
    let less = c.loop-i-test.true in
    let room = c.requires.room in
    let same = c.loop-i.invariant.capacity in
    omega arith
