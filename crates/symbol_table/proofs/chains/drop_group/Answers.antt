use Rattle.std.proofs.Common.{not, map, take, refl, sym, ap, ◌∙◌, arith}
use Rattle.std.proofs.lemmas.Bool.{ne_eqb, eq-eqb}
use Rattle.std.proofs.lemmas.List.{take-map}
use Rattle.std.proofs.lemmas.List.Elements.{All-filter}
use Rattle.std.proofs.lemmas.List.Filters.{FiltersInPlace-all, FiltersInPlace-more_swap, FiltersInPlace-more_no}
use Rattle.symbol_table.specs.State.{IsNamed}
use Rattle.symbol_table.specs.Chains.{hashes_of}
use Rattle.symbol_table.proofs.Removing.{counted}
use Rattle.symbol_table.proofs.Hashing.{hashed_swapped}
use Rattle.symbol_table.proofs.Running.{front_filtered, front_same, front_within}
use Rattle.symbol_table.proofs.chains.drop_group.Goals.{then-index-group, else-index-group}
use Rattle.symbol_table.proofs.chains.drop_group.Goals as goal

pub loop-i-init : goal.loop-i-init
loop-i-init c = record {
  filtered = front_filtered c.args.group c.args.list.now.items c.args.first c.requires.within c.requires.none;
  capacity = refl;
  hashed = c.requires.hashed;
  hashes_capacity = refl;
}

pub loop-i-preserved : goal.loop-i-preserved
loop-i-preserved c = elim c.if-index-group.branch [
  | then-index-group w ↦ rw (w.list-is, w.hashes-is, w.kept-is) (record {
    filtered = FiltersInPlace-more_swap c.loop-i.invariant.filtered (omega (arith, c.loop-i-test.true)) (ap not (ne_eqb _ _ w.if-index-group.true)) c.index.ensures w.swap.ensures.by_index;
    capacity = w.swap.ensures.capacity ∙ c.loop-i.invariant.capacity;
    hashed = hashed_swapped _ _ _ _ c.loop-i.kept c.loop-i.i c.index.result.now c.loop-i.invariant.hashed w.swap.ensures.by_index w.swap-then-index-group.ensures.by_index
        (omega (arith, c.loop-i-test.true, c.loop-i.invariant.filtered.behind, c.loop-i.invariant.filtered.long)) (omega (arith, c.loop-i-test.true, c.loop-i.invariant.filtered.long));
    hashes_capacity = w.swap-then-index-group.ensures.capacity ∙ c.loop-i.invariant.hashes_capacity;
  })
  | else-index-group w ↦ rw (w.list-is, w.hashes-is, w.kept-is) (record {
    filtered = FiltersInPlace-more_no c.loop-i.invariant.filtered (omega (arith, c.loop-i-test.true)) (ap not (eq-eqb _ _ w.if-index-group.false)) c.index.ensures;
    capacity = c.loop-i.invariant.capacity;
    hashed = c.loop-i.invariant.hashed;
    hashes_capacity = c.loop-i.invariant.hashes_capacity;
  })
]

pub returns-clause-items : goal.returns-clause-items
returns-clause-items c = c.truncate.ensures.items ∙ FiltersInPlace-all c.loop-i.invariant.filtered (omega (arith, c.loop-i-test.false))

pub returns-clause-before : goal.returns-clause-before
returns-clause-before c = rw (returns-clause-items c) (front_same c.args.group c.args.list.now.items c.args.first c.requires.within c.requires.none)

pub returns-clause-within : goal.returns-clause-within
returns-clause-within c = rw (returns-clause-items c) (front_within c.args.group c.args.list.now.items c.args.first c.requires.within c.requires.none)

pub returns-clause-counted : goal.returns-clause-counted
returns-clause-counted c = rw (returns-clause-items c) (counted c.args.group c.args.list.now.items)

pub returns-clause-named : goal.returns-clause-named
returns-clause-named c h = rw (returns-clause-items c) (All-filter _ IsNamed c.args.list.now.items h)

pub returns-clause-hashed : goal.returns-clause-hashed
returns-clause-hashed c =
    c.truncate-2.ensures.items
    ∙ ap (take c.loop-i.kept) c.loop-i.invariant.hashed
    ∙ take-map hashes_of c.loop-i.kept c.loop-i.list.items
    ∙ ap (map hashes_of) (sym c.truncate.ensures.items)
