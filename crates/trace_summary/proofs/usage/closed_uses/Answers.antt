use Rattle.std.proofs.Common.{◌≡◌, ℕ, ◌+◌, ◌<◌, List, [], ◌∷◌, ◌++◌, length, map, drop, get_or, ap, ◌∙◌}
use Rattle.std.proofs.lemmas.List.{get_or_default}
use Rattle.board_reading.proofs.Collecting.{all_items, next_item}
use Rattle.trace_summary.specs.Usage.{closed}
use Rattle.trace_summary.proofs.usage.closed_uses.Goals as goal

one_more : {A B : Type 0} (f : A → B) (items new all : List B) (xs : List A) (i : ℕ) (d : A) → i < length xs → items ++ map f (drop i xs) ≡ all → new ≡ items ++ f (get_or xs i d) ∷ [] → new ++ map f (drop (i + 1) xs) ≡ all
one_more f items new all xs i d below before more =
    next_item f items new all xs i (get_or xs i d) below (get_or_default xs i d (get_or xs i d) below) before more

-- one more object
pub loop-usage-preserved : goal.loop-usage-preserved
loop-usage-preserved c =
    let f = closed c.args.time in
    one_more f c.loop-usage.list.items c.push.new.list.items (map f c.args.uses.now) c.args.uses.now c.loop-usage.usage-index _ c.loop-usage-test.true c.loop-usage.invariant
    (c.in_ok-push.ensures ∙ ap (λ u. c.loop-usage.list.items ++ u ∷ []) c.closed.ensures)

pub returns : goal.returns
returns c =
    let f = closed c.args.time in
    all_items f c.loop-usage.list.items (map f c.args.uses.now) c.args.uses.now c.loop-usage.usage-index c.loop-usage-test.false c.loop-usage.invariant
