use Rattle.std.proofs.Common.{◌<◌, ◌≤◌, ◌++◌, ◌∷◌, [], length, map, ap, ◌∙◌, sym, arith}
use Rattle.std.specs.Prelude.{option_copied}
use Rattle.std.proofs.lemmas.Option.{get_or_from_slice_get}
use Rattle.serde_json.specs.Data.{array}
use Rattle.serde_json.specs.View.{items_of}
use Rattle.board_reading.proofs.Collecting.{all_items, next_item}
use Rattle.trace_state.specs.Held.{items_in}
use Rattle.trace_state.specs.Modules.{symbol_data}
use Rattle.trace_state.proofs.modules.symbols.Goals as goal

-- one more symbol is an item
pub loop-place-preserved : goal.loop-place-preserved
loop-place-preserved c =
    let xs = c.args.symbols.now.list in
    let place = c.loop-place.place in
    let less : place < length xs = omega (arith, c.len-place-end.ensures.count, c.loop-place-test.true) in
    let x = c.in-Some.symbol.now in
    let items = items_in c.loop-place.items in
    next_item symbol_data items (items_in c.add.new.self) (map symbol_data xs) xs place x less
    (sym (get_or_from_slice_get xs place x x (sym c.at.ensures ∙ ap option_copied c.in-Some.is))) c.loop-place.invariant
    (c.in_ok-add.ensures ∙ ap (λ d. items ++ d ∷ []) c.in_ok-symbol_value.ensures)

pub returns : goal.returns
returns c =
    let xs = c.args.symbols.now.list in
    let end : length xs ≤ c.loop-place.place = omega (arith, c.len-place-end.ensures.count, c.loop-place-test.false) in
    c.finish.ensures ∙ ap (λ ds. array (items_of ds)) (all_items symbol_data (items_in c.loop-place.items) (map symbol_data xs) xs c.loop-place.place end c.loop-place.invariant)
