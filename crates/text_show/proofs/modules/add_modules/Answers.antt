use Rattle.std.proofs.Common.{◌≡◌, ◌<◌, [], ◌++◌, Some, ap, sym, ◌∙◌, arith}
use Rattle.std.specs.Prelude.{option_copied}
use Rattle.std.specs.List.{flat_map}
use Rattle.std.proofs.lemmas.List.{append-nil}
use Rattle.id_table.specs.Rows.{next_above, object_of}
use Rattle.text_show.specs.Modules.{module_row}
use Rattle.text_show.proofs.Above.{above, from_first, none_above, next_rises, is_live, one_more}
use Rattle.text_show.proofs.modules.add_modules.Goals as goal

pub loop-id-init : goal.loop-id-init
loop-id-init c = ap (λ ms. c.args.page.now.items ++ flat_map module_row ms) (from_first c.args.modules.now.rows c.facts.ensures.ranged)

pub unreachable-requires : goal.unreachable-requires
unreachable-requires c =
    let next : next_above c.args.modules.now.rows c.loop-id.last ≡ Some c.get-last.result = sym c.next_after.ensures ∙ c.in-Some.is ∙ ap Some (sym c.get-last.ensures.same) in
    is_live c.loop-id.last c.args.modules.now.rows c.get-last.result next (sym c.get.ensures ∙ ap option_copied c.in_default-get.is)

pub loop-id-smaller : goal.loop-id-smaller
loop-id-smaller c =
    let next : next_above c.args.modules.now.rows c.loop-id.last ≡ Some c.get-last.result = sym c.next_after.ensures ∙ c.in-Some.is ∙ ap Some (sym c.get-last.ensures.same) in
    let up : c.loop-id.last < c.get-last.result = next_rises c.loop-id.last c.args.modules.now.rows c.get-last.result next in
    omega (arith, up, c.get-last.ensures.greatest)

pub loop-id-preserved : goal.loop-id-preserved
loop-id-preserved c =
    let ms = c.args.modules.now.rows in
    let id = c.get-last.result in
    let next : next_above ms c.loop-id.last ≡ Some id = sym c.next_after.ensures ∙ c.in-Some.is ∙ ap Some (sym c.get-last.ensures.same) in
    let m = c.in-Some-get.loaded.now in
    let live : object_of ms id ≡ Some m = sym c.get.ensures ∙ ap option_copied c.in-Some-get.is in
    one_more module_row c.loop-id.last ms id m (c.args.page.now.items ++ flat_map module_row ms) c.loop-id.page.items c.add_module.new.page.items c.facts.ensures.rising next live c.loop-id.invariant
    (c.in_ok-add_module.ensures ∙ ap (λ i. c.loop-id.page.items ++ module_row (i, m)) (sym c.get-last.ensures.same))

pub returns : goal.returns
returns c =
    let none : above c.loop-id.last c.args.modules.now.rows ≡ [] = none_above c.loop-id.last c.args.modules.now.rows (sym c.next_after.ensures ∙ c.in_default.is) in
    sym (append-nil c.loop-id.page.items) ∙ ap (λ ms. c.loop-id.page.items ++ flat_map module_row ms) (sym none) ∙ c.loop-id.invariant
