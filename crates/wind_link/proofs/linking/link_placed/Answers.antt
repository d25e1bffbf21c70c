use Rattle.std.proofs.Common.{◌≡◌, ℕ, ◌+◌, ◌-◌, ◌≤◌, List, [], ◌∷◌, ◌++◌, length, map, take, drop, refl, sym, ap, ◌∙◌, subst, arith}
use Rattle.std.proofs.lemmas.List.{drop_all, length-replicate}
use Rattle.module_image.specs.Image.{image_by}
use Rattle.module_image.proofs.Fitting.{whole_back}
use Rattle.elf_read.specs.declared.module.Sym.{Sym}
use Rattle.wind_link.specs.declared.linking.Placed.{Placed}
use Rattle.wind_link.specs.Flat.{segments_of}
use Rattle.wind_link.specs.Linking.{load_of, linked, IsRefusal}
use Rattle.wind_link.specs.Steps.{with_all, loads, index_of}
use Rattle.wind_link.specs.Undefined.{pair_of}
use Rattle.wind_link.specs.Values.{value_of, valueless_names}
use Rattle.wind_link.proofs.Joining.{IsLinking, AreReady, begins, goes_on, stops, ends, told_all, ready, two_blocks, rest_is, cut_at, refused_by, index_within}
use Rattle.wind_link.proofs.linking.link_placed.Goals as goal
use Rattle.wind_link.proofs.linking.link_placed.Goals.{After-extent_of-extent, After-deref_mut}

pub slice_bounds-extent_of-count : goal.slice_bounds-extent_of-count
slice_bounds-extent_of-count c = two_blocks c.args.taken.now (loads c.args.list.now) c.requires.taken

pub slice_bounds-extent_of-start : goal.slice_bounds-extent_of-start
slice_bounds-extent_of-start c = two_blocks c.args.taken.now (loads c.args.list.now) c.requires.taken

facts : (c : After-extent_of-extent) → AreReady c.args.list.now c.extent_of-extent.result.low (c.extent_of-extent.result.end - c.extent_of-extent.result.low)
facts c =
    ready c.args.list.now c.args.taken.now (take (length c.args.taken.now - 2) (drop 2 c.args.taken.now)) c.extent_of-extent.result.low c.extent_of-extent.result.end (c.extent_of-extent.result.end - c.extent_of-extent.result.low)
    c.requires.linkable c.requires.placed c.requires.taken (rest_is c.args.taken.now) c.extent_of-extent.ensures.low c.extent_of-extent.ensures.end refl

pub loop-i-init : goal.loop-i-init
loop-i-init c =
    let n = c.extent_of-extent.result.end - c.extent_of-extent.result.low in
    begins c.extent_of-extent.result.low n c.args.list.now c.in-Ok-opening.values c.in-Ok.image.items (map pair_of c.new-names.result.items) c.in-Ok-opening.ensures c.in-Ok.ensures
    (ap length c.in-Ok.ensures ∙ length-replicate n 0) (ap (map pair_of) c.new-names.ensures.items) ((facts (goal.at.loop-i-init c).After-extent_of-extent).inside)

pub link_module-requires-clause-few : goal.link_module-requires-clause-few
link_module-requires-clause-few c =
    let few = (facts (goal.at.link_module-requires-clause-few c).After-extent_of-extent).few in
    omega (arith, few, ap length c.deref_mut.ensures.value, c.loop-i.invariant.size)

-- the modules that are left, with this one first
here : (c : After-deref_mut) → IsLinking c.extent_of-extent.result.low (c.extent_of-extent.result.end - c.extent_of-extent.result.low)
    (c.index-list-i.result ∷ drop (c.loop-i.i + 1) c.args.list.now) c.loop-i.values c.loop-i.image.items c.loop-i.i (map pair_of c.loop-i.names.items) (loads c.args.list.now)
here c =
    subst (λ (ps : List Placed). IsLinking c.extent_of-extent.result.low (c.extent_of-extent.result.end - c.extent_of-extent.result.low) ps c.loop-i.values c.loop-i.image.items c.loop-i.i (map pair_of c.loop-i.names.items) (loads c.args.list.now))
    (cut_at c.args.list.now c.loop-i.i c.index-list-i.result c.loop-i-test.true c.index-list-i.is) c.loop-i.invariant

pub returns-in-Err-link_module-clause-refused : goal.returns-in-Err-link_module-clause-refused
returns-in-Err-link_module-clause-refused c =
    let n = c.extent_of-extent.result.end - c.extent_of-extent.result.low in
    let p = c.index-list-i.result in
    let all = loads c.args.list.now in
    let k = here (goal.at.returns-in-Err-link_module-clause-refused c).After-deref_mut in
    subst (λ e. IsRefusal (linked all) e) (sym c.refusal.ensures)
    (refused_by all c.loop-i.i ((image_by p.module (value_of c.loop-i.values) (load_of p).at).fault) c.in-Err-link_module.error
    (λ r h. stops c.extent_of-extent.result.low n p (drop (c.loop-i.i + 1) c.args.list.now) c.loop-i.values c.loop-i.image.items c.loop-i.i (map pair_of c.loop-i.names.items) all r k h)
    c.in-Err-link_module.ensures.fault)

pub returns-in-Err-link_module-clause-index : goal.returns-in-Err-link_module-clause-index
returns-in-Err-link_module-clause-index c =
    subst (λ e. index_of e ≤ length c.args.list.now) (sym c.refusal.ensures) (index_within c.loop-i.i (length c.args.list.now) c.in-Err-link_module.error c.loop-i-test.true)

pub loop-i-preserved : goal.loop-i-preserved
loop-i-preserved c =
    let low = c.extent_of-extent.result.low in
    let n = c.extent_of-extent.result.end - low in
    let p = c.index-list-i.result in
    let bytes = c.loop-i.image.items in
    let all = loads c.args.list.now in
    let left = drop (c.loop-i.i + 1) c.args.list.now in
    let one = segments_of (load_of p).at (image_by p.module (value_of c.loop-i.values) (load_of p).at) in
    let lent : c.deref_mut.result.now ≡ bytes = c.deref_mut.ensures.value in
    let size : length c.link_module.new.image ≡ length bytes = c.in-Ok-link_module.ensures.length ∙ ap length lent in
    subst (λ (b : List ℕ). IsLinking low n left c.link_module.new.values b (c.loop-i.i + 1) (map pair_of c.add_undefined.new.names.items) all)
    (sym (whole_back c.loop-i.image.len c.link_module.new.image bytes size c.loop-i.image.ok.0))
    (goes_on low n p left c.loop-i.values c.link_module.new.values bytes c.link_module.new.image c.loop-i.i (map pair_of c.loop-i.names.items) (map pair_of c.add_undefined.new.names.items) all
    (here (goal.at.loop-i-preserved c).After-deref_mut)
    (c.in-Ok-link_module.ensures.image ∙ ap (λ (b : List ℕ). with_all low b one) lent)
    c.in-Ok-link_module.ensures.whole c.in-Ok-link_module.ensures.entries size
    (c.in-Ok-add_undefined.ensures ∙ ap (λ (ys : List Sym). map pair_of c.loop-i.names.items ++ map (λ name. (c.loop-i.i + 1, name)) (valueless_names c.loop-i.values ys)) c.as_slice-symbols.ensures))

pub returns-clause-done : goal.returns-clause-done
returns-clause-done c =
    let low = c.extent_of-extent.result.low in
    let n = c.extent_of-extent.result.end - low in
    let none : drop c.loop-i.i c.args.list.now ≡ [] = drop_all c.loop-i.i c.args.list.now c.loop-i-test.false in
    ends low n c.loop-i.values c.loop-i.image.items c.loop-i.i (map pair_of c.loop-i.names.items) (loads c.args.list.now)
    (subst (λ (ps : List Placed). IsLinking low n ps c.loop-i.values c.loop-i.image.items c.loop-i.i (map pair_of c.loop-i.names.items) (loads c.args.list.now)) none c.loop-i.invariant)
    ((facts (goal.at.returns-clause-done c).After-extent_of-extent).flat)

pub returns-clause-undefined : goal.returns-clause-undefined
returns-clause-undefined c =
    let low = c.extent_of-extent.result.low in
    let n = c.extent_of-extent.result.end - low in
    let none : drop c.loop-i.i c.args.list.now ≡ [] = drop_all c.loop-i.i c.args.list.now c.loop-i-test.false in
    told_all low n c.loop-i.values c.loop-i.image.items c.loop-i.i (map pair_of c.loop-i.names.items) (loads c.args.list.now)
    (subst (λ (ps : List Placed). IsLinking low n ps c.loop-i.values c.loop-i.image.items c.loop-i.i (map pair_of c.loop-i.names.items) (loads c.args.list.now)) none c.loop-i.invariant)
