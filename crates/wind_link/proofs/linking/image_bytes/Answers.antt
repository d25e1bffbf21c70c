use Rattle.std.proofs.Common.{◌≡◌, length, sym, ap, ◌∙◌, subst}
use Rattle.module_image.specs.Image.{meanings}
use Rattle.module_image.specs.Making.{IsRefusal}
use Rattle.module_image.proofs.Made.{ends_room, length_own, length_valued, length_meanings, means_are, fault_by, made_by}
use Rattle.wind_link.specs.Linking.{load_of}
use Rattle.wind_link.specs.Values.{value_of}
use Rattle.std.proofs.lemmas.Result.{IfOk-weaker, IfErr-weaker}
use Rattle.wind_link.proofs.linking.image_bytes.Goals as goal
use Rattle.wind_link.proofs.linking.image_bytes.Goals.{After-deref-3}

-- the values that were given to `make_bytes`
means_of : (c : After-deref-3) → c.deref-3.result.now ≡ meanings c.args.placed.now.module (value_of c.args.values.now) (load_of c.args.placed.now).at
means_of c =
    c.deref-3.ensures.value
    ∙ means_are c.args.placed.now.module (value_of c.args.values.now) (load_of c.args.placed.now).at c.as_slice.result.now c.deref.result.now c.in-Ok.means.items
    c.as_slice.ensures (c.deref.ensures.value ∙ c.requires.values) c.in-Ok.ensures

pub meanings-requires : goal.meanings-requires
meanings-requires c =
    ap length c.as_slice.ensures ∙ sym (ap length (c.deref.ensures.value ∙ c.requires.values) ∙ length_valued c.args.placed.now.module (load_of c.args.placed.now).at)

pub make_bytes-requires-clause-room : goal.make_bytes-requires-clause-room
make_bytes-requires-clause-room c = ends_room c.args.placed.now.module c.args.located.now.ends c.requires.ends c.requires.room

pub make_bytes-requires-clause-own : goal.make_bytes-requires-clause-own
make_bytes-requires-clause-own c = ap length (c.deref-2.ensures.value ∙ c.requires.sections) ∙ length_own c.args.placed.now.module (load_of c.args.placed.now).at

pub make_bytes-requires-clause-means : goal.make_bytes-requires-clause-means
make_bytes-requires-clause-means c =
    ap length (means_of c) ∙ length_meanings c.args.placed.now.module (value_of c.args.values.now) (load_of c.args.placed.now).at

pub returns-clause-made : goal.returns-clause-made
returns-clause-made c =
    IfOk-weaker c.make_bytes.result _ _
    (λ v h. made_by c.args.placed.now.module (value_of c.args.values.now) (load_of c.args.placed.now).at c.args.located.now.ends c.deref-2.result.now c.deref-3.result.now v.items
    c.requires.ends (c.deref-2.ensures.value ∙ c.requires.sections) (means_of (goal.at.returns-clause-made c).After-deref-3) h)
    c.make_bytes.ensures.made

pub returns-clause-fault : goal.returns-clause-fault
returns-clause-fault c =
    IfErr-weaker c.make_bytes.result _ _
    (λ e h. subst (λ f. IsRefusal f e)
    (sym (fault_by c.args.placed.now.module (value_of c.args.values.now) (load_of c.args.placed.now).at c.deref-2.result.now c.deref-3.result.now (c.deref-2.ensures.value ∙ c.requires.sections) (means_of (goal.at.returns-clause-fault c).After-deref-3))) h)
    c.make_bytes.ensures.fault
