use Rattle.std.proofs.Common.{◌≡◌, sym, ap, ◌∙◌, subst}
use Rattle.module_image.specs.Binding.{bind}
use Rattle.module_image.specs.Image.{Images, meanings}
use Rattle.module_image.specs.Making.{IsMade, IsRefusal}
use Rattle.module_image.specs.Needs.{needs_of}
use Rattle.module_image.proofs.Made.{image_bound, means_are, fault_by, made_by}
use Rattle.module_image.proofs.making.prepare.Goals as goal
use Rattle.module_image.proofs.making.prepare.Goals.{After-make_bytes}

-- the values that were given to `make_bytes`
means_of : (c : After-make_bytes) → c.deref-2.result.now ≡ meanings c.args.m.now (bind c.args.syms.now.list) c.args.at
means_of c =
    c.deref-2.ensures.value
    ∙ means_are c.args.m.now (bind c.args.syms.now.list) c.args.at c.as_slice-symbols.result.now c.as_slice-values.result.now c.in-Ok-meanings.means.items
    c.as_slice-symbols.ensures (c.as_slice-values.ensures.value ∙ c.in-Ok.ensures.values) c.in-Ok-meanings.ensures

pub returns-in-Ok-make_bytes-clause-made : goal.returns-in-Ok-make_bytes-clause-made
returns-in-Ok-make_bytes-clause-made c =
    subst (λ (i : Images). IsMade i (needs_of c.args.m.now) c.in-Ok-make_bytes.bytes.items) (sym (image_bound c.args.m.now c.args.syms.now.list c.args.at))
    (made_by c.args.m.now (bind c.args.syms.now.list) c.args.at c.in-Ok.located.ends c.deref.result.now c.deref-2.result.now c.in-Ok-make_bytes.bytes.items
    c.in-Ok.ensures.ends (c.deref.ensures.value ∙ c.in-Ok.ensures.sections) (means_of (goal.at.returns-in-Ok-make_bytes-clause-made c).After-make_bytes) c.in-Ok-make_bytes.ensures.made)

pub returns-clause-fault : goal.returns-clause-fault
returns-clause-fault c =
    subst (λ f. IsRefusal f c.in-Err.e)
    (sym (ap (λ (i : Images). i.fault) (image_bound c.args.m.now c.args.syms.now.list c.args.at)
    ∙ fault_by c.args.m.now (bind c.args.syms.now.list) c.args.at c.deref.result.now c.deref-2.result.now (c.deref.ensures.value ∙ c.in-Ok.ensures.sections) (means_of (goal.at.returns-clause-fault c).After-make_bytes)))
    c.in-Err.ensures.fault
