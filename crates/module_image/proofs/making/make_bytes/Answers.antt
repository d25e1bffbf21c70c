use Rattle.std.proofs.Common.{◌≡◌, ◌+◌, length, sym, ap, ◌∙◌, subst, arith}
use Rattle.module_image.specs.declared.segments.Ends.{Ends}
use Rattle.module_image.specs.Image.{patched_of}
use Rattle.module_image.specs.Making.{IsPatched}
use Rattle.module_image.proofs.Fitting.{AreReady, ready, length-flat, whole_back, patched_is}
use Rattle.module_image.proofs.making.make_bytes.Goals as goal
use Rattle.module_image.proofs.making.make_bytes.Goals.{After-as_slice-2}

abbrev all_ready : (c : After-as_slice-2) → AreReady c.deref.result.now c.args.own.now c.args.means.now (length c.deref_mut.result.now) c.as_slice-2.result.now
all_ready c =
    ready c.args.m.now c.args.ends c.joined_places.result c.as_slice.result.now c.deref.result.now c.args.own.now c.args.means.now (length c.deref_mut.result.now) c.as_slice-2.result.now
    c.requires.module c.requires.ends c.requires.room c.joined_places.ensures c.as_slice.ensures (c.deref.ensures.value ∙ c.in-Ok.ensures) c.requires.own c.requires.means
    (ap length (c.deref_mut.ensures.value ∙ c.in-Ok-lay_both.ensures) ∙ (length-flat c.args.m.now c.requires.module ∙ sym (ap (λ (x : Ends). x.text + x.«data») c.requires.ends)))
    c.as_slice-2.ensures

pub relocate-requires-clause-places : goal.relocate-requires-clause-places
relocate-requires-clause-places c = (all_ready c).in_flat

pub relocate-requires-clause-lies : goal.relocate-requires-clause-lies
relocate-requires-clause-lies c = (all_ready c).lies

pub returns-in-Ok-Ok-clause-made : goal.returns-in-Ok-Ok-clause-made
returns-in-Ok-Ok-clause-made c =
    let same : length c.relocate.new.bytes ≡ length c.in-Ok-lay_both.bytes.items = omega (arith, c.relocate.auto.bytes, ap length c.deref_mut.ensures.value) in
    let len : c.in-Ok-lay_both.bytes.len ≡ length c.in-Ok-lay_both.bytes.items = c.in-Ok-lay_both.bytes.ok.0 in
    subst (λ xs. IsPatched (patched_of c.args.m.now c.args.own.now c.args.means.now) (c.args.ends.text + c.args.ends.«data») xs)
    (sym (whole_back c.in-Ok-lay_both.bytes.len c.relocate.new.bytes c.in-Ok-lay_both.bytes.items same len))
    (patched_is c.args.m.now c.args.ends c.joined_places.result c.as_slice.result.now c.deref.result.now c.args.own.now c.args.means.now c.deref_mut.result.now c.relocate.new.bytes c.as_slice-2.result.now
    c.requires.module c.requires.ends c.requires.room c.joined_places.ensures c.as_slice.ensures (c.deref.ensures.value ∙ c.in-Ok.ensures) c.requires.own c.requires.means
    (c.deref_mut.ensures.value ∙ c.in-Ok-lay_both.ensures) c.as_slice-2.ensures c.in-Ok-Ok.ensures.image (rw c.in-Ok-Ok.field-0-is at c.in-Ok-Ok.ensures.fault))
