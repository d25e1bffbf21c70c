use Rattle.std.proofs.Common.{◌∙◌, sym, subst, refl}
use Rattle.wind_core.specs.State.{KernState}
use Rattle.wind_core.specs.Notes.{AllNormal}
use Rattle.inheritance.proofs.Nobody.{settled_already, settled_normal}
use Rattle.inheritance.proofs.settling.settle_alone.Goals as goal

pub returns-then-surely_all_normal : goal.returns-then-surely_all_normal
returns-then-surely_all_normal c =
    let ms = c.args.mutexes.now.rows in
    sym (settled_already c.args.k.now ms c.facts.ensures (c.requires.nobody ms c.requires.owners) (c.if-surely_all_normal.ensures refl))

pub note_all_normal-requires : goal.note_all_normal-requires
note_all_normal-requires c =
    let ms = c.args.mutexes.now.rows in
    subst (λ (s : KernState). AllNormal s.tasks) (sym c.settle_all.ensures) (settled_normal c.args.k.now ms c.facts.ensures (c.requires.nobody ms c.requires.owners))

pub returns : goal.returns
returns c = c.note_all_normal.ensures ∙ c.settle_all.ensures
