use Rattle.std.proofs.Common.{◌≡◌, Bool, false, if◌then◌else◌, List, [], ◌∷◌, ◌++◌, sym, ap, ◌∙◌}
use Rattle.std.specs.List.{list_any}
use Rattle.std.proofs.lemmas.Result.{on_ok_weaker}
use Rattle.trace_summary.specs.Usage.{same_object}
use Rattle.trace_summary.specs.Using.{unused, with_usage}
use Rattle.trace_summary.specs.declared.usage.Object.{Object}
use Rattle.trace_summary.specs.declared.usage.Usage.{Usage}
use Rattle.trace_summary.proofs.usage.add_object.Goals as goal

-- it wasn't among them
added_new : (o : Object) (u : Usage) (old : List Usage) (here : Bool) → here ≡ list_any (λ v. same_object v.object o) old → here ≡ false → u ≡ unused o → old ++ u ∷ [] ≡ with_usage o old
added_new o u old here is gone new =
    ap (λ v. old ++ v ∷ []) new ∙ ap (λ b. if b then old else old ++ unused o ∷ []) (sym gone ∙ is)

pub returns : goal.returns
returns c =
    let here = c.has_object.ensures ∙ ap (list_any (λ (v : Usage). same_object v.object c.args.object)) c.deref.ensures.value in
    on_ok_weaker c.push.result
    (λ is. is ∙ added_new c.args.object c.unused.result c.args.uses.now.items c.has_object.result here c.if-has_object.false c.unused.ensures)
    c.push.ensures
