use Rattle.std.proofs.Common.{◌++◌, Some, ap, ◌∙◌}
use Rattle.std.proofs.lemmas.Result.{on_ok_weaker}
use Rattle.std.specs.Prelude.{codes}
use Rattle.serde_json.specs.Read.{read}
use Rattle.trace_json.proofs.Gaining.{gained_one}
use Rattle.trace_json.proofs.members.add_member.Goals as goal

pub returns : goal.returns
returns c =
    on_ok_weaker c.add-2.result
    (λ text object is. gained_one object c.deref.result.now _ _ (ap read c.deref.ensures.value ∙ c.in_ok-object.ensures.reads_back c.requires ∙ ap Some is) (text ∙ ap (λ t. t ++ codes ",\n") c.in_ok-add.ensures))
    c.add-2.ensures
