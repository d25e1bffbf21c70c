use Rattle.std.proofs.Common.{◌++◌, Some, refl, ap, ◌∙◌, append_assoc}
use Rattle.std.proofs.lemmas.Result.{on_ok_weaker}
use Rattle.std.specs.Prelude.{codes}
use Rattle.serde_json.specs.Read.{read}
use Rattle.trace_json.proofs.ChromeDepth.{closing_shallow}
use Rattle.trace_json.proofs.members.close_list.Goals as goal

pub returns : goal.returns
returns c =
    on_ok_weaker c.add-2.result
    (λ text. record {
      piece = c.deref.result.now ++ codes "\n]\n";
      text_is = text ∙ ap (λ t. t ++ codes "\n]\n") c.in_ok-add.ensures ∙ append_assoc c.args.text.now.items c.deref.result.now (codes "\n]\n");
      is_piece = record {
        json = c.deref.result.now;
        text_is = refl;
        reads_back = ap read c.deref.ensures.value ∙ c.in_ok-object.ensures.reads_back (closing_shallow _ _ _ _ c.in_ok-value.ensures) ∙ ap Some c.in_ok-value.ensures;
      };
    })
    c.add-2.ensures
