use Rattle.std.proofs.Common.{◌∙◌, ap, ap₂}
use Rattle.std.proofs.lemmas.Result.{IfOk-weaker}
use Rattle.clap.specs.Words.{app_of, with_rule}
use Rattle.trace_session.proofs.choosing.with_choice_options.Goals as goal

-- each option adds its rule
pub returns : goal.returns
returns c =
    let one = c.in_ok-arg.ensures.shape c.option.ensures.local ∙ ap (with_rule (app_of c.args.command)) c.option.ensures.rule in
    let two = c.in_ok-arg-2.ensures.shape c.option-2.ensures.local ∙ ap₂ with_rule one c.option-2.ensures.rule in
    let three = c.in_ok-arg-3.ensures.shape c.option-3.ensures.local ∙ ap₂ with_rule two c.option-3.ensures.rule in
    IfOk-weaker c.arg-4.result _ _ (λ m h. h.shape c.option-4.ensures.local ∙ ap₂ with_rule three c.option-4.ensures.rule) c.arg-4.ensures
