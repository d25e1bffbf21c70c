use Rattle.std.proofs.Common.{◌∙◌, ap, ap₂}
use Rattle.std.proofs.lemmas.Result.{IfOk-weaker}
use Rattle.clap.specs.Words.{with_rule}
use Rattle.wind_session.specs.Command.{with_session_options}
use Rattle.trace_session.specs.Command.{app, with_choice_options}
use Rattle.trace_session.proofs.command.app.Goals as goal

-- the option adds its rule
pub returns : goal.returns
unfolding app
returns c =
    let one = c.in_ok-command.ensures.shape c.option-form.ensures.local ∙ ap₂ with_rule c.command_line.ensures c.option-form.ensures.rule in
    IfOk-weaker c.with_session_options.result _ _ (λ m h. h ∙ ap with_session_options (c.in_ok-command-2.ensures ∙ ap with_choice_options one)) c.with_session_options.ensures
