use Rattle.std.proofs.Common.{◌∙◌, ap, ap₂}
use Rattle.std.proofs.lemmas.Result.{IfOk-weaker}
use Rattle.clap.specs.Words.{with_rule}
use Rattle.wind_session.specs.Command.{with_board_options}
use Rattle.live_session.specs.Command.{app}
use Rattle.live_session.proofs.command.app.Goals as goal

-- each option adds its rule
pub returns : goal.returns
unfolding app
returns c =
    let one = c.in_ok-arg.ensures.shape c.option.ensures.local ∙ ap₂ with_rule c.command_line.ensures c.option.ensures.rule in
    let two = c.in_ok-arg-2.ensures.shape c.option-2.ensures.local ∙ ap₂ with_rule one c.option-2.ensures.rule in
    let three = c.in_ok-arg-3.ensures.shape c.flag.ensures.local ∙ ap₂ with_rule two c.flag.ensures.rule in
    let four = c.in_ok-arg-4.ensures.shape c.flag-2.ensures.local ∙ ap₂ with_rule three c.flag-2.ensures.rule in
    let five = c.in_ok-command.ensures.shape c.option-3.ensures.local ∙ ap₂ with_rule four c.option-3.ensures.rule in
    IfOk-weaker c.with_board_options.result _ _ (λ m h. h ∙ ap with_board_options five) c.with_board_options.ensures
