use Rattle.std.proofs.Common.{arith}
use Rattle.std.proofs.lemmas.Result.{IfOk-weaker, err_from_is_err_and, on_err_weaker}
use Rattle.wind_session.proofs.AppendingLemmas.{appended_none}
use Rattle.wind_session.proofs.RunLemmas.{begun}
use Rattle.wind_session.proofs.ToldLemmas.{given_up}
use Rattle.wind_outside.specs.Appending.{AppendedPrefix}
use Rattle.trace_text.specs.Lines.{lines_text}
use Rattle.trace_session.specs.Choice.{choice_state, chosen_lines}
use Rattle.trace_session.proofs.Telling.{events_of, events_part}
use Rattle.trace_session.proofs.line_forms.tell_events.Goals as goal

-- no step was made
pub returns-in_err-form-clause-given_up : goal.returns-in_err-form-clause-given_up
returns-in_err-form-clause-given_up g c =
    let p = err_from_is_err_and c.from_residual.result c.from_residual.ensures.1 in
    let bytes = g.O.Sink.bytes c.args.out.now in
    rw p.1
    (given_up (λ said s k. AppendedPrefix bytes bytes (lines_text (chosen_lines (choice_state c.args.choice.now) said s k))) _ _ _ _ c.args.limit 0 0 _ _ (0, appended_none _) (omega arith) (begun _ _ c.args.limit _ c.requires.fresh))

-- the texts of the lines are those of the form
pub returns-clause-told : goal.returns-clause-told
returns-clause-told g c = IfOk-weaker c.tell_lines.result _ _ (λ t ran. events_of _ _ _ _ _ _ _ _ _ t.product t.end ran) c.tell_lines.ensures.told

pub returns-clause-given_up : goal.returns-clause-given_up
returns-clause-given_up g c = on_err_weaker c.tell_lines.result (events_part _ _ _ _ _ _ _ _ _) c.tell_lines.ensures.given_up
