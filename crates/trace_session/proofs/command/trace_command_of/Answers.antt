use Rattle.trace_session.proofs.CommandLemmas.{app_is_free}
use Rattle.trace_session.proofs.command.trace_command_of.Goals as goal

pub matches_of-requires : goal.matches_of-requires
matches_of-requires c = app_is_free _ c.in_ok-app.ensures
