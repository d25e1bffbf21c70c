-- A command as plain data.
use Rattle.wind_session.specs.Words.{command_state}
use Rattle.trace_session.specs.Choice.{choice_state}
use Rattle.trace_session.specs.Command.{TraceState}
use Rattle.trace_session.specs.declared.command.TraceCommand.{TraceCommand}

abbrev pub trace_state : TraceCommand → TraceState
trace_state c = record { form = c.form; choice = choice_state c.choice; session = command_state c.session }
