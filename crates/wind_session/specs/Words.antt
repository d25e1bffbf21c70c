-- A command, as the program holds it.
use Rattle.wind_session.specs.Command.{BoardOptionsState, CommandState}
use Rattle.wind_session.specs.declared.command.BoardOptions.{BoardOptions}
use Rattle.wind_session.specs.declared.command.Command.{Command}

abbrev pub board_options_state : BoardOptions → BoardOptionsState
board_options_state o = record { modules = o.modules.now; profile = o.profile; board = o.board }

abbrev pub command_state : Command → CommandState
command_state c = record { console = c.console.now; ticks = c.ticks.now; modules = c.modules.now; limit = c.limit; source = c.source; profile = c.profile; board = c.board }
