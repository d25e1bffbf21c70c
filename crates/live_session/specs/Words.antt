-- A command, and where its record is written, as the program holds them.
use Rattle.std.specs.Prelude.{string_bytes}
use Rattle.live_session.specs.Command.{CommandState}
use Rattle.live_session.specs.Saving.{ArePaths}
use Rattle.live_session.specs.Continuing.{Kept}
use Rattle.live_session.specs.declared.command.Command.{Command}
use Rattle.live_session.specs.declared.continuing.Taken.{Taken}
use Rattle.live_session.specs.declared.saving.Target.{Target}

abbrev pub command_state : Command → CommandState
command_state c = record { modules = c.modules.now; record_folder = c.record.now; force = c.force; continues = c.continues; quiet_after = c.quiet_after; profile = c.profile; board = c.board }

-- what a session takes over
abbrev pub kept_of : Taken → Kept
kept_of t = record { console = t.texts.console.items; ticks = t.texts.ticks.items; limit = t.limit }

-- the paths are those of the files of the command's record
abbrev pub IsTarget : Target → Type 0
IsTarget t = ArePaths t.command.now.record.now (string_bytes t.paths.now.console) (string_bytes t.paths.now.ticks) (string_bytes t.paths.now.command)
