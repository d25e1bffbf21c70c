use Rattle.std.proofs.Common.{ap}
use Rattle.std.specs.Prelude.{not}
use Rattle.live_session.proofs.CommandLemmas.{app_is_free, named_going}
use Rattle.live_session.proofs.command.command_of.Goals as goal

pub matches_of-requires : goal.matches_of-requires
matches_of-requires c = app_is_free _ c.in_ok-app.ensures

-- a session that goes on has a folder for its record
pub returns-clause-named : goal.returns-clause-named
returns-clause-named c = named_going c.value_of-record.result.now c.value_of-continued.result.now _ _ (ap not c.is_empty.ensures) c.folder_of-folder.ensures
