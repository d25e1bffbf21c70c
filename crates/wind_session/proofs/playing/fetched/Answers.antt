use Rattle.std.proofs.Common.{refl}
use Rattle.wind_outside.specs.Counts.{Rose}
use Rattle.wind_outside.specs.declared.folder.FetchOutcome.TheVariants as outcomes
use Rattle.wind_session.proofs.PlanLemmas.{held_found, unread_missing, unread_long, unread_fault, unread_memory}
use Rattle.wind_session.proofs.playing.fetched.Goals as goal

pub returns-in-Found-clause-held : goal.returns-in-Found-clause-held
returns-in-Found-clause-held g c = held_found (g.F.Folder.files c.args.folder.now) c.args.name.now c.in-Found.bytes.items c.in-Found.ensures.within c.in-Found.ensures.answers

pub returns-in-Missing-clause-refused : goal.returns-in-Missing-clause-refused
returns-in-Missing-clause-refused g c =
    unread_missing (g.F.Folder.files c.args.folder.now) c.args.name.now c.args.file (Rose (g.F.Folder.faults c.args.folder.now) (g.F.Folder.faults c.fetch.new.self)) c.in-Missing.ensures.answers

pub returns-in-TooLong-clause-refused : goal.returns-in-TooLong-clause-refused
returns-in-TooLong-clause-refused g c =
    unread_long (g.F.Folder.files c.args.folder.now) c.args.name.now c.args.file (Rose (g.F.Folder.faults c.args.folder.now) (g.F.Folder.faults c.fetch.new.self)) c.in-TooLong.ensures.answers

pub returns-in-Failed-clause-refused : goal.returns-in-Failed-clause-refused
returns-in-Failed-clause-refused g c =
    unread_fault (g.F.Folder.files c.args.folder.now) c.args.name.now c.args.file (Rose (g.F.Folder.faults c.args.folder.now) (g.F.Folder.faults c.fetch.new.self)) (c.in-Failed.ensures.failed refl)

pub returns-in-NoMemory-clause-refused : goal.returns-in-NoMemory-clause-refused
returns-in-NoMemory-clause-refused g c =
    unread_memory (g.F.Folder.files c.args.folder.now) c.args.name.now c.args.file (Rose (g.F.Folder.faults c.args.folder.now) (g.F.Folder.faults c.fetch.new.self))

-- how the fetch ended
pub returns-in-Missing-clause-unfound : goal.returns-in-Missing-clause-unfound
returns-in-Missing-clause-unfound g c = (outcomes.Missing, refl, c.in-Missing.ensures.requested)

pub returns-in-TooLong-clause-unfound : goal.returns-in-TooLong-clause-unfound
returns-in-TooLong-clause-unfound g c = (outcomes.TooLong, refl, c.in-TooLong.ensures.requested)

pub returns-in-Failed-clause-unfound : goal.returns-in-Failed-clause-unfound
returns-in-Failed-clause-unfound g c = (outcomes.Failed, refl, c.in-Failed.ensures.requested)

pub returns-in-NoMemory-clause-unfound : goal.returns-in-NoMemory-clause-unfound
returns-in-NoMemory-clause-unfound g c = (outcomes.NoMemory, refl, c.in-NoMemory.ensures.requested)
