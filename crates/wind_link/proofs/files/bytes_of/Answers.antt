use Rattle.std.proofs.Common.{refl}
use Rattle.wind_outside.specs.declared.folder.FetchOutcome.TheVariants as outcomes
use Rattle.wind_link.proofs.files.bytes_of.Goals as goal

pub returns-in-Missing-clause-unfound : goal.returns-in-Missing-clause-unfound
returns-in-Missing-clause-unfound g c = (outcomes.Missing, refl, c.in-Missing.ensures.requested)

pub returns-in-TooLong-clause-unfound : goal.returns-in-TooLong-clause-unfound
returns-in-TooLong-clause-unfound g c = (outcomes.TooLong, refl, c.in-TooLong.ensures.requested)

pub returns-in-Failed-clause-unfound : goal.returns-in-Failed-clause-unfound
returns-in-Failed-clause-unfound g c = (outcomes.Failed, refl, c.in-Failed.ensures.requested)

pub returns-in-NoMemory-clause-unfound : goal.returns-in-NoMemory-clause-unfound
returns-in-NoMemory-clause-unfound g c = (outcomes.NoMemory, refl, c.in-NoMemory.ensures.requested)
