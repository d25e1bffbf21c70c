use Rattle.std.proofs.Common.{refl}
use Rattle.wind_outside.specs.declared.folder.FetchOutcome.TheVariants as outcomes
use Rattle.ppc_asm.proofs.command.bytes_of.Goals as goal

pub returns-in-Missing-clause-unfound : goal.returns-in-Missing-clause-unfound
returns-in-Missing-clause-unfound g c = record { outcome = outcomes.Missing; requests = c.in-Missing.ensures.requested; leads = refl }

pub returns-in-TooLong-clause-unfound : goal.returns-in-TooLong-clause-unfound
returns-in-TooLong-clause-unfound g c = record { outcome = outcomes.TooLong; requests = c.in-TooLong.ensures.requested; leads = refl }

pub returns-in-Failed-clause-unfound : goal.returns-in-Failed-clause-unfound
returns-in-Failed-clause-unfound g c = record { outcome = outcomes.Failed; requests = c.in-Failed.ensures.requested; leads = refl }

pub returns-in-NoMemory-clause-unfound : goal.returns-in-NoMemory-clause-unfound
returns-in-NoMemory-clause-unfound g c = record { outcome = outcomes.NoMemory; requests = c.in-NoMemory.ensures.requested; leads = refl }
