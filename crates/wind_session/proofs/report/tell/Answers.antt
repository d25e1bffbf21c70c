use Rattle.std.proofs.Common.{◌∙◌}
use Rattle.std.proofs.lemmas.List.{append-nil}
use Rattle.wind_session.specs.Texts.{status_text}
use Rattle.wind_session.proofs.report.tell.Goals as goal

pub returns-in-Absent-clause-printed : goal.returns-in-Absent-clause-printed
unfolding status_text
returns-in-Absent-clause-printed g c = rw c.in-Absent.is (simp append-nil at (rw c.name_of.ensures at c.print_line.ensures.printed))

pub returns-in-Limit-clause-printed : goal.returns-in-Limit-clause-printed
unfolding status_text
returns-in-Limit-clause-printed g c = rw c.in-Limit.is (rw (c.as_bytes-limit.ensures.value ∙ c.format.ensures.text) at c.print_line-in-Limit.ensures.printed)

pub returns-in-ReadFault-clause-printed : goal.returns-in-ReadFault-clause-printed
unfolding status_text
returns-in-ReadFault-clause-printed g c = rw c.in-ReadFault.is c.print_line-in-ReadFault.ensures.printed

pub returns-in-WriteFault-clause-printed : goal.returns-in-WriteFault-clause-printed
unfolding status_text
returns-in-WriteFault-clause-printed g c = rw c.in-WriteFault.is c.print_line-in-WriteFault.ensures.printed

pub returns-in-NoMemory-clause-printed : goal.returns-in-NoMemory-clause-printed
unfolding status_text
returns-in-NoMemory-clause-printed g c = rw c.in-NoMemory.is c.tell_no_memory.ensures.printed

pub returns-in-BadTicks-clause-printed : goal.returns-in-BadTicks-clause-printed
unfolding status_text
returns-in-BadTicks-clause-printed g c = rw c.in-BadTicks.is (rw c.name_of-in-BadTicks.ensures at c.tell_bad_line.ensures.printed)

pub returns-in-TooLong-clause-printed : goal.returns-in-TooLong-clause-printed
unfolding status_text
returns-in-TooLong-clause-printed g c = rw c.in-TooLong.is (simp append-nil at (rw c.name_of-in-TooLong.ensures at c.print_line-in-TooLong.ensures.printed))
