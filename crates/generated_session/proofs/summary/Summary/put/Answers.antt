use Rattle.generated_session.specs.Session.{summary_texts}
use Rattle.generated_session.proofs.summary.Summary.put.Goals as goal

-- the pieces are those of the line
pub returns-clause-puts : goal.returns-clause-puts
unfolding summary_texts
returns-clause-puts g c = rw (c.digits.ensures, c.digits-2.ensures, c.digits-3.ensures, c.digits-4.ensures, c.digits-5.ensures, c.digits-6.ensures) at c.put_all.ensures.puts
