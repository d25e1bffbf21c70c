use Rattle.std.proofs.Common.{inl, inr, refl}
use Rattle.wind_session.proofs.AppendingLemmas.{cut_prefix, cut_short}
use Rattle.wind_session.proofs.report.print.Goals as goal

pub returns-in-Failed-clause-printed : goal.returns-in-Failed-clause-printed
returns-in-Failed-clause-printed g c = inr (cut_short _ _ _ _ (cut_prefix _ _ _ c.in-Failed.ensures.puts) (c.in-Failed.ensures.failed refl))

pub returns-in-Done-clause-printed : goal.returns-in-Done-clause-printed
returns-in-Done-clause-printed g c = inl c.in-Done.ensures.puts.bytes
