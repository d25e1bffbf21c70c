use Rattle.std.proofs.Common.{◌++◌, inl, inr, refl}
use Rattle.trace_session.proofs.Puts.{text_lost, text_put}
use Rattle.trace_session.proofs.events.tell_end.Goals as goal

pub returns-in-Done-clause-told : goal.returns-in-Done-clause-told
returns-in-Done-clause-told g c = λ first lines holds. (
  holds.given ++ c.tell_end.new.self.page.text,
  c.in_ok-tell_end.ensures holds.given lines holds.ends,
  inl (refl, text_put first _ _ holds.given _ holds.gained (c.in-Done.ensures.done refl)),
)

pub returns-in-Failed-clause-told : goal.returns-in-Failed-clause-told
returns-in-Failed-clause-told g c = λ first lines holds. (
  holds.given ++ c.tell_end.new.self.page.text,
  c.in_ok-tell_end.ensures holds.given lines holds.ends,
  inr (refl, text_lost first _ _ holds.given _ holds.gained c.in-Failed.ensures.part),
)
