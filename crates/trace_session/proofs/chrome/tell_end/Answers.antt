use Rattle.std.proofs.Common.{◌++◌, inl, inr, refl}
use Rattle.trace_session.proofs.Puts.{text_lost, text_put}
use Rattle.trace_session.proofs.chrome.tell_end.Goals as goal

pub returns-in-Done-clause-told : goal.returns-in-Done-clause-told
returns-in-Done-clause-told g c = λ first objects holds. (
  holds.given ++ c.add_end.new.self.text.items,
  c.in_ok-add_end.ensures holds.given objects holds.begins,
  inl (refl, text_put first _ _ holds.given _ holds.gained (c.in-Done.ensures.done refl)),
)

pub returns-in-Failed-clause-told : goal.returns-in-Failed-clause-told
returns-in-Failed-clause-told g c = λ first objects holds. (
  holds.given ++ c.add_end.new.self.text.items,
  c.in_ok-add_end.ensures holds.given objects holds.begins,
  inr (refl, text_lost first _ _ holds.given _ holds.gained c.in-Failed.ensures.part),
)
