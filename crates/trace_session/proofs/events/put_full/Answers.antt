use Rattle.trace_session.proofs.Puts.{put_whole, some_lost}
use Rattle.trace_session.proofs.events.put_full.Goals as goal

pub returns-clause-done : goal.returns-clause-done
returns-clause-done g c = λ done first lines holds. put_whole g.L.LineForm.is_line first _ _ _ _ lines holds (c.put_page.ensures.done done) c.put_page.ensures.page

pub returns-clause-part : goal.returns-clause-part
returns-clause-part g c = λ failed first lines holds. some_lost g.L.LineForm.is_line first _ _ _ lines holds c.put_page.ensures.part
