use Rattle.std.proofs.Common.{subst, sym}
use Rattle.trace_session.specs.Chrome.{HoldsObjects}
use Rattle.trace_session.proofs.Charting.{objects_lost, objects_put}
use Rattle.trace_session.proofs.chrome.put_full.Goals as goal

pub returns-clause-done : goal.returns-clause-done
returns-clause-done g c = λ done first objects holds.
    subst (λ bytes. HoldsObjects first (g.O.Sink.bytes c.put_objects.new.out) bytes objects) (sym c.put_objects.ensures.text) (objects_put first _ _ _ objects holds (c.put_objects.ensures.done done))

pub returns-clause-part : goal.returns-clause-part
returns-clause-part g c = λ failed first objects holds. objects_lost first _ _ _ objects holds c.put_objects.ensures.part
