use Rattle.session_promises.proofs.Linking.{links_alone}
use Rattle.session_promises.proofs.laws.promise_law.Goals as goal

pub returns : goal.returns
returns c = λ said file ticks slots profile board k.
    let here = c.run_law.ensures said file ticks slots (record { profile = profile; board = board }) k in
    record {
      instant = here.instant;
      deletion = here.safety;
      messages = c.message_law.ensures said file ticks slots profile board k;
      interrupts = λ slot. c.interrupt_law.ensures said file ticks slots profile board slot k;
      console = c.console_law.ensures said file ticks slots profile board k;
      linking = links_alone c.loading_law.ensures.alone (said k) _ here.kept;
    }
