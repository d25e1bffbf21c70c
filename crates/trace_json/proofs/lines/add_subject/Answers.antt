use Rattle.trace_json.proofs.lines.add_subject.Goals as goal

pub returns-in-Interrupt : goal.returns-in-Interrupt
returns-in-Interrupt c = rw c.in-Interrupt.is c.put_word-in-Interrupt.ensures
