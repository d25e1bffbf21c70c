use Rattle.std.proofs.Common.{◌∙◌, ◌++◌, ℕ, List, ap, subst}
use Rattle.std.specs.Prelude.{codes}
use Rattle.std.specs.Fmt.{decimal}
use Rattle.wind_outside.specs.Counts.{Rose}
use Rattle.wind_session.specs.Texts.{IsPrinted}
use Rattle.live_session.proofs.events.tell_no_device.Goals as goal

pub returns : goal.returns
returns g c = record {
  printed =
      subst (λ (digits : List ℕ). IsPrinted (g.E.Sink.bytes c.args.err.now) (g.E.Sink.bytes c.put_pieces.new.err)
      (codes "windlive: not sent: slot " ++ digits ++ codes " has no device\n") (Rose (g.E.Sink.faults c.args.err.now) (g.E.Sink.faults c.put_pieces.new.err)))
      (c.as_bytes-slot.ensures.value ∙ c.format.ensures.text ∙ ap decimal c.slot_of.ensures) c.put_pieces.ensures.printed;
}
