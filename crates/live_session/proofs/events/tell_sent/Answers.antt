use Rattle.std.proofs.Common.{◌∙◌, ◌++◌, ℕ, List, subst}
use Rattle.std.specs.Prelude.{codes}
use Rattle.std.specs.Fmt.{decimal}
use Rattle.wind_outside.specs.Counts.{Rose}
use Rattle.wind_session.specs.Texts.{IsPrinted}
use Rattle.live_session.proofs.events.tell_sent.Goals as goal

pub returns : goal.returns
returns g c =
    let before = g.E.Sink.bytes c.args.err.now in
    let after = g.E.Sink.bytes c.put_pieces.new.err in
    let rose = Rose (g.E.Sink.faults c.args.err.now) (g.E.Sink.faults c.put_pieces.new.err) in
    record {
      printed =
          subst (λ (cause : List ℕ). IsPrinted before after (codes "windlive: events sent: " ++ decimal c.args.sent.count ++ cause) rose) c.cause_text.ensures
          (subst (λ (digits : List ℕ). IsPrinted before after (codes "windlive: events sent: " ++ digits ++ c.cause_text.result.now) rose)
          (c.as_bytes-count.ensures.value ∙ c.format.ensures.text) c.put_pieces.ensures.printed);
    }
