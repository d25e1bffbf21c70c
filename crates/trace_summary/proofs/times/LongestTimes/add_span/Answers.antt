use Rattle.std.proofs.lemmas.Result.{on_ok_weaker}
use Rattle.trace_summary.proofs.times.LongestTimes.add_span.Goals as goal

pub returns : goal.returns
returns c =
    on_ok_weaker c.add_response.result
    (λ more before kept. record {
      waits = c.in_ok-add_stretch.ensures _ kept.waits;
      ready = kept.ready;
      inherited = c.in_ok-add_stretch-2.ensures _ kept.inherited;
      responses = more _ kept.responses;
    })
    c.add_response.ensures
