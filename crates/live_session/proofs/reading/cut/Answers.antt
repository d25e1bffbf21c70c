use Rattle.std.proofs.Common.{◌∙◌, ap, arith, length, refl, rules, sym}
use Rattle.std.proofs.lemmas.Result.{err_from_is_err_and}
use Rattle.live_session.specs.Cutting.{IsServed}
use Rattle.live_session.proofs.Cuts.{cut_done, cut_not, served_as, served_few, text_short}
use Rattle.live_session.proofs.reading.cut.Goals as goal

pub returns-in_err-events-clause-err : goal.returns-in_err-events-clause-err
returns-in_err-events-clause-err c =
    let p = err_from_is_err_and c.from_residual.result c.from_residual.ensures.1 in
    rw (p.1, p.2) (λ known kept_console kept_ticks cut. c.in_err-events.ensures.err known cut.events cut.fits (c.whole_lines.ensures ∙ cut.lines))

pub overflow_sub-unserved : goal.overflow_sub-unserved
overflow_sub-unserved c =
    let few = served_few (length c.args.console.now) c.deref.result.now in
    omega (arith, c.in_ok-served.ensures.count, few, ap length c.deref.ensures.value, c.in_ok-events.events.ok.0, c.len.ensures)

-- the bytes of two lines aren't there
pub returns-then-unserved-gt1-clause-err : goal.returns-then-unserved-gt1-clause-err
returns-then-unserved-gt1-clause-err c =
    let s : IsServed (length c.args.console.now) c.in_ok-events.events.items c.in_ok-served.served.ticks.items c.in_ok-served.served.bytes c.in_ok-served.served.lines c.in_ok-served.served.last =
    served_as (length c.args.console.now) _ c.in_ok-events.events.items _ _ _ _ _ refl c.deref.ensures.value c.in_ok-served.ensures in
    λ known kept_console kept_ticks cut.
    cut_not c.writing_law.ensures.written c.args.console.now c.args.ticks.now c.in_ok-events.events.items (sym c.whole_lines.ensures ∙ c.in_ok-events.ensures.ok.0) c.in_ok-events.ensures.ok.1
    _ _ _ _ s (omega (arith, c.in_ok-events.events.ok.0, c.len.ensures)) kept_console kept_ticks cut

-- the bytes of one line at most
pub returns-clause-ok : goal.returns-clause-ok
returns-clause-ok c =
    let s : IsServed (length c.args.console.now) c.in_ok-events.events.items c.in_ok-served.served.ticks.items c.in_ok-served.served.bytes c.in_ok-served.served.lines c.in_ok-served.served.last =
    served_as (length c.args.console.now) _ c.in_ok-events.events.items _ _ _ _ _ refl c.deref.ensures.value c.in_ok-served.ensures in
    cut_done c.writing_law.ensures.written c.args.console.now c.args.ticks.now c.in_ok-events.events.items (sym c.whole_lines.ensures ∙ c.in_ok-events.ensures.ok.0) c.in_ok-events.ensures.ok.1
    _ _ _ _ s (omega (arith, c.in_ok-events.events.ok.0, c.len.ensures)) _ (search rules)

pub returns-clause-short : goal.returns-clause-short
returns-clause-short c =
    let s : IsServed (length c.args.console.now) c.in_ok-events.events.items c.in_ok-served.served.ticks.items c.in_ok-served.served.bytes c.in_ok-served.served.lines c.in_ok-served.served.last =
    served_as (length c.args.console.now) _ c.in_ok-events.events.items _ _ _ _ _ refl c.deref.ensures.value c.in_ok-served.ensures in (
      search rules,
      text_short c.writing_law.ensures.written c.args.console.now c.args.ticks.now c.in_ok-events.events.items (sym c.whole_lines.ensures ∙ c.in_ok-events.ensures.ok.0) c.in_ok-events.ensures.ok.1 _ _ _ _ s,
    )
