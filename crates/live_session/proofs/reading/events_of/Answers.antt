use Rattle.std.proofs.Common.{◌≡◌, ◌≤◌, ◌∙◌, [], ap, eqb-true, false, length, rules, sym}
use Rattle.std.proofs.lemmas.List.{nil_from_length}
use Rattle.std.proofs.lemmas.Result.{err_from_is_err_and}
use Rattle.wind_base.specs.Limits.{greatest_word}
use Rattle.tick_file.specs.Lines.{first_bad_line}
use Rattle.tick_file.specs.Schedule.{Timetable, timetable_of}
use Rattle.tick_file.specs.Writing.{IsInRange}
use Rattle.live_session.proofs.Cuts.{fewer_left, later_start, reading_begins, reading_done, reading_more, reading_other, reading_short, reading_unfit}
use Rattle.live_session.proofs.OtherFiles.{named_by}
use Rattle.live_session.proofs.reading.events_of.Goals as goal

-- ---- a line is invalid
pub returns-in_err-schedule-clause-err : goal.returns-in_err-schedule-clause-err
returns-in_err-schedule-clause-err c =
    let p = err_from_is_err_and c.from_residual.result c.from_residual.ensures.1 in
    rw (p.1, p.2) (λ known xs h is. c.in_err-schedule.ensures.bad known (ap first_bad_line is ∙ (c.writing_law.ensures.written xs (later_start xs h)).1))

-- ---- an event after another
pub loop-time-init : goal.loop-time-init
loop-time-init c =
    rw c.new-events.ensures.items
    (reading_begins c.args.lines.now c.in_ok-schedule.schedule.events
    (λ xs h is. ap (λ (t : Timetable). t.events) (c.in_ok-schedule.ensures.value ∙ ap timetable_of is ∙ (c.writing_law.ensures.written xs h).0)))

pub returns-then-not-is_recordable-clause-err : goal.returns-then-not-is_recordable-clause-err
returns-then-not-is_recordable-clause-err c = λ known.
    let no : c.is_recordable.result ≡ false = search rules in
    reading_unfit c.writing_law.ensures.more _ _ _ _ _ c.loop-time.invariant c.in-Some.time c.in-Some.event (sym c.in-Some.ensures)
    (λ fits. let yes = c.is_recordable.ensures.1 fits in cc)

pub returns-in_default-after_text-clause-err : goal.returns-in_default-after_text-clause-err
returns-in_default-after_text-clause-err c = λ known.
    reading_other c.writing_law.ensures.more _ _ _ _ _ c.loop-time.invariant c.in-Some.time c.in-Some.event (sym c.in-Some.ensures)
    c.deref.result.now (c.deref.ensures.value ∙ c.in_ok-line.ensures) c.in_default-after_text.ensures

pub loop-time-preserved : goal.loop-time-preserved
loop-time-preserved c =
    let fits : (c.loop-time.least ≤ c.in-Some.time) × (c.in-Some.time ≤ greatest_word) × IsInRange c.in-Some.event = c.is_recordable.ensures.0 (search rules) in
    rw (c.in_ok-push_event.ensures, c.advance.ensures)
    (reading_more c.writing_law.ensures.more _ _ _ _ _ c.loop-time.invariant c.in-Some.time c.in-Some.event (sym c.in-Some.ensures)
    c.deref.result.now c.in-Some-after_text.after.now (c.deref.ensures.value ∙ c.in_ok-line.ensures) c.in-Some-after_text.ensures fits.0 fits.1 fits.2)

pub loop-time-smaller : goal.loop-time-smaller
loop-time-smaller c = rw c.advance.ensures (fewer_left _ _ (sym c.in-Some.ensures))

-- ---- no event is left
pub returns-then-is_empty-clause-ok : goal.returns-then-is_empty-clause-ok
returns-then-is_empty-clause-ok c =
    let rest = c.loop-time.rest.now in
    let none : rest ≡ [] = nil_from_length rest (eqb-true (length rest) 0 (sym c.is_empty.ensures ∙ c.if-is_empty.true)) in (
      reading_done c.writing_law.ensures.more _ _ _ _ _ c.loop-time.invariant none,
      c.loop-time.invariant.fits,
    )

pub returns-clause-err : goal.returns-clause-err
returns-clause-err c = λ known.
    reading_short c.writing_law.ensures.more _ _ _ _ _ c.loop-time.invariant (sym c.in_default.ensures)
    (named_by c.loop-time.rest.now (sym c.is_empty.ensures ∙ c.if-is_empty.false))
