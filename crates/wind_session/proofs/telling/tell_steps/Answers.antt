use Rattle.std.proofs.Common.{◌+◌, ◌≤◌, ◌∙◌, subst, sym, ap, arith, refl}
use Rattle.std.proofs.lemmas.Result.{err_from_is_err_and}
use Rattle.generated_session.specs.Puts.{SinkLog, sink_log}
use Rattle.board_player.specs.WindMachineState.{State}
use Rattle.board_player.specs.WindMachineExtending.{IsRoom}
use Rattle.wind_session.specs.Modules.{Shelf}
use Rattle.wind_session.specs.Outside.{sink_of}
use Rattle.wind_session.specs.declared.run.RunEnd.TheVariants as ends
use Rattle.wind_session.proofs.Bursts.{runs_on}
use Rattle.wind_session.proofs.Continuing.{burst_counted, burst_room}
use Rattle.wind_session.proofs.KeepingLemmas.{files_both, files_same}
use Rattle.wind_session.proofs.RunLemmas.{at_limit, halted, halts_quiet}
use Rattle.wind_session.proofs.Saying.{saying}
use Rattle.wind_session.proofs.ToldLemmas.{at_count, burst_on, given_up, lost_on, step_on, told_end, told_halt, untold_on}
use Rattle.wind_session.proofs.telling.tell_steps.Goals as goal

-- before the first further step
pub loop-made-init : goal.loop-made-init
loop-made-init g c = record {
  run = λ said start n i first there on. (said, at_count _ _ said start n i _ first _ on (i + 0) (omega arith));
  scope = refl;
  ready = c.requires.ready;
  counted = omega arith;
  within = omega arith;
  room = λ time line h. h;
  keeps = files_same g.F.Folder g.O.Sink _ _;
}

-- a burst and a step were made and told
pub loop-made-preserved : goal.loop-made-preserved
loop-made-preserved g c =
    let shelf : Shelf = record { files = g.F.Folder.files c.args.folder.now; name = c.args.modules.now } in
    let made = c.in-Ok.ensures.made in
    let few : c.loop-made.made + c.in_ok-count.count ≤ c.args.most = omega (arith, c.in_ok-count.ensures.within) in
    record {
      run = λ said start n i first there on.
          let head = c.loop-made.invariant.run said start n i first there on in
          let burst = burst_on _ shelf head.0 start n (i + c.loop-made.made) _ first _ head.1 (g.T.Teller.tells c.burst.new.self) c.silent_law.ensures c.in_ok-count.count (i + (c.loop-made.made + c.in_ok-count.count)) (omega arith) (omega (arith, there, few)) _ c.in_ok-count.ensures.made (λ here told. c.in_ok-count.ensures.tells _ _ _ _ _ here told) in (
            saying head.0 (i + (c.loop-made.made + c.in_ok-count.count)) made.0,
            step_on _ shelf head.0 start n _ _ first _ burst _ c.loop-made.invariant.keeps.0.0 _ _ (made.0, made.1, made.2, made.3) _ made.4 (omega (arith, there, few, c.if-made-most.false)) c.in-Ok.ensures.counted
                (g.T.Teller.tells c.tell.new.self) _ (i + (c.loop-made.made + c.in_ok-count.count + 1)) (omega arith)
                (λ on told. c.in_ok-put.ensures.tells c.in-Done.is _ _ _ _ _ _ c.in_ok-before.ensures c.in_ok-count.ensures.ready on told),
          );
      scope = c.in_ok-put.ensures.scope ∙ c.in_ok-count.ensures.scope ∙ c.loop-made.invariant.scope;
      ready = c.in_ok-put.ensures.ready;
      counted = omega (arith, c.in-Ok.ensures.counted, burst_counted c.silent_law.ensures _ _ c.in_ok-count.count c.in_ok-count.ensures.made, c.loop-made.invariant.counted);
      within = omega (arith, few, c.if-made-most.false);
      room = λ time line h. c.extend_law.ensures.room time line made.0 _ _ (burst_room c.silent_law.ensures time line _ _ c.in_ok-count.count c.in_ok-count.ensures.made (c.loop-made.invariant.room time line h)) made.2;
      keeps = files_both g.F.Folder g.O.Sink _ _ _ _ _ _ c.loop-made.invariant.keeps (c.in-Ok.ensures.keeps, c.in_ok-put.ensures.faults);
    }

-- ---- after a burst the steps are still below the bound
pub step-requires : goal.step-requires
step-requires g c = omega (arith, burst_counted c.silent_law.ensures _ _ c.in_ok-count.count c.in_ok-count.ensures.made, c.loop-made.invariant.counted, c.requires.bound, c.in_ok-count.ensures.within, c.if-made-most.false)

pub look_before-requires : goal.look_before-requires
look_before-requires g c = omega (arith, burst_counted c.silent_law.ensures _ _ c.in_ok-count.count c.in_ok-count.ensures.made, c.loop-made.invariant.counted, c.requires.bound, c.in_ok-count.ensures.within, c.if-made-most.false)

pub tell-requires-clause-few : goal.tell-requires-clause-few
tell-requires-clause-few g c = omega (arith, burst_counted c.silent_law.ensures _ _ c.in_ok-count.count c.in_ok-count.ensures.made, c.loop-made.invariant.counted, c.requires.bound, c.in_ok-count.ensures.within, c.if-made-most.false, c.in-Ok.ensures.counted)

-- ---- as many steps as the limit were made by a burst
pub returns-then-made-most-clause-told : goal.returns-then-made-most-clause-told
returns-then-made-most-clause-told g c = λ said start n i first there on.
    let shelf : Shelf = record { files = g.F.Folder.files c.args.folder.now; name = c.args.modules.now } in
    let few : c.loop-made.made + c.in_ok-count.count ≤ c.args.most = omega (arith, c.in_ok-count.ensures.within) in
    let head = c.loop-made.invariant.run said start n i first there on in
    let burst = burst_on _ shelf head.0 start n (i + c.loop-made.made) _ first _ head.1 (g.T.Teller.tells c.burst.new.self) c.silent_law.ensures c.in_ok-count.count (i + (c.loop-made.made + c.in_ok-count.count)) (omega arith) (omega (arith, there, few)) _ c.in_ok-count.ensures.made (λ here told. c.in_ok-count.ensures.tells _ _ _ _ _ here told) in
    told_end _ _ ends.Limit shelf _ start _ n _ _ _ (at_limit shelf _ start _ n _ _ _ burst.run (omega (arith, there))) burst.told

pub returns-then-made-most-clause-steps : goal.returns-then-made-most-clause-steps
returns-then-made-most-clause-steps g c = omega (arith, burst_counted c.silent_law.ensures _ _ c.in_ok-count.count c.in_ok-count.ensures.made, c.loop-made.invariant.counted, c.in_ok-count.ensures.within)

pub returns-then-made-most-clause-room : goal.returns-then-made-most-clause-room
returns-then-made-most-clause-room g c = λ time line h. burst_room c.silent_law.ensures time line _ _ c.in_ok-count.count c.in_ok-count.ensures.made (c.loop-made.invariant.room time line h)

-- ---- no further step was made
pub returns-in-Err-clause-told : goal.returns-in-Err-clause-told
returns-in-Err-clause-told g c = λ said start n i first there on.
    let shelf : Shelf = record { files = g.F.Folder.files c.args.folder.now; name = c.args.modules.now } in
    let few : c.loop-made.made + c.in_ok-count.count ≤ c.args.most = omega (arith, c.in_ok-count.ensures.within) in
    let head = c.loop-made.invariant.run said start n i first there on in
    let burst = burst_on _ shelf head.0 start n (i + c.loop-made.made) _ first _ head.1 (g.T.Teller.tells c.burst.new.self) c.silent_law.ensures c.in_ok-count.count (i + (c.loop-made.made + c.in_ok-count.count)) (omega arith) (omega (arith, there, few)) _ c.in_ok-count.ensures.made (λ here told. c.in_ok-count.ensures.tells _ _ _ _ _ here told) in
    told_halt _ _ c.in-Err.end shelf _ start _ _ n _ _ _ c.in-Err.ensures.halts
    (halted shelf _ start _ n _ _ _ burst.run _ _ c.in-Err.ensures.unchanged (omega (arith, there, few, c.if-made-most.false)) c.in-Err.end c.in-Err.ensures.halts c.in-Err.ensures.stops)
    burst.told

pub returns-in-Err-clause-quiet : goal.returns-in-Err-clause-quiet
returns-in-Err-clause-quiet g c = λ e. rw c.in-Err.ensures.unchanged (halts_quiet _ c.in-Err.end c.in-Err.ensures.halts e)

pub returns-in-Err-clause-steps : goal.returns-in-Err-clause-steps
returns-in-Err-clause-steps g c = omega (arith, ap (λ (v : State). v.steps) c.in-Err.ensures.unchanged, burst_counted c.silent_law.ensures _ _ c.in_ok-count.count c.in_ok-count.ensures.made, c.loop-made.invariant.counted, c.in_ok-count.ensures.within)

pub returns-in-Err-clause-room : goal.returns-in-Err-clause-room
returns-in-Err-clause-room g c = λ time line h. subst (IsRoom time line) (sym c.in-Err.ensures.unchanged) (burst_room c.silent_law.ensures time line _ _ c.in_ok-count.count c.in_ok-count.ensures.made (c.loop-made.invariant.room time line h))

-- ---- a put failed
pub returns-in-Failed-clause-told : goal.returns-in-Failed-clause-told
returns-in-Failed-clause-told g c = λ said start n i first there on.
    let shelf : Shelf = record { files = g.F.Folder.files c.args.folder.now; name = c.args.modules.now } in
    let made = c.in-Ok.ensures.made in
    let few : c.loop-made.made + c.in_ok-count.count ≤ c.args.most = omega (arith, c.in_ok-count.ensures.within) in
    let head = c.loop-made.invariant.run said start n i first there on in
    let burst = burst_on _ shelf head.0 start n (i + c.loop-made.made) _ first _ head.1 (g.T.Teller.tells c.burst.new.self) c.silent_law.ensures c.in_ok-count.count (i + (c.loop-made.made + c.in_ok-count.count)) (omega arith) (omega (arith, there, few)) _ c.in_ok-count.ensures.made (λ here told. c.in_ok-count.ensures.tells _ _ _ _ _ here told) in
    lost_on _ shelf head.0 start n _ _ first _ burst _ c.loop-made.invariant.keeps.0.0 _ _ (made.0, made.1, made.2, made.3) _ made.4 (omega (arith, there, few, c.if-made-most.false)) c.in-Ok.ensures.counted
    _ (g.T.Teller.lost (g.T.Teller.scope c.args.teller.now) (sink_of first) (sink_log g.O.Sink c.tell.new.out))
    (λ on told. subst (λ scope. g.T.Teller.lost scope (sink_of first) (sink_log g.O.Sink c.tell.new.out) (saying head.0 (i + (c.loop-made.made + c.in_ok-count.count)) made.0) start (i + (c.loop-made.made + c.in_ok-count.count) + 1))
    (c.in_ok-count.ensures.scope ∙ c.loop-made.invariant.scope)
    (c.in_ok-put.ensures.lost c.in-Failed.is _ _ _ _ _ _ c.in_ok-before.ensures c.in_ok-count.ensures.ready on told))

pub returns-in-Failed-clause-steps : goal.returns-in-Failed-clause-steps
returns-in-Failed-clause-steps g c = omega (arith, c.in-Ok.ensures.counted, burst_counted c.silent_law.ensures _ _ c.in_ok-count.count c.in_ok-count.ensures.made, c.loop-made.invariant.counted, c.in_ok-count.ensures.within, c.if-made-most.false)

pub returns-in-Failed-clause-room : goal.returns-in-Failed-clause-room
returns-in-Failed-clause-room g c = λ time line h.
    let made = c.in-Ok.ensures.made in
    c.extend_law.ensures.room time line made.0 _ _ (burst_room c.silent_law.ensures time line _ _ c.in_ok-count.count c.in_ok-count.ensures.made (c.loop-made.invariant.room time line h)) made.2

-- ---- the loop ends
pub returns-clause-told : goal.returns-clause-told
returns-clause-told g c = λ said start n i first there on.
    let shelf : Shelf = record { files = g.F.Folder.files c.args.folder.now; name = c.args.modules.now } in
    let head = c.loop-made.invariant.run said start n i first there on in
    told_end _ _ ends.Limit shelf _ start _ n _ _ _ (at_limit shelf _ start _ n _ _ _ head.1.run (omega (arith, there, c.loop-made.invariant.within))) head.1.told

pub returns-clause-steps : goal.returns-clause-steps
returns-clause-steps g c = omega (arith, c.loop-made.invariant.counted, c.loop-made.invariant.within)

pub returns-clause-room : goal.returns-clause-room
returns-clause-room g c = c.loop-made.invariant.room

-- ---- the teller gave up in a burst
pub returns-in_err-count-clause-given_up : goal.returns-in_err-count-clause-given_up
returns-in_err-count-clause-given_up g c =
    let shelf : Shelf = record { files = g.F.Folder.files c.args.folder.now; name = c.args.modules.now } in
    let made = c.in_err-count.ensures.given_up in
    let p = err_from_is_err_and c.from_residual.result c.from_residual.ensures.1 in
    rw p.1 (λ said start n i first there on.
    let head = c.loop-made.invariant.run said start n i first there on in
    given_up (g.T.Teller.part (g.T.Teller.scope c.args.teller.now) (sink_of first) (sink_log g.O.Sink c.loop-made.out)) shelf head.0 start _ n (i + c.loop-made.made) (i + c.loop-made.made + made.0) _ _ (subst (λ scope. g.T.Teller.part scope (sink_of first) (sink_log g.O.Sink c.loop-made.out) head.0 start (i + c.loop-made.made)) c.loop-made.invariant.scope (c.part_law.ensures _ _ _ _ _ _ (λ j below. refl) head.1.told)) (omega arith)
    (runs_on c.silent_law.ensures shelf _ start n _ _ _ _ head.1.run made.0 (omega (arith, there, made.1)) _ made.2))

pub returns-in_err-count-clause-steps : goal.returns-in_err-count-clause-steps
returns-in_err-count-clause-steps g c = omega (arith, burst_counted c.silent_law.ensures _ _ c.in_err-count.ensures.given_up.0 c.in_err-count.ensures.given_up.2, c.loop-made.invariant.counted, c.in_err-count.ensures.given_up.1)

pub returns-in_err-count-clause-room : goal.returns-in_err-count-clause-room
returns-in_err-count-clause-room g c = λ time line h. burst_room c.silent_law.ensures time line _ _ c.in_err-count.ensures.given_up.0 c.in_err-count.ensures.given_up.2 (c.loop-made.invariant.room time line h)

-- ---- before a step
pub returns-in_err-before-clause-given_up : goal.returns-in_err-before-clause-given_up
returns-in_err-before-clause-given_up g c =
    let shelf : Shelf = record { files = g.F.Folder.files c.args.folder.now; name = c.args.modules.now } in
    let few : c.loop-made.made + c.in_ok-count.count ≤ c.args.most = omega (arith, c.in_ok-count.ensures.within) in
    let p = err_from_is_err_and c.from_residual-in_err-before.result c.from_residual-in_err-before.ensures.1 in
    rw p.1 (λ said start n i first there on.
    let head = c.loop-made.invariant.run said start n i first there on in
    let burst = burst_on _ shelf head.0 start n (i + c.loop-made.made) _ first _ head.1 (g.T.Teller.tells c.burst.new.self) c.silent_law.ensures c.in_ok-count.count (i + (c.loop-made.made + c.in_ok-count.count)) (omega arith) (omega (arith, there, few)) _ c.in_ok-count.ensures.made (λ here told. c.in_ok-count.ensures.tells _ _ _ _ _ here told) in
    given_up (g.T.Teller.part (g.T.Teller.scope c.args.teller.now) (sink_of first) (sink_log g.O.Sink c.loop-made.out)) shelf head.0 start _ n (i + c.loop-made.made) _ _ _ (subst (λ scope. g.T.Teller.part scope (sink_of first) (sink_log g.O.Sink c.loop-made.out) head.0 start (i + c.loop-made.made)) c.loop-made.invariant.scope (c.part_law.ensures _ _ _ _ _ _ (λ j below. refl) head.1.told)) (omega arith) burst.run)

pub returns-in_err-before-clause-steps : goal.returns-in_err-before-clause-steps
returns-in_err-before-clause-steps g c = omega (arith, burst_counted c.silent_law.ensures _ _ c.in_ok-count.count c.in_ok-count.ensures.made, c.loop-made.invariant.counted, c.in_ok-count.ensures.within)

pub returns-in_err-before-clause-room : goal.returns-in_err-before-clause-room
returns-in_err-before-clause-room g c = λ time line h. burst_room c.silent_law.ensures time line _ _ c.in_ok-count.count c.in_ok-count.ensures.made (c.loop-made.invariant.room time line h)

-- ---- after a step
pub returns-in_err-put-clause-given_up : goal.returns-in_err-put-clause-given_up
returns-in_err-put-clause-given_up g c =
    let shelf : Shelf = record { files = g.F.Folder.files c.args.folder.now; name = c.args.modules.now } in
    let made = c.in-Ok.ensures.made in
    let few : c.loop-made.made + c.in_ok-count.count ≤ c.args.most = omega (arith, c.in_ok-count.ensures.within) in
    let p = err_from_is_err_and c.from_residual-in_err-put.result c.from_residual-in_err-put.ensures.1 in
    rw p.1 (λ said start n i first there on.
    let head = c.loop-made.invariant.run said start n i first there on in
    let burst = burst_on _ shelf head.0 start n (i + c.loop-made.made) _ first _ head.1 (g.T.Teller.tells c.burst.new.self) c.silent_law.ensures c.in_ok-count.count (i + (c.loop-made.made + c.in_ok-count.count)) (omega arith) (omega (arith, there, few)) _ c.in_ok-count.ensures.made (λ here told. c.in_ok-count.ensures.tells _ _ _ _ _ here told) in
    untold_on _ shelf head.0 start n _ _ first _ burst _ c.loop-made.invariant.keeps.0.0 _ _ (made.0, made.1, made.2, made.3) _ made.4 (omega (arith, there, few, c.if-made-most.false)) c.in-Ok.ensures.counted
    (g.T.Teller.part (g.T.Teller.scope c.args.teller.now) (sink_of first) (sink_log g.O.Sink c.tell.new.out)) (i + c.loop-made.made) (omega arith)
    (λ same. subst (λ (now : SinkLog). g.T.Teller.part (g.T.Teller.scope c.args.teller.now) (sink_of first) now (saying head.0 (i + (c.loop-made.made + c.in_ok-count.count)) made.0) start (i + c.loop-made.made)) (sym c.in_err-put.ensures.given_up)
    (subst (λ scope. g.T.Teller.part scope (sink_of first) (sink_log g.O.Sink c.loop-made.out) (saying head.0 (i + (c.loop-made.made + c.in_ok-count.count)) made.0) start (i + c.loop-made.made)) c.loop-made.invariant.scope
    (c.part_law.ensures _ _ head.0 _ start (i + c.loop-made.made) same head.1.told))))

pub returns-in_err-put-clause-steps : goal.returns-in_err-put-clause-steps
returns-in_err-put-clause-steps g c = omega (arith, c.in-Ok.ensures.counted, burst_counted c.silent_law.ensures _ _ c.in_ok-count.count c.in_ok-count.ensures.made, c.loop-made.invariant.counted, c.in_ok-count.ensures.within, c.if-made-most.false)

pub returns-in_err-put-clause-room : goal.returns-in_err-put-clause-room
returns-in_err-put-clause-room g c = λ time line h.
    let made = c.in-Ok.ensures.made in
    c.extend_law.ensures.room time line made.0 _ _ (burst_room c.silent_law.ensures time line _ _ c.in_ok-count.count c.in_ok-count.ensures.made (c.loop-made.invariant.room time line h)) made.2
