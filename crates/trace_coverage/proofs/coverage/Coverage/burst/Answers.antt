use Rattle.std.proofs.Common.{◌≡◌, ◌+◌, ◌<◌, ◌∙◌, ap, arith, refl, sym}
use Rattle.wind_machine.specs.Silent.{last_actor}
use Rattle.board_reading.specs.BoardPlayerSeen.{board_by}
use Rattle.trace_coverage.proofs.Going.{burst_counted, covers_both, covers_none, one_more}
use Rattle.trace_coverage.proofs.coverage.Coverage.burst.Goals as goal

-- nobody made a step before, so no instruction was made
pub returns-in_default-clause-covers : goal.returns-in_default-clause-covers
returns-in_default-clause-covers g c =
    let state = board_by (λ d. (goal.Device-dyn g (d.vtable, d.value)).kind_of d.value) (λ d. (goal.Device-dyn g (d.vtable, d.value)).words_of d.value) in
    covers_none c.args.self.now (state c.args.board.now) 0 refl

pub loop-made-init : goal.loop-made-init
loop-made-init g c =
    let state = board_by (λ d. (goal.Device-dyn g (d.vtable, d.value)).kind_of d.value) (λ d. (goal.Device-dyn g (d.vtable, d.value)).words_of d.value) in
    record {
      steps = refl;
      last = ap last_actor (sym c.world.ensures) ∙ sym c.last_actor.ensures ∙ c.in-Some.is;
      covers = covers_none c.args.self.now (state c.args.board.now) 0 refl;
      counted = omega arith;
      within = omega arith;
    }

pub advance-count-requires-clause-few : goal.advance-count-requires-clause-few
advance-count-requires-clause-few g c = omega (arith, c.loop-made.invariant.counted, c.requires.few, c.loop-made-test.true)

pub advance-count-requires-clause-last : goal.advance-count-requires-clause-last
advance-count-requires-clause-last g c = c.loop-made.invariant.last

-- one more was made
pub loop-made-preserved : goal.loop-made-preserved
loop-made-preserved g c =
    let state = board_by (λ d. (goal.Device-dyn g (d.vtable, d.value)).kind_of d.value) (λ d. (goal.Device-dyn g (d.vtable, d.value)).words_of d.value) in
    let old = state c.args.board.now in
    let now = state c.loop-made.board in
    let new = state c.advance-count.new.board in
    let made = c.loop-made.made in
    let count = c.advance-count.result in
    let some : 0 < count = omega arith in
    let sum : made + count ≡ made + 1 = omega (arith, some, c.advance-count.ensures.within) in
    record {
      steps = one_more made count (made + 1) old now new some c.advance-count.ensures.within refl c.loop-made.invariant.steps c.advance-count.ensures.made;
      last = c.advance-count.ensures.last;
      covers = covers_both c.silent_law.ensures c.args.self.now c.loop-made.self c.advance-count.new.self old now made count (made + 1) sum c.loop-made.invariant.steps c.loop-made.invariant.covers c.advance-count.ensures.covers;
      counted = omega (arith, sum, c.loop-made.invariant.counted, burst_counted c.silent_law.ensures now new count c.advance-count.ensures.made);
      within = omega (arith, c.loop-made-test.true);
    }

-- no further one was made
pub returns-then-count-eq0-clause-covers : goal.returns-then-count-eq0-clause-covers
returns-then-count-eq0-clause-covers g c =
    let state = board_by (λ d. (goal.Device-dyn g (d.vtable, d.value)).kind_of d.value) (λ d. (goal.Device-dyn g (d.vtable, d.value)).words_of d.value) in
    let made = c.loop-made.made in
    let count = c.advance-count.result in
    let sum : made + count ≡ made = omega (arith, c.if-count-eq0.true) in
    covers_both c.silent_law.ensures c.args.self.now c.loop-made.self c.advance-count.new.self (state c.args.board.now) (state c.loop-made.board) made count made sum c.loop-made.invariant.steps c.loop-made.invariant.covers c.advance-count.ensures.covers
