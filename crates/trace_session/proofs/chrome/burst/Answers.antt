use Rattle.std.proofs.Common.{ap, sym, ◌<◌, ◌∙◌, arith}
use Rattle.wind_machine.specs.State.{State}
use Rattle.wind_machine.specs.Silent.{last_actor}
use Rattle.wind_session.specs.BoardPlayerSeen.{board_by}
use Rattle.board_trace.specs.Snapshots.{snapshot_of}
use Rattle.trace_session.specs.Counters.{queue_counts}
use Rattle.trace_session.proofs.Bursts.{none_made, same_state}
use Rattle.trace_session.proofs.Skipping.{same_counts}
use Rattle.trace_session.proofs.chrome.burst.Goals as goal

-- nobody made a step before, so no instruction was made
pub returns-in_default-clause-before : goal.returns-in_default-clause-before
returns-in_default-clause-before g c =
    let state = board_by (λ d. (goal.Device-dyn g (d.vtable, d.value)).kind_of d.value) (λ d. (goal.Device-dyn g (d.vtable, d.value)).words_of d.value) in
    let old = state c.args.board.now in
    let new = state c.burst_within-count.new.board in
    let none = none_made c.burst_within-count.result old new (ap last_actor (sym c.world.ensures) ∙ sym c.last_actor-who.ensures ∙ c.in_default.is) c.burst_within-count.ensures.made in
    c.requires.before ∙ ap (λ (v : State). snapshot_of v.world) (sym (same_state c.burst_within-count.result old new none c.burst_within-count.ensures.made))

-- only the view of who made them is taken again
pub returns-clause-before : goal.returns-clause-before
returns-clause-before g c =
    let state = board_by (λ d. (goal.Device-dyn g (d.vtable, d.value)).kind_of d.value) (λ d. (goal.Device-dyn g (d.vtable, d.value)).words_of d.value) in
    let old = state c.args.board.now in
    let some : 0 < c.burst_within-count.result = omega arith in
    c.skip.ensures old c.facts.ensures
    (c.burst_within-count.ensures.only some _ (ap last_actor (sym c.world.ensures) ∙ sym c.last_actor-who.ensures ∙ c.in-Some.is)) c.requires.before

pub returns-in_default-clause-counts : goal.returns-in_default-clause-counts
returns-in_default-clause-counts g c =
    let state = board_by (λ d. (goal.Device-dyn g (d.vtable, d.value)).kind_of d.value) (λ d. (goal.Device-dyn g (d.vtable, d.value)).words_of d.value) in
    let old = state c.args.board.now in
    let new = state c.burst_within-count.new.board in
    let none = none_made c.burst_within-count.result old new (ap last_actor (sym c.world.ensures) ∙ sym c.last_actor-who.ensures ∙ c.in_default.is) c.burst_within-count.ensures.made in
    c.requires.counts ∙ ap (λ (v : State). queue_counts v.world) (sym (same_state c.burst_within-count.result old new none c.burst_within-count.ensures.made))

-- instructions leave the queues as they are
pub returns-clause-counts : goal.returns-clause-counts
returns-clause-counts g c =
    let state = board_by (λ d. (goal.Device-dyn g (d.vtable, d.value)).kind_of d.value) (λ d. (goal.Device-dyn g (d.vtable, d.value)).words_of d.value) in
    let old = state c.args.board.now in
    let new = state c.burst_within-count.new.board in
    let some : 0 < c.burst_within-count.result = omega arith in
    c.requires.counts
    ∙ same_counts old.world new.world _ (c.burst_within-count.ensures.only some _ (ap last_actor (sym c.world.ensures) ∙ sym c.last_actor-who.ensures ∙ c.in-Some.is))
