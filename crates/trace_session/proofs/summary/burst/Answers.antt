use Rattle.std.proofs.Common.{◌≡◌, ◌<◌, ◌+◌, ◌∙◌, ap, sym, arith}
use Rattle.wind_machine.specs.State.{State}
use Rattle.wind_machine.specs.Silent.{last_actor}
use Rattle.wind_session.specs.BoardPlayerSeen.{board_by}
use Rattle.board_trace.specs.Runs.{lines_of}
use Rattle.board_trace.specs.Snapshots.{snapshot_of}
use Rattle.trace_summary.specs.Summaries.{tally_of}
use Rattle.trace_session.proofs.Bursts.{none_made, same_state}
use Rattle.trace_session.proofs.Counting.{counted_burst}
use Rattle.trace_session.proofs.summary.burst.Goals as goal

-- nobody made a step before, so no instruction was made
pub returns-in_default-clause-tally : goal.returns-in_default-clause-tally
returns-in_default-clause-tally g c =
    let state = board_by (λ d. (goal.Device-dyn g (d.vtable, d.value)).kind_of d.value) (λ d. (goal.Device-dyn g (d.vtable, d.value)).words_of d.value) in
    let old = state c.args.board.now in
    let new = state c.burst-count.new.self in
    let none = none_made c.burst-count.result old new (ap last_actor (sym c.world.ensures) ∙ sym c.last_actor-who.ensures ∙ c.in_default.is) c.burst-count.ensures.made in
    λ views said s i here is.
    let end : i ≡ i + c.burst-count.result = omega (arith, none) in
    is ∙ ap (λ n. tally_of views (lines_of said s n)) end

pub returns-in_default-clause-before : goal.returns-in_default-clause-before
returns-in_default-clause-before g c =
    let state = board_by (λ d. (goal.Device-dyn g (d.vtable, d.value)).kind_of d.value) (λ d. (goal.Device-dyn g (d.vtable, d.value)).words_of d.value) in
    let old = state c.args.board.now in
    let new = state c.burst-count.new.self in
    let none = none_made c.burst-count.result old new (ap last_actor (sym c.world.ensures) ∙ sym c.last_actor-who.ensures ∙ c.in_default.is) c.burst-count.ensures.made in
    c.requires.before ∙ ap (λ (v : State). snapshot_of v.world) (sym (same_state c.burst-count.result old new none c.burst-count.ensures.made))

-- they were counted
pub returns-clause-tally : goal.returns-clause-tally
returns-clause-tally g c =
    let state = board_by (λ d. (goal.Device-dyn g (d.vtable, d.value)).kind_of d.value) (λ d. (goal.Device-dyn g (d.vtable, d.value)).words_of d.value) in
    let old = state c.args.board.now in
    let new = state c.burst-count.new.self in
    let some : 0 < c.burst-count.result = omega arith in
    counted_burst c.silent_lines_law.ensures c.burst-count.result old new _ _ _ _ _ some (ap last_actor (sym c.world.ensures) ∙ sym c.last_actor-who.ensures ∙ c.in-Some.is) c.burst-count.ensures.made c.time-time.ensures c.requires.before c.in_ok-add_instructions.ensures.tally

-- only the view of who made them is taken again
pub returns-clause-before : goal.returns-clause-before
returns-clause-before g c =
    let state = board_by (λ d. (goal.Device-dyn g (d.vtable, d.value)).kind_of d.value) (λ d. (goal.Device-dyn g (d.vtable, d.value)).words_of d.value) in
    let old = state c.args.board.now in
    let some : 0 < c.burst-count.result = omega arith in
    c.in_ok-add_instructions.ensures.before old c.facts.ensures
    (c.burst-count.ensures.only some _ (ap last_actor (sym c.world.ensures) ∙ sym c.last_actor-who.ensures ∙ c.in-Some.is)) c.requires.before
