use Rattle.std.proofs.Common.{◌≡◌, subst, ◌<◌, ◌+◌, ◌∙◌, ap, sym, arith}
use Rattle.wind_machine.specs.State.{State}
use Rattle.wind_machine.specs.Silent.{last_actor}
use Rattle.wind_session.specs.BoardPlayerSeen.{board_by}
use Rattle.board_trace.specs.Snapshots.{snapshot_of}
use Rattle.trace_session.specs.Choice.{choice_state, is_step}
use Rattle.trace_session.proofs.Bursts.{lines_burst, none_made, same_ends, same_state}
use Rattle.trace_session.proofs.events.burst.Goals as goal

-- nobody made a step before, so no instruction was made
pub returns-in_default-clause-lines : goal.returns-in_default-clause-lines
returns-in_default-clause-lines g c =
    let state = board_by (λ d. (goal.Device-dyn g (d.vtable, d.value)).kind_of d.value) (λ d. (goal.Device-dyn g (d.vtable, d.value)).words_of d.value) in
    let old = state c.args.board.now in
    let new = state c.burst-count.new.self in
    let none = none_made c.burst-count.result old new (ap last_actor (sym c.world.ensures) ∙ sym c.last_actor-who.ensures ∙ c.in_default.is) c.burst-count.ensures.made in
    λ said s i given here ends. same_ends c.burst-count.result old new none c.burst-count.ensures.made g.L.LineForm.is_line _ _ said s i given ends

pub returns-in_default-clause-before : goal.returns-in_default-clause-before
returns-in_default-clause-before g c =
    let state = board_by (λ d. (goal.Device-dyn g (d.vtable, d.value)).kind_of d.value) (λ d. (goal.Device-dyn g (d.vtable, d.value)).words_of d.value) in
    let old = state c.args.board.now in
    let new = state c.burst-count.new.self in
    let none = none_made c.burst-count.result old new (ap last_actor (sym c.world.ensures) ∙ sym c.last_actor-who.ensures ∙ c.in_default.is) c.burst-count.ensures.made in
    c.requires.before ∙ ap (λ (v : State). snapshot_of v.world) (sym (same_state c.burst-count.result old new none c.burst-count.ensures.made))

-- they were told
pub returns-clause-lines : goal.returns-clause-lines
returns-clause-lines g c =
    let state = board_by (λ d. (goal.Device-dyn g (d.vtable, d.value)).kind_of d.value) (λ d. (goal.Device-dyn g (d.vtable, d.value)).words_of d.value) in
    let old = state c.args.board.now in
    let new = state c.burst-count.new.self in
    let some : 0 < c.burst-count.result = omega arith in
    lines_burst g.L.LineForm.is_line c.silent_lines_law.ensures (choice_state c.args.tracer.now.choice.now) c.burst-count.result old new _ _ _ _ _ _ some (ap last_actor (sym c.world.ensures) ∙ sym c.last_actor-who.ensures ∙ c.in-Some.is) c.burst-count.ensures.made
    (λ j below. subst (λ n. is_step (choice_state c.args.tracer.now.choice.now) (n + j + 1) ≡ is_step (choice_state c.args.tracer.now.choice.now) (n + 1)) c.steps-2.ensures (c.most_alike.ensures.alike j (omega (arith, below, c.burst-count.ensures.within))))
    c.time-time.ensures (ap (λ n. n + 1) c.steps.ensures) c.requires.before c.in_ok-tell_instructions.ensures.lines

-- only the view of who made them is taken again
pub returns-clause-before : goal.returns-clause-before
returns-clause-before g c =
    let state = board_by (λ d. (goal.Device-dyn g (d.vtable, d.value)).kind_of d.value) (λ d. (goal.Device-dyn g (d.vtable, d.value)).words_of d.value) in
    let old = state c.args.board.now in
    let some : 0 < c.burst-count.result = omega arith in
    c.in_ok-tell_instructions.ensures.before old c.facts.ensures
    (c.burst-count.ensures.only some _ (ap last_actor (sym c.world.ensures) ∙ sym c.last_actor-who.ensures ∙ c.in-Some.is)) c.requires.before
