use Rattle.std.proofs.Common.{◌∙◌, ◌++◌, List, [], refl, sym, ap, arith}
use Rattle.std.specs.Prelude.{ℕ}
use Rattle.std.proofs.lemmas.List.{append-nil}
use Rattle.kept_files.specs.Kept.{kept_of}
use Rattle.wind_session.proofs.AppendingLemmas.{rose_earlier}
use Rattle.again.specs.declared.going.Going.TheVariants as goings
use Rattle.sweep_run.specs.Runs.{start_state}
use Rattle.sweep_run.proofs.FetchLemmas.{fetches_both}
use Rattle.sweep_run.proofs.RunLemmas.{ended_given_up, ended_run, goes_at, is_limit}
use Rattle.sweep_run.proofs.playing.run.Goals as goal

-- as many steps as are left were made
pub returns-in-Made-clause-ran : goal.returns-in-Made-clause-ran
returns-in-Made-clause-ran g c =
    let start = start_state c.args.start.now in
    let written = c.loop-alloc.console.items in
    let new = kept_of c.go.new.kept in
    let here = goes_at start.modules (kept_of c.loop-alloc.kept) new _ _ _ _ written [] written c.loop-alloc.invariant.at c.in-Made.ensures.made (sym (append-nil written)) in
    is_limit start new _ _ written here (omega (arith, c.in-Made.ensures.all refl, c.steps-in-loop-alloc.ensures, c.steps.ensures, c.loop-alloc-test.true))

-- no step more was made
pub returns-in-Ended-clause-ran : goal.returns-in-Ended-clause-ran
returns-in-Ended-clause-ran g c =
    let start = start_state c.args.start.now in
    let written = c.loop-alloc.console.items in
    let new = kept_of c.go.new.kept in
    let end = c.in-Ended.end in
    let here = goes_at start.modules (kept_of c.loop-alloc.kept) new _ _ _ _ written [] written c.loop-alloc.invariant.at c.in-Ended.ensures.made (sym (append-nil written)) in
    rw c.finish_of.ensures
    (ended_run start new _ _ written end here (omega (arith, c.in-Ended.ensures.fewer end refl, c.steps-in-loop-alloc.ensures, c.steps.ensures, c.loop-alloc-test.true)) (c.in-Ended.ensures.halts end refl))

pub returns-in-Ended-clause-given_up : goal.returns-in-Ended-clause-given_up
returns-in-Ended-clause-given_up g c =
    let end = c.in-Ended.end in
    rw c.finish_of.ensures (ended_given_up end _ _ (c.in-Ended.ensures.halts end refl) (λ e.
    rose_earlier _ _ _ c.loop-alloc.invariant.fetches.keeps.1 c.in-Ended.ensures.keeps.1 (c.in-Ended.ensures.fault (ap goings.Ended e))))

pub loop-alloc-preserved : goal.loop-alloc-preserved
loop-alloc-preserved g c =
    let written = c.loop-alloc.console.items in
    let goes = c.in-Wrote.ensures.made in
    record {
      at = goes_at c.args.start.now.modules.now (kept_of c.loop-alloc.kept) (kept_of c.go.new.kept) _ _ _ _ written _ c.add.new.text.items c.loop-alloc.invariant.at goes
          (c.in_ok-add-in-Wrote.ensures ∙ ap (λ (v : List ℕ). written ++ v) c.output.ensures);
      within = omega (arith, goes.counted, goes.within, c.loop-alloc.invariant.within, c.steps-in-loop-alloc.ensures);
      fetches = fetches_both _ _ _ _ _ _ c.loop-alloc.invariant.fetches (record { grows = c.in-Wrote.ensures.grows; truth = c.in-Wrote.ensures.truth; keeps = c.in-Wrote.ensures.keeps });
    }

-- the limit was reached after a step that wrote
pub returns-clause-ran : goal.returns-clause-ran
returns-clause-ran g c =
    is_limit (start_state c.args.start.now) (kept_of c.loop-alloc.kept) _ _ c.loop-alloc.console.items c.loop-alloc.invariant.at (omega (arith, c.loop-alloc-test.false, c.loop-alloc.invariant.within, c.steps.ensures))
