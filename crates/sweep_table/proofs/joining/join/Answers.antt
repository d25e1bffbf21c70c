use Rattle.std.proofs.Common.{◌≡◌, ◌∙◌, [], get_or}
use Rattle.std.proofs.lemmas.List.{get_or_read}
use Rattle.std.proofs.lemmas.Result.{err_from_is_err_and}
use Rattle.sweep_table.specs.declared.runs.Run.{Run}
use Rattle.sweep_table.specs.Runs.{outcome_at, outcomes_of}
use Rattle.sweep_table.proofs.JoinLemmas.{over_joined, part_joined, run_joined, run_members}
use Rattle.sweep_table.proofs.joining.join.Goals as goal

pub returns-in_err-add-clause-too_many : goal.returns-in_err-add-clause-too_many
returns-in_err-add-clause-too_many c =
    let p = err_from_is_err_and c.from_residual.result c.from_residual.ensures.1 in
    let none : Run = record { length = 0; place = 0 } in
    let known = c.args.known.now in
    let runs = c.args.runs.now in
    let i = c.loop-run.run-index in
    let inside = c.requires.next.places i none c.loop-run-test.true in
    let is : c.text.result.now ≡ outcome_at known (get_or runs i none).place = c.text.ensures ∙ get_or_read known (get_or runs i none).place c.index-known-run.result inside c.index-known-run.is [] in
    rw (p.1, p.2)
    (λ e.
    over_joined (outcomes_of c.args.tally.now) (outcomes_of c.loop-run.tally) known runs i none c.text.result.now c.loop-run-test.true (c.requires.next.some i none c.loop-run-test.true) is
    c.loop-run.invariant.outcomes (c.in_err-add.ensures.too_many e))

pub returns-in_err-add-clause-err : goal.returns-in_err-add-clause-err
returns-in_err-add-clause-err c =
    let p = err_from_is_err_and c.from_residual.result c.from_residual.ensures.1 in
    rw p.1 (part_joined c.args.tally.now c.loop-run.tally c.add.new.tally c.args.known.now c.args.runs.now c.loop-run.run-index c.loop-run.invariant.sound c.loop-run.invariant.outcomes c.in_err-add.ensures.err)

pub loop-run-preserved : goal.loop-run-preserved
loop-run-preserved c =
    let none : Run = record { length = 0; place = 0 } in
    let known = c.args.known.now in
    let runs = c.args.runs.now in
    let i = c.loop-run.run-index in
    let adds = c.in_ok-add.ensures.ok in
    let inside = c.requires.next.places i none c.loop-run-test.true in
    let is : c.text.result.now ≡ outcome_at known (get_or runs i none).place = c.text.ensures ∙ get_or_read known (get_or runs i none).place c.index-known-run.result inside c.index-known-run.is [] in
    record {
      sound = adds.sound;
      outcomes = run_joined c.args.tally.now c.loop-run.tally c.add.new.tally known runs i none c.text.result.now c.loop-run-test.true is c.loop-run.invariant.outcomes adds;
      members = run_members c.loop-run.tally c.add.new.tally runs i none c.text.result.now _ c.loop-run-test.true c.loop-run.invariant.sound adds c.loop-run.invariant.members;
    }
