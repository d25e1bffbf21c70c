use Rattle.std.proofs.Common.{◌≡◌, ◌∙◌, rules, ap, sym, subst, ◌++◌, ◌+◌, map, [], List, ℕ, arith}
use Rattle.std.proofs.lemmas.List.{append-nil, nil_from_length}
use Rattle.std.proofs.lemmas.Result.{err_from_is_err_and}
use Rattle.tick_file.specs.Lines.{tick_lines, rules_from, bad_from, rules_of, first_bad_line, Tells}
use Rattle.tick_file.specs.Inside.{waiting_of}
use Rattle.tick_file.proofs.LineLemmas.{kept_step, good_step, bad_tells, rules_done, bad_done}
use Rattle.tick_file.proofs.reading.kept_rules.Goals as goal

pub returns-in_err-keep-clause-bad : goal.returns-in_err-keep-clause-bad
unfolding first_bad_line
returns-in_err-keep-clause-bad c =
    let p = err_from_is_err_and c.from_residual.result c.from_residual.ensures.1 in
    rw (p.1, p.2) (
    subst (λ o. Tells o c.in_err-keep.field-0.0) c.loop-rest.invariant.bad
    (bad_tells (c.loop-rest.line + 1) c.loop-rest.rest.now c.first_line.result.now c.first_line.result.now c.said.result c.said.ensures c.first_line.ensures c.in_err-keep.field-0.0 c.in_err-keep.ensures.bad))

pub loop-rest-preserved : goal.loop-rest-preserved
loop-rest-preserved c = record {
  rules = kept_step (c.loop-rest.line + 1) c.loop-rest.rest.now c.first_line.result.now c.after_line-rest.result.now c.said.result c.said.ensures c.first_line.ensures
      c.loop-rest.kept.items c.keep.new.kept.items c.after_line-rest.ensures.value c.in_ok-keep.ensures.rule
      ∙ c.loop-rest.invariant.rules;
  bad = good_step (c.loop-rest.line + 1) c.loop-rest.rest.now c.first_line.result.now c.after_line-rest.result.now c.said.result c.said.ensures c.first_line.ensures
      c.after_line-rest.ensures.value c.in_ok-keep.ensures.good
      ∙ c.loop-rest.invariant.bad;
  lines = omega arith;
}

pub returns-clause-rules : goal.returns-clause-rules
unfolding rules_of
returns-clause-rules c =
    let none : c.loop-rest.rest.now ≡ [] = nil_from_length c.loop-rest.rest.now (search rules) in
    sym (append-nil c.loop-rest.kept.items)
    ∙ ap (λ rs. c.loop-rest.kept.items ++ map waiting_of rs) (sym (rules_done (c.loop-rest.line + 1)))
    ∙ ap (λ (bs : List ℕ). c.loop-rest.kept.items ++ map waiting_of (rules_from (c.loop-rest.line + 1) (tick_lines bs))) (sym none)
    ∙ c.loop-rest.invariant.rules

pub returns-clause-good : goal.returns-clause-good
unfolding first_bad_line
returns-clause-good c =
    let none : c.loop-rest.rest.now ≡ [] = nil_from_length c.loop-rest.rest.now (search rules) in
    sym c.loop-rest.invariant.bad
    ∙ ap (λ (bs : List ℕ). bad_from (c.loop-rest.line + 1) (tick_lines bs)) none
    ∙ bad_done (c.loop-rest.line + 1)
