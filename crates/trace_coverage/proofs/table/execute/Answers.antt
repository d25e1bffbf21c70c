use Rattle.std.proofs.Common.{◌++◌, List, ap, ap₂, get_or, map, set, ◌∙◌}
use Rattle.std.proofs.lemmas.List.{append-nil, drop_all, take_all}
use Rattle.trace_coverage.specs.Covered.{CoveredState, with_word}
use Rattle.trace_coverage.proofs.Lists.{next_is, next_set}
use Rattle.trace_coverage.proofs.table.execute.Goals as goal

-- one more module was looked at
pub loop-place-preserved : goal.loop-place-preserved
loop-place-preserved c =
    let xs = c.args.list.now in
    let f : CoveredState → CoveredState = with_word c.args.at in
    let i = c.loop-place.place in
    let d = c.index-list-place.result in
    ap (λ (ys : List CoveredState). set ys i c.execute.new.self) c.loop-place.invariant
    ∙ next_set f xs i c.execute.new.self d c.loop-place-test.true
    (c.execute.ensures ∙ ap f (ap (λ (ys : List CoveredState). get_or ys i d) c.loop-place.invariant ∙ next_is f xs i d))

-- all were
pub returns : goal.returns
returns c =
    let xs = c.args.list.now in
    let f : CoveredState → CoveredState = with_word c.args.at in
    let i = c.loop-place.place in
    c.loop-place.invariant
    ∙ ap₂ (λ (ys zs : List CoveredState). map f ys ++ zs) (take_all i xs c.loop-place-test.false) (drop_all i xs c.loop-place-test.false)
    ∙ append-nil (map f xs)
