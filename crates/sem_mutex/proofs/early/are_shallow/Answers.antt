use Rattle.std.proofs.Common.{◌≡◌, ℕ, ◌<◌, ◌^◌, length, get_or, ap, sym, ◌∙◌, subst, arith, ⊎_elim}
use Rattle.std.proofs.lemmas.Bool.{cases_eq}
use Rattle.std.proofs.lemmas.List.{get_or-map}
use Rattle.inheritance.specs.declared.mutex.Mutex.{Mutex}
use Rattle.sem_mutex.proofs.early.are_shallow.Goals as goal

pub returns-then-mutex-ge-EARLY-clause-no : goal.returns-then-mutex-ge-EARLY-clause-no
returns-then-mutex-ge-EARLY-clause-no c = λ no all.
    let rs = c.args.table.now.rows in
    let at = c.loop-at.at in
    let m = c.value_at-mutex.result.now in
    let within : at < length rs = omega (arith, c.len-at-end.ensures, c.loop-at-test.true) in
    let here : (get_or rs at (0, m)).1 ≡ m = sym (get_or-map (λ (r : ℕ × Mutex). r.1) rs at (0, m) m within) ∙ sym c.value_at-mutex.ensures in
    let low = all at (0, m) within in
    omega (arith, low, ap (λ (u : Mutex). u.depth) here, c.if-mutex-ge-EARLY.true)

pub loop-at-preserved : goal.loop-at-preserved
loop-at-preserved c = λ i d hi.
    let rs = c.args.table.now.rows in
    let at = c.loop-at.at in
    let m = c.value_at-mutex.result.now in
    let within : at < length rs = omega (arith, c.len-at-end.ensures, c.loop-at-test.true) in
    ⊎_elim
    (λ (same : i ≡ at).
    let here : (get_or rs i d).1 ≡ m =
    ap (λ j. (get_or rs j d).1) same ∙ sym (get_or-map (λ (r : ℕ × Mutex). r.1) rs at d m within) ∙ sym c.value_at-mutex.ensures in
    subst (λ (u : Mutex). u.depth < 2 ^ 61) (sym here) c.if-mutex-ge-EARLY.false)
    (λ (other : i ≡ at → ⊥). c.loop-at.invariant i d (omega arith))
    (cases_eq i at)
