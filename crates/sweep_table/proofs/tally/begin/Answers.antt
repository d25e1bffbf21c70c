use Rattle.std.proofs.Common.{◌≡◌, ◌+◌, ◌≤◌, ◌∷◌, [], ◌++◌, ℕ, false, cond, List, length, Result, Ok, Err, subst, sym, ap, ◌∙◌, arith}
use Rattle.std.specs.Result.{is_err, is_ok, OnOk}
use Rattle.sweep_table.specs.Runs.{most_outcomes, IsSweep, Grows, outcomes_in}
use Rattle.sweep_table.proofs.TallyLemmas.{over, begun, begun_outcomes}
use Rattle.sweep_table.proofs.tally.begin.Goals as goal

pub returns-then-place-ge-OUTCOMES-clause-too_many : goal.returns-then-place-ge-OUTCOMES-clause-too_many
returns-then-place-ge-OUTCOMES-clause-too_many c = λ _.
    let tally = c.args.tally.now in
    let full : most_outcomes ≤ length tally.known.items = omega arith in
    over tally.known.items c.args.outcome.now tally.runs.items tally.members c.requires.sound c.requires.other full

at_ok : {T E : Type 0} (r : Result T E) (P : Type 0) → is_err r ≡ false → OnOk r P → P
at_ok (Ok x) P e h = h
at_ok (Err x) P e h = absurd (cc)

pushed_ok : {T E : Type 0} (r : Result T E) (now more same : List (List ℕ)) → is_err r ≡ false → now ≡ cond (is_ok r) more same → now ≡ more
pushed_ok (Ok x) now more same e h = h
pushed_ok (Err x) now more same e h = absurd (cc)

pub returns-clause-ok : goal.returns-clause-ok
returns-clause-ok c =
    let tally = c.args.tally.now in
    let o = c.args.outcome.now in
    let known = c.push.new.self.items in
    let runs = c.add_members.new.runs.items in
    let pushed = pushed_ok c.push.result known _ _ (sym c.if-is_err.ensures.value) c.push.ensures.items in
    let same : known ≡ tally.known.items ++ o ∷ [] = pushed ∙ ap (λ x. tally.known.items ++ x ∷ []) c.in_ok-owned.ensures in
    let at : c.len-place.result ≡ length tally.known.items = omega arith in
    let grown = at_ok c.add_members.result _ (sym c.if-is_err-2.ensures.value) c.add_members.ensures.ok in
    let G : ℕ → Type 0 = λ n. Grows tally.runs.items runs n c.args.members in
    let g : Grows tally.runs.items runs (length tally.known.items) c.args.members = subst G at grown in
    let S : List (List ℕ) → Type 0 = λ v. IsSweep v runs (tally.members + c.args.members) in
    record {
      sound = subst S (sym same) (begun tally.known.items o tally.runs.items runs tally.members c.args.members c.requires.sound g c.requires.other (omega arith) c.requires.some c.requires.fits);
      outcomes = ap (λ v. outcomes_in v runs) same ∙ begun_outcomes tally.known.items o tally.runs.items runs c.args.members c.requires.sound.places g;
    }
