use Rattle.std.proofs.Common.{◌≡◌, ◌∙◌, rules, ap, sym, subst, ◌+◌, ◌≤◌, ◌∷◌, [], List, ℕ, length, arith}
use Rattle.std.specs.Prelude.{Ok}
use Rattle.std.proofs.lemmas.List.{append-nil, nil_from_length}
use Rattle.std.proofs.lemmas.Result.{err_from_is_err_and}
use Rattle.source_text.specs.Lines.{after_line}
use Rattle.tick_file.specs.Lines.{first_line, tick_lines}
use Rattle.tick_family.specs.Reading.{read_from, start, family_of, Tells}
use Rattle.tick_family.specs.Inside.{before_all}
use Rattle.tick_family.specs.declared.entry.Entry.{Entry}
use Rattle.tick_family.specs.declared.extent.Extent.{Extent}
use Rattle.tick_family.proofs.ReadingLemmas.{Read, read_step, read_done, tells_before, is_family}
use Rattle.tick_family.proofs.reading.read_family.Goals as goal

pub loop-rest-preserved : goal.loop-rest-preserved
loop-rest-preserved c =
    let n = c.loop-rest.line + 1 in
    let xs = c.loop-rest.kept.entries.items in
    let extent = c.loop-rest.kept.extent in
    record {
      entries =
          c.in_ok-keep.ensures.good (tick_lines c.after_line-rest.result.now)
          ∙ ap (λ (l : List ℕ). before_all xs (read_from n extent (l ∷ tick_lines c.after_line-rest.result.now))) c.first_line.ensures
          ∙ ap (λ (a : List ℕ). before_all xs (read_from n extent (first_line c.loop-rest.rest.now ∷ tick_lines a))) c.after_line-rest.ensures.value
          ∙ ap (before_all xs) (sym (read_step n extent c.loop-rest.rest.now))
          ∙ c.loop-rest.invariant.entries;
      within = c.in_ok-keep.ensures.within;
      members = c.in_ok-keep.ensures.members;
      lines = omega arith;
    }

pub returns-in_err-keep-clause-bad : goal.returns-in_err-keep-clause-bad
unfolding family_of
returns-in_err-keep-clause-bad c =
    let n = c.loop-rest.line + 1 in
    let xs = c.loop-rest.kept.entries.items in
    let extent = c.loop-rest.kept.extent in
    let rest = c.loop-rest.rest.now in
    let p = err_from_is_err_and c.from_residual.result c.from_residual.ensures.1 in
    rw (p.1, p.2) (
    tells_before xs (read_from n extent (tick_lines rest)) (read_from 1 start (tick_lines c.args.text.now)) c.in_err-keep.field-0.0 c.loop-rest.invariant.entries
    (subst (λ r. Tells r c.in_err-keep.field-0.0)
    (ap (λ (l : List ℕ). read_from n extent (l ∷ tick_lines (after_line rest))) c.first_line.ensures ∙ sym (read_step n extent rest))
    (c.in_err-keep.ensures.bad (tick_lines (after_line rest)))))

-- no line is left
all_read : (xs : List Entry) (n : ℕ) (extent : Extent) (rest : List ℕ) (whole : Read) → length rest ≤ 0 → before_all xs (read_from n extent (tick_lines rest)) ≡ whole → whole ≡ Ok xs
all_read xs n extent rest whole none e =
    let nil : rest ≡ [] = nil_from_length rest (omega (arith, none)) in
    sym e ∙ ap (λ r. before_all xs (read_from n extent (tick_lines r))) nil ∙ ap (before_all xs) (read_done n extent) ∙ ap Ok (append-nil xs)

pub new-requires-2 : goal.new-requires-2
unfolding family_of
new-requires-2 c =
    is_family c.args.text.now c.loop-rest.kept.entries.items c.loop-rest.kept.extent.members
    (all_read c.loop-rest.kept.entries.items (c.loop-rest.line + 1) c.loop-rest.kept.extent c.loop-rest.rest.now (family_of c.args.text.now) (search rules) c.loop-rest.invariant.entries)
    c.loop-rest.invariant.members

pub returns-clause-value : goal.returns-clause-value
unfolding family_of
returns-clause-value c =
    rw c.new-2.ensures
    (all_read c.loop-rest.kept.entries.items (c.loop-rest.line + 1) c.loop-rest.kept.extent c.loop-rest.rest.now (family_of c.args.text.now) (search rules) c.loop-rest.invariant.entries)
