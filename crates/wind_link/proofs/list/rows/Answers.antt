use Rattle.std.proofs.Common.{◌≡◌, ℕ, ◌+◌, ◌<◌, ◌≤◌, List, [], ◌∷◌, ◌++◌, Err, length, map, rules, sym, ap, ◌∙◌, arith}
use Rattle.std.proofs.lemmas.List.{length-append, length-map, map-append, nil_from_length}
use Rattle.wind_link.specs.Lists.{row_of, rows_of, lines_of, most_lines, rows_after}
use Rattle.wind_link.specs.Rows.{row}
use Rattle.wind_link.proofs.Lining.{too_many, bad_row, good_row}
use Rattle.wind_link.proofs.list.rows.Goals as goal

pub returns-then-len-ge-LINES-clause-bad : goal.returns-then-len-ge-LINES-clause-bad
unfolding rows_of
returns-then-len-ge-LINES-clause-bad c =
    let rows = map row c.loop-rest.rows.items in
    let some : 0 < length c.loop-rest.rest.now = search rules in
    let count : length rows ≡ c.len.result = omega (arith, length-map c.loop-rest.rows.items row, c.len.ensures, c.loop-rest.rows.ok.0) in
    let most : most_lines ≤ length rows = omega (arith, count, c.len.ensures, c.len-in-loop-rest.ensures, c.if-len-ge-LINES.true) in
    sym c.loop-rest.invariant.rows
    ∙ too_many rows c.loop-rest.rest.now some most
    ∙ ap (λ n. Err (n + 1)) count

pub returns-in_default-clause-bad : goal.returns-in_default-clause-bad
unfolding rows_of
returns-in_default-clause-bad c =
    let rows = map row c.loop-rest.rows.items in
    let some : 0 < length c.loop-rest.rest.now = search rules in
    let count : length rows ≡ c.len.result = omega (arith, length-map c.loop-rest.rows.items row, c.len.ensures, c.loop-rest.rows.ok.0) in
    let few : length rows < most_lines = omega (arith, count, c.len.ensures, c.len-in-loop-rest.ensures, c.if-len-ge-LINES.false) in
    sym c.loop-rest.invariant.rows
    ∙ bad_row rows c.loop-rest.rest.now some few (sym (c.in_default.ensures ∙ ap row_of c.first_line.ensures))
    ∙ ap (λ n. Err (n + 1)) count

pub loop-rest-preserved : goal.loop-rest-preserved
loop-rest-preserved c =
    let rows = map row c.loop-rest.rows.items in
    let r = c.in-Some.row in
    let some : 0 < length c.loop-rest.rest.now = search rules in
    let count : length rows ≡ c.len.result = omega (arith, length-map c.loop-rest.rows.items row, c.len.ensures, c.loop-rest.rows.ok.0) in
    let few : length rows < most_lines = omega (arith, count, c.len.ensures, c.len-in-loop-rest.ensures, c.if-len-ge-LINES.false) in
    let grown : map row c.push.new.self.items ≡ rows ++ row r ∷ [] = ap (map row) c.in-Ok.ensures.items ∙ map-append row c.loop-rest.rows.items (r ∷ []) in
    let size : length c.push.new.self.items ≡ length rows + 1 = omega (arith, length-map c.push.new.self.items row, ap length grown, length-append rows (row r ∷ [])) in
    let same : length rows ≡ length c.loop-rest.rows.items = length-map c.loop-rest.rows.items row in
    record {
      rows = ap (λ x. rows_after x (lines_of c.after_line-rest.result.now)) grown
          ∙ ap (λ (x : List ℕ). rows_after (rows ++ row r ∷ []) (lines_of x)) c.after_line-rest.ensures.value
          ∙ sym (good_row rows c.loop-rest.rest.now (row r) some few (sym (c.in-Some.ensures ∙ ap row_of c.first_line.ensures)))
          ∙ c.loop-rest.invariant.rows;
      most = omega (arith, size, few);
      few = omega (arith, size, same, c.after_line-rest.ensures.shorter, c.loop-rest.invariant.few);
    }

pub returns-clause-rows : goal.returns-clause-rows
unfolding rows_of
returns-clause-rows c =
    let none : c.loop-rest.rest.now ≡ [] = nil_from_length c.loop-rest.rest.now (search rules) in
    sym c.loop-rest.invariant.rows ∙ ap (λ (bs : List ℕ). rows_after (map row c.loop-rest.rows.items) (lines_of bs)) none
