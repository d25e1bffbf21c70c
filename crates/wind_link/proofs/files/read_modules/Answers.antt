use Rattle.std.proofs.Common.{List, ◌+◌, length, map, ◌∙◌, subst, arith}
use Rattle.std.proofs.lemmas.List.{take_all}
use Rattle.wind_outside.specs.Requests.{GrowsBy}
use Rattle.wind_link.specs.declared.list.Row.{Row as CodeRow}
use Rattle.wind_link.specs.Fetches.{found_modules}
use Rattle.wind_link.specs.Rows.{row}
use Rattle.wind_link.specs.Steps.{loads}
use Rattle.wind_link.proofs.Rowing.{refused_at, added_at, taken_at, linkable_at, count_at}
use Rattle.wind_link.proofs.Fetching.{found_more, none_found, row_ends}
use Rattle.wind_link.proofs.files.read_modules.Goals as goal

pub returns-in-Err-clause-refused : goal.returns-in-Err-clause-refused
returns-in-Err-clause-refused g c =
    let k = c.loop-row in
    refused_at (g.F.Folder.files c.args.folder.now) (g.F.Folder.files k.folder) c.args.dir.now c.args.rows.now k.row-index _ (loads k.modules.placed.items) k.modules.taken.items
    (length k.modules.placed.items) (g.F.Folder.faults c.args.folder.now) (g.F.Folder.faults k.folder) (g.F.Folder.faults c.add_module.new.folder) c.in-Err.end
    c.loop-row-test.true k.invariant.placed k.invariant.taken k.invariant.count k.invariant.faults c.in-Err.ensures.faults k.invariant.files c.in-Err.ensures.refused

pub returns-in-Err-clause-ends : goal.returns-in-Err-clause-ends
returns-in-Err-clause-ends g c =
    let k = c.loop-row in
    row_ends c.args.dir.now c.args.rows.now k.row-index _ c.loop-row-test.true (length k.modules.placed.items + 1) c.in-Err.end
    (g.F.Folder.requests c.args.folder.now) (g.F.Folder.requests k.folder) (g.F.Folder.requests c.add_module.new.folder)
    (omega (arith, k.invariant.count)) k.invariant.found c.in-Err.ensures.ends

pub returns-in_default-clause-ends : goal.returns-in_default-clause-ends
returns-in_default-clause-ends g c = none_found c.args.dir.now (map row c.args.rows.now) (g.F.Folder.requests c.args.folder.now)

pub returns-clause-found : goal.returns-clause-found
returns-clause-found g c =
    let k = c.loop-row in
    subst (λ (rs : List CodeRow). GrowsBy (g.F.Folder.requests c.args.folder.now) (g.F.Folder.requests k.folder) (found_modules c.args.dir.now (map row rs)))
    (take_all k.row-index c.args.rows.now (omega (arith, c.loop-row-test.false))) k.invariant.found

pub loop-row-preserved : goal.loop-row-preserved
loop-row-preserved g c =
    let k = c.loop-row in
    let files = g.F.Folder.files c.args.folder.now in
    let later = g.F.Folder.files k.folder in
    let a = c.in-Ok-add_module.ensures.added in
    record {
      placed = added_at files later c.args.dir.now c.args.rows.now k.row-index _ k.modules c.add_module.new.modules c.loop-row-test.true k.invariant.placed k.invariant.taken k.invariant.files a;
      taken = taken_at later c.args.dir.now _ k.modules c.add_module.new.modules k.invariant.taken a;
      linkable = linkable_at later c.args.dir.now _ k.modules c.add_module.new.modules k.invariant.linkable a;
      count = count_at later c.args.dir.now _ k.modules c.add_module.new.modules k.row-index k.invariant.count a;
      files = c.in-Ok-add_module.ensures.files ∙ k.invariant.files;
      found = found_more c.args.dir.now c.args.rows.now k.row-index _ c.loop-row-test.true (g.F.Folder.requests c.args.folder.now) (g.F.Folder.requests k.folder) (g.F.Folder.requests c.add_module.new.folder) k.invariant.found c.in-Ok-add_module.ensures.found;
      faults = omega (arith, k.invariant.faults, c.in-Ok-add_module.ensures.faults);
    }
