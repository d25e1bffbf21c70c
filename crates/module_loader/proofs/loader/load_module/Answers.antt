use Rattle.std.proofs.Common.{◌≡◌, ◌+◌, List, [], ◌∷◌, ◌++◌, length, take, drop, replicate, None, Ok, sym, ap, ◌∙◌, subst, arith}
use Rattle.wind_core.specs.State.{KernState}
use Rattle.std.specs.List.{All}
use Rattle.wind_base.specs.Boards.{board_rules}
use Rattle.symbol_table.specs.declared.symbol.Symbol.{Symbol}
use Rattle.symbol_table.specs.State.{HasName}
use Rattle.id_table.specs.Rows.{Rows}
use Rattle.module_image.specs.declared.segments.Needs.{Needs}
use Rattle.module_image.specs.Needs.{needs_of}
use Rattle.module_image.specs.Exports.{export_count, exports}
use Rattle.module_image.specs.Image.{image}
use Rattle.module_image.specs.Making.{IsMade}
use Rattle.module_image.proofs.Counts.{count_law}
use Rattle.module_image.proofs.Known.{linkable}
use Rattle.module_image.proofs.Names.{exports_named}
use Rattle.module_loader.specs.declared.module.LoadedModule.{LoadedModule}
use Rattle.module_loader.specs.Modules.{modules_on}
use Rattle.module_loader.specs.Placing.{places_of, with_needs}
use Rattle.module_loader.specs.Loading.{LoaderState, count_by, place_verdict, in_block, stored_all, record_of, IsVerdict}
use Rattle.module_loader.specs.Steps.{IsRefusedBy, state_of, three_pieces}
use Rattle.module_loader.proofs.Loads.{counted, placed, is_loaded, Fitting, fitting}
use Rattle.module_loader.proofs.loader.load_module.Goals as goal
use Rattle.module_loader.proofs.loader.load_module.Goals.{After-check_counts, In-Ok-place}

abbrev start : (c : After-check_counts) → LoaderState
start c = state_of c.args.kern.now c.args.syms.now.list (modules_on c.args.board c.args.table.now.rows) c.args.part.now c.args.ram.now.bytes

pub measure_module-requires : goal.measure_module-requires
measure_module-requires c = linkable c.args.m.now c.requires.module

pub returns-in-Err-clause-refused : goal.returns-in-Err-clause-refused
returns-in-Err-clause-refused c =
    let k = (goal.at.returns-in-Err-clause-refused c).After-check_counts in
    counted (start k) c.args.m.now c.args.mode c.in-Err.e
    (subst (λ n. IsRefusedBy (length c.args.table.now.rows) c.args.kern.now.next_id (length c.args.syms.now.list + n) c.in-Err.e)
    (k.count_added-added.ensures ∙ ap (export_count c.args.mode) k.as_slice.ensures) c.in-Err.ensures.refused)

pub returns-in-Err-place-clause-refused : goal.returns-in-Err-place-clause-refused
returns-in-Err-place-clause-refused c =
    let k = (goal.at.returns-in-Err-place-clause-refused c).After-check_counts in
    placed (start k) c.args.m.now c.args.mode c.in-Err-place.e
    (subst (λ n. count_by (length c.args.table.now.rows) c.args.kern.now.next_id (length c.args.syms.now.list + n) ≡ None) (k.count_added-added.ensures ∙ ap (export_count c.args.mode) k.as_slice.ensures) c.in-Ok-check_counts.ensures.none)
    (subst (λ (xs : List Symbol). IsVerdict (place_verdict c.args.m.now xs (places_of (board_rules c.args.board).segments c.args.part.now (needs_of c.args.m.now))) c.in-Err-place.e) c.check_counts.ensures.list
    (subst (λ (z : Needs). IsVerdict (place_verdict c.args.m.now c.check_counts.new.syms.list (places_of (board_rules c.args.board).segments c.args.part.now z)) c.in-Err-place.e) c.in-Ok.ensures c.in-Err-place.ensures.refused))

fits : (c : In-Ok-place) → Fitting c.in-Ok.needs c.in-Ok-place.r.0 (length c.args.ram.now.bytes) (length c.in-Ok-place.r.1.bytes.items)
fits c =
    fitting (board_rules c.args.board).segments c.args.part.now c.in-Ok.needs c.in-Ok-place.r.0 (length c.args.ram.now.bytes) (length c.in-Ok-place.r.1.bytes.items)
    c.place.ensures.sound c.requires.pool c.in-Ok-place.ensures.made.size c.in-Ok-place.ensures.placed

pub make_record-row-requires-clause-text : goal.make_record-row-requires-clause-text
make_record-row-requires-clause-text c = (fits (goal.at.make_record-row-requires-clause-text c).In-Ok-place).text_size

pub make_record-row-requires-clause-data : goal.make_record-row-requires-clause-data
make_record-row-requires-clause-data c = (fits (goal.at.make_record-row-requires-clause-data c).In-Ok-place).data_size

pub make_record-row-requires-clause-bss : goal.make_record-row-requires-clause-bss
make_record-row-requires-clause-bss c = (fits (goal.at.make_record-row-requires-clause-bss c).In-Ok-place).bss_size

pub commit-requires-clause-symbols : goal.commit-requires-clause-symbols
commit-requires-clause-symbols c =
    let many = ap length c.in-Ok-place.ensures.exports ∙ count_law c.args.m.now c.args.mode c.get.result c.in-Ok-place.r.0 in
    let same = c.count_added-added.ensures ∙ ap (export_count c.args.mode) c.as_slice.ensures in
    let room = c.in-Ok-check_counts.ensures.room in
    omega arith

pub commit-requires-clause-named : goal.commit-requires-clause-named
commit-requires-clause-named c = subst (All HasName) (sym c.in-Ok-place.ensures.exports) (exports_named c.args.m.now c.args.mode c.in-Ok-place.r.0 c.get.result)

pub commit-requires-clause-text : goal.commit-requires-clause-text
commit-requires-clause-text c = (fits (goal.at.commit-requires-clause-text c).In-Ok-place).text

pub commit-requires-clause-data : goal.commit-requires-clause-data
commit-requires-clause-data c = (fits (goal.at.commit-requires-clause-data c).In-Ok-place).«data»

pub commit-requires-clause-bss : goal.commit-requires-clause-bss
commit-requires-clause-bss c = (fits (goal.at.commit-requires-clause-bss c).In-Ok-place).bss

pub returns-clause-accepted : goal.returns-clause-accepted
returns-clause-accepted c =
    let k = (goal.at.returns-clause-accepted c).After-check_counts in
    let at = c.in-Ok-place.r.0 in
    let bytes = c.in-Ok-place.r.1.bytes.items in
    let adds = c.in-Ok-place.r.1.exports.items in
    let same : c.check_counts.new.kern ≡ c.args.kern.now = c.check_counts.ensures.same in
    is_loaded (start k) c.args.name c.args.m.now c.args.mode at bytes adds
    c.commit.new.kern c.commit.new.syms.list c.commit.new.table.rows c.place.new.part c.commit.new.ram.bytes
    (subst (λ n. count_by (length c.args.table.now.rows) c.args.kern.now.next_id (length c.args.syms.now.list + n) ≡ None) (c.count_added-added.ensures ∙ ap (export_count c.args.mode) c.as_slice.ensures) c.in-Ok-check_counts.ensures.none)
    (subst (λ (z : Needs). places_of (board_rules c.args.board).segments c.args.part.now z ≡ Ok at) c.in-Ok.ensures c.in-Ok-place.ensures.placed)
    (subst (λ (z : Needs). IsMade (image c.args.m.now c.args.syms.now.list at) z bytes) c.in-Ok.ensures
    (subst (λ (xs : List Symbol). IsMade (image c.args.m.now xs at) c.in-Ok.needs bytes) c.check_counts.ensures.list c.in-Ok-place.ensures.made))
    (c.in-Ok-place.ensures.exports ∙ ap (exports c.args.m.now c.args.mode at) (c.get.ensures.same ∙ c.in-Ok-check_counts.ensures.id))
    (c.commit.ensures.next ∙ ap (λ (x : KernState). record x { next_id = x.next_id + 1 }) same)
    (c.commit.ensures.symbols ∙ ap (λ (xs : List Symbol). xs ++ adds) c.check_counts.ensures.list)
    (ap (λ (t : Rows LoadedModule). t.rows) c.commit.ensures.rows
    ∙ ap (λ (x : KernState). c.args.table.now.rows ++ (x.next_id, c.make_record-row.result) ∷ []) same
    ∙ ap (λ (r : LoadedModule). c.args.table.now.rows ++ (c.args.kern.now.next_id, r) ∷ []) (c.make_record-row.ensures ∙ ap (λ (z : Needs). record_of c.args.name z at) c.in-Ok.ensures))
    (c.in-Ok-place.ensures.after ∙ ap (with_needs (board_rules c.args.board).segments c.args.part.now) c.in-Ok.ensures)
    (c.commit.ensures.ram ∙ ap (λ (z : Needs). stored_all c.args.ram.now.bytes (three_pieces at (in_block (take z.text.size bytes)) (in_block (drop z.text.size bytes)) (in_block (replicate z.bss.size 0)))) c.in-Ok.ensures)
