use Rattle.std.proofs.Common.{◌≡◌, ℕ, List, Some, rules, subst}
use Rattle.wind_outside.specs.Files.{Files, with_file}
use Rattle.live_session.specs.Folder.{aside_path}
use Rattle.live_session.specs.MemFolder.{files_of}
use Rattle.live_session.proofs.Moved.{moved, not_moved}
use Rattle.live_session.proofs.memory.MemRecordFolder.move_file.Goals as goal

-- there is no such file
pub returns-in_default-clause-ok : goal.returns-in_default-clause-ok
returns-in_default-clause-ok c = not_moved _ _ (search rules)

-- it was copied and taken away
pub returns-clause-ok : goal.returns-clause-ok
returns-clause-ok c =
    let name = c.args.name.now in
    let bytes = c.deref-3.result.now in
    let old : Files = λ other. files_of c.args.self.now other in
    let mid : Files = λ other. files_of c.put_file.new.self other in
    let path : c.deref-2.result.now ≡ aside_path name = search rules in
    let has : files_of c.args.self.now name ≡ Some bytes = search rules in
    let put : (other : List ℕ) → mid other ≡ with_file old (aside_path name) bytes other =
    λ other. subst (λ (p : List ℕ). mid other ≡ with_file old p bytes other) path (c.in_ok-put_file.ensures.ok other) in
    moved old mid _ name bytes has put c.take_file.ensures.gone c.take_file.ensures.others
