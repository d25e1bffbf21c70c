use Rattle.std.proofs.Common.{◌≡◌, ℕ, List, Option, Result, Ok, Err, refl, sym, subst}
use Rattle.live_loading.specs.declared.answer.FileAnswer.{FileAnswer}
use Rattle.kept_files.specs.declared.kept.Unkept.{Unkept}
use Rattle.kept_files.specs.declared.kept.Unkept.TheVariants as unkept
use Rattle.wind_outside.specs.Files.{Files}
use Rattle.kept_files.specs.Kept.{IsTrue, kept_of}
use Rattle.kept_files.proofs.Keeping.{grows_same, true_same}
use Rattle.kept_files.proofs.kept.KeptFiles.keep.Goals as goal

-- running out of memory is no failed read, and a file that was found is none
memory_apart : (r : Result (Unit {0}) Unkept) → r ≡ Err unkept.NoMemory → r ≡ Err unkept.Failed → ⊥
memory_apart r memory failed = cc

found_apart : (r : Result FileAnswer Unkept) (file : FileAnswer) → r ≡ Ok file → r ≡ Err unkept.Failed → ⊥
found_apart r file found failed = cc

-- the answer came, and there is no memory to keep it
pub returns-in-Err-clause-first : goal.returns-in-Err-clause-first
returns-in-Err-clause-first g c = λ none. record {
  answer = c.fetch.result;
  files = c.fetch.ensures.kept;
  true = c.fetch.ensures.answers;
  within = c.fetch.ensures.within;
  requested = c.fetch.ensures.requested;
  faults = c.fetch.ensures.never_falls;
  rose = c.fetch.ensures.failed;
  failed = (λ e. absurd (memory_apart _ refl e), λ e. absurd (found_apart c.answer_of.result c.in_ok-file.file c.in_ok-file.was (c.answer_of.ensures.failed.1 e)));
  kept = tt;
  unkept = c.in-Err.ensures.err;
}

pub returns-in-Err-clause-grows : goal.returns-in-Err-clause-grows
returns-in-Err-clause-grows g c = grows_same _ _ c.in-Err.ensures.err

pub returns-in-Err-clause-truth : goal.returns-in-Err-clause-truth
returns-in-Err-clause-truth g c = λ h. subst (λ (files : Option Files). IsTrue files (kept_of c.add.new.self)) (sym c.fetch.ensures.kept) (true_same (g.F.Folder.files c.args.folder.now) _ _ c.in-Err.ensures.err h)
