-- What runs ask of the folder, one after another.
use Rattle.std.proofs.Common.{refl, ◌∙◌, arith}
use Rattle.kept_files.specs.Fetching.{Asked}
use Rattle.kept_files.specs.Kept.{Kept}
use Rattle.kept_files.proofs.Keeping.{grows_both, grows_same}
use Rattle.sweep_run.specs.Fetches.{Fetches}

pub fetches_none : (around : Asked) (kept : Kept) → Fetches around around kept kept
fetches_none around kept = record { grows = grows_same kept kept refl; truth = λ h. h; keeps = (refl, omega arith) }

pub fetches_both : (before between after : Asked) (old mid new : Kept) → Fetches before between old mid → Fetches between after mid new → Fetches before after old new
fetches_both before between after old mid new first then = record {
  grows = grows_both old mid new first.grows then.grows;
  truth = λ h. then.truth (first.truth h);
  keeps = (then.keeps.0 ∙ first.keeps.0, omega (arith, first.keeps.1, then.keeps.1));
}
