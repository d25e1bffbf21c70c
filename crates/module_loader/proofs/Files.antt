-- A load of a file is the load of its module.
use Rattle.std.proofs.Common.{◌≡◌, ℕ, ◌+◌, List, length, Option, None, Some, Result, Ok, Err, IsOk, refl, sym, ap, ◌∙◌, subst}
use Rattle.reloc_link.specs.declared.patching.RelocErr.{RelocErr}
use Rattle.symbol_table.specs.declared.symbol.Symbol.{Symbol}
use Rattle.mem_partition.specs.declared.block.PartErr.{PartErr}
use Rattle.elf_read.specs.declared.module.Module.{Module}
use Rattle.elf_read.specs.declared.error.ElfErr.{ElfErr}
use Rattle.elf_read.specs.Rules.{checked}
use Rattle.elf_read.specs.Contents.{module_at, ModuleOf}
use Rattle.elf_read.specs.Modules.{IsModule}
use Rattle.elf_read.proofs.Holding.{module_is}
use Rattle.module_image.specs.declared.segments.Needs.{Needs}
use Rattle.module_image.specs.declared.segments.Places.{Places}
use Rattle.module_loader.specs.declared.module.LoadErr.{LoadErr}
use Rattle.module_loader.specs.declared.module.LoadErr.TheVariants as refusal
use Rattle.module_image.specs.Exports.{export_count}
use Rattle.module_image.specs.Needs.{needs_of}
use Rattle.module_image.specs.Image.{image}
use Rattle.module_loader.specs.Placing.{places_of}
use Rattle.module_loader.specs.Loading.{LoaderState, side_of, count_by, reloc_verdict, place_verdict, verdict, file_by, file_verdict, ReachesRelocations, IsVerdict}
use Rattle.module_loader.specs.Steps.{IsFileRefusal, IsRefusedBy}
use Rattle.module_loader.proofs.Loads.{by_counts, counted, placed}

-- of a file that no rule refuses
pub read_verdict : (s : LoaderState) (file : List ℕ) (m : Module) (mode : ℕ) → ModuleOf file m → file_verdict s file mode ≡ verdict s m mode
unfolding file_verdict
read_verdict s file m mode h =
    ap (λ r. file_by r (verdict s (module_at file) mode)) h.passes ∙ ap (λ (x : Module). verdict s x mode) (sym h.holds)

-- of one that is refused
pub file_refused : (s : LoaderState) (file : List ℕ) (mode : ℕ) (e : LoadErr) → IsFileRefusal (checked file) e → IsVerdict (file_verdict s file mode) e
unfolding file_verdict
file_refused s file mode refusal.NoMemory h = tt
file_refused s file mode (refusal.Elf e) h = ap (λ r. file_by r (verdict s (module_at file) mode)) h
file_refused s file mode refusal.ModulesFull h = absurd h
file_refused s file mode refusal.IdsSpent h = absurd h
file_refused s file mode refusal.TableFull h = absurd h
file_refused s file mode (refusal.Part e) h = absurd h
file_refused s file mode (refusal.Reloc e) h = absurd h

-- the refusals of a file that no rule refuses: by counts, and by the first segment that has no place; n symbols are
-- added, and the segments need z
pub counts_refused : (s : LoaderState) (file : List ℕ) (mode n : ℕ) (e : LoadErr) → ModuleOf file (module_at file) → n ≡ export_count mode (module_at file).symbols
    → IsRefusedBy (length s.modules.rows) s.kern.next_id (length s.symbols + n) e → IsVerdict (file_verdict s file mode) e
counts_refused s file mode n e h added r =
    subst (λ v. IsVerdict v e) (sym (read_verdict s file (module_at file) mode h))
    (counted s (module_at file) mode e (subst (λ m. IsRefusedBy (length s.modules.rows) s.kern.next_id (length s.symbols + m) e) added r))

-- no count refuses it
uncounted : (s : LoaderState) (n m : ℕ) → n ≡ m → count_by (length s.modules.rows) s.kern.next_id (length s.symbols + n) ≡ None → count_by (length s.modules.rows) s.kern.next_id (length s.symbols + m) ≡ None
uncounted s n m same = subst (λ k. count_by (length s.modules.rows) s.kern.next_id (length s.symbols + k) ≡ None) same

pub blocks_refused : (s : LoaderState) (file : List ℕ) (mode n : ℕ) (z : Needs) (e : PartErr) → ModuleOf file (module_at file) → n ≡ export_count mode (module_at file).symbols → z ≡ needs_of (module_at file)
    → count_by (length s.modules.rows) s.kern.next_id (length s.symbols + n) ≡ None
    → places_of (side_of s) s.part z ≡ Err e → IsVerdict (file_verdict s file mode) (refusal.Part e)
blocks_refused s file mode n z e h added needs none p =
    let q : places_of (side_of s) s.part (needs_of (module_at file)) ≡ Err e = subst (λ x. places_of (side_of s) s.part x ≡ Err e) needs p in
    subst (λ v. IsVerdict v (refusal.Part e)) (sym (read_verdict s file (module_at file) mode h))
    (placed s (module_at file) mode (refusal.Part e) (uncounted s n (export_count mode (module_at file).symbols) added none) (ap (place_verdict (module_at file) s.symbols) q))

-- a file that no rule and no count refuses and whose segments have places is refused by a relocation at most
reaches : (at : Places) (o : Option RelocErr) → ReachesRelocations (reloc_verdict at o)
reaches at None = tt
reaches at (Some e) = tt

places_reach : (m : Module) (tab : List Symbol) (r : Result Places PartErr) → IsOk r → ReachesRelocations (place_verdict m tab r)
places_reach m tab (Err e) h = absurd (cc)
places_reach m tab (Ok at) h = reaches at (image m tab at).fault

pub file_reaches : (s : LoaderState) (file : List ℕ) (mode n : ℕ) (z : Needs) → ModuleOf file (module_at file) → n ≡ export_count mode (module_at file).symbols → z ≡ needs_of (module_at file)
    → count_by (length s.modules.rows) s.kern.next_id (length s.symbols + n) ≡ None
    → IsOk (places_of (side_of s) s.part z) → ReachesRelocations (file_verdict s file mode)
file_reaches s file mode n z h added needs none p =
    let m = module_at file in
    subst ReachesRelocations (sym (read_verdict s file m mode h ∙ by_counts s m mode None (uncounted s n (export_count mode m.symbols) added none)))
    (places_reach m s.symbols (places_of (side_of s) s.part (needs_of m)) (subst (λ x. IsOk (places_of (side_of s) s.part x)) needs p))

-- what an accepted file says
pub record IsFile (s : LoaderState) (file : List ℕ) (mode : ℕ) (at : Places) : Type 0 where
  pub known : IsModule (module_at file)
  pub verdict : verdict s (module_at file) mode ≡ Ok at

file_parts : (s : LoaderState) (file : List ℕ) (mode : ℕ) (at : Places) (r : Result Unit ElfErr) → checked file ≡ r → file_by r (verdict s (module_at file) mode) ≡ Ok at → IsFile s file mode at
file_parts s file mode at (Err e) c h = absurd (cc)
file_parts s file mode at (Ok tt) c h = record { known = module_is file (module_at file) c refl; verdict = h }

pub is_file : (s : LoaderState) (file : List ℕ) (mode : ℕ) (at : Places) → file_verdict s file mode ≡ Ok at → IsFile s file mode at
unfolding file_verdict
is_file s file mode at h = file_parts s file mode at (checked file) refl h
