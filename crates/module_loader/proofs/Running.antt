-- Accepted loads one after the other: the invariant stays, RAM holds the images, and they are the static link.
use Rattle.std.proofs.Common.{◌≡◌, ℕ, List, [], ◌∷◌, ◌++◌, length, map, Ok, refl, ap, ◌∙◌, arith}
use Rattle.elf_read.specs.declared.module.Module.{Module}
use Rattle.elf_read.specs.Contents.{module_at}
use Rattle.elf_read.specs.Modules.{IsModule}
use Rattle.module_image.specs.declared.segments.Places.{Places}
use Rattle.module_image.specs.Needs.{needs_of}
use Rattle.module_image.specs.Exports.{exports}
use Rattle.module_image.specs.Image.{image}
use Rattle.module_image.specs.Link.{Load, link, images_of}
use Rattle.module_image.proofs.Known.{linkable}
use Rattle.module_image.proofs.Lengths.{size_law}
use Rattle.module_image.proofs.Linking.{link_law}
use Rattle.module_loader.specs.Placing.{with_text, with_data}
use Rattle.module_loader.specs.Loading.{LoaderState, side_of, in_blocks, pieces_of, verdict, loaded}
use Rattle.module_loader.specs.Live.{Job, load_of, after_job, Runs, written_by, IsLoader, LiveLaw}
use Rattle.module_loader.proofs.Files.{is_file}
use Rattle.module_loader.proofs.Ram.{Stand, Accepted, Loads, size_all, held_at_the_end}
use Rattle.module_loader.proofs.Taking.{seg_kept}
use Rattle.module_loader.proofs.Standing.{total_small}
use Rattle.module_loader.proofs.Applying.{is_accepted, pairs, all_stand, fill_blocks, clear_all, held_all, keeps_all, end_all}

-- what the law sees of the state
abbrev pub stand_of : LoaderState → Stand
stand_of s = record { blocks = pairs s.part.blocks; ram = s.ram }

pub accepted : (s : LoaderState) (name : List ℕ) (m : Module) (mode : ℕ) (at : Places) → IsLoader s → IsModule m → verdict s m mode ≡ Ok at
    → Accepted (stand_of s) (pieces_of at (image m s.symbols at)) (stand_of (loaded s name m mode at))
unfolding loaded
accepted s name m mode at k km h =
    let a = is_accepted s m mode at h in
    let st = all_stand (side_of s) s.part (needs_of m) at k.part a.places in
    let b = fill_blocks (image m s.symbols at) (needs_of m) (size_law m s.symbols at (linkable m km) (total_small (side_of s) s.part (needs_of m) at k.part a.places)) in
    record {
      clear = clear_all (side_of s) s.part (needs_of m) at (in_blocks (image m s.symbols at)) (length s.ram) st b k.pool;
      older_blocks = λ x among. keeps_all (side_of s) s.part (needs_of m) at x st among;
      blocks = held_all (side_of s) s.part (needs_of m) at (in_blocks (image m s.symbols at)) st b;
      ram = refl;
    }

pub kept : (s : LoaderState) (name : List ℕ) (m : Module) (mode : ℕ) (at : Places) → IsLoader s → IsModule m → verdict s m mode ≡ Ok at → IsLoader (loaded s name m mode at)
unfolding loaded
kept s name m mode at k km h =
    let a = is_accepted s m mode at h in
    let st = all_stand (side_of s) s.part (needs_of m) at k.part a.places in
    let b = fill_blocks (image m s.symbols at) (needs_of m) (size_law m s.symbols at (linkable m km) (total_small (side_of s) s.part (needs_of m) at k.part a.places)) in
    let size = size_all (length s.ram) (pairs s.part.blocks) (pieces_of at (image m s.symbols at)) s.ram refl (clear_all (side_of s) s.part (needs_of m) at (in_blocks (image m s.symbols at)) (length s.ram) st b k.pool) in
    let end = end_all (side_of s) s.part (needs_of m) at st in
    let pool = k.pool in
    record {
      part = seg_kept (side_of s) (with_data (side_of s) s.part (needs_of m)) (needs_of m).bss (seg_kept (side_of s) (with_text (side_of s) s.part (needs_of m)) (needs_of m).«data» (seg_kept (side_of s) s.part (needs_of m).text k.part));
      pool = omega arith;
    }

loads_from : (s t : LoaderState) (js : List Job) → IsLoader s → Runs s js t → Loads (stand_of s) (map load_of js) (written_by s js) (stand_of t)
loads_from s t [] k e = ap stand_of e
loads_from s t (j ∷ js) k (v, rest) =
    let f = is_file s j.file j.mode j.at v in (
      stand_of (after_job s j),
      accepted s j.name (module_at j.file) j.mode j.at k f.known f.verdict,
      loads_from (after_job s j) t js (kept s j.name (module_at j.file) j.mode j.at k f.known f.verdict) rest,
    )

-- the loads with their ids
ids_of : LoaderState → List Job → List (ℕ × Load)
ids_of s [] = []
ids_of s (j ∷ js) = (s.kern.next_id, load_of j) ∷ ids_of (after_job s j) js

symbols_after : (s : LoaderState) (j : Job) → (after_job s j).symbols ≡ s.symbols ++ exports (module_at j.file) j.mode j.at s.kern.next_id
unfolding loaded
symbols_after s j = refl

written_is : (s : LoaderState) (js : List Job) → written_by s js ≡ images_of s.symbols (ids_of s js)
unfolding ids_of
written_is s [] = refl
written_is s (j ∷ js) =
    ap (λ is. image (module_at j.file) s.symbols j.at ∷ is)
    (written_is (after_job s j) js ∙ ap (λ tab. images_of tab (ids_of (after_job s j) js)) (symbols_after s j))

loads_are : (s : LoaderState) (js : List Job) → map (λ (l : ℕ × Load). l.1) (ids_of s js) ≡ map load_of js
unfolding ids_of
loads_are s [] = refl
loads_are s (j ∷ js) = ap (λ ls. load_of j ∷ ls) (loads_are (after_job s j) js)

pub live_law : LiveLaw
live_law s t js k runs = (
  written_is s js ∙ link_law s.symbols (ids_of s js) ∙ ap (link s.symbols) (loads_are s js),
  held_at_the_end (stand_of s) (stand_of t) (map load_of js) (written_by s js) (loads_from s t js k runs),
)
