-- The parts of a file together, and what the code requires of a module.
use Rattle.std.proofs.Common.{◌≡◌, ℕ, ◌+◌, ◌*◌, ◌<◌, ◌≤◌, List, ◌++◌, length, get_or, refl, arith, append_assoc, length-append}
use Rattle.elf_read.specs.declared.module.Sect.{Sect}
use Rattle.elf_read.specs.declared.module.SymPlace.{SymPlace}
use Rattle.elf_read.specs.declared.module.SymPlace.TheVariants.{Undefined, Absolute, Common, Section, Elsewhere}
use Rattle.elf_read.specs.declared.module.Rel.{Rel}
use Rattle.elf_read.specs.declared.module.Module.{Module}
use Rattle.elf_build.specs.Entries.{relocation_bytes}
use Rattle.elf_build.specs.File.{header_total, contents_of, relocs_of, symbols_at, relocs_at, strings_at, names_at, headers_at, headers_of, elf_header, file_of, rel_bytes, count_of}
use Rattle.elf_build.specs.Buildable.{Buildable}
use Rattle.elf_read.specs.Modules.{IsPlaced}
use Rattle.elf_build.specs.Writable.{Writable, parts_of, HasNumber}
use Rattle.elf_build.proofs.Sizes.{length_flat}

pub length_elf_header : (headers count names : ℕ) → length (elf_header headers count names) ≡ 52
unfolding elf_header
length_elf_header headers count names = refl

length_relocation : (r : Rel) → length (rel_bytes r) ≡ 12
unfolding relocation_bytes
length_relocation r = refl

pub length_relocs : (rs : List Rel) → length (relocs_of rs) ≡ 12 * length rs
unfolding relocs_of
length_relocs rs = length_flat rel_bytes 12 length_relocation rs

-- the file, with its parts in the order in which they are written
pub joined : (m : Module) → (elf_header (headers_at m) (header_total m) (count_of m + 3) ++ parts_of m) ++ headers_of m ≡ file_of m
unfolding parts_of file_of
joined m = simp append_assoc

pub length_file : (m : Module) → length (file_of m) ≡ headers_at m + length (headers_of m)
unfolding file_of headers_at names_at strings_at relocs_at symbols_at
length_file m =
    let f = length_elf_header (headers_at m) (header_total m) (count_of m + 3) in
    simp length-append (omega arith)

numbered : (ss : List Sect) (p : SymPlace) (value size : ℕ) → IsPlaced ss p value size → length ss < 4096 → HasNumber p
numbered ss Undefined value size h l = tt
numbered ss Absolute value size h l = tt
numbered ss Common value size h l = tt
numbered ss (Section k) value size h l = let a = h.0 in omega arith
numbered ss Elsewhere value size h l = tt

tables : (m : Module) → relocs_at m + 12 * length m.relocs ≤ headers_at m
unfolding headers_at names_at strings_at
tables m = let f = length_relocs m.relocs in omega arith

contents_before : (m : Module) → 52 + length (contents_of m.sections) ≤ headers_at m
unfolding headers_at names_at strings_at relocs_at symbols_at
contents_before m = omega arith

pub writable : (m : Module) → Buildable m → Writable m
writable m b =
    let few = b.few_headers in
    let symbols = b.sound.few_symbols in
    record {
      few_headers = few;
      few_symbols = symbols;
      few_relocs = b.sound.few_relocs;
      sections = λ k d l. let h = (b.sound.sections k d l).size in omega arith;
      symbols = λ k d l. let h = b.sound.symbols k d l in let y = get_or m.symbols k d in record { place = numbered m.sections y.place y.value y.size h.place (omega arith); binding = h.binding; kind = h.kind };
      relocs = λ k d l. let s = (b.sound.relocs k d l).symbol in record { symbol = omega arith };
      targets = λ k d l. record { section = (b.sound.relocs k d l).section };
      ends = let f = length_file m in let g = b.short in omega arith;
      tables = tables m;
      header_fits = let f = length_file m in let g = b.short in let h = contents_before m in omega arith;
    }
