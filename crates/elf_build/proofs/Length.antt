-- The length of a built file.
use Rattle.std.proofs.Common.{◌≡◌, ◌+◌, ◌*◌, List, length, refl, arith, length-append}
use Rattle.std.specs.List.{flat_map}
use Rattle.elf_read.specs.declared.module.Sect.{Sect}
use Rattle.elf_read.specs.declared.module.Sym.{Sym}
use Rattle.elf_read.specs.declared.module.Module.{Module}
use Rattle.elf_build.specs.File.{tables_of, header_total, contents_of, symbols_of, relocs_of, strings_of, names_of, symbols_at, relocs_at, strings_at, names_at, headers_at, headers_of, count_of, null_header, symtab_header, strings_header, locals_end, sect_name, sym_name, sect_content, file_of}
use Rattle.elf_build.proofs.Parts.{length_file, length_relocs}
use Rattle.elf_build.proofs.Sizes.{length_names}
use Rattle.elf_build.proofs.EntryLemmas.{length_header}
use Rattle.elf_build.proofs.Spread.{length_sect_headers}
use Rattle.elf_build.proofs.Known.{length_symbols}
use Rattle.elf_build.proofs.Passes.{length_table_headers}

length_headers : (m : Module) → length (headers_of m) ≡ 40 * (header_total m)
unfolding headers_of
length_headers m =
    let n = count_of m in
    simp length-append (omega (
      arith,
      length_header null_header,
      length_sect_headers 27 52 m.sections,
      length_header (symtab_header (symbols_at m) (length (symbols_of m.symbols)) (n + 2) (locals_end m.symbols)),
      length_header (strings_header 9 (strings_at m) (length (strings_of m.symbols))),
      length_header (strings_header 17 (names_at m) (length (names_of m.sections))),
      length_table_headers m.sections (n + 1) (relocs_at m) (tables_of m.relocs),
    ))

length_strings : (ss : List Sym) → length (strings_of ss) ≡ 1 + length (flat_map sym_name ss)
unfolding strings_of
length_strings ss = omega arith

length_contents : (ss : List Sect) → length (contents_of ss) ≡ length (flat_map sect_content ss)
unfolding contents_of
length_contents ss = refl

ends : (m : Module) → headers_at m ≡ 52 + length (contents_of m.sections) + length (symbols_of m.symbols) + length (relocs_of m.relocs) + length (strings_of m.symbols) + length (names_of m.sections)
unfolding headers_at names_at strings_at relocs_at symbols_at
ends m = refl

pub length_formula : (m : Module) → length (file_of m) ≡ 52 + length (flat_map sect_content m.sections) + 16 * (length m.symbols + 1) + 12 * length m.relocs + 1 + length (flat_map sym_name m.symbols) + 27 + length (flat_map sect_name m.sections) + 40 * header_total m
length_formula m =
    let a = length_file m in
    let b = length_headers m in
    let c = ends m in
    let d = length_contents m.sections in
    let e = length_symbols m.symbols in
    let f = length_relocs m.relocs in
    let g = length_strings m.symbols in
    let h = length_names m.sections in
    omega arith
