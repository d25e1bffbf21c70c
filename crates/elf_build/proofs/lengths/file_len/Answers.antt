use Rattle.std.proofs.Common.{◌≡◌, List, length, ap, ◌∙◌, arith}
use Rattle.std.specs.List.{flat_map}
use Rattle.elf_read.specs.declared.module.Sect.{Sect}
use Rattle.elf_read.specs.declared.module.Sym.{Sym}
use Rattle.elf_read.specs.declared.module.Rel.{Rel}
use Rattle.elf_build.specs.File.{sect_name, sym_name, sect_content, tables_of}
use Rattle.elf_build.proofs.Length.{length_formula}
use Rattle.elf_build.proofs.lengths.file_len.Goals as goal

pub returns : goal.returns
returns c =
    let m = c.args.m.now in
    let sections = c.as_slice-sections.ensures in
    let symbols = c.as_slice-symbols.ensures in
    let relocs = c.as_slice-relocs.ensures in
    let contents : c.contents_len.result ≡ length (flat_map sect_content m.sections) =
    c.contents_len.ensures.value ∙ ap (λ (ss : List Sect). length (flat_map sect_content ss)) sections in
    let symbol_names : c.sym_names_len.result ≡ length (flat_map sym_name m.symbols) =
    c.sym_names_len.ensures.value ∙ ap (λ (ss : List Sym). length (flat_map sym_name ss)) symbols in
    let section_names : c.sect_names_len.result ≡ length (flat_map sect_name m.sections) =
    c.sect_names_len.ensures.value ∙ ap (λ (ss : List Sect). length (flat_map sect_name ss)) sections in
    let section_count : length c.as_slice-sections.result.now ≡ length m.sections = ap (λ (ss : List Sect). length ss) sections in
    let symbol_count : length c.as_slice-symbols.result.now ≡ length m.symbols = ap (λ (ss : List Sym). length ss) symbols in
    let reloc_count : length c.as_slice-relocs.result.now ≡ length m.relocs = ap (λ (rs : List Rel). length rs) relocs in
    let tables : c.table_count.result ≡ length (tables_of m.relocs) =
    c.table_count.ensures.value ∙ ap (λ (rs : List Rel). length (tables_of rs)) relocs in
    omega (arith, length_formula m)
