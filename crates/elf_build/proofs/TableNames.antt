-- The names of the tables of relocations stand in the table of section names.
use Rattle.std.proofs.Common.{◌≡◌, ℕ, ◌+◌, ◌<◌, ◌≤◌, List, [], ◌∷◌, ◌++◌, length, take, drop, get_or, refl, sym, ◌∙◌, ap, subst, arith, append_assoc, length-append, Bool, true, false, nat_le}
use Rattle.std.specs.Prelude.{if◌then◌else◌}
use Rattle.std.specs.List.{All, flat_map}
use Rattle.std.proofs.lemmas.List.{drop_more, take-append-drop}
use Rattle.std.proofs.lemmas.Grind.{flat_map-append}
use Rattle.std.proofs.lemmas.Bool.Decides.{nat_tests}
use Rattle.elf_read.specs.declared.module.Body.TheVariants.{Size}
use Rattle.elf_read.specs.declared.module.Sect.{Sect}
use Rattle.elf_read.specs.Tables.{has_name}
use Rattle.elf_build.specs.File.{fixed_names, rela, prefix_of, sect_name, names_of, table_name}
use Rattle.elf_build.proofs.Good.{GoodSect}
use Rattle.elf_build.proofs.Names.{short_there}
use Rattle.elf_build.proofs.Stands.{Stands, stands_whole, stands_prefix, stands_suffix}

names_split : (ss : List Sect) (i : ℕ) → names_of ss ≡ names_of (take i ss) ++ flat_map sect_name (drop i ss)
unfolding names_of
names_split ss i =
    ap (λ xs. fixed_names ++ flat_map sect_name xs) (sym (take-append-drop i ss))
    ∙ (ap (λ xs. fixed_names ++ xs) (flat_map-append sect_name (take i ss) (drop i ss))
    ∙ sym (append_assoc fixed_names (flat_map sect_name (take i ss)) (flat_map sect_name (drop i ss))))

-- the entry of section number i
pub table_stands : (ss : List Sect) (i : ℕ) (d : Sect) → i < length ss → Stands (names_of ss) (table_name ss i) (sect_name (get_or ss i d))
table_stands ss i d l =
    let whole = stands_whole (names_of ss) in
    let split = subst (Stands (names_of ss) 0) (names_split ss i) whole in
    let from = stands_suffix (names_of ss) 0 (table_name ss i) (names_of (take i ss)) (flat_map sect_name (drop i ss)) split (omega arith) in
    let more = subst (λ xs. Stands (names_of ss) (table_name ss i) (flat_map sect_name xs)) (drop_more ss i d l) from in
    stands_prefix (names_of ss) (table_name ss i) (sect_name (get_or ss i d)) (flat_map sect_name (drop (i + 1) ss)) more

short_by : (n : ℕ) (b : Bool) → nat_le (5 + n) 255 ≡ b → n ≤ 255 → length (if b then rela else []) + n ≤ 255
short_by n true e h = let l : 5 + n ≤ 255 = grind (arith, nat_tests) in omega arith
short_by n false e h = omega arith

-- a table's name is no longer than a name may be
prefix_short : (s : Sect) → length s.name ≤ 255 → length (prefix_of s) + length s.name ≤ 255
unfolding prefix_of
prefix_short s h = short_by (length s.name) (nat_le (5 + length s.name) 255) refl h

pub table_named : (ss : List Sect) (i : ℕ) → All GoodSect ss → i < length ss → has_name (names_of ss) (table_name ss i) ≡ true
table_named ss i good l =
    let s = get_or ss i no_sect in
    let size = (good i no_sect l).sound.name.size in
    let long = length-append (prefix_of s) s.name in
    let short = prefix_short s size in
    short_there (names_of ss) (table_name ss i) (prefix_of s ++ s.name)
    (subst (Stands (names_of ss) (table_name ss i)) (sym (append_assoc (prefix_of s) s.name (0 ∷ []))) (table_stands ss i no_sect l))
    (omega arith)
  where
    no_sect : Sect
    no_sect = record { name = []; flags = 0; align = 0; body = Size 0 }
