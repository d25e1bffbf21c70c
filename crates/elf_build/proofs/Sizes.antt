-- Sizes of a file's parts, and steps of its headers.
use Rattle.std.proofs.Common.{◌≡◌, ℕ, suc, ◌+◌, ◌*◌, ◌<◌, List, [], ◌∷◌, length, drop, get_or, ◌∙◌, ap, arith, length-append}
use Rattle.std.specs.List.{flat_map}
use Rattle.std.proofs.lemmas.List.{drop_more}
use Rattle.elf_read.specs.declared.module.Sect.{Sect}
use Rattle.elf_read.specs.declared.module.Sym.{Sym}
use Rattle.elf_build.specs.Entries.{ended}
use Rattle.elf_build.specs.File.{sect_content, prefix_of, sect_name, sym_name, fixed_names, names_of}

-- the rest of the contents, one section further
pub contents_left : (ss : List Sect) (i : ℕ) (d : Sect) → i < length ss → length (flat_map sect_content (drop i ss)) ≡ length (sect_content (get_or ss i d)) + length (flat_map sect_content (drop (i + 1) ss))
contents_left ss i d h =
    ap (λ xs. length (flat_map sect_content xs)) (drop_more ss i d h)
    ∙ length-append (sect_content (get_or ss i d)) (flat_map sect_content (drop (i + 1) ss))

pub length_flat : {X : Type 0} (f : X → List ℕ) (n : ℕ) → ((x : X) → length (f x) ≡ n) → (xs : List X) → length (flat_map f xs) ≡ n * length xs
length_flat f n h [] = omega arith
length_flat f n h (x ∷ xs) =
    let a = length-append (f x) (flat_map f xs) in
    let b = h x in
    let c = length_flat f n h xs in
    let d : n * suc (length xs) ≡ n + n * length xs = mul-suc_flip n (length xs) in
    omega arith
  where
    mul-suc_flip : (n k : ℕ) → n * suc k ≡ n + n * k
    mul-suc_flip n k = grind arith

-- the rest of the names, one further
pub sect_names_left : (ss : List Sect) (i : ℕ) (d : Sect) → i < length ss → length (flat_map sect_name (drop i ss)) ≡ length (sect_name (get_or ss i d)) + length (flat_map sect_name (drop (i + 1) ss))
sect_names_left ss i d h =
    ap (λ xs. length (flat_map sect_name xs)) (drop_more ss i d h)
    ∙ length-append (sect_name (get_or ss i d)) (flat_map sect_name (drop (i + 1) ss))

pub sym_names_left : (ss : List Sym) (i : ℕ) (d : Sym) → i < length ss → length (flat_map sym_name (drop i ss)) ≡ length (get_or ss i d).name + 1 + length (flat_map sym_name (drop (i + 1) ss))
sym_names_left ss i d h =
    let a = ap (λ xs. length (flat_map sym_name xs)) (drop_more ss i d h) in
    let b = length-append (sym_name (get_or ss i d)) (flat_map sym_name (drop (i + 1) ss)) in
    let c = length-append (get_or ss i d).name (0 ∷ []) in
    omega arith

-- ---- the names of sections

pub length_sect_name : (s : Sect) → length (sect_name s) ≡ length (prefix_of s) + length s.name + 1
length_sect_name s =
    let a = length-append (prefix_of s) (ended s.name) in
    let b = length-append s.name (0 ∷ []) in
    omega arith

pub length_names : (ss : List Sect) → length (names_of ss) ≡ 27 + length (flat_map sect_name ss)
unfolding names_of fixed_names
length_names ss = length-append fixed_names (flat_map sect_name ss)
