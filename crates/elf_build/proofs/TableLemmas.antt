-- Relocations in tables.
use Rattle.std.proofs.Common.{◌≡◌, ℕ, suc, ◌+◌, ◌*◌, ◌<◌, ◌≤◌, List, [], ◌∷◌, ◌++◌, length, take, drop, get_or, refl, sym, ◌∙◌, ap, arith, append_assoc, Bool, true, false}
use Rattle.std.specs.Prelude.{◌==◌, if◌then◌else◌}
use Rattle.std.specs.List.{All, flat_map}
use Rattle.std.proofs.lemmas.List.{length-take-le}
use Rattle.std.proofs.lemmas.List.Elements.{All-nil, All-cons}
use Rattle.std.proofs.lemmas.Bool.Decides.{nat_tests}
use Rattle.elf_read.specs.declared.module.Sect.{Sect}
use Rattle.elf_read.specs.declared.module.Rel.{Rel}
use Rattle.elf_build.specs.Entries.{header_bytes}
use Rattle.elf_build.specs.File.{RelocTable, joined, tables_of, leading, table_name, table_header, table_headers}
use Rattle.elf_build.specs.Writable.{LeadsTable}
use Rattle.elf_build.proofs.Names.{equals, differs, then_branch, else_branch, all_first, all_rest}

-- ---- the first table
abbrev first_table : Rel → List Rel → ℕ → List RelocTable
first_table r rs k = record { section = r.section; relocs = r ∷ take k rs } ∷ tables_of (drop k rs)

lead_by : (r x : Rel) (ys : List Rel) (b : Bool) → (r.section == x.section) ≡ b → tables_of (x ∷ ys) ≡ first_table x ys (leading x.section ys) → joined r (tables_of (x ∷ ys)) ≡ first_table r (x ∷ ys) (leading r.section (x ∷ ys))
lead_by r x ys true e ih =
    let j = leading x.section ys in
    let t : RelocTable = record { section = x.section; relocs = x ∷ take j ys } in
    let ts = tables_of (drop j ys) in
    let same : r.section ≡ x.section = grind (arith, nat_tests) in
    let n : leading r.section (x ∷ ys) ≡ suc j =
    then_branch (x.section == r.section) (suc (leading r.section ys)) 0 (equals x.section r.section (sym same)) ∙ ap (λ s. suc (leading s ys)) same in
    ap (joined r) ih
    ∙ (then_branch (r.section == x.section) (record { section = x.section; relocs = r ∷ t.relocs } ∷ ts) (record { section = r.section; relocs = r ∷ [] } ∷ t ∷ ts) e
    ∙ (ap (λ s. record { section = s; relocs = r ∷ x ∷ take j ys } ∷ ts) (sym same)
    ∙ sym (ap (first_table r (x ∷ ys)) n)))
lead_by r x ys false e ih =
    let j = leading x.section ys in
    let t : RelocTable = record { section = x.section; relocs = x ∷ take j ys } in
    let ts = tables_of (drop j ys) in
    let other : (x.section == r.section) ≡ false = differs x.section r.section (λ same. let y = equals r.section x.section (sym same) in cc) in
    let n : leading r.section (x ∷ ys) ≡ 0 = else_branch (x.section == r.section) (suc (leading r.section ys)) 0 other in
    ap (joined r) ih
    ∙ (else_branch (r.section == x.section) (record { section = x.section; relocs = r ∷ t.relocs } ∷ ts) (record { section = r.section; relocs = r ∷ [] } ∷ t ∷ ts) e
    ∙ (ap (λ us. record { section = r.section; relocs = r ∷ [] } ∷ us) (sym ih)
    ∙ sym (ap (first_table r (x ∷ ys)) n)))

lead : (r : Rel) (rs : List Rel) → joined r (tables_of rs) ≡ first_table r rs (leading r.section rs)
lead r [] = refl
lead r (x ∷ ys) = lead_by r x ys (r.section == x.section) refl (lead x ys)

leading_by : (section : ℕ) (rs : List Rel) (b : Bool) → leading section rs ≤ length rs → (if b then suc (leading section rs) else 0) ≤ suc (length rs)
leading_by section rs true h = omega arith
leading_by section rs false h = omega arith

leading_within : (section : ℕ) (rs : List Rel) → leading section rs ≤ length rs
leading_within section [] = omega arith
leading_within section (r ∷ rs) = leading_by section rs (r.section == section) (leading_within section rs)

first_leads : (r : Rel) (rs : List Rel) (n : ℕ) → n ≡ suc (leading r.section rs) → LeadsTable n (r ∷ rs)
first_leads r rs n e = record {
  some = omega arith;
  within = let w = leading_within r.section rs in omega arith;
  table = λ d. lead r rs ∙ sym (ap (λ k. record { section = r.section; relocs = take k (r ∷ rs) } ∷ tables_of (drop k (r ∷ rs))) e);
}

pub leads_first : (rs : List Rel) (s n : ℕ) (d : Rel) → 0 < length rs → s ≡ (get_or rs 0 d).section → n ≡ leading s rs → LeadsTable n rs
leads_first [] s n d l e is = absurd (omega arith)
leads_first (r ∷ rs) s n d l e is =
    first_leads r rs n
    (is ∙ (ap (λ k. leading k (r ∷ rs)) e ∙ then_branch (r.section == r.section) (suc (leading r.section rs)) 0 (equals r.section r.section refl)))

-- one table more
pub count_step : (n : ℕ) (rs : List Rel) → LeadsTable n rs → 0 < length rs → length (tables_of rs) ≡ suc (length (tables_of (drop n rs)))
count_step n [] h l = absurd (omega arith)
count_step n (r ∷ rs) h l = ap length (h.table r)

pub table_step : (o : List ℕ) (ss : List Sect) (name symtab at section n : ℕ) (rs : List Rel) (d : Rel) → LeadsTable n rs → section ≡ (get_or rs 0 d).section → name ≡ table_name ss section → (o ++ header_bytes (table_header name symtab at section n)) ++ table_headers ss symtab (at + 12 * n) (tables_of (drop n rs)) ≡ o ++ table_headers ss symtab at (tables_of rs)
table_step o ss name symtab at section n rs d h e f =
    let first = (get_or rs 0 d).section in
    let long : length (take n rs) ≡ n = length-take-le n rs h.within in
    let rest = tables_of (drop n rs) in
    let after = table_headers ss symtab (at + 12 * n) rest in
    let all : table_headers ss symtab at (tables_of rs) ≡ header_bytes (table_header (table_name ss first) symtab at first n) ++ after =
    ap (table_headers ss symtab at) (h.table d) ∙ ap (λ k. header_bytes (table_header (table_name ss first) symtab at first k) ++ table_headers ss symtab (at + 12 * k) rest) long in
    append_assoc o (header_bytes (table_header name symtab at section n)) after
    ∙ (ap (λ k. o ++ (header_bytes (table_header k symtab at section n) ++ after)) f
    ∙ (ap (λ s. o ++ (header_bytes (table_header (table_name ss s) symtab at s n) ++ after)) e
    ∙ ap (λ xs. o ++ xs) (sym all)))

-- ---- the contents of tables
abbrev pub relocs_in : RelocTable → List Rel
relocs_in t = t.relocs

flat_by : (r : Rel) (t : RelocTable) (ts : List RelocTable) (b : Bool) → flat_map relocs_in (if b then record { section = t.section; relocs = r ∷ t.relocs } ∷ ts else record { section = r.section; relocs = r ∷ [] } ∷ t ∷ ts) ≡ r ∷ (t.relocs ++ flat_map relocs_in ts)
flat_by r t ts true = refl
flat_by r t ts false = refl

flat_joined : (r : Rel) (ts : List RelocTable) → flat_map relocs_in (joined r ts) ≡ r ∷ flat_map relocs_in ts
flat_joined r [] = refl
flat_joined r (t ∷ ts) = flat_by r t ts (r.section == t.section)

-- all relocations, in their order
pub flat_tables : (rs : List Rel) → flat_map relocs_in (tables_of rs) ≡ rs
flat_tables [] = refl
flat_tables (r ∷ rs) = flat_joined r (tables_of rs) ∙ ap (λ xs. r ∷ xs) (flat_tables rs)

-- a table has relocations, and they are for its section
pub record IsRelocTable (t : RelocTable) : Type 0 where
  pub some : 0 < length t.relocs
  pub same : All (λ r. r.section ≡ t.section) t.relocs

one_table : (r : Rel) → IsRelocTable (record { section = r.section; relocs = r ∷ [] })
one_table r = record { some = omega arith; same = All-cons (λ x. x.section ≡ r.section) r [] refl (All-nil (λ x. x.section ≡ r.section)) }

joined_by : (r : Rel) (t : RelocTable) (ts : List RelocTable) (b : Bool) → (r.section == t.section) ≡ b → IsRelocTable t → All IsRelocTable ts → All IsRelocTable (if b then record { section = t.section; relocs = r ∷ t.relocs } ∷ ts else record { section = r.section; relocs = r ∷ [] } ∷ t ∷ ts)
joined_by r t ts true e h hs =
    let same : r.section ≡ t.section = grind (arith, nat_tests) in
    All-cons IsRelocTable (record { section = t.section; relocs = r ∷ t.relocs }) ts
    (record { some = omega arith; same = All-cons (λ x. x.section ≡ t.section) r t.relocs same h.same }) hs
joined_by r t ts false e h hs = All-cons IsRelocTable (record { section = r.section; relocs = r ∷ [] }) (t ∷ ts) (one_table r) (All-cons IsRelocTable t ts h hs)

joined_tables : (r : Rel) (ts : List RelocTable) → All IsRelocTable ts → All IsRelocTable (joined r ts)
joined_tables r [] h = All-cons IsRelocTable (record { section = r.section; relocs = r ∷ [] }) [] (one_table r) (All-nil IsRelocTable)
joined_tables r (t ∷ ts) h = joined_by r t ts (r.section == t.section) refl (all_first IsRelocTable t ts h) (all_rest IsRelocTable t ts h)

pub are_tables : (rs : List Rel) → All IsRelocTable (tables_of rs)
are_tables [] = All-nil IsRelocTable
are_tables (r ∷ rs) = joined_tables r (tables_of rs) (are_tables rs)
