-- Each file has one result, and running out of memory isn't the refusal of a rule.
use Rattle.std.proofs.Common.{◌≡◌, ◌⊎◌, inl, inr, ℕ, zero, suc, ◌+◌, ◌-◌, List, [], ◌∷◌, Ok, Err, Bool, true, false, refl}
use Rattle.std.specs.Prelude.{◌==◌, ◌||◌, nat_lt, nat_le}
use Rattle.std.specs.List.{AllByRecursion}
use Rattle.elf_read.specs.declared.error.ElfErr.{ElfErr}
use Rattle.elf_read.specs.declared.error.ElfErr.TheVariants.{Short, NotElf, NotPpc, NotRel, BadSection, BadSymbol, BadReloc, TooMany, NoMemory}
use Rattle.elf_read.specs.Rule.{Rule, ◌and_then◌, unless, when, first_of, each}
use Rattle.elf_read.specs.Numbered.{total}
use Rattle.elf_read.specs.Standard.{ident, e_type, e_machine, e_shoff, e_shentsize, e_shnum, e_shstrndx, sht_rela, sht_rel}
use Rattle.wind_base.specs.Limits.{most_relocations}
use Rattle.elf_read.specs.Rules.{rules_of, checked, ident_from, headers_rule, content_rule, names_rule, name_rule, load_rule, symtab_rule, symbol_rule, is_right_table, table_rule, relocation_rule, relocations_rule}
use Rattle.elf_read.specs.Tables.{header, header_count, header_offset, is_loaded, symbol_count, rela_count}
use Rattle.elf_read.specs.Contents.{module_at}
use Rattle.elf_read.specs.First.{HoldsOne, RefusedOnce, OneAnswer, NeverMemory}

answer_by : (bytes : List ℕ) (r : Rule) → checked bytes ≡ r → HoldsOne bytes ⊎ RefusedOnce bytes
answer_by bytes (Ok u) h = inl (record {
  it = module_at bytes;
  is = record { passes = h; holds = refl };
  only = λ m k. k.holds;
  not_refused = λ e k. cc;
})
answer_by bytes (Err d) h = inr (record {
  it = d;
  is = h;
  only = λ e k. cc;
  no_module = λ m k. let p = k.passes in cc;
})

pub one_answer : OneAnswer
one_answer bytes = answer_by bytes (checked bytes) refl

-- ---- out of memory

abbrev IsClean : Rule → Type 0
IsClean r = r ≡ Err NoMemory → ⊥

clean_and : (r s : Rule) → IsClean r → IsClean s → IsClean (r and_then s)
clean_and (Ok u) s p q h = q h
clean_and (Err e) s p q h = p h

clean_unless : (b : Bool) (e : ElfErr) → (e ≡ NoMemory → ⊥) → IsClean (unless b e)
clean_unless true e p h = cc
clean_unless false e p h = p cc

clean_when : (b : Bool) (r : Rule) → IsClean r → IsClean (when b r)
clean_when true r p h = p h
clean_when false r p h = cc

clean_each : (i n : ℕ) (rule : ℕ → Rule) → ((k : ℕ) → IsClean (rule k)) → IsClean (each i n rule)
clean_each i zero rule p h = cc
clean_each i (suc n) rule p h = clean_and (rule i) (each (i + 1) n rule) (p i) (clean_each (i + 1) n rule p) h

clean_ident : (i : ℕ) (bs bytes : List ℕ) → IsClean (ident_from i bs bytes)
clean_ident i [] bytes h = cc
clean_ident i (b ∷ bs) bytes h = clean_and _ (ident_from (i + 1) bs bytes) (clean_unless _ (NotElf i) (λ e. cc)) (clean_ident (i + 1) bs bytes) h

clean_short : (b : Bool) (n : ℕ) → IsClean (unless b (Short n))
clean_short b n = clean_unless b (Short n) (λ e. cc)

clean_section : (b : Bool) (n : ℕ) → IsClean (unless b (BadSection n))
clean_section b n = clean_unless b (BadSection n) (λ e. cc)

clean_many : (b : Bool) (n : ℕ) → IsClean (unless b (TooMany n))
clean_many b n = clean_unless b (TooMany n) (λ e. cc)

clean_headers : (bytes : List ℕ) → IsClean (headers_rule bytes)
clean_headers bytes =
    clean_and _ _ (clean_section _ e_shentsize)
    (clean_and _ _ (clean_section _ e_shnum)
    (clean_and _ _ (clean_section _ e_shstrndx)
    (clean_and _ _ (clean_many _ e_shnum) (clean_short _ e_shoff))))

clean_names : (bytes : List ℕ) → IsClean (names_rule bytes)
clean_names bytes = clean_and _ _ (clean_section _ _) (clean_each 0 (header_count bytes) (name_rule bytes) (λ i. clean_section _ _))

clean_symtab : (bytes : List ℕ) (i : ℕ) → IsClean (symtab_rule bytes i)
clean_symtab bytes i = clean_when _ _ (clean_and _ _ (clean_section _ _) (clean_many _ _))

clean_table_by : (a b c d f : Bool) (n : ℕ) → IsClean (when a (unless b (BadSection n) and_then when c (unless d (BadSection n) and_then unless f (TooMany n))))
clean_table_by a b c d f n =
    clean_when a (unless b (BadSection n) and_then when c (unless d (BadSection n) and_then unless f (TooMany n)))
    (clean_and (unless b (BadSection n)) (when c (unless d (BadSection n) and_then unless f (TooMany n))) (clean_section b n)
    (clean_when c (unless d (BadSection n) and_then unless f (TooMany n)) (clean_and (unless d (BadSection n)) (unless f (TooMany n)) (clean_section d n) (clean_many f n))))

clean_table : (bytes : List ℕ) (i : ℕ) → IsClean (table_rule bytes i)
clean_table bytes i =
    clean_table_by ((header bytes i).kind == sht_rela || (header bytes i).kind == sht_rel) (nat_lt (header bytes i).info (header_count bytes)) (is_loaded bytes (header bytes i).info) (is_right_table bytes i)
    (nat_le (total (i + 1) (rela_count bytes)) most_relocations) (header_offset bytes i)

clean_relocations : (bytes : List ℕ) (i : ℕ) → IsClean (relocations_rule bytes i)
clean_relocations bytes i = clean_each 0 (rela_count bytes i) (relocation_rule bytes i) (λ k. clean_unless _ (BadReloc _) (λ e. cc))

-- no rule of a list refuses because memory ran out
clean_first : (rs : List Rule) → AllByRecursion IsClean rs → IsClean (first_of rs)
clean_first [] h k = cc
clean_first (r ∷ rs) (p, ps) k = clean_and r (first_of rs) p (clean_first rs ps) k

clean_rules : (bytes : List ℕ) → AllByRecursion IsClean (rules_of bytes)
clean_rules bytes = (
  clean_short _ _,
  (
    clean_ident 0 ident bytes,
    (
      clean_unless _ (NotPpc e_machine) (λ e. cc),
      (
        clean_unless _ (NotRel e_type) (λ e. cc),
        (
          clean_headers bytes,
          (
            clean_each 0 (header_count bytes) (content_rule bytes) (λ i. clean_when _ _ (clean_short _ _)),
            (
              clean_names bytes,
              (
                clean_each 0 (header_count bytes) (load_rule bytes) (λ i. clean_when _ _ (clean_section _ _)),
                (
                  clean_each 0 (header_count bytes) (symtab_rule bytes) (clean_symtab bytes),
                  (
                    clean_each 1 (symbol_count bytes - 1) (symbol_rule bytes) (λ k. clean_unless _ (BadSymbol _) (λ e. cc)),
                    (
                      clean_each 0 (header_count bytes) (table_rule bytes) (clean_table bytes),
                      (clean_each 0 (header_count bytes) (relocations_rule bytes) (clean_relocations bytes), tt),
                    ),
                  ),
                ),
              ),
            ),
          ),
        ),
      ),
    ),
  ),
)

pub never_memory : NeverMemory
unfolding checked
never_memory bytes = clean_first (rules_of bytes) (clean_rules bytes)
