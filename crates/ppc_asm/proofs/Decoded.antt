-- The word of each instruction of a text decodes to the instruction that its line names.
use Rattle.std.proofs.Common.{◌≡◌, ℕ, ◌+◌, Bool, true, false, not, List, [], ◌∷◌, ◌++◌, map, Option, Some, None, Result, Ok, refl, sym, subst}
use Rattle.std.specs.Prelude.{if◌then◌else◌, ◌&&◌, ◌==◌}
use Rattle.std.specs.List.{All}
use Rattle.std.proofs.lemmas.Bool.{eqb-true}
use Rattle.std.proofs.lemmas.List.Elements.{All-nil, All-cons, All-append}
use Rattle.ppc_word.specs.declared.row.Row.{Row}
use Rattle.ppc_word.specs.declared.insn.Insn.{Insn}
use Rattle.ppc_word.specs.Insn.{word_of}
use Rattle.ppc_word.specs.Rows.{row_of, fields_of, word_with, are_fields}
use Rattle.ppc_word.proofs.Found.{row_of-insn}
use Rattle.ppc_word.proofs.Placed.{insn-fields}
use Rattle.ppc_text.specs.declared.line.Item.{Item}
use Rattle.ppc_text.specs.declared.line.Item.TheVariants.{Instruction}
use Rattle.ppc_text.specs.declared.line.Line.{Line}
use Rattle.ppc_text.specs.Lines.{line_of}
use Rattle.source_text.specs.Lines.{pieces}
use Rattle.asm_lines.specs.declared.error.Cause.{Cause}
use Rattle.asm_lines.specs.declared.error.Cause.TheVariants.{BadPlace, BadWord}
use Rattle.asm_lines.specs.Items.{Placed, next, section_after, section_at}
use Rattle.asm_lines.specs.Causes.{takes_instruction, is_bad_place, is_bad_word, item_cause, cause_or, cause_of, or_refused, judged, items}
use Rattle.ppc_text.proofs.Naming.{Holds}
use Rattle.ppc_asm.specs.Laws.{Decodes}
use Rattle.ppc_text.specs.Blank.{IsBlank}
use Rattle.ppc_text.proofs.Blank.{BlankItem, BlankLine, blank_line}

pub decodes_fields : (row : Row) (fs : List ℕ) → are_fields row fs ≡ true → (row_of (word_with row fs) ≡ Some row) × (fields_of row (word_with row fs) ≡ fs)
decodes_fields row fs h =
    let i : Insn = record { row = row; fields = fs; in_table = h } in
    (row_of-insn i (word_of i) refl, sym (insn-fields i))

not_false : (b : Bool) → not b ≡ false → b ≡ true
not_false true h = refl
not_false false h = cc

decodes_item : (item : Item) → is_bad_word item ≡ false → Decodes item
decodes_item (Instruction i) h = decodes_fields i.row i.fields (not_false (are_fields i.row i.fields) h)
decodes_item item h = tt

good_word : (ps : List Placed) (l : Line) → cause_of ps l ≡ None → is_bad_word l.item ≡ false
unfolding cause_of item_cause
good_word ps l = go (is_bad_place ps l.item) (is_bad_word l.item) _ where
  go : (a b : Bool) (rest : Option Cause) → cause_or (if a then Some BadPlace else (if b then Some BadWord else None)) rest ≡ None → b ≡ false
  go true b rest e = cc
  go false true rest e = cc
  go false false rest e = refl

good_place : (ps : List Placed) (l : Line) → cause_of ps l ≡ None → is_bad_place ps l.item ≡ false
unfolding cause_of item_cause
good_place ps l = go (is_bad_place ps l.item) (is_bad_word l.item) _ where
  go : (a b : Bool) (rest : Option Cause) → cause_or (if a then Some BadPlace else (if b then Some BadWord else None)) rest ≡ None → a ≡ false
  go true b rest e = cc
  go false b rest e = refl

-- ---- what holds of each line that is taken
ok_same : (r : Result (List Placed) (ℕ × Cause)) (x y : List Placed) → r ≡ Ok x → r ≡ Ok y → x ≡ y
ok_same r x y e f = cc

module _ (Q : Line → Type 0) (each : (bytes : List ℕ) → Holds Q (line_of bytes)) (P : Placed → Type 0) (step : (ps : List Placed) (l : Line) → Q l → cause_of ps l ≡ None → P (next ps l)) where
  all_next : (ps : List Placed) (l : Line) → Q l → All P ps → cause_of ps l ≡ None → All P (ps ++ next ps l ∷ [])
  all_next ps l q a h = All-append P ps (next ps l ∷ []) a (All-cons P (next ps l) [] (step ps l q h) (All-nil P))

  all_found : (ps : List Placed) (n : ℕ) (ls : List (Option Line)) (qs : List Placed) → All P ps → (l : Line) (o : Option Cause) → Q l → cause_of ps l ≡ o
      → ((rs : List Placed) → All P rs → judged rs (n + 1) ls ≡ Ok qs → All P qs) → or_refused n o (judged (ps ++ next ps l ∷ []) (n + 1) ls) ≡ Ok qs → All P qs
  all_found ps n ls qs a l (Some c) q h more r = cc
  all_found ps n ls qs a l None q h more r = more (ps ++ next ps l ∷ []) (all_next ps l q a h) r

  all_line : (ps : List Placed) (n : ℕ) (ls : List (Option Line)) (qs : List Placed) → All P ps → (o : Option Line) → Holds Q o
      → ((rs : List Placed) → All P rs → judged rs (n + 1) ls ≡ Ok qs → All P qs) → judged ps n (o ∷ ls) ≡ Ok qs → All P qs
  all_line ps n ls qs a None q more r = cc
  all_line ps n ls qs a (Some l) q more r = all_found ps n ls qs a l (cause_of ps l) q refl more r

  all_judged : (ps : List Placed) (n : ℕ) (bs : List (List ℕ)) (qs : List Placed) → All P ps → judged ps n (map line_of bs) ≡ Ok qs → All P qs
  all_judged ps n [] qs a e = subst (All P) (ok_same (judged ps n []) ps qs refl e) a
  all_judged ps n (b ∷ bs) qs a e = all_line ps n (map line_of bs) qs a (line_of b) (each b) (λ rs s r. all_judged rs (n + 1) bs qs s r) e

  all_items : (text : List ℕ) (ps : List Placed) → items text ≡ Ok ps → All P ps
  unfolding items
  all_items text ps e = all_judged [] 1 (pieces text) ps (All-nil P) e

pub decoded : (text : List ℕ) (ps : List Placed) → items text ≡ Ok ps → All (λ (p : Placed). Decodes p.item) ps
decoded text ps e = all_items BlankLine blank_line (λ (p : Placed). Decodes p.item) (λ ps l q h. decodes_item l.item (good_word ps l h)) text ps e

-- ---- instructions are in text
-- an instruction is in text, the processor has its word, and a field that a reference fills is 0
abbrev pub Stands : Item → ℕ → Type 0
Stands (Instruction i) section = (section ≡ 0) × (are_fields i.row i.fields ≡ true) × IsBlank i.reference i.fields
Stands item section = Unit {0}

first_part : (a b : Bool) → (a && b) ≡ true → a ≡ true
first_part true b h = refl
first_part false b h = cc

stands_item : (ps : List Placed) (item : Item) → is_bad_place ps item ≡ false → is_bad_word item ≡ false → BlankItem item → Stands item (section_after item (section_at ps))
stands_item ps (Instruction i) h k blank =
    (eqb-true (section_at ps) 0 (first_part (section_at ps == 0) _ (not_false (takes_instruction ps) h)), not_false (are_fields i.row i.fields) k, blank)
stands_item ps item h k blank = tt

pub stand : (text : List ℕ) (ps : List Placed) → items text ≡ Ok ps → All (λ (p : Placed). Stands p.item p.section) ps
stand text ps e = all_items BlankLine blank_line (λ (p : Placed). Stands p.item p.section) (λ ps l q h. stands_item ps l.item (good_place ps l h) (good_word ps l h) q) text ps e
