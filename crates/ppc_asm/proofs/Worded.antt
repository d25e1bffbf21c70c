-- The words of an assembled text in its file.
use Rattle.std.proofs.Common.{◌≡◌, ℕ, ◌+◌, Bool, true, false, List, [], ◌∷◌, ◌++◌, Option, Result, Ok, length, take, drop, refl, sym, ap, ◌∙◌, subst, append_assoc, length-append, zero-add, arith}
use Rattle.std.specs.Prelude.{if◌then◌else◌, ◌==◌}
use Rattle.std.specs.List.{All}
use Rattle.std.specs.Int.{bytes_high_first, from_be_bytes, w32}
use Rattle.std.proofs.lemmas.List.{take_at, drop_at}
use Rattle.std.proofs.lemmas.List.Elements.{All-head, All-tail}
use Rattle.std.proofs.lemmas.Nat.{from_be_bytes-to_be_bytes_4}
use Rattle.wind_outside.specs.Appending.{Appended, AppendedPrefix}
use Rattle.elf_read.specs.Contents.{ModuleOf, module_at}
use Rattle.elf_read.specs.declared.module.Module.{Module}
use Rattle.ppc_word.specs.declared.insn.Insn.{Insn}
use Rattle.ppc_word.specs.Rows.{word_with, are_fields}
use Rattle.ppc_word.proofs.Placed.{word_of-lt}
use Rattle.ppc_text.specs.declared.line.Instruction.{Instruction}
use Rattle.ppc_text.specs.declared.line.Item.{Item}
use Rattle.ppc_text.specs.declared.line.Item.TheVariants as kinds
use Rattle.asm_lines.specs.declared.error.Cause.{Cause}
use Rattle.asm_lines.specs.Items.{Placed, item_bytes, bytes_from, section_bytes, size}
use Rattle.asm_lines.specs.Causes.{items}
use Rattle.ppc_asm.specs.Assembly.{assembly, module_of, module_or}
use Rattle.ppc_asm.specs.Command.{Written, WrittenPrefix}
use Rattle.ppc_asm.specs.Words.{DecodesTo, HasWords, first_bytes}
use Rattle.ppc_text.specs.Blank.{IsBlank}
use Rattle.ppc_asm.proofs.Decoded.{Stands, decodes_fields, stand}

-- ---- the bytes of a section before and after a line
split_by : (w off : ℕ) (q : Placed) (qs ys : List Placed) (b : Bool)
    → bytes_from w (off + length (item_bytes off q.item)) (qs ++ ys) ≡ bytes_from w (off + length (item_bytes off q.item)) qs ++ bytes_from w ((off + length (item_bytes off q.item)) + length (bytes_from w (off + length (item_bytes off q.item)) qs)) ys
    → bytes_from w off (qs ++ ys) ≡ bytes_from w off qs ++ bytes_from w (off + length (bytes_from w off qs)) ys
    → (if b then item_bytes off q.item ++ bytes_from w (off + length (item_bytes off q.item)) (qs ++ ys) else bytes_from w off (qs ++ ys))
    ≡ (if b then item_bytes off q.item ++ bytes_from w (off + length (item_bytes off q.item)) qs else bytes_from w off qs)
    ++ bytes_from w (off + length (if b then item_bytes off q.item ++ bytes_from w (off + length (item_bytes off q.item)) qs else bytes_from w off qs)) ys
split_by w off q qs ys true r s =
    let here = item_bytes off q.item in
    let rest = bytes_from w (off + length here) qs in
    let n : (off + length here) + length rest ≡ off + length (here ++ rest) = omega (arith, length-append here rest) in
    ap (λ t. here ++ t) r
    ∙ sym (append_assoc here rest (bytes_from w ((off + length here) + length rest) ys))
    ∙ ap (λ k. (here ++ rest) ++ bytes_from w k ys) n
split_by w off q qs ys false r s = s

bytes_split : (w off : ℕ) (xs ys : List Placed) → bytes_from w off (xs ++ ys) ≡ bytes_from w off xs ++ bytes_from w (off + length (bytes_from w off xs)) ys
bytes_split w off [] ys = let e : off ≡ off + 0 = omega arith in ap (λ k. bytes_from w k ys) e
bytes_split w off (q ∷ qs) ys = split_by w off q qs ys (q.section == w) (bytes_split w (off + length (item_bytes off q.item)) qs ys) (bytes_split w off qs ys)

-- the bytes of an item are at its offset
item_at : (before after : List Placed) (p : Placed) (n : ℕ) → p.section ≡ 0 → length (item_bytes (size 0 before) p.item) ≡ n
    → take n (drop (size 0 before) (section_bytes 0 (before ++ p ∷ after))) ≡ item_bytes (size 0 before) p.item
unfolding section_bytes
item_at before after p n text long =
    let own = bytes_from 0 0 before in
    let here = item_bytes (length own) p.item in
    let rest = bytes_from 0 (length own + length here) after in
    let zero : 0 + length own ≡ length own = zero-add (length own) in
    let whole : bytes_from 0 0 (before ++ p ∷ after) ≡ own ++ (here ++ rest) =
    bytes_split 0 0 before (p ∷ after)
    ∙ ap (λ k. own ++ bytes_from 0 k (p ∷ after)) zero
    ∙ ap (λ (s : ℕ). own ++ (if s == 0 then here ++ rest else bytes_from 0 (length own) after)) text in
    ap (λ t. take n (drop (length own) t)) whole
    ∙ ap (take n) (drop_at own (here ++ rest) (length own) refl)
    ∙ take_at here rest n long

-- ---- a word
instruction_decodes : (i : Instruction) (bytes : List ℕ) → are_fields i.row i.fields ≡ true → IsBlank i.reference i.fields → bytes ≡ bytes_high_first 4 (word_with i.row i.fields) → DecodesTo i (from_be_bytes w32 bytes)
instruction_decodes i bytes h blank e =
    let own : Insn = record { row = i.row; fields = i.fields; in_table = h } in
    let d = decodes_fields i.row i.fields h in
    let w : from_be_bytes w32 bytes ≡ word_with i.row i.fields = ap (from_be_bytes w32) e ∙ from_be_bytes-to_be_bytes_4 (word_with i.row i.fields) (word_of-lt own) in
    subst (λ x. DecodesTo i x) (sym w) (record { row = d.0; fields = d.1; blank = subst (λ fs. IsBlank i.reference fs) (sym d.1) blank })

-- the line with number i of a list in which something holds of each
at_middle : (P : Placed → Type 0) (before after : List Placed) (p : Placed) → All P (before ++ p ∷ after) → P p
at_middle P [] after p a = All-head P p after a
at_middle P (q ∷ qs) after p a = at_middle P qs after p (All-tail P q (qs ++ p ∷ after) a)

stands_as : (item : Item) (section : ℕ) (i : Instruction) → item ≡ kinds.Instruction i → Stands item section → (section ≡ 0) × (are_fields i.row i.fields ≡ true) × IsBlank i.reference i.fields
stands_as item section i e h = subst (λ x. Stands x section) e h

bytes_as : (off : ℕ) (item : Item) (i : Instruction) → item ≡ kinds.Instruction i → item_bytes off item ≡ bytes_high_first 4 (word_with i.row i.fields)
unfolding item_bytes
bytes_as off item i e = ap (item_bytes off) e

-- ---- the file
module_same : (r : Result (List Placed) (ℕ × Cause)) (ps : List Placed) (it : Module) → r ≡ Ok ps → module_or r ≡ Ok it → module_of ps ≡ it
module_same r ps it e h = let k : module_or (Ok ps) ≡ Ok it = subst (λ x. module_or x ≡ Ok it) e h in cc

text_bytes : (text file : List ℕ) (it : Module) (ps : List Placed) → assembly text ≡ Ok it → ModuleOf file it → items text ≡ Ok ps → first_bytes (module_at file).sections ≡ section_bytes 0 ps
unfolding assembly module_of
text_bytes text file it ps made holds e =
    ap (λ (m : Module). first_bytes m.sections) (sym holds.holds ∙ sym (module_same (items text) ps it e made))

pub has_words : (text file : List ℕ) (it : Module) → assembly text ≡ Ok it → ModuleOf file it → HasWords text file
has_words text file it made holds before after p i e is =
    let s = stands_as p.item p.section i is (at_middle (λ (x : Placed). Stands x.item x.section) before after p (stand text (before ++ p ∷ after) e)) in
    let own = bytes_as (size 0 before) p.item i is in
    instruction_decodes i (take 4 (drop (size 0 before) (first_bytes (module_at file).sections))) s.1 s.2
    (ap (λ t. take 4 (drop (size 0 before) t)) (text_bytes text file it (before ++ p ∷ after) made holds e)
    ∙ item_at before after p 4 s.0 (ap length own)
    ∙ own)

-- ---- what a call has put
pub written : (text file : List ℕ) (it : Module) (old new : Option (List ℕ)) → assembly text ≡ Ok it → ModuleOf file it → Appended old new file → Written text old new
written text file it old new made holds added = record { it = it; file = file; assembled = made; holds = holds; words = has_words text file it made holds; added = added }

pub written_part : (text file : List ℕ) (it : Module) (old new : Option (List ℕ)) → assembly text ≡ Ok it → ModuleOf file it → AppendedPrefix old new file → WrittenPrefix text old new
written_part text file it old new made holds added = record { it = it; file = file; assembled = made; holds = holds; words = has_words text file it made holds; added = added }
