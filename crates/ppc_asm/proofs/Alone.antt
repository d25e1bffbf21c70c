-- An instruction's text is assembled to its word.
use Rattle.std.proofs.Common.{◌≡◌, ◌≢◌, ℕ, false, not, List, [], ◌∷◌, ◌++◌, map, Option, Some, None, Ok, refl, ap, ◌∙◌, arith}
use Rattle.std.specs.Prelude.{if◌then◌else◌, ◌==◌}
use Rattle.std.specs.List.{All}
use Rattle.std.proofs.lemmas.List.Elements.{All-head, All-tail}
use Rattle.elf_read.specs.declared.module.Module.{Module}
use Rattle.ppc_word.specs.declared.insn.Insn.{Insn}
use Rattle.ppc_text.specs.declared.line.Line.{Line}
use Rattle.ppc_text.specs.Lines.{line_of}
use Rattle.ppc_text.specs.Shown.{text_of}
use Rattle.ppc_text.specs.Laws.{line_with}
use Rattle.ppc_text.proofs.Again.{parsed}
use Rattle.ppc_text.proofs.Unbroken.{unbroken}
use Rattle.source_text.specs.Lines.{onto_first, pieces}
use Rattle.asm_lines.specs.declared.error.Cause.{Cause}
use Rattle.asm_lines.specs.declared.error.Cause.TheVariants.{BadWord, TooLarge}
use Rattle.asm_lines.specs.Items.{Placed, next, section_at, item_bytes, section_bytes}
use Rattle.asm_lines.specs.Names.{item_names, defined, globals, mentions, first_names, labels, item_fixes, fixes}
use Rattle.asm_lines.specs.Causes.{is_too_large, item_cause, cause_or, cause_of, or_refused, judged, items}
use Rattle.ppc_asm.specs.Assembly.{symbols, relocations, module_of, module_or, assembly}
use Rattle.ppc_asm.specs.Laws.{module_with}

not_feed : (b : ℕ) → b ≢ 10 → (b == 10) ≡ false
not_feed b h = grind arith

-- a text without a line feed is one line
one_line : (bs : List ℕ) → All (λ b. b ≢ 10) bs → pieces bs ≡ bs ∷ []
one_line [] h = refl
one_line (b ∷ bs) h =
    ap (λ t. if t then [] ∷ pieces bs else onto_first b (pieces bs)) (not_feed b (All-head (λ b. b ≢ 10) b bs h))
    ∙ ap (onto_first b) (one_line bs (All-tail (λ b. b ≢ 10) b bs h))

abbrev alone : Insn → Placed
alone i = record { label = None; before = 0; section = 0; item = (line_with i).item }

small : (i : Insn) → is_too_large (alone i ∷ []) ≡ false
unfolding is_too_large section_bytes item_bytes first_names mentions item_names labels fixes item_fixes
small i = refl

here : (i : Insn) → next [] (line_with i) ≡ alone i
unfolding section_at
here i = refl

no_cause : (i : Insn) → cause_of [] (line_with i) ≡ None
unfolding cause_of item_cause section_at section_bytes
no_cause i =
    let large : is_too_large ([] ++ next [] (line_with i) ∷ []) ≡ false = ap (λ (p : Placed). is_too_large (p ∷ [])) (here i) ∙ small i in
    ap (λ b. cause_or (if not b then Some BadWord else None) (if is_too_large ([] ++ next [] (line_with i) ∷ []) then Some TooLarge else None)) i.in_table
    ∙ ap (λ b. if b then Some TooLarge else None) large

the_items : (i : Insn) → items (text_of i) ≡ Ok (alone i ∷ [])
unfolding items
the_items i =
    ap (λ bs. judged [] 1 (map line_of bs)) (one_line (text_of i) (unbroken i))
    ∙ ap (λ (o : Option Line). judged [] 1 (o ∷ [])) (parsed i)
    ∙ ap (λ (o : Option Cause). or_refused 1 o (Ok ([] ++ next [] (line_with i) ∷ []))) (no_cause i)
    ∙ ap (λ (p : Placed). Ok (p ∷ [])) (here i)

the_module : (i : Insn) → module_of (alone i ∷ []) ≡ module_with i
unfolding module_of symbols relocations section_bytes item_bytes first_names mentions item_names labels fixes item_fixes defined globals
the_module i = refl

pub assembled : (i : Insn) → assembly (text_of i) ≡ Ok (module_with i)
unfolding assembly
assembled i = ap module_or (the_items i) ∙ ap (λ (m : Module). Ok m) (the_module i)
