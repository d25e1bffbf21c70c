-- What the code finds is the first cause for which a line is refused.
use Rattle.std.proofs.Common.{◌≡◌, ◌+◌, Bool, true, false, not, List, [], ◌∷◌, ◌++◌, Option, Some, None, refl, sym, ap, ◌∙◌, subst, ltb-false}
use Rattle.std.specs.Prelude.{if◌then◌else◌, ◌||◌, is_some}
use Rattle.ppc_text.specs.declared.line.Instruction.{Instruction as Insn}
use Rattle.ppc_text.specs.declared.line.Item.{Item}
use Rattle.ppc_text.specs.declared.line.Item.TheVariants.{Instruction}
use Rattle.ppc_text.specs.declared.line.Line.{Line}
use Rattle.asm_lines.specs.declared.error.Cause.{Cause}
use Rattle.asm_lines.specs.declared.error.Cause.TheVariants.{BadPlace, BadWord, Twice, TooLarge}
use Rattle.asm_lines.specs.declared.draft.Draft.{Draft}
use Rattle.asm_lines.specs.Items.{Placed, next}
use Rattle.asm_lines.specs.Names.{labels, fixes}
use Rattle.asm_lines.specs.Causes.{takes_instruction, is_bad_word, is_twice, is_too_large, item_cause, cause_or, cause_of}
use Rattle.asm_lines.specs.Drafts.{IsDraft, IsSmall, exceeds}

pub place_cause : (ps : List Placed) (item : Item) (i : Insn) → item ≡ Instruction i → takes_instruction ps ≡ false → Some BadPlace ≡ item_cause ps item
unfolding item_cause
place_cause ps item i e t =
    subst (λ it. Some BadPlace ≡ item_cause ps it) (sym e) (sym (ap (λ b. if not b then Some BadPlace else (if is_bad_word (Instruction i) then Some BadWord else None)) t))

after_place : (ps : List Placed) (item : Item) (i : Insn) (o : Option Cause) → item ≡ Instruction i → takes_instruction ps ≡ true → (if is_bad_word item then Some BadWord else None) ≡ o → o ≡ item_cause ps item
unfolding item_cause
after_place ps item i o e t h =
    subst (λ it. (if is_bad_word it then Some BadWord else None) ≡ o → o ≡ item_cause ps it) (sym e)
    (λ k. sym (ap (λ b. if not b then Some BadPlace else (if is_bad_word (Instruction i) then Some BadWord else None)) t ∙ k)) h

pub word_cause : (ps : List Placed) (item : Item) (i : Insn) → item ≡ Instruction i → takes_instruction ps ≡ true → is_bad_word item ≡ true → Some BadWord ≡ item_cause ps item
word_cause ps item i e t b = after_place ps item i (Some BadWord) e t (ap (λ x. if x then Some BadWord else None) b)

pub no_cause : (ps : List Placed) (item : Item) (i : Insn) → item ≡ Instruction i → takes_instruction ps ≡ true → is_bad_word item ≡ false → None ≡ item_cause ps item
no_cause ps item i e t b = after_place ps item i None e t (ap (λ x. if x then Some BadWord else None) b)

pub other_cause : (ps : List Placed) (item : Item) → ((i : Insn) → item ≡ Instruction i → ⊥) → None ≡ item_cause ps item
unfolding item_cause
other_cause ps (Instruction i) h = absurd (h i refl)
other_cause ps item h = refl

pub good_word : (item : Item) → ((i : Insn) → item ≡ Instruction i → ⊥) → is_bad_word item ≡ false
good_word (Instruction i) h = absurd (h i refl)
good_word item h = refl

none_from : (o : Option Cause) → is_some o ≡ false → o ≡ None
none_from None h = refl
none_from (Some c) h = cc

pub none_of : (o : Option Cause) → is_some o ≡ false → o ≡ None
none_of o h = none_from o h

first_kept : (o other : Option Cause) → is_some o ≡ true → o ≡ cause_or o other
first_kept (Some c) other h = refl
first_kept None other h = cc

-- a cause in the item comes first
pub cause_item : (ps : List Placed) (l : Line) (o : Option Cause) → o ≡ item_cause ps l.item → is_some o ≡ true → o ≡ cause_of ps l
unfolding cause_of
cause_item ps l o e h = first_kept o _ h ∙ ap (λ c. cause_or c (if is_twice ps l.label then Some Twice else (if is_too_large (ps ++ next ps l ∷ []) then Some TooLarge else None))) e

later_cause : (ps : List Placed) (l : Line) (o : Option Cause) → o ≡ item_cause ps l.item → is_some o ≡ false → (if is_twice ps l.label then Some Twice else (if is_too_large (ps ++ next ps l ∷ []) then Some TooLarge else None)) ≡ cause_of ps l
unfolding cause_of
later_cause ps l o e h =
    ap (λ c. cause_or c (if is_twice ps l.label then Some Twice else (if is_too_large (ps ++ next ps l ∷ []) then Some TooLarge else None))) (sym (none_from o h) ∙ e)

pub cause_twice : (ps : List Placed) (l : Line) (o : Option Cause) → o ≡ item_cause ps l.item → is_some o ≡ false → is_twice ps l.label ≡ true → Some Twice ≡ cause_of ps l
cause_twice ps l o e h t = sym (ap (λ b. if b then Some Twice else (if is_too_large (ps ++ next ps l ∷ []) then Some TooLarge else None)) t) ∙ later_cause ps l o e h

pub cause_size : (ps : List Placed) (l : Line) (o : Option Cause) (b : Bool) → o ≡ item_cause ps l.item → is_some o ≡ false → is_twice ps l.label ≡ false → is_too_large (ps ++ next ps l ∷ []) ≡ b → (if b then Some TooLarge else None) ≡ cause_of ps l
cause_size ps l o b e h t s =
    ap (λ x. if x then Some TooLarge else None) (sym s) ∙ sym (ap (λ x. if x then Some Twice else (if is_too_large (ps ++ next ps l ∷ []) then Some TooLarge else None)) t) ∙ later_cause ps l o e h

-- a draft exceeds a limit exactly if its lines do
pub exceeds_lines : (d : Draft) (ps : List Placed) → IsDraft d ps → exceeds d ≡ is_too_large ps
unfolding exceeds is_too_large
exceeds_lines d ps a = rw (a.in_text.bytes, a.in_data.bytes, a.names.entries, a.labels, a.in_text.fixes, a.in_data.fixes) refl

pub none_of_five : (a b c d e : Bool) → (a || (b || (c || (d || e)))) ≡ false → (a ≡ false) × (b ≡ false) × (c ≡ false) × (d ≡ false) × (e ≡ false)
none_of_five true b c d e h = cc
none_of_five false true c d e h = cc
none_of_five false false true d e h = cc
none_of_five false false false true e h = cc
none_of_five false false false false e h = (refl, refl, refl, refl, h)

pub small_draft : (d : Draft) → exceeds d ≡ false → IsSmall d
unfolding exceeds
small_draft d h =
    let (a, b, c, e, f) = none_of_five _ _ _ _ _ h in
    record { small_text = ltb-false _ _ a; small_data = ltb-false _ _ b; few_names = ltb-false _ _ c; few_labels = ltb-false _ _ e }
