-- A draft with one more line.
use Rattle.std.proofs.Common.{◌≡◌, ℕ, zero, suc, ◌+◌, ◌≤◌, true, false, List, [], ◌∷◌, ◌++◌, length, sym, ap, ◌∙◌, subst, arith, append_assoc}
use Rattle.std.specs.Prelude.{if◌then◌else◌, ◌==◌}
use Rattle.ppc_text.specs.declared.line.Item.{Item}
use Rattle.ppc_text.specs.declared.line.Item.TheVariants.{Nothing, Text, Data, Global, Long, Ascii, Space, Align, Instruction}
use Rattle.ppc_text.specs.declared.line.Line.{Line}
use Rattle.asm_lines.specs.declared.section.Section.{Section}
use Rattle.asm_lines.specs.declared.names.Label.{Label}
use Rattle.asm_lines.specs.declared.draft.Draft.{Draft}
use Rattle.asm_lines.specs.Items.{Placed, section_after, section_at, next, item_bytes, size}
use Rattle.asm_lines.specs.Names.{label_names, item_names, global_names, defined, globals, mentions, label_at, line_label, labels, item_fixes, fixes}
use Rattle.asm_lines.specs.Drafts.{AreNames, IsSection, IsDraft}
use Rattle.asm_lines.proofs.Steps.{section_at-snoc, section_grows, section_stays, fixes_grow, fixes_stay, labels-snoc, mentions-snoc, defined-snoc, globals-snoc}

pub section_more : (w : ℕ) (ps : List Placed) (p : Placed) (s s' : Section) → IsSection w ps s → (p.section == w) ≡ true → s'.bytes.items ≡ s.bytes.items ++ item_bytes (length s.bytes.items) p.item
    → s'.fixes.items ≡ s.fixes.items ++ item_fixes (length s.bytes.items) p.item → IsSection w (ps ++ p ∷ []) s'
section_more w ps p s s' a h b f =
    let n : length s.bytes.items ≡ size w ps = ap length a.bytes in
    record {
      bytes = b ∙ ap (λ k. s.bytes.items ++ item_bytes k p.item) n ∙ ap (λ (bs : List ℕ). bs ++ item_bytes (size w ps) p.item) a.bytes ∙ sym (section_grows w ps p h);
      fixes = f ∙ ap (λ k. s.fixes.items ++ item_fixes k p.item) n ∙ ap (λ fs. fs ++ item_fixes (size w ps) p.item) a.fixes ∙ sym (fixes_grow w ps p h);
    }

pub section_same : (w : ℕ) (ps : List Placed) (p : Placed) (s : Section) → IsSection w ps s → (p.section == w) ≡ false → IsSection w (ps ++ p ∷ []) s
section_same w ps p s a h = record { bytes = a.bytes ∙ sym (section_stays w ps p h); fixes = a.fixes ∙ sym (fixes_stay w ps p h) }

pub known_after : (item : Item) (s : ℕ) → s ≤ 1 → section_after item s ≤ 1
known_after Nothing s h = h
known_after Text s h = omega arith
known_after Data s h = omega arith
known_after (Global name) s h = h
known_after (Long vs) s h = h
known_after (Ascii bs) s h = h
known_after (Space n) s h = h
known_after (Align n) s h = h
known_after (Instruction i) s h = h

size_pick : (k : ℕ) (ps : List Placed) (x y : ℕ) → k ≤ 1 → x ≡ size 0 ps → y ≡ size 1 ps → (if k == 0 then x else y) ≡ size k ps
size_pick zero ps x y h p q = p
size_pick (suc zero) ps x y h p q = q
size_pick (suc (suc k)) ps x y h p q = absurd (omega arith)

-- the size of the section that the lines end in
pub size_at : (d : Draft) (ps : List Placed) → IsDraft d ps → (if d.section == 0 then length d.text_part.bytes.items else length d.data_part.bytes.items) ≡ size (section_at ps) ps
size_at d ps a = size_pick d.section ps _ _ a.known (ap length a.in_text.bytes) (ap length a.in_data.bytes) ∙ ap (λ k. size k ps) a.section

-- the part of a line's effect that doesn't depend on its section
pub record After (d d' : Draft) (l : Line) : Type 0 where
  pub section : d'.section ≡ section_after l.item d.section
  pub labels : d'.labels.items ≡ d.labels.items ++ label_at l.label d.section (if d.section == 0 then length d.text_part.bytes.items else length d.data_part.bytes.items)
  pub names : (ns ls gs : List (List ℕ)) → AreNames d.names ns ls gs → AreNames d'.names ((ns ++ label_names l.label) ++ item_names l.item) (ls ++ label_names l.label) (gs ++ global_names l.item)

draft_with : (d d' : Draft) (ps : List Placed) (l : Line) → IsDraft d ps → After d d' l → IsSection 0 (ps ++ next ps l ∷ []) d'.text_part → IsSection 1 (ps ++ next ps l ∷ []) d'.data_part → IsDraft d' (ps ++ next ps l ∷ [])
draft_with d d' ps l a b t u =
    let named = b.names (mentions ps) (defined ps) (globals ps) a.names in
    let m : (mentions ps ++ label_names l.label) ++ item_names l.item ≡ mentions (ps ++ next ps l ∷ []) = append_assoc (mentions ps) (label_names l.label) (item_names l.item) ∙ sym (mentions-snoc ps (next ps l)) in
    record {
      section = b.section ∙ ap (section_after l.item) a.section ∙ sym (section_at-snoc ps (next ps l));
      known = subst (λ k. k ≤ 1) (sym b.section) (known_after l.item d.section a.known);
      in_text = t;
      in_data = u;
      labels = b.labels ∙ ap (λ k. d.labels.items ++ label_at l.label d.section k) (size_at d ps a) ∙ ap (λ k. d.labels.items ++ label_at l.label k (size (section_at ps) ps)) a.section
          ∙ ap (λ (ls : List Label). ls ++ line_label ps (next ps l)) a.labels ∙ sym (labels-snoc ps (next ps l));
      names = subst (λ ns. AreNames d'.names ns (defined (ps ++ next ps l ∷ [])) (globals (ps ++ next ps l ∷ []))) m
          (subst (λ ls. AreNames d'.names ((mentions ps ++ label_names l.label) ++ item_names l.item) ls (globals (ps ++ next ps l ∷ []))) (sym (defined-snoc ps (next ps l)))
          (subst (λ gs. AreNames d'.names ((mentions ps ++ label_names l.label) ++ item_names l.item) (defined ps ++ label_names l.label) gs) (sym (globals-snoc ps (next ps l))) named));
    }

is_zero : (k : ℕ) → k ≡ 0 → (k == 0) ≡ true
is_zero k e = ap (λ (n : ℕ). n == 0) e

is_one : (k : ℕ) → k ≡ 1 → (k == 1) ≡ true
is_one k e = ap (λ (n : ℕ). n == 1) e

pub in_text : (d d' : Draft) (ps : List Placed) (l : Line) → IsDraft d ps → After d d' l → d'.section ≡ 0
    → d'.text_part.bytes.items ≡ d.text_part.bytes.items ++ item_bytes (length d.text_part.bytes.items) l.item → d'.text_part.fixes.items ≡ d.text_part.fixes.items ++ item_fixes (length d.text_part.bytes.items) l.item
    → d'.data_part ≡ d.data_part → IsDraft d' (ps ++ next ps l ∷ [])
in_text d d' ps l a b z e f s =
    let p : section_after l.item (section_at ps) ≡ 0 = sym (b.section ∙ ap (section_after l.item) a.section) ∙ z in
    draft_with d d' ps l a b
    (section_more 0 ps (next ps l) d.text_part d'.text_part a.in_text (is_zero _ p) e f)
    (subst (λ (t : Section). IsSection 1 (ps ++ next ps l ∷ []) t) (sym s) (section_same 1 ps (next ps l) d.data_part a.in_data (ap (λ (n : ℕ). n == 1) p)))

pub in_data : (d d' : Draft) (ps : List Placed) (l : Line) → IsDraft d ps → After d d' l → (d'.section ≡ 0 → ⊥)
    → d'.data_part.bytes.items ≡ d.data_part.bytes.items ++ item_bytes (length d.data_part.bytes.items) l.item → d'.data_part.fixes.items ≡ d.data_part.fixes.items ++ item_fixes (length d.data_part.bytes.items) l.item
    → d'.text_part ≡ d.text_part → IsDraft d' (ps ++ next ps l ∷ [])
in_data d d' ps l a b z e f s =
    let k : section_after l.item d.section ≤ 1 = known_after l.item d.section a.known in
    let o : d'.section ≡ 1 = omega (arith, b.section) in
    let p : section_after l.item (section_at ps) ≡ 1 = sym (b.section ∙ ap (section_after l.item) a.section) ∙ o in
    draft_with d d' ps l a b
    (subst (λ (t : Section). IsSection 0 (ps ++ next ps l ∷ []) t) (sym s) (section_same 0 ps (next ps l) d.text_part a.in_text (ap (λ (n : ℕ). n == 0) p)))
    (section_more 1 ps (next ps l) d.data_part d'.data_part a.in_data (is_one _ p) e f)
