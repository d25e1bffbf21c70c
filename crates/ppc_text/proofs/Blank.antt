-- The field that a reference fills is 0 in each instruction of a line.
use Rattle.std.proofs.Common.{◌≡◌, ◌≢◌, ℕ, zero, suc, Bool, true, false, not, List, [], ◌∷◌, Option, Some, None, drop, refl, sym, ap, ◌∙◌, subst, eq-eqb}
use Rattle.std.specs.Prelude.{if◌then◌else◌, ◌==◌, ◌&&◌, ◌-◌, slice_index, bytes_eq, codes, option_map}
use Rattle.std.proofs.lemmas.Bool.{eqb-true}
use Rattle.std.proofs.lemmas.List.{get_or-set_other}
use Rattle.ppc_text.specs.declared.token.Half.{Half}
use Rattle.ppc_text.specs.declared.token.Half.TheVariants.{Low, High, HighAdjusted}
use Rattle.ppc_text.specs.declared.token.Reference.{Reference}
use Rattle.ppc_text.specs.declared.token.Token.{Token}
use Rattle.ppc_text.specs.declared.token.Token.TheVariants as tokens
use Rattle.ppc_text.specs.declared.part.Reach.{Reach}
use Rattle.ppc_text.specs.declared.part.Reach.TheVariants.{Long, Short}
use Rattle.ppc_text.specs.declared.part.Part.{Part}
use Rattle.ppc_text.specs.declared.part.Part.TheVariants as parts
use Rattle.ppc_text.specs.declared.part.Shape.{Shape}
use Rattle.ppc_text.specs.declared.part.Shape.TheVariants as shapes
use Rattle.ppc_text.specs.declared.operand.Signed.{Signed}
use Rattle.ppc_text.specs.declared.operand.Address.{Address}
use Rattle.ppc_text.specs.declared.operand.Operand.{Operand}
use Rattle.ppc_text.specs.declared.operand.Operands.{Operands}
use Rattle.ppc_text.specs.declared.values.Value.{Value}
use Rattle.ppc_text.specs.declared.line.Instruction.{Instruction}
use Rattle.ppc_text.specs.declared.line.Item.{Item}
use Rattle.ppc_text.specs.declared.line.Item.TheVariants as items
use Rattle.ppc_text.specs.declared.line.Line.{Line}
use Rattle.ppc_text.specs.declared.mnemonic.Spelling.{Spelling}
use Rattle.ppc_text.specs.Tokens.{tokens_of}
use Rattle.ppc_text.specs.Shapes.{parts_of}
use Rattle.ppc_text.specs.Operands.{number_at, address_at, half_kind, first_half, with_half, with_address, half_operand, plain, by_number, residue, immediate_at, reach_of, target_kind, words_of, target_address, register_of, register_at, swapped, is_comma, is_open, is_close, mark_operand, part_at, with_field, with_value, later, finished, with_operand, operands_from, operands_at}
use Rattle.ppc_text.specs.Mnemonics.{spelling_of}
use Rattle.ppc_text.specs.Lines.{label_of, label_tokens, values_of, none_left, number_alone, name_alone, text_alone, is_alignment, alignment_item, instruction_with, spelled_instruction, instruction_of, item_of, item_at, line_of}
use Rattle.ppc_text.proofs.Naming.{Holds}
use Rattle.ppc_text.specs.Blank.{IsBlank, relocated_field}

-- ---- one field
set_zero : (fs : List ℕ) (k : ℕ) → slice_index (with_field fs k 0) k ≡ 0
set_zero [] k = refl
set_zero (f ∷ fs) k = elim k as (λ n. slice_index (with_field (f ∷ fs) n 0) n ≡ 0) [ zero ↦ refl | suc m ↦ set_zero fs m ]

no : false ≡ true → ⊥
no e = cc

both_parts : (a b : Bool) → (a && b) ≡ true → (a ≡ true) × (b ≡ true)
both_parts true true h = (refl, refl)
both_parts true false h = cc
both_parts false b h = cc

apart : (j k : ℕ) → not (j == k) ≡ true → k ≢ j
apart j k h = λ same. no (sym (ap not (eq-eqb j k (sym same))) ∙ h)

-- a field of another place stays
other_stays : (fs : List ℕ) (j k v : ℕ) → not (j == k) ≡ true → slice_index (with_field fs j v) k ≡ slice_index fs k
other_stays fs j k v h = get_or-set_other fs j k v 0 (apart j k h)

-- ---- parts
-- the part may have a reference
abbrev may_refer : Part → Bool
may_refer (parts.Signed place greatest) = true
may_refer (parts.Unsigned place) = true
may_refer (parts.Target place reach) = true
may_refer part = false

-- a reference of the part fills field k
abbrev fills : ℕ → Part → Bool
fills k (parts.Signed place greatest) = place == k && k == 2
fills k (parts.Unsigned place) = place == k && k == 2
fills k (parts.Target place Long) = place == k && k == 0
fills k (parts.Target place Short) = place == k && k == 2
fills k part = false

-- the part has no reference, and leaves field k
abbrev leaves : ℕ → Part → Bool
leaves k parts.Comma = true
leaves k parts.Open = true
leaves k parts.Close = true
leaves k (parts.Register place) = not (place == k)
leaves k (parts.Twice place other) = not (place == k) && not (other == k)
leaves k (parts.Number place greatest) = not (place == k)
leaves k (parts.Special place) = not (place == k)
leaves k (parts.Fixed place value) = not (place == k)
leaves k part = false

abbrev all_leave : ℕ → List Part → Bool
all_leave k [] = true
all_leave k (p ∷ ps) = leaves k p && all_leave k ps

-- at most one part may have a reference: it fills field k, which the parts after it leave
abbrev fill_one : ℕ → List Part → Bool
fill_one k [] = true
fill_one k (p ∷ ps) = if may_refer p then fills k p && all_leave k ps else fill_one k ps

-- the field that a reference of the shape fills
abbrev field_of : Shape → ℕ
field_of shapes.Branch = 0
field_of shape = 2

shape_fills : (s : Shape) → fill_one (field_of s) (parts_of s) ≡ true
shape_fills shapes.Immediate = refl
shape_fills shapes.Shifted = refl
shape_fills shapes.LogicalImmediate = refl
shape_fills shapes.CompareImmediate = refl
shape_fills shapes.CompareUnsigned = refl
shape_fills shapes.Compare = refl
shape_fills shapes.TrapImmediate = refl
shape_fills shapes.Trap = refl
shape_fills shapes.Memory = refl
shape_fills shapes.Three = refl
shape_fills shapes.Two = refl
shape_fills shapes.LogicalThree = refl
shape_fills shapes.LogicalTwo = refl
shape_fills shapes.Shift = refl
shape_fills shapes.Rotate = refl
shape_fills shapes.RotateBy = refl
shape_fills shapes.Branch = refl
shape_fills shapes.BranchConditional = refl
shape_fills shapes.BranchRegister = refl
shape_fills shapes.Bits = refl
shape_fills shapes.Fields = refl
shape_fills shapes.Field = refl
shape_fills shapes.One = refl
shape_fills shapes.Mask = refl
shape_fills shapes.FromSpecial = refl
shape_fills shapes.ToSpecial = refl
shape_fills shapes.Nothing = refl
shape_fills shapes.LoadImmediate = refl
shape_fills shapes.LoadShifted = refl
shape_fills shapes.Move = refl
shape_fills shapes.Always = refl
shape_fills shapes.FromLink = refl
shape_fills shapes.ToLink = refl

-- ---- operands without a reference
abbrev NoReference : Operand → Type 0
NoReference x = x.reference ≡ None

plain_none : (o : Option ℕ) (n : ℕ) → Holds NoReference (plain o n)
plain_none (Some v) n = refl
plain_none None n = tt

by_none : (o : Option Signed) (go : Signed → Option Operand) → ((n : Signed) → Holds NoReference (go n)) → Holds NoReference (by_number o go None)
by_none (Some n) go h = h n
by_none None go h = tt

register_none : (ts : List Token) → Holds NoReference (register_at ts)
register_none [] = tt
register_none (tokens.Name s ∷ ts) = plain_none (register_of s) 1
register_none (t ∷ ts) = tt

mark_none : (c : Bool) → Holds NoReference (mark_operand c)
mark_none true = refl
mark_none false = tt

part_none : (p : Part) (absolute : Bool) (ts : List Token) → may_refer p ≡ false → Holds NoReference (part_at p absolute ts)
unfolding part_at
part_none parts.Comma absolute ts h = mark_none (is_comma ts)
part_none parts.Open absolute ts h = mark_none (is_open ts)
part_none parts.Close absolute ts h = mark_none (is_close ts)
part_none (parts.Register place) absolute ts h = register_none ts
part_none (parts.Twice place other) absolute ts h = register_none ts
part_none (parts.Number place greatest) absolute ts h = by_none (number_at ts) (λ n. plain (residue 0 greatest n) n.count) (λ n. plain_none (residue 0 greatest n) n.count)
part_none (parts.Special place) absolute ts h = by_none (number_at ts) (λ n. plain (swapped (residue 0 1023 n)) n.count) (λ n. plain_none (swapped (residue 0 1023 n)) n.count)
part_none (parts.Signed place greatest) absolute ts h = absurd (no (sym h))
part_none (parts.Unsigned place) absolute ts h = absurd (no (sym h))
part_none (parts.Target place reach) absolute ts h = absurd (no (sym h))
part_none (parts.Fixed place value) absolute ts h = refl

-- ---- operands with one
-- a reference of field k, and 0 as the operand's value
abbrev Fills : ℕ → Operand → Option Reference → Type 0
Fills k x (Some r) = (relocated_field r.kind ≡ k) × (x.value ≡ 0)
Fills k x None = Unit {0}

abbrev MayFill : ℕ → Operand → Type 0
MayFill k x = Fills k x x.reference

plain_fills : (k : ℕ) (o : Option ℕ) (n : ℕ) → Holds (MayFill k) (plain o n)
plain_fills k (Some v) n = tt
plain_fills k None n = tt

by_fills : (k : ℕ) (o : Option Signed) (go : Signed → Option Operand) (other : Option Operand) → ((n : Signed) → Holds (MayFill k) (go n)) → Holds (MayFill k) other → Holds (MayFill k) (by_number o go other)
by_fills k (Some n) go other h m = h n
by_fills k None go other h m = m

half_field : (h : Half) → relocated_field (half_kind h) ≡ 2
half_field Low = refl
half_field High = refl
half_field HighAdjusted = refl

half_fills : (a : Address) (o : Option Half) → Holds (MayFill 2) (with_half a o)
half_fills a (Some h) = (half_field h, refl)
half_fills a None = tt

halves_fill : (ts : List Token) (o : Option Address) → Holds (MayFill 2) (with_address o (λ a. with_half a (first_half (drop a.count ts))))
halves_fill ts (Some a) = half_fills a (first_half (drop a.count ts))
halves_fill ts None = tt

immediate_fills : (least greatest : ℕ) (ts : List Token) → Holds (MayFill 2) (immediate_at least greatest ts)
immediate_fills least greatest ts =
    by_fills 2 (number_at ts) (λ n. plain (residue least greatest n) n.count) (half_operand ts) (λ n. plain_fills 2 (residue least greatest n) n.count) (halves_fill ts (address_at ts))

-- the field of a target
abbrev reach_field : Reach → ℕ
reach_field Long = 0
reach_field Short = 2

target_field : (reach : Reach) (absolute : Bool) → relocated_field (target_kind reach absolute) ≡ reach_field reach
target_field Long false = refl
target_field Long true = refl
target_field Short false = refl
target_field Short true = refl

address_fills : (k kind : ℕ) (o : Option Address) → relocated_field kind ≡ k → Holds (MayFill k) (target_address kind o)
address_fills k kind (Some a) h = (h, refl)
address_fills k kind None h = tt

target_fills : (reach : Reach) (absolute : Bool) (ts : List Token) → Holds (MayFill (reach_field reach)) (part_at (parts.Target 0 reach) absolute ts)
unfolding part_at
target_fills reach absolute ts =
    by_fills (reach_field reach) (number_at ts) (λ n. plain (words_of (residue (reach_of reach) (reach_of reach - 1) n)) n.count) (target_address (target_kind reach absolute) (address_at ts))
    (λ n. plain_fills (reach_field reach) (words_of (residue (reach_of reach) (reach_of reach - 1) n)) n.count)
    (address_fills (reach_field reach) (target_kind reach absolute) (address_at ts) (target_field reach absolute))

at_field : (n k : ℕ) (o : Option Operand) → (k == n) ≡ true → Holds (MayFill n) o → Holds (MayFill k) o
at_field n k o e h = subst (λ j. Holds (MayFill j) o) (sym (eqb-true k n e)) h

part_fills : (k : ℕ) (p : Part) (absolute : Bool) (ts : List Token) → fills k p ≡ true → Holds (MayFill k) (part_at p absolute ts)
unfolding part_at
part_fills k (parts.Signed place greatest) absolute ts h = at_field 2 k _ ((both_parts (place == k) (k == 2) h).1) (immediate_fills 0x8000 greatest ts)
part_fills k (parts.Unsigned place) absolute ts h = at_field 2 k _ ((both_parts (place == k) (k == 2) h).1) (immediate_fills 0 0xffff ts)
part_fills k (parts.Target place Long) absolute ts h = at_field 0 k _ ((both_parts (place == k) (k == 0) h).1) (target_fills Long absolute ts)
part_fills k (parts.Target place Short) absolute ts h = at_field 2 k _ ((both_parts (place == k) (k == 2) h).1) (target_fills Short absolute ts)
part_fills k parts.Comma absolute ts h = absurd (no h)
part_fills k parts.Open absolute ts h = absurd (no h)
part_fills k parts.Close absolute ts h = absurd (no h)
part_fills k (parts.Register place) absolute ts h = absurd (no h)
part_fills k (parts.Twice place other) absolute ts h = absurd (no h)
part_fills k (parts.Number place greatest) absolute ts h = absurd (no h)
part_fills k (parts.Special place) absolute ts h = absurd (no h)
part_fills k (parts.Fixed place value) absolute ts h = absurd (no h)

-- ---- fields
-- a reference fills field k, which is 0
abbrev Kept : ℕ → List ℕ → Option Reference → Type 0
Kept k fs (Some r) = (relocated_field r.kind ≡ k) × (slice_index fs k ≡ 0)
Kept k fs None = Unit {0}

abbrev AllKept : ℕ → Operands → Type 0
AllKept k o = Kept k o.fields o.reference

value_left : (k : ℕ) (p : Part) (fs : List ℕ) (v : ℕ) → leaves k p ≡ true → slice_index (with_value fs p v) k ≡ slice_index fs k
unfolding with_value
value_left k parts.Comma fs v h = refl
value_left k parts.Open fs v h = refl
value_left k parts.Close fs v h = refl
value_left k (parts.Register place) fs v h = other_stays fs place k v h
value_left k (parts.Twice place other) fs v h =
    let b = both_parts (not (place == k)) (not (other == k)) h in
    other_stays (with_field fs place v) other k v b.1 ∙ other_stays fs place k v b.0
value_left k (parts.Number place greatest) fs v h = other_stays fs place k v h
value_left k (parts.Special place) fs v h = other_stays fs place k v h
value_left k (parts.Signed place greatest) fs v h = absurd (no h)
value_left k (parts.Unsigned place) fs v h = absurd (no h)
value_left k (parts.Target place reach) fs v h = absurd (no h)
value_left k (parts.Fixed place value) fs v h = other_stays fs place k v h

zero_put : (k place v : ℕ) (fs : List ℕ) → (place == k) ≡ true → v ≡ 0 → slice_index (with_field fs place v) k ≡ 0
zero_put k place v fs e z =
    ap (λ j. slice_index (with_field fs j v) k) (eqb-true place k e) ∙ ap (λ w. slice_index (with_field fs k w) k) z ∙ set_zero fs k

value_zero : (k : ℕ) (p : Part) (fs : List ℕ) (v : ℕ) → fills k p ≡ true → v ≡ 0 → slice_index (with_value fs p v) k ≡ 0
unfolding with_value
value_zero k (parts.Signed place greatest) fs v h z = zero_put k place v fs ((both_parts (place == k) (k == 2) h).0) z
value_zero k (parts.Unsigned place) fs v h z = zero_put k place v fs ((both_parts (place == k) (k == 2) h).0) z
value_zero k (parts.Target place Long) fs v h z = zero_put k place v fs ((both_parts (place == k) (k == 0) h).0) z
value_zero k (parts.Target place Short) fs v h z = zero_put k place v fs ((both_parts (place == k) (k == 2) h).0) z
value_zero k parts.Comma fs v h z = absurd (no h)
value_zero k parts.Open fs v h z = absurd (no h)
value_zero k parts.Close fs v h z = absurd (no h)
value_zero k (parts.Register place) fs v h z = absurd (no h)
value_zero k (parts.Twice place other) fs v h z = absurd (no h)
value_zero k (parts.Number place greatest) fs v h z = absurd (no h)
value_zero k (parts.Special place) fs v h z = absurd (no h)
value_zero k (parts.Fixed place value) fs v h z = absurd (no h)

kept_left : (k : ℕ) (p : Part) (fs : List ℕ) (v : ℕ) (o x : Option Reference) → leaves k p ≡ true → x ≡ None → Kept k fs o → Kept k (with_value fs p v) (later o x)
kept_left k p fs v o None h e kept = go o kept where
  go : (o : Option Reference) → Kept k fs o → Kept k (with_value fs p v) o
  go (Some r) g = (g.0, value_left k p fs v h ∙ g.1)
  go None g = tt
kept_left k p fs v o (Some r) h e kept = absurd (cc)

kept_put : (k : ℕ) (p : Part) (fs : List ℕ) (x : Operand) (o : Option Reference) → fills k p ≡ true → Fills k x o → Kept k (with_value fs p x.value) (later None o)
kept_put k p fs x (Some r) h g = (g.0, value_zero k p fs x.value h g.1)
kept_put k p fs x None h g = tt

none_refers : (k : ℕ) (p : Part) → leaves k p ≡ true → may_refer p ≡ false
none_refers k parts.Comma h = refl
none_refers k parts.Open h = refl
none_refers k parts.Close h = refl
none_refers k (parts.Register place) h = refl
none_refers k (parts.Twice place other) h = refl
none_refers k (parts.Number place greatest) h = refl
none_refers k (parts.Special place) h = refl
none_refers k (parts.Signed place greatest) h = absurd (no h)
none_refers k (parts.Unsigned place) h = absurd (no h)
none_refers k (parts.Target place reach) h = absurd (no h)
none_refers k (parts.Fixed place value) h = refl

kept_finished : (k : ℕ) (fs : List ℕ) (o : Option Reference) (ts : List Token) → Kept k fs o → Holds (AllKept k) (finished fs o ts)
kept_finished k fs o [] g = g
kept_finished k fs o (t ∷ ts) g = tt

kept_with : (k : ℕ) (P : Operand → Type 0) (o : Option Operand) (go : Operand → Option Operands) → Holds P o → ((x : Operand) → P x → Holds (AllKept k) (go x)) → Holds (AllKept k) (with_operand o go)
kept_with k P (Some x) go p h = h x p
kept_with k P None go p h = tt

-- the parts after the one with the reference
kept_after : (k : ℕ) (ps : List Part) (absolute : Bool) (fs : List ℕ) (o : Option Reference) (ts : List Token) → all_leave k ps ≡ true → Kept k fs o → Holds (AllKept k) (operands_from ps absolute fs o ts)
kept_after k [] absolute fs o ts h g = kept_finished k fs o ts g
kept_after k (p ∷ ps) absolute fs o ts h g =
    let b = both_parts (leaves k p) (all_leave k ps) h in
    kept_with k NoReference (part_at p absolute ts) (λ x. operands_from ps absolute (with_value fs p x.value) (later o x.reference) (drop x.count ts)) (part_none p absolute ts (none_refers k p b.0))
    (λ x n. kept_after k ps absolute (with_value fs p x.value) (later o x.reference) (drop x.count ts) b.1 (kept_left k p fs x.value o x.reference b.0 n g))

no_later : (o : Option Reference) → o ≡ None → later None o ≡ None
no_later (Some r) e = absurd (cc)
no_later None e = refl

-- the parts from one without a reference, or with the only one, on
kept_step : (k : ℕ) (p : Part) (ps : List Part) (absolute : Bool) (fs : List ℕ) (ts : List Token) (b : Bool) → may_refer p ≡ b → (if b then fills k p && all_leave k ps else fill_one k ps) ≡ true
    → ((gs : List ℕ) (us : List Token) → fill_one k ps ≡ true → Holds (AllKept k) (operands_from ps absolute gs None us)) → Holds (AllKept k) (operands_from (p ∷ ps) absolute fs None ts)
kept_step k p ps absolute fs ts true e h more =
    let b = both_parts (fills k p) (all_leave k ps) h in
    kept_with k (MayFill k) (part_at p absolute ts) (λ x. operands_from ps absolute (with_value fs p x.value) (later None x.reference) (drop x.count ts)) (part_fills k p absolute ts b.0)
    (λ x m. kept_after k ps absolute (with_value fs p x.value) (later None x.reference) (drop x.count ts) b.1 (kept_put k p fs x x.reference b.0 m))
kept_step k p ps absolute fs ts false e h more =
    kept_with k NoReference (part_at p absolute ts) (λ x. operands_from ps absolute (with_value fs p x.value) (later None x.reference) (drop x.count ts)) (part_none p absolute ts e)
    (λ x n. subst (λ o. Holds (AllKept k) (operands_from ps absolute (with_value fs p x.value) o (drop x.count ts))) (sym (no_later x.reference n)) (more (with_value fs p x.value) (drop x.count ts) h))

kept_from : (k : ℕ) (ps : List Part) (absolute : Bool) (fs : List ℕ) (ts : List Token) → fill_one k ps ≡ true → Holds (AllKept k) (operands_from ps absolute fs None ts)
kept_from k [] absolute fs ts h = kept_finished k fs None ts tt
kept_from k (p ∷ ps) absolute fs ts h = kept_step k p ps absolute fs ts (may_refer p) refl h (λ gs us f. kept_from k ps absolute gs us f)

-- ---- lines
kept_blank : (k : ℕ) (fs : List ℕ) (o : Option Reference) → Kept k fs o → IsBlank o fs
kept_blank k fs (Some r) g = ap (slice_index fs) g.0 ∙ g.1
kept_blank k fs None g = tt

abbrev BlankInsn : Instruction → Type 0
BlankInsn i = IsBlank i.reference i.fields

blank_with : (k : ℕ) (s : Spelling) (o : Option Operands) → Holds (AllKept k) o → Holds BlankInsn (instruction_with s o)
blank_with k s (Some o) g = kept_blank k o.fields o.reference g
blank_with k s None g = tt

blank_spelled : (o : Option Spelling) (ts : List Token) → Holds BlankInsn (spelled_instruction o ts)
unfolding operands_at
blank_spelled (Some s) ts =
    blank_with (field_of s.shape) s (operands_from (parts_of s.shape) s.absolute s.fields None ts) (kept_from (field_of s.shape) (parts_of s.shape) s.absolute s.fields ts (shape_fills s.shape))
blank_spelled None ts = tt

abbrev pub BlankItem : Item → Type 0
BlankItem (items.Instruction i) = IsBlank i.reference i.fields
BlankItem item = Unit {0}

abbrev MaybeBlank : Option Item → Type 0
MaybeBlank o = Holds BlankItem o

pick : (c : Bool) (x y : Option Item) → MaybeBlank x → MaybeBlank y → MaybeBlank (if c then x else y)
pick true x y p q = p
pick false x y p q = q

blank_left : (item : Item) (ts : List Token) → BlankItem item → MaybeBlank (none_left (Some item) ts)
blank_left item [] g = g
blank_left item (t ∷ ts) g = tt

blank_global : (o : Option (List ℕ)) → MaybeBlank (option_map items.Global o)
blank_global (Some s) = tt
blank_global None = tt

blank_long : (o : Option (List Value)) → MaybeBlank (option_map items.Long o)
blank_long (Some vs) = tt
blank_long None = tt

blank_ascii : (o : Option (List ℕ)) → MaybeBlank (option_map items.Ascii o)
blank_ascii (Some s) = tt
blank_ascii None = tt

blank_space : (o : Option ℕ) → MaybeBlank (option_map items.Space o)
blank_space (Some n) = tt
blank_space None = tt

blank_align : (o : Option ℕ) → MaybeBlank (alignment_item o)
blank_align (Some n) = pick (is_alignment n) (Some (items.Align n)) None tt tt
blank_align None = tt

blank_made : (o : Option Instruction) → Holds BlankInsn o → MaybeBlank (option_map items.Instruction o)
blank_made (Some i) g = g
blank_made None g = tt

blank_item_of : (name : List ℕ) (ts : List Token) → MaybeBlank (item_of name ts)
unfolding item_of instruction_of
blank_item_of name ts =
    pick (bytes_eq name (codes ".text")) _ _ (blank_left items.Text ts tt)
    (pick (bytes_eq name (codes ".data")) _ _ (blank_left items.Data ts tt)
    (pick (bytes_eq name (codes ".globl")) _ _ (blank_global (name_alone ts))
    (pick (bytes_eq name (codes ".long")) _ _ (blank_long (values_of ts))
    (pick (bytes_eq name (codes ".ascii")) _ _ (blank_ascii (text_alone ts))
    (pick (bytes_eq name (codes ".space")) _ _ (blank_space (number_alone 0x10000 ts))
    (pick (bytes_eq name (codes ".align")) _ _ (blank_align (number_alone 16 ts)) (blank_made (spelled_instruction (spelling_of name) ts) (blank_spelled (spelling_of name) ts))))))))

blank_item : (ts : List Token) → MaybeBlank (item_at ts)
blank_item [] = tt
blank_item (tokens.Name s ∷ ts) = blank_item_of s ts
blank_item (tokens.Dotted s ∷ ts) = blank_item_of s ts
blank_item (t ∷ ts) = tt

abbrev pub BlankLine : Line → Type 0
BlankLine l = BlankItem l.item

blank_lined : (label : Option (List ℕ)) (o : Option Item) → MaybeBlank o → Holds BlankLine (option_map (λ item. record { label = label; item = item }) o)
blank_lined label (Some item) h = h
blank_lined label None h = tt

pub blank_line : (bytes : List ℕ) → Holds BlankLine (line_of bytes)
unfolding line_of
blank_line bytes =
    let ts = tokens_of bytes in
    blank_lined (label_of ts) (item_at (drop (label_tokens (label_of ts)) ts)) (blank_item (drop (label_tokens (label_of ts)) ts))
