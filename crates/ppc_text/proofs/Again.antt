-- Reading an instruction's text gives the instruction.
use Rattle.std.proofs.Common.{◌≡◌, ℕ, zero, suc, ◌+◌, ◌*◌, ◌-◌, ◌/◌, ◌%◌, ◌<◌, ◌≤◌, Bool, true, false, ◌&&◌, ◌||◌, List, [], ◌∷◌, ◌++◌, length, drop, get_or, map, Option, Some, None, refl, sym, ap, ◌∙◌, subst, arith, eqb-true, inl, inr}
use Rattle.std.specs.Prelude.{if◌then◌else◌, ◌==◌, nat_le, nat_lt, nat_eq, codes, option_map, ◌⊎◌}
use Rattle.std.specs.List.{flat_map, list_any, list_all}
use Rattle.std.specs.Fmt.{digits, decimal}
use Rattle.std.proofs.lemmas.Bool.{and_parts, leb-true, ltb-true, ltb-false}
use Rattle.std.proofs.lemmas.List.{get_or-map}
use Rattle.std.proofs.Math.Nat.{min-le_left, min-le_right}
use Prim.Native.Char.{code}
use Rattle.wind_base.specs.Limits.{greatest_word}
use Rattle.ppc_word.specs.declared.row.Row.{Row}
use Rattle.ppc_word.specs.declared.insn.Insn.{Insn}
use Rattle.ppc_word.specs.Table.{Form, table, number, form_of}
use Rattle.ppc_word.proofs.Whole.{number-below, number-row, number-one}
use Rattle.ppc_text.specs.declared.token.Token.{Token}
use Rattle.ppc_text.specs.declared.token.Token.TheVariants as tokens
use Rattle.ppc_text.specs.declared.part.Reach.TheVariants.{Long, Short}
use Rattle.ppc_text.specs.declared.part.Part.{Part}
use Rattle.ppc_text.specs.declared.part.Part.TheVariants as parts
use Rattle.ppc_text.specs.declared.operand.Signed.{Signed}
use Rattle.ppc_text.specs.declared.operand.Operand.{Operand}
use Rattle.ppc_text.specs.declared.operand.Operands.{Operands}
use Rattle.ppc_text.specs.declared.mnemonic.Endings.{Endings}
use Rattle.ppc_text.specs.declared.mnemonic.Endings.TheVariants.{Bare, Record, Overflow, Link, LinkAbsolute}
use Rattle.ppc_text.specs.declared.mnemonic.Flags.{Flags}
use Rattle.ppc_text.specs.declared.mnemonic.Spelling.{Spelling}
use Rattle.ppc_text.specs.declared.line.Item.TheVariants as items
use Rattle.ppc_text.specs.Tokens.{tokens_from, tokens_of, token_at}
use Rattle.ppc_text.specs.Shapes.{parts_of}
use Rattle.ppc_text.specs.Operands.{number_at, residue, swapped, words_of, reach_of, register_of, plain, by_number, part_at, with_value, later, with_operand, operands_from, operands_at}
use Rattle.ppc_text.specs.Mnemonics.{Named, ending_of, named, flagged, is_absolute, spells, instructions, short_forms, mnemonics, no_name, named_as, spelling_of}
use Rattle.ppc_text.specs.Limits.{limit_of, limits_of, lies_below, are_within, special_of}
use Rattle.ppc_text.specs.Lines.{colon_first, name_first, label_tokens, item_at, item_of, instruction_with, instruction_of, spelled_instruction, line_at, line_of}
use Rattle.ppc_text.specs.Shown.{field_at, signed_text, part_text, operands_text, ending_text, text_of}
use Rattle.ppc_text.specs.Laws.{line_with}
use Rattle.ppc_text.proofs.Spellings.{length-instructions}
use Rattle.ppc_text.proofs.Fields.{along}
use Rattle.ppc_text.proofs.Widths.{fields_are, fields_within, at_row}
use Rattle.ppc_text.proofs.Digested.{stops, yes_le, nonzero, number_tokens, register_tokens}

-- two functions that agree on the whole table agree on each instruction
at_each : {B : Type 0} (F G : Named → B) → map F instructions ≡ map G instructions → (row : Row) → F (named_as row) ≡ G (named_as row)
unfolding named_as
at_each F G e row =
    let k = number row in
    let low : k < length instructions = omega (arith, number-below row, length-instructions) in
    sym (get_or-map F instructions k no_name (F no_name) low) ∙ ap (λ bs. get_or bs k (F no_name)) e ∙ get_or-map G instructions k no_name (F no_name) low

-- ---- the tokens of operands
tokens_if : Bool → ℕ → ℕ → List Token
tokens_if true least n = tokens.Number n ∷ []
tokens_if false least n = tokens.Minus ∷ tokens.Number (2 * least - n) ∷ []

signed_tokens : ℕ → ℕ → List Token
unfolding tokens_if
signed_tokens least n = tokens_if (nat_lt n least) least n

part_tokens : List ℕ → Part → List Token
unfolding signed_tokens
part_tokens fields parts.Comma = tokens.Comma ∷ []
part_tokens fields parts.Open = tokens.Open ∷ []
part_tokens fields parts.Close = tokens.Close ∷ []
part_tokens fields (parts.Register place) = tokens.Name (codes "r" ++ decimal (field_at fields place)) ∷ []
part_tokens fields (parts.Twice place other) = tokens.Name (codes "r" ++ decimal (field_at fields place)) ∷ []
part_tokens fields (parts.Number place greatest) = tokens.Number (field_at fields place) ∷ []
part_tokens fields (parts.Special place) = tokens.Number (special_of (field_at fields place)) ∷ []
part_tokens fields (parts.Signed place greatest) = signed_tokens 0x8000 (field_at fields place)
part_tokens fields (parts.Unsigned place) = tokens.Number (field_at fields place) ∷ []
part_tokens fields (parts.Target place reach) = signed_tokens (reach_of reach) (field_at fields place * 4)
part_tokens fields (parts.Fixed place value) = []

drop_all : {A : Type 0} (xs ys : List A) → drop (length xs) (xs ++ ys) ≡ ys
drop_all [] ys = refl
drop_all (x ∷ xs) ys = drop_all xs ys

-- ---- parts
unfoldable pub is_mark : Part → Bool
is_mark parts.Comma = true
is_mark parts.Open = true
is_mark parts.Close = true
is_mark p = false

unfoldable pub place_of : Part → ℕ
place_of (parts.Register place) = place
place_of (parts.Twice place other) = place
place_of (parts.Number place greatest) = place
place_of (parts.Special place) = place
place_of (parts.Signed place greatest) = place
place_of (parts.Unsigned place) = place
place_of (parts.Target place reach) = place
place_of (parts.Fixed place value) = place
place_of p = 0

-- a part that is written and fills one field
unfoldable pub is_single : Part → Bool
is_single (parts.Twice place other) = false
is_single (parts.Fixed place value) = false
is_single (parts.Signed place greatest) = nat_le 0x7fff greatest
is_single p = true

-- these parts begin with a mark, or there are none
unfoldable pub followed : List Part → Bool
unfolding is_mark
followed [] = true
followed (p ∷ ps) = is_mark p

-- a mark stands between two operands
unfoldable pub parted : List Part → Bool
unfolding is_mark is_single followed
parted [] = true
parted (p ∷ ps) = is_single p && ((is_mark p || followed ps) && parted ps)

-- a field lies below the limit of its part
unfoldable pub FitsPart : List ℕ → Part → Type 0
unfolding is_mark place_of
FitsPart fs p = is_mark p ≡ false → field_at fs (place_of p) < limit_of p

unfoldable pub AllFit : List ℕ → List Part → Type 0
unfolding FitsPart
AllFit fs [] = Unit {0}
AllFit fs (p ∷ ps) = FitsPart fs p × AllFit fs ps

mark_stops : (fs : List ℕ) (p : Part) (rest : List ℕ) → is_mark p ≡ true → stops (part_text fs p ++ rest) ≡ true
unfolding part_text is_mark
mark_stops fs parts.Comma rest h = refl
mark_stops fs parts.Open rest h = refl
mark_stops fs parts.Close rest h = refl
mark_stops fs (parts.Register place) rest h = cc
mark_stops fs (parts.Twice place other) rest h = cc
mark_stops fs (parts.Number place greatest) rest h = cc
mark_stops fs (parts.Special place) rest h = cc
mark_stops fs (parts.Signed place greatest) rest h = cc
mark_stops fs (parts.Unsigned place) rest h = cc
mark_stops fs (parts.Target place reach) rest h = cc
mark_stops fs (parts.Fixed place value) rest h = cc

followed_stops : (fs : List ℕ) (ps : List Part) → followed ps ≡ true → stops (flat_map (part_text fs) ps) ≡ true
unfolding followed
followed_stops fs [] h = refl
followed_stops fs (p ∷ ps) h = mark_stops fs p (flat_map (part_text fs) ps) h

-- ---- tokens
signed_lexed : (least n : ℕ) (rest : List ℕ) → n ≤ 0x4000000 → least ≤ 0x2000000 → stops rest ≡ true → tokens_from 0 (signed_text least n ++ rest) ≡ signed_tokens least n ++ tokens_from 0 rest
unfolding signed_text signed_tokens tokens_if token_at
signed_lexed least n rest h k s = go (nat_lt n least) where
  go : (b : Bool) → tokens_from 0 ((if b then decimal n else codes "-" ++ decimal (2 * least - n)) ++ rest) ≡ tokens_if b least n ++ tokens_from 0 rest
  go true = number_tokens n rest (omega arith) s
  go false = ap (λ ts. tokens.Minus ∷ ts) (number_tokens (2 * least - n) rest (omega arith) s)

pub special_low : (f : ℕ) → f < 1024 → special_of f < 1024
special_low f h = omega arith

part_lexed : (fs : List ℕ) (p : Part) (rest : List ℕ) → is_single p ≡ true → FitsPart fs p → (is_mark p ≡ true) ⊎ (stops rest ≡ true)
    → tokens_from 0 (part_text fs p ++ rest) ≡ part_tokens fs p ++ tokens_from 0 rest
unfolding part_text part_tokens limit_of FitsPart is_mark place_of is_single token_at
part_lexed fs parts.Comma rest i f s = refl
part_lexed fs parts.Open rest i f s = refl
part_lexed fs parts.Close rest i f s = refl
part_lexed fs (parts.Register place) rest i f (inr s) = register_tokens (field_at fs place) rest (f refl) s
part_lexed fs (parts.Number place greatest) rest i f (inr s) = number_tokens (field_at fs place) rest (omega (arith, f refl, min-le_right (greatest + 1) greatest_word)) s
part_lexed fs (parts.Special place) rest i f (inr s) = number_tokens (special_of (field_at fs place)) rest (omega (arith, special_low (field_at fs place) (f refl))) s
part_lexed fs (parts.Signed place greatest) rest i f (inr s) = signed_lexed 0x8000 (field_at fs place) rest (omega (arith, f refl)) (omega arith) s
part_lexed fs (parts.Unsigned place) rest i f (inr s) = number_tokens (field_at fs place) rest (omega (arith, f refl)) s
part_lexed fs (parts.Target place Long) rest i f (inr s) = signed_lexed 0x2000000 (field_at fs place * 4) rest (omega (arith, f refl)) (omega arith) s
part_lexed fs (parts.Target place Short) rest i f (inr s) = signed_lexed 0x8000 (field_at fs place * 4) rest (omega (arith, f refl)) (omega arith) s
part_lexed fs (parts.Twice place other) rest i f s = cc
part_lexed fs (parts.Fixed place value) rest i f s = cc
part_lexed fs (parts.Register place) rest i f (inl s) = cc
part_lexed fs (parts.Number place greatest) rest i f (inl s) = cc
part_lexed fs (parts.Special place) rest i f (inl s) = cc
part_lexed fs (parts.Signed place greatest) rest i f (inl s) = cc
part_lexed fs (parts.Unsigned place) rest i f (inl s) = cc
part_lexed fs (parts.Target place reach) rest i f (inl s) = cc

either_true : (a b : Bool) → (a || b) ≡ true → (a ≡ true) ⊎ (b ≡ true)
either_true true b h = inl refl
either_true false b h = inr h

parts_lexed : (fs : List ℕ) (ps : List Part) → parted ps ≡ true → AllFit fs ps → tokens_from 0 (flat_map (part_text fs) ps) ≡ flat_map (part_tokens fs) ps
unfolding parted AllFit
parts_lexed fs [] h a = refl
parts_lexed fs (p ∷ ps) h a =
    let u = and_parts (is_single p) ((is_mark p || followed ps) && parted ps) h in
    let v = and_parts (is_mark p || followed ps) (parted ps) u.1 in
    part_lexed fs p (flat_map (part_text fs) ps) u.0 a.0 (stop (either_true (is_mark p) (followed ps) v.0)) ∙ ap (λ ts. part_tokens fs p ++ ts) (parts_lexed fs ps v.1 a.1)
  where
    stop : (is_mark p ≡ true) ⊎ (followed ps ≡ true) → (is_mark p ≡ true) ⊎ (stops (flat_map (part_text fs) ps) ≡ true)
    stop (inl e) = inl e
    stop (inr e) = inr (followed_stops fs ps e)

-- ---- operands
register_again : (n : ℕ) → n < 32 → register_of (codes "r" ++ decimal n) ≡ Some n
unfolding digits
register_again zero h = refl
register_again (suc zero) h = refl
register_again (suc (suc zero)) h = refl
register_again (suc (suc (suc zero))) h = refl
register_again (suc (suc (suc (suc zero)))) h = refl
register_again (suc (suc (suc (suc (suc zero))))) h = refl
register_again (suc (suc (suc (suc (suc (suc zero)))))) h = refl
register_again (suc (suc (suc (suc (suc (suc (suc zero))))))) h = refl
register_again (suc (suc (suc (suc (suc (suc (suc (suc zero)))))))) h = refl
register_again (suc (suc (suc (suc (suc (suc (suc (suc (suc zero))))))))) h = refl
register_again (suc (suc (suc (suc (suc (suc (suc (suc (suc (suc zero)))))))))) h = refl
register_again (suc (suc (suc (suc (suc (suc (suc (suc (suc (suc (suc zero))))))))))) h = refl
register_again (suc (suc (suc (suc (suc (suc (suc (suc (suc (suc (suc (suc zero)))))))))))) h = refl
register_again (suc (suc (suc (suc (suc (suc (suc (suc (suc (suc (suc (suc (suc zero))))))))))))) h = refl
register_again (suc (suc (suc (suc (suc (suc (suc (suc (suc (suc (suc (suc (suc (suc zero)))))))))))))) h = refl
register_again (suc (suc (suc (suc (suc (suc (suc (suc (suc (suc (suc (suc (suc (suc (suc zero))))))))))))))) h = refl
register_again (suc (suc (suc (suc (suc (suc (suc (suc (suc (suc (suc (suc (suc (suc (suc (suc zero)))))))))))))))) h = refl
register_again (suc (suc (suc (suc (suc (suc (suc (suc (suc (suc (suc (suc (suc (suc (suc (suc (suc zero))))))))))))))))) h = refl
register_again (suc (suc (suc (suc (suc (suc (suc (suc (suc (suc (suc (suc (suc (suc (suc (suc (suc (suc zero)))))))))))))))))) h = refl
register_again (suc (suc (suc (suc (suc (suc (suc (suc (suc (suc (suc (suc (suc (suc (suc (suc (suc (suc (suc zero))))))))))))))))))) h = refl
register_again (suc (suc (suc (suc (suc (suc (suc (suc (suc (suc (suc (suc (suc (suc (suc (suc (suc (suc (suc (suc zero)))))))))))))))))))) h = refl
register_again (suc (suc (suc (suc (suc (suc (suc (suc (suc (suc (suc (suc (suc (suc (suc (suc (suc (suc (suc (suc (suc zero))))))))))))))))))))) h = refl
register_again (suc (suc (suc (suc (suc (suc (suc (suc (suc (suc (suc (suc (suc (suc (suc (suc (suc (suc (suc (suc (suc (suc zero)))))))))))))))))))))) h = refl
register_again (suc (suc (suc (suc (suc (suc (suc (suc (suc (suc (suc (suc (suc (suc (suc (suc (suc (suc (suc (suc (suc (suc (suc zero))))))))))))))))))))))) h = refl
register_again (suc (suc (suc (suc (suc (suc (suc (suc (suc (suc (suc (suc (suc (suc (suc (suc (suc (suc (suc (suc (suc (suc (suc (suc zero)))))))))))))))))))))))) h = refl
register_again (suc (suc (suc (suc (suc (suc (suc (suc (suc (suc (suc (suc (suc (suc (suc (suc (suc (suc (suc (suc (suc (suc (suc (suc (suc zero))))))))))))))))))))))))) h = refl
register_again (suc (suc (suc (suc (suc (suc (suc (suc (suc (suc (suc (suc (suc (suc (suc (suc (suc (suc (suc (suc (suc (suc (suc (suc (suc (suc zero)))))))))))))))))))))))))) h = refl
register_again (suc (suc (suc (suc (suc (suc (suc (suc (suc (suc (suc (suc (suc (suc (suc (suc (suc (suc (suc (suc (suc (suc (suc (suc (suc (suc (suc zero))))))))))))))))))))))))))) h = refl
register_again (suc (suc (suc (suc (suc (suc (suc (suc (suc (suc (suc (suc (suc (suc (suc (suc (suc (suc (suc (suc (suc (suc (suc (suc (suc (suc (suc (suc zero)))))))))))))))))))))))))))) h = refl
register_again (suc (suc (suc (suc (suc (suc (suc (suc (suc (suc (suc (suc (suc (suc (suc (suc (suc (suc (suc (suc (suc (suc (suc (suc (suc (suc (suc (suc (suc zero))))))))))))))))))))))))))))) h = refl
register_again (suc (suc (suc (suc (suc (suc (suc (suc (suc (suc (suc (suc (suc (suc (suc (suc (suc (suc (suc (suc (suc (suc (suc (suc (suc (suc (suc (suc (suc (suc zero)))))))))))))))))))))))))))))) h = refl
register_again (suc (suc (suc (suc (suc (suc (suc (suc (suc (suc (suc (suc (suc (suc (suc (suc (suc (suc (suc (suc (suc (suc (suc (suc (suc (suc (suc (suc (suc (suc (suc zero))))))))))))))))))))))))))))))) h = refl
register_again (suc (suc (suc (suc (suc (suc (suc (suc (suc (suc (suc (suc (suc (suc (suc (suc (suc (suc (suc (suc (suc (suc (suc (suc (suc (suc (suc (suc (suc (suc (suc (suc n)))))))))))))))))))))))))))))))) h = absurd (omega arith)

residue_plain : (least greatest n : ℕ) → n ≤ greatest → residue least greatest (record { negative = false; size = n; count = 1 }) ≡ Some n
residue_plain least greatest zero h = refl
residue_plain least greatest (suc n) h =
    ap (λ t. if t then Some 0 else (if nat_le (suc n) greatest then Some (suc n) else None)) (nonzero (suc n) (omega arith))
    ∙ ap (λ t. if t then Some (suc n) else None) (yes_le (suc n) greatest h)

signed_if : Bool → ℕ → ℕ → Signed
signed_if true least f = record { negative = false; size = f; count = 1 }
signed_if false least f = record { negative = true; size = 2 * least - f; count = 2 }

signed_of : ℕ → ℕ → Signed
unfolding signed_if
signed_of least f = signed_if (nat_lt f least) least f

signed_at : (least f : ℕ) (ts : List Token) → number_at (signed_tokens least f ++ ts) ≡ Some (signed_of least f)
unfolding signed_tokens signed_of signed_if tokens_if
signed_at least f ts = go (nat_lt f least) where
  go : (b : Bool) → number_at (tokens_if b least f ++ ts) ≡ Some (signed_if b least f)
  go true = refl
  go false = refl

signed_count : (least f : ℕ) → (signed_of least f).count ≡ length (signed_tokens least f)
unfolding signed_tokens signed_of signed_if tokens_if
signed_count least f = go (nat_lt f least) where
  go : (b : Bool) → (signed_if b least f).count ≡ length (tokens_if b least f)
  go true = refl
  go false = refl

residue_minus : (least greatest n f : ℕ) → 0 < n → n ≤ least → 2 * least - n ≡ f → residue least greatest (record { negative = true; size = n; count = 2 }) ≡ Some f
residue_minus least greatest zero f z h e = absurd (omega arith)
residue_minus least greatest (suc n) f z h e =
    ap (λ t. if t then Some 0 else (if nat_le (suc n) least then Some (2 * least - suc n) else None)) (nonzero (suc n) z)
    ∙ ap (λ t. if t then Some (2 * least - suc n) else None) (yes_le (suc n) least h) ∙ ap Some e

signed_again : (least greatest f : ℕ) → f < 2 * least → least ≤ greatest + 1 → residue least greatest (signed_of least f) ≡ Some f
unfolding signed_of signed_if
signed_again least greatest f h g = go (nat_lt f least) refl where
  go : (b : Bool) → nat_lt f least ≡ b → residue least greatest (signed_if b least f) ≡ Some f
  go true e = let k = ltb-true f least e in residue_plain least greatest f (omega arith)
  go false e = let k = ltb-false f least e in residue_minus least greatest (2 * least - f) f (omega arith) (omega arith) (omega arith)

words_again : (f : ℕ) → words_of (Some (f * 4)) ≡ Some f
words_again f =
    let z : f * 4 % 4 ≡ 0 = omega arith in
    let q : f * 4 / 4 ≡ f = omega arith in
    ap (λ n. if n == 0 then Some (f * 4 / 4) else None) z ∙ ap Some q

swapped_again : (f : ℕ) → f < 1024 → swapped (Some (special_of f)) ≡ Some f
swapped_again f h = let e : special_of f % 32 * 32 + special_of f / 32 ≡ f = omega arith in ap Some e

value_of : List ℕ → Part → ℕ
value_of fs p = if is_mark p then 0 else field_at fs (place_of p)

operand : ℕ → ℕ → Option Operand
operand v n = Some (record { value = v; count = n; reference = None })

plain_operand : (o : Option ℕ) (v n m : ℕ) → o ≡ Some v → n ≡ m → plain o n ≡ operand v m
unfolding operand
plain_operand o v n m e h = ap (λ (x : Option ℕ). plain x n) e ∙ ap (λ (k : ℕ). plain (Some v) k) h

signed_operand : (least greatest f : ℕ) (ts : List Token) (change : Option ℕ → Option ℕ) (v : ℕ) (other : Option Operand) → f < 2 * least → least ≤ greatest + 1 → change (Some f) ≡ Some v
    → by_number (number_at (signed_tokens least f ++ ts)) (λ n. plain (change (residue least greatest n)) n.count) other ≡ operand v (length (signed_tokens least f))
signed_operand least greatest f ts change v other h g e =
    ap (λ (o : Option Signed). by_number o (λ n. plain (change (residue least greatest n)) n.count) other) (signed_at least f ts)
    ∙ plain_operand (change (residue least greatest (signed_of least f))) v (signed_of least f).count (length (signed_tokens least f)) (ap change (signed_again least greatest f h g) ∙ e) (signed_count least f)

part_again : (fs : List ℕ) (p : Part) (absolute : Bool) (ts : List Token) → is_single p ≡ true → FitsPart fs p → part_at p absolute (part_tokens fs p ++ ts) ≡ operand (value_of fs p) (length (part_tokens fs p))
unfolding part_at part_tokens operand value_of limit_of FitsPart is_mark place_of is_single
part_again fs parts.Comma absolute ts i f = refl
part_again fs parts.Open absolute ts i f = refl
part_again fs parts.Close absolute ts i f = refl
part_again fs (parts.Register place) absolute ts i f = plain_operand _ _ 1 1 (register_again (field_at fs place) (f refl)) refl
part_again fs (parts.Number place greatest) absolute ts i f =
    plain_operand _ _ 1 1 (residue_plain 0 greatest (field_at fs place) (omega (arith, f refl, min-le_left (greatest + 1) greatest_word))) refl
part_again fs (parts.Special place) absolute ts i f =
    let n = field_at fs place in
    plain_operand _ _ 1 1 (ap swapped (residue_plain 0 1023 (special_of n) (omega (arith, special_low n (f refl)))) ∙ swapped_again n (f refl)) refl
part_again fs (parts.Signed place greatest) absolute ts i f =
    signed_operand 0x8000 greatest (field_at fs place) ts (λ o. o) (field_at fs place) _ (omega (arith, f refl)) (omega (arith, leb-true 0x7fff greatest i)) refl
part_again fs (parts.Unsigned place) absolute ts i f = plain_operand _ _ 1 1 (residue_plain 0 0xffff (field_at fs place) (omega (arith, f refl))) refl
part_again fs (parts.Target place Long) absolute ts i f =
    signed_operand 0x2000000 0x1ffffff (field_at fs place * 4) ts words_of (field_at fs place) _ (omega (arith, f refl)) (omega arith) (words_again (field_at fs place))
part_again fs (parts.Target place Short) absolute ts i f =
    signed_operand 0x8000 0x7fff (field_at fs place * 4) ts words_of (field_at fs place) _ (omega (arith, f refl)) (omega arith) (words_again (field_at fs place))
part_again fs (parts.Twice place other) absolute ts i f = cc
part_again fs (parts.Fixed place value) absolute ts i f = cc

-- ---- fields
-- the fields, copied at the places of these parts
filled : List ℕ → List Part → List ℕ → List ℕ
unfolding value_of
filled fs [] kept = kept
filled fs (p ∷ ps) kept = filled fs ps (with_value kept p (value_of fs p))

parts_again : (fs : List ℕ) (ps : List Part) (absolute : Bool) (kept : List ℕ) → parted ps ≡ true → AllFit fs ps
    → operands_from ps absolute kept None (flat_map (part_tokens fs) ps) ≡ Some (record { fields = filled fs ps kept; reference = None })
unfolding filled parted AllFit operand
parts_again fs [] absolute kept h a = refl
parts_again fs (p ∷ ps) absolute kept h a =
    let u = and_parts (is_single p) ((is_mark p || followed ps) && parted ps) h in
    let v = and_parts (is_mark p || followed ps) (parted ps) u.1 in
    let ts = flat_map (part_tokens fs) ps in
    ap (λ (o : Option Operand). with_operand o (λ x. operands_from ps absolute (with_value kept p x.value) (later None x.reference) (drop x.count (part_tokens fs p ++ ts)))) (part_again fs p absolute ts u.0 a.0)
    ∙ ap (λ us. operands_from ps absolute (with_value kept p (value_of fs p)) None us) (drop_all (part_tokens fs p) ts)
    ∙ parts_again fs ps absolute (with_value kept p (value_of fs p)) v.1 a.1

-- ---- limits
limit_at : (ls fs : List ℕ) (k : ℕ) → are_within ls fs ≡ true → lies_below (field_at ls k) (field_at fs k) ≡ true
limit_at [] [] k h = refl
limit_at [] (f ∷ fs) k h = cc
limit_at (l ∷ ls) [] k h = cc
limit_at (l ∷ ls) (f ∷ fs) zero h = (and_parts (lies_below l f) (are_within ls fs) h).0
limit_at (l ∷ ls) (f ∷ fs) (suc k) h = limit_at ls fs k (and_parts (lies_below l f) (are_within ls fs) h).1

below_limit : (l f : ℕ) → 0 < l → lies_below l f ≡ true → f < l
below_limit l f z h = go (nat_eq l 0) refl h where
  go : (b : Bool) → nat_eq l 0 ≡ b → (if b then nat_eq f 0 else nat_lt f l) ≡ true → f < l
  go true k e = let n = eqb-true l 0 k in absurd (omega arith)
  go false k e = ltb-true f l e

-- each operand's limit is the limit of its field
unfoldable pub ranged : List ℕ → List Part → Bool
unfolding is_mark place_of
ranged ls [] = true
ranged ls (p ∷ ps) = (is_mark p || (nat_lt 0 (limit_of p) && nat_eq (field_at ls (place_of p)) (limit_of p))) && ranged ls ps

part_fits : (ls fs : List ℕ) (p : Part) → (is_mark p || (nat_lt 0 (limit_of p) && nat_eq (field_at ls (place_of p)) (limit_of p))) ≡ true → are_within ls fs ≡ true → FitsPart fs p
unfolding FitsPart
part_fits ls fs p h w m =
    let t : (nat_lt 0 (limit_of p) && nat_eq (field_at ls (place_of p)) (limit_of p)) ≡ true = sym (ap (λ b. b || (nat_lt 0 (limit_of p) && nat_eq (field_at ls (place_of p)) (limit_of p))) m) ∙ h in
    let u = and_parts (nat_lt 0 (limit_of p)) (nat_eq (field_at ls (place_of p)) (limit_of p)) t in
    let e = eqb-true (field_at ls (place_of p)) (limit_of p) u.1 in
    below_limit (limit_of p) (field_at fs (place_of p)) (ltb-true 0 (limit_of p) u.0) (subst (λ l. lies_below l (field_at fs (place_of p)) ≡ true) e (limit_at ls fs (place_of p) w))

pub all_fit : (ls fs : List ℕ) (ps : List Part) → ranged ls ps ≡ true → are_within ls fs ≡ true → AllFit fs ps
unfolding ranged AllFit
all_fit ls fs [] h w = tt
all_fit ls fs (p ∷ ps) h w =
    let u = and_parts (is_mark p || (nat_lt 0 (limit_of p) && nat_eq (field_at ls (place_of p)) (limit_of p))) (ranged ls ps) h in
    (part_fits ls fs p u.0 w, all_fit ls fs ps u.1 w)

-- ---- endings
unfoldable pub letters : Endings → Bool → Bool → List ℕ
letters Bare x y = []
letters (Record k) x y = if x then codes "." else []
letters (Overflow k) x y = (if x then codes "o" else []) ++ (if y then codes "." else [])
letters (Link k) x y = if x then codes "l" else []
letters (LinkAbsolute k) x y = (if y then codes "l" else []) ++ (if x then codes "a" else [])

unfoldable pub first_bit : Endings → List ℕ → Bool
first_bit Bare fs = false
first_bit (Record k) fs = field_at fs k == 1
first_bit (Overflow k) fs = field_at fs k == 1
first_bit (Link k) fs = field_at fs k == 1
first_bit (LinkAbsolute k) fs = field_at fs k == 1

unfoldable pub second_bit : Endings → List ℕ → Bool
second_bit (Overflow k) fs = field_at fs (k + 1) == 1
second_bit (LinkAbsolute k) fs = field_at fs (k + 1) == 1
second_bit e fs = false

pub ending_letters : (fs : List ℕ) (e : Endings) → ending_text fs e ≡ letters e (first_bit e fs) (second_bit e fs)
unfolding ending_text letters first_bit second_bit
ending_letters fs Bare = refl
ending_letters fs (Record k) = refl
ending_letters fs (Overflow k) = refl
ending_letters fs (Link k) = refl
ending_letters fs (LinkAbsolute k) = refl

flags : Bool → Bool → Flags
flags x y = record { first = if x then 1 else 0; second = if y then 1 else 0 }

unfoldable pub spelled : Bool → Bool → Named → List ℕ
unfolding letters
spelled x y m = m.name ++ letters m.endings x y

named_again : (x y : Bool) → map (λ m. spelling_of (spelled x y m)) instructions ≡ map (λ m. Some (spells m (flags x y))) instructions
unfolding instructions short_forms mnemonics spelling_of spelled flags named ending_of spells is_absolute flagged letters
named_again true true = refl
named_again true false = refl
named_again false true = refl
named_again false false = refl

-- the token of a mnemonic
mnemonic_token : List ℕ → Token
mnemonic_token w = if list_any (λ b. b == code ".") w then tokens.Dotted w else tokens.Name w

lexed_before : (x y : Bool) (rest : List ℕ) → map (λ m. tokens_from 0 (spelled x y m ++ 32 ∷ rest)) instructions ≡ map (λ m. mnemonic_token (spelled x y m) ∷ tokens_from 0 rest) instructions
unfolding instructions spelled letters mnemonic_token token_at
lexed_before true true rest = refl
lexed_before true false rest = refl
lexed_before false true rest = refl
lexed_before false false rest = refl

lexed_alone : (x y : Bool) → map (λ m. tokens_from 0 (spelled x y m ++ [])) instructions ≡ map (λ m. mnemonic_token (spelled x y m) ∷ []) instructions
unfolding instructions spelled letters mnemonic_token token_at
lexed_alone true true = refl
lexed_alone true false = refl
lexed_alone false true = refl
lexed_alone false false = refl

item_again : (x y : Bool) (ts : List Token) → map (λ m. item_at (mnemonic_token (spelled x y m) ∷ ts)) instructions ≡ map (λ m. option_map items.Instruction (instruction_of (spelled x y m) ts)) instructions
unfolding instructions spelled letters mnemonic_token item_of
item_again true true ts = refl
item_again true false ts = refl
item_again false true ts = refl
item_again false false ts = refl

-- ---- the table
pub all_parted : list_all (λ (m : Named). parted (parts_of m.shape)) instructions ≡ true
unfolding instructions parted is_single is_mark followed
all_parted = refl

pub all_ranged : list_all (λ (m : Named). ranged (limits_of m) (parts_of m.shape)) instructions ≡ true
unfolding instructions ranged limits_of limit_of flagged with_value is_mark place_of
all_ranged = refl

mask : ℕ → ℕ → ℕ
mask l f = if nat_eq l 0 then 0 else (if nat_eq l 2 then (if f == 1 then 1 else 0) else f)

masked : List ℕ → List ℕ → List ℕ
unfolding mask
masked (l ∷ ls) (f ∷ fs) = mask l f ∷ masked ls fs
masked ls fs = []

mask_same : (l f : ℕ) → lies_below l f ≡ true → mask l f ≡ f
unfolding mask
mask_same l f h = go (nat_eq l 0) (nat_eq l 2) refl refl h where
  bit : (f : ℕ) → f < 2 → (if f == 1 then 1 else 0) ≡ f
  bit zero h = refl
  bit (suc zero) h = refl
  bit (suc (suc f)) h = absurd (omega arith)

  go : (b c : Bool) → nat_eq l 0 ≡ b → nat_eq l 2 ≡ c → (if b then nat_eq f 0 else nat_lt f l) ≡ true → (if b then 0 else (if c then (if f == 1 then 1 else 0) else f)) ≡ f
  go true c k e r = sym (eqb-true f 0 r)
  go false true k e r = let n = eqb-true l 2 e in let m = ltb-true f l r in bit f (omega arith)
  go false false k e r = refl

masked_same : (ls fs : List ℕ) → are_within ls fs ≡ true → masked ls fs ≡ fs
unfolding masked
masked_same [] [] h = refl
masked_same [] (f ∷ fs) h = cc
masked_same (l ∷ ls) [] h = cc
masked_same (l ∷ ls) (f ∷ fs) h =
    let a = and_parts (lies_below l f) (are_within ls fs) h in
    ap (λ g. g ∷ masked ls fs) (mask_same l f a.0) ∙ ap (λ gs. f ∷ gs) (masked_same ls fs a.1)

bits_of : List ℕ → Named → Flags
bits_of fs m = flags (first_bit m.endings fs) (second_bit m.endings fs)

filled_masked : (a b c d e f : ℕ) → map (λ m. filled (a ∷ b ∷ c ∷ d ∷ e ∷ f ∷ []) (parts_of m.shape) (flagged m.endings (bits_of (a ∷ b ∷ c ∷ d ∷ e ∷ f ∷ []) m))) instructions
    ≡ map (λ m. masked (limits_of m) (a ∷ b ∷ c ∷ d ∷ e ∷ f ∷ [])) instructions
unfolding instructions filled flagged bits_of flags first_bit second_bit masked mask limits_of limit_of with_value value_of is_mark place_of
filled_masked a b c d e f = refl

fields_filled : (row : Row) (fs : List ℕ) → length fs ≡ 6
    → filled fs (parts_of (named_as row).shape) (flagged (named_as row).endings (bits_of fs (named_as row))) ≡ masked (limits_of (named_as row)) fs
fields_filled row [] h = absurd (omega arith)
fields_filled row (a ∷ []) h = absurd (omega arith)
fields_filled row (a ∷ b ∷ []) h = absurd (omega arith)
fields_filled row (a ∷ b ∷ c ∷ []) h = absurd (omega arith)
fields_filled row (a ∷ b ∷ c ∷ d ∷ []) h = absurd (omega arith)
fields_filled row (a ∷ b ∷ c ∷ d ∷ e ∷ []) h = absurd (omega arith)
fields_filled row (a ∷ b ∷ c ∷ d ∷ e ∷ f ∷ []) h =
    at_each (λ m. filled (a ∷ b ∷ c ∷ d ∷ e ∷ f ∷ []) (parts_of m.shape) (flagged m.endings (bits_of (a ∷ b ∷ c ∷ d ∷ e ∷ f ∷ []) m)))
    (λ m. masked (limits_of m) (a ∷ b ∷ c ∷ d ∷ e ∷ f ∷ [])) (filled_masked a b c d e f) row
fields_filled row (a ∷ b ∷ c ∷ d ∷ e ∷ f ∷ g ∷ fs) h = absurd (omega arith)

-- ---- a line
signed_colon : (least n : ℕ) (ts : List Token) → colon_first (signed_tokens least n ++ ts) ≡ false
unfolding signed_tokens tokens_if
signed_colon least n ts = go (nat_lt n least) where
  go : (b : Bool) → colon_first (tokens_if b least n ++ ts) ≡ false
  go true = refl
  go false = refl

no_colon : (fs : List ℕ) (ps : List Part) → parted ps ≡ true → colon_first (flat_map (part_tokens fs) ps) ≡ false
unfolding parted part_tokens signed_tokens is_single
no_colon fs [] h = refl
no_colon fs (parts.Comma ∷ ps) h = refl
no_colon fs (parts.Open ∷ ps) h = refl
no_colon fs (parts.Close ∷ ps) h = refl
no_colon fs (parts.Register place ∷ ps) h = refl
no_colon fs (parts.Twice place other ∷ ps) h = refl
no_colon fs (parts.Number place greatest ∷ ps) h = refl
no_colon fs (parts.Special place ∷ ps) h = refl
no_colon fs (parts.Signed place greatest ∷ ps) h = signed_colon 0x8000 (field_at fs place) (flat_map (part_tokens fs) ps)
no_colon fs (parts.Unsigned place ∷ ps) h = refl
no_colon fs (parts.Target place reach ∷ ps) h = signed_colon (reach_of reach) (field_at fs place * 4) (flat_map (part_tokens fs) ps)
no_colon fs (parts.Fixed place value ∷ ps) h = cc

-- the parts of each instruction's operands are parted, and its fields fit them
pub row_parted : (row : Row) → parted (parts_of (named_as row).shape) ≡ true
row_parted row = at_row (λ (m : Named). parted (parts_of m.shape)) all_parted row

pub row_fits : (row : Row) (fs : List ℕ) → are_within (limits_of (named_as row)) fs ≡ true → AllFit fs (parts_of (named_as row).shape)
row_fits row fs w = all_fit (limits_of (named_as row)) fs (parts_of (named_as row).shape) (at_row (λ (m : Named). ranged (limits_of m) (parts_of m.shape)) all_ranged row) w

lexed : (row : Row) (x y : Bool) (fs : List ℕ) (ps : List Part) → parted ps ≡ true → AllFit fs ps
    → tokens_from 0 (spelled x y (named_as row) ++ operands_text fs ps) ≡ mnemonic_token (spelled x y (named_as row)) ∷ flat_map (part_tokens fs) ps
unfolding operands_text
lexed row x y fs [] h a = at_each (λ m. tokens_from 0 (spelled x y m ++ [])) (λ m. mnemonic_token (spelled x y m) ∷ []) (lexed_alone x y) row
lexed row x y fs (p ∷ ps) h a =
    let rest = flat_map (part_text fs) (p ∷ ps) in
    at_each (λ m. tokens_from 0 (spelled x y m ++ 32 ∷ rest)) (λ m. mnemonic_token (spelled x y m) ∷ tokens_from 0 rest) (lexed_before x y rest) row
    ∙ ap (λ ts. mnemonic_token (spelled x y (named_as row)) ∷ ts) (parts_lexed fs (p ∷ ps) h a)

unlabelled : (t : Token) (ts : List Token) → colon_first ts ≡ false → line_at (t ∷ ts) ≡ option_map (λ item. record { label = None; item = item }) (item_at (t ∷ ts))
unlabelled t ts h =
    ap (λ b. option_map (λ item. record { label = if b then name_first (t ∷ ts) else None; item = item }) (item_at (drop (label_tokens (if b then name_first (t ∷ ts) else None)) (t ∷ ts)))) h

instruction_again : (row : Row) (fs : List ℕ) → length fs ≡ 6 → are_within (limits_of (named_as row)) fs ≡ true
    → instruction_of (spelled (first_bit (named_as row).endings fs) (second_bit (named_as row).endings fs) (named_as row)) (flat_map (part_tokens fs) (parts_of (named_as row).shape))
    ≡ Some (record { row = (named_as row).row; fields = fs; reference = None })
unfolding instruction_of operands_at spells bits_of
instruction_again row fs six w =
    let m = named_as row in
    let x = first_bit m.endings fs in
    let y = second_bit m.endings fs in
    let ps = parts_of m.shape in
    let ts = flat_map (part_tokens fs) ps in
    let f : AllFit fs ps = row_fits row fs w in
    ap (λ (o : Option Spelling). spelled_instruction o ts) (at_each (λ m. spelling_of (spelled x y m)) (λ m. Some (spells m (flags x y))) (named_again x y) row)
    ∙ ap (λ (o : Option Operands). instruction_with (spells m (flags x y)) o)
    (parts_again fs ps (is_absolute m.endings (flags x y)) (flagged m.endings (flags x y)) (row_parted row) f)
    ∙ ap (λ (gs : List ℕ). Some (record { row = m.row; fields = gs; reference = None })) (fields_filled row fs six ∙ masked_same (limits_of m) fs w)

rows_alike : map (λ (g : Form). g.row) table ≡ map (λ (m : Named). m.row) instructions
unfolding table instructions
rows_alike = refl

row_named : (row : Row) → (named_as row).row ≡ row
row_named row = sym (along (λ (g : Form). g.row) (λ (m : Named). m.row) rows_alike row) ∙ number-one (form_of row).row row (number-row (number row) (number-below row))

pub parsed : (i : Insn) → line_of (text_of i) ≡ Some (line_with i)
unfolding line_of tokens_of text_of spelled
parsed i =
    let fs = i.fields in
    let m = named_as i.row in
    let x = first_bit m.endings fs in
    let y = second_bit m.endings fs in
    let ps = parts_of m.shape in
    let ts = flat_map (part_tokens fs) ps in
    let w = fields_within i.row fs i.in_table in
    let p = row_parted i.row in
    let f : AllFit fs ps = row_fits i.row fs w in
    ap (λ bs. line_at (tokens_from 0 bs)) (ap (λ e. (m.name ++ e) ++ operands_text fs ps) (ending_letters fs m.endings))
    ∙ ap line_at (lexed i.row x y fs ps p f)
    ∙ unlabelled (mnemonic_token (spelled x y m)) ts (no_colon fs ps p)
    ∙ ap (option_map (λ item. record { label = None; item = item }))
    (at_each (λ m. item_at (mnemonic_token (spelled x y m) ∷ ts)) (λ m. option_map items.Instruction (instruction_of (spelled x y m) ts)) (item_again x y ts) i.row
    ∙ ap (option_map items.Instruction) (instruction_again i.row fs (fields_are i.row fs i.in_table).0 w))
    ∙ ap (λ (r : Row). Some (record { label = None; item = items.Instruction (record { row = r; fields = fs; reference = None }) })) (row_named i.row)
