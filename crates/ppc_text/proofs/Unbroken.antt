-- An instruction's text has no line feed.
use Rattle.std.proofs.Common.{◌≡◌, ◌≢◌, ℕ, ◌+◌, ◌*◌, ◌-◌, ◌^◌, ◌<◌, Bool, true, false, not, ◌&&◌, List, [], ◌∷◌, ◌++◌, refl, ap, ◌∙◌, arith}
use Rattle.std.specs.Prelude.{if◌then◌else◌, ◌==◌, nat_lt, codes}
use Rattle.std.specs.List.{All, flat_map, list_all}
use Rattle.std.specs.Char.{digit_value}
use Rattle.std.specs.Fmt.{decimal}
use Rattle.std.specs.Str.Parse.{AllDigits}
use Rattle.std.proofs.lemmas.Bool.{and_parts}
use Rattle.std.proofs.lemmas.Fmt.{decimal_is_IsNumeral}
use Rattle.std.proofs.lemmas.List.Elements.{All-nil, All-cons}
use Rattle.std.proofs.Math.Nat.{min-le_right}
use Rattle.wind_base.specs.Limits.{greatest_word}
use Rattle.ppc_word.specs.declared.insn.Insn.{Insn}
use Rattle.ppc_text.specs.declared.part.Reach.TheVariants.{Long, Short}
use Rattle.ppc_text.specs.declared.part.Part.{Part}
use Rattle.ppc_text.specs.declared.part.Part.TheVariants as parts
use Rattle.ppc_text.specs.Mnemonics.{Named, instructions, named_as}
use Rattle.ppc_text.specs.Limits.{limit_of, special_of}
use Rattle.ppc_text.specs.Shapes.{parts_of}
use Rattle.ppc_text.specs.Shown.{field_at, signed_text, part_text, operands_text, text_of}
use Rattle.ppc_text.proofs.Widths.{fields_within, at_row}
use Rattle.ppc_text.proofs.Again.{is_mark, place_of, is_single, parted, FitsPart, AllFit, special_low, letters, first_bit, second_bit, ending_letters, spelled, row_parted, row_fits}

-- no byte is a line feed
abbrev no_feed : List ℕ → Bool
no_feed bs = list_all (λ b. not (b == 10)) bs

feed_both : (xs ys : List ℕ) → no_feed xs ≡ true → no_feed ys ≡ true → no_feed (xs ++ ys) ≡ true
feed_both [] ys h k = k
feed_both (x ∷ xs) ys h k =
    let a = and_parts (not (x == 10)) (no_feed xs) h in
    ap (λ t. t && no_feed (xs ++ ys)) a.0 ∙ feed_both xs ys a.1 k

digit_plain : (b : ℕ) → digit_value b < 10 → (b == 10) ≡ false
digit_plain b h = grind arith

digits_plain : (ds : List ℕ) → AllDigits 10 ds → no_feed ds ≡ true
digits_plain [] h = refl
digits_plain (d ∷ ds) h = ap (λ t. not t && no_feed ds) (digit_plain d h.0) ∙ digits_plain ds h.1

decimal_plain : (n : ℕ) → n < 2 ^ 64 → no_feed (decimal n) ≡ true
decimal_plain n h = digits_plain (decimal n) (decimal_is_IsNumeral n h).0.1

signed_plain : (least n : ℕ) → n < 2 ^ 32 → least < 2 ^ 32 → no_feed (signed_text least n) ≡ true
unfolding signed_text
signed_plain least n h k = go (nat_lt n least) where
  go : (b : Bool) → no_feed (if b then decimal n else codes "-" ++ decimal (2 * least - n)) ≡ true
  go true = decimal_plain n (omega arith)
  go false = decimal_plain (2 * least - n) (omega arith)

part_plain : (fs : List ℕ) (p : Part) → is_single p ≡ true → FitsPart fs p → no_feed (part_text fs p) ≡ true
unfolding part_text limit_of FitsPart is_mark place_of is_single
part_plain fs parts.Comma i f = refl
part_plain fs parts.Open i f = refl
part_plain fs parts.Close i f = refl
part_plain fs (parts.Register place) i f = decimal_plain (field_at fs place) (omega (arith, f refl))
part_plain fs (parts.Number place greatest) i f = decimal_plain (field_at fs place) (omega (arith, f refl, min-le_right (greatest + 1) greatest_word))
part_plain fs (parts.Special place) i f = decimal_plain (special_of (field_at fs place)) (omega (arith, special_low (field_at fs place) (f refl)))
part_plain fs (parts.Signed place greatest) i f = signed_plain 0x8000 (field_at fs place) (omega (arith, f refl)) (omega arith)
part_plain fs (parts.Unsigned place) i f = decimal_plain (field_at fs place) (omega (arith, f refl))
part_plain fs (parts.Target place Long) i f = signed_plain 0x2000000 (field_at fs place * 4) (omega (arith, f refl)) (omega arith)
part_plain fs (parts.Target place Short) i f = signed_plain 0x8000 (field_at fs place * 4) (omega (arith, f refl)) (omega arith)
part_plain fs (parts.Twice place other) i f = cc
part_plain fs (parts.Fixed place value) i f = cc

parts_plain : (fs : List ℕ) (ps : List Part) → parted ps ≡ true → AllFit fs ps → no_feed (flat_map (part_text fs) ps) ≡ true
unfolding parted AllFit
parts_plain fs [] h a = refl
parts_plain fs (p ∷ ps) h a =
    let u = and_parts (is_single p) _ h in
    let v = and_parts _ (parted ps) u.1 in
    feed_both (part_text fs p) (flat_map (part_text fs) ps) (part_plain fs p u.0 a.0) (parts_plain fs ps v.1 a.1)

operands_plain : (fs : List ℕ) (ps : List Part) → parted ps ≡ true → AllFit fs ps → no_feed (operands_text fs ps) ≡ true
unfolding operands_text
operands_plain fs [] h a = refl
operands_plain fs (p ∷ ps) h a = parts_plain fs (p ∷ ps) h a

names_plain : (x y : Bool) → list_all (λ (m : Named). no_feed (spelled x y m)) instructions ≡ true
unfolding instructions spelled letters
names_plain true true = refl
names_plain true false = refl
names_plain false true = refl
names_plain false false = refl

all_plain : (bs : List ℕ) → no_feed bs ≡ true → All (λ b. b ≢ 10) bs
all_plain [] h = All-nil (λ b. b ≢ 10)
all_plain (b ∷ bs) h =
    let a = and_parts (not (b == 10)) (no_feed bs) h in
    All-cons (λ b. b ≢ 10) b bs (other b a.0) (all_plain bs a.1)
  where
    other : (b : ℕ) → not (b == 10) ≡ true → b ≢ 10
    other b h e = grind arith

pub unbroken : (i : Insn) → All (λ b. b ≢ 10) (text_of i)
unfolding text_of spelled
unbroken i =
    let m = named_as i.row in
    let x = first_bit m.endings i.fields in
    let y = second_bit m.endings i.fields in
    let ps = parts_of m.shape in
    all_plain (text_of i)
    (ap (λ e. no_feed ((m.name ++ e) ++ operands_text i.fields ps)) (ending_letters i.fields m.endings)
    ∙ feed_both (spelled x y m) (operands_text i.fields ps) (at_row (λ (m : Named). no_feed (spelled x y m)) (names_plain x y) i.row)
    (operands_plain i.fields ps (row_parted i.row) (row_fits i.row i.fields (fields_within i.row i.fields i.in_table))))
