-- The names of each line of source text can stand in an object file, and its references have relocations.
use Rattle.std.proofs.Common.{◌≡◌, ◌≢◌, ℕ, zero, suc, ◌+◌, ◌-◌, ◌^◌, ◌≤◌, ◌<◌, Bool, true, false, List, [], ◌∷◌, length, take, drop, Option, Some, None, refl, subst, arith}
use Rattle.std.specs.Prelude.{if◌then◌else◌, ◌==◌, ◌&&◌, nat_le, bytes_eq, codes, option_map}
use Rattle.std.specs.List.{All}
use Rattle.std.specs.Char.{is_ascii_digit}
use Rattle.std.specs.Str.Parse.{digits_value}
use Rattle.std.proofs.lemmas.List.Elements.{All-nil, All-cons, All-head, All-tail, All-drop}
use Rattle.std.proofs.lemmas.Bool.{leb-true}
use Prim.Native.Char.{code}
use Rattle.wind_base.specs.Limits.{greatest_word, longest_name}
use Rattle.ppc_text.specs.declared.token.Half.{Half}
use Rattle.ppc_text.specs.declared.token.Half.TheVariants.{Low, High, HighAdjusted}
use Rattle.ppc_text.specs.declared.token.Reference.{Reference}
use Rattle.ppc_text.specs.declared.token.Token.{Token}
use Rattle.ppc_text.specs.declared.token.Token.TheVariants as tokens
use Rattle.ppc_text.specs.declared.part.Reach.{Reach}
use Rattle.ppc_text.specs.declared.part.Reach.TheVariants.{Long, Short}
use Rattle.ppc_text.specs.declared.part.Part.{Part}
use Rattle.ppc_text.specs.declared.part.Part.TheVariants as parts
use Rattle.ppc_text.specs.declared.operand.Signed.{Signed}
use Rattle.ppc_text.specs.declared.operand.Address.{Address}
use Rattle.ppc_text.specs.declared.operand.Operand.{Operand}
use Rattle.ppc_text.specs.declared.operand.Operands.{Operands}
use Rattle.ppc_text.specs.declared.values.Value.{Value}
use Rattle.ppc_text.specs.declared.values.Value.TheVariants as values
use Rattle.ppc_text.specs.declared.line.Instruction.{Instruction}
use Rattle.ppc_text.specs.declared.line.Item.{Item}
use Rattle.ppc_text.specs.declared.line.Item.TheVariants as items
use Rattle.ppc_text.specs.declared.line.Line.{Line}
use Rattle.ppc_text.specs.declared.mnemonic.Spelling.{Spelling}
use Rattle.source_text.specs.Words.{is_blank, is_word_byte}
use Rattle.source_text.specs.Numbers.{are_digits, value_within, number_in, number_of}
use Rattle.source_text.specs.Strings.{string_at}
use Rattle.ppc_text.specs.Tokens.{number_token, name_token, word_len, name_len, plain_at, word_at, half_of, half_token, string_token, mark_of, token_at, tokens_from, tokens_of}
use Rattle.ppc_text.specs.Shapes.{parts_of}
use Rattle.ppc_text.specs.Operands.{first_number, number_at, taken_away, addend_at, address_with, address_at, half_kind, first_half, with_half, with_address, half_operand, plain, by_number, residue, immediate_at, reach_of, target_kind, words_of, target_address, register_of, register_at, swapped, is_comma, is_open, is_close, mark_operand, part_at, with_value, later, finished, with_operand, operands_from, operands_at}
use Rattle.ppc_text.specs.Mnemonics.{spelling_of}
use Rattle.ppc_text.specs.Lines.{colon_first, name_first, label_of, label_tokens, address_value, number_or, value_at, with_value_at, and_values, values_from, values_of, none_left, number_alone, name_alone, text_alone, is_alignment, alignment_item, instruction_with, spelled_instruction, instruction_of, item_of, item_at, line_of}

-- a name that an object file can hold: at most 255 bytes, none of them 0
pub record IsName (name : List ℕ) : Type 0 where
  pub size : length name ≤ longest_name
  pub no_zero : All (λ b. b ≢ 0) name

-- ---- choices
-- a property holds of the value, if there is one
abbrev pub Holds : {A : Type 0} → (A → Type 0) → Option A → Type 0
Holds P (Some x) = P x
Holds P None = Unit {0}

pick : {A : Type 0} (P : A → Type 0) (c : Bool) (x y : A) → (c ≡ true → P x) → (c ≡ false → P y) → P (if c then x else y)
pick P true x y p q = p refl
pick P false x y p q = q refl

-- ---- numbers and names
abbrev IsWord : ℕ → Type 0
IsWord n = n ≤ greatest_word

within : (v : ℕ) → Holds IsWord (value_within v)
within v = pick (Holds IsWord) (nat_le v greatest_word) (Some v) None (λ h. leb-true v greatest_word h) (λ h. tt)

word_in : (radix : ℕ) (digits : List ℕ) → Holds IsWord (number_in radix digits)
word_in radix digits = pick (Holds IsWord) (are_digits radix digits) (value_within (digits_value radix digits)) None (λ h. within (digits_value radix digits)) (λ h. tt)

word_of : (word : List ℕ) → Holds IsWord (number_of word)
word_of [] = word_in 10 []
word_of (b ∷ []) = word_in 10 (b ∷ [])
word_of (b ∷ c ∷ bs) =
    pick (Holds IsWord) (b == code "0" && c == code "x") (number_in 16 bs) (if b == code "0" then number_in 8 (b ∷ c ∷ bs) else number_in 10 (b ∷ c ∷ bs))
    (λ h. word_in 16 bs)
    (λ h. pick (Holds IsWord) (b == code "0") (number_in 8 (b ∷ c ∷ bs)) (number_in 10 (b ∷ c ∷ bs)) (λ k. word_in 8 (b ∷ c ∷ bs)) (λ k. word_in 10 (b ∷ c ∷ bs)))

no : false ≡ true → ⊥
no e = cc

not_zero : (b : ℕ) → is_word_byte b ≡ true → b ≢ 0
not_zero zero h e = no h
not_zero (suc b) h e = omega arith

prefix_word : (bs : List ℕ) → All (λ b. b ≢ 0) (take (word_len bs) bs)
prefix_word [] = All-nil (λ b. b ≢ 0)
prefix_word (b ∷ bs) = go (is_word_byte b) refl (prefix_word bs) where
  go : (c : Bool) → is_word_byte b ≡ c → All (λ b. b ≢ 0) (take (word_len bs) bs) → All (λ b. b ≢ 0) (take (if c then 1 + word_len bs else 0) (b ∷ bs))
  go true h a =
      let e : suc (word_len bs) ≡ 1 + word_len bs = omega arith in
      subst (λ k. All (λ b. b ≢ 0) (take k (b ∷ bs))) e (All-cons (λ b. b ≢ 0) b (take (word_len bs) bs) (not_zero b h) a)
  go false h a = All-nil (λ b. b ≢ 0)

-- ---- tokens
abbrev GoodToken : Token → Type 0
GoodToken (tokens.Name w) = IsName w
GoodToken (tokens.Number n) = n ≤ greatest_word
GoodToken _ = Unit {0}

abbrev GoodFirst : Token × ℕ → Type 0
GoodFirst x = GoodToken x.0

good_number : (o : Option ℕ) → Holds IsWord o → GoodToken (number_token o)
good_number (Some n) h = h
good_number None h = tt

good_name : (w : List ℕ) → All (λ b. b ≢ 0) w → GoodToken (name_token w)
good_name w h = pick GoodToken (nat_le (length w) longest_name) (tokens.Name w) tokens.Unknown (λ k. record { size = leb-true (length w) longest_name k; no_zero = h }) (λ k. tt)

good_plain : (b : ℕ) (bs : List ℕ) → is_word_byte b ≡ true → GoodFirst (plain_at b bs)
good_plain b bs h =
    pick GoodToken (is_ascii_digit b) (number_token (number_of (b ∷ take (word_len bs) bs))) (name_token (b ∷ take (word_len bs) bs))
    (λ k. good_number (number_of (b ∷ take (word_len bs) bs)) (word_of (b ∷ take (word_len bs) bs)))
    (λ k. good_name (b ∷ take (word_len bs) bs) (All-cons (λ b. b ≢ 0) b (take (word_len bs) bs) (not_zero b h) (prefix_word bs)))

good_word : (b : ℕ) (bs : List ℕ) → is_word_byte b ≡ true → GoodFirst (word_at b bs)
good_word b bs h =
    pick GoodFirst (is_ascii_digit b) (plain_at b bs) (if name_len bs == word_len bs then plain_at b bs else (tokens.Dotted (b ∷ take (name_len bs) bs), name_len bs))
    (λ k. good_plain b bs h)
    (λ k. pick GoodFirst (name_len bs == word_len bs) (plain_at b bs) (tokens.Dotted (b ∷ take (name_len bs) bs), name_len bs) (λ m. good_plain b bs h) (λ m. tt))

good_string : (string : Option (List ℕ × ℕ)) → GoodFirst (string_token string)
good_string (Some x) = tt
good_string None = tt

good_half : (o : Option Half) → GoodToken (half_token o)
good_half (Some h) = tt
good_half None = tt

good_mark : (b : ℕ) → GoodToken (mark_of b)
good_mark b =
    pick GoodToken (b == code ":") tokens.Colon _ (λ k. tt)
    (λ k. pick GoodToken (b == code ",") tokens.Comma _ (λ k. tt)
    (λ k. pick GoodToken (b == code "(") tokens.Open _ (λ k. tt)
    (λ k. pick GoodToken (b == code ")") tokens.Close _ (λ k. tt)
    (λ k. pick GoodToken (b == code "+") tokens.Plus _ (λ k. tt)
    (λ k. pick GoodToken (b == code "-") tokens.Minus tokens.Unknown (λ k. tt) (λ k. tt))))))

good_token : (b : ℕ) (bs : List ℕ) → GoodFirst (token_at b bs)
unfolding token_at
good_token b bs =
    pick GoodFirst (is_word_byte b) (word_at b bs) _ (λ k. good_word b bs k)
    (λ k. pick GoodFirst (b == code ".") (tokens.Dotted (b ∷ take (word_len bs) bs), word_len bs) _ (λ k. tt)
    (λ k. pick GoodFirst (b == code "\"") (string_token (string_at bs)) _ (λ k. good_string (string_at bs))
    (λ k. pick GoodFirst (b == code "@") (half_token (half_of (take (word_len bs) bs)), word_len bs) (mark_of b, 0) (λ k. good_half (half_of (take (word_len bs) bs))) (λ k. good_mark b))))

good_tokens : (passed : ℕ) (bs : List ℕ) → All GoodToken (tokens_from passed bs)
good_tokens passed [] = All-nil GoodToken
good_tokens (suc passed) (b ∷ bs) = good_tokens passed bs
good_tokens zero (b ∷ bs) =
    pick (All GoodToken) (is_blank b) (tokens_from 0 bs) (if b == code "#" then [] else (token_at b bs).0 ∷ tokens_from (token_at b bs).1 bs)
    (λ k. good_tokens 0 bs)
    (λ k. pick (All GoodToken) (b == code "#") [] ((token_at b bs).0 ∷ tokens_from (token_at b bs).1 bs)
    (λ m. All-nil GoodToken)
    (λ m. All-cons GoodToken (token_at b bs).0 (tokens_from (token_at b bs).1 bs) (good_token b bs) (good_tokens (token_at b bs).1 bs)))

-- ---- references
pub record GoodReference (r : Reference) : Type 0 where
  pub name : IsName r.symbol
  pub addend : r.addend < 2 ^ 32
  pub kind : r.kind < 2 ^ 8

abbrev IsShort : ℕ → Type 0
IsShort n = n < 2 ^ 32

record GoodAddress (a : Address) : Type 0 where
  pub name : IsName a.symbol
  pub addend : a.addend < 2 ^ 32

first_word : (ts : List Token) → All GoodToken ts → Holds IsShort (first_number ts)
first_word [] h = tt
first_word (tokens.Number n ∷ ts) h = let k : n ≤ greatest_word = All-head GoodToken (tokens.Number n) ts h in omega arith
first_word (t ∷ ts) h = tt

taken_word : (o : Option ℕ) → Holds IsShort (taken_away o)
taken_word (Some n) = omega arith
taken_word None = tt

addend_word : (ts : List Token) → All GoodToken ts → Holds IsShort (addend_at ts)
addend_word [] h = tt
addend_word (tokens.Plus ∷ ts) h = first_word ts (All-tail GoodToken tokens.Plus ts h)
addend_word (tokens.Minus ∷ ts) h = taken_word (first_number ts)
addend_word (t ∷ ts) h = tt

good_with : (s : List ℕ) (o : Option ℕ) → IsName s → Holds IsShort o → GoodAddress (address_with s o)
good_with s (Some n) g h = record { name = g; addend = h }
good_with s None g h = record { name = g; addend = omega arith }

good_address : (ts : List Token) → All GoodToken ts → Holds GoodAddress (address_at ts)
good_address [] h = tt
good_address (tokens.Name s ∷ ts) h = good_with s (addend_at ts) (All-head GoodToken (tokens.Name s) ts h) (addend_word ts (All-tail GoodToken (tokens.Name s) ts h))
good_address (t ∷ ts) h = tt

-- ---- operands
abbrev pub GoodMaybe : Option Reference → Type 0
GoodMaybe o = Holds GoodReference o

abbrev GoodOperand : Operand → Type 0
GoodOperand x = GoodMaybe x.reference

abbrev GoodOperands : Operands → Type 0
GoodOperands x = GoodMaybe x.reference

kind_half : (h : Half) → half_kind h < 2 ^ 8
kind_half Low = omega arith
kind_half High = omega arith
kind_half HighAdjusted = omega arith

kind_target : (reach : Reach) (absolute : Bool) → target_kind reach absolute < 2 ^ 8
kind_target Long false = omega arith
kind_target Long true = omega arith
kind_target Short false = omega arith
kind_target Short true = omega arith

good_after : (a : Address) (o : Option Half) → GoodAddress a → Holds GoodOperand (with_half a o)
good_after a (Some h) g = record { name = g.name; addend = g.addend; kind = kind_half h }
good_after a None g = tt

good_halves : (ts : List Token) (o : Option Address) → Holds GoodAddress o → Holds GoodOperand (with_address o (λ a. with_half a (first_half (drop a.count ts))))
good_halves ts (Some a) g = good_after a (first_half (drop a.count ts)) g
good_halves ts None g = tt

good_target : (kind : ℕ) (o : Option Address) → kind < 2 ^ 8 → Holds GoodAddress o → Holds GoodOperand (target_address kind o)
good_target kind (Some a) k g = record { name = g.name; addend = g.addend; kind = k }
good_target kind None k g = tt

good_plainly : (o : Option ℕ) (n : ℕ) → Holds GoodOperand (plain o n)
good_plainly (Some v) n = tt
good_plainly None n = tt

good_by : (o : Option Signed) (go : Signed → Option Operand) (other : Option Operand) → ((n : Signed) → Holds GoodOperand (go n)) → Holds GoodOperand other → Holds GoodOperand (by_number o go other)
good_by (Some n) go other h k = h n
good_by None go other h k = k

good_register : (ts : List Token) → Holds GoodOperand (register_at ts)
good_register [] = tt
good_register (tokens.Name s ∷ ts) = good_plainly (register_of s) 1
good_register (t ∷ ts) = tt

good_marked : (c : Bool) → Holds GoodOperand (mark_operand c)
good_marked true = tt
good_marked false = tt

good_immediate : (least greatest : ℕ) (ts : List Token) → All GoodToken ts → Holds GoodOperand (immediate_at least greatest ts)
good_immediate least greatest ts h =
    good_by (number_at ts) (λ n. plain (residue least greatest n) n.count) (half_operand ts) (λ n. good_plainly (residue least greatest n) n.count) (good_halves ts (address_at ts) (good_address ts h))

good_part : (p : Part) (absolute : Bool) (ts : List Token) → All GoodToken ts → Holds GoodOperand (part_at p absolute ts)
unfolding part_at
good_part parts.Comma absolute ts h = good_marked (is_comma ts)
good_part parts.Open absolute ts h = good_marked (is_open ts)
good_part parts.Close absolute ts h = good_marked (is_close ts)
good_part (parts.Register place) absolute ts h = good_register ts
good_part (parts.Twice place other) absolute ts h = good_register ts
good_part (parts.Number place greatest) absolute ts h = good_by (number_at ts) (λ n. plain (residue 0 greatest n) n.count) None (λ n. good_plainly (residue 0 greatest n) n.count) tt
good_part (parts.Special place) absolute ts h = good_by (number_at ts) (λ n. plain (swapped (residue 0 1023 n)) n.count) None (λ n. good_plainly (swapped (residue 0 1023 n)) n.count) tt
good_part (parts.Signed place greatest) absolute ts h = good_immediate 0x8000 greatest ts h
good_part (parts.Unsigned place) absolute ts h = good_immediate 0 0xffff ts h
good_part (parts.Target place reach) absolute ts h =
    good_by (number_at ts) (λ n. plain (words_of (residue (reach_of reach) (reach_of reach - 1) n)) n.count) (target_address (target_kind reach absolute) (address_at ts))
    (λ n. good_plainly (words_of (residue (reach_of reach) (reach_of reach - 1) n)) n.count)
    (good_target (target_kind reach absolute) (address_at ts) (kind_target reach absolute) (good_address ts h))
good_part (parts.Fixed place value) absolute ts h = tt

good_later : (before : Option Reference) (o : Option Reference) → GoodMaybe before → GoodMaybe o → GoodMaybe (later before o)
good_later before (Some r) g h = h
good_later before None g h = g

good_finished : (fields : List ℕ) (reference : Option Reference) (ts : List Token) → GoodMaybe reference → Holds GoodOperands (finished fields reference ts)
good_finished fields reference [] g = g
good_finished fields reference (t ∷ ts) g = tt

good_with_operand : (o : Option Operand) (go : Operand → Option Operands) → Holds GoodOperand o → ((x : Operand) → GoodOperand x → Holds GoodOperands (go x)) → Holds GoodOperands (with_operand o go)
good_with_operand (Some x) go k h = h x k
good_with_operand None go k h = tt

good_from : (ps : List Part) (absolute : Bool) (fields : List ℕ) (reference : Option Reference) (ts : List Token) → GoodMaybe reference → All GoodToken ts → Holds GoodOperands (operands_from ps absolute fields reference ts)
good_from [] absolute fields reference ts g h = good_finished fields reference ts g
good_from (p ∷ ps) absolute fields reference ts g h =
    good_with_operand (part_at p absolute ts) (λ x. operands_from ps absolute (with_value fields p x.value) (later reference x.reference) (drop x.count ts)) (good_part p absolute ts h)
    (λ x k. good_from ps absolute (with_value fields p x.value) (later reference x.reference) (drop x.count ts) (good_later reference x.reference g k) (All-drop GoodToken x.count ts h))

-- ---- items
abbrev pub GoodValue : Value → Type 0
GoodValue (values.Number w) = Unit {0}
GoodValue (values.Address r) = GoodReference r

abbrev pub GoodItem : Item → Type 0
GoodItem (items.Global name) = IsName name
GoodItem (items.Long vs) = All GoodValue vs
GoodItem (items.Instruction i) = GoodMaybe i.reference
GoodItem _ = Unit {0}

pub record GoodLine (l : Line) : Type 0 where
  pub label : Holds IsName l.label
  pub item : GoodItem l.item

abbrev GoodCounted : Value × ℕ → Type 0
GoodCounted x = GoodValue x.0

good_addressed : (o : Option Address) → Holds GoodAddress o → Holds GoodCounted (address_value o)
good_addressed (Some a) g = record { name = g.name; addend = g.addend; kind = omega arith }
good_addressed None g = tt

good_numbered : (o : Option Signed) (other : Option (Value × ℕ)) → Holds GoodCounted other → Holds GoodCounted (number_or o other)
good_numbered (Some n) other h = tt
good_numbered None other h = h

good_value : (ts : List Token) → All GoodToken ts → Holds GoodCounted (value_at ts)
unfolding value_at
good_value ts h = good_numbered (number_at ts) (address_value (address_at ts)) (good_addressed (address_at ts) (good_address ts h))

abbrev GoodValues : Option (List Value) → Type 0
GoodValues o = Holds (All GoodValue) o

good_and : (v : Value) (more : Option (List Value)) → GoodValue v → GoodValues more → GoodValues (and_values (v ∷ []) more)
good_and v (Some ws) g h = All-cons GoodValue v ws g h
good_and v None g h = tt

good_with_value : (o : Option (Value × ℕ)) (go : Value → ℕ → Option (List Value)) → Holds GoodCounted o → ((v : Value) (n : ℕ) → GoodValue v → GoodValues (go v n)) → GoodValues (with_value_at o go)
good_with_value (Some x) go g h = h x.0 x.1 g
good_with_value None go g h = tt

good_values : (wanted : Bool) (k : ℕ) (ts : List Token) → All GoodToken ts → GoodValues (values_from wanted k ts)
good_values true k [] h = tt
good_values false k [] h = All-nil GoodValue
good_values true (suc k) (t ∷ ts) h = good_values true k ts (All-tail GoodToken t ts h)
good_values false (suc k) (t ∷ ts) h = good_values false k ts (All-tail GoodToken t ts h)
good_values true zero (t ∷ ts) h =
    good_with_value (value_at (t ∷ ts)) (λ v n. and_values (v ∷ []) (values_from false (n - 1) ts)) (good_value (t ∷ ts) h)
    (λ v n g. good_and v (values_from false (n - 1) ts) g (good_values false (n - 1) ts (All-tail GoodToken t ts h)))
good_values false zero (t ∷ ts) h = pick GoodValues (is_comma (t ∷ ts)) (values_from true 0 ts) None (λ k. good_values true 0 ts (All-tail GoodToken t ts h)) (λ k. tt)

abbrev GoodInsn : Instruction → Type 0
GoodInsn i = GoodMaybe i.reference

good_insn_with : (s : Spelling) (o : Option Operands) → Holds GoodOperands o → Holds GoodInsn (instruction_with s o)
good_insn_with s (Some o) g = g
good_insn_with s None g = tt

good_spelled : (o : Option Spelling) (ts : List Token) → All GoodToken ts → Holds GoodInsn (spelled_instruction o ts)
unfolding operands_at
good_spelled (Some s) ts h = good_insn_with s (operands_from (parts_of s.shape) s.absolute s.fields None ts) (good_from (parts_of s.shape) s.absolute s.fields None ts tt h)
good_spelled None ts h = tt

good_insn : (name : List ℕ) (ts : List Token) → All GoodToken ts → Holds GoodInsn (instruction_of name ts)
unfolding instruction_of
good_insn name ts h = good_spelled (spelling_of name) ts h

good_alone : (ts : List Token) → All GoodToken ts → Holds IsName (name_alone ts)
good_alone [] h = tt
good_alone (tokens.Name s ∷ []) h = All-head GoodToken (tokens.Name s) [] h
good_alone (t ∷ ts) h = tt

abbrev MaybeItem : Option Item → Type 0
MaybeItem o = Holds GoodItem o

good_none_left : (item : Item) (ts : List Token) → GoodItem item → MaybeItem (none_left (Some item) ts)
good_none_left item [] g = g
good_none_left item (t ∷ ts) g = tt

good_global : (o : Option (List ℕ)) → Holds IsName o → MaybeItem (option_map items.Global o)
good_global (Some s) g = g
good_global None g = tt

good_long : (o : Option (List Value)) → GoodValues o → MaybeItem (option_map items.Long o)
good_long (Some vs) g = g
good_long None g = tt

good_ascii : (o : Option (List ℕ)) → MaybeItem (option_map items.Ascii o)
good_ascii (Some s) = tt
good_ascii None = tt

good_space : (o : Option ℕ) → MaybeItem (option_map items.Space o)
good_space (Some n) = tt
good_space None = tt

good_align : (o : Option ℕ) → MaybeItem (alignment_item o)
good_align (Some n) = pick MaybeItem (is_alignment n) (Some (items.Align n)) None (λ k. tt) (λ k. tt)
good_align None = tt

good_made : (o : Option Instruction) → Holds GoodInsn o → MaybeItem (option_map items.Instruction o)
good_made (Some i) g = g
good_made None g = tt

good_item_of : (name : List ℕ) (ts : List Token) → All GoodToken ts → MaybeItem (item_of name ts)
unfolding item_of values_of
good_item_of name ts h =
    pick MaybeItem (bytes_eq name (codes ".text")) (none_left (Some items.Text) ts) _ (λ k. good_none_left items.Text ts tt)
    (λ k. pick MaybeItem (bytes_eq name (codes ".data")) (none_left (Some items.Data) ts) _ (λ k. good_none_left items.Data ts tt)
    (λ k. pick MaybeItem (bytes_eq name (codes ".globl")) (option_map items.Global (name_alone ts)) _ (λ k. good_global (name_alone ts) (good_alone ts h))
    (λ k. pick MaybeItem (bytes_eq name (codes ".long")) (option_map items.Long (values_from true 0 ts)) _ (λ k. good_long (values_from true 0 ts) (good_values true 0 ts h))
    (λ k. pick MaybeItem (bytes_eq name (codes ".ascii")) (option_map items.Ascii (text_alone ts)) _ (λ k. good_ascii (text_alone ts))
    (λ k. pick MaybeItem (bytes_eq name (codes ".space")) (option_map items.Space (number_alone 0x10000 ts)) _ (λ k. good_space (number_alone 0x10000 ts))
    (λ k. pick MaybeItem (bytes_eq name (codes ".align")) (alignment_item (number_alone 16 ts)) (option_map items.Instruction (instruction_of name ts)) (λ k. good_align (number_alone 16 ts))
    (λ k. good_made (instruction_of name ts) (good_insn name ts h))))))))

good_item : (ts : List Token) → All GoodToken ts → MaybeItem (item_at ts)
good_item [] h = tt
good_item (tokens.Name s ∷ ts) h = good_item_of s ts (All-tail GoodToken (tokens.Name s) ts h)
good_item (tokens.Dotted s ∷ ts) h = good_item_of s ts (All-tail GoodToken (tokens.Dotted s) ts h)
good_item (t ∷ ts) h = tt

good_name_first : (ts : List Token) → All GoodToken ts → Holds IsName (name_first ts)
good_name_first [] h = tt
good_name_first (tokens.Name s ∷ ts) h = All-head GoodToken (tokens.Name s) ts h
good_name_first (t ∷ ts) h = tt

good_label : (ts : List Token) → All GoodToken ts → Holds IsName (label_of ts)
good_label ts h = pick (Holds IsName) (colon_first (drop 1 ts)) (name_first ts) None (λ k. good_name_first ts h) (λ k. tt)

good_lined : (label : Option (List ℕ)) (o : Option Item) → Holds IsName label → MaybeItem o → Holds GoodLine (option_map (λ item. record { label = label; item = item }) o)
good_lined label (Some item) g h = record { label = g; item = h }
good_lined label None g h = tt

-- the names of a line can stand in an object file, and its references have relocations
pub good_line : (bytes : List ℕ) → Holds GoodLine (line_of bytes)
unfolding line_of tokens_of
good_line bytes =
    let ts = tokens_from 0 bytes in
    let h : All GoodToken ts = good_tokens 0 bytes in
    good_lined (label_of ts) (item_at (drop (label_tokens (label_of ts)) ts)) (good_label ts h)
    (good_item (drop (label_tokens (label_of ts)) ts) (All-drop GoodToken (label_tokens (label_of ts)) ts h))
