-- Lines of source text: an optional label and an item.
use Rattle.std.specs.Prelude.{ℕ, zero, suc, ◌-◌, ◌%◌, ◌^◌, Bool, true, false, ◌==◌, ◌||◌, if◌then◌else◌, List, [], ◌∷◌, ◌++◌, drop, Option, Some, None, option_map, bytes_eq, codes}
use Rattle.ppc_text.specs.declared.token.Token.{Token}
use Rattle.ppc_text.specs.declared.token.Token.TheVariants as tokens
use Rattle.ppc_text.specs.declared.values.Value.{Value}
use Rattle.ppc_text.specs.declared.values.Value.TheVariants as values
use Rattle.ppc_text.specs.declared.line.Instruction.{Instruction}
use Rattle.ppc_text.specs.declared.line.Item.{Item}
use Rattle.ppc_text.specs.declared.line.Item.TheVariants as items
use Rattle.ppc_text.specs.declared.line.Line.{Line}
use Rattle.ppc_text.specs.declared.operand.Signed.{Signed}
use Rattle.ppc_text.specs.declared.operand.Address.{Address}
use Rattle.ppc_text.specs.declared.operand.Operands.{Operands}
use Rattle.ppc_text.specs.declared.mnemonic.Spelling.{Spelling}
use Rattle.ppc_text.specs.Tokens.{tokens_of}
use Rattle.ppc_text.specs.Shapes.{parts_of}
use Rattle.ppc_text.specs.Operands.{number_at, residue, address_at, is_comma, operands_at}
use Rattle.ppc_text.specs.Mnemonics.{spelling_of}

-- ---- labels
-- the first token is a colon
abbrev pub colon_first : List Token → Bool
colon_first (tokens.Colon ∷ ts) = true
colon_first _ = false

-- the name that the tokens begin with
abbrev pub name_first : List Token → Option (List ℕ)
name_first (tokens.Name s ∷ ts) = Some s
name_first _ = None

-- the label of a line: a name with a colon after it
abbrev pub label_of : List Token → Option (List ℕ)
label_of ts = if colon_first (drop 1 ts) then name_first ts else None

-- how many tokens a label takes
abbrev pub label_tokens : Option (List ℕ) → ℕ
label_tokens (Some s) = 2
label_tokens None = 0

-- ---- words of data
-- a number modulo 2^32
abbrev pub wrapped : Signed → ℕ
wrapped n = if n.negative then (2 ^ 32 - n.size) % 2 ^ 32 else n.size

-- an address as a word of data: R_PPC_ADDR32 of the PowerPC ABI supplement
abbrev pub address_value : Option Address → Option (Value × ℕ)
address_value (Some a) = Some (values.Address (record { symbol = a.symbol; addend = a.addend; kind = 1 }), a.count)
address_value None = None

-- the number as a word of data, or else the other word
abbrev pub number_or : Option Signed → Option (Value × ℕ) → Option (Value × ℕ)
number_or (Some n) other = Some (values.Number (wrapped n), n.count)
number_or None other = other

-- the word of data that comes next, a number or an address, and how many tokens it takes
unfoldable pub value_at : List Token → Option (Value × ℕ)
value_at ts = number_or (number_at ts) (address_value (address_at ts))

-- what follows a word of data, if there is one
abbrev pub with_value_at : Option (Value × ℕ) → (Value → ℕ → Option (List Value)) → Option (List Value)
with_value_at (Some x) go = go x.0 x.1
with_value_at None go = None

-- these words, then those that follow, if there are any words to follow
abbrev pub and_values : List Value → Option (List Value) → Option (List Value)
and_values vs more = option_map (λ ws. vs ++ ws) more

-- the words of data that these tokens write, separated by commas, after the first k tokens, which belong to the word before;
-- if `wanted`, a word has to follow, else a comma or the end
abbrev pub values_from : Bool → ℕ → List Token → Option (List Value)
values_from true k [] = None
values_from false k [] = Some []
values_from wanted (suc k) (t ∷ ts) = values_from wanted k ts
values_from true zero (t ∷ ts) = with_value_at (value_at (t ∷ ts)) (λ v n. and_values (v ∷ []) (values_from false (n - 1) ts))
values_from false zero (t ∷ ts) = if is_comma (t ∷ ts) then values_from true 0 ts else None

-- the words of data that these tokens write, at least one
unfoldable pub values_of : List Token → Option (List Value)
values_of ts = values_from true 0 ts

-- ---- the other directives
-- a value, if no token is left
abbrev pub none_left : {A : Type 0} → Option A → List Token → Option A
none_left x [] = x
none_left x (t ∷ ts) = None

-- a number up to a greatest one, and no token after it
abbrev pub number_of_all : ℕ → Option Signed → List Token → Option ℕ
number_of_all greatest (Some n) ts = none_left (residue 0 greatest n) (drop n.count ts)
number_of_all greatest None ts = None

-- the number up to a greatest one that these tokens are
abbrev pub number_alone : ℕ → List Token → Option ℕ
number_alone greatest ts = number_of_all greatest (number_at ts) ts

-- the name that these tokens are
abbrev pub name_alone : List Token → Option (List ℕ)
name_alone (tokens.Name s ∷ []) = Some s
name_alone _ = None

-- the string that these tokens are
abbrev pub text_alone : List Token → Option (List ℕ)
text_alone (tokens.Str s ∷ []) = Some s
text_alone _ = None

-- the numbers that `.align` takes
abbrev pub is_alignment : ℕ → Bool
is_alignment n = n == 1 || (n == 2 || (n == 4 || (n == 8 || n == 16)))

-- the item of `.align` with this number
abbrev pub alignment_item : Option ℕ → Option Item
alignment_item (Some n) = if is_alignment n then Some (items.Align n) else None
alignment_item None = None

-- ---- instructions
-- the instruction with these operands; a relocated field holds 0
abbrev pub instruction_with : Spelling → Option Operands → Option Instruction
instruction_with s (Some o) = Some (record { row = s.row; fields = o.fields; reference = o.reference })
instruction_with s None = None

-- the instruction with this spelling and these operands
abbrev pub spelled_instruction : Option Spelling → List Token → Option Instruction
spelled_instruction (Some s) ts = instruction_with s (operands_at (parts_of s.shape) s.absolute s.fields ts)
spelled_instruction None ts = None

-- the instruction of a mnemonic with these operands
unfoldable pub instruction_of : List ℕ → List Token → Option Instruction
instruction_of name ts = spelled_instruction (spelling_of name) ts

-- ---- items
-- the item of a directive or a mnemonic with these tokens after it
unfoldable pub item_of : List ℕ → List Token → Option Item
item_of name ts =
    if bytes_eq name (codes ".text") then none_left (Some items.Text) ts
    else (if bytes_eq name (codes ".data") then none_left (Some items.Data) ts
    else (if bytes_eq name (codes ".globl") then option_map items.Global (name_alone ts)
    else (if bytes_eq name (codes ".long") then option_map items.Long (values_of ts)
    else (if bytes_eq name (codes ".ascii") then option_map items.Ascii (text_alone ts)
    else (if bytes_eq name (codes ".space") then option_map items.Space (number_alone 0x10000 ts)
    else (if bytes_eq name (codes ".align") then alignment_item (number_alone 16 ts)
    else option_map items.Instruction (instruction_of name ts)))))))

-- the item of these tokens
abbrev pub item_at : List Token → Option Item
item_at [] = Some items.Nothing
item_at (tokens.Name name ∷ ts) = item_of name ts
item_at (tokens.Dotted name ∷ ts) = item_of name ts
item_at (t ∷ ts) = None

-- ---- lines
-- the line of these tokens: an optional label, then an item
abbrev pub line_at : List Token → Option Line
line_at ts = option_map (λ item. record { label = label_of ts; item = item }) (item_at (drop (label_tokens (label_of ts)) ts))

-- the line that these bytes write; none if they are outside the grammar or an operand is outside its range
unfoldable pub line_of : List ℕ → Option Line
line_of bytes = line_at (tokens_of bytes)
