-- Primary opcodes that alone decide the instruction.
use Rattle.std.proofs.Common.{◌≡◌, ℕ, ◌/◌, ◌%◌, ◌^◌, true, ◌&&◌, nat_eq, List, [], ◌∷◌, Some, refl, sym, ap, ◌∙◌, eqb-true, eq-eqb}
use Rattle.std.proofs.lemmas.Bool.{and_parts}
use Rattle.ppc_word.specs.declared.piece.Piece.{Piece}
use Rattle.ppc_word.specs.declared.piece.Piece.TheVariants.{Fixed, Field}
use Rattle.ppc_word.specs.declared.row.Row.{Row}
use Rattle.ppc_word.specs.declared.rule.Rule.{Rule}
use Rattle.ppc_word.specs.declared.rule.Rule.TheVariants.{Any}
use Rattle.ppc_word.specs.Words.{bits, meets}
use Rattle.ppc_word.specs.Rules.{allowed}
use Rattle.ppc_word.specs.Table.{form_at, form_of, number}
use Rattle.ppc_word.specs.Rows.{is_word_of, row_of}
use Rattle.ppc_word.specs.Opcodes.{only_fields, allows_all, opcode_then_fields, is_decided_by}
use Rattle.ppc_word.proofs.Whole.{number-below, number-row, number-one}
use Rattle.ppc_word.proofs.Found.{row_of-at}

fields-meet : (ps : List Piece) (w : ℕ) → only_fields ps ≡ true → meets ps w ≡ true
fields-meet [] w h = refl
fields-meet (Field v ∷ ps) w h = fields-meet ps w h
fields-meet (Fixed v n ∷ ps) w h = absurd (cc)

all-allowed : (rule : Rule) (w : ℕ) → allows_all rule ≡ true → allowed rule w ≡ true
all-allowed Any w h = refl
all-allowed rule w h = absurd (cc)

opcode-meets : (ps : List Piece) (n w : ℕ) → opcode_then_fields ps n ≡ true → w / 2 ^ 26 % 2 ^ 6 ≡ n → meets ps w ≡ true
opcode-meets [] n w h e = absurd (cc)
opcode-meets (Field v ∷ ps) n w h e = absurd (cc)
opcode-meets (Fixed v m ∷ ps) n w h e =
    let a = and_parts (nat_eq v 6) (nat_eq m n && (nat_eq (bits ps) 26 && only_fields ps)) h in
    let b = and_parts (nat_eq m n) (nat_eq (bits ps) 26 && only_fields ps) a.1 in
    let c = and_parts (nat_eq (bits ps) 26) (only_fields ps) b.1 in
    let width : v ≡ 6 = eqb-true _ _ a.0 in
    let value : w / 2 ^ 26 % 2 ^ 6 ≡ m = e ∙ sym (eqb-true _ _ b.0) in
    let after : bits ps ≡ 26 = eqb-true _ _ c.0 in
    let rest : meets ps w ≡ true = fields-meet ps w c.1 in
    ap (λ k. nat_eq (w / 2 ^ k % 2 ^ v) m && meets ps w) after
    ∙ ap (λ k. nat_eq (w / 2 ^ 26 % 2 ^ k) m && meets ps w) width
    ∙ ap (λ t. t && meets ps w) (eq-eqb _ _ value)
    ∙ rest

decided-word : (r : Row) (w : ℕ) → is_decided_by r (w / 2 ^ 26 % 2 ^ 6) ≡ true → is_word_of (form_of r) w ≡ true
unfolding is_decided_by is_word_of
decided-word r w h =
    let a = and_parts (opcode_then_fields (form_of r).pieces (w / 2 ^ 26 % 2 ^ 6)) (allows_all (form_of r).rule) h in
    ap (λ t. t && allowed (form_of r).rule w) (opcode-meets (form_of r).pieces (w / 2 ^ 26 % 2 ^ 6) w a.0 refl) ∙ all-allowed (form_of r).rule w a.1

-- such an opcode decides the instruction of each word with it
pub decided-row : (r : Row) (w : ℕ) → is_decided_by r (w / 2 ^ 26 % 2 ^ 6) ≡ true → row_of w ≡ Some r
decided-row r w h =
    row_of-at (number r) w (number-below r) (decided-word r w h)
    ∙ ap Some (number-one (form_at (number r)).row r (number-row (number r) (number-below r)))
