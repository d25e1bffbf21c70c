-- Escaped bytes read back, and a body can have each of them.
use Rattle.std.proofs.Common.{◌≡◌, ℕ, ◌≢◌, false, List, [], ◌∷◌, ◌++◌, refl, sym, ap, ◌∙◌, arith, subst, inl, inr}
use Rattle.std.specs.Prelude.{All, ◌==◌}
use Rattle.std.proofs.lemmas.Bool.{cases_eq}
use Rattle.std.proofs.lemmas.Bool.Decides.{nat_tests}
use Rattle.std.proofs.lemmas.List.Elements.{All-append, All-cons, All-nil}
use Rattle.debug_wire.specs.Escapes.{escaped, escaped_byte, is_escaped, unescaped}
use Rattle.debug_wire.specs.Laws.{EscapeLaw, IsPlain}

-- a byte that isn't `}` stands for itself
plain_head : (b : ℕ) (bs : List ℕ) → (b == 125) ≡ false → unescaped (b ∷ bs) ≡ b ∷ unescaped bs
plain_head b [] other = refl
plain_head b (c ∷ bs) other = rw other refl

-- what holds of the four escaped bytes, and of each that isn't escaped, holds of all
by_byte : (P : ℕ → Type 0) → P 35 → P 36 → P 125 → P 42 → ((b : ℕ) → b ≢ 35 → b ≢ 36 → b ≢ 125 → is_escaped b ≡ false → P b) → (b : ℕ) → P b
by_byte P hash dollar brace star other b =
    elim (cases_eq b 35) [
      | inl e ↦ subst P (sym e) hash
      | inr no_hash ↦
          elim (cases_eq b 36) [
            | inl e ↦ subst P (sym e) dollar
            | inr no_dollar ↦
                elim (cases_eq b 125) [
                  | inl e ↦ subst P (sym e) brace
                  | inr no_brace ↦
                      elim (cases_eq b 42) [
                        | inl e ↦ subst P (sym e) star
                        | inr no_star ↦
                            let plain : is_escaped b ≡ false = grind (arith, nat_tests) in
                            other b no_hash no_dollar no_brace plain
                      ]
                ]
          ]
    ]

byte_back : (bs : List ℕ) (b : ℕ) → unescaped (escaped_byte b ++ bs) ≡ b ∷ unescaped bs
byte_back bs =
    by_byte (λ b. unescaped (escaped_byte b ++ bs) ≡ b ∷ unescaped bs) refl refl refl refl
    (λ b no_hash no_dollar no_brace plain.
    let other : (b == 125) ≡ false = grind (arith, nat_tests) in
    rw plain (plain_head b bs other))

byte_plain : (b : ℕ) → All IsPlain (escaped_byte b)
byte_plain =
    by_byte (λ b. All IsPlain (escaped_byte b)) (two 3 (omega arith, omega arith)) (two 4 (omega arith, omega arith)) (two 93 (omega arith, omega arith)) (two 10 (omega arith, omega arith))
    (λ b no_hash no_dollar no_brace plain. rw plain (All-cons IsPlain b [] (no_dollar, no_hash) (All-nil IsPlain)))
  where
    two : (c : ℕ) → IsPlain c → All IsPlain (125 ∷ c ∷ [])
    two c h = All-cons IsPlain 125 (c ∷ []) (omega arith, omega arith) (All-cons IsPlain c [] h (All-nil IsPlain))

back : (bytes : List ℕ) → unescaped (escaped bytes) ≡ bytes
back [] = refl
back (b ∷ bs) = byte_back (escaped bs) b ∙ ap (λ xs. b ∷ xs) (back bs)

all_plain : (bytes : List ℕ) → All IsPlain (escaped bytes)
all_plain [] = All-nil IsPlain
all_plain (b ∷ bs) = All-append IsPlain (escaped_byte b) (escaped bs) (byte_plain b) (all_plain bs)

pub escapes_read_back : EscapeLaw
escapes_read_back bytes = (back bytes, all_plain bytes)
