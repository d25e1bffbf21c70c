-- The fields of an instruction word, by their names in the book (Book I 1.7).
use Rattle.std.specs.Prelude.{ℕ, ◌+◌, ◌*◌, ◌^◌, Bool, ◌==◌}
use Rattle.ppc_word.specs.Bits.{bits, sign_extended}

-- RT, a target register; RS, TO and BT have the same place
unfoldable pub rt : ℕ → ℕ
rt w = bits w 6 10

-- RA, a register; BI and BA have the same place
unfoldable pub ra : ℕ → ℕ
ra w = bits w 11 15

-- RB, a register; SH and BB have the same place
unfoldable pub rb : ℕ → ℕ
rb w = bits w 16 20

-- UI, an unsigned 16-bit number
unfoldable pub ui : ℕ → ℕ
ui w = bits w 16 31

-- UI as the high half of a word
unfoldable pub high_ui : ℕ → ℕ
high_ui w = bits w 16 31 * 2 ^ 16

-- SI or D, a signed 16-bit number, extended to a word
unfoldable pub si : ℕ → ℕ
si w = sign_extended 16 (bits w 16 31)

-- MB and ME, the first and the last bit of a mask
unfoldable pub mb : ℕ → ℕ
mb w = bits w 21 25

unfoldable pub me : ℕ → ℕ
me w = bits w 26 30

-- OE: the instruction records overflow in XER
unfoldable pub oe : ℕ → Bool
oe w = bits w 21 21 == 1

-- Rc: the instruction records the result in CR0
unfoldable pub rc : ℕ → Bool
rc w = bits w 31 31 == 1

-- BF, the number of a CR field
unfoldable pub bf : ℕ → ℕ
bf w = bits w 6 8

-- BFA, the number of a CR field
unfoldable pub bfa : ℕ → ℕ
bfa w = bits w 11 13

-- SPR, the number of a special register, whose halves are swapped in the word
unfoldable pub spr : ℕ → ℕ
spr w = bits w 16 20 * 2 ^ 5 + bits w 11 15

-- LI, the displacement of a branch: two zero bits are appended, and it is sign-extended to a word
unfoldable pub li : ℕ → ℕ
li w = sign_extended 26 (bits w 6 29 * 4)

-- BD, the displacement of a conditional branch, in the same way
unfoldable pub bd : ℕ → ℕ
bd w = sign_extended 16 (bits w 16 29 * 4)

-- AA: the displacement of a branch is an address
unfoldable pub aa : ℕ → Bool
aa w = bits w 30 30 == 1

-- LK: the branch sets LR
unfoldable pub lk : ℕ → Bool
lk w = bits w 31 31 == 1

-- bit k of BO, for k from 0 to 4
abbrev pub bo : ℕ → ℕ → ℕ
bo w k = bits w (6 + k) (6 + k)

-- bit k of FXM, for k from 0 to 7
abbrev pub fxm : ℕ → ℕ → ℕ
fxm w k = bits w (12 + k) (12 + k)
