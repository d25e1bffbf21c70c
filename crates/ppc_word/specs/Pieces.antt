-- The pieces of instruction words, by their names in the Power ISA, Book I.
use Rattle.std.specs.Prelude.{ℕ}
use Rattle.ppc_word.specs.declared.piece.Piece.{Piece}
use Rattle.ppc_word.specs.declared.piece.Piece.TheVariants.{Fixed, Field}

-- the opcode
abbrev pub op : ℕ → Piece
op n = Fixed 6 n

-- the extended opcode of 9 bits
abbrev pub xo9 : ℕ → Piece
xo9 n = Fixed 9 n

-- the extended opcode of 10 bits
abbrev pub xo : ℕ → Piece
xo n = Fixed 10 n

-- bits that must be 0
abbrev pub zeros : ℕ → Piece
zeros w = Fixed w 0

-- registers: the target, the source, and two operands
abbrev pub rt : Piece
rt = Field 5

abbrev pub rs : Piece
rs = Field 5

abbrev pub ra : Piece
ra = Field 5

abbrev pub rb : Piece
rb = Field 5

-- the conditions of a trap and of a branch, and the CR bit that a branch tests
abbrev pub to : Piece
to = Field 5

abbrev pub bo : Piece
bo = Field 5

abbrev pub bi : Piece
bi = Field 5

-- bits of the condition register: the target and two operands
abbrev pub bt : Piece
bt = Field 5

abbrev pub ba : Piece
ba = Field 5

abbrev pub bb : Piece
bb = Field 5

-- the distance of a shift, and the first and last bit of a mask
abbrev pub sh : Piece
sh = Field 5

abbrev pub mb : Piece
mb = Field 5

abbrev pub me : Piece
me = Field 5

-- fields of the condition register: the target and the source
abbrev pub bf : Piece
bf = Field 3

abbrev pub bfa : Piece
bfa = Field 3

-- immediate operands, signed and unsigned, and a displacement
abbrev pub si : Piece
si = Field 16

abbrev pub ui : Piece
ui = Field 16

abbrev pub d : Piece
d = Field 16

-- displacements of branches, without their two low bits
abbrev pub bd : Piece
bd = Field 14

abbrev pub li : Piece
li = Field 24

-- the mask of fields of the condition register, and the number of a special register, with its lower half first
abbrev pub fxm : Piece
fxm = Field 8

abbrev pub spr : Piece
spr = Field 10

-- single bits: the address is absolute, LR is set, overflow is recorded, and the result is recorded
abbrev pub aa : Piece
aa = Field 1

abbrev pub lk : Piece
lk = Field 1

abbrev pub oe : Piece
oe = Field 1

abbrev pub rc : Piece
rc = Field 1
