-- The operands of instructions: one line for each shape, from left to right. A place is the index of a field in the form.
use Rattle.std.specs.Prelude.{List, [], ◌∷◌}
use Rattle.ppc_text.specs.declared.part.Reach.TheVariants.{Long, Short}
use Rattle.ppc_text.specs.declared.part.Part.{Part}
use Rattle.ppc_text.specs.declared.part.Part.TheVariants.{Comma, Open, Close, Register, Twice, Number, Special, Signed, Unsigned, Target, Fixed}
use Rattle.ppc_text.specs.declared.part.Shape.{Shape}
use Rattle.ppc_text.specs.declared.part.Shape.TheVariants.{Immediate, Shifted, LogicalImmediate, CompareImmediate, CompareUnsigned, Compare, TrapImmediate, Trap, Memory, Three, Two, LogicalThree, LogicalTwo, Shift, Rotate, RotateBy, Branch, BranchConditional, BranchRegister, Bits, Fields, Field, One, Mask, FromSpecial, ToSpecial, Nothing, LoadImmediate, LoadShifted, Move, Always, FromLink, ToLink}

-- the operands of a shape
abbrev pub parts_of : Shape → List Part
parts_of Immediate = Register 0 ∷ Comma ∷ Register 1 ∷ Comma ∷ Signed 2 32767 ∷ []
parts_of Shifted = Register 0 ∷ Comma ∷ Register 1 ∷ Comma ∷ Signed 2 65535 ∷ []
parts_of LogicalImmediate = Register 1 ∷ Comma ∷ Register 0 ∷ Comma ∷ Unsigned 2 ∷ []
parts_of CompareImmediate = Number 0 7 ∷ Comma ∷ Register 1 ∷ Comma ∷ Signed 2 32767 ∷ []
parts_of CompareUnsigned = Number 0 7 ∷ Comma ∷ Register 1 ∷ Comma ∷ Unsigned 2 ∷ []
parts_of Compare = Number 0 7 ∷ Comma ∷ Register 1 ∷ Comma ∷ Register 2 ∷ []
parts_of TrapImmediate = Number 0 31 ∷ Comma ∷ Register 1 ∷ Comma ∷ Signed 2 32767 ∷ []
parts_of Trap = Number 0 31 ∷ Comma ∷ Register 1 ∷ Comma ∷ Register 2 ∷ []
parts_of Memory = Register 0 ∷ Comma ∷ Signed 2 32767 ∷ Open ∷ Register 1 ∷ Close ∷ []
parts_of Three = Register 0 ∷ Comma ∷ Register 1 ∷ Comma ∷ Register 2 ∷ []
parts_of Two = Register 0 ∷ Comma ∷ Register 1 ∷ []
parts_of LogicalThree = Register 1 ∷ Comma ∷ Register 0 ∷ Comma ∷ Register 2 ∷ []
parts_of LogicalTwo = Register 1 ∷ Comma ∷ Register 0 ∷ []
parts_of Shift = Register 1 ∷ Comma ∷ Register 0 ∷ Comma ∷ Number 2 31 ∷ []
parts_of Rotate = Register 1 ∷ Comma ∷ Register 0 ∷ Comma ∷ Number 2 31 ∷ Comma ∷ Number 3 31 ∷ Comma ∷ Number 4 31 ∷ []
parts_of RotateBy = Register 1 ∷ Comma ∷ Register 0 ∷ Comma ∷ Register 2 ∷ Comma ∷ Number 3 31 ∷ Comma ∷ Number 4 31 ∷ []
parts_of Branch = Target 0 Long ∷ []
parts_of BranchConditional = Number 0 31 ∷ Comma ∷ Number 1 31 ∷ Comma ∷ Target 2 Short ∷ []
parts_of BranchRegister = Number 0 31 ∷ Comma ∷ Number 1 31 ∷ []
parts_of Bits = Number 0 31 ∷ Comma ∷ Number 1 31 ∷ Comma ∷ Number 2 31 ∷ []
parts_of Fields = Number 0 7 ∷ Comma ∷ Number 1 7 ∷ []
parts_of Field = Number 0 7 ∷ []
parts_of One = Register 0 ∷ []
parts_of Mask = Number 1 255 ∷ Comma ∷ Register 0 ∷ []
parts_of FromSpecial = Register 0 ∷ Comma ∷ Special 1 ∷ []
parts_of ToSpecial = Special 1 ∷ Comma ∷ Register 0 ∷ []
parts_of Nothing = []
parts_of LoadImmediate = Register 0 ∷ Comma ∷ Signed 2 32767 ∷ []
parts_of LoadShifted = Register 0 ∷ Comma ∷ Signed 2 65535 ∷ []
parts_of Move = Register 1 ∷ Comma ∷ Twice 0 2 ∷ []
parts_of Always = Fixed 0 20 ∷ []
parts_of FromLink = Register 0 ∷ Fixed 1 256 ∷ []
parts_of ToLink = Fixed 1 256 ∷ Register 0 ∷ []
