-- How tightly the operators between two operands bind, as in C (ISO/IEC 9899, 6.5).
use Rattle.std.specs.Prelude.{ℕ, Bool, not, ◌==◌, List, [], ◌∷◌, length}
use Rattle.std.specs.List.{list_any, prefix_len}
use denote.Enum.Declared.{tag_of}
use Rattle.shell_parse.specs.contracts.tree.BinOp.{the_type}
use Rattle.shell_parse.specs.declared.tree.BinOp.{BinOp}
use Rattle.shell_parse.specs.declared.tree.BinOp.TheVariants.{OrElse, AndAlso, Or, Xor, And, Eq, Ne, Lt, Le, Gt, Ge, Shl, Shr, Plus, Minus, Times, Over, Rest}

-- the operators of each level, the tightest level first
abbrev pub operators : List (List BinOp)
operators =
    (Times ∷ Over ∷ Rest ∷ [])
    ∷ (Plus ∷ Minus ∷ [])
    ∷ (Shl ∷ Shr ∷ [])
    ∷ (Lt ∷ Le ∷ Gt ∷ Ge ∷ [])
    ∷ (Eq ∷ Ne ∷ [])
    ∷ (And ∷ [])
    ∷ (Xor ∷ [])
    ∷ (Or ∷ [])
    ∷ (AndAlso ∷ [])
    ∷ (OrElse ∷ [])
    ∷ []

-- an operator is one of these
abbrev pub is_among : BinOp → List BinOp → Bool
is_among op ops = list_any (λ o. tag_of the_type o == tag_of the_type op) ops

-- the level of an operator: how many levels are tighter
unfoldable pub level_of : BinOp → ℕ
level_of op = prefix_len (λ ops. not (is_among op ops)) operators

-- how many levels there are
abbrev pub levels : ℕ
levels = length operators
