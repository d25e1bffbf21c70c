-- Operators and punctuation: the longest one that the bytes begin with is taken, as in C (ISO/IEC 9899, 6.4).
use Rattle.std.specs.Prelude.{ℕ, List, Option, Some, None, ◌==◌, if◌then◌else◌, drop}
use Prim.Native.Char.{code}
use Rattle.shell_parse.specs.declared.tree.BinOp.{BinOp}
use Rattle.shell_parse.specs.declared.tree.BinOp.TheVariants.{OrElse, AndAlso, Or, Xor, And, Eq, Ne, Lt, Le, Gt, Ge, Shl, Shr, Plus, Minus, Times, Over, Rest}
use Rattle.shell_parse.specs.declared.token.Token.{Token}
use Rattle.shell_parse.specs.declared.token.Token.TheVariants.{Operator, Set, Not, Com, Open, Close, Comma, Semi, Unknown}
use Rattle.shell_parse.specs.Ascii.{next_is}

-- `op` or `op=`
abbrev pub or_set : BinOp → List ℕ → Token × ℕ
or_set op bs = if next_is (code "=") bs then (Set (Some op), 1) else (Operator op, 0)

-- an operator, or a token that no tree has
abbrev pub token_of : Option BinOp → Token
token_of (Some op) = Operator op
token_of None = Unknown

-- `op` or `op=`, or, if the byte b comes twice, a token of its own
abbrev pub or_twice : ℕ → Option BinOp → BinOp → List ℕ → Token × ℕ
or_twice b twice op bs = if next_is b bs then (token_of twice, 1) else or_set op bs

-- a shift or its assignment; these bytes follow its first byte
abbrev pub shift_at : BinOp → List ℕ → Token × ℕ
shift_at op bs = if next_is (code "=") (drop 1 bs) then (Set (Some op), 2) else (Operator op, 1)

-- a comparison followed by an equals sign, or one without
abbrev pub comparison_at : BinOp → BinOp → List ℕ → Token × ℕ
comparison_at with_equals alone bs = if next_is (code "=") bs then (Operator with_equals, 1) else (Operator alone, 0)

-- a shift if the byte b comes twice, else a comparison
abbrev pub angle_at : ℕ → BinOp → BinOp → BinOp → List ℕ → Token × ℕ
angle_at b shift with_equals alone bs = if next_is b bs then shift_at shift bs else comparison_at with_equals alone bs

-- the punctuation of this byte
abbrev pub mark_of : ℕ → Token
mark_of b = if b == code "~" then Com else (if b == code "(" then Open else (if b == code ")" then Close else (if b == code "," then Comma else (if b == code ";" then Semi else Unknown))))

-- the comparison, negation or assignment that begins with the byte b, or else the punctuation
abbrev pub comparing_at : ℕ → List ℕ → Token × ℕ
comparing_at b bs =
    if b == code "<" then angle_at b Shl Le Lt bs
    else (if b == code ">" then angle_at b Shr Ge Gt bs
    else (if b == code "=" then (if next_is b bs then (Operator Eq, 1) else (Set None, 0))
    else (if b == code "!" then (if next_is (code "=") bs then (Operator Ne, 1) else (Not, 0))
    else (mark_of b, 0))))

-- the operator or punctuation that begins with the byte b, followed by these bytes, and how many of them belong to it
unfoldable pub sign_at : ℕ → List ℕ → Token × ℕ
sign_at b bs =
    if b == code "+" then or_twice b None Plus bs
    else (if b == code "-" then or_twice b None Minus bs
    else (if b == code "&" then or_twice b (Some AndAlso) And bs
    else (if b == code "|" then or_twice b (Some OrElse) Or bs
    else (if b == code "^" then or_set Xor bs
    else (if b == code "*" then or_set Times bs
    else (if b == code "/" then or_set Over bs
    else (if b == code "%" then or_set Rest bs
    else comparing_at b bs)))))))
