-- Strings: a selection of the literals of C (ISO/IEC 9899, 6.4.5).
use Rattle.std.specs.Prelude.{ℕ, ◌+◌, Bool, true, false, List, [], ◌∷◌, ◌++◌, Option, Some, None, ◌==◌, ◌||◌, if◌then◌else◌}
use Prim.Native.Char.{code}

-- the byte that an escape stands for, from the byte after its backslash
abbrev pub escaped : ℕ → Option ℕ
escaped b = if b == code "n" then Some 10 else (if b == code "t" then Some 9 else (if b == code "r" then Some 13 else (if b == code "0" then Some 0
    else (if b == code "\\" || (b == code "'" || b == code "\"") then Some b else None))))

-- what follows an escape, if the escape is valid
abbrev pub after_escape : Option ℕ → (ℕ → Option (List ℕ × ℕ)) → Option (List ℕ × ℕ)
after_escape (Some v) go = go v
after_escape None go = None

-- the string, after n bytes of it that stand for this text; the mark says that the last of them is a backslash that begins an escape
abbrev pub string_from : Bool → List ℕ → ℕ → List ℕ → Option (List ℕ × ℕ)
string_from mark text n [] = None
string_from true text n (b ∷ bs) = after_escape (escaped b) (λ v. string_from false (text ++ v ∷ []) (n + 1) bs)
string_from false text n (b ∷ bs) = if b == code "\"" then Some (text, n + 1) else (if b == code "\\"
    then string_from true text (n + 1) bs
    else string_from false (text ++ b ∷ []) (n + 1) bs)

-- the string whose opening quote stands before these bytes, and how many of them belong to it; none if it is invalid
unfoldable pub string_at : List ℕ → Option (List ℕ × ℕ)
string_at bs = string_from false [] 0 bs
