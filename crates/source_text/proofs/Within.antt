-- The bytes of a string lie within the text.
use Rattle.std.proofs.Common.{ℕ, ◌+◌, ◌≤◌, Bool, true, false, List, [], ◌∷◌, ◌++◌, length, Option, Some, None, ◌≡◌, arith}
use Rattle.std.specs.Prelude.{if◌then◌else◌, ◌==◌}
use Prim.Native.Char.{code}
use Rattle.source_text.specs.Strings.{escaped, after_escape, string_from, string_at}

-- the number of bytes that belong to a string: 0 if there is none
abbrev pub string_len : Option (List ℕ × ℕ) → ℕ
string_len (Some x) = x.1
string_len None = 0

-- at most n bytes belong to it
record Fits (n : ℕ) (x : Option (List ℕ × ℕ)) : Type 0 where
  few : string_len x ≤ n

either : {n : ℕ} (b : Bool) {x y : Option (List ℕ × ℕ)} → Fits n x → Fits n y → Fits n (if b then x else y)
either true p q = p
either false p q = q

none : (n : ℕ) → Fits n None
none n = record { few = omega arith }

after_fits : (n : ℕ) (value : Option ℕ) (go : ℕ → Option (List ℕ × ℕ)) → ((v : ℕ) → Fits n (go v)) → Fits n (after_escape value go)
after_fits n None go h = none n
after_fits n (Some v) go h = h v

wider : {x : Option (List ℕ × ℕ)} (n m : ℕ) → Fits n x → n ≡ m → Fits m x
wider n m p e = record { few = omega (arith, p.few) }

string_fits : (mark : Bool) (text : List ℕ) (n : ℕ) (bs : List ℕ) → Fits (n + length bs) (string_from mark text n bs)
string_fits mark text n [] = none _
string_fits true text n (b ∷ bs) = after_fits (n + length (b ∷ bs)) (escaped b) _ (λ v. wider _ _ (string_fits false (text ++ v ∷ []) (n + 1) bs) (omega arith))
string_fits false text n (b ∷ bs) =
    either (b == code "\"") (record { few = omega arith }) (either (b == code "\\")
    (wider _ _ (string_fits true text (n + 1) bs) (omega arith))
    (wider _ _ (string_fits false (text ++ b ∷ []) (n + 1) bs) (omega arith)))

-- the bytes that belong to a string are among those after its opening quote
pub string_within : (bs : List ℕ) → string_len (string_at bs) ≤ length bs
unfolding string_at
string_within bs = omega (arith, (string_fits false [] 0 bs).few)
