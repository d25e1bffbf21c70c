-- One field written: its bytes, and all others.
use Rattle.std.proofs.Common.{◌≡◌, ℕ, zero, suc, ◌+◌, ◌*◌, ◌^◌, ◌≤◌, ◌<◌, inl, inr, List, [], ◌∷◌, length, drop, get_or, Some, Ok, Err, refl, sym, ◌∙◌, ap, subst, arith}
use Rattle.std.specs.List.{All}
use Rattle.std.proofs.lemmas.List.{places}
use Rattle.byteorder.specs.Endian.{big_from, big_bytes}
use Rattle.byteorder.specs.Numbers.{length-bytes_high_first}
use Rattle.reloc_link.specs.declared.patching.Binding.{Binding}
use Rattle.reloc_link.specs.Types.{width_of}
use Rattle.reloc_link.specs.Formula.{field}
use Rattle.reloc_link.specs.Patched.{LiesWithin, content, asked, written, after_field, numbered, patched}
use Rattle.reloc_link.specs.Laws.{IsOutside, Apart, Holds}

pub length-written : (image : List ℕ) (b : Binding) (v : ℕ) → LiesWithin (length image) b → length (written image b v) ≡ length image
unfolding written
length-written image b v h =
    let n : length (big_bytes (width_of b.kind) v) ≡ width_of b.kind = length-bytes_high_first (width_of b.kind) v in grind (arith, places)

pub written_holds : (image : List ℕ) (b : Binding) (v : ℕ) → LiesWithin (length image) b → Holds (written image b v) b v
unfolding written
written_holds image b v h k low =
    let n : length (big_bytes (width_of b.kind) v) ≡ width_of b.kind = length-bytes_high_first (width_of b.kind) v in grind (arith, places)

byte_before : (image : List ℕ) (b : Binding) (v at : ℕ) → LiesWithin (length image) b → at < b.offset → get_or (written image b v) at 0 ≡ get_or image at 0
unfolding written
byte_before image b v at h low =
    let n : length (big_bytes (width_of b.kind) v) ≡ width_of b.kind = length-bytes_high_first (width_of b.kind) v in grind (arith, places)

byte_after : (image : List ℕ) (b : Binding) (v at : ℕ) → LiesWithin (length image) b → b.offset + width_of b.kind ≤ at → get_or (written image b v) at 0 ≡ get_or image at 0
unfolding written
byte_after image b v at h high =
    let n : length (big_bytes (width_of b.kind) v) ≡ width_of b.kind = length-bytes_high_first (width_of b.kind) v in grind (arith, places)

pub written_outside : (image : List ℕ) (b : Binding) (v at : ℕ) → LiesWithin (length image) b → IsOutside at b → get_or (written image b v) at 0 ≡ get_or image at 0
written_outside image b v at h (inl low) = byte_before image b v at h low
written_outside image b v at h (inr high) = byte_after image b v at h high

-- a byte of a field is outside every field apart from it
pub outside_of : (b c : Binding) (k : ℕ) → Apart b c → k < width_of c.kind → IsOutside (c.offset + k) b
outside_of b c k (inl before) low = inr (omega arith)
outside_of b c k (inr after) low = inl (omega arith)

pub outside_other : (b c : Binding) (k : ℕ) → Apart b c → k < width_of b.kind → IsOutside (b.offset + k) c
outside_other b c k (inl before) low = inl (omega arith)
outside_other b c k (inr after) low = inr (omega arith)

-- the same bytes make the same number
same_number : (xs ys : List ℕ) (i n : ℕ) → ((k : ℕ) → i ≤ k → k < i + n → get_or xs k 0 ≡ get_or ys k 0) → big_from i n xs ≡ big_from i n ys
same_number xs ys i zero h = refl
same_number xs ys i (suc n) h =
    let here = h i (omega arith) (omega arith) in
    let rest = same_number xs ys (suc i) n (λ k low high. h k (omega arith) (omega arith)) in
    ap (λ (x : ℕ). x * 256 ^ n + big_from (suc i) n xs) here ∙ ap (λ (r : ℕ). get_or ys i 0 * 256 ^ n + r) rest

byte_of_drop : (xs : List ℕ) (n k : ℕ) → get_or (drop n xs) k 0 ≡ get_or xs (n + k) 0
byte_of_drop xs n k = grind (arith, places)

-- a field apart from a written one holds what it held
pub content_apart : (image : List ℕ) (b c : Binding) (v : ℕ) → LiesWithin (length image) b → Apart b c → content (written image b v) c ≡ content image c
content_apart image b c v h apart =
    same_number (drop c.offset (written image b v)) (drop c.offset image) 0 (width_of c.kind) (λ k low high.
    byte_of_drop (written image b v) c.offset k
    ∙ written_outside image b v (c.offset + k) h (outside_of b c k apart (omega arith))
    ∙ sym (byte_of_drop image c.offset k))

pub asked_apart : (image : List ℕ) (b c : Binding) (v : ℕ) → LiesWithin (length image) b → Apart b c → asked (written image b v) c ≡ asked image c
unfolding asked
asked_apart image b c v h apart = ap (field c.kind c.s c.a c.p) (content_apart image b c v h apart)

pub length-patched : (i : ℕ) (image : List ℕ) (bs : List Binding) (size : ℕ) → length image ≡ size → All (LiesWithin size) bs → length (patched i image bs).image ≡ size
length-patched i image [] size e all = e
length-patched i image (b ∷ bs) size e all =
    let here = all 0 b (omega arith) in
    elim (asked image b) as (λ r. length (after_field r (λ v. patched (i + 1) (written image b v) bs) (λ f. record { image = image; fault = Some (numbered f i) })).image ≡ size) [
      | Ok v ↦ length-patched (i + 1) (written image b v) bs size (length-written image b v (subst (λ n. LiesWithin n b) (sym e) here) ∙ e) (λ k d h. all (suc k) d (omega arith))
      | Err f ↦ e
    ]
