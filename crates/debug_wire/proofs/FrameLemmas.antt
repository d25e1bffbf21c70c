-- The frame of a body is read as a packet with that body.
use Rattle.std.proofs.Common.{◌≡◌, ℕ, ◌/◌, ◌%◌, ◌^◌, ◌<◌, ◌≤◌, ◌≢◌, true, false, List, [], ◌∷◌, ◌++◌, length, Some, None, refl, sym, ap, ◌∙◌, arith, append_assoc, lit≤}
use Rattle.std.specs.Prelude.{All, ◌==◌, nat_le, option_to_list}
use Rattle.std.specs.Fmt.{digit_glyph}
use Rattle.std.proofs.lemmas.Bool.Decides.{nat_tests}
use Rattle.std.proofs.lemmas.List.{append-nil}
use Rattle.std.proofs.lemmas.List.Elements.{All-head, All-tail}
use Rattle.wind_base.specs.Texts.{hex_places}
use Rattle.debug_wire.specs.declared.frame.Frame.TheVariants.{Packet}
use Rattle.debug_wire.specs.Frames.{Place, Between, InBody, after, checksum, completed, frame_of, framed, frames, frames_from, longest_body, place_from}
use Rattle.debug_wire.specs.Laws.{IsPlain, ReadsBackLaw}
use Rattle.debug_wire.specs.Numbers.{hex_number}
use Rattle.debug_wire.proofs.NumberLemmas.{places_text}

-- the frames of bytes and of more after them
pub frames_append : (p : Place) (xs ys : List ℕ) → frames_from p (xs ++ ys) ≡ frames_from p xs ++ frames_from (place_from p xs) ys
unfolding frames_from place_from
frames_append p [] ys = refl
frames_append p (x ∷ xs) ys =
    let mine = option_to_list (completed p x) in
    let more = after p x in
    ap (λ fs. mine ++ fs) (frames_append more xs ys) ∙ sym (append_assoc mine (frames_from more xs) (frames_from (place_from more xs) ys))

pub place_append : (p : Place) (xs ys : List ℕ) → place_from p (xs ++ ys) ≡ place_from (place_from p xs) ys
unfolding place_from
place_append p [] ys = refl
place_append p (x ∷ xs) ys = place_append (after p x) xs ys

same_byte : (b : ℕ) → (b == b) ≡ true
same_byte b = grind (arith, nat_tests)

other_byte : (b c : ℕ) → b ≢ c → (b == c) ≡ false
other_byte b c other = grind (arith, nat_tests)

-- a byte of a body
plain_after : (body : List ℕ) (b : ℕ) → IsPlain b → after (InBody body) b ≡ InBody (body ++ b ∷ [])
plain_after body b plain =
    let no_start : (b == 36) ≡ false = other_byte b 36 plain.0 in
    let no_end : (b == 35) ≡ false = other_byte b 35 plain.1 in
    rw (no_start, no_end) refl

plain_completes : (body : List ℕ) (b : ℕ) → IsPlain b → completed (InBody body) b ≡ None
plain_completes body b plain = let no_start : (b == 36) ≡ false = other_byte b 36 plain.0 in rw no_start refl

-- the first byte, and those after it
one_more : (p : Place) (b : ℕ) (bs : List ℕ) → frames_from p (b ∷ bs) ≡ option_to_list (completed p b) ++ frames_from (after p b) bs
unfolding frames_from
one_more p b bs = refl

-- the bytes of a body
body_read : (seen body rest : List ℕ) → All IsPlain body → frames_from (InBody seen) (body ++ rest) ≡ frames_from (InBody (seen ++ body)) rest
body_read seen [] rest plain = ap (λ bs. frames_from (InBody bs) rest) (sym (append-nil seen))
body_read seen (b ∷ body) rest plain =
    let here = All-head IsPlain b body plain in
    one_more (InBody seen) b (body ++ rest)
    ∙ ap (λ f. option_to_list f ++ frames_from (after (InBody seen) b) (body ++ rest)) (plain_completes seen b here)
    ∙ ap (λ p. frames_from p (body ++ rest)) (plain_after seen b here)
    ∙ body_read (seen ++ b ∷ []) body rest (All-tail IsPlain b body plain)
    ∙ ap (λ bs. frames_from (InBody bs) rest) (append_assoc seen (b ∷ []) body)

-- the digits of a checksum
glyph_plain : (d : ℕ) → digit_glyph false d ≢ 36
glyph_plain d = grind arith

whole_frame : (body : List ℕ) (high low : ℕ) → length body ≤ longest_body → hex_number (high ∷ low ∷ []) ≡ Some (checksum body) → frame_of body high low ≡ Packet body
whole_frame body high low short number =
    let fits : nat_le (length body) longest_body ≡ true = grind (arith, nat_tests) in
    let same : (checksum body == checksum body) ≡ true = same_byte (checksum body) in
    rw (fits, number, same) refl

sum_read : (body : List ℕ) → length body ≤ longest_body
    → frame_of body (digit_glyph false (checksum body / 16 % 16)) (digit_glyph false (checksum body % 16)) ≡ Packet body
sum_read body short =
    let small : checksum body < 16 ^ 2 = omega arith in
    whole_frame body _ _ short (places_text 2 (checksum body) (lit≤ tt) (lit≤ tt) small)

end_read : (body rest : List ℕ) (high low : ℕ) → high ≢ 36 → low ≢ 36 → frame_of body high low ≡ Packet body
    → frames_from (InBody body) (35 ∷ high ∷ low ∷ rest) ≡ Packet body ∷ frames_from Between rest
unfolding frames_from
end_read body rest high low h l whole =
    let first : (high == 36) ≡ false = other_byte high 36 h in
    let second : (low == 36) ≡ false = other_byte low 36 l in
    rw (first, second, whole) refl

start_read : (p : Place) (bs : List ℕ) → frames_from p (36 ∷ bs) ≡ frames_from (InBody []) bs
unfolding frames_from
start_read p bs = refl

framed_rest : (body rest : List ℕ) → framed body ++ rest
    ≡ 36 ∷ (body ++ 35 ∷ digit_glyph false (checksum body / 16 % 16) ∷ digit_glyph false (checksum body % 16) ∷ rest)
unfolding framed
framed_rest body rest = ap (λ bs. 36 ∷ bs) (append_assoc body (35 ∷ hex_places 2 (checksum body)) rest)

pub reads_back : ReadsBackLaw
reads_back before body rest is =
    let high = digit_glyph false (checksum body / 16 % 16) in
    let low = digit_glyph false (checksum body % 16) in
    let p = place_from Between before in
    let tail : List ℕ = 35 ∷ high ∷ low ∷ rest in
    frames_append Between before (framed body ++ rest)
    ∙ ap (λ fs. frames before ++ fs)
    (ap (frames_from p) (framed_rest body rest) ∙ start_read p (body ++ tail) ∙ body_read [] body tail is.plain
    ∙ end_read body rest high low (glyph_plain _) (glyph_plain _) (sum_read body is.short))
