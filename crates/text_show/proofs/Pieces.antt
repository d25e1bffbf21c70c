-- A format, piece by piece.
use Rattle.std.proofs.Common.{◌≡◌, ℕ, zero, suc, ◌+◌, true, false, List, [], ◌∷◌, ◌++◌, take, drop, refl, ap, sym, ◌∙◌, arith, append_assoc}
use Rattle.std.specs.Prelude.{Option, None, Some}
use Rattle.std.specs.Fmt.{◌++?◌}
use Rattle.wind_base.specs.Limits.{longest_print}
use Rattle.text_show.specs.declared.format.Conversion.{Conversion}
use Rattle.text_show.specs.Format.{converted_or, conversion_of, more_of, pieces}
use Rattle.text_show.specs.Printf.{Source, Prints, conversion_text, values_of, piece_text, piece_values, text_of}
use Rattle.text_show.proofs.Cut.{cut_more}

-- the pieces after some bytes
pieces_after : (k : ℕ) (bytes : List ℕ) → pieces k bytes ≡ pieces 0 (drop k bytes)
pieces_after zero bytes = refl
pieces_after (suc k) [] = refl
pieces_after (suc k) (b ∷ bytes) = pieces_after k bytes

-- a text after two others
after_two : (a b : List ℕ) (o : Option (List ℕ)) → Some a ++? (Some b ++? o) ≡ Some (a ++ b) ++? o
after_two a b None = refl
after_two a b (Some c) = ap Some (sym (append_assoc a b c))

-- n values are taken, and the text of what is before the rest of a format is done
pub record IsDone (s : Source) (format : List ℕ) (n : ℕ) (rest items : List ℕ) : Type 0 where
  pub done : List ℕ
  pub whole : text_of s 0 (pieces 0 format) ≡ Some done ++? text_of s n (pieces 0 rest)
  pub shown : items ≡ take longest_print done

pub starts : (s : Source) (format items : List ℕ) → items ≡ [] → IsDone s format 0 format items
starts s format items e = record { done = []; whole = none_before (text_of s 0 (pieces 0 format)); shown = e }
  where
    none_before : (o : Option (List ℕ)) → o ≡ Some [] ++? o
    none_before None = refl
    none_before (Some a) = refl

-- the text of a rest that begins with a piece
rest_text : (s : Source) (n b : ℕ) (bytes : List ℕ) (o : Option Conversion) → conversion_of b bytes ≡ o
    → text_of s n (pieces 0 (b ∷ bytes)) ≡ piece_text s n (converted_or b o) ++? text_of s (n + piece_values (converted_or b o)) (pieces 0 (drop (more_of (converted_or b o)) bytes))
rest_text s n b bytes o e =
    ap (λ (o : Option Conversion). piece_text s n (converted_or b o) ++? text_of s (n + piece_values (converted_or b o)) (pieces (more_of (converted_or b o)) bytes)) e
    ∙ ap (λ ps. piece_text s n (converted_or b o) ++? text_of s (n + piece_values (converted_or b o)) ps) (pieces_after (more_of (converted_or b o)) bytes)

-- one more piece is done
piece_done : (s : Source) (format : List ℕ) (n b : ℕ) (bytes rest items new text : List ℕ) (o : Option Conversion) → rest ≡ b ∷ bytes → conversion_of b bytes ≡ o
    → IsDone s format n rest items → piece_text s n (converted_or b o) ≡ Some text → new ≡ take longest_print (items ++ text)
    → IsDone s format (n + piece_values (converted_or b o)) (drop (more_of (converted_or b o)) bytes) new
piece_done s format n b bytes rest items new text o r e d t w =
    let bytes_after = text_of s (n + piece_values (converted_or b o)) (pieces 0 (drop (more_of (converted_or b o)) bytes)) in
    record {
      done = d.done ++ text;
      whole = d.whole ∙ ap (λ xs. Some d.done ++? text_of s n (pieces 0 xs)) r
          ∙ ap (λ (x : Option (List ℕ)). Some d.done ++? x) (rest_text s n b bytes o e)
          ∙ ap (λ (x : Option (List ℕ)). Some d.done ++? (x ++? bytes_after)) t
          ∙ after_two d.done text bytes_after;
      shown = w ∙ ap (λ xs. take longest_print (xs ++ text)) d.shown ∙ cut_more longest_print d.done text;
    }

same_number : (n m : ℕ) (s : Source) (format rest items : List ℕ) → n ≡ m → IsDone s format n rest items → IsDone s format m rest items
same_number n m s format rest items e d = rw (← e) d

pub byte_done : (s : Source) (format : List ℕ) (n b : ℕ) (bytes rest items new : List ℕ) → rest ≡ b ∷ bytes → conversion_of b bytes ≡ None
    → IsDone s format n rest items → new ≡ take longest_print (items ++ b ∷ []) → IsDone s format n bytes new
byte_done s format n b bytes rest items new r e d w = same_number (n + 0) n s format bytes new (omega arith) (piece_done s format n b bytes rest items new (b ∷ []) None r e d refl w)

-- a conversion whose text was added
added : (o : Option (List ℕ)) (old new : List ℕ) → Prints o true old new → (text : List ℕ) × (o ≡ Some text) × (new ≡ take longest_print (old ++ text))
added None old new p = absurd (cc)
added (Some text) old new p = (text, refl, p.1)

pub conversion_done : (s : Source) (format : List ℕ) (n b : ℕ) (bytes rest items new : List ℕ) (c : Conversion) → rest ≡ b ∷ bytes → conversion_of b bytes ≡ Some c
    → IsDone s format n rest items → Prints (conversion_text s n c.style c.letter) true items new → IsDone s format (n + values_of c.letter) (drop c.taken bytes) new
conversion_done s format n b bytes rest items new c r e d p =
    let a = added (conversion_text s n c.style c.letter) items new p in
    piece_done s format n b bytes rest items new a.0 (Some c) r e d a.1 a.2

-- a conversion whose value can't be read
refused : (o : Option (List ℕ)) (old new : List ℕ) → Prints o false old new → o ≡ None
refused None old new p = refl
refused (Some text) old new p = absurd (let e = p.0 in cc)
