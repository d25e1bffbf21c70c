-- Texts of members, one after another.
use Rattle.std.proofs.Common.{◌≡◌, ℕ, ◌+◌, ◌<◌, List, [], ◌∷◌, ◌++◌, take, get_or, length, Some, refl, sym, ap, ap₂, subst, ◌∙◌, append_assoc}
use Rattle.std.specs.List.{flat_map}
use Rattle.std.specs.Prelude.{codes}
use Rattle.std.proofs.lemmas.Grind.{flat_map-append}
use Rattle.std.proofs.lemmas.List.{append-nil, flat_map_more, map-append, take_more}
use Rattle.serde_json.specs.Read.{read}
use Rattle.trace_text.specs.Forms.{Gained}
use Rattle.trace_json.specs.Chrome.{AreMembers, TraceObject, member_text, object_data}

-- no members
no_members : AreMembers [] []
no_members = record { jsons = []; read_back = refl; text_is = refl }

pub gained_none : (text : List ℕ) → Gained (AreMembers []) text text
gained_none text = record { piece = []; text_is = sym (append-nil text); is_piece = no_members }

-- one member
pub gained_one : (o : TraceObject) (json old new : List ℕ) → read json ≡ Some (object_data o) → new ≡ (old ++ json) ++ codes ",\n" → Gained (AreMembers (o ∷ [])) old new
gained_one o json old new back is = record {
  piece = member_text json;
  text_is = is ∙ append_assoc old json (codes ",\n");
  is_piece = record { jsons = json ∷ []; read_back = ap (λ x. x ∷ []) back; text_is = sym (append-nil (member_text json)) };
}

-- members and then others
are_both : (xs ys : List TraceObject) (a b : List ℕ) → AreMembers xs a → AreMembers ys b → AreMembers (xs ++ ys) (a ++ b)
are_both xs ys a b first then = record {
  jsons = first.jsons ++ then.jsons;
  read_back = map-append read first.jsons then.jsons ∙ ap₂ (λ u v. u ++ v) first.read_back then.read_back ∙ sym (map-append (λ o. Some (object_data o)) xs ys);
  text_is = ap₂ (λ u v. u ++ v) first.text_is then.text_is ∙ sym (flat_map-append member_text first.jsons then.jsons);
}

pub gained_both : (xs ys : List TraceObject) (a b c : List ℕ) → Gained (AreMembers xs) a b → Gained (AreMembers ys) b c → Gained (AreMembers (xs ++ ys)) a c
gained_both xs ys a b c first then = record {
  piece = first.piece ++ then.piece;
  text_is = then.text_is ∙ ap (λ bytes. bytes ++ then.piece) first.text_is ∙ append_assoc a first.piece then.piece;
  is_piece = are_both xs ys first.piece then.piece first.is_piece then.is_piece;
}

-- the members of one item more
pub gained_more : {X : Type 0} (f : X → List TraceObject) (xs : List X) (i : ℕ) (x : X) (a b c : List ℕ) → i < length xs → x ≡ get_or xs i x
    → Gained (AreMembers (flat_map f (take i xs))) a b → Gained (AreMembers (f x)) b c → Gained (AreMembers (flat_map f (take (i + 1) xs))) a c
gained_more {X} f xs i x a b c below at first then =
    let whole : flat_map f (take i xs) ++ f x ≡ flat_map f (take (i + 1) xs) =
    flat_map_more f [] (take i xs) x ∙ ap (λ y. flat_map f (take i xs ++ y ∷ [])) at ∙ ap (flat_map f) (sym (take_more xs i x below)) in
    subst (λ ds. Gained (AreMembers ds) a c) whole (gained_both (flat_map f (take i xs)) (f x) a b c first then)
