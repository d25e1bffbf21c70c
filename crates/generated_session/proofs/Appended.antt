-- Texts put piece by piece.
use Rattle.std.proofs.Common.{◌≡◌, ℕ, ◌+◌, List, [], ◌∷◌, ◌++◌, Option, Some, None, Bor, map, length, take, drop, refl, ap, sym, subst, ◌∙◌, append_assoc}
use Rattle.std.specs.List.{concat}
use Rattle.std.specs.Option.{option_map}
use Rattle.std.proofs.lemmas.List.{append-nil, map-append, take_at, take-append-drop}
use Rattle.std.proofs.lemmas.List.Folds.{concat-append}
use Rattle.wind_outside.specs.Appending.{Appended, AppendedPrefix}
use Rattle.wind_outside.specs.Requests.{GrowsBy, piece_of}
use Rattle.wind_outside.specs.declared.sink.Put.TheVariants as puts
use Rattle.generated_session.specs.Puts.{ArePut, AreCutOff, SinkLog, whole_pieces}

-- two pieces, one after the other
pub appended_both : (old mid new : Option (List ℕ)) (a b : List ℕ) → Appended old mid a → Appended mid new b → Appended old new (a ++ b)
appended_both None mid new a b p q = q ∙ ap (option_map (λ bytes. bytes ++ b)) p
appended_both (Some x) mid new a b p q = q ∙ ap (option_map (λ bytes. bytes ++ b)) p ∙ ap Some (append_assoc x a b)

-- nothing was added
pub appended_none : (old : Option (List ℕ)) → Appended old old []
appended_none None = refl
appended_none (Some x) = ap Some (sym (append-nil x))

module _ {X : Type 0} where
  -- a list grows twice
  pub grows_both : (old mid new : Option (List X)) (a b : List X) → GrowsBy old mid a → GrowsBy mid new b → GrowsBy old new (a ++ b)
  grows_both old mid None a b p q = tt
  grows_both old None (Some z) a b p q = absurd q
  grows_both None (Some y) (Some z) a b p q = absurd p
  grows_both (Some x) (Some y) (Some z) a b p q = q ∙ ap (λ xs. xs ++ b) p ∙ append_assoc x a b

  -- a list that stays as it is grows by nothing
  pub grows_none : (old : Option (List X)) → GrowsBy old old []
  grows_none None = tt
  grows_none (Some x) = sym (append-nil x)

-- ---- texts, one after the other
-- none was put yet
pub put_none : (old : SinkLog) → ArePut [] old old
put_none old = record { bytes = appended_none old.bytes; pieces = grows_none old.pieces }

-- one more was put
put_more : (texts : List (List ℕ)) (text : List ℕ) (old mid new : SinkLog) → ArePut texts old mid → Appended mid.bytes new.bytes text → GrowsBy mid.pieces new.pieces (piece_of text puts.Done ∷ [])
    → ArePut (texts ++ text ∷ []) old new
put_more texts text old mid new put appended noted = record {
  bytes =
      subst (Appended old.bytes new.bytes) (ap (λ bytes. concat texts ++ bytes) (sym (append-nil text)) ∙ sym (concat-append texts (text ∷ [])))
      (appended_both old.bytes mid.bytes new.bytes (concat texts) text put.bytes appended);
  pieces =
      subst (GrowsBy old.pieces new.pieces) (sym (map-append (λ (bytes : List ℕ). piece_of bytes puts.Done) texts (text ∷ [])))
      (grows_both old.pieces mid.pieces new.pieces (whole_pieces texts) (piece_of text puts.Done ∷ []) put.pieces noted);
}

-- the put of a text failed
put_cut : (before : List (List ℕ)) (failed : List ℕ) (after texts : List (List ℕ)) → texts ≡ before ++ failed ∷ after → (old mid new : SinkLog) → ArePut before old mid
    → AppendedPrefix mid.bytes new.bytes failed → GrowsBy mid.pieces new.pieces (piece_of failed puts.Failed ∷ []) → AreCutOff texts old new
put_cut before failed after texts order old mid new put part noted = record {
  before = before;
  failed = failed;
  after = after;
  order = order;
  part = part.0;
  bytes = appended_both old.bytes mid.bytes new.bytes (concat before) (take part.0 failed) put.bytes part.1;
  pieces = grows_both old.pieces mid.pieces new.pieces (whole_pieces before) (piece_of failed puts.Failed ∷ []) put.pieces noted;
}

-- the texts of some pieces
abbrev pub texts_of : List (Bor (List ℕ)) → List (List ℕ)
texts_of ps = map {A = Bor (List ℕ)} {B = List ℕ} (λ p. p.now) ps

texts_both : (ps qs : List (Bor (List ℕ))) → texts_of (ps ++ qs) ≡ texts_of ps ++ texts_of qs
texts_both ps qs = map-append (λ (p : Bor (List ℕ)). p.now) ps qs

module _ (ps : List (Bor (List ℕ))) (i : ℕ) (p : Bor (List ℕ)) (on : take (i + 1) ps ≡ take i ps ++ p ∷ []) (old mid new : SinkLog) (put : ArePut (texts_of (take i ps)) old mid) where
  next : texts_of (take (i + 1) ps) ≡ texts_of (take i ps) ++ p.now ∷ []
  next = ap texts_of on ∙ texts_both (take i ps) (p ∷ [])

  -- the next piece was put
  pub piece_put : Appended mid.bytes new.bytes p.now → GrowsBy mid.pieces new.pieces (piece_of p.now puts.Done ∷ []) → ArePut (texts_of (take (i + 1) ps)) old new
  piece_put appended noted = subst (λ texts. ArePut texts old new) (sym next) (put_more (texts_of (take i ps)) p.now old mid new put appended noted)

  -- its put failed
  pub piece_cut : AppendedPrefix mid.bytes new.bytes p.now → GrowsBy mid.pieces new.pieces (piece_of p.now puts.Failed ∷ []) → AreCutOff (texts_of ps) old new
  piece_cut part noted =
      let after = texts_of (drop (i + 1) ps) in
      let order : texts_of ps ≡ texts_of (take i ps) ++ p.now ∷ after =
      ap texts_of (sym (take-append-drop (i + 1) ps))
      ∙ texts_both (take (i + 1) ps) (drop (i + 1) ps)
      ∙ ap (λ texts. texts ++ after) next
      ∙ append_assoc (texts_of (take i ps)) (p.now ∷ []) after in
      put_cut (texts_of (take i ps)) p.now after (texts_of ps) order old mid new put part noted

-- ---- the bytes alone: a prefix of a text
prefix_of : (old new : Option (List ℕ)) (prefix rest text : List ℕ) → prefix ++ rest ≡ text → Appended old new prefix → AppendedPrefix old new text
prefix_of old new prefix rest text whole gained =
    (length prefix, subst (Appended old new) (sym (take_at prefix rest (length prefix) refl) ∙ ap (take (length prefix)) whole) gained)

pub cut_prefix : (texts : List (List ℕ)) (old new : SinkLog) → AreCutOff texts old new → AppendedPrefix old.bytes new.bytes (concat texts)
cut_prefix texts old new cut =
    let all = concat cut.before in
    let some = take cut.part cut.failed in
    let other = drop cut.part cut.failed in
    let rest = concat cut.after in
    prefix_of old.bytes new.bytes (all ++ some) (other ++ rest) (concat texts)
    (append_assoc all some (other ++ rest)
    ∙ ap (λ bytes. all ++ bytes) (sym (append_assoc some other rest) ∙ ap (λ bytes. bytes ++ rest) (take-append-drop cut.part cut.failed))
    ∙ sym (concat-append cut.before (cut.failed ∷ cut.after))
    ∙ ap concat (sym cut.order))
    cut.bytes
