-- One more part of the input.
use Rattle.std.proofs.Common.{◌≡◌, ◌≢◌, ℕ, ◌+◌, List, [], ◌∷◌, ◌++◌, Option, None, Some, length, refl, sym, ap, ◌∙◌, subst, arith, append_assoc, inl, inr}
use Rattle.std.specs.Option.{option_map}
use Rattle.std.proofs.lemmas.List.{append-nil, length-append}
use Rattle.live_session.specs.Input.{IsLongest, IsPart, Takes}
use Rattle.live_session.specs.Positions.{position_after, request_of, sent_of}
use Rattle.live_session.specs.Session.{AreParts, EndsByQuit, NoneQuits, Parts, IsStop, IsTyped, IsWhole, joined, position_of, sent_by, sent_unless}
use Rattle.live_session.specs.declared.dot_line.DotLine.TheVariants as lines
use Rattle.live_session.specs.declared.record.Refusal.{Refusal}
use Rattle.live_session.specs.declared.serving.Position.{Position}
use Rattle.live_session.specs.declared.serving.Position.TheVariants.{Start}
use Rattle.live_session.specs.declared.serving.Request.{Request}
use Rattle.live_session.specs.declared.serving.Request.TheVariants as requests
use Rattle.live_session.specs.declared.status.Status.{Status}
use Rattle.live_session.specs.declared.status.Status.TheVariants as status

-- ---- a list of parts with one more
joined_more : (xs : Parts) (y : List ℕ × Option Refusal) → joined (xs ++ y ∷ []) ≡ joined xs ++ y.0
joined_more [] y = append-nil y.0
joined_more (x ∷ xs) y = ap (λ bytes. x.0 ++ bytes) (joined_more xs y) ∙ sym (append_assoc x.0 (joined xs) y.0)

position_more : (position : Position) (xs : Parts) (y : List ℕ × Option Refusal) → position_of position (xs ++ y ∷ []) ≡ position_after (position_of position xs) y.0
position_more position [] y = refl
position_more position (x ∷ xs) y = position_more (position_after position x.0) xs y

sent_more : (position : Position) (xs : Parts) (y : List ℕ × Option Refusal) → sent_by position (xs ++ y ∷ []) ≡ sent_by position xs ++ sent_unless y.1 (sent_of (request_of (position_of position xs) y.0) y.0)
sent_more position [] y = append-nil (sent_unless y.1 (sent_of (request_of position y.0) y.0))
sent_more position (x ∷ xs) y =
    ap (λ bytes. sent_unless x.1 (sent_of (request_of position x.0) x.0) ++ bytes) (sent_more (position_after position x.0) xs y)
    ∙ sym (append_assoc (sent_unless x.1 (sent_of (request_of position x.0) x.0)) (sent_by (position_after position x.0) xs)
    (sent_unless y.1 (sent_of (request_of (position_of (position_after position x.0) xs) y.0) y.0)))

none_more : (position : Position) (xs : Parts) (y : List ℕ × Option Refusal) → NoneQuits position xs → request_of (position_of position xs) y.0 ≢ requests.Obey lines.Quit → NoneQuits position (xs ++ y ∷ [])
none_more position [] y none other = (other, tt)
none_more position (x ∷ xs) y none other = (none.0, none_more (position_after position x.0) xs y none.1 other)

-- ---- what is taken from the input

takes_both : (a b c : Option (List ℕ)) (xs ys : List ℕ) → Takes a b xs → Takes b c ys → Takes a c (xs ++ ys)
takes_both None b c xs ys first second = subst (λ (x : Option (List ℕ)). Takes x c ys) first second
takes_both (Some a) None c xs ys first second = elim first [ ]
takes_both (Some a) (Some b) None xs ys first second = elim second [ ]
takes_both (Some a) (Some b) (Some c) xs ys first second = first ∙ ap (λ bytes. xs ++ bytes) second ∙ sym (append_assoc xs ys c)

-- ---- the parts, with what comes after each
-- what comes after some bytes, before and after a part is taken
after_part : (mid new : Option (List ℕ)) (part bytes : List ℕ) → Takes mid new part → option_map (λ rest. bytes ++ rest) mid ≡ option_map (λ rest. (bytes ++ part) ++ rest) new
after_part None new part bytes takes = ap (option_map (λ rest. (bytes ++ part) ++ rest)) (sym takes)
after_part (Some m) None part bytes takes = elim takes [ ]
after_part (Some m) (Some n) part bytes takes = ap (λ (rest : List ℕ). Some rest) (ap (λ rest. bytes ++ rest) takes ∙ sym (append_assoc bytes part n))

longest_last : (part : List ℕ) (new : Option (List ℕ)) → IsLongest part new → IsLongest part (option_map (λ rest. rest) new)
longest_last part None h = h
longest_last part (Some left) h = h

are_more : (xs : Parts) (y : List ℕ × Option Refusal) (mid new : Option (List ℕ)) → Takes mid new y.0 → AreParts xs mid → IsPart y.0 → IsLongest y.0 new → AreParts (xs ++ y ∷ []) new
are_more [] y mid new takes are part longest = (part, longest_last y.0 new longest, tt)
are_more (x ∷ xs) y mid new takes are part longest =
    let after = after_part mid new y.0 (joined xs) takes ∙ ap (λ bytes. option_map (λ rest. bytes ++ rest) new) (sym (joined_more xs y)) in
    (are.0, subst (λ (o : Option (List ℕ)). IsLongest x.0 o) after are.1, are_more xs y mid new takes are.2 part longest)

-- ---- what has been typed so far, and what holds of the parts
pub record Typing (old now : Option (List ℕ)) (kept console : List ℕ) (position : Position) (count : ℕ) (holds : Parts → Type 0) : Type 0 where
  pub parts : Parts
  pub taken : Takes old now (joined parts)
  pub parts_are : AreParts parts now
  pub sent : console ≡ kept ++ sent_by Start parts
  pub there : position ≡ position_of Start parts
  pub counted : length parts ≡ count
  pub none : NoneQuits Start parts
  pub held : holds parts

takes_nothing : (left : Option (List ℕ)) → Takes left left []
takes_nothing None = refl
takes_nothing (Some bytes) = refl

pub typing_begins : (left : Option (List ℕ)) (kept console : List ℕ) (holds : Parts → Type 0) → console ≡ kept → holds [] → Typing left left kept console Start 0 holds
typing_begins left kept console holds same held = record {
  parts = [];
  taken = takes_nothing left;
  parts_are = tt;
  sent = same ∙ sym (append-nil kept);
  there = refl;
  counted = refl;
  none = tt;
  held = held;
}

-- ---- how it stops
pub stop_whole : (s : Status) (left : Option (List ℕ)) (parts : Parts) → IsWhole left parts → IsStop s left parts
stop_whole status.Ended left parts whole = whole
stop_whole status.Unrecorded left parts whole = tt
stop_whole status.Usage left parts whole = tt
stop_whole status.ReadFault left parts whole = tt
stop_whole status.WriteFault left parts whole = tt
stop_whole status.NoMemory left parts whole = tt

-- a part was taken, which asks for this, and was sent or not
pub record TakesPart (mid new : Option (List ℕ)) (position : Position) (part : List ℕ) (request : Request) (refusal : Option Refusal) (console later : List ℕ) : Type 0 where
  pub takes : Takes mid new part
  pub is_part : IsPart part
  pub longest : IsLongest part new
  pub asks : request ≡ request_of position part
  pub sends : later ≡ console ++ sent_unless refusal (sent_of request part)

module _ (old mid new : Option (List ℕ)) (position : Position) (count : ℕ) (part : List ℕ) (request : Request) (refusal : Option Refusal) (kept console later : List ℕ) (holds more : Parts → Type 0)
    (t : Typing old mid kept console position count holds) (taking : TakesPart mid new position part request refusal console later)
    (holds_on : (xs : Parts) → position ≡ position_of Start xs → holds xs → more (xs ++ (part, refusal) ∷ [])) where
  y : List ℕ × Option Refusal
  y = (part, refusal)

  -- what it asks for, after the parts before it
  asks_there : request ≡ request_of (position_of Start t.parts) part
  asks_there = taking.asks ∙ ap (λ (p : Position). request_of p part) t.there

  all_taken : Takes old new (joined (t.parts ++ y ∷ []))
  unfolding y
  all_taken = subst (λ bytes. Takes old new bytes) (sym (joined_more t.parts y)) (takes_both old mid new (joined t.parts) part t.taken taking.takes)

  all_parts : AreParts (t.parts ++ y ∷ []) new
  unfolding y
  all_parts = are_more t.parts y mid new taking.takes t.parts_are taking.is_part taking.longest

  all_sent : later ≡ kept ++ sent_by Start (t.parts ++ y ∷ [])
  unfolding y
  all_sent =
      taking.sends
      ∙ ap (λ bytes. bytes ++ sent_unless refusal (sent_of request part)) t.sent
      ∙ append_assoc kept (sent_by Start t.parts) (sent_unless refusal (sent_of request part))
      ∙ ap (λ (r : Request). kept ++ (sent_by Start t.parts ++ sent_unless refusal (sent_of r part))) asks_there
      ∙ ap (λ bytes. kept ++ bytes) (sym (sent_more Start t.parts y))

  -- the part doesn't ask for the end
  pub typed_more : request ≢ requests.Obey lines.Quit → Typing old new kept later (position_after position part) (count + 1) more
  unfolding y
  typed_more other = record {
    parts = t.parts ++ y ∷ [];
    taken = all_taken;
    parts_are = all_parts;
    sent = all_sent;
    there = ap (λ (p : Position). position_after p part) t.there ∙ sym (position_more Start t.parts y);
    counted = omega (arith, length-append t.parts (y ∷ []), t.counted);
    none = none_more Start t.parts y t.none (λ e. other (asks_there ∙ e));
    held = holds_on t.parts t.there t.held;
  }

  -- or it asks for it
  pub typed_quit : (s : Status) → request ≡ requests.Obey lines.Quit → IsTyped s old new kept later more
  unfolding y
  typed_quit s quits =
      let by_quit : EndsByQuit (t.parts ++ y ∷ []) = record {
        before = t.parts;
        last = y;
        parts_are = refl;
        none = t.none;
        quits = sym asks_there ∙ quits;
      } in
      record {
        parts = t.parts ++ y ∷ [];
        taken = all_taken;
        parts_are = all_parts;
        sent = all_sent;
        stop = stop_whole s new (t.parts ++ y ∷ []) (inr (inl by_quit));
        quit_last = inr by_quit;
        held = holds_on t.parts t.there t.held;
      }

-- the conversation stopped before another part
pub typed_until : (s : Status) (old now : Option (List ℕ)) (kept console : List ℕ) (position : Position) (count : ℕ) (holds : Parts → Type 0) → Typing old now kept console position count holds
    → ((parts : Parts) → length parts ≡ count → IsStop s now parts) → IsTyped s old now kept console holds
typed_until s old now kept console position count holds t stop = record {
  parts = t.parts;
  taken = t.taken;
  parts_are = t.parts_are;
  sent = t.sent;
  stop = stop t.parts t.counted;
  quit_last = inl t.none;
  held = t.held;
}

-- and nothing was taken since
pub typed_heard : (s : Status) (old mid now : Option (List ℕ)) (kept console : List ℕ) (position : Position) (count : ℕ) (holds : Parts → Type 0) → now ≡ mid → Typing old mid kept console position count holds
    → ((parts : Parts) → IsStop s mid parts) → IsTyped s old now kept console holds
typed_heard s old mid now kept console position count holds same t stop =
    subst (λ (o : Option (List ℕ)). IsTyped s old o kept console holds) (sym same) (typed_until s old mid kept console position count holds t (λ parts counted. stop parts))
