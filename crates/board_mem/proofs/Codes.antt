-- Decoded words: which of them agree with their words after a write, and after a slot is given.
use Rattle.std.proofs.Common.{◌≡◌, ◌≢◌, ℕ, zero, suc, ◌+◌, ◌-◌, ◌*◌, ◌/◌, ◌%◌, ◌<◌, ◌≤◌, ◌⊎◌, Bool, true, false, cond, List, ◌++◌, take, drop, length, replicate, get_or, set, None, Some, refl, sym, ap, ap₂, ◌∙◌, subst, arith, inl, inr}
use Rattle.std.specs.Prelude.{nat_le, if◌then◌else◌}
use Rattle.std.proofs.lemmas.Bool.Decides.{nat_tests}
use Rattle.std.proofs.lemmas.Bool.{cases_eq, cases_lt}
use Rattle.std.proofs.lemmas.List.{get_or-set_same, get_or-set_other, get_or-append_right, get_or_append_left, get_or-take, get_or-drop, length-set, length-take}
use Rattle.ppc_word.specs.declared.decoded.Decoded.{Decoded}
use Rattle.ppc_word.specs.declared.op.Op.TheVariants as ops
use Rattle.byteorder.specs.Endian.{big_number}
use Rattle.byteorder.specs.Numbers.{big_from-take}
use Rattle.board_mem.specs.Memory.{read, number_at, bytes_at, with_bytes}
use Rattle.board_mem.specs.Pages.{page_of, page_bytes}
use Rattle.board_mem.proofs.Sizes.{length-with_bytes}
use Rattle.board_mem.proofs.Splices.{bytes_at-with_below, bytes_at-with_after}
use Rattle.board_mem.specs.Code.{page_words, most_code_slots, Agrees, AreDecoded, AreSlots, AreWords, AreWritable, IsFree, IsGiven, SameElsewhere}

-- an entry that stays agrees with a word that stays
pub agrees_still : (entry now : Decoded) (before after : List ℕ) (at : ℕ) → now ≡ entry → read 4 after at ≡ read 4 before at → Agrees entry before at → Agrees now after at
agrees_still entry now before after at e same (inl empty) = inl (ap (λ (d : Decoded). d.op) e ∙ empty)
agrees_still entry now before after at e same (inr word) = inr (same ∙ word ∙ ap (λ (d : Decoded). Some d.word) (sym e))

-- the page of an address has no slot, so the words that are decoded are elsewhere
pub decoded_elsewhere : (slots : List ℕ) (entries : List Decoded) (before after : List ℕ) (at n : ℕ) → at % page_bytes + n ≤ page_bytes → get_or slots (page_of at) 0 ≡ 0
    → SameElsewhere before after at n → AreDecoded slots entries before → AreDecoded slots entries after
decoded_elsewhere slots entries before after at n page none same decoded = λ p slot k d e h.
    let other : p ≢ page_of at = λ i. absurd (omega (arith, sym e ∙ ap (λ q. get_or slots q 0) i ∙ none)) in
    let away : (page_bytes * p + 4 * k + 4 ≤ at) ⊎ (at + n ≤ page_bytes * p + 4 * k) = elim (cases_lt p (page_of at)) [ inl l ↦ inl (omega arith) | inr g ↦ inr (omega arith) ] in
    let entry = get_or entries (page_words * slot + k) d in agrees_still entry entry before after (page_bytes * p + 4 * k) refl (same (page_bytes * p + 4 * k) away) (decoded p slot k d e h)

-- a word whose entry is before or after the entries of a range in one page is not in the range
away : (slots : List ℕ) (at n place first last page slot k : ℕ) → 0 < n → at % page_bytes + n ≤ page_bytes
    → get_or slots (page_of at) 0 ≡ place + 1 → get_or slots page 0 ≡ slot + 1 → k < page_words
    → first ≡ page_words * place + at % page_bytes / 4 → last ≡ page_words * place + (at % page_bytes + n - 1) / 4
    → (page_words * slot + k < first) ⊎ (last + 1 ≤ page_words * slot + k)
    → (page_bytes * page + 4 * k + 4 ≤ at) ⊎ (at + n ≤ page_bytes * page + 4 * k)
away slots at n place first last page slot k some whole here there h is_first is_last out = elim (cases_eq page (page_of at)) [
  | inl e ↦
      let same : slot ≡ place = omega (arith, sym there ∙ ap (λ q. get_or slots q 0) e ∙ here) in
      elim out [ inl below ↦ inl (omega arith) | inr above ↦ inr (omega arith) ]
  | inr other ↦ elim (cases_lt page (page_of at)) [ inl l ↦ inl (omega arith) | inr g ↦ inr (omega arith) ]
]

-- the entries of the words that a range in one page meets are emptied
pub decoded_dropped : (slots : List ℕ) (entries emptied : List Decoded) (before after : List ℕ) (at n place first last : ℕ) → 0 < n → at % page_bytes + n ≤ page_bytes
    → get_or slots (page_of at) 0 ≡ place + 1 → first ≡ page_words * place + at % page_bytes / 4 → last ≡ page_words * place + (at % page_bytes + n - 1) / 4
    → ((i : ℕ) (d : Decoded) → first ≤ i → i < last + 1 → (get_or emptied i d).op ≡ ops.Empty) → ((i : ℕ) (d : Decoded) → (i < first) ⊎ (last + 1 ≤ i) → get_or emptied i d ≡ get_or entries i d)
    → SameElsewhere before after at n → AreDecoded slots entries before → AreDecoded slots emptied after
decoded_dropped slots entries emptied before after at n place first last some page here is_first is_last gone stay same decoded = λ p slot k d e h.
    let i = page_words * slot + k in
    let word = page_bytes * p + 4 * k in
    let was = decoded p slot k d e h in
    let by_place = away slots at n place first last p slot k some page here e h is_first is_last in
    let kept = λ (out : (i < first) ⊎ (last + 1 ≤ i)). agrees_still _ _ before after word (stay i d out) (same word (by_place out)) was in
    elim (cases_lt i first) as (λ _. Agrees (get_or emptied i d) after word) [
      | inl below ↦ kept (inl below)
      | inr from ↦ elim (cases_lt i (last + 1)) as (λ _. Agrees (get_or emptied i d) after word) [
        | inl within ↦ inl (gone i d from within)
        | inr above ↦ kept (inr above)
      ]
    ]

-- ---- slots
-- a page is given a free slot
pub decoded_given : (slots : List ℕ) (entries : List Decoded) (bytes : List ℕ) (page slot : ℕ) → page < length slots
    → ((k : ℕ) (d : Decoded) → k < page_words → (get_or entries (page_words * slot + k) d).op ≡ ops.Empty) → AreDecoded slots entries bytes → AreDecoded (set slots page (slot + 1)) entries bytes
decoded_given slots entries bytes page slot there empty decoded = λ p s k d e h. elim (cases_eq p page) [
  | inl i ↦
      let number : slot + 1 ≡ s + 1 = sym (get_or-set_same slots page (slot + 1) 0 there) ∙ ap (λ q. get_or (set slots page (slot + 1)) q 0) (sym i) ∙ e in
      let same : s ≡ slot = omega arith in
      inl (ap (λ x. (get_or entries (page_words * x + k) d).op) same ∙ empty k d h)
  | inr other ↦ decoded p s k d (sym (get_or-set_other slots page p (slot + 1) 0 other) ∙ e) h
]

pub slots_given : (slots owners : List ℕ) (entries : List Decoded) (used oldest capacity page slot : ℕ) → page < length slots → slot < used
    → ((q : ℕ) → get_or slots q 0 ≢ slot + 1) → AreSlots slots owners entries used oldest capacity → AreSlots (set slots page (slot + 1)) (set owners slot page) entries used oldest capacity
slots_given slots owners entries used oldest capacity page slot there within unowned a = record {
  owned = λ p s e. elim (cases_eq p page) [
    | inl i ↦
        let number : slot + 1 ≡ s + 1 = sym (get_or-set_same slots page (slot + 1) 0 there) ∙ ap (λ q. get_or (set slots page (slot + 1)) q 0) (sym i) ∙ e in
        let same : s ≡ slot = omega arith in
        (omega arith, ap (λ x. get_or (set owners slot page) x 0) same ∙ get_or-set_same owners slot page 0 (omega (arith, a.pages, a.few)) ∙ sym i)
    | inr other ↦
        let was = sym (get_or-set_other slots page p (slot + 1) 0 other) ∙ e in
        let apart : s ≢ slot = λ i. unowned p (was ∙ ap (λ x. x + 1) i) in
        ((a.owned p s was).0, get_or-set_other owners slot s page 0 apart ∙ (a.owned p s was).1)
  ];
  pages = length-set owners slot page ∙ a.pages;
  exact = a.exact;
  few = a.few;
  next = a.next;
  room = a.room;
}

pub is_given : (slots now : List ℕ) (entries : List Decoded) (used page slot : ℕ) → page < length now → IsFree slots now entries used slot → IsGiven slots (set now page (slot + 1)) page slot
is_given slots now entries used page slot there f = record {
  size = length-set now page (slot + 1) ∙ f.size;
  given = get_or-set_same now page (slot + 1) 0 there;
  others = λ q other. elim (f.others q) [
    | inl none ↦ inl (get_or-set_other now page q (slot + 1) 0 other ∙ none)
    | inr same ↦ inr (get_or-set_other now page q (slot + 1) 0 other ∙ same)
  ];
}

-- an entry is kept
pub decoded_kept : (slots owners : List ℕ) (entries : List Decoded) (used oldest capacity page slot k : ℕ) (d : Decoded) (bytes : List ℕ) → AreSlots slots owners entries used oldest capacity
    → get_or slots page 0 ≡ slot + 1 → k < page_words → Agrees d bytes (page_bytes * page + 4 * k) → AreDecoded slots entries bytes
    → AreDecoded slots (set entries (slot * page_words + k) d) bytes
decoded_kept slots owners entries used oldest capacity page slot k d bytes a given word agrees decoded = λ p s j x e h.
    let own = a.owned page slot given in
    let i = slot * page_words + k in
    let at : i < length entries = omega (arith, a.exact, own.0) in
    elim (cases_eq (page_words * s + j) i) as (λ _. Agrees (get_or (set entries i d) (page_words * s + j) x) bytes (page_bytes * p + 4 * j)) [
      | inl same ↦
          let slot_same : s ≡ slot = omega arith in
          let word_same : j ≡ k = omega arith in
          let page_same : p ≡ page = sym (a.owned p s e).1 ∙ ap (λ x. get_or owners x 0) slot_same ∙ own.1 in
          let entry : get_or (set entries i d) (page_words * s + j) x ≡ d = ap (λ q. get_or (set entries i d) q x) same ∙ get_or-set_same entries i d x at in
          let place : page_bytes * page + 4 * k ≡ page_bytes * p + 4 * j = omega arith in
          agrees_still d _ bytes bytes (page_bytes * p + 4 * j) entry refl (subst (λ (q : ℕ). Agrees d bytes q) place agrees)
      | inr apart ↦ agrees_still _ _ bytes bytes (page_bytes * p + 4 * j) (get_or-set_other entries i (page_words * s + j) d x apart) refl (decoded p s j x e h)
    ]

-- a decoded word is put in place of that at an address, where its word is written
pub decoded_over : (slots owners : List ℕ) (entries : List Decoded) (used oldest capacity : ℕ) (before after : List ℕ) (at slot place : ℕ) (d : Decoded) → AreSlots slots owners entries used oldest capacity
    → at % 4 ≡ 0 → get_or slots (page_of at) 0 ≡ slot + 1 → place ≡ page_words * slot + at % page_bytes / 4 → SameElsewhere before after at 4 → read 4 after at ≡ Some d.word
    → AreDecoded slots entries before → AreDecoded slots (set entries place d) after
decoded_over slots owners entries used oldest capacity before after at slot place d a aligned given is same word decoded = λ p s j x e h.
    let own = a.owned (page_of at) slot given in
    let there : place < length entries = omega (arith, a.exact, own.0) in
    let w = page_bytes * p + 4 * j in
    elim (cases_eq (page_words * s + j) place) as (λ _. Agrees (get_or (set entries place d) (page_words * s + j) x) after w) [
      | inl eq ↦
          let slot_same : s ≡ slot = omega arith in
          let page_same : p ≡ page_of at = sym (a.owned p s e).1 ∙ ap (λ x. get_or owners x 0) slot_same ∙ own.1 in
          let entry : get_or (set entries place d) (page_words * s + j) x ≡ d = ap (λ q. get_or (set entries place d) q x) eq ∙ get_or-set_same entries place d x there in
          let here : w ≡ at = omega arith in
          inr (ap (read 4 after) here ∙ word ∙ ap (λ (e : Decoded). Some e.word) (sym entry))
      | inr apart ↦
          let last : place ≡ page_words * slot + (at % page_bytes + 4 - 1) / 4 = omega arith in
          let out : (page_words * s + j < place) ⊎ (place + 1 ≤ page_words * s + j) = elim (cases_lt (page_words * s + j) place) [ inl l ↦ inl l | inr g ↦ inr (omega arith) ] in
          agrees_still _ _ before after w (get_or-set_other entries place (page_words * s + j) d x apart) (same w (away slots at 4 slot place place p s j (omega arith) (omega arith) given e h is last out)) (decoded p s j x e h)
    ]

-- slots stay with their pages if an entry is replaced
pub slots_over : (slots owners : List ℕ) (entries : List Decoded) (used oldest capacity place : ℕ) (d : Decoded) → AreSlots slots owners entries used oldest capacity → AreSlots slots owners (set entries place d) used oldest capacity
slots_over slots owners entries used oldest capacity place d a = record {
  owned = a.owned;
  pages = a.pages;
  exact = length-set entries place d ∙ a.exact;
  few = a.few;
  next = a.next;
  room = a.room;
}

get_or-replicate : {A : Type 0} (x d : A) (n i : ℕ) → i < n → get_or (replicate n x) i d ≡ x
get_or-replicate x d zero i h = absurd (omega arith)
get_or-replicate x d (suc n) zero h = refl
get_or-replicate x d (suc n) (suc i) h = get_or-replicate x d n i (omega arith)

-- entries that are added are empty
pub empty_after : (entries after : List Decoded) (used k i : ℕ) (x d : Decoded) → after ≡ entries ++ replicate page_words x → x.op ≡ ops.Empty → length entries ≡ page_words * used → i ≡ page_words * used + k → k < page_words → (get_or after i d).op ≡ ops.Empty
empty_after entries after used k i x d is empty size place h =
    ap (λ (xs : List Decoded). (get_or xs i d).op) is
    ∙ ap (λ (e : Decoded). e.op) (get_or-append_right entries (replicate page_words x) (page_words * used) i d size (omega arith) ∙ get_or-replicate x d page_words (i - page_words * used) (omega arith)) ∙ empty

-- entries that were there stay
pub entry_before : (entries after : List Decoded) (i : ℕ) (x d : Decoded) → after ≡ entries ++ replicate page_words x → i < length entries → get_or after i d ≡ get_or entries i d
entry_before entries after i x d is h = ap (λ (xs : List Decoded). get_or xs i d) is ∙ get_or_append_left entries (replicate page_words x) d i h

-- the oldest slot is taken from its page, and its entries are emptied
pub record IsFreeing (slots freed owners : List ℕ) (entries emptied : List Decoded) (used oldest capacity owner : ℕ) : Type 0 where
  pub before : AreSlots slots owners entries used oldest capacity
  pub all : used ≡ most_code_slots
  pub owner_is : owner ≡ get_or owners oldest 0
  pub size : length freed ≡ length slots
  pub taken : get_or freed owner 0 ≡ 0
  pub others : (page : ℕ) → page ≢ owner → get_or freed page 0 ≡ get_or slots page 0
  pub same_size : length emptied ≡ length entries
  pub gone : (i : ℕ) (d : Decoded) → page_words * oldest ≤ i → i < page_words * oldest + page_words → (get_or emptied i d).op ≡ ops.Empty
  pub stay : (i : ℕ) (d : Decoded) → (i < page_words * oldest) ⊎ (page_words * oldest + page_words ≤ i) → get_or emptied i d ≡ get_or entries i d

-- a page that still has a slot had it, and it is another one
still : {slots freed owners : List ℕ} {entries emptied : List Decoded} {used oldest capacity owner : ℕ} → IsFreeing slots freed owners entries emptied used oldest capacity owner
    → (page slot : ℕ) → get_or freed page 0 ≡ slot + 1 → (get_or slots page 0 ≡ slot + 1) × (slot ≢ oldest)
still {slots} {freed} {owners} {owner = owner} f page slot e =
    let other : page ≢ owner = λ i. absurd (omega (arith, sym e ∙ ap (λ q. get_or freed q 0) i ∙ f.taken)) in
    let was = sym (f.others page other) ∙ e in
    (was, λ i. other (sym (f.before.owned page slot was).1 ∙ ap (λ s. get_or owners s 0) i ∙ sym f.owner_is))

pub slots_freed : {slots freed owners : List ℕ} {entries emptied : List Decoded} {used oldest capacity owner : ℕ} → IsFreeing slots freed owners entries emptied used oldest capacity owner
    → (next : ℕ) → next < most_code_slots → AreSlots freed owners emptied used next capacity
slots_freed f next below = record {
  owned = λ page slot e. f.before.owned page slot (still f page slot e).0;
  pages = f.before.pages;
  exact = f.same_size ∙ f.before.exact;
  few = f.before.few;
  next = below;
  room = f.before.room;
}

pub is_freed : {slots freed owners : List ℕ} {entries emptied : List Decoded} {used oldest capacity owner : ℕ} → IsFreeing slots freed owners entries emptied used oldest capacity owner
    → IsFree slots freed emptied used oldest
is_freed {freed = freed} {oldest = oldest} {owner = owner} f = record {
  size = f.size;
  others = λ page. elim (cases_eq page owner) [ inl i ↦ inl (ap (λ q. get_or freed q 0) i ∙ f.taken) | inr other ↦ inr (f.others page other) ];
  unowned = λ page e. (still f page oldest e).1 refl;
  empty = λ k d h. f.gone (page_words * oldest + k) d (omega arith) (omega arith);
  within = omega (arith, f.before.next, f.all);
}

pub decoded_freed : {slots freed owners : List ℕ} {entries emptied : List Decoded} {used oldest capacity owner : ℕ} → IsFreeing slots freed owners entries emptied used oldest capacity owner
    → (bytes : List ℕ) → AreDecoded slots entries bytes → AreDecoded freed emptied bytes
decoded_freed {oldest = oldest} f bytes decoded = λ page slot k d e h.
    let was = still f page slot e in
    let other : slot ≢ oldest = was.1 in
    let out : (page_words * slot + k < page_words * oldest) ⊎ (page_words * oldest + page_words ≤ page_words * slot + k) = elim (cases_lt slot oldest) [ inl l ↦ inl (omega arith) | inr g ↦ inr (omega arith) ] in
    agrees_still _ _ bytes bytes (page_bytes * page + 4 * k) (f.stay (page_words * slot + k) d out) refl (decoded page slot k d was.0 h)

-- ---- the numbers for writing
-- a page without a slot has the number of the index again
pub writable_renewed : (index writes slots : List ℕ) (page number : ℕ) → page < length index → get_or slots page 0 ≡ 0 → number ≡ get_or index page 0 → AreWritable index writes slots → AreWritable index (set writes page number) slots
writable_renewed index writes slots page number there none is w = record {
  pages = length-set writes page number ∙ w.pages;
  slotted = w.slotted;
  number = λ p some. elim (cases_eq p page) [
    | inl e ↦ ap (λ q. get_or (set writes page number) q 0) e ∙ get_or-set_same writes page number 0 (omega (arith, w.pages)) ∙ is ∙ ap (λ q. get_or index q 0) (sym e)
    | inr other ↦ let stays = get_or-set_other writes page p number 0 other in stays ∙ w.number p (omega (arith, stays))
  ];
  plain = λ p some. elim (cases_eq p page) [
    | inl e ↦ ap (λ q. get_or slots q 0) e ∙ none
    | inr other ↦ let stays = get_or-set_other writes page p number 0 other in w.plain p (omega (arith, stays))
  ];
}

-- created pages keep their numbers
pub writable_still : (index after writes slots : List ℕ) → length after ≡ length index → ((page : ℕ) → 0 < get_or index page 0 → get_or after page 0 ≡ get_or index page 0) → AreWritable index writes slots → AreWritable after writes slots
writable_still index after writes slots size numbers w = record {
  pages = w.pages ∙ sym size;
  slotted = w.slotted ∙ sym size;
  number = λ p some. w.number p some ∙ sym (numbers p (omega (arith, w.number p some)));
  plain = w.plain;
}

-- a page that is given a slot has no number for writing
pub writable_given : (index writes slots after : List ℕ) (page slot : ℕ) → page < length index → IsGiven slots after page slot → AreWritable index writes slots → AreWritable index (set writes page 0) after
writable_given index writes slots after page slot there g w = record {
  pages = length-set writes page 0 ∙ w.pages;
  slotted = g.size ∙ w.slotted;
  number = λ p some. elim (cases_eq p page) [
    | inl e ↦ absurd (omega (arith, ap (λ q. get_or (set writes page 0) q 0) e, get_or-set_same writes page 0 0 (omega (arith, w.pages))))
    | inr other ↦ let stays = get_or-set_other writes page p 0 0 other in stays ∙ w.number p (omega (arith, stays))
  ];
  plain = λ p some. elim (cases_eq p page) [
    | inl e ↦ absurd (omega (arith, ap (λ q. get_or (set writes page 0) q 0) e, get_or-set_same writes page 0 0 (omega (arith, w.pages))))
    | inr other ↦
        let stays = get_or-set_other writes page p 0 0 other in
        let was = w.plain p (omega (arith, stays)) in
        elim (g.others p other) [ inl none ↦ none | inr same ↦ same ∙ was ]
  ];
}

-- ---- writes
read-is : (ram : List ℕ) (at : ℕ) → read 4 ram at ≡ (if nat_le (at + 4) (length ram) then Some (big_number 4 (bytes_at ram at 4)) else None)
read-is ram at = ap (λ n. if nat_le (at + 4) (length ram) then Some n else None) (sym (big_from-take 0 4 4 (drop at ram) (omega arith)))

read-same : (ram after : List ℕ) (at : ℕ) → length after ≡ length ram → bytes_at after at 4 ≡ bytes_at ram at 4 → read 4 after at ≡ read 4 ram at
read-same ram after at size bytes =
    read-is after at ∙ ap₂ (λ (n : ℕ) (xs : List ℕ). if nat_le (at + 4) n then Some (big_number 4 xs) else None) size bytes ∙ sym (read-is ram at)

-- bytes that are written change the words that they are in alone
pub same_elsewhere : (ram : List ℕ) (at : ℕ) (bytes : List ℕ) → at + length bytes ≤ length ram → SameElsewhere ram (with_bytes ram at bytes) at (length bytes)
same_elsewhere ram at bytes fits = λ j out.
    read-same ram (with_bytes ram at bytes) j (length-with_bytes ram at bytes fits)
    (elim out [ inl before ↦ bytes_at-with_below ram at bytes j 4 before (omega arith) | inr after ↦ bytes_at-with_after ram at bytes j 4 after (omega arith) ])

-- a word that can be read is inside RAM
pub read_inside : (ram : List ℕ) (at word : ℕ) → read 4 ram at ≡ Some word → at + 4 ≤ length ram
read_inside ram at word e = go (nat_le (at + 4) (length ram)) refl e
  where
    go : (c : Bool) → nat_le (at + 4) (length ram) ≡ c → cond c (Some (number_at 4 ram at)) None ≡ Some word → at + 4 ≤ length ram
    go true f e = grind (arith, nat_tests, f)
    go false f e = absurd (cc)

-- ---- the entries of a page
pub words_of : (slots : List ℕ) (entries : List Decoded) (bytes : List ℕ) (page number : ℕ) → 0 < number → get_or slots page 0 ≡ number → AreDecoded slots entries bytes
    → AreWords (take page_words (drop (page_words * (number - 1)) entries)) bytes page
words_of slots entries bytes page number some is decoded = λ k d h.
    let within : k < page_words = omega (arith, length-take page_words (drop (page_words * (number - 1)) entries)) in
    let entry = get_or-take page_words (drop (page_words * (number - 1)) entries) k d within ∙ get_or-drop (page_words * (number - 1)) entries k d in
    agrees_still _ _ bytes bytes (page_bytes * page + 4 * k) entry refl (decoded page (number - 1) k d (is ∙ omega arith) within)
