-- Look-ups along chains, and chains that get one entry more.
use Rattle.std.proofs.Common.{◌≡◌, ℕ, zero, suc, ◌+◌, ◌-◌, ◌%◌, ◌<◌, ◌≤◌, Bool, true, false, cond, eqb, not, ◌||◌, List, [], ◌∷◌, ◌++◌, length, map, take, get_or, set, Some, refl, sym, ap, ap₂, ◌∙◌, subst, inl, inr, arith}
use Rattle.std.specs.Prelude.{replicate}
use Rattle.std.proofs.lemmas.Bool.{eq-eqb, ne_eqb, eqb-true, and_parts, cases_eq}
use Rattle.std.proofs.lemmas.List.{take_more, take_all, length-append, length-set, length-map, length-take-le, map-append, get_or-map, get_or-set_same, get_or-set_other, get_or_append_left, get_or_push, get_or-take, length-replicate}
use Rattle.std.proofs.lemmas.Grind.{get_or_default_zero}
use Rattle.std.proofs.lemmas.Nat.{mod_below}
use Rattle.std.proofs.lemmas.Slice.Eq.{bytes_eq-Decides}
use Rattle.symbol_table.specs.declared.symbol.Symbol.{Symbol}
use Rattle.symbol_table.specs.Newest.{newest, is_named, has_value}
use Rattle.symbol_table.specs.Chains.{newest_link, LinksState, AreChained, linked, numbers_of, LeadsThrough, is_sought, name_hash, value_hash, chain_by_name, chain_by_value}
use Rattle.symbol_table.proofs.Finding.{newest-added}

-- ---- links

link_below : (hs : List ℕ) (n h : ℕ) → newest_link hs n h ≤ n
link_below hs zero h = omega arith
link_below hs (suc n) h =
    let rest = link_below hs n h in
    elim (eqb (get_or hs n 0) h) as (λ t. cond t (suc n) (newest_link hs n h) ≤ suc n) [ true ↦ omega arith | false ↦ omega arith ]

-- what is added at the end changes no link before it
link_append : (hs more : List ℕ) (n h : ℕ) → n ≤ length hs → newest_link (hs ++ more) n h ≡ newest_link hs n h
link_append hs more zero h le = refl
link_append hs more (suc n) h le =
    ap (λ x. cond (eqb x h) (suc n) (newest_link (hs ++ more) n h)) (get_or_append_left hs more 0 n (omega arith))
    ∙ ap (λ m. cond (eqb (get_or hs n 0) h) (suc n) m) (link_append hs more n h (omega arith))

-- ---- one entry more

-- the link at the end of a list with one more entry
link_push : (hs : List ℕ) (g h : ℕ) → newest_link (hs ++ g ∷ []) (suc (length hs)) h ≡ cond (eqb g h) (suc (length hs)) (newest_link hs (length hs) h)
link_push hs g h =
    ap (λ x. cond (eqb x h) (suc (length hs)) (newest_link (hs ++ g ∷ []) (length hs) h)) (get_or_push hs g 0 (length hs) refl)
    ∙ ap (λ m. cond (eqb g h) (suc (length hs)) m) (link_append hs (g ∷ []) (length hs) h (omega arith))

pub chained_more : (hs : List ℕ) (s : LinksState) (g : ℕ) → AreChained hs s → g < length s.heads → AreChained (hs ++ g ∷ []) (linked g s)
chained_more hs s g k below =
    let one = length-append hs (g ∷ []) in
    let two = length-append s.before (get_or s.heads g 0 ∷ []) in
    let same = k.links in
    let some = k.some in
    let many = length-set s.heads g (length s.before + 1) in
    let size : length (hs ++ g ∷ []) ≡ suc (length hs) = omega arith in
    record {
      links = omega arith;
      some = omega arith;
      each = λ i p. elim (cases_eq i (length hs)) [
        | inl last ↦
            get_or_push s.before (get_or s.heads g 0) 0 i (omega arith)
            ∙ k.first g below
            ∙ sym (link_append hs (g ∷ []) (length hs) g (omega arith))
            ∙ ap (λ n. newest_link (hs ++ g ∷ []) n g) (sym last)
            ∙ ap (newest_link (hs ++ g ∷ []) i) (sym (get_or_push hs g 0 i (sym last)))
        | inr other ↦
            get_or_append_left s.before (get_or s.heads g 0 ∷ []) 0 i (omega arith)
            ∙ k.each i (omega arith)
            ∙ sym (link_append hs (g ∷ []) i (get_or hs i 0) (omega arith))
            ∙ ap (newest_link (hs ++ g ∷ []) i) (sym (get_or_append_left hs (g ∷ []) 0 i (omega arith)))
      ];
      first = λ h p.
          let to : newest_link (hs ++ g ∷ []) (length (hs ++ g ∷ [])) h ≡ cond (eqb g h) (suc (length hs)) (newest_link hs (length hs) h) =
          ap (λ n. newest_link (hs ++ g ∷ []) n h) size ∙ link_push hs g h in
          elim (cases_eq g h) [
            | inl is ↦
                ap (λ x. get_or (set s.heads g (length s.before + 1)) x 0) (sym is)
                ∙ get_or-set_same s.heads g (length s.before + 1) 0 (omega arith)
                ∙ (let n : length s.before + 1 ≡ suc (length hs) = omega arith in n)
                ∙ sym (to ∙ ap (λ t. cond t (suc (length hs)) (newest_link hs (length hs) h)) (eq-eqb g h is))
            | inr other ↦
                get_or-set_other s.heads g h (length s.before + 1) 0 (λ q. other (sym q))
                ∙ k.first h (omega arith)
                ∙ sym (to ∙ ap (λ t. cond t (suc (length hs)) (newest_link hs (length hs) h)) (ne_eqb g h other))
          ];
    }

-- an entry that is added to the list is added to its chain
pub chained_push : (hash : Symbol → ℕ) (list more : List Symbol) (x : Symbol) (s new : LinksState) (g : ℕ) → AreChained (map hash list) s → g ≡ hash x → g < length s.heads
    → more ≡ list ++ x ∷ [] → new.before ≡ s.before ++ get_or s.heads g 0 ∷ [] → new.heads ≡ set s.heads g (length s.before + 1) → AreChained (map hash more) new
chained_push hash list more x s new g k is below longer before heads =
    let same : linked g s ≡ new = ap₂ links_with (sym before) (sym heads) in
    let hashes : map hash list ++ g ∷ [] ≡ map hash more = ap (λ y. map hash list ++ y ∷ []) is ∙ sym (ap (map hash) longer ∙ map-append hash list (x ∷ [])) in
    subst (λ (t : LinksState). AreChained (map hash more) t) same (subst (λ (hs : List ℕ). AreChained hs (linked g s)) hashes (chained_more (map hash list) s g k below))
  where
    links_with : List ℕ → List ℕ → LinksState
    links_with b h = record { before = b; heads = h }

-- the same with chains by n, which stays the same
pub pushed : (of : ℕ → Symbol → ℕ) (list more : List Symbol) (x : Symbol) (s new : LinksState) (g : ℕ) → AreChained (map (of (length s.heads)) list) s → g ≡ of (length s.heads) x
    → g < length s.heads → more ≡ list ++ x ∷ [] → new.before ≡ s.before ++ get_or s.heads g 0 ∷ [] → new.heads ≡ set s.heads g (length s.before + 1)
    → AreChained (map (of (length new.heads)) more) new
pushed of list more x s new g k is below longer before heads =
    let same : length s.heads ≡ length new.heads = sym (ap (λ (xs : List ℕ). length xs) heads ∙ length-set s.heads g (length s.before + 1)) in
    subst (λ n. AreChained (map (of n) more) new) same (chained_push (of (length s.heads)) list more x s new g k is below longer before heads)

-- ---- one entry less

chained_less : (hs : List ℕ) (s new : LinksState) (g : ℕ) → AreChained (hs ++ g ∷ []) s → g < length s.heads
    → new.before ≡ take (length s.before - 1) s.before → new.heads ≡ set s.heads g (get_or s.before (length s.before - 1) 0) → AreChained hs new
chained_less hs s new g k below before heads =
    let n = length hs in
    let more = hs ++ g ∷ [] in
    let links = k.links in
    let some = k.some in
    let size : length more ≡ suc n = length-append hs (g ∷ []) ∙ omega arith in
    let last : length s.before - 1 ≡ n = omega arith in
    let front : length (take (length s.before - 1) s.before) ≡ length s.before - 1 = length-take-le (length s.before - 1) s.before (omega arith) in
    let same_before = ap (λ (xs : List ℕ). length xs) before in
    let many = ap (λ (xs : List ℕ). length xs) heads ∙ length-set s.heads g (get_or s.before (length s.before - 1) 0) in
    let older : get_or s.before (length s.before - 1) 0 ≡ newest_link hs n g =
    ap (λ m. get_or s.before m 0) last
    ∙ k.each n (omega arith)
    ∙ ap (newest_link more n) (get_or_push hs g 0 n refl)
    ∙ link_append hs (g ∷ []) n g (omega arith) in
    record {
      links = omega arith;
      some = omega arith;
      each = λ i p.
          ap (λ (xs : List ℕ). get_or xs i 0) before
          ∙ get_or-take (length s.before - 1) s.before i 0 (omega arith)
          ∙ k.each i (omega arith)
          ∙ link_append hs (g ∷ []) i (get_or more i 0) (omega arith)
          ∙ ap (newest_link hs i) (get_or_append_left hs (g ∷ []) 0 i (omega arith));
      first = λ h p.
          ap (λ (xs : List ℕ). get_or xs h 0) heads
          ∙ elim (cases_eq g h) [
            | inl is ↦
                ap (λ x. get_or (set s.heads g (get_or s.before (length s.before - 1) 0)) x 0) (sym is)
                ∙ get_or-set_same s.heads g (get_or s.before (length s.before - 1) 0) 0 below
                ∙ older
                ∙ ap (newest_link hs n) is
            | inr other ↦
                get_or-set_other s.heads g h (get_or s.before (length s.before - 1) 0) 0 (λ q. other (sym q))
                ∙ k.first h (omega arith)
                ∙ ap (λ m. newest_link more m h) size
                ∙ link_push hs g h
                ∙ ap (λ t. cond t (suc n) (newest_link hs n h)) (ne_eqb g h other)
          ];
    }

-- the last of the first entries is taken out of its chain
pub popped : (of : ℕ → Symbol → ℕ) (list : List Symbol) (i n : ℕ) (x : Symbol) (s new : LinksState) (g : ℕ) → i ≡ suc n → n < length list
    → AreChained (map (of (length s.heads)) (take i list)) s → g ≡ of (length s.heads) (get_or list n x) → g < length s.heads
    → new.before ≡ take (length s.before - 1) s.before → new.heads ≡ set s.heads g (get_or s.before (length s.before - 1) 0)
    → AreChained (map (of (length new.heads)) (take n list)) new
popped of list i n x s new g next less k is below before heads =
    let hash = of (length s.heads) in
    let next_one : i ≡ n + 1 = omega arith in
    let whole : map hash (take i list) ≡ map hash (take n list) ++ g ∷ [] =
    ap (λ m. map hash (take m list)) next_one ∙ ap (map hash) (take_more list n x less) ∙ map-append hash (take n list) (get_or list n x ∷ []) ∙ ap (λ y. map hash (take n list) ++ y ∷ []) (sym is) in
    let same : length s.heads ≡ length new.heads = sym (ap (λ (xs : List ℕ). length xs) heads ∙ length-set s.heads g (get_or s.before (length s.before - 1) 0)) in
    subst (λ m. AreChained (map (of m) (take n list)) new) same
    (chained_less (map hash (take n list)) s new g (subst (λ (hs : List ℕ). AreChained hs s) whole k) below before heads)

get_or-same : (n i z : ℕ) → get_or (replicate n z) i z ≡ z
get_or-same zero i z = refl
get_or-same (suc n) zero z = refl
get_or-same (suc n) (suc i) z = get_or-same n i z

pub chained_none : (n : ℕ) (s : LinksState) → 0 < n → s.before ≡ [] → s.heads ≡ replicate n 0 → AreChained [] s
chained_none n s some before heads = record {
  links = ap (λ (xs : List ℕ). length xs) before;
  some = subst (λ m. 0 < m) (sym (ap (λ (xs : List ℕ). length xs) heads ∙ length-replicate {A = ℕ} n 0)) some;
  each = λ i p. absurd (omega arith);
  first = λ h p. ap (λ xs. get_or xs h 0) heads ∙ get_or-same n h 0;
}

-- as many links as entries
pub links_count : (hash : Symbol → ℕ) (list : List Symbol) (i : ℕ) (s : LinksState) → i ≤ length list → AreChained (map hash (take i list)) s → length s.before ≡ i
links_count hash list i s le k = k.links ∙ length-map (take i list) hash ∙ length-take-le i list le

-- ---- a look-up

-- a look-up has come to this entry: no later entry passes, and this one has the hash
pub record HasCome (p : Symbol → Bool) (hash : Symbol → ℕ) (h : ℕ) (list : List Symbol) (at : ℕ) : Type 0 where
  pub within : at ≤ length list
  pub rest : newest p (take at list) ≡ newest p list
  pub same : (d : Symbol) → 0 < at → hash (get_or list (at - 1) d) ≡ h

-- only entries with this hash pass
abbrev pub Only : (Symbol → Bool) → (Symbol → ℕ) → ℕ → Type 0
Only p hash h = (s : Symbol) → p s ≡ true → hash s ≡ h

fails_other : (p : Symbol → Bool) (hash : Symbol → ℕ) (h : ℕ) (s : Symbol) → Only p hash h → (hash s ≡ h → ⊥) → p s ≡ false
fails_other p hash h s only other = elim (p s) as (λ t. p s ≡ t → t ≡ false) [ true ↦ λ e. absurd (other (only s e)) | false ↦ λ e. refl ] refl

newest_less : (p : Symbol → Bool) (list : List Symbol) (n : ℕ) (d : Symbol) → n < length list → p (get_or list n d) ≡ false → newest p (take (n + 1) list) ≡ newest p (take n list)
newest_less p list n d less e =
    ap (newest p) (take_more list n d less)
    ∙ newest-added p (take n list) (get_or list n d)
    ∙ ap (λ t. cond t (Some (get_or list n d)) (newest p (take n list))) e

-- a link leads to the newest entry with its hash: the entries in between don't pass
come_link : (p : Symbol → Bool) (hash : Symbol → ℕ) (h : ℕ) (list : List Symbol) (d : Symbol) (n : ℕ) → Only p hash h → n ≤ length list
    → newest p (take n list) ≡ newest p list → HasCome p hash h list (newest_link (map hash list) n h)
come_link p hash h list d zero only le rest = record { within = omega arith; rest = rest; same = λ x k. absurd (omega arith) }
come_link p hash h list d (suc n) only le rest =
    let less : n < length list = omega arith in
    let next : suc n ≡ n + 1 = omega arith in
    let back : suc n - 1 ≡ n = omega arith in
    elim (cases_eq (get_or (map hash list) n 0) h) [
      | inl is ↦
          let to : newest_link (map hash list) (suc n) h ≡ suc n = ap (λ t. cond t (suc n) (newest_link (map hash list) n h)) (eq-eqb (get_or (map hash list) n 0) h is) in
          subst (HasCome p hash h list) (sym to)
          (record {
            within = le;
            rest = rest;
            same = λ x k. ap (λ m. hash (get_or list m x)) back ∙ sym (get_or-map hash list n x 0 less) ∙ is;
          })
      | inr other ↦
          let to : newest_link (map hash list) (suc n) h ≡ newest_link (map hash list) n h =
          ap (λ t. cond t (suc n) (newest_link (map hash list) n h)) (ne_eqb (get_or (map hash list) n 0) h other) in
          let fails = fails_other p hash h (get_or list n d) only (λ q. other (get_or-map hash list n d 0 less ∙ q)) in
          let back : newest p (take n list) ≡ newest p list = sym (newest_less p list n d less fails) ∙ ap (λ m. newest p (take m list)) (sym next) ∙ rest in
          subst (HasCome p hash h list) (sym to) (come_link p hash h list d n only (omega arith) back)
    ]

-- the list has an entry, or nothing is found
first_link : (p : Symbol → Bool) (hash : Symbol → ℕ) (h : ℕ) (list : List Symbol) (s : LinksState) → Only p hash h → AreChained (map hash list) s → h < length s.heads
    → HasCome p hash h list (get_or s.heads h 0)
first_link p hash h [] s only k below = subst (HasCome p hash h []) (sym (k.first h below)) (record { within = omega arith; rest = refl; same = λ d z. absurd (omega arith) })
first_link p hash h (x ∷ xs) s only k below =
    let list = x ∷ xs in
    let size : length (map hash list) ≡ length list = length-map list hash in
    let whole : newest p (take (length (map hash list)) list) ≡ newest p list = ap (newest p) (take_all (length (map hash list)) list (omega arith)) in
    subst (HasCome p hash h list) (sym (k.first h below)) (come_link p hash h list x (length (map hash list)) only (omega arith) whole)

-- a look-up begins at the head of the chain
pub begins : (p : Symbol → Bool) (hash : Symbol → ℕ) (x v at : ℕ) (list : List Symbol) (s : LinksState) → Only p hash (v % length s.heads) → AreChained (map hash list) s
    → x ≡ v → at ≡ get_or s.heads (x % length s.heads) 0 → HasCome p hash (v % length s.heads) list at
begins p hash x v at list s only k is e =
    let to : at ≡ get_or s.heads (v % length s.heads) 0 = e ∙ ap (λ y. get_or s.heads (y % length s.heads) 0) is in
    subst (HasCome p hash (v % length s.heads) list) (sym to) (first_link p hash (v % length s.heads) list s only k (mod_below v (length s.heads) k.some))

-- and it goes on along the links
pub goes_on : (p : Symbol → Bool) (hash : Symbol → ℕ) (h : ℕ) (list : List Symbol) (s : LinksState) (at next : ℕ) (x : Symbol) → Only p hash h → AreChained (map hash list) s
    → (at ≡ 0 → ⊥) → x ≡ get_or list (at - 1) x → p x ≡ false → next ≡ get_or s.before (at - 1) next → HasCome p hash h list at → HasCome p hash h list next × (next < at)
goes_on p hash h list s at next x only k some stands fails e come =
    let le = come.within in
    let size : length (map hash list) ≡ length list = length-map list hash in
    let less : at - 1 < length list = omega arith in
    let of : get_or (map hash list) (at - 1) 0 ≡ h = get_or-map hash list (at - 1) x 0 less ∙ come.same x (omega arith) in
    let links = k.links in
    let is : next ≡ newest_link (map hash list) (at - 1) h =
    e ∙ get_or_default_zero s.before (at - 1) next (omega arith) ∙ k.each (at - 1) (omega arith) ∙ ap (newest_link (map hash list) (at - 1)) of in
    let up : at - 1 + 1 ≡ at = omega arith in
    let back : newest p (take (at - 1) list) ≡ newest p list = sym (newest_less p list (at - 1) x less (ap p (sym stands) ∙ fails)) ∙ ap (λ m. newest p (take m list)) up ∙ come.rest in
    let low = link_below (map hash list) (at - 1) h in
    (subst (HasCome p hash h list) (sym is) (come_link p hash h list x (at - 1) only (omega arith) back), omega arith)

-- ---- what a chain holds

leads : (hs : List ℕ) (s : LinksState) (n h : ℕ) → AreChained hs s → n ≤ length hs → LeadsThrough s.before (newest_link hs n h) (numbers_of hs n h)
leads hs s zero h k le = refl
leads hs s (suc n) h k le =
    elim (cases_eq (get_or hs n 0) h) [
      | inl is ↦
          let back : suc n - 1 ≡ n = omega arith in
          let link : get_or s.before (suc n - 1) 0 ≡ newest_link hs n h = ap (λ m. get_or s.before m 0) back ∙ k.each n (omega arith) ∙ ap (newest_link hs n) is in
          subst (λ t. LeadsThrough s.before (cond t (suc n) (newest_link hs n h)) (cond t (suc n ∷ numbers_of hs n h) (numbers_of hs n h))) (sym (eq-eqb (get_or hs n 0) h is))
          (refl, subst (λ m. LeadsThrough s.before m (numbers_of hs n h)) (sym link) (leads hs s n h k (omega arith)))
      | inr other ↦
          subst (λ t. LeadsThrough s.before (cond t (suc n) (newest_link hs n h)) (cond t (suc n ∷ numbers_of hs n h) (numbers_of hs n h))) (sym (ne_eqb (get_or hs n 0) h other))
          (leads hs s n h k (omega arith))
    ]

pub chain_exact : (hs : List ℕ) (s : LinksState) (h : ℕ) → AreChained hs s → h < length s.heads → LeadsThrough s.before (get_or s.heads h 0) (numbers_of hs (length hs) h)
chain_exact hs s h k below = subst (λ m. LeadsThrough s.before m (numbers_of hs (length hs) h)) (sym (k.first h below)) (leads hs s (length hs) h k (omega arith))

-- ---- by name and by value

pub named_only : (n : ℕ) (global_only : Bool) (name : List ℕ) → Only (is_sought global_only name) (chain_by_name n) (name_hash name % n)
named_only n global_only name s e =
    let named = (and_parts (not global_only || s.global) (is_named name s) e).1 in
    ap (λ x. name_hash x % n) ((bytes_eq-Decides s.name name).0 named)

pub valued_only : (n value : ℕ) → Only (has_value value) (chain_by_value n) (value_hash value % n)
valued_only n value s e = ap (λ x. value_hash x % n) (eqb-true s.value value e)
