-- Hashes that are kept beside the entries.
use Rattle.std.proofs.Common.{◌≡◌, ℕ, ◌<◌, List, [], ◌∷◌, ◌++◌, length, map, get_or, set, refl, sym, ap, ◌∙◌, arith}
use Rattle.std.specs.List.{SwappedAt}
use Rattle.std.proofs.lemmas.List.{get_or-map, map-set, map-append}
use Rattle.symbol_table.specs.declared.symbol.Symbol.{Symbol}
use Rattle.symbol_table.specs.declared.hashes.Hashes.{Hashes}
use Rattle.symbol_table.specs.declared.links.Key.{Key}
use Rattle.symbol_table.specs.declared.links.Key.TheVariants as keys
use Rattle.symbol_table.specs.Chains.{name_hash, value_hash, hashes_of, hash_in, hash_by}

hash_is : (key : Key) (s : Symbol) → hash_in key (hashes_of s) ≡ hash_by key s
hash_is keys.Name s = refl
hash_is keys.Value s = refl

-- an entry of a list that has one
pub one_of : (list : List Symbol) → 0 < length list → Symbol
one_of [] some = absurd (omega arith)
one_of (s ∷ ss) some = s

-- what is kept at a position is the hash of the entry there
pub hash_at : (key : Key) (list : List Symbol) (hashes : List Hashes) (i : ℕ) (x : Symbol) (d : Hashes) → hashes ≡ map hashes_of list → i < length list
    → hash_in key (get_or hashes i d) ≡ hash_by key (get_or list i x)
hash_at key list hashes i x d hashed less =
    ap (hash_in key) (ap (λ hs. get_or hs i d) hashed ∙ get_or-map hashes_of list i x d less) ∙ hash_is key (get_or list i x)

-- the hashes of an entry, from its name and its value
pub hashes_are : (x : Symbol) (name : List ℕ) (h : Hashes) → h ≡ record { name = name_hash name; value = value_hash x.value } → name ≡ x.name → h ≡ hashes_of x
hashes_are x name h is same = is ∙ ap with_name same
  where
    with_name : List ℕ → Hashes
    with_name bs = record { name = name_hash bs; value = value_hash x.value }

-- one entry more, and its hashes
pub hashed_more : (list more : List Symbol) (hashes : List Hashes) (x : Symbol) (h : Hashes) → hashes ≡ map hashes_of list → h ≡ hashes_of x → more ≡ list ++ x ∷ [] → hashes ++ h ∷ [] ≡ map hashes_of more
hashed_more list more hashes x h hashed is longer =
    ap (λ hs. hs ++ h ∷ []) hashed
    ∙ ap (λ y. map hashes_of list ++ y ∷ []) is
    ∙ sym (map-append hashes_of list (x ∷ []))
    ∙ ap (map hashes_of) (sym longer)

-- two entries change places, and their hashes
pub hashed_swapped : (list more : List Symbol) (hashes new : List Hashes) (i j : ℕ) (x : Symbol) → hashes ≡ map hashes_of list → SwappedAt list more i j → SwappedAt hashes new i j
    → i < length list → j < length list → new ≡ map hashes_of more
hashed_swapped list more hashes new i j x hashed one two low high =
    let d = hashes_of x in
    let a = get_or list j x in
    let b = get_or list i x in
    let at : (k : ℕ) → k < length list → get_or hashes k d ≡ hashes_of (get_or list k x) = λ k less. ap (λ hs. get_or hs k d) hashed ∙ get_or-map hashes_of list k x d less in
    two.3 d
    ∙ ap (λ y. set (set hashes i y) j (get_or hashes i d)) (at j high)
    ∙ ap (λ y. set (set hashes i (hashes_of a)) j y) (at i low)
    ∙ ap (λ hs. set (set hs i (hashes_of a)) j (hashes_of b)) hashed
    ∙ ap (λ hs. set hs j (hashes_of b)) (sym (map-set hashes_of list i a))
    ∙ sym (map-set hashes_of (set list i a) j b)
    ∙ ap (map hashes_of) (sym (one.3 x))
