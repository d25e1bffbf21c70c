-- The modules of rows, one after the other.
use Rattle.std.proofs.Common.{◌≡◌, ℕ, suc, ◌+◌, ◌<◌, ◌≤◌, inl, inr, List, [], ◌∷◌, ◌++◌, Option, None, Result, Ok, Err, length, map, get_or, take, drop, drop-cons, refl, sym, ap, ◌∙◌, subst, arith}
use Rattle.std.specs.List.{All}
use Rattle.std.proofs.lemmas.List.{length-append, length-map, length-take, take-append-drop}
use Rattle.std.proofs.lemmas.List.Elements.{All-nil, All-cons, All-append}
use Rattle.wind_base.specs.Limits.{longest_text_file}
use Rattle.wind_outside.specs.Counts.{Rose}
use Rattle.module_image.specs.Linkable.{IsLinkable}
use Rattle.module_image.specs.Opening.{opening_blocks}
use Rattle.wind_link.specs.declared.files.Modules.{Modules}
use Rattle.wind_link.specs.declared.list.Row.{Row as CodeRow}
use Rattle.wind_link.specs.declared.status.LinkStatus.{LinkStatus}
use Rattle.wind_link.specs.declared.status.LinkStatus.TheVariants as status
use Rattle.wind_link.specs.Adding.{Adds}
use Rattle.wind_link.specs.Rows.{row}
use Rattle.std.proofs.Math.Seq.{take-suc}
use Rattle.mem_partition.specs.declared.block.Block.{Block}
use Rattle.wind_outside.specs.Files.{Files}
use Rattle.module_image.specs.Link.{Load}
use Rattle.module_image.specs.Needs.{needs_of}
use Rattle.wind_link.specs.declared.linking.Placed.{Placed}
use Rattle.wind_link.specs.Command.{Faults, HasBytes, path_of, NoModule, IsRowLoad, AreRowLoads, RefusesRow, FirstRefused, NoModules, LinksText, LinksList}
use Rattle.wind_link.specs.Linking.{load_of}
use Rattle.wind_link.specs.Lists.{Row, rows_of}
use Rattle.wind_link.specs.Placing.{with_module, segment_or, wrong_place, taken_by}
use Rattle.wind_link.specs.Steps.{loads}
use Rattle.wind_link.proofs.Flattening.{below_or}

pub map-append : {X Y : Type 0} → (f : X → Y) (xs ys : List X) → map f (xs ++ ys) ≡ map f xs ++ map f ys
map-append f [] ys = refl
map-append f (x ∷ xs) ys = ap (λ zs. f x ∷ zs) (map-append f xs ys)

-- one row more
pub rows_more : (files : Option Files) (dir : List ℕ) (taken : List Block) (rs : List Row) (ls : List Load) (r : Row) (l : Load)
    → AreRowLoads files dir taken rs ls → IsRowLoad files dir (taken_by taken ls) r l → AreRowLoads files dir taken (rs ++ r ∷ []) (ls ++ l ∷ [])
rows_more files dir taken [] [] r l h one = (one, tt)
rows_more files dir taken (s ∷ rs) (m ∷ ls) r l (first, rest) one = (first, rows_more files dir (with_module taken (needs_of m.body) m.at) rs ls r l rest one)
rows_more files dir taken [] (m ∷ ls) r l h one = absurd h
rows_more files dir taken (s ∷ rs) [] r l h one = absurd h

pub taken_more : (taken : List Block) (ls : List Load) (l : Load) → taken_by taken (ls ++ l ∷ []) ≡ with_module (taken_by taken ls) (needs_of l.body) l.at
taken_more taken [] l = refl
taken_more taken (m ∷ ls) l = taken_more (with_module taken (needs_of m.body) m.at) ls l

-- the modules of rows are rightly placed
pub rows_placed : (n : ℕ) (files : Option Files) (dir : List ℕ) (taken : List Block) (rs : List Row) (ls : List Load) → AreRowLoads files dir taken rs ls → wrong_place n taken ls ≡ None
rows_placed n files dir taken [] [] h = refl
rows_placed n files dir taken (r ∷ rs) (l ∷ ls) (one, rest) =
    ap (λ o. segment_or n o (wrong_place (n + 1) (with_module taken (needs_of l.body) l.at) ls)) one.placed
    ∙ rows_placed (n + 1) files dir (with_module taken (needs_of l.body) l.at) rs ls rest
rows_placed n files dir taken [] (l ∷ ls) h = absurd h
rows_placed n files dir taken (r ∷ rs) [] h = absurd h

pub loads_more : (ps : List Placed) (p : Placed) → loads (ps ++ p ∷ []) ≡ loads ps ++ load_of p ∷ []
loads_more ps p = map-append load_of ps (p ∷ [])

-- the row with number i, after those before it
pub taken_row : {X Y : Type 0} → (f : X → Y) (xs : List X) (i : ℕ) (d : X) → i < length xs → map f (take (suc i) xs) ≡ map f (take i xs) ++ f (get_or xs i d) ∷ []
taken_row f xs i d h = ap (map f) (take-suc xs i d h) ∙ map-append f (take i xs) (get_or xs i d ∷ [])

-- ---- counts of faults
rose_more : (old mid new : ℕ) → old ≤ mid → mid ≤ new → Rose mid new → Rose old new
rose_more old mid new a b (inl h) = inl (omega arith)
rose_more old mid new a b (inr e) = elim (below_or old 18446744073709551615) [ inl h ↦ inl (omega arith) | inr h ↦ inr (omega arith) ]

no_module_more : (files : Option Files) (name : List ℕ) (n old mid new : ℕ) (end : LinkStatus) → old ≤ mid → mid ≤ new
    → NoModule files name n (record { before = mid; after = new }) end → NoModule files name n (record { before = old; after = new }) end
no_module_more files name n old mid new status.ReadFault a b h = rose_more old mid new a b h
no_module_more files name n old mid new end a b h = h

refuses_more : (files : Option Files) (dir : List ℕ) (taken : List Block) (n : ℕ) (r : Row) (old mid new : ℕ) (end : LinkStatus) → old ≤ mid → mid ≤ new
    → RefusesRow files dir taken n r (record { before = mid; after = new }) end → RefusesRow files dir taken n r (record { before = old; after = new }) end
refuses_more files dir taken n r old mid new end a b (inl h) = inl (no_module_more files (path_of dir r.name) n old mid new end a b h)
refuses_more files dir taken n r old mid new end a b (inr h) = inr h

first_more : (files : Option Files) (dir : List ℕ) (rs : List Row) (old mid new : ℕ) (end : LinkStatus) → old ≤ mid → mid ≤ new
    → FirstRefused files dir rs (record { before = mid; after = new }) end → FirstRefused files dir rs (record { before = old; after = new }) end
first_more files dir rs old mid new end a b h = record {
  before = h.before;
  row = h.row;
  after = h.after;
  loads = h.loads;
  are = h.are;
  placed = h.placed;
  refuses = refuses_more files dir (taken_by opening_blocks h.loads) (length h.before + 1) h.row old mid new end a b h.refuses;
}

no_modules : (files : Option Files) (dir : List ℕ) (rs : List Row) (f : Faults) (end : LinkStatus) → FirstRefused files dir rs f end → NoModules files dir rs f end
no_modules files dir rs f status.NoMemory h = tt
no_modules files dir rs f end h = h

no_modules_more : (files : Option Files) (dir : List ℕ) (rs : List Row) (old mid new : ℕ) (end : LinkStatus) → old ≤ mid → mid ≤ new
    → NoModules files dir rs (record { before = mid; after = new }) end → NoModules files dir rs (record { before = old; after = new }) end
no_modules_more files dir rs old mid new status.NoMemory a b h = tt
no_modules_more files dir rs old mid new end a b h = first_more files dir rs old mid new _ a b h

-- ---- the row with number i
pub refused_at : (files later : Option Files) (dir : List ℕ) (rs : List CodeRow) (i : ℕ) (d : CodeRow) (ls : List Load) (taken : List Block) (count old mid new : ℕ) (end : LinkStatus)
    → i < length rs → AreRowLoads files dir opening_blocks (map row (take i rs)) ls → taken ≡ taken_by opening_blocks ls → count ≡ i → old ≤ mid → mid ≤ new → later ≡ files
    → RefusesRow later dir taken (count + 1) (row (get_or rs i d)) (record { before = mid; after = new }) end
    → NoModules files dir (map row rs) (record { before = old; after = new }) end
refused_at files later dir rs i d ls taken count old mid new end h placed t e a b same refuses =
    let r = subst (λ x. RefusesRow x dir taken (count + 1) (row (get_or rs i d)) (record { before = mid; after = new }) end) same refuses in
    let f : Faults = record { before = old; after = new } in
    let size : count + 1 ≡ length (map row (take i rs)) + 1 = omega (arith, e, length-map (take i rs) row, length-take i rs, h) in
    no_modules files dir (map row rs) f end (record {
      before = map row (take i rs);
      row = row (get_or rs i d);
      after = map row (drop (suc i) rs);
      loads = ls;
      are = ap (map row) (sym (take-append-drop i rs) ∙ ap (λ x. take i rs ++ x) (drop-cons rs i d h)) ∙ map-append row (take i rs) (get_or rs i d ∷ drop (suc i) rs);
      placed = placed;
      refuses = subst (λ n. RefusesRow files dir (taken_by opening_blocks ls) n (row (get_or rs i d)) f end) size
          (subst (λ x. RefusesRow files dir x (count + 1) (row (get_or rs i d)) f end) t (refuses_more files dir taken (count + 1) (row (get_or rs i d)) old mid new end a b r));
    })

loads_new : (files : Option Files) (dir : List ℕ) (r : Row) (old new : Modules) (a : Adds files dir r old new) → loads new.placed.items ≡ loads old.placed.items ++ load_of a.one ∷ []
loads_new files dir r old new a = ap loads a.placed ∙ loads_more old.placed.items a.one

pub added_at : (files later : Option Files) (dir : List ℕ) (rs : List CodeRow) (i : ℕ) (d : CodeRow) (old new : Modules) → i < length rs
    → AreRowLoads files dir opening_blocks (map row (take i rs)) (loads old.placed.items) → old.taken.items ≡ taken_by opening_blocks (loads old.placed.items) → later ≡ files
    → Adds later dir (row (get_or rs i d)) old new → AreRowLoads files dir opening_blocks (map row (take (i + 1) rs)) (loads new.placed.items)
added_at files later dir rs i d old new h placed t same adds =
    let a = subst (λ x. Adds x dir (row (get_or rs i d)) old new) same adds in
    let r = row (get_or rs i d) in
    let step : suc i ≡ i + 1 = omega arith in
    let rows_are : map row (take (i + 1) rs) ≡ map row (take i rs) ++ r ∷ [] = ap (λ k. map row (take k rs)) (sym step) ∙ taken_row row rs i d h in
    let one = subst (λ x. IsRowLoad files dir x r (load_of a.one)) t a.is in
    subst (λ x. AreRowLoads files dir opening_blocks x (loads new.placed.items)) (sym rows_are)
    (subst (λ x. AreRowLoads files dir opening_blocks (map row (take i rs) ++ r ∷ []) x) (sym (loads_new files dir r old new a))
    (rows_more files dir opening_blocks (map row (take i rs)) (loads old.placed.items) r (load_of a.one) placed one))

pub taken_at : (files : Option Files) (dir : List ℕ) (r : Row) (old new : Modules) → old.taken.items ≡ taken_by opening_blocks (loads old.placed.items)
    → Adds files dir r old new → new.taken.items ≡ taken_by opening_blocks (loads new.placed.items)
taken_at files dir r old new t a =
    a.taken
    ∙ ap (λ x. with_module x (needs_of a.one.module) (load_of a.one).at) t
    ∙ sym (taken_more opening_blocks (loads old.placed.items) (load_of a.one))
    ∙ ap (taken_by opening_blocks) (sym (loads_new files dir r old new a))

pub linkable_at : (files : Option Files) (dir : List ℕ) (r : Row) (old new : Modules) → All (λ p. IsLinkable p.module) old.placed.items → Adds files dir r old new → All (λ p. IsLinkable p.module) new.placed.items
linkable_at files dir r old new h a =
    let P : Placed → Type 0 = λ p. IsLinkable p.module in
    subst (λ (ps : List Placed). All P ps) (sym a.placed) (All-append P old.placed.items (a.one ∷ []) h (All-cons P a.one [] a.linkable (All-nil P)))

pub count_at : (files : Option Files) (dir : List ℕ) (r : Row) (old new : Modules) (i : ℕ) → length old.placed.items ≡ i → Adds files dir r old new → length new.placed.items ≡ i + 1
count_at files dir r old new i e a = omega (arith, e, ap length a.placed, length-append old.placed.items (a.one ∷ []))

-- ---- the list
text_more : (files : Option Files) (dir : List ℕ) (old mid new : ℕ) (out more : Option (List ℕ)) (rose : Type 0) (rs : Result (List Row) ℕ) (end : LinkStatus) → old ≤ mid → mid ≤ new
    → LinksText files dir (record { before = mid; after = new }) out more rose rs end → LinksText files dir (record { before = old; after = new }) out more rose rs end
text_more files dir old mid new out more rose (Err n) end a b h = h
text_more files dir old mid new out more rose (Ok rs) end a b (inl (h, same)) = inl (no_modules_more files dir rs old mid new end a b h, same)
text_more files dir old mid new out more rose (Ok rs) end a b (inr h) = inr h

pub list_ends : (files later : Option Files) (list dir text given : List ℕ) (old mid new : ℕ) (out more : Option (List ℕ)) (rose : Type 0) (end : LinkStatus) → later ≡ files → given ≡ text
    → HasBytes longest_text_file files list text → old ≤ mid → mid ≤ new → LinksText later dir (record { before = mid; after = new }) out more rose (rows_of given) end
    → LinksList files list dir (record { before = old; after = new }) out more rose end
list_ends files later list dir text given old mid new out more rose end f g has a b h =
    inr (
      text,
      has,
      text_more files dir old mid new out more rose (rows_of text) end a b
          (subst (λ x. LinksText x dir (record { before = mid; after = new }) out more rose (rows_of text) end) f
          (subst (λ x. LinksText later dir (record { before = mid; after = new }) out more rose (rows_of x) end) g h)),
    )
