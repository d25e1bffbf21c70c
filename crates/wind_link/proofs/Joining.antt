-- Modules linked one after the other are the static link.
use Rattle.std.proofs.Common.{◌≡◌, ℕ, suc, ◌+◌, ◌-◌, ◌^◌, ◌≤◌, ◌<◌, List, [], ◌∷◌, ◌++◌, Option, Some, None, Ok, Err, length, map, append_assoc, get_or, take, drop, replicate, drop-cons, refl, sym, ap, ◌∙◌, subst, arith}
use Rattle.std.proofs.Math.Path.{fun_ext}
use Rattle.std.specs.List.{All}
use Rattle.std.proofs.lemmas.List.{append-nil, take_all, length-drop}
use Rattle.std.proofs.lemmas.List.Elements.{All-head, All-tail}
use Rattle.wind_base.specs.Limits.{ram_bytes}
use Rattle.mem_partition.specs.declared.block.Block.{Block}
use Rattle.reloc_link.specs.declared.patching.RelocErr.{RelocErr}
use Rattle.module_image.specs.declared.segments.SegmentKind.{SegmentKind}
use Rattle.module_image.specs.Image.{Images, image_by}
use Rattle.module_image.specs.Link.{Load, export_by, value_else, meaning, link_after, link}
use Rattle.module_image.specs.Linkable.{IsLinkable}
use Rattle.symbol_table.specs.declared.symbol.Symbol.{Symbol}
use Rattle.symbol_table.specs.Newest.{find_global}
use Rattle.elf_read.specs.declared.module.Module.{Module}
use Rattle.elf_read.specs.declared.module.Sym.{Sym}
use Rattle.module_image.specs.declared.making.PrepareErr.{PrepareErr}
use Rattle.module_image.specs.declared.making.PrepareErr.TheVariants as making
use Rattle.module_image.specs.declared.segments.Needs.{Needs}
use Rattle.module_image.specs.declared.segments.Places.{Places}
use Rattle.module_image.specs.Exports.{exports, exports_from}
use Rattle.module_image.specs.Layout.{values}
use Rattle.module_image.specs.Making.{IsMade, IsRefusal as IsMakeRefusal}
use Rattle.module_image.specs.Needs.{needs_of}
use Rattle.module_image.proofs.Made.{bss_by}
use Rattle.module_image.specs.Opening.{opening_blocks}
use Rattle.wind_link.specs.declared.linking.LinkErr.{LinkErr}
use Rattle.wind_link.specs.declared.linking.LinkErr.TheVariants as refusal
use Rattle.wind_link.specs.declared.linking.Placed.{Placed}
use Rattle.wind_link.specs.declared.values.Values.{Values}
use Rattle.wind_link.specs.Flat.{segments_of, segments, highest, flat}
use Rattle.wind_link.specs.Linking.{load_of, opening_symbols, number_of, relocation_or, wrong_relocation, related_or, placed_or, images, linked, static_image, IsRefusal}
use Rattle.wind_link.specs.Placing.{wrong_place, taken_by}
use Rattle.wind_link.specs.Steps.{low_after, high_after, with_all, loads, cut_segments, index_of, refusal_of, TellsPlace}
use Rattle.wind_link.specs.Values.{value_of, entry_of, entry_else, Means, valueless_names}
use Rattle.wind_link.specs.Undefined.{with_exports, undefined_from, undefined}
use Rattle.wind_link.proofs.Exporting.{more, value_after, value_bound}
use Rattle.wind_link.proofs.Unbinding.{names_unbound}
use Rattle.wind_link.proofs.Extents.{AreSized, new_blocks, taken_is, lows, highs, all_between, LoadsInside, loads_inside, all_inside}
use Rattle.wind_link.proofs.Flattening.{flattened}
use Rattle.wind_link.proofs.Placement.{AllLinkable, all_placed, sized, high_within}

-- each name has this value
abbrev Gives : Values → (List ℕ → ℕ) → Type 0
Gives v f = (name : List ℕ) → value_of v name ≡ f name

-- these modules are still to be linked, from module number i on; the undefined names of those before are collected
pub record IsLinking (low n : ℕ) (ps : List Placed) (v : Values) (bytes : List ℕ) (i : ℕ) (names : List (ℕ × List ℕ)) (all : List Load) : Type 0 where
  pub earlier : List Load
  pub means : Gives v (meaning opening_symbols earlier)
  pub tab : List Symbol
  pub entries : Means v tab
  pub told : names ++ undefined_from (i + 1) tab (loads ps) ≡ undefined all
  pub image : with_all low bytes (segments (loads ps) (link_after opening_symbols earlier (loads ps))) ≡ with_all low (replicate n 0) (segments all (images all))
  pub whole : wrong_relocation i (link_after opening_symbols earlier (loads ps)) ≡ wrong_relocation 0 (images all)
  pub inside : LoadsInside low n (loads ps)
  pub size : length bytes ≡ n

pub images_are : (ls : List Load) → images ls ≡ link_after opening_symbols [] ls
unfolding link
images_are ls = refl

pub begins : (low n : ℕ) (ps : List Placed) (v : Values) (bytes : List ℕ) (names : List (ℕ × List ℕ)) → Means v opening_symbols → bytes ≡ replicate n 0 → length bytes ≡ n → names ≡ []
    → LoadsInside low n (loads ps) → IsLinking low n ps v bytes 0 names (loads ps)
begins low n ps v bytes names means zeros size none inside = record {
  earlier = [];
  means = λ q. value_bound v opening_symbols q (means q);
  tab = opening_symbols;
  entries = means;
  told = ap (λ x. x ++ undefined (loads ps)) none;
  image = ap (λ b. with_all low b (segments (loads ps) (link_after opening_symbols [] (loads ps)))) zeros
      ∙ ap (λ is. with_all low (replicate n 0) (segments (loads ps) is)) (sym (images_are (loads ps)));
  whole = ap (wrong_relocation 0) (sym (images_are (loads ps)));
  inside = inside;
  size = size;
}

same_image : (p : Placed) (v : Values) (earlier : List Load) → Gives v (meaning opening_symbols earlier)
    → image_by p.module (value_of v) (load_of p).at ≡ image_by p.module (meaning opening_symbols earlier) (load_of p).at
same_image p v earlier means = ap (λ f. image_by p.module f (load_of p).at) (fun_ext means)

passes : (i : ℕ) (one : Images) (is : List Images) → one.fault ≡ None → wrong_relocation i (one ∷ is) ≡ wrong_relocation (i + 1) is
passes i one is h = ap (λ f. relocation_or i f (wrong_relocation (i + 1) is)) h

pub goes_on : (low n : ℕ) (p : Placed) (ps : List Placed) (v w : Values) (bytes written_bytes : List ℕ) (i : ℕ) (names all_names : List (ℕ × List ℕ)) (all : List Load) → IsLinking low n (p ∷ ps) v bytes i names all
    → written_bytes ≡ with_all low bytes (segments_of (load_of p).at (image_by p.module (value_of v) (load_of p).at))
    → (image_by p.module (value_of v) (load_of p).at).fault ≡ None
    → ((q : List ℕ) → entry_of w q ≡ entry_else (export_by (load_of p) q) (entry_of v q))
    → length written_bytes ≡ length bytes → all_names ≡ names ++ map (λ name. (i + 1, name)) (valueless_names v p.module.symbols)
    → IsLinking low n ps w written_bytes (i + 1) all_names all
goes_on low n p ps v w bytes written_bytes i names all_names all k written fault entries size named =
    let l = load_of p in
    let one = image_by p.module (meaning opening_symbols k.earlier) l.at in
    let same : image_by p.module (value_of v) l.at ≡ one = same_image p v k.earlier k.means in
    let rest = link_after opening_symbols (l ∷ k.earlier) (loads ps) in
    record {
      earlier = l ∷ k.earlier;
      means = λ q. value_after v w (export_by l q) q (entries q) ∙ ap (value_else (export_by l q)) (k.means q);
      tab = with_exports k.tab l;
      entries = λ q. entries q ∙ ap (entry_else (export_by l q)) (k.entries q) ∙ sym (more q k.tab (exports l.body l.mode l.at 0) None);
      told = ap (λ x. x ++ undefined_from (i + 1 + 1) (with_exports k.tab l) (loads ps)) named
          ∙ append_assoc names (map (λ name. (i + 1, name)) (valueless_names v p.module.symbols)) (undefined_from (i + 1 + 1) (with_exports k.tab l) (loads ps))
          ∙ ap (λ x. names ++ (map (λ name. (i + 1, name)) x ++ undefined_from (i + 1 + 1) (with_exports k.tab l) (loads ps))) (names_unbound v k.tab p.module.symbols k.entries)
          ∙ k.told;
      image = ap (λ b. with_all low b (segments (loads ps) rest)) (written ∙ ap (λ (x : Images). with_all low bytes (segments_of l.at x)) same) ∙ k.image;
      whole = sym (passes i one rest (ap (λ (x : Images). x.fault) (sym same) ∙ fault)) ∙ k.whole;
      inside = (k.inside).1;
      size = size ∙ k.size;
    }

pub stops : (low n : ℕ) (p : Placed) (ps : List Placed) (v : Values) (bytes : List ℕ) (i : ℕ) (names : List (ℕ × List ℕ)) (all : List Load) (e : RelocErr) → IsLinking low n (p ∷ ps) v bytes i names all
    → (image_by p.module (value_of v) (load_of p).at).fault ≡ Some e → linked all ≡ Err (refusal.BadReloc i (number_of e) e)
unfolding linked
stops low n p ps v bytes i names all e k fault =
    let l = load_of p in
    let rest = link_after opening_symbols (l ∷ k.earlier) (loads ps) in
    let first : wrong_relocation 0 (images all) ≡ Some (refusal.BadReloc i (number_of e) e) =
    sym k.whole ∙ ap (λ f. relocation_or i f (wrong_relocation (i + 1) rest)) (ap (λ (x : Images). x.fault) (sym (same_image p v k.earlier k.means)) ∙ fault) in
    ap (λ w. related_or w (flat (segments all (images all)))) first

pub ends : (low n : ℕ) (v : Values) (bytes : List ℕ) (i : ℕ) (names : List (ℕ × List ℕ)) (all : List Load) → IsLinking low n [] v bytes i names all
    → with_all low (replicate n 0) (segments all (images all)) ≡ flat (segments all (images all)) → linked all ≡ Ok bytes
unfolding linked
ends low n v bytes i names all k whole =
    ap (λ w. related_or w (flat (segments all (images all)))) (sym k.whole) ∙ ap (λ b. Ok b) (sym (k.image ∙ whole))

-- all undefined names are collected
pub told_all : (low n : ℕ) (v : Values) (bytes : List ℕ) (i : ℕ) (names : List (ℕ × List ℕ)) (all : List Load) → IsLinking low n [] v bytes i names all → names ≡ undefined all
told_all low n v bytes i names all k = sym (append-nil names) ∙ k.told

-- what is known when the modules are rightly placed
pub record AreReady (ps : List Placed) (low n : ℕ) : Type 0 where
  pub inside : LoadsInside low n (loads ps)
  pub flat : with_all low (replicate n 0) (segments (loads ps) (images (loads ps))) ≡ flat (segments (loads ps) (images (loads ps)))
  pub few : n ≤ ram_bytes

pub all_linkable : (ps : List Placed) → All (λ p. IsLinkable p.module) ps → AllLinkable (loads ps)
all_linkable [] h = tt
all_linkable (p ∷ ps) h = (All-head (λ (x : Placed). IsLinkable x.module) p ps h, all_linkable ps (All-tail (λ (x : Placed). IsLinkable x.module) p ps h))

pub ready : (ps : List Placed) (taken rest : List Block) (low high n : ℕ) → All (λ p. IsLinkable p.module) ps → wrong_place 0 opening_blocks (loads ps) ≡ None
    → taken ≡ taken_by opening_blocks (loads ps) → rest ≡ drop 2 taken → low ≡ low_after (2 ^ 32) rest → high ≡ high_after 0 rest → n ≡ high - low → AreReady ps low n
ready ps taken rest low high n k p t r l h e =
    let ls = loads ps in
    let placed = all_placed 0 opening_blocks ls p in
    let new : rest ≡ new_blocks ls = r ∙ ap (drop 2) (t ∙ taken_is opening_blocks ls) in
    let low_is : low ≡ low_after (2 ^ 32) (new_blocks ls) = l ∙ ap (low_after (2 ^ 32)) new in
    let high_is : high ≡ high_after 0 (new_blocks ls) = h ∙ ap (high_after 0) new in
    let n_is : n ≡ high_after 0 (new_blocks ls) - low_after (2 ^ 32) (new_blocks ls) = e ∙ (ap (λ x. x - low) high_is ∙ ap (λ x. high_after 0 (new_blocks ls) - x) low_is) in
    let all = sized opening_symbols [] opening_blocks ls (all_linkable ps k) placed in
    let sizes : AreSized ls (images ls) = subst (AreSized ls) (sym (images_are ls)) all in
    let inside0 = loads_inside (low_after (2 ^ 32) (new_blocks ls)) (high_after 0 (new_blocks ls)) ls (all_between (2 ^ 32) 0 (new_blocks ls)) in
    let inside : LoadsInside low n ls = subst (λ x. LoadsInside x n ls) (sym low_is) (subst (λ x. LoadsInside (low_after (2 ^ 32) (new_blocks ls)) x ls) (sym n_is) inside0) in
    let lowest_is = low_is ∙ lows ls (images ls) (2 ^ 32) sizes in
    let highest_is = high_is ∙ highs ls (images ls) 0 sizes in
    let within = high_within 0 opening_blocks ls (omega arith) placed in
    record {
      inside = inside;
      flat = flattened low n (segments ls (images ls)) lowest_is (e ∙ (ap (λ x. x - low) highest_is ∙ ap (λ x. highest (segments ls (images ls)) - x) lowest_is)) (all_inside low n ls (images ls) sizes inside);
      few = omega (arith, n_is, within);
    }

-- ---- a refused place comes before all
pub place_refused : (ls : List Load) (n : ℕ) (kind : SegmentKind) → wrong_place 0 opening_blocks ls ≡ Some (n, kind) → static_image ls ≡ Err (refusal.BadPlace n kind)
unfolding static_image
place_refused ls n kind h = ap (λ w. placed_or w (linked ls)) h

pub rightly_placed : (ls : List Load) → wrong_place 0 opening_blocks ls ≡ None → static_image ls ≡ linked ls
unfolding static_image
rightly_placed ls h = ap (λ w. placed_or w (linked ls)) h

-- ---- from what the calls gave
pub two_blocks : (taken : List Block) (ls : List Load) → taken ≡ taken_by opening_blocks ls → 2 ≤ length taken
two_blocks taken ls t = let size = ap length (t ∙ taken_is opening_blocks ls) in omega (arith, size)

pub rest_is : (taken : List Block) → take (length taken - 2) (drop 2 taken) ≡ drop 2 taken
rest_is taken = take_all (length taken - 2) (drop 2 taken) (omega (arith, length-drop 2 taken))

pub cut_at : (list : List Placed) (i : ℕ) (p : Placed) → i < length list → p ≡ get_or list i p → drop i list ≡ p ∷ drop (i + 1) list
cut_at list i p h is =
    let step : suc i ≡ i + 1 = omega arith in
    drop-cons list i p h ∙ ap (λ x. x ∷ drop (suc i) list) (sym is) ∙ ap (λ k. p ∷ drop k list) step

pub refused_by : (all : List Load) (i : ℕ) (fault : Option RelocErr) (e : PrepareErr) → ((r : RelocErr) → fault ≡ Some r → linked all ≡ Err (refusal.BadReloc i (number_of r) r))
    → IsMakeRefusal fault e → IsRefusal (linked all) (refusal_of i e)
refused_by all i fault (making.Reloc r) stop h = stop r h
refused_by all i fault making.NoMemory stop h = tt

pub index_within : (i n : ℕ) (e : PrepareErr) → i < n → index_of (refusal_of i e) ≤ n
index_within i n (making.Reloc r) h = omega (arith, h)
index_within i n making.NoMemory h = omega arith

pub told_is : (l : Load) (ys : List Sym) (vs : List (Option ℕ)) (q : List ℕ) (n : Option ℕ) → ys ≡ l.body.symbols → vs ≡ values l.body l.at
    → entry_else (find_global (exports_from l.body.sections l.mode 0 ys vs) q) n ≡ entry_else (export_by l q) n
unfolding exports
told_is l ys vs q n y v =
    ap (λ x. entry_else (find_global (exports_from l.body.sections l.mode 0 x vs) q) n) y
    ∙ ap (λ x. entry_else (find_global (exports_from l.body.sections l.mode 0 l.body.symbols x) q) n) v

cut_made : (m : Module) (i : Images) (at : Places) (bytes : List ℕ) → IsMade i (needs_of m) bytes → i.bss ≡ replicate (needs_of m).bss.size 0
    → cut_segments (needs_of m) at bytes ≡ segments_of at i
cut_made m i at bytes made bss =
    let z = needs_of m in
    ap (λ (x : List ℕ). (at.text, x) ∷ (at.«data», drop z.text.size bytes) ∷ (at.bss, replicate z.bss.size 0) ∷ []) (sym made.text)
    ∙ ap (λ (x : List ℕ). (at.text, i.text) ∷ (at.«data», x) ∷ (at.bss, replicate z.bss.size 0) ∷ []) (sym made.«data»)
    ∙ ap (λ (x : List ℕ). (at.text, i.text) ∷ (at.«data», i.«data») ∷ (at.bss, x) ∷ []) (sym bss)

pub cut_is : (m : Module) (f : List ℕ → ℕ) (z : Needs) (at : Places) (bytes : List ℕ) → z ≡ needs_of m → IsMade (image_by m f at) (needs_of m) bytes
    → cut_segments z at bytes ≡ segments_of at (image_by m f at)
cut_is m f z at bytes e made = ap (λ x. cut_segments x at bytes) e ∙ cut_made m (image_by m f at) at bytes made (bss_by m f at)

pub place_told : (ls : List Load) (e : LinkErr) → TellsPlace (wrong_place 0 opening_blocks ls) e → IsRefusal (static_image ls) e
place_told ls (refusal.BadPlace n kind) h = place_refused ls n kind h
place_told ls (refusal.BadReloc n k e) h = absurd h
place_told ls refusal.NoMemory h = tt

pub link_told : (ls : List Load) (e : LinkErr) → wrong_place 0 opening_blocks ls ≡ None → IsRefusal (linked ls) e → IsRefusal (static_image ls) e
link_told ls e p h = subst (λ x. IsRefusal x e) (sym (rightly_placed ls p)) h
