-- The requests of a call.
use Rattle.std.proofs.Common.{◌≡◌, ℕ, suc, ◌+◌, ◌<◌, inl, inr, List, [], ◌∷◌, ◌++◌, Option, Some, None, Result, Ok, Err, length, map, get_or, take, drop, drop-cons, refl, sym, ap, ◌∙◌, subst, append_assoc, arith}
use Rattle.std.proofs.lemmas.List.{append-nil, length-map, length-take, take-append-drop}
use Rattle.mem_partition.specs.declared.block.Block.{Block}
use Rattle.wind_base.specs.Limits.{longest_module_file}
use Rattle.wind_outside.specs.Files.{Files}
use Rattle.wind_outside.specs.Requests.{GrowsBy, Request}
use Rattle.wind_outside.specs.declared.folder.FetchOutcome.{FetchOutcome}
use Rattle.wind_outside.specs.declared.folder.FetchOutcome.TheVariants as outcomes
use Rattle.elf_read.specs.Contents.{ModuleOf}
use Rattle.elf_read.specs.declared.module.Module.{Module}
use Rattle.module_image.specs.declared.segments.Needs.{Needs}
use Rattle.module_image.specs.declared.segments.Places.{Places}
use Rattle.module_image.specs.Link.{Load}
use Rattle.module_image.specs.Needs.{needs_of}
use Rattle.wind_link.specs.declared.list.Row.{Row as CodeRow}
use Rattle.wind_link.specs.declared.status.LinkStatus.{LinkStatus}
use Rattle.wind_link.specs.declared.status.LinkStatus.TheVariants as status
use Rattle.wind_link.specs.Adding.{RefusesBytes, TellsObject}
use Rattle.wind_link.specs.Command.{Faults, HasBytes, IsMisplaced, Links, NoModule, RefusesFile, Unread, path_of}
use Rattle.wind_link.specs.Fetches.{FetchesRows, FetchesText, IsRefusedModule, LastFetch, RowEnds, StopsAt, Unfound, found_modules, module_request}
use Rattle.wind_link.specs.Lists.{Row}
use Rattle.wind_link.specs.Placing.{wrong_segment}
use Rattle.wind_link.specs.Rows.{row}
use Rattle.wind_link.proofs.Rowing.{map-append, taken_row}

-- ---- logs
grows_both : (old mid new : Option (List Request)) (a b : List Request) → GrowsBy old mid a → GrowsBy mid new b → GrowsBy old new (a ++ b)
grows_both old mid None a b p q = tt
grows_both old None (Some z) a b p q = absurd q
grows_both None (Some y) (Some z) a b p q = absurd p
grows_both (Some x) (Some y) (Some z) a b p q = q ∙ ap (λ xs. xs ++ b) p ∙ append_assoc x a b

grows_none : (old : Option (List Request)) → GrowsBy old old []
grows_none None = tt
grows_none (Some x) = sym (append-nil x)

pub grows_same : (old new : Option (List Request)) → new ≡ old → GrowsBy old new []
grows_same old new same = subst (λ now. GrowsBy old now []) (sym same) (grows_none old)

grows_as : (old new : Option (List Request)) (a b : List Request) → a ≡ b → GrowsBy old new a → GrowsBy old new b
grows_as old new a b e g = subst (GrowsBy old new) e g

-- ---- one file
pub unread_module : (files : Option Files) (name : List ℕ) (n : ℕ) (f : Faults) (s : LinkStatus) → Unread longest_module_file files name n f s → NoModule files name n f s
unread_module files name n f (status.BadObject line error) h = absurd h
unread_module files name n f status.Done h = h
unread_module files name n f status.Usage h = h
unread_module files name n f (status.Absent line) h = h
unread_module files name n f status.ReadFault h = h
unread_module files name n f status.WriteFault h = h
unread_module files name n f status.NoMemory h = h
unread_module files name n f (status.BadList line) h = h
unread_module files name n f (status.TooLong line) h = h
unread_module files name n f (status.BadReloc line number error) h = h
unread_module files name n f (status.BadPlace line kind) h = h

pub object_refused : (bytes : List ℕ) (taken : List Block) (n : ℕ) (at : Places) (s : LinkStatus) → TellsObject n bytes s → RefusesBytes bytes taken n at s
object_refused bytes taken n at (status.BadObject line error) h = h
object_refused bytes taken n at status.NoMemory h = tt
object_refused bytes taken n at status.Done h = absurd h
object_refused bytes taken n at status.Usage h = absurd h
object_refused bytes taken n at (status.Absent line) h = absurd h
object_refused bytes taken n at status.ReadFault h = absurd h
object_refused bytes taken n at status.WriteFault h = absurd h
object_refused bytes taken n at (status.BadList line) h = absurd h
object_refused bytes taken n at (status.TooLong line) h = absurd h
object_refused bytes taken n at (status.BadReloc line number error) h = absurd h
object_refused bytes taken n at (status.BadPlace line kind) h = absurd h

pub place_refused : (bytes : List ℕ) (taken : List Block) (n : ℕ) (at : Places) (z : Needs) (m : Module) (s : LinkStatus) → z ≡ needs_of m → ModuleOf bytes m
    → IsMisplaced (wrong_segment taken z at) n s → RefusesBytes bytes taken n at s
place_refused bytes taken n at z m (status.BadPlace line kind) e is h = (h.0, (m, is, ap (λ x. wrong_segment taken x at) (sym e) ∙ h.1))
place_refused bytes taken n at z m status.NoMemory e is h = tt
place_refused bytes taken n at z m status.Done e is h = absurd h
place_refused bytes taken n at z m status.Usage e is h = absurd h
place_refused bytes taken n at z m (status.Absent line) e is h = absurd h
place_refused bytes taken n at z m status.ReadFault e is h = absurd h
place_refused bytes taken n at z m status.WriteFault e is h = absurd h
place_refused bytes taken n at z m (status.BadList line) e is h = absurd h
place_refused bytes taken n at z m (status.TooLong line) e is h = absurd h
place_refused bytes taken n at z m (status.BadObject line error) e is h = absurd h
place_refused bytes taken n at z m (status.BadReloc line number error) e is h = absurd h

pub bytes_refused : (files : Option Files) (path bytes : List ℕ) (taken : List Block) (n : ℕ) (at : Places) (f : Faults) (s : LinkStatus) → HasBytes longest_module_file files path bytes
    → RefusesBytes bytes taken n at s → RefusesFile files path taken n at f s
bytes_refused files path bytes taken n at f (status.BadObject line error) has h = inl (h.0, (bytes, has, h.1))
bytes_refused files path bytes taken n at f (status.BadPlace line kind) has h = inr (h.1.0, (bytes, has, h.1.1), (h.0, h.1.2))
bytes_refused files path bytes taken n at f status.NoMemory has h = inl tt
bytes_refused files path bytes taken n at f status.Done has h = absurd h
bytes_refused files path bytes taken n at f status.Usage has h = absurd h
bytes_refused files path bytes taken n at f (status.Absent line) has h = absurd h
bytes_refused files path bytes taken n at f status.ReadFault has h = absurd h
bytes_refused files path bytes taken n at f status.WriteFault has h = absurd h
bytes_refused files path bytes taken n at f (status.BadList line) has h = absurd h
bytes_refused files path bytes taken n at f (status.TooLong line) has h = absurd h
bytes_refused files path bytes taken n at f (status.BadReloc line number error) has h = absurd h

pub refused_module : (bytes : List ℕ) (taken : List Block) (n : ℕ) (at : Places) (s : LinkStatus) → RefusesBytes bytes taken n at s → IsRefusedModule n s
refused_module bytes taken n at (status.BadObject line error) h = h.0
refused_module bytes taken n at (status.BadPlace line kind) h = h.0
refused_module bytes taken n at status.NoMemory h = tt
refused_module bytes taken n at status.Done h = absurd h
refused_module bytes taken n at status.Usage h = absurd h
refused_module bytes taken n at (status.Absent line) h = absurd h
refused_module bytes taken n at status.ReadFault h = absurd h
refused_module bytes taken n at status.WriteFault h = absurd h
refused_module bytes taken n at (status.BadList line) h = absurd h
refused_module bytes taken n at (status.TooLong line) h = absurd h
refused_module bytes taken n at (status.BadReloc line number error) h = absurd h

-- ---- where rows stop
refused_stops : (n : ℕ) (rest : List Row) (s : LinkStatus) → IsRefusedModule n s → StopsAt n rest s
refused_stops n rest (status.BadObject line error) h = h
refused_stops n rest (status.BadPlace line kind) h = h
refused_stops n rest status.NoMemory h = tt
refused_stops n rest status.Done h = absurd h
refused_stops n rest status.Usage h = absurd h
refused_stops n rest (status.Absent line) h = absurd h
refused_stops n rest status.ReadFault h = absurd h
refused_stops n rest status.WriteFault h = absurd h
refused_stops n rest (status.BadList line) h = absurd h
refused_stops n rest (status.TooLong line) h = absurd h
refused_stops n rest (status.BadReloc line number error) h = absurd h

no_last : (dir : List ℕ) (n : ℕ) (rest : List Row) (s : LinkStatus) → StopsAt n rest s → LastFetch dir n rest s []
no_last dir n [] s h = (refl, h)
no_last dir n (r ∷ rest) s h = inl (refl, h)

links_stop : (n : ℕ) (old new : Option (List ℕ)) (rose : Type 0) (ls : List Load) (s : LinkStatus) → Links old new rose ls s → StopsAt n [] s
links_stop n old new rose ls status.Done h = refl
links_stop n old new rose ls status.WriteFault h = refl
links_stop n old new rose ls (status.BadReloc line number error) h = refl
links_stop n old new rose ls status.NoMemory h = tt
links_stop n old new rose ls status.Usage h = absurd h
links_stop n old new rose ls (status.Absent line) h = absurd h
links_stop n old new rose ls status.ReadFault h = absurd h
links_stop n old new rose ls (status.BadList line) h = absurd h
links_stop n old new rose ls (status.TooLong line) h = absurd h
links_stop n old new rose ls (status.BadObject line error) h = absurd h
links_stop n old new rose ls (status.BadPlace line kind) h = absurd h

-- the rows are found up to some, and no more is fetched
stops_after : (dir : List ℕ) (rows found rest : List Row) (s : LinkStatus) (old new : Option (List Request)) → rows ≡ found ++ rest → GrowsBy old new (found_modules dir found)
    → StopsAt (length found) rest s → FetchesRows dir rows s old new
stops_after dir rows found rest s old new are g stops = record {
  found = found;
  rest = rest;
  last = [];
  are = are;
  requests = grows_as old new (found_modules dir found) (found_modules dir found ++ []) (sym (append-nil (found_modules dir found))) g;
  ends = no_last dir (length found) rest s stops;
}

-- the rows are found up to one that isn't
misses_next : (dir : List ℕ) (rows found : List Row) (r : Row) (rest : List Row) (outcome : FetchOutcome) (s : LinkStatus) (old mid new : Option (List Request)) → rows ≡ found ++ r ∷ rest
    → GrowsBy old mid (found_modules dir found) → Unfound (length found + 1) outcome s → GrowsBy mid new (module_request (path_of dir r.name) outcome ∷ []) → FetchesRows dir rows s old new
misses_next dir rows found r rest outcome s old mid new are g unfound more = record {
  found = found;
  rest = r ∷ rest;
  last = module_request (path_of dir r.name) outcome ∷ [];
  are = are;
  requests = grows_both old mid new (found_modules dir found) (module_request (path_of dir r.name) outcome ∷ []) g more;
  ends = inr (outcome, refl, unfound);
}

-- all rows are found
pub all_found : (dir : List ℕ) (rows : List Row) (old new : Option (List Request)) (out more : Option (List ℕ)) (rose : Type 0) (ls : List Load) (s : LinkStatus) → GrowsBy old new (found_modules dir rows)
    → Links out more rose ls s → FetchesRows dir rows s old new
all_found dir rows old new out more rose ls s g h = stops_after dir rows rows [] s old new (sym (append-nil rows)) g (links_stop (length rows) out more rose ls s h)

-- memory runs out before any row
pub none_found : (dir : List ℕ) (rows : List Row) (old : Option (List Request)) → FetchesRows dir rows status.NoMemory old old
none_found dir rows old = stops_after dir rows [] rows status.NoMemory old old refl (grows_none old) tt

-- ---- the row with number i
module _ (dir : List ℕ) (rs : List CodeRow) (i : ℕ) (d : CodeRow) (lt : i < length rs) where
  pub found_one : found_modules dir (map row (take (i + 1) rs)) ≡ found_modules dir (map row (take i rs)) ++ module_request (path_of dir (row (get_or rs i d)).name) outcomes.Found ∷ []
  found_one =
      let step : suc i ≡ i + 1 = omega arith in
      ap (λ k. found_modules dir (map row (take k rs))) (sym step)
      ∙ ap (found_modules dir) (taken_row row rs i d lt)
      ∙ map-append (λ (r : Row). module_request (path_of dir r.name) outcomes.Found) (map row (take i rs)) (row (get_or rs i d) ∷ [])

  pub found_more : (old mid new : Option (List Request)) → GrowsBy old mid (found_modules dir (map row (take i rs)))
      → GrowsBy mid new (module_request (path_of dir (row (get_or rs i d)).name) outcomes.Found ∷ []) → GrowsBy old new (found_modules dir (map row (take (i + 1) rs)))
  found_more old mid new g more =
      grows_as old new (found_modules dir (map row (take i rs)) ++ module_request (path_of dir (row (get_or rs i d)).name) outcomes.Found ∷ []) (found_modules dir (map row (take (i + 1) rs))) (sym found_one)
      (grows_both old mid new (found_modules dir (map row (take i rs))) (module_request (path_of dir (row (get_or rs i d)).name) outcomes.Found ∷ []) g more)

  split : map row rs ≡ map row (take i rs) ++ row (get_or rs i d) ∷ map row (drop (suc i) rs)
  split =
      ap (map row) (sym (take-append-drop i rs) ∙ ap (λ x. take i rs ++ x) (drop-cons rs i d lt))
      ∙ map-append row (take i rs) (get_or rs i d ∷ drop (suc i) rs)

  size : length (map row (take i rs)) ≡ i
  size = omega (arith, length-map (take i rs) row, length-take i rs, lt)

  pub row_ends : (n : ℕ) (s : LinkStatus) (old mid new : Option (List Request)) → n ≡ i + 1 → GrowsBy old mid (found_modules dir (map row (take i rs)))
      → RowEnds dir n (row (get_or rs i d)) s mid new → FetchesRows dir (map row rs) s old new
  row_ends n s old mid new e g (inl (memory, same)) =
      stops_after dir (map row rs) (map row (take i rs)) (row (get_or rs i d) ∷ map row (drop (suc i) rs)) s old new split
      (subst (λ now. GrowsBy old now (found_modules dir (map row (take i rs)))) (sym same) g)
      (subst (λ x. StopsAt (length (map row (take i rs))) (row (get_or rs i d) ∷ map row (drop (suc i) rs)) x) (sym memory) tt)
  row_ends n s old mid new e g (inr (inl (refused, more))) =
      let one : map row (take (i + 1) rs) ≡ map row (take i rs) ++ row (get_or rs i d) ∷ [] =
      (let step : suc i ≡ i + 1 = omega arith in ap (λ k. map row (take k rs)) (sym step) ∙ taken_row row rs i d lt) in
      let long : length (map row (take (i + 1) rs)) ≡ n = omega (arith, e, length-map (take (i + 1) rs) row, length-take (i + 1) rs, lt) in
      stops_after dir (map row rs) (map row (take (i + 1) rs)) (map row (drop (suc i) rs)) s old new
      (split ∙ sym (append_assoc (map row (take i rs)) (row (get_or rs i d) ∷ []) (map row (drop (suc i) rs))) ∙ ap (λ x. x ++ map row (drop (suc i) rs)) (sym one))
      (found_more old mid new g more)
      (subst (λ k. StopsAt k (map row (drop (suc i) rs)) s) (sym long) (refused_stops n (map row (drop (suc i) rs)) s refused))
  row_ends n s old mid new e g (inr (inr (outcome, unfound, more))) =
      misses_next dir (map row rs) (map row (take i rs)) (row (get_or rs i d)) (map row (drop (suc i) rs)) outcome s old mid new split g
      (subst (λ k. Unfound k outcome s) (e ∙ ap (λ k. k + 1) (sym size)) unfound) more

-- ---- the text
pub no_text : (dir : List ℕ) (rows : Result (List Row) ℕ) (old : Option (List Request)) → FetchesText dir rows status.NoMemory old old
no_text dir (Ok rows) old = none_found dir rows old
no_text dir (Err n) old = grows_none old

pub bad_text : (dir : List ℕ) (rows : Result (List Row) ℕ) (n : ℕ) (s : LinkStatus) (old : Option (List Request)) → rows ≡ Err n → FetchesText dir rows s old old
bad_text dir rows n s old e = subst (λ x. FetchesText dir x s old old) (sym e) (grows_none old)
