-- The sections' places are inside the laid bytes.
use Rattle.std.proofs.Common.{◌≡◌, ℕ, zero, suc, ◌+◌, ◌-◌, ◌^◌, ◌<◌, ◌≤◌, true, false, cond, List, [], ◌∷◌, ◌++◌, length, map, get_or, replicate, refl, sym, ap, ◌∙◌, subst, arith, None, take, drop}
use Rattle.std.specs.List.{All}
use Rattle.std.proofs.lemmas.List.{length-append, length-replicate, length-map, get_or-map, places, take_at}
use Rattle.std.proofs.Math.Nat.{mod-eq_of_lt}
use Rattle.reloc_link.proofs.Writing.{length-patched}
use Rattle.reloc_link.specs.Patched.{LiesWithin, Patched, patched}
use Rattle.elf_read.specs.declared.module.Body.{Body}
use Rattle.elf_read.specs.declared.module.Body.TheVariants as body
use Rattle.module_image.specs.declared.segments.Ends.{Ends}
use Rattle.elf_read.specs.declared.module.Module.{Module}
use Rattle.module_image.specs.declared.segments.Places.{Places}
use Rattle.elf_read.specs.declared.module.Rel.{Rel}
use Rattle.elf_read.specs.declared.module.Sect.{Sect}
use Rattle.module_image.specs.declared.segments.SegmentKind.{SegmentKind}
use Rattle.module_image.specs.declared.segments.SegmentKind.TheVariants.{Text, Data, Bss}
use Rattle.elf_read.specs.declared.module.Sym.{Sym}
use Rattle.mem_partition.specs.Place.{aligned}
use Rattle.mem_partition.proofs.Places.{aligned_above}
use Rattle.elf_read.specs.Modules.{IsRel, size_of}
use Rattle.module_image.specs.Linkable.{IsLinkable}
use Rattle.module_image.specs.Layout.{segment_of, place_of, end_in, with_end, after_section, offset_in, addresses_from, addresses, ends_from, ends_of, no_ends, after_symbol, values_from, IsSectRoom}
use Rattle.module_image.specs.Needs.{same_segment}
use Rattle.module_image.specs.Image.{body_bytes, padded, laid, joined, binding_of, patched_of}
use Rattle.module_image.specs.Making.{IsPatched}
use Rattle.module_image.proofs.Known.{HasBytes, has_bytes, within_body}
use Rattle.module_image.proofs.Agreement.{widths}

pub same_refl : (g : SegmentKind) → same_segment g g ≡ true
same_refl Text = refl
same_refl Data = refl
same_refl Bss = refl

-- the ends after a section, by segment
end_by : (e : Ends) (h g : SegmentKind) (align size : ℕ) → end_in (with_end e h (aligned (end_in e h) align + size)) g ≡ cond (same_segment g h) (aligned (end_in e g) align + size) (end_in e g)
end_by e Text Text align size = refl
end_by e Text Data align size = refl
end_by e Text Bss align size = refl
end_by e Data Text align size = refl
end_by e Data Data align size = refl
end_by e Data Bss align size = refl
end_by e Bss Text align size = refl
end_by e Bss Data align size = refl
end_by e Bss Bss align size = refl

pub end_after : (e : Ends) (s : Sect) (g : SegmentKind) → end_in (after_section e s) g ≡ cond (same_segment g (segment_of s)) (aligned (end_in e g) s.align + size_of s.body) (end_in e g)
end_after e s g = end_by e (segment_of s) g s.align (size_of s.body)

pub small_tail : (s : Sect) (ss : List Sect) → All IsSectRoom (s ∷ ss) → All IsSectRoom ss
small_tail s ss all k d h = all (suc k) d (omega arith)

pub small_head : (s : Sect) (ss : List Sect) → All IsSectRoom (s ∷ ss) → IsSectRoom s
small_head s ss all = all 0 s (omega arith)

-- no segment shrinks
pub grows : (e : Ends) (ss : List Sect) (g : SegmentKind) → All IsSectRoom ss → end_in e g ≤ end_in (ends_from e ss) g
grows e [] g all = omega arith
grows e (s ∷ ss) g all =
    let up = aligned_above (end_in e g) s.align ((small_head s ss all).least) in
    let rest = grows (after_section e s) ss g (small_tail s ss all) in
    elim (same_segment g (segment_of s)) as (λ b. end_in (after_section e s) g ≡ cond b (aligned (end_in e g) s.align + size_of s.body) (end_in e g) → end_in e g ≤ end_in (ends_from (after_section e s) ss) g) [
      | true ↦ λ q. omega arith
      | false ↦ λ q. omega arith
    ] (end_after e s g)

pub length-body : (b : Body) → length (body_bytes b) ≡ size_of b
length-body (body.Bytes xs) = refl
length-body (body.Size n) = length-replicate n 0

pub length-padded : (from : ℕ) (s : Sect) → 1 ≤ s.align → length (padded from s) + from ≡ aligned from s.align + size_of s.body
length-padded from s h =
    let up = aligned_above from s.align h in
    let one : length (padded from s) ≡ length (replicate {A = ℕ} (aligned from s.align - from) 0) + length (body_bytes s.body) = length-append (replicate {A = ℕ} (aligned from s.align - from) 0) (body_bytes s.body) in
    let two : length (replicate {A = ℕ} (aligned from s.align - from) 0) ≡ aligned from s.align - from = length-replicate (aligned from s.align - from) 0 in
    let three : length (body_bytes s.body) ≡ size_of s.body = length-body s.body in
    omega arith

-- the bytes of a segment reach to its end
pub length-laid : (e : Ends) (ss : List Sect) (g : SegmentKind) → All IsSectRoom ss → length (laid g (end_in e g) ss) + end_in e g ≡ end_in (ends_from e ss) g
length-laid e [] g all = omega arith
length-laid e (s ∷ ss) g all =
    let rest = length-laid (after_section e s) ss g (small_tail s ss all) in
    elim (same_segment g (segment_of s)) as (λ b. end_in (after_section e s) g ≡ cond b (aligned (end_in e g) s.align + size_of s.body) (end_in e g)
    → length (cond b (padded (end_in e g) s ++ laid g (aligned (end_in e g) s.align + size_of s.body) ss) (laid g (end_in e g) ss)) + end_in e g ≡ end_in (ends_from (after_section e s) ss) g) [
      | true ↦ λ q.
          let there = subst (λ n. length (laid g n ss) + n ≡ end_in (ends_from (after_section e s) ss) g) q rest in
          let pad = length-padded (end_in e g) s ((small_head s ss all).least) in
          let joined = length-append (padded (end_in e g) s) (laid g (aligned (end_in e g) s.align + size_of s.body) ss) in
          omega arith
      | false ↦ λ q. subst (λ n. length (laid g n ss) + n ≡ end_in (ends_from (after_section e s) ss) g) q rest
    ] (end_after e s g)

-- the address of a section, and that it is before the end of its segment
pub record IsAt (place size end at : ℕ) : Type 0 where
  pub offset : ℕ
  pub is : at ≡ place + offset
  pub within : offset + size ≤ end

pub address_at : (at : Places) (e : Ends) (ss : List Sect) (k : ℕ) (d : Sect) → All IsSectRoom ss → k < length ss
    → IsAt (place_of at (segment_of (get_or ss k d))) (size_of (get_or ss k d).body) (end_in (ends_from e ss) (segment_of (get_or ss k d))) (get_or (addresses_from at e ss) k 0)
address_at at e [] k d all h = absurd (omega arith)
address_at at e (s ∷ ss) zero d all h = record {
  offset = offset_in e s;
  is = refl;
  within = (
      let same : end_in (after_section e s) (segment_of s) ≡ offset_in e s + size_of s.body =
      end_after e s (segment_of s) ∙ ap (λ b. cond b (aligned (end_in e (segment_of s)) s.align + size_of s.body) (end_in e (segment_of s))) (same_refl (segment_of s)) in
      let up = grows (after_section e s) ss (segment_of s) (small_tail s ss all) in
      omega arith);
}
address_at at e (s ∷ ss) (suc k) d all h = address_at at (after_section e s) ss k d (small_tail s ss all) (omega arith)

pub length_addresses : (at : Places) (e : Ends) (ss : List Sect) → length (addresses_from at e ss) ≡ length ss
length_addresses at e [] = refl
length_addresses at e (s ∷ ss) = ap suc (length_addresses at (after_section e s) ss)

pub length_values : (places : List ℕ) (at : Places) (ys : List Sym) (end : ℕ) → length (values_from places at end ys) ≡ length ys
length_values places at [] end = refl
length_values places at (y ∷ ys) end = ap suc (length_values places at ys (after_symbol end y y.place))

-- in the flat bytes
flat_end : (e : Ends) (g : SegmentKind) (o size : ℕ) → HasBytes g → o + size ≤ end_in e g → place_of (joined e) g + o + size ≤ e.text + e.«data»
flat_end e Text o size h k = omega arith
flat_end e Data o size h k = omega arith
flat_end e Bss o size h k = absurd h

abbrev no_sect : Sect
no_sect = record { name = []; flags = 0; align = 1; body = body.Size 0 }

pub reloc_lies : (m : Module) (own means : List ℕ) (r : Rel) → IsLinkable m → IsRel m.sections m.symbols r → (ends_of m).text + (ends_of m).«data» < 2 ^ 32
    → LiesWithin ((ends_of m).text + (ends_of m).«data») (binding_of (addresses_from (joined (ends_of m)) no_ends m.sections) own means r)
reloc_lies m own means r k one total =
    let s = get_or m.sections r.section no_sect in
    let there = address_at (joined (ends_of m)) no_ends m.sections r.section no_sect k.sections one.section in
    let inside = one.inside no_sect in
    let low = flat_end (ends_of m) (segment_of s) there.offset (size_of s.body) (has_bytes s.body s.flags _ inside) there.within in
    let within = within_body s.body _ inside in
    let wide = widths r.kind in
    let is = there.is in
    let small : get_or (addresses_from (joined (ends_of m)) no_ends m.sections) r.section 0 + r.offset < 2 ^ 32 = omega arith in
    let same = mod-eq_of_lt small in
    omega arith

-- all that relocation needs
pub record AreReady (at_flat at_own at_means : List ℕ) (size : ℕ) (relocs : List Rel) : Type 0 where
  pub in_flat : All (λ r. r.section < length at_flat) relocs
  pub own : All (λ r. r.section < length at_own) relocs
  pub means : All (λ r. r.symbol < length at_means) relocs
  pub lies : All (LiesWithin size) (map (binding_of at_flat at_own at_means) relocs)
  pub few : length relocs ≤ 2 ^ 32

no_rel : Rel
no_rel = record { section = 0; offset = 0; kind = 0; symbol = 0; addend = 0 }

pub ready_at : (m : Module) (own means : List ℕ) → IsLinkable m → (ends_of m).text + (ends_of m).«data» < 2 ^ 32 → length own ≡ length m.sections → length means ≡ length m.symbols + 1
    → AreReady (addresses_from (joined (ends_of m)) no_ends m.sections) own means ((ends_of m).text + (ends_of m).«data») m.relocs
ready_at m own means k total two count =
    let one = length_addresses (joined (ends_of m)) no_ends m.sections in
    record {
      in_flat = λ i d h. (let there = (k.relocs i d h).section in omega arith);
      own = λ i d h. (let there = (k.relocs i d h).section in omega arith);
      means = λ i d h. (let there = (k.relocs i d h).symbol in omega arith);
      lies = λ i d h.
          (let n : i < length m.relocs = omega (arith, length-map m.relocs (binding_of (addresses_from (joined (ends_of m)) no_ends m.sections) own means)) in
          subst (λ b. LiesWithin ((ends_of m).text + (ends_of m).«data») b)
          (sym (get_or-map (binding_of (addresses_from (joined (ends_of m)) no_ends m.sections) own means) m.relocs i no_rel d n))
          (reloc_lies m own means (get_or m.relocs i no_rel) k (k.relocs i no_rel n) total));
      few = (let f = k.few_relocs in omega arith);
    }

pub ready : (m : Module) (ends : Ends) (f : Places) (ss : List Sect) (at_flat own means : List ℕ) (size : ℕ) (relocs : List Rel) → IsLinkable m
    → ends ≡ ends_of m → ends.text + ends.«data» < 2 ^ 32 → f ≡ joined ends → ss ≡ m.sections → at_flat ≡ addresses_from f no_ends ss
    → length own ≡ length m.sections → length means ≡ length m.symbols + 1 → size ≡ ends.text + ends.«data» → relocs ≡ m.relocs → AreReady at_flat own means size relocs
ready m ends f ss at_flat own means size relocs k e total f_is ss_is p o count n r =
    let total' : (ends_of m).text + (ends_of m).«data» < 2 ^ 32 = subst (λ (x : Ends). x.text + x.«data» < 2 ^ 32) e total in
    let p' : at_flat ≡ addresses_from (joined (ends_of m)) no_ends m.sections =
    p ∙ (ap (λ (x : Places). addresses_from x no_ends ss) (f_is ∙ ap joined e) ∙ ap (addresses_from (joined (ends_of m)) no_ends) ss_is) in
    let n' : size ≡ (ends_of m).text + (ends_of m).«data» = n ∙ ap (λ (x : Ends). x.text + x.«data») e in
    subst (λ x. AreReady x own means size relocs) (sym p')
    (subst (λ x. AreReady (addresses_from (joined (ends_of m)) no_ends m.sections) own means x relocs) (sym n')
    (subst (λ x. AreReady (addresses_from (joined (ends_of m)) no_ends m.sections) own means ((ends_of m).text + (ends_of m).«data») x) (sym r)
    (ready_at m own means k total' o count)))

-- text followed by data
pub length-flat : (m : Module) → IsLinkable m → length (laid Text 0 m.sections ++ laid Data 0 m.sections) ≡ (ends_of m).text + (ends_of m).«data»
length-flat m k =
    let one = length-laid no_ends m.sections Text k.sections in
    let two = length-laid no_ends m.sections Data k.sections in
    let both = length-append (laid Text 0 m.sections) (laid Data 0 m.sections) in
    omega arith

-- a whole vector lent and given back
pub whole_back : (n : ℕ) (xs ys : List ℕ) → length xs ≡ length ys → n ≡ length ys → take n (xs ++ drop (length xs) ys) ≡ xs
whole_back n xs ys e h = take_at xs (drop (length xs) ys) n (sym (h ∙ sym e))

pub patched_is : (m : Module) (ends : Ends) (f : Places) (ss : List Sect) (at_flat own means bytes done : List ℕ) (relocs : List Rel) → IsLinkable m
    → ends ≡ ends_of m → ends.text + ends.«data» < 2 ^ 32 → f ≡ joined ends → ss ≡ m.sections → at_flat ≡ addresses_from f no_ends ss
    → length own ≡ length m.sections → length means ≡ length m.symbols + 1 → bytes ≡ laid Text 0 m.sections ++ laid Data 0 m.sections → relocs ≡ m.relocs
    → done ≡ (patched 0 bytes (map (binding_of at_flat own means) relocs)).image → None ≡ (patched 0 bytes (map (binding_of at_flat own means) relocs)).fault
    → IsPatched (patched_of m own means) (ends.text + ends.«data») done
unfolding patched_of addresses
patched_is m ends f ss at_flat own means bytes done relocs k e total f_is ss_is p o count b r d q =
    let p' : at_flat ≡ addresses_from (joined (ends_of m)) no_ends m.sections =
    p ∙ (ap (λ (x : Places). addresses_from x no_ends ss) (f_is ∙ ap joined e) ∙ ap (addresses_from (joined (ends_of m)) no_ends) ss_is) in
    let size : length bytes ≡ ends.text + ends.«data» = ap length b ∙ (length-flat m k ∙ sym (ap (λ (x : Ends). x.text + x.«data») e)) in
    let all = (ready m ends f ss at_flat own means (length bytes) relocs k e total f_is ss_is p o count size r).lies in
    let same : patched 0 bytes (map (binding_of at_flat own means) relocs) ≡ patched_of m own means =
    ap (λ x. patched 0 x (map (binding_of at_flat own means) relocs)) b
    ∙ (ap (λ x. patched 0 (laid Text 0 m.sections ++ laid Data 0 m.sections) (map (binding_of x own means) relocs)) p'
    ∙ ap (λ (x : List Rel). patched 0 (laid Text 0 m.sections ++ laid Data 0 m.sections) (map (binding_of (addresses_from (joined (ends_of m)) no_ends m.sections) own means) x)) r) in
    record {
      image = d ∙ ap (λ (x : Patched). x.image) same;
      fault = sym (q ∙ ap (λ (x : Patched). x.fault) same);
      size = ap length d ∙ (length-patched 0 bytes (map (binding_of at_flat own means) relocs) (length bytes) refl all ∙ size);
    }
