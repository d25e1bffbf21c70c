-- A run of a machine with queues: what its steps accept and take adds up, if each step's does.
use Rattle.std.proofs.Common.{◌≡◌, ℕ, zero, suc, ◌≤◌, false, List, [], ◌∷◌, ◌++◌, None, Some, refl, sym, ap, ◌∙◌, subst, arith, append_assoc, length-append}
use Rattle.std.proofs.lemmas.List.Elements.{All-tail}
use Rattle.std.proofs.lemmas.List.{get_or_append_left}
use Rattle.std.specs.List.Sorted.{IsPermutation}
use Rattle.std.proofs.lemmas.List.Sorted.{IsPermutation-refl, IsPermutation-trans, IsPermutation-append, IsPermutation-append_comm}
use Rattle.id_table.specs.Rows.{object_of, IdsBelow}
use Rattle.msg_queue.specs.State.{QueueState}
use Rattle.msg_queue.specs.Machine.{Parcel, contents, AllPlain}
use Rattle.msg_queue.specs.Laws.{IsConserved, Stock, IsBalanced, IsRun, gathered, RunLaw}
use Rattle.msg_queue.proofs.Tables.{not_live}

contents-append : (ps rs : List Parcel) → contents (ps ++ rs) ≡ contents ps ++ contents rs
contents-append [] rs = refl
contents-append (p ∷ ps) rs = ap (λ ms. p.bytes ∷ ms) (contents-append ps rs)

plain_prefix : (ps rs : List Parcel) → AllPlain (ps ++ rs) → AllPlain ps
plain_prefix ps rs all = λ k d h. subst (λ p. p.urgent ≡ false) (get_or_append_left ps rs d k h) (all k d (omega (arith, length-append ps rs)))

plain_back : (ps rs : List Parcel) → AllPlain (ps ++ rs) → AllPlain rs
plain_back [] rs all = all
plain_back (p ∷ ps) rs all = plain_back ps rs (All-tail (λ r. r.urgent ≡ false) p (ps ++ rs) all)

-- one more step at a queue that stays
module _ (old more : List Parcel) (gone out held rest : List (List ℕ)) where
  joined : (contents old ++ contents more) ≡ contents (old ++ more)
  joined = sym (contents-append old more)

  same_more : IsPermutation (contents old) (gone ++ held) → IsPermutation (contents more ++ held) (out ++ rest) → IsPermutation (contents (old ++ more)) ((gone ++ out) ++ rest)
  same_more before step =
      let first : IsPermutation (contents old ++ contents more) ((gone ++ held) ++ contents more) =
      IsPermutation-append (contents old) (gone ++ held) (contents more) (contents more) before (IsPermutation-refl (contents more)) in
      let swapped : IsPermutation (gone ++ (held ++ contents more)) (gone ++ (out ++ rest)) =
      IsPermutation-append gone gone (held ++ contents more) (out ++ rest) (IsPermutation-refl gone)
      (IsPermutation-trans (held ++ contents more) (contents more ++ held) (out ++ rest) (IsPermutation-append_comm held (contents more)) step) in
      subst (λ ms. IsPermutation ms ((gone ++ out) ++ rest)) joined
      (IsPermutation-trans (contents old ++ contents more) ((gone ++ held) ++ contents more) ((gone ++ out) ++ rest) first
      (subst (λ ms. IsPermutation ms ((gone ++ out) ++ rest)) (sym (append_assoc gone held (contents more)))
      (subst (IsPermutation (gone ++ (held ++ contents more))) (sym (append_assoc gone out rest)) swapped)))

  order_more : contents old ≡ gone ++ held → held ++ contents more ≡ out ++ rest → contents (old ++ more) ≡ (gone ++ out) ++ rest
  order_more before step =
      sym joined ∙ ap (λ ms. ms ++ contents more) before ∙ append_assoc gone held (contents more) ∙ ap (λ ms. gone ++ ms) step ∙ sym (append_assoc gone out rest)

-- what was accepted and taken up to a state
pub record IsConserving (here : Stock) (accepted : ℕ → List Parcel) (taken : ℕ → List (List ℕ)) : Type 0 where
  -- nothing was accepted or taken for queues that are yet to be made
  pub unborn : (q : ℕ) → here.next_id ≤ q → (accepted q ≡ []) × (taken q ≡ [])
  pub live : (q : ℕ) (y : QueueState) → object_of here.queues q ≡ Some y → IsConserved (accepted q) (taken q) y.held

nothing_yet : (accepted accepts : List Parcel) (taken takes held : List (List ℕ)) → accepted ≡ [] → accepts ≡ [] → taken ≡ [] → takes ≡ [] → held ≡ [] → IsConserved (accepted ++ accepts) (taken ++ takes) held
nothing_yet accepted accepts taken takes held a b c d e =
    rw (a, b, c, d, e) (record { same = IsPermutation-refl []; in_order = λ _. refl })

-- there is no queue yet
pub conserving_none : (s : Stock) → s.queues ≡ [] → IsConserving s (λ q. []) (λ q. [])
conserving_none s none = record {
  unborn = λ q h. (refl, refl);
  live = λ q y here. let lost = sym (ap (λ rs. object_of rs q) none) ∙ here in absurd (cc);
}

-- one more step
pub conserving_more : (s t : Stock) (accepts accepted : ℕ → List Parcel) (takes taken : ℕ → List (List ℕ)) → IdsBelow s.next_id s.queues → IsBalanced s t accepts takes → IsConserving s accepted taken
    → IsConserving t (λ q. accepted q ++ accepts q) (λ q. taken q ++ takes q)
conserving_more s t accepts accepted takes taken below step so_far = record {
  unborn = λ q h.
      let more : s.next_id ≤ q = omega (arith, step.ids) in
      let first = so_far.unborn q more in
      let later = step.idle q (not_live s.queues s.next_id q below more) in
      (ap (λ ps. ps ++ accepts q) first.0 ∙ later.0, ap (λ ms. ms ++ takes q) first.1 ∙ later.1);
  live = λ q y here.
      elim (object_of s.queues q) as (λ o. object_of s.queues q ≡ o → IsConserved (accepted q ++ accepts q) (taken q ++ takes q) y.held) [
        | None ↦ λ e.
            let is_new = step.born q y here e in
            let first = so_far.unborn q is_new.0 in
            let later = step.idle q e in
            nothing_yet (accepted q) (accepts q) (taken q) (takes q) y.held first.0 later.0 first.1 later.1 is_new.1
        | Some x ↦ λ e.
            let first = so_far.live q x e in
            record {
              same = same_more (accepted q) (accepts q) (taken q) (takes q) x.held y.held first.same (step.stays q x y e here);
              in_order = λ plain.
                  order_more (accepted q) (accepts q) (taken q) (takes q) x.held y.held (first.in_order (plain_prefix (accepted q) (accepts q) plain))
                  (step.in_order q x y e here (plain_back (accepted q) (accepts q) plain));
            }
      ] refl;
}

-- a whole run
conserving : (stock : ℕ → Stock) (accepts : ℕ → ℕ → List Parcel) (takes : ℕ → ℕ → List (List ℕ)) → IsRun stock accepts takes
    → (k : ℕ) → IsConserving (stock k) (λ q. gathered accepts q k) (λ q. gathered takes q k)
conserving stock accepts takes run zero = conserving_none (stock 0) run.none
conserving stock accepts takes run (suc k) =
    conserving_more (stock k) (stock (suc k)) (accepts k) (λ q. gathered accepts q k) (takes k) (λ q. gathered takes q k) (run.below k) (run.balanced k) (conserving stock accepts takes run k)

pub run_conserved : RunLaw
run_conserved stock accepts takes run k q y here = (conserving stock accepts takes run k).live q y here
