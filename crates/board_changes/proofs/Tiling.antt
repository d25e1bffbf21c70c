-- The spans of a task tile its life.
use Rattle.std.proofs.Common.{◌≡◌, ℕ, ◌<◌, ◌≤◌, Bool, true, false, cond, eqb, ltb, leb, List, [], ◌∷◌, ◌++◌, map, Option, None, Some, inl, inr, refl, sym, ap, ap₂, subst, ◌∙◌, append_assoc, arith}
use Rattle.std.specs.Prelude.{◌&&◌}
use Rattle.std.specs.Option.{option_map}
use Rattle.std.proofs.lemmas.Bool.{and_left, and_right, cases_lt, eq-eqb, le-leb, le-ltb, lt-leb, lt-ltb, ne_eqb, eqb-false, eqb-true}
use Rattle.std.proofs.lemmas.List.{append-nil}
use Rattle.std.proofs.lemmas.Option.{same_Some}
use Rattle.id_table.proofs.Records.{found_id}
use Rattle.board_changes.specs.declared.look.Look.{Look}
use Rattle.board_changes.specs.contracts.look.Standing.{the_type}
use denote.Enum.Declared.{tag_of}
use Rattle.board_changes.specs.declared.spans.Open.{Open}
use Rattle.board_changes.specs.declared.spans.Span.{Span}
use Rattle.board_changes.specs.declared.view.TaskView.{TaskView}
use Rattle.board_changes.specs.Looks.{is_same, look_of, same_flag}
use Rattle.board_changes.specs.Spans.{SpanState, all_ended, all_ends, ended, ends, going_after, going_of, goes_on, observed, open_task, opened, view_of}
use Rattle.board_changes.specs.Views.{task_id}
use Rattle.board_changes.specs.Tiling.{AreDistinct, AreInOrder, Observation, SaysOnce, TilingLaw, covers, last_time, said_at, seen_at, spans_after, spans_until}

-- ---- looks
flag_itself : (b : Bool) → same_flag b b ≡ true
flag_itself true = refl
flag_itself false = refl

same_itself : (look : Look) → is_same look look ≡ true
same_itself look =
    ap₂ (λ a b. a && b) (eq-eqb (tag_of the_type look.standing) (tag_of the_type look.standing) refl) (flag_itself look.inherits)

-- no two spans that go on are of one task
abbrev OpensDistinct : List Open → Type 0
OpensDistinct [] = Unit {0}
OpensDistinct (o ∷ os) = (going_of os o.who ≡ None) × OpensDistinct os

-- ---- the span of a task after an observation
module _ (who time : ℕ) (look : Look) where
  look_after : (found : Option Open) → is_same (goes_on found who time look).look look ≡ true
  look_after None = same_itself look
  look_after (Some o) =
      elim (is_same o.look look) as (λ b. is_same o.look look ≡ b → is_same (cond b o (opened who time look)).look look ≡ true) [
        | true ↦ λ e. e
        | false ↦ λ e. same_itself look
      ] refl

  from_after : (n : ℕ) (found : Option Open) → ((o : Open) → found ≡ Some o → o.from ≤ n) → n ≤ time → (goes_on found who time look).from ≤ time
  from_after n None early up = omega arith
  from_after n (Some o) early up =
      let low : o.from ≤ n = early o refl in
      elim (is_same o.look look) as (λ b. (cond b o (opened who time look)).from ≤ time) [ true ↦ omega arith | false ↦ omega arith ]

  who_after : (found : Option Open) → ((o : Open) → found ≡ Some o → o.who ≡ who) → (goes_on found who time look).who ≡ who
  who_after None same = refl
  who_after (Some o) same =
      elim (is_same o.look look) as (λ b. (cond b o (opened who time look)).who ≡ who) [ true ↦ same o refl | false ↦ refl ]

module _ (going : List Open) (time : ℕ) (runner : Option ℕ) where
  after_who : (v : TaskView) → (going_after going time runner v).who ≡ v.id
  after_who v = who_after v.id time (look_of runner v) (going_of going v.id) (λ o. found_id open_task going v.id o)

  -- the span of a task is that made of its view
  found_after : (views : List TaskView) (who : ℕ) → going_of (map (going_after going time runner) views) who ≡ option_map (going_after going time runner) (view_of views who)
  found_after [] who = refl
  found_after (v ∷ vs) who =
      let f = going_after going time runner in
      ap₂ (λ n rest. cond (eqb n who) (Some (f v)) rest) (after_who v) (found_after vs who)
      ∙ elim (eqb v.id who) as (λ b. cond b (Some (f v)) (option_map f (view_of vs who)) ≡ option_map f (cond b (Some v) (view_of vs who))) [ true ↦ refl | false ↦ refl ]

  distinct_after : (views : List TaskView) → AreDistinct views → OpensDistinct (map (going_after going time runner) views)
  distinct_after [] all = tt
  distinct_after (v ∷ vs) all = (
    ap (λ n. going_of (map (going_after going time runner) vs) n) (after_who v) ∙ found_after vs v.id
        ∙ ap (option_map (going_after going time runner)) all.0,
    distinct_after vs all.1,
  )

-- ---- what spans say of a task at a time
module _ (who t : ℕ) where
  said_append : (xs ys : List Span) → said_at who t (xs ++ ys) ≡ said_at who t xs ++ said_at who t ys
  said_append [] ys = refl
  said_append (x ∷ xs) ys =
      let first = cond (covers who t x) (x.look ∷ []) [] in
      ap (λ ls. first ++ ls) (said_append xs ys) ∙ sym (append_assoc first (said_at who t xs) (said_at who t ys))

  -- what a span says if it ends at a time
  abbrev one_said : Open → ℕ → List Look
  one_said o e = cond (eqb o.who who && (leb o.from t && ltb t e)) (o.look ∷ []) []

  past : (o : Open) (e : ℕ) → e ≤ t → one_said o e ≡ []
  past o e up =
      let none : leb o.from t && ltb t e ≡ false = and_right (leb o.from t) (ltb t e) (le-ltb t e up) in
      ap (λ b. cond b (o.look ∷ []) []) (and_right (eqb o.who who) (leb o.from t && ltb t e) none)

  early : (o : Open) (e : ℕ) → t < o.from → one_said o e ≡ []
  early o e low =
      let none : leb o.from t && ltb t e ≡ false = and_left (leb o.from t) (ltb t e) (lt-leb o.from t low) in
      ap (λ b. cond b (o.look ∷ []) []) (and_right (eqb o.who who) (leb o.from t && ltb t e) none)

  of_other : (o : Open) (e : ℕ) → (o.who ≡ who → ⊥) → one_said o e ≡ []
  of_other o e differs = ap (λ b. cond b (o.look ∷ []) []) (and_left (eqb o.who who) (leb o.from t && ltb t e) (ne_eqb o.who who differs))

  cut : (o : Open) (e f : ℕ) → t < e → t < f → one_said o e ≡ one_said o f
  cut o e f one other =
      ap (λ b. cond (eqb o.who who && (leb o.from t && b)) (o.look ∷ []) []) (lt-ltb t e one ∙ sym (lt-ltb t f other))

  here : (o : Open) (e : ℕ) → o.who ≡ who → o.from ≤ t → t < e → one_said o e ≡ o.look ∷ []
  here o e same low up =
      ap₂ (λ a b. cond (a && b) (o.look ∷ []) []) (eq-eqb o.who who same)
      (ap₂ (λ a b. a && b) (le-leb o.from t low) (lt-ltb t e up))

  said_ended : (o : Open) (e : ℕ) → said_at who t (ended o e) ≡ one_said o e
  said_ended o e =
      let span : Span = record { who = o.who; look = o.look; from = o.from; to = e } in
      elim (cases_lt o.from e) [
        | inl less ↦ (ap (λ b. said_at who t (cond b (span ∷ []) [])) (lt-ltb o.from e less) ∙ append-nil (one_said o e))
        | inr late ↦ (
            ap (λ b. said_at who t (cond b (span ∷ []) [])) (le-ltb o.from e late)
            ∙ sym (elim (cases_lt t o.from) [ inl low ↦ early o e low | inr high ↦ past o e (omega arith) ]))
      ]

  -- the looks that the span of the task gives, if one goes on
  abbrev by : (Open → List Span) → Option Open → List Look
  by f None = []
  by f (Some o) = said_at who t (f o)

  by_same : (f g : Open → List Span) (found : Option Open) → ((o : Open) → found ≡ Some o → f o ≡ g o) → by f found ≡ by g found
  by_same f g None same = refl
  by_same f g (Some o) same = ap (said_at who t) (same o refl)

  by_nothing : (f : Open → List Span) (found : Option Open) → ((o : Open) → said_at who t (f o) ≡ []) → by f found ≡ []
  by_nothing f None none = refl
  by_nothing f (Some o) none = none o

  -- what is made of each span that goes on says what is made of that of the task
  each_said : (f : Open → List Span) (g : List Open → List Span) → g [] ≡ [] → ((o : Open) (os : List Open) → g (o ∷ os) ≡ f o ++ g os)
      → ((o : Open) → (o.who ≡ who → ⊥) → said_at who t (f o) ≡ [])
      → (os : List Open) → OpensDistinct os → said_at who t (g os) ≡ by f (going_of os who)
  each_said f g none more other [] all = ap (said_at who t) none
  each_said f g none more other (o ∷ os) all =
      let rest = each_said f g none more other os all.1 in
      let one = said_at who t (f o) in
      ap (said_at who t) (more o os) ∙ said_append (f o) (g os)
      ∙ elim (eqb o.who who) as (λ b. eqb o.who who ≡ b → one ++ said_at who t (g os) ≡ by f (cond b (Some o) (going_of os who))) [
        | true ↦ λ e. (
            let no_other : going_of os who ≡ None = subst (λ n. going_of os n ≡ None) (eqb-true o.who who e) all.0 in
            ap (λ ls. one ++ ls) (rest ∙ ap (by f) no_other) ∙ append-nil one)
        | false ↦ λ e. ap (λ ls. ls ++ said_at who t (g os)) (other o (eqb-false o.who who e)) ∙ rest
      ] refl

  each_ended : (e : ℕ) (os : List Open) → OpensDistinct os → said_at who t (all_ended e os) ≡ by (λ o. ended o e) (going_of os who)
  each_ended e os all =
      each_said (λ o. ended o e) (all_ended e) refl (λ o rest. refl) (λ o differs. said_ended o e ∙ of_other o e differs) os all

  module _ (views : List TaskView) (runner : Option ℕ) (time : ℕ) where
    ends_none : (view : Option TaskView) (o : Open) → said_at who t (ended o time) ≡ [] → said_at who t (ends view runner time o) ≡ []
    ends_none None o none = none
    ends_none (Some v) o none =
        elim (is_same o.look (look_of runner v)) as (λ b. said_at who t (cond b [] (ended o time)) ≡ []) [ true ↦ refl | false ↦ none ]

    each_ends : (os : List Open) → OpensDistinct os
        → said_at who t (all_ends views runner time os) ≡ by (λ o. ends (view_of views o.who) runner time o) (going_of os who)
    each_ends os all =
        each_said (λ o. ends (view_of views o.who) runner time o) (all_ends views runner time) refl (λ o rest. refl)
        (λ o differs. ends_none (view_of views o.who) o (said_ended o time ∙ of_other o time differs)) os all

-- ---- the spans after an observation
-- no two spans that go on are of one task; they began up to this time, and the others ended up to it
record Holds (n : ℕ) (s : SpanState) : Type 0 where
  distinct : OpensDistinct s.going
  from : (who : ℕ) (o : Open) → going_of s.going who ≡ Some o → o.from ≤ n
  done : (who t : ℕ) → n ≤ t → said_at who t s.done ≡ []

module _ (n : ℕ) (s : SpanState) (holds : Holds n s) (time : ℕ) (up : n ≤ time) (views : List TaskView) (all : AreDistinct views) (runner : Option ℕ) where
  abbrev later : TaskView → Open
  later = going_after s.going time runner

  from_later : (v : TaskView) → (later v).from ≤ time
  from_later v = from_after v.id time (look_of runner v) n (going_of s.going v.id) (λ o e. holds.from v.id o e) up

  from_view : (view : Option TaskView) (o : Open) → option_map later view ≡ Some o → o.from ≤ time
  from_view None o e = absurd (cc)
  from_view (Some v) o e = subst (λ (x : Open). x.from ≤ time) (same_Some (later v) o e) (from_later v)

  still_holds : Holds time (observed s time views runner)
  still_holds = record {
    distinct = distinct_after s.going time runner views all;
    from = λ who o e. from_view (view_of views who) o (sym (found_after s.going time runner views who) ∙ e);
    done =
        λ who t late. said_append who t s.done (all_ends views runner time s.going)
        ∙ ap₂ (λ xs ys. xs ++ ys) (holds.done who t (omega arith))
        (each_ends who t views runner time s.going holds.distinct
        ∙ by_nothing who t (λ o. ends (view_of views o.who) runner time o) (going_of s.going who)
        (λ o. ends_none who t views runner time (view_of views o.who) o (said_ended who t o time ∙ past who t o time late)));
  }

  -- the looks that spans give at the end of a run, in parts
  module _ (end who t : ℕ) (within : t < end) where
    said_parts : said_at who t ((s.done ++ all_ends views runner time s.going) ++ all_ended end (map later views))
        ≡ said_at who t (s.done ++ all_ends views runner time s.going) ++ by who t (λ o. ended o end) (option_map later (view_of views who))
    said_parts =
        said_append who t (s.done ++ all_ends views runner time s.going) (all_ended end (map later views))
        ∙ ap (λ ls. said_at who t (s.done ++ all_ends views runner time s.going) ++ ls)
        (each_ended who t end (map later views) still_holds.distinct ∙ ap (by who t (λ o. ended o end)) (found_after s.going time runner views who))

    -- at a time from the observation on, the span of the view gives its look
    now_view : (view : Option TaskView) → ((v : TaskView) → view ≡ Some v → v.id ≡ who) → time ≤ t
        → SaysOnce (option_map (look_of runner) view) (by who t (λ o. ended o end) (option_map later view))
    now_view None same late = refl
    now_view (Some v) same late =
        let low : (later v).from ≤ time = from_later v in (
          (later v).look,
          said_ended who t (later v) end ∙ here who t (later v) end (after_who s.going time runner v ∙ same v refl) (omega arith) within,
          look_after v.id time (look_of runner v) (going_of s.going v.id),
        )

    said_now : time ≤ t → SaysOnce (option_map (look_of runner) (view_of views who)) (said_at who t ((s.done ++ all_ends views runner time s.going) ++ all_ended end (map later views)))
    said_now late =
        let seen = option_map (look_of runner) (view_of views who) in
        let none : said_at who t (s.done ++ all_ends views runner time s.going) ≡ [] = still_holds.done who t late in
        let said = by who t (λ o. ended o end) (option_map later (view_of views who)) in
        subst (SaysOnce seen) (sym (said_parts ∙ ap (λ ls. ls ++ said) none))
        (now_view (view_of views who) (λ v e. found_id task_id views who v e) late)

    -- at a time before it, spans give the same looks as if the run ended at the observation
    same_before : (found : Option Open) (view : Option TaskView) → ((v : TaskView) → view ≡ Some v → going_of s.going v.id ≡ found) → t < time
        → by who t (λ o. ends view runner time o) found ++ by who t (λ o. ended o end) (option_map later view) ≡ by who t (λ o. ended o time) found
    same_before None None same before = refl
    same_before (Some o) None same before = append-nil (said_at who t (ended o time))
    same_before None (Some v) same before =
        let new = opened v.id time (look_of runner v) in
        ap (λ g. said_at who t (ended (goes_on g v.id time (look_of runner v)) end)) (same v refl) ∙ said_ended who t new end ∙ early who t new end before
    same_before (Some o) (Some v) same before =
        let look = look_of runner v in
        let new = opened v.id time look in
        let old = said_at who t (ended o time) in
        ap (λ g. said_at who t (ends (Some v) runner time o) ++ said_at who t (ended (goes_on g v.id time look) end)) (same v refl)
        ∙ elim (is_same o.look look) as (λ b. said_at who t (cond b [] (ended o time)) ++ said_at who t (ended (cond b o new) end) ≡ old) [
          | true ↦ said_ended who t o end ∙ cut who t o end time within before ∙ sym (said_ended who t o time)
          | false ↦ ap (λ ls. old ++ ls) (said_ended who t new end ∙ early who t new end before) ∙ append-nil old
        ]

    said_before : t < time → said_at who t ((s.done ++ all_ends views runner time s.going) ++ all_ended end (map later views)) ≡ said_at who t (s.done ++ all_ended time s.going)
    said_before before =
        let found = going_of s.going who in
        let view = view_of views who in
        let done = said_at who t s.done in
        let fresh = by who t (λ o. ended o end) (option_map later view) in
        let ends_of : by who t (λ o. ends (view_of views o.who) runner time o) found ≡ by who t (λ o. ends view runner time o) found =
        by_same who t (λ o. ends (view_of views o.who) runner time o) (λ o. ends view runner time o) found
        (λ o e. ap (λ n. ends (view_of views n) runner time o) (found_id open_task s.going who o e)) in
        let pair = same_before found view (λ v e. ap (going_of s.going) (found_id task_id views who v e)) before in
        said_parts
        ∙ ap (λ ls. ls ++ fresh) (said_append who t s.done (all_ends views runner time s.going))
        ∙ append_assoc done (said_at who t (all_ends views runner time s.going)) fresh
        ∙ ap (λ ls. done ++ ls) (ap (λ ls. ls ++ fresh) (each_ends who t views runner time s.going holds.distinct ∙ ends_of) ∙ pair
        ∙ sym (each_ended who t time s.going holds.distinct))
        ∙ sym (said_append who t s.done (all_ended time s.going))

-- ---- all observations
all_hold : (ms : List Observation) → AreInOrder ms → Holds (last_time ms) (spans_after ms)
all_hold [] order = record { distinct = tt; from = λ who o e. absurd (cc); done = λ who t late. refl }
all_hold (m ∷ ms) order = still_holds (last_time ms) (spans_after ms) (all_hold ms order.2) m.time order.0 m.views order.1 m.runner

pub tiles : TilingLaw
tiles [] end who t order up within = refl
tiles (m ∷ ms) end who t order up within =
    let holds = all_hold ms order.2 in
    let now = option_map (look_of m.runner) (view_of m.views who) in
    let said = said_at who t (spans_until end (m ∷ ms)) in
    elim (cases_lt t m.time) [
      | inl before ↦ (
          let same = said_before (last_time ms) (spans_after ms) holds m.time order.0 m.views order.1 m.runner end who t within before in
          subst (λ b. SaysOnce (cond b now (seen_at who t ms)) said) (sym (lt-leb m.time t before))
          (subst (SaysOnce (seen_at who t ms)) (sym same) (tiles ms m.time who t order.2 order.0 before)))
      | inr late ↦ (
          subst (λ b. SaysOnce (cond b now (seen_at who t ms)) said) (sym (le-leb m.time t late))
          (said_now (last_time ms) (spans_after ms) holds m.time order.0 m.views order.1 m.runner end who t within late))
    ]
