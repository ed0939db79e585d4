-- Acts that take a letter keep what each other server has of a rank that waits.
use Rattle.adlb_unit.specs.Ring.{behind, others}
use Rattle.adlb_unit.specs.declared.configs.Config.{Config}
use Rattle.adlb_unit.specs.declared.names.Rank.{Rank}
use Rattle.adlb_unit.specs.declared.names.Server.{Server}
use Rattle.adlb_unit.specs.declared.notes.UnitNote.{UnitNote}
use Rattle.core_check_law.proofs.Classes.{IsMine, IsOthers, now}
use Rattle.core_check_law.proofs.Lists.{has_map, has_there}
use Rattle.core_check_law.specs.Settling.{Has}
use Rattle.core_law.proofs.Acts.{taken_weight}
use Rattle.core_law.proofs.LettersAndActors.{own_of}
use Rattle.core_law.specs.Acting.{IsAct, acted}
use Rattle.core_law.specs.Letters.{about, one}
use Rattle.core_law.specs.Measures.{heard_weight, said_weight}
use Rattle.core_law.specs.OnLinks.{Each}
use Rattle.core_law.specs.Well.{IsWell}
use Rattle.core_wish_law.proofs.Agreed.{reached}
use Rattle.core_wish_law.proofs.Covered.{AllCovered, Covers, about_self, cover_letter, covers, has_gone, has_left, has_parts, has_right}
use Rattle.core_wish_law.proofs.Covered.{letters_next, old_covered, plain_covered, turned_covered, waits_at, wishes_at}
use Rattle.core_wish_law.proofs.Having.{filter_has}
use Rattle.core_run.specs.World.{World, pool_of, server_named}
use Rattle.server_components.specs.Calls.{has_server, is_since, with_server}
use Rattle.server_components.specs.Parked.{is_by, is_of}
use Rattle.server_components.specs.declared.waits.Waiting.{Waiting}
use Rattle.server_components.specs.declared.wishes.Wish.{Wish}
use Rattle.server_law.proofs.Waiters.{none_of, one as weighed}
use Rattle.server_law.specs.Acts.{Act, Answers, Around, Asks_on, Declines, Drops_hint, Heard, Hints, Is_hinted, Parks, Passes_on, Wakes}
use Rattle.server_law.specs.Acts.{around, comes, hinted, of_server, says, takes, unwished, waiting_after, wishes_after}
use Rattle.server_law.specs.Calm.{WaitOnce}
use Rattle.server_law.specs.State.{Kept, ServerModel, awaiting, idle}
use Rattle.std.proofs.Common.{Bool, List, Some, [], ap, arith, false, inl, inr, not, refl, subst, suc, sym, true, zero, ℕ, ◌%◌, ◌&&◌, ◌++◌}
use Rattle.std.proofs.Common.{◌+◌, ◌-◌, ◌<◌, ◌==◌, ◌||◌, ◌∙◌, ◌∷◌, ◌≡◌, ◌≢◌, ◌≤◌, ◌⊎◌}
use Rattle.std.proofs.Math.Nat.{mod-eq_of_lt}
use Rattle.std.proofs.lemmas.Bool.{cases_eq, eq-eqb, eqb-true, false_from_ne_true}
use Rattle.std.proofs.lemmas.List.Sums.{sum_by-append, sum_by-cons}
use Rattle.std.specs.List.{range_with_len}
use Rattle.std.specs.Prelude.{count_by}
use Rattle.adlb_unit.specs.declared.messages.Message.TheVariants as tells

-- Letters about another rank, or to another home.

about_other : (h t : Server) (r : Rank) (q at to : ℕ) (of : Rank) (n : ℕ) → of.0 ≢ r.0 → about h t r q at to of n ≡ 0
about_other h t r q at to of n differs = let no_rank : (of.0 == r.0) ≡ false = false_from_ne_true (of.0 == r.0)
    (λ e. differs (eqb-true of.0 r.0 e)) in rw no_rank refl

and_false : (b : Bool) → (b && false) ≡ false
and_false true = refl
and_false false = refl

about_away : (h t : Server) (r : Rank) (q at to : ℕ) (of : Rank) (n : ℕ) → at ≢ h.0 → about h t r q at to of n ≡ 0
about_away h t r q at to of n differs =
    let no_home : (at == h.0) ≡ false = false_from_ne_true (at == h.0) (λ e. differs (eqb-true at h.0 e)) in
    rw no_home (ap one (and_false ((of.0 == r.0) && (n == q))))

about_far : (h t : Server) (r : Rank) (q at to : ℕ) (of : Rank) (n : ℕ) → to ≢ t.0 → about h t r q at to of n ≡ 0
about_far h t r q at to of n differs =
    let no_server : (to == t.0) ≡ false = false_from_ne_true (to == t.0) (λ e. differs (eqb-true to t.0 e)) in
    rw no_server (rw (and_false (at == h.0)) (ap one (and_false ((of.0 == r.0) && (n == q)))))

about_call : (h t : Server) (r : Rank) (q at to : ℕ) (of : Rank) (n : ℕ) → n ≢ q → about h t r q at to of n ≡ 0
about_call h t r q at to of n differs =
    let no_call : (n == q) ≡ false = false_from_ne_true (n == q) (λ e. differs (eqb-true n q e)) in
    rw no_call (rw (and_false (of.0 == r.0)) refl)

-- Who waits beside one.

beside : (before come behind : List Waiting) (e : Waiting) → Has (before ++ (come ++ behind)) e → (Has before e ⊎ Has behind e) ⊎ Has come e
beside before come behind e has = by_part (has_parts before (come ++ behind) e has)
  where
    by_rest : Has come e ⊎ Has behind e → (Has before e ⊎ Has behind e) ⊎ Has come e
    by_rest (inl a) = inr a
    by_rest (inr b) = inl (inr b)

    by_part : Has before e ⊎ Has (come ++ behind) e → (Has before e ⊎ Has behind e) ⊎ Has come e
    by_part (inl a) = inl (inl a)
    by_part (inr b) = by_rest (has_parts come behind e b)

each_of : {X : Type 0} (P : X → Type 0) (xs : List X) (x : X) → Each P xs → Has xs x → P x
each_of P [] x each has = absurd has
each_of P (y ∷ ys) x each (inl same) = subst P same each.0
each_of P (y ∷ ys) x each (inr more) = each_of P ys x each.1 more

beside_differs : (s : ServerModel) (at : Around) (e0 e : Waiting) → WaitOnce s → s.kept.parked.waiting ≡ at.before ++ (e0 ∷ [] ++ at.behind)
    → Has at.before e ⊎ Has at.behind e → e0.wish.rank.0 ≢ e.wish.rank.0
beside_differs s at e0 e once stands has same = by_part has
  where
    few : count_by (is_of e0.wish.rank) at.before + count_by (is_of e0.wish.rank) at.behind ≡ 0
    few =
        let f : Waiting → ℕ = λ x. weighed (is_of e0.wish.rank x) in
        let sum = sum_by-append f at.before (e0 ∷ at.behind) in
        let more = sum_by-cons f e0 at.behind in
        let it : weighed (is_of e0.wish.rank e0) ≡ 1 = rw (eq-eqb e0.wish.rank.0 e0.wish.rank.0 refl) refl in
        let most : count_by (is_of e0.wish.rank) (at.before ++ e0 ∷ at.behind) ≤ 1 = rw stands at (once e0.wish.rank) in
        omega arith

    its : is_of e0.wish.rank e ≡ true
    its = eq-eqb e.wish.rank.0 e0.wish.rank.0 (sym same)

    bad : is_of e0.wish.rank e ≡ false → ⊥
    bad e_false = let no : false ≡ true = sym e_false ∙ its in absurd (cc)

    by_part : Has at.before e ⊎ Has at.behind e → ⊥
    by_part (inl a) =
        let none = few in bad
        (each_of (λ x. is_of e0.wish.rank x ≡ false) at.before e (none_of (is_of e0.wish.rank) at.before (omega arith)) a)
    by_part (inr b) =
        let none = few in bad
        (each_of (λ x. is_of e0.wish.rank x ≡ false) at.behind e (none_of (is_of e0.wish.rank) at.behind (omega arith)) b)

-- The other servers.

has_range : (from n k : ℕ) → from ≤ k → k < from + n → Has (range_with_len from n) k
has_range from zero k low high = absurd (omega arith)
has_range from (suc n) k low high = by_place (cases_eq from k) (λ more. has_range (from + 1) n k more (omega arith))
  where
    by_place : (from ≡ k) ⊎ (from ≢ k) → ((from + 1) ≤ k → Has (range_with_len (from + 1) n) k) → Has (range_with_len from (suc n)) k
    by_place (inl same) later = inl same
    by_place (inr differs) later = inr (later (omega arith))

has_others : (config : Config) (me t : Server) → me.0 < config.servers → t.0 < config.servers → t.0 ≢ me.0 → Has (others config me) t
has_others config me t here there differs =
    let j = reached config me t here there in
    let l = j.1 in
    let its : behind config me j.0 ≡ t = ap server_named j.2 in
    let some : j.0 ≢ 0 = λ zero_is.
    let e : (behind config me j.0).0 ≡ me.0 = ap (λ n. (me.0 + n) % config.servers) zero_is ∙ ap (λ n. n % config.servers) (no_more me.0)
    ∙ mod-eq_of_lt here in
    differs (sym j.2 ∙ e) in
    subst (λ x. Has (others config me) x) its
    (has_map (behind config me) (range_with_len 1 (config.servers - 1)) j.0
    (has_range 1 (config.servers - 1) j.0 (omega arith) (omega arith)))
  where
    no_more : (n : ℕ) → n + 0 ≡ n
    no_more n = omega arith

-- What is known of the act that takes a letter.

-- the home has the rank of an Ask waiting with this wish; and of a hint that comes too late the rank does not wait in that call
abbrev pub IsRight : World → Server → Act → Type 0
IsRight w me (Answers from wish unit) =
    (h : Server) → h.0 < w.config.servers → (e : Waiting) → Has (pool_of w h).kept.parked.waiting e → e.wish.rank.0 ≡ wish.rank.0
    → (h ≡ from) × (e.wish ≡ wish)
IsRight w me (Declines from wish) =
    (h : Server) → h.0 < w.config.servers → (e : Waiting) → Has (pool_of w h).kept.parked.waiting e → e.wish.rank.0 ≡ wish.rank.0
    → (h ≡ from) × (e.wish ≡ wish)
IsRight w me (Drops_hint from rank request) =
    (e : Waiting) → Has (pool_of w me).kept.parked.waiting e → is_since rank request e ≡ false
IsRight w me _ = Prim.Unit {0}

module _ (w : World) (me : Server) (well : IsWell w) (covered : AllCovered w) (once : WaitOnce (pool_of w me)) where
  abbrev s : ServerModel
  s = pool_of w me

  parks_covered : (wish : Wish) → IsAct w me (Parks wish) → AllCovered (acted w me (Parks wish))
  unfolding AllCovered
  parks_covered wish is h t low there differs e has = by_waits (waits_at w me (Parks wish) well is covered h low e has)
    where
      new : h ≡ me → Has (idle wish (others s.config s.me) ∷ []) e → Covers (acted w me (Parks wish)) h t e
      new mine (inl same) =
          let own = own_of w me (Parks wish) well is in
          let all = has_others w.config me t is.here there (λ e. differs (e ∙ ap (λ (k : Server). k.0) (sym mine))) in
          let a = subst (λ (c : Config). Has (others c me) t) (sym own.config) all in
          let b = subst (λ (k : Server). Has (others s.config k) t) (sym own.named) a in
          inr (inl (subst (λ (x : Waiting). Has x.to_ask t) same b))
      new mine (inr more) = absurd more

      by_waits : Has (pool_of w h).kept.parked.waiting e ⊎ ((h ≡ me) × Has (comes (Parks wish) s) e)
          → Covers (acted w me (Parks wish)) h t e
      by_waits (inl was) =
          old_covered w me (Parks wish) well is covered h t e low there differs was
          (λ keeps. inl (wishes_at w me (Parks wish) well is covered t there e.wish keeps (λ mine here. here))) refl
      by_waits (inr (mine, came)) = new mine came

  -- a rank that waits beside the one of the act
  beside_covered : (a : Act) (at : Around) (e0 : Waiting) (h t : Server) (e : Waiting) → IsAct w me a → around a ≡ Some at
      → s.kept.parked.waiting ≡ at.before ++ (e0 ∷ [] ++ at.behind) → wishes_after a s.kept.parked.wishes ≡ s.kept.parked.wishes
      → h.0 < w.config.servers → t.0 < w.config.servers → t.0 ≢ h.0 → Has (pool_of w h).kept.parked.waiting e
      → heard_weight (cover_letter h t e.wish.rank e.wish.request) me (takes a) ≡ 0 → Covers (acted w me a) h t e
  beside_covered a at e0 h t e is shape stands same low there differs was none =
      old_covered w me a well is covered h t e low there differs was
      (λ keeps. inl (wishes_at w me a well is covered t there e.wish keeps (λ mine here. subst (λ l. Has l e.wish) (sym same) here))) none

  around_waits : (a : Act) (at : Around) (e0 : Waiting) → IsAct w me a → (around a ≡ Some at)
      → waiting_after a s ≡ at.before ++ (comes a s ++ at.behind)
      → s.kept.parked.waiting ≡ at.before ++ (e0 ∷ [] ++ at.behind) → (h : Server) → h.0 < w.config.servers → (e : Waiting)
      → Has (pool_of (acted w me a) h).kept.parked.waiting e
      → ((h.0 ≢ me.0) × Has (pool_of w h).kept.parked.waiting e)
      ⊎ ((h ≡ me) × Has s.kept.parked.waiting e × (e0.wish.rank.0 ≢ e.wish.rank.0)) ⊎ ((h ≡ me) × Has (comes a s) e)
  around_waits a at e0 is shape after_is stands h low e has = by_now (now w me a well.shape is.here h low)
    where
      old : Has at.before e ⊎ Has at.behind e → Has s.kept.parked.waiting e
      old (inl b) = subst (λ l. Has l e) (sym stands) (has_left at.before (e0 ∷ [] ++ at.behind) e b)
      old (inr b) = subst (λ l. Has l e) (sym stands) (has_right at.before (e0 ∷ [] ++ at.behind) e (inr b))

      by_beside : h ≡ me → (Has at.before e ⊎ Has at.behind e) ⊎ Has (comes a s) e
          → ((h.0 ≢ me.0) × Has (pool_of w h).kept.parked.waiting e)
          ⊎ ((h ≡ me) × Has s.kept.parked.waiting e × (e0.wish.rank.0 ≢ e.wish.rank.0)) ⊎ ((h ≡ me) × Has (comes a s) e)
      by_beside mine (inl b) = inr (inl (mine, old b, beside_differs s at e0 e once stands b))
      by_beside mine (inr c) = inr (inr (mine, c))

      by_now : IsMine w me a h ⊎ IsOthers w me a h
          → ((h.0 ≢ me.0) × Has (pool_of w h).kept.parked.waiting e)
          ⊎ ((h ≡ me) × Has s.kept.parked.waiting e × (e0.wish.rank.0 ≢ e.wish.rank.0)) ⊎ ((h ≡ me) × Has (comes a s) e)
      by_now (inl mine) =
          let there = subst (λ (k : Kept). Has k.parked.waiting e) mine.kept has in
          by_beside mine.same (beside at.before (comes a s) at.behind e (subst (λ l. Has l e) after_is there))
      by_now (inr other) = inl (other.differs, subst (λ (k : Kept). Has k.parked.waiting e) other.kept has)

  passes_covered : (at : Around) (wish : Wish) (from : Server) (rest : List Server) (note : UnitNote)
      → IsAct w me (Passes_on at wish from rest note)
      → AllCovered (acted w me (Passes_on at wish from rest note))
  unfolding AllCovered
  passes_covered at wish from rest note is h t low there differs e has =
      by_waits (around_waits (Passes_on at wish from rest note) at (awaiting wish from rest) is refl refl is.sits h low e has)
    where
      a : Act
      a = Passes_on at wish from rest note

      keep : Has (pool_of w h).kept.parked.waiting e → about h t e.wish.rank e.wish.request me.0 from.0 wish.rank wish.request ≡ 0
          → Covers (acted w me (Passes_on at wish from rest note)) h t e
      keep was none =
          beside_covered (Passes_on at wish from rest note) at (awaiting wish from rest) h t e is refl is.sits refl low there differs was
          (omega arith)

      by_waits : ((h.0 ≢ me.0) × Has (pool_of w h).kept.parked.waiting e)
          ⊎ ((h ≡ me) × Has s.kept.parked.waiting e × (wish.rank.0 ≢ e.wish.rank.0)) ⊎ ((h ≡ me) × ⊥)
          → Covers (acted w me (Passes_on at wish from rest note)) h t e
      by_waits (inl (away, was)) = keep was
          (about_away h t e.wish.rank e.wish.request me.0 from.0 wish.rank wish.request (λ e. away (sym e)))
      by_waits (inr (inl (mine, was, other))) =
          keep (subst (λ (k : Server). Has (pool_of w k).kept.parked.waiting e) (sym mine) was)
          (about_other h t e.wish.rank e.wish.request me.0 from.0 wish.rank wish.request other)
      by_waits (inr (inr (mine, none))) = absurd none

  hinted_covered : (at : Around) (e0 : Waiting) (from : Server) → IsAct w me (Is_hinted at e0 from)
      → AllCovered (acted w me (Is_hinted at e0 from))
  unfolding AllCovered
  hinted_covered at e0 from is h t low there differs e has =
      by_waits (around_waits (Is_hinted at e0 from) at e0 is refl refl is.sits h low e has)
    where
      keep : Has (pool_of w h).kept.parked.waiting e → about h t e.wish.rank e.wish.request me.0 from.0 e0.wish.rank e0.wish.request ≡ 0
          → Covers (acted w me (Is_hinted at e0 from)) h t e
      keep was none = beside_covered (Is_hinted at e0 from) at e0 h t e is refl is.sits refl low there differs was (omega arith)

      asked_too : h ≡ me → Has (others s.config s.me) t
      asked_too mine =
          let own = own_of w me (Is_hinted at e0 from) well is in
          let all = has_others w.config me t is.here there (λ e. differs (e ∙ ap (λ (k : Server). k.0) (sym mine))) in
          let b = subst (λ (c : Config). Has (others c me) t) (sym own.config) all in
          subst (λ (k : Server). Has (others s.config k) t) (sym own.named) b

      listed : h ≡ me → ((t.0 == from.0) || has_server e0.to_ask t) ≡ true → Has (with_server s.config s.me e0.to_ask from) t
      listed mine test = filter_has (λ (x : Server). (x.0 == from.0) || has_server e0.to_ask x) (others s.config s.me) t
          (asked_too mine) test

      new : h ≡ me → Covers (acted w me (Is_hinted at e0 from)) h t (hinted s e0 from)
      new mine = by_from (cases_eq t.0 from.0)
        where
          either : (b : Bool) → (b || true) ≡ true
          either true = refl
          either false = refl

          was_covered : Covers w h t e0
          was_covered =
              covered h t low there differs e0
              (subst (λ (k : Server). Has (pool_of w k).kept.parked.waiting e0) (sym mine) (has_gone at s.kept.parked.waiting e0 is.sits))

          any_server : (ts : List Server) → Has ts t → has_server ts t ≡ true
          any_server [] none = absurd none
          any_server (x ∷ ts) (inl same) = let it : (x.0 == t.0) ≡ true = eq-eqb x.0 t.0 (ap (λ (k : Server). k.0) same) in rw it refl
          any_server (x ∷ ts) (inr more) = rw (any_server ts more) (either (x.0 == t.0))

          by_cover : t.0 ≢ from.0 → Covers w h t e0 → Covers (acted w me (Is_hinted at e0 from)) h t (hinted s e0 from)
          by_cover other (inl keeps) = inl (wishes_at w me (Is_hinted at e0 from) well is covered t there e0.wish keeps (λ m here. here))
          by_cover other (inr (inl to_ask)) = inr (inl (listed mine (rw (any_server e0.to_ask to_ask) (either (t.0 == from.0)))))
          by_cover other (inr (inr some)) =
              let next = letters_next w me (Is_hinted at e0 from) well is covered h t e0 in
              let none = about_far h t e0.wish.rank e0.wish.request me.0 from.0 e0.wish.rank e0.wish.request (λ e. other (sym e)) in
              inr (inr (omega arith))

          by_from : (t.0 ≡ from.0) ⊎ (t.0 ≢ from.0) → Covers (acted w me (Is_hinted at e0 from)) h t (hinted s e0 from)
          by_from (inl same) = let it : (t.0 == from.0) ≡ true = eq-eqb t.0 from.0 same in inr (inl (listed mine (rw it refl)))
          by_from (inr other) = by_cover other was_covered

      come : h ≡ me → Has (hinted s e0 from ∷ []) e → Covers (acted w me (Is_hinted at e0 from)) h t e
      come mine (inl same) = subst (λ (x : Waiting). Covers (acted w me (Is_hinted at e0 from)) h t x) same (new mine)
      come mine (inr more) = absurd more

      by_waits : ((h.0 ≢ me.0) × Has (pool_of w h).kept.parked.waiting e)
          ⊎ ((h ≡ me) × Has s.kept.parked.waiting e × (e0.wish.rank.0 ≢ e.wish.rank.0)) ⊎
          ((h ≡ me) × Has (comes (Is_hinted at e0 from) s) e)
          → Covers (acted w me (Is_hinted at e0 from)) h t e
      by_waits (inl (away, was)) = keep was
          (about_away h t e.wish.rank e.wish.request me.0 from.0 e0.wish.rank e0.wish.request (λ e. away (sym e)))
      by_waits (inr (inl (mine, was, other))) =
          keep (subst (λ (k : Server). Has (pool_of w k).kept.parked.waiting e) (sym mine) was)
          (about_other h t e.wish.rank e.wish.request me.0 from.0 e0.wish.rank e0.wish.request other)
      by_waits (inr (inr (mine, came))) = come mine came

  -- the rank of an Ask waits at its home with this wish
  asked_covered : (a : Act) (from : Server) (wish : Wish) → IsAct w me a
      → takes a ≡ of_server from (tells.Ask wish.rank wish.request wish.types) ∷ []
      → comes a s ≡ []
      → ((h : Server) → h.0 < w.config.servers → (e : Waiting) → Has (pool_of w h).kept.parked.waiting e → e.wish.rank.0 ≡ wish.rank.0
      → (h ≡ from) × (e.wish ≡ wish))
      → ((x : Wish) → Has s.kept.parked.wishes x → x.rank.0 ≢ wish.rank.0 → Has (wishes_after a s.kept.parked.wishes) x)
      → (Has (wishes_after a s.kept.parked.wishes) wish ⊎ (said_weight (cover_letter from me wish.rank wish.request) me (says a s) ≡ 1))
      → AllCovered (acted w me a)
  unfolding AllCovered
  asked_covered a from wish is takes_it nobody right stays gets h t low there differs e has = by_waits
      (waits_at w me a well is covered h low e has)
    where
      heard_is : (r : Rank) (q : ℕ) → heard_weight (cover_letter h t r q) me (takes a)
          ≡ about h t r q from.0 me.0 wish.rank wish.request + 0
      heard_is r q = ap (heard_weight (cover_letter h t r q) me) takes_it

      other : Has (pool_of w h).kept.parked.waiting e → e.wish.rank.0 ≢ wish.rank.0 → Covers (acted w me a) h t e
      other was not_it =
          let zero_about = about_other h t e.wish.rank e.wish.request from.0 me.0 wish.rank wish.request (λ e. not_it (sym e)) in
          let heard = heard_is e.wish.rank e.wish.request in
          old_covered w me a well is covered h t e low there differs was
          (λ keeps. inl (wishes_at w me a well is covered t there e.wish keeps (λ mine here. stays e.wish here not_it))) (omega arith)

      far : Has (pool_of w h).kept.parked.waiting e → t.0 ≢ me.0 → Covers (acted w me a) h t e
      far was away =
          let zero_about = about_far h t e.wish.rank e.wish.request from.0 me.0 wish.rank wish.request (λ e. away (sym e)) in
          let heard = heard_is e.wish.rank e.wish.request in
          old_covered w me a well is covered h t e low there differs was
          (λ keeps. inl
          (wishes_at w me a well is covered t there e.wish keeps (λ mine here. absurd (away (ap (λ (k : Server). k.0) mine)))))
          (omega arith)

      near : t ≡ me → h ≡ from → e.wish ≡ wish → Covers (acted w me a) h t e
      near mine home_is same = by_gets gets
        where
          by_gets : Has (wishes_after a s.kept.parked.wishes) wish ⊎
              (said_weight (cover_letter from me wish.rank wish.request) me (says a s) ≡ 1)
              → Covers (acted w me a) h t e
          by_gets (inl keeps) = inl (by_now (now w me a well.shape is.here t there))
            where
              by_now : IsMine w me a t ⊎ IsOthers w me a t → Has (pool_of (acted w me a) t).kept.parked.wishes e.wish
              by_now (inl its) = subst (λ (k : Kept). Has k.parked.wishes e.wish) (sym its.kept)
                  (subst (Has (wishes_after a s.kept.parked.wishes)) (sym same) keeps)
              by_now (inr off) = absurd (off.differs (ap (λ (k : Server). k.0) mine))
          by_gets (inr said) =
              let m = cover_letter h t e.wish.rank e.wish.request in
              let said_it : said_weight m me (says a s) ≡ 1 =
              ap (λ (k : Server). said_weight (cover_letter k t e.wish.rank e.wish.request) me (says a s)) home_is
              ∙ ap (λ (k : Server). said_weight (cover_letter from k e.wish.rank e.wish.request) me (says a s)) mine
              ∙ ap (λ (x : Wish). said_weight (cover_letter from me x.rank x.request) me (says a s)) same ∙ said in
              let next = letters_next w me a well is covered h t e in
              let took = taken_weight w.config (covers h t e.wish.rank e.wish.request) me w.links (takes a) is.here is.front
              (well.shape).square in
              inr (inr (omega arith))

      by_rank : Has (pool_of w h).kept.parked.waiting e → (e.wish.rank.0 ≡ wish.rank.0) ⊎ (e.wish.rank.0 ≢ wish.rank.0)
          → (t.0 ≡ me.0) ⊎ (t.0 ≢ me.0) → Covers (acted w me a) h t e
      by_rank was (inr not_it) at = other was not_it
      by_rank was (inl its) (inr away) = far was away
      by_rank was (inl its) (inl here) = let r = right h low e was its in near (ap server_named here) r.0 r.1

      by_waits : Has (pool_of w h).kept.parked.waiting e ⊎ ((h ≡ me) × Has (comes a s) e) → Covers (acted w me a) h t e
      by_waits (inl was) = by_rank was (cases_eq e.wish.rank.0 wish.rank.0) (cases_eq t.0 me.0)
      by_waits (inr (mine, new)) = absurd (subst (λ l. Has l e) nobody new)

  stays_on : (wish x : Wish) → Has s.kept.parked.wishes x → x.rank.0 ≢ wish.rank.0 → Has (unwished wish.rank s.kept.parked.wishes) x
  stays_on wish x has differs =
      filter_has (λ y. not (is_by wish.rank y)) s.kept.parked.wishes x has
      (ap not (false_from_ne_true (x.rank.0 == wish.rank.0) (λ e. differs (eqb-true x.rank.0 wish.rank.0 e))))

  dropped_covered : (from : Server) (rank : Rank) (request : ℕ) → IsAct w me (Drops_hint from rank request)
      → ((e : Waiting) → Has s.kept.parked.waiting e → is_since rank request e ≡ false)
      → AllCovered (acted w me (Drops_hint from rank request))
  unfolding AllCovered
  dropped_covered from rank request is late h t low there differs e has = by_waits
      (waits_at w me (Drops_hint from rank request) well is covered h low e has)
    where
      keep : Has (pool_of w h).kept.parked.waiting e → about h t e.wish.rank e.wish.request me.0 from.0 rank request ≡ 0
          → Covers (acted w me (Drops_hint from rank request)) h t e
      keep was none =
          old_covered w me (Drops_hint from rank request) well is covered h t e low there differs was
          (λ keeps. inl (wishes_at w me (Drops_hint from rank request) well is covered t there e.wish keeps (λ mine here. here)))
          (omega arith)

      by_call : Has (pool_of w h).kept.parked.waiting e → h ≡ me → (rank.0 ≡ e.wish.rank.0) ⊎ (rank.0 ≢ e.wish.rank.0)
          → (request ≡ e.wish.request) ⊎ (request ≢ e.wish.request) → Covers (acted w me (Drops_hint from rank request)) h t e
      by_call was mine (inr other) call = keep was (about_other h t e.wish.rank e.wish.request me.0 from.0 rank request other)
      by_call was mine (inl its) (inr other) = keep was (about_call h t e.wish.rank e.wish.request me.0 from.0 rank request other)
      by_call was mine (inl its) (inl call) =
          let here = subst (λ (k : Server). Has (pool_of w k).kept.parked.waiting e) mine was in
          let no_since = late e here in
          let a = eq-eqb e.wish.rank.0 rank.0 (sym its) in
          let b = eq-eqb e.wish.request request (sym call) in
          let since : is_since rank request e ≡ true = rw (a, b) refl in
          let no : false ≡ true = sym no_since ∙ since in
          absurd (cc)

      by_home : Has (pool_of w h).kept.parked.waiting e → (h.0 ≡ me.0) ⊎ (h.0 ≢ me.0)
          → Covers (acted w me (Drops_hint from rank request)) h t e
      by_home was (inl e_me) =
          by_call was (ap server_named e_me) (cases_eq rank.0 e.wish.rank.0) (cases_eq request e.wish.request)
      by_home was (inr away) = keep was (about_away h t e.wish.rank e.wish.request me.0 from.0 rank request (λ e. away (sym e)))

      by_waits : Has (pool_of w h).kept.parked.waiting e ⊎ ((h ≡ me) × ⊥) → Covers (acted w me (Drops_hint from rank request)) h t e
      by_waits (inl was) = by_home was (cases_eq h.0 me.0)
      by_waits (inr (mine, none)) = absurd none

  -- the act that takes a letter keeps it
  pub first_covered : (a : Act) (x : Heard) → IsAct w me a → takes a ≡ x ∷ [] → IsRight w me a → AllCovered (acted w me a)
  first_covered (Asks_on at wish to rest) x is one_taken right = absurd (cc)
  first_covered (Hints wish) x is one_taken right = absurd (cc)
  first_covered (Parks wish) x is one_taken right = parks_covered wish is
  first_covered (Wakes at wish from rest) x is one_taken right =
      turned_covered w me (Wakes at wish from rest) well is covered (awaiting wish from rest) (idle wish rest) refl
      (has_gone at s.kept.parked.waiting (awaiting wish from rest) is.sits) refl (λ t there differs has. inl has) refl (λ h t r q. refl)
  first_covered (Is_hinted at e from) x is one_taken right = hinted_covered at e from is
  first_covered (Passes_on at wish from rest note) x is one_taken right = passes_covered at wish from rest note is
  first_covered (Drops_hint from rank request) x is one_taken right = dropped_covered from rank request is right
  first_covered (Answers from wish unit) x is one_taken right =
      asked_covered (Answers from wish unit) from wish is refl refl right (λ y has differs. stays_on wish y has differs)
      (inr (let its = about_self from me wish.rank wish.request in omega arith))
  first_covered (Declines from wish) x is one_taken right =
      asked_covered (Declines from wish) from wish is refl refl right
      (λ y has differs. has_left (unwished wish.rank s.kept.parked.wishes) (wish ∷ []) y (stays_on wish y has differs))
      (inl (has_there (unwished wish.rank s.kept.parked.wishes) wish []))
  first_covered _ x is one_taken right = plain_covered w me _ well is covered refl refl (λ h t r q. refl)
