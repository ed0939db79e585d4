-- Between events no rank is idle at a server that knows that the problem is done: it was told.
use Rattle.std.proofs.Common.{◌≡◌, ◌≤◌, ◌⊎◌, inl, inr, ℕ, ◌==◌, ◌&&◌, Bool, true, false, cond, List, [], ◌∷◌, ◌++◌, Option, None, Some}
use Rattle.std.proofs.Common.{refl, sym, ap, ◌∙◌, subst, arith, append_assoc}
use Rattle.std.specs.Option.{option_map}
use Rattle.std.specs.Prelude.{IfSome, nat_lt}
use Rattle.std.proofs.lemmas.Bool.{eq-eqb}
use Rattle.adlb_unit.specs.Limits.{stamp_limit}
use Rattle.adlb_unit.specs.Links.{is_within}
use Rattle.adlb_unit.specs.declared.actors.Actor.{Actor}
use Rattle.adlb_unit.specs.declared.actors.Actor.TheVariants as by
use Rattle.adlb_unit.specs.declared.letters.Letter.{Letter}
use Rattle.adlb_unit.specs.declared.messages.Message.{Message}
use Rattle.adlb_unit.specs.declared.messages.Message.TheVariants as tells
use Rattle.adlb_unit.specs.declared.names.Rank.{Rank}
use Rattle.adlb_unit.specs.declared.names.Server.{Server}
use Rattle.adlb_unit.specs.declared.notes.End.{End}
use Rattle.adlb_unit.specs.declared.notes.End.TheVariants as ends_by
use Rattle.bag_ledger.proofs.Tests.{some_is}
use Rattle.work_queue.specs.declared.placing.Placed.{Placed}
use Rattle.server_components.specs.Parked.{is_idle, is_of}
use Rattle.server_components.specs.declared.waits.Waiting.{Waiting}
use Rattle.server_components.specs.declared.wishes.Wish.{Wish}
use Rattle.server_law.specs.Acts.{Act, Around, Heard, Hears_done, Parks, Tells, Wakes, comes, does, done_after, goes, says, takes}
use Rattle.server_law.specs.Acts.{waiting_after}
use Rattle.server_law.specs.Asks.{wake, wake_at}
use Rattle.server_law.specs.Carried.{Served, all_done, carried, done}
use Rattle.server_law.specs.Endings.{ends_event, tells_all, tells_one}
use Rattle.server_law.specs.Finding.{Place, behind_one, best_for, has_asked, place_in}
use Rattle.server_law.specs.Plan.{Decider, Plan, decided, in_order}
use Rattle.server_law.specs.Reserves.{reserve}
use Rattle.server_law.specs.State.{Kept, ServerModel, idle, runs_at_home}
use Rattle.server_law.specs.Step.{acts, at_event, rule, serve}
use Rattle.server_law.specs.Sure.{AreSure, SitsIn, TakeNone}
use Rattle.server_law.specs.Waits.{look_again, look_at, looks_again}
use Rattle.server_law.proofs.Decided.{IsIdleAt, idle_found}
use Rattle.server_law.proofs.Handled.{planned}
use Rattle.server_law.proofs.Plans.{IsPlan}
use Rattle.core_law.specs.Letters.{if_idle}
use Rattle.core_law.specs.Measures.{weigh}
use Rattle.core_law.proofs.Acts.{counted_kept}
use Rattle.core_law.proofs.Sums.{weigh-append}
use Rattle.core_law.proofs.Waits.{waits}
use Rattle.core_check_law.specs.Settling.{Has}
use Rattle.core_check_law.proofs.Lists.{has_there}

-- how many are idle
abbrev pub idles : List Waiting → ℕ
idles es = weigh (λ (e : Waiting). if_idle e.asked 1) es

-- no rank is idle here if the server knows that the problem is done
abbrev pub IsTold : ServerModel → Type 0
IsTold s = s.kept.done ≡ true → idles s.kept.parked.waiting ≡ 0

-- One act.

-- a rank may become idle, or the server hears that the problem is done
abbrev pub rises : Act → Bool
rises (Parks wish) = true
rises (Wakes at wish from rest) = true
rises (Hears_done rank request) = true
rises _ = false

waiting_is : (a : Act) (s : ServerModel) → (done a s).kept.parked.waiting ≡ waiting_after a s
waiting_is a s = ap (λ (x : Kept). x.parked.waiting) (counted_kept (does a s) (says a s))

done_is : (a : Act) (s : ServerModel) → (done a s).kept.done ≡ done_after a s.kept.done
done_is a s = ap (λ (x : Kept). x.done) (counted_kept (does a s) (says a s))

same_done : (a : Act) (is_done : Bool) → rises a ≡ false → done_after a is_done ≡ is_done
same_done (Hears_done rank request) is_done low = absurd (cc)
same_done _ is_done low = refl

few_come : (a : Act) (s : ServerModel) → rises a ≡ false → idles (comes a s) ≤ idles (goes a)
few_come (Parks wish) s low = absurd (cc)
few_come (Wakes at wish from rest) s low = absurd (cc)
few_come _ s low = omega arith

-- an act by which nobody becomes idle keeps that idle ranks were told
pub act_told : (a : Act) (s : ServerModel) → SitsIn a s → rises a ≡ false → IsTold s → IsTold (done a s)
act_told a s sits low told is_done =
    let was = told (sym (done_is a s ∙ same_done a s.kept.done low) ∙ is_done) in
    let all = waits (λ (e : Waiting). if_idle e.asked 1) a s sits in
    let few = few_come a s low in
    let now : idles (done a s).kept.parked.waiting ≡ idles (waiting_after a s) = ap idles (waiting_is a s) in
    omega arith

-- Acts that follow.

follows_low : (a : Act) → takes a ≡ [] → rises a ≡ false
follows_low (Parks wish) none = absurd (cc)
follows_low (Wakes at wish from rest) none = absurd (cc)
follows_low (Hears_done rank request) none = absurd (cc)
follows_low _ none = refl

-- acts that take no letter keep that idle ranks were told
pub more_told : (list : List Act) (s : ServerModel) → AreSure list s → TakeNone list → IsTold s → IsTold (all_done list s)
more_told [] s sure none told = told
more_told (a ∷ list) s sure none told =
    more_told list (done a s) sure.2 none.1 (act_told a s sure.0 (follows_low a none.0) told)

-- acts that take no letter leave whether the problem is done
pub more_done : (list : List Act) (s : ServerModel) → TakeNone list → (all_done list s).kept.done ≡ s.kept.done
more_done [] s none = refl
more_done (a ∷ list) s none =
    more_done list (done a s) none.1 ∙ done_is a s ∙ same_done a s.kept.done (follows_low a none.0)

sure_rest : (xs ys : List Act) (s : ServerModel) → AreSure (xs ++ ys) s → AreSure ys (all_done xs s)
sure_rest [] ys s sure = sure
sure_rest (x ∷ xs) ys s sure = sure_rest xs ys (done x s) sure.2

none_rest : (xs ys : List Act) → TakeNone (xs ++ ys) → TakeNone ys
none_rest [] ys none = none
none_rest (x ∷ xs) ys none = none_rest xs ys none.1

all_joined : (xs ys : List Act) (s : ServerModel) → all_done (xs ++ ys) s ≡ all_done ys (all_done xs s)
all_joined [] ys s = refl
all_joined (x ∷ xs) ys s = all_joined xs ys (done x s)

-- A rank that has become idle is looked at again.

none_placed : (test : Waiting → Bool) (es : List Waiting) (e : Waiting) → place_in test es ≡ None → Has es e → test e ≡ false
none_placed test [] e none has = absurd has
none_placed test (x ∷ es) e none has = by_test (test x) refl none has (λ n. none_placed test es e n)
  where
    back : (o : Option Place) → behind_one x o ≡ None → o ≡ None
    back None n = refl
    back (Some p) n = absurd (cc)

    by_test : (t : Bool) → test x ≡ t
        → cond t (Some (record { at = record { before = []; behind = es }; here = x })) (behind_one x (place_in test es)) ≡ None
        → (x ≡ e) ⊎ Has es e → (place_in test es ≡ None → Has es e → test e ≡ false) → test e ≡ false
    by_test true is n h later = absurd (cc)
    by_test false is n (inl same) later = ap test (sym same) ∙ is
    by_test false is n (inr more) later = later (back (place_in test es) n) more

module _ (s : ServerModel) (at : Around) (wish : Wish) (from : Server) (rest : List Server) (sits : SitsIn (Wakes at wish from rest) s)
    (told : IsTold s) where
  abbrev a : Act
  a = Wakes at wish from rest

  abbrev t : ServerModel
  t = done a s

  abbrev test : Waiting → Bool
  test e = is_of wish.rank e && is_idle e

  one_idle : t.kept.done ≡ true → idles t.kept.parked.waiting ≡ 1
  one_idle is_done =
      let was = told (sym (done_is a s) ∙ is_done) in
      let all = waits (λ (e : Waiting). if_idle e.asked 1) a s sits in
      let now : idles t.kept.parked.waiting ≡ idles (waiting_after a s) = ap idles (waiting_is a s) in
      omega arith

  looked : (is_done exhausted : Bool) (best : Option Placed) (p : Place) → IsIdleAt wish.rank t.kept.parked.waiting p
      → t.kept.done ≡ is_done
      → IsTold (all_done (look_again is_done exhausted best p.at p.here.wish p.here.to_ask) t)
  looked true exhausted best p is e later =
      let one = one_idle e in
      let c = Tells p.at p.here.wish p.here.to_ask ends_by.NoMoreWork in
      let all = waits (λ (e : Waiting). if_idle e.asked 1) c t is.stands in
      let now : idles (done c t).kept.parked.waiting ≡ idles (waiting_after c t) = ap idles (waiting_is c t) in
      omega arith
  looked false true best p is e later =
      let c = Tells p.at p.here.wish p.here.to_ask ends_by.Exhausted in
      let same = more_done (c ∷ []) t (refl, tt) in
      let no : false ≡ true = sym e ∙ sym same ∙ later in
      absurd (cc)
  looked false false None p is e later = let no : false ≡ true = sym e ∙ later in absurd (cc)
  looked false false (Some unit) p is e later =
      let list = look_again false false (Some unit) p.at p.here.wish p.here.to_ask in
      let same = more_done list t (refl, tt) in
      let no : false ≡ true = sym e ∙ sym same ∙ later in
      absurd (cc)

  looks_told : IsTold (all_done (looks_again wish.rank t) t)
  looks_told = by_place (place_in test t.kept.parked.waiting) refl (idle_found wish.rank t.kept.parked.waiting)
    where
      there : Has t.kept.parked.waiting (idle wish rest)
      there = subst (λ (l : List Waiting). Has l (idle wish rest)) (sym (waiting_is a s)) (has_there at.before (idle wish rest) at.behind)

      by_place : (o : Option Place) → place_in test t.kept.parked.waiting ≡ o → IfSome o (IsIdleAt wish.rank t.kept.parked.waiting)
          → IsTold (all_done (look_at t.kept o) t)
      by_place None is found =
          let no = none_placed test t.kept.parked.waiting (idle wish rest) is there in
          let yes : test (idle wish rest) ≡ true = rw (eq-eqb wish.rank.0 wish.rank.0 refl) refl in
          let e : false ≡ true = sym no ∙ yes in
          absurd (cc)
      by_place (Some p) is found = looked t.kept.done t.kept.exhausted (best_for t.kept p.here.wish) p found refl

-- All that are idle are told.
told_all : (end : End) (behind before : List Waiting) (s : ServerModel) → s.kept.parked.waiting ≡ before ++ behind → idles before ≡ 0
    → idles (all_done (tells_all end before behind) s).kept.parked.waiting ≡ 0
told_all end [] before s stands none =
    let all = weigh-append (λ (e : Waiting). if_idle e.asked 1) before [] in
    let same = ap idles stands in
    omega arith
told_all end (e ∷ behind) before s stands none = by_asked e.asked refl (λ ahead x. told_all end behind ahead x)
  where
    at : Around
    at = record { before = before; behind = behind }

    by_asked : (o : Option Server) → e.asked ≡ o
        → ((ahead : List Waiting) (x : ServerModel) → x.kept.parked.waiting ≡ ahead ++ behind → idles ahead ≡ 0
        → idles (all_done (tells_all end ahead behind) x).kept.parked.waiting ≡ 0)
        → idles (all_done (tells_one end at e o (tells_all end before behind)
        (tells_all end (before ++ e ∷ []) behind)) s).kept.parked.waiting ≡ 0
    by_asked None asked later =
        later before (done (Tells at e.wish e.to_ask end) s) (waiting_is (Tells at e.wish e.to_ask end) s) none
    by_asked (Some t) asked later =
        let all = weigh-append (λ (x : Waiting). if_idle x.asked 1) before (e ∷ []) in
        let its : if_idle e.asked 1 ≡ 0 = ap (λ o. if_idle o 1) asked in
        later (before ++ e ∷ []) s (stands ∙ sym (append_assoc before (e ∷ []) behind)) (omega arith)

-- Plans: the first act raises nothing; or the server does not know that the problem is done; or the first decider tells those that are
-- idle.

-- by its first act nobody becomes idle, or the problem is not done, or the first decider tells those that are idle
abbrev pub Settles : ServerModel → Plan → Type 0
Settles s p =
    (rises p.first ≡ false) ⊎ ((done p.first s).kept.done ≡ false)
    ⊎ ((d : Decider) × (ds : List Decider) × (p.follow ≡ d ∷ ds) × IsTold (all_done (d (done p.first s)) (done p.first s)))

abbrev may_rise : Message → Bool
may_rise (tells.Reserve request types) = true
may_rise (tells.AskNone rank request) = true
may_rise (tells.Done request) = true
may_rise _ = false

abbrev may_rise_all : List Heard → Bool
may_rise_all [] = false
may_rise_all (h ∷ more) = may_rise h.message

rises_taken : (a : Act) → may_rise_all (takes a) ≡ false → rises a ≡ false
rises_taken (Parks wish) e = absurd (cc)
rises_taken (Wakes at wish from rest) e = absurd (cc)
rises_taken (Hears_done rank request) e = absurd (cc)
rises_taken _ e = refl

module _ (s : ServerModel) (told : IsTold s) where
  parks_settles : (wish : Wish) (is_done exhausted : Bool) (best : Option Placed) (follow : List Decider) → s.kept.done ≡ is_done
      → Settles s (record { first = reserve is_done exhausted best wish; follow = follow })
  parks_settles wish true exhausted best follow e = inl refl
  parks_settles wish false true best follow e = inl refl
  parks_settles wish false false (Some p) follow e = inl refl
  parks_settles wish false false None follow e = inr (inl (done_is (Parks wish) s ∙ e))

  when : (t : Bool) (p : Plan) → Settles s p → IfSome (cond t (Some p) None) (Settles s)
  when true p is = is
  when false p is = tt

  wakes_settles : (p : Place) (o : Option Server) (from : Actor) (m : Message) → IfSome (wake p o) (IsPlan s from m)
      → IfSome (wake p o) (Settles s)
  wakes_settles p None from m plan = tt
  wakes_settles p (Some asked) from m plan =
      inr (inr (_, _, refl, looks_told s p.at p.here.wish asked p.here.to_ask plan.sits told))

  wake_settles : (o : Option Place) (from : Actor) (m : Message) → IfSome (wake_at o) (IsPlan s from m) → IfSome (wake_at o) (Settles s)
  wake_settles None from m plan = tt
  wake_settles (Some p) from m plan = wakes_settles p p.here.asked from m plan

  none_settles : (t : Bool) (from : Server) (rank : Rank) (request : ℕ)
      → IfSome (cond t None (wake_at (place_in (has_asked from rank request) s.kept.parked.waiting)))
      (IsPlan s (by.Server from) (tells.AskNone rank request))
      → IfSome (cond t None (wake_at (place_in (has_asked from rank request) s.kept.parked.waiting))) (Settles s)
  none_settles true from rank request plan = tt
  none_settles false from rank request plan =
      wake_settles (place_in (has_asked from rank request) s.kept.parked.waiting) (by.Server from) (tells.AskNone rank request) plan

  other_settles : (from : Actor) (m : Message) (o : Option Plan) → may_rise m ≡ false → IfSome o (IsPlan s from m) → IfSome o (Settles s)
  other_settles from m None low plan = tt
  other_settles from m (Some p) low plan = inl (rises_taken p.first (ap may_rise_all plan.takes ∙ low))

  by_none : (t : Bool) → IfSome (cond {A = Option Plan} t None None) (Settles s)
  by_none true = tt
  by_none false = tt

  -- by each letter nobody becomes idle at a server that knows that the problem is done without being told
  pub settles_by : (from : Actor) (m : Message) → IfSome (rule s from m) (IsPlan s from m) → IfSome (rule s from m) (Settles s)
  settles_by (by.Rank from) (tells.Reserve request types) plan =
      when (runs_at_home s from) _
      (parks_settles (record { rank = from; request = request; types = types }) s.kept.done s.kept.exhausted
      (best_for s.kept (record { rank = from; request = request; types = types })) _ refl)
  settles_by (by.Rank from) (tells.Done request) plan =
      inr (inr (
        _,
        _,
        refl,
        λ e. told_all ends_by.NoMoreWork (done (Hears_done from request) s).kept.parked.waiting []
            (done (Hears_done from request) s) refl refl,
      ))
  settles_by (by.Rank from) (tells.AskNone rank request) plan = tt
  settles_by (by.Server from) (tells.AskNone rank request) plan = none_settles (from.0 == s.me.0) from rank request plan
  settles_by (by.Server from) (tells.Reserve request types) plan = by_none (from.0 == s.me.0)
  settles_by (by.Server from) (tells.Done request) plan = by_none (from.0 == s.me.0)
  settles_by from m plan = by_class from m plan refl
    where
      by_class : (from : Actor) (m : Message) → IfSome (rule s from m) (IsPlan s from m) → may_rise m ≡ false
          → IfSome (rule s from m) (Settles s)
      by_class from m plan low = other_settles from m (rule s from m) low plan

  plan_told : (from : Actor) (m : Message) (p : Plan) → IsPlan s from m p → Settles s p → IsTold (all_done (in_order ends_event s p) s)
  plan_told from m p plan (inl low) =
      more_told (decided (p.follow ++ ends_event) (done p.first s)) (done p.first s) plan.follow.0 plan.follow.1
      (act_told p.first s plan.sits low told)
  plan_told from m p plan (inr (inl off)) =
      more_told (decided (p.follow ++ ends_event) (done p.first s)) (done p.first s) plan.follow.0 plan.follow.1
      (λ e. let no : false ≡ true = sym off ∙ e in absurd (cc))
  plan_told from m p plan (inr (inr (d, ds, same, here))) =
      let t = done p.first s in
      let xs = d t in
      let ys = decided (ds ++ ends_event) (all_done xs t) in
      let list : decided (p.follow ++ ends_event) t ≡ xs ++ ys = ap (λ l. decided (l ++ ends_event) t) same in
      let sure = sure_rest xs ys t (subst (λ l. AreSure l t) list plan.follow.0) in
      let none = none_rest xs ys (subst TakeNone list plan.follow.1) in
      subst IsTold (sym (ap (λ l. all_done l t) list ∙ all_joined xs ys t)) (more_told ys (all_done xs t) sure none here)

carried_state : (list : List Act) (s : ServerModel) → (carried list s).state ≡ all_done list s
carried_state [] s = refl
carried_state (a ∷ list) s = carried_state list (done a s)

-- an event
pub serve_told : (s : ServerModel) (from : Actor) (letter : Letter) (x : Served) → serve s from letter ≡ Some x → IsTold s → IsTold x.state
serve_told s from letter x is told = by_test (is_within s.config from && nat_lt letter.stamp stamp_limit) is
  where
    t : ServerModel
    t = at_event s letter

    by_plan : (o : Option Plan) → IfSome o (IsPlan t from letter.message) → IfSome o (Settles t)
        → option_map (λ list. carried list t) (option_map (in_order ends_event t) o) ≡ Some x → IsTold x.state
    by_plan None plan settles e = absurd (cc)
    by_plan (Some p) plan settles e =
        let list = in_order ends_event t p in
        let same : all_done list t ≡ x.state = sym (carried_state list t) ∙ ap (λ (y : Served). y.state) (some_is e) in
        subst IsTold same (plan_told t told from letter.message p plan settles)

    by_test : (b : Bool) → cond b (option_map (λ list. carried list t) (acts t from letter.message)) None ≡ Some x → IsTold x.state
    by_test true e =
        let plan = planned t from letter.message in
        by_plan (rule t from letter.message) plan (settles_by t told from letter.message plan) e
    by_test false e = absurd (cc)

-- no rank of the list is idle
pub told_is : (s : ServerModel) (e : Waiting) → IsTold s → Has s.kept.parked.waiting e → e.asked ≡ None → s.kept.done ≡ false
told_is s e told has asked = by_flag s.kept.done refl
  where
    some : (es : List Waiting) → Has es e → 1 ≤ idles es
    some [] h = absurd h
    some (x ∷ es) (inl same) =
        let its : if_idle x.asked 1 ≡ 1 = ap (λ (y : Waiting). if_idle y.asked 1) same ∙ ap (λ o. if_idle o 1) asked in omega arith
    some (x ∷ es) (inr later) = let more = some es later in omega arith

    by_flag : (t : Bool) → s.kept.done ≡ t → s.kept.done ≡ false
    by_flag false is = is
    by_flag true is = let none = told is in let one = some s.kept.parked.waiting has in absurd (omega arith)
