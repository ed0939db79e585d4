-- Between events no rank is idle at a server of several that knows that all work was found used up: it was told.
use Rattle.adlb_unit.specs.Limits.{stamp_limit}
use Rattle.adlb_unit.specs.Links.{is_within}
use Rattle.adlb_unit.specs.declared.actors.Actor.{Actor}
use Rattle.adlb_unit.specs.declared.configs.Config.{Config}
use Rattle.adlb_unit.specs.declared.letters.Letter.{Letter}
use Rattle.adlb_unit.specs.declared.messages.Message.{Message}
use Rattle.adlb_unit.specs.declared.messages.Why.{Why}
use Rattle.adlb_unit.specs.declared.names.Rank.{Rank}
use Rattle.adlb_unit.specs.declared.names.Server.{Server}
use Rattle.adlb_unit.specs.declared.notes.End.{End}
use Rattle.adlb_unit.specs.declared.tokens.Token.{Token}
use Rattle.bag_ledger.proofs.Tests.{some_is}
use Rattle.core_check_law.proofs.Lists.{has_there}
use Rattle.core_check_law.specs.Settling.{Has}
use Rattle.core_law.proofs.Acts.{counted_kept}
use Rattle.core_law.proofs.Sums.{weigh-append}
use Rattle.core_law.proofs.Waits.{waits}
use Rattle.core_law.specs.Letters.{if_idle}
use Rattle.core_law.specs.Measures.{weigh}
use Rattle.exhaust_ring.specs.Expected.{expects}
use Rattle.exhaust_ring.specs.Ring.{Asker}
use Rattle.exhaust_ring.specs.Tests.{first_failing}
use Rattle.server_components.specs.Parked.{is_idle, is_of}
use Rattle.server_components.specs.declared.waits.Waiting.{Waiting}
use Rattle.server_components.specs.declared.wishes.Wish.{Wish}
use Rattle.server_law.proofs.Carrying.{carried_state}
use Rattle.server_law.proofs.Decided.{Follow, IsIdleAt, idle_found}
use Rattle.server_law.proofs.Handled.{planned}
use Rattle.server_law.proofs.Once.{follow_rest}
use Rattle.server_law.proofs.Plans.{IsPlan}
use Rattle.server_law.proofs.Waiters.{all_done_joined, done_named}
use Rattle.server_law.specs.Acts.{Act, Around, Finds, Finds_alone, Gives, Heard, Hears_exhaust, Parks, Tells, Wakes, comes, does}
use Rattle.server_law.specs.Acts.{exhausted_after, fit_among, goes, says, takes, waiting_after}
use Rattle.server_law.specs.Asks.{wake, wake_at}
use Rattle.server_law.specs.Carried.{Served, all_done, carried, done}
use Rattle.server_law.specs.Checks.{marks, tests, tests_now, verdict, visit, visit_other, visit_zeroth}
use Rattle.server_law.specs.Endings.{ends_event, is_quiet, tells_all, tells_idle, tells_one}
use Rattle.server_law.specs.Finding.{Place, behind_one, best_for, has_asked, place_in}
use Rattle.server_law.specs.Plan.{Decider, Plan, decided, in_order, plan}
use Rattle.server_law.specs.Reserves.{reserve}
use Rattle.server_law.specs.State.{Kept, ServerModel, idle, ring_at, runs_at_home}
use Rattle.server_law.specs.Step.{acts, at_event, rule, serve}
use Rattle.server_law.specs.Sure.{AreSure, SitsIn, Sure, TakeNone}
use Rattle.server_law.specs.Waits.{look_again, look_at, looks_again}
use Rattle.std.proofs.Common.{Bool, List, None, Option, Some, [], ap, append_assoc, arith, cond, false, inl, inr, refl, subst, sym, true, ℕ}
use Rattle.std.proofs.Common.{◌&&◌, ◌++◌, ◌==◌, ◌∙◌, ◌∷◌, ◌≡◌, ◌≢◌, ◌≤◌, ◌⊎◌}
use Rattle.std.proofs.lemmas.Bool.{eq-eqb}
use Rattle.std.specs.Option.{option_map}
use Rattle.std.specs.Prelude.{IfSome, nat_lt}
use Rattle.work_queue.specs.declared.placing.Placed.{Placed}
use Rattle.adlb_unit.specs.declared.actors.Actor.TheVariants as by
use Rattle.adlb_unit.specs.declared.messages.Message.TheVariants as tells
use Rattle.adlb_unit.specs.declared.notes.End.TheVariants as ends_by

-- how many are idle
abbrev pub idles : List Waiting → ℕ
idles es = weigh (λ (e : Waiting). if_idle e.asked 1) es

-- once all work was found used up, nobody is idle
abbrev pub IsFull : ServerModel → Type 0
IsFull s = s.kept.exhausted ≡ true → idles s.kept.parked.waiting ≡ 0

-- One act.

-- a rank may become idle, or the server finds or hears that all work is used up
abbrev pub rises : Act → Bool
rises (Parks wish) = true
rises (Wakes at wish from rest) = true
rises (Finds from t) = true
rises (Hears_exhaust from) = true
rises Finds_alone = true
rises _ = false

abbrev finds_it : Act → Bool
finds_it (Finds from t) = true
finds_it (Hears_exhaust from) = true
finds_it Finds_alone = true
finds_it _ = false

low_finds : (a : Act) → rises a ≡ false → finds_it a ≡ false
low_finds (Finds from t) low = absurd (cc)
low_finds (Hears_exhaust from) low = absurd (cc)
low_finds Finds_alone low = absurd (cc)
low_finds _ low = refl

-- who waits after an act
pub waiting_is : (a : Act) (s : ServerModel) → (done a s).kept.parked.waiting ≡ waiting_after a s
waiting_is a s = ap (λ (x : Kept). x.parked.waiting) (counted_kept (does a s) (says a s))

-- whether all work was found used up after an act
pub done_is : (a : Act) (s : ServerModel) → (done a s).kept.exhausted ≡ exhausted_after a s.kept.exhausted
done_is a s = ap (λ (x : Kept). x.exhausted) (counted_kept (does a s) (says a s))

same_done : (a : Act) (is_full : Bool) → finds_it a ≡ false → exhausted_after a is_full ≡ is_full
same_done (Finds from t) is_full low = absurd (cc)
same_done (Hears_exhaust from) is_full low = absurd (cc)
same_done Finds_alone is_full low = absurd (cc)
same_done _ is_full low = refl

few_come : (a : Act) (s : ServerModel) → rises a ≡ false → idles (comes a s) ≤ idles (goes a)
few_come (Parks wish) s low = absurd (cc)
few_come (Wakes at wish from rest) s low = absurd (cc)
few_come _ s low = omega arith

-- an act that makes nobody idle and finds nothing keeps it
pub act_told : (a : Act) (s : ServerModel) → SitsIn a s → rises a ≡ false → IsFull s → IsFull (done a s)
act_told a s sits low told is_done =
    let was = told (sym (done_is a s ∙ same_done a s.kept.exhausted (low_finds a low)) ∙ is_done) in
    let all = waits (λ (e : Waiting). if_idle e.asked 1) a s sits in
    let few = few_come a s low in
    let now : idles (done a s).kept.parked.waiting ≡ idles (waiting_after a s) = ap idles (waiting_is a s) in
    omega arith

-- Acts that follow.

follows_low : (a : Act) (s : ServerModel) → takes a ≡ [] → Sure a s → s.config.servers ≢ 1 → rises a ≡ false
follows_low (Parks wish) s none sure several = absurd (cc)
follows_low (Wakes at wish from rest) s none sure several = absurd (cc)
follows_low (Finds from t) s none sure several = absurd (cc)
follows_low (Hears_exhaust from) s none sure several = absurd (cc)
follows_low Finds_alone s none sure several = absurd (several sure.alone)
follows_low _ s none sure several = refl

still_several : (a : Act) (s : ServerModel) → s.config.servers ≢ 1 → (done a s).config.servers ≢ 1
still_several a s several e = several (ap (λ (c : Config). c.servers) (sym (done_named a s).0) ∙ e)

all_several : (list : List Act) (s : ServerModel) → s.config.servers ≢ 1 → (all_done list s).config.servers ≢ 1
all_several [] s several = several
all_several (a ∷ list) s several = all_several list (done a s) (still_several a s several)

more_told : (list : List Act) (s : ServerModel) → AreSure list s → TakeNone list → s.config.servers ≢ 1 → IsFull s
    → IsFull (all_done list s)
more_told [] s sure none several told = told
more_told (a ∷ list) s sure none several told =
    more_told list (done a s) sure.2 none.1 (still_several a s several)
    (act_told a s sure.0 (follows_low a s none.0 sure.1 several) told)

-- A rank that has become idle is looked at again.

none_placed : (test : Waiting → Bool) (es : List Waiting) (e : Waiting) → place_in test es ≡ None → Has es e → test e ≡ false
none_placed test [] e none has = absurd has
none_placed test (x ∷ es) e none has = by_test (test x) refl none has (λ n. none_placed test es e n)
  where
    back : (o : Option Place) → behind_one x o ≡ None → o ≡ None
    back None n = refl
    back (Some p) n = absurd (cc)

    by_test : (t : Bool) → test x ≡ t
        → cond t (Some (record { at = record { before = []; behind = es }; here = x })) (behind_one x (place_in test es)) ≡ None
        → (x ≡ e) ⊎ Has es e → (place_in test es ≡ None → Has es e → test e ≡ false) → test e ≡ false
    by_test true is n h later = absurd (cc)
    by_test false is n (inl same) later = ap test (sym same) ∙ is
    by_test false is n (inr more) later = later (back (place_in test es) n) more

module _ (s : ServerModel) (at : Around) (wish : Wish) (from : Server) (rest : List Server) (sits : SitsIn (Wakes at wish from rest) s)
    (told : IsFull s) where
  abbrev a : Act
  a = Wakes at wish from rest

  abbrev t : ServerModel
  t = done a s

  abbrev test : Waiting → Bool
  test e = is_of wish.rank e && is_idle e

  one_idle : t.kept.exhausted ≡ true → idles t.kept.parked.waiting ≡ 1
  one_idle is_full =
      let was = told (sym (done_is a s) ∙ is_full) in
      let all = waits (λ (e : Waiting). if_idle e.asked 1) a s sits in
      let now : idles t.kept.parked.waiting ≡ idles (waiting_after a s) = ap idles (waiting_is a s) in
      omega arith

  tells_same : (at : Around) (w : Wish) (r : List Server) (end : End) → (done (Tells at w r end) t).kept.exhausted ≡ t.kept.exhausted
  tells_same at w r end = done_is (Tells at w r end) t

  looked : (is_done exhausted : Bool) (best : Option Placed) (p : Place) → IsIdleAt wish.rank t.kept.parked.waiting p
      → t.kept.exhausted ≡ exhausted
      → IsFull (all_done (look_again is_done exhausted best p.at p.here.wish p.here.to_ask) t)
  looked true exhausted best p is e later =
      let c = Tells p.at p.here.wish p.here.to_ask ends_by.NoMoreWork in
      let one = one_idle (sym (tells_same p.at p.here.wish p.here.to_ask ends_by.NoMoreWork) ∙ later) in
      let all = waits (λ (e : Waiting). if_idle e.asked 1) c t is.stands in
      let now : idles (done c t).kept.parked.waiting ≡ idles (waiting_after c t) = ap idles (waiting_is c t) in
      omega arith
  looked false true best p is e later =
      let c = Tells p.at p.here.wish p.here.to_ask ends_by.Exhausted in
      let one = one_idle e in
      let all = waits (λ (e : Waiting). if_idle e.asked 1) c t is.stands in
      let now : idles (done c t).kept.parked.waiting ≡ idles (waiting_after c t) = ap idles (waiting_is c t) in
      omega arith
  looked false false None p is e later = let no : false ≡ true = sym e ∙ later in absurd (cc)
  looked false false (Some unit) p is e later =
      let same = done_is (Gives p.at p.here.wish p.here.to_ask unit.unit) t in
      let no : false ≡ true = sym e ∙ sym same ∙ later in
      absurd (cc)

  looks_told : IsFull (all_done (looks_again wish.rank t) t)
  looks_told = by_place (place_in test t.kept.parked.waiting) refl (idle_found wish.rank t.kept.parked.waiting)
    where
      there : Has t.kept.parked.waiting (idle wish rest)
      there = subst (λ (l : List Waiting). Has l (idle wish rest)) (sym (waiting_is a s)) (has_there at.before (idle wish rest) at.behind)

      by_place : (o : Option Place) → place_in test t.kept.parked.waiting ≡ o → IfSome o (IsIdleAt wish.rank t.kept.parked.waiting)
          → IsFull (all_done (look_at t.kept o) t)
      by_place None is found =
          let no = none_placed test t.kept.parked.waiting (idle wish rest) is there in
          let yes : test (idle wish rest) ≡ true = rw (eq-eqb wish.rank.0 wish.rank.0 refl) refl in
          let e : false ≡ true = sym no ∙ yes in
          absurd (cc)
      by_place (Some p) is found = looked t.kept.done t.kept.exhausted (best_for t.kept p.here.wish) p found refl

-- All that are idle are told.
pub told_all : (end : End) (behind before : List Waiting) (s : ServerModel) → s.kept.parked.waiting ≡ before ++ behind → idles before ≡ 0
    → idles (all_done (tells_all end before behind) s).kept.parked.waiting ≡ 0
told_all end [] before s stands none =
    let all = weigh-append (λ (e : Waiting). if_idle e.asked 1) before [] in
    let same = ap idles stands in
    omega arith
told_all end (e ∷ behind) before s stands none = by_asked e.asked refl (λ ahead x. told_all end behind ahead x)
  where
    at : Around
    at = record { before = before; behind = behind }

    by_asked : (o : Option Server) → e.asked ≡ o
        → ((ahead : List Waiting) (x : ServerModel) → x.kept.parked.waiting ≡ ahead ++ behind → idles ahead ≡ 0
        → idles (all_done (tells_all end ahead behind) x).kept.parked.waiting ≡ 0)
        → idles (all_done (tells_one end at e o (tells_all end before behind)
        (tells_all end (before ++ e ∷ []) behind)) s).kept.parked.waiting ≡ 0
    by_asked None asked later =
        later before (done (Tells at e.wish e.to_ask end) s) (waiting_is (Tells at e.wish e.to_ask end) s) none
    by_asked (Some t) asked later =
        let all = weigh-append (λ (x : Waiting). if_idle x.asked 1) before (e ∷ []) in
        let its : if_idle e.asked 1 ≡ 0 = ap (λ o. if_idle o 1) asked in
        later (before ++ e ∷ []) s (stands ∙ sym (append_assoc before (e ∷ []) behind)) (omega arith)

-- Plans: the first act raises nothing; or the server does not know that the problem is done; or the first decider tells those that are
-- idle.

abbrev Settles : ServerModel → Plan → Type 0
Settles s p =
    (rises p.first ≡ false) ⊎ ((done p.first s).kept.exhausted ≡ false)
    ⊎ ((d : Decider) × (ds : List Decider) × (p.follow ≡ d ∷ ds) × IsFull (all_done (d (done p.first s)) (done p.first s)))

-- a letter by which a rank may become idle, or all work be found used up
abbrev pub may_rise : Message → Bool
may_rise (tells.Reserve request types) = true
may_rise (tells.AskNone rank request) = true
may_rise (tells.Token t) = true
may_rise tells.Exhaust = true
may_rise _ = false

-- of what an act takes
abbrev pub may_rise_all : List Heard → Bool
may_rise_all [] = true
may_rise_all (h ∷ more) = may_rise h.message

-- an act that takes no such letter makes nobody idle and finds nothing
pub rises_taken : (a : Act) → may_rise_all (takes a) ≡ false → rises a ≡ false
rises_taken (Parks wish) e = absurd (cc)
rises_taken (Wakes at wish from rest) e = absurd (cc)
rises_taken (Finds from t) e = absurd (cc)
rises_taken (Hears_exhaust from) e = absurd (cc)
rises_taken Finds_alone e = absurd (cc)
rises_taken _ e = refl

module _ (s : ServerModel) (told : IsFull s) (several : s.config.servers ≢ 1) where
  parks_settles : (wish : Wish) (is_done exhausted : Bool) (best : Option Placed) (follow : List Decider) → s.kept.exhausted ≡ exhausted
      → Settles s (record { first = reserve is_done exhausted best wish; follow = follow })
  parks_settles wish true exhausted best follow e = inl refl
  parks_settles wish false true best follow e = inl refl
  parks_settles wish false false (Some p) follow e = inl refl
  parks_settles wish false false None follow e = inr (inl (done_is (Parks wish) s ∙ e))

  when : (t : Bool) (p : Plan) → Settles s p → IfSome (cond t (Some p) None) (Settles s)
  when true p is = is
  when false p is = tt

  wakes_settles : (p : Place) (o : Option Server) (from : Actor) (m : Message) → IfSome (wake p o) (IsPlan s from m)
      → IfSome (wake p o) (Settles s)
  wakes_settles p None from m plan = tt
  wakes_settles p (Some asked) from m plan =
      inr (inr (_, _, refl, looks_told s p.at p.here.wish asked p.here.to_ask plan.sits told))

  wake_settles : (o : Option Place) (from : Actor) (m : Message) → IfSome (wake_at o) (IsPlan s from m) → IfSome (wake_at o) (Settles s)
  wake_settles None from m plan = tt
  wake_settles (Some p) from m plan = wakes_settles p p.here.asked from m plan

  none_settles : (t : Bool) (from : Server) (rank : Rank) (request : ℕ)
      → IfSome (cond t None (wake_at (place_in (has_asked from rank request) s.kept.parked.waiting)))
      (IsPlan s (by.Server from) (tells.AskNone rank request))
      → IfSome (cond t None (wake_at (place_in (has_asked from rank request) s.kept.parked.waiting))) (Settles s)
  none_settles true from rank request plan = tt
  none_settles false from rank request plan =
      wake_settles (place_in (has_asked from rank request) s.kept.parked.waiting) (by.Server from) (tells.AskNone rank request) plan

  other_settles : (from : Actor) (m : Message) (o : Option Plan) → may_rise m ≡ false → IfSome o (IsPlan s from m) → IfSome o (Settles s)
  other_settles from m None low plan = tt
  other_settles from m (Some p) low plan = inl (rises_taken p.first (ap may_rise_all plan.takes ∙ low))

  by_none : (t : Bool) → IfSome (cond {A = Option Plan} t None None) (Settles s)
  by_none true = tt
  by_none false = tt

  -- a token
  tests_low : (at_zeroth : Bool) (o : Option Why) (from : Server) (t : Token) → rises (tests at_zeroth o from t) ≡ false
  tests_low at_zeroth None from t = refl
  tests_low true (Some why) from t = refl
  tests_low false (Some why) from t = refl

  marks_low : (quiet : Bool) (from : Server) (t : Token) → rises (marks quiet from t) ≡ false
  marks_low true from t = refl
  marks_low false from t = refl

  told_now : (first : Act) → IsFull (all_done (tells_idle ends_by.Exhausted (done first s)) (done first s))
  told_now first e = told_all ends_by.Exhausted (done first s).kept.parked.waiting [] (done first s) refl refl

  judged_settles : (before : Bool) (asked : List Asker) (from : Server) (t : Token) → IfSome (verdict before asked from t) (Settles s)
  judged_settles before [] from t = inl refl
  judged_settles true (first ∷ more) from t = inl refl
  judged_settles false (first ∷ more) from t = inr (inr (_, _, refl, told_now (Finds from t)))

  zeroth_settles : (first : Bool) (from : Server) (t : Token)
      → IfSome (cond first (plan (tests_now s from t) []) (verdict s.kept.exhausted t.asked from t)) (Settles s)
  zeroth_settles true from t = inl
      (tests_low (s.me.0 == 0) (first_failing (is_quiet s) s.kept.ring.mark s.activity (fit_among s.kept t.asked)) from t)
  zeroth_settles false from t = judged_settles s.kept.exhausted t.asked from t

  elsewhere_settles : (first : Bool) (from : Server) (t : Token)
      → IfSome (cond first (plan (marks (is_quiet s) from t) []) (plan (tests_now s from t) [])) (Settles s)
  elsewhere_settles true from t = inl (marks_low (is_quiet s) from t)
  elsewhere_settles false from t =
      inl (tests_low (s.me.0 == 0) (first_failing (is_quiet s) s.kept.ring.mark s.activity (fit_among s.kept t.asked)) from t)

  visit_settles : (zero_here : Bool) (from : Server) (t : Token)
      → IfSome (cond zero_here (visit_zeroth s from t) (visit_other s from t)) (Settles s)
  visit_settles true from t = zeroth_settles (t.wave == 1) from t
  visit_settles false from t = elsewhere_settles (t.wave == 1) from t

  token_settles : (apart expected : Bool) (from : Server) (t : Token)
      → IfSome (cond apart None (cond expected (visit s from t) None)) (Settles s)
  token_settles true expected from t = tt
  token_settles false true from t = visit_settles (s.me.0 == 0) from t
  token_settles false false from t = tt

  exhaust_settles : (apart zero_from : Bool) (from : Server)
      → IfSome (cond apart None (cond zero_from (plan (Hears_exhaust from) (tells_idle ends_by.Exhausted ∷ [])) None)) (Settles s)
  exhaust_settles true zero_from from = tt
  exhaust_settles false true from = inr (inr (_, _, refl, told_now (Hears_exhaust from)))
  exhaust_settles false false from = tt

  settles_by : (from : Actor) (m : Message) → IfSome (rule s from m) (IsPlan s from m) → IfSome (rule s from m) (Settles s)
  settles_by (by.Rank from) (tells.Reserve request types) plan =
      when (runs_at_home s from) _
      (parks_settles (record { rank = from; request = request; types = types }) s.kept.done s.kept.exhausted
      (best_for s.kept (record { rank = from; request = request; types = types })) _ refl)
  settles_by (by.Rank from) (tells.Token t) plan = tt
  settles_by (by.Rank from) tells.Exhaust plan = tt
  settles_by (by.Rank from) (tells.AskNone rank request) plan = tt
  settles_by (by.Server from) (tells.AskNone rank request) plan = none_settles (from.0 == s.me.0) from rank request plan
  settles_by (by.Server from) (tells.Reserve request types) plan = by_none (from.0 == s.me.0)
  settles_by (by.Server from) (tells.Token t) plan = token_settles (from.0 == s.me.0) (expects (ring_at s) from t) from t
  settles_by (by.Server from) tells.Exhaust plan = exhaust_settles (from.0 == s.me.0) (from.0 == 0) from
  settles_by from m plan = by_class from m plan refl
    where
      by_class : (from : Actor) (m : Message) → IfSome (rule s from m) (IsPlan s from m) → may_rise m ≡ false
          → IfSome (rule s from m) (Settles s)
      by_class from m plan low = other_settles from m (rule s from m) low plan

  plan_told : (from : Actor) (m : Message) (p : Plan) → IsPlan s from m p → Settles s p → IsFull (all_done (in_order ends_event s p) s)
  plan_told from m p plan (inl low) =
      more_told (decided (p.follow ++ ends_event) (done p.first s)) (done p.first s) plan.follow.0 plan.follow.1
      (still_several p.first s several)
      (act_told p.first s plan.sits low told)
  plan_told from m p plan (inr (inl off)) =
      more_told (decided (p.follow ++ ends_event) (done p.first s)) (done p.first s) plan.follow.0 plan.follow.1
      (still_several p.first s several)
      (λ e. let no : false ≡ true = sym off ∙ e in absurd (cc))
  plan_told from m p plan (inr (inr (d, ds, same, here))) =
      let t = done p.first s in
      let xs = d t in
      let ys = decided (ds ++ ends_event) (all_done xs t) in
      let list : decided (p.follow ++ ends_event) t ≡ xs ++ ys = ap (λ l. decided (l ++ ends_event) t) same in
      let follow = follow_rest xs ys t (subst (λ l. Follow l t) list plan.follow) in
      subst IsFull (sym (ap (λ l. all_done l t) list ∙ all_done_joined xs ys t))
      (more_told ys (all_done xs t) follow.0 follow.1 (all_several xs t (still_several p.first s several)) here)

-- an event
pub serve_full : (s : ServerModel) (from : Actor) (letter : Letter) (x : Served) → s.config.servers ≢ 1 → serve s from letter ≡ Some x
    → IsFull s → IsFull x.state
serve_full s from letter x several is told = by_test (is_within s.config from && nat_lt letter.stamp stamp_limit) is
  where
    t : ServerModel
    t = at_event s letter

    by_plan : (o : Option Plan) → IfSome o (IsPlan t from letter.message) → IfSome o (Settles t)
        → option_map (λ list. carried list t) (option_map (in_order ends_event t) o) ≡ Some x → IsFull x.state
    by_plan None plan settles e = absurd (cc)
    by_plan (Some p) plan settles e =
        let list = in_order ends_event t p in
        let same : all_done list t ≡ x.state = sym (carried_state list t) ∙ ap (λ (y : Served). y.state) (some_is e) in
        subst IsFull same (plan_told t told several from letter.message p plan settles)

    by_test : (b : Bool) → cond b (option_map (λ list. carried list t) (acts t from letter.message)) None ≡ Some x → IsFull x.state
    by_test true e =
        let plan = planned t from letter.message in
        by_plan (rule t from letter.message) plan (settles_by t told several from letter.message plan) e
    by_test false e = absurd (cc)

-- no rank of these is idle
pub full_is : (s : ServerModel) (e : Waiting) → IsFull s → Has s.kept.parked.waiting e → e.asked ≡ None → s.kept.exhausted ≡ false
full_is s e told has asked = by_flag s.kept.exhausted refl
  where
    some : (es : List Waiting) → Has es e → 1 ≤ idles es
    some [] h = absurd h
    some (x ∷ es) (inl same) =
        let its : if_idle x.asked 1 ≡ 1 = ap (λ (y : Waiting). if_idle y.asked 1) same ∙ ap (λ o. if_idle o 1) asked in omega arith
    some (x ∷ es) (inr later) = let more = some es later in omega arith

    by_flag : (t : Bool) → s.kept.exhausted ≡ t → s.kept.exhausted ≡ false
    by_flag false is = is
    by_flag true is = let none = told is in let one = some s.kept.parked.waiting has in absurd (omega arith)
