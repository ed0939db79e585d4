-- A rank that is idle between events has no server left that is still to be asked.
use Rattle.adlb_unit.specs.declared.actors.Actor.{Actor}
use Rattle.adlb_unit.specs.declared.letters.Letter.{Letter}
use Rattle.adlb_unit.specs.declared.messages.Message.{Message}
use Rattle.adlb_unit.specs.declared.names.Rank.{Rank}
use Rattle.adlb_unit.specs.declared.names.Server.{Server}
use Rattle.bag_ledger.proofs.Tests.{some_is}
use Rattle.server_components.specs.Calls.{is_since}
use Rattle.server_components.specs.Parked.{is_of}
use Rattle.server_components.specs.declared.waits.Waiting.{Waiting}
use Rattle.server_components.specs.declared.wishes.Wish.{Wish}
use Rattle.server_law.proofs.Calm.{first_is}
use Rattle.server_law.proofs.Carrying.{carried_state}
use Rattle.server_law.proofs.Decided.{Follow}
use Rattle.server_law.proofs.Once.{Handles, act_once, acts_once, follow_rest, plan_handles, step_acts}
use Rattle.server_law.proofs.Places.{IsPlace, none_found, place_found}
use Rattle.server_law.proofs.Waiters.{Each, all_done_joined, done_kept, each_after, each_all, each_append, each_parts, each_weaker, none_of}
use Rattle.server_law.proofs.Waiters.{one}
use Rattle.server_law.specs.Acts.{Act, Asks_on, Heard, Is_hinted, Parks, Wakes, comes, takes, waiting_after}
use Rattle.server_law.specs.Asks.{none_rule, wake, wake_at}
use Rattle.server_law.specs.Calm.{WaitOnce}
use Rattle.server_law.specs.Carried.{Served, all_done, done}
use Rattle.server_law.specs.Endings.{ends_event}
use Rattle.server_law.specs.Finding.{Place, best_for, has_asked, place_in}
use Rattle.server_law.specs.Hints.{expects_hint, hint_at}
use Rattle.server_law.specs.Plan.{Decider, Plan, decided, in_order, plan}
use Rattle.server_law.specs.Reserves.{reserve, reserve_now}
use Rattle.server_law.specs.State.{Kept, ServerModel, awaiting, runs_at_home}
use Rattle.server_law.specs.Step.{acts, at_event, rule, serve}
use Rattle.server_law.specs.Sure.{SitsIn}
use Rattle.server_law.specs.Waits.{ask_at, ask_next, asks_on, looks_again}
use Rattle.std.proofs.Common.{Bool, List, None, Option, Some, [], ap, arith, cond, false, inl, inr, refl, subst, sym, true, ℕ, ◌++◌, ◌==◌}
use Rattle.std.proofs.Common.{◌∙◌, ◌∷◌, ◌≡◌, ◌≤◌, ◌⊎◌}
use Rattle.std.proofs.lemmas.Bool.{both_ways, eq-eqb}
use Rattle.std.proofs.lemmas.List.Sums.{sum_by-append, sum_by-cons}
use Rattle.std.specs.Option.{IfSome, option_map}
use Rattle.std.specs.Prelude.{count_by}
use Rattle.work_queue.specs.declared.placing.Placed.{Placed}
use Rattle.adlb_unit.specs.declared.actors.Actor.TheVariants as by
use Rattle.adlb_unit.specs.declared.messages.Message.TheVariants as tells

-- if the rank is idle, no server is still to be asked for it
abbrev pub Out : Waiting → Type 0
Out e = e.asked ≡ None → e.to_ask ≡ []

-- of each rank that waits
abbrev pub IsOut : ServerModel → Type 0
IsOut s = Each Out s.kept.parked.waiting

-- but for this rank
abbrev But : Rank → Waiting → Type 0
But rank e = (is_of rank e ≡ true) ⊎ Out e

abbrev IsBut : Rank → ServerModel → Type 0
IsBut rank s = Each (But rank) s.kept.parked.waiting

but_of : (rank : Rank) (s : ServerModel) → IsOut s → IsBut rank s
but_of rank s out = each_weaker Out (But rank) s.kept.parked.waiting (λ e o. inr o) out

-- acts that bring a rank that may have some left
abbrev opens : Act → Bool
opens (Parks wish) = true
opens (Wakes at wish from rest) = true
opens (Is_hinted at e from) = true
opens _ = false

comes_out : (a : Act) (s : ServerModel) → opens a ≡ false → Each Out (comes a s)
comes_out (Parks wish) s shut = absurd (cc)
comes_out (Wakes at wish from rest) s shut = absurd (cc)
comes_out (Is_hinted at e from) s shut = absurd (cc)
comes_out (Asks_on at wish to rest) s shut = ((λ asked. absurd (cc)), tt)
comes_out _ s shut = tt

waiting_is : (a : Act) (s : ServerModel) → (done a s).kept.parked.waiting ≡ waiting_after a s
waiting_is a s = ap (λ (k : Kept). k.parked.waiting) (done_kept a s)

act_keeps : (P : Waiting → Type 0) (a : Act) (s : ServerModel) → SitsIn a s → Each P (comes a s) → Each P s.kept.parked.waiting
    → Each P (done a s).kept.parked.waiting
act_keeps P a s sits come each = subst (Each P) (sym (waiting_is a s)) (each_after P a s sits each come)

follows_shut : (a : Act) → takes a ≡ [] → opens a ≡ false
follows_shut (Parks wish) none = absurd (cc)
follows_shut (Wakes at wish from rest) none = absurd (cc)
follows_shut (Is_hinted at e from) none = absurd (cc)
follows_shut _ none = refl

follow_out : (list : List Act) (s : ServerModel) → Follow list s → IsOut s → IsOut (all_done list s)
follow_out [] s follow out = out
follow_out (a ∷ more) s follow out =
    follow_out more (done a s) (follow.0.2, follow.1.1) (act_keeps Out a s follow.0.0 (comes_out a s (follows_shut a follow.1.0)) out)

follow_but : (rank : Rank) (list : List Act) (s : ServerModel) → Follow list s → IsBut rank s → IsBut rank (all_done list s)
follow_but rank [] s follow but = but
follow_but rank (a ∷ more) s follow but =
    follow_but rank more (done a s) (follow.0.2, follow.1.1)
    (act_keeps (But rank) a s follow.0.0
    (each_weaker Out (But rank) (comes a s) (λ e o. inr o) (comes_out a s (follows_shut a follow.1.0))) but)

follow_first : (xs ys : List Act) (s : ServerModel) → Follow (xs ++ ys) s → Follow xs s
follow_first [] ys s follow = (tt, tt)
follow_first (x ∷ xs) ys s follow =
    let later = follow_first xs ys (done x s) (follow.0.2, follow.1.1) in ((follow.0.0, follow.0.1, later.0), (follow.1.0, later.1))

-- The rank is asked for.

out_of : (rank : Rank) (es : List Waiting) → Each (But rank) es → Each (λ e. is_of rank e ≡ false) es → Each Out es
out_of rank [] but none = tt
out_of rank (e ∷ es) but none = (by_part but.0, out_of rank es but.1 none.1)
  where
    by_part : But rank e → Out e
    by_part (inl is) = let no : true ≡ false = sym is ∙ none.0 in absurd (cc)
    by_part (inr out) = out

asks_out : (rank : Rank) (u : ServerModel) → WaitOnce u → IsBut rank u → IsOut (all_done (asks_on rank u) u)
asks_out rank u once but = by_place (place_in (is_of rank) u.kept.parked.waiting) refl (place_found (is_of rank) u.kept.parked.waiting)
  where
    by_asked : (p : Place) → IsPlace (is_of rank) u.kept.parked.waiting p → (o : Option Server) → p.here.asked ≡ o → (left : List Server)
        → p.here.to_ask ≡ left → Each Out p.at.before → Each Out p.at.behind
        → IsOut (all_done (ask_next p.at p.here.wish o left) u)
    by_asked p is None asked [] left before behind =
        subst (Each Out) (sym is.stands) (each_append Out p.at.before (p.here ∷ p.at.behind) before ((λ idle. left), behind))
    by_asked p is None asked (to ∷ rest) left before behind =
        let a = Asks_on p.at p.here.wish to rest in
        subst (Each Out) (sym (waiting_is a u))
        (each_append Out p.at.before (awaiting p.here.wish to rest ∷ p.at.behind) before ((λ idle. absurd (cc)), behind))
    by_asked p is (Some t) asked left is_left before behind =
        subst (Each Out) (sym is.stands)
        (each_append Out p.at.before (p.here ∷ p.at.behind) before
        ((λ idle. let no : None ≡ Some t = sym idle ∙ asked in absurd (cc)), behind))

    by_place : (o : Option Place) → place_in (is_of rank) u.kept.parked.waiting ≡ o → IfSome o (IsPlace (is_of rank) u.kept.parked.waiting)
        → IsOut (all_done (ask_at o) u)
    by_place None e found =
        out_of rank u.kept.parked.waiting but
        (each_all (λ e. is_of rank e ≡ false) u.kept.parked.waiting (none_found (is_of rank) u.kept.parked.waiting e))
    by_place (Some p) e found =
        let parts = each_parts (But rank) p.at.before (p.here ∷ p.at.behind) (subst (Each (But rank)) found.stands but) in
        let f : Waiting → ℕ = λ e. one (is_of rank e) in
        let sum = sum_by-append f p.at.before (p.here ∷ p.at.behind) in
        let more = sum_by-cons f p.here p.at.behind in
        let it : one (is_of rank p.here) ≡ 1 = rw (found.passes) refl in
        let few : count_by (is_of rank) (p.at.before ++ p.here ∷ p.at.behind) ≤ 1 = rw found.stands at (once rank) in
        let no_before = none_of (is_of rank) p.at.before (omega arith) in
        let no_behind = none_of (is_of rank) p.at.behind (omega arith) in
        by_asked p found p.here.asked refl p.here.to_ask refl (out_of rank p.at.before parts.0 no_before)
        (out_of rank p.at.behind parts.1.1 no_behind)

-- Plans.

abbrev Mends_by : ServerModel → Actor → Message → Plan → Type 0
Mends_by s from message p = Handles s from message p → IsOut (all_done (in_order ends_event s p) s)

asks_first : (rank : Rank) (ds : List Decider) (t : ServerModel) → Follow (decided (asks_on rank ∷ ds) t) t → WaitOnce t → IsBut rank t
    → IsOut (all_done (decided (asks_on rank ∷ ds) t) t)
asks_first rank ds t follow once but =
    let u = all_done (asks_on rank t) t in
    let rest = decided ds u in
    subst IsOut (sym (all_done_joined (asks_on rank t) rest t))
    (follow_out rest u (follow_rest (asks_on rank t) rest t follow) (asks_out rank t once but))

asks_second : (d : Decider) (rank : Rank) (ds : List Decider) (t : ServerModel) → Follow (decided (d ∷ asks_on rank ∷ ds) t) t → WaitOnce t
    → IsBut rank t → IsOut (all_done (decided (d ∷ asks_on rank ∷ ds) t) t)
asks_second d rank ds t follow once but =
    let u = all_done (d t) t in
    let rest = decided (asks_on rank ∷ ds) u in
    let first = follow_first (d t) rest t follow in
    subst IsOut (sym (all_done_joined (d t) rest t))
    (asks_first rank ds u (follow_rest (d t) rest t follow) (acts_once (d t) t first.0 once) (follow_but rank (d t) t first but))

-- the letter opens no rank
abbrev is_shut : Message → Bool
is_shut (tells.Reserve request types) = false
is_shut (tells.AskNone rank request) = false
is_shut (tells.Hint rank request) = false
is_shut _ = true

shut_act : (a : Act) (from : Actor) (message : Message) → is_shut message ≡ true
    → takes a ≡ record { from = from; message = message } ∷ [] → opens a ≡ false
shut_act (Parks wish) from message shut is =
    let loud = ap (λ (h : Heard). is_shut h.message) (first_is is) in absurd (both_ways (is_shut message) (sym loud) shut)
shut_act (Wakes at wish server rest) from message shut is =
    let loud = ap (λ (h : Heard). is_shut h.message) (first_is is) in absurd (both_ways (is_shut message) (sym loud) shut)
shut_act (Is_hinted at e server) from message shut is =
    let loud = ap (λ (h : Heard). is_shut h.message) (first_is is) in absurd (both_ways (is_shut message) (sym loud) shut)
shut_act _ from message shut is = refl

shut_mends : (s : ServerModel) (from : Actor) (message : Message) (p : Plan) → opens p.first ≡ false → IsOut s → Mends_by s from message p
shut_mends s from message p shut out h =
    let t = done p.first s in
    follow_out (decided (p.follow ++ ends_event) t) t h.follow (act_keeps Out p.first s h.sits (comes_out p.first s shut) out)

shut_all : (s : ServerModel) (from : Actor) (message : Message) → is_shut message ≡ true → IsOut s → (o : Option Plan)
    → IfSome o (Mends_by s from message)
shut_all s from message shut out None = tt
shut_all s from message shut out (Some p) = λ h. shut_mends s from message p (shut_act p.first from message shut h.takes) out h

own_rank : (rank : Rank) → (rank.0 == rank.0) ≡ true
own_rank rank = eq-eqb rank.0 rank.0 refl

module _ (s : ServerModel) (once : WaitOnce s) (out : IsOut s) where
  -- after the first act only this rank may have some left
  but_after : (rank : Rank) (a : Act) → SitsIn a s → Each (But rank) (comes a s) → IsBut rank (done a s)
  but_after rank a sits come = act_keeps (But rank) a s sits come (but_of rank s out)

  reserve_mends : (from : Actor) (m : Message) (wish : Wish) (a : Act) → (opens a ≡ false) ⊎ (a ≡ Parks wish)
      → Mends_by s from m (record { first = a; follow = asks_on wish.rank ∷ [] })
  reserve_mends from m wish a (inl shut) h = shut_mends s from m (record { first = a; follow = asks_on wish.rank ∷ [] }) shut out h
  reserve_mends from m wish a (inr is) h =
      let t = done a s in
      let come : Each (But wish.rank) (comes a s) = subst (λ (x : Act). Each (But wish.rank) (comes x s)) (sym is)
      (inl (own_rank wish.rank), tt) in
      asks_first wish.rank ends_event t h.follow (act_once a s h.sits h.sure once) (but_after wish.rank a h.sits come)

  reserve_is : (is_done exhausted : Bool) (best : Option Placed) (wish : Wish)
      → (opens (reserve is_done exhausted best wish) ≡ false) ⊎ (reserve is_done exhausted best wish ≡ Parks wish)
  reserve_is true exhausted best wish = inl refl
  reserve_is false true best wish = inl refl
  reserve_is false false (Some p) wish = inl refl
  reserve_is false false None wish = inr refl

  wake_mends : (from : Actor) (m : Message) (o : Option Place) → IfSome (wake_at o) (Mends_by s from m)
  wake_mends from m None = tt
  wake_mends from m (Some p) = by_asked p.here.asked
    where
      by_asked : (asked : Option Server) → IfSome (wake p asked) (Mends_by s from m)
      by_asked None = tt
      by_asked (Some asked) = λ h.
          let wish = p.here.wish in
          let a = Wakes p.at wish asked p.here.to_ask in
          asks_second (looks_again wish.rank) wish.rank ends_event (done a s) h.follow (act_once a s h.sits h.sure once)
          (but_after wish.rank a h.sits (inl (own_rank wish.rank), tt))

  hint_mends : (from : Actor) (m : Message) (k : Server) (rank : Rank) (request : ℕ) (o : Option Place)
      → IfSome (hint_at k rank request o) (Mends_by s from m)
  hint_mends from m k rank request None = λ h. shut_mends s from m _ refl out h
  hint_mends from m k rank request (Some p) = λ h.
      let r = p.here.wish.rank in
      let a = Is_hinted p.at p.here k in
      asks_first r ends_event (done a s) h.follow (act_once a s h.sits h.sure once) (but_after r a h.sits (inl (own_rank r), tt))

  open_mends : (from : Actor) (m : Message) → is_shut m ≡ false → IfSome (rule s from m) (Mends_by s from m)
  open_mends (by.Rank from) (tells.Reserve request types) open_it = by_test (runs_at_home s from)
    where
      wish : Wish
      wish = record { rank = from; request = request; types = types }

      by_test : (b : Bool) → IfSome (cond b (plan (reserve_now s.kept wish) (asks_on from ∷ [])) None)
          (Mends_by s (by.Rank from) (tells.Reserve request types))
      by_test true =
          reserve_mends (by.Rank from) (tells.Reserve request types) wish (reserve_now s.kept wish)
          (reserve_is s.kept.done s.kept.exhausted (best_for s.kept wish) wish)
      by_test false = tt
  open_mends (by.Rank from) (tells.AskNone rank request) open_it = tt
  open_mends (by.Rank from) (tells.Hint rank request) open_it = tt
  open_mends (by.Server from) (tells.Reserve request types) open_it = by_none (from.0 == s.me.0)
    where
      by_none : (t : Bool) → IfSome (cond {A = Option Plan} t None None) (Mends_by s (by.Server from) (tells.Reserve request types))
      by_none true = tt
      by_none false = tt
  open_mends (by.Server from) (tells.AskNone rank request) open_it = by_self (from.0 == s.me.0)
    where
      by_self : (t : Bool) → IfSome (cond t None (none_rule s from rank request)) (Mends_by s (by.Server from) (tells.AskNone rank request))
      by_self true = tt
      by_self false = wake_mends (by.Server from) (tells.AskNone rank request)
          (place_in (has_asked from rank request) s.kept.parked.waiting)
  open_mends (by.Server from) (tells.Hint rank request) open_it = by_self (from.0 == s.me.0) (expects_hint s rank)
    where
      by_self : (t b : Bool) → IfSome
          (cond t None (cond b (hint_at from rank request (place_in (is_since rank request) s.kept.parked.waiting)) None))
          (Mends_by s (by.Server from) (tells.Hint rank request))
      by_self true b = tt
      by_self false true = hint_mends (by.Server from) (tells.Hint rank request) from rank request
          (place_in (is_since rank request) s.kept.parked.waiting)
      by_self false false = tt
  open_mends _ _ open_it = absurd (cc)

  mends : (from : Actor) (message : Message) → IfSome (rule s from message) (Mends_by s from message)
  mends from message = by_test (is_shut message) refl
    where
      by_test : (t : Bool) → is_shut message ≡ t → IfSome (rule s from message) (Mends_by s from message)
      by_test true shut = shut_all s from message shut out (rule s from message)
      by_test false open_it = open_mends from message open_it

event_out : (s : ServerModel) (from : Actor) (message : Message) (list : List Act) → WaitOnce s → IsOut s
    → acts s from message ≡ Some list → IsOut (all_done list s)
event_out s from message list once out are = by_plan (rule s from message) refl (mends s once out from message) are
  where
    by_plan : (o : Option Plan) → rule s from message ≡ o → IfSome o (Mends_by s from message)
        → option_map (in_order ends_event s) o ≡ Some list → IsOut (all_done list s)
    by_plan None by_rule mended is = absurd (cc)
    by_plan (Some p) by_rule mended is =
        subst (λ l. IsOut (all_done l s)) (some_is is) (mended (plan_handles s from message p by_rule))

-- each event of a server keeps it
pub serve_out : (s : ServerModel) (from : Actor) (letter : Letter) (x : Served) → serve s from letter ≡ Some x → WaitOnce s → IsOut s
    → IsOut x.state
serve_out s from letter x is once out =
    let step = step_acts s from letter x is in
    let now = at_event s letter in
    let kept = event_out now from letter.message step.list once out step.are in
    let same : all_done step.list now ≡ x.state = sym (carried_state step.list now) ∙ ap (λ (y : Served). y.state) step.makes in
    subst IsOut same kept
