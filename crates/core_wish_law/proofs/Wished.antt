-- Where the problem is not done, no free unit lies for a rank that waits elsewhere and has a wish here.
use Rattle.adlb_unit.proofs.Same.{same_unit_from}
use Rattle.adlb_unit.specs.Ids.{same_unit}
use Rattle.adlb_unit.specs.declared.actors.Actor.{Actor}
use Rattle.adlb_unit.specs.declared.letters.Letter.{Letter}
use Rattle.adlb_unit.specs.declared.messages.Message.{Message}
use Rattle.adlb_unit.specs.declared.names.Rank.{Rank}
use Rattle.adlb_unit.specs.declared.names.Server.{Server}
use Rattle.adlb_unit.specs.declared.names.UnitId.{UnitId}
use Rattle.adlb_unit.specs.declared.units.Unit.{Unit as Work}
use Rattle.bag_ledger.proofs.Tests.{some_is}
use Rattle.server_components.specs.Store.{closed, fetched, is_due}
use Rattle.server_components.specs.declared.parts.Part.{Part}
use Rattle.core_check_law.proofs.Lists.{each_has, has_filter}
use Rattle.core_check_law.specs.Settling.{Has}
use Rattle.server_components.proofs.Resting.{each_not, none_granted_is, none_left, none_pinned, not_any}
use Rattle.server_components.specs.Calls.{is_soft_for}
use Rattle.server_components.specs.Parked.{is_by}
use Rattle.server_components.specs.Rest.{HasNoneFor}
use Rattle.server_components.specs.declared.wishes.Wish.{Wish}
use Rattle.server_law.proofs.Calm.{first_is}
use Rattle.server_law.proofs.Carrying.{carried_state}
use Rattle.server_law.proofs.Decided.{Follow}
use Rattle.server_law.proofs.Once.{Handles, follow_rest, plan_handles, step_acts}
use Rattle.server_law.proofs.Settling.{free, settles_new}
use Rattle.server_law.proofs.Tests.{expects_put_says, unit_comes_says}
use Rattle.server_law.proofs.Waiters.{Each, all_done_joined, done_kept, each_append, each_weaker}
use Rattle.server_law.specs.Acts.{Accepts, Act, Answers, Arrives, Closes, Declines, Fetches, Fetches_part, Gives, Grants, Grants_try, Heard}
use Rattle.server_law.specs.Acts.{Hears_done, Hints, Sends_unit, does, done_after, given_back, queue_after, takes, unwished, wishes_after}
use Rattle.server_law.specs.Carried.{Served, all_done, done}
use Rattle.server_law.specs.Endings.{ends_event}
use Rattle.server_law.specs.Finding.{Place, best_for, permits, taker}
use Rattle.server_law.specs.Hints.{hint_all, hints_if, is_first_for, is_later_for}
use Rattle.server_law.specs.Plan.{Decider, Plan, decided, in_order, plan}
use Rattle.server_law.specs.Presses.{presses}
use Rattle.server_law.specs.Pushes.{acks, expects_unit}
use Rattle.server_law.specs.Puts.{expects_put, gives, is_over, is_taken, put, put_now, settles}
use Rattle.server_law.specs.State.{Kept, ServerModel}
use Rattle.server_law.specs.Step.{acts, at_event, rule, serve}
use Rattle.server_law.specs.Sure.{Sure}
use Rattle.std.proofs.Common.{Any, Bool, List, None, Option, Some, [], ap, cond, false, filter, inl, inr, length, map, not, refl, subst}
use Rattle.std.proofs.Common.{sym, true, ◌&&◌, ◌++◌, ◌==◌, ◌∙◌, ◌∷◌, ◌≡◌, ◌⊎◌}
use Rattle.std.proofs.lemmas.Bool.{both_ways, eq-eqb}
use Rattle.std.proofs.lemmas.List.Elements.{All-map, All-push, All-weaker}
use Rattle.std.specs.Option.{IfSome, option_map}
use Rattle.work_queue.proofs.Offers.{is_permitted}
use Rattle.work_queue.specs.Best.{IsOffered}
use Rattle.work_queue.specs.Queue.{HasNoUnit, Queue, id_of, pinned_by, with_pin, with_unit, without_common}
use Rattle.work_queue.specs.declared.placing.Placed.{Placed}
use Rattle.adlb_unit.specs.declared.actors.Actor.TheVariants as by
use Rattle.adlb_unit.specs.declared.messages.Message.TheVariants as tells

-- if the problem is not done, no free unit is permitted to a wish that is kept
abbrev pub IsClean : Kept → Type 0
IsClean k = k.done ≡ false → Each (HasNoneFor k.queue) k.parked.wishes

-- all acts but those that bring a free unit
abbrev Brings_none : Act → Type 0
Brings_none (Accepts unit) = ⊥
Brings_none (Arrives from unit) = ⊥
Brings_none _ = Unit {0}

back_none : (part : Part) (q : Queue) (w : Wish) → HasNoneFor q w → HasNoneFor (given_back part q) w
back_none part q w none = by_test (is_due part)
  where
    by_test : (t : Bool) → HasNoneFor (cond t (without_common q (length part.bytes)) q) w
    by_test true = none
    by_test false = none

none_after : (a : Act) (q : Queue) (w : Wish) → Brings_none a → HasNoneFor q w → HasNoneFor (queue_after a q) w
none_after (Accepts unit) q w peaceful none = absurd peaceful
none_after (Arrives from unit) q w peaceful none = absurd peaceful
none_after (Grants wish unit) q w peaceful none = none_pinned q wish.rank (Some (free unit)) w none
none_after (Grants_try wish unit) q w peaceful none = none_pinned q wish.rank (Some (free unit)) w none
none_after (Gives at wish rest unit) q w peaceful none = none_pinned q wish.rank (Some (free unit)) w none
none_after (Answers from wish unit) q w peaceful none = none_pinned q wish.rank (Some (free unit)) w none
none_after (Fetches rank request id unit) q w peaceful none = none_left q id w none
none_after (Sends_unit to length unit) q w peaceful none = none_left q unit.id w none
none_after (Closes request batch accepted part) q w peaceful none = back_none (closed accepted part) q w none
none_after (Fetches_part rank request batch part) q w peaceful none = back_none (fetched part) q w none
none_after _ q w peaceful none = none

each_filter : {X : Type 0} (P : X → Type 0) (test : X → Bool) (xs : List X) → Each P xs → Each P (filter test xs)
each_filter P test [] each = tt
each_filter P test (x ∷ xs) each = by_test (test x) (each_filter P test xs each.1)
  where
    by_test : (b : Bool) → Each P (filter test xs) → Each P (cond b (x ∷ filter test xs) (filter test xs))
    by_test true later = (each.0, later)
    by_test false later = later

wishes_stay : (P : Wish → Type 0) (a : Act) (s : ServerModel) → Sure a s → s.kept.done ≡ false
    → ((wish : Wish) → best_for s.kept wish ≡ None → P wish) → Each P s.kept.parked.wishes → Each P (wishes_after a s.kept.parked.wishes)
wishes_stay P (Answers from wish unit) s sure going new each = each_filter P (λ w. not (is_by wish.rank w)) s.kept.parked.wishes each
wishes_stay P (Hints wish) s sure going new each = each_filter P (λ w. not (is_by wish.rank w)) s.kept.parked.wishes each
wishes_stay P (Declines from wish) s sure going new each =
    each_append P (unwished wish.rank s.kept.parked.wishes) (wish ∷ [])
    (each_filter P (λ w. not (is_by wish.rank w)) s.kept.parked.wishes each)
    (new wish (sure.1 going), tt)
wishes_stay P _ s sure going new each = each

done_was : (a : Act) (is_done : Bool) → done_after a is_done ≡ false → is_done ≡ false
done_was (Hears_done rank request) is_done e = absurd (cc)
done_was _ is_done e = e

act_clean : (a : Act) (s : ServerModel) → Brings_none a → Sure a s → IsClean s.kept → IsClean (done a s).kept
act_clean a s brings sure clean = subst IsClean (sym (done_kept a s)) after
  where
    after : IsClean (does a s).kept
    after e =
        let going = done_was a s.kept.done e in
        let stay = wishes_stay (HasNoneFor s.kept.queue) a s sure going
        (λ wish none. none_granted_is s.kept.queue wish.rank wish.types none) (clean going) in
        each_weaker (HasNoneFor s.kept.queue) (HasNoneFor (queue_after a s.kept.queue)) (wishes_after a s.kept.parked.wishes)
        (λ wish none. none_after a s.kept.queue wish brings none) stay

follows_bring_none : (a : Act) → takes a ≡ [] → Brings_none a
follows_bring_none (Accepts unit) none = absurd (cc)
follows_bring_none (Arrives from unit) none = absurd (cc)
follows_bring_none _ none = tt

follow_clean : (list : List Act) (s : ServerModel) → Follow list s → IsClean s.kept → IsClean (all_done list s).kept
follow_clean [] s follow clean = clean
follow_clean (a ∷ more) s follow clean =
    follow_clean more (done a s) (follow.0.2, follow.1.1) (act_clean a s (follows_bring_none a follow.1.0) follow.0.1 clean)

-- A unit becomes free.

abbrev NotOffered : Wish → Placed → Type 0
NotOffered w p = IsOffered w.rank w.types p → ⊥

-- one unit more, which is not for the wish
none_more : (q : Queue) (unit : Work) (w : Wish) → HasNoneFor q w → permits unit w ≡ false → HasNoneFor (with_unit q unit) w
none_more q unit w none fails =
    not_any (IsOffered w.rank w.types) (q.units ++ free unit ∷ [])
    (All-push (NotOffered w) q.units (free unit) (each_not (IsOffered w.rank w.types) q.units none) (λ offered.
    let is : permits unit w ≡ true = is_permitted w.rank w.types unit.kind unit.target offered.1 in
    absurd (both_ways (permits unit w) fails is)))

pinned_not : (w : Wish) (id : UnitId) (rank : Rank) (p : Placed) → NotOffered w p → NotOffered w (pinned_by id rank p)
pinned_not w id rank p fails = by_test (same_unit (id_of p) id)
  where
    by_test : (t : Bool) → NotOffered w (cond t (record p { pin = Some rank }) p)
    by_test true offered = absurd (cc (offered.0))
    by_test false offered = fails offered

own_pinned_not : (w : Wish) (unit : Work) (rank : Rank) → NotOffered w (pinned_by unit.id rank (free unit))
own_pinned_not w unit rank =
    let same : same_unit unit.id unit.id ≡ true = same_unit_from unit.id unit.id refl in
    rw same (λ offered. absurd (cc (offered.0)))

-- one unit more, which was given away
none_given : (q : Queue) (unit : Work) (rank : Rank) (w : Wish) → HasNoneFor q w
    → HasNoneFor (with_pin (with_unit q unit) unit.id rank) w
none_given q unit rank w none =
    let Q : Placed → Type 0 = λ p. NotOffered w (pinned_by unit.id rank p) in
    let before = All-weaker (NotOffered w) Q (pinned_not w unit.id rank) q.units (each_not (IsOffered w.rank w.types) q.units none) in
    not_any (IsOffered w.rank w.types) (map (pinned_by unit.id rank) (q.units ++ free unit ∷ []))
    (All-map (NotOffered w) (pinned_by unit.id rank) (q.units ++ free unit ∷ [])
    (All-push Q q.units (free unit) before (own_pinned_not w unit rank)))

-- Hints take off each wish to which the unit is permitted.

record IsLeft (test : Wish → Bool) (ws : List Wish) (s t : ServerModel) : Type 0 where
  kept : (x : Wish) → Has t.kept.parked.wishes x → Has s.kept.parked.wishes x
  tested : (x : Wish) → Has t.kept.parked.wishes x → Has ws x → test x ≡ false
  queue : t.kept.queue ≡ s.kept.queue
  going : t.kept.done ≡ s.kept.done

filter_kept : (test : Wish → Bool) (xs : List Wish) (x : Wish) → Has (filter test xs) x → test x ≡ true
filter_kept test [] x has = absurd has
filter_kept test (y ∷ ys) x has = by_test (test y) refl has (filter_kept test ys x)
  where
    by_test : (b : Bool) → test y ≡ b → Has (cond b (y ∷ filter test ys) (filter test ys)) x → (Has (filter test ys) x → test x ≡ true)
        → test x ≡ true
    by_test true e (inl same) later = ap test (sym same) ∙ e
    by_test true e (inr more) later = later more
    by_test false e more later = later more

hints_left : (test : Wish → Bool) (ws : List Wish) (s : ServerModel) → IsLeft test ws s (all_done (hints_if test ws) s)
hints_left test [] s = record { kept = λ x has. has; tested = λ x has off. absurd off; queue = refl; going = refl }
hints_left test (w ∷ ws) s = by_test (λ t. hints_left test ws t) (test w) refl
  where
    by_test : ((t : ServerModel) → IsLeft test ws t (all_done (hints_if test ws) t)) → (b : Bool) → test w ≡ b
        → IsLeft test (w ∷ ws) s (all_done (cond b (Hints w ∷ hints_if test ws) (hints_if test ws)) s)
    by_test rest false e =
        let r = rest s in
        record {
          kept = r.kept;
          tested = λ x has off. by_place x has off;
          queue = r.queue;
          going = r.going;
        }
      where
        by_place : (x : Wish) → Has (all_done (hints_if test ws) s).kept.parked.wishes x → (w ≡ x) ⊎ Has ws x → test x ≡ false
        by_place x has (inl same) = ap test (sym same) ∙ e
        by_place x has (inr more) = (rest s).tested x has more
    by_test rest true e =
        let t = done (Hints w) s in
        let r = rest t in
        let k = done_kept (Hints w) s in
        record {
          kept = λ x has. has_filter (λ y. not (is_by w.rank y)) s.kept.parked.wishes x
              (subst (λ (y : Kept). Has y.parked.wishes x) k (r.kept x has));
          tested = λ x has off. by_place x has off;
          queue = r.queue ∙ ap (λ (y : Kept). y.queue) k;
          going = r.going ∙ ap (λ (y : Kept). y.done) k;
        }
      where
        by_place : (x : Wish) → Has (all_done (hints_if test ws) (done (Hints w) s)).kept.parked.wishes x → (w ≡ x) ⊎ Has ws x
            → test x ≡ false
        by_place x has (inr more) = (rest (done (Hints w) s)).tested x has more
        by_place x has (inl same) =
            let k = done_kept (Hints w) s in
            let was = subst (λ (y : Kept). Has y.parked.wishes x) k ((rest (done (Hints w) s)).kept x has) in
            let off = filter_kept (λ y. not (is_by w.rank y)) s.kept.parked.wishes x was in
            let own : is_by w.rank x ≡ true = eq-eqb x.rank.0 w.rank.0 (ap (λ (y : Wish). y.rank.0) (sym same)) in
            let no : not (is_by w.rank x) ≡ false = ap not own in
            let bad : true ≡ false = sym off ∙ no in
            absurd (cc)

both_false : (p q : Bool) → (p && q) ≡ false → (p && not q) ≡ false → p ≡ false
both_false true true a b = absurd (cc)
both_false true false a b = absurd (cc)
both_false false q a b = refl

each_from : {X : Type 0} (P : X → Type 0) (xs : List X) → ((x : X) → Has xs x → P x) → Each P xs
each_from P [] all = tt
each_from P (x ∷ xs) all = (all x (inl refl), each_from P xs (λ y has. all y (inr has)))

-- where a unit has come, which is the only one of its id, and is settled
come_clean : (t : ServerModel) (q : Queue) (unit : Work) → HasNoUnit unit.id q.units → t.kept.queue.units ≡ q.units ++ free unit ∷ []
    → (t.kept.done ≡ false → Each (HasNoneFor q) t.kept.parked.wishes) → IsClean (all_done (settles unit.id t) t).kept
come_clean t q unit new are clean =
    subst (λ list. IsClean (all_done list t).kept) (sym (settles_new t q.units unit new are)) (by_taker (taker unit t.kept.parked.waiting))
  where
    W : List Wish
    W = t.kept.parked.wishes

    same_units : (q r : Queue) → q.units ≡ r.units → (w : Wish) → HasNoneFor q w → HasNoneFor r w
    same_units q r same w none = subst (λ units. Any (IsOffered w.rank w.types) units → ⊥) same none

    by_taker : (o : Option Place) → IsClean (all_done (gives t.kept unit o) t).kept
    by_taker None going =
        each_from (HasNoneFor z.kept.queue) z.kept.parked.wishes (λ x has.
        let second = b.kept x has in
        let first = a.kept x second in
        let no_first = a.tested x second first in
        let no_later = b.tested x has first in
        let not_permitted = both_false (permits unit x) (is_soft_for unit.target x.rank) no_first no_later in
        let before = each_has (HasNoneFor q) W x (clean going_t) first in
        let more = none_more q unit x before not_permitted in
        let at_t = same_units (with_unit q unit) t.kept.queue (sym are) x more in
        subst (λ (r : Queue). HasNoneFor r x) (sym (b.queue ∙ a.queue)) at_t)
      where
        y : ServerModel
        y = all_done (hints_if (is_first_for unit) W) t

        z : ServerModel
        z = all_done (hint_all unit W) t

        split : z ≡ all_done (hints_if (is_later_for unit) W) y
        split = all_done_joined (hints_if (is_first_for unit) W) (hints_if (is_later_for unit) W) t

        a : IsLeft (is_first_for unit) W t y
        a = hints_left (is_first_for unit) W t

        b : IsLeft (is_later_for unit) W y z
        b = subst (IsLeft (is_later_for unit) W y) (sym split) (hints_left (is_later_for unit) W y)

        going_t : t.kept.done ≡ false
        going_t = sym (b.going ∙ a.going) ∙ going
    by_taker (Some p) going =
        let rank = p.here.wish.rank in
        let g = Gives p.at p.here.wish p.here.to_ask unit in
        let r = with_pin t.kept.queue unit.id rank in
        let all : IsClean (does g t).kept = (λ off. each_weaker (HasNoneFor q) (HasNoneFor r) W
        (λ x none. same_units (with_pin (with_unit q unit) unit.id rank) r (ap (map (pinned_by unit.id rank)) (sym are)) x
        (none_given q unit rank x none))
        (clean off)) in
        subst IsClean (sym (done_kept g t)) all going

-- Plans.

abbrev Mends : ServerModel → Plan → Type 0
Mends s p = IsClean (all_done (in_order ends_event s p) s).kept

abbrev Mends_by : ServerModel → Actor → Message → Plan → Type 0
Mends_by s from message p = Handles s from message p → Mends s p

abbrev is_mild : Actor → Message → Bool
is_mild (by.Rank from) (tells.Put unit) = false
is_mild (by.Server from) (tells.PushUnit unit) = false
is_mild _ _ = true

mild_brings : (a : Act) (from : Actor) (message : Message) → is_mild from message ≡ true
    → takes a ≡ record { from = from; message = message } ∷ [] → Brings_none a
mild_brings (Accepts unit) from message mild is =
    let loud = ap (λ (h : Heard). is_mild h.from h.message) (first_is is) in
    absurd (both_ways (is_mild from message) (sym loud) mild)
mild_brings (Arrives server unit) from message mild is =
    let loud = ap (λ (h : Heard). is_mild h.from h.message) (first_is is) in
    absurd (both_ways (is_mild from message) (sym loud) mild)
mild_brings _ from message mild is = tt

calm_mends : (s : ServerModel) (from : Actor) (message : Message) (p : Plan) → Brings_none p.first → IsClean s.kept
    → Mends_by s from message p
calm_mends s from message p brings clean h =
    let t = done p.first s in
    follow_clean (decided (p.follow ++ ends_event) t) t h.follow (act_clean p.first s brings h.sure clean)

mild_mends : (s : ServerModel) (from : Actor) (message : Message) → is_mild from message ≡ true → IsClean s.kept → (o : Option Plan)
    → IfSome o (Mends_by s from message)
mild_mends s from message mild clean None = tt
mild_mends s from message mild clean (Some p) = λ h. calm_mends s from message p (mild_brings p.first from message mild h.takes) clean h

first_mends : (d : Decider) (ds : List Decider) (t : ServerModel) → Follow (decided (d ∷ ds) t) t → IsClean (all_done (d t) t).kept
    → IsClean (all_done (decided (d ∷ ds) t) t).kept
first_mends d ds t follow clean =
    let u = all_done (d t) t in
    let rest = decided ds u in
    subst (λ (x : ServerModel). IsClean x.kept) (sym (all_done_joined (d t) rest t))
    (follow_clean rest u (follow_rest (d t) rest t follow) clean)

put_mends : (s : ServerModel) (from : Actor) (unit : Work) → IsClean s.kept → (is_done over taken : Bool)
    → Mends_by s from (tells.Put unit) (record { first = put is_done over unit; follow = settles unit.id ∷ presses taken ∷ [] })
put_mends s from unit clean true over taken h = calm_mends s from (tells.Put unit) _ tt clean h
put_mends s from unit clean false true taken h = calm_mends s from (tells.Put unit) _ tt clean h
put_mends s from unit clean false false taken h =
    let new = ((expects_put_says s unit.id.rank unit).0 h.sure.0).new in
    first_mends (settles unit.id) (presses taken ∷ ends_event) (done (Accepts unit) s) h.follow
    (come_clean (done (Accepts unit) s) s.kept.queue unit new refl clean)

arrival_mends : (s : ServerModel) (from : Server) (unit : Work) → IsClean s.kept
    → Mends_by s (by.Server from) (tells.PushUnit unit) (record { first = Arrives from unit; follow = settles unit.id ∷ acks ∷ [] })
arrival_mends s from unit clean h =
    let new = ((unit_comes_says s.kept unit).0 h.sure).0 in
    first_mends (settles unit.id) (acks ∷ ends_event) (done (Arrives from unit) s) h.follow
    (come_clean (done (Arrives from unit) s) s.kept.queue unit new refl clean)

loud_mends : (s : ServerModel) (from : Actor) (message : Message) → is_mild from message ≡ false → IsClean s.kept
    → IfSome (rule s from message) (Mends_by s from message)
loud_mends s (by.Rank from) (tells.Put unit) loud clean = by_test (expects_put s from unit)
  where
    by_test : (t : Bool)
        → IfSome (cond t (plan (put_now s.kept unit) (settles unit.id ∷ presses (is_taken s.kept unit) ∷ [])) None)
        (Mends_by s (by.Rank from) (tells.Put unit))
    by_test true = put_mends s (by.Rank from) unit clean s.kept.done (is_over s.kept.queue unit) (is_taken s.kept unit)
    by_test false = tt
loud_mends s (by.Server from) (tells.PushUnit unit) loud clean = by_self (from.0 == s.me.0) (expects_unit s.kept unit)
  where
    by_self : (t expected : Bool)
        → IfSome (cond t None (cond expected (plan (Arrives from unit) (settles unit.id ∷ acks ∷ [])) None))
        (Mends_by s (by.Server from) (tells.PushUnit unit))
    by_self true expected = tt
    by_self false false = tt
    by_self false true = arrival_mends s from unit clean
loud_mends s _ _ loud clean = absurd (cc)

mends : (s : ServerModel) (from : Actor) (message : Message) → IsClean s.kept → IfSome (rule s from message) (Mends_by s from message)
mends s from message clean = by_test (is_mild from message) refl
  where
    by_test : (t : Bool) → is_mild from message ≡ t → IfSome (rule s from message) (Mends_by s from message)
    by_test true mild = mild_mends s from message mild clean (rule s from message)
    by_test false loud = loud_mends s from message loud clean

event_clean : (s : ServerModel) (from : Actor) (message : Message) (list : List Act) → IsClean s.kept
    → acts s from message ≡ Some list → IsClean (all_done list s).kept
event_clean s from message list clean are = by_plan (rule s from message) refl (mends s from message clean) are
  where
    by_plan : (o : Option Plan) → rule s from message ≡ o → IfSome o (Mends_by s from message)
        → option_map (in_order ends_event s) o ≡ Some list → IsClean (all_done list s).kept
    by_plan None by_rule mended is = absurd (cc)
    by_plan (Some p) by_rule mended is =
        subst (λ l. IsClean (all_done l s).kept) (some_is is) (mended (plan_handles s from message p by_rule))

-- each event of a server keeps it
pub serve_clean : (s : ServerModel) (from : Actor) (letter : Letter) (x : Served) → serve s from letter ≡ Some x → IsClean s.kept
    → IsClean x.state.kept
serve_clean s from letter x is clean =
    let step = step_acts s from letter x is in
    let now = at_event s letter in
    let kept = event_clean now from letter.message step.list clean step.are in
    let same : all_done step.list now ≡ x.state = sym (carried_state step.list now) ∙ ap (λ (y : Served). y.state) step.makes in
    subst (λ (y : ServerModel). IsClean y.kept) same kept
