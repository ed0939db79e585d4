-- At a server that is alone, too, no rank is idle once all work was found used up: each was told.
use Rattle.adlb_unit.specs.Limits.{stamp_limit}
use Rattle.adlb_unit.specs.Links.{is_within}
use Rattle.adlb_unit.specs.declared.actors.Actor.{Actor}
use Rattle.adlb_unit.specs.declared.letters.Letter.{Letter}
use Rattle.adlb_unit.specs.declared.messages.Message.{Message}
use Rattle.adlb_unit.specs.declared.names.Rank.{Rank}
use Rattle.adlb_unit.specs.declared.names.Server.{Server}
use Rattle.bag_ledger.proofs.Tests.{some_is}
use Rattle.core_progress_law.proofs.Ends.{decided_split}
use Rattle.core_progress_law.proofs.Following.{AllBring, EachBrings, FollowsBring, brings, decided_brings, rank_follows}
use Rattle.core_progress_law.proofs.Full.{IsFull, act_told, done_is, may_rise, may_rise_all, rises, rises_taken, told_all, waiting_is}
use Rattle.exhaust_ring.specs.Ring.{may_start}
use Rattle.exhaust_ring.specs.declared.steps.RingStep.{RingStep}
use Rattle.exhaust_ring.specs.declared.steps.RingStep.TheVariants.{Ended, Exhausted, Fail, Pass, Shutdown}
use Rattle.server_components.specs.declared.wishes.Wish.{Wish}
use Rattle.server_law.proofs.Carrying.{carried_state}
use Rattle.server_law.proofs.Handled.{planned}
use Rattle.server_law.proofs.Plans.{IsPlan}
use Rattle.server_law.proofs.Waiters.{all_done_joined}
use Rattle.server_law.specs.Acts.{Act, Checks_alone, Ends_reserve, Finds, Finds_alone, Grants, Hears_exhaust, Notes_own, Notices, Parks}
use Rattle.server_law.specs.Acts.{Shuts_alone, Starts, Wakes, check_alone}
use Rattle.server_law.specs.Carried.{Served, all_done, carried, done}
use Rattle.server_law.specs.Endings.{checks, ends_event, finds_alone, is_noted, is_quiet, notice, notices, starts}
use Rattle.server_law.specs.Finding.{best_for}
use Rattle.server_law.specs.Plan.{Plan, decided, in_order}
use Rattle.server_law.specs.Reserves.{reserve}
use Rattle.server_law.specs.State.{ServerModel, ring_at, runs_at_home}
use Rattle.server_law.specs.Step.{acts, at_event, rule, serve, server_rule}
use Rattle.server_law.specs.Sure.{AreSure}
use Rattle.std.proofs.Common.{Bool, List, None, Option, Some, [], ap, append-nil, arith, cond, false, not, refl, subst, sym, true, ◌&&◌}
use Rattle.std.proofs.Common.{◌++◌, ◌==◌, ◌∙◌, ◌∷◌, ◌≡◌}
use Rattle.std.proofs.lemmas.Bool.{and_parts, eq-eqb, ltb-true}
use Rattle.std.specs.Option.{IfSome, option_map}
use Rattle.std.specs.Prelude.{nat_lt}
use Rattle.work_queue.specs.declared.placing.Placed.{Placed}
use Rattle.adlb_unit.specs.declared.actors.Actor.TheVariants as by
use Rattle.adlb_unit.specs.declared.messages.Message.TheVariants as tells
use Rattle.adlb_unit.specs.declared.notes.End.TheVariants as ends_by

-- Acts that follow.

bring_low : (a : Act) → brings a ≡ true → rises a ≡ false
bring_low (Parks wish) is = absurd (cc)
bring_low (Wakes at wish from rest) is = absurd (cc)
bring_low (Finds from t) is = absurd (cc)
bring_low (Hears_exhaust from) is = absurd (cc)
bring_low Finds_alone is = absurd (cc)
bring_low _ is = refl

low_told : (list : List Act) (s : ServerModel) → AreSure list s → AllBring list → IsFull s → IsFull (all_done list s)
low_told [] s sure all told = told
low_told (a ∷ list) s sure all told = low_told list (done a s) sure.2 all.1 (act_told a s sure.0 (bring_low a all.0) told)

sure_front : (xs ys : List Act) (s : ServerModel) → AreSure (xs ++ ys) s → AreSure xs s
sure_front [] ys s sure = tt
sure_front (x ∷ xs) ys s sure = (sure.0, sure.1, sure_front xs ys (done x s) sure.2)

-- What follows each event.

notes_told : (s : ServerModel) → IsFull s → IsFull (all_done (notices s) s)
notes_told s told = by_test (is_quiet s && not (is_noted s.kept.noted s.activity))
  where
    by_place : (t : Bool) → IsFull (all_done (notice t) s)
    by_place true = act_told Notes_own s refl refl told
    by_place false = act_told Notices s refl refl told

    by_test : (t : Bool) → IsFull (all_done (cond t (notice (s.me.0 == 0)) []) s)
    by_test true = by_place (s.me.0 == 0)
    by_test false = told

checks_told : (s : ServerModel) → IsFull s → IsFull (all_done (checks s) s)
checks_told s told = by_test (may_start (ring_at s) (is_quiet s))
  where
    by_step : (step : RingStep) → IsFull (all_done (finds_alone step s.kept.parked.waiting) s)
    by_step Exhausted = λ e.
        told_all ends_by.Exhausted s.kept.parked.waiting [] (done Finds_alone s) (waiting_is Finds_alone s) refl
    by_step Shutdown = act_told Shuts_alone s refl refl told
    by_step (Pass token) = act_told Checks_alone s refl refl told
    by_step (Fail token why) = act_told Checks_alone s refl refl told
    by_step Ended = act_told Checks_alone s refl refl told

    by_number : (t : Bool) → IsFull (all_done (cond t (finds_alone (check_alone s).step s.kept.parked.waiting) (Starts ∷ [])) s)
    by_number true = by_step (check_alone s).step
    by_number false = act_told Starts s refl refl told

    by_test : (t : Bool) → IsFull (all_done (cond t (starts s) []) s)
    by_test true = by_number (s.config.servers == 1)
    by_test false = told

ends_told : (u : ServerModel) → IsFull u → IsFull (all_done (decided ends_event u) u)
ends_told u told =
    let v = all_done (notices u) u in
    let same : all_done (decided ends_event u) u ≡ all_done (checks v) v =
    all_done_joined (notices u) (checks v ++ []) u ∙ ap (λ (l : List Act). all_done l v) (append-nil (checks v)) in
    subst IsFull (sym same) (checks_told v (notes_told u told))

-- A plan.

-- the act that takes the letter
module _ (s : ServerModel) (told : IsFull s) where
  parks_told : (wish : Wish) (is_done used_up : Bool) (best : Option Placed) → s.kept.exhausted ≡ used_up
      → IsFull (done (reserve is_done used_up best wish) s)
  parks_told wish true used_up best is = act_told (Ends_reserve wish ends_by.NoMoreWork) s refl refl told
  parks_told wish false true best is = act_told (Ends_reserve wish ends_by.Exhausted) s refl refl told
  parks_told wish false false (Some p) is = act_told (Grants wish p.unit) s refl refl told
  parks_told wish false false None is = λ e. let no : false ≡ true = sym (done_is (Parks wish) s ∙ is) ∙ e in absurd (cc)

  if_told : (t : Bool) (p : Plan) → IsFull (done p.first s) → IfSome (cond t (Some p) None) (λ (q : Plan). IsFull (done q.first s))
  if_told true p is = is
  if_told false p is = tt

  first_told : (from : Rank) (m : Message) → IfSome (rule s (by.Rank from) m) (IsPlan s (by.Rank from) m)
      → IfSome (rule s (by.Rank from) m) (λ (p : Plan). IsFull (done p.first s))
  first_told from (tells.Reserve request types) plan =
      if_told (runs_at_home s from) _
      (parks_told (record { rank = from; request = request; types = types }) s.kept.done s.kept.exhausted
      (best_for s.kept (record { rank = from; request = request; types = types })) refl)
  first_told from (tells.Token t) plan = tt
  first_told from tells.Exhaust plan = tt
  first_told from (tells.AskNone rank request) plan = tt
  first_told from m plan = by_class from m plan refl
    where
      other : (from : Rank) (m : Message) (o : Option Plan) → may_rise m ≡ false → IfSome o (IsPlan s (by.Rank from) m)
          → IfSome o (λ (p : Plan). IsFull (done p.first s))
      other from m None low plan = tt
      other from m (Some p) low plan = act_told p.first s plan.sits (rises_taken p.first (ap may_rise_all plan.takes ∙ low)) told

      by_class : (from : Rank) (m : Message) → IfSome (rule s (by.Rank from) m) (IsPlan s (by.Rank from) m) → may_rise m ≡ false
          → IfSome (rule s (by.Rank from) m) (λ (p : Plan). IsFull (done p.first s))
      by_class from m plan low = other from m (rule s (by.Rank from) m) low plan

plan_alone : (s : ServerModel) (from : Rank) (m : Message) (p : Plan) → IsPlan s (by.Rank from) m p → EachBrings p.follow
    → IsFull (done p.first s) → IsFull (all_done (in_order ends_event s p) s)
plan_alone s from m p plan each told =
    let t = done p.first s in
    let us = decided p.follow t in
    let u = all_done us t in
    let split = decided_split p.follow ends_event t in
    let sure = sure_front us (decided ends_event u) t (subst (λ (l : List Act). AreSure l t) split plan.follow.0) in
    let same : all_done (decided (p.follow ++ ends_event) t) t ≡ all_done (decided ends_event u) u =
    ap (λ (l : List Act). all_done l t) split ∙ all_done_joined us (decided ends_event u) t in
    subst IsFull (sym same) (ends_told u (low_told us t sure (decided_brings p.follow t each) told))

-- An event.

-- no letter of a server is expected
pub only_ranks : (s : ServerModel) (from : Server) (m : Message) → s.config.servers ≡ 1 → s.me.0 ≡ 0
    → is_within s.config (by.Server from) ≡ true
    → rule s (by.Server from) m ≡ None
only_ranks s from m alone zeroth within =
    let low = ltb-true from.0 s.config.servers within in
    let itself : (from.0 == s.me.0) ≡ true = eq-eqb from.0 s.me.0 (omega arith) in
    ap (λ (b : Bool). cond b None (server_rule s from m)) itself

-- each event of a server that is alone keeps it
pub serve_alone : (s : ServerModel) (from : Actor) (letter : Letter) (x : Served) → s.config.servers ≡ 1 → s.me.0 ≡ 0
    → serve s from letter ≡ Some x → IsFull s → IsFull x.state
serve_alone s from letter x alone zeroth is told = by_from from is
  where
    t : ServerModel
    t = at_event s letter

    by_plan : (from : Rank) (o : Option Plan) → IfSome o (IsPlan (at_event s letter) (by.Rank from) letter.message) → FollowsBring o
        → IfSome o (λ (p : Plan). IsFull (done p.first (at_event s letter)))
        → option_map (λ list. carried list (at_event s letter)) (option_map (in_order ends_event (at_event s letter)) o) ≡ Some x
        → IsFull x.state
    by_plan from None plan each first e = absurd (cc)
    by_plan from (Some p) plan each first e =
        let list = in_order ends_event (at_event s letter) p in
        let same : all_done list (at_event s letter) ≡ x.state =
        sym (carried_state list (at_event s letter)) ∙ ap (λ (y : Served). y.state) (some_is e) in
        subst IsFull same (plan_alone (at_event s letter) from letter.message p plan each first)

    by_from : (from : Actor) → serve s from letter ≡ Some x → IsFull x.state
    by_from (by.Rank from) is = by_test (is_within s.config (by.Rank from) && nat_lt letter.stamp stamp_limit) is
      where
        by_test : (b : Bool)
            → cond b (option_map (λ list. carried list (at_event s letter)) (acts (at_event s letter) (by.Rank from) letter.message)) None
            ≡ Some x
            → IsFull x.state
        by_test true e =
            let plan = planned (at_event s letter) (by.Rank from) letter.message in
            by_plan from (rule (at_event s letter) (by.Rank from) letter.message) plan
            (rank_follows (at_event s letter) from letter.message)
            (first_told (at_event s letter) told from letter.message plan) e
        by_test false e = absurd (cc)
    by_from (by.Server from) is = by_test (is_within s.config (by.Server from) && nat_lt letter.stamp stamp_limit) refl is
      where
        by_test : (b : Bool) → (is_within s.config (by.Server from) && nat_lt letter.stamp stamp_limit) ≡ b
            → cond b (option_map (λ list. carried list (at_event s letter)) (acts (at_event s letter) (by.Server from) letter.message)) None
            ≡ Some x
            → IsFull x.state
        by_test true so e =
            let within = (and_parts (is_within s.config (by.Server from)) (nat_lt letter.stamp stamp_limit) so).0 in
            let nothing = only_ranks (at_event s letter) from letter.message alone zeroth within in
            let bad : None ≡ Some x =
            ap (λ o. option_map (λ list. carried list (at_event s letter)) (option_map (in_order ends_event (at_event s letter)) o))
            (sym nothing) ∙ e in
            absurd (cc)
        by_test false so e = absurd (cc)
