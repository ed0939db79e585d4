-- No rank waits twice.
use Rattle.std.proofs.Common.{◌≡◌, ◌≤◌, ◌+◌, ◌==◌, Bool, true, false, not, cond, ◌&&◌, List, [], ◌∷◌, ◌++◌, Option, None, Some, refl, sym}
use Rattle.std.proofs.Common.{ap, ◌∙◌, subst, arith}
use Rattle.std.specs.Prelude.{count_by, nat_lt, slice_get}
use Rattle.std.specs.List.{list_any}
use Rattle.std.proofs.lemmas.Bool.{and_parts, eqb-true, not-true, or_parts}
use Rattle.std.proofs.lemmas.List.Sums.{sum_by-cons}
use Rattle.std.specs.Option.{option_map}
use Rattle.adlb_unit.specs.Limits.{stamp_limit}
use Rattle.adlb_unit.specs.Links.{is_within}
use Rattle.adlb_unit.specs.declared.actors.Actor.{Actor}
use Rattle.adlb_unit.specs.declared.letters.Letter.{Letter}
use Rattle.adlb_unit.specs.declared.messages.Message.{Message}
use Rattle.adlb_unit.specs.declared.names.Rank.{Rank}
use Rattle.bag_ledger.proofs.Tests.{some_is}
use Rattle.server_components.specs.Parked.{is_of}
use Rattle.server_components.specs.declared.waits.Waiting.{Waiting}
use Rattle.server_law.specs.Acts.{Act, Asks_on, Parks, comes, goes, takes, waiting_after}
use Rattle.server_law.specs.Calm.{EventsKeepOnce, WaitOnce}
use Rattle.server_law.specs.Carried.{Served, all_done, carried, done}
use Rattle.server_law.specs.Endings.{ends_event}
use Rattle.server_law.specs.Plan.{Plan, decided, in_order}
use Rattle.server_law.specs.State.{Kept, ServerModel, is_finished, is_waiting, runs}
use Rattle.server_law.specs.Step.{acts, at_event, rule, serve}
use Rattle.server_law.specs.Sure.{AreSure, SitsIn, Sure, TakeNone}
use Rattle.server_law.proofs.Carrying.{carried_state}
use Rattle.server_law.proofs.Decided.{Follow}
use Rattle.server_law.proofs.Handled.{acts_handle}
use Rattle.server_law.proofs.Waiters.{count_after, done_kept, one}

-- as many come as go, or who comes did not wait
none_counted : (test : Waiting → Bool) (xs : List Waiting) → list_any test xs ≡ false → count_by test xs ≡ 0
none_counted test [] none = refl
none_counted test (x ∷ xs) none =
    let parts = or_parts (test x) (list_any test xs) none in
    let rest = none_counted test xs parts.1 in
    let sum = sum_by-cons (λ (e : Waiting). one (test e)) x xs in
    let it : one (test x) ≡ 0 = rw parts.0 refl in
    omega arith

comes_once : (a : Act) (s : ServerModel) (rank : Rank) → Sure a s → WaitOnce s
    → count_by (is_of rank) s.kept.parked.waiting + count_by (is_of rank) (comes a s) ≤ 1 + count_by (is_of rank) (goes a)
comes_once (Parks wish) s rank sure once = by_test (wish.rank.0 == rank.0) refl
  where
    new : list_any (is_of wish.rank) s.kept.parked.waiting ≡ false
    new =
        let runs = (and_parts _ (runs s.kept wish.rank) sure.0).1 in
        not-true (is_waiting s.kept wish.rank) (and_parts (not (is_waiting s.kept wish.rank)) (not (is_finished s.kept wish.rank)) runs).0

    by_test : (t : Bool) → (wish.rank.0 == rank.0) ≡ t
        → count_by (is_of rank) s.kept.parked.waiting + count_by (is_of rank) (comes (Parks wish) s) ≤ 1 + 0
    by_test true is =
        let none : count_by (is_of rank) s.kept.parked.waiting ≡ 0 =
        subst (λ n. count_by (λ (e : Waiting). e.wish.rank.0 == n) s.kept.parked.waiting ≡ 0) (eqb-true wish.rank.0 rank.0 is)
        (none_counted (is_of wish.rank) s.kept.parked.waiting new) in
        rw is (omega arith)
    by_test false is = let was = once rank in rw is (omega arith)
comes_once (Asks_on at wish to rest) s rank sure once = let was = once rank in omega arith
comes_once _ s rank sure once = let was = once rank in omega arith

-- an act leaves no rank that waits twice
pub act_once : (a : Act) (s : ServerModel) → SitsIn a s → Sure a s → WaitOnce s → WaitOnce (done a s)
act_once a s sits sure once rank =
    let after = count_after (is_of rank) a s sits in
    let come = comes_once a s rank sure once in
    let few : count_by (is_of rank) (waiting_after a s) ≤ 1 = omega arith in
    subst (λ (k : Kept). count_by (is_of rank) k.parked.waiting ≤ 1) (sym (done_kept a s)) few

-- acts leave no rank that waits twice
pub acts_once : (list : List Act) (s : ServerModel) → AreSure list s → WaitOnce s → WaitOnce (all_done list s)
acts_once [] s sure once = once
acts_once (a ∷ more) s sure once = acts_once more (done a s) sure.2 (act_once a s sure.0 sure.1 once)

-- Plans.

-- what follows is sure and takes no letter, so the last of it is and takes none
pub follow_rest : (xs ys : List Act) (s : ServerModel) → Follow (xs ++ ys) s → Follow ys (all_done xs s)
follow_rest [] ys s follow = follow
follow_rest (x ∷ xs) ys s follow = follow_rest xs ys (done x s) (follow.0.2, follow.1.1)

-- the first act of the plan takes the letter, and what follows it takes none
pub record Handles (s : ServerModel) (from : Actor) (message : Message) (p : Plan) : Type 0 where
  pub sits : SitsIn p.first s
  pub sure : Sure p.first s
  pub takes : takes p.first ≡ record { from = from; message = message } ∷ []
  pub follow : Follow (decided (p.follow ++ ends_event) (done p.first s)) (done p.first s)

but_first : List Act → List Act
but_first [] = []
but_first (a ∷ more) = more

-- the plan of a letter's rule handles it
pub plan_handles : (s : ServerModel) (from : Actor) (message : Message) (p : Plan) → rule s from message ≡ Some p → Handles s from message p
unfolding but_first
plan_handles s from message p is =
    let list = in_order ends_event s p in
    let h = acts_handle s from message list (ap (option_map (in_order ends_event s)) is) in
    let first : p.first ≡ h.first = some_is (ap (λ l. slice_get l 0) h.are) in
    let sure : AreSure list s = subst (λ l. AreSure l s) (sym h.are) h.sure in
    let silent : TakeNone (but_first list) = subst TakeNone (sym (ap but_first h.are)) h.follow in
    record {
      sits = sure.0;
      sure = sure.1;
      takes = subst (λ a. takes a ≡ record { from = from; message = message } ∷ []) (sym first) h.takes;
      follow = (sure.2, silent);
    }

-- Steps.

-- the acts of a step
pub record IsStep (s : ServerModel) (from : Actor) (letter : Letter) (x : Served) : Type 0 where
  pub list : List Act
  pub are : acts (at_event s letter) from letter.message ≡ Some list
  pub makes : carried list (at_event s letter) ≡ x

-- a step of a server is acts, of which the first takes the letter
pub step_acts : (s : ServerModel) (from : Actor) (letter : Letter) (x : Served)
    → serve s from letter ≡ Some x → IsStep s from letter x
step_acts s from letter x is = by_test (is_within s.config from && nat_lt letter.stamp stamp_limit) is
  where
    by_list : (o : Option (List Act)) → acts (at_event s letter) from letter.message ≡ o
        → option_map (λ list. carried list (at_event s letter)) o ≡ Some x → IsStep s from letter x
    by_list None are is = absurd (cc)
    by_list (Some list) are is = record { list = list; are = are; makes = some_is is }

    by_test : (t : Bool)
        → cond t
        (option_map (λ list. carried list (at_event s letter)) (acts (at_event s letter) from letter.message))
        None
        ≡ Some x → IsStep s from letter x
    by_test true is = by_list (acts (at_event s letter) from letter.message) refl is
    by_test false is = absurd (cc)

-- after each event no rank waits twice
pub events_keep_once : EventsKeepOnce
events_keep_once s from letter x once is =
    let step = step_acts s from letter x is in
    let now = at_event s letter in
    let h = acts_handle now from letter.message step.list step.are in
    let kept = acts_once (h.first ∷ h.more) now h.sure once in
    let same : all_done (h.first ∷ h.more) now ≡ x.state =
    ap (λ l. all_done l now) (sym h.are) ∙ sym (carried_state step.list now) ∙ ap (λ (y : Served). y.state) step.makes in
    subst WaitOnce same kept
