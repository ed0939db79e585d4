-- Between events no acknowledgement is owed; and what an event owes is said once the unit that came is settled.
use Rattle.std.proofs.Common.{◌≡◌, ◌==◌, Bool, true, false, cond, List, [], ◌∷◌, ◌++◌, find, Option, None, Some, refl, sym, ap, ◌∙◌, subst}
use Rattle.std.specs.Option.{IfSome, option_map}
use Rattle.adlb_unit.specs.declared.actors.Actor.{Actor}
use Rattle.adlb_unit.specs.declared.actors.Actor.TheVariants as by
use Rattle.adlb_unit.specs.declared.messages.Message.{Message}
use Rattle.adlb_unit.specs.declared.messages.Message.TheVariants as tells
use Rattle.adlb_unit.specs.declared.names.Server.{Server}
use Rattle.adlb_unit.specs.declared.names.UnitId.{UnitId}
use Rattle.adlb_unit.specs.declared.units.Unit.{Unit as Work}
use Rattle.bag_ledger.proofs.Tests.{some_is}
use Rattle.work_queue.specs.declared.placing.Placed.{Placed}
use Rattle.server_components.specs.declared.wishes.Wish.{Wish}
use Rattle.server_law.specs.Acts.{Act, Acks, Arrives, Heard, Hints, does, takes}
use Rattle.server_law.specs.Calm.{EventsPay}
use Rattle.server_law.specs.Carried.{Served, all_done, done}
use Rattle.server_law.specs.Endings.{ends_event}
use Rattle.server_law.specs.Finding.{Place, is_free_as, taker}
use Rattle.server_law.specs.Hints.{hints_if, is_first_for, is_later_for}
use Rattle.server_law.specs.Plan.{Plan, decided, in_order, plan}
use Rattle.server_law.specs.Pushes.{acks, acks_if, expects_unit}
use Rattle.server_law.specs.Puts.{gives, settles, settles_as}
use Rattle.server_law.specs.State.{Debt, Kept, ServerModel}
use Rattle.server_law.specs.Step.{acts, at_event, rule}
use Rattle.server_law.specs.Sure.{TakeNone}
use Rattle.server_law.proofs.Calm.{first_is}
use Rattle.server_law.proofs.Carrying.{carried_state}
use Rattle.server_law.proofs.Decided.{Follow}
use Rattle.server_law.proofs.Once.{Handles, follow_rest, plan_handles, step_acts}
use Rattle.server_law.proofs.Waiters.{all_done_joined, done_kept}

abbrev OwesNone : ServerModel → Type 0
OwesNone s = s.kept.owed ≡ None

-- Acts.

owes_after : (a : Act) (s : ServerModel) → (does a s).kept.owed ≡ None → OwesNone (done a s)
owes_after a s is = ap (λ (k : Kept). k.owed) (done_kept a s) ∙ is

-- an act that takes no letter brings no debt
quiet_owes : (a : Act) (s : ServerModel) → takes a ≡ [] → OwesNone s → (does a s).kept.owed ≡ None
quiet_owes (Arrives from unit) s silent none = absurd (cc)
quiet_owes (Acks to id) s silent none = refl
quiet_owes _ s silent none = none

follow_owes : (list : List Act) (s : ServerModel) → TakeNone list → OwesNone s → OwesNone (all_done list s)
follow_owes [] s silent none = none
follow_owes (a ∷ more) s silent none =
    follow_owes more (done a s) silent.1 (owes_after a s (quiet_owes a s silent.0 none))

-- nor does one that takes another letter than PushUnit
abbrev IsOther : Message → Type 0
IsOther (tells.PushUnit unit) = ⊥
IsOther _ = Unit {0}

first_owes : (a : Act) (s : ServerModel) (from : Actor) (message : Message) → takes a ≡ record { from = from; message = message } ∷ []
    → IsOther message → OwesNone s → (does a s).kept.owed ≡ None
first_owes (Arrives server unit) s from message is other none =
    let same : tells.PushUnit unit ≡ message = ap (λ (h : Heard). h.message) (first_is is) in
    absurd (subst IsOther (sym same) other)
first_owes (Acks to id) s from message is other none = refl
first_owes _ s from message is other none = none

-- what is owed is said
acks_pay : (s : ServerModel) → OwesNone (all_done (acks s) s)
acks_pay s = by_debt s.kept.owed refl
  where
    by_debt : (o : Option Debt) → s.kept.owed ≡ o → OwesNone (all_done (acks_if o) s)
    by_debt None is = is
    by_debt (Some d) is = owes_after (Acks d.to d.id) s refl

-- Events.

abbrev Pays : ServerModel → Plan → Type 0
Pays s p = OwesNone (all_done (in_order ends_event s p) s)

-- after the acts of the plan, if it handles the letter
abbrev Pays_by : ServerModel → Actor → Message → Plan → Type 0
Pays_by s from message p = Handles s from message p → Pays s p

plan_pays : (s : ServerModel) (from : Actor) (message : Message) → IsOther message → OwesNone s → (o : Option Plan)
    → IfSome o (Pays_by s from message)
plan_pays s from message other none None = tt
plan_pays s from message other none (Some p) = λ h.
    let t = done p.first s in
    follow_owes (decided (p.follow ++ ends_event) t) t h.follow.1
    (owes_after p.first s (first_owes p.first s from message h.takes other none))

-- once the acknowledgement is said, whatever was settled before
arrival_pays : (t : ServerModel) (id : UnitId) → Follow (decided (settles id ∷ acks ∷ ends_event) t) t
    → OwesNone (all_done (decided (settles id ∷ acks ∷ ends_event) t) t)
arrival_pays t id follow =
    let xs = settles id t in
    let u = all_done xs t in
    let ys = acks u in
    let v = all_done ys u in
    let zs = decided ends_event v in
    let silent = (follow_rest ys zs u (follow_rest xs (ys ++ zs) t follow)).1 in
    let paid = follow_owes zs v silent (acks_pay u) in
    ap (λ (x : ServerModel). x.kept.owed) (all_done_joined xs (ys ++ zs) t ∙ all_done_joined ys zs u) ∙ paid

rule_pays : (s : ServerModel) (from : Actor) (message : Message) → OwesNone s → IfSome (rule s from message) (Pays_by s from message)
rule_pays s (by.Server from) (tells.PushUnit unit) none = by_tests (from.0 == s.me.0) (expects_unit s.kept unit)
  where
    by_tests : (t expected : Bool)
        → IfSome (cond t None (cond expected (plan (Arrives from unit) (settles unit.id ∷ acks ∷ [])) None))
        (Pays_by s (by.Server from) (tells.PushUnit unit))
    by_tests true expected = tt
    by_tests false false = tt
    by_tests false true = λ h. arrival_pays (done (Arrives from unit) s) unit.id h.follow
rule_pays s (by.Rank from) (tells.PushUnit unit) none = tt
rule_pays s from message none = plan_pays s from message tt none (rule s from message)

acts_pay : (s : ServerModel) (from : Actor) (message : Message) (list : List Act) → OwesNone s → acts s from message ≡ Some list
    → OwesNone (all_done list s)
acts_pay s from message list none are = by_plan (rule s from message) refl (rule_pays s from message none) are
  where
    by_plan : (o : Option Plan) → rule s from message ≡ o → IfSome o (Pays_by s from message)
        → option_map (in_order ends_event s) o ≡ Some list → OwesNone (all_done list s)
    by_plan None by pays is = absurd (cc)
    by_plan (Some p) by pays is = subst (λ l. OwesNone (all_done l s)) (some_is is) (pays (plan_handles s from message p by))

-- an event in which a unit comes says its acknowledgement
pub events_pay : EventsPay
events_pay s from letter x none is =
    let step = step_acts s from letter x is in
    let now = at_event s letter in
    let paid = acts_pay now from letter.message step.list none step.are in
    let same : all_done step.list now ≡ x.state = sym (carried_state step.list now) ∙ ap (λ (y : Served). y.state) step.makes in
    subst OwesNone same paid

-- Where a unit that has come is settled, the debt stands.

hints_leave_debt : (test : Wish → Bool) (wishes : List Wish) (s : ServerModel)
    → (all_done (hints_if test wishes) s).kept.owed ≡ s.kept.owed
hints_leave_debt test [] s = refl
hints_leave_debt test (w ∷ wishes) s = by_test (hints_leave_debt test wishes) (test w)
  where
    by_test : ((t : ServerModel) → (all_done (hints_if test wishes) t).kept.owed ≡ t.kept.owed) → (t : Bool)
        → (all_done (cond t (Hints w ∷ hints_if test wishes) (hints_if test wishes)) s).kept.owed ≡ s.kept.owed
    by_test later true = later (done (Hints w) s)
    by_test later false = later s

-- settling a unit leaves what is owed
pub settles_leaves_debt : (id : UnitId) (s : ServerModel) → (all_done (settles id s) s).kept.owed ≡ s.kept.owed
settles_leaves_debt id s = by_unit (find (is_free_as id) s.kept.queue.units)
  where
    wishes : List Wish
    wishes = s.kept.parked.wishes

    by_taker : (unit : Work) (o : Option Place) → (all_done (gives s.kept unit o) s).kept.owed ≡ s.kept.owed
    by_taker unit None =
        let xs = hints_if (is_first_for unit) s.kept.parked.wishes in
        let ys = hints_if (is_later_for unit) s.kept.parked.wishes in
        ap (λ (x : ServerModel). x.kept.owed) (all_done_joined xs ys s)
        ∙ hints_leave_debt (is_later_for unit) s.kept.parked.wishes (all_done xs s)
        ∙ hints_leave_debt (is_first_for unit) s.kept.parked.wishes s
    by_taker unit (Some p) = refl

    by_unit : (o : Option Placed) → (all_done (settles_as s.kept o) s).kept.owed ≡ s.kept.owed
    by_unit None = refl
    by_unit (Some p) = by_taker p.unit (taker p.unit s.kept.parked.waiting)

-- so it is said to the sender of the unit
pub acks_arrival : (s : ServerModel) (from : Server) (unit : Work)
    → (let t = done (Arrives from unit) s in acks (all_done (settles unit.id t) t) ≡ Acks from unit.id ∷ [])
acks_arrival s from unit = ap acks_if (settles_leaves_debt unit.id (done (Arrives from unit) s))
