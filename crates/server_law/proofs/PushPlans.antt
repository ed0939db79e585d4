-- The rules of pushes, by their plans.
use Rattle.std.proofs.Common.{◌≡◌, ℕ, Bool, true, false, cond, [], ◌∷◌, find, Option, None, Some, refl, ap, ◌∙◌, subst}
use Rattle.std.specs.Option.{IfSome}
use Rattle.adlb_unit.specs.declared.actors.Actor.TheVariants as by
use Rattle.adlb_unit.specs.declared.messages.Message.TheVariants as tells
use Rattle.adlb_unit.specs.declared.names.Server.{Server}
use Rattle.adlb_unit.specs.declared.names.UnitId.{UnitId}
use Rattle.adlb_unit.specs.declared.units.Unit.{Unit}
use Rattle.bag_law.proofs.Turn.{found_passes}
use Rattle.server_components.specs.Pushes.{is_push_as}
use Rattle.server_components.specs.declared.standing.StandingPush.{StandingPush}
use Rattle.server_components.proofs.StandingPushes.{push_is}
use Rattle.work_queue.specs.Queue.{id_of}
use Rattle.work_queue.specs.declared.placing.Placed.{Placed}
use Rattle.server_law.specs.Acts.{Arrives, Ends_push, Sends_unit, Stops_push, Withdraws}
use Rattle.server_law.specs.Finding.{exceeds, has_promise, is_free_as}
use Rattle.server_law.specs.Plan.{plan}
use Rattle.server_law.specs.Pushes.{ack_at, acks, answer_query, expects_query, expects_unit, no_at, sends, yes_at}
use Rattle.server_law.specs.Puts.{settles}
use Rattle.server_law.specs.State.{ServerModel}
use Rattle.server_law.proofs.Decided.{acks_decides, acks_hints_none}
use Rattle.server_law.proofs.Plans.{IsPlan, made, settled}
use Rattle.server_law.proofs.Tests.{is_free_says}

-- the rule of a query for room is a plan
pub query_plan : (s : ServerModel) (from : Server) (id : UnitId) (length : ℕ) → expects_query s.kept id ≡ true
    → (over : Bool) → exceeds s.kept.queue length ≡ over
    → IsPlan s (by.Server from) (tells.PushQuery id length) (record { first = answer_query over from id length; follow = [] })
query_plan s from id length expected true is = made refl expected refl tt tt
query_plan s from id length expected false is = made refl (expected, is) refl tt tt

-- Where this server's push stands.

-- the rule of promised room is a plan
pub yes_plan : (s : ServerModel) (from : Server) (id : UnitId) (push : Option StandingPush) (free : Option Placed)
    → s.kept.pushing.push ≡ push → find (is_free_as id) s.kept.queue.units ≡ free
    → IfSome (yes_at from id push free) (IsPlan s (by.Server from) (tells.PushYes id))
yes_plan s from id None free stands found = tt
yes_plan s from id (Some p) free stands found = by_test (is_push_as from id false p) refl
  where
    by_unit : (o : Option Placed) → find (is_free_as id) s.kept.queue.units ≡ o → is_push_as from id false p ≡ true
        → IsPlan s (by.Server from) (tells.PushYes id) (record { first = sends from id p.length o; follow = [] })
    by_unit None found is = made refl (stands ∙ ap Some (push_is from id false p is)) refl tt tt
    by_unit (Some q) found is =
        let same : id_of q ≡ id = ((is_free_says id q).0 (found_passes (is_free_as id) s.kept.queue.units q found)).0 in
        let P : UnitId → Type 0 = λ k. is_push_as from k false p ≡ true → find (is_free_as k) s.kept.queue.units ≡ Some q
        → IsPlan s (by.Server from) (tells.PushYes k) (record { first = Sends_unit from p.length q.unit; follow = [] }) in
        subst P same (λ is found. made refl (stands ∙ ap Some (push_is from q.unit.id false p is), (q, found, refl)) refl tt tt) is found

    by_test : (t : Bool) → is_push_as from id false p ≡ t
        → IfSome (cond t (plan (sends from id p.length free) []) None) (IsPlan s (by.Server from) (tells.PushYes id))
    by_test true is = by_unit free found is
    by_test false is = tt

-- the rule of refused room is a plan
pub no_plan : (s : ServerModel) (from : Server) (id : UnitId) (push : Option StandingPush) → s.kept.pushing.push ≡ push
    → IfSome (no_at from id push) (IsPlan s (by.Server from) (tells.PushNo id))
no_plan s from id None stands = tt
no_plan s from id (Some p) stands = by_test (is_push_as from id false p) refl
  where
    by_test : (t : Bool) → is_push_as from id false p ≡ t
        → IfSome (cond t (plan (Stops_push from id p.length) []) None) (IsPlan s (by.Server from) (tells.PushNo id))
    by_test true is = made refl (stands ∙ ap Some (push_is from id false p is)) refl tt tt
    by_test false is = tt

-- the rule of an acknowledgement is a plan
pub ack_plan : (s : ServerModel) (from : Server) (id : UnitId) (push : Option StandingPush) → s.kept.pushing.push ≡ push
    → IfSome (ack_at from id push) (IsPlan s (by.Server from) (tells.PushAck id))
ack_plan s from id None stands = tt
ack_plan s from id (Some p) stands = by_test (is_push_as from id true p) refl
  where
    by_test : (t : Bool) → is_push_as from id true p ≡ t
        → IfSome (cond t (plan (Ends_push from id p.length) []) None) (IsPlan s (by.Server from) (tells.PushAck id))
    by_test true is = made refl (stands ∙ ap Some (push_is from id true p is)) refl tt tt
    by_test false is = tt

-- Where the unit comes, or is taken back.

-- the rule of a unit that comes is a plan
pub unit_plan : (s : ServerModel) (from : Server) (unit : Unit) → expects_unit s.kept unit ≡ true
    → IsPlan s (by.Server from) (tells.PushUnit unit) (record { first = Arrives from unit; follow = settles unit.id ∷ acks ∷ [] })
unit_plan s from unit expected =
    settled unit.id (Arrives from unit) (acks ∷ []) refl expected refl refl (acks_decides, tt) (acks_hints_none, tt)

-- the rule of a cancel is a plan
pub cancel_plan : (s : ServerModel) (from : Server) (id : UnitId) → has_promise id s.kept.queue.promises ≡ true
    → IsPlan s (by.Server from) (tells.PushCancel id) (record { first = Withdraws from id; follow = [] })
cancel_plan s from id expected = made refl expected refl tt tt
