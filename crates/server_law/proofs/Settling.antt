-- Where a unit that has become free is settled.
use Rattle.std.proofs.Common.{◌≡◌, Bool, true, false, cond, ◌&&◌, List, [], ◌∷◌, ◌++◌, find, Option, None, Some, refl, ap, ◌∙◌}
use Rattle.std.specs.Prelude.{is_none, nat_lt}
use Rattle.std.specs.Option.{option_map}
use Rattle.std.proofs.lemmas.List.Folds.{find-append}
use Rattle.adlb_unit.specs.declared.names.Server.{Server}
use Rattle.adlb_unit.specs.declared.names.UnitId.{UnitId}
use Rattle.adlb_unit.specs.declared.notes.End.{End}
use Rattle.adlb_unit.specs.declared.units.Unit.{Unit}
use Rattle.adlb_unit.proofs.Same.{same_unit_from}
use Rattle.work_queue.specs.Queue.{HasFree, HasNoUnit, id_of}
use Rattle.work_queue.specs.declared.placing.Placed.{Placed}
use Rattle.server_law.specs.Acts.{Accepts, Arrives, Ends_put, Refuses}
use Rattle.server_law.specs.Carried.{done}
use Rattle.server_law.specs.Finding.{is_free_as, taker}
use Rattle.server_law.specs.Hints.{hint_all}
use Rattle.server_components.specs.Pushes.{is_pressed, query_to}
use Rattle.work_queue.specs.Push.{first_to_push_of}
use Rattle.server_law.specs.Presses.{presses, queries}
use Rattle.server_law.specs.Puts.{expects_put, gives, settles, settles_as}
use Rattle.server_law.specs.State.{ServerModel}
use Rattle.server_law.proofs.Found.{none_free}
use Rattle.server_law.proofs.Tests.{expects_put_says}

-- Where nothing follows.

-- no free unit has the id
pub settles_none : (id : UnitId) (s : ServerModel) → find (is_free_as id) s.kept.queue.units ≡ None → settles id s ≡ []
settles_none id s none = rw none refl

not_free : (id : UnitId) (units : List Placed) → HasNoUnit id units → HasFree id units → ⊥
not_free id units new has = new has.0 has.1 has.2 (ap id_of has.3 ∙ has.4.0)

-- a unit that is not here is not settled
pub settles_unknown : (id : UnitId) (s : ServerModel) → HasNoUnit id s.kept.queue.units → settles id s ≡ []
settles_unknown id s new = settles_none id s (none_free id s.kept.queue.units (not_free id s.kept.queue.units new))

-- Where nobody waits, the wishes go that the unit takes off.

-- where nobody waits, a free unit makes hints alone
pub settles_nobody : (id : UnitId) (s : ServerModel) (p : Placed) → find (is_free_as id) s.kept.queue.units ≡ Some p
    → s.kept.parked.waiting ≡ [] → settles id s ≡ hint_all p.unit s.kept.parked.wishes
settles_nobody id s p found nobody =
    ap (settles_as s.kept) found ∙ ap (λ waiting. gives s.kept p.unit (taker p.unit waiting)) nobody

-- and if nothing is wished, nothing follows
pub settles_unwished : (id : UnitId) (s : ServerModel) → s.kept.parked.waiting ≡ [] → s.kept.parked.wishes ≡ [] → settles id s ≡ []
settles_unwished id s nobody unwished = by_unit (find (is_free_as id) s.kept.queue.units)
  where
    by_unit : (o : Option Placed) → settles_as s.kept o ≡ []
    by_unit None = refl
    by_unit (Some p) =
        ap (λ waiting. gives s.kept p.unit (taker p.unit waiting)) nobody ∙ ap (hint_all p.unit) unwished

-- Where a unit has come, which is the only one of its id.

-- a unit that has come, free
abbrev pub free : Unit → Placed
free unit = record { unit = unit; pin = None }

-- a unit that has come is found free
pub finds_new : (units : List Placed) (unit : Unit) → HasNoUnit unit.id units
    → find (is_free_as unit.id) (units ++ free unit ∷ []) ≡ Some (free unit)
finds_new units unit new =
    find-append (is_free_as unit.id) units (free unit ∷ [])
    ∙ rw (none_free unit.id units (not_free unit.id units new), same_unit_from unit.id unit.id refl) refl

-- it goes to who takes it
pub settles_new : (t : ServerModel) (units : List Placed) (unit : Unit) → HasNoUnit unit.id units
    → t.kept.queue.units ≡ units ++ free unit ∷ [] → settles unit.id t ≡ gives t.kept unit (taker unit t.kept.parked.waiting)
settles_new t units unit new are =
    ap (settles_as t.kept) (ap (λ (l : List Placed). find (is_free_as unit.id) l) are ∙ finds_new units unit new)

-- What follows a put that is expected.

module _ (s : ServerModel) (unit : Unit) (expected : expects_put s unit.id.rank unit ≡ true) where
  new : HasNoUnit unit.id s.kept.queue.units
  new = ((expects_put_says s unit.id.rank unit).0 expected).new

  -- where it is not accepted, nothing
  pub settles_refused : settles unit.id (done (Refuses unit) s) ≡ []
  settles_refused = settles_unknown unit.id (done (Refuses unit) s) new

  -- a put that ended leaves no unit to settle
  pub settles_ended : (end : End) → settles unit.id (done (Ends_put unit end) s) ≡ []
  settles_ended end = settles_unknown unit.id (done (Ends_put unit end) s) new

  -- where it is, the unit goes to who takes it
  pub settles_accepted : settles unit.id (done (Accepts unit) s)
      ≡ gives (done (Accepts unit) s).kept unit (taker unit s.kept.parked.waiting)
  settles_accepted = settles_new (done (Accepts unit) s) s.kept.queue.units unit new refl

-- Where a unit comes from another server, it goes to who takes it.

-- a unit that has come goes to the rank that takes it
pub settles_arrived : (s : ServerModel) (from : Server) (unit : Unit) → HasNoUnit unit.id s.kept.queue.units
    → settles unit.id (done (Arrives from unit) s) ≡ gives (done (Arrives from unit) s).kept unit (taker unit s.kept.parked.waiting)
settles_arrived s from unit new = settles_new (done (Arrives from unit) s) s.kept.queue.units unit new refl

-- Where there is no other server, no push begins.

-- with one server no push begins
pub presses_alone : (taken : Bool) (s : ServerModel) → s.config.servers ≡ 1 → presses taken s ≡ []
presses_alone false s alone = refl
presses_alone true s alone =
    let t = is_none s.kept.pushing.push && is_pressed s.config s.kept.queue in
    let found = option_map (query_to s.config s.me s.kept.pushing) (first_to_push_of s.kept.queue.units) in
    ap (λ n. queries (cond (nat_lt 1 n && t) found None)) alone
