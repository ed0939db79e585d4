-- What an act's entries are shown to be, and the charge, by which a server's room is the bag's.
use Rattle.std.proofs.Common.{◌≡◌, ◌==◌, Bool, true, false, cond, find, List, [], ◌∷◌, length, Option, Some, None, refl, ◌∙◌, sum_by, arith}
use Rattle.std.specs.List.{list_any}
use Rattle.std.proofs.lemmas.Bool.{or_parts}
use Rattle.adlb_unit.specs.declared.names.Rank.{Rank}
use Rattle.adlb_unit.specs.declared.names.Server.{Server}
use Rattle.adlb_unit.specs.declared.units.Unit.{Unit}
use Rattle.bag_ledger.specs.Bag.{Bag, charge, has_due, unit_charge}
use Rattle.bag_ledger.specs.Runs.{IsRunWhere}
use Rattle.bag_ledger.specs.Steps.{StepsWhere, after, change_first}
use Rattle.bag_ledger.specs.declared.entries.Entry.{Entry}
use Rattle.bag_ledger.specs.declared.states.UnitPlace.{UnitPlace}
use Rattle.bag_ledger.specs.declared.states.UnitPlace.TheVariants.{Free, Travelling, Pinned, Spent}
use Rattle.bag_law.proofs.Turn.{sum_same}
use Rattle.work_queue.specs.Queue.{charge_of, size_of}
use Rattle.server_law.specs.Agreement.{ServerAgrees, UnitWeight, pinned_weight, weight_at}
use Rattle.server_law.specs.State.{ServerModel}

-- the entries are steps of the bag, which agrees with the server afterwards, and in which no part is due then
abbrev pub AreSteps : (Bag → Bool) → Bag → List Entry → ServerModel → Type 0
AreSteps found b es now = (next : Bag) × IsRunWhere found b es next × ServerAgrees next now × (has_due next ≡ false)

-- one entry
pub is_step : (found : Bag → Bool) (b : Bag) (e : Entry) (now : ServerModel) → StepsWhere found b e (after b e)
    → ServerAgrees (after b e) now
    → has_due (after b e) ≡ false → AreSteps found b (e ∷ []) now
is_step found b e now step m rests = (after b e, (after b e, step, refl), m, rests)

-- Charge.

-- the bytes of the body are one of the weights
abbrev bytes : UnitWeight
bytes unit free = length unit.body

charged_if : (unit : Unit) (pin : Option Rank) (t : Bool)
    → cond t (length unit.body) 0 ≡ pinned_weight bytes unit (cond t (Some pin) None)
charged_if unit pin true = refl
charged_if unit pin false = refl

unit_charged : (me : Server) (unit : Unit) (place : UnitPlace)
    → unit_charge me (record { unit = unit; place = place }) ≡ weight_at me bytes (record { unit = unit; place = place })
unit_charged me unit (Free at) = charged_if unit None (at.0 == me.0)
unit_charged me unit (Pinned at rank) = charged_if unit (Some rank) (at.0 == me.0)
unit_charged me unit (Travelling to) = refl
unit_charged me unit Spent = refl

-- the bag charges the server as the server's queue does
pub charge_agrees : (b : Bag) (s : ServerModel) → ServerAgrees b s → charge b s.me ≡ charge_of s.kept.queue
charge_agrees b s m =
    let charged : sum_by (unit_charge s.me) b.units ≡ sum_by size_of s.kept.queue.units =
    sum_same (unit_charge s.me) (weight_at s.me bytes) b.units (λ k u at. unit_charged s.me u.unit u.place) ∙ m.units.weighs bytes in
    let room = m.room in
    let parts = m.common in
    omega arith

-- Parts that are due.

-- none passes after one is changed, if it does not pass then
pub none_changed : {X : Type 0} (f test : X → Bool) (g : X → X) (xs : List X) → list_any f xs ≡ false
    → ((x : X) → find test xs ≡ Some x → f (g x) ≡ false) → list_any f (change_first g test xs) ≡ false
none_changed f test g [] none not_now = refl
none_changed f test g (x ∷ xs) none not_now = by_test (none_changed f test g xs) (or_parts (f x) (list_any f xs) none) (test x) refl
  where
    by_test : (list_any f xs ≡ false → ((y : _) → find test xs ≡ Some y → f (g y) ≡ false) → list_any f (change_first g test xs) ≡ false)
        → (f x ≡ false) × (list_any f xs ≡ false) → (t : Bool) → test x ≡ t
        → list_any f (cond t (g x ∷ xs) (x ∷ change_first g test xs)) ≡ false
    by_test later parts true is = rw (not_now x (rw is refl), parts.1) refl
    by_test later parts false is = rw (parts.0, later parts.1 (λ y found. not_now y (rw is found))) refl
