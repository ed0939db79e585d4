-- A free unit, and who takes it.
use Rattle.std.proofs.Common.{◌≡◌, ◌<◌, ℕ, Bool, true, false, cond, List, [], ◌∷◌, ◌++◌, find, Option, None, Some, refl, sym, ap, ◌∙◌}
use Rattle.std.proofs.Common.{subst, arith}
use Rattle.std.specs.Option.{IfSome, option_map}
use Rattle.std.proofs.lemmas.Bool.{eq-eqb}
use Rattle.adlb_unit.specs.declared.names.Rank.{Rank}
use Rattle.adlb_unit.specs.declared.names.Target.{Target}
use Rattle.adlb_unit.specs.declared.names.UnitId.{UnitId}
use Rattle.adlb_unit.specs.declared.names.WorkType.{WorkType}
use Rattle.adlb_unit.specs.declared.notes.UnitNote.{UnitNote}
use Rattle.adlb_unit.specs.declared.units.Unit.{Unit}
use Rattle.bag_ledger.proofs.Tests.{some_is}
use Rattle.work_queue.specs.declared.placing.Placed.{Placed}
use Rattle.server_components.specs.Calls.{given, gone_if, granted, or_else, taker as taker_at, taker_of}
use Rattle.server_components.specs.Grants.{note_of, pinned_to}
use Rattle.server_components.specs.Parked.{IsParked, Parked, is_of}
use Rattle.server_components.specs.declared.waits.Waiting.{Waiting}
use Rattle.server_law.specs.Finding.{Place, behind_one, is_free_as, is_idle_first, is_idle_for, place_in, taker}
use Rattle.server_law.specs.Hints.{hint_all}
use Rattle.server_law.specs.Puts.{gives, settles, settles_as}
use Rattle.server_law.specs.State.{ServerModel, idle}
use Rattle.server_law.proofs.Places.{Takes, place, taker_found}
use Rattle.server_core.specs.inside.{parked_of}
use Rattle.server_core.specs.Out.{HasRoom, Out, going_on}
use Rattle.server_core.specs.Waits.{taken, told_note, with_parked}
use Rattle.server_core.proofs.Going.{room_left}
use Rattle.server_core.proofs.Seats.{alone_where, found_is, gone_is, one_more}
use Rattle.server_core.proofs.Sounds.{waits_within}

-- Who is found by place is found.

abbrev here_of : Option Place → Option Waiting
here_of o = option_map (λ (p : Place). p.here) o

here_behind : (e : Waiting) (o : Option Place) → here_of (behind_one e o) ≡ here_of o
here_behind e None = refl
here_behind e (Some p) = refl

here_found : (test : Waiting → Bool) (waiting : List Waiting) → here_of (place_in test waiting) ≡ find test waiting
here_found test [] = refl
here_found test (e ∷ waiting) = by_test (test e) (here_behind e (place_in test waiting) ∙ here_found test waiting)
  where
    by_test : (t : Bool) → here_of (behind_one e (place_in test waiting)) ≡ find test waiting
        → here_of (cond t (Some (place [] e waiting)) (behind_one e (place_in test waiting))) ≡ cond t (Some e) (find test waiting)
    by_test true rest = refl
    by_test false rest = rest

here_first : (a b : Option Place) → here_of (or_else a b) ≡ or_else (here_of a) (here_of b)
here_first None b = refl
here_first (Some p) b = refl

-- the entry of the taker is the first that the unit suits
pub taker_here : (unit : Unit) (waiting : List Waiting) → here_of (taker unit waiting) ≡ taker_at unit.kind unit.target waiting
taker_here unit waiting =
    here_first (place_in (is_idle_first unit) waiting) (place_in (is_idle_for unit) waiting)
    ∙ ap (λ o. or_else o (here_of (place_in (is_idle_for unit) waiting))) (here_found (is_idle_first unit) waiting)
    ∙ ap (λ o. or_else (find (is_idle_first unit) waiting) o) (here_found (is_idle_for unit) waiting)

-- What is said of the free unit.

-- a unit's work type and target
abbrev pub kind_and_target : Placed → WorkType × Target
kind_and_target p = (p.unit.kind, p.unit.target)

-- the type and target that are named are those of a free unit
pub told_free : (o : Option Placed) {kind : WorkType} {target : Target}
    → (let said : Option (WorkType × Target) = Some (kind, target) in said ≡ option_map kind_and_target o)
    → (p : Placed) × (o ≡ Some p) × (p.unit.kind ≡ kind) × (p.unit.target ≡ target)
told_free None told = absurd (cc)
told_free (Some p) told =
    let is = some_is (sym told) in
    (p, refl, ap (λ (f : WorkType × Target). f.0) is, ap (λ (f : WorkType × Target). f.1) is)

-- if none are named, there is no such unit
pub told_unfree : (o : Option Placed) → None ≡ option_map kind_and_target o → o ≡ None
told_unfree None told = refl
told_unfree (Some p) told = absurd (cc)

-- What comes of the unit: this rank takes it.
pub record TakenBy (s : ServerModel) (out : Out) (id : UnitId) (p : Placed) (rank : Rank) (request : ℕ) (note : UnitNote) : Type 0 where
  pub within : rank.0 < s.config.ranks
  pub room : HasRoom s out 2 → HasRoom (taken s p) out 3
  pub goes : told_note rank request note out (taken s p) ≡ going_on out (settles id s) s

-- or nobody does
pub record TakenByNone (s : ServerModel) (id : UnitId) (p : Placed) : Type 0 where
  pub same : taken s p ≡ s
  pub hints : settles id s ≡ hint_all p.unit s.kept.parked.wishes

module _ (s : ServerModel) (out : Out) (id : UnitId) (p : Placed) (found : find (is_free_as id) s.kept.queue.units ≡ Some p)
    (sound : IsParked (parked_of s)) where
  settled : (o : Option Place) → taker p.unit s.kept.parked.waiting ≡ o → settles id s ≡ gives s.kept p.unit o
  settled o is = ap (settles_as s.kept) found ∙ ap (gives s.kept p.unit) is

  -- as the taker is found by its place
  taken_as : (o : Option Place) → taker p.unit s.kept.parked.waiting ≡ o
      → taken s p ≡ with_parked s (given (here_of o) p s.kept.queue) (gone_if (parked_of s) (here_of o)).parked
  taken_as o is =
      ap (λ k. with_parked s (given k p s.kept.queue) (gone_if (parked_of s) k).parked)
      (sym (taker_here p.unit s.kept.parked.waiting) ∙ ap here_of is)

  module _ (q : Place) (is : taker p.unit s.kept.parked.waiting ≡ Some q) where
    takes : Takes p.unit s.kept.parked.waiting q
    takes = subst (λ o. IfSome o (Takes p.unit s.kept.parked.waiting)) is (taker_found p.unit s.kept.parked.waiting)

    taken_by : TakenBy s out id p q.here.wish.rank q.here.wish.request (note_of s.me p.unit)
    taken_by =
        let rank = q.here.wish.rank in
        let e = idle q.here.wish q.here.to_ask in
        let waiting = s.kept.parked.waiting in
        let alone = alone_where rank waiting q.at.before e q.at.behind sound.once takes.stands (eq-eqb rank.0 rank.0 refl) in
        let at = place q.at.before e q.at.behind in
        let left : Parked = record { waiting = q.at.before ++ q.at.behind; wishes = s.kept.parked.wishes } in
        let queue = pinned_to rank (Some p) s.kept.queue in
        let seat : taken s p ≡ with_parked s queue left = taken_as (Some q) is
        ∙ ap (λ l. with_parked s queue (record { waiting = l; wishes = s.kept.parked.wishes })) (gone_is rank waiting at alone) in
        let more = one_more rank waiting at alone in
        record {
          within = waits_within (parked_of s) sound (is_of rank) e (found_is rank waiting at alone);
          room = λ room. subst (λ u. HasRoom u out 3) (sym seat) (room_left s queue left out 2 3 (omega (arith, more)) room);
          goes = ap (told_note rank q.here.wish.request (note_of s.me p.unit) out) seat
              ∙ ap (λ l. going_on out l s) (sym (settled (Some q) is));
        }

  -- the rank that takes the unit is granted it as the rule says
  pub one_takes : {rank : Rank} {request : ℕ} {note : UnitNote}
      → Some (rank, request, note) ≡ option_map (granted s.me p.unit) (taker_of p.unit (parked_of s)) → TakenBy s out id p rank request note
  one_takes {rank} {request} {note} told =
      by_place (taker p.unit s.kept.parked.waiting) refl
      (told ∙ ap (option_map (granted s.me p.unit)) (sym (taker_here p.unit s.kept.parked.waiting)))
    where
      by_place : (o : Option Place) → taker p.unit s.kept.parked.waiting ≡ o
          → Some (rank, request, note) ≡ option_map (granted s.me p.unit) (here_of o) → TakenBy s out id p rank request note
      by_place None is told = absurd (cc)
      by_place (Some q) is told =
          subst (λ (t : Rank × ℕ × UnitNote). TakenBy s out id p t.0 t.1 t.2) (some_is (sym told)) (taken_by q is)

  -- if no rank takes the unit, it stays free as the rule says
  pub none_takes : None ≡ option_map (granted s.me p.unit) (taker_of p.unit (parked_of s)) → TakenByNone s id p
  none_takes told =
      by_place (taker p.unit s.kept.parked.waiting) refl
      (told ∙ ap (option_map (granted s.me p.unit)) (sym (taker_here p.unit s.kept.parked.waiting)))
    where
      by_place : (o : Option Place) → taker p.unit s.kept.parked.waiting ≡ o
          → None ≡ option_map (granted s.me p.unit) (here_of o) → TakenByNone s id p
      by_place None is told = record { same = taken_as None is; hints = settled None is }
      by_place (Some q) is told = absurd (cc)
