-- What a run has met, after all its actors have ended.
use Rattle.std.proofs.Common.{◌≡◌, ◌⊎◌, inl, inr, ℕ, zero, suc, Bool, true, false, List, [], ◌∷◌, Option, None, Some, IfSome, refl, ap, sym}
use Rattle.std.proofs.Common.{◌≤◌, ◌∙◌, map, subst, slice_get}
use Rattle.adlb_unit.specs.Limits.{stamp_limit}
use Rattle.thread_actors.specs.Faults.{IsLateFault}
use Rattle.thread_actors.specs.RankJobs.{Ended}
use Rattle.thread_actors.specs.ServerJobs.{Ended as Served}
use Rattle.thread_actors.specs.declared.faults.ActorFault.{ActorFault}
use Rattle.thread_actors.specs.declared.faults.ActorFault.TheVariants.{Memory, TooLong, Unexpected}
use Rattle.adlb_threads.specs.Ends.{AreExpecting}
use Rattle.adlb_threads.specs.inside.{after_all, all_met, met_with}
use Rattle.adlb_threads.proofs.Kept.{none_there}
use Rattle.adlb_threads.proofs.Journals.{of_map, under_map}

-- One end more.

none_with : (met fault : Option ActorFault) (own : Bool) → met_with met fault own ≡ None → (met ≡ None) × (fault ≡ None)
none_with None None own is = (refl, refl)
none_with None (Some Memory) own is = absurd cc
none_with None (Some (TooLong stamp)) true is = absurd cc
none_with None (Some (TooLong stamp)) false is = absurd cc
none_with None (Some (Unexpected from)) own is = absurd cc
none_with (Some Memory) None own is = absurd cc
none_with (Some Memory) (Some Memory) own is = absurd cc
none_with (Some Memory) (Some (TooLong stamp)) true is = absurd cc
none_with (Some Memory) (Some (TooLong stamp)) false is = absurd cc
none_with (Some Memory) (Some (Unexpected from)) own is = absurd cc
none_with (Some (TooLong late)) None own is = absurd cc
none_with (Some (TooLong late)) (Some Memory) own is = absurd cc
none_with (Some (TooLong late)) (Some (TooLong stamp)) own is = absurd cc
none_with (Some (TooLong late)) (Some (Unexpected from)) own is = absurd cc
none_with (Some (Unexpected from)) fault own is = absurd cc

late_with : (stamp : ℕ) (met fault : Option ActorFault) (own : Bool) → met_with met fault own ≡ Some (TooLong stamp)
    → (met ≡ Some (TooLong stamp)) ⊎ ((fault ≡ Some (TooLong stamp)) × (own ≡ true))
late_with stamp None None own is = inl is
late_with stamp None (Some Memory) own is = absurd cc
late_with stamp None (Some (TooLong late)) true is = inr (is, refl)
late_with stamp None (Some (TooLong late)) false is = absurd cc
late_with stamp None (Some (Unexpected from)) own is = absurd cc
late_with stamp (Some Memory) None own is = inl is
late_with stamp (Some Memory) (Some Memory) own is = absurd cc
late_with stamp (Some Memory) (Some (TooLong late)) true is = inr (is, refl)
late_with stamp (Some Memory) (Some (TooLong late)) false is = absurd cc
late_with stamp (Some Memory) (Some (Unexpected from)) own is = absurd cc
late_with stamp (Some (TooLong late)) None own is = inl is
late_with stamp (Some (TooLong late)) (Some Memory) own is = inl is
late_with stamp (Some (TooLong late)) (Some (TooLong other)) own is = inl is
late_with stamp (Some (TooLong late)) (Some (Unexpected from)) own is = absurd cc
late_with stamp (Some (Unexpected from)) fault own is = absurd cc

strange_with : (from : ℕ) (met fault : Option ActorFault) (own : Bool) → met_with met fault own ≡ Some (Unexpected from)
    → (met ≡ Some (Unexpected from)) ⊎ (fault ≡ Some (Unexpected from))
strange_with from None None own is = inl is
strange_with from None (Some Memory) own is = absurd cc
strange_with from None (Some (TooLong late)) true is = absurd cc
strange_with from None (Some (TooLong late)) false is = absurd cc
strange_with from None (Some (Unexpected of)) own is = inr is
strange_with from (Some Memory) None own is = inl is
strange_with from (Some Memory) (Some Memory) own is = absurd cc
strange_with from (Some Memory) (Some (TooLong late)) true is = absurd cc
strange_with from (Some Memory) (Some (TooLong late)) false is = absurd cc
strange_with from (Some Memory) (Some (Unexpected of)) own is = inr is
strange_with from (Some (TooLong late)) None own is = absurd cc
strange_with from (Some (TooLong late)) (Some Memory) own is = absurd cc
strange_with from (Some (TooLong late)) (Some (TooLong other)) own is = absurd cc
strange_with from (Some (TooLong late)) (Some (Unexpected of)) own is = inr is
strange_with from (Some (Unexpected of)) fault own is = inl is

-- All ends.

at_place : {E : Type 0} (P : E → Type 0) (e : E) (es : List E) → P e → ((k : ℕ) (x : E) → slice_get es k ≡ Some x → P x)
    → (k : ℕ) (x : E) → slice_get (e ∷ es) k ≡ Some x → P x
at_place P e es here rest zero x at = subst P (same e x at) here
  where
    same : {E : Type 0} (e x : E) → Some e ≡ Some x → e ≡ x
    same e x is = cc
at_place P e es here rest (suc k) x at = rest k x at

-- if nothing was met no actor failed
pub none_met : (met : Option ActorFault) (ends : List (Option ActorFault × Bool)) → after_all met ends ≡ None
    → (met ≡ None) × ((k : ℕ) (e : Option ActorFault × Bool) → slice_get ends k ≡ Some e → e.0 ≡ None)
none_met met [] is = (is, λ k e at. absurd (none_there [] k e refl at))
none_met met (e ∷ ends) is =
    let rest = none_met (met_with met e.0 e.1) ends is in
    let first = none_with met e.0 e.1 rest.0 in
    (first.0, at_place (λ x. x.0 ≡ None) e ends first.1 rest.1)

-- a stamp that was too long was so for a step of an actor's own
pub late_met : (stamp : ℕ) (met : Option ActorFault) (ends : List (Option ActorFault × Bool)) → after_all met ends ≡ Some (TooLong stamp)
    → (met ≡ Some (TooLong stamp))
    ⊎ ((k : ℕ) × (e : Option ActorFault × Bool) × (slice_get ends k ≡ Some e) × (e.0 ≡ Some (TooLong stamp)) × (e.1 ≡ true))
late_met stamp met [] is = inl is
late_met stamp met (e ∷ ends) is = elim (late_met stamp (met_with met e.0 e.1) ends is) [
  | inl before ↦ elim (late_with stamp met e.0 e.1 before) [ inl sooner ↦ inl sooner | inr here ↦ inr (0, e, refl, here.0, here.1) ]
  | inr later ↦ inr (suc later.0, later.1, later.2, later.3, later.4)
]

-- a letter that was not expected was so for one of the actors
pub strange_met : (from : ℕ) (met : Option ActorFault) (ends : List (Option ActorFault × Bool))
    → after_all met ends ≡ Some (Unexpected from)
    → (met ≡ Some (Unexpected from))
    ⊎ ((k : ℕ) × (e : Option ActorFault × Bool) × (slice_get ends k ≡ Some e) × (e.0 ≡ Some (Unexpected from)))
strange_met from met [] is = inl is
strange_met from met (e ∷ ends) is = elim (strange_met from (met_with met e.0 e.1) ends is) [
  | inl before ↦ elim (strange_with from met e.0 e.1 before) [ inl sooner ↦ inl sooner | inr here ↦ inr (0, e, refl, here) ]
  | inr later ↦ inr (suc later.0, later.1, later.2, later.3)
]

-- What all ranks and servers met.

-- if nothing was met none failed
pub all_whole : {O : Type 0} (ends : List (Ended O)) (served : List Served) → all_met ends served ≡ None
    → ((k : ℕ) (e : Ended O) → slice_get ends k ≡ Some e → e.fault ≡ None)
    × ((k : ℕ) (e : Served) → slice_get served k ≡ Some e → e.fault ≡ None)
all_whole {O} ends served is =
    let rank : Ended O → Option ActorFault × Bool = λ e. (e.fault, e.own) in
    let server : Served → Option ActorFault × Bool = λ e. (e.fault, e.own) in
    let theirs = none_met (after_all None (map rank ends)) (map server served) is in
    let mine = none_met None (map rank ends) theirs.0 in (
      λ k e at. mine.1 k (rank e) (under_map rank ends k e at),
      λ k e at. theirs.1 k (server e) (under_map server served k e at),
    )

-- of a stamp that was too long, whose own step it was: a rank's, or a server's
abbrev pub IsLateOf : {O : Type 0} → List (Ended O) → List Served → ℕ → Type 0
IsLateOf {O} ends served stamp =
    ((k : ℕ) × (e : Ended O) × (slice_get ends k ≡ Some e) × (e.fault ≡ Some (TooLong stamp)) × (e.own ≡ true))
    ⊎ ((k : ℕ) × (e : Served) × (slice_get served k ≡ Some e) × (e.fault ≡ Some (TooLong stamp)) × (e.own ≡ true))

pub whose_late : {O : Type 0} (ends : List (Ended O)) (served : List Served) (stamp : ℕ) → all_met ends served ≡ Some (TooLong stamp)
    → IsLateOf ends served stamp
whose_late {O} ends served stamp is =
    let rank : Ended O → Option ActorFault × Bool = λ e. (e.fault, e.own) in
    let server : Served → Option ActorFault × Bool = λ e. (e.fault, e.own) in
    elim (late_met stamp (after_all None (map rank ends)) (map server served) is) [
      | inl before ↦ elim (late_met stamp None (map rank ends) before) [
        | inl nothing ↦ absurd (cc)
        | inr mine ↦
            let e = of_map rank ends mine.0 mine.1 mine.2 in
            inl (
              mine.0,
              e.0,
              e.1,
              ap (λ (x : Option ActorFault × Bool). x.0) (sym e.2) ∙ mine.3,
              ap (λ (x : Option ActorFault × Bool). x.1) (sym e.2) ∙ mine.4,
            )
      ]
      | inr theirs ↦
          let e = of_map server served theirs.0 theirs.1 theirs.2 in
          inr (
            theirs.0,
            e.0,
            e.1,
            ap (λ (x : Option ActorFault × Bool). x.0) (sym e.2) ∙ theirs.3,
            ap (λ (x : Option ActorFault × Bool). x.1) (sym e.2) ∙ theirs.4,
          )
    ]

-- and it is past the last one that is given
pub late_limit : {O : Type 0} (ends : List (Ended O)) (served : List Served) (stamp : ℕ)
    → ((k : ℕ) (e : Ended O) → slice_get ends k ≡ Some e → IfSome e.fault IsLateFault)
    → ((k : ℕ) (e : Served) → slice_get served k ≡ Some e → IfSome e.fault IsLateFault)
    → IsLateOf ends served stamp → stamp_limit ≤ stamp
late_limit ends served stamp ranks servers (inl mine) =
    subst (λ (o : Option ActorFault). IfSome o IsLateFault) mine.3 (ranks mine.0 mine.1 mine.2) stamp refl
late_limit ends served stamp ranks servers (inr theirs) =
    subst (λ (o : Option ActorFault). IfSome o IsLateFault) theirs.3 (servers theirs.0 theirs.1 theirs.2) stamp refl

-- So none was met that no actor ended by.
pub never_strange : {O : Type 0} (ends : List (Ended O)) (served : List Served) (from : ℕ) → AreExpecting ends served
    → all_met ends served ≡ Some (Unexpected from) → ⊥
never_strange {O} ends served from none is =
    let rank : Ended O → Option ActorFault × Bool = λ e. (e.fault, e.own) in
    let server : Served → Option ActorFault × Bool = λ e. (e.fault, e.own) in
    elim (strange_met from (after_all None (map rank ends)) (map server served) is) [
      | inl before ↦ elim (strange_met from None (map rank ends) before) [
        | inl nothing ↦ absurd (cc)
        | inr mine ↦
            let e = of_map rank ends mine.0 mine.1 mine.2 in
            none.ranks mine.0 e.0 from e.1 (ap (λ (x : Option ActorFault × Bool). x.0) (sym e.2) ∙ mine.3)
      ]
      | inr theirs ↦
          let e = of_map server served theirs.0 theirs.1 theirs.2 in
          none.servers theirs.0 e.0 from e.1 (ap (λ (x : Option ActorFault × Bool). x.0) (sym e.2) ∙ theirs.3)
    ]
