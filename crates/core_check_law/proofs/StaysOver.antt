-- Where each rank has finished, or asks in vain, or was told an end, this stays so through each entry but the coming of a unit.
use Rattle.std.proofs.Common.{◌≡◌, ◌⊎◌, inl, inr, ℕ, Bool, true, false, ◌&&◌, ◌||◌, List, [], ◌∷◌, find, Option, None, Some, refl, sym, ap}
use Rattle.std.proofs.Common.{◌∙◌, subst, slice_get}
use Rattle.std.specs.Prelude.{option_and_then}
use Rattle.std.specs.List.{list_any}
use Rattle.adlb_unit.specs.Ids.{same_unit}
use Rattle.adlb_unit.specs.Permit.{permitted}
use Rattle.adlb_unit.specs.declared.names.CommonRef.{CommonRef}
use Rattle.adlb_unit.specs.declared.names.Rank.{Rank}
use Rattle.adlb_unit.specs.declared.names.Server.{Server}
use Rattle.adlb_unit.specs.declared.names.WorkType.{WorkType}
use Rattle.bag_ledger.specs.Bag.{Bag, has_fit, is_asking_or_finished, is_free, is_travelling, offer, rank_at, settled, unit_of, wish}
use Rattle.bag_ledger.specs.Steps.{LegalWhere, after, begun, change_at, change_first, declined_by, ended, own_fetched}
use Rattle.bag_ledger.specs.Words.{IsSettled}
use Rattle.bag_ledger.specs.declared.entries.Entry.{Entry}
use Rattle.bag_ledger.specs.declared.entries.Entry.TheVariants as enters
use Rattle.bag_ledger.specs.declared.states.Placed.{Placed}
use Rattle.bag_ledger.specs.declared.states.RankState.{RankState}
use Rattle.bag_ledger.specs.declared.states.Status.{Status}
use Rattle.bag_ledger.specs.declared.states.Status.TheVariants as is_at
use Rattle.bag_ledger.specs.declared.states.UnitPlace.{UnitPlace}
use Rattle.bag_ledger.specs.declared.states.UnitPlace.TheVariants.{Free, Pinned, Spent, Travelling}
use Rattle.bag_ledger.proofs.Settled.{settled_is}
use Rattle.bag_ledger.proofs.Tests.{some_is}
use Rattle.bag_law.proofs.Plain.{accepted_is, kept_is}
use Rattle.bag_law.proofs.Turn.{Turned, turned}
use Rattle.core_run.specs.World.{rank_named}
use Rattle.core_law.specs.OnLinks.{Each}
use Rattle.core_check_law.specs.After.{AllOver, AsksInVain, IsOver, IsTold, NoneFor, NotFor, is_loose}

-- Units.

-- the first that passes the test is changed to what the fact is still so of
each_changed : {X : Type 0} (P : X → Type 0) (f : X → X) (test : X → Bool) (xs : List X)
    → ((x : X) → find test xs ≡ Some x → P x → P (f x)) → Each P xs → Each P (change_first f test xs)
each_changed P f test [] goes all = tt
each_changed P f test (x ∷ xs) goes all =
    by_test (λ is. each_changed P f test xs (λ y found. goes y (rw is found)) all.1) (test x) refl
  where
    by_test : (test x ≡ false → Each P (change_first f test xs)) → (t : Bool) → test x ≡ t → Each P (change_first f test (x ∷ xs))
    by_test later true is = rw is (goes x (rw is refl) all.0, all.1)
    by_test later false is = rw is (all.0, later is)

-- what is found is one of the list
find_each : {X : Type 0} (P : X → Type 0) (pick : X → Bool) (xs : List X) (y : X) → Each P xs → find pick xs ≡ Some y → P y
find_each P pick [] y all e = absurd (cc)
find_each P pick (z ∷ xs) y all e = by_test (λ later. find_each P pick xs y all.1 later) (pick z) refl
  where
    by_test : (find pick xs ≡ Some y → P y) → (t : Bool) → pick z ≡ t → P y
    by_test later true is = let it : z ≡ y = some_is (rw is at e) in subst P it all.0
    by_test later false is = later (rw is at e)

-- a unit goes to another place; it was loose where it is loose there
moved_none : (b : Bag) (rank : Rank) (types : Option (List WorkType)) (place : UnitPlace) (test : Placed → Bool)
    → ((u : Placed) → find test b.units ≡ Some u → is_loose place ≡ true → is_loose u.place ≡ true) → NoneFor rank types b.units
    → NoneFor rank types (change_first (λ (u : Placed). record u { place = place }) test b.units)
moved_none b rank types place test was none =
    each_changed (NotFor rank types) (λ (u : Placed). record u { place = place }) test b.units
    (λ u found not_for loose. not_for (was u found loose)) none

-- no unit comes but by Accepted
abbrev pub is_coming : Entry → Bool
is_coming (enters.Accepted server id) = true
is_coming _ = false

-- where no unit is permitted to a rank, none is after an entry by which no unit comes
pub none_stays : (found : Bag → Bool) (b : Bag) (e : Entry) → LegalWhere found b e → is_coming e ≡ false → (rank : Rank)
    (types : Option (List WorkType)) → NoneFor rank types b.units → NoneFor rank types (after b e).units
none_stays found b (enters.Accepted server id) l old rank types none = absurd (cc)
none_stays found b (enters.Kept server batch) l old rank types none =
    let same : (after b (enters.Kept server batch)).units ≡ b.units = ap (λ (x : Bag). x.units) (kept_is b server batch l) in
    subst (NoneFor rank types) (sym same) none
none_stays found b (enters.Granted server of call id) l old rank types none =
    moved_none b rank types (Pinned server of) (λ (u : Placed). same_unit u.unit.id id) (λ u found loose. absurd (cc)) none
none_stays found b (enters.Fetched server of id) l old rank types none =
    moved_none b rank types Spent (λ (u : Placed). same_unit u.unit.id id) (λ u found loose. absurd (cc)) none
none_stays found b (enters.Left server to id) l old rank types none =
    moved_none b rank types (Travelling to) (λ (u : Placed). same_unit u.unit.id id)
    (λ u found loose.
    let same : u ≡ l.0 = some_is (sym found ∙ l.2.0) in
    ap (λ (x : Placed). is_loose x.place) same ∙ ap is_loose l.2.1) none
none_stays found b (enters.Arrived server id) l old rank types none =
    moved_none b rank types (Free server) (λ (u : Placed). same_unit u.unit.id id)
    (λ u found loose.
    let same : u ≡ l.0 = some_is (sym found ∙ l.1.0) in
    ap (λ (x : Placed). is_loose x.place) same ∙ ap is_loose l.1.1) none
none_stays found b _ l old rank types none = none

-- Ranks.

-- it has finished, or asks
abbrev is_restful : Status → Bool
is_restful is_at.Finished = true
is_restful (is_at.Asking call types) = true
is_restful _ = false

-- the rank has finished, or asks in vain
abbrev pub IsStill : Bag → Rank → RankState → Type 0
IsStill b rank x = (x.status ≡ is_at.Finished) ⊎ AsksInVain b rank x

-- one rank has its turn: an end that it was told stays told, and where it has finished or asks in vain it is told one
pub record IsTurn (b n : Bag) : Type 0 where
  pub place : ℕ
  pub f : RankState → RankState
  pub x : RankState
  pub there : slice_get b.ranks place ≡ Some x
  pub ranks : n.ranks ≡ change_at f place b.ranks
  pub keeps : IsTold x → IsTold (f x)
  pub stirs : IsStill b (rank_named place) x → IsTold (f x)

not_still : (b : Bag) (rank : Rank) (x : RankState) → is_restful x.status ≡ false → IsStill b rank x → ⊥
not_still b rank x other (inl e) = let rests : is_restful x.status ≡ true = rw e refl in absurd (cc)
not_still b rank x other (inr vain) = let rests : is_restful x.status ≡ true = rw vain.2 refl in absurd (cc)

turns : (b n : Bag) (place : ℕ) (f : RankState → RankState) (x : RankState) → slice_get b.ranks place ≡ Some x
    → n.ranks ≡ change_at f place b.ranks → (IsTold x → IsTold (f x)) → is_restful x.status ≡ false → IsTurn b n
turns b n place f x there ranks keeps other = record {
  place = place;
  f = f;
  x = x;
  there = there;
  ranks = ranks;
  keeps = keeps;
  stirs = λ still. absurd (not_still b (rank_named place) x other still);
}

offer_stirs : (s : Status) (p : ℕ × ℕ) → offer s ≡ Some p → is_restful s ≡ false
offer_stirs is_at.Finished p e = absurd (cc)
offer_stirs (is_at.Asking call types) p e = absurd (cc)
offer_stirs _ p e = refl

own_keeps : (o : Option CommonRef) (x : RankState) → IsTold x → IsTold (own_fetched o x)
own_keeps None x told = told
own_keeps (Some common) x told = told

-- a unit is granted to a rank that wants it: not where it asks in vain
pub grant_stirs : (b : Bag) (rank : Rank) (x : RankState) (call : ℕ) (types : Option (List WorkType)) (u : Placed) (server : Server)
    → wish x.status ≡ Some (call, types) → (test : Placed → Bool) → find test b.units ≡ Some u → u.place ≡ Free server
    → permitted rank types u.unit.kind u.unit.target ≡ true → IsStill b rank x → ⊥
grant_stirs b rank x call types u server wants test found free may (inl e) =
    let none : wish is_at.Finished ≡ Some (call, types) = ap wish (sym e) ∙ wants in absurd (cc)
grant_stirs b rank x call types u server wants test found free may (inr vain) =
    let its : wish (is_at.Asking vain.0 vain.1) ≡ Some (call, types) = ap wish (sym vain.2) ∙ wants in
    let same : vain.1 ≡ types = ap (λ (p : ℕ × Option (List WorkType)). p.1) (some_is its) in
    let loose : is_loose u.place ≡ true = rw free refl in
    let not_it : permitted rank vain.1 u.unit.kind u.unit.target ≡ false =
    find_each (NotFor rank vain.1) test b.units u vain.3 found loose in
    let no : permitted rank types u.unit.kind u.unit.target ≡ false =
    subst (λ (t : Option (List WorkType)). permitted rank t u.unit.kind u.unit.target ≡ false) same not_it in
    let both : true ≡ false = sym may ∙ no in
    absurd (cc)

-- Each entry leaves the ranks, or one of them has its turn.

begins_turn : (b n : Bag) (rank : Rank) (status : Status) (x : RankState) → rank_at b rank ≡ Some x → x.status ≡ is_at.Running
    → n.ranks ≡ change_at (begun status) rank.0 b.ranks → IsTurn b n
begins_turn b n rank status x there runs ranks =
    turns b n rank.0 (begun status) x there ranks (λ told. told) (rw runs refl)

-- an entry leaves all ranks, or is one rank's turn
pub turn_of : (found : Bag → Bool) (b : Bag) (e : Entry) → LegalWhere found b e → ((after b e).ranks ≡ b.ranks) ⊎ IsTurn b (after b e)
turn_of found b (enters.Putting rank call kind prio target answer body) l =
    inr (turns b _ rank.0 _ l.0 l.1.0 refl (λ told. told) (rw l.1.1 refl))
turn_of found b (enters.Refused server id used) l =
    inr (turns b _ id.rank.0 (declined_by server) l.0 l.2 refl (λ told. told) (offer_stirs l.0.status (id.number, l.1) l.3))
turn_of found b (enters.Accepted server id) l =
    let a = accepted_is b server id l in
    inr (turns b _ id.rank.0 ended a.r a.there a.ranks (λ told. told) (rw a.puts refl))
turn_of found b (enters.Rejected rank call) l =
    inr (turns b _ rank.0 ended l.0 l.2 refl (λ told. told) (offer_stirs l.0.status (call, l.1) l.3))
turn_of found b (enters.Keeping rank call common) l = inr (begins_turn b _ rank (is_at.Keeping call common) l.0 l.1.0 l.1.1 refl)
turn_of found b (enters.Kept server batch) l =
    inr (turns b _ batch.rank.0 _ l.0 l.2 (ap (λ (x : Bag). x.ranks) (kept_is b server batch l)) (λ told. told) (rw l.3 refl))
turn_of found b (enters.Closing rank call) l = inr (begins_turn b _ rank (is_at.Closing call) l.0 l.2.0 l.2.1 refl)
turn_of found b (enters.Closed server batch) l = inr (turns b _ batch.rank.0 _ l.0 l.4 refl (λ told. told) (rw l.5 refl))
turn_of found b (enters.Freed server batch) l = inl refl
turn_of found b (enters.Asked rank call types) l = inr (begins_turn b _ rank (is_at.Asking call types) l.0 l.1.0 l.1.1 refl)
turn_of found b (enters.Tried rank call types) l = inr (begins_turn b _ rank (is_at.Trying call types) l.0 l.1.0 l.1.1 refl)
turn_of found b (enters.Granted server rank call id) l = inr (record {
  place = rank.0;
  f = ended;
  x = l.0;
  there = l.3;
  ranks = refl;
  keeps = λ told. told;
  stirs = λ still.
      absurd (grant_stirs b (rank_named rank.0) l.0 call l.1 l.2 server l.4 (λ (u : Placed). same_unit u.unit.id id) l.6.0 l.6.1 l.7 still);
})
turn_of found b (enters.Looked server rank call) l =
    inr (turns b _ rank.0 (declined_by server) l.0 l.2 refl (λ told. told) (rw l.3 refl))
turn_of found b (enters.NoCurrent rank call) l = inr (turns b _ rank.0 ended l.0 l.2 refl (λ told. told) (rw l.3 refl))
turn_of found b (enters.Fetching rank call id) l = inr (begins_turn b _ rank (is_at.Fetching call id false) l.0 l.3.0 l.3.1 refl)
turn_of found b (enters.Fetched server rank id) l =
    inr (turns b _ rank.0 _ l.0 l.3 refl (own_keeps (option_and_then (λ (u : Placed). u.unit.common) (unit_of b id)) l.0) (rw l.4 refl))
turn_of found b (enters.CommonFetched server rank batch) l = inr (turns b _ rank.0 ended l.0 l.6 refl (λ told. told) (rw l.7 refl))
turn_of found b (enters.Promised server id n) l = inl refl
turn_of found b (enters.Left server to id) l = inl refl
turn_of found b (enters.Arrived server id) l = inl refl
turn_of found b (enters.Withdrawn server id) l = inl refl
turn_of found b (enters.Counting rank call kind) l = inr (begins_turn b _ rank (is_at.Counting call kind) l.0 l.1.0 l.1.1 refl)
turn_of found b (enters.Counted server rank call info) l = inr (turns b _ rank.0 ended l.0 l.2 refl (λ told. told) (rw l.3 refl))
turn_of found b (enters.Done rank call) l = inr (begins_turn b _ rank is_at.Running l.0 l.1.0 l.1.1 refl)
turn_of found b enters.Exhausted l = inl refl
turn_of found b (enters.Over rank call end) l = inr (record {
  place = rank.0;
  f = λ r. ended (record r { end = Some end });
  x = l.0;
  there = l.1;
  ranks = refl;
  keeps = λ told. (end, refl);
  stirs = λ still. (end, refl);
})
turn_of found b (enters.Finished rank call) l = inr (begins_turn b _ rank is_at.Finished l.0 l.1.0 l.1.1 refl)

-- So it stays over, where no unit comes.

over_next : (b n : Bag) (rank : Rank) (x : RankState)
    → ((types : Option (List WorkType)) → NoneFor rank types b.units → NoneFor rank types n.units) → IsOver b rank x → IsOver n rank x
over_next b n rank x stays (inl e) = inl e
over_next b n rank x stays (inr (inl (call, types, is, none))) = inr (inl (call, types, is, stays types none))
over_next b n rank x stays (inr (inr told)) = inr (inr told)

turned_told : (b n : Bag) (t : IsTurn b n) → IsOver b (rank_named t.place) t.x → IsTold (t.f t.x)
turned_told b n t (inl e) = t.stirs (inl e)
turned_told b n t (inr (inl vain)) = t.stirs (inr vain)
turned_told b n t (inr (inr told)) = t.keeps told

-- where all is over it stays so, unless a unit comes
pub over_stays : (found : Bag → Bool) (b : Bag) (e : Entry) → LegalWhere found b e → is_coming e ≡ false → AllOver b → AllOver (after b e)
over_stays found b e l old over rank y here = by_turn (turn_of found b e l)
  where
    n : Bag
    n = after b e

    as_was : rank_at b rank ≡ Some y → IsOver n rank y
    as_was was = over_next b n rank y (λ types none. none_stays found b e l old rank types none) (over rank y was)

    by_turn : (n.ranks ≡ b.ranks) ⊎ IsTurn b n → IsOver n rank y
    by_turn (inl same) = as_was (ap (λ (rs : List RankState). slice_get rs rank.0) (sym same) ∙ here)
    by_turn (inr t) = by_place (turned t.f t.place b.ranks t.x t.there rank.0)
      where
        now : slice_get (change_at t.f t.place b.ranks) rank.0 ≡ Some y
        now = ap (λ (rs : List RankState). slice_get rs rank.0) (sym t.ranks) ∙ here

        by_place : Turned t.f t.place b.ranks t.x rank.0 → IsOver n rank y
        by_place (inl (same, is, was)) =
            let it : t.f t.x ≡ y = some_is (sym is ∙ now) in
            inr (inr (subst IsTold it (turned_told b n t (over (rank_named t.place) t.x t.there))))
        by_place (inr (differs, is)) = as_was (sym is ∙ now)

-- It begins where the bag is settled.

none_listed : (rank : Rank) (types : Option (List WorkType)) (units : List Placed)
    → list_any (λ (u : Placed). is_travelling u.place) units ≡ false
    → list_any (λ (u : Placed). is_free u.place && permitted rank types u.unit.kind u.unit.target) units ≡ false → NoneFor rank types units
none_listed rank types [] away none = tt
none_listed rank types (u ∷ us) away none =
    let a = or_none (is_travelling u.place) (list_any (λ (x : Placed). is_travelling x.place) us) away in
    let f = or_none (is_free u.place && permitted rank types u.unit.kind u.unit.target)
    (list_any (λ (x : Placed). is_free x.place && permitted rank types x.unit.kind x.unit.target) us) none in
    (not_for a.0 f.0, none_listed rank types us a.1 f.1)
  where
    or_none : (s t : Bool) → (s || t) ≡ false → (s ≡ false) × (t ≡ false)
    or_none true t e = absurd (cc)
    or_none false t e = (refl, e)

    not_for : is_travelling u.place ≡ false → (is_free u.place && permitted rank types u.unit.kind u.unit.target) ≡ false
        → NotFor rank types u
    not_for stays misses loose =
        let free : is_free u.place ≡ true = by_or (is_free u.place) (is_travelling u.place) stays loose in rw free at misses
      where
        by_or : (s t : Bool) → t ≡ false → (s || t) ≡ true → s ≡ true
        by_or true t off e = refl
        by_or false t off e = absurd (cc)

-- a bag that is settled is over
pub settled_over : (b : Bag) → settled b ≡ true → AllOver b
settled_over b is rank x here = by_status x.status refl (s.0 rank x here) (s.4 rank x here)
  where
    s : IsSettled b
    s = settled_is b is

    by_status : (t : Status) → x.status ≡ t → is_asking_or_finished t ≡ true → has_fit b.units rank t ≡ false → IsOver b rank x
    by_status is_at.Finished e rests fits = inl e
    by_status (is_at.Asking call types) e rests fits = inr (inl (call, types, e, none_listed rank types b.units s.3 fits))
    by_status _ e rests fits = absurd (cc)
