-- What holds of a run of orderly ranks while it goes on, entry by entry.
use Rattle.std.proofs.Common.{◌≡◌, ℕ, zero, suc, ◌<◌, ◌⊎◌, inl, inr, Bool, true, false, ◌&&◌, List, [], ◌∷◌, ◌++◌, length, All, Option}
use Rattle.std.proofs.Common.{Some, None, refl, sym, ap, ◌∙◌, subst, arith, slice_get}
use Rattle.std.specs.Prelude.{sum_by, option_and_then}
use Rattle.std.specs.List.{list_any}
use Rattle.std.proofs.lemmas.Bool.{or_parts, eq-eqb}
use Rattle.std.proofs.lemmas.List.Elements.{All-nil, All-cons, All-head, All-tail, All-push}
use Rattle.std.proofs.lemmas.List.Sums.{sum_by-cons}
use Rattle.adlb_unit.specs.declared.names.Rank.{Rank}
use Rattle.adlb_unit.specs.declared.names.Server.{Server}
use Rattle.adlb_unit.specs.declared.names.BatchId.{BatchId}
use Rattle.adlb_unit.specs.declared.names.Target.{Target}
use Rattle.adlb_unit.specs.declared.names.Target.TheVariants as targets
use Rattle.adlb_unit.specs.declared.names.UnitId.{UnitId}
use Rattle.adlb_unit.specs.declared.names.CommonRef.{CommonRef}
use Rattle.adlb_unit.specs.declared.names.WorkType.{WorkType}
use Rattle.adlb_unit.specs.declared.notes.UnitNote.{UnitNote}
use Rattle.adlb_unit.specs.declared.units.Unit.{Unit}
use Rattle.adlb_unit.proofs.Permitted.{for_only, for_soft}
use Rattle.adlb_unit.specs.Permit.{is_for, permitted}
use Rattle.adlb_unit.specs.Ids.{same_unit}
use Rattle.bag_ledger.specs.declared.entries.Entry.{Entry}
use Rattle.bag_ledger.specs.declared.entries.Entry.TheVariants.{Accepted, Kept, Done, Exhausted}
use Rattle.bag_ledger.specs.declared.entries.Call.TheVariants as calls_to
use Rattle.bag_ledger.specs.declared.entries.Answer.TheVariants as answers
use Rattle.bag_ledger.specs.declared.entries.Said.{Said}
use Rattle.bag_ledger.specs.declared.states.RankState.{RankState}
use Rattle.bag_ledger.specs.declared.states.Placed.{Placed}
use Rattle.bag_ledger.specs.declared.states.UnitPlace.{UnitPlace}
use Rattle.bag_ledger.specs.declared.states.UnitPlace.TheVariants.{Free, Travelling, Pinned, Spent}
use Rattle.bag_ledger.specs.declared.states.Status.{Status}
use Rattle.bag_ledger.specs.declared.states.Status.TheVariants as does
use Rattle.bag_ledger.specs.Bag.{Bag, rank_at, settled, is_asking, is_asking_or_finished, is_free, is_travelling, has_fit, putting, keeping}
use Rattle.bag_ledger.specs.Steps.{Is, Legal, after, change_first, shared, taken, kept}
use Rattle.bag_ledger.specs.Runs.{says, call_of}
use Rattle.bag_ledger.specs.Words.{IsSettled}
use Rattle.bag_ledger.proofs.Tests.{some_is}
use Rattle.bag_ledger.proofs.Settled.{settled_is}
use Rattle.bag_law.specs.Sound.{IsSoundBag}
use Rattle.bag_law.proofs.Sound.{step_keeps_sound}
use Rattle.balance_law.specs.Orderly.{IsAimed, IsNext}
use Rattle.balance_law.proofs.Paths.{IsPath, of_rank, along, weight}
use Rattle.balance_law.proofs.Commons.{bytes_in}
use Rattle.balance_law.proofs.Deeds.{accepted, granted, fetched}
use Rattle.balance_law.proofs.Seen.{IsAway, IsTurn, seen, of_mine, ranks_stay}
use Rattle.balance_law.proofs.Shifts.{is_loose, lies, standing, IsMove, Shift, stays, adds, pins, spends, leaves, arrives, shift_of}
use Rattle.balance_law.proofs.Shifts.{loose_stands}
use Rattle.balance_law.proofs.Tallies.{AreAimed, Hand, Holds, IsTally, next_done, tally_none}
use Rattle.balance_law.proofs.Calling.{Leaves, closes, each, gone, hand_then, is_finished, leaves_never_done, orderly_next, pending_next}
use Rattle.balance_law.proofs.Calling.{runs, away_kept, turn_kept, IsCalling, IsEntered, IsKept}

-- what holds before these entries, where each rank has this in hand
pub record IsGoing (n : ℕ) (b last : Bag) (es : List Entry) (hands : Rank → Hand) : Type 0 where
  pub calling : (rank : Rank) (r : RankState) → Is b rank r → IsCalling n b rank r (hands rank) (along says b es rank)
  pub batch : (rank : Rank) (r : RankState) → Is b rank r → (hands rank).batch ≡ bytes_in last r.batch
  pub aimed : AreAimed n b
  pub nothing_loose : b.exhausted ≡ true → standing is_loose each b ≡ 0
  pub undone : b.done ≡ false
  pub sound : IsSoundBag b
  pub long : length b.ranks ≡ n

-- what each rank has in hand after the entry
abbrev pub hands_after : Bag → Entry → (Rank → Hand) → Rank → Hand
hands_after b e hands rank = hand_then b e rank (hands rank)

-- it holds after the first of them, and what each rank said by that is counted
pub record IsStepped (n : ℕ) (b last : Bag) (e : Entry) (es : List Entry) (hands : Rank → Hand) : Type 0 where
  pub going : IsGoing n (after b e) last es (hands_after b e hands)
  pub tally : (rank : Rank) → rank.0 < n
      → IsTally last (hands rank) (of_rank rank (says b e)) (of_rank rank (accepted b e)) (of_rank rank (granted b e))
      (of_rank rank (fetched b e))

-- a list has an element at each of its places
pub there_is : {X : Type 0} (xs : List X) (place : ℕ) → place < length xs → (x : X) × (slice_get xs place ≡ Some x)
there_is [] place below = absurd (omega arith)
there_is (x ∷ xs) zero below = (x, refl)
there_is (x ∷ xs) (suc place) below = there_is xs place (omega arith)

-- The marks: exhaustion is found by Exhausted alone, and Done alone calls the problem done.

abbrev is_found : Entry → Bool
is_found Exhausted = true
is_found e = false

abbrev is_done : Entry → Bool
is_done (Done rank call) = true
is_done e = false

shared_marks : (common : Option CommonRef) (b : Bag) → ((shared common b).exhausted ≡ b.exhausted) × ((shared common b).done ≡ b.done)
shared_marks None b = (refl, refl)
shared_marks (Some common) b = (refl, refl)

taken_marks : (server : Server) (o : Option Unit) (b : Bag)
    → ((taken server o b).exhausted ≡ b.exhausted) × ((taken server o b).done ≡ b.done)
taken_marks server None b = (refl, refl)
taken_marks server (Some u) b = shared_marks u.common (record b { units = b.units ++ record { unit = u; place = Free server } ∷ [] })

kept_marks : (server : Server) (batch : BatchId) (o : Option (ℕ × List ℕ)) (b : Bag)
    → ((kept server batch o b).exhausted ≡ b.exhausted) × ((kept server batch o b).done ≡ b.done)
kept_marks server batch None b = (refl, refl)
kept_marks server batch (Some (call, common)) b = (refl, refl)

marks_stay : (b : Bag) (e : Entry) → is_found e ≡ false → is_done e ≡ false
    → ((after b e).exhausted ≡ b.exhausted) × ((after b e).done ≡ b.done)
marks_stay b (Accepted server id) found done = taken_marks server (option_and_then (λ r. putting r.status) (rank_at b id.rank)) b
marks_stay b (Kept server batch) found done = kept_marks server batch (option_and_then (λ r. keeping r.status) (rank_at b batch.rank)) b
marks_stay b (Done rank call) found done = absurd (cc)
marks_stay b Exhausted found done = absurd (cc)
marks_stay b _ found done = (refl, refl)

-- What is put is for any or a rank of the run, and nothing is put once exhaustion was found.

-- a rank that leaves puts nothing
leaves_no_put : (r : RankState) (u : Unit) (batch : Option (List ℕ)) (said : List Said) → r.status ≡ does.Putting u → Leaves r batch said
    → ⊥
leaves_no_put r u batch said puts (runs at rest) = absurd (cc)
leaves_no_put r u batch said puts (closes pends rest) =
    let put : Some (calls_to.Put u.kind u.prio u.target u.answer u.body) ≡ Some calls_to.EndBatch = rw puts at pends in absurd (cc)
leaves_no_put r u batch said puts (gone done none) = absurd (cc)

put_aimed : (n : ℕ) (b last : Bag) (es : List Entry) (hands : Rank → Hand) (rank : Rank) (r : RankState) (u : Unit) → IsPath b es last
    → IsGoing n b last es hands → Is b rank r → r.status ≡ does.Putting u → IsAimed n u.target × (b.exhausted ≡ true → ⊥)
put_aimed n b last es hands rank r u path going there puts = by_case (going.calling rank r there)
  where
    aimed : (o : Option UnitNote) → IsNext n o (hands rank).batch (calls_to.Put u.kind u.prio u.target u.answer u.body) → IsAimed n u.target
    aimed None next = next
    aimed (Some note) next = absurd next

    by_case : IsCalling n b rank r (hands rank) (along says b es rank) → IsAimed n u.target × (b.exhausted ≡ true → ⊥)
    by_case (inl untold) =
        let pends : call_of r.status ≡ Some (calls_to.Put u.kind u.prio u.target u.answer u.body) = rw puts refl in
        let next = pending_next n b last es rank r (hands rank) _ path there pends untold.orderly in
        (aimed (hands rank).held next, λ ex. let asks : false ≡ true = rw puts at (untold.asks ex) in absurd (cc))
    by_case (inr told) = absurd (leaves_no_put r u (hands rank).batch (along says b es rank) puts told.leaves)

all_changed : {X : Type 0} (P : X → Type 0) (f : X → X) (test : X → Bool) → ((x : X) → P x → P (f x)) → (xs : List X) → All P xs
    → All P (change_first f test xs)
all_changed P f test same [] all = All-nil P
all_changed P f test same (x ∷ xs) all = by_test (all_changed P f test same xs (All-tail P x xs all)) (test x) refl
  where
    by_test : All P (change_first f test xs) → (t : Bool) → test x ≡ t → All P (change_first f test (x ∷ xs))
    by_test rest true is = rw is (All-cons P (f x) xs (same x (All-head P x xs all)) (All-tail P x xs all))
    by_test rest false is = rw is (All-cons P x (change_first f test xs) (All-head P x xs all) rest)

moved_aimed : (n : ℕ) (b : Bag) (e : Entry) (id : UnitId) (u : Placed) (from to : UnitPlace) → IsMove b e id u from to → AreAimed n b
    → AreAimed n (after b e)
moved_aimed n b e id u from to m aimed =
    let moved =
    all_changed (λ u. IsAimed n u.unit.target) (λ u. record u { place = to }) (λ u. same_unit u.unit.id id) (λ x is. is) b.units aimed in
    rw m.moves moved

aimed_next : (n : ℕ) (b last : Bag) (e : Entry) (es : List Entry) (hands : Rank → Hand) → IsPath b (e ∷ es) last
    → IsGoing n b last (e ∷ es) hands → Shift b e → AreAimed n (after b e)
aimed_next n b last e es hands path going (stays same idle) = rw same going.aimed
aimed_next n b last e es hands path going (adds rank r u server there puts units accepts grants gives) =
    let put = (put_aimed n b last (e ∷ es) hands rank r u path going there puts).0 in
    rw units (All-push (λ u. IsAimed n u.unit.target) b.units (record { unit = u; place = Free server }) going.aimed put)
aimed_next n b last e es hands path going (pins id u server rank m accepts grants gives) = moved_aimed n b e id u _ _ m going.aimed
aimed_next n b last e es hands path going (spends id u server rank m accepts grants gives) = moved_aimed n b e id u _ _ m going.aimed
aimed_next n b last e es hands path going (leaves id u server to m idle) = moved_aimed n b e id u _ _ m going.aimed
aimed_next n b last e es hands path going (arrives id u server m idle) = moved_aimed n b e id u _ _ m going.aimed

none_accepted : (n : ℕ) (b last : Bag) (e : Entry) (es : List Entry) (hands : Rank → Hand) → IsPath b (e ∷ es) last
    → IsGoing n b last (e ∷ es) hands → b.exhausted ≡ true → Shift b e → weight each (accepted b e) ≡ 0
none_accepted n b last e es hands path going ex (stays same idle) = rw idle.0 refl
none_accepted n b last e es hands path going ex (adds rank r u server there puts units accepts grants gives) =
    absurd ((put_aimed n b last (e ∷ es) hands rank r u path going there puts).1 ex)
none_accepted n b last e es hands path going ex (pins id u server rank m accepts grants gives) = rw accepts refl
none_accepted n b last e es hands path going ex (spends id u server rank m accepts grants gives) = rw accepts refl
none_accepted n b last e es hands path going ex (leaves id u server to m idle) = rw idle.0 refl
none_accepted n b last e es hands path going ex (arrives id u server m idle) = rw idle.0 refl

-- An entry by which exhaustion is not found.

other_next : (n : ℕ) (b last : Bag) (e : Entry) (es : List Entry) (hands : Rank → Hand) → is_found e ≡ false → is_done e ≡ false
    → IsPath b (e ∷ es) last → IsGoing n b last (e ∷ es) hands → IsStepped n b last e es hands
other_next n b last e es hands found done path going = record {
  going = record {
    calling = λ rank now here. (kept rank now here).calling;
    batch = λ rank now here. (kept rank now here).batch;
    aimed = aimed_next n b last e es hands path going (shift_of b e path.0);
    nothing_loose = λ ex.
        let was : b.exhausted ≡ true = sym marks.0 ∙ ex in
        let none = none_accepted n b last e es hands path going was (shift_of b e path.0) in
        let law = loose_stands each b e path.0 in
        let before = going.nothing_loose was in
        omega (arith, none, law, before);
    undone = marks.1 ∙ going.undone;
    sound = step_keeps_sound settled b e path.0 going.sound;
    long = long;
  };
  tally = λ rank below.
      let now = there_is (after b e).ranks rank.0 (rw long below) in
      (kept rank now.0 now.1).tally;
}
  where
    marks : ((after b e).exhausted ≡ b.exhausted) × ((after b e).done ≡ b.done)
    marks = marks_stay b e found done

    long : length (after b e).ranks ≡ n
    long = ranks_stay b e path.0 ∙ going.long

    entered : IsEntered n b last e es
    entered = record {
      legal = path.0;
      path = path.1;
      same = marks.0;
      sound = going.sound;
      settled = going.nothing_loose;
      undone = going.undone;
    }

    by_case : (rank : Rank) (now : RankState) → Is (after b e) rank now → IsAway b e rank ⊎ IsTurn b e rank
        → IsKept n b last e es rank now (hands rank)
    by_case rank now here (inl away) =
        let there : Is b rank now = sym away.0 ∙ here in
        away_kept n b last e es rank now (hands rank) entered away (going.batch rank now there) (going.calling rank now there)
    by_case rank now here (inr t) =
        let one : t.now ≡ now = some_is (sym t.here ∙ here) in
        subst (λ (x : RankState). IsKept n b last e es rank x (hands rank)) one
        (turn_kept n b last e es rank t.was t.now (hands rank) entered t.there t.here (going.batch rank t.was t.there)
        (going.calling rank t.was t.there) t.deed)

    kept : (rank : Rank) (now : RankState) → Is (after b e) rank now → IsKept n b last e es rank now (hands rank)
    kept rank now here = by_case rank now here (seen b e path.0 rank)

-- No rank calls the problem done.

never_done : (n : ℕ) (b last : Bag) (rank : Rank) (call : ℕ) (es : List Entry) (hands : Rank → Hand) → Legal b (Done rank call)
    → IsGoing n b last (Done rank call ∷ es) hands → ⊥
never_done n b last rank call es hands l going = by_case (going.calling rank l.0 l.1.0)
  where
    mine : of_rank rank (says b (Done rank call)) ≡ record { call = calls_to.SetDone; answer = answers.Fine } ∷ []
    mine = of_mine rank (says b (Done rank call)) (record { call = calls_to.SetDone; answer = answers.Fine }) refl

    by_case : IsCalling n b rank l.0 (hands rank) (along says b (Done rank call ∷ es) rank) → ⊥
    by_case (inl u) =
        let o =
        orderly_next n (hands rank).held (hands rank).batch (record { call = calls_to.SetDone; answer = answers.Fine })
        (along says (after b (Done rank call)) es rank) (rw mine at u.orderly) in
        next_done n (hands rank).held (hands rank).batch o.0
    by_case (inr t) = leaves_never_done l.0 (hands rank).batch (along says (after b (Done rank call)) es rank) l.1.1 (rw mine at t.leaves)

-- Exhaustion is found: each rank asks for a unit of any type, so none is free.

abbrev fits : Rank → Placed → Bool
fits rank u = is_free u.place && permitted rank None u.unit.kind u.unit.target

one_loose : (n : ℕ) (u : Placed) → 0 < n → is_travelling u.place ≡ false → IsAimed n u.unit.target
    → ((rank : Rank) → rank.0 < n → fits rank u ≡ false) → lies is_loose each u ≡ 0
one_loose n u some still aimed none = by_place u.place refl
  where
    by_target : (target : Target) (server : Server) → u.place ≡ Free server → u.unit.target ≡ target → IsAimed n target → ⊥
    by_target targets.Any server free is aimed =
        let h : true ≡ false = rw (free, is) at (none (record { 0 = 0 }) some) in
        absurd (cc)
    by_target (targets.Only rank) server free is aimed =
        let h : (is_for (targets.Only rank) rank && true) ≡ false = rw (free, is) at (none rank aimed) in
        let e : is_for (targets.Only rank) rank ≡ true = for_only rank rank ∙ eq-eqb rank.0 rank.0 refl in
        let f : true ≡ false = rw e at h in
        absurd (cc)
    by_target (targets.Soft rank) server free is aimed =
        let h : (is_for (targets.Soft rank) rank && true) ≡ false = rw (free, is) at (none rank aimed) in
        let f : true ≡ false = rw (for_soft rank rank) at h in
        absurd (cc)

    by_place : (place : UnitPlace) → u.place ≡ place → lies is_loose each u ≡ 0
    by_place (Pinned server rank) is = rw is refl
    by_place Spent is = rw is refl
    by_place (Travelling to) is = let goes : is_travelling u.place ≡ true = rw is refl in absurd (cc)
    by_place (Free server) is = absurd (by_target u.unit.target server is refl aimed)

none_loose : (n : ℕ) (us : List Placed) → 0 < n → list_any (λ u. is_travelling u.place) us ≡ false → All (λ u. IsAimed n u.unit.target) us
    → ((rank : Rank) → rank.0 < n → list_any (fits rank) us ≡ false) → sum_by (lies is_loose each) us ≡ 0
none_loose n [] some still aimed none = refl
none_loose n (u ∷ us) some still aimed none =
    let t = or_parts (is_travelling u.place) (list_any (λ u. is_travelling u.place) us) still in
    let rest =
    none_loose n us some t.1 (All-tail (λ u. IsAimed n u.unit.target) u us aimed)
    (λ rank below. (or_parts (fits rank u) (list_any (fits rank) us) (none rank below)).1) in
    let first =
    one_loose n u some t.0 (All-head (λ u. IsAimed n u.unit.target) u us aimed)
    (λ rank below. (or_parts (fits rank u) (list_any (fits rank) us) (none rank below)).0) in
    rw (sum_by-cons (lies is_loose each) u us) (omega (arith, rest, first))

asks_any : (units : List Placed) (rank : Rank) (status : Status) (call : ℕ) (types : Option (List WorkType))
    → status ≡ does.Asking call types → types ≡ None → has_fit units rank status ≡ false → list_any (fits rank) units ≡ false
asks_any units rank status call types asks any none = rw (asks, any) at none

holds_found : (b : Bag) (rank : Rank) (held : Option UnitNote) (owed : List Unit) → Holds b rank held owed
    → Holds (after b Exhausted) rank held owed
holds_found b rank None owed holds = holds
holds_found b rank (Some note) owed holds = record { placed = holds.placed; there = holds.there; told = holds.told; stands = holds.stands }

found_next : (n : ℕ) (b last : Bag) (es : List Entry) (hands : Rank → Hand) → 0 < n → IsPath b (Exhausted ∷ es) last
    → IsGoing n b last (Exhausted ∷ es) hands → IsStepped n b last Exhausted es hands
found_next n b last es hands some path going = record {
  going = record {
    calling = λ rank r there. found rank r there (going.calling rank r there);
    batch = going.batch;
    aimed = going.aimed;
    nothing_loose =
        λ ex. none_loose n b.units some means.3 going.aimed
        (λ rank below. let r = there_is b.ranks rank.0 (rw going.long below) in no_fit rank r.0 r.1 (going.calling rank r.0 r.1));
    undone = going.undone;
    sound = step_keeps_sound settled b Exhausted path.0 going.sound;
    long = going.long;
  };
  tally = λ rank below. tally_none last (hands rank);
}
  where
    means : IsSettled b
    means = settled_is b path.0.0

    asking : (status : Status) → is_asking_or_finished status ≡ true → is_finished status ≡ false → is_asking status ≡ true
    asking (does.Asking call types) either live = refl
    asking does.Finished either live = absurd (cc)
    asking _ either live = absurd (cc)

    asks_for : (status : Status) → is_asking status ≡ true
        → (call : ℕ) × (types : Option (List WorkType)) × (status ≡ does.Asking call types)
    asks_for (does.Asking call types) asks = (call, types, refl)
    asks_for _ asks = absurd (cc)

    any_type : (o : Option UnitNote) (batch : Option (List ℕ)) (types : Option (List WorkType)) → IsNext n o batch (calls_to.Reserve types)
        → types ≡ None
    any_type None batch types next = next
    any_type (Some note) batch types next = absurd next

    found : (rank : Rank) (r : RankState) → Is b rank r → IsCalling n b rank r (hands rank) (along says b (Exhausted ∷ es) rank)
        → IsCalling n (after b Exhausted) rank r (hands rank) (along says (after b Exhausted) es rank)
    found rank r there (inl u) = inl (record {
      no_end = u.no_end;
      unfinished = u.unfinished;
      orderly = u.orderly;
      holds = holds_found b rank (hands rank).held (hands rank).owed u.holds;
      asks = λ ex. asking r.status (means.0 rank r there) u.unfinished;
    })
    found rank r there (inr t) = inr (record { told = t.told; marked = refl; nothing = t.nothing; owes = t.owes; leaves = t.leaves })

    no_fit : (rank : Rank) (r : RankState) → Is b rank r → IsCalling n b rank r (hands rank) (along says b (Exhausted ∷ es) rank)
        → list_any (fits rank) b.units ≡ false
    no_fit rank r there (inr t) = let early = path.0.1 in let late = t.marked in absurd (cc)
    no_fit rank r there (inl u) =
        let a = asks_for r.status (asking r.status (means.0 rank r there) u.unfinished) in
        let pends : call_of r.status ≡ Some (calls_to.Reserve a.1) = ap call_of a.2 in
        let next = pending_next n b last (Exhausted ∷ es) rank r (hands rank) (calls_to.Reserve a.1) path there pends u.orderly in
        asks_any b.units rank r.status a.0 a.1 a.2 (any_type (hands rank).held (hands rank).batch a.1 next) (means.4 rank r there)

-- a run of orderly ranks goes on by one entry
pub going_next : (n : ℕ) (b last : Bag) (e : Entry) (es : List Entry) (hands : Rank → Hand) → 0 < n → IsPath b (e ∷ es) last
    → IsGoing n b last (e ∷ es) hands → IsStepped n b last e es hands
going_next n b last Exhausted es hands some path going = found_next n b last es hands some path going
going_next n b last (Done rank call) es hands some path going = absurd (never_done n b last rank call es hands path.0 going)
going_next n b last e es hands some path going = other_next n b last e es hands refl refl path going
