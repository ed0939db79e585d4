-- That no free unit lies for a rank that waits.
use Rattle.std.proofs.Common.{◌≡◌, ◌<◌, ℕ, Bool, true, false, not, List, [], ◌∷◌, ◌++◌, length, map, filter, find, get_or, Option, None}
use Rattle.std.proofs.Common.{Some, All, Any, refl, sym, ap, subst, ◌∙◌}
use Rattle.std.proofs.lemmas.List.{get_or_default}
use Rattle.std.proofs.lemmas.List.Elements.{All-filter, All-map, All-push, All-weaker}
use Rattle.adlb_unit.specs.Ids.{same_unit}
use Rattle.adlb_unit.specs.Ring.{others}
use Rattle.adlb_unit.specs.declared.names.Rank.{Rank}
use Rattle.adlb_unit.specs.declared.names.Server.{Server}
use Rattle.adlb_unit.specs.declared.names.UnitId.{UnitId}
use Rattle.adlb_unit.specs.declared.names.WorkType.{WorkType}
use Rattle.adlb_unit.specs.declared.units.Unit.{Unit}
use Rattle.adlb_unit.proofs.Same.{same_unit_from}
use Rattle.work_queue.specs.Best.{IsBest, IsOffered, best_of}
use Rattle.work_queue.specs.Queue.{Queue, has_other_id, id_of, pinned_by, with_arrival, with_pin, with_unit}
use Rattle.work_queue.specs.declared.placing.Placed.{Placed}
use Rattle.work_queue.proofs.Lists.{free_from_best}
use Rattle.work_queue.proofs.Offers.{is_permitted}
use Rattle.work_queue.proofs.Searched.{find_first, find_none}
use Rattle.work_queue.proofs.Walks.{best_walk, no_best}
use Rattle.server_components.specs.Calls.{after_ask, after_none, asking, asks_next, given, gone, gone_if, hears_of, hinted, hints_next, is_since}
use Rattle.server_components.specs.Calls.{or_else, reserved, suits, suits_first, taker_of, takes, takes_first, turned}
use Rattle.server_components.specs.Grants.{best_for, pinned_to, with_grant}
use Rattle.server_components.specs.Parked.{IsParked, ParkedModel, entry_of, is_by, is_of}
use Rattle.server_components.specs.Rest.{HasNoneFor, NoneFits, NoneWished}
use Rattle.server_components.specs.declared.waits.Waiting.{Waiting}
use Rattle.server_components.specs.declared.wishes.Wish.{Wish}
use Rattle.server_components.proofs.Granted.{best_there, none_best}
use Rattle.server_components.proofs.Places.{at_only, of_tells}

-- None has it: of each it is not so.

-- if no element has a property, each lacks it
pub each_not : {X : Type 0} (P : X → Type 0) (xs : List X) → (Any P xs → ⊥) → All (λ x. P x → ⊥) xs
each_not P xs none k d within has = none (k, get_or xs k d, within, get_or_default xs k (get_or xs k d) d within, has)

-- if each element lacks a property, no element has it
pub not_any : {X : Type 0} (P : X → Type 0) (xs : List X) → All (λ x. P x → ⊥) xs → Any P xs → ⊥
not_any P xs all has = all has.0 has.1 has.2 (subst P (sym has.3) has.4)

abbrev NotOffered : Wish → Placed → Type 0
NotOffered w p = IsOffered w.rank w.types p → ⊥

-- The best one.

best_is : (q : Queue) (rank : Rank) (types : Option (List WorkType)) (id : UnitId) → best_of rank types q.units ≡ Some id
    → (p : Placed) × (best_for q rank types ≡ Some p) × (id_of p ≡ id)
best_is q rank types id best =
    let there = best_there q rank types id best (free_from_best rank types q.units id ((best_walk rank types q.units id).0 best)) in
    (there.0, there.1, there.2.has_id)

-- the unit that is granted is the best that is offered
pub granted_is_best : (q : Queue) (rank : Rank) (types : Option (List WorkType)) (p : Placed) → best_for q rank types ≡ Some p
    → IsBest rank types q.units (id_of p)
granted_is_best q rank types p is = by_best (best_of rank types q.units) refl
  where
    by_best : (o : Option UnitId) → best_of rank types q.units ≡ o → IsBest rank types q.units (id_of p)
    by_best None best = let none = sym (none_best q rank types best) ∙ is in absurd (cc (none))
    by_best (Some id) best =
        let there = best_is q rank types id best in
        let found : Some there.0 ≡ Some p = sym there.1 ∙ is in
        let same : there.0 ≡ p = cc (found) in
        subst (IsBest rank types q.units) (sym there.2 ∙ ap id_of same) ((best_walk rank types q.units id).0 best)

-- if there is no best unit for a rank, no unit is offered to it
pub none_granted_is : (q : Queue) (rank : Rank) (types : Option (List WorkType)) → best_for q rank types ≡ None
    → Any (IsOffered rank types) q.units → ⊥
none_granted_is q rank types is = by_best (best_of rank types q.units) refl
  where
    by_best : (o : Option UnitId) → best_of rank types q.units ≡ o → Any (IsOffered rank types) q.units → ⊥
    by_best None best = (no_best rank types q.units).0 best
    by_best (Some id) best = let there = best_is q rank types id best in let none = sym there.1 ∙ is in absurd (cc (none))

-- if no unit is offered, none is granted
pub none_is_granted : (q : Queue) (rank : Rank) (types : Option (List WorkType)) → (Any (IsOffered rank types) q.units → ⊥)
    → best_for q rank types ≡ None
none_is_granted q rank types none = none_best q rank types ((no_best rank types q.units).1 none)

-- Fewer units are free.

not_pinned : (w : Wish) (id : UnitId) (rank : Rank) (p : Placed) → NotOffered w p → NotOffered w (pinned_by id rank p)
not_pinned w id rank p fails = by_test (same_unit (id_of p) id) refl
  where
    by_test : (t : Bool) → same_unit (id_of p) id ≡ t → NotOffered w (pinned_by id rank p)
    by_test true is = rw is (λ offered. absurd (cc (offered.0)))
    by_test false is = rw is fails

pinned_not : (w : Wish) (rank : Rank) (p : Placed) → NotOffered w (pinned_by (id_of p) rank p)
pinned_not w rank p =
    let same : same_unit (id_of p) (id_of p) ≡ true = same_unit_from (id_of p) (id_of p) refl in
    rw same (λ offered. absurd (cc (offered.0)))

-- after a pin
module _ (w : Wish) (id : UnitId) (rank : Rank) (units : List Placed) where
  all_pinned : All (NotOffered w) units → All (NotOffered w) (map (pinned_by id rank) units)
  all_pinned all =
      let Q : Placed → Type 0 = λ p. NotOffered w (pinned_by id rank p) in
      All-map (NotOffered w) (pinned_by id rank) units (All-weaker (NotOffered w) Q (not_pinned w id rank) units all)

-- a queue without a unit for a wish has none after a pin
pub none_pinned : (q : Queue) (rank : Rank) (o : Option Placed) (w : Wish) → HasNoneFor q w → HasNoneFor (pinned_to rank o q) w
none_pinned q rank None w none = none
none_pinned q rank (Some p) w none =
    not_any (IsOffered w.rank w.types) (map (pinned_by (id_of p) rank) q.units)
    (all_pinned w (id_of p) rank q.units (each_not (IsOffered w.rank w.types) q.units none))

-- without one unit, a queue that has nothing for a wish has nothing for it still
pub none_left : (q : Queue) (id : UnitId) (w : Wish) → HasNoneFor q w
    → Any (IsOffered w.rank w.types) (filter (has_other_id id) q.units) → ⊥
none_left q id w none =
    not_any (IsOffered w.rank w.types) (filter (has_other_id id) q.units)
    (All-filter (has_other_id id) (NotOffered w) q.units (each_not (IsOffered w.rank w.types) q.units none))

-- One unit more is free, which is not for the wish.
none_more : (q : Queue) (unit : Unit) (w : Wish) → HasNoneFor q w → NotOffered w (record { unit = unit; pin = None })
    → HasNoneFor (with_unit q unit) w
none_more q unit w none fails =
    let p : Placed = record { unit = unit; pin = None } in
    not_any (IsOffered w.rank w.types) (q.units ++ p ∷ [])
    (All-push (NotOffered w) q.units p (each_not (IsOffered w.rank w.types) q.units none) fails)

-- or was given away
none_given : (q : Queue) (unit : Unit) (rank : Rank) (w : Wish) → HasNoneFor q w → HasNoneFor (with_pin (with_unit q unit) unit.id rank) w
none_given q unit rank w none =
    let p : Placed = record { unit = unit; pin = None } in
    let Q : Placed → Type 0 = λ x. NotOffered w (pinned_by unit.id rank x) in
    let before = All-weaker (NotOffered w) Q (not_pinned w unit.id rank) q.units (each_not (IsOffered w.rank w.types) q.units none) in
    not_any (IsOffered w.rank w.types) (map (pinned_by unit.id rank) (q.units ++ p ∷ []))
    (All-map (NotOffered w) (pinned_by unit.id rank) (q.units ++ p ∷ []) (All-push Q q.units p before (pinned_not w rank p)))

-- Ranks that wait here.

abbrev Rests : Queue → Waiting → Type 0
Rests q e = e.asked ≡ None → HasNoneFor q e.wish

fits_less : (q r : Queue) (m : ParkedModel) → ((w : Wish) → HasNoneFor q w → HasNoneFor r w) → NoneFits q m → NoneFits r m
fits_less q r m less rest = All-weaker (Rests q) (Rests r) (λ e rests idle. less e.wish (rests idle)) m.parked.waiting rest

-- a grant leaves nothing that fits an idle rank that waits
pub grant_rests : (q : Queue) (m : ParkedModel) (rank : Rank) (types : Option (List WorkType)) → NoneFits q m
    → NoneFits (with_grant q rank types) m
grant_rests q m rank types = fits_less q (with_grant q rank types) m (none_pinned q rank (best_for q rank types))

-- without one rank, nothing fits an idle rank that waits
pub gone_rests : (q : Queue) (m : ParkedModel) (rank : Rank) → NoneFits q m → NoneFits q (gone m rank)
gone_rests q m rank rest = All-filter (λ e. not (is_of rank e)) (Rests q) m.parked.waiting rest

-- without one unit, nothing fits an idle rank that waits
pub left_rests : (q : Queue) (m : ParkedModel) (id : UnitId) → NoneFits q m
    → NoneFits (record q { units = filter (has_other_id id) q.units }) m
left_rests q m id = fits_less q (record q { units = filter (has_other_id id) q.units }) m (none_left q id)

-- after a reserve nothing fits an idle rank that waits
pub reserve_rests : (q : Queue) (m : ParkedModel) (w : Wish) → NoneFits q m
    → NoneFits (with_grant q w.rank w.types) (reserved m w (best_for q w.rank w.types))
reserve_rests q m w rest = by_best (best_for q w.rank w.types) refl
  where
    by_best : (o : Option Placed) → best_for q w.rank w.types ≡ o → NoneFits (pinned_to w.rank o q) (reserved m w o)
    by_best None best =
        All-push (Rests q) m.parked.waiting (asking w (others m.config m.me)) rest (λ idle. none_granted_is q w.rank w.types best)
    by_best (Some p) best = fits_less q (pinned_to w.rank (Some p) q) m (none_pinned q w.rank (Some p)) rest

-- the rank's entry is the only one of it
only_entry : (m : ParkedModel) (rank : Rank) (e : Waiting) → IsParked m → entry_of m rank ≡ Some e → (k : ℕ) (d : Waiting)
    → k < length m.parked.waiting → is_of rank (get_or m.parked.waiting k d) ≡ true → get_or m.parked.waiting k d ≡ e
only_entry m rank e sound found k d within is =
    let xs = m.parked.waiting in
    let first = find_first (is_of rank) xs e found in
    let here : get_or xs first.place d ≡ e = get_or_default xs first.place d e first.within ∙ first.read in
    let passes : is_of rank (get_or xs first.place d) ≡ true = subst (λ (x : Waiting). is_of rank x ≡ true) (sym here) first.passes in
    let same : k ≡ first.place = at_only (is_of rank) rank (of_tells rank) xs sound.once first.place k d first.within within passes is in
    ap (λ n. get_or xs n d) same ∙ here

turned_rests : (q : Queue) (test : Waiting → Bool) (f : Waiting → Waiting) (e : Waiting) → Rests q e → (test e ≡ true → Rests q (f e))
    → Rests q (turned test f e)
turned_rests q test f e before after = by_test (test e) refl
  where
    by_test : (t : Bool) → test e ≡ t → Rests q (turned test f e)
    by_test true is = rw is (after is)
    by_test false is = rw is before

-- after another server answers that it has none, nothing fits an idle rank that waits
pub none_rests : (q : Queue) (m : ParkedModel) (rank : Rank) (e : Waiting) → IsParked m → entry_of m rank ≡ Some e → NoneFits q m
    → NoneFits (with_grant q rank e.wish.types) (after_none m rank (best_for q rank e.wish.types))
none_rests q m rank e sound found rest = by_best (best_for q rank e.wish.types) refl
  where
    own : e.wish.rank ≡ rank
    own =
        let first = find_first (is_of rank) m.parked.waiting e found in
        let made : ℕ → Rank = λ n. record { 0 = n } in
        ap made (of_tells rank e first.passes)

    by_best : (o : Option Placed) → best_for q rank e.wish.types ≡ o → NoneFits (pinned_to rank o q) (after_none m rank o)
    by_best None best =
        All-map (Rests q) (turned (is_of rank) asks_next) m.parked.waiting each
      where
        none : HasNoneFor q e.wish
        none = subst (λ r. Any (IsOffered r e.wish.types) q.units → ⊥) (sym own) (none_granted_is q rank e.wish.types best)

        each : All (λ x. Rests q (turned (is_of rank) asks_next x)) m.parked.waiting
        each k d within =
            let x = get_or m.parked.waiting k d in
            turned_rests q (is_of rank) asks_next x (rest k d within)
            (λ is idle. subst (λ (y : Waiting). HasNoneFor q y.wish) (sym (only_entry m rank e sound found k d within is)) none)
    by_best (Some p) best =
        gone_rests (pinned_to rank (Some p) q) m rank (fits_less q (pinned_to rank (Some p) q) m (none_pinned q rank (Some p)) rest)

heard_rests : (q : Queue) (m : ParkedModel) (from : Server) (e : Waiting) → Rests q e → Rests q (hears_of m.config m.me from e)
heard_rests q m from e before = by_asked e.asked refl
  where
    by_asked : (asked : Option Server) → e.asked ≡ asked → Rests q (hears_of m.config m.me from e)
    by_asked None is = rw is (λ none. absurd (cc (none)))
    by_asked (Some s) is = rw is (λ none. absurd (cc (none)))

-- after a hint nothing fits an idle rank that waits
pub hint_rests : (q : Queue) (m : ParkedModel) (rank : Rank) (request : ℕ) (from : Server) → NoneFits q m
    → NoneFits q (hinted m rank request from)
hint_rests q m rank request from rest =
    let test = is_since rank request in
    let f = hears_of m.config m.me from in
    let Q : Waiting → Type 0 = λ e. Rests q (turned test f e) in
    All-map (Rests q) (turned test f) m.parked.waiting
    (All-weaker (Rests q) Q (λ e before. turned_rests q test f e before (λ is. heard_rests q m from e before)) m.parked.waiting rest)

-- A unit became free.

later : {X : Type 0} (o p : Option X) → or_else o p ≡ None → p ≡ None
later None p none = none
later (Some x) p none = absurd (cc (none))

-- what does not suit is not offered
not_suited : (unit : Unit) (w : Wish) → suits unit.kind unit.target w ≡ false → NotOffered w (record { unit = unit; pin = None })
not_suited unit w fails offered =
    let is : suits unit.kind unit.target w ≡ true = is_permitted w.rank w.types unit.kind unit.target offered.1 in
    absurd (cc (fails, is))

not_taken : (unit : Unit) (e : Waiting) → takes unit.kind unit.target e ≡ false → e.asked ≡ None
    → suits unit.kind unit.target e.wish ≡ false
not_taken unit e fails idle = rw idle at fails

-- after a unit is offered, nothing fits an idle rank that waits
pub offer_rests : (q : Queue) (m : ParkedModel) (unit : Unit) → NoneFits q m
    → NoneFits (given (taker_of unit m) (record { unit = unit; pin = None }) (with_unit q unit)) (gone_if m (taker_of unit m))
offer_rests q m unit rest = by_taker (taker_of unit m) refl
  where
    by_taker : (o : Option Waiting) → taker_of unit m ≡ o
        → NoneFits (given o (record { unit = unit; pin = None }) (with_unit q unit)) (gone_if m o)
    by_taker None none = λ k d within idle.
        let xs = m.parked.waiting in
        let e = get_or xs k d in
        let takes_none = find_none (takes unit.kind unit.target) xs
        (later (find (takes_first unit.kind unit.target) xs) (find (takes unit.kind unit.target) xs) none) k d within in
        none_more q unit e.wish (rest k d within idle) (not_suited unit e.wish (not_taken unit e takes_none idle))
    by_taker (Some e) is =
        gone_rests (with_pin (with_unit q unit) unit.id e.wish.rank) m e.wish.rank
        (fits_less q (with_pin (with_unit q unit) unit.id e.wish.rank) m (none_given q unit e.wish.rank) rest)

-- so too if the unit came into room that was promised, for the units are the same
pub arrival_rests : (q : Queue) (m : ParkedModel) (unit : Unit) → NoneFits q m
    → NoneFits (given (taker_of unit m) (record { unit = unit; pin = None }) (with_arrival q unit)) (gone_if m (taker_of unit m))
arrival_rests q m unit rest = by_taker (taker_of unit m) (offer_rests q m unit rest)
  where
    by_taker : (o : Option Waiting) → NoneFits (given o (record { unit = unit; pin = None }) (with_unit q unit)) (gone_if m o)
        → NoneFits (given o (record { unit = unit; pin = None }) (with_arrival q unit)) (gone_if m o)
    by_taker None rests = rests
    by_taker (Some e) rests = rests

-- Ranks that wait elsewhere.

wished_less : (q r : Queue) (m : ParkedModel) → ((w : Wish) → HasNoneFor q w → HasNoneFor r w) → NoneWished q m → NoneWished r m
wished_less q r m less rest = All-weaker (HasNoneFor q) (HasNoneFor r) less m.parked.wishes rest

-- a grant leaves nothing that fits a kept wish
pub grant_wished : (q : Queue) (m : ParkedModel) (rank : Rank) (types : Option (List WorkType)) → NoneWished q m
    → NoneWished (with_grant q rank types) m
grant_wished q m rank types = wished_less q (with_grant q rank types) m (none_pinned q rank (best_for q rank types))

-- after an ask nothing fits a kept wish
pub ask_wished : (q : Queue) (m : ParkedModel) (w : Wish) → NoneWished q m
    → NoneWished (with_grant q w.rank w.types) (after_ask m w (best_for q w.rank w.types))
ask_wished q m w rest = by_best (best_for q w.rank w.types) refl
  where
    by_best : (o : Option Placed) → best_for q w.rank w.types ≡ o → NoneWished (pinned_to w.rank o q) (after_ask m w o)
    by_best None best =
        All-push (HasNoneFor q) (filter (λ v. not (is_by w.rank v)) m.parked.wishes) w
        (All-filter (λ v. not (is_by w.rank v)) (HasNoneFor q) m.parked.wishes rest) (none_granted_is q w.rank w.types best)
    by_best (Some p) best =
        All-filter (λ v. not (is_by w.rank v)) (HasNoneFor (pinned_to w.rank (Some p) q)) m.parked.wishes
        (wished_less q (pinned_to w.rank (Some p) q) m (none_pinned q w.rank (Some p)) rest)

-- a unit that no wish is for leaves nothing that fits a kept wish
pub hint_wished : (q : Queue) (m : ParkedModel) (unit : Unit) → NoneWished q m
    → hints_next unit.kind unit.target m.parked.wishes ≡ None → NoneWished (with_unit q unit) m
hint_wished q m unit rest none k d within =
    let ws = m.parked.wishes in
    let w = get_or ws k d in
    let fails = find_none (suits unit.kind unit.target) ws
    (later (find (suits_first unit.kind unit.target) ws) (find (suits unit.kind unit.target) ws) none) k d within in
    none_more q unit w (rest k d within) (not_suited unit w fails)
