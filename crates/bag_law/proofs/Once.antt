-- No unit is put, accepted, granted or fetched twice in a run: each such entry adds to what the bag counts of the id.
use Rattle.std.proofs.Common.{◌≡◌, ℕ, ◌+◌, ◌≤◌, ◌⊎◌, inl, inr, Bool, true, false, List, [], ◌∷◌, count_by, cond, Option, Some, None, refl}
use Rattle.std.proofs.Common.{ap, ◌∙◌, subst, arith, slice_get}
use Rattle.std.specs.Prelude.{nat_lt}
use Rattle.std.proofs.lemmas.List.Sums.{sum_by-cons, sum_by_push}
use Rattle.adlb_unit.specs.declared.configs.Config.{Config}
use Rattle.adlb_unit.specs.declared.names.Rank.{Rank}
use Rattle.adlb_unit.specs.declared.names.UnitId.{UnitId}
use Rattle.adlb_unit.specs.Ids.{same_unit}
use Rattle.adlb_unit.proofs.Same.{same_unit_is}
use Rattle.bag_ledger.specs.declared.entries.Entry.{Entry}
use Rattle.bag_ledger.specs.declared.entries.Entry.TheVariants.{Putting, Accepted, Kept, Granted, Fetched, Left, Arrived}
use Rattle.bag_ledger.specs.declared.states.Placed.{Placed}
use Rattle.bag_ledger.specs.declared.states.RankState.{RankState}
use Rattle.bag_ledger.specs.declared.states.UnitPlace.{UnitPlace}
use Rattle.bag_ledger.specs.declared.states.UnitPlace.TheVariants.{Free, Travelling, Pinned, Spent}
use Rattle.bag_ledger.specs.Bag.{Bag, start, unit_of}
use Rattle.bag_ledger.specs.Steps.{LegalWhere, after, change_at}
use Rattle.bag_ledger.specs.Runs.{IsRunWhere}
use Rattle.bag_ledger.specs.Words.{accepts, fetches, grants, puts}
use Rattle.bag_ledger.proofs.Moves.{moved_here}
use Rattle.bag_ledger.proofs.Turns.{IsTurn, turn}
use Rattle.bag_law.specs.Counts.{if_there, is_spent, one, units_named, used}
use Rattle.bag_law.proofs.Calls.{is_taken, kept_unit}
use Rattle.bag_law.proofs.Facts.{units_single, used_most}
use Rattle.bag_law.proofs.Ids.{pair_differs, pair_same, same_units, used_begins, used_rises}
use Rattle.bag_law.proofs.Plain.{accepted_is, kept_is, lodged}
use Rattle.bag_law.proofs.Sound.{run_is_sound}
use Rattle.bag_law.proofs.Turn.{Turned, one_le, turned}

-- Each counted entry adds one to a weight that no entry lowers.
abbrev Adds : (Entry → Bool) → (Bag → ℕ) → Type 0
Adds counted w = (found : Bag → Bool) (b : Bag) (e : Entry) → LegalWhere found b e → one (counted e) + w b ≤ w (after b e)

count_grows : (counted : Entry → Bool) (w : Bag → ℕ) → Adds counted w → (found : Bag → Bool) (b last : Bag) (es : List Entry)
    → IsRunWhere found b es last
    → count_by counted es + w b ≤ w last
count_grows counted w adds found b last [] run = rw (ap w run) (omega arith)
count_grows counted w adds found b last (e ∷ es) run =
    let rest = count_grows counted w adds found run.0 last es run.2 in
    let here = adds found b e run.1.1 in
    let next : w run.0 ≡ w (after b e) = ap w run.1.2 in
    let more : count_by counted (e ∷ es) ≡ one (counted e) + count_by counted es =
    sum_by-cons (λ x. cond (counted x) 1 0) e es ∙ ap (λ n. n + count_by counted es) (as_one (counted e)) in
    omega arith
  where
    as_one : (t : Bool) → cond t 1 0 ≡ one t
    as_one true = refl
    as_one false = refl

-- Accepted units.

accepts_add : (id : UnitId) → Adds (accepts id) (λ b. units_named id b.units)
accepts_add id found b (Accepted server x) l =
    let a = accepted_is b server x l in
    let push = sum_by_push (λ u. one (same_unit u.unit.id id)) b.units (lodged server a.u) in
    let own : one (same_unit a.u.id id) ≡ one (same_unit x id) = ap (λ i. one (same_unit i id)) a.named in
    rw a.units (omega arith)
accepts_add id found b (Kept server batch) l = rw (kept_is b server batch l) (omega arith)
accepts_add id found b (Granted server rank call x) l = rw (same_units x id (Pinned server rank) b.units) (omega arith)
accepts_add id found b (Fetched server rank x) l = rw (same_units x id Spent b.units) (omega arith)
accepts_add id found b (Left server to x) l = rw (same_units x id (Travelling to) b.units) (omega arith)
accepts_add id found b (Arrived server x) l = rw (same_units x id (Free server) b.units) (omega arith)
accepts_add id found b _ l = omega arith

-- no unit is accepted twice
pub accepted_once : (found : Bag → Bool) (config : Config) (ledger : List Entry) (last : Bag) (id : UnitId)
    → IsRunWhere found (start config) ledger last
    → count_by (accepts id) ledger ≤ 1
accepted_once found config ledger last id run =
    let grows = count_grows (accepts id) (λ b. units_named id b.units) (accepts_add id) found (start config) last ledger run in
    let most = units_single last (run_is_sound found config ledger last run) id in
    omega arith

-- Units that were put: their numbers are used.

abbrev used_by : UnitId → List RankState → ℕ
used_by id ranks = if_there (used id.number) (slice_get ranks id.rank.0)

used_turn : (id : UnitId) (ranks : List RankState) (place : ℕ) (f : RankState → RankState) (r : RankState) → slice_get ranks place ≡ Some r
    → r.next ≤ (f r).next
    → used_by id ranks ≤ used_by id (change_at f place ranks)
used_turn id ranks place f r there rises = by_case (turned f place ranks r there id.rank.0)
  where
    by_case : Turned f place ranks r id.rank.0
        → if_there (used id.number) (slice_get ranks id.rank.0) ≤ if_there (used id.number) (slice_get (change_at f place ranks) id.rank.0)
    by_case (inl c) = rw (c.1, c.2) (used_rises id.number r.next (f r).next rises)
    by_case (inr c) = rw c.1 (omega arith)

used_stay : (id : UnitId) (found : Bag → Bool) (b : Bag) (e : Entry) → LegalWhere found b e
    → used_by id b.ranks ≤ used_by id (after b e).ranks
used_stay id found b e l = by_case (turn found b e l)
  where
    by_case : ((after b e).ranks ≡ b.ranks) ⊎ IsTurn b.ranks e (after b e).ranks → used_by id b.ranks ≤ used_by id (after b e).ranks
    by_case (inl same) = rw same (omega arith)
    by_case (inr t) =
        let up : t.was.next ≤ (t.f t.was).next = subst (λ (r : RankState). t.was.next ≤ r.next) t.made t.rises in
        rw t.changed (used_turn id b.ranks t.place t.f t.was t.there up)

put_turn : (id : UnitId) (ranks : List RankState) (rank : Rank) (call : ℕ) (f : RankState → RankState) (r : RankState)
    → slice_get ranks rank.0 ≡ Some r → r.next ≡ call → (f r).next ≡ r.next + 1
    → one (same_unit (record { rank = rank; number = call }) id) + used_by id ranks ≤ used_by id (change_at f rank.0 ranks)
put_turn id ranks rank call f r there number next = by_case (turned f rank.0 ranks r there id.rank.0)
  where
    by_case : Turned f rank.0 ranks r id.rank.0
        → one (same_unit (record { rank = rank; number = call }) id) + used_by id ranks ≤ used_by id (change_at f rank.0 ranks)
    by_case (inl c) =
        let same = pair_same rank.0 id.rank.0 call id.number c.0 in
        let u = used_begins id.number call in
        let was : used_by id ranks ≡ one (nat_lt id.number call) = rw (c.2, number) refl in
        let now : used_by id (change_at f rank.0 ranks) ≡ one (nat_lt id.number (call + 1)) = rw (c.1, next, number) refl in
        omega arith
    by_case (inr c) =
        let none = pair_differs rank.0 id.rank.0 call id.number c.0 in
        let same : used_by id (change_at f rank.0 ranks) ≡ used_by id ranks = ap (if_there (used id.number)) c.1 in
        omega arith

puts_add : (id : UnitId) → Adds (puts id) (λ b. used_by id b.ranks)
puts_add id found b (Putting rank call kind prio target answer body) l =
    put_turn id b.ranks rank call _ l.0 l.1.0 l.1.2 refl
puts_add id found b e l = let stays = used_stay id found b e l in omega arith

-- no unit is put twice
pub put_once : (found : Bag → Bool) (config : Config) (ledger : List Entry) (last : Bag) (id : UnitId)
    → IsRunWhere found (start config) ledger last
    → count_by (puts id) ledger ≤ 1
put_once found config ledger last id run =
    let grows = count_grows (puts id) (λ b. used_by id b.ranks) (puts_add id) found (start config) last ledger run in
    let most = used_most id (slice_get last.ranks id.rank.0) in
    omega arith

-- Units that were granted, and units that were fetched: they stand where such units stand from then on.

abbrev standing_as : (UnitPlace → Bool) → UnitId → Bag → ℕ
standing_as test id b = if_there (λ u. one (test u.place)) (unit_of b id)

standing_most : (test : UnitPlace → Bool) (o : Option Placed) → if_there (λ u. one (test u.place)) o ≤ 1
standing_most test None = omega arith
standing_most test (Some u) = one_le (test u.place)

standing_stays : (test : UnitPlace → Bool) → ((place : UnitPlace) → test place ≡ true → is_taken place ≡ true) → test Spent ≡ true
    → (id : UnitId) (found : Bag → Bool) (b : Bag) (e : Entry) → LegalWhere found b e
    → standing_as test id b ≤ standing_as test id (after b e)
standing_stays test taken spent id found b e l = by_unit (unit_of b id) refl
  where
    by_unit : (o : Option Placed) → unit_of b id ≡ o → standing_as test id b ≤ standing_as test id (after b e)
    by_unit None at = rw at (omega arith)
    by_unit (Some u) at = by_test (test u.place) refl
      where
        by_place : (v : Placed) → test u.place ≡ true → (v.place ≡ u.place) ⊎ (v.place ≡ Spent) → test v.place ≡ true
        by_place v is (inl same) = rw same is
        by_place v is (inr gone) = rw gone spent

        by_test : (t : Bool) → test u.place ≡ t → standing_as test id b ≤ standing_as test id (after b e)
        by_test false is = let none : standing_as test id b ≡ 0 = rw (at, is) refl in omega arith
        by_test true is =
            let k = kept_unit found b e id u l at (taken u.place is) in
            let was : standing_as test id b ≡ 1 = rw (at, is) refl in
            let now : standing_as test id (after b e) ≡ 1 = rw (k.1, by_place k.0 is k.3) refl in
            omega arith

-- the unit of this entry goes to such a place, at which it was not
standing_moved : (test : UnitPlace → Bool) (id x : UnitId) (place : UnitPlace) (b n : Bag) (u : Placed) → unit_of b x ≡ Some u
    → unit_of n x ≡ Some (record u { place = place })
    → test u.place ≡ false → test place ≡ true → standing_as test id b ≤ standing_as test id n
    → one (same_unit x id) + standing_as test id b ≤ standing_as test id n
standing_moved test id x place b n u there here was now stays = by_test (same_unit x id) refl
  where
    by_test : (t : Bool) → same_unit x id ≡ t → one t + standing_as test id b ≤ standing_as test id n
    by_test false is = omega arith
    by_test true is =
        let same : x ≡ id = same_unit_is x id is in
        let before : standing_as test id b ≡ 0 = rw (← same, there, was) refl in
        let behind : standing_as test id n ≡ 1 = rw (← same, here, now) refl in
        omega arith

spent_is_taken : (place : UnitPlace) → is_spent place ≡ true → is_taken place ≡ true
spent_is_taken Spent e = refl
spent_is_taken _ e = absurd (cc)

grants_add : (id : UnitId) → Adds (grants id) (standing_as is_taken id)
grants_add id found b (Granted server rank call x) l =
    standing_moved is_taken id x (Pinned server rank) b (after b (Granted server rank call x)) l.2 l.6.0
    (moved_here b x (Pinned server rank) l.2 l.6.0) (rw l.6.1 refl) refl
    (standing_stays is_taken (λ place is. is) refl id found b (Granted server rank call x) l)
grants_add id found b e l = let stays = standing_stays is_taken (λ place is. is) refl id found b e l in omega arith

fetches_add : (id : UnitId) → Adds (fetches id) (standing_as is_spent id)
fetches_add id found b (Fetched server rank x) l =
    standing_moved is_spent id x Spent b (after b (Fetched server rank x)) l.2 l.6.0 (moved_here b x Spent l.2 l.6.0) (rw l.6.1 refl) refl
    (standing_stays is_spent spent_is_taken refl id found b (Fetched server rank x) l)
fetches_add id found b e l = let stays = standing_stays is_spent spent_is_taken refl id found b e l in omega arith

-- no unit is granted twice
pub granted_once : (found : Bag → Bool) (config : Config) (ledger : List Entry) (last : Bag) (id : UnitId)
    → IsRunWhere found (start config) ledger last
    → count_by (grants id) ledger ≤ 1
granted_once found config ledger last id run =
    let grows = count_grows (grants id) (standing_as is_taken id) (grants_add id) found (start config) last ledger run in
    let most = standing_most is_taken (unit_of last id) in
    omega arith

-- no unit is fetched twice
pub fetched_once : (found : Bag → Bool) (config : Config) (ledger : List Entry) (last : Bag) (id : UnitId)
    → IsRunWhere found (start config) ledger last
    → count_by (fetches id) ledger ≤ 1
fetched_once found config ledger last id run =
    let grows = count_grows (fetches id) (standing_as is_spent id) (fetches_add id) found (start config) last ledger run in
    let most = standing_most is_spent (unit_of last id) in
    omega arith
