-- The notes that a rank was granted tell their units, which stay the rank's until they are spent.
use Rattle.std.proofs.Common.{◌≡◌, ◌≤◌, ◌+◌, ℕ, ◌==◌, ◌⊎◌, inl, inr, Bool, true, false, List, [], ◌∷◌, ◌++◌, find, Option, Some, None, refl}
use Rattle.std.proofs.Common.{sym, ap, ◌∙◌, subst, arith, sum_by, append-nil}
use Rattle.std.specs.Prelude.{All, option_and_then, option_map, if◌then◌else◌}
use Rattle.std.proofs.lemmas.List.Elements.{All-append, All-cons, All-head, All-nil, All-tail, All-weaker}
use Rattle.std.proofs.lemmas.List.Sums.{sum_by-cons, sum_by_push}
use Rattle.adlb_unit.specs.declared.names.BatchId.{BatchId}
use Rattle.adlb_unit.specs.declared.names.CommonRef.{CommonRef}
use Rattle.adlb_unit.specs.Ids.{same_unit}
use Rattle.adlb_unit.proofs.Same.{same_unit_is}
use Rattle.bag_ledger.specs.declared.entries.Call.{Call}
use Rattle.bag_ledger.specs.declared.entries.Call.TheVariants as calls_to
use Rattle.bag_ledger.specs.declared.states.RankState.{RankState}
use Rattle.bag_ledger.specs.declared.states.Status.{Status}
use Rattle.bag_ledger.specs.declared.states.Status.TheVariants as does
use Rattle.adlb_unit.specs.declared.names.Rank.{Rank}
use Rattle.adlb_unit.specs.declared.names.UnitId.{UnitId}
use Rattle.bag_ledger.specs.declared.entries.Answer.{Answer}
use Rattle.bag_ledger.specs.declared.entries.Answer.TheVariants as answers
use Rattle.bag_ledger.specs.declared.entries.Entry.{Entry}
use Rattle.bag_ledger.specs.declared.entries.Entry.TheVariants.{Accepted, Rejected, Kept, Closed, Granted, NoCurrent, Fetched}
use Rattle.bag_ledger.specs.declared.entries.Entry.TheVariants.{CommonFetched, Left, Arrived, Counted, Done, Over, Finished}
use Rattle.bag_ledger.specs.declared.entries.Said.{Said}
use Rattle.bag_ledger.specs.declared.states.Placed.{Placed}
use Rattle.bag_ledger.specs.declared.states.UnitPlace.{UnitPlace}
use Rattle.bag_ledger.specs.declared.states.UnitPlace.TheVariants.{Free, Travelling, Pinned, Spent}
use Rattle.bag_ledger.specs.Bag.{Bag, part_of, rank_at, unit_of}
use Rattle.bag_ledger.specs.Steps.{LegalWhere, after, moved}
use Rattle.bag_ledger.specs.Runs.{answered, call_of, common_answer, note_of, own_answer, said_by, says}
use Rattle.bag_ledger.proofs.Lookups.{find_before}
use Rattle.bag_ledger.proofs.Moves.{moved_here, moved_other}
use Rattle.bag_ledger.proofs.Tests.{same_rank_is, some_is}
use Rattle.bag_law.specs.Calls.{AreTrueCalls, IsTrueAnswer, IsTrueCall, IsTrueSaid, granting}
use Rattle.bag_law.specs.Counts.{one}
use Rattle.bag_law.specs.Sound.{FetchesAreReady, IsFetchOf}
use Rattle.bag_law.proofs.Turn.{one_le, found_passes}
use Rattle.bag_law.proofs.Plain.{accepted_is, is_fetch, kept_is, lodged, offer_bare, open_bare, wish_bare}

-- pinned or spent
abbrev pub is_taken : UnitPlace → Bool
is_taken (Pinned server rank) = true
is_taken Spent = true
is_taken _ = false

-- the unit is there, and where it was, or spent
abbrev pub StaysTaken : Bag → UnitId → Placed → Type 0
StaysTaken n id u = (v : Placed) × (unit_of n id ≡ Some v) × (v.unit ≡ u.unit) × ((v.place ≡ u.place) ⊎ (v.place ≡ Spent))

kept_moved : (b : Bag) (x id : UnitId) (place : UnitPlace) (w u : Placed) → unit_of b x ≡ Some w → unit_of b id ≡ Some u
    → is_taken u.place ≡ true → (is_taken w.place ≡ false) ⊎ (place ≡ Spent) → StaysTaken (moved x place b) id u
kept_moved b x id place w u at there taken how = by_test (same_unit x id) refl
  where
    by_how : (w ≡ u) → (is_taken w.place ≡ false) ⊎ (place ≡ Spent) → (place ≡ u.place) ⊎ (place ≡ Spent)
    by_how one (inl free) = let not : is_taken u.place ≡ false = rw one at free in absurd (cc)
    by_how one (inr spent) = inr spent

    by_test : (t : Bool) → same_unit x id ≡ t → StaysTaken (moved x place b) id u
    by_test true e =
        let same : x ≡ id = same_unit_is x id e in
        let found : unit_of b id ≡ Some w = rw same at at in
        let one : w ≡ u = some_is (sym found ∙ there) in
        (record u { place = place }, rw same (moved_here b id place u there), refl, by_how one how)
    by_test false e = (u, moved_other b x id place e ∙ there, refl, inl refl)

-- a unit that is pinned or spent
pub kept_unit : (found : Bag → Bool) (b : Bag) (e : Entry) (id : UnitId) (u : Placed) → LegalWhere found b e → unit_of b id ≡ Some u
    → is_taken u.place ≡ true → StaysTaken (after b e) id u
kept_unit found b (Accepted server x) id u l there taken =
    let a = accepted_is b server x l in (
      u,
      ap (find (λ v. same_unit v.unit.id id)) a.units ∙ find_before (λ v. same_unit v.unit.id id) b.units
          (lodged server a.u ∷ []) u there,
      refl,
      inl refl,
    )
kept_unit found b (Kept server batch) id u l there taken = (u, ap (λ n. unit_of n id) (kept_is b server batch l) ∙ there, refl, inl refl)
kept_unit found b (Granted server rank call x) id u l there taken =
    kept_moved b x id (Pinned server rank) l.2 u l.6.0 there taken (inl (rw l.6.1 refl))
kept_unit found b (Fetched server rank x) id u l there taken = kept_moved b x id Spent l.2 u l.6.0 there taken (inr refl)
kept_unit found b (Left server to x) id u l there taken = kept_moved b x id (Travelling to) l.0 u l.2.0 there taken (inl (rw l.2.1 refl))
kept_unit found b (Arrived server x) id u l there taken = kept_moved b x id (Free server) l.0 u l.1.0 there taken (inl (rw l.1.1 refl))
kept_unit found b _ id u l there taken = (u, there, refl, inl refl)

told_stays : (found : Bag → Bool) (b : Bag) (e : Entry) (rank : Rank) (answer : Answer) → LegalWhere found b e → IsTrueAnswer b rank answer
    → IsTrueAnswer (after b e) rank answer
told_stays found b e rank (answers.Granted note) l is =
    let k = kept_unit found b e note.id is.0 l is.1 (by_place is.3) in
    (k.0, k.1, is.2 ∙ ap (note_of note.server) (sym k.2), by_kept k.0 k.3 is.3)
  where
    by_place : (is.0.place ≡ Pinned note.server rank) ⊎ (is.0.place ≡ Spent) → is_taken is.0.place ≡ true
    by_place (inl at) = rw at refl
    by_place (inr at) = rw at refl

    by_kept : (v : Placed) → (v.place ≡ is.0.place) ⊎ (v.place ≡ Spent) → (is.0.place ≡ Pinned note.server rank) ⊎ (is.0.place ≡ Spent)
        → (v.place ≡ Pinned note.server rank) ⊎ (v.place ≡ Spent)
    by_kept v (inr spent) was = inr spent
    by_kept v (inl same) (inl at) = inl (same ∙ at)
    by_kept v (inl same) (inr at) = inr (same ∙ at)
told_stays found b e rank _ l is = tt

got_stays : (found : Bag → Bool) (b : Bag) (e : Entry) (call : Call) → LegalWhere found b e → IsTrueCall b call
    → IsTrueCall (after b e) call
got_stays found b e (calls_to.Fetch id) l is =
    let k = kept_unit found b e id is.0 l is.1 (rw is.2 refl) in
    (k.0, k.1, by_kept k.0 k.3)
  where
    by_kept : (v : Placed) → (v.place ≡ is.0.place) ⊎ (v.place ≡ Spent) → v.place ≡ Spent
    by_kept v (inl same) = same ∙ is.2
    by_kept v (inr spent) = spent
got_stays found b e _ l is = tt

-- What is said now: it is true, and a unit that is granted was free.

abbrev IsFreeFor : Bag → Answer → Type 0
IsFreeFor b (answers.Granted note) = (u : Placed) × (unit_of b note.id ≡ Some u) × (is_taken u.place ≡ false)
IsFreeFor b _ = Prim.Unit {0}

abbrev IsSaidNow : Bag → Bag → Rank → Said → Type 0
IsSaidNow b n by s = IsTrueSaid n by s × IsFreeFor b s.answer

-- what was made of an option that is there
pub and_then_is : {X Y : Type 0} (f : X → Option Y) (o : Option X) (y : Y) → option_and_then f o ≡ Some y
    → (x : X) × (o ≡ Some x) × (f x ≡ Some y)
and_then_is f None y e = absurd (cc)
and_then_is f (Some x) y e = (x, refl, e)

map_is : {X Y : Type 0} (f : X → Y) (o : Option X) (y : Y) → option_map f o ≡ Some y → (x : X) × (o ≡ Some x) × (f x ≡ y)
map_is f None y e = absurd (cc)
map_is f (Some x) y e = (x, refl, some_is e)

call_got : (n : Bag) (s : Status) (call : Call) → is_fetch s ≡ false → call_of s ≡ Some call → IsTrueCall n call
call_got n does.Running call bare e = absurd (cc)
call_got n does.Finished call bare e = absurd (cc)
call_got n (does.Fetching c x own) call bare e = absurd (cc)
call_got n (does.Putting u) call bare e = rw (← some_is e) tt
call_got n (does.Keeping c common) call bare e = rw (← some_is e) tt
call_got n (does.Closing c) call bare e = rw (← some_is e) tt
call_got n (does.Asking c types) call bare e = rw (← some_is e) tt
call_got n (does.Trying c types) call bare e = rw (← some_is e) tt
call_got n (does.Counting c kind) call bare e = rw (← some_is e) tt

-- what is answered to a rank in this state
answer_now : (b n : Bag) (rank by : Rank) (answer : Answer) (s : Said) (r : RankState) → rank_at b rank ≡ Some r
    → ((call : Call) → call_of r.status ≡ Some call → IsTrueCall n call) → IsTrueAnswer n rank answer → IsFreeFor b answer
    → answered b rank answer ≡ Some (by, s) → IsSaidNow b n by s
answer_now b n rank by answer s r there got told free e =
    let v = and_then_is _ (rank_at b rank) (by, s) e in
    let c = map_is _ (call_of v.0.status) (by, s) v.2 in
    let one : r ≡ v.0 = some_is (sym there ∙ v.1) in
    let now : IsSaidNow b n rank (record { call = c.0; answer = answer }) =
    ((told, got c.0 (ap (λ (x : RankState). call_of x.status) one ∙ c.1)), free) in
    subst (λ (p : Rank × Said). IsSaidNow b n p.0 p.1) c.2 now

-- a plain answer to a rank that fetches nothing
plain_now : (b n : Bag) (rank by : Rank) (answer : Answer) (s : Said) (r : RankState) → rank_at b rank ≡ Some r → is_fetch r.status ≡ false
    → IsTrueAnswer n rank answer → IsFreeFor b answer → answered b rank answer ≡ Some (by, s) → IsSaidNow b n by s
plain_now b n rank by answer s r there bare told free e =
    answer_now b n rank by answer s r there (λ call at. call_got n r.status call bare at) told free e

-- a body to a rank that fetches the unit, which is spent then
body_now : (b n : Bag) (rank by : Rank) (body : List ℕ) (s : Said) (r : RankState) (call : ℕ) (id : UnitId) (own : Bool)
    → rank_at b rank ≡ Some r → r.status ≡ does.Fetching call id own → IsTrueCall n (calls_to.Fetch id)
    → answered b rank (answers.Body body) ≡ Some (by, s) → IsSaidNow b n by s
body_now b n rank by body s r call id own there status got e =
    answer_now b n rank by (answers.Body body) s r there
    (λ c at. let is : Some (calls_to.Fetch id) ≡ Some c = sym (ap call_of status) ∙ at in subst (IsTrueCall n) (some_is is) got) tt tt e

own_is : (common : Option CommonRef) (body : List ℕ) (a : Answer) → own_answer common body ≡ Some a → a ≡ answers.Body body
own_is None body a e = sym (some_is e)
own_is (Some c) body a e = absurd (cc)

common_is : (b : Bag) (batch : BatchId) (s : Status) (a : Answer) → common_answer b batch s ≡ Some a
    → (body : List ℕ) × (a ≡ answers.Body body)
common_is b batch (does.Fetching call id own) a e =
    let p = and_then_is _ (part_of b batch) a e in
    let u = map_is _ (unit_of b id) a p.2 in
    (p.0.common ++ u.0.unit.body, sym u.2)
common_is b batch _ a e = absurd (cc)

says_now : (found : Bag → Bool) (b : Bag) (e : Entry) → LegalWhere found b e → FetchesAreReady b.ranks b.units → (by : Rank) (s : Said)
    → says b e ≡ Some (by, s) → IsSaidNow b (after b e) by s
says_now found b (Accepted server x) l fetches by s e =
    plain_now b (after b (Accepted server x)) x.rank by answers.Fine s l.0 l.2 (rw l.3 refl) tt tt e
says_now found b (Rejected rank call) l fetches by s e =
    plain_now b (after b (Rejected rank call)) rank by answers.Rejected s l.0 l.2 (offer_bare l.0.status (call, l.1) l.3) tt tt e
says_now found b (Kept server batch) l fetches by s e =
    plain_now b (after b (Kept server batch)) batch.rank by answers.Fine s l.0 l.2 (rw l.3 refl) tt tt e
says_now found b (Closed server batch) l fetches by s e =
    plain_now b (after b (Closed server batch)) batch.rank by answers.Fine s l.0 l.4 (rw l.5 refl) tt tt e
says_now found b (Granted server rank call x) l fetches by s e =
    let u = and_then_is _ (unit_of b x) (by, s) e in
    let one : u.0 ≡ l.2 = some_is (sym u.1 ∙ l.6.0) in
    let free : is_taken u.0.place ≡ false = rw (one, l.6.1) refl in
    let named : u.0.unit.id ≡ x = same_unit_is u.0.unit.id x (found_passes (λ v. same_unit v.unit.id x) b.units u.0 u.1) in
    let here : unit_of (moved x (Pinned server rank) b) u.0.unit.id ≡ Some (record u.0 { place = Pinned server rank }) =
    rw named (moved_here b x (Pinned server rank) u.0 u.1) in
    let before : unit_of b u.0.unit.id ≡ Some u.0 = rw named u.1 in
    plain_now b (after b (Granted server rank call x)) rank by (answers.Granted (note_of server u.0.unit)) s l.0 l.3
    (wish_bare l.0.status (call, l.1) l.4) (record u.0 { place = Pinned server rank }, here, refl, inl refl) (u.0, before, free) u.2
says_now found b (NoCurrent rank call) l fetches by s e =
    plain_now b (after b (NoCurrent rank call)) rank by answers.NoCurrent s l.0 l.2 (rw l.3 refl) tt tt e
says_now found b (Fetched server rank x) l fetches by s e =
    let u = and_then_is _ (unit_of b x) (by, s) e in
    let a = and_then_is _ (own_answer u.0.unit.common u.0.unit.body) (by, s) u.2 in
    let body : answered b rank (answers.Body u.0.unit.body) ≡ Some (by, s) = rw (own_is u.0.unit.common u.0.unit.body a.0 a.1) at a.2 in
    body_now b (after b (Fetched server rank x)) rank by u.0.unit.body s l.0 l.1 x false l.3 l.4
    (record l.2 { place = Spent }, moved_here b x Spent l.2 l.6.0, refl) body
says_now found b (CommonFetched server rank batch) l fetches by s e =
    let r = and_then_is _ (rank_at b rank) (by, s) e in
    let a = and_then_is _ (common_answer b batch r.0.status) (by, s) r.2 in
    let c = common_is b batch r.0.status a.0 a.1 in
    let body : answered b rank (answers.Body c.0) ≡ Some (by, s) = rw c.1 at a.2 in
    let f : IsFetchOf b.units rank.0 (does.Fetching l.1 l.2 true) = rw l.7 at (fetches.each rank.0 l.0 l.6) in
    body_now b (after b (CommonFetched server rank batch)) rank by c.0 s l.0 l.1 l.2 true l.6 l.7 (f.0, f.2, f.3) body
says_now found b (Counted server rank call info) l fetches by s e =
    plain_now b (after b (Counted server rank call info)) rank by (answers.Info info) s l.0 l.2 (rw l.3 refl) tt tt e
says_now found b (Done rank call) l fetches by s e =
    subst (λ (p : Rank × Said). IsSaidNow b (after b (Done rank call)) p.0 p.1) (some_is e) ((tt, tt), tt)
says_now found b (Over rank call end) l fetches by s e =
    plain_now b (after b (Over rank call end)) rank by (answers.Ended end) s l.0 l.1 (open_bare l.0.status call l.2) tt tt e
says_now found b (Finished rank call) l fetches by s e =
    subst (λ (p : Rank × Said). IsSaidNow b (after b (Finished rank call)) p.0 p.1) (some_is e) ((tt, tt), tt)
says_now found b _ l fetches by s e = absurd (cc)

-- A unit that is free was not granted.

not_granted : (b : Bag) (rank : Rank) (id : UnitId) (u : Placed) → unit_of b id ≡ Some u → is_taken u.place ≡ false → (answer : Answer)
    → IsTrueAnswer b rank answer → granting id answer ≡ 0
not_granted b rank id u there free (answers.Granted note) told = by_test (same_unit note.id id) refl
  where
    taken : (is : (told.0.place ≡ Pinned note.server rank) ⊎ (told.0.place ≡ Spent)) → is_taken told.0.place ≡ true
    taken (inl at) = rw at refl
    taken (inr at) = rw at refl

    by_test : (t : Bool) → same_unit note.id id ≡ t → one t ≡ 0
    by_test false e = refl
    by_test true e =
        let found : unit_of b note.id ≡ Some u = rw (same_unit_is note.id id e) there in
        let one : told.0 ≡ u = some_is (sym told.1 ∙ found) in
        let was : is_taken u.place ≡ true = rw one at (taken told.3) in
        absurd (cc)
not_granted b rank id u there free _ told = refl

none_granted : (b : Bag) (rank : Rank) (id : UnitId) (u : Placed) → unit_of b id ≡ Some u → is_taken u.place ≡ false → (said : List Said)
    → All (IsTrueSaid b rank) said → sum_by (λ s. granting id s.answer) said ≡ 0
none_granted b rank id u there free [] all = refl
none_granted b rank id u there free (s ∷ said) all =
    let first = not_granted b rank id u there free s.answer (All-head (IsTrueSaid b rank) s said all).0 in
    let rest = none_granted b rank id u there free said (All-tail (IsTrueSaid b rank) s said all) in
    rw (sum_by-cons (λ (s : Said). granting id s.answer) s said) (omega arith)

granting_le : (id : UnitId) (answer : Answer) → granting id answer ≤ 1
granting_le id (answers.Granted note) = one_le (same_unit note.id id)
granting_le id _ = omega arith

-- with one call more, of a unit that was free where it is a grant
once_more : (b : Bag) (rank : Rank) (said : List Said) (s : Said) (id : UnitId) → All (IsTrueSaid b rank) said
    → sum_by (λ s. granting id s.answer) said ≤ 1 → (answer : Answer) → s.answer ≡ answer → IsFreeFor b answer
    → sum_by (λ s. granting id s.answer) said + granting id answer ≤ 1
once_more b rank said s id all once (answers.Granted note) is free = by_test (same_unit note.id id) refl
  where
    by_test : (t : Bool) → same_unit note.id id ≡ t → sum_by (λ s. granting id s.answer) said + one t ≤ 1
    by_test false e = omega arith
    by_test true e =
        let found : unit_of b id ≡ Some free.0 = rw (same_unit_is note.id id e) at free.1 in
        let none = none_granted b rank id free.0 found free.2 said all in
        omega arith
once_more b rank said s id all once _ is free = omega arith

-- the calls of a rank stay true, and a call that the entry ends is true
pub calls_stay : (found : Bag → Bool) (b : Bag) (e : Entry) (rank : Rank) (said : List Said) → LegalWhere found b e
    → FetchesAreReady b.ranks b.units → AreTrueCalls rank said b → AreTrueCalls rank (said ++ said_by rank (says b e)) (after b e)
calls_stay found b e rank said l fetches is = by_said (says b e) refl
  where
    stays : All (IsTrueSaid (after b e) rank) said
    stays =
        All-weaker (IsTrueSaid b rank) (IsTrueSaid (after b e) rank)
        (λ s t. (told_stays found b e rank s.answer l t.0, got_stays found b e s.call l t.1)) said is.each

    same : AreTrueCalls rank (said ++ []) (after b e)
    same = subst (λ (xs : List Said). AreTrueCalls rank xs (after b e)) (sym (append-nil said)) (record { each = stays; once = is.once })

    by_said : (o : Option (Rank × Said)) → says b e ≡ o → AreTrueCalls rank (said ++ said_by rank o) (after b e)
    by_said None at = same
    by_said (Some (by, s)) at = by_test (by.0 == rank.0) refl
      where
        by_test : (t : Bool) → (by.0 == rank.0) ≡ t → AreTrueCalls rank (said ++ (if t then s ∷ [] else [])) (after b e)
        by_test false differs = same
        by_test true here =
            let now = says_now found b e l fetches by s at in
            let true_now : IsTrueSaid (after b e) rank s = subst (λ r. IsTrueSaid (after b e) r s) (same_rank_is by rank here) now.0 in
            record {
              each =
                  All-append (IsTrueSaid (after b e) rank) said (s ∷ []) stays
                  (All-cons (IsTrueSaid (after b e) rank) s [] true_now (All-nil (IsTrueSaid (after b e) rank)));
              once =
                  λ id. let push =
                  sum_by_push (λ (s : Said). granting id s.answer) said s in let more =
                  once_more b rank said s id is.each (is.once id) s.answer refl now.1 in omega arith;
            }
