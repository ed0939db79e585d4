-- Where all units are spent and all ranks have finished, each common part that was kept was closed and freed.
use Rattle.std.proofs.Common.{◌≡◌, ℕ, suc, ◌≤◌, ◌==◌, ◌⊎◌, inl, inr, Bool, true, false, ◌||◌, not, List, [], ◌∷◌, All, sum_by, Some, None}
use Rattle.std.proofs.Common.{refl, sym, ◌∙◌, subst, arith, slice_get}
use Rattle.std.specs.Prelude.{Contains}
use Rattle.std.proofs.lemmas.Bool.Decides.{nat_tests}
use Rattle.std.proofs.lemmas.List.Elements.{All-contains_itself, All-head, All-tail, All-weaker}
use Rattle.std.proofs.lemmas.List.Sums.{sum_by-cons}
use Rattle.adlb_unit.specs.declared.names.Rank.{Rank}
use Rattle.adlb_unit.specs.declared.names.BatchId.{BatchId}
use Rattle.adlb_unit.specs.Ids.{same_batch}
use Rattle.bag_ledger.specs.declared.entries.Entry.{Entry}
use Rattle.bag_ledger.specs.declared.entries.Entry.TheVariants.{Closed, Freed, CommonFetched}
use Rattle.bag_ledger.specs.declared.states.Part.{Part}
use Rattle.bag_ledger.specs.declared.states.Placed.{Placed}
use Rattle.bag_ledger.specs.declared.states.RankState.{RankState}
use Rattle.bag_ledger.specs.declared.states.Status.{Status}
use Rattle.bag_ledger.specs.declared.states.Status.TheVariants as does
use Rattle.bag_ledger.specs.declared.states.UnitPlace.TheVariants.{Spent}
use Rattle.bag_ledger.specs.Bag.{Bag, has_due, is_due, part_of, settled}
use Rattle.bag_ledger.specs.Runs.{IsRun}
use Rattle.bag_ledger.specs.Steps.{Is, Legal, after, ended, in_turn}
use Rattle.bag_ledger.proofs.Turns.{changed_here}
use Rattle.bag_law.specs.Counts.{dues, one, owes, owing, unspent}
use Rattle.bag_law.specs.Sound.{IsSoundBag}
use Rattle.bag_law.proofs.Dues.{made_due, none_due}
use Rattle.bag_law.proofs.Facts.{are_found, part_counts}
use Rattle.bag_law.proofs.Sound.{step_keeps_sound}
use Rattle.bag_law.proofs.Turn.{sum_found}

-- A part that is due is freed before anything else, so no run ends with one.

-- no part is due, or one is and a rank runs: the one whose call made it due
abbrev pub AreFreedSoon : Bag → Type 0
AreFreedSoon b = (dues b.parts ≡ 0) ⊎ ((dues b.parts ≤ 1) × ((rank : Rank) × (r : RankState) × Is b rank r × (r.status ≡ does.Running)))

-- nothing is due where another entry than a freeing is in its turn
none_in_turn : (b : Bag) → (false || not (has_due b)) ≡ true → dues b.parts ≡ 0
none_in_turn b turn = none_due b (by_test (has_due b) turn)
  where
    by_test : (t : Bool) → (false || not t) ≡ true → t ≡ false
    by_test true turn = absurd (cc)
    by_test false turn = refl

soon_next : (b : Bag) (e : Entry) → in_turn b e ≡ true → Legal b e → IsSoundBag b → AreFreedSoon b → AreFreedSoon (after b e)
soon_next b (Closed server batch) turn l sound soon =
    let none = none_in_turn b turn in
    let made = made_due settled b (Closed server batch) l sound.batches in
    let f : RankState → RankState = λ r. ended (record r { batch = None }) in
    inr (omega (arith, none, made), (batch.rank, f l.0, changed_here f batch.rank.0 b.ranks l.0 l.4, refl))
soon_next b (CommonFetched server rank batch) turn l sound soon =
    let none = none_in_turn b turn in
    let made = made_due settled b (CommonFetched server rank batch) l sound.batches in
    inr (omega (arith, none, made), (rank, ended l.0, changed_here ended rank.0 b.ranks l.0 l.6, refl))
soon_next b (Freed server batch) turn l sound soon = inl (by_case soon)
  where
    by_case : AreFreedSoon b → dues (after b (Freed server batch)).parts ≡ 0
    by_case (inl none) = let made = made_due settled b (Freed server batch) l sound.batches in absurd (omega (arith, none, made))
    by_case (inr some) =
        let most = some.0 in let made = made_due settled b (Freed server batch) l sound.batches in omega (arith, most, made)
soon_next b e turn l sound soon =
    let none = none_in_turn b turn in
    let made = made_due settled b e l sound.batches in
    inl (omega (arith, none, made))

soon_last : (b last : Bag) (es : List Entry) → IsRun b es last → IsSoundBag b → AreFreedSoon b → AreFreedSoon last
soon_last b last [] run sound soon = subst AreFreedSoon run soon
soon_last b last (e ∷ es) run sound soon =
    let next : run.0 ≡ after b e = run.1.2 in
    soon_last run.0 last es run.2 (subst IsSoundBag (sym next) (step_keeps_sound settled b e run.1.1 sound))
    (subst AreFreedSoon (sym next) (soon_next b e run.1.0 run.1.1 sound soon))

-- the rank has finished, and no batch goes on
abbrev pub IsGoneRank : RankState → Type 0
IsGoneRank r = (r.status ≡ does.Finished) × (r.batch ≡ None)

-- no part is due at the end of a run in which nothing is due at first, where all ranks have finished
pub none_due_last : (b last : Bag) (es : List Entry) → IsRun b es last → IsSoundBag b → dues b.parts ≡ 0
    → ((rank : Rank) (r : RankState) → Is last rank r → IsGoneRank r) → dues last.parts ≡ 0
none_due_last b last es run sound none gone = by_case (soon_last b last es run sound (inl none))
  where
    by_case : AreFreedSoon last → dues last.parts ≡ 0
    by_case (inl is) = is
    by_case (inr some) =
        let runs = some.1.3 in
        let done = (gone some.1.0 some.1.1 some.1.2).0 in
        absurd (cc)

-- Where no part is due, all units are spent and all ranks have finished, a part was closed and freed.

sum_none : {X : Type 0} (w : X → ℕ) (xs : List X) → ((place : ℕ) (x : X) → slice_get xs place ≡ Some x → w x ≡ 0) → sum_by w xs ≡ 0
sum_none w [] none = refl
sum_none w (x ∷ xs) none =
    let first = none 0 x refl in
    let rest = sum_none w xs (λ place y there. none (suc place) y there) in
    rw (sum_by-cons w x xs) (omega (arith, first, rest))

none_unspent : (batch : BatchId) (us : List Placed) → All (λ u. u.place ≡ Spent) us → sum_by (unspent batch) us ≡ 0
none_unspent batch [] all = refl
none_unspent batch (u ∷ us) all =
    let place : u.place ≡ Spent = All-head (λ (u : Placed). u.place ≡ Spent) u us all in
    let first : unspent batch u ≡ 0 = rw place refl in
    let rest = none_unspent batch us (All-tail (λ (u : Placed). u.place ≡ Spent) u us all) in
    rw (sum_by-cons (unspent batch) u us) (omega (arith, first, rest))

none_owed : (b : Bag) (batch : BatchId) → ((rank : Rank) (r : RankState) → Is b rank r → IsGoneRank r) → owes batch b.units b.ranks ≡ 0
none_owed b batch gone =
    sum_none (λ (r : RankState). owing batch b.units r.status) b.ranks
    (λ place r there. by_status r.status (gone (record { 0 = place }) r there).0)
  where
    by_status : (status : Status) → status ≡ does.Finished → owing batch b.units status ≡ 0
    by_status status done = rw done refl

-- where no part is due, all units are spent and all ranks have finished, each part is closed and freed
pub all_freed : (b : Bag) → IsSoundBag b → dues b.parts ≡ 0 → All (λ u. u.place ≡ Spent) b.units
    → ((rank : Rank) (r : RankState) → Is b rank r → IsGoneRank r) → All (λ p. (p.closed ≡ true) × (p.freed ≡ true)) b.parts
all_freed b sound none spent gone =
    All-weaker (Contains b.parts) (λ p. (p.closed ≡ true) × (p.freed ≡ true)) each b.parts (All-contains_itself b.parts)
  where
    closed : (p : Part) → part_of b p.batch ≡ Some p → (t : Bool) → p.closed ≡ t → p.closed ≡ true
    closed p found true is = is
    closed p found false is =
        let open_at = sound.batches.open_is p.batch p found is in
        let batch : open_at.0.batch ≡ Some open_at.1 = open_at.3 in
        let ended : open_at.0.batch ≡ None = (gone p.batch.rank open_at.0 open_at.2).1 in
        absurd (let no_batch : None ≡ Some open_at.1 = sym ended ∙ batch in cc)

    even : (p : Part) → part_of b p.batch ≡ Some p → (p.fetched == p.accepted) ≡ true
    even p found =
        let count = part_counts b sound p.batch p found in
        let units = none_unspent p.batch b.units spent in
        let ranks = none_owed b p.batch gone in
        let same : p.fetched ≡ p.accepted = omega (arith, count, units, ranks) in
        grind (arith, nat_tests, same)

    freed : (p : Part) → part_of b p.batch ≡ Some p → p.closed ≡ true → (t : Bool) → p.freed ≡ t → p.freed ≡ true
    freed p found shut true is = is
    freed p found shut false is =
        let due : one (is_due p) ≡ 1 = rw (shut, is, even p found) refl in
        let most = sum_found (λ (p : Part). one (is_due p)) (λ q. same_batch q.batch p.batch) b.parts p found in
        absurd (omega (arith, due, most, none))

    each : (p : Part) → Contains b.parts p → (p.closed ≡ true) × (p.freed ≡ true)
    each p at =
        let found = (are_found b sound).part p at in
        let shut = closed p found p.closed refl in
        (shut, freed p found shut p.freed refl)
