-- The call that a ledger has begun beyond those of a transcript, also of a front of that ledger.
use Rattle.core_inline.proofs.Prelude.{Bag, Call, Config, Entry, IsOpen, IsRun, IsTold, List, None, Option, RankState, Said, Some, [], ap}
use Rattle.core_inline.proofs.Prelude.{append_assoc, append_cancel_left, call_of, calls, calls_from, drop, drop-append_seam, inl, inr}
use Rattle.core_inline.proofs.Prelude.{length, option_and_then, rank_at, refl, says, settled, some_is, start, subst, sym, zeroth, ◌++◌, ◌∙◌}
use Rattle.core_inline.proofs.Prelude.{◌∷◌, ◌≡◌, ◌⊎◌}
use Rattle.adlb_unit.specs.declared.names.Rank.{Rank}
use Rattle.bag_ledger.proofs.Calls.{calls_split}
use Rattle.bag_ledger.proofs.Legal.{run_split}
use Rattle.bag_ledger.specs.Steps.{Is, after}
use Rattle.balance_law.proofs.Deeds.{Deed, awaits, begins, calls_done, finishes, hears, waits}
use Rattle.balance_law.proofs.Paths.{IsPath, along, calls_along, path_of}
use Rattle.balance_law.proofs.Seen.{IsAway, IsTurn, of_mine, of_none, seen}
use Rattle.core_inline.specs.inside.Begun.{after_all, begun_in, first_open, pending_in}

-- the bag after all entries of a run is its last
pub after_all_is : (b last : Bag) (ledger : List Entry) → IsRun b ledger last → after_all b ledger ≡ last
after_all_is b last [] run = run
after_all_is b last (e ∷ es) run = ap (λ v. after_all v es) (sym run.1.2) ∙ after_all_is run.0 last es run.2

-- the ends of two runs of a ledger
pub same_end : (b last other : Bag) (ledger : List Entry) → IsRun b ledger last → IsRun b ledger other → last ≡ other
same_end b last other ledger run again = sym (after_all_is b last ledger run) ∙ after_all_is b other ledger again

-- the call that is open after a transcript is the one begun
pub first_is : (pending : Option Call) (more : List Said) (begun : Option Call) → IsOpen pending more begun
    → first_open pending more ≡ begun
first_is pending [] begun is = sym is
first_is pending (s ∷ []) begun is = sym is.1
first_is pending (s ∷ t ∷ more) begun is = absurd is

-- the call begun in a ledger beyond a transcript is the one that the relation names
pub begun_is : (config : Config) (ledger : List Entry) (said : List Said) (begun : Option Call) → IsTold config ledger said begun
    → begun_in config ledger said ≡ begun
begun_is config ledger said begun t =
    let last : pending_in (after_all (start config) ledger) ≡ call_of t.rank.status =
    ap pending_in (after_all_is (start config) t.last ledger t.legal)
    ∙ ap (option_and_then (λ (r : RankState). call_of r.status)) t.there in
    let more = ap (drop (length said)) t.calls_are ∙ drop-append_seam said t.more in
    ap (λ l. first_open (pending_in (after_all (start config) ledger)) l) more ∙ ap (λ o. first_open o t.more) last
    ∙ first_is (call_of t.rank.status) t.more begun t.open_call

-- what is told, in other words
abbrev pub retold : (config : Config) (ledger : List Entry) (said said' : List Said) (begun begun' : Option Call)
    → IsTold config ledger said begun → said ≡ said' → begun' ≡ begun → IsTold config ledger said' begun'
retold config ledger said said' begun begun' t said_is begun_is = record {
  last = t.last;
  legal = t.legal;
  more = t.more;
  calls_are = t.calls_are ∙ ap (λ (l : List Said). l ++ t.more) said_is;
  rank = t.rank;
  there = t.there;
  open_call = subst (λ (o : Option Call). IsOpen (call_of t.rank.status) t.more o) (sym begun_is) t.open_call;
}

-- A call that is pending is the first that is told later, or is pending still.

stays_open : (b last : Bag) (es : List Entry) → IsPath b es last → (rank : Rank) (r q : RankState) (call : Call) → Is b rank r
    → call_of r.status ≡ Some call → Is last rank q → first_open (call_of q.status) (along says b es rank) ≡ Some call
stays_open b last [] path rank r q call there is at =
    let same : q ≡ r = some_is (sym at ∙ ap (λ (v : Bag). rank_at v rank) (sym path) ∙ there) in
    ap (λ (v : RankState). call_of v.status) same ∙ is
stays_open b last (x ∷ xs) path rank r q call there is at =
    by_case (λ now here pends. stays_open (after b x) last xs path.1 rank now q call here pends at) (seen b x path.0 rank)
  where
    by_deed : ((now : RankState) → Is (after b x) rank now → call_of now.status ≡ Some call
        → first_open (call_of q.status) (along says (after b x) xs rank) ≡ Some call)
        → (t now : RankState) → call_of t.status ≡ Some call → Is (after b x) rank now → Deed b x rank t now
        → first_open (call_of q.status) (along says b (x ∷ xs) rank) ≡ Some call
    by_deed later t now pends here (waits silent idle status end batch) =
        rw (of_none rank (says b x) silent) (later now here (ap call_of status ∙ pends))
    by_deed later t now pends here (begins c silent idle runs is end batch) = absurd (let none = ap call_of runs in cc (none, pends))
    by_deed later t now pends here (hears c answer heard is runs end batch comes) =
        rw (of_mine rank (says b x) (record { call = c; answer = answer }) heard) (sym is ∙ pends)
    by_deed later t now pends here (awaits id u common silent comes shared status accepts grants gives) =
        rw (of_none rank (says b x) silent) (later now here (status ∙ pends))
    by_deed later t now pends here (calls_done heard idle runs) = absurd (let none = ap call_of runs in cc (none, pends))
    by_deed later t now pends here (finishes heard idle runs done end batch) = absurd (let none = ap call_of runs in cc (none, pends))

    by_case : ((now : RankState) → Is (after b x) rank now → call_of now.status ≡ Some call
        → first_open (call_of q.status) (along says (after b x) xs rank) ≡ Some call)
        → IsAway b x rank ⊎ IsTurn b x rank → first_open (call_of q.status) (along says b (x ∷ xs) rank) ≡ Some call
    by_case later (inl away) = rw away.1 (later r (away.0 ∙ there) is)
    by_case later (inr t) =
        by_deed later t.was t.now (ap (λ (y : RankState). call_of y.status) (some_is (sym t.there ∙ there)) ∙ is) t.here t.deed

rank_stays : (b last : Bag) (es : List Entry) → IsPath b es last → (rank : Rank) (r : RankState) → Is b rank r
    → (q : RankState) × Is last rank q
rank_stays b last [] path rank r there = subst (λ (v : Bag). (q : RankState) × Is v rank q) path (r, there)
rank_stays b last (x ∷ xs) path rank r there = elim (seen b x path.0 rank) [
  | inl away ↦ rank_stays (after b x) last xs path.1 rank r (away.0 ∙ there)
  | inr t ↦ rank_stays (after b x) last xs path.1 rank t.now t.here
]

-- of a call the ledger tells nothing, or that it was begun
abbrev pub IsToldOf : Config → List Said → Call → List Entry → Type 0
IsToldOf config said call ledger = (begun : Option Call) × IsTold config ledger said begun × ((begun ≡ None) ⊎ (begun ≡ Some call))

-- What is open at a moment, by what is open later: `l` was said before it, and `rest` after it; and a call that is pending then is the
-- first that is told later.
front_open : (pending last : Option Call) (l rest : List Said) (begun : Option Call) (call : Call) → IsOpen last (l ++ rest) begun
    → (begun ≡ None) ⊎ (begun ≡ Some call) → ((d : Call) → pending ≡ Some d → first_open last rest ≡ Some d)
    → (first : Option Call) × IsOpen pending l first × ((first ≡ None) ⊎ (first ≡ Some call))
front_open None last [] rest begun call is of_it pends = (None, refl, inl refl)
front_open (Some d) last [] rest begun call is of_it pends =
    let same : begun ≡ Some d = sym (first_is last rest begun is) ∙ pends d refl in
    (Some d, refl, subst (λ (o : Option Call). (o ≡ None) ⊎ (o ≡ Some call)) same of_it)
front_open None last (s ∷ []) [] begun call is of_it pends = (begun, (refl, is.1), of_it)
front_open (Some d) last (s ∷ []) [] begun call is of_it pends = absurd (let some = pends d refl in let none = is.0 in cc (some, none))
front_open pending last (s ∷ []) (u ∷ rest) begun call is of_it pends = absurd is
front_open pending last (s ∷ u ∷ l) rest begun call is of_it pends = absurd is

-- what is said of a ledger, and of a longer one, holds of those between
pub told_front : (config : Config) (said : List Said) (call : Call) (ledger front rest : List Entry) → IsToldOf config said call ledger
    → IsToldOf config said call ((ledger ++ front) ++ rest) → IsToldOf config said call (ledger ++ front)
told_front config said call ledger front rest (first, before, of_first) (begun, whole, of_call) =
    let cut : (middle : Bag) × IsRun (start config) (ledger ++ front) middle × IsRun middle rest whole.last =
    run_split settled (start config) whole.last (ledger ++ front) rest whole.legal in
    let early : (first : Bag) × IsRun (start config) ledger first × IsRun first front cut.0 =
    run_split settled (start config) cut.0 ledger front cut.1 in
    let same = same_end (start config) before.last early.0 ledger before.legal early.1 in
    let there : (q : RankState) × Is cut.0 zeroth q =
    rank_stays early.0 cut.0 front (path_of early.0 cut.0 front early.2) zeroth before.rank
    (subst (λ (b : Bag). Is b zeroth before.rank) same before.there) in
    let more = before.more ++ calls_from before.last front zeroth in
    let calls_are : calls config (ledger ++ front) zeroth ≡ said ++ more =
    calls_split (start config) before.last ledger front zeroth before.legal
    ∙ ap (λ l. l ++ calls_from before.last front zeroth) before.calls_are ∙ append_assoc said before.more _ in
    let split : whole.more ≡ more ++ calls_from cut.0 rest zeroth =
    append_cancel_left said whole.more (more ++ calls_from cut.0 rest zeroth)
    (sym whole.calls_are ∙ calls_split (start config) cut.0 (ledger ++ front) rest zeroth cut.1
    ∙ ap (λ l. l ++ calls_from cut.0 rest zeroth) calls_are ∙ append_assoc said more _) in
    let open_now =
    front_open (call_of there.0.status) (call_of whole.rank.status) more (calls_from cut.0 rest zeroth) begun call
    (subst (λ (l : List Said). IsOpen (call_of whole.rank.status) l begun) split whole.open_call) of_call
    (λ d pends. ap (first_open (call_of whole.rank.status)) (calls_along cut.0 rest zeroth)
    ∙ stays_open cut.0 whole.last rest (path_of cut.0 whole.last rest cut.2) zeroth there.0 whole.rank d there.1 pends whole.there) in (
      open_now.0,
      record {
        last = cut.0;
        legal = cut.1;
        more = more;
        calls_are = calls_are;
        rank = there.0;
        there = there.1;
        open_call = open_now.1;
      },
      open_now.2,
    )
