-- In a legal run a rank has begun as many calls as the number of its next one says.
use Rattle.std.proofs.Common.{◌≡◌, ◌⊎◌, inl, inr, ◌+◌, ◌<◌, ◌≤◌, ℕ, zero, suc, false, cond, List, [], ◌∷◌, map, length, Option, Some, None}
use Rattle.std.proofs.Common.{refl}
use Rattle.std.proofs.Common.{sym, ap, ◌∙◌, arith, slice_get}
use Rattle.std.specs.Prelude.{is_some, option_and_then}
use Rattle.std.proofs.lemmas.List.{length-append}
use Rattle.adlb_unit.specs.declared.configs.Config.{Config}
use Rattle.adlb_unit.specs.declared.names.BatchId.{BatchId}
use Rattle.adlb_unit.specs.declared.names.CommonRef.{CommonRef}
use Rattle.adlb_unit.specs.declared.names.Rank.{Rank}
use Rattle.adlb_unit.specs.declared.names.Server.{Server}
use Rattle.bag_ledger.specs.declared.entries.Call.{Call}
use Rattle.bag_ledger.specs.declared.entries.Entry.{Entry}
use Rattle.bag_ledger.specs.declared.entries.Entry.TheVariants.{Putting, Refused, Accepted, Rejected, Keeping, Kept, Closing, Closed}
use Rattle.bag_ledger.specs.declared.entries.Entry.TheVariants.{Asked, Tried, Granted, Looked, NoCurrent, Fetching, Fetched, CommonFetched}
use Rattle.bag_ledger.specs.declared.entries.Entry.TheVariants.{Counting, Counted, Done}
use Rattle.bag_ledger.specs.declared.entries.Entry.TheVariants.{Over, Finished}
use Rattle.bag_ledger.specs.declared.states.RankState.{RankState}
use Rattle.bag_ledger.specs.declared.states.Status.{Status}
use Rattle.bag_ledger.specs.declared.states.Status.TheVariants as does
use Rattle.bag_ledger.specs.Bag.{Bag, keeping, putting, rank_at, start, unit_of}
use Rattle.bag_ledger.specs.Runs.{IsRun, call_of, says}
use Rattle.bag_ledger.specs.Steps.{Is, Legal, after, begun, change_at, declined_by, ended, kept, own_fetched}
use Rattle.bag_ledger.proofs.Tests.{some_is}
use Rattle.bag_ledger.proofs.Turns.{fresh_at, taken_ranks}
use Rattle.bag_law.proofs.Turn.{Turned, turned}
use Rattle.balance_law.proofs.Deeds.{Deed, awaits, begins, calls_done, finishes, hears, waits}
use Rattle.balance_law.proofs.Going.{there_is}
use Rattle.balance_law.proofs.Paths.{IsPath, along, calls_along, of_rank, path_of}
use Rattle.balance_law.proofs.Seen.{IsAway, IsTurn, of_mine, seen}
use Rattle.balance_law.proofs.Whole.{start_long}
use Rattle.cover_law.specs.Begun.{begun_by}

-- The number goes up where a call begins, and stays otherwise.

abbrev nexts : List RankState → List ℕ
nexts ranks = map (λ r. r.next) ranks

same_nexts : (f : RankState → RankState) → ((r : RankState) → (f r).next ≡ r.next) → (place : ℕ) (ranks : List RankState)
    → nexts (change_at f place ranks) ≡ nexts ranks
same_nexts f same place [] = refl
same_nexts f same zero (r ∷ ranks) = ap (λ n. n ∷ nexts ranks) (same r)
same_nexts f same (suc place) (r ∷ ranks) = ap (λ l. r.next ∷ l) (same_nexts f same place ranks)

at_next : (was now : List RankState) → nexts now ≡ nexts was → (place : ℕ) (r n : RankState) → slice_get was place ≡ Some r
    → slice_get now place ≡ Some n → n.next ≡ r.next
at_next [] now same place r n there here = absurd (cc)
at_next (x ∷ was) [] same place r n there here = absurd (cc)
at_next (x ∷ was) (y ∷ now) same zero r n there here =
    let e : x ≡ r = some_is there in
    let f : y ≡ n = some_is here in
    let first : y.next ≡ x.next = cc in
    ap (λ (s : RankState). s.next) (sym f) ∙ first ∙ ap (λ (s : RankState). s.next) e
at_next (x ∷ was) (y ∷ now) same (suc place) r n there here = at_next was now (cc) place r n there here

own_next : (common : Option CommonRef) (r : RankState) → (own_fetched common r).next ≡ r.next
own_next None r = refl
own_next (Some common) r = refl

kept_nexts : (server : Server) (batch : BatchId) (o : Option (ℕ × List ℕ)) (b : Bag) → nexts (kept server batch o b).ranks ≡ nexts b.ranks
kept_nexts server batch None b = refl
kept_nexts server batch (Some (call, common)) b = same_nexts _ (λ r. refl) batch.rank.0 b.ranks

-- the rank's next number is as before; or it is up by one, and the rank, which ran, is in a call, or the entry says its call
abbrev Rises : Bag → Entry → RankState → RankState → Type 0
Rises b e r now =
    (now.next ≡ r.next)
    ⊎ ((now.next ≡ r.next + 1) × (r.status ≡ does.Running) × (says b e ≡ None → now.status ≡ does.Running → ⊥))

at_begin : (b : Bag) (e : Entry) (rank : Rank) (f : RankState → RankState) (was : RankState) → Is b rank was → was.status ≡ does.Running
    → (after b e).ranks ≡ change_at f rank.0 b.ranks → (f was).next ≡ was.next + 1
    → (says b e ≡ None → (f was).status ≡ does.Running → ⊥) → (k : Rank) (r now : RankState) → Is b k r → Is (after b e) k now
    → Rises b e r now
at_begin b e rank f was at runs changed up shows k r now there here = by_place (turned f rank.0 b.ranks was at k.0)
  where
    found : slice_get (change_at f rank.0 b.ranks) k.0 ≡ Some now
    found = ap (λ (rs : List RankState). slice_get rs k.0) (sym changed) ∙ here

    by_place : Turned f rank.0 b.ranks was k.0 → Rises b e r now
    by_place (inl own) =
        let first : was ≡ r = some_is (sym own.2 ∙ there) in
        let then : f was ≡ now = some_is (sym own.1 ∙ found) in
        inr (
          ap (λ (s : RankState). s.next) (sym then) ∙ up ∙ ap (λ (s : RankState). s.next + 1) first,
          ap (λ (s : RankState). s.status) (sym first) ∙ runs,
          λ none is. shows none (ap (λ (s : RankState). s.status) then ∙ is),
        )
    by_place (inr other) =
        let same : now ≡ r = some_is (sym found ∙ other.1 ∙ there) in inl (ap (λ (s : RankState). s.next) same)

stays : (b : Bag) (e : Entry) → nexts (after b e).ranks ≡ nexts b.ranks → (k : Rank) (r now : RankState) → Is b k r → Is (after b e) k now
    → Rises b e r now
stays b e same k r now there here = inl (at_next b.ranks (after b e).ranks same k.0 r now there here)

rises : (b : Bag) (e : Entry) → Legal b e → (k : Rank) (r now : RankState) → Is b k r → Is (after b e) k now → Rises b e r now
rises b (Putting rank call kind prio target answer body) l =
    at_begin b (Putting rank call kind prio target answer body) rank _ l.0 l.1.0 l.1.1 refl refl (λ none is. absurd (cc))
rises b (Keeping rank call common) l =
    at_begin b (Keeping rank call common) rank (begun (does.Keeping call common)) l.0 l.1.0 l.1.1 refl refl (λ none is. absurd (cc))
rises b (Closing rank call) l =
    at_begin b (Closing rank call) rank (begun (does.Closing call)) l.0 l.2.0 l.2.1 refl refl (λ none is. absurd (cc))
rises b (Asked rank call types) l =
    at_begin b (Asked rank call types) rank (begun (does.Asking call types)) l.0 l.1.0 l.1.1 refl refl (λ none is. absurd (cc))
rises b (Tried rank call types) l =
    at_begin b (Tried rank call types) rank (begun (does.Trying call types)) l.0 l.1.0 l.1.1 refl refl (λ none is. absurd (cc))
rises b (Fetching rank call id) l =
    at_begin b (Fetching rank call id) rank (begun (does.Fetching call id false)) l.0 l.3.0 l.3.1 refl refl (λ none is. absurd (cc))
rises b (Counting rank call kind) l =
    at_begin b (Counting rank call kind) rank (begun (does.Counting call kind)) l.0 l.1.0 l.1.1 refl refl (λ none is. absurd (cc))
rises b (Done rank call) l =
    at_begin b (Done rank call) rank (begun does.Running) l.0 l.1.0 l.1.1 refl refl (λ none is. absurd (cc))
rises b (Finished rank call) l =
    at_begin b (Finished rank call) rank (begun does.Finished) l.0 l.1.0 l.1.1 refl refl (λ none is. absurd (cc))
rises b (Refused server id used) l = stays b (Refused server id used) (same_nexts (declined_by server) (λ r. refl) id.rank.0 b.ranks)
rises b (Accepted server id) l =
    stays b (Accepted server id)
    (same_nexts ended (λ r. refl) id.rank.0 _
    ∙ ap nexts (taken_ranks server (option_and_then (λ r. putting r.status) (rank_at b id.rank)) b))
rises b (Rejected rank call) l = stays b (Rejected rank call) (same_nexts ended (λ r. refl) rank.0 b.ranks)
rises b (Kept server batch) l =
    stays b (Kept server batch) (kept_nexts server batch (option_and_then (λ r. keeping r.status) (rank_at b batch.rank)) b)
rises b (Closed server batch) l =
    stays b (Closed server batch) (same_nexts (λ r. ended (record r { batch = None })) (λ r. refl) batch.rank.0 b.ranks)
rises b (Granted server rank call id) l = stays b (Granted server rank call id) (same_nexts ended (λ r. refl) rank.0 b.ranks)
rises b (Looked server rank call) l = stays b (Looked server rank call) (same_nexts (declined_by server) (λ r. refl) rank.0 b.ranks)
rises b (NoCurrent rank call) l = stays b (NoCurrent rank call) (same_nexts ended (λ r. refl) rank.0 b.ranks)
rises b (Fetched server rank id) l =
    let common = option_and_then (λ u. u.unit.common) (unit_of b id) in
    stays b (Fetched server rank id) (same_nexts (own_fetched common) (own_next common) rank.0 b.ranks)
rises b (CommonFetched server rank batch) l = stays b (CommonFetched server rank batch) (same_nexts ended (λ r. refl) rank.0 b.ranks)
rises b (Counted server rank call info) l = stays b (Counted server rank call info) (same_nexts ended (λ r. refl) rank.0 b.ranks)
rises b (Over rank call end) l =
    stays b (Over rank call end) (same_nexts (λ r. ended (record r { end = Some end })) (λ r. refl) rank.0 b.ranks)
rises b _ l = λ k r now there here. inl (at_next b.ranks b.ranks refl k.0 r now there here)

-- 1 for a call that is pending
abbrev one : Option Call → ℕ
one o = cond (is_some o) 1 0

at_most_one : (o : Option Call) → one o ≤ 1
at_most_one None = omega arith
at_most_one (Some call) = omega arith

-- each call that is begun by the entry is said by it or pending then, and what was pending is said or still pending
abbrev IsCounted : Bag → Entry → Rank → RankState → RankState → Type 0
IsCounted b e rank r now =
    now.next + one (call_of r.status) ≤ r.next + length (of_rank rank (says b e)) + one (call_of now.status)

-- where the number stays
same_counted : (b : Bag) (e : Entry) (rank : Rank) (r now : RankState) → Deed b e rank r now → now.next ≡ r.next
    → IsCounted b e rank r now
same_counted b e rank r now (waits silent idle status end batch) n = omega (arith, n, ap (λ (s : Status). one (call_of s)) status)
same_counted b e rank r now (begins call silent idle runs is end batch) n =
    omega (arith, n, ap (λ (s : Status). one (call_of s)) runs)
same_counted b e rank r now (hears call answer heard is runs end batch comes) n =
    omega (arith, n, ap length (of_mine rank (says b e) (record { call = call; answer = answer }) heard), at_most_one (call_of r.status))
same_counted b e rank r now (awaits id u common silent comes shared status accepts grants gives) n = omega (arith, n, ap one status)
same_counted b e rank r now (calls_done heard idle runs) n = omega (arith, n, ap (λ (s : Status). one (call_of s)) runs)
same_counted b e rank r now (finishes heard idle runs done end batch) n = omega (arith, n, ap (λ (s : Status). one (call_of s)) runs)

-- where it goes up
up_counted : (b : Bag) (e : Entry) (rank : Rank) (r now : RankState) → Deed b e rank r now → now.next ≡ r.next + 1
    → r.status ≡ does.Running → (says b e ≡ None → now.status ≡ does.Running → ⊥) → IsCounted b e rank r now
up_counted b e rank r now (waits silent idle status end batch) n runs shows = absurd (shows silent (status ∙ runs))
up_counted b e rank r now (begins call silent idle was is end batch) n runs shows =
    omega (arith, n, ap one is, ap (λ (s : Status). one (call_of s)) runs)
up_counted b e rank r now (hears call answer heard is then end batch comes) n runs shows =
    absurd (let none = ap call_of runs in cc (none, is))
up_counted b e rank r now (awaits id u common silent comes shared status accepts grants gives) n runs shows =
    absurd (let none = ap call_of runs in let some = comes.calls in cc (none, some))
up_counted b e rank r now (calls_done heard idle was) n runs shows =
    omega (arith, n, ap length (of_mine rank (says b e) _ heard), ap (λ (s : Status). one (call_of s)) runs)
up_counted b e rank r now (finishes heard idle was done end batch) n runs shows =
    omega (arith, n, ap length (of_mine rank (says b e) _ heard), ap (λ (s : Status). one (call_of s)) runs)

counts : (b last : Bag) (es : List Entry) → IsPath b es last → (rank : Rank) (r q : RankState) → Is b rank r → Is last rank q
    → q.next + one (call_of r.status) ≤ r.next + length (along says b es rank) + one (call_of q.status)
counts b last [] path rank r q there at =
    let same : r ≡ q = some_is (sym there ∙ ap (λ (v : Bag). rank_at v rank) path ∙ at) in
    omega (arith, ap (λ (s : RankState). s.next) same, ap (λ (s : RankState). one (call_of s.status)) same)
counts b last (e ∷ es) path rank r q there at =
    by_case (seen b e path.0 rank) (counts (after b e) last es path.1 rank)
  where
    split : length (along says b (e ∷ es) rank) ≡ length (of_rank rank (says b e)) + length (along says (after b e) es rank)
    split = length-append (of_rank rank (says b e)) (along says (after b e) es rank)

    turned_on : (t now : RankState) → t ≡ r → Is (after b e) rank now → Deed b e rank t now → Rises b e t now
        → q.next + one (call_of now.status) ≤ now.next + length (along says (after b e) es rank) + one (call_of q.status)
        → q.next + one (call_of r.status) ≤ r.next + length (along says b (e ∷ es) rank) + one (call_of q.status)
    turned_on t now same here deed (inl n) later =
        omega (
          arith,
          split,
          later,
          same_counted b e rank t now deed n,
          ap (λ (s : RankState). s.next) same,
          ap (λ (s : RankState). one (call_of s.status)) same,
        )
    turned_on t now same here deed (inr up) later =
        omega (
          arith,
          split,
          later,
          up_counted b e rank t now deed up.0 up.1 up.2,
          ap (λ (s : RankState). s.next) same,
          ap (λ (s : RankState). one (call_of s.status)) same,
        )

    by_case : IsAway b e rank ⊎ IsTurn b e rank
        → ((n m : RankState) → Is (after b e) rank n → Is last rank m
        → m.next + one (call_of n.status) ≤ n.next + length (along says (after b e) es rank) + one (call_of m.status))
        → q.next + one (call_of r.status) ≤ r.next + length (along says b (e ∷ es) rank) + one (call_of q.status)
    by_case (inl away) later = omega (arith, split, ap length away.1, later r q (away.0 ∙ there) at)
    by_case (inr t) later =
        turned_on t.was t.now (some_is (sym t.there ∙ there)) t.here t.deed (rises b e path.0 rank t.was t.now t.there t.here)
        (later t.now q t.here at)

-- a rank has begun as many calls as the number of its next one says
pub number_told : (config : Config) (ledger : List Entry) (last : Bag) (rank : Rank) (q : RankState) → rank.0 < config.ranks
    → IsRun (start config) ledger last → Is last rank q → q.next ≤ begun_by config ledger last rank
number_told config ledger last rank q below run at =
    let path = path_of (start config) last ledger run in
    let first = there_is (start config).ranks rank.0 (omega (arith, below, start_long config)) in
    let fresh = fresh_at config.ranks rank.0 first.0 first.1 in
    let all = counts (start config) last ledger path rank first.0 q first.1 at in
    omega (
      arith,
      all,
      ap (λ (s : RankState). s.next) fresh,
      ap length (calls_along (start config) ledger rank),
      ap (λ (o : Option RankState). one (option_and_then (λ r. call_of r.status) o)) at,
    )
