-- No server refuses a call twice: a refusal takes from the call that it is open to the server, and only its beginning gives that.
use Rattle.std.proofs.Common.{◌≡◌, ℕ, ◌+◌, ◌≤◌, ◌==◌, ◌&&◌, ◌||◌, inl, inr, not, Bool, true, false, List, [], ◌∷◌, count_by, cond, Option}
use Rattle.std.proofs.Common.{Some, None, refl, sym, ap, ◌∙◌, arith, slice_get, replicate}
use Rattle.std.specs.Prelude.{nat_lt}
use Rattle.std.proofs.lemmas.Bool.{eqb-true}
use Rattle.std.proofs.lemmas.List.Folds.{list_any-append}
use Rattle.std.proofs.lemmas.List.Sums.{sum_by-cons}
use Rattle.adlb_unit.specs.declared.configs.Config.{Config}
use Rattle.adlb_unit.specs.declared.names.CommonRef.{CommonRef}
use Rattle.adlb_unit.specs.declared.names.Rank.{Rank}
use Rattle.adlb_unit.specs.declared.names.Server.{Server}
use Rattle.adlb_unit.specs.declared.names.UnitId.{UnitId}
use Rattle.adlb_unit.specs.Ids.{same_unit}
use Rattle.bag_ledger.specs.declared.entries.Entry.{Entry}
use Rattle.bag_ledger.specs.declared.entries.Entry.TheVariants.{Putting, Refused, Accepted, Rejected, Keeping, Kept, Closing, Closed, Asked}
use Rattle.bag_ledger.specs.declared.entries.Entry.TheVariants.{Tried, Granted, Looked, NoCurrent, Fetching, Fetched, CommonFetched}
use Rattle.bag_ledger.specs.declared.entries.Entry.TheVariants.{Counting, Counted, Done, Over, Finished}
use Rattle.bag_ledger.specs.declared.states.RankState.{RankState}
use Rattle.bag_ledger.specs.declared.states.Status.{Status}
use Rattle.bag_ledger.specs.declared.states.Status.TheVariants as does
use Rattle.bag_ledger.specs.Bag.{Bag, fresh, has_declined, offer, start}
use Rattle.bag_ledger.specs.Runs.{IsRunWhere}
use Rattle.bag_ledger.specs.Steps.{LegalWhere, after, change_at, declined_by, ended, own_fetched}
use Rattle.bag_ledger.specs.Words.{refuses}
use Rattle.bag_ledger.proofs.Tests.{some_is}
use Rattle.bag_ledger.proofs.Turns.{fresh_at}
use Rattle.bag_law.specs.Counts.{brings, if_so, if_there, one, used}
use Rattle.bag_law.proofs.Facts.{used_most}
use Rattle.bag_law.proofs.Ids.{pair_differs, pair_same, used_begins}
use Rattle.bag_law.proofs.Plain.{accepted_is, kept_is}
use Rattle.bag_law.proofs.Turn.{Turned, turned}

-- 1 where the rank brings something in the call of this number, and the server has not refused it
abbrev opens : Server → ℕ → RankState → ℕ
opens server n r = if_so (not (has_declined r server)) (brings n r.status)

-- the call; and what is open, and used, of its rank
abbrev call_id : Rank → ℕ → UnitId
call_id rank call = record { rank = rank; number = call }

abbrev opened : Server → UnitId → List RankState → ℕ
opened server id ranks = if_there (opens server id.number) (slice_get ranks id.rank.0)

abbrev used_by : UnitId → List RankState → ℕ
used_by id ranks = if_there (used id.number) (slice_get ranks id.rank.0)

if_none : (t : Bool) → if_so t 0 ≡ 0
if_none true = refl
if_none false = refl

if_most : (t : Bool) (n : ℕ) → if_so t n ≤ n
if_most true n = omega arith
if_most false n = omega arith

-- from these ranks to those, with a refusal or without: what is open falls by the refusal, and rises as the number is used
abbrev Falls : Server → UnitId → Bool → List RankState → List RankState → Type 0
Falls server id refused was now = one refused + opened server id now + used_by id was ≤ opened server id was + used_by id now

-- One rank has its turn.

turn_opens : (server : Server) (id : UnitId) (ranks : List RankState) (place : ℕ) (f : RankState → RankState) (r : RankState)
    → slice_get ranks place ≡ Some r
    → ((n : ℕ) → opens server n (f r) + used n r ≤ opens server n r + used n (f r))
    → Falls server id false ranks (change_at f place ranks)
turn_opens server id ranks place f r there each = by_case (turned f place ranks r there id.rank.0)
  where
    by_case : Turned f place ranks r id.rank.0
        → Falls server id false ranks (change_at f place ranks)
    by_case (inl c) = let here = each id.number in rw (c.1, c.2) (omega arith)
    by_case (inr c) = rw c.1 (omega arith)

-- nothing is brought by then
bare_opens : (server : Server) (n : ℕ) (r : RankState) → brings n r.status ≡ 0 → opens server n r ≡ 0
bare_opens server n r none = rw none (if_none (not (has_declined r server)))

ends_opens : (server : Server) (id : UnitId) (ranks : List RankState) (place : ℕ) (f : RankState → RankState) (r : RankState)
    → slice_get ranks place ≡ Some r → ((n : ℕ) → brings n (f r).status ≡ 0) → (f r).next ≡ r.next
    → Falls server id false ranks (change_at f place ranks)
ends_opens server id ranks place f r there none same =
    turn_opens server id ranks place f r there (λ n.
    let zero_now = bare_opens server n (f r) (none n) in
    let as_was : used n (f r) ≡ used n r = ap (λ k. one (nat_lt n k)) same in
    omega arith)

-- a call begins, which brings something or not
begins_opens : (server : Server) (id : UnitId) (ranks : List RankState) (place call : ℕ) (f : RankState → RankState) (r : RankState)
    → slice_get ranks place ≡ Some r → r.next ≡ call → (f r).next ≡ r.next + 1 → ((n : ℕ) → brings n (f r).status ≤ one (call == n))
    → Falls server id false ranks (change_at f place ranks)
begins_opens server id ranks place call f r there number next few =
    turn_opens server id ranks place f r there (λ n.
    let u = used_begins n call in
    let h = few n in
    let most = if_most (not (has_declined (f r) server)) (brings n (f r).status) in
    let before : used n r ≡ one (nat_lt n call) = ap (λ m. one (nat_lt n m)) number in
    let now : used n (f r) ≡ one (nat_lt n (call + 1)) = ap (λ m. one (nat_lt n m)) (next ∙ ap (λ m. m + 1) number) in
    omega arith)

-- A server declines.

declined_more : (by server : Server) (r : RankState) → has_declined (declined_by by r) server ≡ has_declined r server
    || ((by.0 == server.0) || false)
declined_more by server r = list_any-append (λ (s : Server). s.0 == server.0) r.declined (by ∷ [])

offer_brings : (s : Status) (m n k : ℕ) → offer s ≡ Some (m, n) → brings k s ≡ one (m == k)
offer_brings (does.Putting u) m n k e = let same : u.id.number ≡ m = ap (λ (p : ℕ × ℕ). p.0) (some_is e) in rw same refl
offer_brings (does.Keeping call common) m n k e = let same : call ≡ m = ap (λ (p : ℕ × ℕ). p.0) (some_is e) in rw same refl
offer_brings _ m n k e = absurd (cc)

less_open : (h t s : Bool) → (t ≡ true → h ≡ false) → one (t && s) + if_so (not (h || (t || false))) (one s) ≤ if_so (not h) (one s)
less_open true true s new = let no : true ≡ false = new refl in absurd (cc)
less_open true false s new = omega arith
less_open false true s new = omega arith
less_open false false s new = omega arith

refusal : (server by : Server) (k m n : ℕ) (r : RankState) → offer r.status ≡ Some (m, n) → has_declined r by ≡ false
    → one ((by.0 == server.0) && (m == k)) + opens server k (declined_by by r) ≤ opens server k r
refusal server by k m n r offers new =
    let b = offer_brings r.status m n k offers in
    let more = declined_more by server r in
    rw (b, more) (less_open (has_declined r server) (by.0 == server.0) (m == k)
    (λ same. ap (λ (x : ℕ). has_declined r (record { 0 = x })) (sym (eqb-true by.0 server.0 same)) ∙ new))

-- Each entry.

-- an entry of this rank, or of another
and_same : (t : Bool) (a x n m : ℕ) → a ≡ x → one (t && ((a == x) && (n == m))) ≡ one (t && (n == m))
and_same true a x n m same = pair_same a x n m same
and_same false a x n m same = refl

and_differs : (t : Bool) (a x n m : ℕ) → (a ≡ x → ⊥) → one (t && ((a == x) && (n == m))) ≡ 0
and_differs true a x n m differs = pair_differs a x n m differs
and_differs false a x n m differs = refl

refused_falls : (found : Bag → Bool) (server by : Server) (id x : UnitId) (u : ℕ) (b : Bag) → (l : LegalWhere found b (Refused by x u))
    → Falls server id ((by.0 == server.0) && same_unit x id) b.ranks (after b (Refused by x u)).ranks
refused_falls found server by id x u b l = by_case (turned (declined_by by) x.rank.0 b.ranks l.0 l.2 id.rank.0)
  where
    by_case : Turned (declined_by by) x.rank.0 b.ranks l.0 id.rank.0
        → Falls server id ((by.0 == server.0) && same_unit x id) b.ranks (after b (Refused by x u)).ranks
    by_case (inl c) =
        let less = refusal server by id.number x.number l.1 l.0 l.3 l.5 in
        let same = and_same (by.0 == server.0) x.rank.0 id.rank.0 x.number id.number c.0 in
        rw (c.1, c.2) (omega arith)
    by_case (inr c) =
        let none = and_differs (by.0 == server.0) x.rank.0 id.rank.0 x.number id.number c.0 in
        rw c.1 (omega arith)

entry_falls : (found : Bag → Bool) (server : Server) (rank : Rank) (call : ℕ) (b : Bag) (e : Entry) → LegalWhere found b e
    → Falls server (call_id rank call) (refuses server rank call e) b.ranks (after b e).ranks
entry_falls found server rank call b (Putting r q kind prio target answer body) l =
    begins_opens server (call_id rank call) b.ranks r.0 q _ l.0 l.1.0 l.1.2 refl (λ n. omega arith)
entry_falls found server rank call b (Refused by x u) l = refused_falls found server by (call_id rank call) x u b l
entry_falls found server rank call b (Accepted by x) l =
    let a = accepted_is b by x l in
    rw a.ranks (ends_opens server (call_id rank call) b.ranks x.rank.0 ended a.r a.there (λ n. refl) refl)
entry_falls found server rank call b (Rejected r q) l = ends_opens server (call_id rank call) b.ranks r.0 ended l.0 l.2 (λ n. refl) refl
entry_falls found server rank call b (Keeping r q common) l =
    begins_opens server (call_id rank call) b.ranks r.0 q _ l.0 l.1.0 l.1.2 refl (λ n. omega arith)
entry_falls found server rank call b (Kept by batch) l =
    rw (kept_is b by batch l) (ends_opens server (call_id rank call) b.ranks batch.rank.0 _ l.0 l.2 (λ n. refl) refl)
entry_falls found server rank call b (Closing r q) l =
    begins_opens server (call_id rank call) b.ranks r.0 q _ l.0 l.2.0 l.2.2 refl (λ n. omega arith)
entry_falls found server rank call b (Closed by batch) l =
    ends_opens server (call_id rank call) b.ranks batch.rank.0 _ l.0 l.4 (λ n. refl) refl
entry_falls found server rank call b (Asked r q types) l =
    begins_opens server (call_id rank call) b.ranks r.0 q _ l.0 l.1.0 l.1.2 refl (λ n. omega arith)
entry_falls found server rank call b (Tried r q types) l =
    begins_opens server (call_id rank call) b.ranks r.0 q _ l.0 l.1.0 l.1.2 refl (λ n. omega arith)
entry_falls found server rank call b (Granted by r q x) l = ends_opens server (call_id rank call) b.ranks r.0 ended l.0 l.3 (λ n. refl) refl
entry_falls found server rank call b (Looked by r q) l =
    ends_opens server (call_id rank call) b.ranks r.0 (declined_by by) l.0 l.2 (λ n. rw l.3 refl) refl
entry_falls found server rank call b (NoCurrent r q) l = ends_opens server (call_id rank call) b.ranks r.0 ended l.0 l.2 (λ n. refl) refl
entry_falls found server rank call b (Fetching r q x) l =
    begins_opens server (call_id rank call) b.ranks r.0 q _ l.0 l.3.0 l.3.2 refl (λ n. omega arith)
entry_falls found server rank call b (Fetched by r x) l = by_common _
  where
    by_common : (o : Option CommonRef) → Falls server (call_id rank call) false b.ranks (change_at (own_fetched o) r.0 b.ranks)
    by_common None = ends_opens server (call_id rank call) b.ranks r.0 ended l.0 l.3 (λ n. refl) refl
    by_common (Some c) =
        ends_opens server (call_id rank call) b.ranks r.0 (own_fetched (Some c)) l.0 l.3 (λ n. rw l.4 refl) refl
entry_falls found server rank call b (CommonFetched by r batch) l =
    ends_opens server (call_id rank call) b.ranks r.0 ended l.0 l.6 (λ n. refl) refl
entry_falls found server rank call b (Counting r q kind) l =
    begins_opens server (call_id rank call) b.ranks r.0 q _ l.0 l.1.0 l.1.2 refl (λ n. omega arith)
entry_falls found server rank call b (Counted by r q info) l =
    ends_opens server (call_id rank call) b.ranks r.0 ended l.0 l.2 (λ n. refl) refl
entry_falls found server rank call b (Done r q) l =
    begins_opens server (call_id rank call) b.ranks r.0 q _ l.0 l.1.0 l.1.2 refl (λ n. omega arith)
entry_falls found server rank call b (Over r q end) l =
    ends_opens server (call_id rank call) b.ranks r.0 (λ (x : RankState). ended (record x { end = Some end })) l.0 l.1 (λ n. refl) refl
entry_falls found server rank call b (Finished r q) l =
    begins_opens server (call_id rank call) b.ranks r.0 q _ l.0 l.1.0 l.1.2 refl (λ n. omega arith)
entry_falls found server rank call b _ l = omega arith

-- A run.

run_falls : (found : Bag → Bool) (server : Server) (rank : Rank) (call : ℕ) (b last : Bag) (es : List Entry) → IsRunWhere found b es last
    → count_by (refuses server rank call) es + opened server (call_id rank call) last.ranks + used_by (call_id rank call) b.ranks
    ≤ opened server (call_id rank call) b.ranks + used_by (call_id rank call) last.ranks
run_falls found server rank call b last [] run = rw (ap (λ (x : Bag). x.ranks) run) (omega arith)
run_falls found server rank call b last (e ∷ es) run =
    let id = call_id rank call in
    let rest = run_falls found server rank call run.0 last es run.2 in
    let here = entry_falls found server rank call b e run.1.1 in
    let o : opened server id (run.0).ranks ≡ opened server id (after b e).ranks = ap (λ (x : Bag). opened server id x.ranks) run.1.2 in
    let u : used_by id (run.0).ranks ≡ used_by id (after b e).ranks = ap (λ (x : Bag). used_by id x.ranks) run.1.2 in
    let more : count_by (refuses server rank call) (e ∷ es) ≡ one (refuses server rank call e) + count_by (refuses server rank call) es =
    sum_by-cons (λ x. cond (refuses server rank call x) 1 0) e es
    ∙ ap (λ n. n + count_by (refuses server rank call) es) (as_one (refuses server rank call e)) in
    omega arith
  where
    as_one : (t : Bool) → cond t 1 0 ≡ one t
    as_one true = refl
    as_one false = refl

-- no server refuses a call twice
pub refused_once : (found : Bag → Bool) (config : Config) (ledger : List Entry) (last : Bag) (server : Server) (rank : Rank) (call : ℕ)
    → IsRunWhere found (start config) ledger last → count_by (refuses server rank call) ledger ≤ 1
refused_once found config ledger last server rank call run =
    let id = call_id rank call in
    let falls = run_falls found server rank call (start config) last ledger run in
    let most = used_most id (slice_get last.ranks rank.0) in
    let first = by_rank (slice_get (replicate config.ranks fresh) rank.0) refl in
    omega arith
  where
    by_rank : (o : Option RankState) → slice_get (replicate config.ranks fresh) rank.0 ≡ o
        → opened server (call_id rank call) (replicate config.ranks fresh) ≡ 0
    by_rank None e = rw e refl
    by_rank (Some r) e = rw (e, fresh_at config.ranks rank.0 r e) refl
