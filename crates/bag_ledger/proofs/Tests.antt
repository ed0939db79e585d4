-- What the tests of a step say.
use Rattle.std.proofs.Common.{◌≡◌, ℕ, ◌==◌, ◌↔◌, Bool, true, ◌&&◌, not, ℤ, List, Option, Some, None, refl, ap, ◌∙◌, eqb}
use Rattle.std.specs.Prelude.{is_none}
use Rattle.std.specs.Cmp.{signed_Decides}
use Rattle.std.proofs.lemmas.Bool.{and_parts, eqb-true, eq-eqb, ltb-true, lt-ltb, not-true, not_from_false}
use Rattle.adlb_unit.specs.declared.names.Rank.{Rank}
use Rattle.adlb_unit.specs.declared.names.Server.{Server}
use Rattle.adlb_unit.specs.declared.names.WorkType.{WorkType}
use Rattle.adlb_unit.specs.declared.names.UnitId.{UnitId}
use Rattle.adlb_unit.specs.declared.names.BatchId.{BatchId}
use Rattle.adlb_unit.specs.declared.names.CommonRef.{CommonRef}
use Rattle.adlb_unit.specs.declared.notes.Info.{Info}
use Rattle.adlb_unit.specs.declared.units.Unit.{Unit}
use Rattle.adlb_unit.proofs.Same.{same_batch_is, same_batch_from}
use Rattle.bag_ledger.specs.declared.entries.Entry.{Entry}
use Rattle.bag_ledger.specs.declared.states.RankState.{RankState}
use Rattle.bag_ledger.specs.declared.states.Part.{Part}
use Rattle.bag_ledger.specs.declared.states.UnitPlace.{UnitPlace}
use Rattle.bag_ledger.specs.declared.states.UnitPlace.TheVariants.{Free, Travelling, Pinned}
use Rattle.bag_ledger.specs.declared.states.Status.{Status}
use Rattle.bag_ledger.specs.declared.states.Status.TheVariants as does
use Rattle.bag_ledger.specs.Bag.{Bag, rank_at, part_of, is_free_at, putting, keeping}
use Rattle.bag_ledger.specs.Steps.{Begins, IsServer, Keeps, Legal}
use Rattle.bag_ledger.specs.Step.{has, is_running, is_closing, trying, fetching, counting, is_pinned_to, is_pinned, is_travelling_to}
use Rattle.bag_ledger.specs.Step.{same_top, same_info, begins, is_server, keeps, is_of, legal}

-- the test says where the entry is legal
abbrev pub IsTest : Bag → Entry → Type 0
IsTest b e = (legal b e ≡ true) ↔ Legal b e

-- `Some` of two values is equal only if the values are
pub some_is : {X : Type 0} {x y : X} → Some x ≡ Some y → x ≡ y
some_is e = cc

-- an option that passes has a value that passes
pub has_is : {X : Type 0} (test : X → Bool) (o : Option X) → has o test ≡ true → (x : X) × (o ≡ Some x) × (test x ≡ true)
has_is test None e = absurd (cc)
has_is test (Some x) e = (x, refl, e)

-- an option with a value that passes does so itself
pub has_from : {X : Type 0} (test : X → Bool) (o : Option X) (x : X) → o ≡ Some x → test x ≡ true → has o test ≡ true
has_from test o x is e = rw is e

-- an option that passes the test of emptiness is `None`
pub none_is : {X : Type 0} (o : Option X) → is_none o ≡ true → o ≡ None
none_is None e = refl
none_is (Some x) e = absurd (cc)

-- an option that fails the test of emptiness has a value
pub some_there : {X : Type 0} (o : Option X) → not (is_none o) ≡ true → (x : X) × (o ≡ Some x)
some_there None e = absurd (cc)
some_there (Some x) e = (x, refl)

-- the three facts of a test of three
pub three : (p q r : Bool) → (p && q && r) ≡ true → (p ≡ true) × (q ≡ true) × (r ≡ true)
three p q r e = let s = and_parts (p && q) r e in let t = and_parts p q s.0 in (t.0, t.1, s.1)

-- the four facts of a test of four
pub four : (p q r s : Bool) → (p && q && r && s) ≡ true → (p ≡ true) × (q ≡ true) × (r ≡ true) × (s ≡ true)
four p q r s e = let t = and_parts (p && q && r) s e in let u = three p q r t.0 in (u.0, u.1, u.2, t.1)

-- three facts pass a test of three
pub three_from : {p q r : Bool} → p ≡ true → q ≡ true → r ≡ true → (p && q && r) ≡ true
three_from e f g = rw (e, f, g) refl

-- four facts pass a test of four
pub four_from : {p q r s : Bool} → p ≡ true → q ≡ true → r ≡ true → s ≡ true → (p && q && r && s) ≡ true
four_from e f g h = rw (e, f, g, h) refl

-- Names.

-- a number is equal to itself in the test
pub same_number : (n : ℕ) → eqb n n ≡ true
same_number n = eq-eqb n n refl

-- ranks with equal numbers are equal
pub same_rank_is : (a b : Rank) → (a.0 == b.0) ≡ true → a ≡ b
same_rank_is a b e = let is : a.0 ≡ b.0 = eqb-true a.0 b.0 e in rw (← is) refl

-- servers with equal numbers are equal
pub same_server_is : (a b : Server) → (a.0 == b.0) ≡ true → a ≡ b
same_server_is a b e = let is : a.0 ≡ b.0 = eqb-true a.0 b.0 e in rw (← is) refl

-- equal servers have equal numbers
pub same_server_from : (a b : Server) → a ≡ b → (a.0 == b.0) ≡ true
same_server_from a b e = eq-eqb a.0 b.0 (ap (λ (s : Server). s.0) e)

-- a unit that passes the test of a batch refers to that batch
pub is_of_is : (batch : BatchId) (common : Option CommonRef) → is_of batch common ≡ true → (c : CommonRef) × (common ≡ Some c)
    × (c.batch ≡ batch)
is_of_is batch None e = absurd (cc)
is_of_is batch (Some c) e = (c, refl, same_batch_is c.batch batch e)

-- a unit that refers to a batch passes its test
pub is_of_from : (batch : BatchId) (common : Option CommonRef) (c : CommonRef) → common ≡ Some c → c.batch ≡ batch
    → is_of batch common ≡ true
is_of_from batch common c is e = rw is (same_batch_from c.batch batch e)

-- Statuses.

running_is : (s : Status) → is_running s ≡ true → s ≡ does.Running
running_is does.Running e = refl
running_is _ e = absurd (cc)

-- a rank that passes the test is closing a batch
pub closing_is : (s : Status) → is_closing s ≡ true → (call : ℕ) × (s ≡ does.Closing call)
closing_is (does.Closing call) e = (call, refl)
closing_is _ e = absurd (cc)

-- a rank that is said to be putting a unit does so
pub putting_is : (s : Status) (u : Unit) → putting s ≡ Some u → s ≡ does.Putting u
putting_is (does.Putting unit) u e = cc
putting_is _ u e = absurd (cc)

-- a rank that is said to be keeping a common part does so
pub keeping_is : (s : Status) (k : ℕ × List ℕ) → keeping s ≡ Some k → s ≡ does.Keeping k.0 k.1
keeping_is (does.Keeping call common) k e = let same : (call, common) ≡ k = some_is e in ap (λ (p : ℕ × List ℕ). does.Keeping p.0 p.1) same
keeping_is _ k e = absurd (cc)

-- a rank that is said to be trying does so
pub trying_is : (s : Status) (w : ℕ × Option (List WorkType)) → trying s ≡ Some w → s ≡ does.Trying w.0 w.1
trying_is (does.Trying call types) w e = let same : (call, types) ≡ w = some_is e in
    ap (λ (p : ℕ × Option (List WorkType)). does.Trying p.0 p.1) same
trying_is _ w e = absurd (cc)

-- a rank that is said to be fetching does so, in some call
pub fetching_is : (s : Status) (f : UnitId × Bool) → fetching s ≡ Some f → (call : ℕ) × (s ≡ does.Fetching call f.0 f.1)
fetching_is (does.Fetching call id own) f e = let same : (id, own) ≡ f = some_is e in
    (call, ap (λ (p : UnitId × Bool). does.Fetching call p.0 p.1) same)
fetching_is _ f e = absurd (cc)

-- a rank that is said to be counting does so
pub counting_is : (s : Status) (c : ℕ × WorkType) → counting s ≡ Some c → s ≡ does.Counting c.0 c.1
counting_is (does.Counting call kind) c e = let same : (call, kind) ≡ c = some_is e in ap (λ (p : ℕ × WorkType). does.Counting p.0 p.1) same
counting_is _ c e = absurd (cc)

-- Places.

-- a place that passes the test is free at that server
pub free_is : (server : Server) (p : UnitPlace) → is_free_at server p ≡ true → p ≡ Free server
free_is server (Free at) e = ap Free (same_server_is at server e)
free_is server _ e = absurd (cc)

-- a place that passes the test is on its way to that server
pub travelling_is : (server : Server) (p : UnitPlace) → is_travelling_to server p ≡ true → p ≡ Travelling server
travelling_is server (Travelling to) e = ap Travelling (same_server_is to server e)
travelling_is server _ e = absurd (cc)

-- a place that passes the test is pinned at that server to that rank
pub pinned_is : (server : Server) (rank : Rank) (p : UnitPlace) → is_pinned server rank p ≡ true → p ≡ Pinned server rank
pinned_is server rank (Pinned at to) e =
    let s = and_parts (at.0 == server.0) (to.0 == rank.0) e in
    ap (λ (a : Server). Pinned a to) (same_server_is at server s.0) ∙ ap (λ (r : Rank). Pinned server r) (same_rank_is to rank s.1)
pinned_is server rank _ e = absurd (cc)

-- a place that passes the test is pinned to that rank at some server
pub pinned_to_is : (rank : Rank) (p : UnitPlace) → is_pinned_to rank p ≡ true → (server : Server) × (p ≡ Pinned server rank)
pinned_to_is rank (Pinned at to) e = (at, ap (λ (r : Rank). Pinned at r) (same_rank_is to rank e))
pinned_to_is rank _ e = absurd (cc)

-- Counts.

same_top_is : (a b : Option ℤ) → same_top a b ≡ true → a ≡ b
same_top_is None None e = refl
same_top_is (Some a) (Some b) e = ap Some ((signed_Decides a b).0 e)
same_top_is None (Some b) e = absurd (cc)
same_top_is (Some a) None e = absurd (cc)

same_top_from : (t : Option ℤ) → same_top t t ≡ true
same_top_from None = refl
same_top_from (Some z) = (signed_Decides z z).1 refl

-- infos that pass the test are equal
pub same_info_is : (a b : Info) → same_info a b ≡ true → a ≡ b
same_info_is a b e =
    let s = three (a.free == b.free) (same_top a.top b.top) (a.at_top == b.at_top) e in
    let free : a.free ≡ b.free = eqb-true a.free b.free s.0 in
    let top : a.top ≡ b.top = same_top_is a.top b.top s.1 in
    let at_top : a.at_top ≡ b.at_top = eqb-true a.at_top b.at_top s.2 in
    rw (← free, ← top, ← at_top) refl

-- equal infos pass the test
pub same_info_from : (a b : Info) → a ≡ b → same_info a b ≡ true
same_info_from a b e = rw (e, same_number b.free, same_top_from b.top, same_number b.at_top) refl

-- Beginnings, servers and parts.

-- where the test passes, the rank may begin the call, and its state passes
pub begins_is : (b : Bag) (rank : Rank) (call : ℕ) (test : RankState → Bool) → begins b rank call test ≡ true
    → (r : RankState) × Begins b rank call r × (test r ≡ true)
begins_is b rank call test e =
    let s = has_is (λ r. is_running r.status && (r.next == call) && test r) (rank_at b rank) e in
    let t = three (is_running s.0.status) (s.0.next == call) (test s.0) s.2 in
    (s.0, (s.1, running_is s.0.status t.0, eqb-true s.0.next call t.1), t.2)

-- where a rank whose state passes may begin the call, the test passes
pub begins_from : (b : Bag) (rank : Rank) (call : ℕ) (test : RankState → Bool) (r : RankState) → Begins b rank call r → test r ≡ true
    → begins b rank call test ≡ true
begins_from b rank call test r s e =
    let runs : is_running r.status ≡ true = rw s.1 refl in
    let next : (r.next == call) ≡ true = eq-eqb r.next call s.2 in
    has_from (λ r. is_running r.status && (r.next == call) && test r) (rank_at b rank) r s.0 (three_from runs next e)

-- a number that passes the test is a server's
pub server_is : (b : Bag) (server : Server) → is_server b server ≡ true → IsServer b server
server_is b server e = ltb-true server.0 b.servers e

-- a server of the run passes the test
pub server_from : (b : Bag) (server : Server) → IsServer b server → is_server b server ≡ true
server_from b server s = lt-ltb server.0 b.servers s

-- where the test passes, the server keeps the part, and the part passes
pub keeps_is : (b : Bag) (server : Server) (batch : BatchId) (test : Part → Bool) → keeps b server batch test ≡ true
    → (p : Part) × Keeps b server batch p × (test p ≡ true)
keeps_is b server batch test e =
    let s = and_parts (is_server b server) (has (part_of b batch) (λ p. (p.server.0 == server.0) && not p.freed && test p)) e in
    let t = has_is (λ p. (p.server.0 == server.0) && not p.freed && test p) (part_of b batch) s.1 in
    let u = three (t.0.server.0 == server.0) (not t.0.freed) (test t.0) t.2 in
    (t.0, (server_is b server s.0, t.1, same_server_is t.0.server server u.0, not-true t.0.freed u.1), u.2)

-- where a server keeps a part that passes, the test passes
pub keeps_from : (b : Bag) (server : Server) (batch : BatchId) (test : Part → Bool) (p : Part) → Keeps b server batch p → test p ≡ true
    → keeps b server batch test ≡ true
keeps_from b server batch test p s e =
    let here : (p.server.0 == server.0) ≡ true = same_server_from p.server server s.2 in
    let there = has_from (λ p. (p.server.0 == server.0) && not p.freed && test p) (part_of b batch) p s.1
    (three_from here (not_from_false p.freed s.3) e) in
    rw (server_from b server s.0) there
