-- One step raises each counter by one at most.
use Rattle.std.proofs.Common.{◌≡◌, ℕ, zero, suc, ◌+◌, ◌≤◌, Bool, true, false, List, [], ◌∷◌, length, Option, Some, None, All, refl, ap}
use Rattle.std.proofs.Common.{arith}
use Rattle.std.specs.Prelude.{option_and_then}
use Rattle.std.proofs.lemmas.List.{length-replicate}
use Rattle.std.proofs.lemmas.List.Elements.{All-nil, All-cons, All-head, All-tail, All-push, All-weaker, All-replicate}
use Rattle.adlb_unit.specs.Ids.{same_batch}
use Rattle.adlb_unit.specs.declared.configs.Config.{Config}
use Rattle.adlb_unit.specs.declared.names.Rank.{Rank}
use Rattle.adlb_unit.specs.declared.names.Server.{Server}
use Rattle.adlb_unit.specs.declared.names.BatchId.{BatchId}
use Rattle.adlb_unit.specs.declared.names.CommonRef.{CommonRef}
use Rattle.adlb_unit.specs.declared.units.Unit.{Unit}
use Rattle.bag_ledger.specs.declared.entries.Entry.{Entry}
use Rattle.bag_ledger.specs.declared.entries.Entry.TheVariants.{Putting, Refused, Accepted, Rejected, Keeping, Kept, Closing, Closed, Freed}
use Rattle.bag_ledger.specs.declared.entries.Entry.TheVariants.{Asked, Tried, Granted, Looked, NoCurrent, Fetching, Fetched, CommonFetched}
use Rattle.bag_ledger.specs.declared.entries.Entry.TheVariants.{Counting, Counted, Done, Over, Finished}
use Rattle.bag_ledger.specs.declared.states.RankState.{RankState}
use Rattle.bag_ledger.specs.declared.states.Part.{Part}
use Rattle.bag_ledger.specs.declared.states.UnitPlace.TheVariants.{Pinned, Spent}
use Rattle.bag_ledger.specs.declared.states.Status.TheVariants as does
use Rattle.bag_ledger.specs.Bag.{Bag, start, fresh, rank_at, unit_of, putting, keeping}
use Rattle.bag_ledger.specs.Steps.{after, begun, change_at, change_first, declined_by, ended, kept, moved, own_fetched, shared, taken}
use Rattle.bag_ledger.specs.Steps.{with_part, with_rank}
use Rattle.ledger_checker.specs.Room.{HasRoom}

-- what holds after a change of one element
all_changed_at : {X : Type 0} (P Q : X → Type 0) (f : X → X) → ((x : X) → P x → Q (f x)) → ((x : X) → P x → Q x) → (n : ℕ) (xs : List X)
    → All P xs → All Q (change_at f n xs)
all_changed_at P Q f new old n [] all = All-nil Q
all_changed_at P Q f new old zero (x ∷ xs) all =
    All-cons Q (f x) xs (new x (All-head P x xs all)) (All-weaker P Q old xs (All-tail P x xs all))
all_changed_at P Q f new old (suc n) (x ∷ xs) all =
    All-cons Q x (change_at f n xs) (old x (All-head P x xs all)) (all_changed_at P Q f new old n xs (All-tail P x xs all))

-- a change of the first that passes makes each element as asked
pub all_changed_first : {X : Type 0} (P Q : X → Type 0) (f : X → X) (test : X → Bool) → ((x : X) → P x → Q (f x)) → ((x : X) → P x → Q x)
    → (xs : List X) → All P xs → All Q (change_first f test xs)
all_changed_first P Q f test new old [] all = All-nil Q
all_changed_first P Q f test new old (x ∷ xs) all = by_test (all_changed_first P Q f test new old xs (All-tail P x xs all)) (test x) refl
  where
    by_test : All Q (change_first f test xs) → (t : Bool) → test x ≡ t → All Q (change_first f test (x ∷ xs))
    by_test rest true is = rw is (All-cons Q (f x) xs (new x (All-head P x xs all)) (All-weaker P Q old xs (All-tail P x xs all)))
    by_test rest false is = rw is (All-cons Q x (change_first f test xs) (old x (All-head P x xs all)) rest)

length_changed : {X : Type 0} (f : X → X) (n : ℕ) (xs : List X) → length (change_at f n xs) ≡ length xs
length_changed f n [] = refl
length_changed f zero (x ∷ xs) = refl
length_changed f (suc n) (x ∷ xs) = ap suc (length_changed f n xs)

-- room for one more is room
more : (n : ℕ) (b : Bag) → HasRoom n b → HasRoom (n + 1) b
more n b room = record {
  limit = room.limit;
  ranks = room.ranks;
  calls = All-weaker (λ r. r.next ≤ n) (λ r. r.next ≤ n + 1) (λ r h. omega (arith, h)) b.ranks room.calls;
  accepted = All-weaker (λ p. p.accepted ≤ n) (λ p. p.accepted ≤ n + 1) (λ p h. omega (arith, h)) b.parts room.accepted;
  fetched = All-weaker (λ p. p.fetched ≤ n) (λ p. p.fetched ≤ n + 1) (λ p h. omega (arith, h)) b.parts room.fetched;
}

-- a change of a rank that raises the number of its next call by one at most
ranks_room : (n : ℕ) (rank : Rank) (f : RankState → RankState) → ((r : RankState) → r.next ≤ n → (f r).next ≤ n + 1) → (rs : List RankState)
    → All (λ r. r.next ≤ n) rs → All (λ r. r.next ≤ n + 1) (change_at f rank.0 rs)
ranks_room n rank f low rs all = all_changed_at (λ r. r.next ≤ n) (λ r. r.next ≤ n + 1) f low (λ r h. omega (arith, h)) rank.0 rs all

-- the same of a bag of which a part may have been counted on
rank_room : (n : ℕ) (rank : Rank) (f : RankState → RankState) → ((r : RankState) → r.next ≤ n → (f r).next ≤ n + 1) → (b next : Bag)
    → next.limit ≡ b.limit → next.ranks ≡ b.ranks → All (λ p. p.accepted ≤ n + 1) next.parts → All (λ p. p.fetched ≤ n + 1) next.parts
    → HasRoom n b → HasRoom (n + 1) (with_rank rank f next)
rank_room n rank f low b next limit ranks accepted fetched room = record {
  limit = rw limit room.limit;
  ranks = rw (length_changed f rank.0 next.ranks, ranks) room.ranks;
  calls = ranks_room n rank f low next.ranks (rw ranks room.calls);
  accepted = accepted;
  fetched = fetched;
}

-- where nothing but ranks, units and promises changes
plain : (n : ℕ) (rank : Rank) (f : RankState → RankState) → ((r : RankState) → r.next ≤ n → (f r).next ≤ n + 1) → (b next : Bag)
    → next.limit ≡ b.limit → next.ranks ≡ b.ranks → next.parts ≡ b.parts → HasRoom n b → HasRoom (n + 1) (with_rank rank f next)
plain n rank f low b next limit ranks parts room =
    rank_room n rank f low b next limit ranks (rw parts ((more n b room).accepted)) (rw parts ((more n b room).fetched)) room

accepted_more : (n : ℕ) (batch : BatchId) (f : Part → Part) → ((p : Part) → p.accepted ≤ n → (f p).accepted ≤ n + 1) → (ps : List Part)
    → All (λ p. p.accepted ≤ n) ps → All (λ p. p.accepted ≤ n + 1) (change_first f (λ p. same_batch p.batch batch) ps)
accepted_more n batch f low ps all =
    all_changed_first (λ p. p.accepted ≤ n) (λ p. p.accepted ≤ n + 1) f (λ p. same_batch p.batch batch) low (λ p h. omega (arith, h)) ps all

fetched_more : (n : ℕ) (batch : BatchId) (f : Part → Part) → ((p : Part) → p.fetched ≤ n → (f p).fetched ≤ n + 1) → (ps : List Part)
    → All (λ p. p.fetched ≤ n) ps → All (λ p. p.fetched ≤ n + 1) (change_first f (λ p. same_batch p.batch batch) ps)
fetched_more n batch f low ps all =
    all_changed_first (λ p. p.fetched ≤ n) (λ p. p.fetched ≤ n + 1) f (λ p. same_batch p.batch batch) low (λ p h. omega (arith, h)) ps all

-- a change of a part that counts on by one at most
part_room : (n : ℕ) (batch : BatchId) (f : Part → Part) → ((p : Part) → p.accepted ≤ n → (f p).accepted ≤ n + 1)
    → ((p : Part) → p.fetched ≤ n → (f p).fetched ≤ n + 1) → (b : Bag) → HasRoom n b → HasRoom (n + 1) (with_part batch f b)
part_room n batch f accepts fetches b room = record {
  limit = room.limit;
  ranks = room.ranks;
  calls = (more n b room).calls;
  accepted = accepted_more n batch f accepts b.parts room.accepted;
  fetched = fetched_more n batch f fetches b.parts room.fetched;
}

-- the end of a call after this
end_room : (n : ℕ) (rank : Rank) (f : RankState → RankState) → ((r : RankState) → (f r).next ≡ r.next) → (b : Bag) → HasRoom n b
    → HasRoom n (with_rank rank f b)
end_room n rank f same b room = record {
  limit = room.limit;
  ranks = rw (length_changed f rank.0 b.ranks) room.ranks;
  calls = all_changed_at (λ r. r.next ≤ n) (λ r. r.next ≤ n) f (λ r h. rw (same r) h) (λ r h. h) rank.0 b.ranks room.calls;
  accepted = room.accepted;
  fetched = room.fetched;
}

shared_room : (n : ℕ) (common : Option CommonRef) (b : Bag) → HasRoom n b → HasRoom (n + 1) (shared common b)
shared_room n None b room = more n b room
shared_room n (Some common) b room =
    part_room n common.batch (λ p. record p { accepted = p.accepted + 1 }) (λ p h. omega (arith, h)) (λ p h. omega (arith, h)) b room

taken_room : (n : ℕ) (server : Server) (unit : Option Unit) (b : Bag) → HasRoom n b → HasRoom (n + 1) (taken server unit b)
taken_room n server None b room = more n b room
taken_room n server (Some u) b room = shared_room n u.common _
    (record { limit = room.limit; ranks = room.ranks; calls = room.calls; accepted = room.accepted; fetched = room.fetched })

kept_room : (n : ℕ) (server : Server) (batch : BatchId) (brought : Option (ℕ × List ℕ)) (b : Bag) → HasRoom n b
    → HasRoom (n + 1) (kept server batch brought b)
kept_room n server batch None b room = more n b room
kept_room n server batch (Some (call, common)) b room =
    let wide = more n b room in
    end_room (n + 1) batch.rank (λ r. ended (record r { batch = Some (record { batch = batch; server = server; length = length common }) }))
    (λ r. refl) _ (record {
      limit = room.limit;
      ranks = room.ranks;
      calls = wide.calls;
      accepted = All-push (λ p. p.accepted ≤ n + 1) b.parts _ wide.accepted (omega arith);
      fetched = All-push (λ p. p.fetched ≤ n + 1) b.parts _ wide.fetched (omega arith);
    })

own_next : (common : Option CommonRef) (r : RankState) → (own_fetched common r).next ≡ r.next
own_next None r = refl
own_next (Some common) r = refl

-- a step leaves room in the counters, with one entry more counted
pub room_kept : (n : ℕ) (b : Bag) (e : Entry) → HasRoom n b → HasRoom (n + 1) (after b e)
room_kept n b (Putting rank call kind prio target answer body) room =
    plain n rank
    (λ r. begun (does.Putting (record {
      id = record { rank = rank; number = call };
      kind = kind;
      prio = prio;
      target = target;
      answer = answer;
      common = r.batch;
      body = body;
    })) r) (λ r h. omega (arith, h)) b b refl refl refl room
room_kept n b (Refused server id used) room = end_room (n + 1) id.rank (declined_by server) (λ r. refl) b (more n b room)
room_kept n b (Accepted server id) room =
    end_room (n + 1) id.rank ended (λ r. refl) _ (taken_room n server (option_and_then (λ r. putting r.status) (rank_at b id.rank)) b room)
room_kept n b (Rejected rank call) room = end_room (n + 1) rank ended (λ r. refl) b (more n b room)
room_kept n b (Keeping rank call common) room =
    plain n rank (begun (does.Keeping call common)) (λ r h. omega (arith, h)) b b refl refl refl room
room_kept n b (Kept server batch) room = kept_room n server batch (option_and_then (λ r. keeping r.status) (rank_at b batch.rank)) b room
room_kept n b (Closing rank call) room = plain n rank (begun (does.Closing call)) (λ r h. omega (arith, h)) b b refl refl refl room
room_kept n b (Closed server batch) room =
    end_room (n + 1) batch.rank (λ r. ended (record r { batch = None })) (λ r. refl) _
    (part_room n batch (λ p. record p { closed = true }) (λ p h. omega (arith, h)) (λ p h. omega (arith, h)) b room)
room_kept n b (Freed server batch) room =
    part_room n batch (λ p. record p { freed = true }) (λ p h. omega (arith, h)) (λ p h. omega (arith, h)) b room
room_kept n b (Asked rank call types) room = plain n rank (begun (does.Asking call types)) (λ r h. omega (arith, h)) b b refl refl refl room
room_kept n b (Tried rank call types) room = plain n rank (begun (does.Trying call types)) (λ r h. omega (arith, h)) b b refl refl refl room
room_kept n b (Granted server rank call id) room =
    plain n rank ended (λ r h. omega (arith, h)) b (moved id (Pinned server rank) b) refl refl refl room
room_kept n b (Looked server rank call) room = end_room (n + 1) rank (declined_by server) (λ r. refl) b (more n b room)
room_kept n b (NoCurrent rank call) room = end_room (n + 1) rank ended (λ r. refl) b (more n b room)
room_kept n b (Fetching rank call id) room =
    plain n rank (begun (does.Fetching call id false)) (λ r h. omega (arith, h)) b b refl refl refl room
room_kept n b (Fetched server rank id) room =
    let common = option_and_then (λ u. u.unit.common) (unit_of b id) in
    plain n rank (own_fetched common) (λ r h. omega (arith, h, own_next common r)) b (moved id Spent b) refl refl refl room
room_kept n b (CommonFetched server rank batch) room =
    end_room (n + 1) rank ended (λ r. refl) _
    (part_room n batch (λ p. record p { fetched = p.fetched + 1 }) (λ p h. omega (arith, h)) (λ p h. omega (arith, h)) b room)
room_kept n b (Counting rank call kind) room =
    plain n rank (begun (does.Counting call kind)) (λ r h. omega (arith, h)) b b refl refl refl room
room_kept n b (Counted server rank call info) room = end_room (n + 1) rank ended (λ r. refl) b (more n b room)
room_kept n b (Done rank call) room =
    plain n rank (begun does.Running) (λ r h. omega (arith, h)) b (record b { done = true }) refl refl refl room
room_kept n b (Over rank call end) room = end_room (n + 1) rank (λ r. ended (record r { end = Some end })) (λ r. refl) b (more n b room)
room_kept n b (Finished rank call) room = plain n rank (begun does.Finished) (λ r h. omega (arith, h)) b b refl refl refl room
room_kept n b _ room =
    let wide = more n b room in
    record { limit = wide.limit; ranks = wide.ranks; calls = wide.calls; accepted = wide.accepted; fetched = wide.fetched }

-- at the start the counters have room
pub start_room : (config : Config) → HasRoom 0 (start config)
start_room config = record {
  limit = config.limit_within.1;
  ranks = rw (length-replicate config.ranks fresh) config.ranks_within.1;
  calls = All-replicate (λ r. r.next ≤ 0) config.ranks fresh (omega arith);
  accepted = All-nil (λ p. p.accepted ≤ 0);
  fetched = All-nil (λ p. p.fetched ≤ 0);
}
