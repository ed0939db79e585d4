-- What an entry does to the one rank that it speaks of, what is said by it, and which units it accepts, grants and gives.
use Rattle.std.proofs.Common.{◌≡◌, ℕ, ◌⊎◌, inl, inr, Bool, true, false, List, [], ◌∷◌, ◌++◌, length, find, Option, Some, None, refl, ap}
use Rattle.std.proofs.Common.{◌∙◌, arith}
use Rattle.std.specs.Prelude.{Contains, option_and_then, option_map}
use Rattle.std.proofs.lemmas.List.Elements.{Contains-append_right}
use Rattle.adlb_unit.specs.declared.names.Rank.{Rank}
use Rattle.adlb_unit.specs.declared.names.Server.{Server}
use Rattle.adlb_unit.specs.declared.names.WorkType.{WorkType}
use Rattle.adlb_unit.specs.declared.names.UnitId.{UnitId}
use Rattle.adlb_unit.specs.declared.names.CommonRef.{CommonRef}
use Rattle.adlb_unit.specs.declared.notes.End.{End}
use Rattle.adlb_unit.specs.declared.notes.UnitNote.{UnitNote}
use Rattle.adlb_unit.specs.declared.units.Unit.{Unit}
use Rattle.adlb_unit.specs.Ids.{same_unit}
use Rattle.adlb_unit.proofs.Same.{same_unit_is}
use Rattle.bag_ledger.specs.declared.entries.Entry.{Entry}
use Rattle.bag_ledger.specs.declared.entries.Entry.TheVariants.{Putting, Refused, Accepted, Rejected, Keeping, Kept, Closing, Closed, Asked}
use Rattle.bag_ledger.specs.declared.entries.Entry.TheVariants.{Tried, Granted, Looked, NoCurrent, Fetching, Fetched, CommonFetched}
use Rattle.bag_ledger.specs.declared.entries.Entry.TheVariants.{Counting, Counted, Done, Over, Finished}
use Rattle.bag_ledger.specs.declared.entries.Call.{Call}
use Rattle.bag_ledger.specs.declared.entries.Call.TheVariants as calls_to
use Rattle.bag_ledger.specs.declared.entries.Answer.{Answer}
use Rattle.bag_ledger.specs.declared.entries.Answer.TheVariants as answers
use Rattle.bag_ledger.specs.declared.states.RankState.{RankState}
use Rattle.bag_ledger.specs.declared.states.Placed.{Placed}
use Rattle.bag_ledger.specs.declared.states.Part.{Part}
use Rattle.bag_ledger.specs.declared.states.UnitPlace.TheVariants.{Free, Pinned, Spent}
use Rattle.bag_ledger.specs.declared.states.Status.{Status}
use Rattle.bag_ledger.specs.declared.states.Status.TheVariants as does
use Rattle.bag_ledger.specs.Bag.{Bag, rank_at, unit_of, part_of, putting, keeping, offer, wish, open_call, is_asking}
use Rattle.bag_ledger.specs.Steps.{Is, Legal, after, change_at, begun, ended, declined_by, own_fetched, new_part, has_cause}
use Rattle.bag_ledger.specs.Runs.{says, answered, call_of, note_of}
use Rattle.bag_ledger.proofs.Tests.{some_is}
use Rattle.bag_ledger.proofs.Moves.{moved_here}
use Rattle.bag_ledger.proofs.Charge.{unit_put}
use Rattle.bag_ledger.proofs.Turns.{taken_ranks}
use Rattle.balance_law.specs.Orderly.{finish}

-- the unit that the rank in this state puts
abbrev pub put_by : Rank → Status → Option (Rank × Unit)
put_by rank status = option_map (λ u. (rank, u)) (putting status)

-- the unit that the entry accepts, grants, or gives, and the rank of it
abbrev pub accepted : Bag → Entry → Option (Rank × Unit)
accepted b (Accepted server id) = option_and_then (λ r. put_by id.rank r.status) (rank_at b id.rank)
accepted b _ = None

-- whom the entry grants a unit, and which
abbrev pub granted : Bag → Entry → Option (Rank × Unit)
granted b (Granted server rank call id) = option_map (λ u. (rank, u.unit)) (unit_of b id)
granted b _ = None

-- whom the entry gives a unit's own bytes, and which unit
abbrev pub fetched : Bag → Entry → Option (Rank × Unit)
fetched b (Fetched server rank id) = option_map (λ u. (rank, u.unit)) (unit_of b id)
fetched b _ = None

-- it is of this rank, if there is anything
abbrev pub IsOf : {X : Type 0} → Rank → Option (Rank × X) → Type 0
IsOf {X} rank o = (o ≡ None) ⊎ ((x : X) × (o ≡ Some (rank, x)))

-- it is not among these
abbrev pub IsIdle : Bag → Entry → Type 0
IsIdle b e = (accepted b e ≡ None) × (granted b e ≡ None) × (fetched b e ≡ None)

-- the call is a fetch
abbrev pub is_fetch : Call → Bool
is_fetch (calls_to.Fetch id) = true
is_fetch call = false

-- the answer is not that the call is done
abbrev pub IsNotFine : Answer → Type 0
IsNotFine answers.Fine = ⊥
IsNotFine answer = Prim.Unit {0}

-- the batch has a part with these bytes
pub record HasKept (b : Bag) (batch : Option CommonRef) (common : List ℕ) : Type 0 where
  pub ref : CommonRef
  pub part : Part
  pub is : batch ≡ Some ref
  pub there : Contains b.parts part
  pub named : part.batch ≡ ref.batch
  pub bytes : part.common ≡ common

-- the batch of a rank whose call is answered, before and then
abbrev pub BatchGoes : Bag → Call → Answer → Option CommonRef → Option CommonRef → Type 0
BatchGoes b (calls_to.BeginBatch common) answers.Fine was now = HasKept b now common
BatchGoes b calls_to.EndBatch answers.Fine was now = now ≡ None
BatchGoes b call answer was now = now ≡ was

-- the free unit of the note is pinned to the rank
pub record IsGrant (b : Bag) (e : Entry) (rank : Rank) (call : Call) (note : UnitNote) : Type 0 where
  pub placed : Placed
  pub there : unit_of b note.id ≡ Some placed
  pub free : placed.place ≡ Free note.server
  pub told : note_of note.server placed.unit ≡ note
  pub pinned : unit_of (after b e) note.id ≡ Some (record placed { place = Pinned note.server rank })
  pub grants : granted b e ≡ Some (rank, placed.unit)
  pub accepts : accepted b e ≡ None
  pub gives : fetched b e ≡ None
  pub reserves : is_fetch call ≡ false

-- the bytes of a unit without a common part, with which it is given; and those of one with a common part, which was given before
pub data Bytes (b : Bag) (e : Entry) (rank : Rank) (status : Status) (id : UnitId) (u : Placed) (body : List ℕ) : Type 0 where
  own : (server : Server) → u.unit.common ≡ None → u.place ≡ Pinned server rank → body ≡ u.unit.body → fetched b e ≡ Some (rank, u.unit)
      → Bytes b e rank status id u body
  all : (common : CommonRef) (p : Part) (call : ℕ) → u.unit.common ≡ Some common → part_of b common.batch ≡ Some p
      → status ≡ does.Fetching call id true → body ≡ p.common ++ u.unit.body → fetched b e ≡ None → Bytes b e rank status id u body

-- the bytes of the unit of the call come
pub record IsGift (b : Bag) (e : Entry) (rank : Rank) (status : Status) (call : Call) (body : List ℕ) : Type 0 where
  pub id : UnitId
  pub placed : Placed
  pub calls : call ≡ calls_to.Fetch id
  pub there : unit_of b id ≡ Some placed
  pub bytes : Bytes b e rank status id placed body
  pub accepts : accepted b e ≡ None
  pub grants : granted b e ≡ None
  pub owned : IsOf rank (fetched b e)

-- the own bytes of this unit come, which is pinned to the rank, and spent from then on
pub record IsComing (b : Bag) (e : Entry) (rank : Rank) (r now : RankState) (id : UnitId) (u : Placed) : Type 0 where
  pub there : unit_of b id ≡ Some u
  pub server : Server
  pub pinned : u.place ≡ Pinned server rank
  pub spent : unit_of (after b e) id ≡ Some (record u { place = Spent })
  pub calls : call_of r.status ≡ Some (calls_to.Fetch id)
  pub end : now.end ≡ r.end
  pub batch : now.batch ≡ r.batch

-- what comes with each answer
abbrev pub Comes : Bag → Entry → Rank → Status → Call → Answer → Type 0
Comes b e rank status call (answers.Ended end) = IsIdle b e × (is_fetch call ≡ false) × (has_cause b end ≡ true)
Comes b e rank status call (answers.Granted note) = IsGrant b e rank call note
Comes b e rank status call (answers.Body body) = IsGift b e rank status call body × (is_asking status ≡ false)
Comes b e rank status call answers.Fine =
    (accepted b e ≡ put_by rank status) × (granted b e ≡ None) × (fetched b e ≡ None) × (is_fetch call ≡ false) × (is_asking status ≡ false)
Comes b e rank status call answer = IsIdle b e × (is_fetch call ≡ false) × (is_asking status ≡ false)

-- the end that a rank was told, after this answer
abbrev pub end_after : Answer → Option End → Option End
end_after (answers.Ended end) before = Some end
end_after answer before = before

-- what the rank in this state does by the entry, and its state then
pub data Deed (b : Bag) (e : Entry) (rank : Rank) (r now : RankState) : Type 0 where
  -- its call was declined, and goes on
  waits : says b e ≡ None → IsIdle b e → now.status ≡ r.status → now.end ≡ r.end → now.batch ≡ r.batch → Deed b e rank r now
  -- it begins a call
  begins : (call : Call) → says b e ≡ None → IsIdle b e → r.status ≡ does.Running → call_of now.status ≡ Some call → now.end ≡ r.end
      → now.batch ≡ r.batch → Deed b e rank r now
  -- its call is answered
  hears : (call : Call) (answer : Answer) → says b e ≡ Some (rank, record { call = call; answer = answer }) → call_of r.status ≡ Some call
      → now.status ≡ does.Running → now.end ≡ end_after answer r.end → BatchGoes (after b e) call answer r.batch now.batch
      → Comes b e rank r.status call answer → Deed b e rank r now
  -- the own bytes come of a unit with a common part
  awaits : (id : UnitId) (u : Placed) (common : CommonRef) → says b e ≡ None → IsComing b e rank r now id u → u.unit.common ≡ Some common
      → call_of now.status ≡ call_of r.status → accepted b e ≡ None → granted b e ≡ None → fetched b e ≡ Some (rank, u.unit)
      → Deed b e rank r now
  -- it calls the problem done
  calls_done : says b e ≡ Some (rank, record { call = calls_to.SetDone; answer = answers.Fine }) → IsIdle b e → r.status ≡ does.Running
      → Deed b e rank r now
  -- it finishes, and no batch goes on
  finishes : says b e ≡ Some (rank, finish) → IsIdle b e → r.status ≡ does.Running → now.status ≡ does.Finished → now.end ≡ r.end
      → (now.batch ≡ r.batch) × (now.batch ≡ None) → Deed b e rank r now

-- the entry changes one rank alone
pub record IsActed (b : Bag) (e : Entry) : Type 0 where
  pub rank : Rank
  pub was : RankState
  pub f : RankState → RankState
  pub there : Is b rank was
  pub changed : (after b e).ranks ≡ change_at f rank.0 b.ranks
  pub deed : Deed b e rank was (f was)

-- it changes none
abbrev pub IsQuiet : Bag → Entry → Type 0
IsQuiet b e = ((after b e).ranks ≡ b.ranks) × (says b e ≡ None) × IsIdle b e

answered_is : (b : Bag) (rank : Rank) (r : RankState) (call : Call) (answer : Answer) → Is b rank r → call_of r.status ≡ Some call
    → answered b rank answer ≡ Some (rank, record { call = call; answer = answer })
answered_is b rank r call answer there is = rw (there, is) refl

-- the call is a put or begins a batch
offer_call : (status : Status) (x : ℕ × ℕ) → offer status ≡ Some x
    → (call : Call) × (call_of status ≡ Some call) × (is_fetch call ≡ false) × (is_asking status ≡ false)
offer_call (does.Putting u) x e = (_, refl, refl, refl)
offer_call (does.Keeping call common) x e = (_, refl, refl, refl)
offer_call _ x e = absurd (cc)

-- the call is a reserve or a try, and puts nothing
wish_call : (r : RankState) (x : ℕ × Option (List WorkType)) → wish r.status ≡ Some x
    → (call : Call) × (call_of r.status ≡ Some call) × (is_fetch call ≡ false)
wish_call r x e = by_status r.status e
  where
    by_status : (status : Status) → wish status ≡ Some x → (call : Call) × (call_of status ≡ Some call) × (is_fetch call ≡ false)
    by_status (does.Asking call types) e = (_, refl, refl)
    by_status (does.Trying call types) e = (_, refl, refl)
    by_status _ e = absurd (cc)

open_is : (status : Status) (call : ℕ) → open_call status ≡ Some call
    → (call : Call) × (call_of status ≡ Some call) × (is_fetch call ≡ false)
open_is (does.Putting u) call e = (_, refl, refl)
open_is (does.Keeping k common) call e = (_, refl, refl)
open_is (does.Asking k types) call e = (_, refl, refl)
open_is (does.Trying k types) call e = (_, refl, refl)
open_is _ call e = absurd (cc)

find_passes : {X : Type 0} (test : X → Bool) (xs : List X) (x : X) → find test xs ≡ Some x → test x ≡ true
find_passes test [] x found = absurd (cc)
find_passes test (y ∷ ys) x found = by_test (find_passes test ys x) (test y) refl found
  where
    by_test : (find test ys ≡ Some x → test x ≡ true) → (t : Bool) → test y ≡ t → find test (y ∷ ys) ≡ Some x → test x ≡ true
    by_test rest true is found = let here : y ≡ x = some_is (rw is at found) in rw (← here) is
    by_test rest false is found = rest (rw is at found)

-- a unit that is found has the id
pub found_id : (b : Bag) (id : UnitId) (u : Placed) → unit_of b id ≡ Some u → u.unit.id ≡ id
found_id b id u found = same_unit_is u.unit.id id (find_passes (λ u. same_unit u.unit.id id) b.units u found)

-- an answer other than Fine leaves the batch
batch_stays : (b : Bag) (call : Call) (answer : Answer) (batch : Option CommonRef) → IsNotFine answer → BatchGoes b call answer batch batch
batch_stays b (calls_to.BeginBatch common) answers.Fine batch not = absurd not
batch_stays b calls_to.EndBatch answers.Fine batch not = absurd not
batch_stays b call answer batch not = refl

-- a call begins
starts : (b : Bag) (e : Entry) (rank : Rank) (r : RankState) (status : Status) (call : Call) → says b e ≡ None → IsIdle b e
    → r.status ≡ does.Running → call_of status ≡ Some call → Deed b e rank r (begun status r)
starts b e rank r status call silent idle runs is = begins call silent idle runs is refl refl

-- an entry changes one rank or none
pub acted : (b : Bag) (e : Entry) → Legal b e → IsQuiet b e ⊎ IsActed b e
acted b (Putting rank call kind prio target answer body) l =
    inr (record {
      rank = rank;
      was = l.0;
      f =
          λ r. begun (does.Putting (record {
            id = record { rank = rank; number = call };
            kind = kind;
            prio = prio;
            target = target;
            answer = answer;
            common = r.batch;
            body = body;
          })) r;
      there = l.1.0;
      changed = refl;
      deed = begins _ refl (refl, refl, refl) l.1.1 refl refl refl;
    })
acted b (Refused server id used) l =
    inr (record {
      rank = id.rank;
      was = l.0;
      f = declined_by server;
      there = l.2;
      changed = refl;
      deed = waits refl (refl, refl, refl) refl refl refl;
    })
acted b (Accepted server id) l =
    inr (record {
      rank = id.rank;
      was = l.0;
      f = ended;
      there = l.2;
      changed = ap (change_at ended id.rank.0) (taken_ranks server (option_and_then (λ r. putting r.status) (rank_at b id.rank)) b);
      deed =
          hears (calls_to.Put l.1.kind l.1.prio l.1.target l.1.answer l.1.body) answers.Fine (rw (l.2, l.3) refl)
          (rw l.3 refl) refl refl refl (rw (l.2, l.3) refl, refl, refl, refl, rw l.3 refl);
    })
acted b (Rejected rank call) l =
    let c = offer_call l.0.status (call, l.1) l.3 in
    inr (record {
      rank = rank;
      was = l.0;
      f = ended;
      there = l.2;
      changed = refl;
      deed =
          hears c.0 answers.Rejected (answered_is b rank l.0 c.0 answers.Rejected l.2 c.1) c.1 refl refl
          (batch_stays _ c.0 answers.Rejected l.0.batch tt) ((refl, refl, refl), c.2, c.3);
    })
acted b (Keeping rank call common) l =
    inr (record {
      rank = rank;
      was = l.0;
      f = begun (does.Keeping call common);
      there = l.1.0;
      changed = refl;
      deed = starts b (Keeping rank call common) rank l.0 (does.Keeping call common) _ refl (refl, refl, refl) l.1.1 refl;
    })
acted b (Kept server batch) l =
    let kept = unit_put (λ r. keeping r.status) (rank_at b batch.rank) l.0 (batch.number, l.1) l.2 (rw l.3 refl) in
    inr (record {
      rank = batch.rank;
      was = l.0;
      f = λ r. ended (record r { batch = Some (record { batch = batch; server = server; length = length l.1 }) });
      there = l.2;
      changed = rw kept refl;
      deed = hears (calls_to.BeginBatch l.1) answers.Fine (rw (l.2, l.3) refl) (rw l.3 refl) refl refl (record {
        ref = record { batch = batch; server = server; length = length l.1 };
        part = new_part server batch l.1;
        is = refl;
        there = rw kept (Contains-append_right b.parts (new_part server batch l.1 ∷ []) (new_part server batch l.1) (0, omega arith, refl));
        named = refl;
        bytes = refl;
      }) (rw l.3 refl, refl, refl, refl, rw l.3 refl);
    })
acted b (Closing rank call) l =
    inr (record {
      rank = rank;
      was = l.0;
      f = begun (does.Closing call);
      there = l.2.0;
      changed = refl;
      deed = starts b (Closing rank call) rank l.0 (does.Closing call) _ refl (refl, refl, refl) l.2.1 refl;
    })
acted b (Closed server batch) l =
    inr (record {
      rank = batch.rank;
      was = l.0;
      f = λ r. ended (record r { batch = None });
      there = l.4;
      changed = refl;
      deed =
          hears calls_to.EndBatch answers.Fine (rw (l.4, l.5) refl) (rw l.5 refl) refl refl refl
          (rw l.5 refl, refl, refl, refl, rw l.5 refl);
    })
acted b (Asked rank call types) l =
    inr (record {
      rank = rank;
      was = l.0;
      f = begun (does.Asking call types);
      there = l.1.0;
      changed = refl;
      deed = starts b (Asked rank call types) rank l.0 (does.Asking call types) _ refl (refl, refl, refl) l.1.1 refl;
    })
acted b (Tried rank call types) l =
    inr (record {
      rank = rank;
      was = l.0;
      f = begun (does.Trying call types);
      there = l.1.0;
      changed = refl;
      deed = starts b (Tried rank call types) rank l.0 (does.Trying call types) _ refl (refl, refl, refl) l.1.1 refl;
    })
acted b (Granted server rank call id) l =
    let c = wish_call l.0 (call, l.1) l.4 in
    let same : l.2.unit.id ≡ id = found_id b id l.2 l.6.0 in
    inr (record {
      rank = rank;
      was = l.0;
      f = ended;
      there = l.3;
      changed = refl;
      deed =
          hears c.0 (answers.Granted (note_of server l.2.unit))
          (rw l.6.0 (answered_is b rank l.0 c.0 (answers.Granted (note_of server l.2.unit)) l.3 c.1)) c.1 refl refl
          (batch_stays _ c.0 (answers.Granted (note_of server l.2.unit)) l.0.batch tt) (record {
            placed = l.2;
            there = ap (unit_of b) same ∙ l.6.0;
            free = l.6.1;
            told = refl;
            pinned = ap (unit_of (after b (Granted server rank call id))) same ∙ moved_here b id (Pinned server rank) l.2 l.6.0;
            grants = rw l.6.0 refl;
            accepts = refl;
            gives = refl;
            reserves = c.2;
          });
    })
acted b (Looked server rank call) l =
    inr (record {
      rank = rank;
      was = l.0;
      f = declined_by server;
      there = l.2;
      changed = refl;
      deed = waits refl (refl, refl, refl) refl refl refl;
    })
acted b (NoCurrent rank call) l =
    inr (record {
      rank = rank;
      was = l.0;
      f = ended;
      there = l.2;
      changed = refl;
      deed =
          hears (calls_to.Try l.1) answers.NoCurrent (rw (l.2, l.3) refl) (rw l.3 refl) refl refl refl
          ((refl, refl, refl), refl, rw l.3 refl);
    })
acted b (Fetching rank call id) l =
    inr (record {
      rank = rank;
      was = l.0;
      f = begun (does.Fetching call id false);
      there = l.3.0;
      changed = refl;
      deed = starts b (Fetching rank call id) rank l.0 (does.Fetching call id false) _ refl (refl, refl, refl) l.3.1 refl;
    })
acted b (Fetched server rank id) l = inr (by_common l.2.unit.common refl)
  where
    by_common : (common : Option CommonRef) → l.2.unit.common ≡ common → IsActed b (Fetched server rank id)
    by_common None is =
        let common : option_and_then (λ u. u.unit.common) (unit_of b id) ≡ None = rw (l.6.0) is in
        record {
          rank = rank;
          was = l.0;
          f = ended;
          there = l.3;
          changed = rw common refl;
          deed = hears (calls_to.Fetch id) (answers.Body l.2.unit.body) (rw (l.6.0, is, l.3, l.4) refl) (rw l.4 refl) refl refl refl (
            record {
              id = id;
              placed = l.2;
              calls = refl;
              there = l.6.0;
              bytes = own server is l.6.1 refl (rw l.6.0 refl);
              accepts = refl;
              grants = refl;
              owned = inr (l.2.unit, rw l.6.0 refl);
            },
            rw l.4 refl,
          );
        }
    by_common (Some c) is =
        let common : option_and_then (λ u. u.unit.common) (unit_of b id) ≡ Some c = rw (l.6.0) is in
        record {
          rank = rank;
          was = l.0;
          f = own_fetched (Some c);
          there = l.3;
          changed = rw common refl;
          deed = awaits id l.2 c (rw (l.6.0, is) refl) (record {
            there = l.6.0;
            server = server;
            pinned = l.6.1;
            spent = moved_here b id Spent l.2 l.6.0;
            calls = rw l.4 refl;
            end = refl;
            batch = refl;
          }) is (rw l.4 refl) refl refl (rw l.6.0 refl);
        }
acted b (CommonFetched server rank batch) l =
    inr (record {
      rank = rank;
      was = l.0;
      f = ended;
      there = l.6;
      changed = refl;
      deed =
          hears (calls_to.Fetch l.2) (answers.Body (l.5.common ++ l.3.unit.body)) (rw (l.6, l.7, l.11.1, l.8, l.6, l.7) refl)
          (rw l.7 refl) refl refl refl (
            record {
              id = l.2;
              placed = l.3;
              calls = refl;
              there = l.8;
              bytes = all l.4 l.5 l.1 l.9 (ap (part_of b) l.10 ∙ l.11.1) l.7 refl refl;
              accepts = refl;
              grants = refl;
              owned = inl refl;
            },
            rw l.7 refl,
          );
    })
acted b (Counting rank call kind) l =
    inr (record {
      rank = rank;
      was = l.0;
      f = begun (does.Counting call kind);
      there = l.1.0;
      changed = refl;
      deed = starts b (Counting rank call kind) rank l.0 (does.Counting call kind) _ refl (refl, refl, refl) l.1.1 refl;
    })
acted b (Counted server rank call info) l =
    inr (record {
      rank = rank;
      was = l.0;
      f = ended;
      there = l.2;
      changed = refl;
      deed =
          hears (calls_to.Count l.1) (answers.Info info) (rw (l.2, l.3) refl) (rw l.3 refl) refl refl refl
          ((refl, refl, refl), refl, rw l.3 refl);
    })
acted b (Done rank call) l =
    inr (record {
      rank = rank;
      was = l.0;
      f = begun does.Running;
      there = l.1.0;
      changed = refl;
      deed = calls_done refl (refl, refl, refl) l.1.1;
    })
acted b (Over rank call end) l =
    let c = open_is l.0.status call l.2 in
    inr (record {
      rank = rank;
      was = l.0;
      f = λ r. ended (record r { end = Some end });
      there = l.1;
      changed = refl;
      deed =
          hears c.0 (answers.Ended end) (answered_is b rank l.0 c.0 (answers.Ended end) l.1 c.1) c.1 refl refl
          (batch_stays _ c.0 (answers.Ended end) l.0.batch tt) ((refl, refl, refl), c.2, l.3);
    })
acted b (Finished rank call) l =
    inr (record {
      rank = rank;
      was = l.0;
      f = begun does.Finished;
      there = l.1.0;
      changed = refl;
      deed = finishes refl (refl, refl, refl) l.1.1 refl refl (refl, l.2);
    })
acted b _ l = inl (refl, refl, (refl, refl, refl))
