-- A client stands for its rank after a step that is about another.
use Rattle.std.proofs.Common.{◌≡◌, ◌≢◌, ℕ, zero, suc, ◌+◌, ◌==◌, find, inl, inr, Bool, true, false, List, [], ◌∷◌, ◌++◌, Option, Some, None}
use Rattle.std.proofs.Common.{refl, sym, ap, ◌∙◌, subst, slice_get}
use Rattle.std.specs.Prelude.{option_and_then}
use Rattle.std.proofs.lemmas.Bool.{eq-eqb}
use Rattle.std.proofs.lemmas.List.Elements.{All-weaker}
use Rattle.adlb_unit.specs.Ids.{same_unit}
use Rattle.adlb_unit.specs.declared.messages.Message.{Message}
use Rattle.adlb_unit.specs.declared.names.CommonRef.{CommonRef}
use Rattle.adlb_unit.specs.declared.names.Rank.{Rank}
use Rattle.adlb_unit.specs.declared.names.Server.{Server}
use Rattle.adlb_unit.specs.declared.names.UnitId.{UnitId}
use Rattle.adlb_unit.specs.declared.names.BatchId.{BatchId}
use Rattle.adlb_unit.specs.declared.notes.End.{End}
use Rattle.adlb_unit.specs.declared.notes.End.TheVariants as ends_by
use Rattle.adlb_unit.specs.declared.notes.UnitNote.{UnitNote}
use Rattle.adlb_unit.specs.declared.units.Unit.{Unit}
use Rattle.adlb_unit.proofs.Same.{same_unit_is}
use Rattle.bag_ledger.specs.declared.entries.Entry.{Entry}
use Rattle.bag_ledger.specs.declared.entries.Entry.TheVariants as enters
use Rattle.bag_ledger.specs.declared.states.Part.{Part}
use Rattle.bag_ledger.specs.declared.states.Placed.{Placed}
use Rattle.bag_ledger.specs.declared.states.Promise.{Promise}
use Rattle.bag_ledger.specs.declared.states.RankState.{RankState}
use Rattle.bag_ledger.specs.declared.states.UnitPlace.{UnitPlace}
use Rattle.bag_ledger.specs.declared.states.UnitPlace.TheVariants.{Free, Pinned, Spent, Travelling}
use Rattle.bag_ledger.specs.Bag.{Bag, keeping, putting, rank_at, unit_of, part_of}
use Rattle.bag_ledger.specs.Steps.{StepsWhere, after, change_at, kept, moved, shared, taken, with_rank, LegalWhere, new_part, with_part}
use Rattle.bag_ledger.proofs.Lookups.{find_before}
use Rattle.bag_ledger.proofs.Moves.{moved_other}
use Rattle.bag_ledger.proofs.Tests.{some_is}
use Rattle.rank_client.specs.Agreement.{ClientAgrees, HasAccepted, IsCaused, IsHeld, IsOwed, IsOwedIn, holds, rank_of}
use Rattle.rank_client.specs.declared.pendings.Pending.{Pending}
use Rattle.rank_client.specs.declared.pendings.Pending.TheVariants as waits_for
use Rattle.adlb_unit.specs.declared.messages.Message.TheVariants as tells
use Rattle.adlb_unit.specs.Ids.{same_batch}
use Rattle.bag_ledger.specs.declared.states.Status.TheVariants as is_at
use Rattle.bag_ledger.proofs.Moves.{moved_keeps}
use Rattle.bag_law.specs.Sound.{IsBroughtBy, IsSoundBag}
use Rattle.bag_law.proofs.Facts.{batch_is_open}
use Rattle.bag_law.proofs.Plain.{IsAccepted, accepted_is, kept_is, shared_parts}
use Rattle.bag_law.proofs.Turn.{PartIs, part_is}
use Rattle.rank_client.specs.State.{ClientModel}
use Rattle.core_law.specs.Others.{ClientsStay, teller, tells_of}

-- What a bag keeps of a rank.
record Leaves (me : Rank) (b next : Bag) : Type 0 where
  rank : rank_at next me ≡ rank_at b me
  servers : next.servers ≡ b.servers
  done : b.done ≡ true → next.done ≡ true
  exhausted : b.exhausted ≡ true → next.exhausted ≡ true
  held : (note : UnitNote) → IsHeld b me note → IsHeld next me note

still_caused : (b next : Bag) (o : Option End) → (b.done ≡ true → next.done ≡ true) → (b.exhausted ≡ true → next.exhausted ≡ true)
    → IsCaused b o → IsCaused next o
still_caused b next None done exhausted is = is
still_caused b next (Some ends_by.NoMoreWork) done exhausted is = done is
still_caused b next (Some ends_by.Exhausted) done exhausted is = exhausted is

-- What it keeps of the units and of the rank's batch.

record KeepsUnits (me : Rank) (b next : Bag) : Type 0 where
  unit : (id : UnitId) (u : Placed) → unit_of b id ≡ Some u → (v : Placed) × (unit_of next id ≡ Some v) × (v.unit ≡ u.unit)
  part : (batch : BatchId) (p : Part) → batch.rank.0 ≡ me.0 → part_of b batch ≡ Some p
      → (q : Part) × (part_of next batch ≡ Some q) × (q.accepted ≡ p.accepted)

still_owed : (me : Rank) (b next : Bag) (note : UnitNote) (common : CommonRef) (own : List ℕ) → KeepsUnits me b next
    → IsOwed b note common own
    → IsOwed next note common own
still_owed me b next note common own k is =
    let v = k.unit note.id is.0 is.1 in
    (v.0, v.1, ap (λ (x : Unit). x.common) v.2 ∙ is.2, ap (λ (x : Unit). x.body) v.2 ∙ is.3)

owed_after : (me : Rank) (b next : Bag) (p : Pending) (coming : Option Message) → KeepsUnits me b next
    → (b.done ≡ true → next.done ≡ true) → IsOwedIn b p coming → IsOwedIn next p coming
owed_after me b next (waits_for.Fetch request note) (Some (tells.Bytes to own)) k done is =
    λ common shares. still_owed me b next note common own k (is common shares)
owed_after me b next (waits_for.Common request note common own) coming k done is = still_owed me b next note common own k is
owed_after me b next (waits_for.Fetch request note) None k done is = tt
owed_after me b next (waits_for.Fetch request note) (Some _) k done is = tt
owed_after me b next waits_for.Nothing coming k done is = tt
owed_after me b next (waits_for.Put unit first tried) coming k done is = tt
owed_after me b next (waits_for.Reserve request types) coming k done is = tt
owed_after me b next (waits_for.Try request types tried) coming k done is = tt
owed_after me b next (waits_for.Keep request common first tried) coming k done is = tt
owed_after me b next (waits_for.Close request batch) coming k done is = tt
owed_after me b next (waits_for.Count request kind) coming k done is = tt
owed_after me b next (waits_for.SetDone request tried) coming k done is = done is

accepted_after : (me : Rank) (b next : Bag) (o : Option CommonRef) (n : ℕ) → ((c : CommonRef) → o ≡ Some c → c.batch.rank.0 ≡ me.0)
    → KeepsUnits me b next
    → HasAccepted b o n → HasAccepted next o n
accepted_after me b next None n own k is = tt
accepted_after me b next (Some c) n own k is = let q = k.part c.batch is.0 (own c refl) is.1 in (q.0, q.1, q.2 ∙ is.2)

stands_after : (b next : Bag) (s : ClientModel) (coming : Option Message) → IsSoundBag b → Leaves s.me b next → KeepsUnits s.me b next
    → ClientAgrees s coming b → ClientAgrees s coming next
stands_after b next s coming sound l k a = record {
  owed = owed_after s.me b next s.pending coming k l.done a.owed;
  accepted = accepted_after s.me b next (rank_of s s.finished coming).batch _
      (λ c is. (batch_is_open b sound s.me (rank_of s s.finished coming) c a.rank is).0) k a.accepted;
  rank = l.rank ∙ a.rank;
  servers = l.servers ∙ a.servers;
  caused = still_caused b next (rank_of s s.finished coming).end l.done l.exhausted a.caused;
  held = All-weaker (IsHeld b s.me) (IsHeld next s.me) l.held (holds s coming) a.held;
}

-- Changes.

changed_other : {X : Type 0} (f : X → X) (place other : ℕ) (xs : List X) → other ≢ place
    → slice_get (change_at f place xs) other ≡ slice_get xs other
changed_other f place other [] differs = refl
changed_other f zero zero (x ∷ xs) differs = absurd (differs refl)
changed_other f zero (suc other) (x ∷ xs) differs = refl
changed_other f (suc place) zero (x ∷ xs) differs = refl
changed_other f (suc place) (suc other) (x ∷ xs) differs = changed_other f place other xs (λ e. differs (ap suc e))

-- another rank changes after that
then_rank : (me other : Rank) (f : RankState → RankState) (b c : Bag) → me.0 ≢ other.0 → Leaves me b c → Leaves me b (with_rank other f c)
then_rank me other f b c differs l = record {
  rank = changed_other f other.0 me.0 c.ranks differs ∙ l.rank;
  servers = l.servers;
  done = l.done;
  exhausted = l.exhausted;
  held = l.held;
}

-- neither ranks nor units change
aside : (me : Rank) (b : Bag) (parts : List Part) (promises : List Promise) → Leaves me b (record b { parts = parts; promises = promises })
aside me b parts promises = record { rank = refl; servers = refl; done = λ is. is; exhausted = λ is. is; held = λ note is. is }

-- a unit comes
added : (me : Rank) (b : Bag) (u : Placed) (parts : List Part) → Leaves me b (record b { units = b.units ++ u ∷ []; parts = parts })
added me b u parts = record {
  rank = refl;
  servers = refl;
  done = λ is. is;
  exhausted = λ is. is;
  held = λ note is. (is.0, (find_before (λ (v : Placed). same_unit v.unit.id note.id) b.units (u ∷ []) is.0 is.1.0, is.1.1));
}

-- a unit that is not the rank's is moved
goes : (me : Rank) (b : Bag) (id : UnitId) (place : UnitPlace) (u : Placed) (promises : List Promise) → unit_of b id ≡ Some u
    → ((server : Server) → u.place ≡ Pinned server me → ⊥) → Leaves me b (record (moved id place b) { promises = promises })
goes me b id place u promises there apart = record { rank = refl; servers = refl; done = λ is. is; exhausted = λ is. is; held = held }
  where
    held : (note : UnitNote) → IsHeld b me note → IsHeld (record (moved id place b) { promises = promises }) me note
    held note is = by_test (same_unit id note.id) refl
      where
        by_test : (t : Bool) → same_unit id note.id ≡ t → IsHeld (record (moved id place b) { promises = promises }) me note
        by_test true same =
            let here : unit_of b note.id ≡ Some u = ap (λ i. unit_of b i) (sym (same_unit_is id note.id same)) ∙ there in
            let one : u ≡ is.0 = some_is (sym here ∙ is.1.0) in
            absurd (apart note.server (ap (λ (v : Placed). v.place) one ∙ is.1.1))
        by_test false differs = (is.0, (moved_other b id note.id place differs ∙ is.1.0, is.1.1))

free_apart : (me : Rank) (at server : Server) (u : Placed) → u.place ≡ Free at → u.place ≡ Pinned server me → ⊥
free_apart me at server u free pinned = let both : Free at ≡ Pinned server me = sym free ∙ pinned in absurd (cc)

travelling_apart : (me : Rank) (to server : Server) (u : Placed) → u.place ≡ Travelling to → u.place ≡ Pinned server me → ⊥
travelling_apart me to server u on_way pinned = let both : Travelling to ≡ Pinned server me = sym on_way ∙ pinned in absurd (cc)

pinned_apart : (me other : Rank) (at server : Server) (u : Placed) → me.0 ≢ other.0 → u.place ≡ Pinned at other
    → u.place ≡ Pinned server me → ⊥
pinned_apart me other at server u differs one two =
    let both : Pinned at other ≡ Pinned server me = sym one ∙ two in
    let same : other ≡ me = cc in
    differs (ap (λ (r : Rank). r.0) (sym same))

unit_taken : (me : Rank) (b : Bag) (server : Server) (o : Option Unit) → Leaves me b (taken server o b)
unit_taken me b server None = aside me b b.parts b.promises
unit_taken me b server (Some u) = by_common u.common
  where
    by_common : (common : Option CommonRef)
        → Leaves me b (shared common (record b { units = b.units ++ record { unit = u; place = Free server } ∷ [] }))
    by_common None = added me b (record { unit = u; place = Free server }) b.parts
    by_common (Some c) = added me b (record { unit = u; place = Free server }) (shared (Some c) b).parts

part_kept : (me : Rank) (b : Bag) (server : Server) (batch : BatchId) (o : Option (ℕ × List ℕ)) → me.0 ≢ batch.rank.0
    → Leaves me b (kept server batch o b)
part_kept me b server batch None differs = aside me b b.parts b.promises
part_kept me b server batch (Some k) differs = then_rank me batch.rank _ b _ differs (aside me b _ b.promises)

-- An entry that is not about the rank.

same : (me : Rank) (b : Bag) → Leaves me b b
same me b = aside me b b.parts b.promises

apart : (me other : Rank) → tells_of me (Some other) ≡ false → me.0 ≢ other.0
apart me other is e = let yes_is : (other.0 == me.0) ≡ true = eq-eqb other.0 me.0 (sym e) in absurd (cc)

entry_leaves : (found : Bag → Bool) (me : Rank) (b : Bag) (e : Entry) → StepsWhere found b e (after b e)
    → tells_of me (teller e) ≡ false → Leaves me b (after b e)
entry_leaves found me b (enters.Putting rank call kind prio target answer body) s is =
    then_rank me rank _ b b (apart me rank is) (same me b)
entry_leaves found me b (enters.Refused server id used) s is = then_rank me id.rank _ b b (apart me id.rank is) (same me b)
entry_leaves found me b (enters.Accepted server id) s is =
    then_rank me id.rank _ b _ (apart me id.rank is)
    (unit_taken me b server (option_and_then (λ (r : RankState). putting r.status) (rank_at b id.rank)))
entry_leaves found me b (enters.Rejected rank call) s is = then_rank me rank _ b b (apart me rank is) (same me b)
entry_leaves found me b (enters.Keeping rank call common) s is = then_rank me rank _ b b (apart me rank is) (same me b)
entry_leaves found me b (enters.Kept server batch) s is =
    part_kept me b server batch (option_and_then (λ (r : RankState). keeping r.status) (rank_at b batch.rank)) (apart me batch.rank is)
entry_leaves found me b (enters.Closing rank call) s is = then_rank me rank _ b b (apart me rank is) (same me b)
entry_leaves found me b (enters.Closed server batch) s is = then_rank me batch.rank _ b _ (apart me batch.rank is) (aside me b _ b.promises)
entry_leaves found me b (enters.Freed server batch) s is = aside me b _ b.promises
entry_leaves found me b (enters.Asked rank call types) s is = then_rank me rank _ b b (apart me rank is) (same me b)
entry_leaves found me b (enters.Tried rank call types) s is = then_rank me rank _ b b (apart me rank is) (same me b)
entry_leaves found me b (enters.Granted server rank call id) s is =
    then_rank me rank _ b _ (apart me rank is)
    (goes me b id (Pinned server rank) s.1.2 b.promises s.1.6.0 (λ at. free_apart me server at s.1.2 s.1.6.1))
entry_leaves found me b (enters.Looked server rank call) s is = then_rank me rank _ b b (apart me rank is) (same me b)
entry_leaves found me b (enters.NoCurrent rank call) s is = then_rank me rank _ b b (apart me rank is) (same me b)
entry_leaves found me b (enters.Fetching rank call id) s is = then_rank me rank _ b b (apart me rank is) (same me b)
entry_leaves found me b (enters.Fetched server rank id) s is =
    then_rank me rank _ b _ (apart me rank is)
    (goes me b id Spent s.1.2 b.promises s.1.6.0 (λ at. pinned_apart me rank server at s.1.2 (apart me rank is) s.1.6.1))
entry_leaves found me b (enters.CommonFetched server rank batch) s is = then_rank me rank _ b _ (apart me rank is) (aside me b _ b.promises)
entry_leaves found me b (enters.Promised server id n) s is = aside me b b.parts _
entry_leaves found me b (enters.Left server to id) s is =
    goes me b id (Travelling to) s.1.0 b.promises s.1.2.0 (λ at. free_apart me server at s.1.0 s.1.2.1)
entry_leaves found me b (enters.Arrived server id) s is =
    goes me b id (Free server) s.1.0 _ s.1.1.0 (λ at. travelling_apart me server at s.1.0 s.1.1.1)
entry_leaves found me b (enters.Withdrawn server id) s is = aside me b b.parts _
entry_leaves found me b (enters.Counting rank call kind) s is = then_rank me rank _ b b (apart me rank is) (same me b)
entry_leaves found me b (enters.Counted server rank call info) s is = then_rank me rank _ b b (apart me rank is) (same me b)
entry_leaves found me b (enters.Done rank call) s is =
    then_rank me rank _ b _ (apart me rank is)
    (record { rank = refl; servers = refl; done = λ is. refl; exhausted = λ is. is; held = λ note is. is })
entry_leaves found me b enters.Exhausted s is =
    record { rank = refl; servers = refl; done = λ is. is; exhausted = λ is. refl; held = λ note is. is }
entry_leaves found me b (enters.Over rank call end) s is = then_rank me rank _ b b (apart me rank is) (same me b)
entry_leaves found me b (enters.Finished rank call) s is = then_rank me rank _ b b (apart me rank is) (same me b)

-- Units stay, and so do the counts of the rank's own batch.

unit_same : (b : Bag) (id : UnitId) (u : Placed) → unit_of b id ≡ Some u → (v : Placed) × (unit_of b id ≡ Some v) × (v.unit ≡ u.unit)
unit_same b id u there = (u, there, refl)

unit_kept : (found : Bag → Bool) (b : Bag) (e : Entry) (id : UnitId) (u : Placed) → LegalWhere found b e → unit_of b id ≡ Some u
    → (v : Placed) × (unit_of (after b e) id ≡ Some v) × (v.unit ≡ u.unit)
unit_kept found b (enters.Accepted server x) id u l there =
    let a = accepted_is b server x l in (
      u,
      ap (find (λ (v : Placed). same_unit v.unit.id id)) a.units
          ∙ find_before (λ (v : Placed). same_unit v.unit.id id) b.units (record { unit = a.u; place = Free server } ∷ []) u there,
      refl,
    )
unit_kept found b (enters.Kept server batch) id u l there = (u, ap (λ (n : Bag). unit_of n id) (kept_is b server batch l) ∙ there, refl)
unit_kept found b (enters.Granted server rank call x) id u l there = moved_keeps b x id (Pinned server rank) u there
unit_kept found b (enters.Fetched server rank x) id u l there = moved_keeps b x id Spent u there
unit_kept found b (enters.Left server to x) id u l there = moved_keeps b x id (Travelling to) u there
unit_kept found b (enters.Arrived server x) id u l there = moved_keeps b x id (Free server) u there
unit_kept found b _ id u l there = (u, there, refl)

-- a change that leaves the count
count_kept : (b : Bag) (batch x : BatchId) (g : Part → Part) → ((p : Part) → (g p).batch ≡ p.batch)
    → ((p : Part) → (g p).accepted ≡ p.accepted)
    → (p : Part) → part_of b x ≡ Some p → (q : Part) × (part_of (with_part batch g b) x ≡ Some q) × (q.accepted ≡ p.accepted)
count_kept b batch x g same counts p there = by_is (part_is g same batch x b.parts p there)
  where
    by_is : PartIs g batch x b.parts p → (q : Part) × (part_of (with_part batch g b) x ≡ Some q) × (q.accepted ≡ p.accepted)
    by_is w = (w.0, w.1, elim w.2 [ inl is ↦ ap (λ (y : Part). y.accepted) is | inr is ↦ ap (λ (y : Part). y.accepted) is.1 ∙ counts p ])

part_counted : (found : Bag → Bool) (me : Rank) (b : Bag) (e : Entry) (batch : BatchId) (p : Part) → IsSoundBag b
    → LegalWhere found b e → tells_of me (teller e) ≡ false
    → batch.rank.0 ≡ me.0 → part_of b batch ≡ Some p → (q : Part) × (part_of (after b e) batch ≡ Some q) × (q.accepted ≡ p.accepted)
part_counted found me b (enters.Accepted server id) batch p sound l is own there =
    let a = accepted_is b server id l in
    by_common a a.u.common refl
  where
    by_common : (a : IsAccepted b (after b (enters.Accepted server id)) server id) → (o : Option CommonRef) → a.u.common ≡ o
        → (q : Part) × (part_of (after b (enters.Accepted server id)) batch ≡ Some q) × (q.accepted ≡ p.accepted)
    by_common a None shares =
        (p, ap (find (λ (x : Part). same_batch x.batch batch)) (a.parts ∙ ap (λ o. shared_parts o b.parts) shares) ∙ there, refl)
    by_common a (Some c) shares =
        let g : Part → Part = λ x. record x { accepted = x.accepted + 1 } in
        let named = sound.batches.brought id.rank.0 a.r a.there in
        let puts : IsBroughtBy id.rank.0 a.r (is_at.Putting a.u) = rw a.puts at named in
        let of = batch_is_open b sound id.rank a.r c a.there (sym puts.1 ∙ shares) in
        let w = part_is g (λ x. refl) c.batch batch b.parts p there in
        let now : part_of (after b (enters.Accepted server id)) batch ≡ Some w.0 =
        ap (find (λ (x : Part). same_batch x.batch batch)) (a.parts ∙ ap (λ o. shared_parts o b.parts) shares) ∙ w.1 in (
          w.0,
          now,
          elim w.2 [
            | inl same ↦ ap (λ (x : Part). x.accepted) same
            | inr other ↦ absurd (apart me id.rank is (sym own ∙ ap (λ (x : BatchId). x.rank.0) other.0 ∙ of.0))
          ],
        )
part_counted found me b (enters.Kept server x) batch p sound l is own there = (
  p,
  ap (λ (n : Bag). part_of n batch) (kept_is b server x l)
      ∙ find_before (λ (q : Part). same_batch q.batch batch) b.parts (new_part server x l.1 ∷ []) p there,
  refl,
)
part_counted found me b (enters.Closed server x) batch p sound l is own there =
    count_kept b x batch (λ q. record q { closed = true }) (λ q. refl) (λ q. refl) p there
part_counted found me b (enters.Freed server x) batch p sound l is own there =
    count_kept b x batch (λ q. record q { freed = true }) (λ q. refl) (λ q. refl) p there
part_counted found me b (enters.CommonFetched server rank x) batch p sound l is own there =
    count_kept b x batch (λ q. record q { fetched = q.fetched + 1 }) (λ q. refl) (λ q. refl) p there
part_counted found me b _ batch p sound l is own there = (p, there, refl)

-- a client stands for its rank after a step that is about another
pub clients_stay : ClientsStay
clients_stay found b next e s coming sound step is a =
    let keeps : KeepsUnits s.me b (after b e) = record {
      unit = λ id u there. unit_kept found b e id u step.1 there;
      part = λ batch p own there. part_counted found s.me b e batch p sound step.1 is own there;
    } in
    let now : ClientAgrees s coming (after b e) =
    stands_after b (after b e) s coming sound (entry_leaves found s.me b e (step.0, step.1, refl) is) keeps a in
    subst (λ (n : Bag). ClientAgrees s coming n) (sym step.2) now
