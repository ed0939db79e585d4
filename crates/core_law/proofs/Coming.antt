-- What the entries of a server make of the rank whose request it handled: its answer comes back.
use Rattle.core_law.proofs.Notes.{notes_in}
use Rattle.core_law.proofs.TakenUnits.{facts_added, facts_moved, facts_of, facts_same}
use Rattle.std.proofs.Common.{◌≡◌, ◌<◌, ℕ, ◌+◌, Bool, true, false, List, [], ◌∷◌, ◌++◌, length, Option, Some, None, refl, sym, ap, ◌∙◌}
use Rattle.std.proofs.Common.{subst, find, get_or, append-nil, arith}
use Rattle.std.specs.Prelude.{All, option_and_then, Contains}
use Rattle.std.proofs.lemmas.Bool.{eq-eqb}
use Rattle.std.proofs.lemmas.List.Elements.{All-push, All-same, All-weaker, All-contains, Contains-push}
use Rattle.std.proofs.lemmas.List.{get_or_append_left, length-append}
use Rattle.std.proofs.lemmas.List.FromFn.{map-range_with_len_more}
use Rattle.adlb_unit.specs.Ids.{same_batch, same_unit}
use Rattle.adlb_unit.specs.Targets.{home}
use Rattle.adlb_unit.specs.declared.configs.Config.{Config}
use Rattle.adlb_unit.specs.declared.names.CommonRef.{CommonRef}
use Rattle.bag_ledger.specs.declared.states.Part.{Part}
use Rattle.bag_law.proofs.Plain.{shared_parts}
use Rattle.adlb_unit.specs.declared.messages.Message.{Message}
use Rattle.adlb_unit.specs.declared.messages.Message.TheVariants as tells
use Rattle.adlb_unit.specs.declared.names.Rank.{Rank}
use Rattle.adlb_unit.specs.declared.names.Server.{Server}
use Rattle.adlb_unit.specs.declared.names.UnitId.{UnitId}
use Rattle.adlb_unit.specs.declared.names.WorkType.{WorkType}
use Rattle.adlb_unit.specs.declared.notes.End.{End}
use Rattle.adlb_unit.specs.declared.notes.Info.{Info}
use Rattle.adlb_unit.specs.declared.notes.UnitNote.{UnitNote}
use Rattle.adlb_unit.specs.declared.units.Unit.{Unit}
use Rattle.adlb_unit.proofs.Same.{same_unit_from, same_unit_is, unit_differs}
use Rattle.bag_ledger.specs.declared.entries.Answer.TheVariants as answers
use Rattle.bag_ledger.specs.declared.entries.Call.{Call}
use Rattle.bag_ledger.specs.declared.entries.Call.TheVariants as calls_to
use Rattle.bag_ledger.specs.declared.entries.Entry.{Entry}
use Rattle.bag_ledger.specs.declared.entries.Entry.TheVariants as enters
use Rattle.bag_ledger.specs.declared.entries.Said.{Said}
use Rattle.bag_ledger.specs.declared.states.Placed.{Placed}
use Rattle.bag_ledger.specs.declared.states.RankState.{RankState}
use Rattle.bag_ledger.specs.declared.states.Status.TheVariants as does
use Rattle.bag_ledger.specs.declared.states.UnitPlace.{UnitPlace}
use Rattle.bag_ledger.specs.declared.states.UnitPlace.TheVariants.{Free, Pinned, Spent}
use Rattle.bag_ledger.specs.Bag.{Bag, putting, rank_at, unit_of}
use Rattle.bag_ledger.specs.Runs.{IsRun, calls_from, note_of, said_by, says}
use Rattle.bag_ledger.specs.Runs as runs
use Rattle.bag_ledger.specs.Steps.{Legal, after, declined_by, ended, moved, own_fetched, shared, taken, with_rank}
use Rattle.bag_ledger.proofs.Lookups.{find_before, find_changed}
use Rattle.bag_ledger.proofs.Moves.{moved_here, moved_other}
use Rattle.bag_ledger.proofs.Tests.{some_is}
use Rattle.bag_ledger.proofs.Turns.{changed_here}
use Rattle.rank_client.specs.declared.pendings.Pending.{Pending}
use Rattle.rank_client.specs.declared.pendings.Pending.TheVariants as waits_for
use Rattle.rank_client.specs.Agreement.{ClientAgrees, IsCaused, IsHeld, holds, in_call, note_coming, putting as rank_putting, ring_from}
use Rattle.rank_client.specs.Agreement.{running, said, trying as rank_trying, HasAccepted, IsOwedIn, accepted_by}
use Rattle.rank_client.specs.Rules.{asked, call_of, looks_at}
use Rattle.rank_client.specs.State.{ClientModel}
use Rattle.adlb_unit.specs.Ring.{behind}
use Rattle.core_law.specs.Own.{IsCall}
use Rattle.core_law.specs.Lawful.{IsFact}

-- The counts of a rank's batch, where the parts are the same.

-- what a batch has accepted depends on the parts alone
pub accepted_same : (b c : Bag) (o : Option CommonRef) (n : ℕ) → c.parts ≡ b.parts → HasAccepted b o n → HasAccepted c o n
accepted_same b c None n same has = tt
accepted_same b c (Some batch) n same has = (has.0, ap (find (λ (p : Part). same_batch p.batch batch.batch)) same ∙ has.1, has.2)

-- A rank whose request is under way or that waits, and one whose answer is decided.

-- the rank waits for its call, in client and bag
pub record Waits (c : ClientModel) (p : Pending) (b : Bag) : Type 0 where
  pub rank : rank_at b c.me ≡ Some (in_call c p None)
  pub servers : b.servers ≡ c.config.servers
  pub caused : IsCaused b (in_call c p None).end
  pub held : All (IsHeld b c.me) (c.handles ++ note_coming p None)
  pub facts : All (IsFact b) (c.handles ++ note_coming p None)
  pub call : IsCall c p
  pub owed : IsOwedIn b p None
  pub accepted : HasAccepted b (in_call c p None).batch (accepted_by c p None)

-- what the entries have decided of the rank's call, and how it stands then
pub record Comes (c : ClientModel) (p : Pending) (a : Message) (b next : Bag) (es : List Entry) : Type 0 where
  pub rank : rank_at next c.me ≡ Some (in_call c p (Some a))
  pub servers : next.servers ≡ c.config.servers
  pub caused : IsCaused next (in_call c p (Some a)).end
  pub held : All (IsHeld next c.me) (c.handles ++ note_coming p (Some a))
  pub said : said c p (Some a) ≡ said c p None ++ calls_from b es c.me
  pub facts : All (IsFact next) (c.handles ++ note_coming p (Some a))
  pub owed : IsOwedIn next p (Some a)
  pub accepted : HasAccepted next (in_call c p (Some a)).batch (accepted_by c p (Some a))

-- Both are seats.

-- a client that stands for its rank and waits, waits in the bag
pub waits_of : (c : ClientModel) (p : Pending) (b : Bag) → c.pending ≡ p → c.finished ≡ false → ClientAgrees c None b
    → All (IsFact b) (holds c None) → IsCall c c.pending → Waits c p b
waits_of c p b is going a facts call = subst (λ (q : Pending). Waits c q b) is (record {
  rank = rw going at a.rank;
  servers = a.servers;
  caused = rw going at a.caused;
  held = a.held;
  facts = facts;
  call = call;
  owed = a.owed;
  accepted = rw going at a.accepted;
})

-- the client stands for its rank, its transcript and what comes are what the ledger says, and its notes are facts
abbrev pub Decided : ClientModel → Message → Bag → Bag → List Entry → Type 0
Decided c a b next es =
    ClientAgrees c (Some a) next × (said c c.pending (Some a) ≡ said c c.pending None ++ calls_from b es c.me)
    × All (IsFact next) (holds c (Some a))

-- what has come is decided
pub decided_of : (c : ClientModel) (p : Pending) (a : Message) (b next : Bag) (es : List Entry) → c.pending ≡ p → c.finished ≡ false
    → Comes c p a b next es → Decided c a b next es
decided_of c p a b next es is going comes = of_pending (subst (λ (q : Pending). Comes c q a b next es) (sym is) comes)
  where
    of_pending : Comes c c.pending a b next es → Decided c a b next es
    of_pending k = (
      record {
        rank = rw going k.rank;
        servers = k.servers;
        caused = rw going k.caused;
        held = k.held;
        owed = k.owed;
        accepted = rw going k.accepted;
      },
      k.said,
      k.facts,
    )

-- One entry.

-- a run of one entry is its step
pub single : (b next : Bag) (e : Entry) → IsRun b (e ∷ []) next → Legal b e × (next ≡ after b e)
single b next e run = (run.1.1, sym run.2 ∙ run.1.2)

-- the calls of an entry that says one
pub one_call : (b : Bag) (e : Entry) (rank : Rank) (s : Said) → says b e ≡ Some (rank, s) → calls_from b (e ∷ []) rank ≡ s ∷ []
one_call b e rank s is = ap (λ o. said_by rank o ++ []) is ∙ rw (eq-eqb rank.0 rank.0 refl) refl

-- the calls of an entry that says nothing
pub no_call : (b : Bag) (e : Entry) (rank : Rank) → says b e ≡ None → calls_from b (e ∷ []) rank ≡ []
no_call b e rank is = ap (λ o. said_by rank o ++ []) is

-- a rank that was changed is found changed
pub rank_changed : (b : Bag) (rank : Rank) (f : RankState → RankState) (r : RankState) → rank_at b rank ≡ Some r
    → rank_at (with_rank rank f b) rank ≡ Some (f r)
rank_changed b rank f r at = changed_here f rank.0 b.ranks r at

-- The call is over.

-- the rank's state once it was told the end
abbrev pub overs : End → RankState → RankState
overs end r = ended (record r { end = Some end })

-- a call that an end may answer
pub record IsEnded (c : ClientModel) (p : Pending) (request : ℕ) (end : End) : Type 0 where
  pub call : Call
  pub calls : runs.call_of (in_call c p None).status ≡ Some call
  pub rank : overs end (in_call c p None) ≡ in_call c p (Some (tells.Ended request end))
  pub end_is : (in_call c p (Some (tells.Ended request end))).end ≡ Some end
  pub notes : note_coming p (Some (tells.Ended request end)) ≡ note_coming p None
  pub before : said c p None ≡ c.transcript
  pub said : said c p (Some (tells.Ended request end)) ≡ c.transcript ++ record { call = call; answer = answers.Ended end } ∷ []
  pub owed : (x : Bag) → IsOwedIn x p (Some (tells.Ended request end))
  pub batch : (in_call c p (Some (tells.Ended request end))).batch ≡ (in_call c p None).batch
  pub accepted : accepted_by c p (Some (tells.Ended request end)) ≡ accepted_by c p None

-- an end that is told answers the call
pub over_comes : (c : ClientModel) (p : Pending) (b next : Bag) (request : ℕ) (end : End) → Waits c p b → IsEnded c p request end
    → IsRun b (enters.Over c.me request end ∷ []) next
    → Comes c p (tells.Ended request end) b next (enters.Over c.me request end ∷ [])
over_comes c p b next request end w e run =
    let e' = enters.Over c.me request end in
    let s = single b next e' run in
    let told : says b e' ≡ Some (c.me, record { call = e.call; answer = answers.Ended end }) = rw (w.rank, e.calls) refl in
    let cause = s.0.3 in
    rw s.1 (record {
      rank = rank_changed b c.me (overs end) (in_call c p None) w.rank ∙ ap Some e.rank;
      servers = w.servers;
      caused = rw e.end_is cause;
      held = rw e.notes w.held;
      said = e.said ∙ ap (λ l. c.transcript ++ l) (sym (one_call b e' c.me (record { call = e.call; answer = answers.Ended end }) told))
          ∙ ap (λ l. l ++ calls_from b (e' ∷ []) c.me) (sym e.before);
      owed = e.owed (with_rank c.me (overs end) b);
      accepted = rw (
        e.batch,
        e.accepted,
      ) (accepted_same b (with_rank c.me (overs end) b) (in_call c p None).batch (accepted_by c p None) refl w.accepted);
      facts = rw e.notes (facts_same b (with_rank c.me (overs end) b) (c.handles ++ note_coming p None) refl w.facts);
    })

-- a put can be answered by an end
pub put_ended : (c : ClientModel) (unit : Unit) (first : Server) (tried request : ℕ) (end : End)
    → IsEnded c (waits_for.Put unit first tried) request end
put_ended c unit first tried request end = record {
  call = call_of unit;
  calls = refl;
  rank = refl;
  end_is = refl;
  notes = refl;
  before = refl;
  said = refl;
  owed = λ x. tt;
  batch = refl;
  accepted = refl;
}

-- a reserve can be answered by an end
pub reserve_ended : (c : ClientModel) (request : ℕ) (types : Option (List WorkType)) (to : ℕ) (end : End)
    → IsEnded c (waits_for.Reserve request types) to end
reserve_ended c request types to end = record {
  call = calls_to.Reserve types;
  calls = refl;
  rank = refl;
  end_is = refl;
  notes = refl;
  before = refl;
  said = refl;
  owed = λ x. tt;
  batch = refl;
  accepted = refl;
}

-- a try can be answered by an end
pub try_ended : (c : ClientModel) (request : ℕ) (types : Option (List WorkType)) (tried to : ℕ) (end : End)
    → IsEnded c (waits_for.Try request types tried) to end
try_ended c request types tried to end = record {
  call = calls_to.Try types;
  calls = refl;
  rank = refl;
  end_is = refl;
  notes = refl;
  before = refl;
  said = refl;
  owed = λ x. tt;
  batch = refl;
  accepted = refl;
}

-- the beginning of a batch can be answered by an end
pub keep_ended : (c : ClientModel) (request : ℕ) (common : List ℕ) (first : Server) (tried to : ℕ) (end : End)
    → IsEnded c (waits_for.Keep request common first tried) to end
keep_ended c request common first tried to end = record {
  call = calls_to.BeginBatch common;
  calls = refl;
  rank = refl;
  end_is = refl;
  notes = refl;
  before = refl;
  said = refl;
  owed = λ x. tt;
  batch = refl;
  accepted = refl;
}

-- The unit is refused.

-- one more server was asked in ring order
pub ring_next : (config : Config) (first : Server) (tried : ℕ) (me : Server) → me ≡ behind config first tried
    → ring_from config first tried ++ me ∷ [] ≡ ring_from config first (tried + 1)
ring_next config first tried me is =
    let more : ring_from config first (tried + 1) ≡ ring_from config first tried ++ behind config first tried ∷ [] =
    map-range_with_len_more (behind config first) 0 tried tried (omega arith) in
    ap (λ s. ring_from config first tried ++ s ∷ []) is ∙ sym more

-- a put that is refused
pub refused_comes : (c : ClientModel) (unit : Unit) (first : Server) (tried : ℕ) (me : Server) (b next : Bag) (used : ℕ)
    → Waits c (waits_for.Put unit first tried) b → me ≡ asked c first tried → IsRun b (enters.Refused me unit.id used ∷ []) next
    → Comes c (waits_for.Put unit first tried) (tells.Full unit.id.number used) b next (enters.Refused me unit.id used ∷ [])
refused_comes c unit first tried me b next used w is run =
    let e = enters.Refused me unit.id used in
    let s = single b next e run in
    let who : unit.id.rank ≡ c.me = w.call.0.rank in
    let now : next ≡ with_rank c.me (declined_by me) b = s.1 ∙ ap (λ r. with_rank r (declined_by me) b) who in
    let none : says b e ≡ None = refl in
    rw now (record {
      rank = rank_changed b c.me (declined_by me) (rank_putting c unit first tried) w.rank
          ∙ ap (λ l. Some (record (running c) { status = does.Putting unit; declined = l })) (ring_next c.config first tried me is);
      servers = w.servers;
      caused = w.caused;
      held = w.held;
      said = sym (append-nil c.transcript) ∙ ap (λ l. c.transcript ++ l) (sym (no_call b e c.me none));
      owed = tt;
      accepted = accepted_same b (with_rank c.me (declined_by me) b) c.batch c.accepted refl w.accepted;
      facts = facts_same b (with_rank c.me (declined_by me) b) (c.handles ++ []) refl w.facts;
    })

-- The unit is accepted.

abbrev with_lodged : Bag → Placed → Bag
with_lodged b u = record b { units = b.units ++ u ∷ [] }

held_added : (b : Bag) (u : Placed) (rank : Rank) (notes : List UnitNote) → All (IsHeld b rank) notes
    → All (IsHeld (with_lodged b u) rank) notes
held_added b u rank notes all =
    All-weaker (IsHeld b rank) (IsHeld (with_lodged b u) rank)
    (λ note h. (h.0, (find_before (λ (x : Placed). same_unit x.unit.id note.id) b.units (u ∷ []) h.0 h.1.0, h.1.1))) notes all

-- the parts where a unit of the batch is accepted
shared_is : (b : Bag) (o : Option CommonRef) → shared o b ≡ record b { parts = shared_parts o b.parts }
shared_is b None = refl
shared_is b (Some c) = refl

one_more : (b : Bag) (n : Bag) (o : Option CommonRef) (k : ℕ) → n.parts ≡ shared_parts o b.parts → HasAccepted b o k
    → HasAccepted n o (k + 1)
one_more b n None k same has = tt
one_more b n (Some c) k same has = (
  record has.0 { accepted = has.0.accepted + 1 },
  ap (find (λ (p : Part). same_batch p.batch c.batch)) same
      ∙ find_changed (λ (p : Part). record p { accepted = p.accepted + 1 }) (λ (p : Part). same_batch p.batch c.batch) (λ p. refl)
      b.parts has.0 has.1,
  ap (λ m. m + 1) has.2,
)

-- a put that is accepted
pub accepted_comes : (c : ClientModel) (unit : Unit) (first : Server) (tried : ℕ) (me : Server) (b next : Bag)
    → Waits c (waits_for.Put unit first tried) b → IsRun b (enters.Accepted me unit.id ∷ []) next
    → Comes c (waits_for.Put unit first tried) (tells.Accepted unit.id.number) b next (enters.Accepted me unit.id ∷ [])
accepted_comes c unit first tried me b next w run =
    let e = enters.Accepted me unit.id in
    let s = single b next e run in
    let offer = w.call.0 in
    let u : Placed = record { unit = unit; place = Free me } in
    let more : Bag = with_lodged b u in
    let d : Bag = with_rank c.me ended (record more { parts = shared_parts unit.common b.parts }) in
    let at : rank_at b unit.id.rank ≡ Some (rank_putting c unit first tried) = ap (λ r. rank_at b r) offer.rank ∙ w.rank in
    let brought : option_and_then (λ (r : RankState). putting r.status) (rank_at b unit.id.rank) ≡ Some unit = rw at refl in
    let now : next ≡ d =
    s.1 ∙ ap (λ o. with_rank unit.id.rank ended (taken me o b)) brought
    ∙ ap (λ x. with_rank unit.id.rank ended x) (shared_is more unit.common)
    ∙ ap (λ r. with_rank r ended (record more { parts = shared_parts unit.common b.parts })) offer.rank in
    let said_so : Said = record { call = call_of unit; answer = answers.Fine } in
    let told : says b e ≡ Some (c.me, said_so) = rw at (ap (λ r. Some (r, said_so)) offer.rank) in
    rw now (record {
      rank = rank_changed (record more { parts = shared_parts unit.common b.parts }) c.me ended (rank_putting c unit first tried) w.rank;
      servers = w.servers;
      caused = w.caused;
      held = held_added b u c.me (c.handles ++ []) w.held;
      said = ap (λ l. c.transcript ++ l) (sym (one_call b e c.me said_so told));
      owed = tt;
      accepted = one_more b d c.batch c.accepted (ap (λ o. shared_parts o b.parts) offer.batch) w.accepted;
      facts = facts_same more d (c.handles ++ []) refl (facts_added b u (c.handles ++ []) w.facts);
    })

-- A unit is granted.

-- another unit that the rank holds
held_beside : (b : Bag) (id : UnitId) (place : UnitPlace) (rank : Rank) (note : UnitNote) → same_unit id note.id ≡ false
    → IsHeld b rank note → IsHeld (moved id place b) rank note
held_beside b id place rank note differs h = (h.0, (moved_other b id note.id place differs ∙ h.1.0, h.1.1))

-- a unit that is free is not among these
held_through : (b : Bag) (id : UnitId) (me : Server) (place : UnitPlace) (rank : Rank) (u : Placed) (note : UnitNote)
    → unit_of b id ≡ Some u → u.place ≡ Free me → IsHeld b rank note → IsHeld (moved id place b) rank note
held_through b id me place rank u note there free h = by_test (same_unit id note.id) refl
  where
    by_test : (t : Bool) → same_unit id note.id ≡ t → IsHeld (moved id place b) rank note
    by_test true same =
        let found : unit_of b note.id ≡ Some u = ap (λ i. unit_of b i) (sym (same_unit_is id note.id same)) ∙ there in
        let one : u ≡ h.0 = some_is (sym found ∙ h.1.0) in
        let both : Free me ≡ Pinned note.server rank = sym free ∙ ap (λ (v : Placed). v.place) one ∙ h.1.1 in
        absurd (cc)
    by_test false differs = held_beside b id place rank note differs h

granted_facts : (handles : List UnitNote) (note : UnitNote) (d : Bag) → All (IsFact d) (handles ++ []) → IsFact d note
    → All (IsFact d) (handles ++ note ∷ [])
granted_facts handles note d facts fact =
    All-push (IsFact d) handles note (All-same (IsFact d) handles (handles ++ []) (sym (append-nil handles)) facts) fact

-- a call that a grant may answer
pub record IsGranted (c : ClientModel) (p : Pending) (request : ℕ) (note : UnitNote) : Type 0 where
  pub call : Call
  pub calls : runs.call_of (in_call c p None).status ≡ Some call
  pub rank : ended (in_call c p None) ≡ in_call c p (Some (tells.Grant request note))
  pub end_is : (in_call c p (Some (tells.Grant request note))).end ≡ (in_call c p None).end
  pub none : note_coming p None ≡ []
  pub notes : note_coming p (Some (tells.Grant request note)) ≡ note ∷ []
  pub before : said c p None ≡ c.transcript
  pub said : said c p (Some (tells.Grant request note)) ≡ c.transcript ++ record { call = call; answer = answers.Granted note } ∷ []
  pub owed : (x : Bag) → IsOwedIn x p (Some (tells.Grant request note))
  pub batch : (in_call c p (Some (tells.Grant request note))).batch ≡ (in_call c p None).batch
  pub accepted : accepted_by c p (Some (tells.Grant request note)) ≡ accepted_by c p None

-- a reserve can be answered by a grant
pub reserve_granted : (c : ClientModel) (request : ℕ) (types : Option (List WorkType)) (to : ℕ) (note : UnitNote)
    → IsGranted c (waits_for.Reserve request types) to note
reserve_granted c request types to note = record {
  call = calls_to.Reserve types;
  calls = refl;
  rank = refl;
  end_is = refl;
  none = refl;
  notes = refl;
  before = refl;
  said = refl;
  owed = λ x. tt;
  batch = refl;
  accepted = refl;
}

-- a try can be answered by a grant
pub try_granted : (c : ClientModel) (request : ℕ) (types : Option (List WorkType)) (tried to : ℕ) (note : UnitNote)
    → IsGranted c (waits_for.Try request types tried) to note
try_granted c request types tried to note = record {
  call = calls_to.Try types;
  calls = refl;
  rank = refl;
  end_is = refl;
  none = refl;
  notes = refl;
  before = refl;
  said = refl;
  owed = λ x. tt;
  batch = refl;
  accepted = refl;
}

-- a unit that is granted
pub granted_comes : (c : ClientModel) (p : Pending) (request : ℕ) (me : Server) (work : Unit) (u : Placed) (b next : Bag)
    → IsGranted c p request (note_of me work) → Waits c p b → unit_of b work.id ≡ Some u → u.unit ≡ work → u.place ≡ Free me
    → IsRun b (enters.Granted me c.me request work.id ∷ []) next
    → Comes c p (tells.Grant request (note_of me work)) b next (enters.Granted me c.me request work.id ∷ [])
granted_comes c p request me work u b next g w there same free run =
    let id : UnitId = work.id in
    let e = enters.Granted me c.me request id in
    let s = single b next e run in
    let moved_bag : Bag = moved id (Pinned me c.me) b in
    let d : Bag = with_rank c.me ended moved_bag in
    let note : UnitNote = note_of me work in
    let said_so : Said = record { call = g.call; answer = answers.Granted note } in
    let told : says b e ≡ Some (c.me, said_so) = rw (there, same, w.rank, g.calls) refl in
    let handles : All (IsHeld b c.me) c.handles =
    All-same (IsHeld b c.me) c.handles (c.handles ++ []) (sym (append-nil c.handles))
    (subst (λ (l : List UnitNote). All (IsHeld b c.me) (c.handles ++ l)) g.none w.held) in
    let facts : All (IsFact b) (c.handles ++ []) = subst (λ (l : List UnitNote). All (IsFact b) (c.handles ++ l)) g.none w.facts in
    let left : All (IsHeld d c.me) c.handles =
    All-weaker (IsHeld b c.me) (IsHeld d c.me) (λ n h. held_through b id me (Pinned me c.me) c.me u n there free h) c.handles handles in
    let here : IsHeld d c.me note = (record u { place = Pinned me c.me }, (moved_here b id (Pinned me c.me) u there, refl)) in
    rw s.1 (record {
      rank = rank_changed moved_bag c.me ended (in_call c p None) w.rank ∙ ap Some g.rank;
      servers = w.servers;
      caused = rw g.end_is w.caused;
      held = rw g.notes (All-push (IsHeld d c.me) c.handles note left here);
      said = g.said ∙ ap (λ l. c.transcript ++ l) (sym (one_call b e c.me said_so told))
          ∙ ap (λ l. l ++ calls_from b (e ∷ []) c.me) (sym g.before);
      owed = g.owed d;
      accepted = rw (g.batch, g.accepted) (accepted_same b d (in_call c p None).batch (accepted_by c p None) refl w.accepted);
      facts = rw g.notes
          (granted_facts c.handles note d
          (facts_same moved_bag d (c.handles ++ []) refl (facts_moved b id (Pinned me c.me) (c.handles ++ []) facts))
          (record u { place = Pinned me c.me }, moved_here b id (Pinned me c.me) u there, ap (note_of me) (sym same)));
    })

-- A server has looked in vain.

-- a try for which a server has looked
pub looked_comes : (c : ClientModel) (request : ℕ) (types : Option (List WorkType)) (tried : ℕ) (me : Server) (b next : Bag)
    → Waits c (waits_for.Try request types tried) b → me ≡ looks_at c tried → IsRun b (enters.Looked me c.me request ∷ []) next
    → Comes c (waits_for.Try request types tried) (tells.Nothing request) b next (enters.Looked me c.me request ∷ [])
looked_comes c request types tried me b next w is run =
    let e = enters.Looked me c.me request in
    let s = single b next e run in
    let d : Bag = with_rank c.me (declined_by me) b in
    let none : says b e ≡ None = refl in
    rw s.1 (record {
      rank = rank_changed b c.me (declined_by me) (rank_trying c request types tried) w.rank
          ∙ ap (λ l. Some (record (running c) { status = does.Trying request types; declined = l }))
          (ring_next c.config (home c.config c.me) tried me is);
      servers = w.servers;
      caused = w.caused;
      held = w.held;
      said = sym (append-nil c.transcript) ∙ ap (λ l. c.transcript ++ l) (sym (no_call b e c.me none));
      owed = tt;
      accepted = accepted_same b d c.batch c.accepted refl w.accepted;
      facts = facts_same b d (c.handles ++ []) refl w.facts;
    })

-- A unit is fetched.

differs_back : (a b : UnitId) → same_unit a b ≡ false → same_unit b a ≡ false
differs_back a b apart = unit_differs b a (λ same. let here : same_unit a b ≡ true = same_unit_from a b (sym same) in cc)

all_front : {X : Type 0} (P : X → Type 0) (xs ys : List X) → All P (xs ++ ys) → All P xs
all_front P xs ys all = λ k d within.
    let inside : k < length (xs ++ ys) = omega (arith, length-append xs ys) in
    subst P (get_or_append_left xs ys d k within) (all k d inside)

-- the note of the unit that is fetched tells it
pub fetched_shares : (c : ClientModel) (request : ℕ) (note : UnitNote) (u : Placed) (b : Bag) → Waits c (waits_for.Fetch request note) b
    → unit_of b note.id ≡ Some u → note ≡ note_of note.server u.unit
fetched_shares c request note u b w there =
    let fact = All-contains (IsFact b) (c.handles ++ note ∷ []) note w.facts (Contains-push c.handles note) in
    let one : fact.0 ≡ u = some_is (sym fact.1 ∙ there) in
    fact.2 ∙ ap (λ (v : Placed). note_of note.server v.unit) one

-- a unit's own bytes
pub fetched_comes : (c : ClientModel) (request : ℕ) (note : UnitNote) (me : Server) (work : Unit) (u : Placed) (b next : Bag)
    → Waits c (waits_for.Fetch request note) b → unit_of b note.id ≡ Some u → u.unit ≡ work
    → IsRun b (enters.Fetched me c.me note.id ∷ []) next
    → Comes c (waits_for.Fetch request note) (tells.Bytes request work.body) b next (enters.Fetched me c.me note.id ∷ [])
fetched_comes c request note me work u b next w there same run =
    by_common u.unit.common refl
  where
    id : UnitId
    id = note.id

    e : Entry
    e = enters.Fetched me c.me id

    moved_bag : Bag
    moved_bag = moved id Spent b

    shares : note.common ≡ u.unit.common
    shares = ap (λ (n : UnitNote). n.common) (fetched_shares c request note u b w there)

    handles : All (IsHeld b c.me) c.handles
    handles = all_front (IsHeld b c.me) c.handles (note ∷ []) w.held

    now : (o : Option CommonRef) → u.unit.common ≡ o → next ≡ with_rank c.me (own_fetched o) moved_bag
    now o is =
        let s = single b next e run in
        s.1 ∙ ap (λ x. with_rank c.me (own_fetched x) moved_bag) (ap (λ x. option_and_then (λ (v : Placed). v.unit.common) x) there ∙ is)

    left : (d : Bag) → d.units ≡ moved_bag.units → All (IsHeld d c.me) c.handles
    left d units = λ k v l.
        let held = get_or c.handles k v in
        let h = held_beside b id Spent c.me held (differs_back held.id id (w.call.2 k v l)) (handles k v l) in
        (h.0, (ap (find (λ (x : Placed). same_unit x.unit.id held.id)) units ∙ h.1.0, h.1.1))

    facts_in : (d : Bag) → d.units ≡ moved_bag.units → All (IsFact d) (c.handles ++ [])
    facts_in d units =
        facts_of d (c.handles ++ note ∷ []) (c.handles ++ [])
        (All-same (Contains (c.handles ++ note ∷ [])) (c.handles ++ []) c.handles (append-nil c.handles) (notes_in c.handles (note ∷ [])))
        (facts_same moved_bag d (c.handles ++ note ∷ []) units (facts_moved b id Spent (c.handles ++ note ∷ []) w.facts))

    by_common : (o : Option CommonRef) → u.unit.common ≡ o
        → Comes c (waits_for.Fetch request note) (tells.Bytes request work.body) b next (e ∷ [])
    by_common None alone =
        let d : Bag = with_rank c.me ended moved_bag in
        let none : note.common ≡ None = shares ∙ alone in
        let said_so : Said = record { call = calls_to.Fetch id; answer = answers.Body work.body } in
        let told : says b e ≡ Some (c.me, said_so) = rw (there, alone, w.rank, same) refl in
        rw (now None alone) (record {
          rank = rw none (rank_changed moved_bag c.me ended (in_call c (waits_for.Fetch request note) None) w.rank);
          servers = w.servers;
          caused = rw none w.caused;
          held = All-same (IsHeld d c.me) (c.handles ++ []) c.handles (append-nil c.handles) (left d refl);
          said = rw none (ap (λ l. c.transcript ++ l) (sym (one_call b e c.me said_so told)));
          owed = λ common is. let no : None ≡ Some common = sym none ∙ is in absurd (cc);
          accepted = rw none (accepted_same b d c.batch c.accepted refl w.accepted);
          facts = facts_in d refl;
        })
    by_common (Some common) has =
        let d : Bag = with_rank c.me (own_fetched (Some common)) moved_bag in
        let some : note.common ≡ Some common = shares ∙ has in
        let quiet : says b e ≡ None = rw (there, has) refl in
        let spent : Placed = record u { place = Spent } in
        rw (now (Some common) has) (record {
          rank = rw some (rank_changed moved_bag c.me (own_fetched (Some common)) (in_call c (waits_for.Fetch request note) None) w.rank);
          servers = w.servers;
          caused = rw some w.caused;
          held = All-same (IsHeld d c.me) (c.handles ++ []) c.handles (append-nil c.handles) (left d refl);
          said = rw some (sym (append-nil c.transcript) ∙ ap (λ l. c.transcript ++ l) (sym (no_call b e c.me quiet)));
          owed = λ other is.
              let one : common ≡ other = some_is (sym some ∙ is) in
              (spent, moved_here b id Spent u there, has ∙ ap Some one, ap (λ (k : Unit). k.body) same);
          accepted = rw some (accepted_same b d c.batch c.accepted refl w.accepted);
          facts = facts_in d refl;
        })

-- A count is told.

-- a count that is answered
pub counted_comes : (c : ClientModel) (request : ℕ) (kind : WorkType) (me : Server) (info : Info) (b next : Bag)
    → Waits c (waits_for.Count request kind) b → IsRun b (enters.Counted me c.me request info ∷ []) next
    → Comes c (waits_for.Count request kind) (tells.Counted request info) b next (enters.Counted me c.me request info ∷ [])
counted_comes c request kind me info b next w run =
    let e = enters.Counted me c.me request info in
    let s = single b next e run in
    let d : Bag = with_rank c.me ended b in
    let said_so : Said = record { call = calls_to.Count kind; answer = answers.Info info } in
    let told : says b e ≡ Some (c.me, said_so) = rw w.rank refl in
    rw s.1 (record {
      rank = rank_changed b c.me ended (in_call c (waits_for.Count request kind) None) w.rank;
      servers = w.servers;
      caused = w.caused;
      held = w.held;
      said = ap (λ l. c.transcript ++ l) (sym (one_call b e c.me said_so told));
      owed = tt;
      accepted = accepted_same b d c.batch c.accepted refl w.accepted;
      facts = facts_same b d (c.handles ++ []) refl w.facts;
    })

-- A server has heard that the problem is done, of which the ledger told before.

-- a server that has heard that the problem is done
pub told_comes : (c : ClientModel) (request tried : ℕ) (b next : Bag) → Waits c (waits_for.SetDone request tried) b → b ≡ next
    → Comes c (waits_for.SetDone request tried) (tells.DoneHeard request) b next []
told_comes c request tried b next w same = rw (sym same) (record {
  rank = w.rank;
  servers = w.servers;
  caused = w.caused;
  held = w.held;
  said = sym (append-nil (said c (waits_for.SetDone request tried) None));
  owed = w.owed;
  accepted = w.accepted;
  facts = w.facts;
})
