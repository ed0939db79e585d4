-- What a step does with a letter.
use Rattle.std.proofs.Common.{◌≡◌, ◌≤◌, ℕ, ◌+◌, ◌^◌, ◌==◌, List, [], ◌∷◌, ◌++◌, length, Option, Some, None, Bool, true, false, ◌&&◌, not}
use Rattle.std.proofs.Common.{refl, ap, sym, ◌∙◌, append-nil}
use Rattle.std.specs.Prelude.{if◌then◌else◌, IsFalse, All, nat_lt}
use Rattle.std.specs.Option.{option_map}
use Rattle.std.proofs.lemmas.Bool.{and_parts, not-true, ltb-false}
use Rattle.std.proofs.lemmas.List.Elements.{All-same}
use Rattle.adlb_unit.specs.Targets.{home}
use Rattle.adlb_unit.specs.declared.letters.Letter.{Letter}
use Rattle.adlb_unit.specs.declared.messages.Message.{Message}
use Rattle.adlb_unit.specs.declared.messages.Message.TheVariants as tells
use Rattle.adlb_unit.specs.declared.names.CommonRef.{CommonRef}
use Rattle.adlb_unit.specs.declared.names.Server.{Server}
use Rattle.adlb_unit.specs.declared.names.WorkType.{WorkType}
use Rattle.adlb_unit.specs.declared.notes.UnitNote.{UnitNote}
use Rattle.adlb_unit.specs.declared.units.Unit.{Unit}
use Rattle.bag_ledger.specs.declared.entries.Answer.{Answer}
use Rattle.bag_ledger.specs.declared.entries.Answer.TheVariants as answers
use Rattle.bag_ledger.specs.declared.entries.Call.{Call}
use Rattle.bag_ledger.specs.declared.entries.Call.TheVariants as calls_to
use Rattle.bag_ledger.specs.declared.entries.Entry.{Entry}
use Rattle.bag_ledger.specs.declared.entries.Entry.TheVariants as enters
use Rattle.bag_ledger.specs.declared.entries.Said.{Said}
use Rattle.bag_ledger.specs.Bag.{Bag, has_due, rank_at}
use Rattle.bag_ledger.specs.Runs.{says}
use Rattle.bag_ledger.specs.Steps.{LegalWhere, StepsWhere, ended, with_rank}
use Rattle.rank_client.specs.declared.pendings.Pending.{Pending}
use Rattle.rank_client.specs.declared.pendings.Pending.TheVariants as waits_for
use Rattle.rank_client.specs.Agreement.{ClientAgrees, Follows, HasAccepted, IsCaused, IsHeld, IsOwedIn, accepted_by, fetch_coming, in_call}
use Rattle.rank_client.specs.Agreement.{keeping, note_coming, putting, running, said, trying}
use Rattle.rank_client.specs.Calls.{plus}
use Rattle.rank_client.specs.Rules.{answer_call, asked, begun_batch, call_of, ends, expects_note, is_for, looked, looks_at, own_came}
use Rattle.rank_client.specs.Rules.{part_refused, refused, told_done}
use Rattle.rank_client.specs.State.{ClientModel}
use Rattle.rank_client.specs.Step.{Made, hear, letter_stamp, made, ticked}
use Rattle.rank_client.proofs.Begins.{Holds, LawOf, bare, free_agrees, if_told, law_of_made}
use Rattle.rank_client.proofs.Entries.{rank_changed, saying, step_of}
use Rattle.rank_client.proofs.Ring.{all_asked}

-- this call is pending, and this answer to it comes back
pub record Awaits (s : ClientModel) (b : Bag) (p : Pending) (m : Message) : Type 0 where
  pub rank : rank_at b s.me ≡ Some (in_call s p (Some m))
  pub servers : b.servers ≡ s.config.servers
  pub caused : IsCaused b (in_call s p (Some m)).end
  pub held : All (IsHeld b s.me) (s.handles ++ note_coming p (Some m))
  pub owed : IsOwedIn b p (Some m)
  pub accepted : HasAccepted b (in_call s p (Some m)).batch (accepted_by s p (Some m))
  pub none : IsFalse (has_due b)
  pub going : s.finished ≡ false

module _ (found : Bag → Bool) where
  -- the answer is heard, with no entry
  heard : (s t : ClientModel) (b : Bag) (call : Call) (answer : Answer) → rank_at b s.me ≡ Some (running t) → b.servers ≡ s.config.servers
      → IsCaused b t.end
      → All (IsHeld b s.me) t.handles → HasAccepted b t.batch t.accepted → t.finished ≡ false → t.me ≡ s.me → t.config ≡ s.config
      → t.transcript ≡ s.transcript
      → Holds found (s.transcript ++ record { call = call; answer = answer } ∷ []) s.me b (bare (ends t [] call answer))
  heard s t b call answer rank servers caused held accepted going me config transcript = (
    b,
    refl,
    free_agrees _ b refl going (rw me rank) (rw config servers) caused (rw me held) accepted,
    ap (λ said. said ++ record { call = call; answer = answer } ∷ []) transcript
        ∙ sym (append-nil (s.transcript ++ record { call = call; answer = answer } ∷ [])),
  )

  -- with no note on its way
  alone : (s : ClientModel) (b : Bag) → All (IsHeld b s.me) (s.handles ++ []) → All (IsHeld b s.me) s.handles
  alone s b held = All-same (IsHeld b s.me) s.handles _ (sym (append-nil s.handles)) held

  -- Put.

  refusal : (s : ClientModel) (b : Bag) (unit : Unit) (first : Server) (tried to charge : ℕ) (t : Bool)
      → nat_lt (tried + 1) s.config.servers ≡ t
      → Awaits s b (waits_for.Put unit first tried) (tells.Full to charge)
      → Holds found s.transcript s.me b (bare (refused s unit first tried t))
  refusal s b unit first tried to charge true more a = (
    b,
    refl,
    record {
      rank = rw a.going a.rank;
      servers = a.servers;
      caused = rw a.going a.caused;
      held = a.held;
      owed = tt;
      accepted = rw a.going a.accepted;
    },
    sym (append-nil s.transcript),
  )
  refusal s b unit first tried to charge false more a =
      let entry : Entry = enters.Rejected s.me unit.id.number in
      let enough : s.config.servers ≤ tried + 1 = ltb-false (tried + 1) s.config.servers more in
      let all = all_asked s.config first (tried + 1) b (putting s unit first (tried + 1)) a.servers enough refl in
      let legal : LegalWhere found b entry = (putting s unit first (tried + 1), length unit.body, a.rank, refl, all) in
      let step : StepsWhere found b entry (with_rank s.me ended b) = step_of found b entry a.none legal in
      let told : says b entry ≡ Some (s.me, record { call = call_of unit; answer = answers.Rejected }) = rw a.rank refl in (
        with_rank s.me ended b,
        (with_rank s.me ended b, step, refl),
        free_agrees _ (with_rank s.me ended b) refl a.going (rank_changed b s.me ended (putting s unit first (tried + 1)) a.rank) a.servers
            a.caused (alone s b a.held) a.accepted,
        ap (λ said. s.transcript ++ said)
            (sym (saying found b (with_rank s.me ended b) entry s.me (record {
              call = call_of unit;
              answer = answers.Rejected;
            }) step told)),
      )

  put_heard : (s : ClientModel) (b : Bag) (unit : Unit) (first : Server) (tried : ℕ) (from : Server) (m : Message)
      → Awaits s b (waits_for.Put unit first tried) m
      → LawOf found (said s (waits_for.Put unit first tried) (Some m)) s.me b (answer_call s (waits_for.Put unit first tried) from m)
  put_heard s b unit first tried from (tells.Accepted to) a =
      if_told found _ _ b (is_for unit.id.number (asked s first tried) from to) _
      (heard s (record s { accepted = s.accepted + 1 }) b (call_of unit) answers.Fine a.rank a.servers a.caused (alone s b a.held)
      a.accepted a.going refl refl refl)
  put_heard s b unit first tried from (tells.Full to charge) a =
      if_told found _ _ b (is_for unit.id.number (asked s first tried) from to) _
      (refusal s b unit first tried to charge (nat_lt (tried + 1) s.config.servers) refl a)
  put_heard s b unit first tried from (tells.Ended to end) a =
      if_told found _ _ b (is_for unit.id.number (asked s first tried) from to) _
      (heard s (record s { end = Some end }) b (call_of unit) (answers.Ended end) a.rank a.servers a.caused (alone s b a.held) a.accepted
      a.going refl refl refl)
  put_heard s b unit first tried from _ a = tt

  -- Reserve.

  reserve_heard : (s : ClientModel) (b : Bag) (request : ℕ) (types : Option (List WorkType)) (from : Server) (m : Message)
      → Awaits s b (waits_for.Reserve request types) m
      → LawOf found (said s (waits_for.Reserve request types) (Some m)) s.me b (answer_call s (waits_for.Reserve request types) from m)
  reserve_heard s b request types from (tells.Grant to note) a =
      if_told found _ _ b (is_for request (home s.config s.me) from to && expects_note s note) _
      (heard s (record s { handles = s.handles ++ note ∷ [] }) b (calls_to.Reserve types) (answers.Granted note) a.rank a.servers a.caused
      a.held a.accepted a.going refl refl refl)
  reserve_heard s b request types from (tells.Ended to end) a =
      if_told found _ _ b (is_for request (home s.config s.me) from to) _
      (heard s (record s { end = Some end }) b (calls_to.Reserve types) (answers.Ended end) a.rank a.servers a.caused (alone s b a.held)
      a.accepted a.going refl refl refl)
  reserve_heard s b request types from _ a = tt

  -- Try.

  in_vain : (s : ClientModel) (b : Bag) (request : ℕ) (types : Option (List WorkType)) (tried to : ℕ) (t : Bool)
      → nat_lt (tried + 1) s.config.servers ≡ t → Awaits s b (waits_for.Try request types tried) (tells.Nothing to)
      → Holds found s.transcript s.me b (bare (looked s request types tried t))
  in_vain s b request types tried to true more a = (
    b,
    refl,
    record {
      rank = rw a.going a.rank;
      servers = a.servers;
      caused = rw a.going a.caused;
      held = a.held;
      owed = tt;
      accepted = rw a.going a.accepted;
    },
    sym (append-nil s.transcript),
  )
  in_vain s b request types tried to false more a =
      let entry : Entry = enters.NoCurrent s.me request in
      let r = trying s request types (tried + 1) in
      let said_so : Said = record { call = calls_to.Try types; answer = answers.NoCurrent } in
      let enough : s.config.servers ≤ tried + 1 = ltb-false (tried + 1) s.config.servers more in
      let all = all_asked s.config (home s.config s.me) (tried + 1) b r a.servers enough refl in
      let legal : LegalWhere found b entry = (r, types, a.rank, refl, all) in
      let step : StepsWhere found b entry (with_rank s.me ended b) = step_of found b entry a.none legal in
      let told : says b entry ≡ Some (s.me, said_so) = rw a.rank refl in (
        with_rank s.me ended b,
        (with_rank s.me ended b, step, refl),
        free_agrees _ (with_rank s.me ended b) refl a.going (rank_changed b s.me ended r a.rank) a.servers a.caused
            (alone s b a.held) a.accepted,
        ap (λ said. s.transcript ++ said) (sym (saying found b (with_rank s.me ended b) entry s.me said_so step told)),
      )

  look_heard : (s : ClientModel) (b : Bag) (request : ℕ) (types : Option (List WorkType)) (tried : ℕ) (from : Server) (m : Message)
      → Awaits s b (waits_for.Try request types tried) m
      → LawOf found (said s (waits_for.Try request types tried) (Some m)) s.me b (answer_call s (waits_for.Try request types tried) from m)
  look_heard s b request types tried from (tells.Grant to note) a =
      if_told found _ _ b (is_for request (looks_at s tried) from to && expects_note s note) _
      (heard s (record s { handles = s.handles ++ note ∷ [] }) b (calls_to.Try types) (answers.Granted note) a.rank a.servers a.caused
      a.held a.accepted a.going refl refl refl)
  look_heard s b request types tried from (tells.Nothing to) a =
      if_told found _ _ b (is_for request (looks_at s tried) from to) _
      (in_vain s b request types tried to (nat_lt (tried + 1) s.config.servers) refl a)
  look_heard s b request types tried from (tells.Ended to end) a =
      if_told found _ _ b (is_for request (looks_at s tried) from to) _
      (heard s (record s { end = Some end }) b (calls_to.Try types) (answers.Ended end) a.rank a.servers a.caused (alone s b a.held)
      a.accepted a.going refl refl refl)
  look_heard s b request types tried from _ a = tt

  -- Fetch.

  own_heard : (s : ClientModel) (b : Bag) (request : ℕ) (note : UnitNote) (to : ℕ) (own : List ℕ) (common : Option CommonRef)
      → note.common ≡ common → Awaits s b (waits_for.Fetch request note) (tells.Bytes to own)
      → Holds found (plus s.transcript (calls_to.Fetch note.id) (fetch_coming common (tells.Bytes to own))) s.me b
      (bare (own_came s request note own common))
  own_heard s b request note to own None is a =
      heard s s b (calls_to.Fetch note.id) (answers.Body own) (rw is at a.rank) a.servers (rw is at a.caused) (alone s b a.held)
      (rw is at a.accepted) a.going refl refl refl
  own_heard s b request note to own (Some common) is a = (
    b,
    refl,
    record {
      rank = rw a.going (rw is at a.rank);
      servers = a.servers;
      caused = rw a.going (rw is at a.caused);
      held = a.held;
      owed = a.owed common is;
      accepted = rw a.going (rw is at a.accepted);
    },
    sym (append-nil s.transcript),
  )

  fetch_heard : (s : ClientModel) (b : Bag) (request : ℕ) (note : UnitNote) (from : Server) (m : Message)
      → Awaits s b (waits_for.Fetch request note) m
      → LawOf found (said s (waits_for.Fetch request note) (Some m)) s.me b (answer_call s (waits_for.Fetch request note) from m)
  fetch_heard s b request note from (tells.Bytes to body) a =
      if_told found _ _ b (is_for request note.server from to && (length body == note.length)) _
      (own_heard s b request note to body note.common refl a)
  fetch_heard s b request note from _ a = tt

  common_heard : (s : ClientModel) (b : Bag) (request : ℕ) (note : UnitNote) (common : CommonRef) (own : List ℕ)
      (from : Server) (m : Message)
      → Awaits s b (waits_for.Common request note common own) m
      → LawOf found (said s (waits_for.Common request note common own) (Some m)) s.me b
      (answer_call s (waits_for.Common request note common own) from m)
  common_heard s b request note common own from (tells.Bytes to body) a =
      if_told found _ _ b (is_for request common.server from to && (length body == common.length)) _
      (heard s s b (calls_to.Fetch note.id) (answers.Body (body ++ own)) a.rank a.servers a.caused (alone s b a.held) a.accepted a.going
      refl refl refl)
  common_heard s b request note common own from _ a = tt

  -- Batches.

  part_refusal : (s : ClientModel) (b : Bag) (request : ℕ) (common : List ℕ) (first : Server) (tried to charge : ℕ) (t : Bool)
      → nat_lt (tried + 1) s.config.servers ≡ t → Awaits s b (waits_for.Keep request common first tried) (tells.Full to charge)
      → Holds found s.transcript s.me b (bare (part_refused s request common first tried t))
  part_refusal s b request common first tried to charge true more a = (
    b,
    refl,
    record {
      rank = rw a.going a.rank;
      servers = a.servers;
      caused = rw a.going a.caused;
      held = a.held;
      owed = tt;
      accepted = rw a.going a.accepted;
    },
    sym (append-nil s.transcript),
  )
  part_refusal s b request common first tried to charge false more a =
      let entry : Entry = enters.Rejected s.me request in
      let enough : s.config.servers ≤ tried + 1 = ltb-false (tried + 1) s.config.servers more in
      let all = all_asked s.config first (tried + 1) b (keeping s request common first (tried + 1)) a.servers enough refl in
      let legal : LegalWhere found b entry = (keeping s request common first (tried + 1), length common, a.rank, refl, all) in
      let step : StepsWhere found b entry (with_rank s.me ended b) = step_of found b entry a.none legal in
      let told : says b entry ≡ Some (s.me, record { call = calls_to.BeginBatch common; answer = answers.Rejected }) = rw a.rank refl in (
        with_rank s.me ended b,
        (with_rank s.me ended b, step, refl),
        free_agrees _ (with_rank s.me ended b) refl a.going (rank_changed b s.me ended (keeping s request common first (tried + 1)) a.rank)
            a.servers a.caused (alone s b a.held) a.accepted,
        ap (λ said. s.transcript ++ said)
            (sym (saying found b (with_rank s.me ended b) entry s.me (record {
              call = calls_to.BeginBatch common;
              answer = answers.Rejected;
            }) step told)),
      )

  keep_heard : (s : ClientModel) (b : Bag) (request : ℕ) (common : List ℕ) (first : Server) (tried : ℕ) (from : Server) (m : Message)
      → Awaits s b (waits_for.Keep request common first tried) m
      → LawOf found (said s (waits_for.Keep request common first tried) (Some m)) s.me b
      (answer_call s (waits_for.Keep request common first tried) from m)
  keep_heard s b request common first tried from (tells.Accepted to) a =
      if_told found _ _ b (is_for request (asked s first tried) from to) _
      (heard s (record s { batch = Some (begun_batch s request common (asked s first tried)); accepted = 0 }) b (calls_to.BeginBatch common)
      answers.Fine a.rank a.servers a.caused (alone s b a.held) a.accepted a.going refl refl refl)
  keep_heard s b request common first tried from (tells.Full to charge) a =
      if_told found _ _ b (is_for request (asked s first tried) from to) _
      (part_refusal s b request common first tried to charge (nat_lt (tried + 1) s.config.servers) refl a)
  keep_heard s b request common first tried from (tells.Ended to end) a =
      if_told found _ _ b (is_for request (asked s first tried) from to) _
      (heard s (record s { end = Some end }) b (calls_to.BeginBatch common) (answers.Ended end) a.rank a.servers a.caused (alone s b a.held)
      a.accepted a.going refl refl refl)
  keep_heard s b request common first tried from _ a = tt

  close_heard : (s : ClientModel) (b : Bag) (request : ℕ) (batch : CommonRef) (from : Server) (m : Message)
      → Awaits s b (waits_for.Close request batch) m
      → LawOf found (said s (waits_for.Close request batch) (Some m)) s.me b (answer_call s (waits_for.Close request batch) from m)
  close_heard s b request batch from (tells.Closed to) a =
      if_told found _ _ b (is_for request batch.server from to) _
      (heard s (record s { batch = None }) b calls_to.EndBatch answers.Fine a.rank a.servers a.caused (alone s b a.held) tt a.going
      refl refl refl)
  close_heard s b request batch from _ a = tt

  count_heard : (s : ClientModel) (b : Bag) (request : ℕ) (kind : WorkType) (from : Server) (m : Message)
      → Awaits s b (waits_for.Count request kind) m
      → LawOf found (said s (waits_for.Count request kind) (Some m)) s.me b (answer_call s (waits_for.Count request kind) from m)
  count_heard s b request kind from (tells.Counted to info) a =
      if_told found _ _ b (is_for request (home s.config s.me) from to) _
      (heard s s b (calls_to.Count kind) (answers.Info info) a.rank a.servers a.caused (alone s b a.held) a.accepted a.going refl refl refl)
  count_heard s b request kind from _ a = tt

  -- the next server is told, or each has heard it
  told_on : (s : ClientModel) (b : Bag) (request tried to : ℕ) (more : Bool)
      → Awaits s b (waits_for.SetDone request tried) (tells.DoneHeard to)
      → Holds found (said s (waits_for.SetDone request tried) (Some (tells.DoneHeard to))) s.me b (bare (told_done s request tried more))
  told_on s b request tried to true a = (
    b,
    refl,
    record {
      rank = rw a.going a.rank;
      servers = a.servers;
      caused = rw a.going a.caused;
      held = a.held;
      owed = a.owed;
      accepted = rw a.going a.accepted;
    },
    sym (append-nil (plus s.transcript calls_to.SetDone (Some answers.Fine))),
  )
  told_on s b request tried to false a =
      heard s s b calls_to.SetDone answers.Fine a.rank a.servers a.caused (alone s b a.held) a.accepted a.going refl refl refl

  done_heard : (s : ClientModel) (b : Bag) (request tried : ℕ) (from : Server) (m : Message)
      → Awaits s b (waits_for.SetDone request tried) m
      → LawOf found (said s (waits_for.SetDone request tried) (Some m)) s.me b (answer_call s (waits_for.SetDone request tried) from m)
  done_heard s b request tried from (tells.DoneHeard to) a =
      if_told found _ _ b (is_for request (looks_at s tried) from to) _
      (told_on s b request tried to (nat_lt (tried + 1) s.config.servers) a)
  done_heard s b request tried from _ a = tt

  call_heard : (s : ClientModel) (b : Bag) (p : Pending) (from : Server) (m : Message) → Awaits s b p m
      → LawOf found (said s p (Some m)) s.me b (answer_call s p from m)
  call_heard s b waits_for.Nothing from m a = tt
  call_heard s b (waits_for.Put unit first tried) from m a = put_heard s b unit first tried from m a
  call_heard s b (waits_for.Reserve request types) from m a = reserve_heard s b request types from m a
  call_heard s b (waits_for.Try request types tried) from m a = look_heard s b request types tried from m a
  call_heard s b (waits_for.Fetch request note) from m a = fetch_heard s b request note from m a
  call_heard s b (waits_for.Common request note common own) from m a = common_heard s b request note common own from m a
  call_heard s b (waits_for.Keep request common first tried) from m a = keep_heard s b request common first tried from m a
  call_heard s b (waits_for.Close request batch) from m a = close_heard s b request batch from m a
  call_heard s b (waits_for.Count request kind) from m a = count_heard s b request kind from m a
  call_heard s b (waits_for.SetDone request tried) from m a = done_heard s b request tried from m a

  -- the same where the event has its stamp
  later_heard : (s : ClientModel) (stamp : ℕ) (b : Bag) (p : Pending) (from : Server) (m : Message) → Awaits s b p m
      → LawOf found (said s p (Some m)) s.me b (answer_call (ticked s stamp) p from m)
  later_heard s stamp b p from m a = rw (said_ticked s stamp p m)
      (call_heard (ticked s stamp) b p from m (record {
        rank = a.rank;
        servers = a.servers;
        caused = a.caused;
        held = a.held;
        owed = a.owed;
        accepted = a.accepted;
        none = a.none;
        going = a.going;
      }))
    where
      said_ticked : (s : ClientModel) (stamp : ℕ) (p : Pending) (m : Message) → said s p (Some m) ≡ said (ticked s stamp) p (Some m)
      said_ticked s stamp waits_for.Nothing m = refl
      said_ticked s stamp _ m = refl

  -- the law of a letter
  pub hears : (s : ClientModel) (from : Server) (letter : Letter) (x : Made) (b : Bag) → hear s from letter ≡ Some x
      → ClientAgrees s (Some letter.message) b → IsFalse (has_due b) → Follows found s (Some letter.message) b x
  hears s from letter x b is a none = by_test (not s.finished && nat_lt letter.stamp (2 ^ 48)) refl is
    where
      by_test : (t : Bool) → (not s.finished && nat_lt letter.stamp (2 ^ 48)) ≡ t
          → (if t then option_map made (answer_call (ticked s (letter_stamp s letter)) s.pending from letter.message) else None) ≡ Some x
          → Follows found s (Some letter.message) b x
      by_test true may made_is =
          let going : s.finished ≡ false = not-true s.finished (and_parts (not s.finished) (nat_lt letter.stamp (2 ^ 48)) may).0 in
          let awaits : Awaits s b s.pending letter.message = record {
            rank = rw going at a.rank;
            servers = a.servers;
            caused = rw going at a.caused;
            held = a.held;
            owed = a.owed;
            accepted = rw going at a.accepted;
            none = none;
            going = going;
          } in
          law_of_made found (said s s.pending (Some letter.message)) s.me b
          (answer_call (ticked s (letter_stamp s letter)) s.pending from letter.message) x
          (later_heard s (letter_stamp s letter) b s.pending from letter.message awaits) made_is
      by_test false may made_is = absurd (cc)
