-- The rank hears a letter that its pending call awaits: what that makes of the client.
use Rattle.std.proofs.Common.{◌≡◌, ℕ, ◌+◌, ◌≤◌, ◌&&◌, not, cond, Bool, true, false, List, [], ◌∷◌, ◌++◌, append-nil, length, length-append}
use Rattle.std.proofs.Common.{Option, None, Some, is_some, nat_lt, refl, sym, ap, ◌∙◌, subst, arith}
use Rattle.std.specs.Prelude.{IsSome}
use Rattle.std.specs.Option.{option_map}
use Rattle.std.proofs.lemmas.Bool.{and_parts, eqb-true, not-true}
use Rattle.adlb_unit.specs.declared.letters.Letter.{Letter}
use Rattle.adlb_unit.specs.declared.messages.Message.{Message}
use Rattle.adlb_unit.specs.declared.messages.Message.TheVariants as tells
use Rattle.adlb_unit.specs.declared.names.CommonRef.{CommonRef}
use Rattle.adlb_unit.specs.declared.names.Server.{Server}
use Rattle.adlb_unit.specs.declared.names.UnitId.{UnitId}
use Rattle.adlb_unit.specs.declared.names.WorkType.{WorkType}
use Rattle.adlb_unit.specs.declared.notes.End.{End}
use Rattle.adlb_unit.specs.declared.notes.UnitNote.{UnitNote}
use Rattle.adlb_unit.specs.declared.units.Unit.{Unit}
use Rattle.adlb_unit.specs.Limits.{stamp_limit}
use Rattle.adlb_unit.specs.Totals.{total_of}
use Rattle.bag_ledger.specs.declared.entries.Answer.{Answer}
use Rattle.bag_ledger.specs.declared.entries.Answer.TheVariants as answers
use Rattle.bag_ledger.specs.declared.entries.Call.{Call}
use Rattle.bag_ledger.specs.declared.entries.Call.TheVariants as calls_to
use Rattle.rank_client.specs.declared.pendings.Pending.{Pending}
use Rattle.rank_client.specs.declared.pendings.Pending.TheVariants as waits_for
use Rattle.rank_client.specs.Answers.{IsAnswer, answers_call, heeds_end}
use Rattle.rank_client.specs.Calls.{end_of, fetches, goes_on, is_fetched, is_finish, is_granted, plus}
use Rattle.rank_client.specs.Granted.{AreGranted, IsGrantedFirst}
use Rattle.rank_client.specs.Remembered.{AreHeld, IsFitting, IsTaken, Remembers, fetched_by, pending_call}
use Rattle.rank_client.specs.Rules.{ClientResponse, answer_call, answered, asked, begun_batch, call_of, ends, looked, own_came}
use Rattle.rank_client.specs.Rules.{part_refused, refused, told_done}
use Rattle.rank_client.specs.Says.{Tells}
use Rattle.rank_client.specs.State.{ClientModel}
use Rattle.rank_client.specs.Step.{Made, hear, letter_stamp, made, ticked}
use Rattle.rank_client.proofs.Entries.{some_is}
use Rattle.rank_client.proofs.Expected.{note_is}
use Rattle.rank_client.proofs.Granted.{answer_keeps, map_is}
use Rattle.rank_client.proofs.Notes.{held_fetched, held_granted, held_same, not_held}
use Rattle.rank_client.proofs.Telling.{ends_tells, first_none, made_tells, waits_tells}
use Rattle.rank_client.proofs.Transcripts.{first_end}

if_both : {X : Type 0} (t : Bool) (x y : X) → cond t (Some x) None ≡ Some y → (t ≡ true) × (x ≡ y)
if_both true x y e = (refl, some_is e)
if_both false x y e = absurd (cc)

module _ (s : ClientModel) (r : Remembers s) (going : s.finished ≡ false) (stamp : ℕ) (later : s.clock + 1 ≤ stamp) (from : Server) where
  abbrev heard : ClientModel
  heard = ticked s stamp

  abbrev Goes : Call → ClientResponse → Type 0
  Goes call z = IsGrantedFirst z.state → Tells s stamp call z.answer z.state

  held_idle : fetched_by s.pending ≡ [] → AreHeld s.transcript s.handles
  held_idle none = subst (AreHeld s.transcript) (ap (λ l. s.handles ++ l) none ∙ append-nil s.handles) r.held

  -- Where no end was told before: a put, a reserve, a try, or the beginning of a batch.

  module _ (call : Call) (other : is_finish call ≡ false) (untold : s.end ≡ None) (none : fetched_by s.pending ≡ [])
      (fetches_none : (id : UnitId) → fetches id call ≡ false) where
    -- it is answered, and no unit comes
    plain : (accepted : ℕ) (end : Option End) (batch : Option CommonRef) (answer : Answer) → end ≡ end_of answer None
        → is_some batch ≡ goes_on call answer (is_some s.batch) → answers_call call answer ≡ true → IsAnswer s.transcript call answer
        → ((note : UnitNote) → answer ≡ answers.Granted note → ⊥)
        → AreGranted (plus s.transcript call (Some answer)) s.handles waits_for.Nothing
        → Tells s stamp call (Some answer) (answered (record heard { accepted = accepted; end = end; batch = batch }) call answer)
    plain accepted end batch answer told on kind known no_note first =
        ends_tells s r going stamp later call s.next s.puts accepted end batch s.handles s.finished answer (going ∙ sym other)
        (told ∙ sym (ap (λ o. first_end o (end_of answer None)) untold)) on
        (held_same s.transcript s.handles call answer (held_idle none) no_note fetches_none)
        (record { kind = kind; known = known; again = λ heeds. rw (r.told ∙ untold) tt }) first

    -- a unit is granted
    granted_tells : (note : UnitNote) → is_granted note.id s.transcript ≡ false → is_fetched note.id s.transcript ≡ false
        → answers_call call (answers.Granted note) ≡ true → IsAnswer s.transcript call (answers.Granted note)
        → ((on : Bool) → on ≡ goes_on call (answers.Granted note) on)
        → Goes call (ends (record heard { handles = s.handles ++ note ∷ [] }) [] call (answers.Granted note))
    granted_tells note ungranted unfetched kind known on first =
        let absent = not_held s note.id r.first ungranted in
        ends_tells s r going stamp later call s.next s.puts s.accepted s.end s.batch (s.handles ++ note ∷ []) s.finished
        (answers.Granted note) (going ∙ sym other) (first_none s.end) (on (is_some s.batch))
        (held_granted s.transcript s.handles call note (held_idle none) absent unfetched fetches_none)
        (record { kind = kind; known = known; again = λ heeds. rw (r.told ∙ untold) tt }) first

    -- the next server is asked
    next_tells : (p : Pending) → pending_call p ≡ Some call → fetched_by p ≡ [] → AreGranted s.transcript s.handles p
        → IsFitting s.transcript s.handles p → Tells s stamp call None (record heard { pending = p })
    next_tells p pending still first fits =
        waits_tells s r going stamp later call p s.next s.puts s.handles pending
        (subst (λ l. AreHeld s.transcript (s.handles ++ l)) (none ∙ sym still) r.held) first fits (λ heeds. untold)

  refused_tells : (unit : Unit) (first : Server) (tried : ℕ) (more : Bool) → s.end ≡ None → fetched_by s.pending ≡ []
      → Goes (call_of unit) (refused heard unit first tried more)
  refused_tells unit first tried true untold none granted =
      next_tells (call_of unit) refl untold none (λ id. refl) (waits_for.Put unit first (tried + 1)) refl refl granted tt
  refused_tells unit first tried false untold none granted =
      plain (call_of unit) refl untold none (λ id. refl) s.accepted s.end s.batch answers.Rejected untold refl refl tt
      (λ note e. absurd (cc))
      granted

  put_tells : (unit : Unit) (first : Server) (tried : ℕ) (m : Message) (z : ClientResponse) → s.end ≡ None → fetched_by s.pending ≡ []
      → answer_call heard (waits_for.Put unit first tried) from m ≡ Some z → Goes (call_of unit) z
  put_tells unit first tried (tells.Accepted to) z untold none is =
      subst (Goes (call_of unit)) (if_both _ _ z is).1
      (plain (call_of unit) refl untold none (λ id. refl) (s.accepted + 1) s.end s.batch answers.Fine untold refl refl tt
      (λ note e. absurd (cc)))
  put_tells unit first tried (tells.Full to charge) z untold none is =
      subst (Goes (call_of unit)) (if_both _ _ z is).1
      (refused_tells unit first tried (nat_lt (tried + 1) s.config.servers) untold none)
  put_tells unit first tried (tells.Ended to end) z untold none is =
      subst (Goes (call_of unit)) (if_both _ _ z is).1
      (plain (call_of unit) refl untold none (λ id. refl) s.accepted (Some end) s.batch (answers.Ended end) refl refl refl tt
      (λ note e. absurd (cc)))
  put_tells unit first tried _ z untold none is = absurd (cc)

  reserve_tells : (request : ℕ) (types : Option (List WorkType)) (m : Message) (z : ClientResponse) → s.end ≡ None
      → fetched_by s.pending ≡ [] → answer_call heard (waits_for.Reserve request types) from m ≡ Some z → Goes (calls_to.Reserve types) z
  reserve_tells request types (tells.Ended to end) z untold none is =
      subst (Goes (calls_to.Reserve types)) (if_both _ _ z is).1
      (plain (calls_to.Reserve types) refl untold none (λ id. refl) s.accepted (Some end) s.batch (answers.Ended end) refl refl refl tt
      (λ note e. absurd (cc)))
  reserve_tells request types (tells.Grant to note) z untold none is =
      let gave = if_both _ _ z is in
      let new = (note_is heard note).0 (and_parts _ _ gave.0).1 in
      subst (Goes (calls_to.Reserve types)) gave.1
      (granted_tells (calls_to.Reserve types) refl untold none (λ id. refl) note new.ungranted new.unfetched refl (
        new.ungranted,
        new.unfetched,
      )
      (λ on. refl))
  reserve_tells request types _ z untold none is = absurd (cc)

  -- A unit is granted, or the next server is asked, or each has looked; or an end is told.

  looked_tells : (request : ℕ) (types : Option (List WorkType)) (tried : ℕ) (more : Bool) → s.end ≡ None → fetched_by s.pending ≡ []
      → Goes (calls_to.Try types) (looked heard request types tried more)
  looked_tells request types tried true untold none granted =
      next_tells (calls_to.Try types) refl untold none (λ id. refl) (waits_for.Try request types (tried + 1)) refl refl granted tt
  looked_tells request types tried false untold none granted =
      plain (calls_to.Try types) refl untold none (λ id. refl) s.accepted s.end s.batch answers.NoCurrent untold refl refl tt
      (λ note e. absurd (cc)) granted

  look_tells : (request : ℕ) (types : Option (List WorkType)) (tried : ℕ) (m : Message) (z : ClientResponse) → s.end ≡ None
      → fetched_by s.pending ≡ [] → answer_call heard (waits_for.Try request types tried) from m ≡ Some z → Goes (calls_to.Try types) z
  look_tells request types tried (tells.Nothing to) z untold none is =
      subst (Goes (calls_to.Try types)) (if_both _ _ z is).1
      (looked_tells request types tried (nat_lt (tried + 1) s.config.servers) untold none)
  look_tells request types tried (tells.Ended to end) z untold none is =
      subst (Goes (calls_to.Try types)) (if_both _ _ z is).1
      (plain (calls_to.Try types) refl untold none (λ id. refl) s.accepted (Some end) s.batch (answers.Ended end) refl refl refl tt
      (λ note e. absurd (cc)))
  look_tells request types tried (tells.Grant to note) z untold none is =
      let gave = if_both _ _ z is in
      let new = (note_is heard note).0 (and_parts _ _ gave.0).1 in
      subst (Goes (calls_to.Try types)) gave.1
      (granted_tells (calls_to.Try types) refl untold none (λ id. refl) note new.ungranted new.unfetched refl (new.ungranted, new.unfetched)
      (λ on. refl))
  look_tells request types tried _ z untold none is = absurd (cc)

  -- The common part is kept, or refused; or an end is told.

  part_refused_tells : (request : ℕ) (common : List ℕ) (first : Server) (tried : ℕ) (more : Bool) → s.end ≡ None
      → fetched_by s.pending ≡ [] → Goes (calls_to.BeginBatch common) (part_refused heard request common first tried more)
  part_refused_tells request common first tried true untold none granted =
      next_tells (calls_to.BeginBatch common) refl untold none (λ id. refl) (waits_for.Keep request common first (tried + 1)) refl
      refl granted tt
  part_refused_tells request common first tried false untold none granted =
      plain (calls_to.BeginBatch common) refl untold none (λ id. refl) s.accepted s.end s.batch answers.Rejected untold refl refl tt
      (λ note e. absurd (cc)) granted

  keep_tells : (request : ℕ) (common : List ℕ) (first : Server) (tried : ℕ) (m : Message) (z : ClientResponse) → s.end ≡ None
      → fetched_by s.pending ≡ [] → answer_call heard (waits_for.Keep request common first tried) from m ≡ Some z
      → Goes (calls_to.BeginBatch common) z
  keep_tells request common first tried (tells.Accepted to) z untold none is =
      let batch = begun_batch heard request common (asked heard first tried) in
      subst (Goes (calls_to.BeginBatch common)) (if_both _ _ z is).1
      (plain (calls_to.BeginBatch common) refl untold none (λ id. refl) 0 s.end (Some batch) answers.Fine untold refl refl tt
      (λ note e. absurd (cc)))
  keep_tells request common first tried (tells.Full to charge) z untold none is =
      subst (Goes (calls_to.BeginBatch common)) (if_both _ _ z is).1
      (part_refused_tells request common first tried (nat_lt (tried + 1) s.config.servers) untold none)
  keep_tells request common first tried (tells.Ended to end) z untold none is =
      subst (Goes (calls_to.BeginBatch common)) (if_both _ _ z is).1
      (plain (calls_to.BeginBatch common) refl untold none (λ id. refl) s.accepted (Some end) s.batch (answers.Ended end) refl refl refl tt
      (λ note e. absurd (cc)))
  keep_tells request common first tried _ z untold none is = absurd (cc)

  close_tells : (request : ℕ) (batch : CommonRef) (m : Message) (z : ClientResponse) → fetched_by s.pending ≡ []
      → answer_call heard (waits_for.Close request batch) from m ≡ Some z → Goes calls_to.EndBatch z
  close_tells request batch (tells.Closed to) z none is =
      subst (Goes calls_to.EndBatch) (if_both _ _ z is).1
      (λ first. ends_tells s r going stamp later calls_to.EndBatch s.next s.puts s.accepted s.end None s.handles s.finished
      answers.Fine going
      (first_none s.end) refl
      (held_same s.transcript s.handles calls_to.EndBatch answers.Fine (held_idle none) (λ note e. absurd (cc)) (λ id. refl))
      (record { kind = refl; known = tt; again = λ heeds. absurd (cc) }) first)
  close_tells request batch _ z none is = absurd (cc)

  count_tells : (request : ℕ) (kind : WorkType) (m : Message) (z : ClientResponse) → fetched_by s.pending ≡ []
      → answer_call heard (waits_for.Count request kind) from m ≡ Some z → Goes (calls_to.Count kind) z
  count_tells request kind (tells.Counted to info) z none is =
      subst (Goes (calls_to.Count kind)) (if_both _ _ z is).1
      (λ first. ends_tells s r going stamp later (calls_to.Count kind) s.next s.puts s.accepted s.end s.batch s.handles s.finished
      (answers.Info info) going (first_none s.end) refl
      (held_same s.transcript s.handles (calls_to.Count kind) (answers.Info info) (held_idle none) (λ note e. absurd (cc)) (λ id. refl))
      (record { kind = refl; known = tt; again = λ heeds. absurd (cc) }) first)
  count_tells request kind _ z none is = absurd (cc)

  -- The next server is told that the problem is done, or each has heard it.

  told_on_tells : (request tried : ℕ) (more : Bool) → fetched_by s.pending ≡ [] → Goes calls_to.SetDone (told_done heard request tried more)
  told_on_tells request tried true none first =
      waits_tells s r going stamp later calls_to.SetDone (waits_for.SetDone request (tried + 1)) s.next s.puts s.handles refl
      (subst (λ l. AreHeld s.transcript (s.handles ++ l)) none r.held) first tt (λ heeds. absurd (cc))
  told_on_tells request tried false none first =
      ends_tells s r going stamp later calls_to.SetDone s.next s.puts s.accepted s.end s.batch s.handles s.finished answers.Fine going
      (first_none s.end) refl
      (held_same s.transcript s.handles calls_to.SetDone answers.Fine (held_idle none) (λ note e. absurd (cc)) (λ id. refl))
      (record { kind = refl; known = tt; again = λ heeds. absurd (cc) }) first

  done_tells : (request tried : ℕ) (m : Message) (z : ClientResponse) → fetched_by s.pending ≡ []
      → answer_call heard (waits_for.SetDone request tried) from m ≡ Some z → Goes calls_to.SetDone z
  done_tells request tried (tells.DoneHeard to) z none is =
      subst (Goes calls_to.SetDone) (if_both _ _ z is).1 (told_on_tells request tried (nat_lt (tried + 1) s.config.servers) none)
  done_tells request tried _ z none is = absurd (cc)

  -- All bytes of a unit have come, or its own, and the common ones are asked for.

  body_tells : (note : UnitNote) (body : List ℕ) → fetched_by s.pending ≡ note ∷ [] → IsTaken s.transcript s.handles note
      → length body ≡ total_of note
      → AreGranted (plus s.transcript (calls_to.Fetch note.id) (Some (answers.Body body))) s.handles waits_for.Nothing
      → Tells s stamp (calls_to.Fetch note.id) (Some (answers.Body body)) (answered heard (calls_to.Fetch note.id) (answers.Body body))
  body_tells note body waits fits long first =
      ends_tells s r going stamp later (calls_to.Fetch note.id) s.next s.puts s.accepted s.end s.batch s.handles s.finished
      (answers.Body body)
      going (first_none s.end) refl
      (held_fetched s.transcript s.handles note (answers.Body body) (λ n e. absurd (cc))
      (subst (λ l. AreHeld s.transcript (s.handles ++ l)) waits r.held) fits.gone)
      (record {
        kind = refl;
        known = λ n g same. long ∙ sym (ap total_of (fits.only n g same));
        again = λ heeds. absurd (cc);
      })
      first

  own_tells : (request : ℕ) (note : UnitNote) (body : List ℕ) (common : Option CommonRef) → note.common ≡ common
      → fetched_by s.pending ≡ note ∷ [] → IsTaken s.transcript s.handles note → length body ≡ note.length
      → Goes (calls_to.Fetch note.id) (own_came heard request note body common)
  own_tells request note body None none waits fits long first =
      let whole : total_of note ≡ note.length = rw none (omega arith) in
      body_tells note body waits fits (long ∙ sym whole) first
  own_tells request note body (Some common) some waits fits long first =
      waits_tells s r going stamp later (calls_to.Fetch note.id) (waits_for.Common request note common body) s.next s.puts s.handles refl
      (subst (λ l. AreHeld s.transcript (s.handles ++ l)) waits r.held) first (fits, some, long) (λ heeds. absurd (cc))

  fetch_tells : (request : ℕ) (note : UnitNote) (m : Message) (z : ClientResponse) → fetched_by s.pending ≡ note ∷ []
      → IsTaken s.transcript s.handles note → answer_call heard (waits_for.Fetch request note) from m ≡ Some z
      → Goes (calls_to.Fetch note.id) z
  fetch_tells request note (tells.Bytes to body) z waits fits is =
      let gave = if_both _ _ z is in
      let long : length body ≡ note.length = eqb-true (length body) note.length (and_parts _ _ gave.0).1 in
      subst (Goes (calls_to.Fetch note.id)) gave.1 (own_tells request note body note.common refl waits fits long)
  fetch_tells request note _ z waits fits is = absurd (cc)

  common_tells : (request : ℕ) (note : UnitNote) (common : CommonRef) (own : List ℕ) (m : Message) (z : ClientResponse)
      → fetched_by s.pending ≡ note ∷ [] → IsFitting s.transcript s.handles (waits_for.Common request note common own)
      → answer_call heard (waits_for.Common request note common own) from m ≡ Some z → Goes (calls_to.Fetch note.id) z
  common_tells request note common own (tells.Bytes to body) z waits fits is =
      let gave = if_both _ _ z is in
      let long : length body ≡ common.length = eqb-true (length body) common.length (and_parts _ _ gave.0).1 in
      let whole : total_of note ≡ common.length + note.length = rw fits.1 (omega arith) in
      let all : length (body ++ own) ≡ total_of note = omega (arith, length-append body own, long, fits.2, whole) in
      subst (Goes (calls_to.Fetch note.id)) gave.1 (body_tells note (body ++ own) waits fits.0 all)
  common_tells request note common own _ z waits fits is = absurd (cc)

  -- by each answer that is awaited
  answer_tells : (p : Pending) (m : Message) (z : ClientResponse) (call : Call) → s.pending ≡ p → IsFitting s.transcript s.handles p
      → pending_call p ≡ Some call → (heeds_end call ≡ true → s.end ≡ None) → answer_call heard p from m ≡ Some z → Goes call z
  answer_tells waits_for.Nothing m z call waits fits pending untold is = absurd (cc)
  answer_tells (waits_for.Put unit first tried) m z call waits fits pending untold is =
      let same : call_of unit ≡ call = some_is pending in
      subst (λ (k : Call). Goes k z) same
      (put_tells unit first tried m z (untold (ap heeds_end (sym same))) (ap fetched_by waits) is)
  answer_tells (waits_for.Reserve request types) m z call waits fits pending untold is =
      let same : calls_to.Reserve types ≡ call = some_is pending in
      subst (λ (k : Call). Goes k z) same
      (reserve_tells request types m z (untold (ap heeds_end (sym same))) (ap fetched_by waits) is)
  answer_tells (waits_for.Try request types tried) m z call waits fits pending untold is =
      let same : calls_to.Try types ≡ call = some_is pending in
      subst (λ (k : Call). Goes k z) same
      (look_tells request types tried m z (untold (ap heeds_end (sym same))) (ap fetched_by waits) is)
  answer_tells (waits_for.Fetch request note) m z call waits fits pending untold is =
      subst (λ (k : Call). Goes k z) (some_is pending) (fetch_tells request note m z (ap fetched_by waits) fits is)
  answer_tells (waits_for.Common request note common own) m z call waits fits pending untold is =
      subst (λ (k : Call). Goes k z) (some_is pending) (common_tells request note common own m z (ap fetched_by waits) fits is)
  answer_tells (waits_for.Keep request common first tried) m z call waits fits pending untold is =
      let same : calls_to.BeginBatch common ≡ call = some_is pending in
      subst (λ (k : Call). Goes k z) same
      (keep_tells request common first tried m z (untold (ap heeds_end (sym same))) (ap fetched_by waits) is)
  answer_tells (waits_for.Close request batch) m z call waits fits pending untold is =
      subst (λ (k : Call). Goes k z) (some_is pending) (close_tells request batch m z (ap fetched_by waits) is)
  answer_tells (waits_for.Count request kind) m z call waits fits pending untold is =
      subst (λ (k : Call). Goes k z) (some_is pending) (count_tells request kind m z (ap fetched_by waits) is)
  answer_tells (waits_for.SetDone request tried) m z call waits fits pending untold is =
      subst (λ (k : Call). Goes k z) (some_is pending) (done_tells request tried m z (ap fetched_by waits) is)

pub letter_tells : (s : ClientModel) (from : Server) (letter : Letter) (x : Made) (call : Call) → hear s from letter ≡ Some x
    → Remembers s → pending_call s.pending ≡ Some call → Tells s (letter_stamp s letter) call x.answer x.state
letter_tells s from letter x call is r pending = by_test (not s.finished && nat_lt letter.stamp stamp_limit) refl is
  where
    by_test : (t : Bool) → (not s.finished && nat_lt letter.stamp stamp_limit) ≡ t
        → cond t (option_map made (answer_call (ticked s (letter_stamp s letter)) s.pending from letter.message)) None ≡ Some x
        → Tells s (letter_stamp s letter) call x.answer x.state
    by_test false none gave = absurd (cc)
    by_test true may gave =
        let going = not-true s.finished (and_parts _ _ may).0 in
        let y = map_is made (answer_call (ticked s (letter_stamp s letter)) s.pending from letter.message) x gave in
        subst (λ (m : Made). Tells s (letter_stamp s letter) call m.answer m.state) y.2
        (made_tells s (letter_stamp s letter) call y.0
        (answer_tells s r going (letter_stamp s letter) (omega arith) from s.pending letter.message y.0 call refl r.fits pending
        (λ heeds. r.untold call pending heeds) y.1
        (answer_keeps (ticked s (letter_stamp s letter)) s.pending from letter.message y.0 refl y.1 r.first)))

-- a letter is heard only while a call is pending
pub letter_awaited : (s : ClientModel) (from : Server) (letter : Letter) → IsSome (hear s from letter) → IsSome (pending_call s.pending)
letter_awaited s from letter there = by_pending s.pending refl
  where
    nothing : Option Made
    nothing = None

    none : (t : Bool) → IsSome (cond t nothing None) → ⊥
    none true is = absurd (cc)
    none false is = absurd (cc)

    by_pending : (p : Pending) → s.pending ≡ p → IsSome (pending_call p)
    by_pending waits_for.Nothing idle =
        absurd (none (not s.finished && nat_lt letter.stamp stamp_limit) (subst (λ (p : Pending).
        IsSome (cond (not s.finished && nat_lt letter.stamp stamp_limit)
        (option_map made (answer_call (ticked s (letter_stamp s letter)) p from letter.message)) None)) idle there))
    by_pending _ is = refl
