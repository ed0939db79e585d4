-- What a rank does with a letter that it hears.
use Rattle.core_law.proofs.Notes.{notes_in}
use Rattle.rank_client.specs.Agreement.{note_coming}
use Rattle.std.proofs.Common.{max, ◌≡◌, ◌<◌, ℕ, ◌+◌, ◌^◌, Bool, true, false, ◌&&◌, not, List, [], ◌∷◌, ◌++◌, length, Option, Some, None}
use Rattle.std.proofs.Common.{refl, ap, ◌∙◌, subst, arith, append-nil}
use Rattle.std.specs.Prelude.{◌==◌, All, nat_lt, Contains}
use Rattle.std.proofs.lemmas.Bool.{and_parts, eqb-true, ltb-true, not-true}
use Rattle.std.proofs.lemmas.List.Elements.{All-push, All-contains_itself, All-same}
use Rattle.std.proofs.lemmas.Nat.{mod_below}
use Rattle.adlb_unit.specs.Targets.{home}
use Rattle.adlb_unit.specs.declared.configs.Config.{Config}
use Rattle.adlb_unit.specs.declared.letters.Letter.{Letter}
use Rattle.adlb_unit.specs.declared.messages.Message.{Message}
use Rattle.adlb_unit.specs.declared.messages.Message.TheVariants as tells
use Rattle.adlb_unit.specs.declared.names.Rank.{Rank}
use Rattle.adlb_unit.specs.declared.names.CommonRef.{CommonRef}
use Rattle.adlb_unit.specs.declared.names.Server.{Server}
use Rattle.adlb_unit.specs.declared.names.WorkType.{WorkType}
use Rattle.adlb_unit.specs.declared.notes.End.{End}
use Rattle.adlb_unit.specs.declared.notes.UnitNote.{UnitNote}
use Rattle.adlb_unit.specs.declared.units.Unit.{Unit}
use Rattle.bag_ledger.specs.declared.entries.Call.{Call}
use Rattle.bag_ledger.specs.declared.entries.Entry.{Entry}
use Rattle.rank_client.specs.declared.pendings.Pending.{Pending}
use Rattle.rank_client.specs.declared.pendings.Pending.TheVariants as waits_for
use Rattle.rank_client.specs.Rules.{ClientResponse, answer_call, asked, begun_batch, ends, expects_note, hear_close, hear_common}
use Rattle.rank_client.specs.Rules.{hear_count, hear_done, hear_fetch, hear_keep, hear_look, hear_put, hear_reserve, is_at_server, is_for}
use Rattle.rank_client.specs.Rules.{is_idle, looked, looks_at, own_came, part_refused, refused, told_done}
use Rattle.rank_client.specs.State.{ClientModel}
use Rattle.rank_client.specs.Step.{hear, letter_stamp, made, ticked}
use Rattle.core_law.specs.OnLinks.{Each}
use Rattle.adlb_unit.specs.Kinds.{is_to_rank}
use Rattle.core_law.specs.Letters.{request_of}
use Rattle.core_law.specs.Own.{IsAt, IsCall, IsClient, IsNote}
use Rattle.core_law.proofs.StepResults.{OnSome, if_some, mapped_some}
use Rattle.bag_ledger.specs.declared.entries.Answer.{Answer}
use Rattle.core_law.proofs.RankShapes.{ChangesRank, Heard, It_asks, It_rests}

-- A rank that has not finished, in an event of this stamp.
module _ (run : Config) (me : Rank) (s : ClientModel) (own : IsClient run me s) (stamp : ℕ) (later : s.clock < stamp)
    (going : s.finished ≡ false)
  where
    abbrev now : ClientModel
    now = ticked s stamp

    abbrev Hears : Message → Option ClientResponse → Type 0
    Hears m o = OnSome o (λ z. Heard run me s m (made z))

    at_is : (o : Option CommonRef) → is_at_server s o ≡ true → IsAt s.config o
    at_is None is = tt
    at_is (Some c) is = ltb-true c.server.0 s.config.servers is

    known : (note : UnitNote) → expects_note now note ≡ true → IsNote s.config note
    known note is =
        let there = and_parts (nat_lt note.server.0 s.config.servers) (is_at_server s note.common) (and_parts _ _ (and_parts _ _ is).0).0 in
        record { there = ltb-true note.server.0 s.config.servers there.0; common = at_is note.common there.1 }

    -- the call that was pending
    call_is : (p : Pending) → s.pending ≡ p → IsCall s p
    call_is p is = subst (IsCall s) is own.call

    -- it has ended, with this end, batch, count of accepted units and notes
    ended : (p : Pending) (m : Message) (end : Option End) (batch : Option CommonRef) (accepted : ℕ) (handles : List UnitNote)
        (es : List Entry)
        (call : Call) (answer : Answer)
        → s.pending ≡ p → is_to_rank m ≡ true → is_idle p ≡ false → request_of m + 1 ≡ s.next → Each (ChangesRank s.me) es
        → IsAt s.config batch → All (IsNote s.config) handles → All (Contains (s.handles ++ note_coming p (Some m))) handles
        → Heard run me s m (made (ends (record now { end = end; batch = batch; accepted = accepted; handles = handles }) es call answer))
    ended p m end batch accepted handles es call answer is kind busy number changes at notes there = record {
      kind = kind;
      busy = ap is_idle is ∙ busy;
      number = number;
      going = going;
      next = refl;
      own = record { config = own.config; me = own.me; call = tt; rests = λ is. refl; batch = at; notes = notes };
      entries = changes;
      notes = rw is (All-same (Contains (s.handles ++ note_coming p (Some m))) (handles ++ []) handles (append-nil handles) there);
      made = record {
        rule = ends (record now { end = end; batch = batch; accepted = accepted; handles = handles }) es call answer;
        is = refl;
        sent = refl;
        later = later;
      };
      after = It_rests (record { pending = refl; finished = going; sends = refl });
      stays = going;
    }

    -- the letter answers the request
    number : (request : ℕ) (at from : Server) (to : ℕ) → is_for request at from to ≡ true → request + 1 ≡ s.next → to + 1 ≡ s.next
    number request at from to is call = let e = eqb-true to request (and_parts (to == request) (from.0 == at.0) is).0 in omega arith

    refused_heard : (unit : Unit) (first : Server) (tried to charge : ℕ) (t : Bool) → nat_lt (tried + 1) s.config.servers ≡ t
        → s.pending ≡ waits_for.Put unit first tried → to + 1 ≡ s.next
        → Heard run me s (tells.Full to charge) (made (refused now unit first tried t))
    refused_heard unit first tried to charge true more is number =
        let was = (call_is (waits_for.Put unit first tried) is).0 in
        let some : 0 < s.config.servers = s.config.servers_within.0 in
        record {
          kind = refl;
          busy = ap is_idle is;
          number = number;
          going = going;
          next = refl;
          own = record {
            config = own.config;
            me = own.me;
            call = (
              record { rank = was.rank; call = was.call; batch = was.batch; size = was.size; target = was.target },
              ltb-true (tried + 1) s.config.servers more,
            );
            rests = λ is. absurd (cc (is, going));
            batch = own.batch;
            notes = own.notes;
          };
          entries = tt;
          notes = rw is (All-contains_itself (s.handles ++ []));
          made = record { rule = refused now unit first tried true; is = refl; sent = refl; later = later };
          after = It_asks (record {
            to = asked s first (tried + 1);
            letter = _;
            asked = (refl, refl);
            request = refl;
            number = was.call;
            busy = refl;
            within = mod_below (first.0 + (tried + 1)) s.config.servers some;
            finished = going;
            sends = refl;
          });
          stays = going;
        }
    refused_heard unit first tried to charge false more is number =
        ended (waits_for.Put unit first tried) (tells.Full to charge) s.end s.batch s.accepted s.handles _ _ _ is refl refl number
        ((refl, λ b. (_, _, refl, λ is. is)), tt) own.batch own.notes
        (notes_in s.handles [])

    put_heard : (unit : Unit) (first : Server) (tried : ℕ) (from : Server) (m : Message) → s.pending ≡ waits_for.Put unit first tried
        → Hears m (hear_put now unit first tried from m)
    put_heard unit first tried from (tells.Accepted to) is =
        if_some (λ z. Heard run me s (tells.Accepted to) (made z)) (is_for unit.id.number (asked s first tried) from to) _
        (λ for. ended (waits_for.Put unit first tried) (tells.Accepted to) s.end s.batch (s.accepted + 1) s.handles [] _ _ is refl refl
        (number unit.id.number (asked s first tried) from to for (call_is (waits_for.Put unit first tried) is).0.call) tt
        own.batch own.notes
        (notes_in s.handles []))
    put_heard unit first tried from (tells.Full to charge) is =
        if_some (λ z. Heard run me s (tells.Full to charge) (made z)) (is_for unit.id.number (asked s first tried) from to) _
        (λ for. refused_heard unit first tried to charge (nat_lt (tried + 1) s.config.servers) refl is
        (number unit.id.number (asked s first tried) from to for (call_is (waits_for.Put unit first tried) is).0.call))
    put_heard unit first tried from (tells.Ended to end) is =
        if_some (λ z. Heard run me s (tells.Ended to end) (made z)) (is_for unit.id.number (asked s first tried) from to) _
        (λ for. ended (waits_for.Put unit first tried) (tells.Ended to end) (Some end) s.batch s.accepted s.handles [] _ _ is refl refl
        (number unit.id.number (asked s first tried) from to for (call_is (waits_for.Put unit first tried) is).0.call) tt
        own.batch own.notes
        (notes_in s.handles []))
    put_heard unit first tried from _ is = tt

    reserve_heard : (request : ℕ) (types : Option (List WorkType)) (from : Server) (m : Message)
        → s.pending ≡ waits_for.Reserve request types → Hears m (hear_reserve now request types from m)
    reserve_heard request types from (tells.Grant to note) is =
        if_some (λ z. Heard run me s (tells.Grant to note) (made z)) (is_for request (home s.config s.me) from to && expects_note now note)
        _
        (λ for. let parts = and_parts (is_for request (home s.config s.me) from to) (expects_note now note) for in
        ended (waits_for.Reserve request types) (tells.Grant to note) s.end s.batch s.accepted (s.handles ++ note ∷ []) [] _ _ is refl refl
        (number request (home s.config s.me) from to parts.0 (call_is (waits_for.Reserve request types) is)) tt own.batch
        (All-push (IsNote s.config) s.handles note own.notes (known note parts.1)) (All-contains_itself (s.handles ++ note ∷ [])))
    reserve_heard request types from (tells.Ended to end) is =
        if_some (λ z. Heard run me s (tells.Ended to end) (made z)) (is_for request (home s.config s.me) from to) _
        (λ for. ended (waits_for.Reserve request types) (tells.Ended to end) (Some end) s.batch s.accepted s.handles [] _ _ is refl refl
        (number request (home s.config s.me) from to for (call_is (waits_for.Reserve request types) is)) tt own.batch own.notes
        (notes_in s.handles []))
    reserve_heard request types from _ is = tt

    looked_heard : (request : ℕ) (types : Option (List WorkType)) (tried to : ℕ) (t : Bool) → nat_lt (tried + 1) s.config.servers ≡ t
        → s.pending ≡ waits_for.Try request types tried → to + 1 ≡ s.next
        → Heard run me s (tells.Nothing to) (made (looked now request types tried t))
    looked_heard request types tried to true more is number =
        let was = call_is (waits_for.Try request types tried) is in
        let some : 0 < s.config.servers = s.config.servers_within.0 in
        record {
          kind = refl;
          busy = ap is_idle is;
          number = number;
          going = going;
          next = refl;
          own = record {
            config = own.config;
            me = own.me;
            call = (was.0, ltb-true (tried + 1) s.config.servers more);
            rests = λ is. absurd (cc (is, going));
            batch = own.batch;
            notes = own.notes;
          };
          entries = tt;
          notes = rw is (All-contains_itself (s.handles ++ []));
          made = record { rule = looked now request types tried true; is = refl; sent = refl; later = later };
          after = It_asks (record {
            to = looks_at s (tried + 1);
            letter = _;
            asked = (refl, refl);
            request = refl;
            number = was.0;
            busy = refl;
            within = mod_below ((home s.config s.me).0 + (tried + 1)) s.config.servers some;
            finished = going;
            sends = refl;
          });
          stays = going;
        }
    looked_heard request types tried to false more is number =
        ended (waits_for.Try request types tried) (tells.Nothing to) s.end s.batch s.accepted s.handles _ _ _ is refl refl number
        ((refl, λ b. (_, _, refl, λ is. is)), tt) own.batch own.notes (notes_in s.handles [])

    look_heard : (request : ℕ) (types : Option (List WorkType)) (tried : ℕ) (from : Server) (m : Message)
        → s.pending ≡ waits_for.Try request types tried → Hears m (hear_look now request types tried from m)
    look_heard request types tried from (tells.Grant to note) is =
        if_some (λ z. Heard run me s (tells.Grant to note) (made z)) (is_for request (looks_at s tried) from to && expects_note now note) _
        (λ for. let parts = and_parts (is_for request (looks_at s tried) from to) (expects_note now note) for in
        ended (waits_for.Try request types tried) (tells.Grant to note) s.end s.batch s.accepted (s.handles ++ note ∷ []) [] _
        _ is refl refl
        (number request (looks_at s tried) from to parts.0 (call_is (waits_for.Try request types tried) is).0) tt own.batch
        (All-push (IsNote s.config) s.handles note own.notes (known note parts.1)) (All-contains_itself (s.handles ++ note ∷ [])))
    look_heard request types tried from (tells.Nothing to) is =
        if_some (λ z. Heard run me s (tells.Nothing to) (made z)) (is_for request (looks_at s tried) from to) _
        (λ for. looked_heard request types tried to (nat_lt (tried + 1) s.config.servers) refl is
        (number request (looks_at s tried) from to for (call_is (waits_for.Try request types tried) is).0))
    look_heard request types tried from (tells.Ended to end) is =
        if_some (λ z. Heard run me s (tells.Ended to end) (made z)) (is_for request (looks_at s tried) from to) _
        (λ for. ended (waits_for.Try request types tried) (tells.Ended to end) (Some end) s.batch s.accepted s.handles [] _ _ is refl refl
        (number request (looks_at s tried) from to for (call_is (waits_for.Try request types tried) is).0) tt own.batch own.notes
        (notes_in s.handles []))
    look_heard request types tried from _ is = tt

    own_heard : (request to : ℕ) (note : UnitNote) (own_bytes : List ℕ) (o : Option CommonRef) → note.common ≡ o
        → s.pending ≡ waits_for.Fetch request note → to + 1 ≡ s.next
        → Heard run me s (tells.Bytes to own_bytes) (made (own_came now request note own_bytes o))
    own_heard request to note own_bytes None alone is number =
        ended (waits_for.Fetch request note) (tells.Bytes to own_bytes) s.end s.batch s.accepted s.handles [] _ _ is refl refl
        number tt own.batch
        own.notes (notes_in s.handles [])
    own_heard request to note own_bytes (Some common) shares is number =
        let was = call_is (waits_for.Fetch request note) is in
        let there : common.server.0 < s.config.servers = subst (IsAt s.config) shares was.1.common in
        record {
          kind = refl;
          busy = ap is_idle is;
          number = number;
          going = going;
          next = refl;
          own = record {
            config = own.config;
            me = own.me;
            call = (was.0, there);
            rests = λ is. absurd (cc (is, going));
            batch = own.batch;
            notes = own.notes;
          };
          entries = tt;
          notes = rw is (All-contains_itself (s.handles ++ []));
          made = record { rule = own_came now request note own_bytes (Some common); is = refl; sent = refl; later = later };
          after = It_asks (record {
            to = common.server;
            letter = _;
            asked = (refl, refl);
            request = refl;
            number = was.0;
            busy = refl;
            within = there;
            finished = going;
            sends = refl;
          });
          stays = going;
        }

    fetch_heard : (request : ℕ) (note : UnitNote) (from : Server) (m : Message) → s.pending ≡ waits_for.Fetch request note
        → Hears m (hear_fetch now request note from m)
    fetch_heard request note from (tells.Bytes to body) is =
        if_some (λ z. Heard run me s (tells.Bytes to body) (made z)) (is_for request note.server from to && (length body == note.length)) _
        (λ for. own_heard request to note body note.common refl is
        (number request note.server from to (and_parts (is_for request note.server from to) (length body == note.length) for).0
        (call_is (waits_for.Fetch request note) is).0))
    fetch_heard request note from _ is = tt

    common_heard : (request : ℕ) (note : UnitNote) (common : CommonRef) (own_bytes : List ℕ) (from : Server) (m : Message)
        → s.pending ≡ waits_for.Common request note common own_bytes → Hears m (hear_common now request note common own_bytes from m)
    common_heard request note common own_bytes from (tells.Bytes to body) is =
        if_some (λ z. Heard run me s (tells.Bytes to body) (made z))
        (is_for request common.server from to && (length body == common.length)) _
        (λ for. ended (waits_for.Common request note common own_bytes) (tells.Bytes to body) s.end s.batch s.accepted s.handles [] _
        _ is refl refl
        (number request common.server from to (and_parts (is_for request common.server from to) (length body == common.length) for).0
        (call_is (waits_for.Common request note common own_bytes) is).0) tt own.batch own.notes (notes_in s.handles []))
    common_heard request note common own_bytes from _ is = tt

    -- Batches.

    part_refused_heard : (request : ℕ) (common : List ℕ) (first : Server) (tried to charge : ℕ) (t : Bool)
        → nat_lt (tried + 1) s.config.servers ≡ t
        → s.pending ≡ waits_for.Keep request common first tried → to + 1 ≡ s.next
        → Heard run me s (tells.Full to charge) (made (part_refused now request common first tried t))
    part_refused_heard request common first tried to charge true more is number =
        let was = call_is (waits_for.Keep request common first tried) is in
        let some : 0 < s.config.servers = s.config.servers_within.0 in
        record {
          kind = refl;
          busy = ap is_idle is;
          number = number;
          going = going;
          next = refl;
          own = record {
            config = own.config;
            me = own.me;
            call = (was.0, was.1, was.2, ltb-true (tried + 1) s.config.servers more);
            rests = λ is. absurd (cc (is, going));
            batch = own.batch;
            notes = own.notes;
          };
          entries = tt;
          notes = rw is (All-contains_itself (s.handles ++ []));
          made = record { rule = part_refused now request common first tried true; is = refl; sent = refl; later = later };
          after = It_asks (record {
            to = asked s first (tried + 1);
            letter = _;
            asked = (refl, refl);
            request = refl;
            number = was.0;
            busy = refl;
            within = mod_below (first.0 + (tried + 1)) s.config.servers some;
            finished = going;
            sends = refl;
          });
          stays = going;
        }
    part_refused_heard request common first tried to charge false more is number =
        ended (waits_for.Keep request common first tried) (tells.Full to charge) s.end s.batch s.accepted s.handles _ _ _ is
        refl refl number
        ((refl, λ b. (_, _, refl, λ is. is)), tt) own.batch own.notes (notes_in s.handles [])

    keep_heard : (request : ℕ) (common : List ℕ) (first : Server) (tried : ℕ) (from : Server) (m : Message)
        → s.pending ≡ waits_for.Keep request common first tried → Hears m (hear_keep now request common first tried from m)
    keep_heard request common first tried from (tells.Accepted to) is =
        if_some (λ z. Heard run me s (tells.Accepted to) (made z)) (is_for request (asked s first tried) from to) _
        (λ for. let some : 0 < s.config.servers = s.config.servers_within.0 in
        ended (waits_for.Keep request common first tried) (tells.Accepted to) s.end
        (Some (begun_batch now request common (asked s first tried))) 0
        s.handles [] _ _ is refl refl
        (number request (asked s first tried) from to for (call_is (waits_for.Keep request common first tried) is).0) tt
        (mod_below (first.0 + tried) s.config.servers some) own.notes (notes_in s.handles []))
    keep_heard request common first tried from (tells.Full to charge) is =
        if_some (λ z. Heard run me s (tells.Full to charge) (made z)) (is_for request (asked s first tried) from to) _
        (λ for. part_refused_heard request common first tried to charge (nat_lt (tried + 1) s.config.servers) refl is
        (number request (asked s first tried) from to for (call_is (waits_for.Keep request common first tried) is).0))
    keep_heard request common first tried from (tells.Ended to end) is =
        if_some (λ z. Heard run me s (tells.Ended to end) (made z)) (is_for request (asked s first tried) from to) _
        (λ for. ended (waits_for.Keep request common first tried) (tells.Ended to end) (Some end) s.batch s.accepted s.handles [] _
        _ is refl refl
        (number request (asked s first tried) from to for (call_is (waits_for.Keep request common first tried) is).0) tt own.batch own.notes
        (notes_in s.handles []))
    keep_heard request common first tried from _ is = tt

    close_heard : (request : ℕ) (batch : CommonRef) (from : Server) (m : Message) → s.pending ≡ waits_for.Close request batch
        → Hears m (hear_close now request batch from m)
    close_heard request batch from (tells.Closed to) is =
        if_some (λ z. Heard run me s (tells.Closed to) (made z)) (is_for request batch.server from to) _
        (λ for. ended (waits_for.Close request batch) (tells.Closed to) s.end None s.accepted s.handles [] _ _ is refl refl
        (number request batch.server from to for (call_is (waits_for.Close request batch) is).0) tt tt own.notes (notes_in s.handles []))
    close_heard request batch from _ is = tt

    count_heard : (request : ℕ) (kind : WorkType) (from : Server) (m : Message) → s.pending ≡ waits_for.Count request kind
        → Hears m (hear_count now request kind from m)
    count_heard request kind from (tells.Counted to info) is =
        if_some (λ z. Heard run me s (tells.Counted to info) (made z)) (is_for request (home s.config s.me) from to) _
        (λ for. ended (waits_for.Count request kind) (tells.Counted to info) s.end s.batch s.accepted s.handles [] _ _ is refl refl
        (number request (home s.config s.me) from to for (call_is (waits_for.Count request kind) is)) tt own.batch own.notes
        (notes_in s.handles []))
    count_heard request kind from _ is = tt

    told_heard : (request tried to : ℕ) (t : Bool) → nat_lt (tried + 1) s.config.servers ≡ t → s.pending ≡ waits_for.SetDone request tried
        → to + 1 ≡ s.next → Heard run me s (tells.DoneHeard to) (made (told_done now request tried t))
    told_heard request tried to true more is number =
        let was = call_is (waits_for.SetDone request tried) is in
        let some : 0 < s.config.servers = s.config.servers_within.0 in
        record {
          kind = refl;
          busy = ap is_idle is;
          number = number;
          going = going;
          next = refl;
          own = record {
            config = own.config;
            me = own.me;
            call = (was.0, ltb-true (tried + 1) s.config.servers more);
            rests = λ is. absurd (cc (is, going));
            batch = own.batch;
            notes = own.notes;
          };
          entries = tt;
          notes = rw is (All-contains_itself (s.handles ++ []));
          made = record { rule = told_done now request tried true; is = refl; sent = refl; later = later };
          after = It_asks (record {
            to = looks_at s (tried + 1);
            letter = _;
            asked = (refl, refl);
            request = refl;
            number = was.0;
            busy = refl;
            within = mod_below ((home s.config s.me).0 + (tried + 1)) s.config.servers some;
            finished = going;
            sends = refl;
          });
          stays = going;
        }
    told_heard request tried to false more is number =
        ended (waits_for.SetDone request tried) (tells.DoneHeard to) s.end s.batch s.accepted s.handles [] _ _ is refl refl number tt
        own.batch own.notes (notes_in s.handles [])

    done_heard : (request tried : ℕ) (from : Server) (m : Message) → s.pending ≡ waits_for.SetDone request tried
        → Hears m (hear_done now request tried from m)
    done_heard request tried from (tells.DoneHeard to) is =
        if_some (λ z. Heard run me s (tells.DoneHeard to) (made z)) (is_for request (looks_at s tried) from to) _
        (λ for. told_heard request tried to (nat_lt (tried + 1) s.config.servers) refl is
        (number request (looks_at s tried) from to for (call_is (waits_for.SetDone request tried) is).0))
    done_heard request tried from _ is = tt

    call_heard : (p : Pending) (from : Server) (m : Message) → s.pending ≡ p → Hears m (answer_call now p from m)
    call_heard waits_for.Nothing from m is = tt
    call_heard (waits_for.Put unit first tried) from m is = put_heard unit first tried from m is
    call_heard (waits_for.Reserve request types) from m is = reserve_heard request types from m is
    call_heard (waits_for.Try request types tried) from m is = look_heard request types tried from m is
    call_heard (waits_for.Fetch request note) from m is = fetch_heard request note from m is
    call_heard (waits_for.Common request note common own_bytes) from m is = common_heard request note common own_bytes from m is
    call_heard (waits_for.Keep request common first tried) from m is = keep_heard request common first tried from m is
    call_heard (waits_for.Close request batch) from m is = close_heard request batch from m is
    call_heard (waits_for.Count request kind) from m is = count_heard request kind from m is
    call_heard (waits_for.SetDone request tried) from m is = done_heard request tried from m is

-- a letter that is heard changes a client as its rule says
pub hears : (run : Config) (me : Rank) (s : ClientModel) (from : Server) (letter : Letter) → IsClient run me s
    → OnSome (hear s from letter) (Heard run me s letter.message)
hears run me s from letter own =
    if_some (Heard run me s letter.message) (not s.finished && nat_lt letter.stamp (2 ^ 48)) _
    (λ is. let stamp : s.clock < max s.clock letter.stamp + 1 = omega arith in
    mapped_some (Heard run me s letter.message) made (answer_call (ticked s (letter_stamp s letter)) s.pending from letter.message)
    (call_heard run me s own (max s.clock letter.stamp + 1) stamp (not-true s.finished
    (and_parts (not s.finished) (nat_lt letter.stamp (2 ^ 48)) is).0)
    s.pending from letter.message refl))
