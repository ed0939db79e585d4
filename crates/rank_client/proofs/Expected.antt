-- Exactly the letters that are expected have a step.
use Rattle.std.proofs.Common.{◌≡◌, ◌↔◌, ◌==◌, ◌^◌, ℕ, Bool, true, false, ◌&&◌, not, cond, length, Option, Some, None, IsSome, refl, ap}
use Rattle.std.proofs.Common.{List}
use Rattle.std.specs.Prelude.{nat_lt}
use Rattle.std.specs.Option.{option_map}
use Rattle.std.proofs.lemmas.Bool.{and_from, and_parts, eq-eqb, eqb-true, lt-ltb, ltb-true, not-true, not_from_false}
use Rattle.adlb_unit.specs.Targets.{home}
use Rattle.adlb_unit.specs.declared.messages.Message.{Message}
use Rattle.adlb_unit.specs.declared.messages.Message.TheVariants as tells
use Rattle.adlb_unit.specs.declared.names.CommonRef.{CommonRef}
use Rattle.adlb_unit.specs.declared.names.Server.{Server}
use Rattle.adlb_unit.specs.declared.names.WorkType.{WorkType}
use Rattle.adlb_unit.specs.declared.notes.UnitNote.{UnitNote}
use Rattle.adlb_unit.specs.declared.units.Unit.{Unit}
use Rattle.bag_ledger.proofs.Tests.{same_server_is}
use Rattle.rank_client.specs.declared.pendings.Pending.{Pending}
use Rattle.rank_client.specs.declared.pendings.Pending.TheVariants as waits_for
use Rattle.rank_client.specs.Calls.{is_fetched, is_granted}
use Rattle.rank_client.specs.Expected.{AnswersClose, AnswersCommon, AnswersCount, AnswersDone, AnswersFetch, AnswersPut, AnswersReserve}
use Rattle.rank_client.specs.Expected.{AnswersTry, ExpectedAreHeard, IsAtServer, IsAwaited, IsFor, IsNewNote}
use Rattle.rank_client.specs.Rules.{ClientResponse, answer_call, asked, expects_note, hear_close, hear_common, hear_count, hear_done}
use Rattle.rank_client.specs.Rules.{hear_fetch, hear_keep, hear_look, hear_put, hear_reserve, is_at_server, is_for, looks_at}
use Rattle.rank_client.specs.State.{ClientModel}
use Rattle.rank_client.specs.Step.{letter_stamp, made, ticked}

-- Options.

if_some : {X : Type 0} (b : Bool) (x : X) → IsSome (cond b (Some x) None) → b ≡ true
if_some true x some = refl
if_some false x some = absurd (cc)

some_if : {X : Type 0} (b : Bool) (x : X) → b ≡ true → IsSome (cond b (Some x) None)
some_if b x is = rw is refl

where_some : {X : Type 0} (b : Bool) (o : Option X) → IsSome (cond b o None) → (b ≡ true) × IsSome o
where_some true o some = (refl, some)
where_some false o some = absurd (cc)

some_where : {X : Type 0} (b : Bool) (o : Option X) → b ≡ true → IsSome o → IsSome (cond b o None)
some_where b o is some = rw is some

map_some : {X Y : Type 0} (f : X → Y) (o : Option X) → IsSome (option_map f o) → IsSome o
map_some f None some = absurd (cc)
map_some f (Some x) some = refl

some_map : {X Y : Type 0} (f : X → Y) (o : Option X) → IsSome o → IsSome (option_map f o)
some_map f None some = absurd (cc)
some_map f (Some x) some = refl

-- Tests.

-- a request passes the test exactly if it is for this call and server
pub for_is : (request : ℕ) (at from : Server) (to : ℕ) → (is_for request at from to ≡ true) ↔ IsFor request at from to
for_is request at from to = (
  λ is. let parts = and_parts (to == request) (from.0 == at.0) is in (eqb-true to request parts.0, same_server_is from at parts.1),
  λ is. and_from (to == request) (from.0 == at.0) (eq-eqb to request is.0) (eq-eqb from.0 at.0 (ap (λ (s : Server). s.0) is.1)),
)

at_server_is : (s : ClientModel) (o : Option CommonRef) → (is_at_server s o ≡ true) ↔ IsAtServer s o
at_server_is s None = (λ is. tt, λ is. refl)
at_server_is s (Some common) = (ltb-true common.server.0 s.config.servers, lt-ltb common.server.0 s.config.servers)

-- a note passes the test exactly if it is new to the client
pub note_is : (s : ClientModel) (note : UnitNote) → (expects_note s note ≡ true) ↔ IsNewNote s note
note_is s note = (
  λ is.
      let three = and_parts _ _ is in
      let two = and_parts _ _ three.0 in
      let one = and_parts _ _ two.0 in
      record {
        server = ltb-true note.server.0 s.config.servers one.0;
        ungranted = not-true (is_granted note.id s.transcript) two.1;
        unfetched = not-true (is_fetched note.id s.transcript) three.1;
        common = (at_server_is s note.common).0 one.1;
      },
  λ new.
      and_from _ _
      (and_from _ _ (and_from _ _ (lt-ltb note.server.0 s.config.servers new.server) ((at_server_is s note.common).1 new.common))
      (not_from_false (is_granted note.id s.transcript) new.ungranted))
      (not_from_false (is_fetched note.id s.transcript) new.unfetched),
)

-- such an answer has a step
plain_is : (request : ℕ) (at from : Server) (to : ℕ) (z : ClientResponse) → IsSome (cond (is_for request at from to) (Some z) None)
    ↔ IsFor request at from to
plain_is request at from to z = let is = for_is request at from to in (λ some. is.0 (if_some _ _ some), λ here. some_if _ _ (is.1 here))

-- The pending call.

put_awaited : (s : ClientModel) (unit : Unit) (first : Server) (tried : ℕ) (from : Server) (m : Message)
    → IsSome (hear_put s unit first tried from m) ↔ AnswersPut unit.id.number (asked s first tried) from m
put_awaited s unit first tried from (tells.Accepted to) = plain_is unit.id.number (asked s first tried) from to _
put_awaited s unit first tried from (tells.Full to charge) = plain_is unit.id.number (asked s first tried) from to _
put_awaited s unit first tried from (tells.Ended to end) = plain_is unit.id.number (asked s first tried) from to _
put_awaited s unit first tried from _ = (λ some. absurd (cc), λ here. absurd here)

reserve_awaited : (s : ClientModel) (request : ℕ) (types : Option (List WorkType)) (from : Server) (m : Message)
    → IsSome (hear_reserve s request types from m) ↔ AnswersReserve s request from m
reserve_awaited s request types from (tells.Grant to note) =
    let is = for_is request (home s.config s.me) from to in
    let new = note_is s note in (
      λ some. let parts = and_parts (is_for request (home s.config s.me) from to) (expects_note s note) (if_some _ _ some) in
          (is.0 parts.0, new.0 parts.1),
      λ here. some_if _ _ (and_from _ _ (is.1 here.0) (new.1 here.1)),
    )
reserve_awaited s request types from (tells.Ended to end) = plain_is request (home s.config s.me) from to _
reserve_awaited s request types from _ = (λ some. absurd (cc), λ here. absurd here)

look_awaited : (s : ClientModel) (request : ℕ) (types : Option (List WorkType)) (tried : ℕ) (from : Server) (m : Message)
    → IsSome (hear_look s request types tried from m) ↔ AnswersTry s request tried from m
look_awaited s request types tried from (tells.Grant to note) =
    let is = for_is request (looks_at s tried) from to in
    let new = note_is s note in (
      λ some. let parts = and_parts (is_for request (looks_at s tried) from to) (expects_note s note) (if_some _ _ some) in
          (is.0 parts.0, new.0 parts.1),
      λ here. some_if _ _ (and_from _ _ (is.1 here.0) (new.1 here.1)),
    )
look_awaited s request types tried from (tells.Nothing to) = plain_is request (looks_at s tried) from to _
look_awaited s request types tried from (tells.Ended to end) = plain_is request (looks_at s tried) from to _
look_awaited s request types tried from _ = (λ some. absurd (cc), λ here. absurd here)

fetch_awaited : (s : ClientModel) (request : ℕ) (note : UnitNote) (from : Server) (m : Message) → IsSome (hear_fetch s request note from m)
    ↔ AnswersFetch request note from m
fetch_awaited s request note from (tells.Bytes to body) =
    let is = for_is request note.server from to in (
      λ some. let parts = and_parts (is_for request note.server from to) (length body == note.length) (if_some _ _ some) in
          (is.0 parts.0, eqb-true (length body) note.length parts.1),
      λ here. some_if _ _ (and_from _ _ (is.1 here.0) (eq-eqb (length body) note.length here.1)),
    )
fetch_awaited s request note from _ = (λ some. absurd (cc), λ here. absurd here)

common_awaited : (s : ClientModel) (request : ℕ) (note : UnitNote) (common : CommonRef) (own : List ℕ) (from : Server) (m : Message)
    → IsSome (hear_common s request note common own from m) ↔ AnswersCommon request common from m
common_awaited s request note common own from (tells.Bytes to body) =
    let is = for_is request common.server from to in (
      λ some. let parts = and_parts (is_for request common.server from to) (length body == common.length) (if_some _ _ some) in
          (is.0 parts.0, eqb-true (length body) common.length parts.1),
      λ here. some_if _ _ (and_from _ _ (is.1 here.0) (eq-eqb (length body) common.length here.1)),
    )
common_awaited s request note common own from _ = (λ some. absurd (cc), λ here. absurd here)

keep_awaited : (s : ClientModel) (request : ℕ) (common : List ℕ) (first : Server) (tried : ℕ) (from : Server) (m : Message)
    → IsSome (hear_keep s request common first tried from m) ↔ AnswersPut request (asked s first tried) from m
keep_awaited s request common first tried from (tells.Accepted to) = plain_is request (asked s first tried) from to _
keep_awaited s request common first tried from (tells.Full to charge) = plain_is request (asked s first tried) from to _
keep_awaited s request common first tried from (tells.Ended to end) = plain_is request (asked s first tried) from to _
keep_awaited s request common first tried from _ = (λ some. absurd (cc), λ here. absurd here)

close_awaited : (s : ClientModel) (request : ℕ) (batch : CommonRef) (from : Server) (m : Message)
    → IsSome (hear_close s request batch from m) ↔ AnswersClose request batch from m
close_awaited s request batch from (tells.Closed to) = plain_is request batch.server from to _
close_awaited s request batch from _ = (λ some. absurd (cc), λ here. absurd here)

count_awaited : (s : ClientModel) (request : ℕ) (kind : WorkType) (from : Server) (m : Message)
    → IsSome (hear_count s request kind from m) ↔ AnswersCount request (home s.config s.me) from m
count_awaited s request kind from (tells.Counted to info) = plain_is request (home s.config s.me) from to _
count_awaited s request kind from _ = (λ some. absurd (cc), λ here. absurd here)

done_awaited : (s : ClientModel) (request tried : ℕ) (from : Server) (m : Message)
    → IsSome (hear_done s request tried from m) ↔ AnswersDone request (looks_at s tried) from m
done_awaited s request tried from (tells.DoneHeard to) = plain_is request (looks_at s tried) from to _
done_awaited s request tried from _ = (λ some. absurd (cc), λ here. absurd here)

awaited : (s : ClientModel) (p : Pending) (from : Server) (m : Message) → IsSome (answer_call s p from m) ↔ IsAwaited s p from m
awaited s waits_for.Nothing from m = (λ some. absurd (cc), λ here. absurd here)
awaited s (waits_for.Put unit first tried) from m = put_awaited s unit first tried from m
awaited s (waits_for.Reserve request types) from m = reserve_awaited s request types from m
awaited s (waits_for.Try request types tried) from m = look_awaited s request types tried from m
awaited s (waits_for.Fetch request note) from m = fetch_awaited s request note from m
awaited s (waits_for.Common request note common own) from m = common_awaited s request note common own from m
awaited s (waits_for.Keep request common first tried) from m = keep_awaited s request common first tried from m
awaited s (waits_for.Close request batch) from m = close_awaited s request batch from m
awaited s (waits_for.Count request kind) from m = count_awaited s request kind from m
awaited s (waits_for.SetDone request tried) from m = done_awaited s request tried from m

-- the stamp of an event changes nothing of what is awaited
same_server : (s : ClientModel) (stamp : ℕ) (o : Option CommonRef) → IsAtServer s o → IsAtServer (ticked s stamp) o
same_server s stamp None at = at
same_server s stamp (Some common) at = at

before_server : (s : ClientModel) (stamp : ℕ) (o : Option CommonRef) → IsAtServer (ticked s stamp) o → IsAtServer s o
before_server s stamp None at = at
before_server s stamp (Some common) at = at

new_ticked : (s : ClientModel) (stamp : ℕ) (note : UnitNote) → IsNewNote s note → IsNewNote (ticked s stamp) note
new_ticked s stamp note new =
    record {
      server = new.server;
      ungranted = new.ungranted;
      unfetched = new.unfetched;
      common = same_server s stamp note.common new.common;
    }

new_before : (s : ClientModel) (stamp : ℕ) (note : UnitNote) → IsNewNote (ticked s stamp) note → IsNewNote s note
new_before s stamp note new =
    record {
      server = new.server;
      ungranted = new.ungranted;
      unfetched = new.unfetched;
      common = before_server s stamp note.common new.common;
    }

reserve_ticked : (s : ClientModel) (stamp request : ℕ) (from : Server) (m : Message) → AnswersReserve s request from m
    ↔ AnswersReserve (ticked s stamp) request from m
reserve_ticked s stamp request from (tells.Grant to note) =
    (λ here. (here.0, new_ticked s stamp note here.1), λ here. (here.0, new_before s stamp note here.1))
reserve_ticked s stamp request from (tells.Ended to end) = (λ here. here, λ here. here)
reserve_ticked s stamp request from _ = (λ here. here, λ here. here)

look_ticked : (s : ClientModel) (stamp request tried : ℕ) (from : Server) (m : Message)
    → AnswersTry s request tried from m ↔ AnswersTry (ticked s stamp) request tried from m
look_ticked s stamp request tried from (tells.Grant to note) =
    (λ here. (here.0, new_ticked s stamp note here.1), λ here. (here.0, new_before s stamp note here.1))
look_ticked s stamp request tried from (tells.Nothing to) = (λ here. here, λ here. here)
look_ticked s stamp request tried from (tells.Ended to end) = (λ here. here, λ here. here)
look_ticked s stamp request tried from _ = (λ here. here, λ here. here)

awaited_ticked : (s : ClientModel) (stamp : ℕ) (p : Pending) (from : Server) (m : Message) → IsAwaited s p from m
    ↔ IsAwaited (ticked s stamp) p from m
awaited_ticked s stamp waits_for.Nothing from m = (λ here. here, λ here. here)
awaited_ticked s stamp (waits_for.Reserve request types) from m = reserve_ticked s stamp request from m
awaited_ticked s stamp (waits_for.Try request types tried) from m = look_ticked s stamp request tried from m
awaited_ticked s stamp _ from m = (λ here. here, λ here. here)

-- a letter that is expected is heard, and no other
pub expected_are_heard : ExpectedAreHeard
expected_are_heard s from letter =
    let stamp : ℕ = letter_stamp s letter in
    let o : Option ClientResponse = answer_call (ticked s stamp) s.pending from letter.message in
    let given : Bool = not s.finished && nat_lt letter.stamp (2 ^ 48) in
    let rule = awaited (ticked s stamp) s.pending from letter.message in
    let same = awaited_ticked s stamp s.pending from letter.message in (
      λ some.
          let parts = where_some given (option_map made o) some in
          let both = and_parts (not s.finished) (nat_lt letter.stamp (2 ^ 48)) parts.0 in
          record {
            going = not-true s.finished both.0;
            stamp = ltb-true letter.stamp (2 ^ 48) both.1;
            awaited = same.1 (rule.0 (map_some made o parts.1));
          },
      λ is. some_where given (option_map made o) (and_from _ _ (not_from_false s.finished is.going) (lt-ltb letter.stamp (2 ^ 48) is.stamp))
          (some_map made o (rule.1 (same.0 is.awaited))),
    )
