-- A step makes two entries at most, of which the first alone tells bytes: those of its call.
use Rattle.thread_actors.proofs.Prelude.{Bool, Call, ClientModel, Letter, List, Made, Message, None, Option, Server, Some, [], ap, arith}
use Rattle.thread_actors.proofs.Prelude.{begin, call_stamp, cond, false, hear, length, letter_stamp, made, nat_lt, not, post, refl}
use Rattle.thread_actors.proofs.Prelude.{stamp_limit, subst, sym, ticked, true, ℕ, ◌&&◌, ◌*◌, ◌+◌, ◌∙◌, ◌∷◌, ◌≡◌, ◌≤◌}
use Rattle.adlb_unit.specs.declared.names.CommonRef.{CommonRef}
use Rattle.adlb_unit.specs.declared.names.UnitId.{UnitId}
use Rattle.adlb_unit.specs.declared.notes.UnitNote.{UnitNote}
use Rattle.packed_ledger.specs.Sizes.{entry_size, room_for}
use Rattle.rank_client.proofs.Granted.{if_is, if_there, map_is}
use Rattle.rank_client.specs.Rules.{ClientResponse, ClientSaying, answer_call, close, fetch, held, is_free, keep, look, looked, open_call}
use Rattle.rank_client.specs.Rules.{own_came, part_refused, put, refused, reserve, told_done, unit_put}
use Rattle.rank_client.specs.declared.pendings.Pending.{Pending}
use Rattle.thread_actors.specs.inside.Rooms.{brings, room_of}
use Rattle.bag_ledger.specs.declared.entries.Call.TheVariants as calls_to
use Rattle.adlb_unit.specs.declared.messages.Message.TheVariants as tells
use Rattle.rank_client.specs.declared.pendings.Pending.TheVariants as waits_for

abbrev Few : ℕ → ClientResponse → Type 0
Few n z = room_for z.entries ≤ 2 * entry_size + n

few_if : (n : ℕ) (t : Bool) (y z : ClientResponse) → cond t (Some y) None ≡ Some z → Few n y → Few n z
few_if n t y z is few = subst (Few n) (if_is t y z is) few

entries_kept : (x : Made) (says : List ClientSaying) → (post x says).entries ≡ x.entries
entries_kept x [] = refl
entries_kept x (y ∷ says) = entries_kept (post x (y ∷ [])) says

few_made : (n : ℕ) (z : ClientResponse) (x : Made) → made z ≡ x → Few n z → room_for x.entries ≤ 2 * entry_size + n
few_made n z x is few =
    let same : x.entries ≡ z.entries =
    sym (ap (λ (m : Made). m.entries) is)
    ∙ entries_kept (record { state = z.state; sends = []; entries = z.entries; answer = z.answer }) z.says in
    rw same few

-- A call.

-- whether there is such a value or not
by_option : {X : Type 0} (n : ℕ) (f : Option X → ClientResponse) → ((x : X) → Few n (f (Some x))) → Few n (f None) → (o : Option X)
    → Few n (f o)
by_option n f some none None = none
by_option n f some none (Some x) = some x

fetch_few : (s : ClientModel) (id : UnitId) (note : Option UnitNote) (z : ClientResponse) → fetch s id note ≡ Some z → Few 0 z
fetch_few s id None z is = absurd (cc)
fetch_few s id (Some note) z is = few_if 0 true _ z is (omega arith)

close_few : (s : ClientModel) (batch : Option CommonRef) (z : ClientResponse) → close s batch ≡ Some z → Few 0 z
close_few s None z is = absurd (cc)
close_few s (Some batch) z is = few_if 0 true _ z is (omega arith)

open_few : (s : ClientModel) (call : Call) (z : ClientResponse) → open_call s call ≡ Some z → Few (brings call) z
open_few s (calls_to.Put kind prio target answer body) z is =
    let unit = unit_put s kind prio target answer body in
    few_if (length body) _ _ z is (by_option (length body) (put s unit) (λ e. omega arith) (omega arith) s.end)
open_few s (calls_to.Reserve types) z is = few_if 0 true _ z is (by_option 0 (reserve s types) (λ e. omega arith) (omega arith) s.end)
open_few s (calls_to.Try types) z is = few_if 0 true _ z is (by_option 0 (look s types) (λ e. omega arith) (omega arith) s.end)
open_few s (calls_to.Fetch id) z is = fetch_few s id (held s id) z is
open_few s (calls_to.BeginBatch common) z is =
    few_if (length common) _ _ z is (by_option (length common) (keep s common) (λ e. omega arith) (omega arith) s.end)
open_few s calls_to.EndBatch z is = close_few s s.batch z is
open_few s (calls_to.Count kind) z is = few_if 0 true _ z is (omega arith)
open_few s calls_to.SetDone z is = few_if 0 true _ z is (omega arith)
open_few s calls_to.Finish z is = few_if 0 _ _ z is (omega arith)

pub begin_few : (s : ClientModel) (call : Call) (x : Made) → begin s call ≡ Some x → room_for x.entries ≤ room_of call
begin_few s call x is =
    let y = map_is made (open_call (ticked s (call_stamp s)) call) x (if_there (is_free s) _ x is) in
    few_made (brings call) y.0 x y.2 (open_few (ticked s (call_stamp s)) call y.0 y.1)

-- A letter.

-- where the next server is asked, or there is no further one
either : (t next : Bool) (f : Bool → ClientResponse) (z : ClientResponse) → cond t (Some (f next)) None ≡ Some z → Few 0 (f true)
    → Few 0 (f false) → Few 0 z
either t true f z is more last = few_if 0 t _ z is more
either t false f z is more last = few_if 0 t _ z is last

answer_few : (s : ClientModel) (p : Pending) (from : Server) (m : Message) (z : ClientResponse) → answer_call s p from m ≡ Some z → Few 0 z
answer_few s (waits_for.Put unit first tried) from (tells.Full to charge) z is =
    either _ _ (refused s unit first tried) z is (omega arith) (omega arith)
answer_few s (waits_for.Try request types tried) from (tells.Nothing to) z is =
    either _ _ (looked s request types tried) z is (omega arith) (omega arith)
answer_few s (waits_for.Keep request common first tried) from (tells.Full to charge) z is =
    either _ _ (part_refused s request common first tried) z is (omega arith) (omega arith)
answer_few s (waits_for.SetDone request tried) from (tells.DoneHeard to) z is =
    either _ _ (told_done s request tried) z is (omega arith) (omega arith)
answer_few s (waits_for.Fetch request note) from (tells.Bytes to body) z is =
    few_if 0 _ _ z is (by_option 0 (own_came s request note body) (λ common. omega arith) (omega arith) note.common)
answer_few s _ from tells.Finish z is = absurd (cc)
answer_few s _ from _ z is = first_of (cc, grind (arith, if_is))

pub hear_few : (s : ClientModel) (from : Server) (letter : Letter) (x : Made) → hear s from letter ≡ Some x
    → room_for x.entries ≤ 2 * entry_size
hear_few s from letter x is =
    let heard = ticked s (letter_stamp s letter) in
    let y =
    map_is made (answer_call heard s.pending from letter.message) x
    (if_there (not s.finished && nat_lt letter.stamp stamp_limit) _ x is) in
    few_made 0 y.0 x y.2 (answer_few heard s.pending from letter.message y.0 y.1)
