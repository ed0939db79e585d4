-- Each unit that a rank holds, fetches or fetched was granted.
use Rattle.std.proofs.Common.{◌≡◌, inl, inr, ◌^◌, ◌+◌, ℕ, Bool, true, false, ◌&&◌, ◌||◌, not, cond, List, [], ◌∷◌, ◌++◌, Option, Some, None}
use Rattle.std.proofs.Common.{refl, sym, ap, ◌∙◌, subst, arith}
use Rattle.std.specs.Prelude.{nat_lt}
use Rattle.std.specs.Option.{option_map}
use Rattle.std.proofs.lemmas.Bool.{false_from_ne_true, or_cases}
use Rattle.std.proofs.lemmas.List.Elements.{All-filter, All-push, All-weaker}
use Rattle.adlb_unit.specs.Ids.{same_unit}
use Rattle.adlb_unit.specs.declared.configs.Config.{Config}
use Rattle.adlb_unit.specs.declared.letters.Letter.{Letter}
use Rattle.adlb_unit.specs.declared.messages.Message.{Message}
use Rattle.adlb_unit.specs.declared.messages.Message.TheVariants as tells
use Rattle.adlb_unit.specs.declared.names.Rank.{Rank}
use Rattle.adlb_unit.specs.declared.names.Server.{Server}
use Rattle.adlb_unit.specs.declared.names.UnitId.{UnitId}
use Rattle.adlb_unit.specs.declared.names.WorkType.{WorkType}
use Rattle.adlb_unit.specs.declared.notes.End.{End}
use Rattle.adlb_unit.specs.declared.notes.UnitNote.{UnitNote}
use Rattle.adlb_unit.specs.declared.units.Unit.{Unit}
use Rattle.adlb_unit.proofs.Same.{same_unit_from, same_unit_is}
use Rattle.bag_ledger.specs.declared.entries.Answer.{Answer}
use Rattle.bag_ledger.specs.declared.entries.Answer.TheVariants as answers
use Rattle.bag_ledger.specs.declared.entries.Call.{Call}
use Rattle.bag_ledger.specs.declared.entries.Call.TheVariants as calls_to
use Rattle.bag_ledger.specs.declared.entries.Said.{Said}
use Rattle.rank_client.specs.declared.pendings.Pending.{Pending}
use Rattle.rank_client.specs.declared.pendings.Pending.TheVariants as waits_for
use Rattle.rank_client.specs.Calls.{fetches, grants, is_fetched, is_granted}
use Rattle.rank_client.specs.Granted.{AreGranted, GrantsComeFirst, IsGrantedFirst}
use Rattle.adlb_unit.specs.declared.names.CommonRef.{CommonRef}
use Rattle.rank_client.specs.Rules.{ClientResponse, ClientSaying, answer_call, call_of, close, count, fetch, hear_close, hear_common}
use Rattle.rank_client.specs.Rules.{hear_count, hear_done, hear_fetch, hear_keep, hear_look, hear_put, hear_reserve, held, is_free, keep}
use Rattle.rank_client.specs.Rules.{look, looked, open_call, own_came, part_refused, put, refused, reserve, set_done, told_done, unit_put}
use Rattle.rank_client.specs.State.{ClientModel, start}
use Rattle.rank_client.specs.Step.{Made, begin, call_stamp, hear, letter_stamp, made, post, ticked}
use Rattle.rank_client.proofs.Begins.{found_is}
use Rattle.rank_client.proofs.Entries.{some_is}
use Rattle.rank_client.proofs.Transcripts.{fetched_more, granted_more}

-- Options.

-- a value that is there if a test passes is the one given
pub if_is : {X : Type 0} (t : Bool) (x y : X) → cond t (Some x) None ≡ Some y → x ≡ y
if_is true x y e = some_is e
if_is false x y e = absurd (cc)

-- an option that is there if a test passes is there without the test
pub if_there : {X : Type 0} (t : Bool) (o : Option X) (y : X) → cond t o None ≡ Some y → o ≡ Some y
if_there true o y e = e
if_there false o y e = absurd (cc)

-- a mapped option that is there comes from an element that is there
pub map_is : {X Y : Type 0} (f : X → Y) (o : Option X) (y : Y) → option_map f o ≡ Some y → (x : X) × (o ≡ Some x) × (f x ≡ y)
map_is f None y e = absurd (cc)
map_is f (Some x) y e = (x, refl, some_is e)

-- One call more.

or_right : (t : Bool) → (t || true) ≡ true
or_right true = refl
or_right false = refl

granted_stays : (id : UnitId) (said : List Said) (s : Said) → is_granted id said ≡ true → is_granted id (said ++ s ∷ []) ≡ true
granted_stays id said s is = granted_more id said s ∙ ap (λ t. t || grants id s.answer) is

-- a call is over; where it is a fetch, its unit was granted
call_over : (said : List Said) (notes : List UnitNote) (pending : Pending) (call : Call) (answer : Answer) → AreGranted said notes pending
    → ((id : UnitId) → fetches id call ≡ true → is_granted id said ≡ true)
    → AreGranted (said ++ record { call = call; answer = answer } ∷ []) notes waits_for.Nothing
call_over said notes pending call answer g was =
    let more : Said = record { call = call; answer = answer } in
    let P : UnitNote → Type 0 = λ n. is_granted n.id said ≡ true in
    let Q : UnitNote → Type 0 = λ n. is_granted n.id (said ++ more ∷ []) ≡ true in
    record {
      held = All-weaker P Q (λ n is. granted_stays n.id said more is) notes g.held;
      fetching = tt;
      fetched = λ id is. elim (or_cases (is_fetched id said) (fetches id call) (sym (fetched_more id said more) ∙ is)) [
        | inl before ↦ granted_stays id said more (g.fetched id before)
        | inr now ↦ granted_stays id said more (was id now)
      ];
    }

-- a unit is granted
unit_granted : (said : List Said) (notes : List UnitNote) (pending : Pending) (call : Call) (note : UnitNote)
    → AreGranted said notes pending
    → ((id : UnitId) → fetches id call ≡ false)
    → AreGranted (said ++ record { call = call; answer = answers.Granted note } ∷ []) (notes ++ note ∷ []) waits_for.Nothing
unit_granted said notes pending call note g none =
    let more : Said = record { call = call; answer = answers.Granted note } in
    let Q : UnitNote → Type 0 = λ n. is_granted n.id (said ++ more ∷ []) ≡ true in
    let over =
    call_over said notes pending call (answers.Granted note) g (λ id is. let not : fetches id call ≡ false = none id in absurd (cc)) in
    let now : is_granted note.id (said ++ more ∷ []) ≡ true = granted_more note.id said more
    ∙ ap (λ t. is_granted note.id said || t) (same_unit_from note.id note.id refl) ∙ or_right (is_granted note.id said) in
    record { held = All-push Q notes note over.held now; fetching = tt; fetched = over.fetched }

-- Letters that go out change nothing of it.
post_keeps : (says : List ClientSaying) (x : Made) → IsGrantedFirst x.state → IsGrantedFirst (post x says).state
post_keeps [] x g = g
post_keeps (y ∷ says) x g = post_keeps says _ g

abbrev Keeps : ClientResponse → Type 0
Keeps y = IsGrantedFirst y.state

-- A call.

put_keeps : (s : ClientModel) (unit : Unit) (end : Option End) → IsGrantedFirst s → Keeps (put s unit end)
put_keeps s unit (Some end) g = call_over s.transcript s.handles s.pending (call_of unit) (answers.Ended end) g (λ id no. absurd (cc))
put_keeps s unit None g = record { held = g.held; fetching = tt; fetched = g.fetched }

reserve_keeps : (s : ClientModel) (types : Option (List WorkType)) (end : Option End) → IsGrantedFirst s → Keeps (reserve s types end)
reserve_keeps s types (Some end) g =
    call_over s.transcript s.handles s.pending (calls_to.Reserve types) (answers.Ended end) g (λ id no. absurd (cc))
reserve_keeps s types None g = record { held = g.held; fetching = tt; fetched = g.fetched }

look_keeps : (s : ClientModel) (types : Option (List WorkType)) (end : Option End) → IsGrantedFirst s → Keeps (look s types end)
look_keeps s types (Some end) g =
    call_over s.transcript s.handles s.pending (calls_to.Try types) (answers.Ended end) g (λ id no. absurd (cc))
look_keeps s types None g = record { held = g.held; fetching = tt; fetched = g.fetched }

fetch_keeps : (s : ClientModel) (id : UnitId) (o : Option UnitNote) (y : ClientResponse) → held s id ≡ o → fetch s id o ≡ Some y
    → IsGrantedFirst s → Keeps y
fetch_keeps s id None y found is g = absurd (cc)
fetch_keeps s id (Some note) y found is g =
    let P : UnitNote → Type 0 = λ n. is_granted n.id s.transcript ≡ true in
    let there : is_granted note.id s.transcript ≡ true = (found_is P id s.handles note found g.held).1 in
    subst Keeps (some_is is)
    (record { held = All-filter (λ n. not (same_unit n.id id)) P s.handles g.held; fetching = there; fetched = g.fetched })

keep_keeps : (s : ClientModel) (common : List ℕ) (end : Option End) → IsGrantedFirst s → Keeps (keep s common end)
keep_keeps s common (Some end) g =
    call_over s.transcript s.handles s.pending (calls_to.BeginBatch common) (answers.Ended end) g (λ id no. absurd (cc))
keep_keeps s common None g = record { held = g.held; fetching = tt; fetched = g.fetched }

close_keeps : (s : ClientModel) (o : Option CommonRef) (y : ClientResponse) → close s o ≡ Some y → IsGrantedFirst s → Keeps y
close_keeps s None y is g = absurd (cc)
close_keeps s (Some batch) y is g = subst Keeps (some_is is) (record { held = g.held; fetching = tt; fetched = g.fetched })

count_keeps : (s : ClientModel) (kind : WorkType) → IsGrantedFirst s → Keeps (count s kind)
count_keeps s kind g = record { held = g.held; fetching = tt; fetched = g.fetched }

done_keeps : (s : ClientModel) → IsGrantedFirst s → Keeps (set_done s)
done_keeps s g = record { held = g.held; fetching = tt; fetched = g.fetched }

-- opening a call keeps that units are granted first
pub open_keeps : (s : ClientModel) (call : Call) (y : ClientResponse) → open_call s call ≡ Some y → IsGrantedFirst s → Keeps y
open_keeps s (calls_to.Put kind prio target answer body) y is g =
    subst Keeps (if_is _ _ y is) (put_keeps s (unit_put s kind prio target answer body) s.end g)
open_keeps s (calls_to.Reserve types) y is g = subst Keeps (some_is is) (reserve_keeps s types s.end g)
open_keeps s (calls_to.Try types) y is g = subst Keeps (some_is is) (look_keeps s types s.end g)
open_keeps s (calls_to.Fetch id) y is g = fetch_keeps s id (held s id) y refl is g
open_keeps s (calls_to.BeginBatch common) y is g = subst Keeps (if_is _ _ y is) (keep_keeps s common s.end g)
open_keeps s calls_to.EndBatch y is g = close_keeps s s.batch y is g
open_keeps s (calls_to.Count kind) y is g = subst Keeps (some_is is) (count_keeps s kind g)
open_keeps s calls_to.Finish y is g =
    subst Keeps (if_is _ _ y is) (call_over s.transcript s.handles s.pending calls_to.Finish answers.Fine g (λ id no. absurd (cc)))
open_keeps s calls_to.SetDone y is g = subst Keeps (some_is is) (done_keeps s g)

-- A letter.

refused_keeps : (s : ClientModel) (unit : Unit) (first : Server) (tried : ℕ) (more : Bool) → IsGrantedFirst s
    → Keeps (refused s unit first tried more)
refused_keeps s unit first tried true g = record { held = g.held; fetching = tt; fetched = g.fetched }
refused_keeps s unit first tried false g =
    call_over s.transcript s.handles s.pending (call_of unit) answers.Rejected g (λ id no. absurd (cc))

hear_put_keeps : (s : ClientModel) (unit : Unit) (first : Server) (tried : ℕ) (from : Server) (m : Message) (y : ClientResponse)
    → hear_put s unit first tried from m ≡ Some y → IsGrantedFirst s → Keeps y
hear_put_keeps s unit first tried from (tells.Accepted to) y is g =
    subst Keeps (if_is _ _ y is) (call_over s.transcript s.handles s.pending (call_of unit) answers.Fine g (λ id no. absurd (cc)))
hear_put_keeps s unit first tried from (tells.Full to charge) y is g =
    subst Keeps (if_is _ _ y is) (refused_keeps s unit first tried (nat_lt (tried + 1) s.config.servers) g)
hear_put_keeps s unit first tried from (tells.Ended to end) y is g =
    subst Keeps (if_is _ _ y is) (call_over s.transcript s.handles s.pending (call_of unit) (answers.Ended end) g (λ id no. absurd (cc)))
hear_put_keeps s unit first tried from _ y is g = absurd (cc)

hear_reserve_keeps : (s : ClientModel) (request : ℕ) (types : Option (List WorkType)) (from : Server) (m : Message) (y : ClientResponse)
    → hear_reserve s request types from m ≡ Some y → IsGrantedFirst s → Keeps y
hear_reserve_keeps s request types from (tells.Grant to note) y is g =
    subst Keeps (if_is _ _ y is) (unit_granted s.transcript s.handles s.pending (calls_to.Reserve types) note g (λ id. refl))
hear_reserve_keeps s request types from (tells.Ended to end) y is g = subst Keeps (if_is _ _ y is)
    (call_over s.transcript s.handles s.pending (calls_to.Reserve types) (answers.Ended end) g (λ id no. absurd (cc)))
hear_reserve_keeps s request types from _ y is g = absurd (cc)

looked_keeps : (s : ClientModel) (request : ℕ) (types : Option (List WorkType)) (tried : ℕ) (more : Bool) → IsGrantedFirst s
    → Keeps (looked s request types tried more)
looked_keeps s request types tried true g = record { held = g.held; fetching = tt; fetched = g.fetched }
looked_keeps s request types tried false g =
    call_over s.transcript s.handles s.pending (calls_to.Try types) answers.NoCurrent g (λ id no. absurd (cc))

hear_look_keeps : (s : ClientModel) (request : ℕ) (types : Option (List WorkType)) (tried : ℕ) (from : Server) (m : Message)
    (y : ClientResponse)
    → hear_look s request types tried from m ≡ Some y → IsGrantedFirst s → Keeps y
hear_look_keeps s request types tried from (tells.Grant to note) y is g =
    subst Keeps (if_is _ _ y is) (unit_granted s.transcript s.handles s.pending (calls_to.Try types) note g (λ id. refl))
hear_look_keeps s request types tried from (tells.Nothing to) y is g =
    subst Keeps (if_is _ _ y is) (looked_keeps s request types tried (nat_lt (tried + 1) s.config.servers) g)
hear_look_keeps s request types tried from (tells.Ended to end) y is g =
    subst Keeps (if_is _ _ y is)
    (call_over s.transcript s.handles s.pending (calls_to.Try types) (answers.Ended end) g (λ id no. absurd (cc)))
hear_look_keeps s request types tried from _ y is g = absurd (cc)

-- a fetch is over
fetch_over : (s : ClientModel) (note : UnitNote) (body : List ℕ) → is_granted note.id s.transcript ≡ true → IsGrantedFirst s
    → AreGranted (s.transcript ++ record { call = calls_to.Fetch note.id; answer = answers.Body body } ∷ []) s.handles waits_for.Nothing
fetch_over s note body there g =
    call_over s.transcript s.handles s.pending (calls_to.Fetch note.id) (answers.Body body) g
    (λ id same. let P : UnitId → Type 0 = λ i. is_granted i s.transcript ≡ true in subst P (same_unit_is note.id id same) there)

own_keeps : (s : ClientModel) (request : ℕ) (note : UnitNote) (own : List ℕ) (o : Option CommonRef) → is_granted note.id s.transcript ≡ true
    → IsGrantedFirst s → Keeps (own_came s request note own o)
own_keeps s request note own None there g = fetch_over s note own there g
own_keeps s request note own (Some common) there g = record { held = g.held; fetching = there; fetched = g.fetched }

hear_fetch_keeps : (s : ClientModel) (request : ℕ) (note : UnitNote) (from : Server) (m : Message) (y : ClientResponse)
    → hear_fetch s request note from m ≡ Some y → is_granted note.id s.transcript ≡ true → IsGrantedFirst s → Keeps y
hear_fetch_keeps s request note from (tells.Bytes to body) y is there g =
    subst Keeps (if_is _ _ y is) (own_keeps s request note body note.common there g)
hear_fetch_keeps s request note from _ y is there g = absurd (cc)

hear_common_keeps : (s : ClientModel) (request : ℕ) (note : UnitNote) (common : CommonRef) (own : List ℕ) (from : Server) (m : Message)
    (y : ClientResponse) → hear_common s request note common own from m ≡ Some y → is_granted note.id s.transcript ≡ true
    → IsGrantedFirst s → Keeps y
hear_common_keeps s request note common own from (tells.Bytes to body) y is there g =
    subst Keeps (if_is _ _ y is) (fetch_over s note (body ++ own) there g)
hear_common_keeps s request note common own from _ y is there g = absurd (cc)

part_refused_keeps : (s : ClientModel) (request : ℕ) (common : List ℕ) (first : Server) (tried : ℕ) (more : Bool) → IsGrantedFirst s
    → Keeps (part_refused s request common first tried more)
part_refused_keeps s request common first tried true g = record { held = g.held; fetching = tt; fetched = g.fetched }
part_refused_keeps s request common first tried false g =
    call_over s.transcript s.handles s.pending (calls_to.BeginBatch common) answers.Rejected g (λ id no. absurd (cc))

hear_keep_keeps : (s : ClientModel) (request : ℕ) (common : List ℕ) (first : Server) (tried : ℕ) (from : Server) (m : Message)
    (y : ClientResponse) → hear_keep s request common first tried from m ≡ Some y → IsGrantedFirst s → Keeps y
hear_keep_keeps s request common first tried from (tells.Accepted to) y is g = subst Keeps (if_is _ _ y is)
    (call_over s.transcript s.handles s.pending (calls_to.BeginBatch common) answers.Fine g (λ id no. absurd (cc)))
hear_keep_keeps s request common first tried from (tells.Full to charge) y is g =
    subst Keeps (if_is _ _ y is) (part_refused_keeps s request common first tried (nat_lt (tried + 1) s.config.servers) g)
hear_keep_keeps s request common first tried from (tells.Ended to end) y is g = subst Keeps (if_is _ _ y is)
    (call_over s.transcript s.handles s.pending (calls_to.BeginBatch common) (answers.Ended end) g (λ id no. absurd (cc)))
hear_keep_keeps s request common first tried from _ y is g = absurd (cc)

hear_close_keeps : (s : ClientModel) (request : ℕ) (batch : CommonRef) (from : Server) (m : Message) (y : ClientResponse)
    → hear_close s request batch from m ≡ Some y → IsGrantedFirst s → Keeps y
hear_close_keeps s request batch from (tells.Closed to) y is g =
    subst Keeps (if_is _ _ y is) (call_over s.transcript s.handles s.pending calls_to.EndBatch answers.Fine g (λ id no. absurd (cc)))
hear_close_keeps s request batch from _ y is g = absurd (cc)

hear_count_keeps : (s : ClientModel) (request : ℕ) (kind : WorkType) (from : Server) (m : Message) (y : ClientResponse)
    → hear_count s request kind from m ≡ Some y → IsGrantedFirst s → Keeps y
hear_count_keeps s request kind from (tells.Counted to info) y is g =
    subst Keeps (if_is _ _ y is)
    (call_over s.transcript s.handles s.pending (calls_to.Count kind) (answers.Info info) g (λ id no. absurd (cc)))
hear_count_keeps s request kind from _ y is g = absurd (cc)

told_on_keeps : (s : ClientModel) (request tried : ℕ) (more : Bool) → IsGrantedFirst s → Keeps (told_done s request tried more)
told_on_keeps s request tried true g = record { held = g.held; fetching = tt; fetched = g.fetched }
told_on_keeps s request tried false g =
    call_over s.transcript s.handles s.pending calls_to.SetDone answers.Fine g (λ id no. absurd (cc))

hear_done_keeps : (s : ClientModel) (request tried : ℕ) (from : Server) (m : Message) (y : ClientResponse)
    → hear_done s request tried from m ≡ Some y → IsGrantedFirst s → Keeps y
hear_done_keeps s request tried from (tells.DoneHeard to) y is g =
    subst Keeps (if_is _ _ y is) (told_on_keeps s request tried (nat_lt (tried + 1) s.config.servers) g)
hear_done_keeps s request tried from _ y is g = absurd (cc)

-- an answer keeps that units are granted first
pub answer_keeps : (s : ClientModel) (p : Pending) (from : Server) (m : Message) (y : ClientResponse) → s.pending ≡ p
    → answer_call s p from m ≡ Some y → IsGrantedFirst s → Keeps y
answer_keeps s waits_for.Nothing from m y waits is g = absurd (cc)
answer_keeps s (waits_for.Put unit first tried) from m y waits is g = hear_put_keeps s unit first tried from m y is g
answer_keeps s (waits_for.Reserve request types) from m y waits is g = hear_reserve_keeps s request types from m y is g
answer_keeps s (waits_for.Try request types tried) from m y waits is g = hear_look_keeps s request types tried from m y is g
answer_keeps s (waits_for.Fetch request note) from m y waits is g =
    let P : Pending → Type 0 = λ p. AreGranted s.transcript s.handles p in
    hear_fetch_keeps s request note from m y is (subst P waits g).fetching g
answer_keeps s (waits_for.Common request note common own) from m y waits is g =
    let P : Pending → Type 0 = λ p. AreGranted s.transcript s.handles p in
    hear_common_keeps s request note common own from m y is (subst P waits g).fetching g
answer_keeps s (waits_for.Keep request common first tried) from m y waits is g = hear_keep_keeps s request common first tried from m y is g
answer_keeps s (waits_for.Close request batch) from m y waits is g = hear_close_keeps s request batch from m y is g
answer_keeps s (waits_for.Count request kind) from m y waits is g = hear_count_keeps s request kind from m y is g
answer_keeps s (waits_for.SetDone request tried) from m y waits is g = hear_done_keeps s request tried from m y is g

-- A step.

started : (config : Config) (me : Rank) → IsGrantedFirst (start config me)
unfolding is_fetched
started config me = record { held = λ k d within. absurd (omega (arith, within)); fetching = tt; fetched = λ id is. absurd (cc) }

begun : (s : ClientModel) (call : Call) (x : Made) → begin s call ≡ Some x → IsGrantedFirst s → IsGrantedFirst x.state
begun s call x is g =
    let y = map_is made (open_call (ticked s (call_stamp s)) call) x (if_there (is_free s) _ x is) in
    let P : Made → Type 0 = λ z. IsGrantedFirst z.state in
    subst P y.2 (post_keeps y.0.says _ (open_keeps (ticked s (call_stamp s)) call y.0 y.1 g))

heard : (s : ClientModel) (from : Server) (letter : Letter) (x : Made) → hear s from letter ≡ Some x → IsGrantedFirst s
    → IsGrantedFirst x.state
heard s from letter x is g =
    let t : ClientModel = ticked s (letter_stamp s letter) in
    let y = map_is made (answer_call t s.pending from letter.message) x
    (if_there (not s.finished && nat_lt letter.stamp (2 ^ 48)) _ x is) in
    let P : Made → Type 0 = λ z. IsGrantedFirst z.state in
    subst P y.2 (post_keeps y.0.says _ (answer_keeps t s.pending from letter.message y.0 refl y.1 g))

-- in every run of a client, units are granted before they are held or fetched
pub grants_come_first : GrantsComeFirst
grants_come_first = record {
  at_start = started;
  after_call = begun;
  after_letter = heard;
  unfetched =
      λ s id g none. false_from_ne_true (is_fetched id s.transcript)
      (λ fetched. let some : is_granted id s.transcript ≡ true = g.fetched id fetched in cc);
}
