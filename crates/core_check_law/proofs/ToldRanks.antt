-- A rank that was told an end brings and wants nothing more; and no step of a rank enters work.
use Rattle.std.proofs.Common.{◌≡◌, Bool, true, false, ◌&&◌, not, List, [], ◌∷◌, ◌++◌, Option, None, Some, refl, sym, ◌∙◌}
use Rattle.std.specs.Option.{option_map}
use Rattle.std.specs.Prelude.{is_none, nat_le, nat_lt, length, ◌==◌, ◌+◌, ℕ}
use Rattle.adlb_unit.specs.Limits.{body_limit, stamp_limit}
use Rattle.adlb_unit.specs.Targets.{home, in_ranks}
use Rattle.adlb_unit.specs.declared.letters.Letter.{Letter}
use Rattle.adlb_unit.specs.declared.messages.Message.{Message}
use Rattle.adlb_unit.specs.declared.messages.Message.TheVariants as tells
use Rattle.adlb_unit.specs.declared.names.CommonRef.{CommonRef}
use Rattle.adlb_unit.specs.declared.names.Server.{Server}
use Rattle.adlb_unit.specs.declared.names.UnitId.{UnitId}
use Rattle.adlb_unit.specs.declared.names.WorkType.{WorkType}
use Rattle.adlb_unit.specs.declared.notes.End.{End}
use Rattle.adlb_unit.specs.declared.notes.UnitNote.{UnitNote}
use Rattle.adlb_unit.specs.declared.units.Unit.{Unit}
use Rattle.bag_ledger.specs.declared.entries.Call.{Call}
use Rattle.bag_ledger.specs.declared.entries.Entry.{Entry}
use Rattle.bag_ledger.specs.declared.entries.Entry.TheVariants as enters
use Rattle.bag_ledger.specs.declared.entries.Call.TheVariants as calls_to
use Rattle.rank_client.specs.Rules.{ClientResponse, ClientSaying, answer_call, asked, close, expects_note, fetch, finish, hear_close}
use Rattle.rank_client.specs.Rules.{hear_common, hear_count, hear_done, hear_fetch, hear_keep, hear_look, hear_put, hear_reserve, held}
use Rattle.rank_client.specs.Rules.{is_for, is_free, keep, look, looked, looks_at, open_call, own_came, part_refused, put, refused, reserve}
use Rattle.rank_client.specs.Rules.{told_done, unit_put}
use Rattle.rank_client.specs.State.{ClientModel}
use Rattle.rank_client.specs.Step.{Made, begin, call_stamp, counted, hear, letter_stamp, made, post, posted, ticked}
use Rattle.rank_client.specs.declared.pendings.Pending.{Pending}
use Rattle.rank_client.specs.declared.pendings.Pending.TheVariants as waits_for
use Rattle.core_law.proofs.StepResults.{OnSome, if_some, mapped_some, on_some}
use Rattle.core_law.specs.OnLinks.{Each}
use Rattle.core_check_law.specs.After.{AreIdle, is_work}

-- the call brings or wants something
abbrev pub is_open : Pending → Bool
is_open (waits_for.Put unit first tried) = true
is_open (waits_for.Reserve request types) = true
is_open (waits_for.Try request types tried) = true
is_open (waits_for.Keep request common first tried) = true
is_open _ = false

-- a rank that was told an end has no such call pending
abbrev pub IsModest : ClientModel → Type 0
IsModest s = (end : End) → s.end ≡ Some end → is_open s.pending ≡ false

-- the step leaves the rank so, and enters no work
abbrev pub IsGood : ClientResponse → Type 0
IsGood x = IsModest x.state × AreIdle x.entries

-- A call begins.

put_good : (s : ClientModel) (unit : Unit) (o : Option End) → s.end ≡ o → IsGood (put s unit o)
put_good s unit (Some end) is = (λ e told. refl, (refl, (refl, tt)))
put_good s unit None is = (λ e told. let none : None ≡ Some e = sym is ∙ told in absurd (cc), (refl, tt))

reserve_good : (s : ClientModel) (types : Option (List WorkType)) (o : Option End) → s.end ≡ o → IsGood (reserve s types o)
reserve_good s types (Some end) is = (λ e told. refl, (refl, (refl, tt)))
reserve_good s types None is = (λ e told. let none : None ≡ Some e = sym is ∙ told in absurd (cc), (refl, tt))

look_good : (s : ClientModel) (types : Option (List WorkType)) (o : Option End) → s.end ≡ o → IsGood (look s types o)
look_good s types (Some end) is = (λ e told. refl, (refl, (refl, tt)))
look_good s types None is = (λ e told. let none : None ≡ Some e = sym is ∙ told in absurd (cc), (refl, tt))

keep_good : (s : ClientModel) (common : List ℕ) (o : Option End) → s.end ≡ o → IsGood (keep s common o)
keep_good s common (Some end) is = (λ e told. refl, (refl, (refl, tt)))
keep_good s common None is = (λ e told. let none : None ≡ Some e = sym is ∙ told in absurd (cc), (refl, tt))

fetch_good : (s : ClientModel) (id : UnitId) (o : Option UnitNote) → OnSome (fetch s id o) IsGood
fetch_good s id None = tt
fetch_good s id (Some note) = (λ e told. refl, (refl, tt))

close_good : (s : ClientModel) (o : Option CommonRef) → OnSome (close s o) IsGood
close_good s None = tt
close_good s (Some batch) = (λ e told. refl, (refl, tt))

open_good : (s : ClientModel) (call : Call) → OnSome (open_call s call) IsGood
open_good s (calls_to.Put kind prio target answer body) =
    if_some IsGood (nat_le (length body) body_limit && in_ranks s.config target)
    (Some (put s (unit_put s kind prio target answer body) s.end))
    (λ t. put_good s (unit_put s kind prio target answer body) s.end refl)
open_good s (calls_to.Reserve types) = reserve_good s types s.end refl
open_good s (calls_to.Try types) = look_good s types s.end refl
open_good s (calls_to.Fetch id) = fetch_good s id (held s id)
open_good s (calls_to.BeginBatch common) =
    if_some IsGood (is_none s.batch && nat_le (length common) body_limit) (Some (keep s common s.end)) (λ t. keep_good s common s.end refl)
open_good s calls_to.EndBatch = close_good s s.batch
open_good s (calls_to.Count kind) = (λ e told. refl, (refl, tt))
open_good s calls_to.SetDone = (λ e told. refl, (refl, tt))
open_good s calls_to.Finish = if_some IsGood (is_none s.batch) (Some (finish s)) (λ t. (λ e told. refl, (refl, tt)))

-- A letter.

-- what a letter makes a rank enter: that each server has declined its call, if anything
abbrev pub ends_alone : Entry → Bool
ends_alone (enters.Rejected rank call) = true
ends_alone (enters.NoCurrent rank call) = true
ends_alone _ = false

-- each entry says that every server has declined a call
abbrev pub EndAlone : List Entry → Type 0
EndAlone es = Each (λ (e : Entry). ends_alone e ≡ true) es

abbrev IsAnswered : ClientResponse → Type 0
IsAnswered x = IsModest x.state × EndAlone x.entries

-- where such a call is pending no end was told
abbrev NoEnd : ClientModel → Pending → Type 0
NoEnd s p = is_open p ≡ true → s.end ≡ None

none_told : (s : ClientModel) (e : End) → s.end ≡ None → s.end ≡ Some e → ⊥
none_told s e none told = let both : None ≡ Some e = sym none ∙ told in absurd (cc)

refused_good : (s : ClientModel) (unit : Unit) (first : Server) (tried : ℕ) (t : Bool) → s.end ≡ None
    → IsAnswered (refused s unit first tried t)
refused_good s unit first tried true none = (λ e told. absurd (none_told s e none told), tt)
refused_good s unit first tried false none = (λ e told. refl, (refl, tt))

looked_good : (s : ClientModel) (request : ℕ) (types : Option (List WorkType)) (tried : ℕ) (t : Bool) → s.end ≡ None
    → IsAnswered (looked s request types tried t)
looked_good s request types tried true none = (λ e told. absurd (none_told s e none told), tt)
looked_good s request types tried false none = (λ e told. refl, (refl, tt))

part_refused_good : (s : ClientModel) (request : ℕ) (common : List ℕ) (first : Server) (tried : ℕ) (t : Bool) → s.end ≡ None
    → IsAnswered (part_refused s request common first tried t)
part_refused_good s request common first tried true none = (λ e told. absurd (none_told s e none told), tt)
part_refused_good s request common first tried false none = (λ e told. refl, (refl, tt))

told_done_good : (s : ClientModel) (request tried : ℕ) (t : Bool) → IsAnswered (told_done s request tried t)
told_done_good s request tried true = (λ e told. refl, tt)
told_done_good s request tried false = (λ e told. refl, tt)

own_came_good : (s : ClientModel) (request : ℕ) (note : UnitNote) (own : List ℕ) (o : Option CommonRef)
    → IsAnswered (own_came s request note own o)
own_came_good s request note own None = (λ e told. refl, tt)
own_came_good s request note own (Some common) = (λ e told. refl, tt)

put_heard : (s : ClientModel) (unit : Unit) (first : Server) (tried : ℕ) (from : Server) (m : Message) → s.end ≡ None
    → OnSome (hear_put s unit first tried from m) IsAnswered
put_heard s unit first tried from (tells.Accepted to) none =
    if_some IsAnswered (is_for unit.id.number (asked s first tried) from to) _ (λ t. (λ e told. refl, tt))
put_heard s unit first tried from (tells.Full to charge) none =
    if_some IsAnswered (is_for unit.id.number (asked s first tried) from to)
    (Some (refused s unit first tried (nat_lt (tried + 1) s.config.servers)))
    (λ t. refused_good s unit first tried (nat_lt (tried + 1) s.config.servers) none)
put_heard s unit first tried from (tells.Ended to end) none =
    if_some IsAnswered (is_for unit.id.number (asked s first tried) from to) _ (λ t. (λ e told. refl, tt))
put_heard s unit first tried from _ none = tt

reserve_heard : (s : ClientModel) (request : ℕ) (types : Option (List WorkType)) (from : Server) (m : Message)
    → OnSome (hear_reserve s request types from m) IsAnswered
reserve_heard s request types from (tells.Grant to note) =
    if_some IsAnswered (is_for request (home s.config s.me) from to && expects_note s note) _ (λ t. (λ e told. refl, tt))
reserve_heard s request types from (tells.Ended to end) =
    if_some IsAnswered (is_for request (home s.config s.me) from to) _ (λ t. (λ e told. refl, tt))
reserve_heard s request types from _ = tt

look_heard : (s : ClientModel) (request : ℕ) (types : Option (List WorkType)) (tried : ℕ) (from : Server) (m : Message) → s.end ≡ None
    → OnSome (hear_look s request types tried from m) IsAnswered
look_heard s request types tried from (tells.Grant to note) none =
    if_some IsAnswered (is_for request (looks_at s tried) from to && expects_note s note) _ (λ t. (λ e told. refl, tt))
look_heard s request types tried from (tells.Nothing to) none =
    if_some IsAnswered (is_for request (looks_at s tried) from to)
    (Some (looked s request types tried (nat_lt (tried + 1) s.config.servers)))
    (λ t. looked_good s request types tried (nat_lt (tried + 1) s.config.servers) none)
look_heard s request types tried from (tells.Ended to end) none =
    if_some IsAnswered (is_for request (looks_at s tried) from to) _ (λ t. (λ e told. refl, tt))
look_heard s request types tried from _ none = tt

fetch_heard : (s : ClientModel) (request : ℕ) (note : UnitNote) (from : Server) (m : Message)
    → OnSome (hear_fetch s request note from m) IsAnswered
fetch_heard s request note from (tells.Bytes to body) =
    if_some IsAnswered (is_for request note.server from to && (length body == note.length))
    (Some (own_came s request note body note.common))
    (λ t. own_came_good s request note body note.common)
fetch_heard s request note from _ = tt

common_heard : (s : ClientModel) (request : ℕ) (note : UnitNote) (common : CommonRef) (own : List ℕ) (from : Server) (m : Message)
    → OnSome (hear_common s request note common own from m) IsAnswered
common_heard s request note common own from (tells.Bytes to body) =
    if_some IsAnswered (is_for request common.server from to && (length body == common.length)) _ (λ t. (λ e told. refl, tt))
common_heard s request note common own from _ = tt

keep_heard : (s : ClientModel) (request : ℕ) (common : List ℕ) (first : Server) (tried : ℕ) (from : Server) (m : Message) → s.end ≡ None
    → OnSome (hear_keep s request common first tried from m) IsAnswered
keep_heard s request common first tried from (tells.Accepted to) none =
    if_some IsAnswered (is_for request (asked s first tried) from to) _ (λ t. (λ e told. refl, tt))
keep_heard s request common first tried from (tells.Full to charge) none =
    if_some IsAnswered (is_for request (asked s first tried) from to)
    (Some (part_refused s request common first tried (nat_lt (tried + 1) s.config.servers)))
    (λ t. part_refused_good s request common first tried (nat_lt (tried + 1) s.config.servers) none)
keep_heard s request common first tried from (tells.Ended to end) none =
    if_some IsAnswered (is_for request (asked s first tried) from to) _ (λ t. (λ e told. refl, tt))
keep_heard s request common first tried from _ none = tt

close_heard : (s : ClientModel) (request : ℕ) (batch : CommonRef) (from : Server) (m : Message)
    → OnSome (hear_close s request batch from m) IsAnswered
close_heard s request batch from (tells.Closed to) =
    if_some IsAnswered (is_for request batch.server from to) _ (λ t. (λ e told. refl, tt))
close_heard s request batch from _ = tt

count_heard : (s : ClientModel) (request : ℕ) (kind : WorkType) (from : Server) (m : Message)
    → OnSome (hear_count s request kind from m) IsAnswered
count_heard s request kind from (tells.Counted to info) =
    if_some IsAnswered (is_for request (home s.config s.me) from to) _ (λ t. (λ e told. refl, tt))
count_heard s request kind from _ = tt

done_heard : (s : ClientModel) (request tried : ℕ) (from : Server) (m : Message) → OnSome (hear_done s request tried from m) IsAnswered
done_heard s request tried from (tells.DoneHeard to) =
    if_some IsAnswered (is_for request (looks_at s tried) from to) (Some (told_done s request tried (nat_lt (tried + 1) s.config.servers)))
    (λ t. told_done_good s request tried (nat_lt (tried + 1) s.config.servers))
done_heard s request tried from _ = tt

answer_good : (s : ClientModel) (p : Pending) (from : Server) (m : Message) → NoEnd s p → OnSome (answer_call s p from m) IsAnswered
answer_good s waits_for.Nothing from m none = tt
answer_good s (waits_for.Put unit first tried) from m none = put_heard s unit first tried from m (none refl)
answer_good s (waits_for.Reserve request types) from m none = reserve_heard s request types from m
answer_good s (waits_for.Try request types tried) from m none = look_heard s request types tried from m (none refl)
answer_good s (waits_for.Fetch request note) from m none = fetch_heard s request note from m
answer_good s (waits_for.Common request note common own) from m none = common_heard s request note common own from m
answer_good s (waits_for.Keep request common first tried) from m none = keep_heard s request common first tried from m (none refl)
answer_good s (waits_for.Close request batch) from m none = close_heard s request batch from m
answer_good s (waits_for.Count request kind) from m none = count_heard s request kind from m
answer_good s (waits_for.SetDone request tried) from m none = done_heard s request tried from m

-- The step.

-- a step leaves the rank modest, and enters no work
abbrev pub IsGoodStep : Made → Type 0
IsGoodStep x = IsModest x.state × AreIdle x.entries

posted_good : (x : Made) (says : List ClientSaying) → IsGoodStep x → IsGoodStep (post x says)
posted_good x [] good = good
posted_good x (y ∷ says) good = posted_good (record x { state = counted x.state y.to; sends = x.sends ++ posted x.state y ∷ [] }) says good

made_good : (x : ClientResponse) → IsGood x → IsGoodStep (made x)
made_good x good = posted_good (record { state = x.state; sends = []; entries = x.entries; answer = x.answer }) x.says good

all_made : (o : Option ClientResponse) → OnSome o IsGood → OnSome o (λ x. IsGoodStep (made x))
all_made None good = tt
all_made (Some x) good = made_good x good

-- the beginning of a call is such a step
pub begin_good : (s : ClientModel) (call : Call) (x : Made) → begin s call ≡ Some x → IsGoodStep x
begin_good s call x is =
    let o = open_call (ticked s (call_stamp s)) call in
    let good = open_good (ticked s (call_stamp s)) call in
    on_some IsGoodStep (begin s call) x
    (if_some IsGoodStep (is_free s) (option_map made o) (λ t. mapped_some IsGoodStep made o (all_made o good))) is

no_end : (s : ClientModel) → IsModest s → NoEnd s s.pending
no_end s modest open_call = by_end s.end refl
  where
    by_end : (o : Option End) → s.end ≡ o → s.end ≡ None
    by_end None is = is
    by_end (Some e) is = let closed = modest e is in let both : true ≡ false = sym open_call ∙ closed in absurd (cc)

ends_idle : (es : List Entry) → EndAlone es → AreIdle es
ends_idle [] ends = tt
ends_idle (e ∷ es) ends = (by_entry e ends.0, ends_idle es ends.1)
  where
    by_entry : (e : Entry) → ends_alone e ≡ true → is_work e ≡ false
    by_entry (enters.Rejected rank call) is = refl
    by_entry (enters.NoCurrent rank call) is = refl
    by_entry _ is = absurd (cc)

abbrev IsAnsweredStep : Made → Type 0
IsAnsweredStep x = IsModest x.state × EndAlone x.entries

posted_answered : (x : Made) (says : List ClientSaying) → IsAnsweredStep x → IsAnsweredStep (post x says)
posted_answered x [] good = good
posted_answered x (y ∷ says) good =
    posted_answered (record x { state = counted x.state y.to; sends = x.sends ++ posted x.state y ∷ [] }) says good

all_answered : (o : Option ClientResponse) → OnSome o IsAnswered → OnSome o (λ x. IsAnsweredStep (made x))
all_answered None good = tt
all_answered (Some x) good =
    posted_answered (record { state = x.state; sends = []; entries = x.entries; answer = x.answer }) x.says good

-- a rank that was told an end hears modestly: it brings and wants nothing more
pub hear_answers : (s : ClientModel) (from : Server) (letter : Letter) (x : Made) → IsModest s → hear s from letter ≡ Some x
    → IsModest x.state × EndAlone x.entries
hear_answers s from letter x modest is =
    let o = answer_call (ticked s (letter_stamp s letter)) s.pending from letter.message in
    let good = answer_good (ticked s (letter_stamp s letter)) s.pending from letter.message (no_end s modest) in
    on_some IsAnsweredStep (hear s from letter) x
    (if_some IsAnsweredStep (not s.finished && nat_lt letter.stamp stamp_limit) (option_map made o)
    (λ t. mapped_some IsAnsweredStep made o (all_answered o good))) is

-- what a modest rank hears is such a step
pub hear_good : (s : ClientModel) (from : Server) (letter : Letter) (x : Made) → IsModest s → hear s from letter ≡ Some x → IsGoodStep x
hear_good s from letter x modest is =
    let a = hear_answers s from letter x modest is in (a.0, ends_idle x.entries a.1)
