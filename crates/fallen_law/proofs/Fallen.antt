-- Journals of actors that may have failed compose.
use Rattle.std.proofs.Common.{◌≡◌, ◌<◌, ◌==◌, ℕ, Bool, true, false, cond, not, ◌&&◌, List, [], ◌∷◌, ◌++◌, Option, Some, None, refl, ap, sym}
use Rattle.std.proofs.Common.{◌∙◌, subst, append_assoc}
use Rattle.std.specs.Prelude.{nat_lt}
use Rattle.std.specs.List.{AllByRecursion as Each}
use Rattle.std.specs.Option.{option_map}
use mathlib.Core.List.{IsPrefix}
use Rattle.adlb_unit.specs.Limits.{stamp_limit}
use Rattle.adlb_unit.specs.Links.{is_within, place_of}
use Rattle.adlb_unit.specs.declared.actors.Actor.{Actor}
use Rattle.adlb_unit.specs.declared.actors.Actor.TheVariants as by
use Rattle.adlb_unit.specs.declared.configs.Config.{Config}
use Rattle.adlb_unit.specs.declared.letters.Letter.{Letter}
use Rattle.adlb_unit.specs.declared.messages.Message.{Message}
use Rattle.adlb_unit.specs.declared.messages.Message.TheVariants as tells
use Rattle.adlb_unit.specs.declared.names.Server.{Server}
use Rattle.rank_client.specs.declared.pendings.Pending.{Pending}
use Rattle.rank_client.specs.declared.pendings.Pending.TheVariants as waits_for
use Rattle.rank_client.specs.Rules.{answer_call}
use Rattle.rank_client.specs.State.{ClientModel, start as new_client}
use Rattle.rank_client.specs.Step.{Made, hear, letter_stamp, made, ticked}
use Rattle.server_law.specs.Carried.{Served, carried}
use Rattle.server_law.specs.Endings.{ends_event}
use Rattle.server_law.specs.Plan.{Plan, in_order}
use Rattle.server_law.specs.State.{ServerModel, start as new_pool}
use Rattle.server_law.specs.Step.{acts, at_event, rule, serve}
use Rattle.core_run.specs.World.{actors, has_ended}
use Rattle.rank_mail.specs.Mailboxes.{letters_of}
use Rattle.merge_history.specs.declared.causes.Cause.{Cause}
use Rattle.merge_history.specs.declared.causes.Cause.TheVariants as causes
use Rattle.merge_history.specs.Events.{Event}
use Rattle.merge_history.specs.Own.{ClientWalks, Finals, PoolWalks, Walks, client_step, got, letter_from, pool_step, sent}
use Rattle.actor_desk.specs.Desks.{Begins, DeskModel, is_told, sent_at}

-- Messages that no event sends have no rule.

answer_told : (s : ClientModel) (from : Server) (p : Pending) (m : Message) → is_told m ≡ true → answer_call s p from m ≡ None
answer_told s from waits_for.Nothing (tells.Abort trouble absent) told = refl
answer_told s from waits_for.Nothing (tells.Broken trouble) told = refl
answer_told s from waits_for.Nothing (tells.Gone trouble) told = refl
answer_told s from waits_for.Nothing _ told = absurd (cc)
answer_told s from (waits_for.Put unit first tried) (tells.Abort trouble absent) told = refl
answer_told s from (waits_for.Put unit first tried) (tells.Broken trouble) told = refl
answer_told s from (waits_for.Put unit first tried) (tells.Gone trouble) told = refl
answer_told s from (waits_for.Put unit first tried) _ told = absurd (cc)
answer_told s from (waits_for.Reserve request types) (tells.Abort trouble absent) told = refl
answer_told s from (waits_for.Reserve request types) (tells.Broken trouble) told = refl
answer_told s from (waits_for.Reserve request types) (tells.Gone trouble) told = refl
answer_told s from (waits_for.Reserve request types) _ told = absurd (cc)
answer_told s from (waits_for.Try request types tried) (tells.Abort trouble absent) told = refl
answer_told s from (waits_for.Try request types tried) (tells.Broken trouble) told = refl
answer_told s from (waits_for.Try request types tried) (tells.Gone trouble) told = refl
answer_told s from (waits_for.Try request types tried) _ told = absurd (cc)
answer_told s from (waits_for.Fetch request note) (tells.Abort trouble absent) told = refl
answer_told s from (waits_for.Fetch request note) (tells.Broken trouble) told = refl
answer_told s from (waits_for.Fetch request note) (tells.Gone trouble) told = refl
answer_told s from (waits_for.Fetch request note) _ told = absurd (cc)
answer_told s from (waits_for.Common request note common own) (tells.Abort trouble absent) told = refl
answer_told s from (waits_for.Common request note common own) (tells.Broken trouble) told = refl
answer_told s from (waits_for.Common request note common own) (tells.Gone trouble) told = refl
answer_told s from (waits_for.Common request note common own) _ told = absurd (cc)
answer_told s from (waits_for.Keep request common first tried) (tells.Abort trouble absent) told = refl
answer_told s from (waits_for.Keep request common first tried) (tells.Broken trouble) told = refl
answer_told s from (waits_for.Keep request common first tried) (tells.Gone trouble) told = refl
answer_told s from (waits_for.Keep request common first tried) _ told = absurd (cc)
answer_told s from (waits_for.Close request batch) (tells.Abort trouble absent) told = refl
answer_told s from (waits_for.Close request batch) (tells.Broken trouble) told = refl
answer_told s from (waits_for.Close request batch) (tells.Gone trouble) told = refl
answer_told s from (waits_for.Close request batch) _ told = absurd (cc)
answer_told s from (waits_for.Count request kind) (tells.Abort trouble absent) told = refl
answer_told s from (waits_for.Count request kind) (tells.Broken trouble) told = refl
answer_told s from (waits_for.Count request kind) (tells.Gone trouble) told = refl
answer_told s from (waits_for.Count request kind) _ told = absurd (cc)
answer_told s from (waits_for.SetDone request tried) (tells.Abort trouble absent) told = refl
answer_told s from (waits_for.SetDone request tried) (tells.Broken trouble) told = refl
answer_told s from (waits_for.SetDone request tried) (tells.Gone trouble) told = refl
answer_told s from (waits_for.SetDone request tried) _ told = absurd (cc)

rule_told : (s : ServerModel) (from : Actor) (m : Message) → is_told m ≡ true → rule s from m ≡ None
rule_told s (by.Rank from) (tells.Abort trouble absent) told = refl
rule_told s (by.Rank from) (tells.Broken trouble) told = refl
rule_told s (by.Rank from) (tells.Gone trouble) told = refl
rule_told s (by.Rank from) _ told = absurd (cc)
rule_told s (by.Server from) (tells.Abort trouble absent) told = none_if (from.0 == s.me.0)
  where
    none_if : (t : Bool) → cond {A = Option Plan} t None None ≡ None
    none_if true = refl
    none_if false = refl
rule_told s (by.Server from) (tells.Broken trouble) told = none_if (from.0 == s.me.0)
  where
    none_if : (t : Bool) → cond {A = Option Plan} t None None ≡ None
    none_if true = refl
    none_if false = refl
rule_told s (by.Server from) (tells.Gone trouble) told = none_if (from.0 == s.me.0)
  where
    none_if : (t : Bool) → cond {A = Option Plan} t None None ≡ None
    none_if true = refl
    none_if false = refl
rule_told s (by.Server from) _ told = absurd (cc)

-- So no event gets such a letter.

plain_if : (t : Bool) → (t ≡ true → ⊥) → t ≡ false
plain_if true none = absurd (none refl)
plain_if false none = refl

none_mapped : {X Y : Type 0} (f : X → Y) (o : Option X) (y : Y) → o ≡ None → option_map f o ≡ Some y → ⊥
none_mapped f o y none is = absurd (let e : option_map f o ≡ None = ap (option_map f) none in cc)

when_so : {X : Type 0} (t : Bool) (o : Option X) (x : X) → cond t o None ≡ Some x → o ≡ Some x
when_so true o x is = is
when_so false o x is = absurd (cc)

pub hear_plain : (s : ClientModel) (from : Server) (letter : Letter) (x : Made) → hear s from letter ≡ Some x → is_told letter.message ≡ false
hear_plain s from letter x is =
    plain_if (is_told letter.message) (λ told.
    none_mapped made (answer_call (ticked s (letter_stamp s letter)) s.pending from letter.message) x
    (answer_told (ticked s (letter_stamp s letter)) from s.pending letter.message told)
    (when_so (not s.finished && nat_lt letter.stamp stamp_limit) _ x is))

pub serve_plain : (s : ServerModel) (from : Actor) (letter : Letter) (x : Served) → serve s from letter ≡ Some x
    → is_told letter.message ≡ false
serve_plain s from letter x is =
    let t = at_event s letter in
    plain_if (is_told letter.message) (λ told.
    none_mapped (λ list. carried list t) (acts t from letter.message) x
    (ap (option_map (in_order ends_event t)) (rule_told t from letter.message told))
    (when_so (is_within s.config from && nat_lt letter.stamp stamp_limit) _ x is))

abbrev Plain : List Letter → Type 0
Plain letters = Each (λ (l : Letter). is_told l.message ≡ false) letters

pub each_both : (P : Letter → Type 0) (xs ys : List Letter) → Each P xs → Each P ys → Each P (xs ++ ys)
each_both P [] ys a b = b
each_both P (x ∷ xs) ys a b = (a.0, each_both P xs ys a.1 b)

one_plain : (t : Bool) (letter : Letter) → is_told letter.message ≡ false → Plain (cond t (letter ∷ []) [])
one_plain true letter plain = (plain, tt)
one_plain false letter plain = tt

client_gets : (config : Config) (from : ℕ) (s : ClientModel) (cause : Cause) (x : Made) → client_step config s cause ≡ Some x
    → Plain (letter_from config from cause)
client_gets config from s (causes.Called call) x is = tt
client_gets config from s (causes.Got (by.Rank of) letter) x is = absurd (cc)
client_gets config from s (causes.Got (by.Server of) letter) x is =
    one_plain (place_of config (by.Server of) == from) letter
    (hear_plain s of letter x (when_so (nat_lt of.0 config.servers) (hear s of letter) x is))

pool_gets : (config : Config) (from : ℕ) (s : ServerModel) (cause : Cause) (x : Served) → pool_step config s cause ≡ Some x
    → Plain (letter_from config from cause)
pool_gets config from s (causes.Called call) x is = absurd (cc)
pool_gets config from s (causes.Got of letter) x is =
    one_plain (place_of config of == from) letter
    (serve_plain s of letter x (when_so (is_within config of && not (has_ended s)) (serve s of letter) x is))

client_plain : (config : Config) (from : ℕ) (s last : ClientModel) (events : List Event) → ClientWalks config s events last
    → Plain (got config from events)
client_plain config from s last [] walks = tt
client_plain config from s last (e ∷ events) walks =
    each_both (λ (l : Letter). is_told l.message ≡ false) (letter_from config from e.cause) (got config from events)
    (client_gets config from s e.cause walks.0 walks.1) (client_plain config from (walks.0).state last events walks.5)

pool_plain : (config : Config) (from : ℕ) (s last : ServerModel) (events : List Event) → PoolWalks config s events last
    → Plain (got config from events)
pool_plain config from s last [] walks = tt
pool_plain config from s last (e ∷ events) walks =
    each_both (λ (l : Letter). is_told l.message ≡ false) (letter_from config from e.cause) (got config from events)
    (pool_gets config from s e.cause walks.0 walks.1) (pool_plain config from (walks.0).state last events walks.5)

-- an own run gets no such letter
pub walks_plain : (config : Config) (finals : Finals) (me : Actor) (from : ℕ) (events : List Event) → Walks config finals me events
    → Plain (got config from events)
walks_plain config finals (by.Rank rank) from events walks = client_plain config from (new_client config rank)
    (finals.client rank) events walks
walks_plain config finals (by.Server server) from events walks = pool_plain config from (new_pool config server)
    (finals.pool server) events walks

-- On each link what was got is a prefix of what was sent.

pub front_of : (xs ys zs : List Letter) → Each (λ l. is_told l.message ≡ false) xs → Each (λ l. is_told l.message ≡ true) zs
    → IsPrefix xs (ys ++ zs) → IsPrefix xs ys
front_of [] ys zs plain told begins = (ys, refl)
front_of (x ∷ xs) [] [] plain told begins = absurd (cc begins.1)
front_of (x ∷ xs) [] (z ∷ zs) plain told begins =
    let same : x ≡ z = cc begins.1 in absurd
    (let e = ap (λ (l : Letter). is_told l.message) same in let a = plain.0 in let b = told.0 in cc)
front_of (x ∷ xs) (y ∷ ys) zs plain told begins =
    let same : x ≡ y = cc begins.1 in
    let later = front_of xs ys zs plain.1 told (begins.0, cc begins.1) in
    (later.0, λ i. same i ∷ later.1 i)

longer : (xs ys zs : List Letter) → IsPrefix xs ys → IsPrefix ys zs → IsPrefix xs zs
longer xs ys zs a b = (a.0 ++ b.0, sym (append_assoc xs a.0 b.0) ∙ ap (λ l. l ++ b.0) a.1 ∙ b.1)

-- on each link what was got is a prefix of what was sent
pub link_of : (config : Config) (finals : Finals) (me : Actor) (from to : ℕ) (d e : DeskModel) → d.config ≡ config → e.config ≡ config
    → from < actors config → to < actors config → Begins d → Begins e → Walks config finals me e.events
    → IsPrefix (letters_of from e.got) (sent_at d to) → IsPrefix (got config from e.events) (sent config to d.events)
link_of config finals me from to d e here there from_low to_low sends gets walks link =
    let s = sends.sends to (subst (λ (c : Config). to < actors c) (sym here) to_low) in
    let g = gets.receives from (subst (λ (c : Config). from < actors c) (sym there) from_low) in
    let its : IsPrefix (got config from e.events) (letters_of from e.got) =
    subst (λ (c : Config). IsPrefix (got c from e.events) (letters_of from e.got)) there g in
    let all = longer (got config from e.events) (letters_of from e.got) (sent_at d to) its link in
    let is : sent_at d to ≡ sent config to d.events ++ s.0 =
    s.1 ∙ ap (λ (c : Config). sent c to d.events ++ s.0) here in
    front_of (got config from e.events) (sent config to d.events) s.0 (walks_plain config finals me from e.events walks) s.2
    (all.0, all.1 ∙ is)
