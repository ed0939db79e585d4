-- What makes an actor fail in an event, by the stamp of the event.
use Rattle.std.proofs.Common.{◌≡◌, ◌<◌, ◌≤◌, ◌^◌, ◌↔◌, ℕ, Bool, true, false, ◌&&◌, cond, length, get_or, Option, Some, None, Result, Ok}
use Rattle.std.proofs.Common.{Err, inl, inr, ◌⊎◌, refl, sym, ap, ◌∙◌, subst, arith}
use Rattle.std.specs.Prelude.{IsSome, IfErr, OnOk, nat_le, nat_lt, not}
use Rattle.std.specs.Option.{option_map}
use Rattle.std.proofs.lemmas.Bool.{leb-false, leb-true}
use Rattle.std.proofs.lemmas.List.{get_or_default}
use Rattle.adlb_unit.specs.declared.letters.Letter.{Letter}
use Rattle.adlb_unit.specs.declared.messages.Message.{Message}
use Rattle.adlb_unit.specs.declared.messages.Message.TheVariants as tells
use Rattle.adlb_unit.specs.declared.names.Rank.{Rank}
use Rattle.adlb_unit.specs.declared.names.Server.{Server}
use Rattle.adlb_unit.specs.declared.notes.Trouble.{Trouble}
use Rattle.adlb_unit.specs.declared.notes.Trouble.TheVariants as troubles
use Rattle.rank_client.specs.declared.pendings.Pending.{Pending}
use Rattle.rank_client.specs.declared.pendings.Pending.TheVariants as waits_for
use Rattle.rank_client.specs.Rules.{answer_call}
use Rattle.rank_client.specs.State.{ClientModel, start as new_client}
use Rattle.rank_client.specs.Step.{first_trouble, hear, late, letter_stamp, letter_trouble, made, ticked, told_trouble}
use Rattle.server_core.specs.declared.steps.Step.{Step}
use Rattle.server_law.specs.State.{ServerModel, start as new_pool}
use Rattle.core_run.specs.World.{World, client_of, pool_of}
use Rattle.core_world.specs.declared.stages.Stage.TheInside.{Inside}
use Rattle.core_world.specs.Applied.{Causes}
use Rattle.core_world.specs.Stage.{IsFull, world_of}

-- What is found in the fields is what is found in the world.

-- the client read from the world is that of the rank
pub found_client : (i : Inside) (w : World) (rank : Rank) (client : ClientModel) → world_of i ≡ w → IsFull (world_of i)
    → rank.0 < w.config.ranks
    → client ≡ get_or i.ranks.items rank.0 client → client ≡ client_of w rank
found_client i w rank client view full there is =
    let ranks : i.config.ranks ≡ w.config.ranks = ap (λ (v : World). v.config.ranks) view in
    let within : rank.0 < length i.ranks.items = let e = full.ranks in omega arith in
    is ∙ get_or_default i.ranks.items rank.0 client (new_client i.config rank) within ∙ ap (λ (v : World). client_of v rank) view

-- the state read from the world is that of the server
pub found_pool : (i : Inside) (w : World) (server : Server) (pool : ServerModel) → world_of i ≡ w → IsFull (world_of i)
    → server.0 < w.config.servers
    → pool ≡ get_or i.servers.items server.0 pool → pool ≡ pool_of w server
found_pool i w server pool view full there is =
    let servers : i.config.servers ≡ w.config.servers = ap (λ (v : World). v.config.servers) view in
    let within : server.0 < length i.servers.items = let e = full.servers in omega arith in
    is ∙ get_or_default i.servers.items server.0 pool (new_pool i.config server) within ∙ ap (λ (v : World). pool_of v server) view

-- A stamp that is given.

late_none : (stamp : ℕ) → late stamp ≡ None → stamp < 2 ^ 48
late_none stamp none = by_test (nat_le (2 ^ 48) stamp) refl none
  where
    by_test : (b : Bool) → nat_le (2 ^ 48) stamp ≡ b → cond b (Some (troubles.TooLong stamp)) None ≡ None → stamp < 2 ^ 48
    by_test true is none = absurd (cc)
    by_test false is none = leb-false (2 ^ 48) stamp is

first_none : (a b : Option Trouble) → first_trouble a b ≡ None → b ≡ None
first_none None b none = none
first_none (Some t) b none = absurd (cc)

-- a letter that makes no trouble has a stamp below 2^48
pub on_time : (s : ClientModel) (letter : Letter) → letter_trouble s letter ≡ None → letter_stamp s letter < 2 ^ 48
on_time s letter none =
    late_none (letter_stamp s letter)
    (first_none (told_trouble letter.message) (late (letter_stamp s letter))
    (first_none s.trouble (first_trouble (told_trouble letter.message) (late (letter_stamp s letter))) none))

-- A stamp that is not.

late_causes : (stamp : ℕ) (trouble : Trouble) → late stamp ≡ Some trouble → Causes stamp trouble
late_causes stamp trouble is = by_test (nat_le (2 ^ 48) stamp) refl is
  where
    by_test : (b : Bool) → nat_le (2 ^ 48) stamp ≡ b → cond b (Some (troubles.TooLong stamp)) None ≡ Some trouble → Causes stamp trouble
    by_test true is some =
        let same : troubles.TooLong stamp ≡ trouble = cc in
        let there : Causes stamp (troubles.TooLong stamp) = (leb-true (2 ^ 48) stamp is, refl) in
        subst (Causes stamp) same there
    by_test false is some = absurd (cc)

told_none : (s : ClientModel) (pending : Pending) (from : Server) (message : Message) → IsSome (answer_call s pending from message)
    → told_trouble message ≡ None
told_none s waits_for.Nothing from (tells.Broken trouble) some = absurd (cc)
told_none s (waits_for.Put unit first tried) from (tells.Broken trouble) some = absurd (cc)
told_none s (waits_for.Reserve request types) from (tells.Broken trouble) some = absurd (cc)
told_none s (waits_for.Try request types tried) from (tells.Broken trouble) some = absurd (cc)
told_none s (waits_for.Fetch request note) from (tells.Broken trouble) some = absurd (cc)
told_none s (waits_for.Common request note common own) from (tells.Broken trouble) some = absurd (cc)
told_none s (waits_for.Keep request common first tried) from (tells.Broken trouble) some = absurd (cc)
told_none s (waits_for.Close request batch) from (tells.Broken trouble) some = absurd (cc)
told_none s (waits_for.Count request kind) from (tells.Broken trouble) some = absurd (cc)
told_none s (waits_for.SetDone request tried) from (tells.Broken trouble) some = absurd (cc)
told_none s pending from _ some = refl

-- a mapped option with a value comes from one with a value
pub unmapped : {X Y : Type 0} (f : X → Y) (o : Option X) → IsSome (option_map f o) → IsSome o
unmapped f None some = absurd (cc)
unmapped f (Some x) some = refl

heard_told_none : (s : ClientModel) (from : Server) (letter : Letter) → IsSome (hear s from letter) → told_trouble letter.message ≡ None
heard_told_none s from letter some = by_test (not s.finished && nat_lt letter.stamp (2 ^ 48)) some
  where
    by_test : (b : Bool)
        → IsSome (cond b (option_map made (answer_call (ticked s (letter_stamp s letter)) s.pending from letter.message)) None)
        → told_trouble letter.message ≡ None
    by_test true some = told_none (ticked s (letter_stamp s letter)) s.pending from letter.message (unmapped made _ some)
    by_test false some = absurd (cc)

-- a trouble of an answer has the stamp as its cause
pub hear_causes : (s : ClientModel) (from : Server) (letter : Letter) (trouble : Trouble) → s.trouble ≡ None → IsSome (hear s from letter)
    → letter_trouble s letter ≡ Some trouble → Causes (letter_stamp s letter) trouble
hear_causes s from letter trouble whole expected is =
    let told = heard_told_none s from letter expected in
    let just : late (letter_stamp s letter) ≡ Some trouble = sym (rw (whole, told) refl) ∙ is in
    late_causes (letter_stamp s letter) trouble just

-- A server tells it with its answer.

early_or_late : (n : ℕ) → (n < 2 ^ 48) ⊎ (2 ^ 48 ≤ n)
early_or_late n = by_test (nat_le (2 ^ 48) n) refl
  where
    by_test : (b : Bool) → nat_le (2 ^ 48) n ≡ b → (n < 2 ^ 48) ⊎ (2 ^ 48 ≤ n)
    by_test true is = inr (leb-true (2 ^ 48) n is)
    by_test false is = inl (leb-false (2 ^ 48) n is)

abbrev Tells : Result Step Trouble → ℕ → Type 0
Tells r stamp = (n : ℕ) → (r ≡ Err (troubles.TooLong n)) ↔ ((2 ^ 48 ≤ stamp) × (n ≡ stamp))

-- a step that succeeds has a stamp below 2^48
pub step_on_time : (r : Result Step Trouble) (stamp : ℕ) → Tells r stamp → OnOk r (stamp < 2 ^ 48)
step_on_time (Err trouble) stamp tells_it = tt
step_on_time (Ok x) stamp tells_it =
    elim (early_or_late stamp) [
      | inl early ↦ early
      | inr late ↦ let e : Ok x ≡ Err (troubles.TooLong stamp) = (tells_it stamp).1 (late, refl) in absurd (cc)
    ]

-- a step that fails has its stamp as the cause
pub step_causes : (r : Result Step Trouble) (stamp : ℕ) → Tells r stamp → IfErr r (Causes stamp)
step_causes (Ok x) stamp tells_it = tt
step_causes (Err (troubles.TooLong n)) stamp tells_it = let t = (tells_it n).0 refl in (rw t.1 t.0, t.1)
step_causes (Err troubles.Memory) stamp tells_it =
    elim (early_or_late stamp) [
      | inl early ↦ early
      | inr late ↦ let e : Err troubles.Memory ≡ Err (troubles.TooLong stamp) = (tells_it stamp).1 (late, refl) in absurd (cc)
    ]
