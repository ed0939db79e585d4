-- What follows the act that takes a rank's letter, but for notices and checks: acts that say a letter after which more follows.
use Rattle.adlb_unit.specs.declared.messages.Message.{Message}
use Rattle.adlb_unit.specs.declared.names.Rank.{Rank}
use Rattle.adlb_unit.specs.declared.names.Server.{Server}
use Rattle.adlb_unit.specs.declared.names.UnitId.{UnitId}
use Rattle.adlb_unit.specs.declared.notes.End.{End}
use Rattle.adlb_unit.specs.declared.units.Unit.{Unit as Work}
use Rattle.server_components.specs.Store.{part_in}
use Rattle.server_components.specs.declared.parts.Part.{Part}
use Rattle.core_law.proofs.UnderWay.{each_append}
use Rattle.core_law.specs.Measures.{said_weight}
use Rattle.core_law.specs.OnLinks.{Each}
use Rattle.core_wish_law.specs.News.{news}
use Rattle.server_components.specs.Pushes.{query_of}
use Rattle.server_components.specs.declared.pushing.PushQuery.{PushQuery}
use Rattle.server_components.specs.Parked.{is_of}
use Rattle.server_components.specs.declared.waits.Waiting.{Waiting}
use Rattle.server_components.specs.declared.wishes.Wish.{Wish}
use Rattle.server_law.specs.Acts.{Act, Around, Asks_on, Gives, Hints, Queries, Tells, says}
use Rattle.server_law.specs.Batches.{can_close, can_fetch, close, expects_keep, part_if, share}
use Rattle.server_law.specs.Carried.{all_done}
use Rattle.server_law.specs.Endings.{tells_all, tells_idle, tells_one}
use Rattle.server_law.specs.Fetches.{fetch}
use Rattle.server_law.specs.Finding.{Place, is_free_as, is_pinned_as, place_in, taker}
use Rattle.server_law.specs.Hints.{hints_if, is_first_for, is_later_for}
use Rattle.server_law.specs.Plan.{Decider, Plan, decided}
use Rattle.server_law.specs.Presses.{presses, queries}
use Rattle.server_law.specs.Puts.{expects_put, gives, is_taken, settles, settles_as}
use Rattle.server_law.specs.State.{ServerModel, runs, runs_at_home}
use Rattle.server_law.specs.Step.{rule}
use Rattle.server_law.specs.Waits.{ask_at, ask_next, asks_on}
use Rattle.std.proofs.Common.{Bool, List, None, Option, Some, [], cond, false, find, refl, true, ◌++◌, ◌∷◌, ◌≡◌}
use Rattle.std.specs.Option.{IfSome}
use Rattle.work_queue.specs.declared.placing.Placed.{Placed}
use Rattle.adlb_unit.specs.declared.actors.Actor.TheVariants as by
use Rattle.adlb_unit.specs.declared.messages.Message.TheVariants as tells
use Rattle.adlb_unit.specs.declared.notes.End.TheVariants as ends_by

-- the act says such a letter, and takes none
abbrev pub brings : Act → Bool
brings (Gives at wish rest unit) = true
brings (Tells at wish rest end) = true
brings (Asks_on at wish to rest) = true
brings (Hints wish) = true
brings (Queries to id length) = true
brings _ = false

-- each of the acts does
abbrev pub AllBring : List Act → Type 0
AllBring list = Each (λ (a : Act). brings a ≡ true) list

-- it says one such letter
pub brings_says : (a : Act) (s : ServerModel) (me : Server) → brings a ≡ true → said_weight news.letter me (says a s) ≡ 1
brings_says (Gives at wish rest unit) s me is = refl
brings_says (Tells at wish rest end) s me is = refl
brings_says (Asks_on at wish to rest) s me is = refl
brings_says (Hints wish) s me is = refl
brings_says (Queries to id length) s me is = refl
brings_says _ s me is = absurd (cc)

-- Deciders.

-- each act that the decider decides says a letter after which more follows
abbrev pub Brings : Decider → Type 0
Brings d = (s : ServerModel) → AllBring (d s)

-- each decider decides such acts alone
abbrev pub EachBrings : List Decider → Type 0
EachBrings [] = Unit {0}
EachBrings (d ∷ ds) = Brings d × EachBrings ds

-- so what they decide brings the run on
pub decided_brings : (ds : List Decider) (s : ServerModel) → EachBrings ds → AllBring (decided ds s)
decided_brings [] s each = tt
decided_brings (d ∷ ds) s each =
    let then = all_done (d s) s in
    each_append (λ (a : Act). brings a ≡ true) (d s) (decided ds then) (each.0 s) (decided_brings ds then each.1)

-- telling an end to those that are idle brings the run on
pub told_bring : (end : End) (before behind : List Waiting) → AllBring (tells_all end before behind)
told_bring end before [] = tt
told_bring end before (e ∷ behind) = by_asked e.asked (told_bring end before behind) (told_bring end (before ++ e ∷ []) behind)
  where
    at : Around
    at = record { before = before; behind = behind }

    by_asked : (o : Option Server) → AllBring (tells_all end before behind) → AllBring (tells_all end (before ++ e ∷ []) behind)
        → AllBring (tells_one end at e o (tells_all end before behind) (tells_all end (before ++ e ∷ []) behind))
    by_asked None told passed = (refl, told)
    by_asked (Some t) told passed = passed

idle_bring : (end : End) → Brings (tells_idle end)
idle_bring end s = told_bring end [] s.kept.parked.waiting

asks_on_bring : (rank : Rank) → Brings (asks_on rank)
asks_on_bring rank s = by_place (place_in (is_of rank) s.kept.parked.waiting)
  where
    by_asked : (at : Around) (wish : Wish) (asked : Option Server) (to_ask : List Server) → AllBring (ask_next at wish asked to_ask)
    by_asked at wish None [] = tt
    by_asked at wish None (to ∷ rest) = (refl, tt)
    by_asked at wish (Some t) to_ask = tt

    by_place : (o : Option Place) → AllBring (ask_at o)
    by_place None = tt
    by_place (Some p) = by_asked p.at p.here.wish p.here.asked p.here.to_ask

hints_bring : (test : Wish → Bool) (wishes : List Wish) → AllBring (hints_if test wishes)
hints_bring test [] = tt
hints_bring test (w ∷ wishes) = by_test (test w) (hints_bring test wishes)
  where
    by_test : (t : Bool) → AllBring (hints_if test wishes) → AllBring (cond t (Hints w ∷ hints_if test wishes) (hints_if test wishes))
    by_test true later = (refl, later)
    by_test false later = later

settles_bring : (id : UnitId) → Brings (settles id)
settles_bring id s = by_unit (find (is_free_as id) s.kept.queue.units)
  where
    by_taker : (unit : Work) (o : Option Place) → AllBring (gives s.kept unit o)
    by_taker unit None =
        each_append (λ (a : Act). brings a ≡ true) (hints_if (is_first_for unit) s.kept.parked.wishes)
        (hints_if (is_later_for unit) s.kept.parked.wishes) (hints_bring (is_first_for unit) s.kept.parked.wishes)
        (hints_bring (is_later_for unit) s.kept.parked.wishes)
    by_taker unit (Some p) = (refl, tt)

    by_unit : (o : Option Placed) → AllBring (settles_as s.kept o)
    by_unit None = tt
    by_unit (Some p) = by_taker p.unit (taker p.unit s.kept.parked.waiting)

presses_bring : (taken : Bool) → Brings (presses taken)
presses_bring false s = tt
presses_bring true s = by_query (query_of s.config s.me s.kept.pushing s.kept.queue)
  where
    by_query : (o : Option PushQuery) → AllBring (queries o)
    by_query None = tt
    by_query (Some q) = (refl, tt)

-- The rules of a rank's letters.

-- what follows the plan's first act brings the run on
abbrev pub FollowsBring : Option Plan → Type 0
FollowsBring o = IfSome o (λ (p : Plan). EachBrings p.follow)

if_bring : (test : Bool) (p : Plan) → EachBrings p.follow → FollowsBring (cond test (Some p) None)
if_bring true p each = each
if_bring false p each = tt

-- of each rule of a rank's letters
pub rank_follows : (s : ServerModel) (from : Rank) (m : Message) → FollowsBring (rule s (by.Rank from) m)
rank_follows s from (tells.Put unit) =
    if_bring (expects_put s from unit) _ (settles_bring unit.id, (presses_bring (is_taken s.kept unit), tt))
rank_follows s from (tells.Reserve request types) = if_bring (runs_at_home s from) _ (asks_on_bring from, tt)
rank_follows s from (tells.Try request types) = tt
rank_follows s from (tells.Fetch request id) = by_unit (find (is_pinned_as id from) s.kept.queue.units)
  where
    by_unit : (o : Option Placed) → FollowsBring (fetch from request id o)
    by_unit None = tt
    by_unit (Some p) = tt
rank_follows s from (tells.KeepCommon request common) = if_bring (expects_keep s from request common) _ tt
rank_follows s from (tells.CloseBatch request batch accepted) =
    by_part (part_if (can_close from batch accepted s.kept.queue.common) (part_in s.kept.parts batch))
  where
    by_part : (o : Option Part) → FollowsBring (close request batch accepted o)
    by_part None = tt
    by_part (Some p) = tt
rank_follows s from (tells.FetchCommon request batch) = by_part (part_if (can_fetch s.kept.queue.common) (part_in s.kept.parts batch))
  where
    by_part : (o : Option Part) → FollowsBring (share from request batch o)
    by_part None = tt
    by_part (Some p) = tt
rank_follows s from (tells.Count request kind) = if_bring (runs_at_home s from) _ tt
rank_follows s from (tells.Done request) = (idle_bring ends_by.NoMoreWork, tt)
rank_follows s from tells.Finish = if_bring (runs s.kept from) _ tt
rank_follows s from _ = tt
