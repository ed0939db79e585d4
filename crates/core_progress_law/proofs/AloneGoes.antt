-- Along every run of one server something is on its way, or a rank can begin a call, or the end was found.
use Rattle.adlb_unit.specs.Links.{is_within}
use Rattle.adlb_unit.specs.declared.actors.Actor.{Actor}
use Rattle.adlb_unit.specs.declared.configs.Config.{Config}
use Rattle.adlb_unit.specs.declared.letters.Letter.{Letter}
use Rattle.adlb_unit.specs.declared.messages.Message.{Message}
use Rattle.adlb_unit.specs.declared.names.Rank.{Rank}
use Rattle.adlb_unit.specs.declared.names.Server.{Server}
use Rattle.bag_ledger.proofs.Tests.{some_is}
use Rattle.core_check_law.proofs.Homes.{each_of_all}
use Rattle.core_check_law.proofs.Lists.{each_has}
use Rattle.core_check_law.specs.Settling.{Has}
use Rattle.core_law.proofs.Actors.{pool_there}
use Rattle.core_law.proofs.Chains.{inside_after, pool_is}
use Rattle.core_law.proofs.Events.{IsChain, event_chain}
use Rattle.core_law.proofs.OwnStates.{counted_activity}
use Rattle.core_law.proofs.Steps.{Serves}
use Rattle.core_law.proofs.UnderWay.{each_parts}
use Rattle.core_law.proofs.LettersAndActors.{act_well, inside_servers, tick_well}
use Rattle.core_law.specs.Acting.{AreActs, AreFront, acted, acted_all, ticks}
use Rattle.core_law.specs.Measures.{heard_weight, measure}
use Rattle.core_law.specs.Own.{IsEntry, IsPool, NoneOwes}
use Rattle.core_law.specs.Well.{IsWell}
use Rattle.core_progress_law.proofs.Alone.{IsReady, IsUnfound, NoneBring, alone_end}
use Rattle.core_progress_law.proofs.Ends.{decided_split}
use Rattle.core_progress_law.proofs.Fitting.{calm_refuses, fit_is}
use Rattle.core_progress_law.proofs.Following.{AllBring, FollowsBring, brings, brings_says, decided_brings, rank_follows}
use Rattle.core_progress_law.proofs.Follows.{news_next}
use Rattle.core_progress_law.proofs.Full.{IsFull, full_is}
use Rattle.core_progress_law.proofs.FullAlone.{only_ranks}
use Rattle.core_progress_law.proofs.Going.{not_noted, noted_same}
use Rattle.core_wish_law.proofs.Busy.{still_quiet}
use Rattle.core_wish_law.proofs.Having.{map_has}
use Rattle.core_wish_law.specs.News.{news}
use Rattle.core_run.specs.World.{World, pool_of, server_named}
use Rattle.exhaust_ring.specs.Ring.{Asker}
use Rattle.server_components.specs.Calls.{wants}
use Rattle.server_components.specs.Parked.{IsOther}
use Rattle.server_components.specs.declared.waits.Waiting.{Waiting}
use Rattle.server_law.proofs.Waiters.{done_kept}
use Rattle.server_law.specs.Acts.{Act, askers, does, says, takes, zeroth}
use Rattle.server_law.specs.Calm.{IsCalm}
use Rattle.server_law.specs.Carried.{Served, all_done, done}
use Rattle.server_law.specs.Endings.{ends_event, is_quiet}
use Rattle.server_law.specs.Plan.{Plan, decided, in_order}
use Rattle.server_law.specs.State.{Kept, ServerModel}
use Rattle.server_law.specs.Step.{acts, next_stamp, raised, raises, rule, ticked}
use Rattle.server_law.specs.Sure.{TakeNone}
use Rattle.std.proofs.Common.{Bool, List, None, Option, Some, [], ap, arith, false, inl, inr, length, refl, subst, sym, true, ℕ, ◌++◌, ◌+◌}
use Rattle.std.proofs.Common.{◌<◌, ◌∙◌, ◌∷◌, ◌≡◌, ◌≢◌, ◌⊎◌}
use Rattle.std.proofs.lemmas.Bool.{cases_eq}
use Rattle.std.proofs.lemmas.List.{length-set}
use Rattle.std.specs.Option.{IfSome, option_map}
use Rattle.work_queue.specs.Best.{offered}
use Rattle.adlb_unit.specs.declared.actors.Actor.TheVariants as by
use Rattle.adlb_unit.specs.declared.messages.Message.TheVariants as tells

-- there is news, or the end was found
abbrev pub GoesAlone : World → Type 0
GoesAlone w = (0 < measure news w) ⊎ ((pool_of w zeroth).kept.shut ≡ true)

-- Acts that follow.

pool_all : (w : World) (me : Server) (list : List Act) → me.0 < length w.servers
    → pool_of (acted_all w me list) me ≡ all_done list (pool_of w me)
pool_all w me [] inside = refl
pool_all w me (a ∷ more) inside =
    pool_all (acted w me a) me more (inside_after w me a inside) ∙ ap (all_done more) (pool_is w me a inside)

-- where nothing is under way after them, no act of them said a letter that brings the run on
silent : (w : World) (me : Server) (list : List Act) → IsWell w → AreActs w me list → TakeNone list → measure news (acted_all w me list) ≡ 0
    → (measure news w ≡ 0) × NoneBring list
silent w me [] well are none ends = (ends, tt)
silent w me (a ∷ more) well are none ends =
    by_later (silent (acted w me a) me more (act_well w me a well are.0) are.1 none.1 ends)
  where
    nothing : heard_weight news.letter me (takes a) ≡ 0
    nothing = ap (heard_weight news.letter me) none.0

    by_brings : measure news (acted w me a) ≡ 0 → (b : Bool) → brings a ≡ b → brings a ≡ false
    by_brings after false is = is
    by_brings after true is =
        let said = brings_says a (pool_of w me) me is in
        let sum = news_next w me a well are.0 in
        let taken = nothing in
        absurd (omega arith)

    by_later : (measure news (acted w me a) ≡ 0) × NoneBring more → (measure news w ≡ 0) × NoneBring (a ∷ more)
    by_later later =
        let sum = news_next w me a well are.0 in
        let taken = nothing in
        (omega (arith, later.0), (by_brings later.0 (brings a) refl, later.1))

both_none : (list : List Act) → AllBring list → NoneBring list → list ≡ []
both_none [] all none = refl
both_none (a ∷ more) all none = let bad : true ≡ false = sym all.0 ∙ none.0 in absurd (cc)

-- With one server.

-- at a server that is alone each rank that waits is idle
pub all_idle : (config : Config) (me : Server) (s : ServerModel) → IsPool config me s → config.servers ≡ 1 → me.0 < config.servers
    → (e : Waiting) → Has s.kept.parked.waiting e → e.asked ≡ None
all_idle config me s pool alone there e has =
    let entry = each_has (IsEntry config me) s.kept.parked.waiting e
    (each_of_all (IsEntry config me) s.kept.parked.waiting pool.waiting) has in
    by_asked e.asked refl entry.asked
  where
    by_asked : (o : Option Server) → e.asked ≡ o → IfSome o (IsOther config me) → e.asked ≡ None
    by_asked None is other = is
    by_asked (Some t) is other = let low = other.0 in absurd (other.1 (omega arith))

rank_raises : (s : ServerModel) (from : Rank) (m : Message) (p : Plan) → rule s (by.Rank from) m ≡ Some p → raises m ≡ true
rank_raises s from tells.Notice p is = absurd (cc)
rank_raises s from (tells.Token t) p is = absurd (cc)
rank_raises s from (tells.Failed t why) p is = absurd (cc)
rank_raises s from tells.Shutdown p is = absurd (cc)
rank_raises s from _ p is = refl

-- An event: whatever was before, the run goes on.

-- an event of a server that is alone: the run goes on
pub event_alone : (w next : World) (from : Actor) (me : Server) (letter : Letter) (rest : List Letter) (x : Served) → IsWell w
    → w.config.servers ≡ 1 → IsWell next → NoneOwes next → IsCalm (pool_of next me) → IsFull (pool_of next me)
    → Serves w from me letter rest x next → GoesAlone next
event_alone w next from me letter rest x well alone well_next paid calm full serving = by_news (cases_eq (measure news next) 0)
  where
    stamp : ℕ
    stamp = next_stamp (pool_of w me) letter

    up : Bool
    up = raises letter.message

    v : World
    v = ticks w me stamp up

    t : ServerModel
    t = ticked (pool_of w me) stamp up

    inside : me.0 < length w.servers
    inside = inside_servers w me well serving.here

    chain : IsChain w next me stamp up
    chain = event_chain w next from me letter rest x inside (well.own.servers me serving.here).wishes serving

    well_v : IsWell v
    well_v = tick_well w me stamp up serving.here well

    pool_v : pool_of v me ≡ t
    pool_v = pool_there w me t inside

    inside_v : me.0 < length v.servers
    inside_v = let e = length-set w.servers me.0 t in omega arith

    zero_me : me.0 ≡ 0
    zero_me = let low = serving.here in omega arith

    is_zeroth : me ≡ zeroth
    is_zeroth = ap server_named zero_me

    same_config : next.config ≡ w.config
    same_config = ap (λ (n : World). n.config) serving.is

    here_next : me.0 < next.config.servers
    here_next = subst (λ (c : Config). me.0 < c.servers) (sym same_config) serving.here

    alone_next : next.config.servers ≡ 1
    alone_next = ap (λ (c : Config). c.servers) same_config ∙ alone

    are : AreActs v me (chain.first ∷ chain.more)
    are = subst (AreActs v me) chain.shape chain.are

    is_all : next ≡ acted_all v me (chain.first ∷ chain.more)
    is_all = chain.is ∙ ap (acted_all v me) chain.shape

    -- the server after the first act
    u : ServerModel
    u = done chain.first t

    well_u : IsWell (acted v me chain.first)
    well_u = act_well v me chain.first well_v are.0

    pool_u : pool_of (acted v me chain.first) me ≡ done chain.first t
    pool_u = pool_is v me chain.first inside_v ∙ ap (done chain.first) pool_v

    own_u : IsPool w.config me (done chain.first t)
    own_u = subst (IsPool w.config me) pool_u (well_u.own.servers me serving.here)

    unfound_not : IsUnfound (pool_of next me).kept → ⊥
    unfound_not (inl (is, e, has)) =
        let idle = all_idle next.config me (pool_of next me) (well_next.own.servers me here_next) alone_next here_next e has in
        let no_such = full_is (pool_of next me) e full has idle in
        let bad : false ≡ true = sym no_such ∙ is in
        absurd (cc)
    unfound_not (inr (id, fit)) =
        let f = fit_is (pool_of next me).kept (askers (pool_of next me).kept) id fit in
        let e = map_has wants (pool_of next me).kept.parked.waiting f.2 f.3 in
        let offers : offered e.0.wish.rank e.0.wish.types f.0 ≡ true = ap (λ (a : Asker). offered a.0 a.1 f.0) e.2 ∙ f.4 in
        let idle = all_idle next.config me (pool_of next me) (well_next.own.servers me here_next) alone_next here_next e.0 e.1 in
        calm_refuses (pool_of next me) e.0 f.0 calm e.1 idle f.1 offers

    ready : up ≡ true → IsReady (done chain.first t)
    ready loud = record {
      alone = ap (λ (c : Config). c.servers) own_u.config ∙ alone;
      zeroth = ap (λ (k : Server). k.0) own_u.me ∙ zero_me;
      new = rw (noted, activity) (not_noted (pool_of w me).kept.noted (pool_of w me).activity (well.own.servers me serving.here).noted);
      idle = own_u.alone alone;
      waits = all_idle w.config me (done chain.first t) own_u alone serving.here;
    }
      where
        noted : (done chain.first t).kept.noted ≡ (pool_of w me).kept.noted
        noted =
            ap (λ (k : Kept). k.noted) (done_kept chain.first t)
            ∙ noted_same chain.first t (record { from = chain.from; message = chain.message }) chain.takes

        activity : (done chain.first t).activity ≡ (pool_of w me).activity + 1
        activity =
            counted_activity (does chain.first t) (says chain.first t) ∙ ap (λ (b : Bool). raised b (pool_of w me).activity) loud

    by_plan : (r : Rank) (o : Option Plan) → rule t (by.Rank r) chain.message ≡ o → FollowsBring o
        → option_map (in_order ends_event t) o ≡ Some (chain.first ∷ chain.more) → measure news next ≡ 0 → GoesAlone next
    by_plan r None rule_is each e none = absurd (cc)
    by_plan r (Some p) rule_is each e none = by_end
        (alone_end (done chain.first t) (ready loud) quiet (subst NoneBring ends_are silent_more))
      where
        loud : up ≡ true
        loud = sym chain.raises ∙ rank_raises t r chain.message p rule_is

        first_is : p.first ≡ chain.first
        first_is = heads (some_is e)
          where
            head : List Act → Act
            head [] = chain.first
            head (a ∷ more) = a

            heads : p.first ∷ decided (p.follow ++ ends_event) (done p.first t) ≡ chain.first ∷ chain.more → p.first ≡ chain.first
            heads same = ap head same

        more_is : decided (p.follow ++ ends_event) (done p.first t) ≡ chain.more
        more_is = tails (some_is e)
          where
            tail : List Act → List Act
            tail [] = []
            tail (a ∷ more) = more

            tails : p.first ∷ decided (p.follow ++ ends_event) (done p.first t) ≡ chain.first ∷ chain.more
                → decided (p.follow ++ ends_event) (done p.first t) ≡ chain.more
            tails same = ap tail same

        split : chain.more ≡ decided p.follow (done chain.first t) ++ decided ends_event
            (all_done (decided p.follow (done chain.first t)) (done chain.first t))
        split =
            sym more_is
            ∙ ap (λ (a : Act). decided (p.follow ++ ends_event) (done a t)) first_is
            ∙ decided_split p.follow ends_event (done chain.first t)

        silent_more : NoneBring chain.more
        silent_more =
            (silent (acted v me chain.first) me chain.more well_u are.1 chain.follow (ap (measure news) (sym is_all) ∙ none)).1

        nothing : decided p.follow (done chain.first t) ≡ []
        nothing =
            let parts = each_parts (λ (a : Act). brings a ≡ false) (decided p.follow (done chain.first t))
            (decided ends_event (all_done (decided p.follow (done chain.first t)) (done chain.first t)))
            (subst NoneBring split silent_more) in
            both_none (decided p.follow (done chain.first t)) (decided_brings p.follow (done chain.first t) each) parts.0

        ends_are : chain.more ≡ decided ends_event (done chain.first t)
        ends_are = split ∙ ap (λ (l : List Act). l ++ decided ends_event (all_done l (done chain.first t))) nothing

        pool_next : pool_of next me ≡ all_done (decided ends_event (done chain.first t)) (done chain.first t)
        pool_next =
            ap (λ (n : World). pool_of n me) is_all
            ∙ pool_all v me (chain.first ∷ chain.more) inside_v
            ∙ ap (λ (s : ServerModel). all_done chain.more (done chain.first s)) pool_v
            ∙ ap (λ (l : List Act). all_done l (done chain.first t)) ends_are

        quiet : is_quiet (all_done (decided ends_event (done chain.first t)) (done chain.first t)) ≡ true
        quiet = ap is_quiet (sym pool_next) ∙ still_quiet next me well_next paid here_next none

        by_end : ((all_done (decided ends_event (done chain.first t)) (done chain.first t)).kept.shut ≡ true)
            ⊎ IsUnfound (all_done (decided ends_event (done chain.first t)) (done chain.first t)).kept → GoesAlone next
        by_end (inl shut) =
            inr (ap (λ (k : Server). (pool_of next k).kept.shut) (sym is_zeroth) ∙ ap (λ (s : ServerModel). s.kept.shut) pool_next ∙ shut)
        by_end (inr unfound) = absurd (unfound_not (subst (λ (s : ServerModel). IsUnfound s.kept) (sym pool_next) unfound))

    by_from : (f : Actor) → chain.from ≡ f → measure news next ≡ 0 → GoesAlone next
    by_from (by.Rank r) e none =
        let its : acts t (by.Rank r) chain.message ≡ Some (chain.first ∷ chain.more) =
        ap (λ (f : Actor). acts t f chain.message) (sym e) ∙ chain.acts ∙ ap Some chain.shape in
        by_plan r (rule t (by.Rank r) chain.message) refl (rank_follows t r chain.message) its none
    by_from (by.Server k) e none =
        let front = subst (AreFront v.config me v.links) chain.takes (are.0).front in
        let own = well.own.servers me serving.here in
        let within : is_within (pool_of w me).config (by.Server k) ≡ true =
        ap (λ (c : Config). is_within c (by.Server k)) own.config ∙ ap (is_within w.config) (sym e) ∙ front.2 in
        let refused = only_ranks t k chain.message (ap (λ (c : Config). c.servers) own.config ∙ alone)
        (ap (λ (s : Server). s.0) own.me ∙ zero_me) within in
        let bad : None ≡ Some chain.list =
        ap (option_map (in_order ends_event t)) (sym refused) ∙ ap (λ (f : Actor). acts t f chain.message) (sym e) ∙ chain.acts in
        absurd (cc)

    by_news : (measure news next ≡ 0) ⊎ (measure news next ≢ 0) → GoesAlone next
    by_news (inl none) = by_from chain.from refl none
    by_news (inr some) = inl (omega (arith, some))
