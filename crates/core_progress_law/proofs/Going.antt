-- An event of a server: where the run went on, it goes on.
use Rattle.adlb_unit.specs.declared.actors.Actor.{Actor}
use Rattle.adlb_unit.specs.declared.configs.Config.{Config}
use Rattle.adlb_unit.specs.declared.letters.Letter.{Letter}
use Rattle.adlb_unit.specs.declared.messages.Message.{Message}
use Rattle.adlb_unit.specs.declared.names.Server.{Server}
use Rattle.core_check_law.proofs.Steps.{AreSteps, chain_steps}
use Rattle.core_check_law.proofs.Ticks.{after, tick_ringed}
use Rattle.core_check_law.proofs.Turns.{act_ringed}
use Rattle.core_check_law.specs.OnWay.{IsRinged}
use Rattle.core_law.proofs.Actors.{pool_beside, pool_there}
use Rattle.core_law.proofs.Chains.{pool_is}
use Rattle.core_law.proofs.Events.{IsChain, event_chain}
use Rattle.core_law.proofs.OwedByRanks.{no_sum}
use Rattle.core_law.proofs.OwnStates.{counted_activity}
use Rattle.core_law.proofs.Steps.{Serves}
use Rattle.core_law.proofs.LettersAndActors.{act_well, inside_servers, tick_well}
use Rattle.core_law.specs.Acting.{IsAct, acted, acted_all, ticks}
use Rattle.core_law.specs.Measures.{measure}
use Rattle.core_law.specs.Own.{NoneOwes}
use Rattle.core_law.specs.Well.{IsWell}
use Rattle.core_wish_law.proofs.Busy.{still_quiet}
use Rattle.core_progress_law.proofs.Ends.{IsAtEnd, serve_ends}
use Rattle.core_progress_law.proofs.First.{first_goes, may_fail, raises_taken}
use Rattle.core_progress_law.proofs.Follows.{follow_goes}
use Rattle.core_wish_law.specs.News.{news}
use Rattle.core_progress_law.specs.Going.{Goes, IsLive, IsTurning}
use Rattle.core_run.specs.World.{World, pool_of, server_named}
use Rattle.server_law.proofs.Waiters.{done_kept}
use Rattle.server_law.specs.Acts.{Act, Heard, Notes_own, Notices, does, noted_after, says, takes, zeroth}
use Rattle.server_law.specs.Carried.{Served, done}
use Rattle.server_law.specs.Endings.{is_noted, is_quiet}
use Rattle.server_law.specs.State.{Kept, ServerModel}
use Rattle.server_law.specs.Step.{acts, next_stamp, raised, raises, ticked}
use Rattle.server_law.specs.Sure.{TakeNone}
use Rattle.std.proofs.Common.{Bool, List, None, Option, Some, [], ap, arith, false, inl, inr, length, refl, subst, sym, true, ℕ, ◌+◌, ◌<◌}
use Rattle.std.proofs.Common.{◌==◌, ◌∙◌, ◌∷◌, ◌≡◌, ◌≢◌, ◌≤◌, ◌⊎◌}
use Rattle.std.proofs.lemmas.Bool.{cases_eq, eqb-true, false_from_ne_true}
use Rattle.std.proofs.lemmas.List.{length-set}
use Rattle.std.specs.Option.{IfSome}

-- Acts that follow.

-- after acts that take no letter the run goes on
pub all_follow : (w : World) (me : Server) (a : Act) (more : List Act) → IsWell w → IsRinged w → w.config.servers ≢ 1
    → AreSteps w me (a ∷ more) → TakeNone (a ∷ more) → Goes (acted_all w me (a ∷ more))
all_follow w me a [] well ring several are none = follow_goes w me well ring several a (are.0).act none.0
all_follow w me a (b ∷ more) well ring several are none =
    all_follow (acted w me a) me b more (act_well w me a well (are.0).act) (act_ringed w me well ring a are.0) several are.1 none.1

-- Where a letter raises the activity, and nothing follows, the server is not quiet.

-- an act that takes a letter gives no notice
pub noted_same : (a : Act) (s : ServerModel) (h : Heard) → takes a ≡ h ∷ [] → noted_after a s ≡ s.kept.noted
noted_same Notices s h is = absurd (cc)
noted_same Notes_own s h is = absurd (cc)
noted_same _ s h is = refl

-- a notice of an activity before is not one of the next
pub not_noted : (noted : Option ℕ) (n : ℕ) → IfSome noted (λ k. k ≤ n) → is_noted noted (n + 1) ≡ false
not_noted None n low = refl
not_noted (Some k) n low = false_from_ne_true (k == (n + 1)) (λ e. let same = eqb-true k (n + 1) e in absurd (omega arith))

unquiet : (s : ServerModel) (a : Act) (stamp : ℕ) (h : Heard) → takes a ≡ h ∷ [] → IfSome s.kept.noted (λ k. k ≤ s.activity)
    → (is_quiet (done a (ticked s stamp true)) ≡ true
    → is_noted (done a (ticked s stamp true)).kept.noted (done a (ticked s stamp true)).activity ≡ true)
    → is_quiet (done a (ticked s stamp true)) ≡ false
unquiet s a stamp h is low noted = by_quiet (is_quiet (done a t)) refl
  where
    t : ServerModel
    t = ticked s stamp true

    activity : (done a t).activity ≡ s.activity + 1
    activity = counted_activity (does a t) (says a t)

    kept : (done a t).kept.noted ≡ s.kept.noted
    kept = ap (λ (k : Kept). k.noted) (done_kept a t) ∙ noted_same a t h is

    by_quiet : (b : Bool) → is_quiet (done a t) ≡ b → is_quiet (done a t) ≡ false
    by_quiet false e = e
    by_quiet true e =
        let so = noted e in
        let not_so : is_noted (done a t).kept.noted (done a t).activity ≡ false = rw (kept, activity)
        (not_noted s.kept.noted s.activity low) in
        let no : false ≡ true = sym not_so ∙ so in
        absurd (cc)

-- An event.

-- what a failed test says, in the world where its act is carried out
abbrev pub FailsLive : World → Server → Type 0
FailsLive v me =
    (a : Act) (more : List Act) (from : Actor) (message : Message) → IsAct v me a → takes a ≡ record { from = from; message = message } ∷ []
    → acts (pool_of v me) from message ≡ Some (a ∷ more) → may_fail a ≡ true → IsTurning v → IsLive v

ticked_zero : (w : World) (me : Server) (stamp : ℕ) (up : Bool) → IsWell w → me.0 < w.config.servers → Goes w → up ≡ false
    → Goes (ticks w me stamp up)
unfolding measure
ticked_zero w me stamp up well here (inl (inl some)) low =
    let a = no_sum w.servers in let b = no_sum (ticks w me stamp up).servers in inl (inl (omega (arith, some)))
ticked_zero w me stamp up well here (inl (inr (inl shut))) low =
    inl (inr (inl (ap (λ (k : Kept). k.shut) (after w me stamp up well here zeroth).kept ∙ shut)))
ticked_zero w me stamp up well here (inl (inr (inr wanted))) low =
    inl (inr (inr (ap (λ (k : Kept). k.ring.wanted) (after w me stamp up well here zeroth).kept ∙ wanted)))
ticked_zero w me stamp up well here (inr turning) low = inr (record {
  runs = ap (λ (k : Kept). k.ring.runs) (after w me stamp up well here zeroth).kept ∙ turning.runs;
  none = turning.none;
  same = λ t there number.
      let its = (after w me stamp up well here t).kept in
      let check = ap (λ (k : Kept). k.ring.check) (after w me stamp up well here zeroth).kept in
      let was = turning.same t there (ap (λ (k : Kept). k.ring.number) (sym its) ∙ number ∙ check) in
      as_before t ∙ was ∙ ap (λ (k : Kept). k.ring.mark) (sym its);
})
  where
    as_before : (t : Server) → (pool_of (ticks w me stamp up) t).activity ≡ (pool_of w t).activity
    as_before t = by_place (cases_eq t.0 me.0)
      where
        by_place : (t.0 ≡ me.0) ⊎ (t.0 ≢ me.0) → (pool_of (ticks w me stamp up) t).activity ≡ (pool_of w t).activity
        by_place (inl e) =
            let same : t ≡ me = ap server_named e in
            let found = pool_there w me (ticked (pool_of w me) stamp up) (inside_servers w me well here) in
            let raised_none : raised up (pool_of w me).activity ≡ (pool_of w me).activity = ap
            (λ b. raised b (pool_of w me).activity) low in
            ap (λ (k : Server). (pool_of (ticks w me stamp up) k).activity) same
            ∙ ap (λ (x : ServerModel). x.activity) found ∙ raised_none ∙ ap (λ (k : Server). (pool_of w k).activity) (sym same)
        by_place (inr differs) = ap (λ (x : ServerModel). x.activity) (pool_beside w me t (ticked (pool_of w me) stamp up) differs)

-- an event of a server leaves the run going on
pub event_goes : (w next : World) (from : Actor) (me : Server) (letter : Letter) (rest : List Letter) (x : Served) → IsWell w → IsRinged w
    → 1 < w.config.servers → IsWell next → NoneOwes next
    → FailsLive (ticks w me (next_stamp (pool_of w me) letter) (raises letter.message)) me
    → Serves w from me letter rest x next → Goes w → Goes next
event_goes w next from me letter rest x well ring several well_next paid live does was = by_more chain.more refl
  where
    stamp : ℕ
    stamp = next_stamp (pool_of w me) letter

    up : Bool
    up = raises letter.message

    v : World
    v = ticks w me stamp up

    t : ServerModel
    t = ticked (pool_of w me) stamp up

    inside : me.0 < length w.servers
    inside = inside_servers w me well does.here

    chain : IsChain w next me stamp up
    chain = event_chain w next from me letter rest x inside (well.own.servers me does.here).wishes does

    well_v : IsWell v
    well_v = tick_well w me stamp up does.here well

    ring_v : IsRinged v
    ring_v = tick_ringed w me stamp up well does.here ring

    steps : AreSteps v me (chain.first ∷ chain.more)
    steps = subst (AreSteps v me) chain.shape (chain_steps w next me stamp up well does.here chain)

    not_one : w.config.servers ≢ 1
    not_one e = absurd (omega arith)

    ends : IsAtEnd x.state
    ends =
        let config = (well.own.servers me does.here).config in
        serve_ends (pool_of w me) from letter x (λ e. not_one (ap (λ (c : Config). c.servers) (sym config) ∙ e)) does.does

    here_next : me.0 < next.config.servers
    here_next = subst (λ (n : World). me.0 < n.config.servers) (sym does.is) does.here

    pool_next : pool_of next me ≡ x.state
    pool_next = ap (λ (n : World). pool_of n me) does.is ∙ pool_there w me x.state inside

    pool_v : pool_of v me ≡ t
    pool_v = pool_there w me t inside

    inside_v : me.0 < length v.servers
    inside_v = let e = length-set w.servers me.0 t in omega arith

    -- nothing follows
    last_is : chain.more ≡ [] → next ≡ acted v me chain.first
    last_is e = chain.is ∙ ap (acted_all v me) (chain.shape ∙ ap (λ l. chain.first ∷ l) e)

    raised_goes : chain.more ≡ [] → up ≡ true → Goes next
    raised_goes e loud =
        let a = chain.first in
        let its : pool_of next me ≡ done a t = ap (λ (n : World). pool_of n me) (last_is e) ∙ pool_is v me a inside_v
        ∙ ap (done a) pool_v in
        let loud_t : t ≡ ticked (pool_of w me) stamp true = ap (ticked (pool_of w me) stamp) loud in
        let is : x.state ≡ done a (ticked (pool_of w me) stamp true) = sym pool_next ∙ its ∙ ap (done a) loud_t in
        let noted = subst (λ (y : ServerModel). is_quiet y ≡ true → is_noted y.kept.noted y.activity ≡ true) is ends.noted in
        let busy = unquiet (pool_of w me) a stamp (record { from = chain.from; message = chain.message }) chain.takes
        (well.own.servers me does.here).noted noted in
        let unquiet_next : is_quiet (pool_of next me) ≡ false = ap is_quiet (pool_next ∙ is) ∙ busy in
        by_news unquiet_next (cases_eq (measure news next) 0)
      where
        by_news : is_quiet (pool_of next me) ≡ false → (measure news next ≡ 0) ⊎ (measure news next ≢ 0) → Goes next
        by_news busy (inl none) =
            let quiet = still_quiet next me well_next paid here_next none in let no : false ≡ true = sym busy ∙ quiet in absurd (cc)
        by_news busy (inr some) = inl (inl (omega (arith, some)))

    low_goes : chain.more ≡ [] → up ≡ false → Goes next
    low_goes e low =
        let a = chain.first in
        let not_raised : raises_taken (takes a) ≡ false = ap raises_taken chain.takes ∙ chain.raises ∙ low in
        let act = (steps.0).act in
        let its_acts : acts (pool_of v me) chain.from chain.message ≡ Some (a ∷ chain.more) =
        ap (λ (y : ServerModel). acts y chain.from chain.message) pool_v ∙ chain.acts ∙ ap Some chain.shape in
        let goes = first_goes v me well_v ring_v several a act not_raised
        (live a chain.more chain.from chain.message act chain.takes its_acts) (ticked_zero w me stamp up well does.here was low) in
        subst Goes (sym (last_is e)) goes

    by_up : chain.more ≡ [] → (b : Bool) → up ≡ b → Goes next
    by_up e true is = raised_goes e is
    by_up e false is = low_goes e is

    by_more : (more : List Act) → chain.more ≡ more → Goes next
    by_more [] e = by_up e up refl
    by_more (b ∷ more) e =
        let a = chain.first in
        let are : AreSteps v me (a ∷ b ∷ more) = subst (λ l. AreSteps v me (a ∷ l)) e steps in
        let none : TakeNone (b ∷ more) = subst TakeNone e chain.follow in
        let goes = all_follow (acted v me a) me b more (act_well v me a well_v (are.0).act)
        (act_ringed v me well_v ring_v a are.0) not_one are.1 none in
        let is : next ≡ acted_all v me (a ∷ b ∷ more) = chain.is ∙ ap (acted_all v me) (chain.shape ∙ ap (λ l. a ∷ l) e) in
        subst Goes (sym is) goes
