-- What a token says of the bag through a whole event of a server.
use Rattle.std.proofs.Common.{◌≡◌, ◌≢◌, ◌<◌, ◌≤◌, inr, ℕ, ◌||◌, Bool, true, false, List, [], ◌∷◌, Some, refl, sym, ap, ◌∙◌, subst, arith}
use Rattle.adlb_unit.specs.declared.actors.Actor.{Actor}
use Rattle.adlb_unit.specs.declared.configs.Config.{Config}
use Rattle.adlb_unit.specs.declared.letters.Letter.{Letter}
use Rattle.adlb_unit.specs.declared.names.Server.{Server}
use Rattle.adlb_unit.specs.declared.tokens.Token.{Token}
use Rattle.bag_ledger.specs.Bag.{Bag, settled}
use Rattle.exhaust_ring.specs.Ring.{Asker}
use Rattle.server_law.specs.Acts.{Act, Checks_alone, Fails, Finds, Finds_alone, Gives_up, Heard, Hears_failed, Hears_shutdown, Marks}
use Rattle.server_law.specs.Acts.{Passes, Queries, Shuts, Shuts_alone, Wants, takes}
use Rattle.server_law.specs.Carried.{Served}
use Rattle.server_law.specs.State.{Kept, ServerModel}
use Rattle.server_law.specs.Step.{next_stamp, raises, ticked}
use Rattle.server_law.specs.Sure.{TakeNone}
use Rattle.core_run.specs.World.{World, pool_of}
use Rattle.core_law.specs.Acting.{AreActs, IsAct, acted, acted_all, ticks}
use Rattle.core_law.specs.OnLinks.{Each}
use Rattle.core_law.specs.Well.{IsWell}
use Rattle.core_law.proofs.ActLawful.{tick_lawful}
use Rattle.core_law.proofs.Actors.{pool_there}
use Rattle.core_law.proofs.Events.{event_chain}
use Rattle.core_law.proofs.Steps.{Serves}
use Rattle.core_law.proofs.UnderWay.{weaker}
use Rattle.core_law.proofs.LettersAndActors.{inside_servers, tick_well}
use Rattle.core_check_law.specs.OnWay.{IsRinged, OnToken, reach}
use Rattle.core_check_law.specs.Settling.{Has, IsSettledBehind, IsSettling, Settles, wished}
use Rattle.core_check_law.proofs.Classes.{is_alone, is_turn}
use Rattle.core_check_law.proofs.Follows.{Behind, Holds, Next, SettledFor, Suits, act_holds, follow_settles, follow_voids}
use Rattle.core_check_law.proofs.Homes.{reach_zeroth}
use Rattle.core_check_law.proofs.NeverAtRest.{is_query}
use Rattle.core_check_law.proofs.Quiet.{AreTold}
use Rattle.core_check_law.proofs.RestKept.{IsAsWas, is_still, settling_stays}
use Rattle.core_check_law.proofs.FollowingActs.{rests, suited}
use Rattle.core_check_law.proofs.Ticks.{after, tick_ringed, ticked_back}
use Rattle.core_check_law.proofs.Tokens.{token_weaker}
use Rattle.core_check_law.proofs.Turns.{marked_of, token_front, zeroth_here}
use Rattle.core_check_law.proofs.Verdict.{bag_is_settled}
use Rattle.core_check_law.proofs.VoidTokens.{Voids, void_settles}
use Rattle.core_check_law.proofs.ThroughActs.{goes_on, other_voids, pass_on, still_old, still_settles, turns_void}

-- The stamp.

ticked_as_was : (w : World) (me : Server) (stamp : ℕ) (up : Bool) → IsWell w → me.0 < w.config.servers → (t : Server)
    → t.0 < w.config.servers → IsAsWas w (ticks w me stamp up) t
ticked_as_was w me stamp up well here t there =
    let e = (after w me stamp up well here t).kept in
    record {
      wished = ap (λ (x : Kept). wished x) e;
      queue = ap (λ (x : Kept). x.queue) e;
      done = ap (λ (x : Kept). x.done) e;
      push = ap (λ (x : Kept). x.pushing.push) e;
    }

-- the stamp of an event leaves what tokens say of the bag
pub tick_settles : (w : World) (me : Server) (stamp : ℕ) (up : Bool) (b : Bag) → IsWell w → me.0 < w.config.servers → Settles w b
    → Settles (ticks w me stamp up) b
tick_settles w me stamp up b well here on =
    let v = ticks w me stamp up in
    weaker (λ from to l. OnToken (IsSettledBehind w b) from to l.message)
    (λ from to l. OnToken (IsSettledBehind v b) from to l.message) w.config
    w.links (λ from to l q. token_weaker (IsSettledBehind w b) (IsSettledBehind v b) (λ to t was second un still.
    settling_stays w v.ranks v.servers v.links v.ledger b (reach w.config to) t.asked (ticked_as_was w me stamp up well here)
    (was second (λ c high there. ticked_back w me stamp up well here c there (un c high there)) still)) from to l.message q) on

-- the stamp of an event leaves what holds of world and bag
pub tick_holds : (w : World) (me : Server) (stamp : ℕ) (up : Bool) (b : Bag) → Holds w b → IsRinged w → me.0 < w.config.servers
    → Holds (ticks w me stamp up) b
tick_holds w me stamp up b h ring here = record {
  well = tick_well w me stamp up here h.well;
  lawful = tick_lawful w me stamp up b here h.well h.lawful;
  tokens = (tick_ringed w me stamp up h.well here ring).tokens;
  legal = h.legal;
}

raised_past : (up : Bool) (s : ServerModel) (stamp : ℕ) → s.kept.ring.mark ≤ s.activity → up ≡ true
    → (ticked s stamp up).kept.ring.mark < (ticked s stamp up).activity
raised_past true s stamp low e = omega arith
raised_past false s stamp low e = absurd (cc)

-- Where exhaustion is found.

-- what the token says of the bag where it is back at server 0
pub finds_settling : (w : World) (b : Bag) (k from : Server) (t : Token) → Holds w b → Settles w b → IsAct w k (Finds from t)
    → IsSettling w b w.config.servers t.asked
finds_settling w b k from t h on is =
    let r = reach_zeroth w.config k at in
    subst (λ (n : ℕ). IsSettling w b n t.asked) r
    (token_front (IsSettledBehind w b) w k from t (Finds from t) is refl on is.sure.0.wave
    (λ c high there. let e = r in absurd (omega arith)) (inr fresh))
  where
    sure_zeroth : (pool_of w k).me.0 ≡ 0
    sure_zeroth = is.sure.0.running.zeroth

    at : k.0 ≡ 0
    at = ap (λ (x : Server). x.0) (zeroth_here w k h.well is.here sure_zeroth)

    fresh : b.exhausted ≡ false
    fresh = by_flag b.exhausted refl
      where
        by_flag : (f : Bool) → b.exhausted ≡ f → b.exhausted ≡ false
        by_flag false e = e
        by_flag true e =
            let knows = ((h.lawful).pools k is.here).found sure_zeroth e in
            let no : true ≡ false = sym knows ∙ is.sure.2 in
            absurd (cc)

-- where server 0 finds that all work is used up, the bag is settled
pub finds_settled : (w : World) (b : Bag) (k from : Server) (t : Token) → Holds w b → Settles w b → IsAct w k (Finds from t)
    → settled b ≡ true
finds_settled w b k from t h on is = by_list t.asked refl
  where
    by_list : (xs : List Asker) → t.asked ≡ xs → settled b ≡ true
    by_list [] e = absurd (is.sure.1 e)
    by_list (first ∷ more) e =
        bag_is_settled w b h.well h.lawful h.legal t.asked (finds_settling w b k from t h on is) first more e

-- what an act needs to find all work used up is so
pub settled_for : (w : World) (b : Bag) (k : Server) (a : Act) → Holds w b → Settles w b → IsAct w k a → is_alone a ≡ false → SettledFor a b
settled_for w b k (Finds from t) h on is alone = finds_settled w b k from t h on is
settled_for w b k Finds_alone h on is alone = absurd (cc)
settled_for w b k _ h on is alone = tt

-- The first act.

-- an act that takes a letter is neither one of a server alone nor the beginning of a push
pub takes_some : (a : Act) (heard : Heard) → takes a ≡ heard ∷ [] → (is_alone a ≡ false) × (is_query a ≡ false)
takes_some Finds_alone heard e = absurd (cc)
takes_some Shuts_alone heard e = absurd (cc)
takes_some Checks_alone heard e = absurd (cc)
takes_some (Queries to id length) heard e = absurd (cc)
takes_some _ heard e = (refl, refl)

abbrev raises_all : List Heard → Bool
raises_all [] = true
raises_all (heard ∷ more) = raises heard.message

-- it is one of a check, leaves all that rests, or its letter raises the activity
raising : (a : Act) → is_still a ≡ false → is_turn a ≡ false → raises_all (takes a) ≡ true
raising (Wants from) stirs turn = absurd (cc)
raising (Hears_shutdown from) stirs turn = absurd (cc)
raising (Marks from t) stirs turn = absurd (cc)
raising (Passes from t) stirs turn = absurd (cc)
raising (Fails from t why) stirs turn = absurd (cc)
raising (Gives_up from t) stirs turn = absurd (cc)
raising (Hears_failed from t why) stirs turn = absurd (cc)
raising (Finds from t) stirs turn = absurd (cc)
raising (Shuts from t) stirs turn = absurd (cc)
raising _ stirs turn = refl

module _ (k : Server) (w : World) (b : Bag) (several : 1 < w.config.servers) (h : Holds w b) (ring : IsRinged w)
    (told : AreTold w) (on : Settles w b) (up : Bool) (past : up ≡ true → (pool_of w k).kept.ring.mark < (pool_of w k).activity) where
  abbrev Last : Act → List Act → Type 0
  Last a more = Behind Settles (acted_all (acted w k a) k more)

  from_void : (a : Act) (more : List Act) (x : Next w b k a) → TakeNone more → AreActs (acted w k a) k more → Voids (acted w k a) x.bag
      → Last a more
  from_void a more x none are void =
      let l = follow_voids k more (acted w k a) x.bag several x.holds none are void in
      (l.0, l.1, void_settles (acted_all (acted w k a) k more) l.0 l.2)

  first_acts : (a : Act) (more : List Act) (heard : Heard) → takes a ≡ heard ∷ [] → raises heard.message ≡ up → IsAct w k a → TakeNone more
      → AreActs (acted w k a) k more → (rests a ≡ true → Each (Suits up) more) → Last a more
  first_acts (Passes from t) more heard takes_it raised is none are suits =
      let a = Passes from t in
      let x = act_holds w b k a h is tt in
      let low : false ≡ up = ap raises_all takes_it ∙ raised in
      follow_settles k up more (acted w k a) x.bag several x.holds none are (suits refl)
      (λ e. let no : false ≡ true = low ∙ e in absurd (cc))
      (pass_on w b x.bag k h.well from t is h.lawful ring told x.run on)
  first_acts a more heard takes_it raised is none are suits = by_class a takes_it is are suits refl
    where
      by_class : (a : Act) → takes a ≡ heard ∷ [] → IsAct w k a → AreActs (acted w k a) k more → (rests a ≡ true → Each (Suits up) more)
          → goes_on a ≡ false → Last a more
      by_class a takes_it is are suits stops = by_turn (is_turn a) refl
        where
          alone : is_alone a ≡ false
          alone = (takes_some a heard takes_it).0

          x : Next w b k a
          x = act_holds w b k a h is (settled_for w b k a h on is alone)

          still_more : is_still a ≡ true → up ≡ true → (pool_of (acted w k a) k).kept.ring.mark < (pool_of (acted w k a) k).activity
          still_more quiet e =
              let m = marked_of w k h.well a is (still_old a quiet).0 k is.here in
              let mark = m.mark in
              let activity = m.activity in
              let was = past e in
              omega arith

          by_still : is_turn a ≡ false → (t : Bool) → is_still a ≡ t → Last a more
          by_still turn true quiet =
              follow_settles k up more (acted w k a) x.bag several x.holds none are (suits (ap (λ c. c || goes_on a) quiet))
              (still_more quiet)
              (still_settles w b x.bag k h.well a is x.run quiet on)
          by_still turn false stirs =
              let e : up ≡ true = sym raised ∙ ap raises_all (sym takes_it) ∙ raising a stirs turn in
              from_void a more x none are
              (other_voids w b x.bag k h.well a is h.lawful x.run stirs turn alone (takes_some a heard takes_it).1 (past e) on)

          by_turn : (t : Bool) → is_turn a ≡ t → Last a more
          by_turn true turn = from_void a more x none are (turns_void w b x.bag k h.well a is h.tokens turn stops)
          by_turn false turn = by_still turn (is_still a) refl

-- The event.

-- an event of a server keeps what tokens say of the bag
pub event_settles : (w next : World) (from : Actor) (me : Server) (letter : Letter) (rest : List Letter) (x : Served) (b : Bag)
    → 1 < w.config.servers → Holds w b → IsRinged w → AreTold w → Settles w b → Serves w from me letter rest x next → Behind Settles next
event_settles w next from me letter rest x b several h ring told on does =
    let stamp = next_stamp (pool_of w me) letter in
    let up = raises letter.message in
    let v = ticks w me stamp up in
    let here = does.here in
    let inside = inside_servers w me h.well here in
    let own = (h.well).own.servers me here in
    let chain = event_chain w next from me letter rest x inside own.wishes does in
    let are : AreActs v me (chain.first ∷ chain.more) = subst (AreActs v me) chain.shape chain.are in
    let is : next ≡ acted_all v me (chain.first ∷ chain.more) = chain.is ∙ ap (acted_all v me) chain.shape in
    let past : up ≡ true → (pool_of v me).kept.ring.mark < (pool_of v me).activity =
    λ e. subst (λ (s : ServerModel). s.kept.ring.mark < s.activity) (sym (pool_there w me (ticked (pool_of w me) stamp up) inside))
    (raised_past up (pool_of w me) stamp own.mark e) in
    let apart : (ticked (pool_of w me) stamp up).config.servers ≢ 1 =
    λ e. let c = ap (λ (c : Config). c.servers) own.config in absurd (omega arith) in
    let suits : rests chain.first ≡ true → Each (Suits up) chain.more =
    λ r. subst (λ (u : Bool). Each (Suits u) chain.more) chain.raises
    (suited (ticked (pool_of w me) stamp up) chain.from chain.message chain.first chain.more apart
    (chain.acts ∙ ap Some chain.shape) chain.takes r) in
    let told_v : AreTold v = λ t there e has idle.
    let k = (after w me stamp up h.well here t).kept in
    ap (λ (y : Kept). y.done) k ∙ told t there e (subst (λ (y : Kept). Has y.parked.waiting e) k has) idle in
    subst (Behind Settles) (sym is)
    (first_acts me v b several (tick_holds w me stamp up b h ring here) (tick_ringed w me stamp up h.well here ring) told_v
    (tick_settles w me stamp up b h.well here on) up past chain.first chain.more (record { from = chain.from; message = chain.message })
    chain.takes chain.raises are.0 chain.follow are.1 suits)
