-- A step of a rank: what it leaves of the bag, of the servers and of the other ranks, and what becomes of its own seat.
use Rattle.std.proofs.Common.{◌≡◌, ◌≢◌, ◌<◌, ◌⊎◌, inl, inr, Bool, true, false, ◌==◌, List, [], ◌∷◌, ◌++◌, Option, Some, None, refl, sym, ap}
use Rattle.std.proofs.Common.{◌∙◌, subst, arith, append-nil}
use Rattle.std.specs.Prelude.{All, Contains}
use Rattle.std.proofs.lemmas.Bool.{cases_eq, eq-eqb, eqb-true, false_from_ne_true, lt-ltb}
use Rattle.std.proofs.lemmas.List.{get_or-set_other, get_or-set_same}
use Rattle.adlb_unit.specs.declared.actors.Actor.{Actor}
use Rattle.adlb_unit.specs.declared.actors.Actor.TheVariants as by
use Rattle.adlb_unit.specs.declared.letters.Letter.{Letter}
use Rattle.adlb_unit.specs.declared.letters.Sending.{Sending}
use Rattle.adlb_unit.specs.declared.messages.Message.{Message}
use Rattle.adlb_unit.specs.declared.messages.Message.TheVariants as tells
use Rattle.adlb_unit.specs.declared.names.Rank.{Rank}
use Rattle.adlb_unit.specs.declared.names.Server.{Server}
use Rattle.bag_ledger.specs.declared.entries.Entry.{Entry}
use Rattle.bag_ledger.specs.Bag.{Bag, has_due, start as empty_bag}
use Rattle.bag_ledger.specs.Runs.{IsRunWhere, calls, calls_from}
use Rattle.bag_ledger.proofs.Legal.{joined_where}
use Rattle.bag_ledger.specs.Steps.{StepsWhere}
use Rattle.bag_ledger.specs.declared.states.RankState.{RankState}
use Rattle.bag_law.specs.Sound.{IsSoundBag}
use Rattle.bag_law.proofs.Sound.{run_is_sound, step_keeps_sound}
use Rattle.rank_client.specs.Agreement.{ClientAgrees, holds, said}
use Rattle.rank_client.specs.State.{ClientModel, start as new_client}
use Rattle.rank_client.specs.Step.{Made}
use Rattle.server_law.specs.Agreement.{ServerAgrees}
use Rattle.server_law.specs.State.{ServerModel}
use Rattle.server_components.specs.declared.waits.Waiting.{Waiting}
use Rattle.core_run.specs.World.{Links, World, actors, after_rank, client_of, pool_of, rank_named}
use Rattle.core_law.specs.Found.{found_in}
use Rattle.core_law.specs.Lawful.{IsLawful, IsOfCall, IsOfRemote, IsSeat, IsWaiting, OfCall}
use Rattle.core_law.specs.OnLinks.{Each, OnLinks}
use Rattle.core_law.specs.Letters.{call_letter, one, remote_letter}
use Rattle.core_law.specs.Others.{teller, tells_of}
use Rattle.core_law.specs.Own.{IsClient}
use Rattle.core_law.specs.Well.{IsSquare, IsWell}
use Rattle.core_law.proofs.RunsWhere.{split_where}
use Rattle.core_law.proofs.TakenUnits.{facts_of, facts_same}
use Rattle.core_law.proofs.OtherCalls.{calls_stay}
use Rattle.core_law.proofs.OtherRanks.{clients_stay}
use Rattle.core_law.proofs.RankShapes.{ChangesRank, IsFarewell, It_asks, It_leaves, It_rests, Then}
use Rattle.core_law.proofs.Sums.{AreWithin}
use Rattle.core_law.proofs.UnderWay.{each_weaker, posted_on, weaker}
use Rattle.core_law.specs.Pushed.{IsOfPush}
use Rattle.core_law.proofs.RankPushes.{LeavesServers, rank_pushed}

-- Entries that are not about a rank.

-- no entry of these is about the rank
abbrev pub AreSilent : Rank → List Entry → Type 0
AreSilent me es = Each (λ e. tells_of me (teller e) ≡ false) es

-- a step of a sound bag leaves it sound
pub sound_after : (found : Bag → Bool) (b n : Bag) (e : Entry) → IsSoundBag b → StepsWhere found b e n → IsSoundBag n
sound_after found b n e sound step = rw step.2 (step_keeps_sound found b e step.1 sound)

-- a client stands for its rank after entries that are silent about it
pub run_stands : (found : Bag → Bool) (c : ClientModel) (coming : Option Message) (es : List Entry) (b n : Bag) → IsSoundBag b
    → AreSilent c.me es → IsRunWhere found b es n → ClientAgrees c coming b → ClientAgrees c coming n
run_stands found c coming [] b n sound silent run stands = subst (ClientAgrees c coming) run stands
run_stands found c coming (e ∷ es) b n sound silent run stands =
    run_stands found c coming es run.0 n (sound_after found b run.0 e sound run.1) silent.1 run.2
    (clients_stay found b run.0 e c coming sound run.1 silent.0 stands)

-- entries that are silent about a rank add no call of it
pub run_silent : (found : Bag → Bool) (me : Rank) (es : List Entry) (b n : Bag) → AreSilent me es → IsRunWhere found b es n
    → calls_from b es me ≡ []
run_silent found me [] b n silent run = refl
run_silent found me (e ∷ es) b n silent run =
    calls_stay found b run.0 e es me run.1 silent.0 ∙ run_silent found me es run.0 n silent.1 run.2

other_rank : (me other : Rank) → other.0 ≢ me.0 → tells_of other (Some me) ≡ false
other_rank me other differs = false_from_ne_true (me.0 == other.0) (λ same. differs (sym (eqb-true me.0 other.0 same)))

-- the entries of one rank are silent about others
pub others_silent : (me other : Rank) (es : List Entry) → other.0 ≢ me.0 → Each (ChangesRank me) es → AreSilent other es
others_silent me other es differs each =
    each_weaker (ChangesRank me) (λ e. tells_of other (teller e) ≡ false)
    (λ e is. ap (tells_of other) is.0 ∙ other_rank me other differs) es each

-- Entries of a rank change the bag in its ranks alone, and in that the problem is done.
pub ranks_alone : (found : Bag → Bool) (me : Rank) (es : List Entry) (b n : Bag) → Each (ChangesRank me) es → IsRunWhere found b es n
    → n ≡ record b { ranks = n.ranks; done = n.done }
ranks_alone found me [] b n each run = subst (λ (m : Bag). m ≡ record b { ranks = m.ranks; done = m.done }) run refl
ranks_alone found me (e ∷ es) b n each run =
    let f = each.0.1 b in
    let later = ranks_alone found me es run.0 n each.1 run.2 in
    later ∙ ap (λ (m : Bag). record m { ranks = n.ranks; done = n.done }) (run.1.2 ∙ f.2)

-- which it stays, once it is
still_done : (found : Bag → Bool) (me : Rank) (es : List Entry) (b n : Bag) → Each (ChangesRank me) es → IsRunWhere found b es n
    → b.done ≡ true → n.done ≡ true
still_done found me [] b n each run done = ap (λ (m : Bag). m.done) (sym run) ∙ done
still_done found me (e ∷ es) b n each run done =
    let f = each.0.1 b in
    still_done found me es run.0 n each.1 run.2 (ap (λ (m : Bag). m.done) (run.1.2 ∙ f.2) ∙ f.3 done)

-- each server agrees with the bag still
still_agrees : (b : Bag) (ranks : List RankState) (is_done : Bool) (s : ServerModel) → (b.done ≡ true → is_done ≡ true) → ServerAgrees b s
    → ServerAgrees (record b { ranks = ranks; done = is_done }) s
still_agrees b ranks is_done s done a = record {
  servers = a.servers;
  within = a.within;
  limit = a.limit;
  units = a.units;
  promises = a.promises;
  room = a.room;
  single = a.single;
  parts = a.parts;
  common = a.common;
  done = λ is. done (a.done is);
  exhausted = a.exhausted;
  found = a.found;
}

-- What a rank sends is of its call and of no other's.

-- what a step of a rank sends is of its pending call
pub sent_of_call : (s : ClientModel) (x : Made) → x.state.me ≡ s.me → Then s x
    → Each (λ (y : Sending). OfCall x.state None (by.Rank s.me) y.to y.letter) x.sends
sent_of_call s x me (It_rests h) = rw h.sends tt
sent_of_call s x me (It_asks h) = rw h.sends ((λ of request. (refl, h.asked)), tt)
sent_of_call s x me (It_leaves h) =
    each_weaker (IsFarewell s.config) (λ (y : Sending). OfCall x.state None (by.Rank s.me) y.to y.letter)
    (λ y f. rw (f.is, f.message) (λ of request. absurd (cc request))) x.sends h.each

sent_by_other : (c : ClientModel) (coming : Option Message) (me : Rank) → me ≢ c.me → (sends : List Sending)
    → Each (λ (y : Sending). OfCall c coming (by.Rank me) y.to y.letter) sends
sent_by_other c coming me differs [] = tt
sent_by_other c coming me differs (y ∷ sends) = (of y.to, sent_by_other c coming me differs sends)
  where
    of : (to : Actor) → IsOfCall c coming (by.Rank me) to y.letter.message
    of (by.Rank to) = tt
    of (by.Server to) = λ same request. absurd (differs same)

-- where no letter of the rank is under way, each is what it should be
pub one_is : (a b : Rank) → a ≡ b → one (a.0 == b.0) ≡ 1
one_is a b same = let e = eq-eqb a.0 b.0 (ap (λ (r : Rank). r.0) same) in rw e refl

remote_nothing : (c : ClientModel) (coming : Option Message) (me : Rank) (m : Message) → c.me ≡ me → remote_letter me m ≡ 0
    → IsOfRemote c coming m
remote_nothing c coming me (tells.Ask of request types) named none = λ who. let is = one_is of me (who ∙ named) in absurd (omega arith)
remote_nothing c coming me (tells.AskGrant of request note) named none = λ who. let is = one_is of me (who ∙ named) in absurd (omega arith)
remote_nothing c coming me (tells.AskNone of request) named none = λ who. let is = one_is of me (who ∙ named) in absurd (omega arith)
remote_nothing c coming me _ named none = tt

-- a letter that weighs nothing for a rank is of no call of it
pub weighs_nothing : (c : ClientModel) (coming : Option Message) (me : Rank) (from to : Actor) (m : Message) → c.me ≡ me
    → call_letter me from to m ≡ 0 → IsOfCall c coming from to m
weighs_nothing c coming me (by.Rank from) (by.Server to) m named none =
    λ of request.
    let who = eq-eqb from.0 me.0 (ap (λ (r : Rank). r.0) (of ∙ named)) in
    let one_is : call_letter me (by.Rank from) (by.Server to) m ≡ 1 = rw (request, who) refl in
    absurd (omega arith)
weighs_nothing c coming me (by.Server from) (by.Rank to) m named none =
    λ of.
    let who = eq-eqb to.0 me.0 (ap (λ (r : Rank). r.0) (of ∙ named)) in
    let one_is : call_letter me (by.Server from) (by.Rank to) m ≡ 1 = rw who refl in
    absurd (omega arith)
weighs_nothing c coming me (by.Rank from) (by.Rank to) m named none = tt
weighs_nothing c coming me (by.Server from) (by.Server to) m named none = remote_nothing c coming me m named none

-- of another rank
abbrev pub IsNotOf : Rank → Waiting → Type 0
IsNotOf me e = e.wish.rank ≢ me

-- What a step of the rank is, with the links on which its letters are sent. No letter of its call stands on them, what is between
-- servers is as it was, and it waits nowhere.
pub record IsRankStep (w : World) (me : Rank) (links : Links) (coming : Option Message) (x : Made) (b n : Bag) : Type 0 where
  pub here : me.0 < w.config.ranks
  pub square : IsSquare (actors w.config) links
  pub none : OnLinks (λ from to l. call_letter me from to l.message ≡ 0) w.config links
  pub servers : LeavesServers w links
  pub nowhere : (t : Server) → t.0 < w.config.servers → Each (IsNotOf me) (pool_of w t).kept.parked.waiting
  pub own : IsClient w.config me x.state
  pub entries : Each (ChangesRank (client_of w me).me) x.entries
  pub notes : All (Contains (holds (client_of w me) coming)) (holds x.state None)
  pub after : Then (client_of w me) x
  pub within : AreWithin w.config x.sends
  pub run : IsRunWhere (found_in w.config) b x.entries n
  pub stands : ClientAgrees x.state None n
  pub transcript : said x.state x.state.pending None
      ≡ said (client_of w me) (client_of w me).pending coming ++ calls_from b x.entries (client_of w me).me

-- its own seat
own_seat : (w : World) (me : Rank) (links : Links) (coming : Option Message) (x : Made) (b n : Bag) → IsWell w → IsLawful w b
    → IsSeat w b me coming → IsRankStep w me links coming x b n → IsSeat (after_rank w me links x) n me None
own_seat w me links coming x b n well l seat is =
    let c = client_of w me in
    let next : client_of (after_rank w me links x) me ≡ x.state =
    get_or-set_same w.ranks me.0 x.state (new_client w.config me) (let e = (well.shape).ranks in let h = is.here in omega arith) in
    let same = ranks_alone (found_in w.config) c.me x.entries b n is.entries is.run in
    let units : n.units ≡ b.units = ap (λ (m : Bag). m.units) same in
    let named : x.state.me ≡ me = (is.own).me in
    let left =
    weaker (λ from to l. call_letter me from to l.message ≡ 0) (OfCall x.state None) w.config links
    (λ from to l e. weighs_nothing x.state None me from to l.message named e) is.none in
    let sent : Each (λ (y : Sending). OfCall x.state None (by.Rank me) y.to y.letter) x.sends =
    subst (λ (r : Rank). Each (λ (y : Sending). OfCall x.state None (by.Rank r) y.to y.letter) x.sends) seat.named
    (sent_of_call c x (named ∙ sym seat.named) is.after) in
    let rank = lt-ltb me.0 w.config.ranks is.here in
    let posted = posted_on (OfCall x.state None) w.config links (by.Rank me) x.sends is.square left rank is.within sent in
    let now = ap (λ s. s ++ calls_from b x.entries c.me) seat.said in
    let its = ap (λ r. calls w.config w.ledger me ++ calls_from b x.entries r) seat.named in
    let grows = split_where (found_in w.config) (empty_bag w.config) b w.ledger x.entries me l.run in
    record {
      named = rw next named;
      stands = rw next is.stands;
      letters = rw next posted;
      waits = λ t there. rw next
          (each_weaker (IsNotOf me) (IsWaiting x.state None) (λ e differs of. absurd (differs (of ∙ named)))
          (pool_of w t).kept.parked.waiting (is.nowhere t there));
      said = rw next (is.transcript ∙ now ∙ its ∙ sym grows);
      facts = rw next (facts_same b n (holds x.state None) units (facts_of b (holds c coming) (holds x.state None) is.notes seat.facts));
    }

-- the seat of another rank; `left` says that letters at most have gone off the links
other_seat : (w : World) (me : Rank) (links : Links) (coming : Option Message) (x : Made) (b n : Bag)
    → ((P : Actor → Actor → Letter → Type 0) → OnLinks P w.config w.links → OnLinks P w.config links) → IsLawful w b
    → (client_of w me).me ≡ me
    → IsRankStep w me links coming x b n → (r : Rank) (o : Option Message) → r.0 ≢ me.0 → IsSeat w b r o
    → IsSeat (after_rank w me links x) n r o
other_seat w me links coming x b n left l named is r o differs seat =
    let c = client_of w r in
    let next : client_of (after_rank w me links x) r ≡ c = get_or-set_other w.ranks me.0 r.0 x.state (new_client w.config r) differs in
    let entries : Each (ChangesRank me) x.entries = subst (λ (q : Rank). Each (ChangesRank q) x.entries) named is.entries in
    let same = ranks_alone (found_in w.config) me x.entries b n entries is.run in
    let units : n.units ≡ b.units = ap (λ (m : Bag). m.units) same in
    let silent = others_silent me r x.entries differs entries in
    let apart : me ≢ c.me = λ e. differs (ap (λ (q : Rank). q.0) (sym seat.named ∙ sym e)) in
    let rank = lt-ltb me.0 w.config.ranks is.here in
    let sent = sent_by_other c o me apart x.sends in
    let posted = posted_on (OfCall c o) w.config links (by.Rank me) x.sends is.square (left (OfCall c o) seat.letters) rank
    is.within sent in
    let quiet : AreSilent c.me x.entries = subst (λ (q : Rank). AreSilent q x.entries) (sym seat.named) silent in
    let none = ap (λ s. calls w.config w.ledger r ++ s) (run_silent (found_in w.config) r x.entries b n silent is.run) in
    let grows = split_where (found_in w.config) (empty_bag w.config) b w.ledger x.entries r l.run in
    record {
      named = rw next seat.named;
      stands = rw next (run_stands (found_in w.config) c o x.entries b n (run_is_sound (found_in w.config) w.config w.ledger b l.run)
          quiet is.run seat.stands);
      letters = rw next posted;
      waits = λ t there. rw next (seat.waits t there);
      said = rw next (seat.said ∙ sym (grows ∙ none ∙ append-nil (calls w.config w.ledger r)));
      facts = rw next (facts_same b n (holds c o) units seat.facts);
    }

-- together
pub rank_lawful : (w : World) (me : Rank) (links : Links) (coming : Option Message) (x : Made) (b n : Bag)
    → ((P : Actor → Actor → Letter → Type 0) → OnLinks P w.config w.links → OnLinks P w.config links) → IsWell w → IsLawful w b
    → IsSeat w b me coming → IsRankStep w me links coming x b n → IsLawful (after_rank w me links x) n
rank_lawful w me links coming x b n left well l seat is =
    let found = found_in w.config in
    let same = ranks_alone found (client_of w me).me x.entries b n is.entries is.run in
    let done = still_done found (client_of w me).me x.entries b n is.entries is.run in
    record {
      run = joined_where found (empty_bag w.config) b n w.ledger x.entries l.run is.run;
      rests = ap has_due same ∙ l.rests;
      pushed = rank_pushed found w me links x b n is.here is.within is.square is.servers
          (left (λ from to y. IsOfPush b from to y.message) (l.pushed).letters) is.run is.entries l.pushed;
      seats = λ r within. by_rank r within (cases_eq r.0 me.0);
      pools = λ k there. subst (λ (m : Bag). ServerAgrees m (pool_of w k)) (sym same)
          (still_agrees b n.ranks n.done (pool_of w k) done (l.pools k there));
    }
  where
    by_rank : (r : Rank) → r.0 < w.config.ranks → (r.0 ≡ me.0) ⊎ (r.0 ≢ me.0)
        → (o : Option Message) × IsSeat (after_rank w me links x) n r o
    by_rank r within (inl it) =
        let is_me : me ≡ r = ap rank_named (sym it) in
        (None, subst (λ (q : Rank). IsSeat (after_rank w me links x) n q None) is_me (own_seat w me links coming x b n well l seat is))
    by_rank r within (inr differs) =
        let its = l.seats r within in
        (its.0, other_seat w me links coming x b n left l seat.named is r its.0 differs its.1)
