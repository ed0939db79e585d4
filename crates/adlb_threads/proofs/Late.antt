-- A stamp that was too long for a step of an actor's own is that of its next event, in one run of all actors.
use Rattle.std.proofs.Common.{◌≡◌, inl, inr, ◌≤◌, ◌+◌, ℕ}
use Rattle.std.proofs.Common.{Bool, true, false, List, [], ◌∷◌, ◌++◌, map, slice_get}
use Rattle.std.proofs.Common.{Some, cond, refl, ap, sym, ◌∙◌, subst, arith, lt-ltb}
use Rattle.std.proofs.lemmas.Bool.{eq-eqb, false≢true}
use Rattle.std.proofs.lemmas.Option.{slice_get_within}
use Rattle.adlb_unit.specs.Limits.{stamp_limit}
use Rattle.adlb_unit.specs.Links.{is_within, place_of, stamp_after}
use Rattle.adlb_unit.specs.declared.actors.Actor.{Actor}
use Rattle.adlb_unit.specs.declared.actors.Actor.TheVariants as by
use Rattle.adlb_unit.specs.declared.configs.Config.{Config}
use Rattle.adlb_unit.specs.declared.letters.Letter.{Letter}
use Rattle.bag_ledger.specs.declared.entries.Entry.{Entry}
use Rattle.actor_desk.proofs.Letters.{place_below}
use Rattle.actor_desk.specs.Desks.{DeskModel, is_told}
use Rattle.rank_client.specs.State.{ClientModel, start as new_client}
use Rattle.rank_mail.specs.declared.posted.Posted.{Posted}
use Rattle.rank_mail.specs.Mailboxes.{letters_of}
use Rattle.server_law.specs.State.{ServerModel, start as new_pool}
use Rattle.merge_history.specs.Own.{Finals, IsOneHistory, got}
use Rattle.fallen_law.proofs.Expecting.{late_many}
use Rattle.fallen_law.proofs.Nexts.{heard_plain, served_plain}
use Rattle.fallen_law.specs.Fallen.{WouldBear, last_stamp}
use Rattle.thread_actors.specs.World.{rank_named, server_named}
use Rattle.thread_actors.specs.RankJobs.{Ended, WouldBear as StopsAt}
use Rattle.thread_actors.specs.declared.faults.ActorFault.TheVariants.{TooLong}
use Rattle.thread_actors.specs.ServerJobs.{BreaksBy, Ended as Served, IsBroken}
use Rattle.thread_actors.proofs.ServerBegun.{comes_next}
use Rattle.adlb_threads.specs.Ends.{AreReceived}
use Rattle.adlb_threads.specs.inside.{AreClear, AreOwnRuns, AreRanksEnds}
use Rattle.adlb_threads.specs.inside.{AreServersEnds, IsLateEnd, all_met, desks_of, journals_at}
use Rattle.adlb_threads.proofs.Endings.{are_clear, finals, own_runs, rank_desk, rank_walks, server_desk, server_walks}
use Rattle.adlb_threads.proofs.Journals.{can_merge, next_at}
use Rattle.adlb_threads.proofs.Troubles.{IsLateOf, late_limit, whose_late}
use Rattle.adlb_threads.proofs.OwnRuns.{client_same, pool_same}

-- one letter of an actor is what was received of it
pub its_own : (from : ℕ) (letter : Letter) → letters_of from (record { from = from; letter = letter } ∷ []) ≡ letter ∷ []
its_own from letter =
    ap (λ (t : Bool). map (λ (p : Posted). p.letter) (cond t (record { from = from; letter = letter } ∷ []) [])) (eq-eqb from from refl)

module _ {O : Type 0} (config : Config) (ends : List (Ended O)) (served : List Served) (desk : DeskModel) (ranks : AreRanksEnds config ends)
    (servers : AreServersEnds config served) (number : desk.number ≡ config.ranks + config.servers)
    (received : AreReceived (desks_of ends served desk)) where
  abbrev desks : List DeskModel
  desks = desks_of ends served desk

  abbrev last : Finals
  last = finals config ends served desk ranks servers number

  clear : AreClear config desks
  clear = are_clear config ends served desk ranks servers number

  own : AreOwnRuns config last (journals_at config desks)
  own = own_runs config ends served desk ranks servers number

  abbrev Bears : Actor → ℕ → Type 0
  Bears actor stamp = WouldBear config last (journals_at config desks) actor stamp

  -- a letter that came after those of the journal, and that an event could get
  by_letter : (from me : Actor) → is_within config from ≡ true → is_within config me ≡ true
      → (e : DeskModel) (letter : Letter) (later : List Letter) (stamp : ℕ) → slice_get desks (place_of config me) ≡ Some e
      → is_told letter.message ≡ false
      → letters_of (place_of config from) e.got ≡ got config (place_of config from) e.events ++ letter ∷ later
      → stamp ≡ stamp_after (last_stamp last me) letter → Bears me stamp
  by_letter from me from_within within e letter later stamp at plain came is =
      let next = next_at config desks last clear received own from me from_within within e letter later at plain came in
      inr (from, letter, next.0, from_within, next.1, is)

  -- A server's.

  server_within : (k : ℕ) (e : Served) → slice_get served k ≡ Some e → is_within config (by.Server (server_named k)) ≡ true
  server_within k e at = lt-ltb k config.servers (let low = slice_get_within served k e at in omega (arith, low, servers.all))

  broken_bears : (k : ℕ) (e : Served) (s : ServerModel) (stamp : ℕ) → slice_get served k ≡ Some e → s ≡ last.pool (server_named k)
      → e.own ≡ true → IsBroken (server_named k) e.desk s (TooLong stamp) e.own → Bears (by.Server (server_named k)) stamp
  broken_bears k e s stamp at same own_step was =
      let same_config = (servers.each k e at).config_is in
      let x = was.letter in
      let breaks : BreaksBy config s x (TooLong stamp) e.own =
      subst (λ (c : Config). BreaksBy c s x (TooLong stamp) e.own) same_config was.breaks in
      let step = breaks.step own_step in
      let came : letters_of x.from (e.desk).got ≡ got config x.from (e.desk).events ++ x.letter ∷ letters_of x.from was.later =
      comes_next (server_named k) e.desk s (TooLong stamp) e.own was
      ∙ ap (λ (c : Config). got c x.from (e.desk).events ++ x.letter ∷ letters_of x.from was.later) same_config in
      by_letter step.0 (by.Server (server_named k)) step.1 (server_within k e at) e.desk x.letter (letters_of x.from was.later) stamp
      (server_desk config ends served desk ranks servers number k e at) (served_plain s step.0 x.letter step.3)
      (subst (λ (n : ℕ). letters_of n (e.desk).got ≡ got config n (e.desk).events ++ x.letter ∷ letters_of x.from was.later)
      (sym step.2) came)
      (breaks.stamp own_step stamp refl ∙ ap (λ (t : ServerModel). stamp_after t.clock x.letter) same)

  server_bears : (k : ℕ) (e : Served) (stamp : ℕ) → slice_get served k ≡ Some e → e.fault ≡ Some (TooLong stamp) → e.own ≡ true
      → Bears (by.Server (server_named k)) stamp
  server_bears k e stamp at late own_step =
      let end = servers.each k e at in
      let same = pool_same config (new_pool config (server_named k)) (e.desk).events end.begun.last (last.pool (server_named k))
      end.begun.walks (server_walks config ends served desk ranks servers number k e at) in
      elim (end.broken (TooLong stamp) late) [
        | inl was ↦ broken_bears k e end.begun.last stamp at same own_step was
        | inr full ↦ absurd (false≢true (sym full.0 ∙ own_step))
      ]

  -- A rank's.

  rank_within : (k : ℕ) (e : Ended O) → slice_get ends k ≡ Some e → is_within config (by.Rank (rank_named k)) ≡ true
  rank_within k e at = lt-ltb k config.ranks (let low = slice_get_within ends k e at in omega (arith, low, ranks.all))

  late_bears : (k : ℕ) (e : Ended O) (s : ClientModel) (stamp : ℕ) → slice_get ends k ≡ Some e → s ≡ last.client (rank_named k)
      → StopsAt config s e.desk stamp → Bears (by.Rank (rank_named k)) stamp
  late_bears k e s stamp at same (inl call) = inl (call ∙ ap (λ (t : ClientModel). t.clock + 1) same)
  late_bears k e s stamp at same (inr came) =
      let server : Actor = by.Server came.server in
      let within : is_within config server ≡ true = lt-ltb (came.server).0 config.servers came.within in
      by_letter server (by.Rank (rank_named k)) within (rank_within k e at) e.desk came.letter [] stamp
      (rank_desk config ends served desk ranks servers number k e at)
      (heard_plain s came.server came.letter came.expected)
      (came.receives (place_of config server) (place_below config server within)
      ∙ ap (λ l. got config (place_of config server) (e.desk).events ++ l) (its_own (place_of config server) came.letter))
      (came.stamp_is ∙ ap (λ (t : ClientModel). stamp_after t.clock came.letter) same)

  rank_bears : (k : ℕ) (e : Ended O) (stamp : ℕ) → slice_get ends k ≡ Some e → e.fault ≡ Some (TooLong stamp) → e.own ≡ true
      → Bears (by.Rank (rank_named k)) stamp
  rank_bears k e stamp at late own_step =
      let stop = (ranks.each k e at).stopped own_step stamp late in
      late_bears k e stop.last stamp at
      (client_same config (new_client config (rank_named k)) (e.desk).events stop.last (last.client (rank_named k)) stop.walks
      (rank_walks config ends served desk ranks servers number k e at))
      stop.bears

  -- So its run is late.

  bears : (stamp : ℕ) → IsLateOf ends served stamp
      → (actor : Actor) × (is_within config actor ≡ true) × Bears actor stamp
  bears stamp (inl mine) =
      (by.Rank (rank_named mine.0), rank_within mine.0 mine.1 mine.2, rank_bears mine.0 mine.1 stamp mine.2 mine.3 mine.4)
  bears stamp (inr theirs) = (
    by.Server (server_named theirs.0),
    server_within theirs.0 theirs.1 theirs.2,
    server_bears theirs.0 theirs.1 stamp
        theirs.2 theirs.3 theirs.4,
  )

  ends_late : (ledger : List Entry) (stamp : ℕ) → all_met ends served ≡ Some (TooLong stamp)
      → IsOneHistory config last (journals_at config desks) ledger → IsLateEnd config ends stamp
  ends_late ledger stamp met run =
      let whose = whose_late ends served stamp met in
      let limit : stamp_limit ≤ stamp = late_limit ends served stamp (λ k e at. (ranks.each k e at).late)
      (λ k e at. (servers.each k e at).late) whose in
      let its = bears stamp whose in record {
        finals = last;
        late = record {
          journals = journals_at config desks;
          history = run.history;
          can_merge = can_merge config desks clear;
          compose = run.compose;
          merged = run.merged;
          run = run.run;
          many = late_many config last (journals_at config desks) run.history its.0 stamp run.run its.1 its.2 limit;
          actor = its.0;
          within = its.1;
          bears = its.2;
        };
        own = λ rank e at. rank_walks config ends served desk ranks servers number rank.0 e at;
      }

pub late_end : {O : Type 0} (config : Config) (ends : List (Ended O)) (served : List Served) (desk : DeskModel)
    (ranks : AreRanksEnds config ends) (servers : AreServersEnds config served) (number : desk.number ≡ config.ranks + config.servers)
    (all : List DeskModel) (ledger : List Entry) (stamp : ℕ) → all ≡ desks_of ends served desk
    → all_met ends served ≡ Some (TooLong stamp) → AreReceived all
    → ((finals : Finals) → AreOwnRuns config finals (journals_at config all) → IsOneHistory config finals (journals_at config all) ledger)
    → IsLateEnd config ends stamp
late_end config ends served desk ranks servers number all ledger stamp is met received ran =
    let heard = subst AreReceived is received in
    let now =
    subst (λ ds. (finals : Finals) → AreOwnRuns config finals (journals_at config ds)
    → IsOneHistory config finals (journals_at config ds) ledger) is ran in
    ends_late config ends served desk ranks servers number heard ledger stamp met
    (now (finals config ends served desk ranks servers number) (own_runs config ends served desk ranks servers number))
