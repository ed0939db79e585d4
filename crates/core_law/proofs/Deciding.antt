-- Each act that decides a rank's pending call: what it needs of the bag is so, and what it makes of the bag and of the rank.
use Rattle.std.proofs.Common.{◌≡◌, ◌<◌, ℕ, Bool, true, false, ◌||◌, ◌⊎◌, inl, inr, List, [], ◌∷◌, length, Option, None, Some, refl, sym, ap}
use Rattle.std.proofs.Common.{◌∙◌, subst, arith}
use Rattle.std.specs.Prelude.{All, nat_lt}
use Rattle.std.proofs.lemmas.Bool.{and_parts, false_from_ne_true, ltb-true}
use Rattle.adlb_unit.specs.Targets.{home}
use Rattle.adlb_unit.specs.declared.configs.Config.{Config}
use Rattle.adlb_unit.specs.declared.messages.Message.{Message}
use Rattle.adlb_unit.specs.declared.messages.Message.TheVariants as tells
use Rattle.adlb_unit.specs.declared.names.Rank.{Rank}
use Rattle.adlb_unit.specs.declared.names.Server.{Server}
use Rattle.adlb_unit.specs.declared.names.UnitId.{UnitId}
use Rattle.adlb_unit.specs.declared.names.WorkType.{WorkType}
use Rattle.adlb_unit.specs.declared.notes.End.{End}
use Rattle.adlb_unit.specs.declared.notes.UnitNote.{UnitNote}
use Rattle.adlb_unit.specs.declared.units.Unit.{Unit}
use Rattle.bag_ledger.specs.Bag.{Bag, has_declined, is_free, unit_of, rank_at, part_of}
use Rattle.bag_ledger.specs.Runs.{IsRunWhere, note_of}
use Rattle.bag_ledger.specs.declared.entries.Entry.{Entry}
use Rattle.bag_ledger.specs.declared.entries.Entry.TheVariants as enters
use Rattle.bag_ledger.specs.declared.entries.Said.{Said}
use Rattle.bag_ledger.specs.declared.states.Placed.{Placed as Lodged}
use Rattle.bag_ledger.specs.declared.states.Status.TheVariants as is_at
use Rattle.bag_ledger.specs.declared.states.UnitPlace.TheVariants.{Free}
use Rattle.bag_ledger.proofs.Tests.{some_is}
use Rattle.bag_law.specs.Calls.{IsTrueSaid}
use Rattle.bag_law.proofs.Facts.{put_is_new}
use Rattle.bag_law.proofs.Sound.{run_calls_are_true, run_is_sound}
use Rattle.work_queue.specs.Counts.{counts_of}
use Rattle.work_queue.specs.Queue.{charge_of}
use Rattle.work_queue.specs.declared.placing.Placed.{Placed}
use Rattle.rank_client.specs.Calls.{is_fetched, is_granted}
use Rattle.rank_client.specs.declared.pendings.Pending.{Pending}
use Rattle.rank_client.specs.declared.pendings.Pending.TheVariants as waits_for
use Rattle.rank_client.specs.Agreement.{HasAccepted as HasAcceptedOf, in_call, said}
use Rattle.rank_client.specs.Expected.{IsAtServer, IsAwaited, IsNewNote}
use Rattle.server_components.specs.declared.wishes.Wish.{Wish}
use Rattle.server_law.specs.State.{ServerModel, is_home}
use Rattle.server_law.specs.Acts.{Act, Accepts, Answers, Around, Closes, Counts, Ends_keep, Ends_put, Ends_reserve, Ends_try, Fetches}
use Rattle.server_law.specs.Acts.{Fetches_part, Gives, Grants, Grants_try, Hears_done, Keeps, Looks, Refuses, Refuses_part, Tells, batch_of}
use Rattle.server_law.specs.Acts.{entries, frees, unit_of as unit_named}
use Rattle.server_law.specs.Agreement.{ServerAgrees}
use Rattle.server_components.specs.Grants.{unit_with}
use Rattle.server_law.specs.Finding.{best_for}
use Rattle.server_law.specs.Legal.{AsksFor, Begins, HasAccepted, Needs, Offers, TriesFor}
use Rattle.server_law.specs.Sure.{IsFound, IsFreeFor}
use Rattle.server_law.proofs.Elsewhere.{begun_is_new, put_shares_open}
use Rattle.server_law.proofs.PartEntries.{lodged_part}
use Rattle.server_components.specs.Store.{closed, fetched}
use Rattle.server_components.specs.declared.parts.Part.{Part}
use Rattle.bag_ledger.specs.declared.states.Part.{Part as Lot}
use Rattle.bag_law.specs.Sound.{HasPart}
use Rattle.adlb_unit.specs.declared.names.BatchId.{BatchId}
use Rattle.adlb_unit.specs.declared.names.CommonRef.{CommonRef}
use Rattle.rank_client.specs.State.{ClientModel}
use Rattle.server_law.proofs.BestFits.{best_is_fit}
use Rattle.server_law.proofs.ByIds.{free_is_found, pinned_is_found}
use Rattle.server_law.proofs.Lodging.{lodged, place_is}
use Rattle.core_run.specs.World.{World, client_of, pool_of}
use Rattle.core_law.specs.Acting.{IsAct, acted}
use Rattle.core_law.specs.Found.{found_in}
use Rattle.core_law.specs.Lawful.{IsLawful, IsSeat}
use Rattle.core_law.specs.Well.{IsWell}
use Rattle.core_law.proofs.ActSeats.{about}
use Rattle.core_law.proofs.Answering.{IsCalling, IsPutHere, IsReserveHere, IsTryHere, Replies, ask_call, fetch_here, idle_here, one_self}
use Rattle.core_law.proofs.Answering.{put_here, replies, reply_passes, reserve_here, try_here, waits_so, IsKeepHere, close_here}
use Rattle.core_law.proofs.Answering.{common_here, count_here, done_here, keep_here}
use Rattle.core_law.proofs.Coming.{Comes, IsEnded, IsGranted, Waits, accepted_comes, counted_comes, fetched_comes, granted_comes}
use Rattle.core_law.proofs.Coming.{looked_comes, over_comes, put_ended, refused_comes, reserve_ended, reserve_granted, try_ended}
use Rattle.core_law.proofs.Coming.{try_granted, fetched_shares, keep_ended, told_comes}
use Rattle.core_law.proofs.PartComing.{closed_comes, common_comes, kept_comes, part_refused_comes, with_frees}
use Rattle.core_law.proofs.TakenUnits.{is_taken, taken_gone}
use Rattle.core_law.proofs.Ring.{not_tried}
use Rattle.core_law.proofs.Seats.{IsMade}

-- what an act makes of the bag and of the rank of which it tells
pub record IsDone (w : World) (k : Server) (a : Act) (n : Bag) : Type 0 where
  pub seat : (r : Rank) → about a ≡ Some r → r.0 < w.config.ranks → (now : Option Message) × IsSeat (acted w k a) n r now

-- what the act needs of the bag is so, and what it makes of it and of the rank
pub record Succeeds (w : World) (k : Server) (a : Act) (b : Bag) : Type 0 where
  pub needs : Needs (found_in w.config) a b (pool_of w k).me
  pub makes : (n : Bag) → IsMade w k a b n → IsDone w k a n

-- the unit is free in the bag, at the server
abbrev pub IsFreeAt : Bag → Server → Unit → Type 0
IsFreeAt b me unit = (u : Lodged) × (unit_of b unit.id ≡ Some u) × (u.unit ≡ unit) × (u.place ≡ Free me)

-- a unit that is free in the queue is free at the server in the bag
pub free_at : (b : Bag) (s : ServerModel) (p : Placed) (unit : Unit) → ServerAgrees b s → p.unit ≡ unit
    → unit_with p.unit.id s.kept.queue.units ≡ Some p → p.pin ≡ None → IsFreeAt b s.me unit
free_at b s p unit m same found free =
    let u = lodged b.units s.me s.kept.queue.units p.unit.id p m.units found in
    let at : unit_of b unit.id ≡ Some u.0 = ap (λ (v : Unit). unit_of b v.id) (sym same) ∙ u.1.found in
    (u.0, at, u.1.same ∙ same, place_is s.me None u.0.place (u.1.pin ∙ ap Some free))

neither : (g f : Bool) → (g || f) ≡ false → (g ≡ false) × (f ≡ false)
neither true f e = absurd (cc)
neither false f e = (refl, e)

module _ (w : World) (k : Server) (b : Bag) (well : IsWell w) (l : IsLawful w b) (here : k.0 < w.config.servers) where
  -- from this bag, and what is asked of it
  abbrev AreSteps : List Entry → Bag → Type 0
  AreSteps es n = IsRunWhere (found_in w.config) b es n

  abbrev HasNeeds : Act → Type 0
  HasNeeds a = Needs (found_in w.config) a b (pool_of w k).me

  me_is : (pool_of w k).me ≡ k
  me_is = (well.own.servers k here).me

  -- the rank in the bag
  rank_is : (rank : Rank) (p : Pending) → IsCalling w b rank p → rank_at b rank ≡ Some (in_call (client_of w rank) p None)
  rank_is rank p is =
      let seat = is.seat in
      let waits = waits_so w b rank p well l is in
      ap (rank_at b) (sym seat.named) ∙ waits.rank

  -- what an entry makes of a rank, with the name that its client has
  renamed : (rank : Rank) (p : Pending) (now : Message) (n : Bag) (e : Rank → List Entry) → IsCalling w b rank p
      → (let c = client_of w rank in (AreSteps (e c.me) n → Comes c p now b n (e c.me)) → AreSteps (e rank) n → Comes c p now b n (e rank))
  renamed rank p now n e is comes =
      let c = client_of w rank in
      let seat = is.seat in
      subst (λ (r : Rank). AreSteps (e r) n → Comes c p now b n (e r)) seat.named comes

  -- an act that decides the call of the rank, which awaits the answer from this server
  decides_from : (from : Server) (a : Act) (rank : Rank) (p : Pending) (now : Message) → about a ≡ Some rank → IsCalling w b rank p
      → Replies w k a rank now from → IsAwaited (client_of w rank) p from now → HasNeeds a
      → ((n : Bag) → AreSteps (entries a (pool_of w k)) n → Comes (client_of w rank) p now b n (entries a (pool_of w k))) → Succeeds w k a b
  decides_from from a rank p now tells_of_it is r awaited needs comes = record {
    needs = needs;
    makes = λ n m.
        let made = comes n m.step in
        let seat = reply_passes w k a b n rank p now from m well is r made awaited in
        record {
          seat = λ x told within.
              (Some now, subst (λ (y : Rank). IsSeat (acted w k a) n y (Some now)) (some_is (sym tells_of_it ∙ told)) seat);
        };
  }

  -- from here
  abbrev decides : (a : Act) (rank : Rank) (p : Pending) (now : Message) → about a ≡ Some rank → IsCalling w b rank p
      → Replies w k a rank now k → IsAwaited (client_of w rank) p k now → HasNeeds a
      → ((n : Bag) → AreSteps (entries a (pool_of w k)) n → Comes (client_of w rank) p now b n (entries a (pool_of w k))) → Succeeds w k a b
  decides = decides_from k

  -- Puts.

  offers_now : (unit : Unit) (h : IsPutHere w k b unit) → Offers b (pool_of w k).me unit
  offers_now unit h =
      let p = waits_for.Put unit h.first h.tried in
      let c = client_of w unit.id.rank in
      let waits = waits_so w b unit.id.rank p well l h.calling in
      let untried = not_tried c.config h.first h.tried waits.call.1 in
      let fresh : has_declined (in_call c p None) (pool_of w k).me ≡ false = rw (me_is ∙ h.here) untried in
      (in_call c p None, rank_is unit.id.rank p h.calling, refl, fresh)

  -- accepting a put: what it needs of the bag is so, and what it makes of the rank agrees
  pub accepts_succeeds : (unit : Unit) → IsAct w k (Accepts unit) → Succeeds w k (Accepts unit) b
  accepts_succeeds unit is =
      let h = put_here w k (Accepts unit) b unit l is refl in
      let p = waits_for.Put unit h.first h.tried in
      let c = client_of w unit.id.rank in
      let waits = waits_so w b unit.id.rank p well l h.calling in
      let sound = run_is_sound (found_in w.config) w.config w.ledger b l.run in
      let new = put_is_new b sound unit.id.rank (in_call c p None) unit (rank_is unit.id.rank p h.calling) refl in
      decides (Accepts unit) unit.id.rank p (tells.Accepted unit.id.number) refl h.calling
      (replies w k _ _ _ refl (let e = one_self unit.id.rank in omega arith) refl) (refl, h.here)
      (offers_now unit h, new.1, put_shares_open b sound unit.id.rank (in_call c p None) unit (rank_is unit.id.rank p h.calling) refl)
      (λ n run. accepted_comes c unit h.first h.tried (pool_of w k).me b n waits run)

  -- refusing a put: what it needs of the bag is so, and what it makes of the rank agrees
  pub refuses_succeeds : (unit : Unit) → IsAct w k (Refuses unit) → Succeeds w k (Refuses unit) b
  refuses_succeeds unit is =
      let h = put_here w k (Refuses unit) b unit l is refl in
      let p = waits_for.Put unit h.first h.tried in
      let c = client_of w unit.id.rank in
      let used = charge_of (pool_of w k).kept.queue in
      let waits = waits_so w b unit.id.rank p well l h.calling in
      decides (Refuses unit) unit.id.rank p (tells.Full unit.id.number used) refl h.calling
      (replies w k _ _ _ refl (let e = one_self unit.id.rank in omega arith) refl) (refl, h.here) (offers_now unit h)
      (λ n run. refused_comes c unit h.first h.tried (pool_of w k).me b n used waits (me_is ∙ h.here) run)

  -- Ends.

  ends : (a : Act) (rank : Rank) (p : Pending) (request : ℕ) (end : End) → about a ≡ Some rank
      → entries a (pool_of w k) ≡ enters.Over rank request end ∷ [] → IsCalling w b rank p → IsEnded (client_of w rank) p request end
      → Replies w k a rank (tells.Ended request end) k → IsAwaited (client_of w rank) p k (tells.Ended request end)
      → HasNeeds a → Succeeds w k a b
  ends a rank p request end tells_of_it entered is ended r awaited needs =
      let c = client_of w rank in
      let now = tells.Ended request end in
      let waits = waits_so w b rank p well l is in
      decides a rank p now tells_of_it is r awaited needs (λ n.
      subst (λ (es : List Entry). AreSteps es n → Comes c p now b n es) (sym entered)
      (renamed rank p now n (λ x. enters.Over x request end ∷ []) is (over_comes c p b n request end waits ended)))

  -- ending a put: what it needs of the bag is so, and what it makes of the rank agrees
  pub ends_put_succeeds : (unit : Unit) (end : End) → IsAct w k (Ends_put unit end) → Succeeds w k (Ends_put unit end) b
  ends_put_succeeds unit end is =
      let h = put_here w k (Ends_put unit end) b unit l is refl in
      let p = waits_for.Put unit h.first h.tried in
      ends (Ends_put unit end) unit.id.rank p unit.id.number end refl refl h.calling
      (put_ended (client_of w unit.id.rank) unit h.first h.tried unit.id.number end)
      (replies w k _ _ _ refl (let e = one_self unit.id.rank in omega arith) refl) (refl, h.here)
      (_, rank_is unit.id.rank p h.calling, refl)

  -- a wish of a rank that reserves is asked for in the bag
  pub asks_now : (wish : Wish) → IsCalling w b wish.rank (waits_for.Reserve wish.request wish.types) → AsksFor b wish
  asks_now wish calling = (_, rank_is wish.rank (waits_for.Reserve wish.request wish.types) calling, refl)

  ends_wish : (a : Act) (wish : Wish) (end : End) → IsReserveHere w k b wish → about a ≡ Some wish.rank
      → entries a (pool_of w k) ≡ enters.Over wish.rank wish.request end ∷ [] → Replies w k a wish.rank (tells.Ended wish.request end) k
      → HasNeeds a → Succeeds w k a b
  ends_wish a wish end h tells_of_it entered r needs =
      ends a wish.rank (waits_for.Reserve wish.request wish.types) wish.request end tells_of_it entered h.calling
      (reserve_ended (client_of w wish.rank) wish.request wish.types wish.request end) r (refl, h.here) needs

  -- ending a reserve: what it needs of the bag is so, and what it makes of the rank agrees
  pub ends_reserve_succeeds : (wish : Wish) (end : End) → IsAct w k (Ends_reserve wish end) → Succeeds w k (Ends_reserve wish end) b
  ends_reserve_succeeds wish end is =
      let h = reserve_here w k (Ends_reserve wish end) b wish l is refl in
      ends_wish (Ends_reserve wish end) wish end h refl refl
      (replies w k _ _ _ refl (let e = one_self wish.rank in omega arith) refl) (asks_now wish h.calling)

  -- telling a rank that waits its end: what it needs of the bag is so, and what it makes of the rank agrees
  pub tells_succeeds : (at : Around) (wish : Wish) (rest : List Server) (end : End) → IsAct w k (Tells at wish rest end)
      → Succeeds w k (Tells at wish rest end) b
  tells_succeeds at wish rest end is =
      let h = idle_here w k at wish rest b well l here is.sits in
      ends_wish (Tells at wish rest end) wish end h refl refl
      (replies w k _ _ _ refl (let e = one_self wish.rank in omega arith) refl) (asks_now wish h.calling)

  -- a wish of a rank that tries is tried for in the bag
  pub tries_now : (wish : Wish) → IsTryHere w k b wish → TriesFor b wish
  tries_now wish h = (_, rank_is wish.rank (waits_for.Try wish.request wish.types h.tried) h.calling, refl)

  -- ending a try: what it needs of the bag is so, and what it makes of the rank agrees
  pub ends_try_succeeds : (wish : Wish) (end : End) → IsAct w k (Ends_try wish end) → Succeeds w k (Ends_try wish end) b
  ends_try_succeeds wish end is =
      let h = try_here w k (Ends_try wish end) b wish l is refl in
      ends (Ends_try wish end) wish.rank (waits_for.Try wish.request wish.types h.tried) wish.request end refl refl h.calling
      (try_ended (client_of w wish.rank) wish.request wish.types h.tried wish.request end)
      (replies w k _ _ _ refl (let e = one_self wish.rank in omega arith) refl) (refl, h.here) (tries_now wish h)

  -- Grants.

  -- the part that a unit shares is at a server of the run
  shares_at : (unit : Unit) (u : Lodged) → unit_of b unit.id ≡ Some u → u.unit ≡ unit → HasPart b.parts unit.common
  shares_at unit u there same =
      let sound = run_is_sound (found_in w.config) w.config w.ledger b l.run in
      subst (λ (k : Unit). HasPart b.parts k.common) same (sound.shares.each unit.id u there)

  common_at : (c : ClientModel) (o : Option CommonRef) → b.servers ≡ c.config.servers → HasPart b.parts o → IsAtServer c o
  common_at c None same has = tt
  common_at c (Some common) same has =
      let sound = run_is_sound (found_in w.config) w.config w.ledger b l.run in
      let there = sound.there.each common.batch has.0 has.1 in
      let at : has.0.server.0 ≡ common.server.0 = ap (λ (k : Server). k.0) has.2 in
      omega arith

  -- a unit that is free was not granted before, nor fetched
  note_is_new : (rank : Rank) (p : Pending) (unit : Unit) → said (client_of w rank) p None ≡ (client_of w rank).transcript
      → IsCalling w b rank p → IsFreeAt b (pool_of w k).me unit → IsNewNote (client_of w rank) (note_of (pool_of w k).me unit)
  note_is_new rank p unit before is u =
      let c = client_of w rank in
      let seat = is.seat in
      let agrees = l.pools k here in
      let same : (client_of w rank).config ≡ (pool_of w k).config =
      (well.own.ranks rank is.within).config ∙ sym (well.own.servers k here).config in
      let true_said = run_calls_are_true (found_in w.config) w.config w.ledger b rank l.run in
      let told : said c c.pending None ≡ c.transcript = ap (λ (q : Pending). said c q None) is.call ∙ before in
      let all = subst (λ (list : List Said). All (IsTrueSaid b rank) list) (sym seat.said ∙ told) true_said.each in
      let fresh : is_taken unit.id c.transcript ≡ false = false_from_ne_true (is_taken unit.id c.transcript) (λ taken.
      let gone = taken_gone b rank unit.id c.transcript all taken in
      let one : gone.0 ≡ u.0 = some_is (sym gone.1 ∙ u.1) in
      let busy : is_free u.0.place ≡ false = ap (λ (v : Lodged). is_free v.place) (sym one) ∙ gone.2 in
      let idle : is_free u.0.place ≡ true = ap is_free u.3 in
      absurd (cc (busy, idle))) in
      let parts = neither (is_granted unit.id c.transcript) (is_fetched unit.id c.transcript) fresh in
      record {
        server = rw same agrees.within;
        ungranted = parts.0;
        unfetched = parts.1;
        common = common_at c unit.common (waits_so w b rank p well l is).servers (shares_at unit u.0 u.1 u.2);
      }

  -- the note of the unit, and the letter that grants it
  abbrev note_here : Unit → UnitNote
  note_here unit = note_of (pool_of w k).me unit

  abbrev grant : Wish → Unit → Message
  grant wish unit = tells.Grant wish.request (note_here unit)

  -- a free unit is granted in a call that awaits the grant from this server
  grants : (from : Server) (a : Act) (wish : Wish) (unit : Unit) (p : Pending) → about a ≡ Some wish.rank
      → entries a (pool_of w k) ≡ enters.Granted (pool_of w k).me wish.rank wish.request unit.id ∷ [] → IsCalling w b wish.rank p
      → IsGranted (client_of w wish.rank) p wish.request (note_here unit)
      → (IsNewNote (client_of w wish.rank) (note_here unit) → IsAwaited (client_of w wish.rank) p from (grant wish unit))
      → IsFreeAt b (pool_of w k).me unit → Replies w k a wish.rank (grant wish unit) from → HasNeeds a → Succeeds w k a b
  grants from a wish unit p tells_of_it entered calling granted awaited u r needs =
      let me = (pool_of w k).me in
      let c = client_of w wish.rank in
      let now = grant wish unit in
      let waits = waits_so w b wish.rank p well l calling in
      decides_from from a wish.rank p now tells_of_it calling r
      (awaited (note_is_new wish.rank p unit granted.before calling u)) needs (λ n.
      subst (λ (es : List Entry). AreSteps es n → Comes c p now b n es) (sym entered)
      (renamed wish.rank p now n (λ x. enters.Granted me x wish.request unit.id ∷ []) calling
      (granted_comes c p wish.request me unit u.0 b n granted waits u.1 u.2 u.3)))

  -- in a reserve, from the rank's home
  grants_wish : (from : Server) (a : Act) (wish : Wish) (unit : Unit) → about a ≡ Some wish.rank
      → entries a (pool_of w k) ≡ enters.Granted (pool_of w k).me wish.rank wish.request unit.id ∷ []
      → IsCalling w b wish.rank (waits_for.Reserve wish.request wish.types)
      → from ≡ home (client_of w wish.rank).config (client_of w wish.rank).me
      → IsFreeAt b (pool_of w k).me unit → Replies w k a wish.rank (grant wish unit) from → HasNeeds a → Succeeds w k a b
  grants_wish from a wish unit tells_of_it entered calling at_home u r needs =
      grants from a wish unit (waits_for.Reserve wish.request wish.types) tells_of_it entered calling
      (reserve_granted (client_of w wish.rank) wish.request wish.types wish.request (note_here unit))
      (λ new. ((refl, at_home), new)) u r needs

  -- the best unit is free in the bag
  best_at : (wish : Wish) (unit : Unit) → IsFound (best_for (pool_of w k).kept wish) unit → IsFreeAt b (pool_of w k).me unit
  best_at wish unit found =
      let agrees = l.pools k here in
      let fit = best_is_fit (pool_of w k).kept wish found.0 agrees.units.distinct found.1 in
      free_at b (pool_of w k) found.0 unit agrees found.2 fit.found fit.free

  -- granting a unit to a reserve: what it needs of the bag is so, and what it makes of the rank agrees
  pub grants_succeeds : (wish : Wish) (unit : Unit) → IsAct w k (Grants wish unit) → Succeeds w k (Grants wish unit) b
  grants_succeeds wish unit is =
      let h = reserve_here w k (Grants wish unit) b wish l is refl in
      grants_wish k (Grants wish unit) wish unit refl refl h.calling h.here (best_at wish unit is.sure.1)
      (replies w k _ _ _ refl (let e = one_self wish.rank in omega arith) refl) (asks_now wish h.calling)

  -- granting a unit to a try: what it needs of the bag is so, and what it makes of the rank agrees
  pub grants_try_succeeds : (wish : Wish) (unit : Unit) → IsAct w k (Grants_try wish unit) → Succeeds w k (Grants_try wish unit) b
  grants_try_succeeds wish unit is =
      let h = try_here w k (Grants_try wish unit) b wish l is refl in
      grants k (Grants_try wish unit) wish unit (waits_for.Try wish.request wish.types h.tried) refl refl h.calling
      (try_granted (client_of w wish.rank) wish.request wish.types h.tried wish.request (note_here unit)) (λ new. ((refl, h.here), new))
      (best_at wish unit is.sure) (replies w k _ _ _ refl (let e = one_self wish.rank in omega arith) refl)
      (tries_now wish h)

  -- one that has just become free, or the best one, is free in the bag
  given_at : (unit : Unit) (wish : Wish) → IsFreeFor (pool_of w k).kept unit wish ⊎ IsFound (best_for (pool_of w k).kept wish) unit
      → IsFreeAt b (pool_of w k).me unit
  given_at unit wish (inl free) =
      let agrees = l.pools k here in
      let found = free.0 in
      let units = (pool_of w k).kept.queue.units in
      let there = free_is_found units unit.id found.0 agrees.units.distinct found.1 in
      free_at b (pool_of w k) found.0 unit agrees found.2 (ap (λ (v : Unit). unit_with v.id units) found.2 ∙ there.0) there.1
  given_at unit wish (inr best) = best_at wish unit best

  -- giving a unit to a rank that waits: what it needs of the bag is so, and what it makes of the rank agrees
  pub gives_succeeds : (at : Around) (wish : Wish) (rest : List Server) (unit : Unit) → IsAct w k (Gives at wish rest unit)
      → Succeeds w k (Gives at wish rest unit) b
  gives_succeeds at wish rest unit is =
      let h = idle_here w k at wish rest b well l here is.sits in
      grants_wish k (Gives at wish rest unit) wish unit refl refl h.calling h.here (given_at unit wish is.sure)
      (replies w k _ _ _ refl (let e = one_self wish.rank in omega arith) refl) (asks_now wish h.calling)

  -- a server that is asked for the rank grants, and the rank awaits the word of its home
  pub answers_succeeds : (from : Server) (wish : Wish) (unit : Unit) → IsAct w k (Answers from wish unit)
      → Succeeds w k (Answers from wish unit) b
  answers_succeeds from wish unit is =
      let c = client_of w wish.rank in
      let s = pool_of w k in
      let own = well.own.servers k here in
      let asked = and_parts (nat_lt wish.rank.0 s.config.ranks) (is_home s.config from wish.rank) is.sure.0 in
      let alike = ap (λ (x : Config). x.ranks) own.config in
      let low = ltb-true wish.rank.0 s.config.ranks asked.0 in
      let calling = ask_call w k from (Answers from wish unit) b wish l is refl (omega arith) in
      grants_wish (home c.config c.me) (Answers from wish unit) wish unit refl refl calling refl (best_at wish unit is.sure.1)
      (record {
        said = λ awaited. ((λ who. (refl, awaited)), tt);
        one_goes = let e = one_self wish.rank in omega arith;
        nobody = refl;
      }) (asks_now wish calling)

  -- Looks.

  -- answering that nothing was found: what it needs of the bag is so, and what it makes of the rank agrees
  pub looks_succeeds : (wish : Wish) → IsAct w k (Looks wish) → Succeeds w k (Looks wish) b
  looks_succeeds wish is =
      let h = try_here w k (Looks wish) b wish l is refl in
      let p = waits_for.Try wish.request wish.types h.tried in
      let c = client_of w wish.rank in
      let me = (pool_of w k).me in
      let now = tells.Nothing wish.request in
      let waits = waits_so w b wish.rank p well l h.calling in
      decides (Looks wish) wish.rank p now refl h.calling
      (replies w k _ _ _ refl (let e = one_self wish.rank in omega arith) refl) (refl, h.here) (tries_now wish h) (λ n.
      renamed wish.rank p now n (λ x. enters.Looked me x wish.request ∷ []) h.calling
      (looked_comes c wish.request wish.types h.tried me b n waits (me_is ∙ h.here)))

  -- Fetches.

  -- the bytes are as many as the note says
  bytes_are : (rank : Rank) (request : ℕ) (note : UnitNote) (u : Lodged) → Waits (client_of w rank) (waits_for.Fetch request note) b
      → unit_of b note.id ≡ Some u → length u.unit.body ≡ note.length
  bytes_are rank request note u waits there =
      sym (ap (λ (n : UnitNote). n.length) (fetched_shares (client_of w rank) request note u b waits there))

  -- answering a fetch: what it needs of the bag is so, and what it makes of the rank agrees
  pub fetches_succeeds : (rank : Rank) (request : ℕ) (id : UnitId) (unit : Unit) → IsAct w k (Fetches rank request id unit)
      → Succeeds w k (Fetches rank request id unit) b
  fetches_succeeds rank request id unit is =
      let h = fetch_here w k (Fetches rank request id unit) b rank request id l is refl in
      let me = (pool_of w k).me in
      let c = client_of w rank in
      let p = waits_for.Fetch request h.note in
      let now = tells.Bytes request unit.body in
      let agrees = l.pools k here in
      let found = is.sure in
      let units = (pool_of w k).kept.queue.units in
      let at = pinned_is_found units id rank found.0 agrees.units.distinct found.1 in
      let u = lodged b.units me units id found.0 agrees.units at.0 in
      let there : unit_of b h.note.id ≡ Some u.0 = ap (unit_of b) h.named ∙ u.1.found in
      let same : u.0.unit ≡ unit = u.1.same ∙ found.2 in
      let waits = waits_so w b rank p well l h.calling in
      let long = ap (λ (v : Unit). length v.body) (sym same) ∙ bytes_are rank request h.note u.0 waits there in
      decides (Fetches rank request id unit) rank p now refl h.calling
      (replies w k _ _ _ refl (let e = one_self rank in omega arith) refl) ((refl, h.here), long)
      (_, rank_is rank p h.calling, ap (λ i. is_at.Fetching request i false) h.named) (λ n.
      subst (λ (i : UnitId). AreSteps (enters.Fetched me rank i ∷ []) n → Comes c p now b n (enters.Fetched me rank i ∷ [])) h.named
      (renamed rank p now n (λ x. enters.Fetched me x h.note.id ∷ []) h.calling
      (fetched_comes c request h.note me unit u.0 b n waits there same)))

  -- Batches.

  begins_now : (rank : Rank) (request : ℕ) (common : List ℕ) (h : IsKeepHere w k b rank request common)
      → Begins b (pool_of w k).me rank request common
  begins_now rank request common h =
      let p = waits_for.Keep request common h.first h.tried in
      let c = client_of w rank in
      let waits = waits_so w b rank p well l h.calling in
      let untried = not_tried c.config h.first h.tried waits.call.3 in
      let fresh : has_declined (in_call c p None) (pool_of w k).me ≡ false = rw (me_is ∙ h.here) untried in
      (in_call c p None, rank_is rank p h.calling, refl, fresh)

  -- keeping a common part: what it needs of the bag is so, and what it makes of the rank agrees
  pub keeps_succeeds : (rank : Rank) (request : ℕ) (common : List ℕ) → IsAct w k (Keeps rank request common)
      → Succeeds w k (Keeps rank request common) b
  keeps_succeeds rank request common is =
      let h = keep_here w k (Keeps rank request common) b rank request common l is refl in
      let p = waits_for.Keep request common h.first h.tried in
      let c = client_of w rank in
      let me = (pool_of w k).me in
      let now = tells.Accepted request in
      let waits = waits_so w b rank p well l h.calling in
      let sound = run_is_sound (found_in w.config) w.config w.ledger b l.run in
      let seat = h.calling.seat in
      let new = begun_is_new b sound (batch_of rank request) (in_call c p None) common (rank_is rank p h.calling) refl in
      let new_named : part_of b (batch_of c.me request) ≡ None = ap (λ x. part_of b (batch_of x request)) seat.named ∙ new in
      decides (Keeps rank request common) rank p now refl h.calling
      (replies w k _ _ _ refl (let e = one_self rank in omega arith) refl) (refl, h.here)
      (begins_now rank request common h, new) (λ n.
      renamed rank p now n (λ x. enters.Kept me (batch_of x request) ∷ []) h.calling
      (kept_comes c request common h.first h.tried me b n waits (me_is ∙ h.here) new_named))

  -- refusing a common part: what it needs of the bag is so, and what it makes of the rank agrees
  pub refuses_part_succeeds : (rank : Rank) (request : ℕ) (common : List ℕ) → IsAct w k (Refuses_part rank request common)
      → Succeeds w k (Refuses_part rank request common) b
  refuses_part_succeeds rank request common is =
      let h = keep_here w k (Refuses_part rank request common) b rank request common l is refl in
      let p = waits_for.Keep request common h.first h.tried in
      let c = client_of w rank in
      let me = (pool_of w k).me in
      let used = charge_of (pool_of w k).kept.queue in
      let now = tells.Full request used in
      let waits = waits_so w b rank p well l h.calling in
      decides (Refuses_part rank request common) rank p now refl h.calling
      (replies w k _ _ _ refl (let e = one_self rank in omega arith) refl) (refl, h.here)
      (begins_now rank request common h) (λ n.
      renamed rank p now n (λ x. enters.Refused me (unit_named x request) used ∷ []) h.calling
      (part_refused_comes c request common h.first h.tried me b n used waits (me_is ∙ h.here)))

  -- ending the keeping of a part: what it needs of the bag is so, and what it makes of the rank agrees
  pub ends_keep_succeeds : (rank : Rank) (request : ℕ) (common : List ℕ) (end : End) → IsAct w k (Ends_keep rank request common end)
      → Succeeds w k (Ends_keep rank request common end) b
  ends_keep_succeeds rank request common end is =
      let h = keep_here w k (Ends_keep rank request common end) b rank request common l is refl in
      let p = waits_for.Keep request common h.first h.tried in
      ends (Ends_keep rank request common end) rank p request end refl refl h.calling
      (keep_ended (client_of w rank) request common h.first h.tried request end)
      (replies w k _ _ _ refl (let e = one_self rank in omega arith) refl) (refl, h.here)
      (_, rank_is rank p h.calling, refl)

  -- this number of units of the batch that ends was accepted
  accepted_now : (c : ClientModel) (common : CommonRef) (batch : BatchId) (accepted : ℕ) → HasAcceptedOf b c.batch c.accepted
      → c.batch ≡ Some common
      → common.batch ≡ batch → accepted ≡ c.accepted → HasAccepted b batch accepted
  accepted_now c common batch accepted has is named count = λ p there.
      let its = subst (λ (o : Option CommonRef). HasAcceptedOf b o c.accepted) is has in
      let one : its.0 ≡ p = some_is (sym its.1 ∙ ap (part_of b) named ∙ there) in
      ap (λ (x : Lot). x.accepted) (sym one) ∙ its.2 ∙ sym count

  -- closing a batch: what it needs of the bag is so, and what it makes of the rank agrees
  pub closes_succeeds : (request : ℕ) (batch : BatchId) (accepted : ℕ) (part : Part) → IsAct w k (Closes request batch accepted part)
      → Succeeds w k (Closes request batch accepted part) b
  closes_succeeds request batch accepted part is =
      let h = close_here w k (Closes request batch accepted part) b request batch accepted l is refl in
      let p = waits_for.Close request h.common in
      let rank = batch.rank in
      let c = client_of w rank in
      let me = (pool_of w k).me in
      let now = tells.Closed request in
      let waits = waits_so w b rank p well l h.calling in
      let seat = h.calling.seat in
      decides (Closes request batch accepted part) rank p now refl h.calling
      (replies w k _ _ _ refl (let e = one_self rank in omega arith) refl) (refl, h.here) (
        (in_call c p None, h.common, rank_is rank p h.calling, refl, waits.call.1, h.named),
        accepted_now c h.common batch accepted waits.accepted waits.call.1 h.named h.count,
      ) (λ n.
      with_frees (found_in w.config) c p now b n (enters.Closed me batch) me batch (closed accepted part)
      (λ n run. closed_comes c request h.common batch me b n waits (sym seat.named) run))

  -- answering the fetch of a common part: what it needs of the bag is so, and what it makes of the rank agrees
  pub fetches_part_succeeds : (rank : Rank) (request : ℕ) (batch : BatchId) (part : Part) → IsAct w k (Fetches_part rank request batch part)
      → Succeeds w k (Fetches_part rank request batch part) b
  fetches_part_succeeds rank request batch part is =
      let h = common_here w k (Fetches_part rank request batch part) b rank request batch l is refl in
      let p = waits_for.Common request h.note h.common h.own in
      let c = client_of w rank in
      let me = (pool_of w k).me in
      let waits = waits_so w b rank p well l h.calling in
      let agrees = l.pools k here in
      let sound = run_is_sound (found_in w.config) w.config w.ledger b l.run in
      let found = is.sure.0 in
      let lot = lodged_part b (pool_of w k) batch part agrees found in
      let bytes : lot.0.common ≡ part.bytes = ap (λ (x : Part). x.bytes) lot.1.same in
      let now = tells.Bytes request part.bytes in
      let owed = waits.owed in
      let has : HasPart b.parts (Some h.common) = subst (HasPart b.parts) owed.2 (sound.shares.each h.note.id owed.0 owed.1) in
      let one : has.0 ≡ lot.0 = some_is (sym has.1 ∙ ap (part_of b) h.named ∙ lot.1.found) in
      let long : length part.bytes ≡ h.common.length =
      ap length (sym bytes) ∙ ap (λ (x : Lot). length x.common) (sym one) ∙ has.3 in
      decides (Fetches_part rank request batch part) rank p now refl h.calling
      (replies w k _ _ _ refl (let e = one_self rank in omega arith) refl) ((refl, h.here), long)
      (h.note.id, owed.0, h.common, (_, rank_is rank p h.calling, refl), owed.1, owed.2, h.named) (λ n.
      renamed rank p now n (λ x. enters.CommonFetched me x batch ∷ frees me batch (fetched part)) h.calling
      (with_frees (found_in w.config) c p now b n (enters.CommonFetched me c.me batch) me batch (fetched part)
      (λ n run. subst (λ x. Comes c p (tells.Bytes request x) b n (enters.CommonFetched me c.me batch ∷ [])) bytes
      (common_comes c request h.note h.common h.own batch lot.0 me b n waits lot.1.found run))))

  -- Counts.

  -- answering a count: what it needs of the bag is so, and what it makes of the rank agrees
  pub counts_succeeds : (rank : Rank) (request : ℕ) (kind : WorkType) → IsAct w k (Counts rank request kind)
      → Succeeds w k (Counts rank request kind) b
  counts_succeeds rank request kind is =
      let h = count_here w k (Counts rank request kind) b rank request kind l is refl in
      let p = waits_for.Count request kind in
      let me = (pool_of w k).me in
      let info = counts_of kind (pool_of w k).kept.queue.units in
      let now = tells.Counted request info in
      let waits = waits_so w b rank p well l h.calling in
      decides (Counts rank request kind) rank p now refl h.calling
      (replies w k _ _ _ refl (let e = one_self rank in omega arith) refl) (refl, h.here)
      (_, rank_is rank p h.calling, refl) (λ n.
      renamed rank p now n (λ x. enters.Counted me x request info ∷ []) h.calling
      (counted_comes (client_of w rank) request kind me info b n waits))

  -- That the problem is done.

  -- noting that the problem is done: what it needs of the bag is so, and what it makes of the rank agrees
  pub hears_done_succeeds : (rank : Rank) (request : ℕ) → IsAct w k (Hears_done rank request) → Succeeds w k (Hears_done rank request) b
  hears_done_succeeds rank request is =
      let h = done_here w k (Hears_done rank request) b rank request l is refl in
      let p = waits_for.SetDone request h.tried in
      let waits = waits_so w b rank p well l h.calling in
      decides (Hears_done rank request) rank p (tells.DoneHeard request) refl h.calling
      (replies w k _ _ _ refl (let e = one_self rank in omega arith) refl) (refl, h.here) waits.owed
      (λ n run. told_comes (client_of w rank) request h.tried b n waits run)
