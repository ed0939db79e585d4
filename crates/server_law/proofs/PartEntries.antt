-- The entries of the acts on common parts are steps of the bag, and the bag agrees afterwards.
use Rattle.std.proofs.Common.{◌≡◌, ℕ, ◌+◌, ◌≤◌, ◌<◌, ◌==◌, Bool, true, false, ◌&&◌, ◌||◌, cond, not, List, [], ◌∷◌, ◌++◌, length, Option}
use Rattle.std.proofs.Common.{Some, None, refl, sym, ap, ◌∙◌, subst, sum_by, arith}
use Rattle.std.specs.Prelude.{option_and_then}
use Rattle.std.specs.List.{list_any}
use Rattle.std.proofs.lemmas.List.Folds.{list_any-append}
use Rattle.std.proofs.lemmas.Bool.{ltb-false, ltb-true}
use Rattle.std.proofs.lemmas.List.Sums.{sum_by_push}
use Rattle.adlb_unit.specs.Ids.{same_batch}
use Rattle.adlb_unit.specs.declared.names.BatchId.{BatchId}
use Rattle.adlb_unit.specs.declared.names.Rank.{Rank}
use Rattle.adlb_unit.specs.declared.names.Server.{Server}
use Rattle.adlb_unit.proofs.Same.{same_batch_from}
use Rattle.bag_ledger.specs.Bag.{Bag, has_due, is_due as is_lot_due, offer, part_charge, part_of}
use Rattle.bag_ledger.specs.Steps.{Legal, StepsWhere, after, change_at, change_first, ended, kept as with_kept, new_part}
use Rattle.bag_ledger.specs.declared.entries.Entry.{Entry}
use Rattle.bag_ledger.specs.declared.entries.Entry.TheVariants as enters
use Rattle.bag_ledger.specs.declared.states.Part.{Part as Lot}
use Rattle.bag_ledger.specs.declared.states.RankState.{RankState}
use Rattle.bag_ledger.proofs.Lookups.{find_changed, sum_changed}
use Rattle.bag_ledger.proofs.Tests.{same_number, same_server_is, some_is}
use Rattle.bag_law.proofs.Plain.{kept_is}
use Rattle.server_components.specs.Store.{Store, changed, closed, fetched, fresh, is_due, kept, part_in, with_fresh}
use Rattle.server_components.proofs.Lookups.{changed_here, in_changed, in_inserted}
use Rattle.server_components.specs.declared.parts.Part.{Part}
use Rattle.work_queue.specs.Queue.{Queue, charge_of, without_common}
use Rattle.server_law.specs.Acts.{Closes, Fetches_part, Keeps, Refuses_part, batch_of, entries, frees, given_back}
use Rattle.server_law.specs.Agreement.{ServerAgrees, of_batch, part_at, part_seen}
use Rattle.server_law.specs.Carried.{done}
use Rattle.server_law.specs.Finding.{exceeds}
use Rattle.server_law.specs.Legal.{Begins, EndsBatch, HasAccepted, IsOwed}
use Rattle.server_law.specs.State.{ServerModel}
use Rattle.server_law.proofs.Components.{HoldsParts, holds_changed, holds_more, parts_agree}
use Rattle.server_law.proofs.Entering.{AreSteps, charge_agrees, is_step, none_changed}

-- The bag's part of which the server has one.

-- the part in the bag that the server keeps
pub record IsLodged (b : Bag) (me : Server) (batch : BatchId) (part : Part) (lot : Lot) : Type 0 where
  pub found : part_of b batch ≡ Some lot
  pub here : lot.server ≡ me
  pub unfreed : lot.freed ≡ false
  pub same : part_seen lot ≡ part

-- a part that the store has is kept at the server in the bag
pub lodged_part : (b : Bag) (s : ServerModel) (batch : BatchId) (part : Part) → ServerAgrees b s → part_in s.kept.parts batch ≡ Some part
    → (lot : Lot) × IsLodged b s.me batch part lot
lodged_part b s batch part m found = by_lot (part_of b batch) refl (sym (m.parts batch) ∙ found)
  where
    by_test : (lot : Lot) → part_of b batch ≡ Some lot → (at gone : Bool) → (lot.server.0 == s.me.0) ≡ at → lot.freed ≡ gone
        → cond (at && not gone) (Some (part_seen lot)) None ≡ Some part → (lot : Lot) × IsLodged b s.me batch part lot
    by_test lot there true false at gone is =
        (lot, record { found = there; here = same_server_is lot.server s.me at; unfreed = gone; same = some_is is })
    by_test lot there true true at gone is = absurd (cc)
    by_test lot there false gone at is_gone is = absurd (cc)

    by_lot : (o : Option Lot) → part_of b batch ≡ o → option_and_then (part_at s.me) o ≡ Some part
        → (lot : Lot) × IsLodged b s.me batch part lot
    by_lot None there is = absurd (cc)
    by_lot (Some lot) there is = by_test lot there (lot.server.0 == s.me.0) lot.freed refl refl is

-- A part is changed, and freed if it is then due.

-- what is changed is what is counted
pub record Counts (g : Lot → Lot) : Type 0 where
  pub batch : (p : Lot) → (g p).batch ≡ p.batch
  pub server : (p : Lot) → (g p).server ≡ p.server
  pub common : (p : Lot) → (g p).common ≡ p.common
  pub freed : (p : Lot) → (g p).freed ≡ p.freed

freed_not_due : (c : Bool) (n : Bool) → (c && not true && n) ≡ false
freed_not_due true n = refl
freed_not_due false n = refl

-- one is changed twice
changed_twice : {X : Type 0} (f g : X → X) (test : X → Bool) → ((x : X) → test (f x) ≡ test x) → (xs : List X)
    → change_first g test (change_first f test xs) ≡ change_first (λ x. g (f x)) test xs
changed_twice f g test keeps [] = refl
changed_twice f g test keeps (x ∷ xs) = by_test (changed_twice f g test keeps xs) (test x) refl
  where
    by_test : change_first g test (change_first f test xs) ≡ change_first (λ y. g (f y)) test xs → (t : Bool) → test x ≡ t
        → change_first g test (cond t (f x ∷ xs) (x ∷ change_first f test xs))
        ≡ cond t (g (f x) ∷ xs) (x ∷ change_first (λ y. g (f y)) test xs)
    by_test rest true is = rw (keeps x ∙ is) refl
    by_test rest false is = rw (is, rest) refl

-- the server's test of a part that is due is the bag's
due_is : (lot : Lot) → lot.freed ≡ false → is_lot_due lot ≡ is_due (part_seen lot)
due_is lot unfreed = by_closed lot.closed refl
  where
    by_closed : (t : Bool) → lot.closed ≡ t → is_lot_due lot ≡ is_due (part_seen lot)
    by_closed true is = rw (is, unfreed) refl
    by_closed false is = rw is refl

-- the server with this queue and these parts
abbrev pub with_store : Store → Queue → ServerModel → ServerModel
with_store store queue s = record s { kept = record s.kept { queue = queue; parts = store } }

module _ (found : Bag → Bool) (b : Bag) (s : ServerModel) (batch : BatchId) (part : Part) (f : Part → Part) (g : Lot → Lot) (lot : Lot)
    (ranks : List RankState) (m : ServerAgrees b s) (is : IsLodged b s.me batch part lot) (at : part_in s.kept.parts batch ≡ Some part)
    (counts : Counts g) (same : part_seen (g lot) ≡ f part) where
  abbrev now : Part
  now = f part

  abbrev next : Bag
  next = record b { ranks = ranks; parts = change_first g (of_batch batch) b.parts }

  abbrev frees_it : Lot → Lot
  frees_it p = record p { freed = true }

  still : (g lot).freed ≡ false
  still = counts.freed lot ∙ is.unfreed

  at_home : ((g lot).server.0 == s.me.0) ≡ true
  at_home = rw (counts.server lot, is.here) (same_number s.me.0)

  there : part_of next batch ≡ Some (g lot)
  there = find_changed g (of_batch batch) (λ p. ap (λ (x : BatchId). same_batch x batch) (counts.batch p)) b.parts lot is.found

  charged : sum_by (part_charge s.me) (change_first g (of_batch batch) b.parts) ≡ s.kept.queue.common
  charged =
      let change = sum_changed (part_charge s.me) g (of_batch batch) b.parts lot is.found in
      let alike : part_charge s.me (g lot) ≡ part_charge s.me lot = rw (counts.server lot, counts.common lot, counts.freed lot) refl in
      let before = m.common in
      omega arith

  -- what the store has then
  kept_here : part_in (changed f s.kept.parts batch) batch ≡ kept now
  kept_here = changed_here f s.kept.parts batch ∙ ap (λ o. option_and_then (λ p. kept (f p)) o) at

  kept_there : (other : BatchId) → same_batch other batch ≡ false
      → part_in (changed f s.kept.parts batch) other ≡ part_in s.kept.parts other
  kept_there other differs = in_changed f s.kept.parts batch other ∙ rw differs refl

  due_now : is_lot_due (g lot) ≡ is_due now
  due_now = due_is (g lot) still ∙ ap is_due same

  stays_here : is_due now ≡ false → part_in (changed f s.kept.parts batch) batch ≡ part_at s.me (g lot)
  stays_here due = kept_here ∙ rw (due, at_home, still, same) refl

  agrees : is_due now ≡ false → ServerAgrees next (with_store (changed f s.kept.parts batch) s.kept.queue s)
  agrees due =
      parts_agree (record b { ranks = ranks }) s _ _ _ m
      (holds_changed b.parts s.me s.kept.parts (changed f s.kept.parts batch) batch g lot counts.batch is.found m.parts (stays_here due)
      kept_there) charged

  frees_step : is_due now ≡ true → StepsWhere found next (enters.Freed s.me batch) (after next (enters.Freed s.me batch))
  frees_step due =
      (refl, (g lot, (rw m.servers m.within, there, counts.server lot ∙ is.here, still), due_now ∙ due), refl)

  both : change_first frees_it (of_batch batch) (change_first g (of_batch batch) b.parts)
      ≡ change_first (λ p. frees_it (g p)) (of_batch batch) b.parts
  both = changed_twice g frees_it (of_batch batch) (λ p. ap (λ (x : BatchId). same_batch x batch) (counts.batch p)) b.parts

  goes_here : is_due now ≡ true → part_in (changed f s.kept.parts batch) batch ≡ part_at s.me (frees_it (g lot))
  goes_here due = kept_here ∙ rw (due, at_home) refl

  freed_agrees : is_due now ≡ true
      → ServerAgrees (after next (enters.Freed s.me batch))
      (with_store (changed f s.kept.parts batch) (without_common s.kept.queue (length now.bytes)) s)
  freed_agrees due =
      let more = sum_changed (part_charge s.me) frees_it (of_batch batch) (change_first g (of_batch batch) b.parts) (g lot) there in
      let long : length (g lot).common ≡ length now.bytes = ap (λ (p : Part). length p.bytes) same in
      let before : part_charge s.me (g lot) ≡ length (g lot).common = rw (at_home, still) refl in
      let after_it : part_charge s.me (frees_it (g lot)) ≡ 0 = rw at_home refl in
      let sum = charged in
      let holds : HoldsParts (change_first (λ p. frees_it (g p)) (of_batch batch) b.parts) s.me (changed f s.kept.parts batch) =
      holds_changed b.parts s.me s.kept.parts (changed f s.kept.parts batch) batch (λ p. frees_it (g p)) lot counts.batch is.found m.parts
      (goes_here due) kept_there in
      parts_agree (record b { ranks = ranks }) s _ _ _ m
      (subst (λ lots. HoldsParts lots s.me (changed f s.kept.parts batch)) (sym both) holds) (omega arith)

  -- no part is due then
  rests_when : has_due b ≡ false → is_due now ≡ false → has_due next ≡ false
  rests_when rests not_due =
      none_changed is_lot_due (of_batch batch) g b.parts rests (λ p found. rw (← some_is (sym is.found ∙ found)) (due_now ∙ not_due))

  freed_rests : has_due b ≡ false → has_due (after next (enters.Freed s.me batch)) ≡ false
  freed_rests rests =
      ap (list_any is_lot_due) both
      ∙ none_changed is_lot_due (of_batch batch) (λ p. frees_it (g p)) b.parts rests
      (λ p found. freed_not_due (g p).closed ((g p).fetched == (g p).accepted))

  -- an entry of a part, and its freeing if it is due, are steps of the bag
  pub part_steps : has_due b ≡ false → (e : Entry) → StepsWhere found b e next
      → AreSteps found b (e ∷ frees s.me batch now) (with_store (changed f s.kept.parts batch) (given_back now s.kept.queue) s)
  part_steps rests e step = by_due (is_due now) refl
    where
      by_due : (t : Bool) → is_due now ≡ t
          → AreSteps found b (e ∷ cond t (enters.Freed s.me batch ∷ []) [])
          (with_store (changed f s.kept.parts batch) (cond t (without_common s.kept.queue (length now.bytes)) s.kept.queue) s)
      by_due true due = (
        after next (enters.Freed s.me batch),
        (next, step, (after next (enters.Freed s.me batch), frees_step due, refl)),
        freed_agrees due,
        freed_rests rests,
      )
      by_due false due = (next, (next, step, refl), agrees due, rests_when rests due)

-- The acts.

-- the entry of a common part that is kept
pub keeps : (found : Bag → Bool) (b : Bag) (s : ServerModel) (rank : Rank) (request : ℕ) (common : List ℕ) → ServerAgrees b s
    → has_due b ≡ false → Begins b s.me rank request common → part_of b (batch_of rank request) ≡ None
    → exceeds s.kept.queue (length common) ≡ false
    → AreSteps found b (entries (Keeps rank request common) s) (done (Keeps rank request common) s)
keeps found b s rank request common m rests of new over =
    is_step found b (enters.Kept s.me batch) (done (Keeps rank request common) s) (rw rests refl, legal, refl)
    (subst (λ (n : Bag). ServerAgrees n (done (Keeps rank request common) s)) (sym (kept_is b s.me batch legal)) all)
    (subst (λ (n : Bag). has_due n ≡ false) (sym (kept_is b s.me batch legal)) more_rests)
  where
    batch : BatchId
    batch = batch_of rank request

    lot : Lot
    lot = new_part s.me batch common

    more_rests : list_any is_lot_due (b.parts ++ lot ∷ []) ≡ false
    more_rests = list_any-append is_lot_due b.parts (lot ∷ []) ∙ ap (λ t. t || false) rests

    fits : charge_of s.kept.queue + length common ≤ s.kept.queue.limit
    fits = ltb-false s.kept.queue.limit (charge_of s.kept.queue + length common) over

    legal : Legal b (enters.Kept s.me batch)
    legal = (of.0, common, of.1, of.2, rw m.servers m.within, of.3, rw (charge_agrees b s m, m.limit) fits)

    here : part_at s.me lot ≡ Some (part_seen lot)
    here = rw (same_number s.me.0) refl

    charged : part_charge s.me lot ≡ length common
    charged = rw (same_number s.me.0) refl

    all : ServerAgrees (with_kept s.me batch (Some (batch.number, common)) b) (done (Keeps rank request common) s)
    all =
        let more = sum_by_push (part_charge s.me) b.parts lot in
        let before = m.common in
        let added = charged in
        parts_agree b s (b.parts ++ lot ∷ []) (with_fresh s.kept.parts batch common) (s.kept.queue.common + length common) m
        (holds_more b.parts s.me s.kept.parts (with_fresh s.kept.parts batch common) lot new m.parts
        (in_inserted s.kept.parts batch batch (fresh common) ∙ rw (same_batch_from batch batch refl) (sym here))
        (λ other differs. in_inserted s.kept.parts batch other (fresh common) ∙ rw differs refl))
        (omega arith)

-- the entry of a common part that is refused
pub refuses_part : (found : Bag → Bool) (b : Bag) (s : ServerModel) (rank : Rank) (request : ℕ) (common : List ℕ) → ServerAgrees b s
    → has_due b ≡ false → Begins b s.me rank request common → exceeds s.kept.queue (length common) ≡ true
    → AreSteps found b (entries (Refuses_part rank request common) s) (done (Refuses_part rank request common) s)
refuses_part found b s rank request common m rests of over =
    let above : s.kept.queue.limit < charge_of s.kept.queue + length common =
    ltb-true s.kept.queue.limit (charge_of s.kept.queue + length common) over in
    let used = sym (charge_agrees b s m) in
    is_step found b (enters.Refused s.me (record { rank = rank; number = request }) (charge_of s.kept.queue))
    (done (Refuses_part rank request common) s)
    (rw rests refl, (of.0, length common, of.1, ap offer of.2, rw m.servers m.within, of.3, used, rw m.limit above), refl) m rests

-- the entries of a batch that ends
pub closes : (found : Bag → Bool) (b : Bag) (s : ServerModel) (request : ℕ) (batch : BatchId) (accepted : ℕ) (part : Part)
    → ServerAgrees b s
    → has_due b ≡ false → EndsBatch b request batch → HasAccepted b batch accepted → part_in s.kept.parts batch ≡ Some part
    → AreSteps found b (entries (Closes request batch accepted part) s) (done (Closes request batch accepted part) s)
closes found b s request batch accepted part m rests of all held =
    part_steps found b s batch part (closed accepted) g lot
    (change_at (λ r. ended (record r { batch = None })) batch.rank.0 b.ranks) m is held
    (record { batch = λ p. refl; server = λ p. refl; common = λ p. refl; freed = λ p. refl })
    (ap (λ n. closed n (part_seen lot)) (all lot is.found) ∙ ap (closed accepted) is.same) rests (enters.Closed s.me batch)
    (rw rests refl, legal, refl)
  where
    g : Lot → Lot
    g p = record p { closed = true }

    there : (lot : Lot) × IsLodged b s.me batch part lot
    there = lodged_part b s batch part m held

    lot : Lot
    lot = there.0

    is : IsLodged b s.me batch part lot
    is = there.1

    legal : Legal b (enters.Closed s.me batch)
    legal = (of.0, request, of.1, lot, of.2, of.3, of.4, of.5, (rw m.servers m.within, is.found, is.here, is.unfreed))

-- the entries of common bytes that are fetched
pub fetches_part : (found : Bag → Bool) (b : Bag) (s : ServerModel) (rank : Rank) (request : ℕ) (batch : BatchId) (part : Part)
    → ServerAgrees b s
    → has_due b ≡ false → IsOwed b rank request batch → part_in s.kept.parts batch ≡ Some part
    → AreSteps found b (entries (Fetches_part rank request batch part) s) (done (Fetches_part rank request batch part) s)
fetches_part found b s rank request batch part m rests of held =
    part_steps found b s batch part fetched g lot (change_at ended rank.0 b.ranks) m is held
    (record { batch = λ p. refl; server = λ p. refl; common = λ p. refl; freed = λ p. refl }) (ap fetched is.same) rests
    (enters.CommonFetched s.me rank batch) (rw rests refl, legal, refl)
  where
    g : Lot → Lot
    g p = record p { fetched = p.fetched + 1 }

    there : (lot : Lot) × IsLodged b s.me batch part lot
    there = lodged_part b s batch part m held

    lot : Lot
    lot = there.0

    is : IsLodged b s.me batch part lot
    is = there.1

    legal : Legal b (enters.CommonFetched s.me rank batch)
    legal =
        (of.3.0, request, of.0, of.1, of.2, lot, of.3.1, of.3.2, of.4, of.5, of.6, (rw m.servers m.within, is.found, is.here, is.unfreed))
