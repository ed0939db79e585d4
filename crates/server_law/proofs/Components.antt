-- The agreement of the bag and a server, where one component changes.
use Rattle.std.proofs.Common.{◌≡◌, ℕ, ◌+◌, Bool, true, false, cond, List, [], ◌∷◌, ◌++◌, Option, Some, None, refl, sym, ap, subst, sum_by}
use Rattle.std.proofs.Common.{◌∙◌, arith}
use Rattle.std.specs.Option.{option_or}
use Rattle.std.proofs.lemmas.Bool.{false_from_ne_true}
use Rattle.std.proofs.lemmas.List.Folds.{find-append}
use Rattle.adlb_unit.proofs.Same.{same_batch_from, same_batch_is}
use Rattle.bag_ledger.proofs.Lookups.{find_changed, find_other}
use Rattle.server_components.specs.Store.{Store, part_in}
use Rattle.adlb_unit.specs.Ids.{same_batch}
use Rattle.adlb_unit.specs.declared.names.BatchId.{BatchId}
use Rattle.adlb_unit.specs.declared.names.CommonRef.{CommonRef}
use Rattle.adlb_unit.specs.declared.names.Server.{Server}
use Rattle.bag_ledger.specs.Steps.{change_first, shared}
use Rattle.bag_law.proofs.Turn.{sum_kept}
use Rattle.bag_ledger.specs.Bag.{Bag, part_charge, promise_charge}
use Rattle.bag_ledger.specs.declared.states.Part.{Part}
use Rattle.bag_ledger.specs.declared.states.Placed.{Placed as Lodged}
use Rattle.bag_ledger.specs.declared.states.Promise.{Promise as Room}
use Rattle.std.specs.Prelude.{find, option_and_then}
use Rattle.work_queue.specs.declared.placing.Placed.{Placed}
use Rattle.server_law.specs.Agreement.{HoldsUnits, ServerAgrees, StartAgrees, of_batch, part_at}
use Rattle.work_queue.specs.Queue.{HasDistinctPromises, Promise, promised}
use Rattle.server_law.specs.Legal.{IsOpen}
use Rattle.server_law.specs.State.{ServerModel}
use Rattle.server_law.proofs.Rooms.{AreRooms}

-- the units of both
abbrev pub with_units : List Placed → ℕ → ServerModel → ServerModel
with_units units arrivals s = record s { kept = record s.kept { queue = record s.kept.queue { units = units; arrivals = arrivals } } }

-- bag and server agree where both have other units
pub units_agree : (b : Bag) (s : ServerModel) (all : List Lodged) (units : List Placed) (arrivals : ℕ) → ServerAgrees b s
    → HoldsUnits all s.me units → ServerAgrees (record b { units = all }) (with_units units arrivals s)
units_agree b s all units arrivals m holds = record {
  servers = m.servers;
  within = m.within;
  limit = m.limit;
  units = holds;
  promises = m.promises;
  room = m.room;
  single = m.single;
  parts = m.parts;
  common = m.common;
  done = m.done;
  exhausted = m.exhausted;
  found = m.found;
}

-- a batch that is one is not another
batches_apart : (batch other x : BatchId) → same_batch other batch ≡ false → same_batch x batch ≡ true → same_batch x other ≡ false
batches_apart batch other x differs is =
    false_from_ne_true (same_batch x other)
    (λ too.
    let a = same_batch_is x batch is in
    let b = same_batch_is x other too in
    let c = same_batch_from other batch (sym b ∙ a) in
    absurd (cc))

-- the parts of both, and the bytes that they are charged with
abbrev pub with_parts : Store → ℕ → ServerModel → ServerModel
with_parts store common s = record s { kept = record s.kept { queue = record s.kept.queue { common = common }; parts = store } }

-- the store has the parts that are kept at the server
abbrev pub HoldsParts : List Part → Server → Store → Type 0
HoldsParts lots me store = (batch : BatchId) → part_in store batch ≡ option_and_then (part_at me) (find (of_batch batch) lots)

-- bag and server agree where both have other parts
pub parts_agree : (b : Bag) (s : ServerModel) (lots : List Part) (store : Store) (common : ℕ) → ServerAgrees b s
    → HoldsParts lots s.me store → sum_by (part_charge s.me) lots ≡ common
    → ServerAgrees (record b { parts = lots }) (with_parts store common s)
parts_agree b s lots store common m holds charged = record {
  servers = m.servers;
  within = m.within;
  limit = m.limit;
  units = m.units;
  promises = m.promises;
  room = m.room;
  single = m.single;
  parts = holds;
  common = charged;
  done = m.done;
  exhausted = m.exhausted;
  found = m.found;
}

-- a part is changed, and of each batch the server sees what it saw
pub seen_kept : (me : Server) (batch other : BatchId) (g : Part → Part) → ((p : Part) → (g p).batch ≡ p.batch) → (lots : List Part)
    → ((p : Part) → find (of_batch batch) lots ≡ Some p → part_at me (g p) ≡ part_at me p)
    → option_and_then (part_at me) (find (of_batch other) (change_first g (of_batch batch) lots))
    ≡ option_and_then (part_at me) (find (of_batch other) lots)
seen_kept me batch other g same [] keeps = refl
seen_kept me batch other g same (p ∷ lots) keeps = by_test (seen_kept me batch other g same lots) (of_batch batch p) refl
  where
    by_other : part_at me (g p) ≡ part_at me p → (t : Bool)
        → option_and_then (part_at me) (cond t (Some (g p)) (find (of_batch other) lots))
        ≡ option_and_then (part_at me) (cond t (Some p) (find (of_batch other) lots))
    by_other is true = is
    by_other is false = refl

    further : (t : Bool) → option_and_then (part_at me) (find (of_batch other) (change_first g (of_batch batch) lots))
        ≡ option_and_then (part_at me) (find (of_batch other) lots)
        → option_and_then (part_at me) (cond t (Some p) (find (of_batch other) (change_first g (of_batch batch) lots)))
        ≡ option_and_then (part_at me) (cond t (Some p) (find (of_batch other) lots))
    further true is = refl
    further false is = is

    by_test : (((q : Part) → find (of_batch batch) lots ≡ Some q → part_at me (g q) ≡ part_at me q)
        → option_and_then (part_at me) (find (of_batch other) (change_first g (of_batch batch) lots))
        ≡ option_and_then (part_at me) (find (of_batch other) lots))
        → (t : Bool) → of_batch batch p ≡ t
        → option_and_then (part_at me) (find (of_batch other) (cond t (g p ∷ lots) (p ∷ change_first g (of_batch batch) lots)))
        ≡ option_and_then (part_at me) (find (of_batch other) (p ∷ lots))
    by_test rest true is =
        rw (ap (λ (x : BatchId). same_batch x other) (same p)) (by_other (keeps p (rw is refl)) (of_batch other p))
    by_test rest false is = further (of_batch other p) (rest (λ q found. keeps q (rw is found)))

-- the part of the batch is changed
pub holds_changed : (lots : List Part) (me : Server) (store now : Store) (batch : BatchId) (g : Part → Part) (p : Part)
    → ((p : Part) → (g p).batch ≡ p.batch) → find (of_batch batch) lots ≡ Some p → HoldsParts lots me store
    → part_in now batch ≡ part_at me (g p)
    → ((other : BatchId) → same_batch other batch ≡ false → part_in now other ≡ part_in store other)
    → HoldsParts (change_first g (of_batch batch) lots) me now
holds_changed lots me store now batch g p same found holds here others other = by_test (same_batch other batch) refl
  where
    keeps_id : (x : BatchId) (q : Part) → of_batch x (g q) ≡ of_batch x q
    keeps_id x q = ap (λ (y : BatchId). same_batch y x) (same q)

    there : part_in now batch ≡ option_and_then (part_at me) (find (of_batch batch) (change_first g (of_batch batch) lots))
    there = rw (find_changed g (of_batch batch) (keeps_id batch) lots p found) here

    by_test : (t : Bool) → same_batch other batch ≡ t
        → part_in now other ≡ option_and_then (part_at me) (find (of_batch other) (change_first g (of_batch batch) lots))
    by_test true is =
        subst (λ x. part_in now x ≡ option_and_then (part_at me) (find (of_batch x) (change_first g (of_batch batch) lots)))
        (sym (same_batch_is other batch is)) there
    by_test false is =
        rw (find_other g (of_batch batch) (of_batch other) (keeps_id other) (λ q of. batches_apart batch other q.batch is of) lots)
        (others other is ∙ holds other)

or_none : {X : Type 0} (o : Option X) → option_or o None ≡ o
or_none None = refl
or_none (Some x) = refl

-- one part more
pub holds_more : (lots : List Part) (me : Server) (store now : Store) (p : Part) → find (of_batch p.batch) lots ≡ None
    → HoldsParts lots me store → part_in now p.batch ≡ part_at me p
    → ((other : BatchId) → same_batch other p.batch ≡ false → part_in now other ≡ part_in store other)
    → HoldsParts (lots ++ p ∷ []) me now
holds_more lots me store now p new holds here others other =
    rw (find-append (of_batch other) lots (p ∷ [])) (by_test (same_batch other p.batch) refl)
  where
    by_test : (t : Bool) → same_batch other p.batch ≡ t
        → part_in now other ≡ option_and_then (part_at me) (option_or (find (of_batch other) lots) (cond (of_batch other p) (Some p) None))
    by_test true is =
        subst (λ x. part_in now x ≡ option_and_then (part_at me) (option_or (find (of_batch x) lots) (cond (of_batch x p) (Some p) None)))
        (sym (same_batch_is other p.batch is)) (rw (new, same_batch_from p.batch p.batch refl) here)
    by_test false is =
        rw (of_other) (others other is ∙ holds other ∙ ap (option_and_then (part_at me)) (sym (or_none (find (of_batch other) lots))))
      where
        of_other : of_batch other p ≡ false
        of_other = false_from_ne_true (of_batch other p)
            (λ same. let e = same_batch_is p.batch other same in let f = same_batch_from other p.batch (sym e) in absurd (cc))

-- one unit more shares a part, which is is_open
pub shared_agrees : (b : Bag) (s : ServerModel) (common : Option CommonRef) → IsOpen b common → ServerAgrees b s
    → ServerAgrees (shared common b) s
shared_agrees b s None is_open m = m
shared_agrees b s (Some c) is_open m =
    parts_agree b s (change_first g (of_batch c.batch) b.parts) s.kept.parts s.kept.queue.common m
    (λ other. m.parts other ∙ sym (seen_kept s.me c.batch other g (λ p. refl) b.parts (λ p found. rw (is_open p found) refl)))
    (sum_kept (part_charge s.me) g (of_batch c.batch) (λ p. refl) b.parts ∙ m.common)
  where
    g : Part → Part
    g p = record p { accepted = p.accepted + 1 }

-- the promises of both
abbrev pub with_rooms : List Promise → ServerModel → ServerModel
with_rooms promises s = record s { kept = record s.kept { queue = record s.kept.queue { promises = promises } } }

-- bag and server agree where both have other promises
pub rooms_agree : (b : Bag) (s : ServerModel) (rooms : List Room) (promises : List Promise) → ServerAgrees b s
    → AreRooms rooms s.me promises → sum_by (promise_charge s.me) rooms ≡ sum_by promised promises → HasDistinctPromises promises
    → ServerAgrees (record b { promises = rooms }) (with_rooms promises s)
rooms_agree b s rooms promises m are sum single = record {
  servers = m.servers;
  within = m.within;
  limit = m.limit;
  units = m.units;
  promises = are;
  room = sum;
  single = single;
  parts = m.parts;
  common = m.common;
  done = m.done;
  exhausted = m.exhausted;
  found = m.found;
}

-- where those of the server stay
pub promises_agree : (b : Bag) (s : ServerModel) (rooms : List Room) → ServerAgrees b s → AreRooms rooms s.me s.kept.queue.promises
    → sum_by (promise_charge s.me) rooms ≡ sum_by (promise_charge s.me) b.promises → ServerAgrees (record b { promises = rooms }) s
promises_agree b s rooms m are same = rooms_agree b s rooms s.kept.queue.promises m are (same ∙ m.room) m.single

-- what is known: whether the problem was called done, and whether all work was found used up
abbrev pub with_knowledge : Bool → Bool → ServerModel → ServerModel
with_knowledge is_done is_exhausted s = record s { kept = record s.kept { done = is_done; exhausted = is_exhausted } }

-- bag and server agree where the server knows of an end that the bag has
pub known_agrees : (b : Bag) (s : ServerModel) (is_done is_exhausted hears knows : Bool) → ServerAgrees b s
    → (hears ≡ true → is_done ≡ true) → (knows ≡ true → is_exhausted ≡ true) → (s.me.0 ≡ 0 → is_exhausted ≡ true → knows ≡ true)
    → ServerAgrees (record b { done = is_done; exhausted = is_exhausted }) (with_knowledge hears knows s)
known_agrees b s is_done is_exhausted hears knows m done exhausted found = record {
  servers = m.servers;
  within = m.within;
  limit = m.limit;
  units = m.units;
  promises = m.promises;
  room = m.room;
  single = m.single;
  parts = m.parts;
  common = m.common;
  done = done;
  exhausted = exhausted;
  found = found;
}

-- At the start of a run.

-- the bag at the start agrees with each server
pub start_agrees : StartAgrees
start_agrees config me within = record {
  servers = refl;
  within = within;
  limit = refl;
  units = record { each = λ id. refl; distinct = λ i j d below inside. absurd (omega arith); weighs = λ f. refl };
  promises = λ id. refl;
  room = refl;
  single = λ i j d below inside. absurd (omega arith);
  parts = λ batch. refl;
  common = refl;
  done = λ is. absurd (cc);
  exhausted = λ is. absurd (cc);
  found = λ here is. absurd (cc);
}
