-- A unit of the queue among the others, with its stamp.
use Rattle.std.proofs.Common.{◌≡◌, ◌≢◌, ◌<◌, ◌≤◌, ◌+◌, ℕ, suc, List, ◌∷◌, ◌++◌, take, drop, get_or, length, Option, Some, None, Contains}
use Rattle.std.proofs.Common.{refl, sym, ap, ◌∙◌, All, IfSome, IsSome, arith, add-one}
use Rattle.std.specs.List.{remove}
use Rattle.std.specs.List.Sorted.{IsPermutation}
use Rattle.std.proofs.lemmas.List.{drop_more, get_or_default, length-take-le, take-append-drop}
use Rattle.std.proofs.lemmas.List.Elements.{All-append, All-drop, All-take}
use Rattle.std.proofs.lemmas.List.Quantifiers.{all_pairs_remove}
use Rattle.std.specs.Prelude.{if◌then◌else◌}
use Rattle.adlb_unit.specs.Ids.{same_unit}
use Rattle.adlb_unit.specs.declared.names.Rank.{Rank}
use Rattle.adlb_unit.specs.declared.names.UnitId.{UnitId}
use Rattle.slab.specs.Slab.{get}
use Rattle.work_queue.proofs.Found.{IsFound, only_found}
use Rattle.work_queue.proofs.Indexed.{entry_there, indexed_taken, others, others_held, others_pinned}
use Rattle.work_queue.proofs.Names.{named_taken}
use Rattle.work_queue.proofs.Units.{Parts, length-units, parts_at, units_parted}
use Rattle.work_queue.specs.inside.{IsSound}
use Rattle.work_queue.specs.Queue.{HasFree, id_of}
use Rattle.work_queue.specs.inside.Index.{IsInOrder, IsIndexed, entry_of}
use Rattle.work_queue.specs.inside.Names.{IsNamed, spare_in, stamp_at}
use Rattle.work_queue.specs.inside.Units.{units_at}
use Rattle.work_queue.specs.declared.naming.Names.{Names}
use Rattle.work_queue.specs.declared.entries.Entry.{Entry}
use Rattle.work_queue.specs.declared.indexing.Index.{Index}
use Rattle.work_queue.specs.declared.placing.Placed.{Placed}
use Rattle.work_queue.specs.declared.queues.WorkQueue.TheInside.{Inside}

-- stamps split at a place
pub stamps_cut : (stamps : List ℕ) (place : ℕ) → place < length stamps
    → stamps ≡ take place stamps ++ get_or stamps place 0 ∷ drop (suc place) stamps
stamps_cut stamps place within = sym (take-append-drop place stamps) ∙ ap (λ x. take place stamps ++ x) (drop_more stamps place 0 within)
    ∙ ap (λ n. take place stamps ++ get_or stamps place 0 ∷ drop n stamps) (add-one place)

module _ (w : Inside) (place key : ℕ) (p : Placed) (id : UnitId) (sound : IsSound w) (at : IsFound w place key p id) where
  -- the keys before the unit's
  abbrev pub front : List ℕ
  front = take place w.order.items

  -- the keys after the unit's
  abbrev pub back : List ℕ
  back = drop (suc place) w.order.items

  -- the unit, and the keys on either side of it
  pub parts_of : Parts w.slots w.order.items key p front back
  parts_of = parts_at w.slots w.order.items place key p sound.distinct at.within at.key_is at.found

  -- the unit has a stamp
  pub stamp_within : place < length w.index.stamps.items
  stamp_within = omega (arith, at.within, sound.indexed.long, length-units w.slots w.order.items sound.there)

  -- the index is that of the units on either side and of the unit
  pub indexed_parted : IsIndexed (units_at w.slots front ++ p ∷ units_at w.slots back) w.arrivals w.index
  indexed_parted = rw (units_parted w.slots w.order.items key p front back parts_of) at sound.indexed

  -- the stamps are those on either side and the unit's
  pub stamps_parted : w.index.stamps.items ≡ take place w.index.stamps.items ++ get_or w.index.stamps.items place 0
      ∷ drop (suc place) w.index.stamps.items
  stamps_parted = stamps_cut w.index.stamps.items place stamp_within

  -- there are as many stamps before the unit as units
  pub as_long : length (take place w.index.stamps.items) ≡ length (units_at w.slots front)
  as_long =
      let P : ℕ → Type 0 = λ k. IsSome (get w.slots k) in
      let a = length-take-le place w.index.stamps.items (omega (arith, stamp_within)) in
      let b = length-take-le place w.order.items (omega (arith, at.within)) in
      let c = length-units w.slots front (All-take P place w.order.items sound.there) in
      omega (arith, a, b, c)

  -- a free unit has its entry in the index
  pub entry_found : p.pin ≡ None → Contains w.index.entries.items (entry_of p (get_or w.index.stamps.items place 0))
  entry_found free =
      entry_there (units_at w.slots front) (units_at w.slots back) p _ _ _ w.arrivals w.index indexed_parted stamps_parted as_long free

  named_parted : IsNamed (units_at w.slots front ++ p ∷ units_at w.slots back)
      (take place w.index.stamps.items ++ get_or w.index.stamps.items place 0 ∷ drop (suc place) w.index.stamps.items) w.names
  named_parted = rw (units_parted w.slots w.order.items key p front back parts_of, stamps_parted) at sound.named

  -- the names without the unit's are those of the others
  pub named_after_take : (new : Names) → ((q : UnitId) → stamp_at new q ≡ (if same_unit (id_of p) q then None else stamp_at w.names q))
      → IsNamed (units_at w.slots front ++ units_at w.slots back) (remove w.index.stamps.items place) new
  named_after_take new less =
      named_taken (units_at w.slots front) (units_at w.slots back) p _ _ _ w.names new named_parted as_long parts_of.distinct less

-- the index no longer has the entry of the unit at the place, and has as much room
pub record LeavesIndex (w : Inside) (place : ℕ) (p : Placed) (index : Index) : Type 0 where
  pub left : IsPermutation w.index.entries.items (entry_of p (get_or w.index.stamps.items place 0) ∷ index.entries.items)
  pub gone : All (λ x. x ≢ entry_of p (get_or w.index.stamps.items place 0)) index.entries.items
  pub in_order : IsInOrder index.entries.items
  pub stamps : index.stamps ≡ w.index.stamps
  pub fewer : length index.entries.items + 1 ≡ length w.index.entries.items
  pub same : index.entries.capacity ≡ w.index.entries.capacity

-- the index has neither the unit's entry, if that was free, nor its stamp
pub record ForgetsUnit (w : Inside) (place : ℕ) (p : Placed) (index : Index) : Type 0 where
  pub kept : (rank : Rank) → p.pin ≡ Some rank → index.entries.items ≡ w.index.entries.items
  pub left : p.pin ≡ None → IsPermutation w.index.entries.items (entry_of p (get_or w.index.stamps.items place 0) ∷ index.entries.items)
  pub gone : p.pin ≡ None → All (λ x. x ≢ entry_of p (get_or w.index.stamps.items place 0)) index.entries.items
  pub in_order : IsInOrder index.entries.items
  pub stamps : index.stamps.items ≡ remove w.index.stamps.items place
  pub fewer : length index.entries.items ≤ length w.index.entries.items
  pub same : index.entries.capacity ≡ w.index.entries.capacity
  pub stamps_fewer : length index.stamps.items + 1 ≡ length w.index.stamps.items
  pub stamps_same : index.stamps.capacity ≡ w.index.stamps.capacity

-- nothing is kept of the id any more, and there is as much room
pub record LosesName (w : Inside) (id : UnitId) (names : Names) : Type 0 where
  pub less : (q : UnitId) → stamp_at names q ≡ (if same_unit id q then None else stamp_at w.names q)
  pub room : spare_in w.names ≤ spare_in names

module _ (w : Inside) (place key : ℕ) (p : Placed) (id : UnitId) (sound : IsSound w) (at : IsFound w place key p id) (index : Index)
    (forgets : ForgetsUnit w place p index) where
  abbrev before : List Placed
  before = units_at w.slots (front w place key p id sound at)

  abbrev after : List Placed
  after = units_at w.slots (back w place key p id sound at)

  abbrev rest : List Entry
  rest = others before after p (take place w.index.stamps.items) (drop (suc place) w.index.stamps.items)
      (get_or w.index.stamps.items place 0) w.arrivals w.index (indexed_parted w place key p id sound at)
      (stamps_parted w place key p id sound at) (as_long w place key p id sound at)

  rest_held : (o : Option Rank) → p.pin ≡ o → IsPermutation rest index.entries.items
  rest_held None free = others_held before after p _ _ _ w.arrivals w.index (indexed_parted w place key p id sound at)
      (stamps_parted w place key p id sound at) (as_long w place key p id sound at) index.entries.items free forgets.in_order
      (forgets.gone free) (forgets.left free)
  rest_held (Some rank) pinned =
      rw (forgets.kept rank pinned)
      (others_pinned before after p _ _ _ w.arrivals w.index (indexed_parted w place key p id sound at)
      (stamps_parted w place key p id sound at) (as_long w place key p id sound at) rank pinned)

  -- the index without the unit's entry is that of the others
  pub indexed_after_take : IsIndexed (before ++ after) w.arrivals index
  indexed_after_take =
      let within = stamp_within w place key p id sound at in
      let B : ℕ → Type 0 = λ s. s < w.arrivals in
      indexed_taken before after p _ _ _ w.arrivals w.index (indexed_parted w place key p id sound at)
      (stamps_parted w place key p id sound at) (as_long w place key p id sound at) index (rest_held p.pin refl) forgets.in_order
      forgets.stamps
      (all_pairs_remove (λ a b. a < b) w.index.stamps.items place within sound.indexed.rising)
      (All-append B (take place w.index.stamps.items) (drop (suc place) w.index.stamps.items)
      (All-take B place w.index.stamps.items sound.indexed.below) (All-drop B (suc place) w.index.stamps.items sound.indexed.below))

module _ (w : Inside) (place key : ℕ) (p : Placed) (id : UnitId) (sound : IsSound w) (at : IsFound w place key p id) where
  -- where some free unit has the id, it is this one
  pub free_found : HasFree id (units_at w.slots w.order.items) → p.pin ≡ None
  free_found has =
      let same = only_found w place key p id sound at has.0 has.1 has.2 (ap id_of has.3 ∙ has.4.0) in
      ap (λ (q : Placed). q.pin) (sym same ∙ has.3) ∙ has.4.1

  -- the stamp that is read is the unit's
  pub stamp_is : (stamp : ℕ) → stamp ≡ get_or w.index.stamps.items place stamp → stamp ≡ get_or w.index.stamps.items place 0
  stamp_is stamp read = read ∙ get_or_default w.index.stamps.items place stamp 0 (stamp_within w place key p id sound at)

  -- the entry made of the stamp that is read is the unit's
  pub entry_is : (stamp : ℕ) (e : Entry) → e ≡ entry_of p stamp → stamp ≡ get_or w.index.stamps.items place stamp
      → e ≡ entry_of p (get_or w.index.stamps.items place 0)
  entry_is stamp e is read = is ∙ ap (λ s. entry_of p s) (stamp_is stamp read)

  -- the unit's entry is in the index if the unit is free
  pub entry_listed : (e : Entry) → e ≡ entry_of p (get_or w.index.stamps.items place 0) → p.pin ≡ None → Contains w.index.entries.items e
  entry_listed e is free = rw is (entry_found w place key p id sound at free)

  -- the entry of the unit, if that is free
  pub record TellsEntry (entry : Option Entry) : Type 0 where
    pub some : p.pin ≡ None → entry ≡ Some (entry_of p (get_or w.index.stamps.items place 0))
    pub none : (rank : Rank) → p.pin ≡ Some rank → entry ≡ None

  -- an entry that is there if the unit is free says so of it
  pub tells_entry : (stamp : ℕ) (entry : Option Entry) → stamp ≡ get_or w.index.stamps.items place stamp
      → (p.pin ≡ None → entry ≡ Some (entry_of p stamp)) → ((rank : Rank) → p.pin ≡ Some rank → entry ≡ None) → TellsEntry entry
  tells_entry stamp entry read some none =
      record { some = λ free. some free ∙ ap (λ s. Some (entry_of p s)) (stamp_is stamp read); none = none }

  -- an entry that is there is in the index
  pub entry_if_free : (entry : Option Entry) → TellsEntry entry → IfSome entry (λ e. Contains w.index.entries.items e)
  entry_if_free entry tells = by_pin p.pin refl
    where
      by_pin : (o : Option Rank) → p.pin ≡ o → IfSome entry (λ e. Contains w.index.entries.items e)
      by_pin None free = rw (tells.some free) (entry_found w place key p id sound at free)
      by_pin (Some rank) pinned = rw (tells.none rank pinned) tt
