-- Slots: what is found in them, and what an emptied slot and a new one change.
use Rattle.std.proofs.Common.{◌≡◌, ◌∙◌, sym, ◌==◌, ◌&&◌, not, ℕ, zero, suc, ◌+◌, ◌<◌, ◌≤◌, ◌^◌, Bool, true, false, cond, List, [], ◌∷◌}
use Rattle.std.proofs.Common.{◌++◌, length, slice_index_or, find, filter, Option, Some, None, refl, ap, arith, count_by, sum_by}
use Rattle.std.specs.Prelude.{if◌then◌else◌, position, option_map, is_none}
use Rattle.std.specs.List.{list_all}
use Rattle.std.specs.Option.{option_or}
use Rattle.std.proofs.lemmas.List.Sums.{sum_by_push, sum_by-cons}
use Rattle.std.proofs.Math.Dec.{eqb-suc-zero}
use Rattle.adlb_unit.specs.Ids.{same_unit}
use Rattle.adlb_unit.specs.declared.names.Server.{Server}
use Rattle.adlb_unit.specs.declared.names.UnitId.{UnitId}
use Rattle.adlb_unit.proofs.Same.{same_unit_is}
use Rattle.bag_ledger.specs.declared.states.Promise.{Promise}
use Rattle.bag_ledger.specs.Bag.{promise_charge}
use Rattle.bag_ledger.specs.Steps.{change_at}
use Rattle.bag_ledger.proofs.Tests.{some_is}
use Rattle.bag_tables.specs.declared.places.Places.{Places}
use Rattle.bag_tables.specs.declared.charges.Charges.{Charges}
use Rattle.bag_tables.specs.Places.{place_at}
use Rattle.bag_tables.specs.Charges.{IsSummed, charged_at, bytes_at}
use Rattle.bag_tables.specs.Standing.{PromisesAreKept, standing, is_promised, slot_weight, slot_size}
use Rattle.bag_tables.proofs.Finding.{position_here, position_later}
use Rattle.bag_tables.proofs.Placing.{position_push}
use Rattle.bag_tables.proofs.Summing.{summed_push, summed_change, summed_holds, summed_fits, bytes_low}

-- the promise is of the unit
abbrev of_unit : UnitId → Promise → Bool
of_unit id p = same_unit p.id id

abbrev emptied : Option Promise → Option Promise
emptied slot = None

counts_not : (b : Bool) → b ≡ false → cond {A = ℕ} b 1 0 ≡ 0
counts_not b is = rw is refl

counts_one : (b : Bool) → b ≡ true → cond {A = ℕ} b 1 0 ≡ 1
counts_one b is = rw is refl

count_first : (test : Promise → Bool) (p : Promise) (ps : List Promise)
    → count_by test (p ∷ ps) ≡ cond {A = ℕ} (test p) 1 0 + count_by test ps
count_first test p ps = sum_by-cons (λ q. cond (test q) 1 0) p ps

-- where none passes
none_filtered : (test : Promise → Bool) (ps : List Promise) → count_by test ps ≡ 0 → filter (λ p. not (test p)) ps ≡ ps
none_filtered test [] none = refl
none_filtered test (p ∷ ps) none = by_test (none_filtered test ps) (test p) refl
  where
    by_test : (count_by test ps ≡ 0 → filter (λ p. not (test p)) ps ≡ ps) → (b : Bool) → test p ≡ b
        → filter (λ p. not (test p)) (p ∷ ps) ≡ p ∷ ps
    by_test rest true is = absurd (omega (arith, none, count_first test p ps, counts_one (test p) is))
    by_test rest false is = rw is (ap (λ l. p ∷ l) (rest (omega (arith, none, count_first test p ps))))

none_placed : (id : UnitId) (slots : List (Option Promise)) → count_by (of_unit id) (standing slots) ≡ 0
    → position (is_promised id) slots ≡ None
none_placed id [] none = refl
none_placed id (None ∷ slots) none = position_later (is_promised id) None slots refl ∙ rw (none_placed id slots none) refl
none_placed id (Some p ∷ slots) none = by_test (none_placed id slots) (same_unit p.id id) refl
  where
    by_test : (count_by (of_unit id) (standing slots) ≡ 0 → position (is_promised id) slots ≡ None) → (b : Bool) → same_unit p.id id ≡ b
        → position (is_promised id) (Some p ∷ slots) ≡ None
    by_test rest true is = absurd (omega (arith, none, count_first (of_unit id) p (standing slots), counts_one (same_unit p.id id) is))
    by_test rest false is = position_later (is_promised id) (Some p) slots is
        ∙ rw (rest (omega (arith, none, count_first (of_unit id) p (standing slots)))) refl

none_counted : (test : Promise → Bool) (ps : List Promise) → find test ps ≡ None → count_by test ps ≡ 0
none_counted test [] none = refl
none_counted test (p ∷ ps) none = by_test (none_counted test ps) (test p) refl
  where
    by_test : (find test ps ≡ None → count_by test ps ≡ 0) → (b : Bool) → test p ≡ b → count_by test (p ∷ ps) ≡ 0
    by_test rest true is = let found : Some p ≡ None = rw is at none in absurd (cc)
    by_test rest false is = let later : find test ps ≡ None = rw is at none in
        omega (arith, rest later, count_first test p ps, counts_not (test p) is)

-- the promise of the unit is in this slot, and what it is to empty it
pub record IsSlot (id : UnitId) (slots : List (Option Promise)) (at : ℕ) : Type 0 where
  pub inside : at < length slots
  pub here : (d : Option Promise) → slice_index_or slots at d ≡ find (of_unit id) (standing slots)
  pub gone : count_by (of_unit id) (standing slots) ≤ 1
      → standing (change_at emptied at slots) ≡ filter (λ p. not (of_unit id p)) (standing slots)
  pub away : count_by (of_unit id) (standing slots) ≤ 1 → position (is_promised id) (change_at emptied at slots) ≡ None
  pub others : (other : UnitId) → same_unit id other ≡ false → position (is_promised other) (change_at emptied at slots)
      ≡ position (is_promised other) slots

behind_none : (id : UnitId) (slots : List (Option Promise)) (n : ℕ) → IsSlot id slots n → IsSlot id (None ∷ slots) (suc n)
behind_none id slots n r = record {
  inside = let inside = r.inside in omega arith;
  here = λ d. r.here d;
  gone = λ few. r.gone few;
  away = λ few. position_later (is_promised id) None (change_at emptied n slots) refl ∙ rw (r.away few) refl;
  others =
      λ other apart. position_later (is_promised other) None (change_at emptied n slots) refl
      ∙ rw (r.others other apart) (sym (position_later (is_promised other) None slots refl));
}

behind_other : (id : UnitId) (p : Promise) (slots : List (Option Promise)) (n : ℕ) → same_unit p.id id ≡ false → IsSlot id slots n
    → IsSlot id (Some p ∷ slots) (suc n)
behind_other id p slots n is r = record {
  inside = let inside = r.inside in omega arith;
  here = λ d. rw is (r.here d);
  gone = λ few. rw is (ap (λ l. p ∷ l) (r.gone (omega (arith, few, count_first (of_unit id) p (standing slots)))));
  away = λ few. position_later (is_promised id) (Some p) (change_at emptied n slots) is
      ∙ rw (r.away (omega (arith, few, count_first (of_unit id) p (standing slots)))) refl;
  others = λ other apart. by_test other (r.others other apart) (same_unit p.id other) refl;
}
  where
    by_test : (other : UnitId) → position (is_promised other) (change_at emptied n slots) ≡ position (is_promised other) slots → (b : Bool)
        → same_unit p.id other ≡ b → position (is_promised other) (Some p ∷ change_at emptied n slots)
        ≡ position (is_promised other) (Some p ∷ slots)
    by_test other rest true there = position_here (is_promised other) (Some p) (change_at emptied n slots) there
        ∙ sym (position_here (is_promised other) (Some p) slots there)
    by_test other rest false there = position_later (is_promised other) (Some p) (change_at emptied n slots) there
        ∙ rw rest (sym (position_later (is_promised other) (Some p) slots there))

in_front : (id : UnitId) (p : Promise) (slots : List (Option Promise)) → same_unit p.id id ≡ true → IsSlot id (Some p ∷ slots) 0
in_front id p slots is = record {
  inside = omega arith;
  here = λ d. rw is refl;
  gone = λ few. rw is (sym (none_filtered (of_unit id) (standing slots) (rest few)));
  away = λ few. position_later (is_promised id) None slots refl ∙ rw (none_placed id slots (rest few)) refl;
  others = λ other apart.
      let same : p.id ≡ id = same_unit_is p.id id is in
      let fails : same_unit p.id other ≡ false = rw same apart in
      position_later (is_promised other) None slots refl ∙ sym (position_later (is_promised other) (Some p) slots fails);
}
  where
    rest : count_by (of_unit id) (p ∷ standing slots) ≤ 1 → count_by (of_unit id) (standing slots) ≡ 0
    rest few = omega (arith, few, count_first (of_unit id) p (standing slots), counts_one (same_unit p.id id) is)

-- the slot at which a search stops has the promise
pub slot_found : (id : UnitId) (slots : List (Option Promise)) (at : ℕ) → position (is_promised id) slots ≡ Some at → IsSlot id slots at
slot_found id [] at e = absurd (cc)
slot_found id (None ∷ slots) at e =
    further (slot_found id slots) (position (is_promised id) slots) refl (sym (position_later (is_promised id) None slots refl) ∙ e)
  where
    further : ((n : ℕ) → position (is_promised id) slots ≡ Some n → IsSlot id slots n) → (o : Option ℕ)
        → position (is_promised id) slots ≡ o → option_map (λ n. n + 1) o ≡ Some at → IsSlot id (None ∷ slots) at
    further rest None is e = absurd (cc)
    further rest (Some n) is e =
        let same : suc n ≡ at = let s : n + 1 ≡ at = some_is e in omega arith in
        rw (← same) (behind_none id slots n (rest n is))
slot_found id (Some p ∷ slots) at e = by_test (slot_found id slots) (same_unit p.id id) refl
  where
    further : ((n : ℕ) → position (is_promised id) slots ≡ Some n → IsSlot id slots n) → same_unit p.id id ≡ false → (o : Option ℕ)
        → position (is_promised id) slots ≡ o → option_map (λ n. n + 1) o ≡ Some at → IsSlot id (Some p ∷ slots) at
    further rest fails None is e = absurd (cc)
    further rest fails (Some n) is e =
        let same : suc n ≡ at = let s : n + 1 ≡ at = some_is e in omega arith in
        rw (← same) (behind_other id p slots n fails (rest n is))

    by_test : ((n : ℕ) → position (is_promised id) slots ≡ Some n → IsSlot id slots n) → (b : Bool) → same_unit p.id id ≡ b
        → IsSlot id (Some p ∷ slots) at
    by_test rest true is =
        let same : 0 ≡ at = some_is (sym (position_here (is_promised id) (Some p) slots is) ∙ e) in
        rw (← same) (in_front id p slots is)
    by_test rest false is =
        further rest is (position (is_promised id) slots) refl (sym (position_later (is_promised id) (Some p) slots is) ∙ e)

-- where no slot has the unit's promise
pub slot_absent : (id : UnitId) (slots : List (Option Promise)) → position (is_promised id) slots ≡ None
    → find (of_unit id) (standing slots) ≡ None
slot_absent id [] e = refl
slot_absent id (None ∷ slots) e =
    further (slot_absent id slots) (position (is_promised id) slots) refl (sym (position_later (is_promised id) None slots refl) ∙ e)
  where
    further : (position (is_promised id) slots ≡ None → find (of_unit id) (standing slots) ≡ None) → (o : Option ℕ)
        → position (is_promised id) slots ≡ o → option_map (λ n. n + 1) o ≡ None → find (of_unit id) (standing slots) ≡ None
    further rest None is e = rest is
    further rest (Some n) is e = absurd (cc)
slot_absent id (Some p ∷ slots) e = by_test (slot_absent id slots) (same_unit p.id id) refl
  where
    further : (position (is_promised id) slots ≡ None → find (of_unit id) (standing slots) ≡ None) → same_unit p.id id ≡ false
        → (o : Option ℕ) → position (is_promised id) slots ≡ o → option_map (λ n. n + 1) o ≡ None
        → find (of_unit id) (p ∷ standing slots) ≡ None
    further rest fails None is e = rw fails (rest is)
    further rest fails (Some n) is e = absurd (cc)

    by_test : (position (is_promised id) slots ≡ None → find (of_unit id) (standing slots) ≡ None) → (b : Bool) → same_unit p.id id ≡ b
        → find (of_unit id) (p ∷ standing slots) ≡ None
    by_test rest true is = let some : None ≡ Some zero = sym e ∙ position_here (is_promised id) (Some p) slots is in absurd (cc some)
    by_test rest false is =
        further rest is (position (is_promised id) slots) refl (sym (position_later (is_promised id) (Some p) slots is) ∙ e)

-- removing a promise that is not there changes nothing
pub absent_stays : (id : UnitId) (slots : List (Option Promise)) → find (of_unit id) (standing slots) ≡ None
    → filter (λ p. not (of_unit id p)) (standing slots) ≡ standing slots
absent_stays id slots none = none_filtered (of_unit id) (standing slots) (none_counted (of_unit id) (standing slots) none)

-- a slot that is pushed adds its promise
pub standing_push : (slots : List (Option Promise)) (p : Promise) → standing (slots ++ Some p ∷ []) ≡ standing slots ++ p ∷ []
standing_push [] p = refl
standing_push (None ∷ slots) p = standing_push slots p
standing_push (Some q ∷ slots) p = ap (λ l. q ∷ l) (standing_push slots p)

-- a server's charge over slots is its charge over promises
pub sum_standing : (server : Server) (slots : List (Option Promise))
    → sum_by (slot_weight server.0) slots ≡ sum_by (promise_charge server) (standing slots)
sum_standing server [] = refl
sum_standing server (None ∷ slots) = omega (arith, sum_by-cons (slot_weight server.0) None slots, sum_standing server slots)
sum_standing server (Some p ∷ slots) =
    omega (
      arith,
      sum_by-cons (slot_weight server.0) (Some p) slots,
      sum_by-cons (promise_charge server) p (standing slots),
      sum_standing server slots,
    )

-- all slots are empty exactly if there is no promise
pub all_empty : (slots : List (Option Promise)) → list_all (λ slot. is_none slot) slots ≡ (length (standing slots) == 0)
all_empty [] = refl
all_empty (None ∷ slots) = all_empty slots
all_empty (Some p ∷ slots) = sym (eqb-suc-zero (length (standing slots)))

-- Promises that are kept stay so.

-- promises are kept over places that find the same
pub promises_same : (places again : Places) (charges : Charges) (slots : List (Option Promise)) → PromisesAreKept places charges slots
    → ((r n : ℕ) → place_at again r n ≡ place_at places r n) → PromisesAreKept again charges slots
promises_same places again charges slots kept same_place =
    record { placed = λ id. same_place id.rank.0 id.number ∙ kept.placed id; alone = kept.alone; charged = kept.charged }

-- promises are kept with one promise more
pub promises_added : (places noted : Places) (charges raised : Charges) (slots : List (Option Promise)) (promise : Promise) (at : ℕ)
    → PromisesAreKept places charges slots → find (of_unit promise.id) (standing slots) ≡ None → at ≡ length slots → promise.length < 2 ^ 64
    → ((r m : ℕ) → place_at noted r m ≡ option_or (place_at places r m)
    (if (promise.id.rank.0 == r) && (promise.id.number == m) then Some at else None))
    → ((k : ℕ) → k < 8 → charged_at raised k + bytes_at None k promise.length
    ≡ charged_at charges k + bytes_at (Some promise.server) k promise.length) → PromisesAreKept noted raised (slots ++ Some promise ∷ [])
promises_added places noted charges raised slots promise at kept none last short notes raises = record {
  placed = λ id. notes id.rank.0 id.number ∙ rw (kept.placed id, last) (sym (position_push (is_promised id) slots (Some promise)));
  alone = λ id. rw (standing_push slots promise) (by_test id (same_unit promise.id id) refl);
  charged = summed_push slot_weight slot_size charges raised slots (Some promise) kept.charged short
      (λ k within. let e = raises k within in omega (arith, e));
}
  where
    by_test : (id : UnitId) → (b : Bool) → same_unit promise.id id ≡ b → count_by (of_unit id) (standing slots ++ promise ∷ []) ≤ 1
    by_test id true is =
        let same : promise.id ≡ id = same_unit_is promise.id id is in
        let empty : count_by (of_unit id) (standing slots) ≡ 0 = none_counted (of_unit id) (standing slots) (rw (← same) none) in
        omega (arith, empty, counts_one (same_unit promise.id id) is, sum_by_push (λ p. cond (of_unit id p) 1 0) (standing slots) promise)
    by_test id false is =
        omega (
          arith,
          kept.alone id,
          counts_not (same_unit promise.id id) is,
          sum_by_push (λ p. cond (of_unit id p) 1 0) (standing slots) promise,
        )

fewer : (test keep : Promise → Bool) (ps : List Promise) → count_by test (filter keep ps) ≤ count_by test ps
fewer test keep [] = omega arith
fewer test keep (p ∷ ps) = by_test (fewer test keep ps) (keep p) refl
  where
    by_test : count_by test (filter keep ps) ≤ count_by test ps → (b : Bool) → keep p ≡ b
        → count_by test (filter keep (p ∷ ps)) ≤ count_by test (p ∷ ps)
    by_test rest true is = rw is (omega (arith, rest, count_first test p (filter keep ps), count_first test p ps))
    by_test rest false is = rw is (omega (arith, rest, count_first test p ps))

-- promises are kept with one promise less
pub promises_removed : (places left : Places) (charges lowered : Charges) (slots : List (Option Promise)) (id : UnitId) (at : ℕ)
    (promise : Promise) → PromisesAreKept places charges slots → IsSlot id slots at
    → ((d : Option Promise) → slice_index_or slots at d ≡ Some promise)
    → ((r n : ℕ) → place_at left r n ≡ (if (id.rank.0 == r) && (id.number == n) then None else place_at places r n))
    → ((k : ℕ) → k < 8 → charged_at lowered k + bytes_at (Some promise.server) k promise.length
    ≡ charged_at charges k + bytes_at None k promise.length) → PromisesAreKept left lowered (change_at emptied at slots)
promises_removed places left charges lowered slots id at promise kept slot there forgets lowers = record {
  placed = λ other. by_test other (same_unit id other) refl;
  alone = λ other.
      rw (slot.gone (kept.alone id)) (omega (arith, kept.alone other, fewer (of_unit other) (λ p. not (of_unit id p)) (standing slots)));
  charged = summed_change slot_weight slot_size emptied charges lowered slots at None kept.charged slot.inside (omega arith)
      (λ k within. rw (there None) (lowers k within));
}
  where
    by_test : (other : UnitId) → (b : Bool) → same_unit id other ≡ b
        → place_at left other.rank.0 other.number ≡ position (is_promised other) (change_at emptied at slots)
    by_test other true is =
        let same : id ≡ other = same_unit_is id other is in
        forgets other.rank.0 other.number ∙ rw is (rw (← same) (sym (slot.away (kept.alone id))))
    by_test other false is = forgets other.rank.0 other.number ∙ rw is (kept.placed other ∙ sym (slot.others other is))

slot_low : (k : ℕ) (slot : Option Promise) → slot_weight k slot ≤ slot_size slot
slot_low k None = omega arith
slot_low k (Some p) = bytes_low (Some p.server) k p.length

-- a charge has room for `n` bytes more
pub charge_fits : (charges : Charges) (slots : List (Option Promise)) (n : ℕ) → IsSummed slot_weight slot_size charges slots
    → length slots < 2 ^ 64 → n < 2 ^ 64 → (k : ℕ) → k < 8 → charged_at charges k + n < 2 ^ 128
charge_fits charges slots n is few short = summed_fits slot_weight slot_size charges slots n is slot_low few short

-- the server to which a promise is charged is charged at least its bytes
pub charge_holds : (charges : Charges) (slots : List (Option Promise)) (at : ℕ) (promise : Promise)
    → IsSummed slot_weight slot_size charges slots → at < length slots → ((d : Option Promise) → slice_index_or slots at d ≡ Some promise)
    → (k : ℕ) → k < 8 → bytes_at (Some promise.server) k promise.length ≤ charged_at charges k
charge_holds charges slots at promise is inside there k within =
    rw (there None) at (summed_holds slot_weight slot_size charges slots at None is inside k within)
