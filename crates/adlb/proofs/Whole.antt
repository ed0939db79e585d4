-- What all ranks counted is what the first units are worth.
use Rattle.std.specs.Prelude.{slice_get}
use Rattle.std.proofs.Common.{◌≡◌, ◌+◌, ◌<◌, ◌≤◌, ℕ, zero, suc, Bool, true, false, cond, List, [], ◌∷◌, ◌++◌, All, Option, None, Some}
use Rattle.std.proofs.Common.{length, take, refl, sym, ap, ◌∙◌, subst, arith, count_by, sum_by}
use Rattle.std.proofs.Math.Dec.{ltb}
use Rattle.std.proofs.lemmas.Bool.{lt-ltb, ltb-false, ltb-true, ne_eqb}
use Rattle.std.proofs.lemmas.List.{take_all}
use Rattle.std.proofs.lemmas.List.Sums.{sum_by-append, sum_by-cons}
use Rattle.adlb_unit.specs.declared.configs.Config.{Config}
use Rattle.adlb_unit.specs.declared.names.Rank.{Rank}
use Rattle.bag_ledger.specs.declared.entries.Entry.{Entry}
use Rattle.bag_ledger.specs.declared.entries.Said.{Said}
use Rattle.bag_ledger.specs.Bag.{Bag, start}
use Rattle.bag_ledger.specs.Runs.{IsRun, calls}
use Rattle.balance_law.specs.Balanced.{AreOrderly, IsBalanced, IsEndedWell, over_ranks}
use Rattle.balance_law.specs.Orderly.{IsOrderly}
use Rattle.balance_law.specs.Parcels.{got, sent}
use Rattle.adlb.specs.Worked.{AllHaveWorked, begins, got_worth, parcel_worth, sent_worth}

-- Sums over ranks.

over_add : (n : ℕ) (f g : Rank → ℕ) → over_ranks n (λ r. f r + g r) ≡ over_ranks n f + over_ranks n g
over_add zero f g = refl
over_add (suc n) f g = omega (arith, over_add n f g)

over_same : (n : ℕ) (f g : Rank → ℕ) → ((r : Rank) → r.0 < n → f r ≡ g r) → over_ranks n f ≡ over_ranks n g
over_same zero f g same = refl
over_same (suc n) f g same =
    let last : Rank = record { 0 = n } in
    omega (arith, over_same n f g (λ r less. same r (omega arith)), same last (omega arith))

over_part : (n : ℕ) (f : Rank → ℕ) (r : Rank) → r.0 < n → f r ≤ over_ranks n f
over_part zero f r less = absurd (omega arith)
over_part (suc n) f r less = here (ltb r.0 n) refl (λ below. over_part n f r below)
  where
    here : (t : Bool) → ltb r.0 n ≡ t → (r.0 < n → f r ≤ over_ranks n f) → f r ≤ over_ranks n f + f (record { 0 = n })
    here true e part = omega (arith, part (ltb-true r.0 n e))
    here false e part =
        let same : r.0 ≡ n = omega (arith, ltb-false r.0 n e) in
        subst (λ k. f r ≤ over_ranks n f + f (record { 0 = k })) same (omega arith)

-- the first rank begins with all
over_begins : (n whole : ℕ) → over_ranks (suc n) (λ r. begins whole r) ≡ whole
over_begins zero whole = omega arith
over_begins (suc n) whole = omega (arith, over_begins n whole, ap (λ t. cond {A = ℕ} t whole 0) (ne_eqb (suc n) 0 (λ e. omega arith)))

over_first : (n whole : ℕ) → 0 < n → over_ranks n (λ r. begins whole r) ≡ whole
over_first zero whole some = absurd (omega arith)
over_first (suc n) whole some = over_begins n whole

-- Equal counts for every test make equal sums: a sum by its layers.

abbrev lay : ℕ → ℕ → ℕ
lay zero m = 0
lay (suc b) m = lay b m + cond (ltb b m) 1 0

lay_full : (b m : ℕ) → b ≤ m → lay b m ≡ b
lay_full zero m less = refl
lay_full (suc b) m less = omega (arith, lay_full b m (omega arith), ap (λ t. cond {A = ℕ} t 1 0) (lt-ltb b m (omega arith)))

lay_is : (b m : ℕ) → m ≤ b → lay b m ≡ m
lay_is zero m less = omega arith
lay_is (suc b) m less = here (ltb b m) refl (λ low. lay_is b m low)
  where
    here : (t : Bool) → ltb b m ≡ t → (m ≤ b → lay b m ≡ m) → lay b m + cond (ltb b m) 1 0 ≡ m
    here true e low = omega (arith, lay_full b m (omega (arith, ltb-true b m e)), ap (λ t. cond {A = ℕ} t 1 0) e, ltb-true b m e)
    here false e low = omega (arith, low (ltb-false b m e), ap (λ t. cond {A = ℕ} t 1 0) e)

abbrev layers : {X : Type 0} → (X → ℕ) → ℕ → List X → ℕ
layers f zero xs = 0
layers f (suc b) xs = layers f b xs + count_by (λ x. ltb b (f x)) xs

layers_nil : {X : Type 0} (f : X → ℕ) (b : ℕ) → layers f b [] ≡ 0
layers_nil f zero = refl
layers_nil f (suc b) = omega (arith, layers_nil f b)

layers_cons : {X : Type 0} (f : X → ℕ) (b : ℕ) (x : X) (xs : List X) → layers f b (x ∷ xs) ≡ lay b (f x) + layers f b xs
layers_cons f zero x xs = refl
layers_cons f (suc b) x xs = omega (arith, layers_cons f b x xs, sum_by-cons (λ y. cond (ltb b (f y)) 1 0) x xs)

layers_are : {X : Type 0} (f : X → ℕ) (b : ℕ) (xs : List X) → sum_by f xs ≤ b → layers f b xs ≡ sum_by f xs
layers_are f b [] less = layers_nil f b
layers_are f b (x ∷ xs) less =
    omega (
      arith,
      layers_cons f b x xs,
      sum_by-cons f x xs,
      lay_is b (f x) (omega (arith, sum_by-cons f x xs)),
      layers_are f b xs (omega (arith, sum_by-cons f x xs)),
    )

-- What all sent is worth what all got.

layers_over : {X : Type 0} (f : X → ℕ) (n : ℕ) (xs ys : Rank → List X) →
    ((test : X → Bool) → over_ranks n (λ r. count_by test (xs r)) ≡ over_ranks n (λ r. count_by test (ys r))) →
    (b : ℕ) → over_ranks n (λ r. layers f b (xs r)) ≡ over_ranks n (λ r. layers f b (ys r))
layers_over f n xs ys same zero = refl
layers_over f n xs ys same (suc b) =
    omega (
      arith,
      layers_over f n xs ys same b,
      same (λ x. ltb b (f x)),
      over_add n (λ r. layers f b (xs r)) (λ r. count_by (λ x. ltb b (f x)) (xs r)),
      over_add n (λ r. layers f b (ys r)) (λ r. count_by (λ x. ltb b (f x)) (ys r)),
    )

pub same_worth : {X : Type 0} (f : X → ℕ) (n : ℕ) (xs ys : Rank → List X) →
    ((test : X → Bool) → over_ranks n (λ r. count_by test (xs r)) ≡ over_ranks n (λ r. count_by test (ys r))) →
    over_ranks n (λ r. sum_by f (xs r)) ≡ over_ranks n (λ r. sum_by f (ys r))
same_worth f n xs ys same =
    let xsum : ℕ = over_ranks n (λ r. sum_by f (xs r)) in
    let ysum : ℕ = over_ranks n (λ r. sum_by f (ys r)) in
    let b : ℕ = xsum + ysum in
    sym (over_same n (λ r. layers f b (xs r)) (λ r. sum_by f (xs r))
    (λ r less. layers_are f b (xs r) (omega (arith, over_part n (λ q. sum_by f (xs q)) r less))))
    ∙ layers_over f n xs ys same b
    ∙ over_same n (λ r. layers f b (ys r)) (λ r. sum_by f (ys r))
    (λ r less. layers_are f b (ys r) (omega (arith, over_part n (λ q. sum_by f (ys q)) r less)))

-- The outcomes by rank.

abbrev or_none : Option ℕ → ℕ
or_none (Some n) = n
or_none None = 0

take_there : {X : Type 0} (xs : List X) (n : ℕ) (x : X) → slice_get xs n ≡ Some x → take (suc n) xs ≡ take n xs ++ x ∷ []
take_there [] n x e = absurd (cc)
take_there (y ∷ ys) zero x e = let same : y ≡ x = cc in ap (λ z. z ∷ []) same
take_there (y ∷ ys) (suc n) x e = ap (λ l. y ∷ l) (take_there ys n x e)

sum_taken : (xs : List ℕ) (n : ℕ) → ((k : ℕ) → k < n → (x : ℕ) × (slice_get xs k ≡ Some x)) →
    over_ranks n (λ r. or_none (slice_get xs r.0)) ≡ sum_by (λ x. x) (take n xs)
sum_taken xs zero each = refl
sum_taken xs (suc n) each =
    let last = each n (omega arith) in
    omega (
      arith,
      sum_taken xs n (λ k less. each k (omega arith)),
      ap (λ l. sum_by (λ (x : ℕ). x) l) (take_there xs n last.0 last.1),
      sum_by-append (λ (x : ℕ). x) (take n xs) (last.0 ∷ []),
      sum_by-cons (λ (x : ℕ). x) last.0 [],
      ap or_none last.1,
    )

-- The whole run.

pub orderly : (w : List ℕ → List ℕ → ℕ) (whole : ℕ) (config : Config) (ledger : List Entry) (outcomes : List ℕ) →
    AllHaveWorked w whole config ledger outcomes → AreOrderly config ledger
orderly w whole config ledger outcomes all rank less =
    let is = all rank less in
    subst (λ l. IsOrderly config.ranks None None l) (sym is.2.2) is.2.1.orderly

kept : (w : List ℕ → List ℕ → ℕ) (whole : ℕ) (config : Config) (ledger : List Entry) (last : Bag) (outcomes : List ℕ) →
    AllHaveWorked w whole config ledger outcomes → IsBalanced config ledger last → (rank : Rank) → rank.0 < config.ranks →
    or_none (slice_get outcomes rank.0) + sent_worth w None (calls config ledger rank)
    ≡ begins whole rank + got_worth w (calls config ledger rank)
kept w whole config ledger last outcomes all balanced rank less =
    let is = all rank less in
    subst (λ l. or_none (slice_get outcomes rank.0) + sent_worth w None l ≡ begins whole rank + got_worth w l) (sym is.2.2)
    (omega (
      arith,
      ap or_none is.1,
      is.2.1.kept (subst (λ l. All (λ (s : Said). IsEndedWell s.call s.answer) l) is.2.2 (balanced.ended rank less)),
    ))

pub whole_is : (w : List ℕ → List ℕ → ℕ) (whole : ℕ) (config : Config) (ledger : List Entry) (last : Bag) (outcomes : List ℕ) →
    0 < config.ranks → length outcomes ≡ config.ranks → AllHaveWorked w whole config ledger outcomes → IsBalanced config ledger last →
    sum_by (λ n. n) outcomes ≡ whole
whole_is w whole config ledger last outcomes some long all balanced =
    let n : ℕ = config.ranks in
    let o : Rank → ℕ = λ r. or_none (slice_get outcomes r.0) in
    let s : Rank → ℕ = λ r. sent_worth w None (calls config ledger r) in
    let b : Rank → ℕ = λ r. begins whole r in
    let g : Rank → ℕ = λ r. got_worth w (calls config ledger r) in
    let flow : over_ranks n o + over_ranks n s ≡ over_ranks n b + over_ranks n g = sym (over_add n o s)
    ∙ over_same n (λ r. o r + s r) (λ r. b r + g r) (λ r less. kept w whole config ledger last outcomes all balanced r less)
    ∙ over_add n b g in
    let through : over_ranks n s ≡ over_ranks n g = same_worth (parcel_worth w) n (λ r. sent None (calls config ledger r))
    (λ r. got None (calls config ledger r)) balanced.same in
    let each : (k : ℕ) → k < n → (x : ℕ) × (slice_get outcomes k ≡ Some x) = λ k less.
    let is = all (record { 0 = k }) less in (is.0, is.1) in
    let taken : over_ranks n o ≡ sum_by (λ x. x) (take n outcomes) = sum_taken outcomes n each in
    let entire : take n outcomes ≡ outcomes = take_all n outcomes (omega (arith, long)) in
    let first : over_ranks n b ≡ whole = over_first n whole some in
    omega (arith, flow, through, taken, first, ap (λ l. sum_by (λ (x : ℕ). x) l) entire)

-- What all ranks counted, over the law of what every run of orderly ranks conserves.
pub joined : ((config : Config) (ledger : List Entry) (last : Bag) → 0 < config.ranks → IsRun (start config) ledger last →
    AreOrderly config ledger → IsBalanced config ledger last) →
    (w : List ℕ → List ℕ → ℕ) (whole : ℕ) (config : Config) (ledger : List Entry) (last : Bag) (outcomes : List ℕ) →
    0 < config.ranks → IsRun (start config) ledger last → length outcomes ≡ config.ranks →
    AllHaveWorked w whole config ledger outcomes → sum_by (λ n. n) outcomes ≡ whole
joined conserves w whole config ledger last outcomes some legal long all =
    whole_is w whole config ledger last outcomes some long all
    (conserves config ledger last some legal (orderly w whole config ledger outcomes all))
