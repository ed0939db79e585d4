-- Solutions that are told where they are, and those of one puzzle among them.
use Rattle.std.proofs.Common.{◌≡◌, ℕ, ◌+◌, ◌-◌, ◌<◌, ◌≤◌, ◌==◌, Bool, true, false, not, ◌&&◌, Bor, List, [], ◌∷◌, ◌++◌, map, refl}
use Rattle.std.proofs.Common.{length, drop, take, get_or, sym, ap, ◌∙◌, append_assoc, append-nil, filter, arith}
use Rattle.std.proofs.Common.{Ok, OnOk, Result, subst, leb, leb-true, ltb, ltb-true}
use Rattle.std.specs.List.{All, AllWithin, flat_map}
use Rattle.std.specs.List.Sorted.{IsPartitionPoint, IsStableByKey, ties}
use Rattle.std.specs.Ordering.{is_lt, nat_cmp}
use Rattle.std.specs.Prelude.{if◌then◌else◌}
use Rattle.std.proofs.lemmas.Bool.Decides.{nat_tests}
use Rattle.std.proofs.lemmas.Bool.{leb-false, ltb-false}
use Rattle.std.proofs.lemmas.List.{drop_all, drop_more, get_or-drop, get_or-take, length-drop, length-take-le, take-append-drop, take_all}
use Rattle.std.proofs.lemmas.List.Elements.{All-tail, All-take}
use Rattle.sudoku_law.specs.Grid.{Cells}
use Rattle.job_report.specs.Pairs.{pairs}
use Rattle.job_report.specs.Whole.{found, found_in}
use Rattle.job_report.specs.declared.outcomes.Outcome.{Outcome}

-- the solutions of all outcomes
abbrev pub all_told : List Outcome → List (ℕ × Cells)
all_told outcomes = flat_map (λ (o : Outcome). o.solutions.items) outcomes

pairs_append : (xs ys : List (ℕ × Bor Cells)) → pairs (xs ++ ys) ≡ pairs xs ++ pairs ys
pairs_append [] ys = refl
pairs_append (x ∷ xs) ys = ap (λ l. (x.0, x.1.now) ∷ l) (pairs_append xs ys)

-- one solution more of the outcome's is added
pub solution_added : (list : List (ℕ × Bor Cells)) (more : ℕ × Bor Cells) (i : ℕ) (sols : List (ℕ × Cells)) (s : ℕ × Cells) →
    i < length sols → s ≡ get_or sols i s → (more.0, more.1.now) ≡ s →
    pairs (list ++ more ∷ []) ++ drop (i + 1) sols ≡ pairs list ++ drop i sols
solution_added list more i sols s within is same =
    ap (λ l. l ++ drop (i + 1) sols) (pairs_append list (more ∷ []))
    ∙ append_assoc (pairs list) ((more.0, more.1.now) ∷ []) (drop (i + 1) sols)
    ∙ ap (λ x. pairs list ++ x ∷ drop (i + 1) sols) (same ∙ is)
    ∙ ap (λ l. pairs list ++ l) (sym (drop_more sols i s within))

-- all are
pub solutions_added : (list : List (ℕ × Cells)) (i : ℕ) (sols all : List (ℕ × Cells)) → length sols ≤ i →
    list ++ drop i sols ≡ all → list ≡ all
solutions_added list i sols all past so_far = sym (append-nil list) ∙ ap (λ l. list ++ l) (sym (drop_all i sols past)) ∙ so_far

-- the solutions of one outcome more are added
pub outcome_added : (i : ℕ) (outcomes : List Outcome) (o : Outcome) (list next told : List (ℕ × Cells)) →
    i < length outcomes → o ≡ get_or outcomes i o → told ≡ o.solutions.items → next ≡ list ++ told →
    next ++ all_told (drop (i + 1) outcomes) ≡ list ++ all_told (drop i outcomes)
outcome_added i outcomes o list next told within is its added =
    let rest : List (ℕ × Cells) = all_told (drop (i + 1) outcomes) in
    ap (λ l. l ++ rest) (added ∙ ap (λ l. list ++ l) its) ∙ append_assoc list o.solutions.items rest
    ∙ ap (λ l. list ++ all_told l) (sym (drop_more outcomes i o within ∙ ap (λ x. x ∷ drop (i + 1) outcomes) (sym is)))

-- all are
pub outcomes_added : (i : ℕ) (outcomes : List Outcome) (list all : List (ℕ × Cells)) → length outcomes ≤ i →
    list ++ all_told (drop i outcomes) ≡ all → list ≡ all
outcomes_added i outcomes list all past so_far =
    sym (append-nil list) ∙ ap (λ l. list ++ all_told l) (sym (drop_all i outcomes past)) ∙ so_far

-- those of a puzzle in a list that follows another
cons_if : (hit : Bool) (g : Cells) (xs ys : List Cells) → (if hit then g ∷ (xs ++ ys) else xs ++ ys) ≡ (if hit then g ∷ xs else xs) ++ ys
cons_if true g xs ys = refl
cons_if false g xs ys = refl

-- the solutions of a puzzle in two lists are those in each, one after the other
pub found_append : (n : ℕ) (xs ys : List (ℕ × Cells)) → found_in n (xs ++ ys) ≡ found_in n xs ++ found_in n ys
unfolding found_in
found_append n [] ys = refl
found_append n (x ∷ xs) ys =
    ap (λ l. if x.0 == n then x.1 ∷ l else l) (found_append n xs ys) ∙ cons_if (x.0 == n) x.1 (found_in n xs) (found_in n ys)

-- those of a puzzle in all outcomes
pub found_told : (n : ℕ) (outcomes : List Outcome) → found_in n (all_told outcomes) ≡ found n outcomes
unfolding found_in
found_told n [] = refl
found_told n (o ∷ outcomes) =
    found_append n o.solutions.items (all_told outcomes) ∙ ap (λ l. found_in n o.solutions.items ++ l) (found_told n outcomes)

-- those of a puzzle are the ones that tie with one of it
abbrev earlier : ℕ × Bor Cells → ℕ × Bor Cells → Bool
earlier x y = is_lt (nat_cmp x.0 y.0)

tie_at : (a b : ℕ) → (not (is_lt (nat_cmp a b)) && not (is_lt (nat_cmp b a))) ≡ (b == a)
tie_at a b = grind (arith, nat_tests)

map_if : (hit : Bool) (s : ℕ × Bor Cells) (xs : List (ℕ × Bor Cells)) →
    map (λ (s : ℕ × Bor Cells). s.1.now) (if hit then s ∷ xs else xs)
    ≡ (if hit then s.1.now ∷ map (λ s. s.1.now) xs else map (λ s. s.1.now) xs)
map_if true s xs = refl
map_if false s xs = refl

found_ties : (n : ℕ) (r : Bor Cells) (told : List (ℕ × Bor Cells)) →
    map (λ s. s.1.now) (filter (ties earlier (n, r)) told) ≡ found_in n (pairs told)
unfolding found_in
found_ties n r [] = refl
found_ties n r (s ∷ told) =
    map_if (ties earlier (n, r) s) s (filter (ties earlier (n, r)) told)
    ∙ ap (λ hit. if hit then s.1.now ∷ map (λ s. s.1.now) (filter (ties earlier (n, r)) told)
    else map (λ s. s.1.now) (filter (ties earlier (n, r)) told)) (tie_at n s.0)
    ∙ ap (λ l. if s.0 == n then s.1.now ∷ l else l) (found_ties n r told)

-- a stable sort by the puzzles leaves those of each
pub found_sorted : (n : ℕ) (old new : List (ℕ × Bor Cells)) → length new ≡ length old → IsStableByKey (λ s. s.0) nat_cmp old new →
    found_in n (pairs new) ≡ found_in n (pairs old)
unfolding found_in
found_sorted n [] [] long stable = refl
found_sorted n [] (s ∷ new) long stable = absurd (omega (arith, long))
found_sorted n (d ∷ old) new long stable =
    sym (found_ties n d.1 new) ∙ ap (λ l. map (λ s. s.1.now) l) (stable (n, d.1)) ∙ found_ties n d.1 (d ∷ old)

-- no element of these is of the puzzle, or each is
none_found : (n : ℕ) (told : List (ℕ × Bor Cells)) → All (λ s. (s.0 == n) ≡ false) told → found_in n (pairs told) ≡ []
unfolding found_in
none_found n [] none = refl
none_found n (s ∷ told) none =
    ap (λ hit. if hit then s.1.now ∷ found_in n (pairs told) else found_in n (pairs told)) (none 0 s (omega arith))
    ∙ none_found n told (All-tail (λ s. (s.0 == n) ≡ false) s told none)

all_found : (n : ℕ) (told : List (ℕ × Bor Cells)) → All (λ s. (s.0 == n) ≡ true) told →
    found_in n (pairs told) ≡ map (λ s. s.1) (pairs told)
unfolding found_in
all_found n [] all = refl
all_found n (s ∷ told) all =
    ap (λ hit. if hit then s.1.now ∷ found_in n (pairs told) else found_in n (pairs told)) (all 0 s (omega arith))
    ∙ ap (λ l. s.1.now ∷ l) (all_found n told (All-tail (λ s. (s.0 == n) ≡ true) s told all))

-- those that are together, after some before the puzzle and before some after it
pub found_between : (n : ℕ) (before mid behind : List (ℕ × Bor Cells)) → All (λ s. (s.0 == n) ≡ false) before →
    All (λ s. (s.0 == n) ≡ true) mid → All (λ s. (s.0 == n) ≡ false) behind →
    map (λ s. s.1) (pairs mid) ≡ found_in n (pairs (before ++ (mid ++ behind)))
found_between n before mid behind less same more = sym (
    ap (found_in n) (pairs_append before (mid ++ behind)) ∙ found_append n (pairs before) (pairs (mid ++ behind))
    ∙ ap (λ l. l ++ found_in n (pairs (mid ++ behind))) (none_found n before less)
    ∙ ap (found_in n) (pairs_append mid behind) ∙ found_append n (pairs mid) (pairs behind)
    ∙ ap (λ l. found_in n (pairs mid) ++ l) (none_found n behind more) ∙ append-nil (found_in n (pairs mid)) ∙ all_found n mid same)

-- what holds of the places up to a, or from a on
module _ {X : Type 0} (P Q : X → Type 0) (so : (x : X) → P x → Q x) (a : ℕ) where
  all_front : (xs : List X) → a ≤ length xs → AllWithin P xs 0 a → All Q (take a xs)
  all_front xs within at =
      let long : length (take a xs) ≡ a = length-take-le a xs within in
      λ k d lt.
      let below : k < a = omega arith in
      subst Q (sym (get_or-take a xs k d below)) (so _ (at k d (omega arith) below))

  all_rest : (xs : List X) → AllWithin P xs a (length xs) → All Q (drop a xs)
  all_rest xs at =
      let long : length (drop a xs) ≡ length xs - a = length-drop a xs in
      λ k d lt. subst Q (sym (get_or-drop a xs k d)) (so _ (at (a + k) d (omega arith) (omega arith)))

differs : (a n : ℕ) → a < n → (a == n) ≡ false
differs a n less = grind (arith, nat_tests)

differs_above : (a n : ℕ) → n < a → (a == n) ≡ false
differs_above a n more = grind (arith, nat_tests)

agrees : (a n : ℕ) → n ≤ a → a ≤ n → (a == n) ≡ true
agrees a n low high = grind (arith, nat_tests)

all_agree : (n : ℕ) (told : List (ℕ × Bor Cells)) → All (λ s. n ≤ s.0) told → All (λ s. s.0 ≤ n) told → All (λ s. (s.0 == n) ≡ true) told
all_agree n told low high = λ k d lt. agrees _ n (low k d lt) (high k d lt)

-- in the order of the puzzles those of one stand from where no earlier one stands up to where a later one does
pub stand_together : (n a b : ℕ) (told : List (ℕ × Bor Cells)) → a ≤ length told → b ≤ length (drop a told) →
    IsPartitionPoint (λ s. ltb s.0 n ≡ true) (λ s. ltb s.0 n ≡ false) told a →
    IsPartitionPoint (λ s. leb s.0 n ≡ true) (λ s. leb s.0 n ≡ false) (drop a told) b →
    map (λ s. s.1) (pairs (take b (drop a told))) ≡ found_in n (pairs told)
stand_together n a b told within more first second =
    let rest : List (ℕ × Bor Cells) = drop a told in
    let low : All (λ s. n ≤ s.0) rest = all_rest (λ s. ltb s.0 n ≡ false) (λ s. n ≤ s.0) (λ s. ltb-false s.0 n) a told first.1 in
    let high : All (λ s. s.0 ≤ n) (take b rest) =
    all_front (λ s. leb s.0 n ≡ true) (λ s. s.0 ≤ n) (λ s. leb-true s.0 n) b rest more second.0 in
    let before : All (λ s. (s.0 == n) ≡ false) (take a told) =
    all_front (λ s. ltb s.0 n ≡ true) (λ s. (s.0 == n) ≡ false) (λ s less. differs s.0 n (ltb-true s.0 n less)) a told within first.0 in
    let behind : All (λ s. (s.0 == n) ≡ false) (drop b rest) =
    all_rest (λ s. leb s.0 n ≡ false) (λ s. (s.0 == n) ≡ false) (λ s less. differs_above s.0 n (leb-false s.0 n less)) b rest second.1 in
    found_between n (take a told) (take b rest) (drop b rest) before
    (all_agree n (take b rest) (All-take (λ s. n ≤ s.0) b rest low) high) behind
    ∙ ap (λ l. found_in n (pairs l)) (ap (λ l. take a told ++ l) (take-append-drop b rest) ∙ take-append-drop a told)

-- the list's rest from a place is a part of it
pub rest_from : {X : Type 0} (a : ℕ) (items same : List X) → same ≡ items → take (length same - a) (drop a same) ≡ drop a items
rest_from a items same is =
    let long : length (drop a same) ≡ length same - a = length-drop a same in
    take_all (length same - a) (drop a same) (omega arith) ∙ ap (drop a) is

-- those that are together are a part of the rest
pub stand_in : (n a b : ℕ) (items first rest : List (ℕ × Bor Cells)) → first ≡ items → rest ≡ drop a items →
    a ≤ length first → b ≤ length rest →
    IsPartitionPoint (λ s. ltb s.0 n ≡ true) (λ s. ltb s.0 n ≡ false) first a →
    IsPartitionPoint (λ s. leb s.0 n ≡ true) (λ s. leb s.0 n ≡ false) rest b →
    map (λ s. s.1) (pairs (take b rest)) ≡ found_in n (pairs items)
stand_in n a b items first rest same is within more at_first at_rest =
    subst (λ l. b ≤ length l → IsPartitionPoint (λ s. leb s.0 n ≡ true) (λ s. leb s.0 n ≡ false) l b →
    map (λ s. s.1) (pairs (take b l)) ≡ found_in n (pairs items)) (sym is)
    (λ few at. stand_together n a b items (omega (arith, ap length same)) few
    (subst (λ l. IsPartitionPoint (λ s. ltb s.0 n ≡ true) (λ s. ltb s.0 n ≡ false) l a) same at_first) at) more at_rest

-- what holds if a call succeeds holds where it did
pub on_ok : {X E : Type 0} {P : Type 0} (r : Result X E) (x : X) → r ≡ Ok x → OnOk r P → P
on_ok {P = P} r x is given = subst (λ r. OnOk r P) is given

-- the grids of all that are told
pub all_grids : (told : List (ℕ × Bor Cells)) (i : ℕ) → length told ≤ i → map (λ s. s.1.now) (take i told) ≡ map (λ s. s.1) (pairs told)
all_grids told i past = ap (λ l. map (λ (s : ℕ × Bor Cells). s.1.now) l) (take_all i told past) ∙ same told
  where
    same : (told : List (ℕ × Bor Cells)) → map (λ s. s.1.now) told ≡ map (λ s. s.1) (pairs told)
    same [] = refl
    same (s ∷ told) = ap (λ l. s.1.now ∷ l) (same told)
