-- A blank cell with one candidate: while the budget is above the blank cells, it may be filled before all others.
use Rattle.std.proofs.Common.{◌≡◌, ◌<◌, ◌≤◌, ℕ, zero, suc, ◌+◌, ◌-◌, ◌/◌, Bool, true, false, cond, ◌&&◌, ◌||◌, not, List, [], ◌∷◌, length}
use Rattle.std.proofs.Common.{filter, get_or, set, Option, Some, None, refl, sym, ap, ◌∙◌, inl, inr, ◌⊎◌, arith, eqb, ltb}
use Rattle.std.proofs.Math.Bool.{or_comm}
use Rattle.std.proofs.lemmas.Bool.{cases_Bool, cases_eq, cases_order, eq-eqb, ne_eqb, and_right, or_left, or_right, or_from, not-true}
use Rattle.std.proofs.lemmas.Bool.{not-false, not_from_false, not_from_true}
use Rattle.std.proofs.lemmas.List.{length-set, get_or-set_same, get_or-set_other}
use Rattle.std.proofs.lemmas.List.Sums.{sum_by-cons, sum_by-set}
use Rattle.sudoku_law.specs.Grid.{Cells, IsBlank, IsFewest, any_below, choices, conflict, count_up, fewest, how_many, shares, side, used}
use Rattle.sudoku_law.specs.Tree.{both, hands_out, nothing, tree, walk}
use Rattle.sudoku_law.proofs.Below.{any_gives, none_of, fewest_is_none}
use Rattle.sudoku_law.proofs.Exact.{fewest_is}
use Rattle.sudoku_law.proofs.Ranges.{one_counted, two_counted, few_counted, none_counted}
use Rattle.sudoku_rules.specs.inside.Boards.{blanks}
use Rattle.sudoku_rules.proofs.AnyBelow.{eqb_comm}
use Rattle.sudoku_rules.proofs.Carried.{put_fine, shares_swap}
use Rattle.sudoku_rules.proofs.Children.{digit_worked}
use Rattle.sudoku_rules.proofs.Walking.{at_digit, both_nothing, digit_next, digits_end, digits_skip, from_digit, no_candidates, node_open}
use Rattle.sudoku_rules.proofs.Walking.{or_assoc, rest_of}

-- One more digit.

any_same_below : (n : ℕ) (p q : ℕ → Bool) → ((k : ℕ) → k < n → p k ≡ q k) → any_below n p ≡ any_below n q
unfolding any_below
any_same_below zero p q same = refl
any_same_below (suc n) p q same = rw (same n (omega arith), any_same_below n p q (λ k less. same k (omega arith))) refl

-- a test that changes at one number, where it failed
any_changed : (n c : ℕ) (p q : ℕ → Bool) → c < n → p c ≡ false → ((k : ℕ) → (k ≡ c → ⊥) → q k ≡ p k)
    → any_below n q ≡ (any_below n p || q c)
unfolding any_below
any_changed zero c p q within off same = absurd (omega arith)
any_changed (suc n) c p q within off same = elim (cases_eq c n) [
  | inl at ↦
      let e : any_below n q ≡ any_below n p = any_same_below n q p (λ k less. same k (λ z. omega arith)) in
      ap (λ i. q i || any_below n q) (sym at) ∙ ap (λ b. q c || b) e ∙ or_comm (q c) (any_below n p)
      ∙ sym (ap (λ b. (b || any_below n p) || q c) (ap p (sym at) ∙ off))
  | inr differs ↦
      ap (λ b. b || any_below n q) (same n (λ e. differs (sym e)))
      ∙ ap (λ b. p n || b) (any_changed n c p q (omega arith) off same)
      ∙ sym (or_assoc (p n) (any_below n p) (q c))
]

-- what is used after a digit is put at a blank cell
pub used_put : (m : ℕ) (g : Cells) (cell d k e : ℕ) → IsBlank g cell → 1 ≤ e
    → used m (set g cell d) k e ≡ (used m g k e || (shares m k cell && eqb d e))
used_put m g cell d k e blank some =
    ap (λ n. any_below n (λ j. shares m k j && eqb (get_or (set g cell d) j 0) e)) (length-set g cell d)
    ∙ any_changed (length g) cell (λ j. shares m k j && eqb (get_or g j 0) e) (λ j. shares m k j && eqb (get_or (set g cell d) j 0) e)
    blank.within
    (and_right (shares m k cell) (eqb (get_or g cell 0) e) (ne_eqb (get_or g cell 0) e (λ z. omega (arith, blank.blank, some, z))))
    (λ j differs. ap (λ v. shares m k j && eqb v e) (get_or-set_other g cell j d 0 differs))
    ∙ ap (λ v. used m g k e || (shares m k cell && eqb v e)) (get_or-set_same g cell d 0 blank.within)

-- what is used stays used
pub still_used : (m : ℕ) (g : Cells) (cell d k e : ℕ) → IsBlank g cell → 1 ≤ e → used m g k e ≡ true → used m (set g cell d) k e ≡ true
still_used m g cell d k e blank some is =
    used_put m g cell d k e blank some ∙ or_left (used m g k e) (shares m k cell && eqb d e) is

-- another cell stays blank
pub blank_kept : (g : Cells) (cell d k : ℕ) → (k ≡ cell → ⊥) → IsBlank g k → IsBlank (set g cell d) k
blank_kept g cell d k differs is = record {
  within = let e : length (set g cell d) ≡ length g = length-set g cell d in omega (arith, is.within);
  blank = get_or-set_other g cell k d 0 differs ∙ is.blank;
}

-- How many cells are blank.

abbrev one_blank : ℕ → ℕ
one_blank d = cond (eqb d 0) 1 0

-- a digit that is put leaves one blank cell less
pub blanks_put : (g : Cells) (c d : ℕ) → IsBlank g c → 1 ≤ d → blanks (set g c d) + 1 ≡ blanks g
blanks_put g c d is some =
    let before : one_blank (get_or g c 0) ≡ 1 = ap (λ b. cond b 1 0) (eq-eqb (get_or g c 0) 0 is.blank) in
    let after : one_blank d ≡ 0 = ap (λ b. cond b 1 0) (ne_eqb d 0 (λ e. omega (arith, e, some))) in
    omega (arith, sum_by-set one_blank g c d 0 is.within, before, after)

blanks_some : (g : Cells) (c : ℕ) → IsBlank g c → 1 ≤ blanks g
blanks_some g c is = omega (arith, blanks_put g c 1 is (omega arith))

-- no more cells are blank than there are
pub blanks_few : (g : Cells) → blanks g ≤ length g
blanks_few [] = omega arith
blanks_few (d ∷ g) =
    let one : one_blank d ≤ 1 = at_most (eqb d 0) in
    omega (arith, sum_by-cons one_blank d g, blanks_few g, one)
  where
    at_most : (b : Bool) → cond b 1 0 ≤ 1
    at_most true = omega arith
    at_most false = omega arith

-- How many candidates a cell has.

how_many_same : (n : ℕ) (p q : ℕ → Bool) → ((k : ℕ) → p k ≡ q k) → how_many n p ≡ how_many n q
unfolding how_many
how_many_same zero p q same = refl
how_many_same (suc n) p q same = rw (same n, how_many_same n p q same) refl

-- the first number counted apart
first_apart : (n : ℕ) (p : ℕ → Bool) → how_many (suc n) p ≡ cond (p 0) 1 0 + how_many n (λ k. p (suc k))
unfolding how_many
first_apart zero p = omega arith
first_apart (suc n) p = omega (arith, first_apart n p)

counted_from : (n from : ℕ) (p : ℕ → Bool) → length (filter p (count_up from n)) ≡ how_many n (λ k. p (from + k))
unfolding how_many count_up
counted_from zero from p = refl
counted_from (suc n) from p =
    let same : how_many n (λ k. p (from + 1 + k)) ≡ how_many n (λ k. p (from + suc k)) =
    how_many_same n (λ k. p (from + 1 + k)) (λ k. p (from + suc k)) (λ k. ap p (let e : from + 1 + k ≡ from + suc k = omega arith in e)) in
    let first : ◌≡◌ {A = ℕ} (cond (p from) 1 0) (cond (p (from + 0)) 1 0) =
    ap (λ k. cond (p k) 1 0) (let e : from ≡ from + 0 = omega arith in e) in
    omega (
      arith,
      at_head (p from) from (filter p (count_up (from + 1) n)),
      counted_from n (from + 1) p,
      same,
      first,
      first_apart n (λ k. p (from + k)),
    )
  where
    at_head : (b : Bool) (x : ℕ) (xs : List ℕ) → length (cond b (x ∷ xs) xs) ≡ cond b 1 0 + length xs
    at_head true x xs = omega arith
    at_head false x xs = omega arith

-- the digit k + 1 is a candidate
abbrev pub is_free : ℕ → Cells → ℕ → ℕ → Bool
is_free m g c k = not (used m g c (k + 1))

-- a cell has as many candidates as digits are free there
pub choices_are : (m : ℕ) (g : Cells) (c : ℕ) → choices m g c ≡ how_many (side m) (λ k. is_free m g c k)
choices_are m g c =
    counted_from (side m) 1 (λ d. not (used m g c d))
    ∙ how_many_same (side m) (λ k. not (used m g c (1 + k))) (λ k. is_free m g c k)
    (λ k. ap (λ d. not (used m g c d)) (let e : 1 + k ≡ k + 1 = omega arith in e))

-- the cell has no candidate
abbrev pub IsDead : ℕ → Cells → ℕ → Type 0
IsDead m g c = (e : ℕ) → 1 ≤ e → e ≤ side m → used m g c e ≡ true

-- the digit is the one candidate of a blank cell
pub record IsAlone (m : ℕ) (g : Cells) (c d : ℕ) : Type 0 where
  pub blank : IsBlank g c
  pub low : 1 ≤ d
  pub high : d ≤ side m
  pub free : used m g c d ≡ false
  pub others : (e : ℕ) → 1 ≤ e → e ≤ side m → (e ≡ d → ⊥) → used m g c e ≡ true

dead_choices : (m : ℕ) (g : Cells) (c : ℕ) → IsDead m g c → choices m g c ≡ 0
dead_choices m g c dead =
    choices_are m g c
    ∙ none_counted (side m) (λ k. is_free m g c k) (λ k less. not_from_true (used m g c (k + 1)) (dead (k + 1) (omega arith) (omega arith)))

-- a number and its successor's predecessor
back : (e : ℕ) → 1 ≤ e → e - 1 + 1 ≡ e
back e some = omega arith

free_at : (m : ℕ) (g : Cells) (c e : ℕ) → 1 ≤ e → used m g c e ≡ false → is_free m g c (e - 1) ≡ true
free_at m g c e some is = not_from_false (used m g c (e - 1 + 1)) (ap (λ k. used m g c k) (back e some) ∙ is)

alone_choices : (m : ℕ) (g : Cells) (c d : ℕ) → IsAlone m g c d → choices m g c ≡ 1
alone_choices m g c d is =
    let low : 1 ≤ d = is.low in
    let high : d ≤ side m = is.high in
    let some : 1 ≤ how_many (side m) (λ k. is_free m g c k) =
    one_counted (side m) (d - 1) (λ k. is_free m g c k) (omega arith) (free_at m g c d is.low is.free) in
    let few : how_many (side m) (λ k. is_free m g c k) ≤ 1 =
    few_counted (side m) (λ k. is_free m g c k) (λ i j before within first second.
    let i_is : i + 1 ≡ d = only i within first in
    let j_is : j + 1 ≡ d = only j (omega arith) second in
    omega arith) in
    let all = choices_are m g c in
    omega arith
  where
    only : (k : ℕ) → k < side m → is_free m g c k ≡ true → k + 1 ≡ d
    only k within passes = elim (cases_eq (k + 1) d) [
      | inl same ↦ same
      | inr differs ↦
          absurd (let e : true ≡ false =
          sym (is.others (k + 1) (omega arith) (omega arith) differs) ∙ not-true (used m g c (k + 1)) passes in
          cc)
    ]

-- a blank cell with one candidate at most is dead, or has one
pub at_most_one : (m : ℕ) (g : Cells) (c : ℕ) → IsBlank g c → choices m g c ≤ 1 → IsDead m g c ⊎ ((d : ℕ) × IsAlone m g c d)
at_most_one m g c blank few = elim (cases_Bool (any_below (side m) (λ k. is_free m g c k))) [
  | inl some ↦
      let r = any_gives (side m) (λ k. is_free m g c k) some in
      inr (
        r.0 + 1,
        record {
          blank = blank;
          low = omega arith;
          high = omega (arith, r.1);
          free = not-true (used m g c (r.0 + 1)) r.2;
          others = λ e low high differs. elim (cases_Bool (used m g c e)) [
            | inl is ↦ is
            | inr free ↦ absurd (two r.0 (e - 1) r.1 (omega arith) (λ same. differs (omega arith)) r.2 (free_at m g c e low free))
          ];
        },
      )
  | inr none ↦ inl (λ e low high.
      ap (λ k. used m g c k) (sym (back e low))
      ∙ not-false (used m g c (e - 1 + 1)) (none_of (side m) (λ k. is_free m g c k) (e - 1) none (omega arith)))
]
  where
    two : (i j : ℕ) → i < side m → j < side m → (i ≡ j → ⊥) → is_free m g c i ≡ true → is_free m g c j ≡ true → ⊥
    two i j i_in j_in differs first second = elim (cases_order i j) [
      | inl same ↦ differs same
      | inr (inl less) ↦
          omega (arith, two_counted (side m) j i (λ k. is_free m g c k) less j_in second first, choices_are m g c, few)
      | inr (inr more) ↦
          omega (arith, two_counted (side m) i j (λ k. is_free m g c k) more i_in first second, choices_are m g c, few)
    ]

-- a grid with a dead cell meets nothing
pub dead_end : (m grain b : ℕ) (g : Cells) (c : ℕ) → conflict m g ≡ false → 0 < b → IsBlank g c → IsDead m g c
    → walk grain (tree m b g) ≡ nothing
dead_end m grain b g c fine some blank dead = at (fewest m g) refl
  where
    at : (o : Option ℕ) → fewest m g ≡ o → walk grain (tree m b g) ≡ nothing
    at None e = absurd (fewest_is_none m g c e blank.within blank.blank)
    at (Some f) e =
        let least = (fewest_is m g f e).least c blank in
        no_candidates m grain b g f 0 fine e some (omega (arith, least, dead_choices m g c dead)) refl

-- a node whose cell has one candidate is the node of its child
pub one_step : (m grain b : ℕ) (g : Cells) (c d : ℕ) → conflict m g ≡ false → fewest m g ≡ Some c → IsAlone m g c d → 0 < b
    → walk grain (tree m b g) ≡ walk grain (tree m (b - 1) (set g c d))
one_step m grain b g c d fine chosen is some =
    let low : 1 ≤ d = is.low in
    let high : d ≤ side m = is.high in
    let up_to : 1 + (d - 1) ≡ d = omega arith in
    let past : d + 1 + (side m - d) ≡ side m + 1 = omega arith in
    let share : (b - 1) / 1 ≡ b - 1 = omega arith in
    sym (node_open m grain b g c 1 fine chosen some (sym (alone_choices m g c d is)))
    ∙ ap (λ s. rest_of m grain b 1 s g c (from_digit m g c 1)) share
    ∙ ap (λ ds. rest_of m grain b 1 (b - 1) g c ds)
    (digits_skip m g c 1 (d - 1) (omega arith) (λ j above below. is.others j above (omega arith) (λ e. omega arith))
    ∙ ap (λ i. from_digit m g c i) up_to)
    ∙ digit_next m grain b 1 (b - 1) g c d (omega arith)
    ∙ ap (λ ds. both (at_digit m (hands_out grain b 1) grain (b - 1) g c d) (rest_of m grain b 1 (b - 1) g c ds))
    (digits_skip m g c (d + 1) (side m - d) (omega arith)
    (λ j above below. is.others j (omega arith) (omega arith) (λ e. omega arith)) ∙ ap (λ i. from_digit m g c i) past)
    ∙ ap (λ x. both (at_digit m (hands_out grain b 1) grain (b - 1) g c d) x)
    (digits_end m grain b 1 (b - 1) g c (side m + 1) (omega arith))
    ∙ both_nothing (at_digit m (hands_out grain b 1) grain (b - 1) g c d)
    ∙ sym (digit_worked m (hands_out grain b 1) grain (b - 1) g c d is.free (and_right (ltb grain b) (ltb 1 1) refl))

-- what holds of grids with n blank cells at most
abbrev GoesFirst : ℕ → ℕ → ℕ → Type 0
GoesFirst n m grain = (b : ℕ) (g : Cells) (c d : ℕ) → conflict m g ≡ false → IsAlone m g c d → blanks g ≤ n → n < b
    → walk grain (tree m b g) ≡ walk grain (tree m (b - 1) (set g c d))

-- a cell stays alone, or dies
alone_kept : (m : ℕ) (g : Cells) (f x c d : ℕ) → IsBlank g f → (c ≡ f → ⊥) → IsAlone m g c d
    → (shares m c f && eqb x d) ≡ false → IsAlone m (set g f x) c d
alone_kept m g f x c d blank differs is apart = record {
  blank = blank_kept g f x c differs is.blank;
  low = is.low;
  high = is.high;
  free = used_put m g f x c d blank is.low ∙ or_from (used m g c d) (shares m c f && eqb x d) is.free apart;
  others = λ e low high other. still_used m g f x c e blank low (is.others e low high other);
}

alone_dies : (m : ℕ) (g : Cells) (f x c d : ℕ) → IsBlank g f → IsAlone m g c d → (shares m c f && eqb x d) ≡ true
    → IsDead m (set g f x) c
alone_dies m g f x c d blank is near = λ e low high. elim (cases_eq e d) [
  | inl same ↦
      ap (λ k. used m (set g f x) c k) same
      ∙ used_put m g f x c d blank is.low
      ∙ or_right (used m g c d) (shares m c f && eqb x d) near
  | inr other ↦ still_used m g f x c e blank low (is.others e low high other)
]

dead_kept : (m : ℕ) (g : Cells) (cell d k : ℕ) → IsBlank g cell → IsDead m g k → IsDead m (set g cell d) k
dead_kept m g cell d k blank dead = λ e low high. still_used m g cell d k e blank low (dead e low high)

either_way : (m c f d x : ℕ) → (shares m f c && eqb d x) ≡ (shares m c f && eqb x d)
either_way m c f d x = rw (shares_swap m f c, eqb_comm d x) refl

-- two cells are put in either order
set_both : (g : Cells) (c d f x : ℕ) → (f ≡ c → ⊥) → set (set g f x) c d ≡ set (set g c d) f x
set_both [] c d f x differs = refl
set_both (y ∷ g) zero d zero x differs = absurd (differs refl)
set_both (y ∷ g) zero d (suc f) x differs = refl
set_both (y ∷ g) (suc c) d zero x differs = refl
set_both (y ∷ g) (suc c) d (suc f) x differs = ap (λ l. y ∷ l) (set_both g c d f x (λ e. differs (ap suc e)))

two_alone : (n m grain b : ℕ) (g : Cells) (c d f x : ℕ) → GoesFirst n m grain → conflict m g ≡ false → fewest m g ≡ Some f
    → (f ≡ c → ⊥) → IsAlone m g c d → IsAlone m g f x → blanks g ≤ suc n → suc n < b
    → walk grain (tree m b g) ≡ walk grain (tree m (b - 1) (set g c d))
two_alone n m grain b g c d f x before fine chosen differs is first few more =
    one_step m grain b g f x fine chosen first (omega arith) ∙ elim (cases_Bool (shares m c f && eqb x d)) [
      | inl near ↦
          dead_end m grain (b - 1) (set g f x) c fine_f (omega arith) (blank_kept g f x c (λ e. differs (sym e)) is.blank)
          (alone_dies m g f x c d first.blank is near)
          ∙ sym (dead_end m grain (b - 1) (set g c d) f fine_c (omega arith) (blank_kept g c d f differs first.blank)
          (alone_dies m g c d f x is.blank first (either_way m c f d x ∙ near)))
      | inr apart ↦
          before (b - 1) (set g f x) c d fine_f (alone_kept m g f x c d first.blank (λ e. differs (sym e)) is apart)
          (omega (arith, blanks_put g f x first.blank first.low, few)) (omega arith)
          ∙ ap (λ h. walk grain (tree m (b - 1 - 1) h)) (set_both g c d f x differs)
          ∙ sym (before (b - 1) (set g c d) f x fine_c
          (alone_kept m g c d f x is.blank differs first (either_way m c f d x ∙ apart))
          (omega (arith, blanks_put g c d is.blank is.low, few)) (omega arith))
    ]
  where
    fine_f : conflict m (set g f x) ≡ false
    fine_f = put_fine m g f x first.blank first.free fine

    fine_c : conflict m (set g c d) ≡ false
    fine_c = put_fine m g c d is.blank is.free fine

goes_next : (n m grain : ℕ) → GoesFirst n m grain → GoesFirst (suc n) m grain
goes_next n m grain before b g c d fine is few more = at (fewest m g) refl
  where
    other : (f : ℕ) → fewest m g ≡ Some f → (f ≡ c → ⊥) → IsFewest m g f
        → walk grain (tree m b g) ≡ walk grain (tree m (b - 1) (set g c d))
    other f chosen differs first =
        elim (at_most_one m g f first.blank (omega (arith, first.least c is.blank, alone_choices m g c d is))) [
          | inl dead ↦
              dead_end m grain b g f fine (omega arith) first.blank dead
              ∙ sym (dead_end m grain (b - 1) (set g c d) f (put_fine m g c d is.blank is.free fine) (omega arith)
              (blank_kept g c d f differs first.blank) (dead_kept m g c d f is.blank dead))
          | inr one ↦ two_alone n m grain b g c d f one.0 before fine chosen differs is one.1 few more
        ]

    at : (o : Option ℕ) → fewest m g ≡ o → walk grain (tree m b g) ≡ walk grain (tree m (b - 1) (set g c d))
    at None e = absurd (fewest_is_none m g c e is.blank.within is.blank.blank)
    at (Some f) e = elim (cases_eq f c) [
      | inl same ↦ one_step m grain b g c d fine (e ∙ ap (λ k. Some k) same) is (omega arith)
      | inr differs ↦ other f e differs (fewest_is m g f e)
    ]

-- the cell may be filled first
pub goes_first : (n m grain : ℕ) → GoesFirst n m grain
goes_first zero m grain b g c d fine is few more = absurd (let some = blanks_some g c is.blank in omega (arith, some, few))
goes_first (suc n) m grain b g c d fine is few more =
    goes_next n m grain (λ k h e x apart alone under above. goes_first n m grain k h e x apart alone under above) b g c d fine is few more
