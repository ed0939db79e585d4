-- Masks of digits: what one more cell adds to them, and what the masks around a cell tell.
use Rattle.std.proofs.Common.{◌≡◌, ◌<◌, ◌≤◌, ℕ, ◌+◌, ◌-◌, ◌*◌, ◌/◌, ◌^◌, min, max, Bool, true, false, cond, ◌&&◌, ◌||◌, not, ◌↔◌, List}
use Rattle.std.proofs.Common.{length, get_or, set, replicate, refl, sym, ap, ◌∙◌, inl, inr, arith, eqb, add-one, w16}
use Rattle.std.specs.Int.{bit_at, IsBitSet}
use Rattle.std.specs.Int.Bits.{bit_and, bit_or}
use Rattle.std.proofs.lemmas.Bool.{cases_eq, eq-eqb, ne_eqb, and_right, and_left}
use Rattle.std.proofs.lemmas.List.{length-set, length-replicate, get_or-set_same, get_or-set_other, get_or-replicate}
use Rattle.std.proofs.lemmas.Nat.{or_lt, pow_below, pow_pos, and_mask}
use Rattle.std.proofs.lemmas.Nat.Bits.{bit_at-zero, bit_at_and, bit_at_or, bit_at-pow_same, bit_at-pow_other, bit_at-lt, bit_at_ones}
use Rattle.std.proofs.lemmas.Nat.Bits.{bit_at_not, and_pow}
use Rattle.std.proofs.Math.Bool.{or_comm}
use Rattle.sudoku_law.specs.Grid.{Cells, any_below, row_of, column_of, box_of, side, size, shares, clash, used}
use Rattle.sudoku_rules.specs.declared.look.Masks.{Masks}
use Rattle.sudoku_rules.specs.inside.Masks.{seen, IsMarked, AreMasks, AreOptions}
use Rattle.std.proofs.Math.Pow.{pow_mono}
use Rattle.sudoku_rules.proofs.Sides.{side_few, row_within, column_within, box_place_within, all_digits}
use Rattle.sudoku_rules.proofs.AnyBelow.{and_true, eqb_comm, any_none, any_same, any_of_three}

seen_more : (group : ℕ → ℕ) (g : Cells) (n u d : ℕ)
    → seen group g (n + 1) u d ≡ ((eqb u (group n) && eqb (get_or g n 0) d) || seen group g n u d)
unfolding any_below
seen_more group g n u d = rw add-one refl

seen_same : (group : ℕ → ℕ) (g : Cells) (n u d : ℕ) → (eqb u (group n) && eqb (get_or g n 0) d) ≡ false
    → seen group g (n + 1) u d ≡ seen group g n u d
seen_same group g n u d off = seen_more group g n u d ∙ ap (λ b. b || seen group g n u d) off

seen_here : (group : ℕ → ℕ) (g : Cells) (n u d : ℕ) → u ≡ group n → get_or g n 0 ≡ d → seen group g (n + 1) u d ≡ true
seen_here group g n u d here has = seen_more group g n u d
    ∙ ap (λ b. (b && eqb (get_or g n 0) d) || seen group g n u d) (eq-eqb u (group n) here)
    ∙ ap (λ b. b || seen group g n u d) (eq-eqb (get_or g n 0) d has)

-- at first nothing is marked
pub marked_none : (m : ℕ) (group : ℕ → ℕ) (g : Cells) → IsMarked m group g 0 (replicate (side m) 0)
unfolding any_below
marked_none m group g = record {
  long = length-replicate {A = ℕ} (side m) 0;
  small = λ u below. let e : get_or {A = ℕ} (replicate (side m) 0) u 0 ≡ 0 =
      get_or-replicate (side m) u 0 0 below in rw e (pow_pos (side m));
  bits = λ u k below few. let e : get_or {A = ℕ} (replicate (side m) 0) u 0 ≡ 0 =
      get_or-replicate (side m) u 0 0 below in rw e (bit_at-zero k);
}

-- a blank cell marks nothing
pub marked_blank : (m : ℕ) (group : ℕ → ℕ) (g : Cells) (n : ℕ) (masks : List ℕ) → get_or g n 0 ≡ 0 → IsMarked m group g n masks
    → IsMarked m group g (n + 1) masks
marked_blank m group g n masks blank is = record {
  long = is.long;
  small = is.small;
  bits = λ u k below few.
      is.bits u k below few
      ∙ ap (λ b. cond b 1 0)
      (sym (seen_same group g n u (k + 1)
      (and_right (eqb u (group n)) (eqb (get_or g n 0) (k + 1)) (ne_eqb (get_or g n 0) (k + 1) (λ e. omega (arith, blank, e))))));
}

max_zero : (b : ℕ) → max b 0 ≡ b
max_zero b = omega arith

max_one : (b : ℕ) → b < 2 → max b 1 ≡ 1
max_one b small = omega arith

-- a digit's bit is set in the mask of a group v, where h has it there, and is otherwise seen as g is
pub marked_at : (m : ℕ) (group : ℕ → ℕ) (g h : Cells) (n q v x : ℕ) (masks : List ℕ) → x < side m → v < side m
    → ((u k : ℕ) → u ≡ v → k ≡ x → seen group h q u (k + 1) ≡ true)
    → ((u k : ℕ) → (eqb u v && eqb (x + 1) (k + 1)) ≡ false → seen group h q u (k + 1) ≡ seen group g n u (k + 1))
    → IsMarked m group g n masks → IsMarked m group h q (set masks v (bit_or (get_or masks v 0) (2 ^ x)))
marked_at m group g h n q v x masks few within there same_else is = record {
  long = length-set masks v next ∙ is.long;
  small = λ u below. elim (cases_eq u v) [
    | inl here ↦ rw (at_here u here) (or_lt (side m) (get_or masks v 0) (2 ^ x) (is.small v within) (pow_below x (side m) few))
    | inr other ↦ rw (get_or-set_other masks v u next 0 other) (is.small u below)
  ];
  bits = λ u k below low. elim (cases_eq u v) [
    | inl here ↦ elim (cases_eq k x) [
      | inl same ↦ at_digit u k here same
      | inr differs ↦ at_other_digit u k here low differs
    ]
    | inr other ↦
        ap (λ z. bit_at z k) (get_or-set_other masks v u next 0 other)
        ∙ is.bits u k below low
        ∙ ap (λ b. cond b 1 0) (sym (same_else u k (and_left (eqb u v) (eqb (x + 1) (k + 1)) (ne_eqb u v other))))
  ];
}
  where
    next : ℕ
    next = bit_or (get_or masks v 0) (2 ^ x)

    at_here : (u : ℕ) → u ≡ v → get_or (set masks v next) u 0 ≡ next
    at_here u here =
        let in_range : v < length masks = omega (arith, within, is.long) in
        ap (λ z. get_or (set masks v next) z 0) here ∙ get_or-set_same masks v next 0 in_range

    bits_here : (u k : ℕ) → u ≡ v → bit_at (get_or (set masks v next) u 0) k ≡ max (bit_at (get_or masks v 0) k) (bit_at (2 ^ x) k)
    bits_here u k here = ap (λ z. bit_at z k) (at_here u here) ∙ bit_at_or (get_or masks v 0) (2 ^ x) k

    at_digit : (u k : ℕ) → u ≡ v → k ≡ x → bit_at (get_or (set masks v next) u 0) k ≡ cond (seen group h q u (k + 1)) 1 0
    at_digit u k here same =
        let set_bit : bit_at (2 ^ x) k ≡ 1 = ap (λ i. bit_at (2 ^ x) i) same ∙ bit_at-pow_same x in
        bits_here u k here
        ∙ ap (λ b. max (bit_at (get_or masks v 0) k) b) set_bit
        ∙ max_one (bit_at (get_or masks v 0) k) (bit_at-lt (get_or masks v 0) k)
        ∙ ap (λ b. cond b 1 0) (sym (there u k here same))

    at_other_digit : (u k : ℕ) → u ≡ v → k < side m → (k ≡ x → ⊥)
        → bit_at (get_or (set masks v next) u 0) k ≡ cond (seen group h q u (k + 1)) 1 0
    at_other_digit u k here low differs =
        bits_here u k here
        ∙ ap (λ b. max (bit_at (get_or masks v 0) k) b) (bit_at-pow_other x k differs)
        ∙ max_zero (bit_at (get_or masks v 0) k)
        ∙ ap (λ z. bit_at (get_or masks z 0) k) (sym here)
        ∙ is.bits u k (omega arith) low
        ∙ ap (λ b. cond b 1 0)
        (sym (same_else u k (and_right (eqb u v) (eqb (x + 1) (k + 1)) (ne_eqb (x + 1) (k + 1) (λ e. differs (omega arith))))))

-- the digit of one more cell is noted in its group's mask
pub marked_more : (m : ℕ) (group : ℕ → ℕ) (g : Cells) (n x : ℕ) (masks : List ℕ) → get_or g n 0 ≡ x + 1 → x < side m → group n < side m
    → IsMarked m group g n masks → IsMarked m group g (n + 1) (set masks (group n) (bit_or (get_or masks (group n) 0) (2 ^ x)))
marked_more m group g n x masks has few within is =
    marked_at m group g g n (n + 1) (group n) x masks few within
    (λ u k here same. seen_here group g n u (k + 1) here (has ∙ ap (λ i. i + 1) (sym same)))
    (λ u k off. seen_same group g n u (k + 1) (ap (λ d. eqb u (group n) && eqb d (k + 1)) has ∙ off))
    is

-- the three groups' marks of a digit together say that a cell that shares has it
three : (sa sb sc : Bool) (a b c : ℕ) → a ≡ cond sa 1 0 → b ≡ cond sb 1 0 → c ≡ cond sc 1 0 → max (max a b) c ≡ cond (sa || sb || sc) 1 0
three true true true a b c ea eb ec = omega arith
three true true false a b c ea eb ec = omega arith
three true false true a b c ea eb ec = omega arith
three true false false a b c ea eb ec = omega arith
three false true true a b c ea eb ec = omega arith
three false true false a b c ea eb ec = omega arith
three false false true a b c ea eb ec = omega arith
three false false false a b c ea eb ec = omega arith

-- some cell of the first n shares with this one and has the digit
abbrev pub near : ℕ → Cells → ℕ → ℕ → ℕ → Bool
near m g n cell d = any_below n (λ j. shares m cell j && eqb (get_or g j 0) d)

-- the mask of a cell's row
abbrev pub row_mask : ℕ → {S : ℕ} → Masks S → ℕ → ℕ
row_mask m masks cell = get_or masks.rows (row_of m cell) 0

-- the mask of a cell's column
abbrev pub column_mask : ℕ → {S : ℕ} → Masks S → ℕ → ℕ
column_mask m masks cell = get_or masks.columns (column_of m cell) 0

-- the mask of a cell's box
abbrev pub box_mask : ℕ → {S : ℕ} → Masks S → ℕ → ℕ
box_mask m masks cell = get_or masks.boxes (box_of m cell) 0

box_within : (m : ℕ) → 2 ≤ m → m ≤ 4 → (cell : ℕ) → cell < size m → box_of m cell < side m
box_within m low high cell within =
    box_place_within m low high (row_of m cell) (column_of m cell) (row_within m low high cell within) (column_within m low high cell)

-- the masks of the cell's row, column and box together
abbrev pub around_of : ℕ → {S : ℕ} → Masks S → ℕ → ℕ
around_of m masks cell = bit_or (bit_or (row_mask m masks cell) (column_mask m masks cell)) (box_mask m masks cell)

-- a bit of the mask around a cell is set exactly if the digit is near it
pub around_bits : (m : ℕ) → 2 ≤ m → m ≤ 4 → {S : ℕ} (g : Cells) (n cell k : ℕ) (masks : Masks S) → AreMasks m g n masks → cell < size m
    → k < side m → bit_at (around_of m masks cell) k ≡ cond (near m g n cell (k + 1)) 1 0
around_bits m low high g n cell k masks are within few =
    bit_at_or (bit_or (row_mask m masks cell) (column_mask m masks cell)) (box_mask m masks cell) k
    ∙ ap (λ b. max b (bit_at (box_mask m masks cell) k)) (bit_at_or (row_mask m masks cell) (column_mask m masks cell) k)
    ∙ three (seen (row_of m) g n (row_of m cell) (k + 1)) (seen (column_of m) g n (column_of m cell) (k + 1))
    (seen (box_of m) g n (box_of m cell) (k + 1)) _ _ _
    (are.rows.bits (row_of m cell) k (row_within m low high cell within) few)
    (are.columns.bits (column_of m cell) k (column_within m low high cell) few)
    (are.boxes.bits (box_of m cell) k (box_within m low high cell within) few)
    ∙ ap (λ b. cond b 1 0)
    (sym (any_of_three n (λ j. eqb (row_of m cell) (row_of m j)) (λ j. eqb (column_of m cell) (column_of m j))
    (λ j. eqb (box_of m cell) (box_of m j)) (λ j. eqb (get_or g j 0) (k + 1))))

-- the mask around a cell has only the bits of its digits
pub around_small : (m : ℕ) → 2 ≤ m → m ≤ 4 → {S : ℕ} (g : Cells) (n cell : ℕ) (masks : Masks S) → AreMasks m g n masks → cell < size m
    → around_of m masks cell < 2 ^ side m
around_small m low high g n cell masks are within =
    or_lt (side m) (bit_or (row_mask m masks cell) (column_mask m masks cell)) (box_mask m masks cell)
    (or_lt (side m) (row_mask m masks cell) (column_mask m masks cell)
    (are.rows.small (row_of m cell) (row_within m low high cell within))
    (are.columns.small (column_of m cell) (column_within m low high cell)))
    (are.boxes.small (box_of m cell) (box_within m low high cell within))

-- the test of a bit
pub bit_test : (v x : ℕ) (s : Bool) → bit_at v x ≡ cond s 1 0 → not (eqb (bit_and v (2 ^ x)) 0) ≡ s
bit_test v x true is =
    let e : bit_and v (2 ^ x) ≡ 2 ^ x = and_pow v x ∙ ap (λ b. b * 2 ^ x) is ∙ omega arith in
    let some : 0 < 2 ^ x = pow_pos x in
    ap not (ne_eqb (bit_and v (2 ^ x)) 0 (λ z. omega (arith, e, some, z)))
bit_test v x false is =
    let e : bit_and v (2 ^ x) ≡ 0 = and_pow v x ∙ ap (λ b. b * 2 ^ x) is ∙ omega arith in
    ap not (eq-eqb (bit_and v (2 ^ x)) 0 e)

-- a cell clashes where a cell before it that shares has its digit
pub clash_here : (m : ℕ) (g : Cells) (n d : ℕ) → get_or g n 0 ≡ d → 0 < d → any_below n (λ j. clash m g n j) ≡ near m g n n d
clash_here m g n d has some = any_same n (λ j. clash m g n j) (λ j. shares m n j && eqb (get_or g j 0) d) (λ j.
    ap (λ b. (shares m n j && eqb (get_or g n 0) (get_or g j 0)) && not b) (ne_eqb (get_or g n 0) 0 (λ e. omega (arith, has, e)))
    ∙ and_true (shares m n j && eqb (get_or g n 0) (get_or g j 0))
    ∙ ap (λ v. shares m n j && eqb v (get_or g j 0)) has
    ∙ ap (λ b. shares m n j && b) (eqb_comm d (get_or g j 0)))

-- a blank cell clashes with none
pub no_clash : (m : ℕ) (g : Cells) (n : ℕ) → get_or g n 0 ≡ 0 → any_below n (λ j. clash m g n j) ≡ false
no_clash m g n blank =
    any_none n (λ j. clash m g n j)
    (λ j. and_right (shares m n j && eqb (get_or g n 0) (get_or g j 0)) (not (eqb (get_or g n 0) 0))
    (ap not (eq-eqb (get_or g n 0) 0 blank)))

-- two of the first `n + 1` cells clash if the last does, or if two before it do
pub clashes_more : (m : ℕ) (g : Cells) (n : ℕ)
    → any_below (n + 1) (λ i. any_below i (λ j. clash m g i j)) ≡
    (any_below n (λ j. clash m g n j) || any_below n (λ i. any_below i (λ j. clash m g i j)))
unfolding any_below
clashes_more m g n = rw add-one refl

-- the masks after a blank cell
pub masks_blank : (m : ℕ) {S : ℕ} (g : Cells) (n : ℕ) (masks : Masks S) → get_or g n 0 ≡ 0 → AreMasks m g n masks
    → AreMasks m g (n + 1) masks
masks_blank m g n masks blank are = record {
  rows = marked_blank m (row_of m) g n masks.rows blank are.rows;
  columns = marked_blank m (column_of m) g n masks.columns blank are.columns;
  boxes = marked_blank m (box_of m) g n masks.boxes blank are.boxes;
  clash = are.clash ∙ sym (clashes_more m g n ∙ ap (λ b. b || any_below n (λ i. any_below i (λ j. clash m g i j))) (no_clash m g n blank));
}

-- the masks after a cell with the digit x + 1
pub masks_more : (m : ℕ) → 2 ≤ m → m ≤ 4 → {S : ℕ} (g : Cells) (n x : ℕ) (masks : Masks S) → get_or g n 0 ≡ x + 1 → x < side m
    → n < size m → AreMasks m g n masks →
    AreMasks m {S = S} g (n + 1) (record {
      rows = set masks.rows (row_of m n) (bit_or (row_mask m masks n) (2 ^ x));
      columns = set masks.columns (column_of m n) (bit_or (column_mask m masks n) (2 ^ x));
      boxes = set masks.boxes (box_of m n) (bit_or (box_mask m masks n) (2 ^ x));
      clash = masks.clash || not (eqb (bit_and (around_of m masks n) (2 ^ x)) 0);
    })
masks_more m low high {S} g n x masks has few within are = record {
  rows = marked_more m (row_of m) g n x masks.rows has few (row_within m low high n within) are.rows;
  columns = marked_more m (column_of m) g n x masks.columns has few (column_within m low high n) are.columns;
  boxes = marked_more m (box_of m) g n x masks.boxes has few (box_within m low high n within) are.boxes;
  clash =
      or_comm masks.clash (not (eqb (bit_and (around_of m masks n) (2 ^ x)) 0))
      ∙ ap (λ b. b || masks.clash)
      (bit_test (around_of m masks n) x (near m g n n (x + 1)) (around_bits m low high g n n x masks are within few))
      ∙ ap (λ b. near m g n n (x + 1) || b) are.clash
      ∙ sym (clashes_more m g n
      ∙ ap (λ b. b || any_below n (λ i. any_below i (λ j. clash m g i j))) (clash_here m g n (x + 1) has (omega arith)));
}

min_one : (b : ℕ) → b ≤ 1 → min b 1 ≡ b
min_one b small = omega arith

-- what the masks around a cell leave is its candidates
pub options_left : (m : ℕ) → 2 ≤ m → m ≤ 4 → {S : ℕ} (g : Cells) (cell : ℕ) (masks : Masks S) → AreMasks m g (length g) masks
    → cell < size m → AreOptions m g cell (bit_and (65535 - around_of m masks cell) (65535 / 2 ^ (16 - side m)))
options_left m low high g cell masks are within = record {
  small = rw (all_digits m low high, and_mask (65535 - around_of m masks cell) (side m))
      (let some : 0 < 2 ^ side m = pow_pos (side m) in omega arith);
  bits = λ k few.
      let near_cell : Bool = near m g (length g) cell (k + 1) in
      let digits : side m ≤ 16 = side_few m low high in
      let small : around_of m masks cell < 2 ^ 16 = below (around_small m low high g (length g) cell masks are within) (pow_le digits) in
      bit_at_and (65535 - around_of m masks cell) (65535 / 2 ^ (16 - side m)) k
      ∙ ap (λ v. min (bit_at (65535 - around_of m masks cell) k) (bit_at v k)) (all_digits m low high)
      ∙ ap (λ b. min (bit_at (65535 - around_of m masks cell) k) b) (bit_at_ones (side m) k few)
      ∙ ap (λ b. min b 1) (bit_at_not w16 (around_of m masks cell) k small (omega arith)
      ∙ ap (λ b. 1 - b) (around_bits m low high g (length g) cell k masks are within few))
      ∙ left near_cell;
}
  where
    left : (b : Bool) → min (1 - cond b 1 0) 1 ≡ cond b 0 1
    left true = refl
    left false = refl

    below : {a b c : ℕ} → a < b → b ≤ c → a < c
    below p q = omega arith

    pow_le : {n : ℕ} → n ≤ 16 → 2 ^ n ≤ 2 ^ 16
    pow_le h = pow_mono h

-- at first no cell has been seen
pub masks_none : (m : ℕ) {S : ℕ} (g : Cells) → S ≡ side m
    → AreMasks m {S = S} g 0 (record { rows = replicate S 0; columns = replicate S 0; boxes = replicate S 0; clash = false })
unfolding any_below
masks_none m {S} g same = record {
  rows = rw same (marked_none m (row_of m) g);
  columns = rw same (marked_none m (column_of m) g);
  boxes = rw same (marked_none m (box_of m) g);
  clash = refl;
}

-- the bit of a digit, as a test of the mask
pub option_bits : (m : ℕ) (g : Cells) (cell options d : ℕ) → AreOptions m g cell options → 1 ≤ d → d ≤ side m
    → IsBitSet options (d - 1) ↔ (used m g cell d ≡ false)
option_bits m g cell options d are least most = both (used m g cell d) bit
  where
    bit : bit_at options (d - 1) ≡ cond (used m g cell d) 0 1
    bit = are.bits (d - 1) (omega arith) ∙ ap (λ k. cond (used m g cell k) 0 1) (let e : d - 1 + 1 ≡ d = omega arith in e)

    both : (u : Bool) → bit_at options (d - 1) ≡ cond u 0 1 → IsBitSet options (d - 1) ↔ (u ≡ false)
    both true is = (λ set_bit. absurd (set_bit (and_pow options (d - 1) ∙ ap (λ b. b * 2 ^ (d - 1)) is ∙ omega arith)), λ e. cc)
    both false is =
        let some : 0 < 2 ^ (d - 1) = pow_pos (d - 1) in
        let e : bit_and options (2 ^ (d - 1)) ≡ 2 ^ (d - 1) = and_pow options (d - 1) ∙ ap (λ b. b * 2 ^ (d - 1)) is ∙ omega arith in
        (λ set_bit. refl, λ same none. omega (arith, e, some, none))
