-- Cells that are kept two in a byte.
use Rattle.std.proofs.Common.{◌≡◌, ◌<◌, ◌≤◌, ℕ, zero, suc, ◌+◌, ◌*◌, ◌/◌, ◌%◌, List, [], ◌∷◌, ◌++◌, All, append_assoc, append-nil, drop}
use Rattle.std.proofs.Common.{length, take, get_or, set, refl, sym, ap, ◌∙◌, arith}
use Rattle.std.proofs.lemmas.List.{at_drop_all, at_drop_more, get_or_default, length-set}
use Rattle.std.proofs.lemmas.Grind.{take-set_at}
use Rattle.sudoku_law.specs.Grid.{Cells, IsGrid}
use Rattle.sudoku_rules.specs.inside.Packed.{halves, pairs}

-- the halves of a byte of two cells
lower : (x y : ℕ) → x < 16 → (x + 16 * y) % 16 ≡ x
lower x y small = omega (arith, small)

upper : (x y : ℕ) → x < 16 → (x + 16 * y) / 16 ≡ y
upper x y small = omega (arith, small)

-- the cell that is left over
unfoldable pub odd : Cells → Cells
odd [] = []
odd (x ∷ []) = x ∷ []
odd (x ∷ y ∷ rest) = odd rest

-- cells are taken out of their bytes as they were
pub pairs_back : (xs : Cells) → All (λ x. x < 16) xs → halves (pairs xs) ++ odd xs ≡ xs
unfolding pairs halves odd
pairs_back [] small = refl
pairs_back (x ∷ []) small = refl
pairs_back (x ∷ y ∷ rest) small =
    let first : (x + 16 * y) % 16 ≡ x = lower x y (small 0 0 (omega arith)) in
    let second : (x + 16 * y) / 16 ≡ y = upper x y (small 0 0 (omega arith)) in
    let others : halves (pairs rest) ++ odd rest ≡ rest = pairs_back rest (λ k d within. small (suc (suc k)) d (omega (arith, within))) in
    λ i. first i ∷ second i ∷ others i

-- no cell is left over of an even number of them
pub odd_none : (n : ℕ) (xs : Cells) → length xs ≡ n + n → odd xs ≡ []
unfolding odd
odd_none n [] long = refl
odd_none n (x ∷ []) long = absurd (omega (arith, long))
odd_none zero (x ∷ y ∷ rest) long = absurd (omega (arith, long))
odd_none (suc n) (x ∷ y ∷ rest) long = odd_none n rest (omega (arith, long))

-- the last cell is left over of an odd number
pub odd_last : (n : ℕ) (xs : Cells) → length xs ≡ n + n + 1 → odd xs ≡ get_or xs (n + n) 0 ∷ []
unfolding odd
odd_last n [] long = absurd (omega (arith, long))
odd_last zero (x ∷ []) long = refl
odd_last (suc n) (x ∷ []) long = absurd (omega (arith, long))
odd_last zero (x ∷ y ∷ rest) long = absurd (omega (arith, long))
odd_last (suc n) (x ∷ y ∷ rest) long =
    let same : suc (suc (n + n)) ≡ suc n + suc n = omega arith in
    odd_last n rest (omega (arith, long)) ∙ ap (λ k. get_or (x ∷ y ∷ rest) k 0 ∷ []) same

-- half as many bytes as cells
pub pairs_long : (n : ℕ) (xs : Cells) → n + n ≤ length xs → length xs ≤ n + n + 1 → length (pairs xs) ≡ n
unfolding pairs
pairs_long zero [] least most = refl
pairs_long (suc n) [] least most = absurd (omega (arith, least))
pairs_long zero (x ∷ []) least most = refl
pairs_long (suc n) (x ∷ []) least most = absurd (omega (arith, least))
pairs_long zero (x ∷ y ∷ rest) least most = absurd (omega (arith, most))
pairs_long (suc n) (x ∷ y ∷ rest) least most = let more = pairs_long n rest (omega (arith, least)) (omega (arith, most)) in
    omega (arith, more)

-- a grid of side 4 or 9 has small cells
pub small_four : (g : Cells) → IsGrid 2 g → All (λ x. x < 16) g
small_four g is = λ k d within. omega (arith, is.digits k within, get_or_default g k d 0 within)

-- each cell of a grid of side 9 is below 16
pub small_nine : (g : Cells) → IsGrid 3 g → All (λ x. x < 16) g
small_nine g is = λ k d within. omega (arith, is.digits k within, get_or_default g k d 0 within)

-- and is kept so
pub kept_four : (g : Cells) → IsGrid 2 g → halves (pairs g) ≡ g
kept_four g is =
    sym (append-nil (halves (pairs g))) ∙ ap (λ l. halves (pairs g) ++ l) (sym (odd_none 8 g is.long)) ∙ pairs_back g (small_four g is)

-- a grid of side 9 is kept as its pairs and its last cell
pub kept_nine : (g : Cells) → IsGrid 3 g → halves (pairs g) ++ get_or g 80 0 ∷ [] ≡ g
kept_nine g is = ap (λ l. halves (pairs g) ++ l) (sym (odd_last 40 g is.long)) ∙ pairs_back g (small_nine g is)

-- two more cells are written
pub two_more : (cells : Cells) (at a b : ℕ) → at + 1 < length cells →
    take (at + 2) (set (set cells at a) (at + 1) b) ≡ take at cells ++ a ∷ b ∷ []
two_more cells at a b within =
    take-set_at (set cells at a) (at + 1) (at + 2) b (omega arith) (omega (arith, within, length-set cells at a))
    ∙ ap (λ l. l ++ b ∷ []) (take-set_at cells at (at + 1) a refl (omega (arith, within)))
    ∙ append_assoc (take at cells) (a ∷ []) (b ∷ [])

-- twice as many halves
pub halves_long : (bs : List ℕ) → length (halves bs) ≡ length bs + length bs
unfolding halves
halves_long [] = refl
halves_long (b ∷ bs) = omega (arith, halves_long bs)

-- One step of packing, and its end.

pairs_next : (xs : Cells) (k : ℕ) → suc k < length xs →
    pairs (drop k xs) ≡ (get_or xs k 0 + 16 * get_or xs (suc k) 0) ∷ pairs (drop (suc (suc k)) xs)
unfolding pairs
pairs_next [] k within = absurd (omega (arith, within))
pairs_next (x ∷ []) zero within = absurd (omega (arith, within))
pairs_next (x ∷ y ∷ rest) zero within = refl
pairs_next (x ∷ xs) (suc k) within = pairs_next xs k (omega (arith, within))

-- the pairs from a place on are the one there and those after it
pub pairs_at : (xs : Cells) (k : ℕ) → k + 1 < length xs →
    pairs (drop k xs) ≡ (get_or xs k 0 + 16 * get_or xs (k + 1) 0) ∷ pairs (drop (k + 2) xs)
pairs_at xs k within =
    let one : suc k ≡ k + 1 = omega arith in
    let two : suc (suc k) ≡ k + 2 = omega arith in
    pairs_next xs k (omega (arith, within))
    ∙ ap (λ n. (get_or xs k 0 + 16 * get_or xs n 0) ∷ pairs (drop (suc (suc k)) xs)) one
    ∙ ap (λ n. (get_or xs k 0 + 16 * get_or xs (k + 1) 0) ∷ pairs (drop n xs)) two

-- at the last cell no pair is left
pub pairs_over : (xs : Cells) (k : ℕ) → length xs ≤ k + 1 → pairs (drop k xs) ≡ []
unfolding pairs
pairs_over [] zero over = refl
pairs_over [] (suc k) over = refl
pairs_over (x ∷ []) zero over = refl
pairs_over (x ∷ y ∷ rest) zero over = absurd (omega (arith, over))
pairs_over (x ∷ xs) (suc k) over = pairs_over xs k (omega (arith, over))

-- and one step of taking apart
pub halves_next : (bytes : List ℕ) (k : ℕ) → k < length bytes →
    halves (drop k bytes) ≡ get_or bytes k 0 % 16 ∷ get_or bytes k 0 / 16 ∷ halves (drop (k + 1) bytes)
unfolding halves
halves_next bytes k within = at_drop_more halves bytes k 0 within

-- after the last byte nothing is left
pub halves_none : (bytes : List ℕ) (k : ℕ) → length bytes ≤ k → halves (drop k bytes) ≡ []
unfolding halves
halves_none bytes k over = at_drop_all halves bytes k over
