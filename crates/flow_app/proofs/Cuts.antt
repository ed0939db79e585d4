-- Bytes that are cut at their first mark.
use Rattle.std.proofs.Common.{◌≡◌, ◌<◌, ◌≤◌, ◌+◌, ◌-◌, ℕ, Bool, true, false, cond, List, [], ◌∷◌, length, take, drop, not, refl, sym, ap}
use Rattle.std.proofs.Common.{◌∙◌, Some, None, arith}
use Rattle.std.specs.List.{position, position_or_len, slice_split}
use Rattle.std.proofs.lemmas.Bool.{ltb-false}
use Rattle.std.proofs.lemmas.List.{length-drop, take_all}
use Rattle.std.proofs.lemmas.List.Elements.{All-from_get_or}
use Rattle.std.proofs.lemmas.List.Quantifiers.{position-Some}
use Rattle.std.proofs.lemmas.List.Splits.{slice_split_first, slice_split_none}
use Rattle.std.proofs.lemmas.List.Sums.{position_or_len_is, prefix_len-le-length, fails_before_first}

-- the place of the first element that passes, and that there is no such element
pub place_is : {X : Type 0} (p : X → Bool) (xs : List X) (d : X) (i : ℕ) → position p xs ≡ Some i → position_or_len p xs ≡ i
place_is p xs d i e = let s = position-Some p xs i d e in position_or_len_is p xs i d (omega arith) s.2 (λ lt. s.1)

none_chosen : (b : Bool) (i : ℕ) → cond b (Some i) None ≡ None → b ≡ false
none_chosen true i e = absurd cc
none_chosen false i e = refl

-- if no element passes, the cut is at the end
pub no_place : {X : Type 0} (p : X → Bool) (xs : List X) → position p xs ≡ None → position_or_len p xs ≡ length xs
no_place p xs e =
    let le : length xs ≤ position_or_len p xs = ltb-false (position_or_len p xs) (length xs) (none_chosen _ (position_or_len p xs) e) in
    omega (arith, prefix_len-le-length (λ x. not (p x)) xs)

-- what comes before the first mark, and what follows it
pub first_part : (p : ℕ → Bool) (text : List ℕ) (place : ℕ) → position p text ≡ Some place →
    slice_split p text ≡ take place text ∷ slice_split p (drop (place + 1) text)
first_part p text place e =
    let at : position_or_len p text ≡ place = place_is p text 0 place e in
    let inside : place < length text = (position-Some p text place 0 e).0 in
    let lt : position_or_len p text < length text = omega arith in
    slice_split_first p text 0 lt ∙ ap (λ n. take n text ∷ slice_split p (drop (n + 1) text)) at

-- with no mark all is one part
pub last_part : (p : ℕ → Bool) (text : List ℕ) → position p text ≡ None → slice_split p text ≡ text ∷ []
last_part p text e =
    let at : position_or_len p text ≡ length text = no_place p text e in
    slice_split_none p text (All-from_get_or (λ x. p x ≡ false) text 0 (λ k lt.
    let before : k < position_or_len p text = omega arith in fails_before_first p text k 0 before))

-- as the slices are read
pub cut_first : (p : ℕ → Bool) (text : List ℕ) (place : ℕ) → Some place ≡ position p text →
    slice_split p text ≡ take place text ∷ slice_split p (take (length text - (place + 1)) (drop (place + 1) text))
cut_first p text place e =
    first_part p text place (sym e)
    ∙ ap (λ l. take place text ∷ slice_split p l)
    (sym (take_all (length text - (place + 1)) (drop (place + 1) text) (omega (arith, length-drop (place + 1) text))))
