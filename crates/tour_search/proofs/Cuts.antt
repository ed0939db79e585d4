-- Lists that are cut at their first element that passes a test.
use Rattle.std.proofs.Common.{◌≡◌, ◌<◌, ◌≤◌, ℕ, Bool, true, false, cond, List, [], ◌∷◌, length, not, refl, sym, ap, ◌∙◌, Some, None, Option}
use Rattle.std.proofs.Common.{◌==◌, arith}
use Rattle.std.specs.List.{position, position_or_len, before_first, after_first, slice_split}
use Rattle.std.proofs.lemmas.Bool.{ltb-false}
use Rattle.std.proofs.lemmas.List.Elements.{All-from_get_or}
use Rattle.std.proofs.lemmas.List.Quantifiers.{position-Some}
use Rattle.std.proofs.lemmas.List.Splits.{slice_split_first, slice_split_none, length-slice_split}
use Rattle.std.proofs.lemmas.List.Sums.{position_or_len_is, prefix_len-le-length, fails_before_first}
use Rattle.std.specs.Borrow.{Bor}
use Rattle.tour_search.specs.Lines.{without_end}
use Rattle.tour_search.specs.inside.Left.{pieces_in}

-- that no element passes
none_chosen : (b : Bool) (i : ℕ) → cond b (Some i) None ≡ None → b ≡ false
none_chosen true i e = absurd cc
none_chosen false i e = refl

-- if no element passes, the cut is at the end
pub no_place : (p : ℕ → Bool) (xs : List ℕ) → position p xs ≡ None → position_or_len p xs ≡ length xs
no_place p xs e =
    let le : length xs ≤ position_or_len p xs = ltb-false (position_or_len p xs) (length xs) (none_chosen _ (position_or_len p xs) e) in
    omega (arith, prefix_len-le-length (λ x. not (p x)) xs)

-- the first piece, and the last one
pub first_piece : (p : ℕ → Bool) (text piece rest : List ℕ) → position_or_len p text < length text → piece ≡ before_first p text →
    rest ≡ after_first p text → slice_split p text ≡ piece ∷ slice_split p rest
first_piece p text piece rest lt e f = slice_split_first p text 0 lt ∙ rw (e, f) refl

-- a text without a cut is one piece
pub last_piece : (p : ℕ → Bool) (text : List ℕ) → position_or_len p text ≡ length text → slice_split p text ≡ text ∷ []
last_piece p text at = slice_split_none p text (All-from_get_or (λ x. p x ≡ false) text 0 (λ k lt.
    let before : k < position_or_len p text = omega arith in fails_before_first p text k 0 before))

-- Pieces without an empty one at the end.

-- an empty last piece is dropped
pub end_dropped : (piece : List ℕ) → piece ≡ [] → without_end (piece ∷ []) ≡ []
end_dropped piece e = ap (λ x. without_end (x ∷ [])) e

-- a piece that is not an empty last one is kept
pub kept_piece : (piece : List ℕ) (pieces : List (List ℕ)) → (piece ≡ [] → pieces ≡ [] → ⊥) →
    without_end (piece ∷ pieces) ≡ piece ∷ without_end pieces
kept_piece [] [] some = absurd (some refl refl)
kept_piece [] (x ∷ pieces) some = refl
kept_piece (b ∷ piece) pieces some = refl

-- some piece is to come of bytes
pub some_piece : (p : ℕ → Bool) (text : List ℕ) → slice_split p text ≡ [] → ⊥
some_piece p text e = let long = length-slice_split p text in let none : length (slice_split p text) ≡ 0 = ap length e in
    omega (arith, long, none)

-- where text is left, a piece is left
pub some_left : (rest : Option (Bor (List ℕ))) (at : ℕ) (text : Bor (List ℕ)) → rest ≡ Some text → pieces_in rest at ≡ [] → ⊥
some_left rest at text some left = some_piece (λ byte. byte == at) text.now (sym (ap (λ r. pieces_in r at) some) ∙ left)
