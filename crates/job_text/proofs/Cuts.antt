-- Lists that are cut at their first element that passes a test.
use Rattle.std.proofs.Common.{◌≡◌, ◌<◌, ◌≤◌, ℕ, Bool, true, false, cond, List, [], ◌∷◌, length, map, not, refl, sym, ap, ◌∙◌, Some, None}
use Rattle.std.proofs.Common.{arith}
use Rattle.std.specs.List.{position, position_or_len, before_first, after_first}
use Rattle.std.specs.Str.Lines.{strip_carriage_return}
use Rattle.std.proofs.lemmas.Bool.{ltb-false}
use Rattle.std.proofs.lemmas.List.{take_all}
use Rattle.std.proofs.lemmas.List.Elements.{All-from_get_or}
use Rattle.std.proofs.lemmas.List.Quantifiers.{position-Some}
use Rattle.std.proofs.lemmas.List.Splits.{slice_split_first, slice_split_none}
use Rattle.std.proofs.lemmas.List.Sums.{position_or_len_is, prefix_len-le-length, fails_before_first}
use Rattle.job_text.specs.Lines.{is_line_feed, lines}

-- the place of the first element that passes, and that there is no such element
pub place_is : (p : ℕ → Bool) (xs : List ℕ) (i : ℕ) → position p xs ≡ Some i → position_or_len p xs ≡ i
place_is p xs i e = let s = position-Some p xs i 0 e in position_or_len_is p xs i 0 (omega arith) s.2 (λ lt. s.1)

none_chosen : (b : Bool) (i : ℕ) → cond b (Some i) None ≡ None → b ≡ false
none_chosen true i e = absurd cc
none_chosen false i e = refl

-- if no element passes, the cut is at the end
pub no_place : (p : ℕ → Bool) (xs : List ℕ) → position p xs ≡ None → position_or_len p xs ≡ length xs
no_place p xs e =
    let le : length xs ≤ position_or_len p xs = ltb-false (position_or_len p xs) (length xs) (none_chosen _ (position_or_len p xs) e) in
    omega (arith, prefix_len-le-length (λ x. not (p x)) xs)

-- if no element passes, the list is all before the first that does
pub all_before : (p : ℕ → Bool) (xs : List ℕ) → position p xs ≡ None → xs ≡ before_first p xs
all_before p xs e = let at : position_or_len p xs ≡ length xs = no_place p xs e in sym (take_all (position_or_len p xs) xs (omega arith))

-- lines that are cut at their first line feed
pub first_line : (text line rest : List ℕ) → position_or_len is_line_feed text < length text → line ≡ before_first is_line_feed text
    → rest ≡ after_first is_line_feed text → lines text ≡ strip_carriage_return line ∷ lines rest
first_line text line rest lt p q = ap (map strip_carriage_return) (slice_split_first is_line_feed text 0 lt) ∙ rw (p, q) refl

-- a text without a line feed is one line
pub last_line : (text : List ℕ) → position_or_len is_line_feed text ≡ length text → lines text ≡ strip_carriage_return text ∷ []
last_line text at =
    ap (map strip_carriage_return) (slice_split_none is_line_feed text (All-from_get_or (λ x. is_line_feed x ≡ false) text 0 (λ k lt.
    let before : k < position_or_len is_line_feed text = omega arith in fails_before_first is_line_feed text k 0 before)))
