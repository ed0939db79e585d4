-- What is answered of the bytes of 'abcabc' and of none, by computation.
use Rattle.std.proofs.Common.{◌≡◌, ℕ, List, [], ◌∷◌, sum, refl}
use Rattle.lane_bytes.specs.Answers.{count_from, greatest}

abbrev letters : List ℕ
letters = 97 ∷ 98 ∷ 99 ∷ 97 ∷ 98 ∷ 99 ∷ []

letters_are_answered : (count_from 97 98 letters ≡ 4) × (sum letters ≡ 588) × (greatest letters ≡ 99)
letters_are_answered = (refl, refl, refl)

turned_range_counts_nothing : count_from 98 97 letters ≡ 0
turned_range_counts_nothing = refl

none_is_answered : (count_from 0 255 [] ≡ 0) × (sum [] ≡ 0) × (greatest [] ≡ 0)
none_is_answered = (refl, refl, refl)
