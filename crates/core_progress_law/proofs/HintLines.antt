-- From one server to another two hints of a rank are under way at most: one before the last answer about the rank, and one after it.
use Rattle.adlb_unit.specs.Links.{place_of}
use Rattle.adlb_unit.specs.declared.configs.Config.{Config}
use Rattle.adlb_unit.specs.declared.letters.Letter.{Letter}
use Rattle.adlb_unit.specs.declared.letters.Sending.{Sending}
use Rattle.adlb_unit.specs.declared.messages.Message.{Message}
use Rattle.adlb_unit.specs.declared.names.Rank.{Rank}
use Rattle.core_wish_law.proofs.Wishes.{wishes_of}
use Rattle.core_law.proofs.Fifo.{letters_for}
use Rattle.core_law.proofs.Sums.{weigh-append}
use Rattle.core_law.specs.Letters.{one, remote_letter}
use Rattle.core_law.specs.Measures.{weigh}
use Rattle.core_law.specs.OnLinks.{Each}
use Rattle.server_components.specs.Parked.{is_by}
use Rattle.server_components.specs.declared.wishes.Wish.{Wish}
use Rattle.server_law.specs.Acts.{unwished}
use Rattle.std.proofs.Common.{Bool, List, [], ap, arith, cond, false, not, refl, sym, true, ℕ, ◌++◌, ◌+◌, ◌==◌, ◌∙◌, ◌∷◌, ◌≡◌, ◌≢◌, ◌≤◌}
use Rattle.std.proofs.Common.{eqb}
use Rattle.std.proofs.lemmas.Bool.{eqb-true}
use Rattle.adlb_unit.specs.declared.messages.Message.TheVariants as tells

-- how many hints of a rank there are before the last answer about it, and after that
pub record Split : Type 0 where
  pub early : ℕ
  pub late : ℕ

-- before the first letter
abbrev pub none_yet : Split
none_yet = record { early = 0; late = 0 }

-- an answer comes, if it is about the rank
abbrev pub answered : Bool → Split → Split
answered true x = record { early = x.early + x.late; late = 0 }
answered false x = x

-- a letter more
abbrev pub next_split : ℕ → Split → Message → Split
next_split r x (tells.Hint rank request) = record { early = x.early; late = x.late + one (rank.0 == r) }
next_split r x (tells.AskGrant rank request note) = answered (rank.0 == r) x
next_split r x (tells.AskNone rank request) = answered (rank.0 == r) x
next_split r x _ = x

-- letters one after the other
abbrev pub split : ℕ → Split → List Letter → Split
split r x [] = x
split r x (l ∷ ls) = split r (next_split r x l.message) ls

-- More letters.

-- letters are split one after the other
pub split_append : (r : ℕ) (x : Split) (ls more : List Letter) → split r x (ls ++ more) ≡ split r (split r x ls) more
split_append r x [] more = refl
split_append r x (l ∷ ls) more = split_append r (next_split r x l.message) ls more

-- neither a hint nor an answer about a rank
abbrev pub is_plain : Message → Bool
is_plain (tells.Hint rank request) = false
is_plain (tells.AskGrant rank request note) = false
is_plain (tells.AskNone rank request) = false
is_plain _ = true

plain_next : (r : ℕ) (x : Split) (m : Message) → is_plain m ≡ true → next_split r x m ≡ x
plain_next r x (tells.Hint rank request) is = absurd (cc)
plain_next r x (tells.AskGrant rank request note) is = absurd (cc)
plain_next r x (tells.AskNone rank request) is = absurd (cc)
plain_next r x _ is = refl

-- plain letters change nothing
pub plain_split : (r : ℕ) (x : Split) (ls : List Letter) → Each (λ (l : Letter). is_plain l.message ≡ true) ls → split r x ls ≡ x
plain_split r x [] plain = refl
plain_split r x (l ∷ ls) plain =
    ap (λ (y : Split). split r y ls) (plain_next r x l.message plain.0) ∙ plain_split r x ls plain.1

-- what goes to one place of letters that are plain
pub plain_for : (config : Config) (b : ℕ) (sends : List Sending) → Each (λ (x : Sending). is_plain x.letter.message ≡ true) sends
    → Each (λ (l : Letter). is_plain l.message ≡ true) (letters_for config b sends)
plain_for config b [] plain = tt
plain_for config b (x ∷ sends) plain = by_test (eqb (place_of config x.to) b) (plain_for config b sends plain.1)
  where
    by_test : (t : Bool) → Each (λ (l : Letter). is_plain l.message ≡ true) (letters_for config b sends)
        → Each (λ (l : Letter). is_plain l.message ≡ true) (cond t (x.letter ∷ letters_for config b sends) (letters_for config b sends))
    by_test true later = (plain.0, later)
    by_test false later = later

-- Fewer letters.

-- no more hints before the last answer and after it
pub record IsLess (x y : Split) : Type 0 where
  pub early : x.early ≤ y.early
  pub late : x.late ≤ y.late

answered_less : (t : Bool) (x y : Split) → IsLess x y → IsLess (answered t x) (answered t y)
answered_less true x y less = record { early = let a = less.early in let b = less.late in omega arith; late = omega arith }
answered_less false x y less = less

next_less : (r : ℕ) (x y : Split) (m : Message) → IsLess x y → IsLess (next_split r x m) (next_split r y m)
next_less r x y (tells.Hint rank request) less = record { early = less.early; late = let b = less.late in omega arith }
next_less r x y (tells.AskGrant rank request note) less = answered_less (rank.0 == r) x y less
next_less r x y (tells.AskNone rank request) less = answered_less (rank.0 == r) x y less
next_less r x y _ less = less

split_less : (r : ℕ) (x y : Split) (ls : List Letter) → IsLess x y → IsLess (split r x ls) (split r y ls)
split_less r x y [] less = less
split_less r x y (l ∷ ls) less =
    split_less r (next_split r x l.message) (next_split r y l.message) ls (next_less r x y l.message less)

none_less : (x : Split) → IsLess none_yet x
none_less x = record { early = omega arith; late = omega arith }

-- without the front letter
pub rest_less : (r : ℕ) (l : Letter) (rest : List Letter) → IsLess (split r none_yet rest) (split r none_yet (l ∷ rest))
rest_less r l rest = split_less r none_yet (next_split r none_yet l.message) rest (none_less (next_split r none_yet l.message))

-- Where no answer about the rank is under way, no hint of it is before one.

next_early : (r : Rank) (x : Split) (m : Message) → remote_letter r m ≡ 0 → x.early ≡ 0 → (next_split r.0 x m).early ≡ 0
next_early r x (tells.AskGrant rank request note) none zero_early = by_test (rank.0 == r.0) none
  where
    by_test : (t : Bool) → one t ≡ 0 → (answered t x).early ≡ 0
    by_test true weighs = absurd (omega arith)
    by_test false weighs = zero_early
next_early r x (tells.AskNone rank request) none zero_early = by_test (rank.0 == r.0) none
  where
    by_test : (t : Bool) → one t ≡ 0 → (answered t x).early ≡ 0
    by_test true weighs = absurd (omega arith)
    by_test false weighs = zero_early
next_early r x _ none zero_early = zero_early

-- where no answer about the rank is on a link, no hint is before one
pub none_early : (r : Rank) (x : Split) (ls : List Letter) → Each (λ (l : Letter). remote_letter r l.message ≡ 0) ls → x.early ≡ 0
    → (split r.0 x ls).early ≡ 0
none_early r x [] none zero_early = zero_early
none_early r x (l ∷ ls) none zero_early =
    none_early r (next_split r.0 x l.message) ls none.1 (next_early r x l.message none.0 zero_early)

-- How many there are.

-- a hint of this rank weighs 1
abbrev pub hint_weight : ℕ → Message → ℕ
hint_weight r (tells.Hint rank request) = one (rank.0 == r)
hint_weight r _ = 0

answered_sum : (t : Bool) (x : Split) → (answered t x).early + (answered t x).late ≡ x.early + x.late
answered_sum true x = omega arith
answered_sum false x = refl

next_sum : (r : ℕ) (x : Split) (m : Message) → (next_split r x m).early + (next_split r x m).late ≡ x.early + x.late + hint_weight r m
next_sum r x (tells.Hint rank request) = omega arith
next_sum r x (tells.AskGrant rank request note) = let sum = answered_sum (rank.0 == r) x in omega arith
next_sum r x (tells.AskNone rank request) = let sum = answered_sum (rank.0 == r) x in omega arith
next_sum r x _ = omega arith

-- how many hints there are
pub split_sum : (r : ℕ) (x : Split) (ls : List Letter)
    → (split r x ls).early + (split r x ls).late ≡ x.early + x.late + weigh (λ (l : Letter). hint_weight r l.message) ls
split_sum r x [] = omega arith
split_sum r x (l ∷ ls) =
    let here = next_sum r x l.message in let later = split_sum r (next_split r x l.message) ls in omega arith

-- Wishes of a rank.

-- taking off one rank's wish leaves those of others
pub other_wishes : (rank : Rank) (r : ℕ) (wishes : List Wish) → rank.0 ≢ r → wishes_of r (unwished rank wishes) ≡ wishes_of r wishes
unfolding wishes_of
other_wishes rank r [] differs = refl
other_wishes rank r (w ∷ wishes) differs = by_test (other_wishes rank r wishes differs) (is_by rank w) refl
  where
    by_test : wishes_of r (unwished rank wishes) ≡ wishes_of r wishes → (t : Bool) → is_by rank w ≡ t
        → wishes_of r (cond (not t) (w ∷ unwished rank wishes) (unwished rank wishes)) ≡ wishes_of r (w ∷ wishes)
    by_test later false is = omega arith
    by_test later true is = by_rank (w.rank.0 == r) refl
      where
        by_rank : (b : Bool) → (w.rank.0 == r) ≡ b → wishes_of r (unwished rank wishes) ≡ wishes_of r (w ∷ wishes)
        by_rank true same = absurd (differs (sym (eqb-true w.rank.0 rank.0 is) ∙ eqb-true w.rank.0 r same))
        by_rank false same = let none : one (w.rank.0 == r) ≡ 0 = ap one same in omega arith

-- one wish more
pub own_wish : (r : ℕ) (wish : Wish) (wishes : List Wish) → wishes_of r (wishes ++ wish ∷ []) ≡ wishes_of r wishes + one (wish.rank.0 == r)
unfolding wishes_of
own_wish r wish wishes = let sum = weigh-append (λ (w : Wish). one (w.rank.0 == r)) wishes (wish ∷ []) in omega arith
