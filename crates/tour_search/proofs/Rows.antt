-- Rows of costs that are read word by word, and line by line.
use Rattle.std.proofs.Common.{◌≡◌, ◌<◌, ◌≤◌, ◌+◌, ◌-◌, ◌*◌, ℕ, zero, suc, Bool, true, false, cond, List, [], ◌∷◌, ◌++◌, length, All, Option}
use Rattle.std.proofs.Common.{Some, None, Result, Ok, Err, MatchOption, MatchBool, refl, sym, ap, ◌∙◌, subst, arith, append_assoc}
use Rattle.std.proofs.Common.{append-nil}
use Rattle.std.specs.Prelude.{codes}
use Rattle.std.specs.Borrow.{Bor}
use Rattle.std.specs.Str.{bytes_eq}
use Rattle.std.proofs.lemmas.List.{length-append}
use Rattle.std.proofs.lemmas.List.Elements.{All-nil, All-cons, All-append}
use Rattle.tour_search.specs.Cities.{AreCities, CitiesModel}
use Rattle.tour_search.specs.Lines.{is_long}
use Rattle.tour_search.specs.Numbers.{number_to}
use Rattle.tour_search.specs.Reading.{Read, before, cities_in, count_in, count_of, if_some, named_in, refused, row_in, row_of, rows_in}
use Rattle.tour_search.specs.Reading.{with_count, with_row, with_rows, words}
use Rattle.tour_search.specs.inside.Parts.{RefusedBy, head_read, onto, or_none, or_refused, row_read}
use Rattle.tour_search.specs.declared.faults.CitiesFault.{CitiesFault}
use Rattle.tour_search.specs.declared.faults.CitiesFault.TheVariants.{Memory, Refused}
use Rattle.tour_search.specs.declared.faults.CitiesWhy.{CitiesWhy}
use Rattle.tour_search.specs.declared.faults.CitiesWhy.TheVariants as why
use Rattle.tour_search.proofs.Written.{number_low}

-- One row.

-- what was read, and what is read after it
abbrev pub behind : List ℕ → Option (List ℕ) → Option (List ℕ)
behind done None = None
behind done (Some xs) = Some (done ++ xs)

behind_none : (o : Option (List ℕ)) → o ≡ behind [] o
behind_none None = refl
behind_none (Some xs) = refl

behind_more : (done : List ℕ) (x : ℕ) (o : Option (List ℕ)) → behind done (before (Some x) o) ≡ behind (done ++ x ∷ []) o
behind_more done x None = refl
behind_more done x (Some xs) = ap Some (sym (append_assoc done (x ∷ []) xs))

-- so far i of the n words of a row were read
pub record RowSoFar (n : ℕ) (words : List (List ℕ)) (first : List ℕ) (i : ℕ) (left : List (List ℕ)) (now : List ℕ) : Type 0 where
  pub done : List ℕ
  pub now_is : now ≡ first ++ done
  pub same : row_in n words ≡ behind done (row_in (n - i) left)

-- before its first word nothing of a row is read
pub row_start : (n : ℕ) (words : List (List ℕ)) (first : List ℕ) → RowSoFar n words first 0 words first
row_start n words first = record {
  done = [];
  now_is = sym (append-nil first);
  same = behind_none (row_in n words) ∙ ap (λ k. behind [] (row_in k words)) (let e : n ≡ n - 0 = omega arith in e);
}

-- the next word, by what is read of it
next_word : (n i : ℕ) (left rest : List (List ℕ)) (word : List ℕ) → i < n → left ≡ word ∷ rest →
    row_in (n - i) left ≡ before (number_to 1000000 word) (row_in (n - (i + 1)) rest)
unfolding row_in
next_word n i left rest word within e =
    let count : n - i ≡ suc (n - (i + 1)) = omega arith in
    ap (λ k. row_in k left) count ∙ ap (row_in (suc (n - (i + 1)))) e

-- one word of a row more is read
pub row_more : (n : ℕ) (words : List (List ℕ)) (first : List ℕ) (i : ℕ) (left rest : List (List ℕ)) (now new word : List ℕ) (x : ℕ) →
    RowSoFar n words first i left now → i < n → left ≡ word ∷ rest → number_to 1000000 word ≡ Some x → new ≡ now ++ x ∷ [] →
    RowSoFar n words first (i + 1) rest new
row_more n words first i left rest now new word x far within e is more = record {
  done = far.done ++ x ∷ [];
  now_is = more ∙ ap (λ l. l ++ x ∷ []) far.now_is ∙ append_assoc first far.done (x ∷ []);
  same = far.same ∙ ap (behind far.done) (next_word n i left rest word within e)
      ∙ ap (λ o. behind far.done (before o (row_in (n - (i + 1)) rest))) is ∙ behind_more far.done x (row_in (n - (i + 1)) rest);
}

-- a word that is no number makes its row bad
pub row_bad : (n : ℕ) (words : List (List ℕ)) (first : List ℕ) (i : ℕ) (left rest : List (List ℕ)) (now word : List ℕ) →
    RowSoFar n words first i left now → i < n → left ≡ word ∷ rest → number_to 1000000 word ≡ None → row_in n words ≡ None
row_bad n words first i left rest now word far within e is =
    far.same ∙ ap (behind far.done) (next_word n i left rest word within e)
    ∙ ap (λ o. behind far.done (before o (row_in (n - (i + 1)) rest))) is

-- a row with too few words is bad
pub row_short : (n : ℕ) (words : List (List ℕ)) (first : List ℕ) (i : ℕ) (left : List (List ℕ)) (now : List ℕ) →
    RowSoFar n words first i left now → i < n → left ≡ [] → row_in n words ≡ None
unfolding row_in
row_short n words first i left now far within e =
    let count : n - i ≡ suc (n - (i + 1)) = omega arith in
    far.same ∙ ap (λ k. behind far.done (row_in k left)) count ∙ ap (λ l. behind far.done (row_in (suc (n - (i + 1))) l)) e

-- a row with too many words is bad
pub row_over : (n : ℕ) (words : List (List ℕ)) (first : List ℕ) (i : ℕ) (left rest : List (List ℕ)) (now word : List ℕ) →
    RowSoFar n words first i left now → n ≤ i → left ≡ word ∷ rest → row_in n words ≡ None
unfolding row_in
row_over n words first i left rest now word far past e =
    let count : n - i ≡ 0 = omega arith in
    far.same ∙ ap (λ k. behind far.done (row_in k left)) count ∙ ap (λ l. behind far.done (row_in 0 l)) e

-- the row is whole
pub row_whole : (n : ℕ) (words : List (List ℕ)) (first : List ℕ) (i : ℕ) (left : List (List ℕ)) (now : List ℕ) →
    RowSoFar n words first i left now → n ≤ i → left ≡ [] → (row : List ℕ) × (row_in n words ≡ Some row) × (now ≡ first ++ row)
unfolding row_in
row_whole n words first i left now far past e =
    let count : n - i ≡ 0 = omega arith in
    let is : row_in n words ≡ Some (far.done ++ []) =
    far.same ∙ ap (λ k. behind far.done (row_in k left)) count ∙ ap (λ l. behind far.done (row_in 0 l)) e in
    (far.done, is ∙ ap Some (append-nil far.done), far.now_is)

-- as many costs as words, no cost above a million
pub record AreLow (n : ℕ) (costs : List ℕ) : Type 0 where
  pub long : length costs ≡ n
  pub low : All (λ x. x ≤ 1000000) costs

-- the ways of a row are within their limit
pub row_low : (n : ℕ) (words : List (List ℕ)) (row : List ℕ) → row_in n words ≡ Some row → AreLow n row
unfolding row_in
row_low zero [] row e = let is : [] ≡ row = cc in subst (AreLow 0) is (record { long = refl; low = All-nil (λ x. x ≤ 1000000) })
row_low zero (word ∷ rest) row e = absurd (cc)
row_low (suc n) [] row e = absurd (cc)
row_low (suc n) (word ∷ rest) row e = at (row_low n rest) (number_to 1000000 word) (row_in n rest) refl refl e
  where
    at : ((xs : List ℕ) → row_in n rest ≡ Some xs → AreLow n xs) → (o : Option ℕ) (r : Option (List ℕ)) → o ≡ number_to 1000000 word →
        r ≡ row_in n rest → before o r ≡ Some row → AreLow (suc n) row
    at on None r h i f = absurd (cc)
    at on (Some x) None h i f = absurd (cc)
    at on (Some x) (Some xs) h i f =
        let later = on xs (sym i) in
        let is : x ∷ xs ≡ row = cc in
        subst (AreLow (suc n)) is (record {
          long = ap suc later.long;
          low = All-cons (λ x. x ≤ 1000000) x xs (number_low 1000000 word x (sym h)) later.low;
        })

-- All rows.

onto_none : (r : Read (List ℕ)) → r ≡ onto [] r
onto_none (Ok rows) = refl
onto_none (Err fault) = refl

onto_more : (done row : List ℕ) (number : ℕ) (r : Read (List ℕ)) → onto done (with_row number (Some row) r) ≡ onto (done ++ row) r
onto_more done row number (Ok rows) = ap Ok (sym (append_assoc done row rows))
onto_more done row number (Err fault) = refl

-- so far i of the n rows were read
pub record RowsSoFar (n : ℕ) (all : List (List ℕ)) (i : ℕ) (left : List (List ℕ)) (now : List ℕ) : Type 0 where
  pub same : rows_in n n 2 all ≡ onto now (rows_in n (n - i) (2 + i) left)

-- before the first line no row is read
pub rows_start : (n : ℕ) (all : List (List ℕ)) → RowsSoFar n all 0 all []
rows_start n all = record {
  same = onto_none (rows_in n n 2 all) ∙ ap (λ k. onto [] (rows_in n k 2 all)) (let e : n ≡ n - 0 = omega arith in e);
}

-- a line that is the next, if there is one
abbrev pub IsNextOf : Option (Bor (List ℕ)) → List (List ℕ) → List (List ℕ) → Type 0
IsNextOf o left rest = MatchOption o (left ≡ []) (λ line. left ≡ line.now ∷ rest)

-- what the next line is to the rows
by_line : (n left number : ℕ) (line : List ℕ) (rest : List (List ℕ)) (fault : ℕ × CitiesWhy) →
    (if_long : Bool) → if_long ≡ is_long line
    → cond if_long (refused {X = List ℕ} number why.Long) (or_refused number (row_of n line)) ≡ Err fault →
    cond if_long (refused {X = List ℕ} number why.Long) (with_row number (row_of n line) (rows_in n left (number + 1) rest)) ≡ Err fault
by_line n left number line rest fault true h e = e
by_line n left number line rest fault false h e = at (row_of n line) e
  where
    at : (o : Option (List ℕ)) → or_refused number o ≡ Err fault → with_row number o (rows_in n left (number + 1) rest) ≡ Err fault
    at None f = f
    at (Some row) f = absurd (cc)

-- a line that is refused is refused in the whole text
pub rows_fault : (n : ℕ) (all : List (List ℕ)) (i : ℕ) (left rest : List (List ℕ)) (now : List ℕ) (o : Option (Bor (List ℕ))) (number : ℕ)
    (fault : ℕ × CitiesWhy) → RowsSoFar n all i left now → i < n → number ≡ 2 + i → IsNextOf o left rest → row_read n number o ≡ Err fault →
    rows_in n n 2 all ≡ Err fault
unfolding rows_in
rows_fault n all i left rest now None number fault far within at is bad =
    let count : n - i ≡ suc (n - (i + 1)) = omega arith in
    far.same ∙ ap (λ k. onto now (rows_in n k (2 + i) left)) count ∙ ap (λ l. onto now (rows_in n (suc (n - (i + 1))) (2 + i) l)) is
    ∙ ap (λ k. onto now (refused k why.Cost)) (sym at) ∙ ap (onto now) bad
rows_fault n all i left rest now (Some line) number fault far within at is bad =
    let count : n - i ≡ suc (n - (i + 1)) = omega arith in
    far.same ∙ ap (λ k. onto now (rows_in n k (2 + i) left)) count ∙ ap (λ l. onto now (rows_in n (suc (n - (i + 1))) (2 + i) l)) is
    ∙ ap (λ k. onto now (rows_in n (suc (n - (i + 1))) k (line.now ∷ rest))) (sym at)
    ∙ ap (onto now) (by_line n (n - (i + 1)) number line.now rest fault (is_long line.now) refl bad)

good_line : (n left number : ℕ) (line row : List ℕ) (rest : List (List ℕ)) →
    (if_long : Bool) → if_long ≡ is_long line
    → cond if_long (refused {X = List ℕ} number why.Long) (or_refused number (row_of n line)) ≡ Ok row →
    cond if_long (refused {X = List ℕ} number why.Long) (with_row number (row_of n line) (rows_in n left (number + 1) rest))
    ≡ with_row number (Some row) (rows_in n left (number + 1) rest)
good_line n left number line row rest true h e = absurd (cc)
good_line n left number line row rest false h e = at (row_of n line) e
  where
    at : (o : Option (List ℕ)) → or_refused number o ≡ Ok row →
        with_row number o (rows_in n left (number + 1) rest) ≡ with_row number (Some row) (rows_in n left (number + 1) rest)
    at None f = absurd (cc)
    at (Some r) f = let same : r ≡ row = cc in ap (λ x. with_row number (Some x) (rows_in n left (number + 1) rest)) same

-- one row more is read
pub rows_more : (n : ℕ) (all : List (List ℕ)) (i : ℕ) (left rest : List (List ℕ)) (now new row : List ℕ) (o : Option (Bor (List ℕ)))
    (number : ℕ) → RowsSoFar n all i left now → i < n → number ≡ 2 + i → IsNextOf o left rest → row_read n number o ≡ Ok row →
    new ≡ now ++ row → RowsSoFar n all (i + 1) rest new
unfolding rows_in
rows_more n all i left rest now new row None number far within at is good more = absurd (cc)
rows_more n all i left rest now new row (Some line) number far within at is good more =
    let count : n - i ≡ suc (n - (i + 1)) = omega arith in
    let next : number + 1 ≡ 2 + (i + 1) = omega (arith, at) in
    record {
      same = far.same ∙ ap (λ k. onto now (rows_in n k (2 + i) left)) count
          ∙ ap (λ l. onto now (rows_in n (suc (n - (i + 1))) (2 + i) l)) is
          ∙ ap (λ k. onto now (rows_in n (suc (n - (i + 1))) k (line.now ∷ rest))) (sym at)
          ∙ ap (onto now) (good_line n (n - (i + 1)) number line.now row rest (is_long line.now) refl good)
          ∙ onto_more now row number (rows_in n (n - (i + 1)) (number + 1) rest)
          ∙ ap (λ k. onto (now ++ row) (rows_in n (n - (i + 1)) k rest)) next
          ∙ ap (λ l. onto l (rows_in n (n - (i + 1)) (2 + (i + 1)) rest)) (sym more);
    }

-- after the last row, with no line left, all are read
pub rows_whole : (n : ℕ) (all : List (List ℕ)) (i : ℕ) (left : List (List ℕ)) (now : List ℕ) → RowsSoFar n all i left now → n ≤ i →
    left ≡ [] → rows_in n n 2 all ≡ Ok now
unfolding rows_in
rows_whole n all i left now far past e =
    let count : n - i ≡ 0 = omega arith in
    far.same ∙ ap (λ k. onto now (rows_in n k (2 + i) left)) count ∙ ap (λ l. onto now (rows_in n 0 (2 + i) l)) e
    ∙ ap Ok (append-nil now)

-- a line after the last row is refused
pub rows_over : (n : ℕ) (all : List (List ℕ)) (i : ℕ) (left rest : List (List ℕ)) (now line : List ℕ) (number : ℕ) (reason : CitiesWhy) →
    RowsSoFar n all i left now → n ≤ i → number ≡ 2 + i → left ≡ line ∷ rest → cond (is_long line) why.Long why.Extra ≡ reason →
    rows_in n n 2 all ≡ Err (number, reason)
unfolding rows_in
rows_over n all i left rest now line number reason far past at e is =
    let count : n - i ≡ 0 = omega arith in
    far.same ∙ ap (λ k. onto now (rows_in n k (2 + i) left)) count ∙ ap (λ l. onto now (rows_in n 0 (2 + i) l)) e
    ∙ ap (λ k. onto now (refused k (cond (is_long line) why.Long why.Extra))) (sym at)
    ∙ ap (λ (r : CitiesWhy). onto now (refused number r)) is

-- all costs are low, and there are as many as there are to be
pub rows_low : (n left number : ℕ) (lines : List (List ℕ)) (rows : List ℕ) → rows_in n left number lines ≡ Ok rows → AreLow (left * n) rows
unfolding rows_in
rows_low n zero number [] rows e =
    let is : [] ≡ rows = cc in
    subst (AreLow (0 * n)) is (record { long = omega arith; low = All-nil (λ x. x ≤ 1000000) })
rows_low n zero number (line ∷ lines) rows e = absurd (cc)
rows_low n (suc left) number [] rows e = absurd (cc)
rows_low n (suc left) number (line ∷ lines) rows e =
    at (rows_low n left (number + 1) lines) (is_long line) (row_of n line) (rows_in n left (number + 1) lines) refl refl e
  where
    at : ((xs : List ℕ) → rows_in n left (number + 1) lines ≡ Ok xs → AreLow (left * n) xs) → (long : Bool) (o : Option (List ℕ))
        (r : Read (List ℕ)) → o ≡ row_of n line → r ≡ rows_in n left (number + 1) lines →
        cond long (refused {X = List ℕ} number why.Long) (with_row number o r) ≡ Ok rows → AreLow (suc left * n) rows
    at on true o r h i f = absurd (cc)
    at on false None r h i f = absurd (cc)
    at on false (Some row) (Err fault) h i f = absurd (cc)
    at on false (Some row) (Ok more) h i f =
        let is : row ++ more ≡ rows = cc in
        let first = row_low n _ row (sym h) in
        let later = on more (sym i) in
        subst (AreLow (suc left * n)) is (record {
          long = omega (arith, length-append row more, first.long, later.long);
          low = All-append (λ x. x ≤ 1000000) row more first.low later.low;
        })

-- The cities.

-- rows that are read make cities
pub are_cities : (n : ℕ) (lines : List (List ℕ)) (rows : List ℕ) → 1 ≤ n → n ≤ 12 → rows_in n n 2 lines ≡ Ok rows →
    AreCities (record { count = n; rows = rows })
are_cities n lines rows some few e =
    let are = rows_low n n 2 lines rows e in
    record { some = some; few = few; long = are.long; low = are.low }

-- a number of cities that is read is from 1 to 12
pub count_low : (words : List (List ℕ)) (n : ℕ) → count_in words ≡ Some n → (1 ≤ n) × (n ≤ 12)
unfolding count_in
count_low [] n e = absurd (cc)
count_low (name ∷ []) n e = absurd (cc)
count_low (name ∷ number ∷ []) n e = at (bytes_eq name (codes "cities")) (number_to 12 number) refl e
  where
    at : (b : Bool) (o : Option ℕ) → o ≡ number_to 12 number → cond b (if_some o) None ≡ Some n → (1 ≤ n) × (n ≤ 12)
    at true None h f = absurd (cc)
    at true (Some zero) h f = absurd (cc)
    at true (Some (suc k)) h f =
        let is : suc k ≡ n = cc in
        let low = number_low 12 number (suc k) (sym h) in
        (omega (arith, is), omega (arith, is, low))
    at false o h f = absurd (cc)
count_low (name ∷ number ∷ more ∷ rest) n e = absurd (cc)

-- The words of the first line, by what is left of them.

-- without a word there is no number of cities
pub count_none : (all : List (List ℕ)) → all ≡ [] → count_in all ≡ None
unfolding count_in
count_none all e = ap count_in e

-- a single word is no number of cities
pub count_one : (all left : List (List ℕ)) (name : List ℕ) → all ≡ name ∷ left → left ≡ [] → count_in all ≡ None
unfolding count_in
count_one all left name e f = ap count_in e ∙ ap (λ l. count_in (name ∷ l)) f

-- two words are read as the name and the number
pub count_two : (all left rest : List (List ℕ)) (name number : List ℕ) → all ≡ name ∷ left → left ≡ number ∷ rest → rest ≡ [] →
    count_in all ≡ named_in name number
unfolding count_in
count_two all left rest name number e f g =
    ap count_in e ∙ ap (λ l. count_in (name ∷ l)) f ∙ ap (λ l. count_in (name ∷ number ∷ l)) g

count_many : (rest : List (List ℕ)) (name number : List ℕ) → (rest ≡ [] → ⊥) → count_in (name ∷ number ∷ rest) ≡ None
unfolding count_in
count_many [] name number more = absurd (more refl)
count_many (word ∷ rest) name number more = refl

-- more than two words are no number of cities
pub count_more : (all left rest : List (List ℕ)) (name number : List ℕ) → all ≡ name ∷ left → left ≡ number ∷ rest → (rest ≡ [] → ⊥) →
    count_in all ≡ None
count_more all left rest name number e f more =
    ap count_in e ∙ ap (λ l. count_in (name ∷ l)) f ∙ count_many rest name number more

-- the row ends with its words, or it does not
pub row_ends : (b : Bool) (n : ℕ) (words : List (List ℕ)) (first : List ℕ) (i : ℕ) (left : List (List ℕ)) (now : List ℕ) →
    RowSoFar n words first i left now → n ≤ i → (b ≡ true → left ≡ []) → (b ≡ false → left ≡ [] → ⊥) →
    MatchBool b ((row : List ℕ) × (row_in n words ≡ Some row) × (now ≡ first ++ row)) (row_in n words ≡ None)
row_ends true n words first i left now far past done more = row_whole n words first i left now far past (done refl)
row_ends false n words first i [] now far past done more = absurd (more refl refl)
row_ends false n words first i (word ∷ rest) now far past done more = row_over n words first i (word ∷ rest) rest now word far past refl

-- The whole input.

-- a refusal at a line is that of the text
pub refused_as : {X : Type 0} (read : Read X) (fault : CitiesFault) → RefusedBy {Y = X} read (Err fault) → (line : ℕ) (reason : CitiesWhy) →
    fault ≡ Refused line reason → read ≡ Err (line, reason)
refused_as read (Refused l w) is line reason e =
    let f : l ≡ line = cc in
    let g : w ≡ reason = cc in
    is ∙ ap (λ k. Err (k, w)) f ∙ ap (λ r. Err (line, r)) g
refused_as read Memory is line reason e = absurd (cc)

head_line : (lines : List (List ℕ)) (line : List ℕ) (if_long : Bool) (o : Option ℕ) (fault : ℕ × CitiesWhy) →
    cond if_long (refused {X = ℕ} 1 why.Long) (or_none o) ≡ Err fault →
    cond if_long (refused {X = CitiesModel} 1 why.Long) (with_count o lines) ≡ Err fault
head_line lines line true o fault e = let f : (1, why.Long) ≡ fault = cc in ap Err f
head_line lines line false None fault e = let f : (1, why.Cities) ≡ fault = cc in ap Err f
head_line lines line false (Some n) fault e = absurd (cc)

-- a first line that is refused is refused in the whole text
pub head_refused : (all rest : List (List ℕ)) (o : Option (Bor (List ℕ))) (fault : ℕ × CitiesWhy) → IsNextOf o all rest →
    head_read o ≡ Err fault → cities_in all ≡ Err fault
unfolding cities_in
head_refused all rest None fault is e = ap cities_in is ∙ (let f : (1, why.Cities) ≡ fault = cc in ap Err f)
head_refused all rest (Some line) fault is e =
    ap cities_in is ∙ head_line rest line.now (is_long line.now) (count_of line.now) fault e

head_good : (lines : List (List ℕ)) (line : List ℕ) (if_long : Bool) (o : Option ℕ) (n : ℕ) →
    cond if_long (refused {X = ℕ} 1 why.Long) (or_none o) ≡ Ok n →
    cond if_long (refused {X = CitiesModel} 1 why.Long) (with_count o lines) ≡ with_rows n (rows_in n n 2 lines)
head_good lines line true o n e = absurd (cc)
head_good lines line false None n e = absurd (cc)
head_good lines line false (Some m) n e = let f : m ≡ n = cc in ap (λ k. with_rows k (rows_in k k 2 lines)) f

-- a first line with a number of cities is followed by their rows
pub head_is : (all rest : List (List ℕ)) (o : Option (Bor (List ℕ))) (n : ℕ) → IsNextOf o all rest → head_read o ≡ Ok n →
    cities_in all ≡ with_rows n (rows_in n n 2 rest)
unfolding cities_in
head_is all rest None n is e = absurd (cc)
head_is all rest (Some line) n is e =
    ap cities_in is ∙ head_good rest line.now (is_long line.now) (count_of line.now) n e

low_by : (if_long : Bool) (o : Option ℕ) (n : ℕ) → cond if_long (refused {X = ℕ} 1 why.Long) (or_none o) ≡ Ok n → o ≡ Some n
low_by true o n e = absurd (cc)
low_by false None n e = absurd (cc)
low_by false (Some m) n e = let f : m ≡ n = cc in ap Some f

-- a first line that is read gives 1 to 12 cities
pub head_low : (o : Option (Bor (List ℕ))) (n : ℕ) → head_read o ≡ Ok n → (1 ≤ n) × (n ≤ 12)
head_low None n e = absurd (cc)
head_low (Some line) n e = count_low (words line.now) n (low_by (is_long line.now) (count_of line.now) n e)
