-- Common parts, written and read back.
use Rattle.std.proofs.Common.{◌≡◌, ◌<◌, ◌≤◌, Result, Ok, Err, IfOk, ◌+◌, ◌-◌, ◌*◌, ◌^◌, ◌&&◌, ℕ, zero, suc, Bool, true, false, cond, List}
use Rattle.std.proofs.Common.{[], ◌∷◌, ◌++◌, length, take, drop, All, get_or, Option, Some, None, refl, sym, ap, ◌∙◌, subst, arith}
use Rattle.std.proofs.Common.{append_assoc, append-nil, length-append, length-drop}
use Rattle.std.specs.Prelude.{flat_map, nat_le}
use Rattle.std.specs.Int.{from_be_bytes, to_be_bytes, w32}
use Rattle.std.proofs.lemmas.Bool.{and_from, and_parts, cond-true, leb-true, le-leb}
use Rattle.std.proofs.lemmas.List.{take_more}
use Rattle.std.proofs.lemmas.List.Elements.{All-head, All-tail}
use Rattle.std.proofs.lemmas.Nat.{from_be_bytes-to_be_bytes_4, mul-le}
use Rattle.tour_law.proofs.Once.{tour-long}
use Rattle.tour_law.specs.Tours.{IsTour}
use Rattle.tour_search.specs.Cities.{AreCities, CitiesModel}
use Rattle.tour_app.specs.Bodies.{behind_words, common_part, is_sized, shared, start_if, start_of, words, words_in}
use Rattle.tour_app.specs.Starts.{IsStart, StartModel, is_whole}
use Rattle.tour_app.proofs.Lists.{flat-append}
use Rattle.tour_app.proofs.StartTests.{IsWhole, test_of_whole, whole_of_test}

-- A list end to end, one piece more.

-- one element more of what is written
pub flat_step : (f : ℕ → List ℕ) (first xs : List ℕ) (i : ℕ) → i < length xs →
    (first ++ flat_map f (take i xs)) ++ f (get_or xs i 0) ≡ first ++ flat_map f (take (i + 1) xs)
flat_step f first xs i below =
    append_assoc first (flat_map f (take i xs)) (f (get_or xs i 0))
    ∙ ap (λ l. first ++ l) (sym (ap (flat_map f) (take_more xs i 0 below) ∙ flat-append f (take i xs) (get_or xs i 0 ∷ [])
    ∙ ap (λ l. flat_map f (take i xs) ++ l) (append-nil (f (get_or xs i 0)))))

-- each number is written as four bytes
pub length-words : (rows : List ℕ) → length (words rows) ≡ 4 * length rows
length-words [] = refl
length-words (x ∷ rows) = let more = length-words rows in omega (arith, more)

-- Numbers that are read one by one.

-- what is read so far: some numbers, and what follows them
pub record WordsSoFar (count : ℕ) (bytes first : List ℕ) (i : ℕ) (rest now : List ℕ) : Type 0 where
  pub read : now ++ words_in (count - i) rest ≡ first ++ words_in count bytes
  pub behind : behind_words (count - i) rest ≡ behind_words count bytes
  pub enough : 4 * (count - i) ≤ length rest

-- before the first number nothing is read
pub words_start : (count : ℕ) (bytes first : List ℕ) → 4 * count ≤ length bytes → WordsSoFar count bytes first 0 bytes first
words_start count bytes first enough =
    let e : count - 0 ≡ count = omega arith in
    record {
      read = ap (λ k. first ++ words_in k bytes) e;
      behind = ap (λ k. behind_words k bytes) e;
      enough = omega arith;
    }

-- one number more is read
pub words_more : (count : ℕ) (bytes first : List ℕ) (i : ℕ) (rest now next new : List ℕ) (x : ℕ) → WordsSoFar count bytes first i rest now →
    i < count → x ≡ from_be_bytes w32 (take 4 rest) → next ≡ drop 4 rest → new ≡ now ++ x ∷ []
    → WordsSoFar count bytes first (i + 1) next new
unfolding words_in behind_words
words_more count bytes first i rest now next new x far within is on more =
    let step : count - i ≡ suc (count - (i + 1)) = omega arith in
    let left : ℕ = count - (i + 1) in
    record {
      read = ap (λ l. l ++ words_in left next) more
          ∙ ap (λ l. (now ++ x ∷ []) ++ words_in left l) on
          ∙ append_assoc now (x ∷ []) (words_in left (drop 4 rest))
          ∙ ap (λ y. now ++ y ∷ words_in left (drop 4 rest)) is
          ∙ ap (λ k. now ++ words_in k rest) (sym step) ∙ far.read;
      behind = ap (behind_words left) on ∙ ap (λ k. behind_words k rest) (sym step) ∙ far.behind;
      enough = let long = length-drop 4 rest in let short = ap length on in omega (arith, far.enough, long, short);
    }

-- after the last number all are read
pub words_end : (count : ℕ) (bytes first : List ℕ) (i : ℕ) (rest now : List ℕ) → WordsSoFar count bytes first i rest now → count ≤ i →
    now ≡ first ++ words_in count bytes
unfolding words_in
words_end count bytes first i rest now far past =
    let none : count - i ≡ 0 = omega arith in
    sym (append-nil now) ∙ sym (ap (λ k. now ++ words_in k rest) none) ∙ far.read

-- after the last number what follows is left
pub behind_end : (count : ℕ) (bytes first : List ℕ) (i : ℕ) (rest now : List ℕ) → WordsSoFar count bytes first i rest now → count ≤ i →
    rest ≡ behind_words count bytes
unfolding behind_words
behind_end count bytes first i rest now far past =
    let none : count - i ≡ 0 = omega arith in
    sym (ap (λ k. behind_words k rest) none) ∙ far.behind

-- What is read has as many numbers.

-- as many numbers are read as are asked for
pub length-words_in : (n : ℕ) (bytes : List ℕ) → length (words_in n bytes) ≡ n
unfolding words_in
length-words_in zero bytes = refl
length-words_in (suc n) bytes = ap suc (length-words_in n (drop 4 bytes))

-- Numbers are read back.

words_back : (rows rest : List ℕ) → All (λ x. x ≤ 1000000) rows → words_in (length rows) (words rows ++ rest) ≡ rows
unfolding words_in
words_back [] rest low = refl
words_back (x ∷ rows) rest low =
    let small = All-head (λ y. y ≤ 1000000) x rows low in
    ap (λ y. y ∷ words_in (length rows) (words rows ++ rest)) (from_be_bytes-to_be_bytes_4 x (omega (arith, small)))
    ∙ ap (λ l. x ∷ l) (words_back rows rest (All-tail (λ y. y ≤ 1000000) x rows low))

rest_back : (rows rest : List ℕ) → behind_words (length rows) (words rows ++ rest) ≡ rest
unfolding behind_words
rest_back [] rest = refl
rest_back (x ∷ rows) rest = rest_back rows rest

-- What a common part says.

-- no bytes are no start
pub none_shared : (bytes : List ℕ) → length bytes ≡ 0 → None ≡ shared bytes
unfolding shared
none_shared [] e = refl
none_shared (n ∷ bytes) e = absurd (omega arith)

-- a list by its first element and the others
pub first_rest : (bytes : List ℕ) → 0 < length bytes → bytes ≡ get_or bytes 0 0 ∷ drop 1 bytes
first_rest [] some = absurd (omega arith)
first_rest (n ∷ bytes) some = refl

-- bytes are a start exactly if they are as long as their number of cities asks
pub shared_is : (n : ℕ) (bytes : List ℕ) → shared (n ∷ bytes) ≡ cond (is_sized n bytes) (start_if n bytes) None
unfolding shared
shared_is n bytes = refl

-- a number of cities within its limits, with bytes enough for the ways
pub record IsSized (n : ℕ) (bytes : List ℕ) : Type 0 where
  pub some : 1 ≤ n
  pub few : n ≤ 12
  pub enough : 4 * (n * n) ≤ length bytes

-- bytes that pass the test have their size
pub sized : (n : ℕ) (bytes : List ℕ) → is_sized n bytes ≡ true → IsSized n bytes
sized n bytes e =
    let parts = and_parts (nat_le 1 n && nat_le n 12) (nat_le (4 * (n * n)) (length bytes)) e in
    let count = and_parts (nat_le 1 n) (nat_le n 12) parts.0 in
    record {
      some = leb-true 1 n count.0;
      few = leb-true n 12 count.1;
      enough = leb-true (4 * (n * n)) (length bytes) parts.1;
    }

-- bytes that pass the tests have cities
pub cities_of : (n : ℕ) (bytes rows tour : List ℕ) → is_sized n bytes ≡ true → rows ≡ words_in (n * n) bytes → is_whole n rows tour ≡ true →
    AreCities (record { count = n; rows = rows })
cities_of n bytes rows tour fits is whole =
    let s = sized n bytes fits in
    record {
      some = s.some;
      few = s.few;
      long = ap length is ∙ length-words_in (n * n) bytes;
      low = (whole_of_test n rows tour whole).low;
    }

-- A common part is read back.

-- a start is read back from its common part
pub read_back : (s : StartModel) → IsStart s → shared (common_part s) ≡ Some s
unfolding common_part
read_back s is =
    let n : ℕ = s.cities.count in
    let rows : List ℕ = s.cities.rows in
    let bytes : List ℕ = words rows ++ s.first in
    let long : length rows ≡ n * n = is.cities.long in
    let fits : is_sized n bytes ≡ true =
    and_from (nat_le 1 n && nat_le n 12) (nat_le (4 * (n * n)) (length bytes))
    (and_from (nat_le 1 n) (nat_le n 12) (le-leb 1 n is.cities.some) (le-leb n 12 is.cities.few))
    (le-leb (4 * (n * n)) (length bytes) (omega (arith, length-append (words rows) s.first, length-words rows, long))) in
    let its_rows : words_in (n * n) bytes ≡ rows = ap (λ k. words_in k bytes) (sym long) ∙ words_back rows s.first is.cities.low in
    let its_tour : behind_words (n * n) bytes ≡ s.first = ap (λ k. behind_words k bytes) (sym long) ∙ rest_back rows s.first in
    let whole : is_whole n (words_in (n * n) bytes) (behind_words (n * n) bytes) ≡ true =
    ap (λ l. is_whole n l (behind_words (n * n) bytes)) its_rows ∙ ap (is_whole n rows) its_tour
    ∙ test_of_whole n rows s.first is.cities.low is.first in
    let made : List ℕ → List ℕ → StartModel = λ r t. record { cities = record { count = n; rows = r }; first = t } in
    shared_is n bytes ∙ ap (λ b. cond b (start_if n bytes) None) fits
    ∙ ap (λ b. cond b (Some (start_of n bytes)) None) whole
    ∙ ap (λ r. Some (made r (behind_words (n * n) bytes))) its_rows ∙ ap (λ t. Some (made rows t)) its_tour

-- What is read of bytes, by their parts.

-- a result that is one value is an equal one
pub if_ok_same : {X E : Type 0} (r : Result X E) (a b : X) → a ≡ b → IfOk r (λ x. x ≡ a) → IfOk r (λ x. x ≡ b)
if_ok_same (Ok x) a b same is = is ∙ same
if_ok_same (Err e) a b same is = tt

-- a result that is a short list is short
pub if_ok_short : {E : Type 0} (n : ℕ) (r : Result (List ℕ) E) (a : List ℕ) → length a ≤ n → IfOk r (λ x. x ≡ a)
    → IfOk r (λ x. length x ≤ n)
if_ok_short n (Ok x) a few is = omega (arith, few, ap length is)
if_ok_short n (Err e) a few is = tt

-- the common part, as it is written piece by piece
pub common_is : (s : StartModel) (n : ℕ) (rows first none one more all : List ℕ) → n ≡ s.cities.count → rows ≡ s.cities.rows
    → first ≡ s.first →
    none ≡ [] → one ≡ none ++ n ∷ [] → more ≡ one ++ words rows → all ≡ more ++ first → all ≡ common_part s
unfolding common_part
common_is s n rows first none one more all n_is rows_are first_is none_is one_is more_is all_are =
    all_are ∙ ap (λ l. l ++ first) (more_is ∙ ap (λ l. l ++ words rows) (one_is ∙ ap (λ l. l ++ n ∷ []) none_is))
    ∙ ap (λ k. k ∷ (words rows ++ first)) n_is ∙ ap (λ l. s.cities.count ∷ (words l ++ first)) rows_are
    ∙ ap (λ l. s.cities.count ∷ (words s.cities.rows ++ l)) first_is

-- a common part has at most 1,048,576 bytes
pub common_short : (s : StartModel) → AreCities s.cities → IsTour s.cities.count s.first → length (common_part s) ≤ 1048576
unfolding common_part
common_short s are is =
    let cells = mul-le s.cities.count s.cities.count 12 12 are.few are.few in
    let long = are.long in
    omega (
      arith,
      are.few,
      cells,
      long,
      length-append (words s.cities.rows) s.first,
      length-words s.cities.rows,
      tour-long s.cities.count s.first is,
    )

not_empty : (bytes : List ℕ) → (length bytes ≡ 0 → ⊥) → 0 < length bytes
not_empty [] some = absurd (some refl)
not_empty (n ∷ bytes) some = omega arith

shared_by : (bytes rest : List ℕ) (n : ℕ) → (length bytes ≡ 0 → ⊥) → n ≡ get_or bytes 0 0 → rest ≡ drop 1 bytes → bytes ≡ n ∷ rest
shared_by bytes rest n some n_is rest_is =
    first_rest bytes (not_empty bytes some) ∙ ap (λ k. k ∷ drop 1 bytes) (sym n_is) ∙ ap (λ l. n ∷ l) (sym rest_is)

-- bytes of another size are no start
pub none_sized : (bytes rest : List ℕ) (n : ℕ) (t : Bool) → (length bytes ≡ 0 → ⊥) → n ≡ get_or bytes 0 0 → rest ≡ drop 1 bytes →
    t ≡ is_sized n rest → t ≡ false → None ≡ shared bytes
none_sized bytes rest n t some n_is rest_is is fails =
    sym (ap shared (shared_by bytes rest n some n_is rest_is) ∙ shared_is n rest ∙ ap (λ b. cond b (start_if n rest) None) (sym is ∙ fails))

-- bytes of their size are the start that they have
pub some_sized : (bytes rest : List ℕ) (n : ℕ) (t : Bool) → (length bytes ≡ 0 → ⊥) → n ≡ get_or bytes 0 0 → rest ≡ drop 1 bytes →
    t ≡ is_sized n rest → t ≡ true → start_if n rest ≡ shared bytes
some_sized bytes rest n t some n_is rest_is is holds =
    sym (ap shared (shared_by bytes rest n some n_is rest_is) ∙ shared_is n rest ∙ ap (λ b. cond b (start_if n rest) None) (sym is ∙ holds))

-- bytes that pass the tests have cities
pub cities_by : (n : ℕ) (bytes rows seen tour : List ℕ) (t : Bool) → is_sized n bytes ≡ true → rows ≡ words_in (n * n) bytes → seen ≡ rows →
    t ≡ is_whole n seen tour → t ≡ true → AreCities (record { count = n; rows = rows })
cities_by n bytes rows seen tour t fits read same is holds =
    cities_of n bytes rows tour fits read (ap (λ l. is_whole n l tour) (sym same) ∙ sym is ∙ holds)

-- bytes that pass the test have a tour
pub tour_by : (n : ℕ) (seen tour : List ℕ) (t : Bool) → t ≡ is_whole n seen tour → t ≡ true → IsTour n tour
tour_by n seen tour t is holds = (whole_of_test n seen tour (sym is ∙ holds)).tour_is
