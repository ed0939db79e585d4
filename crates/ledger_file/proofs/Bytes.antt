-- Bytes above a bound, lists that are cut at a byte, and decimal numbers.
use Rattle.std.proofs.Common.{◌≡◌, ℕ, zero, suc, ◌+◌, ◌/◌, ◌%◌, ◌^◌, ◌<◌, ◌≤◌, Bool, true, false, cond, ltb, eqb, not, List, [], ◌∷◌, ◌++◌}
use Rattle.std.proofs.Common.{length, get_or, take, drop, map, refl, sym, ap, subst, ◌∙◌, arith}
use Rattle.std.specs.Prelude.{decimal}
use Rattle.std.specs.Fmt.{digit_glyph, digits, digits_onto}
use Rattle.std.specs.List.{list_all, onto_first, join_with_byte, flat_map, AllByRecursion}
use Rattle.std.specs.Str.{bytes_eq}
use Rattle.std.specs.Str.Parse.{digits_value}
use Rattle.ledger_file.specs.inside.Reading.{free, parts_of, IsCut}
use Rattle.std.proofs.lemmas.Bool.{and_parts, and_from, ltb-true, lt-ltb, eq-eqb, ne_eqb, not-true, both_ways}
use Rattle.std.proofs.lemmas.Fmt.{decimal_is_IsNumeral}
use Rattle.std.proofs.lemmas.List.{append-nil, get_or_append_left, take-append-drop, drop_more}
use Rattle.std.proofs.lemmas.List.Folds.{list_all-append, list_all_more}
use Rattle.std.proofs.lemmas.Slice.Eq.{bytes_eq-Decides}
use Rattle.std.proofs.lemmas.Str.Parse.{digit_at}

pub same_bytes : (xs ys : List ℕ) → bytes_eq xs ys ≡ true → xs ≡ ys
same_bytes xs ys = (bytes_eq-Decides xs ys).0

pub bytes_alike : (xs : List ℕ) → bytes_eq xs xs ≡ true
bytes_alike xs = (bytes_eq-Decides xs xs).1 refl

-- each byte is above k
abbrev pub above : ℕ → List ℕ → Bool
above k bytes = list_all (ltb k) bytes

pub above_append : (k : ℕ) (xs ys : List ℕ) → above k xs ≡ true → above k ys ≡ true → above k (xs ++ ys) ≡ true
above_append k xs ys p q = list_all-append (ltb k) xs ys ∙ and_from (above k xs) (above k ys) p q

pub above_less : (j k : ℕ) (xs : List ℕ) → j ≤ k → above k xs ≡ true → above j xs ≡ true
above_less j k [] le p = refl
above_less j k (x ∷ xs) le p =
    let both = and_parts (ltb k x) (above k xs) p in
    let head : j < x = omega (arith, ltb-true k x both.0) in
    and_from (ltb j x) (above j xs) (lt-ltb j x head) (above_less j k xs le both.1)

-- a list that is cut at the byte k
pub above_free : (k : ℕ) (xs : List ℕ) → above k xs ≡ true → free k xs ≡ true
above_free k [] p = refl
above_free k (x ∷ xs) p =
    let both = and_parts (ltb k x) (above k xs) p in
    let lt : k < x = ltb-true k x both.0 in
    let other : eqb x k ≡ false = ne_eqb x k (λ e. omega arith) in
    rw other (above_free k xs both.1)

pub split_here : (k : ℕ) (xs ys : List ℕ) → free k xs ≡ true → parts_of k (xs ++ k ∷ ys) ≡ xs ∷ parts_of k ys
split_here k [] ys p = ap (λ b. cond b ([] ∷ parts_of k ys) (onto_first k (parts_of k ys))) (eq-eqb k k refl)
split_here k (x ∷ xs) ys p =
    let both = and_parts (not (eqb x k)) (free k xs) p in
    rw (not-true (eqb x k) both.0, split_here k xs ys both.1) refl

pub split_nowhere : (k : ℕ) (xs : List ℕ) → free k xs ≡ true → parts_of k xs ≡ xs ∷ []
split_nowhere k [] p = refl
split_nowhere k (x ∷ xs) p =
    let both = and_parts (not (eqb x k)) (free k xs) p in
    rw (not-true (eqb x k) both.0, split_nowhere k xs both.1) refl

abbrev pub AllAbove : ℕ → List (List ℕ) → Type 0
AllAbove k ws = AllByRecursion (λ w. above k w ≡ true) ws

pub all_above_less : (j k : ℕ) (ws : List (List ℕ)) → j ≤ k → AllAbove k ws → AllAbove j ws
all_above_less j k [] le p = tt
all_above_less j k (w ∷ ws) le p = (above_less j k w le p.0, all_above_less j k ws le p.1)

-- words that are joined by a byte below theirs come apart again
pub split_joined : (k : ℕ) (w : List ℕ) (ws : List (List ℕ)) → AllAbove k (w ∷ ws) → parts_of k (join_with_byte k (w ∷ ws)) ≡ w ∷ ws
split_joined k w [] p = split_nowhere k w (above_free k w p.0)
split_joined k w (v ∷ ws) p = split_here k w (join_with_byte k (v ∷ ws)) (above_free k w p.0)
    ∙ ap (λ rest. w ∷ rest) (split_joined k v ws p.1)

pub joined_above : (j k : ℕ) (w : List ℕ) (ws : List (List ℕ)) → ltb j k ≡ true → AllAbove j (w ∷ ws)
    → above j (join_with_byte k (w ∷ ws)) ≡ true
joined_above j k w [] lt p = p.0
joined_above j k w (v ∷ ws) lt p = above_append j w (k ∷ join_with_byte k (v ∷ ws)) p.0 (and_from (ltb j k) _ lt
    (joined_above j k v ws lt p.1))

-- the front of a list up to its first byte k
not_free : (k : ℕ) (xs : List ℕ) → free k (k ∷ xs) ≡ true → ⊥
not_free k xs p = both_ways (eqb k k) (not-true (eqb k k) (and_parts (not (eqb k k)) (free k xs) p).0) (eq-eqb k k refl)

pub same_front : (k : ℕ) (xs ys a b : List ℕ) → free k xs ≡ true → free k ys ≡ true → xs ++ k ∷ a ≡ ys ++ k ∷ b → (xs ≡ ys) × (a ≡ b)
same_front k [] [] a b p q e = (refl, cc)
same_front k [] (y ∷ ys) a b p q e = let here : y ≡ k = cc in absurd (not_free k ys (subst (λ (x : ℕ). free k (x ∷ ys) ≡ true) here q))
same_front k (x ∷ xs) [] a b p q e = let here : x ≡ k = cc in absurd (not_free k xs (subst (λ (y : ℕ). free k (y ∷ xs) ≡ true) here p))
same_front k (x ∷ xs) (y ∷ ys) a b p q e =
    let rest : xs ++ k ∷ a ≡ ys ++ k ∷ b = cc in
    let head : x ≡ y = cc in
    let t = same_front k xs ys a b (and_parts (not (eqb x k)) (free k xs) p).1 (and_parts (not (eqb y k)) (free k ys) q).1 rest in
    let tail : xs ≡ ys = t.0 in
    (cc, t.1)

-- a list with a byte k somewhere is not free of it
pub cut_somewhere : (k : ℕ) (xs ys : List ℕ) → free k (xs ++ k ∷ ys) ≡ true → ⊥
cut_somewhere k [] ys p = not_free k ys p
cut_somewhere k (x ∷ xs) ys p = cut_somewhere k xs ys (and_parts (not (eqb x k)) (free k (xs ++ k ∷ ys)) p).1

pub free_more : (k : ℕ) (xs : List ℕ) (i : ℕ) → i < length xs → free k (take i xs) ≡ true → (get_or xs i 0 ≡ k → ⊥)
    → free k (take (i + 1) xs) ≡ true
free_more k xs i lt p other = list_all_more (λ b. not (eqb b k)) xs i 0 lt
    ∙ and_from (free k (take i xs)) _ p (ap not (ne_eqb (get_or xs i 0) k other))

pub cut_here : (k : ℕ) (xs : List ℕ) (i : ℕ) (before behind : List ℕ) → i < length xs → free k (take i xs) ≡ true → get_or xs i 0 ≡ k
    → before ≡ take i xs → behind ≡ drop (i + 1) xs → IsCut k xs before behind
cut_here k xs i before behind lt p here front rest =
    let whole : xs ≡ take i xs ++ k ∷ drop (i + 1) xs = sym (take-append-drop i xs)
    ∙ ap (λ (v : List ℕ). take i xs ++ v) (drop_more xs i 0 lt ∙ ap (λ (x : ℕ). x ∷ drop (i + 1) xs) here) in
    record { whole = rw (front, rest) whole; first = ap (free k) front ∙ p }

pub parts_cut : (k : ℕ) (bytes before behind : List ℕ) → IsCut k bytes before behind → parts_of k bytes ≡ before ∷ parts_of k behind
parts_cut k bytes before behind is = ap (parts_of k) is.whole ∙ split_here k before behind is.first

-- decimal numbers
either_above : (b : Bool) (d : ℕ) → 47 < cond b (48 + d) (87 + d)
either_above true d = omega arith
either_above false d = omega arith

pub glyph_above : (d : ℕ) → 47 < digit_glyph false d
glyph_above d = either_above (ltb d 10) d

onto_above : (k n : ℕ) (acc : List ℕ) → above 47 acc ≡ true → above 47 (digits_onto k 10 false n acc) ≡ true
onto_above zero n acc p = p
onto_above (suc k) n acc p = at_end (eqb (n / 10) 0) (onto_above k (n / 10) (digit_glyph false (n % 10) ∷ acc))
  where
    glyph : above 47 (digit_glyph false (n % 10) ∷ acc) ≡ true
    glyph = and_from _ _ (lt-ltb 47 (digit_glyph false (n % 10)) (glyph_above (n % 10))) p

    at_end : (b : Bool) → (above 47 (digit_glyph false (n % 10) ∷ acc) ≡ true
        → above 47 (digits_onto k 10 false (n / 10) (digit_glyph false (n % 10) ∷ acc)) ≡ true)
        → above 47 (cond b (digit_glyph false (n % 10) ∷ acc) (digits_onto k 10 false (n / 10) (digit_glyph false (n % 10) ∷ acc))) ≡ true
    at_end true more = glyph
    at_end false more = more glyph

pub decimal_above : (n : ℕ) → above 47 (decimal n) ≡ true
unfolding digits
decimal_above n = onto_above 64 n [] refl

pub decimal_back : (n : ℕ) → n < 2 ^ 64 → digits_value 10 (decimal n) ≡ n
decimal_back n lt = (decimal_is_IsNumeral n lt).1

pub decimal_some : (n : ℕ) → n < 2 ^ 64 → 0 < length (decimal n)
decimal_some n lt = (decimal_is_IsNumeral n lt).0.0

-- the first byte of a word above a bound
pub first_above : (k : ℕ) (w : List ℕ) → 0 < length w → above k w ≡ true → k < get_or w 0 0
first_above k [] some p = absurd (omega arith)
first_above k (x ∷ w) some p = ltb-true k x (and_parts (ltb k x) (above k w) p).0

pub first_digit : (n b : ℕ) → n < 2 ^ 64 → 57 < b → eqb (get_or (decimal n) 0 0) b ≡ false
first_digit n b lt high =
    let is = decimal_is_IsNumeral n lt in
    let range = digit_at (decimal n) 0 is.0.1 is.0.0 in
    ne_eqb (get_or (decimal n) 0 0) b (λ e. omega (arith, range.1))

pub first_no_dash : (n : ℕ) → n < 2 ^ 64 → eqb (get_or (decimal n) 0 0) 45 ≡ false
first_no_dash n lt =
    let high = first_above 47 (decimal n) (decimal_some n lt) (decimal_above n) in
    ne_eqb (get_or (decimal n) 0 0) 45 (λ e. omega arith)

-- the first byte of joined words is that of the first of them
pub first_joined : (k : ℕ) (w : List ℕ) (ws : List (List ℕ)) → 0 < length w → get_or (join_with_byte k (w ∷ ws)) 0 0 ≡ get_or w 0 0
first_joined k w [] some = refl
first_joined k w (v ∷ ws) some = get_or_append_left w (k ∷ join_with_byte k (v ∷ ws)) 0 0 some

-- joined words as the first, and then each of the others after the byte
pub joined_is : {X : Type 0} (f : X → List ℕ) (k : ℕ) (w : List ℕ) (xs : List X)
    → join_with_byte k (w ∷ map f xs) ≡ w ++ flat_map (λ x. k ∷ f x) xs
joined_is f k w [] = sym (append-nil w)
joined_is f k w (x ∷ xs) = ap (λ (v : List ℕ). w ++ k ∷ v) (joined_is f k (f x) xs)
