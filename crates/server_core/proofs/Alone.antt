-- One element of a list in which each has a number of its own: those before it, and those after.
use Rattle.std.proofs.Common.{◌≡◌, ◌≢◌, ◌+◌, ◌==◌, ℕ, suc, Bool, true, false, ◌&&◌, ◌||◌, not, cond, List, [], ◌∷◌, ◌++◌, length, filter}
use Rattle.std.proofs.Common.{find, get_or, Some, All, refl, sym, ap, ◌∙◌, arith, length-append}
use Rattle.std.specs.List.{AllPairs, list_any}
use Rattle.std.proofs.lemmas.Bool.{and_left, ne_eqb}
use Rattle.std.proofs.lemmas.List.{get_or-append-add, get_or_append_left}
use Rattle.std.proofs.lemmas.List.Elements.{All-cons, All-head, All-nil, All-tail, All-weaker, filter-append}
use Rattle.std.proofs.lemmas.List.Folds.{list_any_none}
use Rattle.bag_ledger.proofs.Tests.{some_is}

-- none passes the test
abbrev pub NonePasses : {X : Type 0} → (X → Bool) → List X → Type 0
NonePasses test xs = All (λ x. test x ≡ false) xs

-- x passes, and those before it do not
pub record IsSplit {X : Type 0} (test : X → Bool) (xs : List X) (x : X) : Type 0 where
  pub before : List X
  pub behind : List X
  pub stands : xs ≡ before ++ x ∷ behind
  pub passes : test x ≡ true
  pub fails : NonePasses test before

module _ {X : Type 0} (test : X → Bool) where
  -- what is found splits the list before and after it
  pub found_split : (xs : List X) (x : X) → find test xs ≡ Some x → IsSplit test xs x
  found_split [] x found = absurd (cc)
  found_split (y ∷ xs) x found = by_test (test y) refl found (found_split xs x)
    where
      by_test : (t : Bool) → test y ≡ t → cond t (Some y) (find test xs) ≡ Some x → (find test xs ≡ Some x → IsSplit test xs x)
          → IsSplit test (y ∷ xs) x
      by_test true is found rest =
          let one = some_is found in
          record {
            before = [];
            behind = xs;
            stands = ap (λ z. z ∷ xs) one;
            passes = ap test (sym one) ∙ is;
            fails = All-nil (λ z. test z ≡ false);
          }
      by_test false is found rest =
          let more = rest found in
          record {
            before = y ∷ more.before;
            behind = more.behind;
            stands = ap (λ l. y ∷ l) more.stands;
            passes = more.passes;
            fails = All-cons (λ z. test z ≡ false) y more.before is more.fails;
          }

  -- an element that passes is found, if none before it does
  pub find_there : (before : List X) (x : X) (behind : List X) → NonePasses test before → test x ≡ true
      → find test (before ++ x ∷ behind) ≡ Some x
  find_there [] x behind fails passes = rw passes refl
  find_there (y ∷ before) x behind fails passes =
      let F : X → Type 0 = λ z. test z ≡ false in
      rw (All-head F y before fails, find_there before x behind (All-tail F y before fails) passes) refl

  -- a filter keeps all that do not pass
  pub kept : (xs : List X) → NonePasses test xs → filter (λ x. not (test x)) xs ≡ xs
  kept [] none = refl
  kept (x ∷ xs) none =
      let F : X → Type 0 = λ z. test z ≡ false in
      rw (All-head F x xs none, kept xs (All-tail F x xs none)) refl

  -- so only the one goes
  pub gone_one : (before : List X) (x : X) (behind : List X) → NonePasses test before → test x ≡ true → NonePasses test behind
      → filter (λ y. not (test y)) (before ++ x ∷ behind) ≡ before ++ behind
  gone_one before x behind first own last =
      filter-append (λ y. not (test y)) before (x ∷ behind) ∙ rw (kept before first, own, kept behind last) refl

-- Each has a number of its own.
module _ {X : Type 0} (number : X → ℕ) (before : List X) (x : X) (behind : List X)
    (once : AllPairs (λ y z. number y ≢ number z) (before ++ x ∷ behind)) where
  abbrev all : List X
  all = before ++ x ∷ behind

  here : (d : X) → get_or (before ++ x ∷ behind) (length before) d ≡ x
  here d = ap (λ n. get_or (before ++ x ∷ behind) n d) (zero_more (length before)) ∙ get_or-append-add before (x ∷ behind) 0 d
    where
      zero_more : (n : ℕ) → n ≡ n + 0
      zero_more n = omega arith

  long : length (before ++ x ∷ behind) ≡ length before + suc (length behind)
  long = length-append before (x ∷ behind)

  -- those before an element have other numbers
  pub before_others : All (λ y. (number y == number x) ≡ false) before
  before_others k d within = ne_eqb _ _ (λ same.
      once k (length before) d within (omega (arith, long))
      (ap number (get_or_append_left before (x ∷ behind) d k within) ∙ same ∙ sym (ap number (here d))))

  -- those after an element have other numbers
  pub behind_others : All (λ y. (number y == number x) ≡ false) behind
  behind_others k d within =
      let place : get_or (before ++ x ∷ behind) (length before + suc k) d ≡ get_or behind k d =
      get_or-append-add before (x ∷ behind) (suc k) d in
      ne_eqb _ _ (λ same. once (length before) (length before + suc k) d (omega arith) (omega (arith, long, within))
      (ap number (here d) ∙ sym same ∙ sym (ap number place)))

-- a test that only the one passes, with another one
pub any_one : {X : Type 0} (test q : X → Bool) (before : List X) (x : X) (behind : List X) → NonePasses test before → test x ≡ true
    → NonePasses test behind → list_any (λ y. test y && q y) (before ++ x ∷ behind) ≡ q x
any_one {X} test q [] x behind first own last =
    let F : X → Type 0 = λ y. test y ≡ false in
    let none = list_any_none (λ y. test y && q y) behind
    (All-weaker F (λ y. (test y && q y) ≡ false) (λ y is. and_left (test y) (q y) is) behind last) in
    rw (own, none) (or-false (q x))
  where
    or-false : (t : Bool) → (t || false) ≡ t
    or-false true = refl
    or-false false = refl
any_one {X} test q (y ∷ before) x behind first own last =
    let F : X → Type 0 = λ z. test z ≡ false in
    rw (All-head F y before first) (any_one test q before x behind (All-tail F y before first) own last)

-- the length without the one
pub one_fewer : {X : Type 0} (before : List X) (x : X) (behind : List X) → length (before ++ x ∷ behind) ≡ suc (length (before ++ behind))
one_fewer before x behind =
    let more = length-append before (x ∷ behind) in
    let fewer = length-append before behind in
    omega (arith, more, fewer)
