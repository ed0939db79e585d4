-- Who waits after an act: who waited, and who came, without who went.
use Rattle.std.proofs.Common.{◌≡◌, ◌⊎◌, inl, inr, ◌≤◌, ◌<◌, ◌+◌, ℕ, zero, suc, Bool, true, false, cond, List, [], ◌∷◌, ◌++◌, length, get_or}
use Rattle.std.proofs.Common.{Option, None, Some, refl, sym, ap, subst, All, Any, arith}
use Rattle.std.specs.Prelude.{count_by}
use Rattle.std.proofs.lemmas.List.Elements.{All-cons, All-head, All-nil, All-tail}
use Rattle.std.proofs.lemmas.List.Sums.{sum_by-append, sum_by-cons}
use Rattle.server_components.specs.declared.waits.Waiting.{Waiting}
use Rattle.server_law.specs.Acts.{Act, Around, ServerSaying, around, comes, does, goes, says, waiting_after, waiting_with}
use Rattle.server_law.specs.Carried.{all_counted, all_done, counted, done}
use Rattle.server_law.specs.State.{ServerModel}
use Rattle.server_law.specs.Sure.{Sits, SitsIn}

-- Elements, one by one.

-- it holds of each element
abbrev pub Each : {X : Type 0} → (X → Type 0) → List X → Type 0
Each P [] = Unit {0}
Each P (x ∷ xs) = P x × Each P xs

-- it holds of some element
abbrev pub Has : {X : Type 0} → (X → Type 0) → List X → Type 0
Has P [] = ⊥
Has P (x ∷ xs) = P x ⊎ Has P xs

module _ {X : Type 0} (P : X → Type 0) where
  -- `All` of a list is `Each` of it
  pub each_all : (xs : List X) → All P xs → Each P xs
  each_all [] all = tt
  each_all (x ∷ xs) all = (All-head P x xs all, each_all xs (All-tail P x xs all))

  -- `Each` of a list is `All` of it
  pub all_each : (xs : List X) → Each P xs → All P xs
  all_each [] each = All-nil P
  all_each (x ∷ xs) each = All-cons P x xs each.0 (all_each xs each.1)

  -- what holds of each of two lists holds of each of both together
  pub each_append : (xs ys : List X) → Each P xs → Each P ys → Each P (xs ++ ys)
  each_append [] ys a b = b
  each_append (x ∷ xs) ys a b = (a.0, each_append xs ys a.1 b)

  -- what holds of each of two lists together holds of each in either
  pub each_parts : (xs ys : List X) → Each P (xs ++ ys) → Each P xs × Each P ys
  each_parts [] ys all = (tt, all)
  each_parts (x ∷ xs) ys all = let rest = each_parts xs ys all.1 in ((all.0, rest.0), rest.1)

  has_at : (xs : List X) (k : ℕ) (x : X) → k < length xs → get_or xs k x ≡ x → P x → Has P xs
  has_at [] k x within read holds = absurd (omega arith)
  has_at (y ∷ ys) zero x within read holds = inl (subst P (sym read) holds)
  has_at (y ∷ ys) (suc k) x within read holds = inr (has_at ys k x (omega arith) read holds)

  -- an element of `Any` is one of `Has`
  pub any_has : (xs : List X) → Any P xs → Has P xs
  any_has xs any = has_at xs any.0 any.1 any.2 any.3 any.4

  -- an element of `Has` is one of `Any`
  pub has_any : (xs : List X) → Has P xs → Any P xs
  has_any [] has = absurd has
  has_any (x ∷ xs) (inl holds) = (0, x, omega arith, refl, holds)
  has_any (x ∷ xs) (inr has) = let any = has_any xs has in (suc any.0, any.1, omega arith, any.3, any.4)

  -- what the first list has, both together have
  pub has_left : (xs ys : List X) → Has P xs → Has P (xs ++ ys)
  has_left [] ys has = absurd has
  has_left (x ∷ xs) ys (inl holds) = inl holds
  has_left (x ∷ xs) ys (inr has) = inr (has_left xs ys has)

  -- what the second list has, both together have
  pub has_right : (xs ys : List X) → Has P ys → Has P (xs ++ ys)
  has_right [] ys has = has
  has_right (x ∷ xs) ys has = inr (has_right xs ys has)

  -- what both together have, one of them has
  pub has_parts : (xs ys : List X) → Has P (xs ++ ys) → Has P xs ⊎ Has P ys
  has_parts [] ys has = inr has
  has_parts (x ∷ xs) ys (inl holds) = inl (inl holds)
  has_parts (x ∷ xs) ys (inr has) = elim (has_parts xs ys has) [ inl left ↦ inl (inr left) | inr right ↦ inr right ]

-- what follows of each element
pub each_weaker : {X : Type 0} (P Q : X → Type 0) (xs : List X) → ((x : X) → P x → Q x) → Each P xs → Each Q xs
each_weaker P Q [] f each = tt
each_weaker P Q (x ∷ xs) f each = (f x each.0, each_weaker P Q xs f each.1)

-- of each element both, if each of the two
pub each_both : {X : Type 0} (P Q : X → Type 0) (xs : List X) → Each P xs → Each Q xs → Each (λ x. P x × Q x) xs
each_both P Q [] a b = tt
each_both P Q (x ∷ xs) a b = ((a.0, b.0), each_both P Q xs a.1 b.1)

-- How many pass a test.

-- a test as a number: 1 if it passes, and otherwise 0
abbrev pub one : Bool → ℕ
one t = cond t 1 0

one_of : (t : Bool) → one t ≡ 0 → t ≡ false
one_of true is = absurd (omega arith)
one_of false is = refl

-- where no element is counted, no element passes
pub none_of : {X : Type 0} (test : X → Bool) (xs : List X) → count_by test xs ≡ 0 → Each (λ x. test x ≡ false) xs
none_of test [] none = tt
none_of test (x ∷ xs) none =
    let sum = sum_by-cons (λ y. one (test y)) x xs in
    (one_of (test x) (omega arith), none_of test xs (omega arith))

-- if an element passes, at least one is counted
pub some_of : {X : Type 0} (test : X → Bool) (P : X → Type 0) (xs : List X) → ((x : X) → P x → test x ≡ true) → Has P xs
    → 1 ≤ count_by test xs
some_of test P [] is has = absurd has
some_of test P (x ∷ xs) is (inl holds) =
    let sum = sum_by-cons (λ y. one (test y)) x xs in
    let it : one (test x) ≡ 1 = rw (is x holds) refl in
    omega arith
some_of test P (x ∷ xs) is (inr has) =
    let sum = sum_by-cons (λ y. one (test y)) x xs in
    let rest = some_of test P xs is has in
    omega arith

-- What an act leaves.

counted_kept : (s : ServerModel) (xs : List ServerSaying) → (all_counted s xs).kept ≡ s.kept
counted_kept s [] = refl
counted_kept s (x ∷ xs) = counted_kept (counted s x.to) xs

counted_named : (s : ServerModel) (xs : List ServerSaying) → ((all_counted s xs).config ≡ s.config) × ((all_counted s xs).me ≡ s.me)
counted_named s [] = (refl, refl)
counted_named s (x ∷ xs) = counted_named (counted s x.to) xs

-- what an act makes of what a server keeps
pub done_kept : (a : Act) (s : ServerModel) → (done a s).kept ≡ (does a s).kept
done_kept a s = counted_kept (does a s) (says a s)

-- an act leaves the run's numbers and the server's own
pub done_named : (a : Act) (s : ServerModel) → ((done a s).config ≡ s.config) × ((done a s).me ≡ s.me)
done_named a s = counted_named (does a s) (says a s)

-- acts after acts are all of them, one after the other
pub all_done_joined : (xs ys : List Act) (s : ServerModel) → all_done (xs ++ ys) s ≡ all_done ys (all_done xs s)
all_done_joined [] ys s = refl
all_done_joined (x ∷ xs) ys s = all_done_joined xs ys (done x s)

-- Who waits.

module _ (P : Waiting → Type 0) where
  each_around : (o : Option Around) (waiting gone come : List Waiting) → Sits o waiting gone → Each P waiting → Each P come
      → Each P (waiting_with o waiting come)
  each_around None waiting gone [] sits all new = all
  each_around None waiting gone (e ∷ come) sits all new = each_append P waiting (e ∷ come) all new
  each_around (Some at) waiting gone come sits all new =
      let parts = each_parts P at.before (gone ++ at.behind) (subst (Each P) sits all) in
      each_append P at.before (come ++ at.behind) parts.0 (each_append P come at.behind new (each_parts P gone at.behind parts.1).1)

  -- what holds of those that waited and of those that came holds of those that wait after the act
  pub each_after : (a : Act) (s : ServerModel) → SitsIn a s → Each P s.kept.parked.waiting → Each P (comes a s)
      → Each P (waiting_after a s)
  each_after a s sits all new = each_around (around a) s.kept.parked.waiting (goes a) (comes a s) sits all new

  gone_around : (o : Option Around) (waiting gone : List Waiting) → Sits o waiting gone → Each P waiting → Each P gone
  gone_around None waiting gone sits all = rw sits tt
  gone_around (Some at) waiting gone sits all =
      (each_parts P gone at.behind (each_parts P at.before (gone ++ at.behind) (subst (Each P) sits all)).1).0

  -- of who goes
  pub each_gone : (a : Act) (s : ServerModel) → SitsIn a s → Each P s.kept.parked.waiting → Each P (goes a)
  each_gone a s sits all = gone_around (around a) s.kept.parked.waiting (goes a) sits all

  has_around : (o : Option Around) (waiting gone come : List Waiting) → Sits o waiting gone → (Has P gone → Has P come) → Has P waiting
      → Has P (waiting_with o waiting come)
  has_around None waiting gone [] sits turns has = has
  has_around None waiting gone (e ∷ come) sits turns has = has_left P waiting (e ∷ come) has
  has_around (Some at) waiting gone come sits turns has =
      elim (has_parts P at.before (gone ++ at.behind) (subst (Has P) sits has)) [
        | inl before ↦ has_left P at.before (come ++ at.behind) before
        | inr rest ↦ has_right P at.before (come ++ at.behind) (elim (has_parts P gone at.behind rest) [
          | inl here ↦ has_left P come at.behind (turns here)
          | inr behind ↦ has_right P come at.behind behind
        ])
      ]

  -- some waits still
  pub has_after : (a : Act) (s : ServerModel) → SitsIn a s → (Has P (goes a) → Has P (comes a s)) → Has P s.kept.parked.waiting
      → Has P (waiting_after a s)
  has_after a s sits turns has = has_around (around a) s.kept.parked.waiting (goes a) (comes a s) sits turns has

-- how many of those who wait pass a test
module _ (test : Waiting → Bool) where
  abbrev passing : Waiting → ℕ
  passing e = one (test e)

  count_around : (o : Option Around) (waiting gone come : List Waiting) → Sits o waiting gone
      → count_by test (waiting_with o waiting come) + count_by test gone ≡ count_by test waiting + count_by test come
  count_around None waiting gone [] is = rw is (omega arith)
  count_around None waiting gone (e ∷ come) is = let all = sum_by-append passing waiting (e ∷ come) in rw is (omega arith)
  count_around (Some at) waiting gone come is =
      let was = sum_by-append passing at.before (gone ++ at.behind) in
      let were = sum_by-append passing gone at.behind in
      let now : count_by test (waiting_with (Some at) waiting come) ≡ count_by test at.before + count_by test (come ++ at.behind) =
      sum_by-append passing at.before (come ++ at.behind) in
      let are = sum_by-append passing come at.behind in
      let all = ap (count_by test) is in
      omega arith

  -- those that pass after an act, and those that went, are those before it and those that came
  pub count_after : (a : Act) (s : ServerModel) → SitsIn a s
      → count_by test (waiting_after a s) + count_by test (goes a)
      ≡ count_by test s.kept.parked.waiting + count_by test (comes a s)
  count_after a s sits = count_around (around a) s.kept.parked.waiting (goes a) (comes a s) sits
