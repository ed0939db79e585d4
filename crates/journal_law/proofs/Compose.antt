-- The events of journals that compose are a run.
use Rattle.std.proofs.Common.{◌≡◌, ◌<◌, ◌≤◌, ℕ, Bool, true, false, cond, eqb, List, [], ◌∷◌, ◌++◌, option_to_list, inl, inr}
use Rattle.std.proofs.Common.{refl, sym, ap, ap₂, ◌∙◌, subst, append_assoc, append-nil, arith, eq-eqb, ne_eqb}
use Rattle.std.proofs.Common.{drop, length}
use Rattle.std.proofs.lemmas.List.{append_cancel_left, drop_at}
use mathlib.Core.List.{IsPrefix}
use Rattle.std.proofs.lemmas.Bool.{cases_eq}
use Rattle.std.specs.List.{AllByRecursion as Each}
use Rattle.journal_law.specs.Orders.{of_actor, IsBefore, IsInOrder, IsMerged}
use Rattle.journal_law.specs.Machines.{Machine, World, GoesOn, taken, added, AreInFront, IsEvent}
use Rattle.journal_law.specs.Journals.{sent, got, Walks, IsStamped, Compose}
use Rattle.journal_law.specs.Runs.{Runs, IsStart, HasRun}

-- what holds of each of two lists holds of each of both together
pub each_append : {X : Type 0} (P : X → Type 0) (xs ys : List X) → Each P xs → Each P ys → Each P (xs ++ ys)
each_append P [] ys a b = b
each_append P (x ∷ xs) ys a b = (a.0, each_append P xs ys a.1 b)

-- what follows of each element holds of each
pub each_weaker : {X : Type 0} (P Q : X → Type 0) → ((x : X) → P x → Q x) → (xs : List X) → Each P xs → Each Q xs
each_weaker P Q f [] a = tt
each_weaker P Q f (x ∷ xs) a = (f x a.0, each_weaker P Q f xs a.1)

-- what holds of each element holds of each that is one actor's
pub each_of_actor : {X : Type 0} (P : X → Type 0) (a : ℕ) (xs : List (ℕ × X)) → Each (λ x. P x.1) xs → Each P (of_actor a xs)
each_of_actor P a [] h = tt
each_of_actor P a (x ∷ xs) h = elim (eqb x.0 a) as (λ b. Each P (cond b (x.1 ∷ of_actor a xs) (of_actor a xs))) [
  | true ↦ (h.0, each_of_actor P a xs h.1)
  | false ↦ each_of_actor P a xs h.1
]

-- what holds of each actor's elements holds of all
pub each_from_actors : {X : Type 0} (P : X → Type 0) (n : ℕ) (xs : List (ℕ × X)) → Each (λ x. x.0 < n) xs
    → ((a : ℕ) → a < n → Each P (of_actor a xs)) → Each (λ x. P x.1) xs
each_from_actors P n [] within h = tt
each_from_actors P n (x ∷ xs) within h =
    let here : Each P (x.1 ∷ of_actor x.0 xs) = rw (eq-eqb x.0 x.0 refl) at (h x.0 within.0) in
    (here.0, each_from_actors P n xs within.1 (λ a below. rest_of (eqb x.0 a) a (h a below)))
  where
    rest_of : (b : Bool) (a : ℕ) → Each P (cond b (x.1 ∷ of_actor a xs) (of_actor a xs)) → Each P (of_actor a xs)
    rest_of true a k = k.1
    rest_of false a k = k

-- a link after its front was taken and what was sent was added
link_after : {X : Type 0} (link link' front sends rest later later' gets gets' left : List X) → link ++ later ≡ gets ++ left
    → later ≡ sends ++ later'
    → gets ≡ front ++ gets' → link ≡ front ++ rest → link' ≡ rest ++ sends → link' ++ later' ≡ gets' ++ left
link_after link link' front sends rest later later' gets gets' left e a b c d =
    let p : front ++ (link' ++ later') ≡ link ++ later = rw (a, c, d) (simp append_assoc) in
    let q : gets ++ left ≡ front ++ (gets' ++ left) = rw b (simp append_assoc) in
    append_cancel_left front (link' ++ later') (gets' ++ left) (p ∙ e ∙ q)

module _ {S L E : Type 0} (m : Machine S L E) where
  -- what the first event of a history sends on a link comes first of all that is sent there; likewise what it gets
  sent_first : (from to : ℕ) (x : ℕ × E) (xs : List (ℕ × E))
      → sent m to (of_actor from (x ∷ xs)) ≡ added m x.0 x.1 from to ++ sent m to (of_actor from xs)
  sent_first from to x xs =
      elim (eqb x.0 from) as
      (λ b. sent m to (cond b (x.1 ∷ of_actor from xs) (of_actor from xs)) ≡ cond b (of_actor to (m.sends x.1)) []
      ++ sent m to (of_actor from xs)) [
        | true ↦ refl
        | false ↦ refl
      ]

  got_first : (from to : ℕ) (x : ℕ × E) (xs : List (ℕ × E))
      → got m from (of_actor to (x ∷ xs)) ≡ taken m x.0 x.1 from to ++ got m from (of_actor to xs)
  got_first from to x xs =
      elim (eqb x.0 to) as
      (λ b. got m from (cond b (x.1 ∷ of_actor to xs) (of_actor to xs)) ≡ cond b (of_actor from (option_to_list (m.cause x.1))) []
      ++ got m from (of_actor to xs)) [
        | true ↦ refl
        | false ↦ refl
      ]

  abbrev IsFrom : ℕ → L → Type 0
  IsFrom n l = n ≤ m.letter_stamp l

  -- the key: what is still to be sent bears the stamp of an event that is still to come
  late_one : (n to : ℕ) (e : E) → n ≤ m.stamp e → IsStamped m e → Each (IsFrom n) (of_actor to (m.sends e))
  late_one n to e h stamped =
      each_of_actor (IsFrom n) to (m.sends e)
      (each_weaker (λ x. m.letter_stamp x.1 ≡ m.stamp e) (λ x. IsFrom n x.1) (λ x q. omega arith) (m.sends e) stamped.bears)

  late : (n to : ℕ) (es : List E) → Each (λ e. n ≤ m.stamp e) es → Each (IsStamped m) es → Each (IsFrom n) (sent m to es)
  late n to [] h stamped = tt
  late n to (e ∷ es) h stamped =
      each_append (IsFrom n) (of_actor to (m.sends e)) (sent m to es) (late_one n to e h.0 stamped.0) (late n to es h.1 stamped.1)

  late_all : (n from to : ℕ) (xs : List (ℕ × E)) → Each (λ x. n ≤ m.stamp x.1) xs → Each (λ x. IsStamped m x.1) xs
      → Each (IsFrom n) (sent m to (of_actor from xs))
  late_all n from to xs h stamped =
      late n to (of_actor from xs) (each_of_actor (λ e. n ≤ m.stamp e) from xs h) (each_of_actor (IsStamped m) from xs stamped)

  -- a letter that is due comes before all that is still to be sent, so it is in front
  front : (n : ℕ) (link later due others : List L) → link ++ later ≡ due ++ others → Each (IsFrom n) later
      → Each (λ l. m.letter_stamp l < n) due → (rest : List L) × (link ≡ due ++ rest)
  front n link later [] others e late early = (link, refl)
  front n [] later (l ∷ due) others e late early =
      let P : List L → Type 0 = Each (IsFrom n) in
      let at : Each (IsFrom n) (l ∷ (due ++ others)) = subst P e late in
      let from : n ≤ m.letter_stamp l = at.0 in
      let below : m.letter_stamp l < n = early.0 in
      absurd (omega arith)
  front n (x ∷ link) later (l ∷ due) others e late early =
      let head : x ≡ l = cc in
      let tail : link ++ later ≡ due ++ others = cc in
      let r = front n link later due others tail late early.1 in
      (r.0, ap₂ (λ y ys. y ∷ ys) head r.1)

  early_one : (a : ℕ) (e : E) (from to : ℕ) → IsStamped m e → Each (λ l. m.letter_stamp l < m.stamp e) (taken m a e from to)
  early_one a e from to stamped =
      elim (eqb a to) as (λ b. Each (λ l. m.letter_stamp l < m.stamp e) (cond b (of_actor from (option_to_list (m.cause e))) [])) [
        | true ↦ each_of_actor (λ l. m.letter_stamp l < m.stamp e) from (option_to_list (m.cause e)) stamped.above
        | false ↦ tt
      ]

  module _ {W : Type 0} (world : World S L E W) (goes_on : GoesOn m world) (final : ℕ → S) (left : ℕ → ℕ → List L) where
    -- a world in which the rest of the events may still happen
    record IsAhead (w : W) (xs : List (ℕ × E)) : Type 0 where
      good : world.IsGood w
      within : Each (λ x. x.0 < m.actors) xs
      walks : (a : ℕ) → a < m.actors → Walks m a (world.state w a) (of_actor a xs) (final a)
      links : (from to : ℕ) → from < m.actors → to < m.actors
          → world.link w from to ++ sent m to (of_actor from xs) ≡ got m from (of_actor to xs) ++ left from to
      stamped : Each (λ x. IsStamped m x.1) xs
      in_order : IsInOrder m.stamp xs

    fronts : (w : W) (x : ℕ × E) (xs : List (ℕ × E)) → IsAhead w (x ∷ xs) → AreInFront m x.0 x.1 (world.link w)
    fronts w x xs ahead from to f t =
        let n : ℕ = m.stamp x.1 in
        let all : Each (λ y. n ≤ m.stamp y.1) (x ∷ xs) = (
          omega arith,
          each_weaker (IsBefore m.stamp x) (λ y. n ≤ m.stamp y.1) (λ y h. elim h [ inl k ↦ omega arith | inr k ↦ omega arith ]) xs
              ahead.in_order.0,
        ) in
        let e : world.link w from to ++ sent m to (of_actor from (x ∷ xs)) ≡ taken m x.0 x.1 from to
        ++ (got m from (of_actor to xs) ++ left from to) =
        ahead.links from to f t ∙ ap (λ ls. ls ++ left from to) (got_first from to x xs)
        ∙ append_assoc (taken m x.0 x.1 from to) (got m from (of_actor to xs)) (left from to) in
        front n (world.link w from to) (sent m to (of_actor from (x ∷ xs))) (taken m x.0 x.1 from to)
        (got m from (of_actor to xs) ++ left from to) e
        (late_all n from to (x ∷ xs) all ahead.stamped)
        (early_one x.0 x.1 from to ahead.stamped.0)

    walks_on : (w v : W) (x : ℕ × E) (xs : List (ℕ × E)) (next : S) → IsAhead w (x ∷ xs)
        → IsEvent m x.0 x.1 (world.state w) (world.link w) (world.state v) (world.link v) → world.state v x.0 ≡ next
        → Walks m x.0 next (of_actor x.0 xs) (final x.0) → (b : ℕ) → b < m.actors → Walks m b (world.state v b) (of_actor b xs) (final b)
    walks_on w v x xs next ahead event at here b below = elim (cases_eq b x.0) [
      | inl same ↦ rw (same, at) here
      | inr differs ↦
          let was : Walks m b (world.state w b) (of_actor b xs) (final b) =
          rw (ne_eqb x.0 b (λ q. differs (sym q))) at (ahead.walks b below) in
          rw (event.others b differs) was
    ]

    ahead_on : (w v : W) (x : ℕ × E) (xs : List (ℕ × E)) (next : S) → IsAhead w (x ∷ xs) → world.IsGood v
        → IsEvent m x.0 x.1 (world.state w) (world.link w) (world.state v) (world.link v) → world.state v x.0 ≡ next
        → Walks m x.0 next (of_actor x.0 xs) (final x.0) → IsAhead v xs
    ahead_on w v x xs next ahead good event at here = record {
      good = good;
      within = ahead.within.1;
      walks = walks_on w v x xs next ahead event at here;
      links = λ from to f t.
          let l = event.links from to f t in
          link_after (world.link w from to) (world.link v from to) (taken m x.0 x.1 from to) (added m x.0 x.1 from to) l.0
          (sent m to (of_actor from (x ∷ xs))) (sent m to (of_actor from xs)) (got m from (of_actor to (x ∷ xs)))
          (got m from (of_actor to xs))
          (left from to) (ahead.links from to f t) (sent_first from to x xs) (got_first from to x xs) l.1 l.2;
      stamped = ahead.stamped.1;
      in_order = ahead.in_order.1;
    }

    -- how it ends: in the final states, with these letters under way
    record IsThrough (w : W) (events : List (ℕ × E)) : Type 0 where
      last : W
      runs : Runs m world w events last
      good : world.IsGood last
      state : (a : ℕ) → a < m.actors → world.state last a ≡ final a
      link : (from to : ℕ) → from < m.actors → to < m.actors → world.link last from to ≡ left from to

    go_through : (w : W) (xs : List (ℕ × E)) → IsAhead w xs → IsThrough w xs
    go_through w [] ahead = record {
      last = w;
      runs = refl;
      good = ahead.good;
      state = ahead.walks;
      link = λ from to f t. sym (append-nil (world.link w from to)) ∙ ahead.links from to f t;
    }
    go_through w (x ∷ xs) ahead =
        let here : Walks m x.0 (world.state w x.0) (x.1 ∷ of_actor x.0 xs) (final x.0) =
        rw (eq-eqb x.0 x.0 refl) at (ahead.walks x.0 ahead.within.0) in
        let next = goes_on w x.0 x.1 here.0 ahead.within.0 ahead.good here.1 (fronts w x xs ahead) in
        let rest = go_through next.0 xs (ahead_on w next.0 x xs here.0 ahead next.2 next.3 next.4 here.2) in
        record {
          last = rest.last;
          runs = (next.0, next.1, rest.runs);
          good = rest.good;
          state = rest.state;
          link = rest.link;
        }

  -- what is left of a link once its letters were got
  abbrev left_of : (ℕ → List E) → ℕ → ℕ → List L
  left_of journal from to = drop (length (got m from (journal to))) (sent m to (journal from))

  sent_is : (journal : ℕ → List E) (from to : ℕ) → IsPrefix (got m from (journal to)) (sent m to (journal from))
      → sent m to (journal from) ≡ got m from (journal to) ++ left_of journal from to
  sent_is journal from to p =
      let gets : List L = got m from (journal to) in
      let left : drop (length gets) (sent m to (journal from)) ≡ p.0 = rw (← p.1) (drop_at gets p.0 (length gets) refl) in
      sym p.1 ∙ ap (λ l. gets ++ l) (sym left)

  -- the law
  pub events_are_a_run : {W : Type 0} (world : World S L E W) → GoesOn m world
      → (journal : ℕ → List E) (final : ℕ → S) (events : List (ℕ × E)) (w : W)
      → Compose m journal final → IsMerged m.stamp m.actors journal events → IsStart m world w → HasRun m world w events journal final
  events_are_a_run {W} world goes_on journal final events w compose merged start =
      let left : ℕ → ℕ → List L = left_of journal in
      let through : IsThrough world goes_on final left w events = go_through world goes_on final left w events (record {
        good = start.good;
        within = merged.within;
        walks = λ a below. rw (start.state a below, merged.each a below) (compose.own a below).walks;
        links = λ from to f t.
            rw (start.link from to f t, merged.each from f, merged.each to t) (sent_is journal from to (compose.links from to f t));
        stamped = each_from_actors (IsStamped m) m.actors events merged.within
            (λ a below. rw (merged.each a below) (compose.own a below).stamped);
        in_order = merged.in_order;
      }) in
      record {
        last = through.last;
        runs = through.runs;
        good = through.good;
        state = through.state;
        link = λ from to f t. sent_is journal from to (compose.links from to f t)
            ∙ ap (λ l. got m from (journal to) ++ l) (sym (through.link from to f t));
      }
