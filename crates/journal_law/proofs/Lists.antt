-- In a world of lists each event that may happen does.
use Rattle.std.proofs.Common.{◌≡◌, ◌<◌, ℕ, true, false, cond, eqb, List, [], ◌∷◌, ◌++◌, length, get_or, set, drop, Option, Some, None}
use Rattle.std.proofs.Common.{option_to_list, refl, sym, ap, ◌∙◌, append_assoc, append-nil, inl, inr, arith, eq-eqb, ne_eqb, length-set}
use Rattle.std.proofs.lemmas.List.{get_or-set_same, get_or-set_other}
use Rattle.std.proofs.lemmas.Bool.{cases_eq}
use Rattle.std.specs.List.{AllByRecursion as Each}
use Rattle.journal_law.specs.Orders.{of_actor}
use Rattle.journal_law.specs.Machines.{Machine, GoesOn, added}
use Rattle.journal_law.specs.Lists.{Lists, link_of, set_link, take_front, send_all, state_of, after, IsShaped, GotOfActors, lists}

module _ {L : Type 0} (n : ℕ) where
  -- there are `n` rows of `n` lists
  pub record IsSquare (ls : List (List (List L))) : Type 0 where
    pub links : length ls ≡ n
    pub rows : (a : ℕ) → a < n → length (get_or ls a []) ≡ n

  link_same : (links : List (List (List L))) (f t : ℕ) (l : List L) → IsSquare links → f < n → t < n
      → link_of (set_link links f t l) f t ≡ l
  link_same links f t l square hf ht =
      let inside : f < length links = let e = square.links in omega arith in
      let row : t < length (get_or links f []) = let e = square.rows f hf in omega arith in
      rw (get_or-set_same links f (set (get_or links f []) t l) [] inside, get_or-set_same (get_or links f []) t l [] row) refl

  link_other_from : (links : List (List (List L))) (f t g u : ℕ) (l : List L) → (g ≡ f → ⊥)
      → link_of (set_link links f t l) g u ≡ link_of links g u
  link_other_from links f t g u l differs = rw (get_or-set_other links f g (set (get_or links f []) t l) [] differs) refl

  link_other_to : (links : List (List (List L))) (f t g u : ℕ) (l : List L) → IsSquare links → f < n → (u ≡ t → ⊥)
      → link_of (set_link links f t l) g u ≡ link_of links g u
  link_other_to links f t g u l square hf differs = elim (cases_eq g f) [
    | inl same ↦
        let inside : f < length links = let e = square.links in omega arith in
        rw (
          same,
          get_or-set_same links f (set (get_or links f []) t l) [] inside,
          get_or-set_other (get_or links f []) t u l [] differs,
        ) refl
    | inr other ↦ link_other_from links f t g u l other
  ]

  square_set : (links : List (List (List L))) (f t : ℕ) (l : List L) → IsSquare links → f < n → IsSquare (set_link links f t l)
  square_set links f t l square hf = record {
    links = length-set links f (set (get_or links f []) t l) ∙ square.links;
    rows = λ a h. elim (cases_eq a f) [
      | inl same ↦
          let inside : f < length links = let e = square.links in omega arith in
          rw (same, get_or-set_same links f (set (get_or links f []) t l) [] inside) (length-set (get_or links f []) t l ∙ square.rows f hf)
      | inr other ↦ rw (get_or-set_other links f a (set (get_or links f []) t l) [] other) (square.rows a h)
    ];
  }

  -- taking a front letter leaves `n` rows of `n` lists
  pub square_taken : (a : ℕ) (cause : Option (ℕ × L)) (links : List (List (List L))) → IsSquare links
      → Each (λ x. x.0 < n) (option_to_list cause) → IsSquare (take_front a cause links)
  square_taken a None links square among = square
  square_taken a (Some x) links square among = square_set links x.0 a (drop 1 (link_of links x.0 a)) square among.0

  -- sending letters leaves `n` rows of `n` lists
  pub square_sent : (a : ℕ) (xs : List (ℕ × L)) (links : List (List (List L))) → a < n → IsSquare links → IsSquare (send_all a xs links)
  square_sent a [] links h square = square
  square_sent a (x ∷ xs) links h square = square_sent a xs (set_link links a x.0 (link_of links a x.0 ++ x.1 ∷ [])) h
      (square_set links a x.0 (link_of links a x.0 ++ x.1 ∷ []) square h)

  -- what each link holds after a front was taken off
  pub link_taken : (a : ℕ) (cause : Option (ℕ × L)) (links : List (List (List L))) (f t : ℕ) (rest : List L) → IsSquare links → a < n
      → Each (λ x. x.0 < n) (option_to_list cause) → link_of links f t ≡ cond (eqb a t) (of_actor f (option_to_list cause)) [] ++ rest
      → link_of (take_front a cause links) f t ≡ rest
  link_taken a None links f t rest square h among e =
      let same : cond (eqb a t) [] [] ++ rest ≡ rest =
      elim (eqb a t) as (λ b. cond b [] [] ++ rest ≡ rest) [ true ↦ refl | false ↦ refl ] in
      e ∙ same
  link_taken a (Some x) links f t rest square h among e = elim (cases_eq t a) [
    | inl here ↦ elim (cases_eq f x.0) [
      | inl from ↦
          let was : link_of links x.0 a ≡ x.1 ∷ rest = rw (here, from, eq-eqb a a refl, eq-eqb x.0 x.0 refl) at e in
          rw (here, from, link_same links x.0 a (drop 1 (link_of links x.0 a)) square among.0 h, was) refl
      | inr other ↦
          let was : link_of links f a ≡ rest = rw (here, eq-eqb a a refl, ne_eqb x.0 f (λ q. other (sym q))) at e in
          rw (here, link_other_from links x.0 a f a (drop 1 (link_of links x.0 a)) other) was
    ]
    | inr there ↦
        let was : link_of links f t ≡ rest = rw (ne_eqb a t (λ q. there (sym q))) at e in
        link_other_to links x.0 a f t (drop 1 (link_of links x.0 a)) square among.0 there ∙ was
  ]

  -- what each link holds after the sends
  pub link_sent : (a : ℕ) (xs : List (ℕ × L)) (links : List (List (List L))) (f t : ℕ) → IsSquare links → a < n → t < n
      → link_of (send_all a xs links) f t ≡ link_of links f t ++ cond (eqb a f) (of_actor t xs) []
  link_sent a [] links f t square h inside = elim (eqb a f) as (λ b. link_of links f t ≡ link_of links f t ++ cond b [] []) [
    | true ↦ sym (append-nil (link_of links f t))
    | false ↦ sym (append-nil (link_of links f t))
  ]
  link_sent a (x ∷ xs) links f t square h inside =
      let new : List L = link_of links a x.0 ++ x.1 ∷ [] in
      let r : link_of (send_all a xs (set_link links a x.0 new)) f t ≡ link_of (set_link links a x.0 new) f t
      ++ cond (eqb a f) (of_actor t xs) [] = link_sent a xs (set_link links a x.0 new) f t (square_set links a x.0 new square h) h inside in
      elim (cases_eq f a) [
        | inl here ↦
            let q : link_of (send_all a xs (set_link links a x.0 new)) a t ≡ link_of (set_link links a x.0 new) a t ++ of_actor t xs =
            rw (here, eq-eqb a a refl) at r in
            rw (here, eq-eqb a a refl, q) (elim (cases_eq t x.0) [
              | inl to ↦
                  let put : link_of (set_link links a x.0 new) a t ≡ link_of links a t ++ x.1 ∷ [] =
                  rw to (link_same links a x.0 new square h (let k = to in omega arith)) in
                  rw (put, eq-eqb x.0 t (sym to), append_assoc) refl
              | inr other ↦ rw (link_other_to links a x.0 a t new square h other, ne_eqb x.0 t (λ p. other (sym p))) refl
            ])
        | inr there ↦ rw (r, link_other_from links a x.0 f t new there, ne_eqb a f (λ p. there (sym p))) refl
      ]

module _ {S L E : Type 0} (m : Machine S L E) (first : S) (got_among : GotOfActors m first) where
  square : (w : Lists S L) → IsShaped m.actors w → IsSquare m.actors w.links
  square w shaped = record { links = shaped.links; rows = shaped.rows }

  -- in the world of lists, an event that may happen can be taken
  pub lists_go_on : GoesOn m (lists m first)
  lists_go_on w a e t inside shaped steps fronts =
      let n : ℕ = m.actors in
      let v : Lists S L = after m first w a e t in
      let within : a < length w.states = let k = shaped.states in omega arith in
      let got_of : Each (λ x. x.0 < n) (option_to_list (m.cause e)) = got_among a (state_of m first w a) e t steps in
      let at : state_of m first v a ≡ t = get_or-set_same w.states a t first within in
      let then : IsSquare n (take_front a (m.cause e) w.links) = square_taken n a (m.cause e) w.links (square w shaped) got_of in
      let last : IsSquare n v.links = square_sent n a (m.sends e) (take_front a (m.cause e) w.links) inside then in
      let now : m.Steps a (state_of m first w a) e (state_of m first v a) = rw at steps in (
        v,
        record { among = inside; steps = now; fronts = fronts; is = rw at refl },
        record { states = length-set w.states a t ∙ shaped.states; links = last.links; rows = last.rows },
        record {
          steps = now;
          others = λ b differs. get_or-set_other w.states a b t first differs;
          links = λ from to f to_in.
              let r = fronts from to f to_in in (
                r.0,
                r.1,
                link_sent n a (m.sends e) (take_front a (m.cause e) w.links) from to then inside to_in
                    ∙ ap (λ l. l ++ added m a e from to)
                    (link_taken n a (m.cause e) w.links from to r.0 (square w shaped) inside got_of r.1),
              );
        },
        at,
      )
