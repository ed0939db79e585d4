-- What is so of what waits stays so.
use Rattle.std.proofs.Common.{◌≡◌, ◌≢◌, ◌<◌, ◌≤◌, ◌==◌, ◌||◌, ℕ, Bool, true, false, not, List, [], ◌∷◌, ◌++◌, length, map, drop, filter}
use Rattle.std.proofs.Common.{get_or, set, eqb, Option, None, Some, All, refl, sym, ap, ◌∙◌, subst, arith, length-append}
use Rattle.std.specs.List.{AllPairs, list_any, slice_get}
use Rattle.std.proofs.lemmas.Bool.{both_ways, eq-eqb, eqb-true, not-true}
use Rattle.std.proofs.lemmas.Bool.Decides.{Decides-eqb}
use Rattle.std.proofs.lemmas.List.{get_or-map, length-map}
use Rattle.std.proofs.lemmas.List.Elements.{All-drop, All-filter, All-map, All-push, All-weaker, filter_passes}
use Rattle.std.proofs.lemmas.List.Folds.{Any-from_list_any, list_any_at}
use Rattle.std.proofs.lemmas.List.Kept.{AllPairs-filter}
use Rattle.std.proofs.lemmas.List.Quantifiers.{all_pairs_push}
use Rattle.std.proofs.lemmas.Map.Made.{IsDistinct-from_AllPairs}
use Rattle.std.proofs.lemmas.Map.Steps.{length-le_from_distinct_below}
use Rattle.std.proofs.lemmas.Option.{get_or_from_slice_get, slice_get_within}
use Rattle.adlb_unit.specs.Ring.{others}
use Rattle.adlb_unit.specs.declared.configs.Config.{Config}
use Rattle.adlb_unit.specs.declared.names.Rank.{Rank}
use Rattle.adlb_unit.specs.declared.names.Server.{Server}
use Rattle.server_components.specs.Calls.{asking, asks_next, forgotten, gone, has_server, hears_of, turned, wished, with_turned}
use Rattle.server_components.specs.Parked.{IsAway, IsHere, IsOther, IsParked, IsWaiting, ParkedModel, is_by, is_idle, is_of, is_parked}
use Rattle.server_components.specs.Parked.{with_waiting}
use Rattle.server_components.specs.declared.waits.Waiting.{Waiting}
use Rattle.server_components.specs.declared.wishes.Wish.{Wish}
use Rattle.server_components.proofs.Others.{all_others}
use Rattle.server_components.proofs.Places.{AreApart, own_place, set_turned}

-- As many as there are ranks at most.

any-map : {X : Type 0} (test : ℕ → Bool) (f : X → ℕ) (xs : List X) → list_any test (map f xs) ≡ list_any (λ x. test (f x)) xs
any-map test f [] = refl
any-map test f (x ∷ xs) = ap (λ t. test (f x) || t) (any-map test f xs)

-- elements whose numbers are below n, no two the same, are at most n
pub at_most : {X : Type 0} (number : X → ℕ) (n : ℕ) (some : X) (xs : List X) → All (λ x. number x < n) xs
    → AllPairs (λ x y. number x ≢ number y) xs → length xs ≤ n
at_most {X} number n some xs below once =
    let distinct = IsDistinct-from_AllPairs Decides-eqb (map number xs) apart in
    let few = length-le_from_distinct_below (map number xs) n distinct under in
    omega (arith, few, length-map xs number)
  where
    apart : AllPairs (λ a b. a ≢ b) (map number xs)
    apart i j d before within same =
        let last : j < length xs = omega (arith, within, length-map xs number) in
        let first : i < length xs = omega arith in
        once i j some before last (sym (get_or-map number xs i some d first) ∙ same ∙ get_or-map number xs j some d last)

    under : (q : ℕ) → list_any (eqb q) (map number xs) ≡ true → q < n
    under q has =
        let at = Any-from_list_any (λ e. eqb q (number e)) xs (sym (any-map (eqb q) number xs) ∙ has) in
        let is : q ≡ number at.1 = eqb-true q (number at.1) at.4 in
        let low : number at.1 < n = subst (λ (x : X). number x < n) at.3 (below at.0 at.1 at.2) in
        omega (arith, is, low)

abbrev number : Waiting → ℕ
number e = e.wish.rank.0

abbrev wish_number : Wish → ℕ
wish_number w = w.rank.0

-- at most as many ranks wait as there are
pub waiting_few : (m : ParkedModel) → IsParked m → (some : Waiting) → length m.parked.waiting ≤ m.config.ranks
waiting_few m sound some =
    let P : Waiting → Type 0 = IsWaiting m.config m.me in
    let Q : Waiting → Type 0 = λ e. number e < m.config.ranks in
    at_most number m.config.ranks some m.parked.waiting (All-weaker P Q (λ e is. is.here.0) m.parked.waiting sound.each) sound.once

-- at most as many wishes are kept as there are ranks
pub wishes_few : (m : ParkedModel) → IsParked m → (some : Wish) → length m.parked.wishes ≤ m.config.ranks
wishes_few m sound some =
    let P : Wish → Type 0 = λ w. IsAway m.config m.me w.rank in
    let Q : Wish → Type 0 = λ w. wish_number w < m.config.ranks in
    at_most wish_number m.config.ranks some m.parked.wishes (All-weaker P Q (λ w is. is.0) m.parked.wishes sound.away) sound.wished_once

-- One waits no longer, or more.

-- those that wait are sound without one rank
pub gone_sound : (m : ParkedModel) (rank : Rank) → IsParked m → IsParked (gone m rank)
gone_sound m rank sound = record {
  there = sound.there;
  each = All-filter (λ e. not (is_of rank e)) (IsWaiting m.config m.me) m.parked.waiting sound.each;
  once = AllPairs-filter AreApart (λ e. not (is_of rank e)) m.parked.waiting sound.once;
  away = sound.away;
  wished_once = sound.wished_once;
}

module _ (m : ParkedModel) (e : Waiting) (is : IsWaiting m.config m.me e) (new : is_parked m e.wish.rank ≡ false) (sound : IsParked m) where
  apart : (k : ℕ) (d : Waiting) → k < length m.parked.waiting → AreApart (get_or m.parked.waiting k d) e
  apart k d within same =
      both_ways (is_parked m e.wish.rank) new
      (list_any_at (is_of e.wish.rank) m.parked.waiting k d within (eq-eqb (get_or m.parked.waiting k d).wish.rank.0 e.wish.rank.0 same))

  -- those that wait are sound with a rank that did not wait before
  pub parked_sound : IsParked (with_waiting m (m.parked.waiting ++ e ∷ []))
  parked_sound = record {
    there = sound.there;
    each = All-push (IsWaiting m.config m.me) m.parked.waiting e sound.each is;
    once = all_pairs_push AreApart m.parked.waiting e sound.once apart;
    away = sound.away;
    wished_once = sound.wished_once;
  }

  -- there was room
  pub seat_left : length m.parked.waiting < m.config.ranks
  seat_left =
      let most = waiting_few (with_waiting m (m.parked.waiting ++ e ∷ [])) parked_sound e in
      omega (arith, most, length-append m.parked.waiting (e ∷ []))

-- Wishes come and go.

-- those that wait are sound after a rank's wish is forgotten
pub forgotten_sound : (m : ParkedModel) (rank : Rank) → IsParked m → IsParked (forgotten m rank)
forgotten_sound m rank sound =
    let P : Wish → Type 0 = λ w. IsAway m.config m.me w.rank in
    let R : Wish → Wish → Type 0 = λ v w. wish_number v ≢ wish_number w in
    record {
      there = sound.there;
      each = sound.each;
      once = sound.once;
      away = All-filter (λ w. not (is_by rank w)) P m.parked.wishes sound.away;
      wished_once = AllPairs-filter R (λ w. not (is_by rank w)) m.parked.wishes sound.wished_once;
    }

module _ (m : ParkedModel) (w : Wish) (away : IsAway m.config m.me w.rank) (sound : IsParked m) where
  left : List Wish
  left = filter (λ v. not (is_by w.rank v)) m.parked.wishes

  -- those that wait are sound with the wish of a rank of another home
  pub wished_sound : IsParked (wished m w)
  wished_sound =
      let less = forgotten_sound m w.rank sound in
      let P : Wish → Type 0 = λ v. IsAway m.config m.me v.rank in
      let R : Wish → Wish → Type 0 = λ u v. wish_number u ≢ wish_number v in
      let others = filter (λ v. not (is_by w.rank v)) m.parked.wishes in
      record {
        there = sound.there;
        each = sound.each;
        once = sound.once;
        away = All-push P others w less.away away;
        wished_once = all_pairs_push R others w less.wished_once differs;
      }
    where
      differs : (k : ℕ) (d : Wish) → k < length (filter (λ v. not (is_by w.rank v)) m.parked.wishes)
          → wish_number (get_or (filter (λ v. not (is_by w.rank v)) m.parked.wishes) k d) ≢ wish_number w
      differs k d within same =
          let others = filter (λ v. not (is_by w.rank v)) m.parked.wishes in
          let passes = filter_passes (λ v. not (is_by w.rank v)) m.parked.wishes k d within in
          both_ways (is_by w.rank (get_or others k d)) (not-true (is_by w.rank (get_or others k d)) passes)
          (eq-eqb (get_or others k d).rank.0 w.rank.0 same)

  -- without the rank's own wish there is room for it
  pub wish_left : length (filter (λ v. not (is_by w.rank v)) m.parked.wishes) < m.config.ranks
  wish_left =
      let most = wishes_few (wished m w) wished_sound w in
      omega (arith, most, length-append (filter (λ v. not (is_by w.rank v)) m.parked.wishes) (w ∷ []))

-- Those that wait are turned.

turned_has : (P : Waiting → Type 0) (test : Waiting → Bool) (f : Waiting → Waiting) (e : Waiting) → P e → P (f e) → P (turned test f e)
turned_has P test f e before after = by_test (test e) refl
  where
    by_test : (t : Bool) → test e ≡ t → P (turned test f e)
    by_test true is = rw is after
    by_test false is = rw is before

module _ (m : ParkedModel) (test : Waiting → Bool) (f : Waiting → Waiting) (sound : IsParked m)
    (keeps : (e : Waiting) → IsWaiting m.config m.me e → IsWaiting m.config m.me (f e)) (same_wish : (e : Waiting)
    → (f e).wish ≡ e.wish) where
  stays : (e : Waiting) → (turned test f e).wish ≡ e.wish
  stays e =
      let P : Waiting → Type 0 = λ x. x.wish ≡ e.wish in
      turned_has P test f e refl (same_wish e)

  once_turned : AllPairs AreApart (map (turned test f) m.parked.waiting)
  once_turned i j d before within same =
      let xs = m.parked.waiting in
      let last : j < length xs = omega (arith, within, length-map xs (turned test f)) in
      let first : i < length xs = omega arith in
      let at : (k : ℕ) → k < length xs → (get_or (map (turned test f) xs) k d).wish.rank.0 ≡ (get_or xs k d).wish.rank.0 =
      λ k inside. ap (λ (x : Waiting). x.wish.rank.0) (get_or-map (turned test f) xs k d d inside)
      ∙ ap (λ (w : Wish). w.rank.0) (stays (get_or xs k d)) in
      sound.once i j d before last (sym (at i first) ∙ same ∙ at j last)

  -- those that wait are sound after a change that keeps their wishes
  pub turned_sound : IsParked (with_turned m test f)
  turned_sound =
      let P : Waiting → Type 0 = IsWaiting m.config m.me in
      let Q : Waiting → Type 0 = λ e. IsWaiting m.config m.me (turned test f e) in
      record {
        there = sound.there;
        each = All-map P (turned test f) m.parked.waiting
            (All-weaker P Q (λ e is. turned_has P test f e is (keeps e is)) m.parked.waiting sound.each);
        once = once_turned;
        away = sound.away;
        wished_once = sound.wished_once;
      }

-- a write at one place, which keeps the rank there
pub write_sound : (m : ParkedModel) (n : ℕ) (e : Waiting) (f : Waiting → Waiting) → IsParked m → n < length m.parked.waiting
    → get_or m.parked.waiting n e ≡ e → ((x : Waiting) → IsWaiting m.config m.me x → IsWaiting m.config m.me (f x))
    → ((x : Waiting) → (f x).wish ≡ x.wish) → IsParked (with_waiting m (set m.parked.waiting n (f e)))
write_sound m n e f sound within read keeps same_wish =
    let one = get_or m.parked.waiting n e in
    let at = own_place m.parked.waiting sound.once n e within in
    let P : List Waiting → Type 0 = λ l. IsParked (with_waiting m l) in
    let is = ap (λ x. set m.parked.waiting n (f x)) (sym read) ∙ set_turned (is_of one.wish.rank) f m.parked.waiting n one at in
    subst P (sym is) (turned_sound m (is_of one.wish.rank) f sound keeps same_wish)

-- Who asks servers that are others waits as it should.

none_left : (servers : List Server) → slice_get servers 0 ≡ None → drop 1 servers ≡ []
none_left [] none = refl
none_left (s ∷ servers) none = absurd (cc (none))

module _ (config : Config) (me : Server) where
  -- the first server to ask is another
  pub first_other : (servers : List Server) → All (IsOther config me) servers → (s : Server) → slice_get servers 0 ≡ Some s
      → IsOther config me s
  first_other servers all s is =
      let read : get_or servers 0 s ≡ s = get_or_from_slice_get servers 0 s s is in
      subst (IsOther config me) read (all 0 s (slice_get_within servers 0 s is))

  -- a rank that asks other servers waits as it should
  pub asking_waits : (w : Wish) (servers : List Server) → IsHere config me w.rank → All (IsOther config me) servers
      → IsWaiting config me (asking w servers)
  asking_waits w servers here all = record {
    here = here;
    asked = first_other servers all;
    to_ask = All-drop (IsOther config me) 1 servers all;
    settled = none_left servers;
  }

  -- a rank parked by its home, with all others to ask, waits as it should
  pub parks_waits : (w : Wish) → me.0 < config.servers → IsHere config me w.rank → IsWaiting config me (asking w (others config me))
  parks_waits w there here = asking_waits w (others config me) here (all_others config me there)

  -- a rank whose next server is asked waits as it should
  pub next_waits : (e : Waiting) → IsWaiting config me e → IsWaiting config me (asks_next e)
  next_waits e is = asking_waits e.wish e.to_ask is.here is.to_ask

  -- a rank that waits does so as it should after its home heard of a server
  pub heard_waits : (from : Server) → me.0 < config.servers → IsOther config me from → (e : Waiting) → IsWaiting config me e
      → IsWaiting config me (hears_of config me from e)
  heard_waits from there other e is = by_asked e.asked refl
    where
      heard : Waiting
      heard = hears_of config me from e

      by_asked : (asked : Option Server) → e.asked ≡ asked → IsWaiting config me (hears_of config me from e)
      by_asked None idle = rw idle record {
        here = is.here;
        asked = λ s same. let one : from ≡ s = cc (same) in subst (IsOther config me) one other;
        to_ask = All-filter (λ (s : Server). not (s.0 == from.0)) (IsOther config me) e.to_ask is.to_ask;
        settled = λ none. absurd (cc (none));
      }
      by_asked (Some t) asked = rw asked record {
        here = is.here;
        asked = λ s same. is.asked s (asked ∙ same);
        to_ask = All-filter (λ (s : Server). (s.0 == from.0) || has_server e.to_ask s) (IsOther config me) (others config me)
            (all_others config me there);
        settled = λ none. absurd (cc (none));
      }

  -- what is heard of a server leaves the wish
  pub heard_wish : (from : Server) (e : Waiting) → (hears_of config me from e).wish ≡ e.wish
  heard_wish from e = by_idle (is_idle e) refl
    where
      by_idle : (t : Bool) → is_idle e ≡ t → (hears_of config me from e).wish ≡ e.wish
      by_idle true is = rw is refl
      by_idle false is = rw is refl
