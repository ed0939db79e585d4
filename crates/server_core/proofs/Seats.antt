-- One rank among those that wait at a server, each once.
use Rattle.std.proofs.Common.{◌≡◌, ◌↔◌, ◌==◌, ℕ, suc, Bool, true, false, ◌&&◌, not, List, ◌∷◌, ◌++◌, length, map, filter, find, Option}
use Rattle.std.proofs.Common.{None, Some, IsTrue, All, refl, sym, ap, ◌∙◌, subst}
use Rattle.std.specs.Prelude.{is_none, is_some}
use Rattle.std.specs.List.{AllPairs, list_any}
use Rattle.std.specs.Option.{IfSome, option_map}
use Rattle.std.proofs.lemmas.Bool.{and_parts, eqb-true}
use Rattle.std.proofs.lemmas.List.{map-append}
use Rattle.std.proofs.lemmas.List.Elements.{All-weaker}
use Rattle.std.proofs.lemmas.List.Folds.{Any-from_list_any, list_any-from_Any}
use Rattle.adlb_unit.specs.declared.names.Rank.{Rank}
use Rattle.adlb_unit.specs.declared.names.Server.{Server}
use Rattle.bag_ledger.proofs.Tests.{some_is}
use Rattle.work_queue.proofs.Searched.{find_first, find_none}
use Rattle.server_components.proofs.Places.{AreApart, none_any, none_turned}
use Rattle.server_components.specs.Calls.{is_since, request_of, turned}
use Rattle.server_components.specs.Parked.{ParkedModel, entry_of, is_asked, is_idle, is_of, is_pending}
use Rattle.server_components.specs.declared.waits.Waiting.{Waiting}
use Rattle.server_law.specs.Expected.{IsUnanswered}
use Rattle.server_law.specs.Finding.{Place, has_asked, place_in}
use Rattle.server_law.specs.State.{ServerModel}
use Rattle.server_law.proofs.Places.{IsPlace, place, place_found, place_says}
use Rattle.server_law.proofs.Found.{some_there}
use Rattle.server_law.proofs.Tests.{found_any, has_asked_says, unanswered_says}
use Rattle.server_core.proofs.Alone.{NonePasses, any_one, before_others, behind_others, find_there, found_split, gone_one, one_fewer}

-- the rank waits here, and nowhere else
pub record IsAlone (rank : Rank) (waiting : List Waiting) (p : Place) : Type 0 where
  pub stands : waiting ≡ p.at.before ++ p.here ∷ p.at.behind
  pub own : is_of rank p.here ≡ true
  pub before : NonePasses (is_of rank) p.at.before
  pub behind : NonePasses (is_of rank) p.at.behind

-- ranks with equal numbers are equal
pub same_rank : (a b : Rank) → a.0 ≡ b.0 → a ≡ b
same_rank a b same = ap (λ n. let r : Rank = record { 0 = n } in r) same

-- who stands here does so alone
pub alone_where : (rank : Rank) (waiting before : List Waiting) (e : Waiting) (behind : List Waiting) → AllPairs AreApart waiting
    → waiting ≡ before ++ e ∷ behind → is_of rank e ≡ true → IsAlone rank waiting (place before e behind)
alone_where rank waiting before e behind once stands own =
    let apart = subst (AllPairs AreApart) stands once in
    let number : Waiting → ℕ = λ x. x.wish.rank.0 in
    let is = eqb-true e.wish.rank.0 rank.0 own in
    let F : ℕ → Waiting → Type 0 = λ n x. (x.wish.rank.0 == n) ≡ false in
    record {
      stands = stands;
      own = own;
      before = subst (λ n. All (F n) before) is (before_others number before e behind apart);
      behind = subst (λ n. All (F n) behind) is (behind_others number before e behind apart);
    }

-- so is who is found by a test that passes this rank alone
pub alone_at : (rank : Rank) (test : Waiting → Bool) → ((e : Waiting) → test e ≡ true → is_of rank e ≡ true) → (waiting : List Waiting)
    → AllPairs AreApart waiting → (p : Place) → place_in test waiting ≡ Some p → IsAlone rank waiting p × (test p.here ≡ true)
alone_at rank test tells waiting once p found =
    let is : IsPlace test waiting p = subst (λ o. IfSome o (IsPlace test waiting)) found (place_found test waiting) in
    (alone_where rank waiting p.at.before p.here p.at.behind once is.stands (tells p.here is.passes), is.passes)

-- the entry that is found for a rank is its only one
pub alone_found : (rank : Rank) (waiting : List Waiting) → AllPairs AreApart waiting → (e : Waiting) → find (is_of rank) waiting ≡ Some e
    → (p : Place) × IsAlone rank waiting p × (p.here ≡ e)
alone_found rank waiting once e found =
    let at = found_split (is_of rank) waiting e found in
    (place at.before e at.behind, alone_where rank waiting at.before e at.behind once at.stands at.passes, refl)

-- a test that passes this rank alone fails for others
pub fails_for : (rank : Rank) (test : Waiting → Bool) → ((e : Waiting) → is_of rank e ≡ false → test e ≡ false) → (xs : List Waiting)
    → NonePasses (is_of rank) xs → NonePasses test xs
fails_for rank test tells xs none =
    let F : Waiting → Type 0 = λ e. is_of rank e ≡ false in
    All-weaker F (λ e. test e ≡ false) tells xs none

module _ (rank : Rank) (waiting : List Waiting) (p : Place) (alone : IsAlone rank waiting p) where
  -- without the rank, those before and after it are left
  pub gone_is : filter (λ e. not (is_of rank e)) waiting ≡ p.at.before ++ p.at.behind
  gone_is =
      ap (filter (λ e. not (is_of rank e))) alone.stands
      ∙ gone_one (is_of rank) p.at.before p.here p.at.behind alone.before alone.own alone.behind

  -- a change of the rank's entry leaves those before and after it
  pub turned_is : (test : Waiting → Bool) (f : Waiting → Waiting) → ((e : Waiting) → is_of rank e ≡ false → test e ≡ false)
      → test p.here ≡ true → map (turned test f) waiting ≡ p.at.before ++ f p.here ∷ p.at.behind
  turned_is test f tells passes =
      let first = none_turned test f p.at.before (fails_for rank test tells p.at.before alone.before) in
      let last = none_turned test f p.at.behind (fails_for rank test tells p.at.behind alone.behind) in
      ap (map (turned test f)) alone.stands ∙ map-append (turned test f) p.at.before (p.here ∷ p.at.behind)
      ∙ rw (first, last, passes) refl

  -- the entry found for the rank is its own
  pub found_is : find (is_of rank) waiting ≡ Some p.here
  found_is = ap (find (is_of rank)) alone.stands ∙ find_there (is_of rank) p.at.before p.here p.at.behind alone.before alone.own

  -- whether the rank's entry passes a test
  pub any_is : (q : Waiting → Bool) → list_any (λ e. is_of rank e && q e) waiting ≡ q p.here
  any_is q =
      ap (list_any (λ e. is_of rank e && q e)) alone.stands
      ∙ any_one (is_of rank) q p.at.before p.here p.at.behind alone.before alone.own alone.behind

  -- one more rank waits than those before and after it
  pub one_more : length waiting ≡ suc (length (p.at.before ++ p.at.behind))
  one_more = ap (λ (l : List Waiting). length l) alone.stands ∙ one_fewer p.at.before p.here p.at.behind

-- What is said of a rank.

-- what is said of a rank that waits: its request, and who is asked for it
abbrev pub told_of : List Waiting → Rank → Option (ℕ × Option Server)
told_of waiting rank = option_map request_of (find (is_of rank) waiting)

-- something is said of a rank exactly if it waits
pub waits_told : (waiting : List Waiting) (rank : Rank) → is_some (told_of waiting rank) ≡ list_any (is_of rank) waiting
waits_told waiting rank = by_found (find (is_of rank) waiting) ∙ found_any (is_of rank) waiting
  where
    by_found : (o : Option Waiting) → is_some (option_map request_of o) ≡ is_some o
    by_found None = refl
    by_found (Some e) = refl

-- as it waits, if it does
abbrev pub idle_if : Option (ℕ × Option Server) → Bool
idle_if None = false
idle_if (Some told) = is_none told.1

-- a rank waits idle exactly if what is said of it says so
pub idle_told : (waiting : List Waiting) → AllPairs AreApart waiting → (rank : Rank)
    → list_any (λ e. is_of rank e && is_idle e) waiting ≡ idle_if (told_of waiting rank)
idle_told waiting once rank = by_found (find (is_of rank) waiting) refl
  where
    by_found : (o : Option Waiting) → find (is_of rank) waiting ≡ o
        → list_any (λ e. is_of rank e && is_idle e) waiting ≡ idle_if (option_map request_of o)
    by_found None found = none_any (is_of rank) is_idle waiting (find_none (is_of rank) waiting found)
    by_found (Some e) found =
        let p = alone_found rank waiting once e found in
        any_is rank waiting p.0 p.1 is_idle ∙ ap is_idle p.2

-- who is asked for
pub record IsAskedFor (s : ServerModel) (from : Server) (rank : Rank) (request : ℕ) (p : Place) : Type 0 where
  pub found : place_in (has_asked from rank request) s.kept.parked.waiting ≡ Some p
  pub alone : IsAlone rank s.kept.parked.waiting p
  pub rank_is : p.here.wish.rank ≡ rank
  pub request_is : p.here.wish.request ≡ request
  pub asked : p.here.asked ≡ Some from

tells_rank : (from : Server) (rank : Rank) (request : ℕ) (e : Waiting) → has_asked from rank request e ≡ true → is_of rank e ≡ true
tells_rank from rank request e is = (and_parts _ _ (and_parts (is_since rank request e) _ is).0).0

-- a rank for which a server was asked waits, and is asked for there
pub asked_for : (s : ServerModel) → AllPairs AreApart s.kept.parked.waiting → (from : Server) (rank : Rank) (request : ℕ)
    → IsUnanswered s from rank request → (p : Place) × IsAskedFor s from rank request p
asked_for s once from rank request is =
    let waiting = s.kept.parked.waiting in
    let some = place_says (has_asked from rank request) waiting ∙ (unanswered_says s from rank request).1 is in
    let p = some_there (place_in (has_asked from rank request) waiting) some in
    let alone = alone_at rank (has_asked from rank request) (tells_rank from rank request) waiting once p.0 p.1 in
    let says = (has_asked_says from rank request p.0.here).0 alone.1 in
    (p.0, record { found = p.1; alone = alone.0; rank_is = says.0; request_is = says.1; asked = says.2 })

-- a rank for which a server is unanswered waits
pub pending_there : (m : ParkedModel) (rank : Rank) → is_pending m rank ≡ true → (e : Waiting) × (entry_of m rank ≡ Some e)
pending_there m rank is =
    let has = Any-from_list_any (λ e. is_of rank e && is_asked e) m.parked.waiting is in
    some_there (find (is_of rank) m.parked.waiting)
    (found_any (is_of rank) m.parked.waiting
    ∙ list_any-from_Any (is_of rank) m.parked.waiting (has.0, has.1, has.2, has.3, (and_parts _ _ has.4).0))

-- a server was asked for the rank that stands here, and is unanswered
pub record IsAskedAt (s : ServerModel) (from : Server) (p : Place) : Type 0 where
  pub found : place_in (has_asked from p.here.wish.rank p.here.wish.request) s.kept.parked.waiting ≡ Some p
  pub alone : IsAlone p.here.wish.rank s.kept.parked.waiting p
  pub asked : p.here.asked ≡ Some from

-- what is so of each such rank
pub asked_as : (s : ServerModel) → AllPairs AreApart s.kept.parked.waiting → (from : Server) (rank : Rank) (request : ℕ)
    → IsUnanswered s from rank request → (P : Rank → ℕ → Type 0)
    → ((p : Place) → IsAskedAt s from p → P p.here.wish.rank p.here.wish.request) → P rank request
asked_as s once from rank request is P each =
    let p = asked_for s once from rank request is in
    let F : Rank → ℕ → Type 0 = λ r k. place_in (has_asked from r k) s.kept.parked.waiting ≡ Some p.0
    → IsAlone r s.kept.parked.waiting p.0 → P r k in
    let here : F p.0.here.wish.rank p.0.here.wish.request = λ found alone. each p.0
    (record { found = found; alone = alone; asked = p.1.asked }) in
    let own : F rank request = subst (λ r. F r request) p.1.rank_is (subst (F p.0.here.wish.rank) p.1.request_is here) in
    own p.1.found p.1.alone

-- what is said of a rank says that this server owes the answer exactly if it does
pub unanswered_told : (s : ServerModel) → AllPairs AreApart s.kept.parked.waiting → (from : Server) (rank : Rank) (request : ℕ)
    → (told_of s.kept.parked.waiting rank ≡ Some (request, Some from)) ↔ IsUnanswered s from rank request
unanswered_told s once from rank request = (forth (find (is_of rank) s.kept.parked.waiting) refl, back)
  where
    forth : (o : Option Waiting) → find (is_of rank) s.kept.parked.waiting ≡ o → option_map request_of o ≡ Some (request, Some from)
        → IsUnanswered s from rank request
    forth None found told = absurd (cc)
    forth (Some e) found told =
        let at = find_first (is_of rank) s.kept.parked.waiting e found in
        let is = some_is told in
        let own = same_rank e.wish.rank rank (eqb-true e.wish.rank.0 rank.0 at.passes) in
        (at.place, e, at.within, at.read, (own, ap (λ (t : ℕ × Option Server). t.0) is, ap (λ (t : ℕ × Option Server). t.1) is))

    back : IsUnanswered s from rank request → told_of s.kept.parked.waiting rank ≡ Some (request, Some from)
    back is =
        let p = asked_for s once from rank request is in
        ap (option_map request_of) (found_is rank s.kept.parked.waiting p.0 p.1.alone)
        ∙ ap (λ q. Some (q, p.0.here.asked)) p.1.request_is ∙ ap (λ a. Some (request, a)) p.1.asked

-- as it is told: since which request, and which server is unanswered
module _ (s : ServerModel) (once : AllPairs AreApart s.kept.parked.waiting) (from : Server) (rank : Rank) (request since : ℕ)
    (asked : Option Server) (told : told_of s.kept.parked.waiting rank ≡ Some (since, asked)) where
  says : IsUnanswered s from rank request ↔ ((since ≡ request) × (asked ≡ Some from))
  says =
      let is = unanswered_told s once from rank request in (
        λ unanswered.
            let same = some_is (sym told ∙ is.1 unanswered) in
            (ap (λ (t : ℕ × Option Server). t.0) same, ap (λ (t : ℕ × Option Server). t.1) same),
        λ both. is.0 (told ∙ ap (λ n. Some (n, asked)) both.0 ∙ ap (λ a. Some (request, a)) both.1),
      )

  -- with its request, the server owes the answer exactly if it is the one that was asked
  pub unanswered_then : since ≡ request → (b : Bool) → IsTrue b ↔ (asked ≡ Some from) → IsTrue b ↔ IsUnanswered s from rank request
  unanswered_then same b is = (λ yes. says.1 (same, is.0 yes), λ unanswered. is.1 (says.0 unanswered).1)

  -- with another request, the server owes no answer
  pub unanswered_else : (since ≡ request → ⊥) → IsTrue (since == request) ↔ IsUnanswered s from rank request
  unanswered_else differs = (λ yes. absurd (differs (eqb-true since request yes)), λ unanswered. absurd (differs (says.0 unanswered).0))

-- for a rank that does not wait no server owes an answer
pub unanswered_none : (s : ServerModel) → AllPairs AreApart s.kept.parked.waiting → (from : Server) (rank : Rank) (request : ℕ)
    → told_of s.kept.parked.waiting rank ≡ None → IsTrue false ↔ IsUnanswered s from rank request
unanswered_none s once from rank request none =
    let is = unanswered_told s once from rank request in
    (λ yes. absurd (cc), λ unanswered. let told = sym none ∙ is.1 unanswered in absurd (cc))

-- a test that is the reverse of another says that there is nothing
pub none_tells : {X : Type 0} (o : Option X) (b : Bool) → is_some o ≡ not b → b ≡ is_none o
none_tells None true is = refl
none_tells None false is = absurd (cc)
none_tells (Some x) true is = absurd (cc)
none_tells (Some x) false is = refl
