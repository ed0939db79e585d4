-- What an entry is to one rank: it passes by, or the rank has its turn.
use Rattle.std.proofs.Common.{◌≡◌, ℕ, zero, suc, ◌<◌, ◌==◌, ◌⊎◌, inl, inr, Bool, true, false, List, [], ◌∷◌, length, Option, Some, None}
use Rattle.std.proofs.Common.{refl, sym, ap, ◌∙◌, subst, arith, slice_get}
use Rattle.std.specs.Prelude.{option_map}
use Rattle.std.proofs.lemmas.Bool.Decides.{nat_tests}
use Rattle.adlb_unit.specs.declared.names.Rank.{Rank}
use Rattle.adlb_unit.specs.declared.units.Unit.{Unit}
use Rattle.bag_ledger.specs.declared.entries.Entry.{Entry}
use Rattle.bag_ledger.specs.declared.entries.Call.{Call}
use Rattle.bag_ledger.specs.declared.entries.Answer.{Answer}
use Rattle.bag_ledger.specs.declared.entries.Answer.TheVariants as answers
use Rattle.bag_ledger.specs.declared.entries.Said.{Said}
use Rattle.bag_ledger.specs.declared.states.RankState.{RankState}
use Rattle.bag_ledger.specs.declared.states.Status.{Status}
use Rattle.bag_ledger.specs.declared.states.Status.TheVariants as does
use Rattle.bag_ledger.specs.Bag.{Bag, rank_at, putting}
use Rattle.bag_ledger.specs.Steps.{Is, Legal, after, change_at}
use Rattle.bag_ledger.specs.Runs.{says, call_of}
use Rattle.bag_ledger.proofs.Tests.{some_is, same_number, same_rank_is}
use Rattle.bag_ledger.proofs.Turns.{changed_here}
use Rattle.balance_law.proofs.Paths.{IsPath, IsWithin, of_rank, along}
use Rattle.balance_law.proofs.Deeds.{IsActed, IsQuiet, IsIdle, IsOf, Comes, Deed, waits, begins, hears, awaits, calls_done, finishes}
use Rattle.balance_law.proofs.Deeds.{accepted, granted, fetched, put_by, acted}

-- what the entry says, accepts, grants and gives is of this rank
pub record IsOwned (b : Bag) (e : Entry) (rank : Rank) : Type 0 where
  pub says_it : IsOf rank (says b e)
  pub accepts : IsOf rank (accepted b e)
  pub grants : IsOf rank (granted b e)
  pub gives : IsOf rank (fetched b e)

put_owned : (rank : Rank) (status : Status) → IsOf rank (put_by rank status)
put_owned rank status = by_unit (putting status)
  where
    by_unit : (o : Option Unit) → IsOf rank (option_map (λ u. (rank, u)) o)
    by_unit None = inl refl
    by_unit (Some u) = inr (u, refl)

idle_owned : (b : Bag) (e : Entry) (rank : Rank) → IsOf rank (says b e) → IsIdle b e → IsOwned b e rank
idle_owned b e rank of_says idle = record { says_it = of_says; accepts = inl idle.0; grants = inl idle.1; gives = inl idle.2 }

comes_owned : (b : Bag) (e : Entry) (rank : Rank) (status : Status) (call : Call) (answer : Answer) → IsOf rank (says b e)
    → Comes b e rank status call answer → IsOwned b e rank
comes_owned b e rank status call (answers.Ended end) of_says c = idle_owned b e rank of_says c.0
comes_owned b e rank status call (answers.Granted note) of_says c = record {
  says_it = of_says;
  accepts = inl c.accepts;
  grants = inr (_, c.grants);
  gives = inl c.gives;
}
comes_owned b e rank status call (answers.Body body) of_says c = record {
  says_it = of_says;
  accepts = inl c.0.accepts;
  grants = inl c.0.grants;
  gives = c.0.owned;
}
comes_owned b e rank status call answers.Fine of_says c = record {
  says_it = of_says;
  accepts = rw c.0 (put_owned rank status);
  grants = inl c.1;
  gives = inl c.2;
}
comes_owned b e rank status call answers.Rejected of_says c = idle_owned b e rank of_says c.0
comes_owned b e rank status call answers.NoCurrent of_says c = idle_owned b e rank of_says c.0
comes_owned b e rank status call (answers.Info info) of_says c = idle_owned b e rank of_says c.0

owned : (b : Bag) (e : Entry) (rank : Rank) (r now : RankState) → Deed b e rank r now → IsOwned b e rank
owned b e rank r now (waits silent idle status end batch) = idle_owned b e rank (inl silent) idle
owned b e rank r now (begins call silent idle runs is end batch) = idle_owned b e rank (inl silent) idle
owned b e rank r now (hears call answer said is runs end batch comes) = comes_owned b e rank r.status call answer (inr (_, said)) comes
owned b e rank r now (awaits id u common silent there is status accepts grants gives) = record {
  says_it = inl silent;
  accepts = inl accepts;
  grants = inl grants;
  gives = inr (_, gives);
}
owned b e rank r now (calls_done said idle runs) = idle_owned b e rank (inr (_, said)) idle
owned b e rank r now (finishes said idle runs done end batch) = idle_owned b e rank (inr (_, said)) idle

-- nothing of the entry is of this rank
abbrev pub IsAway : Bag → Entry → Rank → Type 0
IsAway b e rank =
    (rank_at (after b e) rank ≡ rank_at b rank) × (of_rank rank (says b e) ≡ []) × (of_rank rank (accepted b e) ≡ [])
    × (of_rank rank (granted b e) ≡ []) × (of_rank rank (fetched b e) ≡ [])

-- the rank has its turn
pub record IsTurn (b : Bag) (e : Entry) (rank : Rank) : Type 0 where
  pub was : RankState
  pub now : RankState
  pub there : Is b rank was
  pub here : Is (after b e) rank now
  pub deed : Deed b e rank was now

-- nothing is seen of nobody
pub of_none : {X : Type 0} (rank : Rank) (o : Option (Rank × X)) → o ≡ None → of_rank rank o ≡ []
of_none rank o is = rw is refl

-- what is of this rank is seen
pub of_mine : {X : Type 0} (rank : Rank) (o : Option (Rank × X)) (x : X) → o ≡ Some (rank, x) → of_rank rank o ≡ x ∷ []
of_mine rank o x is = rw (is, same_number rank.0) refl

of_other : {X : Type 0} (rank other : Rank) (o : Option (Rank × X)) → (rank.0 == other.0) ≡ false → IsOf rank o → of_rank other o ≡ []
of_other rank other o differ (inl none) = rw none refl
of_other rank other o differ (inr some) = rw (some.1, differ) refl

changed_other : {X : Type 0} (f : X → X) (place other : ℕ) (xs : List X) → (place == other) ≡ false
    → slice_get (change_at f place xs) other ≡ slice_get xs other
changed_other f place other [] differ = refl
changed_other f zero zero (x ∷ xs) differ = absurd (cc)
changed_other f zero (suc other) (x ∷ xs) differ = refl
changed_other f (suc place) zero (x ∷ xs) differ = refl
changed_other f (suc place) (suc other) (x ∷ xs) differ =
    let apart : (place == other) ≡ false = grind (arith, nat_tests, differ) in
    changed_other f place other xs apart

ranks_at : (b : Bag) (e : Entry) (ranks : List RankState) (rank : Rank) (o : Option RankState) → (after b e).ranks ≡ ranks
    → slice_get ranks rank.0 ≡ o → rank_at (after b e) rank ≡ o
ranks_at b e ranks rank o same is = ap (λ (rs : List RankState). slice_get rs rank.0) same ∙ is

-- an entry passes a rank by, or the rank has its turn
pub seen : (b : Bag) (e : Entry) → Legal b e → (rank : Rank) → IsAway b e rank ⊎ IsTurn b e rank
seen b e l rank = by_case (acted b e l)
  where
    by_case : IsQuiet b e ⊎ IsActed b e → IsAway b e rank ⊎ IsTurn b e rank
    by_case (inl q) =
        inl (
          ranks_at b e b.ranks rank (rank_at b rank) q.0 refl,
          of_none rank (says b e) q.1,
          of_none rank (accepted b e) q.2.0,
          of_none rank (granted b e) q.2.1,
          of_none rank (fetched b e) q.2.2,
        )
    by_case (inr a) = by_test (a.rank.0 == rank.0) refl
      where
        by_test : (t : Bool) → (a.rank.0 == rank.0) ≡ t → IsAway b e rank ⊎ IsTurn b e rank
        by_test true is =
            let same : a.rank ≡ rank = same_rank_is a.rank rank is in
            inr (subst (λ (k : Rank). IsTurn b e k) same (record {
              was = a.was;
              now = a.f a.was;
              there = a.there;
              here =
                  ranks_at b e (change_at a.f a.rank.0 b.ranks) a.rank (Some (a.f a.was)) a.changed
                  (changed_here a.f a.rank.0 b.ranks a.was a.there);
              deed = a.deed;
            }))
        by_test false is =
            let o = owned b e a.rank a.was (a.f a.was) a.deed in
            inl (
              ranks_at b e (change_at a.f a.rank.0 b.ranks) rank (rank_at b rank) a.changed (changed_other a.f a.rank.0 rank.0 b.ranks is),
              of_other a.rank rank (says b e) is o.says_it,
              of_other a.rank rank (accepted b e) is o.accepts,
              of_other a.rank rank (granted b e) is o.grants,
              of_other a.rank rank (fetched b e) is o.gives,
            )

-- The number of ranks stays, and what an entry speaks of is one of them.

length_changed : {X : Type 0} (f : X → X) (place : ℕ) (xs : List X) → length (change_at f place xs) ≡ length xs
length_changed f place [] = refl
length_changed f zero (x ∷ xs) = refl
length_changed f (suc place) (x ∷ xs) = ap suc (length_changed f place xs)

-- an entry leaves how many ranks there are
pub ranks_stay : (b : Bag) (e : Entry) → Legal b e → length (after b e).ranks ≡ length b.ranks
ranks_stay b e l = by_case (acted b e l)
  where
    by_case : IsQuiet b e ⊎ IsActed b e → length (after b e).ranks ≡ length b.ranks
    by_case (inl q) = ap (λ (rs : List RankState). length rs) q.0
    by_case (inr a) = ap (λ (rs : List RankState). length rs) a.changed ∙ length_changed a.f a.rank.0 b.ranks

of_within : {X : Type 0} (n : ℕ) (rank : Rank) (o : Option (Rank × X)) → rank.0 < n → IsOf rank o → IsWithin n o
of_within n rank o below (inl none) = rw none tt
of_within n rank o below (inr some) = rw some.1 below

-- a place where something is found is one of the list
pub place_within : {X : Type 0} (xs : List X) (place : ℕ) (x : X) → slice_get xs place ≡ Some x → place < length xs
place_within [] place x is = absurd (cc)
place_within (y ∷ ys) zero x is = omega arith
place_within (y ∷ ys) (suc place) x is = let h = place_within ys place x is in omega arith

-- whom an entry accepts, grants and gives is in the run
pub all_within : (b : Bag) (e : Entry) (n : ℕ) → length b.ranks ≡ n → Legal b e
    → IsWithin n (accepted b e) × IsWithin n (granted b e) × IsWithin n (fetched b e)
all_within b e n long l = by_case (acted b e l)
  where
    by_case : IsQuiet b e ⊎ IsActed b e → IsWithin n (accepted b e) × IsWithin n (granted b e) × IsWithin n (fetched b e)
    by_case (inl q) = (rw q.2.0 tt, rw q.2.1 tt, rw q.2.2 tt)
    by_case (inr a) =
        let o = owned b e a.rank a.was (a.f a.was) a.deed in
        let below : a.rank.0 < n = rw (← long) (place_within b.ranks a.rank.0 a.was a.there) in (
          of_within n a.rank (accepted b e) below o.accepts,
          of_within n a.rank (granted b e) below o.grants,
          of_within n a.rank (fetched b e) below o.gives,
        )

-- A call that is pending is the first that is answered.
pub first_said : (b last : Bag) (es : List Entry) → IsPath b es last → (rank : Rank) (r : RankState) (call : Call) → Is b rank r
    → call_of r.status ≡ Some call → (s : Said) (said : List Said) → along says b es rank ≡ s ∷ said → s.call ≡ call
first_said b last [] path rank r call there is s said e = absurd (cc)
first_said b last (x ∷ xs) path rank r call there is s said e =
    by_case (λ now here pends on. first_said (after b x) last xs path.1 rank now call here pends s said on) (seen b x path.0 rank)
  where
    on : of_rank rank (says b x) ≡ [] → along says (after b x) xs rank ≡ s ∷ said
    on silent = rw silent at e

    never : (t : RankState) → t ≡ r → t.status ≡ does.Running → s.call ≡ call
    never t same runs =
        let pends : call_of t.status ≡ Some call = rw same is in
        let none : None ≡ Some call = rw runs at pends in
        absurd (cc)

    by_deed :
        ((now : RankState) → Is (after b x) rank now → call_of now.status ≡ Some call → along says (after b x) xs rank ≡ s ∷ said
        → s.call ≡ call)
        → (t now : RankState) → t ≡ r → Is (after b x) rank now → Deed b x rank t now → s.call ≡ call
    by_deed later t now same here (waits silent idle status end batch) =
        later now here (ap call_of (status ∙ ap (λ (y : RankState). y.status) same) ∙ is) (on (of_none rank (says b x) silent))
    by_deed later t now same here (begins c silent idle runs pends end batch) = never t same runs
    by_deed later t now same here (hears c answer heard pends runs end batch comes) =
        let mine = of_mine rank (says b x) (record { call = c; answer = answer }) heard in
        let first : record { call = c; answer = answer } ∷ along says (after b x) xs rank ≡ s ∷ said = rw mine at e in
        let head : record { call = c; answer = answer } ≡ s = cc in
        let one : c ≡ call = some_is (sym pends ∙ ap (λ (y : RankState). call_of y.status) same ∙ is) in
        sym (ap (λ (y : Said). y.call) head) ∙ one
    by_deed later t now same here (awaits id u common silent found shared status accepts grants gives) =
        later now here (status ∙ ap (λ (y : RankState). call_of y.status) same ∙ is) (on (of_none rank (says b x) silent))
    by_deed later t now same here (calls_done heard idle runs) = never t same runs
    by_deed later t now same here (finishes heard idle runs done end batch) = never t same runs

    by_case :
        ((now : RankState) → Is (after b x) rank now → call_of now.status ≡ Some call → along says (after b x) xs rank ≡ s ∷ said
        → s.call ≡ call)
        → IsAway b x rank ⊎ IsTurn b x rank → s.call ≡ call
    by_case later (inl away) = later r (away.0 ∙ there) is (on away.1)
    by_case later (inr t) = by_deed later t.was t.now (some_is (sym t.there ∙ there)) t.here t.deed
