-- Units of a work type whose every put is for one rank alone are got by that rank alone.
use Rattle.std.proofs.Common.{◌≡◌, ℕ, ◌<◌, ◌==◌, ◌&&◌, Bool, true, false, cond, List, [], ◌∷◌, ◌++◌, length, All, Option, Some, None, refl}
use Rattle.std.proofs.Common.{sym, ap, ◌∙◌, subst, arith}
use Rattle.std.specs.Prelude.{find}
use Rattle.std.proofs.lemmas.Bool.{eqb-true}
use Rattle.std.proofs.lemmas.List.Elements.{All-nil, All-cons, All-head, All-tail, All-append, All-push, All-map}
use Rattle.adlb_unit.specs.declared.configs.Config.{Config}
use Rattle.adlb_unit.specs.declared.names.Rank.{Rank}
use Rattle.adlb_unit.specs.declared.names.Server.{Server}
use Rattle.adlb_unit.specs.declared.names.Target.{Target}
use Rattle.adlb_unit.specs.declared.names.Target.TheVariants.{Only}
use Rattle.adlb_unit.specs.declared.names.UnitId.{UnitId}
use Rattle.adlb_unit.specs.declared.names.WorkType.{WorkType}
use Rattle.adlb_unit.specs.declared.units.Unit.{Unit}
use Rattle.adlb_unit.specs.Ids.{same_unit}
use Rattle.adlb_unit.specs.Permit.{has_kind, is_for, permitted}
use Rattle.adlb_unit.proofs.Permitted.{for_only}
use Rattle.bag_ledger.specs.declared.entries.Answer.TheVariants as answers
use Rattle.bag_ledger.specs.declared.entries.Call.TheVariants as calls_to
use Rattle.bag_ledger.specs.declared.entries.Entry.{Entry}
use Rattle.bag_ledger.specs.declared.entries.Entry.TheVariants.{Accepted, Granted}
use Rattle.bag_ledger.specs.declared.entries.Said.{Said}
use Rattle.bag_ledger.specs.declared.states.Placed.{Placed}
use Rattle.bag_ledger.specs.declared.states.UnitPlace.{UnitPlace}
use Rattle.bag_ledger.specs.declared.states.UnitPlace.TheVariants.{Free, Travelling, Pinned, Spent}
use Rattle.bag_ledger.specs.Bag.{Bag, start}
use Rattle.bag_ledger.specs.Steps.{Legal, after, change_first}
use Rattle.bag_ledger.specs.Runs.{IsRun, says}
use Rattle.bag_ledger.proofs.Tests.{some_is}
use Rattle.balance_law.specs.Balanced.{AreOrderly}
use Rattle.balance_law.specs.Ways.{AreAimed, IsGotBy, IsPutFor}
use Rattle.balance_law.specs.Parcels.{Parcel, got}
use Rattle.balance_law.proofs.Paths.{IsPath, of_rank, along, path_of, calls_along}
use Rattle.balance_law.proofs.Commons.{parcel_of}
use Rattle.balance_law.proofs.Deeds.{accepted, granted, fetched}
use Rattle.balance_law.proofs.Seen.{of_mine, place_within, ranks_stay}
use Rattle.balance_law.proofs.Shifts.{IsMove, Shift, stays, adds, pins, spends, leaves, arrives, shift_of}
use Rattle.balance_law.proofs.Whole.{empty, gone, start_going, start_long}

pair_is : (x y : Rank × Unit) → Some x ≡ Some y → (x.0 ≡ y.0) × (x.1 ≡ y.1)
pair_is x y e =
    let p : x ≡ y = some_is e in
    (ap (λ (z : Rank × Unit). z.0) p, ap (λ (z : Rank × Unit). z.1) p)

module _ (k : ℕ) (q : Rank) where
  -- a unit of the type is for this rank, and pinned to no other
  pub record IsFor (u : Placed) : Type 0 where
    pub aimed : u.unit.kind.0 ≡ k → u.unit.target ≡ Only q
    pub held : u.unit.kind.0 ≡ k → (server : Server) (rank : Rank) → u.place ≡ Pinned server rank → rank.0 ≡ q.0

  -- the unit that is moved
  all_moved : (f : Placed → Placed) (test : Placed → Bool) (xs : List Placed) (u : Placed) → find test xs ≡ Some u → IsFor (f u)
      → All IsFor xs →
      All IsFor (change_first f test xs)
  all_moved f test [] u found new all = All-nil IsFor
  all_moved f test (x ∷ xs) u found new all = at (test x) refl (λ later. all_moved f test xs u later new (All-tail IsFor x xs all))
    where
      at : (b : Bool) → test x ≡ b → (find test xs ≡ Some u → All IsFor (change_first f test xs)) → All IsFor (change_first f test (x ∷ xs))
      at true e on =
          let same : x ≡ u = let h : Some x ≡ Some u = rw e at found in cc in
          rw e (All-cons IsFor (f x) xs (subst (λ z. IsFor (f z)) (sym same) new) (All-tail IsFor x xs all))
      at false e on = rw e (All-cons IsFor x (change_first f test xs) (All-head IsFor x xs all) (on (rw e at found)))

  found_is : (test : Placed → Bool) (xs : List Placed) (u : Placed) → find test xs ≡ Some u → All IsFor xs → IsFor u
  found_is test [] u found all = absurd (cc)
  found_is test (x ∷ xs) u found all = at (test x) refl (λ later. found_is test xs u later (All-tail IsFor x xs all))
    where
      at : (b : Bool) → test x ≡ b → (find test xs ≡ Some u → IsFor u) → IsFor u
      at true e on = let same : x ≡ u = let h : Some x ≡ Some u = rw e at found in cc in subst IsFor same (All-head IsFor x xs all)
      at false e on = on (rw e at found)

  -- one that is granted is permitted
  permits_only : (rank : Rank) (types : Option (List WorkType)) (kind : WorkType) (target : Target)
      → permitted rank types kind target ≡ true →
      target ≡ Only q → rank.0 ≡ q.0
  permits_only rank types kind target may only =
      let e : (is_for (Only q) rank && has_kind types kind) ≡ true = rw only at may in
      let f : is_for (Only q) rank ≡ true = first (is_for (Only q) rank) (has_kind types kind) e in
      sym (eqb-true q.0 rank.0 (sym (for_only rank q) ∙ f))
    where
      first : (b d : Bool) → (b && d) ≡ true → b ≡ true
      first true d e = refl
      first false d e = absurd (cc)

  granted_for : (b : Bag) (e : Entry) (rank : Rank) (u : Unit) → Legal b e → granted b e ≡ Some (rank, u) → u.target ≡ Only q → rank.0 ≡ q.0
  granted_for b (Granted server by call id) rank u l grants only =
      let there : granted b (Granted server by call id) ≡ Some (by, l.2.unit) = rw l.6.0 refl in
      let same : Some (by, l.2.unit) ≡ Some (rank, u) = sym there ∙ grants in
      let parts = pair_is (by, l.2.unit) (rank, u) same in
      let of_rank : by ≡ rank = parts.0 in
      let of_unit : l.2.unit ≡ u = parts.1 in
      ap (λ (r : Rank). r.0) (sym of_rank) ∙ permits_only by l.1 l.2.unit.kind l.2.unit.target l.7
      (ap (λ (x : Unit). x.target) of_unit ∙ only)
  granted_for b _ rank u l grants only = absurd (cc)

  -- one that is accepted is put in a call that its rank then says
  put_said : Unit → Said
  put_said u = record { call = calls_to.Put u.kind u.prio u.target u.answer u.body; answer = answers.Fine }

  accepted_said : (b : Bag) (e : Entry) (rank : Rank) (u : Unit) → Legal b e → accepted b e ≡ Some (rank, u)
      → says b e ≡ Some (rank, put_said u)
  unfolding put_said
  accepted_said b (Accepted server id) rank u l accepts =
      let there : accepted b (Accepted server id) ≡ Some (id.rank, l.1) = rw (l.2, l.3) refl in
      let same : Some (id.rank, l.1) ≡ Some (rank, u) = sym there ∙ accepts in
      let parts = pair_is (id.rank, l.1) (rank, u) same in
      let of_rank : id.rank ≡ rank = parts.0 in
      let of_unit : l.1 ≡ u = parts.1 in
      let said : says b (Accepted server id) ≡ Some (id.rank, put_said l.1) = rw (l.2, l.3) refl in
      said ∙ ap (λ (r : Rank). let o : Option (Rank × Said) = Some (r, put_said l.1) in o) of_rank
      ∙ ap (λ (x : Unit). let o : Option (Rank × Said) = Some (rank, put_said x) in o) of_unit
  accepted_said b _ rank u l accepts = absurd (cc)

  moved_for : (b : Bag) (e : Entry) (id : UnitId) (u : Placed) (from to : UnitPlace) → IsMove b e id u from to →
      (u.unit.kind.0 ≡ k → (server : Server) (rank : Rank) → to ≡ Pinned server rank → rank.0 ≡ q.0) → All IsFor b.units
      → All IsFor (after b e).units
  moved_for b e id u from to m held all =
      let was = found_is (λ x. same_unit x.unit.id id) b.units u m.there all in
      rw m.moves (all_moved (λ x. record x { place = to }) (λ x. same_unit x.unit.id id) b.units u m.there
      (record { aimed = was.aimed; held = held }) all)

  -- one entry more
  aims_next : (n : ℕ) (b : Bag) (e : Entry) → length b.ranks ≡ n → Legal b e →
      ((rank : Rank) → rank.0 < n → All (λ (s : Said). IsPutFor k q s.call) (of_rank rank (says b e))) → Shift b e → All IsFor b.units →
      All IsFor (after b e).units
  unfolding put_said
  aims_next n b e long l puts (stays same idle) all = rw same all
  aims_next n b e long l puts (adds rank r u server there status units accepts grants gives) all =
      let said = accepted_said b e rank u l accepts in
      let mine = of_mine rank (says b e) (put_said u) said in
      let its : IsPutFor k q (put_said u).call = All-head (λ (s : Said). IsPutFor k q s.call) (put_said u) []
      (subst (All (λ (s : Said). IsPutFor k q s.call)) mine (puts rank (omega (arith, place_within b.ranks rank.0 r there, long)))) in
      rw units
      (All-push IsFor b.units (record { unit = u; place = Free server }) all (record { aimed = its; held = λ kind s to free. absurd (cc) }))
  aims_next n b e long l puts (pins id u server rank m accepts grants gives) all =
      let was = found_is (λ x. same_unit x.unit.id id) b.units u m.there all in
      moved_for b e id u (Free server) (Pinned server rank) m (λ kind s to pinned.
      let here : rank.0 ≡ q.0 = granted_for b e rank u.unit l grants (was.aimed kind) in
      let same : rank ≡ to = cc in
      ap (λ (r : Rank). r.0) (sym same) ∙ here) all
  aims_next n b e long l puts (spends id u server rank m accepts grants gives) all =
      moved_for b e id u (Pinned server rank) Spent m (λ kind s to pinned. absurd (cc)) all
  aims_next n b e long l puts (leaves id u server to m idle) all =
      moved_for b e id u (Free server) (Travelling to) m (λ kind s r pinned. absurd (cc)) all
  aims_next n b e long l puts (arrives id u server m idle) all =
      moved_for b e id u (Travelling server) (Free server) m (λ kind s r pinned. absurd (cc)) all

  -- what an entry gives is for the rank that gets it
  gives_for : (b : Bag) (e : Entry) (rank : Rank) → (rank.0 ≡ q.0 → ⊥) → Shift b e → All IsFor b.units →
      All (λ (u : Unit). u.kind.0 ≡ k → ⊥) (of_rank rank (fetched b e))
  gives_for b e rank other (stays same idle) all = rw idle.2 (All-nil (λ (u : Unit). u.kind.0 ≡ k → ⊥))
  gives_for b e rank other (adds by r u server there status units accepts grants gives) all =
      rw gives (All-nil (λ (u : Unit). u.kind.0 ≡ k → ⊥))
  gives_for b e rank other (pins id u server by m accepts grants gives) all = rw gives (All-nil (λ (u : Unit). u.kind.0 ≡ k → ⊥))
  gives_for b e rank other (spends id u server by m accepts grants gives) all =
      let was = found_is (λ x. same_unit x.unit.id id) b.units u m.there all in
      rw gives (at (by.0 == rank.0) refl (λ kind. was.held kind server by m.stood))
    where
      at : (t : Bool) → t ≡ (by.0 == rank.0) → (u.unit.kind.0 ≡ k → by.0 ≡ q.0)
          → All (λ (x : Unit). x.kind.0 ≡ k → ⊥) (cond t (u.unit ∷ []) [])
      at true e held =
          let same : by.0 ≡ rank.0 = eqb-true by.0 rank.0 (sym e) in
          All-cons (λ (x : Unit). x.kind.0 ≡ k → ⊥) u.unit [] (λ kind. other (sym same ∙ held kind))
          (All-nil (λ (x : Unit). x.kind.0 ≡ k → ⊥))
      at false e held = All-nil (λ (x : Unit). x.kind.0 ≡ k → ⊥)
  gives_for b e rank other (leaves id u server to m idle) all = rw idle.2 (All-nil (λ (u : Unit). u.kind.0 ≡ k → ⊥))
  gives_for b e rank other (arrives id u server m idle) all = rw idle.2 (All-nil (λ (u : Unit). u.kind.0 ≡ k → ⊥))

  All-split : {X : Type 0} (P : X → Type 0) (xs ys : List X) → All P (xs ++ ys) → All P xs × All P ys
  All-split P [] ys all = (All-nil P, all)
  All-split P (x ∷ xs) ys all =
      let rest = All-split P xs ys (All-tail P x (xs ++ ys) all) in
      (All-cons P x xs (All-head P x (xs ++ ys) all) rest.0, rest.1)

  along_for : (n : ℕ) (b last : Bag) (es : List Entry) (rank : Rank) → length b.ranks ≡ n → (rank.0 ≡ q.0 → ⊥) → IsPath b es last
      → All IsFor b.units →
      ((by : Rank) → by.0 < n → All (λ (s : Said). IsPutFor k q s.call) (along says b es by))
      → All (λ (u : Unit). u.kind.0 ≡ k → ⊥) (along fetched b es rank)
  along_for n b last [] rank long other path all puts = All-nil (λ (u : Unit). u.kind.0 ≡ k → ⊥)
  along_for n b last (e ∷ es) rank long other path all puts =
      let P : Said → Type 0 = λ s. IsPutFor k q s.call in
      let s = shift_of b e path.0 in
      let here : (by : Rank) → by.0 < n → All P (of_rank by (says b e)) =
      λ by below. (All-split P (of_rank by (says b e)) (along says (after b e) es by) (puts by below)).0 in
      let later : (by : Rank) → by.0 < n → All P (along says (after b e) es by) =
      λ by below. (All-split P (of_rank by (says b e)) (along says (after b e) es by) (puts by below)).1 in
      All-append (λ (u : Unit). u.kind.0 ≡ k → ⊥) (of_rank rank (fetched b e)) (along fetched (after b e) es rank)
      (gives_for b e rank other s all)
      (along_for n (after b e) last es rank (ranks_stay b e path.0 ∙ long) other path.1 (aims_next n b e long path.0 here s all) later)

-- In a run of orderly ranks in which each put of the type is for one rank alone, no other rank gets a unit of it.
pub aimed : (config : Config) (ledger : List Entry) (last : Bag) → 0 < config.ranks → IsRun (start config) ledger last
    → AreOrderly config ledger →
    (k : ℕ) (q : Rank) → AreAimed config ledger k q → IsGotBy config ledger k q
aimed config ledger last some legal orderly k q puts rank below other =
    let path = path_of (start config) last ledger legal in
    let w = (gone config.ranks (start config) last ledger (λ r. empty) some path (start_going config last ledger legal orderly)).counted
    rank below in
    let fetches = along_for k q config.ranks (start config) last ledger rank (start_long config) other path (All-nil (IsFor k q))
    (λ by within. subst (All (λ (s : Said). IsPutFor k q s.call)) (calls_along (start config) ledger by) (puts by within)) in
    subst (λ l. All (λ (p : Parcel). p.kind.0 ≡ k → ⊥) (got None l)) (sym (calls_along (start config) ledger rank))
    (subst (All (λ (p : Parcel). p.kind.0 ≡ k → ⊥)) (sym w.gets)
    (All-map (λ (p : Parcel). p.kind.0 ≡ k → ⊥) (parcel_of last) (along fetched (start config) ledger rank) fetches))
