-- What a run has to have before a rejection, before the answer that nothing is there, and before an end.
use Rattle.std.proofs.Common.{◌≡◌, ℕ, zero, suc, ◌+◌, ◌<◌, ◌⊎◌, inl, inr, Bool, true, false, ◌==◌, List, [], ◌∷◌, ◌++◌, length, Option}
use Rattle.std.proofs.Common.{Some, None, refl, sym, ap, ◌∙◌, arith, slice_get, add-zero, append-nil, append_assoc}
use Rattle.std.specs.Prelude.{option_and_then}
use Rattle.std.specs.List.{list_any, list_all, range_with_len}
use Rattle.std.proofs.lemmas.Bool.{or_left, or_right, and_parts}
use Rattle.std.proofs.lemmas.List.Folds.{list_any-append}
use Rattle.adlb_unit.specs.declared.names.Rank.{Rank}
use Rattle.adlb_unit.specs.declared.names.Server.{Server}
use Rattle.adlb_unit.specs.declared.notes.End.{End}
use Rattle.adlb_unit.specs.declared.notes.End.TheVariants as ends_by
use Rattle.adlb_unit.specs.declared.names.BatchId.{BatchId}
use Rattle.adlb_unit.specs.declared.names.CommonRef.{CommonRef}
use Rattle.adlb_unit.specs.declared.units.Unit.{Unit}
use Rattle.bag_ledger.specs.declared.entries.Entry.{Entry}
use Rattle.bag_ledger.specs.declared.entries.Entry.TheVariants.{Rejected, NoCurrent, Accepted, Kept, Done, Exhausted, Over}
use Rattle.bag_ledger.specs.declared.states.RankState.{RankState}
use Rattle.bag_ledger.specs.declared.states.Status.{Status}
use Rattle.bag_ledger.specs.declared.states.Status.TheVariants as does
use Rattle.bag_ledger.specs.Bag.{Bag, empty, rank_at, putting, keeping, offer, has_declined, all_declined}
use Rattle.bag_ledger.specs.Steps.{Legal, LegalWhere, after, has_cause, shared, taken, kept}
use Rattle.bag_ledger.specs.Runs.{IsRunWhere}
use Rattle.bag_ledger.specs.Words.{refuses, looks, causes}
use Rattle.bag_ledger.proofs.Tests.{some_is}
use Rattle.bag_ledger.proofs.Turns.{IsTurn, turn, declines, fresh_at, is_quiet, changed_is}

-- each server that counts as having declined what a rank does declined it by an entry
IsHeard : List RankState → List Entry → Type 0
IsHeard ranks es = (n : ℕ) (r : RankState) (s : Server) → slice_get ranks n ≡ Some r → has_declined r s ≡ true
    → list_any (declines s n r.status) es ≡ true

never : (s : Server) (n : ℕ) (status : Status) → is_quiet status ≡ true → (es : List Entry) → list_any (declines s n status) es ≡ true → ⊥
never s n status quiet [] e = absurd (cc)
never s n does.Running quiet (x ∷ es) e = never s n does.Running quiet es e
never s n (does.Fetching call id own) quiet (x ∷ es) e = never s n (does.Fetching call id own) quiet es e
never s n _ quiet (x ∷ es) e = absurd (cc)

earlier : (test : Entry → Bool) (es : List Entry) (e : Entry) → list_any test es ≡ true → list_any test (es ++ e ∷ []) ≡ true
earlier test es e is = list_any-append test es (e ∷ []) ∙ or_left (list_any test es) (list_any test (e ∷ [])) is

latest : (test : Entry → Bool) (es : List Entry) (e : Entry) → test e ≡ true → list_any test (es ++ e ∷ []) ≡ true
latest test es e is =
    let last : list_any test (e ∷ []) ≡ true = rw is refl in
    list_any-append test es (e ∷ []) ∙ or_right (list_any test es) (list_any test (e ∷ [])) last

heard_turn : (before : List RankState) (e : Entry) (now : List RankState) (es : List Entry) → IsTurn before e now → IsHeard before es
    → IsHeard now (es ++ e ∷ [])
unfolding IsHeard
heard_turn before e now es t is = λ n v s there declined. by_case n v s declined (changed_is t.f t.place n before v (rw t.changed at there))
  where
    by_case : (n : ℕ) (v : RankState) (s : Server) → has_declined v s ≡ true
        → ((t.place ≡ n) × ((x : RankState) × (slice_get before t.place ≡ Some x) × (v ≡ t.f x))) ⊎ (slice_get before n ≡ Some v)
        → list_any (declines s n v.status) (es ++ e ∷ []) ≡ true
    by_case n v s declined (inr c) = earlier (declines s n v.status) es e (is n v s c declined)
    by_case n v s declined (inl c) =
        let one : c.1.0 ≡ t.was = some_is (sym c.1.1 ∙ t.there) in
        let now_is : v ≡ t.is = c.1.2 ∙ ap t.f one ∙ sym t.made in
        rw (now_is, ← c.0) (by_heard s (t.heard s (rw now_is at declined)))
      where
        by_heard : (s : Server) → ((has_declined t.was s ≡ true) × ((t.is.status ≡ t.was.status) ⊎ (is_quiet t.was.status ≡ true)))
            ⊎ (declines s t.place t.is.status e ≡ true) → list_any (declines s t.place t.is.status) (es ++ e ∷ []) ≡ true
        by_heard s (inr new) = latest (declines s t.place t.is.status) es e new
        by_heard s (inl old) = by_status old.1
          where
            by_status : (t.is.status ≡ t.was.status) ⊎ (is_quiet t.was.status ≡ true)
                → list_any (declines s t.place t.is.status) (es ++ e ∷ []) ≡ true
            by_status (inl same) = rw same (earlier (declines s t.place t.was.status) es e (is t.place t.was s t.there old.0))
            by_status (inr quiet) = absurd (never s t.place t.was.status quiet es (is t.place t.was s t.there old.0))

IsKnown : Bag → List Entry → Type 0
IsKnown b es = IsHeard b.ranks es

known_kept : (found : Bag → Bool) (b : Bag) (e : Entry) (es : List Entry) → LegalWhere found b e → IsKnown b es
    → IsKnown (after b e) (es ++ e ∷ [])
unfolding IsKnown IsHeard
known_kept found b e es l is = by_case (turn found b e l)
  where
    by_case : ((after b e).ranks ≡ b.ranks) ⊎ IsTurn b.ranks e (after b e).ranks → IsHeard (after b e).ranks (es ++ e ∷ [])
    by_case (inl same) = rw same (λ n r s there declined. earlier (declines s n r.status) es e (is n r s there declined))
    by_case (inr t) = heard_turn b.ranks e (after b e).ranks es t is

run_known : (found : Bag → Bool) (b last : Bag) (done es : List Entry) → IsRunWhere found b es last → IsKnown b done
    → IsKnown last (done ++ es)
run_known found b last done [] run is = rw (append-nil done, ← run) is
run_known found b last done (e ∷ es) run is =
    let next : run.0 ≡ after b e = run.1.2 in
    rw (sym (append_assoc done (e ∷ []) es))
    (run_known found run.0 last (done ++ e ∷ []) es run.2 (rw next (known_kept found b e done run.1.1 is)))

start_known : (ranks servers limit : ℕ) → IsKnown (empty ranks servers limit) []
unfolding IsKnown IsHeard
start_known ranks servers limit = λ n r s there declined.
    let none : false ≡ true = rw (fresh_at ranks n r there) at declined in
    absurd (cc)

all_of : (test : ℕ → Bool) (a n k : ℕ) → list_all test (range_with_len a n) ≡ true → k < n → test (a + k) ≡ true
all_of test a zero k all below = absurd (omega arith)
all_of test a (suc n) zero all below = rw add-zero (and_parts (test a) (list_all test (range_with_len (a + 1) n)) all).0
all_of test a (suc n) (suc k) all below =
    let further = all_of test (a + 1) n k (and_parts (test a) (list_all test (range_with_len (a + 1) n)) all).1 (omega arith) in
    let place : a + suc k ≡ (a + 1) + k = omega arith in
    rw place further

declined_all : (b : Bag) (r : RankState) (s : Server) → all_declined b r ≡ true → s.0 < b.servers → has_declined r s ≡ true
declined_all b r s all below =
    let here = all_of (λ k. list_any (λ (x : Server). x.0 == k) r.declined) 0 b.servers s.0 all below in
    let place : 0 + s.0 ≡ s.0 = omega arith in
    rw place at here

by_offer : (s : Server) (rank : Rank) (call n : ℕ) (es : List Entry) (status : Status) → offer status ≡ Some (call, n)
    → list_any (declines s rank.0 status) es ≡ true → list_any (refuses s rank call) es ≡ true
by_offer s rank call n es (does.Putting u) e heard =
    let pair : (u.id.number, length u.body) ≡ (call, n) = some_is e in
    let number : u.id.number ≡ call = ap (λ p. p.0) pair in
    rw number at heard
by_offer s rank call n es (does.Keeping pending common) e heard =
    let pair : (pending, length common) ≡ (call, n) = some_is e in
    let number : pending ≡ call = ap (λ p. p.0) pair in
    rw number at heard
by_offer s rank call n es _ e heard = absurd (cc)

-- before a rejection each server refused
rejected_heard : (b : Bag) (es : List Entry) (rank : Rank) (call : ℕ) → IsKnown b es → Legal b (Rejected rank call) → (s : Server)
    → s.0 < b.servers → list_any (refuses s rank call) es ≡ true
unfolding IsKnown IsHeard
rejected_heard b es rank call is l s below =
    by_offer s rank call l.1 es l.0.status l.3 (is rank.0 l.0 s l.2 (declined_all b l.0 s l.4 below))

-- before the answer that nothing is there each server looked
no_current_heard : (b : Bag) (es : List Entry) (rank : Rank) (call : ℕ) → IsKnown b es → Legal b (NoCurrent rank call) → (s : Server)
    → s.0 < b.servers → list_any (looks s rank call) es ≡ true
unfolding IsKnown IsHeard
no_current_heard b es rank call is l s below = rw l.3 at (is rank.0 l.0 s l.2 (declined_all b l.0 s l.4 below))

-- Ends.

IsCaused : Bag → List Entry → Type 0
IsCaused b es = (end : End) → has_cause b end ≡ true → list_any (causes end) es ≡ true

shared_cause : (common : Option CommonRef) (b : Bag) (end : End) → has_cause (shared common b) end ≡ has_cause b end
shared_cause None b end = refl
shared_cause (Some common) b end = refl

taken_cause : (server : Server) (o : Option Unit) (b : Bag) (end : End) → has_cause (taken server o b) end ≡ has_cause b end
taken_cause server None b end = refl
taken_cause server (Some u) b end = shared_cause u.common (record b { units = _ }) end

kept_cause : (server : Server) (batch : BatchId) (o : Option (ℕ × List ℕ)) (b : Bag) (end : End)
    → has_cause (kept server batch o b) end ≡ has_cause b end
kept_cause server batch None b end = refl
kept_cause server batch (Some (call, common)) b end = refl

caused_kept : (b : Bag) (e : Entry) (es : List Entry) → IsCaused b es → IsCaused (after b e) (es ++ e ∷ [])
unfolding IsCaused
caused_kept b (Accepted server id) es is =
    λ end h. earlier (causes end) es (Accepted server id)
    (is end (sym (taken_cause server (option_and_then (λ r. putting r.status) (rank_at b id.rank)) b end) ∙ h))
caused_kept b (Kept server batch) es is =
    λ end h. earlier (causes end) es (Kept server batch)
    (is end (sym (kept_cause server batch (option_and_then (λ r. keeping r.status) (rank_at b batch.rank)) b end) ∙ h))
caused_kept b (Done rank call) es is = λ end h. by_end end h
  where
    by_end : (end : End) → has_cause (after b (Done rank call)) end ≡ true → list_any (causes end) (es ++ Done rank call ∷ []) ≡ true
    by_end ends_by.NoMoreWork h = latest (causes ends_by.NoMoreWork) es (Done rank call) refl
    by_end ends_by.Exhausted h = earlier (causes ends_by.Exhausted) es (Done rank call) (is ends_by.Exhausted h)
caused_kept b Exhausted es is = λ end h. by_end end h
  where
    by_end : (end : End) → has_cause (after b Exhausted) end ≡ true → list_any (causes end) (es ++ Exhausted ∷ []) ≡ true
    by_end ends_by.NoMoreWork h = earlier (causes ends_by.NoMoreWork) es Exhausted (is ends_by.NoMoreWork h)
    by_end ends_by.Exhausted h = latest (causes ends_by.Exhausted) es Exhausted refl
caused_kept b e es is = λ end h. earlier (causes end) es e (is end h)

run_caused : (found : Bag → Bool) (b last : Bag) (done es : List Entry) → IsRunWhere found b es last → IsCaused b done
    → IsCaused last (done ++ es)
run_caused found b last done [] run is = rw (append-nil done, ← run) is
run_caused found b last done (e ∷ es) run is =
    let next : run.0 ≡ after b e = run.1.2 in
    rw (sym (append_assoc done (e ∷ []) es)) (run_caused found run.0 last (done ++ e ∷ []) es run.2 (rw next (caused_kept b e done is)))

start_caused : (ranks servers limit : ℕ) → IsCaused (empty ranks servers limit) []
unfolding IsCaused
start_caused ranks servers limit = λ end h. by_end end h
  where
    by_end : (end : End) → has_cause (empty ranks servers limit) end ≡ true → list_any (causes end) [] ≡ true
    by_end ends_by.NoMoreWork h = absurd (cc)
    by_end ends_by.Exhausted h = absurd (cc)

-- In a run from the start.

-- a put is rejected only after each server has refused it
pub rejected_by_all : (found : Bag → Bool) (ranks servers limit : ℕ) (b : Bag) (es : List Entry) (rank : Rank) (call : ℕ)
    → IsRunWhere found (empty ranks servers limit) es b → Legal b (Rejected rank call) → (s : Server) → s.0 < b.servers
    → list_any (refuses s rank call) es ≡ true
rejected_by_all found ranks servers limit b es rank call run l s below =
    rejected_heard b es rank call (run_known found (empty ranks servers limit) b [] es run (start_known ranks servers limit)) l s below

-- the answer that nothing is there comes only after each server has looked
pub looked_by_all : (found : Bag → Bool) (ranks servers limit : ℕ) (b : Bag) (es : List Entry) (rank : Rank) (call : ℕ)
    → IsRunWhere found (empty ranks servers limit) es b → Legal b (NoCurrent rank call) → (s : Server) → s.0 < b.servers
    → list_any (looks s rank call) es ≡ true
looked_by_all found ranks servers limit b es rank call run l s below =
    no_current_heard b es rank call (run_known found (empty ranks servers limit) b [] es run (start_known ranks servers limit)) l s below

-- a call ends for a cause only if the run has an entry of that cause
pub over_by_cause : (found : Bag → Bool) (ranks servers limit : ℕ) (b : Bag) (es : List Entry) (rank : Rank) (call : ℕ) (end : End)
    → IsRunWhere found (empty ranks servers limit) es b → Legal b (Over rank call end) → list_any (causes end) es ≡ true
unfolding IsCaused
over_by_cause found ranks servers limit b es rank call end run l =
    run_caused found (empty ranks servers limit) b [] es run (start_caused ranks servers limit) end l.3
