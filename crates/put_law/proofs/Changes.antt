-- Of all entries but `Putting` none leaves a put pending with a rank that ran.
use Rattle.std.proofs.Common.{◌≡◌, ℕ, zero, suc, false, List, [], ◌∷◌, Option, Some, None, refl, sym, ap, ◌∙◌}
use Rattle.std.specs.Prelude.{option_and_then, slice_get, length}
use Rattle.adlb_unit.specs.declared.names.CommonRef.{CommonRef}
use Rattle.adlb_unit.specs.declared.names.Rank.{Rank}
use Rattle.bag_ledger.specs.declared.entries.Entry.{Entry}
use Rattle.bag_ledger.specs.declared.entries.Entry.TheVariants.{Putting, Refused, Accepted, Rejected, Keeping, Kept, Closing, Closed, Freed}
use Rattle.bag_ledger.specs.declared.entries.Entry.TheVariants.{Asked, Tried, Granted, Looked, NoCurrent, Fetching, Fetched, CommonFetched}
use Rattle.bag_ledger.specs.declared.entries.Entry.TheVariants.{Promised, Left, Arrived, Withdrawn, Counting, Counted, Done, Exhausted}
use Rattle.bag_ledger.specs.declared.entries.Entry.TheVariants.{Over, Finished}
use Rattle.bag_ledger.specs.declared.states.RankState.{RankState}
use Rattle.bag_ledger.specs.declared.states.Status.TheVariants as does
use Rattle.bag_ledger.specs.Bag.{Bag, keeping, putting, rank_at, unit_of}
use Rattle.bag_ledger.specs.Steps.{Is, Legal, after, begun, change_at, declined_by, ended, own_came, own_fetched}
use Rattle.bag_ledger.proofs.Charge.{unit_put}
use Rattle.bag_ledger.proofs.Tests.{some_is}
use Rattle.bag_ledger.proofs.Turns.{taken_ranks}
use Rattle.put_law.specs.Entered.{put_in}

-- an entry changes the state of one rank at most, and begins no put of a rank that ran
record IsChange (b : Bag) (e : Entry) : Type 0 where
  place : ℕ
  f : RankState → RankState
  changed : (after b e).ranks ≡ change_at f place b.ranks
  none : (r : RankState) → r.status ≡ does.Running → putting (f r).status ≡ None

unchanged : (xs : List RankState) → xs ≡ change_at (λ r. r) 0 xs
unchanged [] = refl
unchanged (x ∷ xs) = refl

stays : (b : Bag) (e : Entry) → (after b e).ranks ≡ b.ranks → IsChange b e
stays b e same = record { place = 0; f = λ r. r; changed = same ∙ unchanged b.ranks; none = λ r is. ap putting is }

fetched_none : (o : Option CommonRef) (r : RankState) → r.status ≡ does.Running → putting (own_fetched o r).status ≡ None
fetched_none None r is = refl
fetched_none (Some c) r is = ap (λ s. putting (own_came s)) is

change : (b : Bag) (e : Entry) → Legal b e → put_in e ≡ None → IsChange b e
change b (Putting rank call kind prio target answer body) l none = absurd (cc)
change b (Refused server id used) l none = record {
  place = id.rank.0;
  f = declined_by server;
  changed = refl;
  none = λ r is. ap putting
      is;
}
change b (Accepted server id) l none = record {
  place = id.rank.0;
  f = ended;
  changed = ap (change_at ended id.rank.0) (taken_ranks server (option_and_then (λ r. putting r.status) (rank_at b id.rank)) b);
  none = λ r is. refl;
}
change b (Rejected rank call) l none = record { place = rank.0; f = ended; changed = refl; none = λ r is. refl }
change b (Keeping rank call common) l none =
    record { place = rank.0; f = begun (does.Keeping call common); changed = refl; none = λ r is. refl }
change b (Kept server batch) l none =
    let kept = unit_put (λ r. keeping r.status) (rank_at b batch.rank) l.0 (batch.number, l.1) l.2 (rw l.3 refl) in
    record {
      place = batch.rank.0;
      f = λ r. ended (record r { batch = Some (record { batch = batch; server = server; length = length l.1 }) });
      changed = rw kept refl;
      none = λ r is. refl;
    }
change b (Closing rank call) l none = record { place = rank.0; f = begun (does.Closing call); changed = refl; none = λ r is. refl }
change b (Closed server batch) l none =
    record { place = batch.rank.0; f = λ r. ended (record r { batch = None }); changed = refl; none = λ r is. refl }
change b (Freed server batch) l none = stays b (Freed server batch) refl
change b (Asked rank call types) l none = record { place = rank.0; f = begun (does.Asking call types); changed = refl; none = λ r is. refl }
change b (Tried rank call types) l none = record { place = rank.0; f = begun (does.Trying call types); changed = refl; none = λ r is. refl }
change b (Granted server rank call id) l none = record { place = rank.0; f = ended; changed = refl; none = λ r is. refl }
change b (Looked server rank call) l none = record { place = rank.0; f = declined_by server; changed = refl; none = λ r is. ap putting is }
change b (NoCurrent rank call) l none = record { place = rank.0; f = ended; changed = refl; none = λ r is. refl }
change b (Fetching rank call id) l none =
    record { place = rank.0; f = begun (does.Fetching call id false); changed = refl; none = λ r is. refl }
change b (Fetched server rank id) l none = record {
  place = rank.0;
  f = own_fetched (option_and_then (λ u. u.unit.common) (unit_of b id));
  changed = refl;
  none = fetched_none (option_and_then (λ u. u.unit.common) (unit_of b id));
}
change b (CommonFetched server rank batch) l none = record { place = rank.0; f = ended; changed = refl; none = λ r is. refl }
change b (Promised server id n) l none = stays b (Promised server id n) refl
change b (Left server to id) l none = stays b (Left server to id) refl
change b (Arrived server id) l none = stays b (Arrived server id) refl
change b (Withdrawn server id) l none = stays b (Withdrawn server id) refl
change b (Counting rank call kind) l none =
    record { place = rank.0; f = begun (does.Counting call kind); changed = refl; none = λ r is. refl }
change b (Counted server rank call info) l none = record { place = rank.0; f = ended; changed = refl; none = λ r is. refl }
change b (Done rank call) l none = record { place = rank.0; f = begun does.Running; changed = refl; none = λ r is. refl }
change b Exhausted l none = stays b Exhausted refl
change b (Over rank call end) l none =
    record { place = rank.0; f = λ r. ended (record r { end = Some end }); changed = refl; none = λ r is. refl }
change b (Finished rank call) l none = record { place = rank.0; f = begun does.Finished; changed = refl; none = λ r is. refl }

-- a rank that ran has no put pending after such an entry
pub none_pends : (b : Bag) (e : Entry) → Legal b e → put_in e ≡ None → (rank : Rank) (was now : RankState) → Is b rank was →
    Is (after b e) rank now →
    was.status ≡ does.Running → putting now.status ≡ None
none_pends b e l none rank was now there here running =
    let c = change b e l none in
    at c c.place rank.0 b.ranks there (sym (ap (λ (rs : List RankState). slice_get rs rank.0) c.changed) ∙ here)
  where
    kept : was ≡ now → putting now.status ≡ None
    kept same = ap (λ (r : RankState). putting r.status) (sym same) ∙ ap putting running

    at : (c : IsChange b e) (place k : ℕ) (xs : List RankState) → slice_get xs k ≡ Some was →
        slice_get (change_at c.f place xs) k ≡ Some now →
        putting now.status ≡ None
    at c place k [] is then = absurd (cc)
    at c zero zero (x ∷ xs) is then =
        let first : x ≡ was = some_is is in
        let last : c.f x ≡ now = some_is then in
        ap (λ (r : RankState). putting r.status) (sym last) ∙ c.none x (ap (λ (r : RankState). r.status) first ∙ running)
    at c zero (suc k) (x ∷ xs) is then = kept (some_is (sym is ∙ then))
    at c (suc place) zero (x ∷ xs) is then = kept (some_is (sym is ∙ then))
    at c (suc place) (suc k) (x ∷ xs) is then = at c place k xs is then
