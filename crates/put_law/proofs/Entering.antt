-- Entry by entry, what was pending and what is entered is what is answered and what is pending then.
use Rattle.std.proofs.Common.{◌≡◌, ◌≢◌, ◌<◌, ◌==◌, inl, inr, ◌⊎◌, ℕ, zero, suc, Bool, true, false, cond, List, [], ◌∷◌, ◌++◌, Option, Some}
use Rattle.std.proofs.Common.{None}
use Rattle.std.proofs.Common.{refl, sym, ap, ◌∙◌, subst, append_assoc, append-nil}
use Rattle.std.specs.Prelude.{flat_map, slice_get}
use Rattle.std.proofs.lemmas.Bool.{eq-eqb}
use Rattle.adlb_unit.specs.declared.configs.Config.{Config}
use Rattle.adlb_unit.specs.declared.names.Rank.{Rank}
use Rattle.bag_ledger.specs.declared.entries.Answer.TheVariants as answers
use Rattle.bag_ledger.specs.declared.entries.Call.{Call}
use Rattle.bag_ledger.specs.declared.entries.Call.TheVariants as calls_to
use Rattle.bag_ledger.specs.declared.entries.Entry.{Entry}
use Rattle.bag_ledger.specs.declared.entries.Entry.TheVariants.{Putting}
use Rattle.bag_ledger.specs.declared.entries.Said.{Said}
use Rattle.bag_ledger.specs.declared.states.RankState.{RankState}
use Rattle.bag_ledger.specs.declared.states.Status.{Status}
use Rattle.bag_ledger.specs.declared.states.Status.TheVariants as does
use Rattle.bag_ledger.specs.Bag.{Bag, putting, rank_at, start}
use Rattle.bag_ledger.specs.Steps.{Is, Legal, after, begun, change_at}
use Rattle.bag_ledger.specs.Runs.{IsRun, call_of, calls, calls_from, said_by, says}
use Rattle.bag_ledger.proofs.Tests.{same_number, same_rank_is}
use Rattle.bag_ledger.proofs.Turns.{changed_here, fresh_at}
use Rattle.balance_law.specs.Balanced.{AreOrderly}
use Rattle.balance_law.specs.Orderly.{finish, last_calls}
use Rattle.balance_law.proofs.Calling.{IsCalling, Leaves, closes, gone as left, orderly_none, runs}
use Rattle.balance_law.proofs.Deeds.{Deed, awaits, begins, calls_done, finishes, hears, waits}
use Rattle.balance_law.proofs.Going.{IsGoing, there_is}
use Rattle.balance_law.proofs.Paths.{IsPath, of_rank, path_of}
use Rattle.balance_law.proofs.Seen.{IsAway, IsTurn, seen}
use Rattle.balance_law.proofs.Tallies.{Hand}
use Rattle.balance_law.proofs.Whole.{empty, gone, start_going}
use Rattle.put_law.specs.Entered.{by_rank, called, entered, put_in, put_of}
use Rattle.put_law.proofs.Changes.{none_pends}

-- the put that is pending with a rank
abbrev puts_if : Option Call → List Call
puts_if None = []
puts_if (Some call) = put_of call

abbrev pending : Option RankState → List Call
pending None = []
pending (Some r) = puts_if (call_of r.status)

none_of : (status : Status) → putting status ≡ None → puts_if (call_of status) ≡ []
none_of (does.Putting u) e = absurd (cc)
none_of _ e = refl

flat-append : {X Y : Type 0} (f : X → List Y) (xs ys : List X) → flat_map f (xs ++ ys) ≡ flat_map f xs ++ flat_map f ys
flat-append f [] ys = refl
flat-append f (x ∷ xs) ys = ap (λ l. f x ++ l) (flat-append f xs ys) ∙ sym (append_assoc (f x) (flat_map f xs) (flat_map f ys))

-- what a rank is told by an entry, in the two ways in which it is written
same_said : (rank : Rank) (o : Option (Rank × Said)) → said_by rank o ≡ of_rank rank o
same_said rank None = refl
same_said rank (Some (by, s)) = refl

changed_other : (f : RankState → RankState) (place k : ℕ) (xs : List RankState) → place ≢ k →
    slice_get (change_at f place xs) k ≡ slice_get xs k
changed_other f place k [] other = refl
changed_other f zero zero (x ∷ xs) other = absurd (other refl)
changed_other f zero (suc k) (x ∷ xs) other = refl
changed_other f (suc place) zero (x ∷ xs) other = refl
changed_other f (suc place) (suc k) (x ∷ xs) other = changed_other f place k xs (λ same. other (ap suc same))

apart : (place k : ℕ) → (place == k) ≡ false → place ≢ k
apart place k isnt same = let e : true ≡ false = sym (eq-eqb place k same) ∙ isnt in cc

-- One entry.

-- what one entry does to the puts of a rank
abbrev IsEven : Bag → Entry → Rank → Type 0
IsEven b e rank = pending (rank_at b rank) ++ by_rank rank (put_in e) ≡ called (said_by rank (says b e)) ++ pending
    (rank_at (after b e) rank)

module _ (b : Bag) (e : Entry) (l : Legal b e) (none : put_in e ≡ None) (rank : Rank) where
  silent_is : says b e ≡ None → called (said_by rank (says b e)) ≡ []
  silent_is silent = ap (λ o. called (said_by rank o)) silent

  heard_is : (s : Said) → says b e ≡ Some (rank, s) → called (said_by rank (says b e)) ≡ put_of s.call
  heard_is s said =
      ap (λ o. called (said_by rank o)) said ∙ ap (λ t. called (cond t (s ∷ []) [])) (same_number rank.0) ∙ append-nil (put_of s.call)

  by_deed : (was now : RankState) → Is b rank was → Is (after b e) rank now → Deed b e rank was now →
      pending (Some was) ≡ called (said_by rank (says b e)) ++ pending (Some now)
  by_deed was now there here (waits silent idle status end batch) =
      ap (λ s. puts_if (call_of s)) (sym status) ∙ ap (λ l. l ++ pending (Some now)) (sym (silent_is silent))
  by_deed was now there here (begins call silent idle running is end batch) =
      ap (λ s. puts_if (call_of s)) running ∙ sym (none_of now.status (none_pends b e l none rank was now there here running))
      ∙ ap (λ l. l ++ pending (Some now)) (sym (silent_is silent))
  by_deed was now there here (hears call answer said is running end goes comes) =
      ap puts_if is ∙ sym (append-nil (put_of call)) ∙ ap (λ l. l ++ []) (sym (heard_is (record { call = call; answer = answer }) said))
      ∙ ap (λ s. called (said_by rank (says b e)) ++ puts_if (call_of s)) (sym running)
  by_deed was now there here (awaits id u common silent coming shared status accepts grants gives) =
      ap puts_if (sym status) ∙ ap (λ l. l ++ pending (Some now)) (sym (silent_is silent))
  by_deed was now there here (calls_done said idle running) =
      ap (λ s. puts_if (call_of s)) running ∙ sym (none_of now.status (none_pends b e l none rank was now there here running))
      ∙ ap (λ l. l ++ pending (Some now)) (sym (heard_is (record { call = calls_to.SetDone; answer = answers.Fine }) said))
  by_deed was now there here (finishes said idle running done end batch) =
      ap (λ s. puts_if (call_of s)) running ∙ sym (none_of now.status (none_pends b e l none rank was now there here running))
      ∙ ap (λ l. l ++ pending (Some now)) (sym (heard_is finish said))

  by_case : IsAway b e rank ⊎ IsTurn b e rank → pending (rank_at b rank) ≡ called (said_by rank (says b e)) ++ pending
      (rank_at (after b e) rank)
  by_case (inl away) =
      ap pending (sym away.0) ∙ ap (λ l. called l ++ pending (rank_at (after b e) rank)) (sym (same_said rank (says b e) ∙ away.1))
  by_case (inr t) =
      ap pending t.there ∙ by_deed t.was t.now t.there t.here t.deed
      ∙ ap (λ o. called (said_by rank (says b e)) ++ pending o) (sym t.here)

  others : IsEven b e rank
  others =
      ap (λ o. pending (rank_at b rank) ++ by_rank rank o) none ∙ append-nil (pending (rank_at b rank)) ∙ by_case (seen b e l rank)

one : (b : Bag) (e : Entry) → Legal b e → (rank : Rank) → IsEven b e rank
one b (Putting by n kind prio target answer body) l rank = by_test (by.0 == rank.0) refl
  where
    f : RankState → RankState
    f r = begun (does.Putting (record {
      id = record { rank = by; number = n };
      kind = kind;
      prio = prio;
      target = target;
      answer = answer;
      common = r.batch;
      body = body;
    })) r

    at_it : IsEven b (Putting by n kind prio target answer body) by
    at_it =
        let was : pending (rank_at b by) ≡ [] = ap pending l.1.0 ∙ ap (λ s. puts_if (call_of s)) l.1.1 in
        let now : pending (rank_at (after b (Putting by n kind prio target answer body)) by) ≡ calls_to.Put kind prio target answer body ∷
        [] =
        ap pending (changed_here f by.0 b.ranks l.0 l.1.0) in
        ap (λ l. l ++ by_rank by (Some (by, calls_to.Put kind prio target answer body))) was
        ∙ ap (λ t. cond t (calls_to.Put kind prio target answer body ∷ []) []) (same_number by.0) ∙ sym now

    by_test : (t : Bool) → (by.0 == rank.0) ≡ t → IsEven b (Putting by n kind prio target answer body) rank
    by_test true is = subst (λ (k : Rank). IsEven b (Putting by n kind prio target answer body) k) (same_rank_is by rank is) at_it
    by_test false is =
        let same : rank_at (after b (Putting by n kind prio target answer body)) rank ≡ rank_at b rank = changed_other f by.0 rank.0
        b.ranks (apart by.0 rank.0 is) in
        ap (λ t. pending (rank_at b rank) ++ cond t (calls_to.Put kind prio target answer body ∷ []) []) is
        ∙ append-nil (pending (rank_at b rank)) ∙ ap pending (sym same)
one b e l rank = others b e l refl rank

-- All entries.

all : (b last : Bag) (es : List Entry) → IsPath b es last → (rank : Rank) →
    pending (rank_at b rank) ++ entered es rank ≡ called (calls_from b es rank) ++ pending (rank_at last rank)
all b last [] path rank = append-nil (pending (rank_at b rank)) ∙ ap (λ (x : Bag). pending (rank_at x rank)) path
all b last (e ∷ es) path rank =
    sym (append_assoc (pending (rank_at b rank)) (by_rank rank (put_in e)) (entered es rank))
    ∙ ap (λ l. l ++ entered es rank) (one b e path.0 rank)
    ∙ append_assoc (called (said_by rank (says b e))) (pending (rank_at (after b e) rank)) (entered es rank)
    ∙ ap (λ l. called (said_by rank (says b e)) ++ l) (all (after b e) last es path.1 rank)
    ∙ sym (append_assoc (called (said_by rank (says b e))) (called (calls_from (after b e) es rank)) (pending (rank_at last rank)))
    ∙ ap (λ l. l ++ pending (rank_at last rank))
    (sym (flat-append (λ (s : Said). put_of s.call) (said_by rank (says b e)) (calls_from (after b e) es rank)))

-- At the start nothing is pending, and at the end each rank has finished.

fresh_pends : (config : Config) (rank : Rank) → pending (rank_at (start config) rank) ≡ []
fresh_pends config rank = at (rank_at (start config) rank) refl
  where
    at : (o : Option RankState) → rank_at (start config) rank ≡ o → pending (rank_at (start config) rank) ≡ []
    at None is = ap pending is
    at (Some r) is = ap pending is ∙ ap (λ (x : RankState). pending (Some x)) (fresh_at config.ranks rank.0 r is)

none_last : (batch : Option (List ℕ)) → [] ≡ last_calls batch → ⊥
none_last None is = absurd (cc)
none_last (Some common) is = absurd (cc)

done_pends : (n : ℕ) (last : Bag) (hands : Rank → Hand) (rank : Rank) (r : RankState) → IsGoing n last last [] hands → Is last rank r →
    pending (Some r) ≡ []
done_pends n last hands rank r going there = by_case (going.calling rank r there)
  where
    by_leaves : Leaves r (hands rank).batch [] → pending (Some r) ≡ []
    by_leaves (runs at rest) = absurd (none_last (hands rank).batch rest)
    by_leaves (closes pends rest) = absurd (cc)
    by_leaves (left done none) = ap (λ s. puts_if (call_of s)) done

    by_case : IsCalling n last rank r (hands rank) [] → pending (Some r) ≡ []
    by_case (inl u) = absurd (orderly_none n (hands rank).held (hands rank).batch u.orderly)
    by_case (inr t) = by_leaves t.leaves

-- in a legal run of orderly ranks, a rank's Putting entries are the puts that it called, in order
pub entered_is : (config : Config) (ledger : List Entry) (last : Bag) → 0 < config.ranks → IsRun (start config) ledger last →
    AreOrderly config ledger →
    (rank : Rank) → rank.0 < config.ranks → entered ledger rank ≡ called (calls config ledger rank)
entered_is config ledger last some run orderly rank below =
    let path = path_of (start config) last ledger run in
    let whole = gone config.ranks (start config) last ledger (λ rank. empty) some path (start_going config last ledger run orderly) in
    let r = there_is last.ranks rank.0 (rw whole.going.long below) in
    let none : pending (rank_at last rank) ≡ [] =
    ap pending r.1 ∙ done_pends config.ranks last whole.hands_then rank r.0 whole.going r.1 in
    ap (λ l. l ++ entered ledger rank) (sym (fresh_pends config rank)) ∙ all (start config) last ledger path rank
    ∙ ap (λ l. called (calls config ledger rank) ++ l) none ∙ append-nil (called (calls config ledger rank))
