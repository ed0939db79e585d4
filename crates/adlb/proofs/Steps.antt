-- What each call makes of a rank that works.
use Rattle.std.specs.Prelude.{ℤ}
use Rattle.std.proofs.Common.{length, ◌<◌, ◌≤◌, ◌≡◌, ◌+◌, ◌^◌, ℕ, List, [], ◌∷◌, ◌++◌, All, Option, Some, None, refl, sym, ap, subst, arith}
use Rattle.std.proofs.Common.{append_assoc, IsSome, sum_by, ◌∙◌}
use Rattle.std.proofs.lemmas.List.{length_push}
use Rattle.std.proofs.lemmas.List.Sums.{sum_by-cons, sum_by_push}
use Rattle.std.proofs.lemmas.List.Elements.{All-contains, Contains-append_left, Contains-push}
use Rattle.adlb_unit.specs.Targets.{Aims}
use Rattle.adlb_unit.specs.declared.names.Target.{Target}
use Rattle.adlb_unit.specs.declared.names.Target.TheVariants.{Any, Only, Soft}
use Rattle.adlb_unit.specs.declared.names.WorkType.{WorkType}
use Rattle.adlb_unit.specs.declared.notes.End.{End}
use Rattle.adlb_unit.specs.declared.notes.UnitNote.{UnitNote}
use Rattle.bag_ledger.specs.declared.entries.Answer.TheVariants as answers
use Rattle.bag_ledger.specs.declared.entries.Call.TheVariants as calls_to
use Rattle.bag_ledger.specs.declared.entries.Said.{Said}
use Rattle.balance_law.specs.Balanced.{IsEndedWell}
use Rattle.balance_law.specs.Orderly.{IsAimed, IsOrderly, end_batch, finish, last_calls}
use Rattle.balance_law.specs.Parcels.{Parcel, common_of, got, own_of, parcel_read, sent}
use Rattle.adlb_rank.specs.Calls.{Takes, answer_of, said_of}
use Rattle.adlb_rank.specs.declared.replies.Reply.{Reply}
use Rattle.adlb_rank.specs.declared.replies.Taken.{Taken}
use Rattle.adlb.specs.WorkerCalls.{grant, put_of}
use Rattle.adlb.specs.Worked.{HasWorked, IsGoing, Passes, got_worth, most, parcel_worth, sent_worth, shared_bytes}
use Rattle.adlb.specs.declared.workers.Progress.{Progress}
use Rattle.adlb.specs.declared.workers.Progress.TheVariants.{Ended, More}

-- a rank at its start
pub at_start : (w : List ℕ → List ℕ → ℕ) (begin ranks : ℕ) (said : List Said) (total waiting : ℕ) → said ≡ [] → total ≡ 0 → waiting ≡ begin
    → IsGoing w begin ranks None said total waiting
at_start w begin ranks said total waiting is none all = subst (λ l. IsGoing w begin ranks None l total waiting) (sym is) record {
  orderly = λ rest o. o;
  kept = λ rest. omega (arith, none, all);
  few = omega (arith, none);
}

-- what a put said, by what it came to
pub replied : (said now : List Said) (kind : WorkType) (prio : ℤ) (target : Target) (twin body : List ℕ) (reply came : Reply)
    → now ≡ said ++ said_of (put_of kind prio target twin) (answer_of reply) ∷ [] → twin ≡ body → reply ≡ came
    → now ≡ said ++ said_of (put_of kind prio target body) (answer_of came) ∷ []
replied said now kind prio target twin body reply came is same was =
    subst (λ (r : Reply). now ≡ said ++ said_of (put_of kind prio target body) (answer_of r) ∷ []) was
    (subst (λ (b : List ℕ). now ≡ said ++ said_of (put_of kind prio target b) (answer_of reply) ∷ []) same is)

-- and what the beginning of a batch said
pub opened : (said now : List Said) (twin common : List ℕ) (reply came : Reply)
    → now ≡ said ++ said_of (calls_to.BeginBatch twin) (answer_of reply) ∷ [] → twin ≡ common → reply ≡ came
    → now ≡ said ++ said_of (calls_to.BeginBatch common) (answer_of came) ∷ []
opened said now twin common reply came is same was =
    subst (λ (r : Reply). now ≡ said ++ said_of (calls_to.BeginBatch common) (answer_of r) ∷ []) was
    (subst (λ (b : List ℕ). now ≡ said ++ said_of (calls_to.BeginBatch b) (answer_of reply) ∷ []) same is)

aimed : (target : Target) (ranks : ℕ) → Aims target ranks → IsAimed ranks target
aimed Any ranks aims = tt
aimed (Only rank) ranks aims = aims
aimed (Soft rank) ranks aims = aims

-- what a taking said, by what it came to
pub took : (types : Option (List WorkType)) (said now : List Said) (taken came : Taken) → Takes (calls_to.Reserve types) said now taken
    → types ≡ None → taken ≡ came → Takes (calls_to.Reserve None) said now came
took types said now taken came is any was =
    subst (λ (t : Taken). Takes (calls_to.Reserve None) said now t) was
    (subst (λ (o : Option (List WorkType)). Takes (calls_to.Reserve o) said now taken) any is)

-- what passes, by how far it came
pub goes : (w : List ℕ → List ℕ → ℕ) (begin ranks : ℕ) (batch : Option (List ℕ)) (said : List Said) (total waiting : ℕ) (done : Progress)
    → Passes w begin ranks batch said total waiting done → done ≡ More → IsGoing w begin ranks batch said total waiting
goes w begin ranks batch said total waiting done passes is =
    subst (λ (d : Progress). Passes w begin ranks batch said total waiting d) is passes

pub stops : (w : List ℕ → List ℕ → ℕ) (begin ranks : ℕ) (batch : Option (List ℕ)) (said : List Said) (total waiting : ℕ) (done : Progress)
    → Passes w begin ranks batch said total waiting done → done ≡ Ended → HasWorked w begin ranks batch said total
stops w begin ranks batch said total waiting done passes is =
    subst (λ (d : Progress). Passes w begin ranks batch said total waiting d) is passes

-- fewer than 2^48 calls count at most 2^112
pub few_all : (said : List Said) (total : ℕ) → length said < 2 ^ 48 → total ≤ most said → total ≤ 2 ^ 112
few_all said total short few = omega arith

-- an end that was told to another call than a reserve
not_well : (said : List Said) (s : Said) (rest : List Said) → (IsEndedWell s.call s.answer → ⊥)
    → All (λ s. IsEndedWell s.call s.answer) ((said ++ s ∷ []) ++ rest) → ⊥
not_well said s rest ill all = ill (
    All-contains (λ (t : Said). IsEndedWell t.call t.answer) ((said ++ s ∷ []) ++ rest) s all
    (Contains-append_left (said ++ s ∷ []) rest s (Contains-push said s))
    )

-- what waits, by another number; and what was gathered, while it goes on
pub waits : (w : List ℕ → List ℕ → ℕ) (begin ranks : ℕ) (batch : Option (List ℕ)) (said : List Said) (total a b : ℕ)
    → IsGoing w begin ranks batch said total a → a ≡ b → IsGoing w begin ranks batch said total b
waits w begin ranks batch said total a b going is = subst (λ (n : ℕ). IsGoing w begin ranks batch said total n) is going

pub room : (w : List ℕ → List ℕ → ℕ) (begin ranks : ℕ) (batch : Option (List ℕ)) (said : List Said) (total waiting : ℕ)
    → IsGoing w begin ranks batch said total waiting → length said < 2 ^ 48 → total ≤ 2 ^ 112
room w begin ranks batch said total waiting going short = few_all said total short going.few

-- the worth of a list of units, by its last
pub last_worth : (f : List ℕ → ℕ) (all others : List (List ℕ)) (unit : List ℕ) → all ≡ others ++ unit ∷ []
    → sum_by f all ≡ sum_by f others + f unit
last_worth f all others unit is = ap (λ l. sum_by f l) is ∙ sum_by_push f others unit

-- A transcript with one call more, and what follows it.

module _ (w : List ℕ → List ℕ → ℕ) (begin ranks : ℕ) where
  orderly_more : (said : List Said) (s : Said) (rest : List Said) → IsOrderly ranks None None (said ++ s ∷ rest)
      → IsOrderly ranks None None ((said ++ s ∷ []) ++ rest)
  orderly_more said s rest o = subst (λ l. IsOrderly ranks None None l) (sym (append_assoc said (s ∷ []) rest)) o

  sent_more : (said : List Said) (s : Said) (rest : List Said)
      → sent_worth w None ((said ++ s ∷ []) ++ rest) ≡ sent_worth w None (said ++ s ∷ rest)
  sent_more said s rest = ap (λ l. sent_worth w None l) (append_assoc said (s ∷ []) rest)

  got_more : (said : List Said) (s : Said) (rest : List Said) → got_worth w ((said ++ s ∷ []) ++ rest) ≡ got_worth w (said ++ s ∷ rest)
  got_more said s rest = ap (λ l. got_worth w l) (append_assoc said (s ∷ []) rest)

  few_more : (said : List Said) (s : Said) (total : ℕ) → total ≤ most said → total + 2 ^ 64 ≤ most (said ++ s ∷ [])
  few_more said s total few = let one = length_push said s in omega (arith, one)

  -- A call in this batch, after which it goes on, that sends units of this worth and gets nothing. Then what waits counts as it is worked.
  step : (batch then : Option (List ℕ)) (said now : List Said) (s : Said) (sends total waiting after more : ℕ) → now ≡ said ++ s ∷ []
      → ((rest : List Said) → IsOrderly ranks None then rest → IsOrderly ranks None batch (s ∷ rest))
      → ((rest : List Said) → sent_worth w batch (s ∷ rest) ≡ sends + sent_worth w then rest)
      → ((rest : List Said) → got_worth w (s ∷ rest) ≡ got_worth w rest)
      → IsGoing w begin ranks batch said total waiting → after + more + sends ≡ total + waiting → after ≤ total + 2 ^ 64
      → IsGoing w begin ranks then now after more
  step batch then said now s sends total waiting after more is orderly sent got going counts few =
      let more_few = few_more said s total going.few in
      subst (λ l. IsGoing w begin ranks then l after more) (sym is) record {
        orderly = λ rest o. orderly_more said s rest (going.orderly (s ∷ rest) (orderly rest o));
        kept = λ rest. omega (arith, going.kept (s ∷ rest), sent_more said s rest, got_more said s rest, sent rest, got rest, counts);
        few = omega (arith, more_few);
      }

  -- A put.

  orderly_put : (batch : Option (List ℕ)) (kind : WorkType) (prio : ℤ) (target : Target) (body : List ℕ) (rest : List Said)
      → Aims target ranks
      → IsOrderly ranks None batch rest → IsOrderly ranks None batch (said_of (put_of kind prio target body) answers.Fine ∷ rest)
  unfolding IsOrderly
  orderly_put batch kind prio target body rest aims o = (aimed target ranks aims, o)

  sent_put : (batch : Option (List ℕ)) (kind : WorkType) (prio : ℤ) (target : Target) (body : List ℕ) (rest : List Said)
      → sent_worth w batch (said_of (put_of kind prio target body) answers.Fine ∷ rest) ≡ w (shared_bytes batch) body
      + sent_worth w batch rest
  unfolding sent
  sent_put batch kind prio target body rest =
      let p : Parcel = record { kind = kind; prio = prio; answer = None; common = batch; long = length body; own = body } in
      sum_by-cons (parcel_worth w) p (sent batch rest)

  got_put : (kind : WorkType) (prio : ℤ) (target : Target) (body : List ℕ) (rest : List Said)
      → got_worth w (said_of (put_of kind prio target body) answers.Fine ∷ rest) ≡ got_worth w rest
  unfolding got
  got_put kind prio target body rest = refl

  orderly_rejected : (batch : Option (List ℕ)) (kind : WorkType) (prio : ℤ) (target : Target) (body : List ℕ) (rest : List Said)
      → Aims target ranks → IsOrderly ranks None batch rest
      → IsOrderly ranks None batch (said_of (put_of kind prio target body) answers.Rejected ∷ rest)
  unfolding IsOrderly
  orderly_rejected batch kind prio target body rest aims o = (aimed target ranks aims, o)

  sent_rejected : (batch : Option (List ℕ)) (kind : WorkType) (prio : ℤ) (target : Target) (body : List ℕ) (rest : List Said)
      → sent_worth w batch (said_of (put_of kind prio target body) answers.Rejected ∷ rest) ≡ sent_worth w batch rest
  unfolding sent
  sent_rejected batch kind prio target body rest = refl

  got_rejected : (kind : WorkType) (prio : ℤ) (target : Target) (body : List ℕ) (rest : List Said)
      → got_worth w (said_of (put_of kind prio target body) answers.Rejected ∷ rest) ≡ got_worth w rest
  unfolding got
  got_rejected kind prio target body rest = refl

  orderly_stopped : (batch : Option (List ℕ)) (kind : WorkType) (prio : ℤ) (target : Target) (body : List ℕ) (end : End) → Aims target ranks
      → IsOrderly ranks None batch (said_of (put_of kind prio target body) (answers.Ended end) ∷ last_calls batch)
  unfolding IsOrderly
  orderly_stopped batch kind prio target body end aims = (aimed target ranks aims, refl)

  module _ (batch : Option (List ℕ)) (said now : List Said) (kind : WorkType) (prio : ℤ) (target : Target) (body : List ℕ)
      (aims : Aims target ranks) (total : ℕ) where
    -- a server took it
    pub offered : (more : ℕ) → now ≡ said ++ said_of (put_of kind prio target body) answers.Fine ∷ []
        → IsGoing w begin ranks batch said total (more + w (shared_bytes batch) body) → IsGoing w begin ranks batch now total more
    offered more is going =
        step batch batch said now (said_of (put_of kind prio target body) answers.Fine) (w (shared_bytes batch) body) total
        (more + w (shared_bytes batch) body) total more is (λ rest o. orderly_put batch kind prio target body rest aims o)
        (λ rest. sent_put batch kind prio target body rest) (λ rest. got_put kind prio target body rest) going (omega arith) (omega arith)

    -- each server refused it, and it was worked
    pub worked_here : (after waiting more : ℕ) → now ≡ said ++ said_of (put_of kind prio target body) answers.Rejected ∷ []
        → IsGoing w begin ranks batch said total (waiting + w (shared_bytes batch) body)
        → after + more ≡ total + w (shared_bytes batch) body + waiting → after ≤ total + 2 ^ 64 → IsGoing w begin ranks batch now after more
    worked_here after waiting more is going counts few =
        step batch batch said now (said_of (put_of kind prio target body) answers.Rejected) 0 total
        (waiting + w (shared_bytes batch) body) after
        more is (λ rest o. orderly_rejected batch kind prio target body rest aims o)
        (λ rest. omega (arith, sent_rejected batch kind prio target body rest)) (λ rest. got_rejected kind prio target body rest) going
        (omega (arith, counts)) few

    -- it was told an end
    pub stopped_now : (waiting : ℕ) (end : End) → now ≡ said ++ said_of (put_of kind prio target body) (answers.Ended end) ∷ []
        → IsGoing w begin ranks batch said total waiting → length said < 2 ^ 48 → HasWorked w begin ranks batch now total
    stopped_now waiting end is going short =
        let s : Said = said_of (put_of kind prio target body) (answers.Ended end) in
        subst (λ l. HasWorked w begin ranks batch l total) (sym is) record {
          orderly = orderly_more said s (last_calls batch)
              (going.orderly (s ∷ last_calls batch) (orderly_stopped batch kind prio target body end aims));
          kept = λ all. absurd (not_well said s (last_calls batch) (λ e. e) all);
          few = few_all said total short going.few;
        }

  -- The beginning of a batch, and its end.

  orderly_begun : (common : List ℕ) (rest : List Said) → IsOrderly ranks None (Some common) rest
      → IsOrderly ranks None None (said_of (calls_to.BeginBatch common) answers.Fine ∷ rest)
  unfolding IsOrderly
  orderly_begun common rest o = (refl, o)

  sent_begun : (common : List ℕ) (rest : List Said)
      → sent_worth w None (said_of (calls_to.BeginBatch common) answers.Fine ∷ rest) ≡ sent_worth w (Some common) rest
  unfolding sent
  sent_begun common rest = refl

  got_begun : (common : List ℕ) (rest : List Said) → got_worth w (said_of (calls_to.BeginBatch common) answers.Fine ∷ rest)
      ≡ got_worth w rest
  unfolding got
  got_begun common rest = refl

  orderly_refused : (common : List ℕ) (rest : List Said) → IsOrderly ranks None None rest
      → IsOrderly ranks None None (said_of (calls_to.BeginBatch common) answers.Rejected ∷ rest)
  unfolding IsOrderly
  orderly_refused common rest o = (refl, o)

  sent_refused : (common : List ℕ) (rest : List Said)
      → sent_worth w None (said_of (calls_to.BeginBatch common) answers.Rejected ∷ rest) ≡ sent_worth w None rest
  unfolding sent
  sent_refused common rest = refl

  got_refused : (common : List ℕ) (rest : List Said)
      → got_worth w (said_of (calls_to.BeginBatch common) answers.Rejected ∷ rest) ≡ got_worth w rest
  unfolding got
  got_refused common rest = refl

  orderly_shut : (common : List ℕ) (end : End)
      → IsOrderly ranks None None (said_of (calls_to.BeginBatch common) (answers.Ended end) ∷ finish ∷ [])
  unfolding IsOrderly
  orderly_shut common end = (refl, refl)

  orderly_closed : (common : List ℕ) (rest : List Said) → IsOrderly ranks None None rest
      → IsOrderly ranks None (Some common) (end_batch ∷ rest)
  unfolding IsOrderly
  orderly_closed common rest o = ((common, refl), o)

  sent_closed : (common : List ℕ) (rest : List Said) → sent_worth w (Some common) (end_batch ∷ rest) ≡ sent_worth w None rest
  unfolding sent
  sent_closed common rest = refl

  got_closed : (rest : List Said) → got_worth w (end_batch ∷ rest) ≡ got_worth w rest
  unfolding got
  got_closed rest = refl

  -- a server took it
  pub begun : (batch : Option (List ℕ)) (said now : List Said) (total waiting : ℕ) → IsSome batch
      → now ≡ said ++ said_of (calls_to.BeginBatch (shared_bytes batch)) answers.Fine ∷ []
      → IsGoing w begin ranks None said total waiting → IsGoing w begin ranks batch now total waiting
  begun None said now total waiting some is going = absurd (cc)
  begun (Some common) said now total waiting some is going =
      step None (Some common) said now (said_of (calls_to.BeginBatch common) answers.Fine) 0 total waiting total waiting is
      (λ rest o. orderly_begun common rest o) (λ rest. omega (arith, sent_begun common rest)) (λ rest. got_begun common rest)
      going (omega arith)
      (omega arith)

  -- each server refused it, and something was worked
  pub refused : (common : List ℕ) (said now : List Said) (total waiting after more : ℕ)
      → now ≡ said ++ said_of (calls_to.BeginBatch common) answers.Rejected ∷ []
      → IsGoing w begin ranks None said total waiting → after + more ≡ total + waiting → after ≤ total + 2 ^ 64
      → IsGoing w begin ranks None now after more
  refused common said now total waiting after more is going counts few =
      step None None said now (said_of (calls_to.BeginBatch common) answers.Rejected) 0 total waiting after more is
      (λ rest o. orderly_refused common rest o) (λ rest. omega (arith, sent_refused common rest)) (λ rest. got_refused common rest) going
      (omega (arith, counts)) few

  -- it was told an end
  pub shut : (common : List ℕ) (said now : List Said) (total waiting : ℕ) (end : End)
      → now ≡ said ++ said_of (calls_to.BeginBatch common) (answers.Ended end) ∷ []
      → IsGoing w begin ranks None said total waiting → length said < 2 ^ 48 → HasWorked w begin ranks None now total
  shut common said now total waiting end is going short =
      let s : Said = said_of (calls_to.BeginBatch common) (answers.Ended end) in
      subst (λ l. HasWorked w begin ranks None l total) (sym is) record {
        orderly = orderly_more said s (finish ∷ []) (going.orderly (s ∷ finish ∷ []) (orderly_shut common end));
        kept = λ all. absurd (not_well said s (finish ∷ []) (λ e. e) all);
        few = few_all said total short going.few;
      }

  -- it was ended
  pub closed : (batch : Option (List ℕ)) (said now : List Said) (total waiting : ℕ) (done : Progress) → IsSome batch
      → now ≡ said ++ end_batch ∷ [] → Passes w begin ranks batch said total waiting done
      → Passes w begin ranks None now total waiting done
  closed None said now total waiting done some is passes = absurd (cc)
  closed (Some common) said now total waiting More some is going =
      step (Some common) None said now end_batch 0 total waiting total waiting is (λ rest o. orderly_closed common rest o)
      (λ rest. omega (arith, sent_closed common rest)) (λ rest. got_closed rest) going (omega arith) (omega arith)
  closed (Some common) said now total waiting Ended some is worked =
      subst (λ l. HasWorked w begin ranks None l total) (sym is) record {
        orderly = orderly_more said end_batch (finish ∷ []) worked.orderly;
        kept = λ all. omega (
          arith,
          worked.kept (subst (λ l. All (λ s. IsEndedWell s.call s.answer) l) (append_assoc said (end_batch ∷ []) (finish ∷ [])) all),
          sent_more said end_batch (finish ∷ []),
          got_more said end_batch (finish ∷ []),
        );
        few = worked.few;
      }

  -- A reserve that is told an end.

  orderly_ended : (end : End) → IsOrderly ranks None None (said_of (calls_to.Reserve None) (answers.Ended end) ∷ finish ∷ [])
  unfolding IsOrderly
  orderly_ended end = (refl, refl)

  none_sent : (end : End) → sent_worth w None (said_of (calls_to.Reserve None) (answers.Ended end) ∷ finish ∷ []) ≡ 0
  unfolding sent
  none_sent end = refl

  none_got : (end : End) → got_worth w (said_of (calls_to.Reserve None) (answers.Ended end) ∷ finish ∷ []) ≡ 0
  unfolding got
  none_got end = refl

  pub ended_now : (said now : List Said) (total : ℕ) (end : End) → now ≡ said ++ said_of (calls_to.Reserve None) (answers.Ended end) ∷ []
      → IsGoing w begin ranks None said total 0 → length said < 2 ^ 48 → HasWorked w begin ranks None now total
  ended_now said now total end is going short =
      let s : Said = said_of (calls_to.Reserve None) (answers.Ended end) in
      subst (λ l. HasWorked w begin ranks None l total) (sym is) record {
        orderly = orderly_more said s (finish ∷ []) (going.orderly (s ∷ finish ∷ []) (orderly_ended end));
        kept = λ all. omega (
          arith,
          going.kept (s ∷ finish ∷ []),
          sent_more said s (finish ∷ []),
          got_more said s (finish ∷ []),
          none_sent end,
          none_got end,
        );
        few = few_all said total short going.few;
      }

  -- A unit that is granted and fetched, and worked.

  orderly_taken : (note : UnitNote) (body : List ℕ) (rest : List Said) → IsOrderly ranks None None rest
      → IsOrderly ranks None None (grant note ∷ said_of (calls_to.Fetch note.id) (answers.Body body) ∷ rest)
  unfolding IsOrderly
  orderly_taken note body rest o = (refl, (refl, o))

  sent_taken : (note : UnitNote) (body : List ℕ) (rest : List Said)
      → sent_worth w None (grant note ∷ said_of (calls_to.Fetch note.id) (answers.Body body) ∷ rest) ≡ sent_worth w None rest
  unfolding sent
  sent_taken note body rest = refl

  got_taken : (note : UnitNote) (body : List ℕ) (rest : List Said)
      → got_worth w (grant note ∷ said_of (calls_to.Fetch note.id) (answers.Body body) ∷ rest)
      ≡ w (shared_bytes (common_of note.common body)) (own_of note.common body) + got_worth w rest
  unfolding got
  got_taken note body rest = sum_by-cons (parcel_worth w) (parcel_read note body) (got None rest)

  pub taken_now : (said now : List Said) (total after more : ℕ) (note : UnitNote) (body : List ℕ)
      → now ≡ (said ++ grant note ∷ []) ++ said_of (calls_to.Fetch note.id) (answers.Body body) ∷ []
      → IsGoing w begin ranks None said total 0
      → after + more ≡ total + w (shared_bytes (common_of note.common body)) (own_of note.common body) + 0 → after ≤ total + 2 ^ 64
      → IsGoing w begin ranks None now after more
  taken_now said now total after more note body is going counts few =
      let g : Said = grant note in
      let f : Said = said_of (calls_to.Fetch note.id) (answers.Body body) in
      let two = length_push (said ++ g ∷ []) f in
      let more_few = few_more said g total going.few in
      subst (λ l. IsGoing w begin ranks None l after more) (sym is) record {
        orderly = λ rest o. orderly_more (said ++ g ∷ []) f rest
            (orderly_more said g (f ∷ rest) (going.orderly (g ∷ f ∷ rest) (orderly_taken note body rest o)));
        kept = λ rest. omega (
          arith,
          going.kept (g ∷ f ∷ rest),
          sent_more (said ++ g ∷ []) f rest,
          sent_more said g (f ∷ rest),
          got_more (said ++ g ∷ []) f rest,
          got_more said g (f ∷ rest),
          sent_taken note body rest,
          got_taken note body rest,
          counts,
        );
        few = omega (arith, more_few, two);
      }
