-- One more call of a rank, and what it leaves.
use Rattle.std.proofs.Common.{◌≡◌, ℕ, zero, suc, ◌+◌, ◌*◌, ◌^◌, ◌<◌, ◌≤◌, Bool, true, false, List, [], ◌∷◌, ◌++◌, length, Option, Some}
use Rattle.std.proofs.Common.{None, refl, sym, ap, ◌∙◌, subst, arith, append_assoc, MatchBool, lit<, slice_index, count_by}
use Rattle.std.specs.List.{flat_map}
use Rattle.std.proofs.lemmas.List.{length_push, map-append}
use Rattle.adlb_unit.specs.declared.notes.End as told_end
use Rattle.adlb_unit.specs.declared.notes.UnitNote.{UnitNote}
use Rattle.bag_ledger.specs.declared.entries.Answer.TheVariants.{Fine, Rejected, Ended, Body}
use Rattle.bag_ledger.specs.declared.entries.Call.{Call}
use Rattle.bag_ledger.specs.declared.entries.Call.TheVariants.{Reserve, Fetch, BeginBatch, EndBatch}
use Rattle.bag_ledger.specs.declared.entries.Said.{Said}
use Rattle.job_report.specs.Jobs.{all_items, puzzles}
use Rattle.job_report.specs.declared.outcomes.Outcome.{Outcome}
use Rattle.job_text.specs.declared.items.Item.{Item}
use Rattle.job_text.specs.declared.jobs.Job.{Job}
use Rattle.job_units.specs.declared.jobs.Job as units
use Rattle.job_units.specs.declared.units.Made.{Made}
use Rattle.job_units.specs.Forms.{IsUnit}
use Rattle.job_units.specs.Puts.{is_kind, put_of}
use Rattle.job_units.specs.Reading.{common_bytes, fetched as unit_fetched}
use Rattle.puzzle_app.specs.Arrivals.{Arrival, arrival, bytes_on, makes}
use Rattle.puzzle_app.specs.Books.{Books, Goes, Moves, accepted, rejected, stopped, begun, refused, stopped_before, closed, closed_behind}
use Rattle.puzzle_app.specs.Books.{granted, told, going, holding, shut, received, brought, without_batch, over_bytes, said_of}
use Rattle.puzzle_app.specs.Calls.{answer_of, grant}
use Rattle.puzzle_app.specs.declared.calls.Reply.{Reply}
use Rattle.puzzle_app.specs.Desk.{Answers, Brings, HasRoom, Receives, answers_to}
use Rattle.puzzle_app.specs.Follows.{Follows, IsSoFar, start_of}
use Rattle.puzzle_app.specs.Tasks.{Task, Put, Begin, End, all_units, as_units, jobs_from, put_all, tasks, tasks_from}
use Rattle.puzzle_app.specs.Working.{all_made, HasPut, IsGoing, IsStopped, IsTally, Passes, tasks_of}
use Rattle.puzzle_app.specs.declared.desk.Desk.{Desk}
use Rattle.puzzle_app.specs.declared.program.PuzzleProgram.{PuzzleProgram}
use Rattle.puzzle_app.proofs.Fetching.{fetch_moves}
use Rattle.puzzle_app.proofs.Tallies.{Counted, Fresh, Same, as_it_was, counted_tasks, made_over, tally_fresh, tally_one, tally_over}
use Rattle.puzzle_app.proofs.Tallies.{tally_same}

-- a call after others
pub goes_snoc : (grain : ℕ) (b : Books) (said : List Said) (mid next : Books) (s : Said) → Goes grain b said mid → Moves grain mid s next →
    Goes grain b (said ++ s ∷ []) next
goes_snoc grain b [] mid next s same move = (next, subst (λ x. Moves grain x s next) (sym same) move, refl)
goes_snoc grain b (t ∷ said) mid next s goes move = (goes.0, goes.1, goes_snoc grain goes.0 said mid next s goes.2 move)

-- the calls lead to these books, and one more to those
one_more : (p : PuzzleProgram) (said new : List Said) (mid next : Books) (s : Said) → Goes p.settings.grain (start_of p) said mid →
    new ≡ said ++ s ∷ [] →
    Moves p.settings.grain mid s next → Goes p.settings.grain (start_of p) new next
one_more p said new mid next s goes e move =
    subst (λ t. Goes p.settings.grain (start_of p) t next) (sym e) (goes_snoc p.settings.grain (start_of p) said mid next s goes move)

longer : {X : Type 0} (xs new : List X) (x : X) → new ≡ xs ++ x ∷ [] → length xs + 1 ≤ length new
longer xs new x e = omega (arith, length_push xs x, ap length e)

long : {X : Type 0} (xs new : List X) (x : X) → new ≡ xs ++ x ∷ [] → length xs ≤ length new
long xs new x e = omega (arith, length_push xs x, ap length e)

put_more : (xs ys : List Made) (rest : List Task) → put_all (xs ++ ys) ++ rest ≡ put_all xs ++ (put_all ys ++ rest)
put_more xs ys rest = ap (λ ts. ts ++ rest) (map-append Put xs ys) ∙ append_assoc (put_all xs) (put_all ys) rest

-- the books of what waits and the rest
abbrev on_desk : List Made → List Task → Option (List ℕ) → List Arrival → Books
on_desk waiting rest on came = going (put_all waiting ++ rest) on came

desk_same : {xs ys : List Made} (rest : List Task) (on : Option (List ℕ)) (came : List Arrival) → xs ≡ ys →
    on_desk xs rest on came ≡ on_desk ys rest on came
desk_same rest on came e = ap (λ w. on_desk w rest on came) e

-- the first unit that waited was taken off the desk
pub record Popped (x : Made) (d e : Desk) : Type 0 where
  pub first : d.waiting.items ≡ x ∷ e.waiting.items
  pub same : Same d e

-- the last unit that waits is popped
pub popped_off : (x : Made) (d e : Desk) → d.waiting.items ≡ x ∷ e.waiting.items → Popped x d (record d { waiting = e.waiting })
popped_off x d e first = record {
  first = first;
  same = record { kept = refl; answers = refl; overs = refl; boards = refl; found = refl; jobs = refl; answered = refl };
}

-- a put that is accepted is a step of the program
pub accepted_is : (p : PuzzleProgram) (said new : List Said) (d e : Desk) (x : Made) (rest : List Task) (on : Option (List ℕ)) →
    IsGoing p said d rest on →
    Popped x d e → IsUnit x → new ≡ said ++ said_of (put_of x) Fine ∷ [] → IsGoing p new e rest on
accepted_is p said new d e x rest on is popped fits one = record {
  came = is.came;
  goes = one_more p said new (on_desk d.waiting.items rest on is.came) (on_desk e.waiting.items rest on is.came)
      (said_of (put_of x) Fine) is.goes one
      (accepted x (put_all e.waiting.items ++ rest) on is.came fits (desk_same rest on is.came popped.first) refl refl);
  tally = tally_same p is.came (length said) (length new) d e is.tally popped.same (long said new (said_of (put_of x) Fine) one);
}

-- a unit came and its work waits
received_same : (grain : ℕ) (a : Arrival) (e f : Desk) (rest : List Task) (on : Option (List ℕ)) (came : List Arrival) →
    Receives grain a e f →
    on_desk f.waiting.items rest on (came ++ a ∷ []) ≡ received grain a (put_all e.waiting.items ++ rest) on came
received_same grain a e f rest on came more =
    desk_same rest on (came ++ a ∷ []) more.waiting
    ∙ ap (λ ts. going ts on (came ++ a ∷ [])) (put_more (makes grain a) e.waiting.items rest)

-- a put that is rejected is a step, and the rank works the unit itself
pub rejected_is : (p : PuzzleProgram) (said new : List Said) (d e f : Desk) (x : Made) (common : List ℕ) (rest : List Task)
    (on : Option (List ℕ)) →
    IsGoing p said d rest on → bytes_on on ≡ common → Popped x d e → IsUnit x → new ≡ said ++ said_of (put_of x) Rejected ∷ [] →
    Receives p.settings.grain (arrival common x) e f → IsGoing p new f rest on
rejected_is p said new d e f x common rest on is bytes popped fits one more =
    let a : Arrival = arrival (bytes_on on) x in
    let own : Receives p.settings.grain a e f = subst (λ c. Receives p.settings.grain (arrival c x) e f) (sym bytes) more in
    record {
      came = is.came ++ a ∷ [];
      goes = one_more p said new (on_desk d.waiting.items rest on is.came) (on_desk f.waiting.items rest on (is.came ++ a ∷ []))
          (said_of (put_of x) Rejected) is.goes one
          (rejected x (put_all e.waiting.items ++ rest) on is.came fits (desk_same rest on is.came popped.first) refl
          (received_same p.settings.grain a e f rest on is.came own));
      tally = tally_one p is.came (length said) (length new) a e f
          (tally_same p is.came (length said) (length said) d e is.tally popped.same (omega arith)) own
          (longer said new (said_of (put_of x) Rejected) one);
    }

-- a put that ends stops the program
pub stopped_is : (p : PuzzleProgram) (said new : List Said) (d e : Desk) (x : Made) (end : told_end.End) (rest : List Task)
    (on : Option (List ℕ)) →
    IsGoing p said d rest on → Popped x d e → IsUnit x → new ≡ said ++ said_of (put_of x) (Ended end) ∷ [] → IsStopped p new e on
stopped_is p said new d e x end rest on is popped fits one = record {
  left = put_all e.waiting.items ++ rest;
  came = is.came;
  goes = one_more p said new (on_desk d.waiting.items rest on is.came) (shut (put_all e.waiting.items ++ rest) on is.came)
      (said_of (put_of x) (Ended end)) is.goes one
      (stopped x (put_all e.waiting.items ++ rest) on is.came end fits (desk_same rest on is.came popped.first) refl refl);
  tally = tally_same p is.came (length said) (length new) d e is.tally popped.same (long said new (said_of (put_of x) (Ended end)) one);
}

-- a reserve that ends stops the program
pub told_is : (p : PuzzleProgram) (said new : List Said) (d : Desk) (end : told_end.End) → HasPut p said d [] None →
    new ≡ said ++ said_of (Reserve None) (Ended end) ∷ [] → IsStopped p new d None
told_is p said new d end put one = record {
  left = [];
  came = put.going.came;
  goes = one_more p said new (on_desk d.waiting.items [] None put.going.came) (shut [] None put.going.came)
      (said_of (Reserve None) (Ended end)) put.going.goes one
      (told put.going.came end (desk_same [] None put.going.came put.none) refl refl);
  tally = tally_same p put.going.came (length said) (length new) d d put.going.tally (as_it_was d)
      (long said new (said_of (Reserve None) (Ended end)) one);
}

goes_granted : (p : PuzzleProgram) (said new : List Said) (d : Desk) (note : UnitNote) (put : HasPut p said d [] None) →
    new ≡ said ++ grant note ∷ [] →
    Goes p.settings.grain (start_of p) new (holding note put.going.came)
goes_granted p said new d note put one =
    one_more p said new (on_desk d.waiting.items [] None put.going.came) (holding note put.going.came) (grant note) put.going.goes one
    (granted put.going.came note (desk_same [] None put.going.came put.none) refl refl)

-- a reserve that is granted is a step of the program
pub granted_so : (p : PuzzleProgram) (said new : List Said) (d : Desk) (note : UnitNote) → HasPut p said d [] None →
    new ≡ said ++ grant note ∷ [] → IsSoFar p new
granted_so p said new d note put one = record { last = holding note put.going.came; goes = goes_granted p said new d note put one }

-- the calls lead to what a fetch brings
goes_brought : (p : PuzzleProgram) (said new : List Said) (d : Desk) (note : UnitNote) (bytes : List ℕ) (next : Books)
    (put : HasPut p said d [] None) →
    new ≡ (said ++ grant note ∷ []) ++ said_of (Fetch note.id) (Body bytes) ∷ [] →
    next ≡ brought p.settings.grain (common_bytes note.length bytes) (unit_fetched note bytes) put.going.came →
    Goes p.settings.grain (start_of p) new next
goes_brought p said new d note bytes next put one is =
    one_more p (said ++ grant note ∷ []) new (holding note put.going.came) next (said_of (Fetch note.id) (Body bytes))
    (goes_granted p said (said ++ grant note ∷ []) d note put refl) one (fetch_moves p.settings.grain put.going.came note
    bytes next is)

-- a unit that is fetched is worked, and the program goes on
pub brought_is : (p : PuzzleProgram) (said new : List Said) (d f : Desk) (note : UnitNote) (bytes : List ℕ) → HasPut p said d [] None →
    new ≡ (said ++ grant note ∷ []) ++ said_of (Fetch note.id) (Body bytes) ∷ [] →
    Brings p.settings.grain (common_bytes note.length bytes) (unit_fetched note bytes) d f → IsGoing p new f [] None
brought_is p said new d f note bytes put one brings = by_unit (unit_fetched note bytes) refl brings
  where
    common : List ℕ
    common = common_bytes note.length bytes

    mid : List Said
    mid = said ++ grant note ∷ []

    more : length said + 1 ≤ length new
    more = omega (arith, long said mid (grant note) refl, longer mid new (said_of (Fetch note.id) (Body bytes)) one)

    by_unit : (o : Option Made) → unit_fetched note bytes ≡ o → Brings p.settings.grain common o d f → IsGoing p new f [] None
    by_unit None is same = record {
      came = put.going.came;
      goes = goes_brought p said new d note bytes (on_desk f.waiting.items [] None put.going.came) put one
          (desk_same [] None put.going.came (ap (λ (y : Desk). y.waiting.items) same ∙ put.none)
          ∙ ap (λ u. brought p.settings.grain common u put.going.came) (sym is));
      tally = subst (λ y. IsTally p put.going.came (length new) y) (sym same)
          (tally_same p put.going.came (length said) (length new) d d put.going.tally (as_it_was d) (omega (arith, more)));
    }
    by_unit (Some x) is comes = record {
      came = put.going.came ++ arrival common x ∷ [];
      goes = goes_brought p said new d note bytes (on_desk f.waiting.items [] None (put.going.came ++ arrival common x ∷ [])) put one
          (received_same p.settings.grain (arrival common x) d f [] None put.going.came comes
          ∙ ap (λ ws. received p.settings.grain (arrival common x) (put_all ws ++ []) None put.going.came) put.none
          ∙ ap (λ u. brought p.settings.grain common u put.going.came) (sym is));
      tally = tally_one p put.going.came (length said) (length new) (arrival common x) d f put.going.tally comes more;
    }

-- Batches.

-- a batch that is begun has its units to put, and then its end
pub begun_is : (p : PuzzleProgram) (said new : List Said) (d : Desk) (common : List ℕ) (jobs : List units.Job) (rest : List Task) →
    IsGoing p said d (Begin common jobs ∷ rest) None → d.waiting.items ≡ [] → new ≡ said ++ said_of (BeginBatch common) Fine ∷ [] →
    IsGoing p new d (put_all (as_units jobs) ++ End ∷ rest) (Some common)
begun_is p said new d common jobs rest is none one = record {
  came = is.came;
  goes = one_more p said new (on_desk d.waiting.items (Begin common jobs ∷ rest) None is.came)
      (on_desk d.waiting.items (put_all (as_units jobs) ++ End ∷ rest) (Some common) is.came) (said_of (BeginBatch common) Fine) is.goes one
      (begun common jobs rest is.came (desk_same (Begin common jobs ∷ rest) None is.came none) refl
      (desk_same (put_all (as_units jobs) ++ End ∷ rest) (Some common) is.came none));
  tally = tally_same p is.came (length said) (length new) d d is.tally (as_it_was d) (long said new (said_of (BeginBatch common) Fine) one);
}

-- a batch that is refused is answered by the rank itself
pub refused_is : (p : PuzzleProgram) (said new : List Said) (d e : Desk) (common : List ℕ) (batch : ℕ) (items : List Item)
    (rest : List Task) →
    IsGoing p said d (Begin common (jobs_from batch 1 items) ∷ rest) None → d.waiting.items ≡ [] →
    new ≡ said ++ said_of (BeginBatch common) Rejected ∷ [] →
    Answers batch common items d e → length items ≤ 2 ^ 24 → IsGoing p new e rest None
refused_is p said new d e common batch items rest is none one answers few =
    let jobs : List units.Job = jobs_from batch 1 items in
    let units : List Made = flat_map (makes p.settings.grain) (over_bytes common jobs) in
    let waits : e.waiting.items ≡ units =
    answers.waiting ∙ ap (λ w. w ++ answers_to common jobs) none ∙ sym (made_over p.settings.grain common jobs) in
    record {
      came = is.came ++ over_bytes common jobs;
      goes = one_more p said new (on_desk d.waiting.items (Begin common jobs ∷ rest) None is.came)
          (on_desk e.waiting.items rest None (is.came ++ over_bytes common jobs)) (said_of (BeginBatch common) Rejected) is.goes one
          (refused common jobs rest is.came (desk_same (Begin common jobs ∷ rest) None is.came none) refl
          (desk_same rest None (is.came ++ over_bytes common jobs) waits));
      tally = tally_over p is.came (length said) (length new) batch common items d e is.tally answers few
          (longer said new (said_of (BeginBatch common) Rejected) one);
    }

-- a batch that is refused is a step of the program
pub refused_so : (p : PuzzleProgram) (said new : List Said) (d : Desk) (common : List ℕ) (jobs : List units.Job) (rest : List Task) →
    IsGoing p said d (Begin common jobs ∷ rest) None → d.waiting.items ≡ [] → new ≡ said ++ said_of (BeginBatch common) Rejected ∷ [] →
    IsSoFar p new
refused_so p said new d common jobs rest is none one = record {
  last = without_batch p.settings.grain common jobs rest is.came;
  goes = one_more p said new (on_desk d.waiting.items (Begin common jobs ∷ rest) None is.came)
      (without_batch p.settings.grain common jobs rest is.came)
      (said_of (BeginBatch common) Rejected) is.goes one
      (refused common jobs rest is.came (desk_same (Begin common jobs ∷ rest) None is.came none) refl refl);
}

-- a batch that ends before it is begun stops the program
pub unbegun_is : (p : PuzzleProgram) (said new : List Said) (d : Desk) (common : List ℕ) (jobs : List units.Job) (rest : List Task)
    (end : told_end.End) →
    IsGoing p said d (Begin common jobs ∷ rest) None → d.waiting.items ≡ [] → new ≡ said ++ said_of (BeginBatch common) (Ended end) ∷ [] →
    IsStopped p new d None
unbegun_is p said new d common jobs rest end is none one = record {
  left = put_all (as_units jobs) ++ rest;
  came = is.came;
  goes = one_more p said new (on_desk d.waiting.items (Begin common jobs ∷ rest) None is.came)
      (shut (put_all (as_units jobs) ++ rest) None is.came)
      (said_of (BeginBatch common) (Ended end)) is.goes one
      (stopped_before common jobs rest is.came end (desk_same (Begin common jobs ∷ rest) None is.came none) refl refl);
  tally = tally_same p is.came (length said) (length new) d d is.tally (as_it_was d)
      (long said new (said_of (BeginBatch common) (Ended end)) one);
}

closed_is : (p : PuzzleProgram) (said new : List Said) (d : Desk) (common : List ℕ) (rest : List Task) →
    HasPut p said d (End ∷ rest) (Some common) →
    new ≡ said ++ said_of EndBatch Fine ∷ [] → HasPut p new d rest None
closed_is p said new d common rest put one = record {
  going = record {
    came = put.going.came;
    goes = one_more p said new (on_desk d.waiting.items (End ∷ rest) (Some common) put.going.came)
        (on_desk d.waiting.items rest None put.going.came)
        (said_of EndBatch Fine) put.going.goes one
        (closed common rest put.going.came (desk_same (End ∷ rest) (Some common) put.going.came put.none) refl
        (desk_same rest None put.going.came put.none));
    tally = tally_same p put.going.came (length said) (length new) d d put.going.tally (as_it_was d)
        (long said new (said_of EndBatch Fine) one);
  };
  none = put.none;
}

closed_behind_is : (p : PuzzleProgram) (said new : List Said) (d : Desk) (common : List ℕ) → IsStopped p said d (Some common) →
    new ≡ said ++ said_of EndBatch Fine ∷ [] → IsStopped p new d None
closed_behind_is p said new d common is one = record {
  left = is.left;
  came = is.came;
  goes = one_more p said new (shut is.left (Some common) is.came) (shut is.left None is.came) (said_of EndBatch Fine) is.goes one
      (closed_behind common is.left is.came refl refl refl);
  tally = tally_same p is.came (length said) (length new) d d is.tally (as_it_was d) (long said new (said_of EndBatch Fine) one);
}

-- the batch is ended, whether all was done or an end was told
pub passes_closed : (p : PuzzleProgram) (said new : List Said) (d : Desk) (common : List ℕ) (rest : List Task) (all : Bool) →
    Passes p said d (End ∷ rest) (Some common) all → new ≡ said ++ said_of EndBatch Fine ∷ [] → Passes p new d rest None all
passes_closed p said new d common rest true put one = closed_is p said new d common rest put one
passes_closed p said new d common rest false is one = closed_behind_is p said new d common is one

-- The calls so far.

-- a rank that goes on has run its program so far
pub going_so : (p : PuzzleProgram) (said new : List Said) (d : Desk) (rest : List Task) (on : Option (List ℕ)) → IsGoing p said d rest on →
    new ≡ said → IsSoFar p new
going_so p said new d rest on is same = record {
  last = on_desk d.waiting.items rest on is.came;
  goes = subst (λ t. Goes p.settings.grain (start_of p) t (on_desk d.waiting.items rest on is.came)) (sym same) is.goes;
}

-- a rank that stopped has run its program so far
pub stopped_so : (p : PuzzleProgram) (said : List Said) (d : Desk) (on : Option (List ℕ)) → IsStopped p said d on → IsSoFar p said
stopped_so p said d on is = record { last = shut is.left on is.came; goes = is.goes }

-- a rank that goes on or stopped has run its program so far
pub passes_so : (p : PuzzleProgram) (said : List Said) (d : Desk) (rest : List Task) (on : Option (List ℕ)) (all : Bool) →
    Passes p said d rest on all → IsSoFar p said
passes_so p said d rest on true put = going_so p said said d rest on put.going refl
passes_so p said d rest on false is = stopped_so p said d on is

-- a unit that no server takes, when memory for its work is short
pub rejected_so : (p : PuzzleProgram) (said new : List Said) (d e : Desk) (x : Made) (rest : List Task) (on : Option (List ℕ)) →
    IsGoing p said d rest on →
    Popped x d e → IsUnit x → new ≡ said ++ said_of (put_of x) Rejected ∷ [] → IsSoFar p new
rejected_so p said new d e x rest on is popped fits one = record {
  last = received p.settings.grain (arrival (bytes_on on) x) (put_all e.waiting.items ++ rest) on is.came;
  goes = one_more p said new (on_desk d.waiting.items rest on is.came)
      (received p.settings.grain (arrival (bytes_on on) x) (put_all e.waiting.items ++ rest) on is.came)
      (said_of (put_of x) Rejected) is.goes one
      (rejected x (put_all e.waiting.items ++ rest) on is.came fits (desk_same rest on is.came popped.first) refl refl);
}

-- a unit that was fetched
pub brought_so : (p : PuzzleProgram) (said new : List Said) (d : Desk) (note : UnitNote) (bytes : List ℕ) → HasPut p said d [] None →
    new ≡ (said ++ grant note ∷ []) ++ said_of (Fetch note.id) (Body bytes) ∷ [] → IsSoFar p new
brought_so p said new d note bytes put one = record {
  last = brought p.settings.grain (common_bytes note.length bytes) (unit_fetched note bytes) put.going.came;
  goes = goes_brought p said new d note bytes
      (brought p.settings.grain (common_bytes note.length bytes) (unit_fetched note bytes) put.going.came) put one refl;
}

-- Counts stay small.

small : (m n : ℕ) → m ≤ 2 ^ 64 * (n + 1) → n < 2 ^ 48 → m < 2 ^ 113
small m n few short = omega arith

wide : (m : ℕ) → m < 2 ^ 113 → m < 2 ^ 127
wide m few = omega arith

-- a desk has room for what fewer than 2^48 calls bring
pub room_is : (p : PuzzleProgram) (said : List Said) (d e : Desk) (rest : List Task) (on : Option (List ℕ)) → IsGoing p said d rest on →
    Same d e → length said < 2 ^ 48 → HasRoom e
room_is p said d e rest on is same short =
    let t : IsTally p is.came (length said) e = tally_same p is.came (length said) (length said) d e is.tally same (omega arith) in record {
      boards = wide e.boards (small e.boards (length said) t.few_boards short);
      found = wide e.found (small e.found (length said) t.few_found short);
      answered = wide e.answered (small e.answered (length said) t.few_answered short);
    }

-- the counts of an outcome are small
counts_small : (made : List ℕ) (m n i a : ℕ) → made ≡ m ∷ n ∷ i ∷ a ∷ [] → m < 2 ^ 113 → n < 2 ^ 113 → i ≤ 2 ^ 64 → a < 2 ^ 113 → (k : ℕ) →
    slice_index made k < 2 ^ 113
counts_small made m n i a e few_m few_n few_i few_a k = subst (λ (xs : List ℕ). slice_index xs k < 2 ^ 113) (sym e) (at k)
  where
    at : (k : ℕ) → slice_index (m ∷ n ∷ i ∷ a ∷ []) k < 2 ^ 113
    at zero = few_m
    at (suc zero) = few_n
    at (suc (suc zero)) = omega (arith, few_i)
    at (suc (suc (suc zero))) = few_a
    at (suc (suc (suc (suc k)))) = lit< tt

-- the calls at the end
pub follows_is : (p : PuzzleProgram) (said : List Said) (d : Desk) (outcome : Outcome) → IsStopped p said d None → length said < 2 ^ 48 →
    outcome.solutions.items ≡ d.kept.items → outcome.overs.items ≡ d.overs.items → outcome.answers.items ≡ d.answers.items →
    outcome.made ≡ d.boards ∷ d.found ∷ d.jobs ∷ d.answered ∷ [] → Follows p said outcome
follows_is p said d outcome is short solutions overs answers made =
    let all : List Made = all_made p is.came in record {
      left = is.left;
      came = is.came;
      goes = is.goes;
      overs = rw overs is.tally.overs;
      solutions = solutions ∙ is.tally.kept;
      answers = answers ∙ is.tally.answers;
      made = made
          ∙ ap (λ m. m ∷ d.found ∷ d.jobs ∷ d.answered ∷ []) is.tally.boards
          ∙ ap (λ n. count_by (is_kind 0) all ∷ n ∷ d.jobs ∷ d.answered ∷ []) is.tally.found
          ∙ ap (λ i. count_by (is_kind 0) all ∷ count_by (is_kind 1) all ∷ i ∷ d.answered ∷ []) is.tally.jobs
          ∙ ap (λ a. count_by (is_kind 0) all ∷ count_by (is_kind 1) all ∷ count_by (is_kind 2) all ∷ a ∷ []) is.tally.answered;
      few = counts_small outcome.made d.boards d.found d.jobs d.answered made (small d.boards (length said) is.tally.few_boards short)
          (small d.found (length said) is.tally.few_found short) is.tally.few_jobs
          (small d.answered (length said) is.tally.few_answered short);
    }

-- The start.

fresh_is : (p : PuzzleProgram) (boards jobs : ℕ) (d : Desk) → d.waiting.items ≡ [] → IsTally p [] 0 d → IsGoing p [] d (tasks_of p) None
fresh_is p boards jobs d none tally = record { came = []; goes = sym (desk_same (tasks_of p) None [] none); tally = tally }

-- a rank without jobs begins with an empty desk
pub begins_alone : (p : PuzzleProgram) (d : Desk) → p.jobs ≡ None → Fresh 0 0 d → IsGoing p [] d (tasks_of p) None
begins_alone p d none fresh =
    let first : all_units (tasks_of p) ≡ [] = ap (λ js. all_units (tasks p.settings.budget js)) none in
    fresh_is p 0 0 d fresh.waiting (tally_fresh p 0 0 d fresh (sym (ap (count_by (is_kind 0)) first))
    (sym (ap (count_by (is_kind 1)) first))
    (sym (ap (count_by (is_kind 2)) first)) (sym (ap (count_by (is_kind 3)) first)) (omega arith) (omega arith))

-- a rank with jobs begins with the units that they make
pub begins_with : (p : PuzzleProgram) (d : Desk) (jobs : List Job) (boards items : ℕ) → p.jobs ≡ Some jobs →
    boards ≡ length (puzzles jobs) → items ≡ all_items jobs →
    boards ≤ 2 ^ 24 → items ≤ 2 ^ 48 → Fresh boards items d → IsGoing p [] d (tasks_of p) None
begins_with p d jobs boards items some many all few_boards few_items fresh =
    let first : all_units (tasks_of p) ≡ all_units (tasks_from p.settings.budget 1 1 jobs) = ap
    (λ js. all_units (tasks p.settings.budget js)) some in
    let are : Counted p.settings.budget 1 1 jobs = counted_tasks p.settings.budget 1 1 jobs in
    fresh_is p boards items d fresh.waiting (tally_fresh p boards items d fresh
    (many ∙ sym (ap (count_by (is_kind 0)) first ∙ are.boards)) (sym (ap (count_by (is_kind 1)) first ∙ are.found))
    (all ∙ sym (ap (count_by (is_kind 2)) first ∙ are.jobs)) (sym (ap (count_by (is_kind 3)) first ∙ are.answered))
    (omega (arith, few_boards)) (omega (arith, few_items)))

-- an answer by its reply
pub replied : (said new : List Said) (call : Call) (reply is : Reply) → new ≡ said ++ said_of call (answer_of reply) ∷ [] → reply ≡ is →
    new ≡ said ++ said_of call (answer_of is) ∷ []
replied said new call reply is e same = e ∙ ap (λ r. said ++ said_of call (answer_of r) ∷ []) same

-- a list with one element more is no shorter than before
pub grows : {X : Type 0} (n : ℕ) (xs new : List X) (x : X) → n ≤ length xs → new ≡ xs ++ x ∷ [] → n ≤ length new
grows n xs new x h e = omega (arith, h, length_push xs x, ap length e)

-- where the test passes, the first case is so
pub all_is : (A B : Type 0) (b : Bool) → b ≡ true → MatchBool b A B → A
all_is A B b holds fact = subst (λ t. MatchBool t A B) holds fact

-- where the test fails, the second case is so
pub not_all_is : (A B : Type 0) (b : Bool) → b ≡ false → MatchBool b A B → B
not_all_is A B b fails fact = subst (λ t. MatchBool t A B) fails fact
