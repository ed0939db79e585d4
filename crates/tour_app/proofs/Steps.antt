-- One more call of a rank, and what it leaves.
use Rattle.std.proofs.Common.{◌≡◌, ◌<◌, ◌≤◌, ℕ, Bool, true, false, List, [], ◌∷◌, ◌++◌, Option, Some, None, refl, sym, ap, ◌∙◌, subst}
use Rattle.std.proofs.Common.{append_assoc, append-nil, cond, MatchBool}
use Rattle.std.specs.Prelude.{flat_map, nat_lt}
use Rattle.std.proofs.lemmas.Bool.{lt-ltb, le-ltb}
use Rattle.adlb_rank.specs.Calls.{answer_of}
use Rattle.adlb_rank.specs.declared.replies.Reply.{Reply}
use Rattle.adlb_unit.specs.declared.notes.End as told_end
use Rattle.adlb_unit.specs.declared.notes.UnitNote.{UnitNote}
use Rattle.bag_ledger.specs.declared.entries.Answer.TheVariants.{Fine, Rejected, Ended, Body}
use Rattle.bag_ledger.specs.declared.entries.Call.{Call}
use Rattle.bag_ledger.specs.declared.entries.Call.TheVariants.{Reserve, Fetch, BeginBatch, EndBatch}
use Rattle.bag_ledger.specs.declared.entries.Said.{Said}
use Rattle.work_law.specs.Books.{Books, Goes, Moves, Task, Put, Begin, End, accepted, rejected, stopped, begun, refused, stopped_before}
use Rattle.work_law.specs.Books.{closed, closed_behind, granted, told, fetched, bytes_on, brought, going, holding, over_bytes, put_all}
use Rattle.work_law.specs.Books.{received, said_of, shut, without_batch}
use Rattle.work_law.specs.Work.{Arrival, arrival, common_bytes, fetched_unit, made_by, put_of}
use Rattle.tour_app.specs.Bodies.{common_part}
use Rattle.tour_app.specs.Calls.{grant}
use Rattle.tour_app.specs.Starts.{StartModel}
use Rattle.tour_app.specs.Desk.{Brings, Receives, TakesOver}
use Rattle.tour_app.specs.Follows.{Follows, IsSoFar, begins}
use Rattle.tour_app.specs.Works.{fits, found, found_in, known, left_over, pairs, tasks, tours}
use Rattle.tour_app.specs.Working.{HasPut, IsGoing, IsStopped, Passes}
use Rattle.tour_app.specs.declared.desk.Desk.{Desk}
use Rattle.tour_app.specs.declared.outcomes.TourOutcome.{TourOutcome}
use Rattle.tour_app.specs.declared.program.TourProgram.{TourProgram}
use Rattle.tour_app.specs.declared.units.TourUnit.{TourUnit}
use Rattle.tour_app.proofs.Calling.{one_more}
use Rattle.tour_app.proofs.Lists.{flat-append, found_more, left_waiting, put_more}

-- the books of what waits and the rest
abbrev on_desk : List TourUnit → List (Task TourUnit) → Option (List ℕ) → List (Arrival TourUnit) → Books TourUnit
on_desk waiting rest on came = going (put_all waiting ++ rest) on came

desk_same : {xs ys : List TourUnit} (rest : List (Task TourUnit)) (on : Option (List ℕ)) (came : List (Arrival TourUnit)) → xs ≡ ys →
    on_desk xs rest on came ≡ on_desk ys rest on came
desk_same rest on came e = ap (λ w. on_desk w rest on came) e

-- the first unit that waited was taken off the desk
pub record Popped (x : TourUnit) (d e : Desk) : Type 0 where
  pub first : d.waiting.items ≡ x ∷ e.waiting.items
  pub same : e.found ≡ d.found

stays : (p : TourProgram) (d e : Desk) (came : List (Arrival TourUnit)) → e.found ≡ d.found → d.found.items ≡ known p.start ++ found came →
    e.found.items ≡ known p.start ++ found came
stays p d e came same is = ap (λ f. f.items) same ∙ is

-- Puts.

-- a put that is accepted is a step of the program
pub accepted_is : (p : TourProgram) (said new : List Said) (d e : Desk) (x : TourUnit) (rest : List (Task TourUnit))
    (on : Option (List ℕ)) →
    IsGoing p said d rest on → Popped x d e → fits x ≡ true → new ≡ said ++ said_of (put_of tours x) Fine ∷ [] → IsGoing p new e rest on
accepted_is p said new d e x rest on is popped form one = record {
  came = is.came;
  goes = one_more p said new (on_desk d.waiting.items rest on is.came) (on_desk e.waiting.items rest on is.came)
      (said_of (put_of tours x) Fine) is.goes one
      (accepted x (put_all e.waiting.items ++ rest) on is.came form (desk_same rest on is.came popped.first) refl refl);
  stay = stays p d e is.came popped.same is.stay;
  bare = is.bare;
}

-- a unit came and its work waits
received_same : (a : Arrival TourUnit) (e f : Desk) (rest : List (Task TourUnit)) (on : Option (List ℕ)) (came : List (Arrival TourUnit)) →
    Receives a e f →
    on_desk f.waiting.items rest on (came ++ a ∷ []) ≡ received tours a (put_all e.waiting.items ++ rest) on came
received_same a e f rest on came more =
    desk_same rest on (came ++ a ∷ []) more.waiting
    ∙ ap (λ ts. going ts on (came ++ a ∷ [])) (put_more (made_by tours a) e.waiting.items rest)

-- and if it is a tour it stays
received_stays : (p : TourProgram) (a : Arrival TourUnit) (e f : Desk) (came : List (Arrival TourUnit)) → Receives a e f →
    e.found.items ≡ known p.start ++ found came → f.found.items ≡ known p.start ++ found (came ++ a ∷ [])
received_stays p a e f came more is =
    more.found_are ∙ ap (λ l. l ++ found_in a.unit) is ∙ append_assoc (known p.start) (found came) (found_in a.unit)
    ∙ ap (λ l. known p.start ++ l) (sym (found_more came a))

-- a put that is rejected is a step, and the rank works the unit itself
pub rejected_is : (p : TourProgram) (said new : List Said) (d e f : Desk) (x : TourUnit) (common : List ℕ) (rest : List (Task TourUnit))
    (on : Option (List ℕ)) →
    IsGoing p said d rest on → bytes_on on ≡ common → Popped x d e → new ≡ said ++ said_of (put_of tours x) Rejected ∷ [] →
    Receives (arrival tours common x) e f → IsGoing p new f rest on
rejected_is p said new d e f x common rest on is bytes popped one more =
    let a : Arrival TourUnit = arrival tours (bytes_on on) x in
    let own : Receives a e f = subst (λ c. Receives (arrival tours c x) e f) (sym bytes) more in
    record {
      came = is.came ++ a ∷ [];
      goes = one_more p said new (on_desk d.waiting.items rest on is.came) (on_desk f.waiting.items rest on (is.came ++ a ∷ []))
          (said_of (put_of tours x) Rejected) is.goes one
          (rejected x (put_all e.waiting.items ++ rest) on is.came (desk_same rest on is.came popped.first) refl
          (received_same a e f rest on is.came own));
      stay = received_stays p a e f is.came own (stays p d e is.came popped.same is.stay);
      bare = is.bare;
    }

-- the unit was put back
pub record PutBack (x : TourUnit) (e f : Desk) : Type 0 where
  pub first : f.waiting.items ≡ x ∷ e.waiting.items
  pub same : f.found ≡ e.found

-- a put that ends stops the program
pub stopped_is : (p : TourProgram) (said new : List Said) (d e f : Desk) (x : TourUnit) (end : told_end.End) (rest : List (Task TourUnit))
    (on : Option (List ℕ)) →
    IsGoing p said d rest on → Popped x d e → PutBack x e f → new ≡ said ++ said_of (put_of tours x) (Ended end) ∷ [] → IsStopped p new f on
stopped_is p said new d e f x end rest on is popped back one = record {
  rest = rest;
  came = is.came;
  goes = one_more p said new (on_desk d.waiting.items rest on is.came) (shut (put_all f.waiting.items ++ rest) on is.came)
      (said_of (put_of tours x) (Ended end)) is.goes one
      (stopped x (put_all e.waiting.items ++ rest) on is.came end (desk_same rest on is.came popped.first) refl
      (ap (λ w. shut (put_all w ++ rest) on is.came) back.first));
  stay = stays p e f is.came back.same (stays p d e is.came popped.same is.stay);
  bare = is.bare;
}

-- when memory to put it back is short
pub stopped_so : (p : TourProgram) (said new : List Said) (d e : Desk) (x : TourUnit) (end : told_end.End) (rest : List (Task TourUnit))
    (on : Option (List ℕ)) →
    IsGoing p said d rest on → Popped x d e → new ≡ said ++ said_of (put_of tours x) (Ended end) ∷ [] → IsSoFar p new
stopped_so p said new d e x end rest on is popped one = record {
  last = shut (Put x ∷ (put_all e.waiting.items ++ rest)) on is.came;
  goes = one_more p said new (on_desk d.waiting.items rest on is.came) (shut (Put x ∷ (put_all e.waiting.items ++ rest)) on is.came)
      (said_of (put_of tours x) (Ended end)) is.goes one
      (stopped x (put_all e.waiting.items ++ rest) on is.came end (desk_same rest on is.came popped.first) refl refl);
}

-- a unit that no server takes, when memory for its work is short
pub rejected_so : (p : TourProgram) (said new : List Said) (d e : Desk) (x : TourUnit) (rest : List (Task TourUnit))
    (on : Option (List ℕ)) →
    IsGoing p said d rest on → Popped x d e → new ≡ said ++ said_of (put_of tours x) Rejected ∷ [] → IsSoFar p new
rejected_so p said new d e x rest on is popped one = record {
  last = received tours (arrival tours (bytes_on on) x) (put_all e.waiting.items ++ rest) on is.came;
  goes = one_more p said new (on_desk d.waiting.items rest on is.came)
      (received tours (arrival tours (bytes_on on) x) (put_all e.waiting.items ++ rest) on is.came)
      (said_of (put_of tours x) Rejected) is.goes one
      (rejected x (put_all e.waiting.items ++ rest) on is.came (desk_same rest on is.came popped.first) refl refl);
}

-- Reservations and fetches.

-- a reserve that ends stops the program
pub told_is : (p : TourProgram) (said new : List Said) (d : Desk) (end : told_end.End) → HasPut p said d [] None →
    new ≡ said ++ said_of (Reserve None) (Ended end) ∷ [] → IsStopped p new d None
told_is p said new d end put one = record {
  rest = [];
  came = put.going.came;
  goes = one_more p said new (on_desk d.waiting.items [] None put.going.came) (shut (put_all d.waiting.items ++ []) None put.going.came)
      (said_of (Reserve None) (Ended end)) put.going.goes one
      (told put.going.came end (desk_same [] None put.going.came put.none) refl
      (ap (λ w. shut (put_all w ++ []) None put.going.came) put.none));
  stay = put.going.stay;
  bare = refl;
}

goes_granted : (p : TourProgram) (said new : List Said) (d : Desk) (note : UnitNote) (put : HasPut p said d [] None) →
    new ≡ said ++ grant note ∷ [] → Goes tours (begins p) new (holding note put.going.came)
goes_granted p said new d note put one =
    one_more p said new (on_desk d.waiting.items [] None put.going.came) (holding note put.going.came) (grant note) put.going.goes one
    (granted put.going.came note (desk_same [] None put.going.came put.none) refl refl)

-- a reserve that is granted is a step of the program
pub granted_so : (p : TourProgram) (said new : List Said) (d : Desk) (note : UnitNote) → HasPut p said d [] None →
    new ≡ said ++ grant note ∷ [] → IsSoFar p new
granted_so p said new d note put one = record { last = holding note put.going.came; goes = goes_granted p said new d note put one }

-- the calls lead to what a fetch brings
goes_brought : (p : TourProgram) (said new : List Said) (d : Desk) (note : UnitNote) (bytes : List ℕ) (next : Books TourUnit)
    (put : HasPut p said d [] None) →
    new ≡ (said ++ grant note ∷ []) ++ said_of (Fetch note.id) (Body bytes) ∷ [] →
    next ≡ brought tours (common_bytes note.length bytes) (fetched_unit tours note bytes) put.going.came → Goes tours (begins p) new next
goes_brought p said new d note bytes next put one is =
    one_more p (said ++ grant note ∷ []) new (holding note put.going.came) next (said_of (Fetch note.id) (Body bytes))
    (goes_granted p said (said ++ grant note ∷ []) d note put refl) one (fetched put.going.came note bytes refl refl is)

-- a unit that is fetched is a step of the program
pub brought_so : (p : TourProgram) (said new : List Said) (d : Desk) (note : UnitNote) (bytes : List ℕ) → HasPut p said d [] None →
    new ≡ (said ++ grant note ∷ []) ++ said_of (Fetch note.id) (Body bytes) ∷ [] → IsSoFar p new
brought_so p said new d note bytes put one = record {
  last = brought tours (common_bytes note.length bytes) (fetched_unit tours note bytes) put.going.came;
  goes = goes_brought p said new d note bytes
      (brought tours (common_bytes note.length bytes) (fetched_unit tours note bytes) put.going.came) put one refl;
}

-- a unit that is fetched is worked, and the program goes on
pub brought_is : (p : TourProgram) (said new : List Said) (d f : Desk) (note : UnitNote) (bytes : List ℕ) → HasPut p said d [] None →
    new ≡ (said ++ grant note ∷ []) ++ said_of (Fetch note.id) (Body bytes) ∷ [] →
    Brings (common_bytes note.length bytes) (fetched_unit tours note bytes) d f → IsGoing p new f [] None
brought_is p said new d f note bytes put one brings = by_unit (fetched_unit tours note bytes) refl brings
  where
    common : List ℕ
    common = common_bytes note.length bytes

    by_unit : (o : Option TourUnit) → fetched_unit tours note bytes ≡ o → Brings common o d f → IsGoing p new f [] None
    by_unit None is same = record {
      came = put.going.came;
      goes = goes_brought p said new d note bytes (on_desk f.waiting.items [] None put.going.came) put one
          (desk_same [] None put.going.came (ap (λ (y : Desk). y.waiting.items) same ∙ put.none)
          ∙ ap (λ u. brought tours common u put.going.came) (sym is));
      stay = ap (λ (y : Desk). y.found.items) same ∙ put.going.stay;
      bare = refl;
    }
    by_unit (Some x) is comes = record {
      came = put.going.came ++ arrival tours common x ∷ [];
      goes = goes_brought p said new d note bytes (on_desk f.waiting.items [] None (put.going.came ++ arrival tours common x ∷ [])) put one
          (received_same (arrival tours common x) d f [] None put.going.came comes
          ∙ ap (λ ws. received tours (arrival tours common x) (put_all ws ++ []) None put.going.came) put.none
          ∙ ap (λ u. brought tours common u put.going.came) (sym is));
      stay = received_stays p (arrival tours common x) d f put.going.came comes put.going.stay;
      bare = refl;
    }

-- The batch.

-- the units of the batch wait
pub record Filled (units : List TourUnit) (d e : Desk) : Type 0 where
  pub waiting : e.waiting.items ≡ units
  pub same : e.found ≡ d.found

-- a batch that is begun has its units to put, and then its end
pub begun_is : (p : TourProgram) (said new : List Said) (d e : Desk) (common : List ℕ) (units : List TourUnit) →
    IsGoing p said d (Begin common units ∷ []) None → d.waiting.items ≡ [] → Filled units d e →
    new ≡ said ++ said_of (BeginBatch common) Fine ∷ [] → IsGoing p new e (End ∷ []) (Some common)
begun_is p said new d e common units is none filled one = record {
  came = is.came;
  goes = one_more p said new (on_desk d.waiting.items (Begin common units ∷ []) None is.came)
      (on_desk e.waiting.items (End ∷ []) (Some common) is.came) (said_of (BeginBatch common) Fine) is.goes one
      (begun common units [] is.came (desk_same (Begin common units ∷ []) None is.came none) refl
      (desk_same (End ∷ []) (Some common) is.came filled.waiting));
  stay = stays p d e is.came filled.same is.stay;
  bare = refl;
}

over_stays : (p : TourProgram) (d e : Desk) (common : List ℕ) (units : List TourUnit) (came : List (Arrival TourUnit)) →
    TakesOver common units d e → d.found.items ≡ known p.start ++ found came →
    e.found.items ≡ known p.start ++ found (came ++ over_bytes tours common units)
over_stays p d e common units came over is =
    let more : List (Arrival TourUnit) = over_bytes tours common units in
    over.found_are ∙ ap (λ l. l ++ found more) is ∙ append_assoc (known p.start) (found came) (found more)
    ∙ ap (λ l. known p.start ++ l) (sym (flat-append (λ (a : Arrival TourUnit). found_in a.unit) came more))

-- a batch that is refused is worked by the rank itself
pub refused_is : (p : TourProgram) (said new : List Said) (d e : Desk) (common : List ℕ) (units : List TourUnit) →
    IsGoing p said d (Begin common units ∷ []) None → d.waiting.items ≡ [] → new ≡ said ++ said_of (BeginBatch common) Rejected ∷ [] →
    TakesOver common units d e → IsGoing p new e [] None
refused_is p said new d e common units is none one over =
    let made : List TourUnit = flat_map (made_by tours) (over_bytes tours common units) in
    let waits : e.waiting.items ≡ made = over.waiting ∙ ap (λ w. w ++ made) none in
    record {
      came = is.came ++ over_bytes tours common units;
      goes = one_more p said new (on_desk d.waiting.items (Begin common units ∷ []) None is.came)
          (on_desk e.waiting.items [] None (is.came ++ over_bytes tours common units)) (said_of (BeginBatch common) Rejected) is.goes one
          (refused common units [] is.came (desk_same (Begin common units ∷ []) None is.came none) refl
          (desk_same [] None (is.came ++ over_bytes tours common units) waits));
      stay = over_stays p d e common units is.came over is.stay;
      bare = refl;
    }

-- a batch that is refused is a step of the program
pub refused_so : (p : TourProgram) (said new : List Said) (d : Desk) (common : List ℕ) (units : List TourUnit) →
    IsGoing p said d (Begin common units ∷ []) None → d.waiting.items ≡ [] → new ≡ said ++ said_of (BeginBatch common) Rejected ∷ [] →
    IsSoFar p new
refused_so p said new d common units is none one = record {
  last = without_batch tours common units [] is.came;
  goes = one_more p said new (on_desk d.waiting.items (Begin common units ∷ []) None is.came) (without_batch tours common units [] is.came)
      (said_of (BeginBatch common) Rejected) is.goes one
      (refused common units [] is.came (desk_same (Begin common units ∷ []) None is.came none) refl refl);
}

-- a batch that ends before it is begun stops the program
pub unbegun_is : (p : TourProgram) (said new : List Said) (d e : Desk) (common : List ℕ) (units : List TourUnit) (end : told_end.End) →
    IsGoing p said d (Begin common units ∷ []) None → d.waiting.items ≡ [] → Filled units d e →
    new ≡ said ++ said_of (BeginBatch common) (Ended end) ∷ [] → IsStopped p new e None
unbegun_is p said new d e common units end is none filled one = record {
  rest = [];
  came = is.came;
  goes = one_more p said new (on_desk d.waiting.items (Begin common units ∷ []) None is.came)
      (shut (put_all e.waiting.items ++ []) None is.came) (said_of (BeginBatch common) (Ended end)) is.goes one
      (stopped_before common units [] is.came end (desk_same (Begin common units ∷ []) None is.came none) refl
      (ap (λ w. shut (put_all w ++ []) None is.came) filled.waiting));
  stay = stays p d e is.came filled.same is.stay;
  bare = refl;
}

closed_is : (p : TourProgram) (said new : List Said) (d : Desk) (common : List ℕ) (rest : List (Task TourUnit)) → left_over rest ≡ [] →
    HasPut p said d (End ∷ rest) (Some common) → new ≡ said ++ said_of EndBatch Fine ∷ [] → HasPut p new d rest None
closed_is p said new d common rest bare put one = record {
  going = record {
    came = put.going.came;
    goes = one_more p said new (on_desk d.waiting.items (End ∷ rest) (Some common) put.going.came)
        (on_desk d.waiting.items rest None put.going.came) (said_of EndBatch Fine) put.going.goes one
        (closed common rest put.going.came (desk_same (End ∷ rest) (Some common) put.going.came put.none) refl
        (desk_same rest None put.going.came put.none));
    stay = put.going.stay;
    bare = bare;
  };
  none = put.none;
}

closed_behind_is : (p : TourProgram) (said new : List Said) (d : Desk) (common : List ℕ) → IsStopped p said d (Some common) →
    new ≡ said ++ said_of EndBatch Fine ∷ [] → IsStopped p new d None
closed_behind_is p said new d common is one = record {
  rest = is.rest;
  came = is.came;
  goes = one_more p said new (shut (put_all d.waiting.items ++ is.rest) (Some common) is.came)
      (shut (put_all d.waiting.items ++ is.rest) None is.came) (said_of EndBatch Fine) is.goes one
      (closed_behind common (put_all d.waiting.items ++ is.rest) is.came refl refl refl);
  stay = is.stay;
  bare = is.bare;
}

-- the batch is ended, whether all was done or an end was told
pub passes_closed : (p : TourProgram) (said new : List Said) (d : Desk) (common : List ℕ) (rest : List (Task TourUnit)) (all : Bool) →
    left_over rest ≡ [] → Passes p said d (End ∷ rest) (Some common) all → new ≡ said ++ said_of EndBatch Fine ∷ [] →
    Passes p new d rest None all
passes_closed p said new d common rest true bare put one = closed_is p said new d common rest bare put one
passes_closed p said new d common rest false bare is one = closed_behind_is p said new d common is one

-- The calls so far.

-- a rank that goes on has run its program so far
pub going_so : (p : TourProgram) (said new : List Said) (d : Desk) (rest : List (Task TourUnit)) (on : Option (List ℕ)) →
    IsGoing p said d rest on → new ≡ said → IsSoFar p new
going_so p said new d rest on is same = record {
  last = on_desk d.waiting.items rest on is.came;
  goes = subst (λ t. Goes tours (begins p) t (on_desk d.waiting.items rest on is.came)) (sym same) is.goes;
}

-- a rank that stopped has run its program so far
pub ended_so : (p : TourProgram) (said : List Said) (d : Desk) (on : Option (List ℕ)) → IsStopped p said d on → IsSoFar p said
ended_so p said d on is = record { last = shut (put_all d.waiting.items ++ is.rest) on is.came; goes = is.goes }

-- a rank that goes on or stopped has run its program so far
pub passes_so : (p : TourProgram) (said : List Said) (d : Desk) (rest : List (Task TourUnit)) (on : Option (List ℕ)) (all : Bool) →
    Passes p said d rest on all → IsSoFar p said
passes_so p said d rest on true put = going_so p said said d rest on put.going refl
passes_so p said d rest on false is = ended_so p said d on is

-- the calls at the end
pub follows_is : (p : TourProgram) (said : List Said) (d : Desk) (outcome : TourOutcome) → IsStopped p said d None →
    outcome.found.items ≡ d.found.items ++ flat_map found_in d.waiting.items → Follows p said outcome
follows_is p said d outcome is e = record {
  left = put_all d.waiting.items ++ is.rest;
  came = is.came;
  goes = is.goes;
  found_are = e ∙ ap (λ l. l ++ flat_map found_in d.waiting.items) is.stay
      ∙ ap (λ l. (known p.start ++ found is.came) ++ l) (sym (left_waiting d.waiting.items is.rest is.bare));
}

-- The start.

bare_if : (few : Bool) (common : List ℕ) (units : List TourUnit) → left_over (cond few [] (Begin common units ∷ [])) ≡ []
bare_if true common units = refl
bare_if false common units = refl

bare_tasks : (start : Option StartModel) → left_over (tasks start) ≡ []
bare_tasks None = refl
bare_tasks (Some s) = bare_if (nat_lt s.cities.count 4) (common_part s) (pairs s.cities.count)

-- a rank begins with the tasks of its start
pub starts : (p : TourProgram) (d : Desk) → d.waiting.items ≡ [] → d.found.items ≡ known p.start → IsGoing p [] d (tasks p.start) None
starts p d none kept = record {
  came = [];
  goes = sym (desk_same (tasks p.start) None [] none);
  stay = kept ∙ sym (append-nil (known p.start));
  bare = bare_tasks p.start;
}

-- nothing was said
pub empty_so : (p : TourProgram) (said : List Said) → said ≡ [] → IsSoFar p said
empty_so p said none = record { last = begins p; goes = subst (λ t. Goes tours (begins p) t (begins p)) (sym none) refl }

-- what a rank with cities is to do
few_tasks : (s : StartModel) → s.cities.count < 4 → tasks (Some s) ≡ []
few_tasks s few =
    ap (λ b. cond b [] (Begin (common_part s) (pairs s.cities.count) ∷ [])) (lt-ltb s.cities.count 4 few)

many_tasks : (s : StartModel) → 4 ≤ s.cities.count → tasks (Some s) ≡ Begin (common_part s) (pairs s.cities.count) ∷ []
many_tasks s many =
    ap (λ b. cond b [] (Begin (common_part s) (pairs s.cities.count) ∷ [])) (le-ltb s.cities.count 4 many)

-- a rank without a start has nothing to put
pub none_put : (p : TourProgram) (said : List Said) (d : Desk) → p.start ≡ None → d.waiting.items ≡ [] →
    IsGoing p said d (tasks p.start) None → HasPut p said d [] None
none_put p said d none empty is = record {
  going = subst (λ ts. IsGoing p said d ts None) (ap tasks none) is;
  none = empty;
}

-- a rank with fewer than four cities has nothing to put
pub few_put : (p : TourProgram) (said : List Said) (d : Desk) (s : StartModel) → p.start ≡ Some s → s.cities.count < 4 →
    d.waiting.items ≡ [] → IsGoing p said d (tasks p.start) None → HasPut p said d [] None
few_put p said d s some few empty is = record {
  going = subst (λ ts. IsGoing p said d ts None) (ap tasks some ∙ few_tasks s few) is;
  none = empty;
}

-- a rank with four cities or more begins a batch of all pairs
pub many_next : (p : TourProgram) (said : List Said) (d : Desk) (s : StartModel) (common : List ℕ) (count : ℕ) → p.start ≡ Some s →
    4 ≤ s.cities.count → common ≡ common_part s → count ≡ s.cities.count → IsGoing p said d (tasks p.start) None →
    IsGoing p said d (Begin common (pairs count) ∷ []) None
many_next p said d s common count some many bytes all is =
    subst (λ ts. IsGoing p said d ts None)
    (ap tasks some ∙ many_tasks s many ∙ ap (λ b. Begin b (pairs s.cities.count) ∷ []) (sym bytes)
    ∙ ap (λ n. Begin common (pairs n) ∷ []) (sym all)) is

-- an answer by its reply
pub replied : (said new : List Said) (call : Call) (reply is : Reply) → new ≡ said ++ said_of call (answer_of reply) ∷ [] → reply ≡ is →
    new ≡ said ++ said_of call (answer_of is) ∷ []
replied said new call reply is e same = e ∙ ap (λ r. said ++ said_of call (answer_of r) ∷ []) same
