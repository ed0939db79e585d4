-- What a rank puts, gets, works and keeps, counted by any test of units.
use Rattle.std.proofs.Common.{◌≡◌, ◌+◌, ◌-◌, ℕ, Bool, true, false, cond, List, [], ◌∷◌, ◌++◌, map, length, take, drop, Option, Some, None}
use Rattle.std.proofs.Common.{refl, sym, ap, ◌∙◌, subst, arith, count_by, All}
use Rattle.std.specs.List.{flat_map}
use Rattle.std.proofs.lemmas.List.{drop_at, length-append, take-append-drop, take_at}
use Rattle.std.proofs.lemmas.List.Elements.{All-nil, All-cons, All-head, All-tail}
use Rattle.std.proofs.lemmas.List.Sums.{sum_by-append}
use Rattle.adlb_unit.specs.declared.names.CommonRef.{CommonRef}
use Rattle.adlb_unit.specs.declared.names.Rank.{Rank}
use Rattle.adlb_unit.specs.declared.names.WorkType.{WorkType}
use Rattle.adlb_unit.specs.declared.notes.UnitNote.{UnitNote}
use Rattle.bag_ledger.specs.declared.entries.Answer.TheVariants as answers
use Rattle.bag_ledger.specs.declared.entries.Call.TheVariants as calls_to
use Rattle.bag_ledger.specs.declared.entries.Said.{Said}
use Rattle.bag_ledger.specs.Bodies.{bytes_of}
use Rattle.balance_law.specs.Balanced.{IsEndedWell}
use Rattle.balance_law.specs.Orderly.{finish}
use Rattle.balance_law.specs.Parcels.{Parcel, batch_after, common_of, got, granted_note, own_of, parcel_got, parcel_read, parcel_sent, sent}
use Rattle.work_law.specs.Work.{Arrival, IsWork, Work, arrival, common_bytes, fetched_unit, made_by, own_bytes, put_of}
use Rattle.work_law.specs.Books.{Books, Goes, Task, Put, Begin, End, bytes_on, brought, going, holding, in_batch, put_all, received}
use Rattle.work_law.specs.Books.{said_of, shut, without_batch}
use Rattle.work_law.specs.Together.{all_by, waits}
use Rattle.work_law.proofs.Calls.{OfEach, brought_on, by_kind}
use Rattle.work_law.proofs.Pieces.{Test, all-append, batch_waits, count_one, end_waits, none_waits, one_if, put_waits, received_same}
use Rattle.work_law.proofs.Pieces.{refused_same, waits-put_all}

-- a body is its common part and its own bytes
parts_of_body : (common : Option CommonRef) (bytes : List ℕ) → bytes_of (common_of common bytes) (own_of common bytes) ≡ bytes
parts_of_body None bytes = refl
parts_of_body (Some c) bytes = take-append-drop c.length bytes

bytes_together : (on : Option (List ℕ)) (own : List ℕ) → bytes_of on own ≡ bytes_on on ++ own
bytes_together None own = refl
bytes_together (Some common) own = refl

-- the own bytes are the last ones
pub own_behind : (common body : List ℕ) → own_bytes (length body) (common ++ body) ≡ body
own_behind common body =
    let e : length (common ++ body) - length body ≡ length common = omega (arith, length-append common body) in
    ap (λ k. drop k (common ++ body)) e ∙ drop_at common body (length common) refl

-- what comes before a body of its length is the common part
pub common_before : (common body : List ℕ) → common_bytes (length body) (common ++ body) ≡ common
common_before common body =
    let e : length (common ++ body) - length body ≡ length common = omega (arith, length-append common body) in
    ap (λ k. take k (common ++ body)) e ∙ take_at common body (length common) refl

-- each call of a transcript ended well
abbrev pub AreEndedWell : List Said → Type 0
AreEndedWell said = All (λ (s : Said). IsEndedWell s.call s.answer) said

-- the front of what holds of each
pub All-front : {X : Type 0} (P : X → Type 0) (xs ys : List X) → All P (xs ++ ys) → All P xs
All-front P [] ys all = All-nil P
All-front P (x ∷ xs) ys all = All-cons P x xs (All-head P x (xs ++ ys) all) (All-front P xs ys (All-tail P x (xs ++ ys) all))

-- Finish sends and gets nothing
pub sent_finish : (batch : Option (List ℕ)) (said : List Said) → sent batch (said ++ finish ∷ []) ≡ sent batch said
unfolding sent
sent_finish batch [] = refl
sent_finish batch (s ∷ said) =
    ap (λ l. parcel_sent batch s.call s.answer ++ l) (sent_finish (batch_after batch s.call s.answer) said)

-- a finish gets nothing
pub got_finish : (held : Option UnitNote) (said : List Said) → got held (said ++ finish ∷ []) ≡ got held said
unfolding got
got_finish None [] = refl
got_finish (Some note) [] = refl
got_finish held (s ∷ said) = ap (λ l. parcel_got held s.call s.answer ++ l) (got_finish (granted_note s.answer) said)

module _ {Made : Type 0} (W : Work Made) (is : IsWork W) where
  -- a test of units over common bytes as a test of what is sent and got
  abbrev pub passes : Test Made → List ℕ → Option Made → Bool
  passes q common None = false
  passes q common (Some unit) = q (arrival W common unit)

  -- the test of what these bytes are read as
  abbrev pub reads_bytes : Test Made → WorkType → Option Rank → ℕ → List ℕ → Bool
  reads_bytes q kind answer long bytes = passes q (common_bytes long bytes) (W.read kind answer (own_bytes long bytes))

  -- whether what a parcel's bytes are read as passes the test
  abbrev pub reads : Test Made → Parcel → Bool
  reads q p = reads_bytes q p.kind p.answer p.long (bytes_of p.common p.own)

  -- what a server took is read as the unit that was put, over the common bytes of its batch
  pub put_counts : (q : Test Made) (unit : Made) (on : Option (List ℕ)) → W.fits unit ≡ true →
      count_by (reads q) (parcel_sent on (put_of W unit) answers.Fine) ≡ one_if q (arrival W (bytes_on on) unit)
  put_counts q unit on fits =
      let f = W.form unit in
      let one : Bool → ℕ = λ b. cond b 1 0 in
      let parcel : Parcel = record { kind = f.kind; prio = f.prio; answer = f.answer; common = on; long = length f.body; own = f.body } in
      let together : reads q parcel ≡ reads_bytes q f.kind f.answer (length f.body) (bytes_on on ++ f.body) =
      ap (reads_bytes q f.kind f.answer (length f.body)) (bytes_together on f.body) in
      let common : reads_bytes q f.kind f.answer (length f.body) (bytes_on on ++ f.body)
      ≡ passes q (bytes_on on) (W.read f.kind f.answer (own_bytes (length f.body) (bytes_on on ++ f.body))) =
      ap (λ c. passes q c (W.read f.kind f.answer (own_bytes (length f.body) (bytes_on on ++ f.body))))
      (common_before (bytes_on on) f.body) in
      let own : passes q (bytes_on on) (W.read f.kind f.answer (own_bytes (length f.body) (bytes_on on ++ f.body)))
      ≡ passes q (bytes_on on) (W.read f.kind f.answer f.body) =
      ap (λ b. passes q (bytes_on on) (W.read f.kind f.answer b)) (own_behind (bytes_on on) f.body) in
      let back : passes q (bytes_on on) (W.read f.kind f.answer f.body) ≡ q (arrival W (bytes_on on) unit) =
      ap (passes q (bytes_on on)) (is.read_back unit fits) in
      count_one (reads q) parcel ∙ ap one (together ∙ common ∙ own ∙ back)

  -- what is got is read as the unit that was fetched, over the common bytes that came with it
  pub got_counts : (q : Test Made) (note : UnitNote) (bytes : List ℕ) →
      count_by (reads q) (parcel_got (Some note) (calls_to.Fetch note.id) (answers.Body bytes))
      ≡ cond (passes q (common_bytes note.length bytes) (fetched_unit W note bytes)) 1 0
  got_counts q note bytes =
      let one : List ℕ → ℕ = λ x. cond (reads_bytes q note.kind note.answer note.length x) 1 0 in
      count_one (reads q) (parcel_read note bytes) ∙ ap one (parts_of_body note.common bytes)

  -- One call.

  -- a call moves units from where they wait to the servers, and from there to the ranks
  pub record Flows (b : Books Made) (s : Said) (next : Books Made) : Type 0 where
    pub same : (q : Test Made) →
        count_by q (waits W next.on next.tasks) + count_by q next.came + count_by q (all_by W b.came)
        + count_by (reads q) (parcel_sent b.on s.call s.answer)
        ≡ count_by q (waits W b.on b.tasks) + count_by q b.came + count_by q (all_by W next.came)
        + count_by (reads q) (parcel_got b.held s.call s.answer)
    pub shuts : next.ended ≡ true → next.tasks ≡ []
    pub holds : next.held ≡ granted_note s.answer
    pub stays : batch_after b.on s.call s.answer ≡ next.on

  abbrev IsFlow : Books Made → Said → Books Made → Type 0
  IsFlow b s next = (b.ended ≡ true → b.tasks ≡ []) → IsEndedWell s.call s.answer → Flows b s next

  -- what a fetch brings
  brought_same : (q : Test Made) (common : List ℕ) (o : Option Made) (came : List (Arrival Made)) →
      count_by q (waits W (brought W common o came).on (brought W common o came).tasks)
      + count_by q (brought W common o came).came + count_by q (all_by W came)
      ≡ count_by q (waits W None []) + count_by q came + count_by q (all_by W (brought W common o came).came)
      + cond (passes q common o) 1 0
  brought_same q common None came = omega arith
  brought_same q common (Some unit) came = omega (arith, received_same W is q (arrival W common unit) [] None came)

  each_flow : OfEach W IsFlow
  each_flow = record {
    at_accepted = λ unit rest on came fits over well. record {
      same = λ q. omega (arith, put_counts q unit on fits, put_waits W is q on unit rest);
      shuts = λ e. absurd (cc);
      holds = refl;
      stays = refl;
    };
    at_rejected = λ unit rest on came over well. record {
      same = λ q. omega (arith, received_same W is q (arrival W (bytes_on on) unit) rest on came, put_waits W is q on unit rest);
      shuts = λ e. absurd (cc);
      holds = refl;
      stays = refl;
    };
    at_stopped = λ unit rest on came end over well. absurd (well);
    at_begun = λ common units rest came over well. record {
      same = λ q.
          let counted : count_by q (waits W (Some common) (put_all units ++ End ∷ rest))
          ≡ count_by q (waits W None (Begin common units ∷ rest)) =
          ap (count_by q) (waits-put_all W is (Some common) units (End ∷ rest)
          ∙ ap (λ l. map (arrival W common) units ++ l) (end_waits W is (Some common) rest)
          ∙ sym (batch_waits W is common units rest)) in
          omega (arith, counted);
      shuts = λ e. absurd (cc);
      holds = refl;
      stays = refl;
    };
    at_refused = λ common units rest came over well. record {
      same = λ q.
          let own : List (Arrival Made) = map (arrival W common) units in
          let begun : count_by q (waits W None (Begin common units ∷ rest)) ≡ count_by q (own ++ waits W None rest) =
          ap (count_by q) (batch_waits W is common units rest) in
          omega (arith, begun, refused_same W is q common units rest came, sum_by-append (one_if q) own (waits W None rest));
      shuts = λ e. absurd (cc);
      holds = refl;
      stays = refl;
    };
    at_stopped_before = λ common units rest came end over well. absurd (well);
    at_closed = λ common rest came over well. record {
      same = λ q.
          let counted : count_by q (waits W (Some common) (End ∷ rest)) ≡ count_by q (waits W None rest) =
          ap (count_by q) (end_waits W is (Some common) rest) in
          omega (arith, counted);
      shuts = λ e. absurd (cc);
      holds = refl;
      stays = refl;
    };
    at_closed_behind = λ common rest came over well.
        let none : rest ≡ [] = over refl in
        let moved : waits W None rest ≡ waits W (Some common) rest =
        ap (waits W None) none ∙ none_waits W is None ∙ sym (none_waits W is (Some common)) ∙ ap (waits W (Some common)) (sym none) in
        record {
          same = λ q.
              let counted : count_by q (waits W None rest) ≡ count_by q (waits W (Some common) rest) = ap (count_by q) moved in
              omega (arith, counted);
          shuts = λ e. none;
          holds = refl;
          stays = refl;
        };
    at_granted = λ came note over well. record { same = λ q. refl; shuts = λ e. absurd (cc); holds = refl; stays = refl };
    at_told = λ came end over well. record { same = λ q. refl; shuts = λ e. refl; holds = refl; stays = refl };
    at_fetched = λ came note bytes over well.
        let common : List ℕ = common_bytes note.length bytes in
        let on = brought_on W common (fetched_unit W note bytes) came in
        record {
          same = λ q. omega (arith, brought_same q common (fetched_unit W note bytes) came, got_counts q note bytes);
          shuts = λ e. absurd (let f : true ≡ false = sym e ∙ on.lives in cc);
          holds = on.holds;
          stays = sym on.stays;
        };
  }

  -- All calls of a rank.

  record FlowsAll (b : Books Made) (said : List Said) (last : Books Made) : Type 0 where
    same : (q : Test Made) →
        count_by q (waits W last.on last.tasks) + count_by q last.came + count_by q (all_by W b.came) + count_by (reads q) (sent b.on said)
        ≡ count_by q (waits W b.on b.tasks) + count_by q b.came + count_by q (all_by W last.came) + count_by (reads q) (got b.held said)
    shuts : last.ended ≡ true → last.tasks ≡ []

  flows_all : (b : Books Made) (said : List Said) (last : Books Made) → (b.ended ≡ true → b.tasks ≡ []) → AreEndedWell said →
      Goes W b said last → FlowsAll b said last
  unfolding sent got
  flows_all b [] last shuts well same = record {
    same = λ q.
        ap (λ (x : Books Made). count_by q (waits W x.on x.tasks) + count_by q x.came + count_by q (all_by W b.came) + 0) (sym same)
        ∙ ap (λ (x : Books Made). count_by q (waits W b.on b.tasks) + count_by q b.came + count_by q (all_by W x.came) + 0) same;
    shuts = subst (λ (x : Books Made). x.ended ≡ true → x.tasks ≡ []) same shuts;
  }
  flows_all b (s ∷ said) last shuts well goes =
      let P : Said → Type 0 = λ x. IsEndedWell x.call x.answer in
      let here : Flows b s goes.0 = by_kind W IsFlow each_flow b s goes.0 goes.1 shuts (All-head P s said well) in
      let later : FlowsAll goes.0 said last = flows_all goes.0 said last here.shuts (All-tail P s said well) goes.2 in
      record {
        same = λ q.
            let held : count_by (reads q) (got goes.0.held said) ≡ count_by (reads q) (got (granted_note s.answer) said) =
            ap (λ h. count_by (reads q) (got h said)) here.holds in
            let batch : count_by (reads q) (sent (batch_after b.on s.call s.answer) said) ≡ count_by (reads q) (sent goes.0.on said) =
            ap (λ o. count_by (reads q) (sent o said)) here.stays in
            omega (
              arith,
              here.same q,
              later.same q,
              held,
              batch,
              sum_by-append (one_if (reads q)) (parcel_sent b.on s.call s.answer) (sent (batch_after b.on s.call s.answer) said),
              sum_by-append (one_if (reads q)) (parcel_got b.held s.call s.answer) (got (granted_note s.answer) said),
            );
        shuts = later.shuts;
      }

  -- what came to a rank and what it sent is what it was to put first, what the work on its units made, and what it got
  pub rank_flows : (tasks : List (Task Made)) (said : List Said) (left : List (Task Made)) (came : List (Arrival Made)) →
      AreEndedWell (said ++ finish ∷ []) → Goes W (going tasks None []) said (shut left None came) → (q : Test Made) →
      count_by q came + count_by (reads q) (sent None (said ++ finish ∷ []))
      ≡ count_by q (waits W None tasks ++ all_by W came) + count_by (reads q) (got None (said ++ finish ∷ []))
  rank_flows tasks said left came well goes q =
      let P : Said → Type 0 = λ x. IsEndedWell x.call x.answer in
      let front : AreEndedWell said = All-front P said (finish ∷ []) well in
      let all : FlowsAll (going tasks None []) said (shut left None came) =
      flows_all (going tasks None []) said (shut left None came) (λ e. absurd (cc)) front goes in
      let none : count_by q (waits W None left) ≡ 0 = ap (λ l. count_by q (waits W None l)) (all.shuts refl)
      ∙ ap (count_by q) (none_waits W is None) in
      let to : count_by (reads q) (sent None (said ++ finish ∷ [])) ≡ count_by (reads q) (sent None said) =
      ap (count_by (reads q)) (sent_finish None said) in
      let from : count_by (reads q) (got None (said ++ finish ∷ [])) ≡ count_by (reads q) (got None said) =
      ap (count_by (reads q)) (got_finish None said) in
      omega (arith, all.same q, none, to, from, sum_by-append (one_if q) (waits W None tasks) (all_by W came))
