-- How many calls a rank makes. Each rule that it puts has what its put, the reserve and the fetch that bring it to a rank, and all that the
-- rank does with it cost. What is sent carries its part to whoever gets it.
use Rattle.std.proofs.Common.{◌≡◌, ◌≤◌, ◌+◌, ◌*◌, ℕ, Bool, true, false, cond, ◌||◌, List, [], ◌∷◌, ◌++◌, length, Contains}
use Rattle.std.proofs.Common.{Option, Some, None, refl, sym, ap, ◌∙◌, subst, arith, sum_by}
use Rattle.std.specs.Prelude.{is_some}
use Rattle.std.proofs.lemmas.List.{length-append, take-append-drop}
use Rattle.std.proofs.lemmas.List.Elements.{All-nil}
use Rattle.std.proofs.lemmas.List.Sums.{sum_by-append, sum_by-cons}
use Rattle.adlb_unit.specs.declared.names.CommonRef.{CommonRef}
use Rattle.adlb_unit.specs.declared.notes.UnitNote.{UnitNote}
use Rattle.bag_ledger.specs.declared.entries.Answer.{Answer as Reply}
use Rattle.bag_ledger.specs.declared.entries.Answer.TheVariants as answers
use Rattle.bag_ledger.specs.declared.entries.Call.{Call}
use Rattle.bag_ledger.specs.declared.entries.Call.TheVariants as calls_to
use Rattle.bag_ledger.specs.declared.entries.Said.{Said}
use Rattle.bag_ledger.specs.Bodies.{bytes_of}
use Rattle.balance_law.specs.Orderly.{IsNext}
use Rattle.balance_law.proofs.Causes.{batch_behind, got-append, held_after, sent-append}
use Rattle.balance_law.specs.Parcels.{Parcel, batch_after, common_of, got, granted_note, own_of, parcel_got, parcel_read, parcel_sent, sent}
use Rattle.cover_law.specs.Grants.{AreOfGrants, IsOfGrant}
use Rattle.flow_law.specs.Flows.{apply}
use Rattle.flow_law.specs.declared.Definition.{Definition}
use Rattle.flow_law.specs.declared.Op.{Op}
use Rattle.work_law.specs.Books.{said_of}
use Rattle.work_law.specs.Work.{IsWork, fetched_unit, own_bytes, put_of}
use Rattle.work_law.proofs.Flow.{own_behind}
use Rattle.flow_run_law.specs.Units.{AimsAt, Answer, AreForms, FlowUnit, Forms, Rule, flows, untargeted}
use Rattle.flow_run_law.specs.Desk.{Desk, Goes, IsFree, IsReady, Moves, again_refused, again_stopped, again_taken}
use Rattle.flow_run_law.specs.Desk.{answer_refused, answer_stopped}
use Rattle.flow_run_law.specs.Desk.{answer_taken, at_start, brought, fetched, granted, refused, rule_refused, rule_stopped, rule_taken}
use Rattle.flow_run_law.specs.Desk.{told, unit_of}
use Rattle.flow_run_law.proofs.Order.{ordered}
use Rattle.flow_run_law.proofs.Whole.{brought_put, refused_put}
use Rattle.flow_bound_law.proofs.Rules.{left, one_less}

-- What units are worth: their reserve and fetch, and what follows. A rule's answer is put, and perhaps once more; an answer may let another
-- be put once more.
abbrev worth_of : Option FlowUnit → ℕ
worth_of (Some (Rule i op a b)) = 7
worth_of unit = 3

abbrev if_so : Bool → ℕ → ℕ
if_so true n = n
if_so false n = 0

-- how often an answer that is kept is put once more before the next reserve
abbrev again : Bool → List (ℕ × ℕ) → List (ℕ × ℕ) → ℕ
again true kept owes = 0
again false [] [] = 0
again false kept owes = 1

-- what a rank has left: of each answer that it owes a put, and what that is worth; of each that it keeps what it is worth; and a put
unfoldable pub credit : Desk → ℕ
credit d = cond d.ended 0 (4 * length d.owed + 3 * length d.kept + cond (is_some d.held) 0 (again d.tried d.kept d.owed))

-- a reserve that brought nothing yet, or an end
unfoldable pub owed : Desk → ℕ
owed d = if_so (d.ended || is_some d.held) 1

-- at most one
pub owes_one : (d : Desk) → owed d ≤ 1
unfolding owed
owes_one d = by_test (d.ended || is_some d.held)
  where
    by_test : (t : Bool) → if_so t 1 ≤ 1
    by_test true = omega arith
    by_test false = omega arith

again_once : (tried : Bool) (kept owes : List (ℕ × ℕ)) → again tried kept owes ≤ 1
again_once true kept owes = omega arith
again_once false [] [] = omega arith
again_once false [] (x ∷ owes) = omega arith
again_once false (x ∷ kept) owes = omega arith

-- it is put once more at most as often as with an answer that is owed
again_owed : (tried : Bool) (kept owes kept' rest : List (ℕ × ℕ)) (x : ℕ × ℕ) → again tried kept owes ≤ again tried kept' (x ∷ rest)
again_owed true kept owes kept' rest x = omega arith
again_owed false kept owes [] rest x = again_once false kept owes
again_owed false kept owes (y ∷ kept') rest x = again_once false kept owes

-- what is left of a rank that owes an answer, and of one that was granted a unit
owing : (d : Desk) (x : ℕ × ℕ) (rest : List (ℕ × ℕ)) → d.owed ≡ x ∷ rest → d.held ≡ None → d.ended ≡ false
    → credit d ≡ 4 * (1 + length rest) + 3 * length d.kept + again d.tried d.kept (x ∷ rest)
unfolding credit
owing d x rest owes none live = rw (owes, none, live) (omega arith)

holding : (d : Desk) (note : UnitNote) → d.held ≡ Some note → d.owed ≡ [] → d.ended ≡ false → credit d ≡ 3 * length d.kept
unfolding credit
holding d note holds none live = rw (holds, none, live) (omega arith)

free_owes : (d : Desk) → d.held ≡ None → d.ended ≡ false → owed d ≡ 0
unfolding owed
free_owes d none live = rw (none, live) refl

-- and of one that keeps an answer
keeping : (d : Desk) (x : ℕ × ℕ) (rest : List (ℕ × ℕ)) → d.held ≡ None → d.ended ≡ false → d.kept ≡ x ∷ rest → 3 ≤ credit d
unfolding credit
keeping d x rest none live keeps = rw (none, live) (omega (arith, ap length keeps))

-- how many rules a rank with this flow, or with none, may still put
abbrev pub left_of : Option (List Definition) → List ℕ → ℕ
left_of None put = 0
left_of (Some flow) put = left 0 put flow

-- a body is its common part and its own bytes
parts_of_body : (common : Option CommonRef) (bytes : List ℕ) → bytes_of (common_of common bytes) (own_of common bytes) ≡ bytes
parts_of_body None bytes = refl
parts_of_body (Some c) bytes = take-append-drop c.length bytes

-- the next call of an orderly rank fetches what was granted, if it fetches
of_next : (ranks : ℕ) (held : Option UnitNote) (call : Call) → IsNext ranks held None call → IsOfGrant held call
of_next ranks None calls_to.SetDone next = next
of_next ranks (Some note) calls_to.SetDone next = next
of_next ranks (Some note) (calls_to.Fetch id) next = next
of_next ranks held call next = tt

pub none_grants : (held : Option UnitNote) → AreOfGrants held []
unfolding AreOfGrants
none_grants held = tt

-- what a parcel is worth, by the unit that is read of it
abbrev pub worth : Forms → Parcel → ℕ
worth F p = worth_of (F.read p.kind p.answer (own_bytes p.long (bytes_of p.common p.own)))

module _ (ranks : ℕ) (F : Forms) (forms : AreForms ranks F) (flow : Option (List Definition)) where
  is_work : IsWork (flows (untargeted F))
  is_work = record {
    read_back = forms.read_back;
    plain = λ common unit. All-nil (λ (made : FlowUnit). (its : List ℕ) → (flows (untargeted F)).over made its ≡ []);
    aimed = λ any unit some. tt;
  }

  sent_worth : (u : FlowUnit) → F.fits u ≡ true
      → sum_by (worth F) (parcel_sent None (put_of (flows F) u) answers.Fine) ≡ worth_of (Some u)
  sent_worth u fits =
      let f = F.form u in
      let parcel : Parcel = record {
        kind = f.kind;
        prio = f.prio;
        answer = f.answer;
        common = None;
        long = length f.body;
        own = f.body;
      } in
      let own : worth F parcel ≡ worth_of (F.read f.kind f.answer f.body) =
      ap (λ b. worth_of (F.read f.kind f.answer b)) (own_behind [] f.body) in
      let back = ap worth_of (forms.read_back u fits) in
      omega (arith, sum_by-cons (worth F) parcel [], own, back)

  got_worth : (note : UnitNote) (bytes : List ℕ)
      → sum_by (worth F) (parcel_got (Some note) (calls_to.Fetch note.id) (answers.Body bytes))
      ≡ worth_of (fetched_unit (flows F) note bytes)
  got_worth note bytes =
      let read : List ℕ → ℕ = λ b. worth_of (F.read note.kind note.answer (own_bytes note.length b)) in
      omega (arith, sum_by-cons (worth F) (parcel_read note bytes) [], ap read (parts_of_body note.common bytes))

  -- One call.

  abbrev Spends : Desk → Said → Desk → Type 0
  Spends d s next =
      1 + sum_by (worth F) (parcel_sent None s.call s.answer) + credit next + owed d + 8 * left_of flow next.put
      ≤ credit d + sum_by (worth F) (parcel_got d.held s.call s.answer) + owed next + 8 * left_of flow d.put

  -- a rule that is put is left no longer
  puts_one : (g : List Definition) (d : Desk) (i : ℕ) (op : Op) (a b : ℕ) → flow ≡ Some g → IsReady g d.stored i op a b →
      (Contains d.put i → ⊥) → left_of flow (d.put ++ i ∷ []) + 1 ≤ left_of flow d.put
  puts_one g d i op a b e ready new =
      let before = ap (λ o. left_of o d.put) e in
      let behind = ap (λ o. left_of o (d.put ++ i ∷ [])) e in
      let less = one_less g 0 i i d.put ready.name op ready.left ready.right ready.is (omega arith) new in
      omega (arith, before, behind, less)

  -- an answer that no server takes
  refuses : (o : Option (List Definition)) (x : ℕ × ℕ) (rest : List (ℕ × ℕ)) (d : Desk) → d.held ≡ None → d.ended ≡ false →
      1 + credit (refused o x (record d { owed = rest }))
      ≤ 4 * (1 + length rest) + 3 * length d.kept + again d.tried d.kept (x ∷ rest)
  unfolding credit
  refuses (Some g) x rest d none live =
      rw (none, live) (let less = again_owed d.tried d.kept rest d.kept rest x in omega (arith, less))
  refuses None x rest d none live =
      let less = again_owed d.tried (d.kept ++ x ∷ []) rest d.kept rest x in
      rw (none, live) (omega (arith, less, length-append d.kept (x ∷ [])))

  -- what a fetch brings is worth as much as is left of it, and two calls
  brings : (o : Option (List Definition)) (u : Option FlowUnit) (d : Desk) → d.owed ≡ [] → d.ended ≡ false →
      2 + credit (brought o u (record d { held = None })) ≤ 3 * length d.kept + worth_of u
  unfolding credit
  brings o None d none live = rw (none, live) (let once = again_once d.tried d.kept [] in omega (arith, once))
  brings o (Some (Rule i op a b)) d none live =
      rw live (let once = again_once d.tried d.kept ((i, apply op a b) ∷ []) in omega (arith, once))
  brings (Some g) (Some (Answer i v)) d none live =
      rw (none, live) (let once = again_once d.tried d.kept [] in omega (arith, once))
  brings None (Some (Answer i v)) d none live =
      rw (none, live) (let once = again_once d.tried d.kept [] in omega (arith, once))

  refused_spends : (d : Desk) (x : ℕ × ℕ) (rest : List (ℕ × ℕ)) → d.owed ≡ x ∷ rest → d.held ≡ None → d.ended ≡ false →
      Spends d (said_of (put_of (flows F) (unit_of x)) answers.Rejected) (refused flow x (record d { owed = rest }))
  refused_spends d x rest owes none live =
      let less = refuses flow x rest d none live in
      let same = ap (left_of flow) (refused_put x (record d { owed = rest }) flow) in
      let gets = ap (λ h. sum_by (worth F) (parcel_got h (put_of (flows F) (unit_of x)) answers.Rejected)) none in
      omega (arith, less, same, gets, owing d x rest owes none live, free_owes d none live)

  fetched_spends : (d : Desk) (note : UnitNote) (bytes : List ℕ) → d.held ≡ Some note → d.owed ≡ [] → d.ended ≡ false →
      Spends d (said_of (calls_to.Fetch note.id) (answers.Body bytes))
      (brought flow (fetched_unit (flows F) note bytes) (record d { held = None }))
  fetched_spends d note bytes holds none live =
      let u = fetched_unit (flows F) note bytes in
      let more = brings flow u d none live in
      let same = ap (left_of flow) (brought_put flow u (record d { held = None })) in
      let gets = ap (λ h. sum_by (worth F) (parcel_got h (calls_to.Fetch note.id) (answers.Body bytes))) holds in
      omega (arith, more, same, gets, got_worth note bytes, holding d note holds none live, owes_one d)

  spends : (d : Desk) (s : Said) (next : Desk) → Moves F flow d s next → Spends d s next
  unfolding credit owed
  spends d s next (rule_taken g i op a b e free ready new fits said is) =
      let less = puts_one g d i op a b e ready new in
      let its = sent_worth (Rule i op a b) fits in
      rw (said, is) (rw (free.none_owed, free.none_held, free.live) (omega (arith, less, its)))
  spends d s next (rule_refused g i op a b e free ready new fits said is) =
      let less = puts_one g d i op a b e ready new in
      rw (said, is) (rw (free.none_owed, free.none_held, free.live) (omega (arith, less)))
  spends d s next (rule_stopped g i op a b end e free ready new fits said is) =
      rw (said, is) (rw (free.none_owed, free.none_held, free.live) (omega arith))
  spends d s next (answer_taken x rest owes none live fits said is) =
      let its = sent_worth (unit_of x) fits in
      let less = again_owed d.tried d.kept rest d.kept rest x in
      rw (said, is) (rw (owes, none, live) (omega (arith, its, less)))
  spends d s next (answer_refused x rest owes none live fits said is) = rw (said, is) (refused_spends d x rest owes none live)
  spends d s next (answer_stopped x rest end owes none live fits said is) =
      rw (said, is) (rw (owes, none, live) (omega arith))
  spends d s next (again_taken x rest e free keeps once fits said is) =
      let its = sent_worth (unit_of x) fits in
      rw (said, is) (rw (free.none_owed, free.none_held, free.live, keeps, once) (omega (arith, its)))
  spends d s next (again_refused x rest e free keeps once fits said is) =
      rw (said, is) (rw (free.none_owed, free.none_held, free.live, keeps, once) (omega arith))
  spends d s next (again_stopped x rest end e free keeps once fits said is) =
      rw (said, is) (rw (free.none_owed, free.none_held, free.live) (omega arith))
  spends d s next (granted note free may said is) =
      rw (said, is) (rw (free.none_owed, free.none_held, free.live) (omega arith))
  spends d s next (told end free may said is) =
      rw (said, is) (rw (free.none_owed, free.none_held, free.live) (omega arith))
  spends d s next (fetched note bytes holds none live said is) = rw (said, is) (fetched_spends d note bytes holds none live)

  -- The call that such a rank begins next, whatever its answer.

  -- it costs what the desk has left, and two more
  abbrev CanPay : Desk → Call → Type 0
  CanPay d call = (a : Reply) → 1 + sum_by (worth F) (parcel_sent None call a) + owed d ≤ credit d + 8 * left_of flow d.put + 2

  -- a put brings nothing but its unit
  sent_most : (u : FlowUnit) → F.fits u ≡ true → (a : Reply)
      → sum_by (worth F) (parcel_sent None (put_of (flows F) u) a) ≤ worth_of (Some u)
  sent_most u fits answers.Fine = omega (arith, sent_worth u fits)
  sent_most u fits _ = omega arith

  put_pays : (d : Desk) (s : Said) (u : FlowUnit) → F.fits u ≡ true → s.call ≡ put_of (flows F) u →
      1 + worth_of (Some u) + owed d ≤ credit d + 8 * left_of flow d.put + 2 → CanPay d s.call
  put_pays d s u fits is enough a =
      omega (arith, enough, sent_most u fits a, ap (λ c. sum_by (worth F) (parcel_sent None c a)) is)

  rule_pays : (d : Desk) (s : Said) (g : List Definition) (i : ℕ) (op : Op) (a b : ℕ) → flow ≡ Some g → IsFree d →
      IsReady g d.stored i op a b → (Contains d.put i → ⊥) → F.fits (Rule i op a b) ≡ true →
      s.call ≡ put_of (flows F) (Rule i op a b) → CanPay d s.call
  rule_pays d s g i op a b e free ready new fits is =
      let less = puts_one g d i op a b e ready new in
      put_pays d s (Rule i op a b) fits is (omega (arith, less, free_owes d free.none_held free.live))

  answer_pays : (d : Desk) (s : Said) (x : ℕ × ℕ) (rest : List (ℕ × ℕ)) → d.owed ≡ x ∷ rest → d.held ≡ None → d.ended ≡ false →
      F.fits (unit_of x) ≡ true → s.call ≡ put_of (flows F) (unit_of x) → CanPay d s.call
  answer_pays d s x rest owes none live fits is =
      put_pays d s (unit_of x) fits is (omega (arith, owing d x rest owes none live, free_owes d none live))

  again_pays : (d : Desk) (s : Said) (x : ℕ × ℕ) (rest : List (ℕ × ℕ)) → IsFree d → d.kept ≡ x ∷ rest → F.fits (unit_of x) ≡ true →
      s.call ≡ put_of (flows F) (unit_of x) → CanPay d s.call
  again_pays d s x rest free keeps fits is =
      put_pays d s (unit_of x) fits is
      (omega (arith, keeping d x rest free.none_held free.live keeps, free_owes d free.none_held free.live))

  other_pays : (d : Desk) (s : Said) (call : Call) → s.call ≡ call → ((a : Reply) → parcel_sent None call a ≡ []) → CanPay d s.call
  other_pays d s call is none a =
      omega (
        arith,
        ap (λ c. sum_by (worth F) (parcel_sent None c a)) is,
        ap (sum_by (worth F)) (none a),
        owes_one d,
      )

  move_pays : (d : Desk) (s : Said) (next : Desk) → Moves F flow d s next → CanPay d s.call
  move_pays d s next (rule_taken g i op a b e free ready new fits said is) =
      rule_pays d s g i op a b e free ready new fits (ap (λ (t : Said). t.call) said)
  move_pays d s next (rule_refused g i op a b e free ready new fits said is) =
      rule_pays d s g i op a b e free ready new fits (ap (λ (t : Said). t.call) said)
  move_pays d s next (rule_stopped g i op a b end e free ready new fits said is) =
      rule_pays d s g i op a b e free ready new fits (ap (λ (t : Said). t.call) said)
  move_pays d s next (answer_taken x rest owes none live fits said is) =
      answer_pays d s x rest owes none live fits (ap (λ (t : Said). t.call) said)
  move_pays d s next (answer_refused x rest owes none live fits said is) =
      answer_pays d s x rest owes none live fits (ap (λ (t : Said). t.call) said)
  move_pays d s next (answer_stopped x rest end owes none live fits said is) =
      answer_pays d s x rest owes none live fits (ap (λ (t : Said). t.call) said)
  move_pays d s next (again_taken x rest e free keeps once fits said is) =
      again_pays d s x rest free keeps fits (ap (λ (t : Said). t.call) said)
  move_pays d s next (again_refused x rest e free keeps once fits said is) =
      again_pays d s x rest free keeps fits (ap (λ (t : Said). t.call) said)
  move_pays d s next (again_stopped x rest end e free keeps once fits said is) =
      again_pays d s x rest free keeps fits (ap (λ (t : Said). t.call) said)
  move_pays d s next (granted note free may said is) = other_pays d s _ (ap (λ (t : Said). t.call) said) (λ a. refl)
  move_pays d s next (told end free may said is) = other_pays d s _ (ap (λ (t : Said). t.call) said) (λ a. refl)
  move_pays d s next (fetched note bytes holds none live said is) = other_pays d s _ (ap (λ (t : Said). t.call) said) (λ a. refl)

  -- All calls.

  pub all_spend : AimsAt F ranks → (d : Desk) (said : List Said) (last : Desk) → Goes F flow d said last
      → length said + sum_by (worth F) (sent None said) + credit last + owed d + 8 * left_of flow last.put
      ≤ credit d + sum_by (worth F) (got d.held said) + owed last + 8 * left_of flow d.put
  unfolding sent got
  all_spend aims d [] last is =
      let c = ap credit is in
      let o = ap owed is in
      let l = ap (λ (x : Desk). left_of flow x.put) is in
      omega (arith, c, o, l)
  all_spend aims d (s ∷ said) last goes =
      let here = spends d s goes.0 goes.1 in
      let later = all_spend aims goes.0 said last goes.2 in
      let order = ordered F is_work flow ranks d s goes.0 aims goes.1 in
      let held : sum_by (worth F) (got (goes.0).held said) ≡ sum_by (worth F) (got (granted_note s.answer) said) =
      ap (λ h. sum_by (worth F) (got h said)) order.held in
      let batch : sum_by (worth F) (sent (batch_after None s.call s.answer) said) ≡ sum_by (worth F) (sent None said) =
      ap (λ o. sum_by (worth F) (sent o said)) order.no_batch in
      omega (
        arith,
        here,
        later,
        held,
        batch,
        sum_by-append (worth F) (parcel_sent None s.call s.answer) (sent (batch_after None s.call s.answer) said),
        sum_by-append (worth F) (parcel_got d.held s.call s.answer) (got (granted_note s.answer) said),
      )

  -- the calls of a rank from its start: as many as the rules that it may put and what it got are worth, and one more
  pub rank_spends : AimsAt F ranks → (said : List Said) (last : Desk) → Goes F flow at_start said last
      → length said + sum_by (worth F) (sent None said) ≤ 8 * left_of flow [] + sum_by (worth F) (got None said) + 1
  unfolding credit owed
  rank_spends aims said last goes =
      let all = all_spend aims at_start said last goes in
      omega (arith, all, owes_one last)

  -- the calls before the last, and that
  goes_then : (d : Desk) (own : List Said) (s : Said) (last : Desk) → Goes F flow d (own ++ s ∷ []) last
      → (mid : Desk) × Goes F flow d own mid × Moves F flow mid s last
  goes_then d [] s last goes = (d, refl, subst (λ (x : Desk). Moves F flow d s x) goes.2 goes.1)
  goes_then d (t ∷ own) s last goes =
      let later = goes_then goes.0 own s last goes.2 in (later.0, (goes.0, goes.1, later.1), later.2)

  -- no batch goes on
  goes_batch : AimsAt F ranks → (d : Desk) (said : List Said) (last : Desk) → Goes F flow d said last → batch_behind None said ≡ None
  unfolding batch_behind
  goes_batch aims d [] last goes = refl
  goes_batch aims d (s ∷ said) last goes =
      let order = ordered F is_work flow ranks d s goes.0 aims goes.1 in
      ap (λ o. batch_behind o said) order.no_batch ∙ goes_batch aims goes.0 said last goes.2

  -- the calls of a rank so far and the next one, which has its answer, are as many, and two more
  pub next_spends : AimsAt F ranks → (own : List Said) (s : Said) (answer : Reply) (last : Desk)
      → Goes F flow at_start (own ++ said_of s.call answer ∷ []) last
      → length own + 1 + sum_by (worth F) (sent None (own ++ s ∷ []))
      ≤ 8 * left_of flow [] + sum_by (worth F) (got None (own ++ s ∷ [])) + 2
  unfolding credit owed sent
  next_spends aims own s answer last goes =
      let then = goes_then at_start own (said_of s.call answer) last goes in
      let all = all_spend aims at_start own then.0 then.1 in
      let pays = move_pays then.0 (said_of s.call answer) last then.2 s.answer in
      let batch = goes_batch aims at_start own then.0 then.1 in
      omega (
        arith,
        all,
        pays,
        ap (sum_by (worth F)) (sent-append None own (s ∷ [])),
        ap (λ o. sum_by (worth F) (parcel_sent o s.call s.answer)) batch,
        ap (sum_by (worth F)) (got-append None own (s ∷ [])),
        sum_by-append (worth F) (sent None own) (sent (batch_behind None own) (s ∷ [])),
        sum_by-append (worth F) (parcel_sent (batch_behind None own) s.call s.answer)
            (sent (batch_after (batch_behind None own) s.call s.answer) []),
        sum_by-append (worth F) (got None own) (got (held_after None own) (s ∷ [])),
      )

  -- and it fetches what it was granted
  pub goes_grants : AimsAt F ranks → (d : Desk) (said more : List Said) (last : Desk) → Goes F flow d said last → AreOfGrants last.held more
      → AreOfGrants d.held (said ++ more)
  unfolding AreOfGrants
  goes_grants aims d [] more last goes later = subst (λ (x : Desk). AreOfGrants x.held more) (sym goes) later
  goes_grants aims d (s ∷ said) more last goes later =
      let order = ordered F is_work flow ranks d s goes.0 aims goes.1 in (
        of_next ranks d.held s.call order.comes,
        subst (λ h. AreOfGrants h (said ++ more)) order.held (goes_grants aims goes.0 said more last goes.2 later),
      )

  -- the call that it begins next is of what it was granted
  pub next_grants : AimsAt F ranks → (own : List Said) (s : Said) (answer : Reply) (last : Desk)
      → Goes F flow at_start (own ++ said_of s.call answer ∷ []) last → AreOfGrants None (own ++ s ∷ [])
  unfolding AreOfGrants
  next_grants aims own s answer last goes =
      let then = goes_then at_start own (said_of s.call answer) last goes in
      let order = ordered F is_work flow ranks then.0 (said_of s.call answer) last aims then.2 in
      goes_grants aims at_start own (s ∷ []) then.0 then.1
      (of_next ranks then.0.held s.call order.comes, none_grants (granted_note s.answer))
