-- Where no answer of another rank than 0 was rejected, rank 0 puts and stores each rule that has a value.
use Rattle.std.proofs.Common.{◌≡◌, ◌<◌, ◌≤◌, ℕ, zero, suc, Bool, true, false, cond, List, [], ◌∷◌, ◌++◌, length, get_or, slice_get}
use Rattle.std.proofs.Common.{Contains, All, count_by, Option, Some, None, refl, sym, ap, ◌∙◌, subst, arith, inl, inr}
use Rattle.std.proofs.Math.Bridge.{le_prop}
use Rattle.std.proofs.lemmas.Bool.{cases_eq, ne_eqb}
use Rattle.std.proofs.lemmas.List.Elements.{All-nil, All-cons, All-append, All-head, All-tail}
use Rattle.std.proofs.lemmas.List.Sums.{sum_by-cons}
use Rattle.std.proofs.lemmas.Slice.Eq.{bytes_eq-Decides}
use Rattle.adlb_unit.specs.declared.configs.Config.{Config}
use Rattle.adlb_unit.specs.declared.names.Rank.{Rank}
use Rattle.bag_ledger.specs.declared.entries.Answer.{Answer as Reply}
use Rattle.bag_ledger.specs.declared.entries.Answer.TheVariants as answers
use Rattle.bag_ledger.specs.declared.entries.Entry.{Entry}
use Rattle.bag_ledger.specs.declared.entries.Said.{Said}
use Rattle.bag_ledger.specs.Bag.{Bag, start}
use Rattle.bag_ledger.specs.Bodies.{bytes_of}
use Rattle.bag_ledger.specs.Runs.{IsRun, calls}
use Rattle.balance_law.specs.Balanced.{IsBalanced, IsEndedWell}
use Rattle.balance_law.specs.Orderly.{finish}
use Rattle.balance_law.specs.Parcels.{Parcel, got, sent}
use Rattle.balance_law.specs.Ways.{IsPutFor}
use Rattle.balance_law.proofs.Aims.{aimed}
use Rattle.balance_law.proofs.Whole.{balanced}
use Rattle.flow_law.specs.Flows.{AreDistinct, HasValue, Name, apply, given as value_given, name_of, ruled}
use Rattle.flow_law.specs.declared.Definition.{Definition}
use Rattle.flow_law.specs.declared.Definition.TheVariants as defines
use Rattle.flow_law.specs.declared.Op.{Op}
use Rattle.flow_law.proofs.Turns.{contains_cases, counts_step, distinct_rest, named, there_counts}
use Rattle.work_law.specs.Work.{IsWork, common_bytes, fetched_unit, own_bytes, put_of}
use Rattle.work_law.specs.Books.{said_of}
use Rattle.work_law.proofs.Flow.{got_finish, passes, reads, sent_finish}
use Rattle.flow_run_law.specs.Units.{Answer, FlowUnit, Forms, HasTypes, IsRule, Rule, flows, untargeted, AimsAt}
use Rattle.flow_run_law.specs.Desk.{Desk, Goes, Knows, MayReserve, Moves, again_refused, again_stopped, again_taken, answer_refused}
use Rattle.flow_run_law.specs.Desk.{answer_stopped, answer_taken, at_start, brought, fetched, given, granted, refused, rule_refused}
use Rattle.flow_run_law.specs.Desk.{rule_stopped, rule_taken, stored_is, told, unit_of}
use Rattle.flow_run_law.specs.Run.{IsFlowRank, flow_of}
use Rattle.flow_run_law.proofs.Good.{exact_unit, is_unit, same_unit}
use Rattle.flow_run_law.proofs.Order.{ordered}
use Rattle.flow_run_law.proofs.Told.{Found, orderly, over_found, over_one}
use Rattle.flow_run_law.proofs.Whole.{HasStored, IsRejected, IsSentRule, answer_stored, put_ends, rule_ends}

-- Definitions are found by their names.

same_definition : (f : List Definition) → AreDistinct f → (d e : Definition) → Contains f d → Contains f e → name_of d ≡ name_of e → d ≡ e
same_definition [] distinct d e at_d at_e names = absurd (omega (arith, at_d.1))
same_definition (y ∷ f) distinct d e at_d at_e names = elim (contains_cases y d f at_d) [
  | inl is_d ↦ elim (contains_cases y e f at_e) [
    | inl is_e ↦ sym is_d ∙ is_e
    | inr later ↦ absurd (twice y e f distinct (ap name_of is_d ∙ names) later)
  ]
  | inr later_d ↦ elim (contains_cases y e f at_e) [
    | inl is_e ↦ absurd (twice y d f distinct (ap name_of is_e ∙ sym names) later_d)
    | inr later_e ↦ same_definition f (distinct_rest y f distinct) d e later_d later_e names
  ]
]
  where
    twice : (y e : Definition) (f : List Definition) → AreDistinct (y ∷ f) → name_of y ≡ name_of e → Contains f e → ⊥
    twice y e f distinct same there =
        let yes : named (name_of e) y ≡ true = (bytes_eq-Decides (name_of y) (name_of e)).1 same in
        let one : cond {A = ℕ} (named (name_of e) y) 1 0 ≡ 1 = ap (λ b. cond {A = ℕ} b 1 0) yes in
        let many = distinct (name_of e) in
        let more = there_counts f e there in
        omega (arith, one, many, more, counts_step (name_of e) y f)

there_at : {X : Type 0} (xs : List X) (i : ℕ) (x : X) → slice_get xs i ≡ Some x → Contains xs x
there_at [] i x e = absurd (cc)
there_at (y ∷ xs) zero x e = let same : y ≡ x = cc in (0, omega arith, same)
there_at (y ∷ xs) (suc i) x e = let t = there_at xs i x e in (suc t.0, omega (arith, t.1), t.2)

place_of : {X : Type 0} (xs : List X) (x : X) → Contains xs x → (i : ℕ) × (slice_get xs i ≡ Some x)
place_of {X} xs x there = at xs there.0 there.1 there.2
  where
    at : (xs : List X) (k : ℕ) → k < length xs → get_or xs k x ≡ x → (i : ℕ) × (slice_get xs i ≡ Some x)
    at [] k below is = absurd (omega arith)
    at (y ∷ ys) zero below is = (0, ap Some is)
    at (y ∷ ys) (suc k) below is = let r = at ys k (omega arith) is in (suc r.0, r.1)

-- At the end a rank is free and may reserve; and another rank than 0 stores nothing.

module _ (F : Forms) (is : IsWork (flows (untargeted F))) (flow : Option (List Definition)) where
  record IsDone (last : Desk) : Type 0 where
    none_owed : last.owed ≡ []
    may : MayReserve flow last

  may_stay : (o : Option (List Definition)) (d : Desk) → MayReserve o d → MayReserve o (record d { ended = true })
  may_stay (Some g) d may = may
  may_stay None d may = may

  refused_live : (x : ℕ × ℕ) (d : Desk) (o : Option (List Definition)) → (refused o x d).ended ≡ d.ended
  refused_live x d (Some g) = refl
  refused_live x d None = refl

  brought_live : (o : Option (List Definition)) (u : Option FlowUnit) (d : Desk) → (brought o u d).ended ≡ d.ended
  brought_live o None d = refl
  brought_live o (Some (Rule j op a b)) d = refl
  brought_live (Some g) (Some (Answer j v)) d = refl
  brought_live None (Some (Answer j v)) d = refl

  done : (some : ℕ) → AimsAt F some → (d : Desk) (said : List Said) (last : Desk) → d.ended ≡ false → last.ended ≡ true →
      All (λ (s : Said). IsEndedWell s.call s.answer) said → Goes F flow d said last → IsDone last
  done some pos d [] last live over well same = absurd (let e : true ≡ false = sym over ∙ ap (λ (z : Desk). z.ended) (sym same) ∙
      live in cc)
  done some pos d (s ∷ said) last live over well goes =
      let P : Said → Type 0 = λ t. IsEndedWell t.call t.answer in
      by_move goes.1 (All-head P s said well) (λ on. done some pos goes.0 said last on over (All-tail P s said well) goes.2)
      (none_more goes.0 said last goes.2)
    where
      none_more : (d : Desk) (said : List Said) (last : Desk) → Goes F flow d said last → d.ended ≡ true → d ≡ last
      none_more d [] last goes over = goes
      none_more d (t ∷ said) last goes over = absurd (let o = ordered F is flow some d t goes.0 pos goes.1 in let e : true ≡ false = sym
          over ∙ o.live in cc)

      ends_at_put : (u : FlowUnit) (end : _) → s ≡ said_of (put_of (flows F) u) (answers.Ended end) → IsEndedWell s.call s.answer → ⊥
      ends_at_put u end said' w = let x : IsEndedWell (put_of (flows F) u) (answers.Ended end) = subst (λ (t : Said). IsEndedWell t.call
          t.answer) said' w in x

      by_move : {next : Desk} → Moves F flow d s next → IsEndedWell s.call s.answer → (next.ended ≡ false → IsDone last) →
          (next.ended ≡ true → next ≡ last) → IsDone last
      by_move (rule_taken g j op a b e free ready new fits said' left) end on stop = on (rw left live)
      by_move (rule_refused g j op a b e free ready new fits said' left) end on stop = on (rw left live)
      by_move (rule_stopped g j op a b e2 e free ready new fits said' left) end on stop = absurd (ends_at_put (Rule j op a b) e2 said' end)
      by_move (answer_taken x rest owes none live' fits said' left) end on stop = on (rw left live)
      by_move (answer_refused x rest owes none live' fits said' left) end on stop =
          on (ap (λ (z : Desk). z.ended) left ∙ refused_live x (record d { owed = rest }) flow ∙ live)
      by_move (answer_stopped x rest e2 owes none live' fits said' left) end on stop = absurd (ends_at_put (unit_of x) e2 said' end)
      by_move (again_taken x rest e free keeps once fits said' left) end on stop = on (rw left live)
      by_move (again_refused x rest e free keeps once fits said' left) end on stop = on (rw left live)
      by_move (again_stopped x rest e2 e free keeps once fits said' left) end on stop = absurd (ends_at_put (unit_of x) e2 said' end)
      by_move (granted note free may said' left) end on stop = on (rw left live)
      by_move (told e2 free may said' left) end on stop =
          let same = stop (rw left refl) in
          subst IsDone (sym left ∙ same) (record { none_owed = free.none_owed; may = may_stay flow d may })
      by_move (fetched note bytes holds none live' said' left) end on stop =
          on (ap (λ (z : Desk). z.ended) left ∙ brought_live flow (fetched_unit (flows F) note bytes) (record d { held = None }) ∙ live)

  -- a rank without a flow stores nothing
  refused_none : (x : ℕ × ℕ) (d : Desk) → (refused None x d).stored ≡ d.stored
  refused_none x d = refl

  brought_none : (u : Option FlowUnit) (d : Desk) → (brought None u d).stored ≡ d.stored
  brought_none None d = refl
  brought_none (Some (Rule j op a b)) d = refl
  brought_none (Some (Answer j v)) d = refl

  stores_none : (d : Desk) (s : Said) (next : Desk) → flow ≡ None → Moves F flow d s next → next.stored ≡ d.stored
  stores_none d s next none (rule_taken g j op a b e free ready new fits said left) = ap (λ (z : Desk). z.stored) left
  stores_none d s next none (rule_refused g j op a b e free ready new fits said left) = absurd (let x : None ≡ Some g = sym none ∙ e in cc)
  stores_none d s next none (rule_stopped g j op a b end e free ready new fits said left) = ap (λ (z : Desk). z.stored) left
  stores_none d s next none (answer_taken x rest owes none' live fits said left) = ap (λ (z : Desk). z.stored) left
  stores_none d s next none (answer_refused x rest owes none' live fits said left) =
      ap (λ (z : Desk). z.stored) left ∙ ap (λ o. (refused o x (record d { owed = rest })).stored) none
  stores_none d s next none (answer_stopped x rest end owes none' live fits said left) = ap (λ (z : Desk). z.stored) left
  stores_none d s next none (again_taken x rest e free keeps once fits said left) = ap (λ (z : Desk). z.stored) left
  stores_none d s next none (again_refused x rest e free keeps once fits said left) = ap (λ (z : Desk). z.stored) left
  stores_none d s next none (again_stopped x rest end e free keeps once fits said left) = ap (λ (z : Desk). z.stored) left
  stores_none d s next none (granted note free may said left) = ap (λ (z : Desk). z.stored) left
  stores_none d s next none (told end free may said left) = ap (λ (z : Desk). z.stored) left
  stores_none d s next none (fetched note bytes holds none' live said left) =
      ap (λ (z : Desk). z.stored) left ∙ ap (λ o. (brought o (fetched_unit (flows F) note bytes) (record d { held = None })).stored) none
      ∙ brought_none (fetched_unit (flows F) note bytes) (record d { held = None })

  none_stored : (d : Desk) (said : List Said) (last : Desk) → flow ≡ None → Goes F flow d said last → last.stored ≡ d.stored
  none_stored d [] last none same = ap (λ (z : Desk). z.stored) (sym same)
  none_stored d (s ∷ said) last none goes = none_stored goes.0 said last none goes.2 ∙ stores_none d s goes.0 none goes.1

  -- each answer that it puts is for rank 0
  puts_for : HasTypes F → (u : FlowUnit) (a : Reply) (s : Said) → s ≡ said_of (put_of (flows F) u) a → IsPutFor 1 (record { 0 = 0 }) s.call
  puts_for types (Rule i op a b) ans s said =
      subst (λ (t : Said). IsPutFor 1 (record { 0 = 0 }) t.call) (sym said) (λ one. absurd (omega (arith, one, types.rule i op a b)))
  puts_for types (Answer i v) ans s said = subst (λ (t : Said). IsPutFor 1 (record { 0 = 0 }) t.call) (sym said) (λ one. types.answer i v)

  moves_for : HasTypes F → (d : Desk) (s : Said) (next : Desk) → Moves F flow d s next → IsPutFor 1 (record { 0 = 0 }) s.call
  moves_for types d s next (rule_taken g j op a b e free ready new fits said left) = puts_for types (Rule j op a b) answers.Fine s said
  moves_for types d s next (rule_refused g j op a b e free ready new fits said left) = puts_for types (Rule j op a b) answers.Rejected s
      said
  moves_for types d s next (rule_stopped g j op a b end e free ready new fits said left) = puts_for types (Rule j op a b)
      (answers.Ended end) s said
  moves_for types d s next (answer_taken x rest owes none live fits said left) = puts_for types (unit_of x) answers.Fine s said
  moves_for types d s next (answer_refused x rest owes none live fits said left) = puts_for types (unit_of x) answers.Rejected s said
  moves_for types d s next (answer_stopped x rest end owes none live fits said left) = puts_for types (unit_of x) (answers.Ended end) s said
  moves_for types d s next (again_taken x rest e free keeps once fits said left) = puts_for types (unit_of x) answers.Fine s said
  moves_for types d s next (again_refused x rest e free keeps once fits said left) = puts_for types (unit_of x) answers.Rejected s said
  moves_for types d s next (again_stopped x rest end e free keeps once fits said left) = puts_for types (unit_of x) (answers.Ended end) s
      said
  moves_for types d s next (granted note free may said left) = subst (λ (t : Said). IsPutFor 1 (record { 0 = 0 }) t.call) (sym said) tt
  moves_for types d s next (told end free may said left) = subst (λ (t : Said). IsPutFor 1 (record { 0 = 0 }) t.call) (sym said) tt
  moves_for types d s next (fetched note bytes holds none live said left) = subst (λ (t : Said). IsPutFor 1 (record { 0 = 0 }) t.call)
      (sym said) tt

  goes_for : HasTypes F → (d : Desk) (said : List Said) (last : Desk) → Goes F flow d said last →
      All (λ (s : Said). IsPutFor 1 (record { 0 = 0 }) s.call) said
  goes_for types d [] last goes = All-nil (λ (s : Said). IsPutFor 1 (record { 0 = 0 }) s.call)
  goes_for types d (s ∷ said) last goes =
      All-cons (λ (t : Said). IsPutFor 1 (record { 0 = 0 }) t.call) s said (moves_for types d s goes.0 goes.1)
      (goes_for types goes.0 said last goes.2)

-- a parcel that is read as an answer is of work type 1
read_types : (F : Forms) (is : IsWork (flows (untargeted F))) → HasTypes F → (i v : ℕ) (ps : List Parcel)
    → All (λ (p : Parcel). p.kind.0 ≡ 1 → ⊥) ps →
    1 ≤ count_by (reads (flows (untargeted F)) is (is_unit (Answer i v))) ps → ⊥
read_types F is types i v [] none some = omega (arith, some)
read_types F is types i v (p ∷ ps) none some =
    let q = is_unit (Answer i v) in
    let not_one : p.kind.0 ≡ 1 → ⊥ = All-head (λ (x : Parcel). x.kind.0 ≡ 1 → ⊥) p ps none in
    let own : List ℕ = own_bytes p.long (bytes_of p.common p.own) in
    let head : reads (flows (untargeted F)) is q p ≡ false = at (F.read p.kind p.answer own) refl not_one in
    let zero : cond {A = ℕ} (reads (flows (untargeted F)) is q p) 1 0 ≡ 0 = ap (λ b. cond {A = ℕ} b 1 0) head in
    read_types F is types i v ps (All-tail (λ (x : Parcel). x.kind.0 ≡ 1 → ⊥) p ps none)
    (omega (arith, some, zero, sum_by-cons (λ x. cond (reads (flows (untargeted F)) is q x) 1 0) p ps))
  where
    at : (o : Option FlowUnit) → o ≡ F.read p.kind p.answer (own_bytes p.long (bytes_of p.common p.own)) → (p.kind.0 ≡ 1 → ⊥) →
        reads (flows (untargeted F)) is (is_unit (Answer i v)) p ≡ false
    at None e other =
        ap (λ o. passes (flows (untargeted F)) is (is_unit (Answer i v)) (common_bytes p.long (bytes_of p.common p.own)) o) (sym e)
    at (Some w) e other =
        ap (λ o. passes (flows (untargeted F)) is (is_unit (Answer i v)) (common_bytes p.long (bytes_of p.common p.own)) o)
        (sym e) ∙ by_test
        (same_unit (Answer i v) w) refl
      where
        by_test : (b : Bool) → b ≡ same_unit (Answer i v) w → same_unit (Answer i v) w ≡ false
        by_test false t = sym t
        by_test true t = absurd (other (types.read p.kind p.answer (own_bytes p.long (bytes_of p.common p.own)) i v
            (sym e ∙ ap Some (sym (exact_unit (Answer i v) w (sym t))))))

-- The law.

module _ (F : Forms) (is : IsWork (flows (untargeted F))) (types : HasTypes F) (config : Config) (ledger : List Entry) (last : Bag)
    (some : 0 < config.ranks) (aims : AimsAt F config.ranks)
    (legal : IsRun (start config) ledger last) (f : List Definition) (distinct : AreDistinct f)
    (each : (rank : Rank) → rank.0 < config.ranks → IsFlowRank F config ledger f rank)
    (never : (rank : Rank) (below : rank.0 < config.ranks) → (rank.0 ≡ 0 → ⊥) →
    All (λ (s : Said). IsRejected F is (flow_of f rank) s → ⊥) (each rank below).said)
  where
    all : IsBalanced config ledger last
    all = balanced config ledger last some legal (orderly F is config ledger last some aims legal f each)

    zero_rank : Rank
    zero_rank = record { 0 = 0 }

    test : (u : FlowUnit) → Parcel → Bool
    test u = reads (flows (untargeted F)) is (is_unit u)

    well : (rank : Rank) (below : rank.0 < config.ranks) → All (λ (s : Said). IsEndedWell s.call s.answer) (each rank below).said
    well rank below =
        front (each rank below).said (subst (All (λ (s : Said). IsEndedWell s.call s.answer)) (each rank below).calls_are
        (all.ended rank below))
      where
        P : Said → Type 0
        P s = IsEndedWell s.call s.answer

        front : (xs : List Said) → All (λ (s : Said). IsEndedWell s.call s.answer) (xs ++ finish ∷ []) →
            All (λ (s : Said). IsEndedWell s.call s.answer) xs
        front [] a = All-nil (λ (s : Said). IsEndedWell s.call s.answer)
        front (x ∷ xs) a =
            All-cons (λ (s : Said). IsEndedWell s.call s.answer) x xs (All-head (λ (s : Said). IsEndedWell s.call s.answer) x
            (xs ++ finish ∷ []) a)
            (front xs (All-tail (λ (s : Said). IsEndedWell s.call s.answer) x (xs ++ finish ∷ []) a))

    -- what a rank sent, some rank got
    got_by : (u : FlowUnit) (rank : Rank) (below : rank.0 < config.ranks) →
        1 ≤ count_by (reads (flows (untargeted F)) is (is_unit u)) (sent None (each rank below).said) →
        Found config.ranks (λ r. count_by (reads (flows (untargeted F)) is (is_unit u)) (got None (calls config ledger r)))
    got_by u rank below counts =
        let e : count_by (reads (flows (untargeted F)) is (is_unit u)) (sent None (calls config ledger rank))
        ≡ count_by (reads (flows (untargeted F)) is (is_unit u))
        (sent None (each rank below).said) =
        ap (λ l. count_by (reads (flows (untargeted F)) is (is_unit u)) (sent None l)) (each rank below).calls_are
        ∙ ap (count_by (reads (flows (untargeted F)) is (is_unit u))) (sent_finish None (each rank below).said) in
        let o = over_one config.ranks
        (λ r. count_by (reads (flows (untargeted F)) is (is_unit u)) (sent None (calls config ledger r))) rank below
        (omega (arith, e, counts)) in
        let same = all.same (reads (flows (untargeted F)) is (is_unit u)) in
        over_found config.ranks (λ r. count_by (reads (flows (untargeted F)) is (is_unit u)) (got None (calls config ledger r)))
        (omega (arith, o, same))

    got_said : (u : FlowUnit) (rank : Rank) (below : rank.0 < config.ranks) →
        1 ≤ count_by (reads (flows (untargeted F)) is (is_unit u)) (got None (calls config ledger rank)) →
        1 ≤ count_by (reads (flows (untargeted F)) is (is_unit u)) (got None (each rank below).said)
    got_said u rank below counts =
        let e : count_by (reads (flows (untargeted F)) is (is_unit u)) (got None (calls config ledger rank))
        ≡ count_by (reads (flows (untargeted F)) is (is_unit u))
        (got None (each rank below).said) =
        ap (λ l. count_by (reads (flows (untargeted F)) is (is_unit u)) (got None l)) (each rank below).calls_are
        ∙ ap (count_by (reads (flows (untargeted F)) is (is_unit u))) (got_finish None (each rank below).said) in
        omega (arith, e, counts)

    done_at : (rank : Rank) (below : rank.0 < config.ranks) → IsDone F is (flow_of f rank) (each rank below).last
    done_at rank below =
        let w = each rank below in
        done F is (flow_of f rank) config.ranks aims at_start w.said w.last refl w.over (well rank below) w.goes

    its : Desk
    its = (each (record { 0 = 0 }) some).last

    -- an answer that was sent is stored by rank 0
    answer_comes : (i v : ℕ) (rank : Rank) (below : rank.0 < config.ranks) →
        1 ≤ count_by (reads (flows (untargeted F)) is (is_unit (Answer i v))) (sent None (each rank below).said) →
        HasStored (each (record { 0 = 0 }) some).last.stored i
    answer_comes i v rank below counts = at (got_by (Answer i v) rank below counts)
      where
        at : Found config.ranks
            (λ r. count_by (reads (flows (untargeted F)) is (is_unit (Answer i v))) (got None (calls config ledger r))) →
            HasStored (each (record { 0 = 0 }) some).last.stored i
        at q = elim (cases_eq q.rank.0 0) [
          | inl same ↦
              let here : 1 ≤ count_by (reads (flows (untargeted F)) is (is_unit (Answer i v)))
              (got None (calls config ledger (record { 0 = 0 }))) =
              subst (λ k. 1 ≤ count_by (reads (flows (untargeted F)) is (is_unit (Answer i v)))
              (got None (calls config ledger (record { 0 = k })))) same
              q.some in
              answer_stored F is (Some f) config.ranks aims f refl i v at_start (each (record { 0 = 0 }) some).said
              (each (record { 0 = 0 }) some).last
              (each (record { 0 = 0 }) some).goes (got_said (Answer i v) (record { 0 = 0 }) some here)
          | inr other ↦
              let none = aimed config ledger last some legal (orderly F is config ledger last some aims legal f each) 1 (record { 0 = 0 })
              all_for q.rank q.below other in
              absurd (read_types F is types i v (got None (calls config ledger q.rank)) none q.some)
        ]
          where
            all_for : (r : Rank) → r.0 < config.ranks → All (λ (s : Said). IsPutFor 1 (record { 0 = 0 }) s.call) (calls config ledger r)
            all_for r b =
                let w = each r b in
                subst (All (λ (s : Said). IsPutFor 1 (record { 0 = 0 }) s.call)) (sym w.calls_are)
                (All-append (λ (s : Said). IsPutFor 1 (record { 0 = 0 }) s.call) w.said (finish ∷ [])
                (goes_for F is (flow_of f r) types at_start w.said w.last w.goes)
                (All-cons (λ (s : Said). IsPutFor 1 (record { 0 = 0 }) s.call) finish [] tt
                (All-nil (λ (s : Said). IsPutFor 1 (record { 0 = 0 }) s.call))))

    -- a rule that rank 0 put is stored by it
    put_comes : (i : ℕ) → Contains (each (record { 0 = 0 }) some).last.put i → HasStored (each (record { 0 = 0 }) some).last.stored i
    put_comes i there =
        let w = each (record { 0 = 0 }) some in
        elim (put_ends F is (Some f) config.ranks aims i at_start w.said w.last (well (record { 0 = 0 }) some) w.goes there) [
          | inl none ↦ absurd (omega (arith, none.1))
          | inr ends ↦ elim ends [
            | inl r ↦ at r (got_by (Rule i r.op r.a r.b) (record { 0 = 0 }) some r.counts)
            | inr has ↦ has
          ]
        ]
      where
        at : (r : IsSentRule F is (Some f) i (each (record { 0 = 0 }) some).said) →
            Found config.ranks
            (λ q. count_by (reads (flows (untargeted F)) is (is_unit (Rule i r.op r.a r.b))) (got None (calls config ledger q))) →
            HasStored (each (record { 0 = 0 }) some).last.stored i
        at r q = elim (rule_ends F is (flow_of f q.rank) config.ranks aims i r.op r.a r.b at_start (each q.rank q.below).said
            (each q.rank q.below).last
            (done_at q.rank q.below).none_owed (well q.rank q.below) (ok q.rank q.below) (each q.rank q.below).goes
            (got_said (Rule i r.op r.a r.b) q.rank q.below q.some)) [
              | inl sent_it ↦ answer_comes i (apply r.op r.a r.b) q.rank q.below sent_it
              | inr has ↦ elim (cases_eq q.rank.0 0) [
                | inl same ↦ at_zero q.rank.0 q.below same has
                | inr other ↦
                    let none = none_stored F is (flow_of f q.rank) at_start (each q.rank q.below).said (each q.rank q.below).last
                    (no_flow q.rank other) (each q.rank q.below).goes in
                    absurd (let t = subst (λ l. Contains l (i, has.v)) none has.there in omega (arith, t.1))
              ]
            ]
          where
            no_flow : (r : Rank) → (r.0 ≡ 0 → ⊥) → flow_of f r ≡ None
            no_flow r other = ap (λ b. cond b (Some f) None) (ne_eqb r.0 0 other)

            ok : (r : Rank) (b : r.0 < config.ranks) → flow_of f r ≡ None →
                All (λ (s : Said). IsRejected F is (flow_of f r) s → ⊥) (each r b).said
            ok r b none = never r b (λ zero. absurd (let x : Some f ≡ None = ap (λ k. flow_of f (record { 0 = k })) (sym zero) ∙
                none in cc))

            at_zero : (k : ℕ) (b : k < config.ranks) → k ≡ 0 → HasStored (each (record { 0 = k }) b).last.stored i →
                HasStored (each (record { 0 = 0 }) some).last.stored i
            at_zero zero b e has = subst (λ z. HasStored (each (record { 0 = 0 }) z).last.stored i) (le_prop b some) has
            at_zero (suc k) b e has = absurd (omega (arith, e))

    -- what has a value is known to rank 0, and a rule that has one is put
    record IsKnown (name : Name) : Type 0 where
      v : ℕ
      knows : Knows f (each (record { 0 = 0 }) some).last.stored name v

    put_it : (i : ℕ) (name : Name) (op : Op) (left right : Name) → IsRule f i name op left right → IsKnown left → IsKnown right →
        Contains (each (record { 0 = 0 }) some).last.put i
    put_it i name op left right rule l r =
        (done_at (record { 0 = 0 }) some).may i op l.v r.v (record {
          name = name;
          left = left;
          right = right;
          is = rule;
          of_left = l.knows;
          of_right = r.knows;
        })

    known : (name : Name) (v : ℕ) → HasValue f name v → IsKnown name
    known _ _ (value_given name v there) = record { v = v; knows = given name v there }
    known _ _ (ruled name op left right a b there l r) =
        let place = place_of f (defines.Rule name op left right) there in
        let has = put_comes place.0 (put_it place.0 name op left right place.1 (known left a l) (known right b r)) in
        record { v = has.v; knows = stored_is name has.v place.0 op left right place.1 has.there }

    -- the rules of the same name and number
    pub each_is_put : (i : ℕ) (name : Name) (op : Op) (left right : Name) (v : ℕ) → IsRule f i name op left right → HasValue f name v →
        Contains (each (record { 0 = 0 }) some).last.put i
    each_is_put i name op left right _ rule (value_given _ v there) =
        let same = same_definition f distinct (defines.Rule name op left right) (defines.Let name v)
        (there_at f i (defines.Rule name op left right) rule) there refl in
        absurd (cc)
    each_is_put i name op left right _ rule (ruled _ op' left' right' a b there l r) =
        let same : defines.Rule name op left right ≡ defines.Rule name op' left' right' =
        same_definition f distinct (defines.Rule name op left right) (defines.Rule name op' left' right')
        (there_at f i (defines.Rule name op left right) rule) there refl in
        let e_left : left' ≡ left = cc in
        let e_right : right' ≡ right = cc in
        put_it i name op left right rule (subst IsKnown e_left (known left' a l)) (subst IsKnown e_right (known right' b r))
