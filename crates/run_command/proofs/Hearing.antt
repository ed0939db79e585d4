-- What the rank of a run in line has begun of its program when the stamps run out.
use Rattle.std.proofs.Common.{◌≡◌, ◌≤◌, ◌^◌, ◌++◌, ◌∷◌, ◌∙◌, ℕ, List, [], length, Option, Some, None, Result, Ok, Err, IfErr}
use Rattle.std.proofs.Common.{refl, sym, ap, subst, arith, append-nil, append_assoc, slice_get}
use Rattle.std.proofs.lemmas.List.{length-append}
use Rattle.adlb_unit.specs.declared.names.Rank.{Rank}
use Rattle.adlb_unit.specs.declared.notes.Trouble.{Trouble}
use Rattle.adlb_unit.specs.declared.notes.Trouble.TheVariants as troubles
use Rattle.bag_ledger.specs.declared.entries.Answer.{Answer}
use Rattle.bag_ledger.specs.declared.entries.Call.{Call}
use Rattle.bag_ledger.specs.declared.entries.Said.{Said}
use Rattle.bag_ledger.specs.Bag.{start}
use Rattle.bag_ledger.specs.Runs.{calls}
use Rattle.balance_law.specs.Balanced.{over_ranks}
use Rattle.balance_law.specs.Orderly.{finish}
use Rattle.core_inline.specs.Inline.{IsInline, Run, zeroth}
use Rattle.cover_law.specs.Begun.{begun_by, pending_of}
use Rattle.cover_law.proofs.Begun.{only}
use Rattle.cover_law.proofs.Fronts.{HasFront, front_at}
use Rattle.rank_client.specs.Calls.{Repeats, plus}
use Rattle.run_command.specs.Begun.{HasCome, HaveBegun, hears, leaves, works}
use Rattle.run_command.specs.inside.{HasWorked, IsOneMore, IsTroubleOf}

-- One call more at most.

-- a transcript is one call longer than itself at most
pub one_same : (said : List Said) → IsOneMore said said
one_same said = ([], sym (append-nil said), omega arith)

-- a transcript with one call more is one call longer at most
pub one_plus : (said now : List Said) (call : Call) (answer : Option Answer) → now ≡ plus said call answer → IsOneMore said now
one_plus said now call None is = ([], is ∙ sym (append-nil said), omega arith)
one_plus said now call (Some answer) is = (record { call = call; answer = answer } ∷ [], is, omega arith)

-- A failure is kept.

-- a fault repeats itself
pub repeats_same : (failed : Option Trouble) → Repeats failed failed
repeats_same None = tt
repeats_same (Some trouble) = refl

-- a fault repeats what an equal one does
pub repeats_as : (before now : Option Trouble) (o : Option Trouble) → now ≡ o → Repeats before o → Repeats before now
repeats_as before now o is repeats = subst (λ t. Repeats before t) (sym is) repeats

-- a link that had failed has failed with that trouble
pub repeated : (before now : Option Trouble) (trouble : Trouble) → Repeats before now → before ≡ Some trouble → now ≡ Some trouble
repeated before now trouble repeats is = subst (λ o. Repeats o now) is repeats

-- where nothing failed, a program's only error is that memory failed
pub memory_alone : {O : Type 0} (outcome : Result O Trouble) (worked last : Option Trouble)
    → ((stamp : ℕ) → outcome ≡ Err (troubles.TooLong stamp) → worked ≡ Some (troubles.TooLong stamp)) → Repeats worked last → last ≡ None
    → IfErr outcome (λ trouble. trouble ≡ troubles.Memory)
memory_alone (Ok o) worked last told repeats whole = tt
memory_alone (Err troubles.Memory) worked last told repeats whole = refl
memory_alone (Err (troubles.TooLong stamp)) worked last told repeats whole =
    absurd (let again = repeated worked last (troubles.TooLong stamp) repeats (told stamp refl) in cc (again, whole))

-- Troubles.

-- memory is a trouble in every case
pub memory_is : (long : Type 0) (trouble : Trouble) → trouble ≡ troubles.Memory → IsTroubleOf long trouble
memory_is long trouble is = subst (λ t. IsTroubleOf long t) (sym is) tt

-- a trouble stays one where more is allowed
pub trouble_wider : (long wider : Type 0) (trouble : Trouble) → (long → wider) → IsTroubleOf long trouble → IsTroubleOf wider trouble
trouble_wider long wider troubles.Memory each is = tt
trouble_wider long wider (troubles.TooLong stamp) each is = (is.0, each is.1)

-- How far a rank has come, by cases.

-- what follows in each case follows
pub come_by : {so_far : List Said → Option Call → Type 0} {told : List Said} {pending : Option Call} (Q : Type 0)
    → ((begun : Option Call) → so_far told begun → Q)
    → ((own : List Said) (s : Said) → so_far own (Some s.call) → told ≡ own ++ s ∷ [] → pending ≡ None → Q)
    → ((own : List Said) (begun : Option Call) → so_far own begun → told ≡ own ++ finish ∷ [] → pending ≡ None → Q)
    → HasCome so_far told pending → Q
come_by Q at_work unheard at_end (works begun so) = at_work begun so
come_by Q at_work unheard at_end (hears own s so same none) = unheard own s so same none
come_by Q at_work unheard at_end (leaves own begun so same none) = at_end own begun so same none

-- The rank worked, and finished: the ledger tells what it said, of which all but two calls are those of its program.
module _ {A P : Type 0} (are_programs : ℕ → A → List P → Type 0) (so_far : P → Rank → List Said → Option Call → Type 0) (asked : A)
    (programs : List P) (program : P) (ranks : ℕ) (one_rank : ranks ≡ 1) (are : are_programs ranks asked programs)
    (is : slice_get programs 0 ≡ Some program) (worked : List Said) (work : HasWorked (so_far program zeroth) worked) (last : Run)
    (one : IsOneMore worked last.transcript) (holds : IsInline last)
  where
    -- the run is cut where the rank has heard the calls of its program and no more
    cut : HasFront (start last.config) zeroth work.said
    cut =
        let told = holds.told in
        let behind = work.now.0 in
        front_at (start last.config) told.last last.ledger zeroth work.said (behind ++ (one.0 ++ told.more)) told.legal
        (told.calls_are ∙ ap (λ l. l ++ told.more) (one.1 ∙ ap (λ l. l ++ one.0) work.now.1)
        ∙ append_assoc (work.said ++ behind) one.0 told.more ∙ append_assoc work.said behind (one.0 ++ told.more))

    abbrev Comes : Rank → Type 0
    Comes rank =
        (p : P) × (slice_get programs rank.0 ≡ Some p)
        × HasCome (so_far p rank) (calls last.config cut.front rank) (pending_of cut.middle rank)

    -- if its transcript has 2^35 calls, the rank has begun more than its program can
    pub has_begun : 2 ^ 35 ≤ length last.transcript → HaveBegun are_programs so_far asked ranks (2 ^ 34)
    has_begun enough =
        let its : Comes zeroth =
        (program, is, works work.begun (subst (λ l. so_far program zeroth l work.begun) (sym cut.calls_are) work.so)) in
        let alone = ap (λ n. over_ranks n (begun_by last.config cut.front cut.middle)) holds.one_rank in
        record {
          config = last.config;
          ranks_are = holds.one_rank ∙ sym one_rank;
          ledger = cut.front;
          last = cut.middle;
          legal = cut.run;
          programs = programs;
          are = are;
          each = λ rank below. only Comes its rank.0 (omega (arith, below, one_rank));
          enough = omega (
            arith,
            enough,
            ap length one.1,
            length-append worked one.0,
            ap length work.now.1,
            length-append work.said work.now.0,
            one.2,
            work.now.2,
            alone,
            ap length cut.calls_are,
          );
        }
