-- What a call, a letter and a failure make of a client that knows its transcript.
use Rattle.thread_actors.proofs.Prelude.{Call, ClientModel, IfSome, IsLate, IsSome, Knows, Letter, List, Made, Message, MovesOn, None}
use Rattle.thread_actors.proofs.Prelude.{Option, Rests, Says, Server, Some, Tells, Trouble, arith, begin, call_stamp, call_trouble}
use Rattle.thread_actors.proofs.Prelude.{first_trouble, hear, late, length, letter_stamp, letter_trouble, pending_call, refl, stamp_limit}
use Rattle.thread_actors.proofs.Prelude.{steps_tell, subst, sym, told_trouble, ℕ, ◌<◌, ◌∙◌, ◌≡◌, ◌≤◌}
use Rattle.bag_ledger.specs.declared.entries.Said.{Said}
use Rattle.rank_client.proofs.Entries.{some_is}
use Rattle.std.proofs.Common.{Bool, ap, cond, false, true}
use Rattle.std.proofs.lemmas.Bool.Decides.{nat_tests}
use Rattle.std.specs.Prelude.{nat_le}
use Rattle.adlb_unit.specs.declared.notes.Trouble.TheVariants.{TooLong}
use Rattle.adlb_unit.specs.declared.messages.Message.TheVariants as tells

-- A stamp that is not past the last one.

not_late : (stamp : ℕ) → late stamp ≡ None → stamp < stamp_limit
not_late stamp is = grind (arith, nat_tests)

later_of_none : (before later : Option Trouble) → first_trouble before later ≡ None → later ≡ None
later_of_none None later none = none
later_of_none (Some t) later none = absurd (cc)

-- A step.

pub record Stepped (s : ClientModel) (x : Made) : Type 0 where
  pub knows : Knows x.state
  pub whole : x.state.trouble ≡ None
  pub config : x.state.config ≡ s.config
  pub me : x.state.me ≡ s.me

stepped : (s : ClientModel) (x : Made) (stamp : ℕ) (call : Call) → Tells s stamp call x.answer x.state → late stamp ≡ None
    → s.trouble ≡ None → Stepped s x
stepped s x stamp call tells none whole =
    let still : x.state.trouble ≡ None = tells.trouble ∙ whole in
    let few : length x.state.transcript ≤ x.state.clock = tells.remembers.counted in
    let at : x.state.clock ≡ stamp = tells.clock in
    let below : stamp < stamp_limit = not_late stamp none in
    record {
      knows = record { remembers = tells.remembers; short = omega arith; within = omega arith; late = rw still tt };
      whole = still;
      config = tells.config;
      me = tells.me;
    }

module _ (s : ClientModel) (call : Call) (knows : Knows s) where
  pub begun_says : (x : Made) → begin s call ≡ Some x → Says s.transcript call x.answer x.state
  begun_says x begins = (steps_tell.after_call s call x begins knows.remembers).says

  pub begun : (x : Made) → begin s call ≡ Some x → s.trouble ≡ None → call_trouble s ≡ None → Stepped s x
  begun x begins whole none =
      stepped s x (call_stamp s) call (steps_tell.after_call s call x begins knows.remembers) (later_of_none s.trouble _ none) whole

module _ (s : ClientModel) (from : Server) (letter : Letter) (knows : Knows s) where
  pub heard_says : (x : Made) → hear s from letter ≡ Some x → MovesOn s x.answer x.state
  heard_says x hears = λ said call waits. subst (λ (l : List Said). Says l call x.answer x.state) waits.same
      (steps_tell.after_letter s from letter x call hears knows.remembers waits.pending).says

  -- of the call that is pending
  pub heard : (x : Made) → hear s from letter ≡ Some x → s.trouble ≡ None → letter_trouble s letter ≡ None → Stepped s x
  heard x hears whole none = by_pending (pending_call s.pending) refl (steps_tell.awaited s from letter (rw hears refl))
    where
      by_pending : (o : Option Call) → pending_call s.pending ≡ o → IsSome o → Stepped s x
      by_pending None waits there = absurd (cc)
      by_pending (Some call) waits there =
          stepped s x (letter_stamp s letter) call (steps_tell.after_letter s from letter x call hears knows.remembers waits)
          (later_of_none (told_trouble letter.message) _ (later_of_none s.trouble _ none)) whole

-- a letter of no failed server tells no trouble
pub not_broken : (m : Message) → ((t : Trouble) → m ≡ tells.Broken t → ⊥) → told_trouble m ≡ None
not_broken (tells.Broken t) none = absurd (none t refl)
not_broken _ none = refl

-- A failure.

late_past : (n : ℕ) (e : Trouble) → late n ≡ Some e → IsLate e
late_past n e is = by_test (nat_le stamp_limit n) refl is
  where
    by_test : (b : Bool) → nat_le stamp_limit n ≡ b → cond b (Some (TooLong n)) None ≡ Some e → (stamp : ℕ) → e ≡ TooLong stamp
        → stamp_limit ≤ stamp
    by_test true test is stamp too =
        let same : TooLong n ≡ TooLong stamp = some_is is ∙ too in
        let at : n ≡ stamp = cc in
        let low : stamp_limit ≤ n = grind (arith, nat_tests) in omega (arith, at, low)
    by_test false test is stamp too = absurd (cc)

-- a client that fails at a letter which tells no trouble met a stamp that is too long
pub letter_late : (s : ClientModel) (letter : Letter) (e : Trouble) → s.trouble ≡ None → told_trouble letter.message ≡ None
    → letter_trouble s letter ≡ Some e → late (letter_stamp s letter) ≡ Some e
letter_late s letter e whole untold trouble =
    ap (λ (o : Option Trouble). first_trouble o (late (letter_stamp s letter))) (sym untold)
    ∙ ap (λ (o : Option Trouble). first_trouble o (first_trouble (told_trouble letter.message) (late (letter_stamp s letter)))) (sym whole)
    ∙ trouble

pub letter_fails : (s t : ClientModel) (letter : Letter) (e : Trouble) → t ≡ record s { trouble = Some e } → s.trouble ≡ None
    → told_trouble letter.message ≡ None → letter_trouble s letter ≡ Some e → Knows s → Knows t
letter_fails s t letter e is whole untold trouble knows = subst Knows (sym is) (record {
  remembers = steps_tell.after_failure s (Some e) knows.remembers;
  short = knows.short;
  within = knows.within;
  late = late_past (letter_stamp s letter) e (letter_late s letter e whole untold trouble);
})

-- the trouble of a failure of a client that had not failed
pub first_fail : (before : Option Trouble) (t r : Trouble) → before ≡ None → Some r ≡ first_trouble before (Some t) → r ≡ t
first_fail None t r whole is = some_is is
first_fail (Some u) t r whole is = absurd (cc)

-- whatever fails, the trouble of the first failure stays
pub fail_rests : (s t : ClientModel) (e trouble : Trouble) → t ≡ record s { trouble = Some e }
    → Some e ≡ first_trouble s.trouble (Some trouble) → (s.trouble ≡ None → IsLate trouble) → Rests s → Rests t
fail_rests s t e trouble is first late rests = subst Rests (sym is) (record {
  knows = record {
    remembers = steps_tell.after_failure s (Some e) rests.knows.remembers;
    short = rests.knows.short;
    within = rests.knows.within;
    late = by_trouble s.trouble refl first rests.knows.late;
  };
  idle = λ whole. absurd (cc);
})
  where
    by_trouble : (o : Option Trouble) → s.trouble ≡ o → Some e ≡ first_trouble o (Some trouble) → IfSome o IsLate → IsLate e
    by_trouble None whole first was = subst IsLate (sym (some_is first)) (late whole)
    by_trouble (Some u) met first was = subst IsLate (sym (some_is first)) was
