-- A client that fails by a stamp that is too long.
use Rattle.thread_actors.proofs.Prelude.{Bool, Call, ClientModel, DeskModel, Err, IfErr, IsRecorded, IsSome, Letter, List, None, Ok}
use Rattle.thread_actors.proofs.Prelude.{Option, Result, Server, Some, Trouble, ap, call_stamp, call_trouble, cond, false}
use Rattle.thread_actors.proofs.Prelude.{first_trouble, hear, late, letter_stamp, letter_trouble, not, received, refl, stamp_limit, subst}
use Rattle.thread_actors.proofs.Prelude.{sym, told_trouble, true, with_room, ℕ, ◌<◌, ◌∙◌, ◌≡◌}
use Rattle.adlb_unit.specs.declared.notes.Trouble.TheVariants.{Memory, TooLong}
use Rattle.bag_ledger.specs.declared.entries.Answer.{Answer}
use Rattle.bag_ledger.specs.declared.entries.Said.{Said}
use Rattle.rank_client.proofs.Entries.{some_is}
use Rattle.rank_client.specs.Calls.{is_finish}
use Rattle.std.proofs.Common.{inl, inr}
use Rattle.std.specs.Prelude.{IfOk, OnErr, nat_le}
use Rattle.thread_actors.proofs.RankSteps.{letter_late}
use Rattle.thread_actors.specs.RankJobs.{IsNextLetter, IsStopped, WouldBear}
use Rattle.thread_actors.specs.inside.Wires.{IsDone, IsUpTo, MeetsLimit}
use Rattle.adlb_unit.specs.declared.actors.Actor.TheVariants as by
use Rattle.merge_history.specs.declared.causes.Cause.TheVariants as causes

late_is : (n : ℕ) (e : Trouble) → late n ≡ Some e → e ≡ TooLong n
late_is n e is = by_test (nat_le stamp_limit n) is
  where
    by_test : (b : Bool) → cond b (Some (TooLong n)) None ≡ Some e → e ≡ TooLong n
    by_test true is = sym (some_is is)
    by_test false is = absurd (cc)

same_stamp : (a b : ℕ) → TooLong a ≡ TooLong b → a ≡ b
same_stamp a b is = cc

-- the trouble with which a client failed
failed_with : (s t : ClientModel) (e u : Trouble) → t ≡ record s { trouble = Some e } → t.trouble ≡ Some u → e ≡ u
failed_with s t e u is met = some_is (sym (ap (λ (k : ClientModel). k.trouble) is) ∙ met)

-- a failure for want of memory meets no limit
pub memory_limit : (d : DeskModel) (s t : ClientModel) (e : Trouble) → t ≡ record s { trouble = Some e } → e ≡ Memory → MeetsLimit d t
memory_limit d s t e is memory = λ stamp met. absurd (let same = failed_with s t e (TooLong stamp) is met in cc (same, memory))

-- A call.

module _ {X : Type 0} (s t : ClientModel) (call : Call) (r : Result X Trouble) (e : Trouble) (whole : s.trouble ≡ None) (fails : r ≡ Err e)
    (troubled : (u : Trouble) → call_trouble s ≡ Some u → r ≡ Err u)
    (memory : call_trouble s ≡ None → IfErr r (λ u. (u ≡ Memory) × (is_finish call ≡ false))) where
  call_bears : (stamp : ℕ) → e ≡ TooLong stamp → stamp ≡ call_stamp s
  call_bears stamp is = by_trouble (call_trouble s) refl
    where
      by_trouble : (o : Option Trouble) → call_trouble s ≡ o → stamp ≡ call_stamp s
      by_trouble None none =
          absurd (let same = (subst (λ (r : Result X Trouble). IfErr r (λ u. (u ≡ Memory) × (is_finish call ≡ false))) fails
          (memory none)).0 in cc (same, is))
      by_trouble (Some u) some =
          let mine : Err u ≡ Err e = sym (troubled u some) ∙ fails in
          let late_one = late_is (call_stamp s) u (ap (λ (o : Option Trouble). first_trouble o (late (call_stamp s))) (sym whole) ∙ some) in
          same_stamp stamp (call_stamp s) (cc (mine, late_one, is))

  pub call_limit : (d : DeskModel) → t ≡ record s { trouble = Some e } → MeetsLimit d t
  call_limit d is = λ stamp met. rw is (inl (call_bears stamp (failed_with s t e (TooLong stamp) is met)))

-- A letter.

-- room changes nothing of what was received
next_roomy : (d ready : DeskModel) (s : ClientModel) (stamp : ℕ) → with_room ready 0 ≡ with_room d 0 → IsNextLetter d.config s d stamp
    → IsNextLetter ready.config s ready stamp
next_roomy d ready s stamp room next =
    let bare : IsNextLetter (with_room d 0).config s (with_room d 0) stamp = record {
      server = next.server;
      within = next.within;
      letter = next.letter;
      expected = next.expected;
      stamp_is = next.stamp_is;
      receives = next.receives;
    } in
    let back : IsNextLetter (with_room ready 0).config s (with_room ready 0) stamp =
    subst (λ (x : DeskModel). IsNextLetter x.config s x stamp) (sym room) bare in
    record {
      server = back.server;
      within = back.within;
      letter = back.letter;
      expected = back.expected;
      stamp_is = back.stamp_is;
      receives = back.receives;
    }

pub letter_limit : (d ready : DeskModel) (s t : ClientModel) (from : Server) (letter : Letter) (e : Trouble) → s.trouble ≡ None
    → IsRecorded d (received d.config (causes.Got (by.Server from) letter)) s → with_room ready 0 ≡ with_room d 0
    → from.0 < d.config.servers → IsSome (hear s from letter) → told_trouble letter.message ≡ None
    → letter_trouble s letter ≡ Some e → t ≡ record s { trouble = Some e } → MeetsLimit ready t
letter_limit d ready s t from letter e whole recorded room within expected untold trouble is = λ stamp met.
    let last = record s { trouble = None } in
    let stays : s ≡ last = ap (λ (o : Option Trouble). record s { trouble = o }) whole in
    let late_one = letter_late s letter e whole untold trouble in
    let here = late_is (letter_stamp s letter) e late_one in
    let same : stamp ≡ letter_stamp s letter = same_stamp stamp (letter_stamp s letter)
    (sym (failed_with s t e (TooLong stamp) is met) ∙ here) in
    let next : IsNextLetter d.config last d stamp = record {
      server = from;
      within = within;
      letter = letter;
      expected = subst (λ (k : ClientModel). IsSome (hear k from letter)) stays expected;
      stamp_is = same;
      receives = (recorded whole).0.receives;
    } in
    rw is (inr (next_roomy d ready last stamp room next))

-- What comes later.

pub err_weaker : {A F P Q : Type 0} (r : Result A F) → OnErr r P → (P → Q) → OnErr r Q
err_weaker (Ok a) p h = tt
err_weaker (Err e) p h = h p

-- a call came to this
pub came_limit : (d : DeskModel) (said : List Said) (call : Call) (s : ClientModel) (was_told : Bool) (r : Result Answer Trouble)
    → IfOk r (λ a. IsDone said call a s) → OnErr r (was_told ≡ false → MeetsLimit d s) → was_told ≡ false → MeetsLimit d s
came_limit d said call s was_told (Ok a) done fell own = λ stamp met. absurd (let whole = done.whole in cc (whole, met))
came_limit d said call s was_told (Err e) done fell own = fell own

-- another failure changes nothing of that
pub again_limit : (d : DeskModel) (s t : ClientModel) (e trouble : Trouble) → t ≡ record s { trouble = Some e }
    → Some e ≡ first_trouble s.trouble (Some trouble) → (s.trouble ≡ None → (stamp : ℕ) → trouble ≡ TooLong stamp → ⊥) → MeetsLimit d s
    → MeetsLimit d t
again_limit d s t e trouble is first other limit = λ stamp met.
    let same = failed_with s t e (TooLong stamp) is met in
    rw is (by_trouble s.trouble refl first stamp same)
  where
    by_trouble : (o : Option Trouble) → s.trouble ≡ o → Some e ≡ first_trouble o (Some trouble) → (stamp : ℕ) → e ≡ TooLong stamp
        → WouldBear d.config (record s { trouble = None }) d stamp
    by_trouble None whole first stamp same = absurd (other whole stamp (sym (some_is first) ∙ same))
    by_trouble (Some u) failed first stamp same = limit stamp (failed ∙ sym first ∙ ap Some same)

pub not_so : (b : Bool) → not b ≡ true → b ≡ false
not_so true is = absurd (cc)
not_so false is = refl

-- nor does what is told besides
pub left_stopped : (d e : DeskModel) (s : ClientModel) (stamp : ℕ) → IsUpTo d s → e ≡ record d { sent = e.sent } → MeetsLimit d s
    → s.trouble ≡ Some (TooLong stamp) → IsStopped d.config s.me e stamp
left_stopped d e s stamp was same limit met =
    let last = record s { trouble = None } in
    let here : IsStopped d.config s.me (record d { sent = e.sent }) stamp = record {
      last = last;
      walks = was.walks;
      bears = elim (limit stamp met) [
        | inl call ↦ inl call
        | inr next ↦ inr (record {
          server = next.server;
          within = next.within;
          letter = next.letter;
          expected = next.expected;
          stamp_is = next.stamp_is;
          receives = next.receives;
        })
      ];
    } in
    subst (λ (x : DeskModel). IsStopped d.config s.me x stamp) (sym same) here
