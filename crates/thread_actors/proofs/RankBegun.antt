-- What is known of a rank's journal whatever the rank met.
use Rattle.thread_actors.proofs.Prelude.{Call, ClientModel, Config, DeskModel, Err, Finish}
use Rattle.thread_actors.proofs.Prelude.{HasCome, IfOk, IsDone, IsRecorded, IsUpTo, Letter}
use Rattle.thread_actors.proofs.Prelude.{List, None, Ok, Option, Rests, Result, Some}
use Rattle.thread_actors.proofs.Prelude.{Trouble, [], ap, option_map, pending_call, refl, subst}
use Rattle.thread_actors.proofs.Prelude.{stamp_limit, start, sym, told, true, with_room, ℕ, ◌++◌, ◌+◌, ◌<◌, ◌∙◌, ◌∷◌, ◌≡◌}
use Rattle.actor_desk.proofs.Letters.{letters_to_more}
use Rattle.actor_desk.specs.Desks.{Begins, is_told, sent_at}
use Rattle.actor_desk.specs.World.{actors, server_named}
use Rattle.adlb_unit.specs.Links.{place_of, sending}
use Rattle.adlb_unit.specs.declared.letters.Sending.{Sending}
use Rattle.bag_ledger.specs.declared.entries.Answer.{Answer}
use Rattle.bag_ledger.specs.declared.entries.Said.{Said}
use Rattle.merge_history.specs.Own.{ClientWalks, letters_to}
use Rattle.rank_client.specs.Calls.{Began, unanswered}
use Rattle.rank_client.specs.declared.pendings.Pending.{Pending}
use Rattle.rank_mail.specs.Mailboxes.{letters_of}
use Rattle.rank_mail.specs.declared.posted.Posted.{Posted}
use Rattle.std.proofs.Common.{Bool, append_assoc, arith, cond, false, filter, inl, inr, map, suc, zero, ◌==◌}
use Rattle.std.proofs.lemmas.List.FromFn.{map-range_with_len_more}
use Rattle.std.specs.List.{AllByRecursion as Each, range_with_len}
use Rattle.std.specs.Prelude.{OnErr}
use Rattle.thread_actors.proofs.Called.{finish_said}
use Rattle.thread_actors.specs.RankJobs.{HasToldAll, IsBegun, ended_by, last_words}
use Rattle.thread_actors.specs.declared.faults.ActorFault.{ActorFault}
use Rattle.adlb_unit.specs.declared.actors.Actor.TheVariants as by
use Rattle.adlb_unit.specs.declared.messages.Message.TheVariants as tells
use Rattle.rank_client.specs.declared.pendings.Pending.TheVariants as waits_for

-- While the client has not failed, and when it fails.

-- a client that has not failed is where it is
stays : (s : ClientModel) → s.trouble ≡ None → s ≡ record s { trouble = None }
stays s whole = ap (λ (o : Option Trouble). record s { trouble = o }) whole

pub whole_up : (d : DeskModel) (more : List Posted) (s : ClientModel) → s.trouble ≡ None → IsRecorded d more s → IsUpTo d s
whole_up d more s whole recorded =
    let was = recorded whole in record {
      walks = subst (λ (t : ClientModel). ClientWalks d.config (start d.config s.me) d.events t) (stays s whole) was.1;
      sends = was.0.sends;
      receives = λ from low. (letters_of from more, sym (was.0.receives from low));
    }

-- it fails at a desk in which room was made
pub failed_up : (d ready : DeskModel) (more : List Posted) (s t : ClientModel) (e : Trouble) → s.trouble ≡ None → IsRecorded d more s
    → with_room ready 0 ≡ with_room d 0 → t ≡ record s { trouble = Some e } → IsUpTo ready t
failed_up d ready more s t e whole recorded room is =
    let was = whole_up d more s whole recorded in
    let bare : IsUpTo (with_room d 0) s = record { walks = was.walks; sends = was.sends; receives = was.receives } in
    let roomy : IsUpTo (with_room ready 0) s = subst (λ (x : DeskModel). IsUpTo x s) (sym room) bare in
    rw is (record { walks = roomy.walks; sends = roomy.sends; receives = roomy.receives })

-- what holds in any case holds at an error
pub any_err : {A F P : Type 0} (r : Result A F) → P → OnErr r P
any_err (Ok a) p = tt
any_err (Err e) p = p

-- it fails once more
pub still_up : (d : DeskModel) (s t : ClientModel) (e : Trouble) → t ≡ record s { trouble = Some e } → IsUpTo d s → IsUpTo d t
still_up d s t e is was = rw is (record { walks = was.walks; sends = was.sends; receives = was.receives })

-- and leaves no other call begun and not answered
pub fail_left : (s t : ClientModel) (e : Trouble) → t ≡ record s { trouble = Some e } → Rests s
    → unanswered t.trouble (pending_call t.pending) ≡ unanswered s.trouble (pending_call s.pending)
fail_left s t e is rests = rw is (by_trouble s.trouble refl)
  where
    by_trouble : (o : Option Trouble) → s.trouble ≡ o → pending_call s.pending ≡ unanswered o (pending_call s.pending)
    by_trouble None whole = ap pending_call (rests.idle whole)
    by_trouble (Some u) met = refl

-- a call came to this
pub came_up : (d : DeskModel) (said : List Said) (call : Call) (s : ClientModel) (r : Result Answer Trouble)
    → IfOk r (λ a. IsDone said call a s) → OnErr r (IsUpTo d s) → IsRecorded d [] s → IsUpTo d s
came_up d said call s (Ok a) done fell recorded = whole_up d [] s done.whole recorded
came_up d said call s (Err e) done fell recorded = fell

-- Leaving.

never_finish : (p : Pending) → pending_call p ≡ Some Finish → ⊥
never_finish waits_for.Nothing is = cc
never_finish _ is = cc

module _ (s t : ClientModel) (r : Result Answer Trouble) (come : HasCome s Finish r t) where
  -- Finish leaves no call that is begun and not answered, but one in which the client had failed
  pub left_still : pending_call t.pending ≡ unanswered s.trouble (pending_call s.pending)
  left_still = by_trouble s.trouble t.trouble come.made.began
    where
      by_trouble : (o now : Option Trouble) → Began o (pending_call s.pending) Finish now (pending_call t.pending)
          → pending_call t.pending ≡ unanswered o (pending_call s.pending)
      by_trouble (Some e) now began = began
      by_trouble None None began = began
      by_trouble None (Some e) (inl none) = none
      by_trouble None (Some e) (inr finish) = absurd (never_finish t.pending finish)

  pub ended_said : (fault : Option ActorFault) → option_map told fault ≡ t.trouble → t.transcript ≡ ended_by fault s.transcript
  ended_said None met = finish_said s t r come (sym met)
  ended_said (Some fault) met = by_result r come
    where
      by_result : (r : Result Answer Trouble) → HasCome s Finish r t → t.transcript ≡ s.transcript
      by_result (Ok a) come = absurd (let none = come.made.failed in cc (none, met))
      by_result (Err e) come = come.made.said

-- Last words.

told_letters : (config : Config) (to : ℕ) (xs : List Sending) → Each (λ (y : Sending). is_told y.letter.message ≡ true) xs
    → Each (λ (l : Letter). is_told l.message ≡ true) (letters_to config to xs)
told_letters config to [] all = tt
told_letters config to (x ∷ xs) all = by_test (place_of config x.to == to) (told_letters config to xs all.1)
  where
    rest : List Sending
    rest = filter (λ (y : Sending). place_of config y.to == to) xs

    by_test : (b : Bool) → Each (λ (l : Letter). is_told l.message ≡ true) (map (λ (y : Sending). y.letter) rest)
        → Each (λ (l : Letter). is_told l.message ≡ true) (map (λ (y : Sending). y.letter) (cond b (x ∷ rest) rest))
    by_test true more = (all.0, more)
    by_test false more = more

abbrev goodbye : Trouble → ℕ → Sending
goodbye trouble n = sending 0 0 (by.Server (server_named n)) (tells.Gone trouble)

all_told : (trouble : Trouble) (from n : ℕ) → Each (λ (y : Sending). is_told y.letter.message ≡ true)
    (map (goodbye trouble) (range_with_len from n))
all_told trouble from zero = tt
all_told trouble from (suc n) = (refl, all_told trouble (from + 1) n)

words_told : (config : Config) (o : Option Trouble) → Each (λ (y : Sending). is_told y.letter.message ≡ true) (last_words config o)
words_told config None = tt
words_told config (Some trouble) = all_told trouble 0 config.servers

-- one server more was told
one_more : (config : Config) (trouble : Trouble) (to n : ℕ) (now then_ old : List Letter)
    → then_ ≡ old ++ letters_to config to (map (goodbye trouble) (range_with_len 0 n))
    → now ≡ then_ ++ letters_to config to (goodbye trouble n ∷ [])
    → now ≡ old ++ letters_to config to (map (goodbye trouble) (range_with_len 0 (n + 1)))
one_more config trouble to n now then_ old was is =
    let so_far = map (goodbye trouble) (range_with_len 0 n) in
    is ∙ ap (λ l. l ++ letters_to config to (goodbye trouble n ∷ [])) was
    ∙ append_assoc old (letters_to config to so_far) (letters_to config to (goodbye trouble n ∷ []))
    ∙ ap (λ l. old ++ l) (sym (letters_to_more config to so_far (goodbye trouble n ∷ [])))
    ∙ ap (λ l. old ++ letters_to config to l) (sym (map-range_with_len_more (goodbye trouble) 0 n n (omega arith)))

pub one_told : (config : Config) (trouble : Trouble) (number : ℕ) (old d e : DeskModel) → d.config ≡ config
    → ((n : ℕ) → n < actors d.config → sent_at e n ≡ sent_at d n ++ letters_to d.config n (goodbye trouble number ∷ []))
    → ((n : ℕ) → n < actors config
    → sent_at d n ≡ sent_at old n ++ letters_to config n (map (goodbye trouble) (range_with_len 0 number)))
    → (n : ℕ) → n < actors config
    → sent_at e n ≡ sent_at old n ++ letters_to config n (map (goodbye trouble) (range_with_len 0 (number + 1)))
one_told config trouble number old d e configs now was n low =
    let told_now =
    subst (λ (k : Config). (n : ℕ) → n < actors k → sent_at e n ≡ sent_at d n ++ letters_to k n (goodbye trouble number ∷ []))
    configs now in
    one_more config trouble n number (sent_at e n) (sent_at d n) (sent_at old n) (was n low) (told_now n low)

-- the desk of a rank that has left
module _ (d e : DeskModel) (s : ClientModel) (o : Option Trouble) (was : IsUpTo d s) (same : e ≡ record d { sent = e.sent })
    (told_all : (n : ℕ) → n < actors d.config → sent_at e n ≡ sent_at d n ++ letters_to d.config n (last_words d.config o)) where
  bare : DeskModel
  bare = record d { sent = e.sent }

  pub gone_told : HasToldAll d.config e o
  gone_told = subst (λ (x : DeskModel). HasToldAll d.config x o) (sym same)
      (λ n low. told_all n low ∙ ap (λ l. l ++ letters_to d.config n (last_words d.config o)) (was.sends n low))

  left_begins : Begins e
  left_begins =
      let here : Begins (record d { sent = e.sent }) = record {
        sends = λ n low. (
          letters_to d.config n (last_words d.config o),
          told_all n low ∙ ap (λ l. l ++ letters_to d.config n (last_words d.config o)) (was.sends n low),
          told_letters d.config n (last_words d.config o) (words_told d.config o),
        );
        receives = was.receives;
      } in
      subst Begins (sym same) here

  pub gone_begun : (said : List Said) (begun : Option Call) → s.transcript ≡ said → pending_call s.pending ≡ begun
      → s.clock < stamp_limit → IsBegun d.config s.me e said begun
  gone_begun said begun transcript pends within = record {
    last = record s { trouble = None };
    walks = subst (λ (x : DeskModel). ClientWalks d.config (start d.config s.me) x.events (record s { trouble = None }))
        (sym same) was.walks;
    transcript = transcript;
    pends = pends;
    within = within;
    begins = left_begins;
  }
