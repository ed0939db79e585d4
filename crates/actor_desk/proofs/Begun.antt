-- What is known of the desk of an actor that may have failed.
use Rattle.std.proofs.Common.{◌≡◌, ◌<◌, ◌==◌, ℕ, Bool, true, false, cond, List, [], ◌∷◌, ◌++◌, map, ap, sym, ◌∙◌, subst, append-nil}
use Rattle.std.proofs.Common.{append_assoc}
use Rattle.std.specs.List.{AllByRecursion as Each}
use Rattle.adlb_unit.specs.Links.{place_of, sending}
use Rattle.adlb_unit.specs.declared.actors.Actor.{Actor}
use Rattle.adlb_unit.specs.declared.configs.Config.{Config}
use Rattle.adlb_unit.specs.declared.letters.Letter.{Letter}
use Rattle.adlb_unit.specs.declared.letters.Sending.{Sending}
use Rattle.adlb_unit.specs.declared.messages.Message.{Message}
use Rattle.merge_history.specs.World.{actors}
use Rattle.merge_history.specs.Own.{got, letters_to, sent}
use Rattle.rank_mail.specs.declared.posted.Posted.{Posted}
use Rattle.rank_mail.specs.Mailboxes.{letters_of}
use Rattle.actor_desk.specs.Desks.{Begins, DeskModel, Tallies, is_told, sent_at, with_room}
use Rattle.actor_desk.proofs.Letters.{letters_of_more}

-- while the actor has not failed
pub tallied_begins : (d : DeskModel) (more : List Posted) → Tallies d more → Begins d
tallied_begins d more was = record {
  sends = λ to low. ([], was.sends to low ∙ sym (append-nil (sent d.config to d.events)), tt);
  receives = λ from low. (letters_of from more, sym (was.receives from low));
}

-- a letter more is received
pub received_begins : (d : DeskModel) (x : Posted) → Begins d → Begins (record d { got = d.got ++ x ∷ [] })
received_begins d x was = record {
  sends = was.sends;
  receives = λ from low.
      let r = was.receives from low in (
        r.0 ++ letters_of from (x ∷ []),
        sym (append_assoc (got d.config from d.events) r.0 (letters_of from (x ∷ [])))
            ∙ ap (λ l. l ++ letters_of from (x ∷ [])) r.1 ∙ sym (letters_of_more from d.got (x ∷ [])),
      );
}

-- room is made
pub roomy_begins : (d e : DeskModel) → with_room e 0 ≡ with_room d 0 → Begins d → Begins e
roomy_begins d e same was =
    let bare : Begins (with_room d 0) = record { sends = was.sends; receives = was.receives } in
    let back : Begins (with_room e 0) = subst Begins (sym same) bare in
    record { sends = back.sends; receives = back.receives }

each_both : (P : Letter → Type 0) (xs ys : List Letter) → Each P xs → Each P ys → Each P (xs ++ ys)
each_both P [] ys a b = b
each_both P (x ∷ xs) ys a b = (a.0, each_both P xs ys a.1 b)

told_letters : (config : Config) (to : Actor) (message : Message) (n : ℕ) → is_told message ≡ true
    → Each (λ l. is_told l.message ≡ true) (letters_to config n (sending 0 0 to message ∷ []))
told_letters config to message n told = by_test (place_of config to == n)
  where
    by_test : (t : Bool)
        → Each (λ (l : Letter). is_told l.message ≡ true) (map (λ (y : Sending). y.letter) (cond t (sending 0 0 to message ∷ []) []))
    by_test true = (told, tt)
    by_test false = tt

-- others are told
pub told_begins : (d e : DeskModel) (to : Actor) (message : Message) → is_told message ≡ true → e ≡ record d { sent = e.sent }
    → ((n : ℕ) → n < actors d.config → sent_at e n ≡ sent_at d n ++ letters_to d.config n (sending 0 0 to message ∷ []))
    → Begins d → Begins e
told_begins d e to message told same sends was =
    let bare : Begins (record d { sent = e.sent }) = record {
      sends = λ n low.
          let s = was.sends n low in
          let more = letters_to d.config n (sending 0 0 to message ∷ []) in (
            s.0 ++ more,
            sends n low ∙ ap (λ l. l ++ more) s.1 ∙ append_assoc (sent d.config n d.events) s.0 more,
            each_both (λ l. is_told l.message ≡ true) s.0 more s.2 (told_letters d.config to message n told),
          );
      receives = was.receives;
    } in
    subst Begins (sym same) bare
