-- The letter that came after those of a journal is the next of its link, if an event could get it.
use Rattle.std.proofs.Common.{◌≡◌, ◌⊎◌, inl, inr, ◌<◌, ℕ, true, false, List, [], ◌∷◌, ◌++◌, Option, Some, None, refl, ap, sym}
use Rattle.std.proofs.Common.{◌∙◌, subst, append_assoc, append-nil}
use Rattle.std.proofs.lemmas.List.{append_cancel_left}
use Rattle.std.specs.Prelude.{IsSome}
use Rattle.std.specs.List.{AllByRecursion as Each}
use mathlib.Core.List.{IsPrefix}
use Rattle.adlb_unit.specs.Links.{place_of}
use Rattle.adlb_unit.specs.declared.actors.Actor.{Actor}
use Rattle.adlb_unit.specs.declared.actors.Actor.TheVariants as by
use Rattle.adlb_unit.specs.declared.configs.Config.{Config}
use Rattle.adlb_unit.specs.declared.letters.Letter.{Letter}
use Rattle.adlb_unit.specs.declared.messages.Message.{Message}
use Rattle.adlb_unit.specs.declared.messages.Message.TheVariants as tells
use Rattle.adlb_unit.specs.declared.names.Server.{Server}
use Rattle.rank_client.specs.State.{ClientModel}
use Rattle.rank_client.specs.Step.{hear}
use Rattle.server_law.specs.State.{ServerModel}
use Rattle.server_law.specs.Step.{serve}
use Rattle.core_run.specs.World.{actors}
use Rattle.rank_mail.specs.Mailboxes.{letters_of}
use Rattle.merge_history.specs.Own.{Finals, Walks, got, sent}
use Rattle.actor_desk.specs.Desks.{Begins, DeskModel, is_told, sent_at}
use Rattle.fallen_law.proofs.Fallen.{each_both, front_of, hear_plain, serve_plain, walks_plain}
use Rattle.fallen_law.specs.Fallen.{TellsAfter, tells_trouble}

some_there : {X : Type 0} (o : Option X) → IsSome o → (x : X) × (o ≡ Some x)
some_there None some = absurd cc
some_there (Some x) some = (x, refl)

-- a letter that a client, or a server, has a step for tells of no failure
pub heard_plain : (s : ClientModel) (from : Server) (letter : Letter) → IsSome (hear s from letter) → is_told letter.message ≡ false
heard_plain s from letter some = let x = some_there (hear s from letter) some in hear_plain s from letter x.0 x.1

pub served_plain : (s : ServerModel) (from : Actor) (letter : Letter) → IsSome (serve s from letter) → is_told letter.message ≡ false
served_plain s from letter some = let x = some_there (serve s from letter) some in serve_plain s from letter x.0 x.1

-- the next letter of what was received is the next of what was sent
pub next_of : (config : Config) (finals : Finals) (me : Actor) (from to : ℕ) (d e : DeskModel) (letter : Letter) (later : List Letter)
    → d.config ≡ config → to < actors config → Begins d → Walks config finals me e.events
    → is_told letter.message ≡ false → letters_of from e.got ≡ got config from e.events ++ letter ∷ later
    → IsPrefix (letters_of from e.got) (sent_at d to)
    → (rest : List Letter) × (sent config to d.events ≡ got config from e.events ++ letter ∷ rest)
next_of config finals me from to d e letter later here to_low sends walks plain came link =
    let mine : List Letter = got config from e.events in
    let s = sends.sends to (subst (λ (c : Config). to < actors c) (sym here) to_low) in
    let is : sent_at d to ≡ sent config to d.events ++ s.0 = s.1 ∙ ap (λ (c : Config). sent c to d.events ++ s.0) here in
    let whole : (mine ++ letter ∷ []) ++ (later ++ link.0) ≡ sent config to d.events ++ s.0 =
    append_assoc mine (letter ∷ []) (later ++ link.0)
    ∙ sym (append_assoc mine (letter ∷ later) link.0)
    ∙ ap (λ l. l ++ link.0) (sym came)
    ∙ link.1 ∙ is in
    let front = front_of (mine ++ letter ∷ []) (sent config to d.events) s.0
    (each_both (λ (l : Letter). is_told l.message ≡ false) mine (letter ∷ []) (walks_plain config finals me from e.events walks)
    (plain, tt))
    s.2 (later ++ link.0, whole) in
    (front.0, sym front.1 ∙ append_assoc mine (letter ∷ []) front.0)

-- Where it is not known whether an event could get it.

-- what an actor that failed tells another tells of a failure
told_so : (from to : Actor) (m : Message) → tells_trouble from to m ≡ true → is_told m ≡ true
told_so (by.Rank from) (by.Rank to) m so = absurd (cc)
told_so (by.Rank from) (by.Server to) (tells.Gone trouble) so = refl
told_so (by.Rank from) (by.Server to) _ so = absurd (cc)
told_so (by.Server from) (by.Rank to) (tells.Broken trouble) so = refl
told_so (by.Server from) (by.Rank to) _ so = absurd (cc)
told_so (by.Server from) (by.Server to) (tells.Abort trouble absent) so = refl
told_so (by.Server from) (by.Server to) _ so = absurd (cc)

all_told_so : (from to : Actor) (ls : List Letter) → Each (λ (l : Letter). tells_trouble from to l.message ≡ true) ls
    → Each (λ (l : Letter). is_told l.message ≡ true) ls
all_told_so from to [] all = tt
all_told_so from to (l ∷ ls) all = (told_so from to l.message all.0, all_told_so from to ls all.1)

-- what follows a beginning of two lists is in the first, or begins the second
after_front : (front here more rest : List Letter) (letter : Letter) → front ++ letter ∷ rest ≡ (front ++ here) ++ more
    → ((left : List Letter) × (here ≡ letter ∷ left)) ⊎ ((left : List Letter) × (more ≡ letter ∷ left))
after_front front [] more rest letter is =
    inr (rest, sym (append_cancel_left front _ _ (is ∙ ap (λ l. l ++ more) (append-nil front))))
after_front front (x ∷ here) more rest letter is =
    let same : letter ∷ rest ≡ x ∷ (here ++ more) = append_cancel_left front _ _ (is ∙ append_assoc front (x ∷ here) more) in
    inl (here, λ i. first_same letter x rest (here ++ more) same i ∷ here)
  where
    first_same : (a b : Letter) (xs ys : List Letter) → a ∷ xs ≡ b ∷ ys → b ≡ a
    first_same a b xs ys is = cc

-- it is the next of what was sent, or it tells of a failure
pub first_of_link : (config : Config) (finals : Finals) (me from to : Actor) (d e : DeskModel) (letter : Letter) (later : List Letter)
    → TellsAfter config d from to → Walks config finals me e.events
    → letters_of (place_of config from) e.got ≡ got config (place_of config from) e.events ++ letter ∷ later
    → IsPrefix (letters_of (place_of config from) e.got) (sent_at d (place_of config to))
    → ((rest : List Letter) × (sent config (place_of config to) d.events ≡ got config (place_of config from) e.events ++ letter ∷ rest))
    ⊎ (tells_trouble from to letter.message ≡ true)
first_of_link config finals me from to d e letter later besides walks came link =
    let mine : List Letter = got config (place_of config from) e.events in
    let sends : List Letter = sent config (place_of config to) d.events in
    let whole : mine ++ letter ∷ (later ++ link.0) ≡ sends ++ besides.0 =
    sym (append_assoc mine (letter ∷ later) link.0) ∙ ap (λ l. l ++ link.0) (sym came) ∙ link.1 ∙ besides.1 in
    let front = front_of mine sends besides.0 (walks_plain config finals me (place_of config from) e.events walks)
    (all_told_so from to besides.0 besides.2) (letter ∷ (later ++ link.0), whole) in
    elim (after_front mine front.0 besides.0 (later ++ link.0) letter (whole ∙ ap (λ l. l ++ besides.0) (sym front.1))) [
      | inl next ↦ inl (next.0, sym front.1 ∙ ap (λ l. mine ++ l) next.1)
      | inr more ↦ inr (subst (λ (ls : List Letter). Each (λ (l : Letter). tells_trouble from to l.message ≡ true) ls) more.1 besides.2).0
    ]
