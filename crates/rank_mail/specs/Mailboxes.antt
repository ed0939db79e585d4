-- What contracts see of posts, inboxes and the end of a making of mailboxes. An actor is its number.
use Rattle.std.specs.Prelude.{◌==◌, ◌++◌, ◌∷◌, ℕ, List, [], filter, map, slice_index_or, slice_set}
use Rattle.atomic_table.specs.Seated.{TableId}
use Rattle.atomic_table.specs.declared.badge.Badge.{Badge}
use Rattle.crossbeam_channel.specs.declared.flavors.array.Key.{Key}
use Rattle.adlb_unit.specs.declared.letters.Letter.{Letter}
use Rattle.rank_mail.specs.declared.posted.Posted.{Posted}

-- which mailbox, and for how many letters it has room
pub record Place : Type 0 where
  pub table : TableId
  pub key : Badge (Key Posted)
  pub capacity : ℕ

-- the letters of one sender among these, in order
abbrev pub letters_of : ℕ → List Posted → List Letter
letters_of from all = map (λ p. p.letter) (filter (λ p. p.from == from) all)

-- an actor's post: its number, the mailboxes that it sends to, and for each of them the letters that it sent there
pub record PostModel : Type 0 where
  pub number : ℕ
  pub places : List Place
  pub sent : List (List Letter)

-- an actor's inbox: its mailbox, what was got from it, how many senders it has, and, once they are closed, what each of them sent
pub record InboxModel : Type 0 where
  pub place : Place
  pub got : List Posted
  pub senders : ℕ
  pub closed : List (List Letter)

-- of all mailboxes that are closed, by receiver: what was got, and what each sender sent
pub record ClosedModel : Type 0 where
  pub got : List (List Posted)
  pub sent : List (List (List Letter))

-- the places of inboxes
abbrev pub places_of : List InboxModel → List Place
places_of inboxes = map (λ b. b.place) inboxes

-- at the start nothing was sent
abbrev pub fresh_post : ℕ → List Place → PostModel
fresh_post number places = record { number = number; places = places; sent = map (λ p. []) places }

-- and nothing was got
abbrev pub fresh_inbox : ℕ → Place → InboxModel
fresh_inbox senders place = record { place = place; got = []; senders = senders; closed = [] }

-- the letters that a post sent to an actor
abbrev pub sent_to : PostModel → ℕ → List Letter
sent_to post to = slice_index_or post.sent to []

-- the post after it sent one letter more to an actor
abbrev pub after_sending : PostModel → ℕ → Letter → PostModel
after_sending post to letter = record post { sent = slice_set post.sent to (sent_to post to ++ letter ∷ []) }

-- what was sent on the link from one actor to another, and what was got there
abbrev pub sent_on : ClosedModel → ℕ → ℕ → List Letter
sent_on all from to = slice_index_or (slice_index_or all.sent to []) from []

-- what an actor got from another
abbrev pub got_on : ClosedModel → ℕ → ℕ → List Letter
got_on all from to = letters_of from (slice_index_or all.got to [])
