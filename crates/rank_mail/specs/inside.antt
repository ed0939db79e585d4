-- The rule of a mailbox, and what its two sides are to the crate itself.
use Rattle.std.specs.Prelude.{◌≡◌, ◌<◌, ◌≤◌, ◌+◌, ℕ, true, false, List, [], ◌∷◌, ◌++◌, length, slice_get, slice_index_or, Some}
use mathlib.Core.List.{IsPrefix}
use mathlib.Core.Option.{some}
use lib.ListN.{get_elem?}
use Rattle.adlb_unit.specs.declared.letters.Letter.{Letter}
use Rattle.rank_mail.specs.declared.posted.Known.{Known}
use Rattle.rank_mail.specs.declared.posted.Posted.{Posted}
use Rattle.rank_mail.specs.Mailboxes.{Place, PostModel, InboxModel, letters_of}

-- What a pass knows, and what the five steps make of it.

-- a sender of this number has sent these letters
abbrev pub sender : ℕ → List Letter → Known
sender from sent = record { sends = true; from = from; sent = sent; gets = false; got = []; senders = 0; closed = [] }

-- the receiver of an empty mailbox without senders
abbrev pub receiver : Known
receiver = record { sends = false; from = 0; sent = []; gets = true; got = []; senders = 0; closed = [] }

-- the pass of a sender that was closed
abbrev pub spent : Known
spent = record { sends = false; from = 0; sent = []; gets = false; got = []; senders = 0; closed = [] }

-- what is known after a letter was sent
abbrev pub after_send : Known → Letter → Known
after_send v letter = record v { sent = v.sent ++ letter ∷ [] }

-- what is known after a letter was received
abbrev pub after_receive : Known → Posted → Known
after_receive v x = record v { got = v.got ++ x ∷ [] }

-- one sender more was split off
abbrev pub after_split : Known → Known
after_split v = record v { senders = v.senders + 1 }

-- the receiver has joined this sender's pass
abbrev pub after_join : Known → Known → Known
after_join v w = record v { closed = v.closed ++ w.sent ∷ [] }

-- The rule. Of the senders below `senders` those below `closed` are closed; `all` is what was got and then what the mailbox holds.

-- each open sender has a pass of its own, and all that it sent was got or is held, in order
abbrev pub FitsSender : (ℕ → ℕ) → ℕ → ℕ → List Posted → ℕ → Known → Type 0
FitsSender seat senders closed all i v =
    v.sends ≡ true → (i ≡ seat v.from) × (v.sent ≡ letters_of v.from all) × (closed ≤ v.from) × (v.from < senders)

-- the receiver's pass is one, and it knows what each closed sender sent
abbrev pub FitsReceiver : ℕ → ℕ → ℕ → List Posted → List Posted → ℕ → Known → Type 0
FitsReceiver place senders closed got all i v =
    v.gets ≡ true
    → (i ≡ place) × (v.got ≡ got) × (v.senders ≡ senders) × (length v.closed ≡ closed)
    × ((k : ℕ) → k < closed → slice_index_or v.closed k [] ≡ letters_of k all)

-- a pass agrees with its mailbox, whichever side it is of
abbrev pub Fits : ℕ → (ℕ → ℕ) → ℕ → ℕ → List Posted → List Posted → ℕ → Known → Type 0
Fits place seat senders closed got all i v = FitsSender seat senders closed all i v × FitsReceiver place senders closed got all i v

-- what a sender sent is what was got of it, and then what the mailbox holds of it
abbrev pub Delivers : List Posted → List Known → Type 0
Delivers items views =
    (place : ℕ) × (seat : ℕ → ℕ) × (senders : ℕ) × (closed : ℕ) × (got : List Posted)
    × (closed ≤ senders)
    × ((p : ℕ) → senders ≤ p → letters_of p (got ++ items) ≡ [])
    × ((i : ℕ) (v : Known) → get_elem? views i ≡ some v → Fits place seat senders closed got (got ++ items) i v)

-- what is learnt of a receiver's view: what each closed sender sent
abbrev pub Compares : Known → List Posted → Type 0
Compares v items = (k : ℕ) → k < length v.closed → slice_index_or v.closed k [] ≡ letters_of k (v.got ++ items)

-- One sender of one mailbox.

-- what is seen of a line
pub record LineModel : Type 0 where
  pub place : Place
  pub from : ℕ
  pub sent : List Letter

-- the next sender of an inbox, and the inbox with it
abbrev pub line_of : InboxModel → LineModel
line_of b = record { place = b.place; from = b.senders; sent = [] }

-- the inbox with one sender more
abbrev pub with_line : InboxModel → InboxModel
with_line b = record b { senders = b.senders + 1 }

-- each inbox has closed one sender more; these are the letters that it sent, by inbox
abbrev pub closed_by : List InboxModel → List (List Letter) → List InboxModel
closed_by [] ls = []
closed_by (b ∷ bs) [] = record b { closed = b.closed ++ [] ∷ [] } ∷ closed_by bs []
closed_by (b ∷ bs) (l ∷ ls) = record b { closed = b.closed ++ l ∷ [] } ∷ closed_by bs ls

-- one post after the other is closed
abbrev pub all_closed : List InboxModel → List PostModel → List InboxModel
all_closed bs [] = bs
all_closed bs (p ∷ ps) = all_closed (closed_by bs p.sent) ps

-- what each inbox got of each closed sender is a prefix of what it sent
abbrev pub Agrees : InboxModel → Type 0
Agrees b = (k : ℕ) (sent : List Letter) → slice_get b.closed k ≡ Some sent → IsPrefix (letters_of k b.got) sent
