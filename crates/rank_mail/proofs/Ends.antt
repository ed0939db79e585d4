-- What sending, splitting off and closing make of lists of senders and inboxes.
use Rattle.std.proofs.Common.{◌≡◌, ◌<◌, ◌+◌, ℕ, zero, suc, List, [], ◌∷◌, ◌++◌, length, map, take, set, get_or, slice_get, slice_index_or}
use Rattle.std.proofs.Common.{Some, refl, ap, sym, ◌∙◌, arith, append_assoc, append-nil, length-append}
use Rattle.std.proofs.lemmas.List.{length-map}
use Rattle.std.proofs.lemmas.Option.{slice_get-map, get_or_from_slice_get}
use Rattle.std.specs.Option.{option_map}
use mathlib.Core.List.{IsPrefix}
use Rattle.adlb_unit.specs.declared.letters.Letter.{Letter}
use Rattle.rank_mail.specs.inside.{Agrees, LineModel, line_of, with_line, closed_by, all_closed}
use Rattle.rank_mail.specs.Mailboxes.{ClosedModel, Place, PostModel, InboxModel, fresh_inbox, got_on, letters_of, places_of, sent_on}
use Rattle.rank_mail.specs.Mailboxes.{sent_to}
use Rattle.rank_mail.proofs.Lists.{there}

-- Sending.

pub places_sent : (ls : List LineModel) (k : ℕ) (l : LineModel) (letter : Letter) → l ≡ get_or ls k l
    → map (λ x. x.place) (set ls k (record l { sent = l.sent ++ letter ∷ [] })) ≡ map (λ x. x.place) ls
places_sent [] k l letter e = refl
places_sent (y ∷ ys) zero l letter e = λ i. (e i).place ∷ map (λ x. x.place) ys
places_sent (y ∷ ys) (suc k) l letter e = ap (λ ps. y.place ∷ ps) (places_sent ys k l letter e)

pub lists_sent : (ls : List LineModel) (k : ℕ) (l : LineModel) (letter : Letter) → k < length ls → l ≡ get_or ls k l
    → map (λ x. x.sent) (set ls k (record l { sent = l.sent ++ letter ∷ [] }))
    ≡ set (map (λ x. x.sent) ls) k (get_or (map (λ x. x.sent) ls) k [] ++ letter ∷ [])
lists_sent [] k l letter h e = absurd (omega (arith, h))
lists_sent (y ∷ ys) zero l letter h e = λ i. ((e i).sent ++ letter ∷ []) ∷ map (λ x. x.sent) ys
lists_sent (y ∷ ys) (suc k) l letter h e = ap (λ ls. y.sent ∷ ls) (lists_sent ys k l letter (omega (arith, h)) e)

-- Splitting off.

pub line_places : (bs : List InboxModel) → map (λ l. l.place) (map line_of bs) ≡ places_of bs
line_places [] = refl
line_places (b ∷ bs) = ap (λ ps. b.place ∷ ps) (line_places bs)

pub line_lists : (bs : List InboxModel) → map (λ l. l.sent) (map line_of bs) ≡ map (λ p. []) (places_of bs)
line_lists [] = refl
line_lists (b ∷ bs) = ap (λ ls. [] ∷ ls) (line_lists bs)

pub line_numbers : (bs : List InboxModel) (number : ℕ) → ((k : ℕ) (b : InboxModel) → slice_get bs k ≡ Some b → b.senders ≡ number)
    → (k : ℕ) (l : LineModel) → slice_get (map line_of bs) k ≡ Some l → l.from ≡ number
line_numbers [] number h k l at = absurd cc
line_numbers (b ∷ bs) number h zero l at = let is : l ≡ line_of b = cc in ap (λ (y : LineModel). y.from) is ∙ h 0 b refl
line_numbers (b ∷ bs) number h (suc k) l at = line_numbers bs number (λ j b e. h (suc j) b e) k l at

pub senders_fresh : (ps : List Place) (n k : ℕ) (b : InboxModel) → slice_get (map (fresh_inbox n) ps) k ≡ Some b → b.senders ≡ n
senders_fresh [] n k b at = absurd cc
senders_fresh (p ∷ ps) n zero b at = let is : b ≡ fresh_inbox n p = cc in ap (λ (d : InboxModel). d.senders) is
senders_fresh (p ∷ ps) n (suc k) b at = senders_fresh ps n k b at

pub more_fresh : (ps : List Place) (n : ℕ) → map with_line (map (fresh_inbox n) ps) ≡ map (fresh_inbox (n + 1)) ps
more_fresh [] n = refl
more_fresh (p ∷ ps) n = ap (λ l. fresh_inbox (n + 1) p ∷ l) (more_fresh ps n)

pub places_fresh : (ps : List Place) (n : ℕ) → places_of (map (fresh_inbox n) ps) ≡ ps
places_fresh [] n = refl
places_fresh (p ∷ ps) n = ap (λ l. p ∷ l) (places_fresh ps n)

pub fresh_more : (bs : List InboxModel) (b : InboxModel) (n : ℕ) → bs ≡ map (fresh_inbox n) (places_of bs) → b ≡ fresh_inbox n b.place
    → bs ++ b ∷ [] ≡ map (fresh_inbox n) (places_of (bs ++ b ∷ []))
fresh_more [] b n h is = ap (λ x. x ∷ []) is
fresh_more (d ∷ ds) b n h is =
    let head : d ≡ fresh_inbox n d.place = cc in let tail : ds ≡ map (fresh_inbox n) (places_of ds) = cc in
    λ i. head i ∷ fresh_more ds b n tail is i

-- Closing one post: its sender of the first inboxes, and then of all.

abbrev pub front_closed : List InboxModel → List (List Letter) → List InboxModel
front_closed bs [] = bs
front_closed [] (l ∷ ls) = []
front_closed (b ∷ bs) (l ∷ ls) = record b { closed = b.closed ++ l ∷ [] } ∷ front_closed bs ls

pub front_none : (bs : List InboxModel) (ls : List (List Letter)) → front_closed bs (take 0 ls) ≡ bs
front_none [] ls = refl
front_none (b ∷ bs) ls = refl

pub front_at : (bs : List InboxModel) (ls : List (List Letter)) (k : ℕ) (d : InboxModel) → k < length ls
    → get_or (front_closed bs (take k ls)) k d ≡ get_or bs k d
front_at bs [] k d h = absurd (omega (arith, h))
front_at [] (l ∷ ls) zero d h = refl
front_at (b ∷ bs) (l ∷ ls) zero d h = refl
front_at [] (l ∷ ls) (suc k) d h = refl
front_at (b ∷ bs) (l ∷ ls) (suc k) d h = front_at bs ls k d (omega (arith, h))

pub front_next : (bs : List InboxModel) (ls : List (List Letter)) (k : ℕ) (b : InboxModel) (l : List Letter) → slice_get ls k ≡ Some l
    → b ≡ get_or bs k b → k < length bs
    → set (front_closed bs (take k ls)) k (record b { closed = b.closed ++ l ∷ [] }) ≡ front_closed bs (take (suc k) ls)
front_next [] ls k b l at e h = absurd (omega (arith, h))
front_next (d ∷ ds) [] zero b l at e h = absurd cc
front_next (d ∷ ds) [] (suc k) b l at e h = absurd cc
front_next (d ∷ ds) (m ∷ ms) zero b l at e h =
    let same : l ≡ m = cc in
    (λ i. record (e i) { closed = (e i).closed ++ same i ∷ [] } ∷ ds)
    ∙ ap (λ r. record d { closed = d.closed ++ m ∷ [] } ∷ r) (sym (front_none ds ms))
front_next (d ∷ ds) (m ∷ ms) (suc k) b l at e h =
    ap (λ r. record d { closed = d.closed ++ m ∷ [] } ∷ r) (front_next ds ms k b l at e (omega (arith, h)))

pub front_whole : (bs : List InboxModel) (ls : List (List Letter)) → length ls ≡ length bs → front_closed bs ls ≡ closed_by bs ls
front_whole [] [] e = refl
front_whole [] (l ∷ ls) e = absurd (omega (arith, e))
front_whole (b ∷ bs) [] e = absurd (omega (arith, e))
front_whole (b ∷ bs) (l ∷ ls) e = ap (λ r. record b { closed = b.closed ++ l ∷ [] } ∷ r) (front_whole bs ls (omega (arith, e)))

pub place_at : (bs : List InboxModel) (ls : List LineModel) (k : ℕ) (b : InboxModel) (l : LineModel) → map (λ x. x.place) ls ≡ places_of bs
    → slice_get ls k ≡ Some l → b ≡ get_or bs k b → k < length bs → l.place ≡ b.place
place_at [] ls k b l same at e h = absurd (omega (arith, h))
place_at (d ∷ ds) [] zero b l same at e h = absurd cc
place_at (d ∷ ds) [] (suc k) b l same at e h = absurd cc
place_at (d ∷ ds) (m ∷ ms) zero b l same at e h = cc
place_at (d ∷ ds) (m ∷ ms) (suc k) b l same at e h =
    let tails : map (λ x. x.place) ms ≡ places_of ds = cc in place_at ds ms k b l tails at e (omega (arith, h))

pub same_length : (bs : List InboxModel) (ls : List LineModel) → map (λ x. x.place) ls ≡ places_of bs → length ls ≡ length bs
same_length bs ls e = sym (length-map ls (λ l. l.place)) ∙ ap length e ∙ length-map bs (λ b. b.place)

-- Closing all posts.

pub places_closed : (bs : List InboxModel) (ls : List (List Letter)) → places_of (closed_by bs ls) ≡ places_of bs
places_closed [] ls = refl
places_closed (b ∷ bs) [] = ap (λ ps. b.place ∷ ps) (places_closed bs [])
places_closed (b ∷ bs) (l ∷ ls) = ap (λ ps. b.place ∷ ps) (places_closed bs ls)

-- an inbox after one sender more was closed
abbrev pub with_closed : InboxModel → List Letter → InboxModel
with_closed b sent = record b { closed = b.closed ++ sent ∷ [] }

pub closed_at : (bs : List InboxModel) (ls : List (List Letter)) (k : ℕ) (b : InboxModel) → slice_get bs k ≡ Some b
    → slice_get (closed_by bs ls) k ≡ Some (with_closed b (slice_index_or ls k []))
closed_at [] ls k b at = absurd cc
closed_at (d ∷ ds) [] zero b at = let is : d ≡ b = cc in ap (λ (x : InboxModel). Some (with_closed x [])) is
closed_at (d ∷ ds) [] (suc k) b at = closed_at ds [] k b at
closed_at (d ∷ ds) (l ∷ ls) zero b at = let is : d ≡ b = cc in ap (λ (x : InboxModel). Some (with_closed x l)) is
closed_at (d ∷ ds) (l ∷ ls) (suc k) b at = closed_at ds ls k b at

pub closed_longer : (bs : List InboxModel) (ls : List (List Letter)) (n : ℕ)
    → ((k : ℕ) (b : InboxModel) → slice_get bs k ≡ Some b → length b.closed ≡ n)
    → (k : ℕ) (b : InboxModel) → slice_get (closed_by bs ls) k ≡ Some b → length b.closed ≡ n + 1
closed_longer [] ls n h k b at = absurd cc
closed_longer (d ∷ ds) [] n h zero b at =
    let is : b ≡ with_closed d [] = cc in
    ap (λ (x : InboxModel). length x.closed) is ∙ omega (arith, length-append d.closed ([] ∷ []), h 0 d refl)
closed_longer (d ∷ ds) [] n h (suc k) b at = closed_longer ds [] n (λ j x a. h (suc j) x a) k b at
closed_longer (d ∷ ds) (l ∷ ls) n h zero b at =
    let is : b ≡ with_closed d l = cc in
    ap (λ (x : InboxModel). length x.closed) is ∙ omega (arith, length-append d.closed (l ∷ []), h 0 d refl)
closed_longer (d ∷ ds) (l ∷ ls) n h (suc k) b at = closed_longer ds ls n (λ j x a. h (suc j) x a) k b at

-- the inbox at a place once all posts are closed
pub all_closed_at : (bs : List InboxModel) (ps : List PostModel) (k : ℕ) (b : InboxModel) → slice_get bs k ≡ Some b
    → slice_get (all_closed bs ps) k ≡ Some (record b { closed = b.closed ++ map (λ p. sent_to p k) ps })
all_closed_at bs [] k b at = at ∙ ap (λ l. Some (record b { closed = l })) (sym (append-nil b.closed))
all_closed_at bs (p ∷ ps) k b at =
    all_closed_at (closed_by bs p.sent) ps k (with_closed b (sent_to p k)) (closed_at bs p.sent k b at)
    ∙ ap (λ l. Some (record b { closed = l })) (append_assoc b.closed (sent_to p k ∷ []) (map (λ q. sent_to q k) ps))

-- What is then known of each link.

module _ (bs : List InboxModel) (ps : List PostModel) (fresh : (k : ℕ) (b : InboxModel) → slice_get bs k ≡ Some b → b.closed ≡ []) where
  abbrev seen : ClosedModel
  seen = record { got = map (λ b. b.got) (all_closed bs ps); sent = map (λ b. b.closed) (all_closed bs ps) }

  inbox_closed : (k : ℕ) (b : InboxModel) → slice_get bs k ≡ Some b
      → slice_get (all_closed bs ps) k ≡ Some (record b { closed = map (λ p. sent_to p k) ps })
  inbox_closed k b at =
      all_closed_at bs ps k b at ∙ ap (λ l. Some (record b { closed = l ++ map (λ p. sent_to p k) ps })) (fresh k b at)

  pub got_is : (from to : ℕ) (b : InboxModel) → slice_get bs to ≡ Some b → got_on seen from to ≡ letters_of from b.got
  got_is from to b at =
      let here : slice_get seen.got to ≡ Some b.got =
      slice_get-map (λ d. d.got) (all_closed bs ps) to ∙ ap (option_map (λ (d : InboxModel). d.got)) (inbox_closed to b at) in
      ap (letters_of from) (get_or_from_slice_get seen.got to b.got [] here)

  sent_by : (from to : ℕ) (b : InboxModel) → slice_get bs to ≡ Some b
      → sent_on seen from to ≡ get_or (map (λ p. sent_to p to) ps) from []
  sent_by from to b at =
      let here : slice_get seen.sent to ≡ Some (map (λ p. sent_to p to) ps) =
      slice_get-map (λ d. d.closed) (all_closed bs ps) to ∙ ap (option_map (λ (d : InboxModel). d.closed)) (inbox_closed to b at) in
      ap (λ l. get_or l from []) (get_or_from_slice_get seen.sent to (map (λ p. sent_to p to) ps) [] here)

  pub sent_is : (from to : ℕ) (p : PostModel) → slice_get ps from ≡ Some p → to < length bs → sent_on seen from to ≡ sent_to p to
  sent_is from to p at within =
      let b = there bs to within in
      let here : slice_get (map (λ q. sent_to q to) ps) from ≡ Some (sent_to p to) =
      slice_get-map (λ q. sent_to q to) ps from ∙ ap (option_map (λ (q : PostModel). sent_to q to)) at in
      sent_by from to b.0 b.1 ∙ get_or_from_slice_get (map (λ q. sent_to q to) ps) from (sent_to p to) [] here

  pub prefix_is : ((j : ℕ) (b : InboxModel) → slice_get (all_closed bs ps) j ≡ Some b → Agrees b)
      → (from to : ℕ) → from < length ps → to < length bs → IsPrefix (got_on seen from to) (sent_on seen from to)
  prefix_is agree from to inside within =
      let b = there bs to within in let p = there ps from inside in
      let here : slice_get (map (λ q. sent_to q to) ps) from ≡ Some (sent_to p.0 to) =
      slice_get-map (λ q. sent_to q to) ps from ∙ ap (option_map (λ (q : PostModel). sent_to q to)) p.1 in
      let r = agree to (record b.0 { closed = map (λ q. sent_to q to) ps }) (inbox_closed to b.0 b.1) from (sent_to p.0 to) here in
      (r.0, ap (λ l. l ++ r.0) (got_is from to b.0 b.1) ∙ r.1 ∙ sym (sent_is from to p.0 p.1 within))
