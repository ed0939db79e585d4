-- Each of the five steps keeps the rule of a mailbox.
use Rattle.std.proofs.Common.{◌≡◌, ◌≢◌, ◌==◌, ◌<◌, ◌≤◌, ◌+◌, ◌⊎◌, ℕ, zero, suc, true, false, true≢false}
use Rattle.std.proofs.Common.{List, [], ◌∷◌, ◌++◌, length, map, filter, set, slice_index_or, slice_get, Some, cond}
use Rattle.std.proofs.Common.{sym, refl, ap, ◌∙◌, subst, ⊎_elim, inl, inr, arith, below_more, eq-eqb, ne_eqb}
use Rattle.std.proofs.Common.{append_assoc, append-nil, length-append}
use Rattle.std.proofs.lemmas.List.Elements.{filter-append}
use Rattle.std.proofs.lemmas.List.{get_or_append_left, map-append}
use Rattle.std.proofs.lemmas.Option.{slice_get_within, get_or_from_slice_get}
use Rattle.std.proofs.Math.Seq.{get_or-append_seam}
use Rattle.std.proofs.lemmas.Bool.{cases_lt}
use mathlib.Core.List.{IsPrefix}
use mathlib.Core.Option.{some, some-injective, some-ne-none}
use lib.ListN.{get_elem?}
use Rattle.atomic_table.proofs.Lists.{at_set}
use Rattle.crossbeam_channel.specs.Fifo.{Pushes, Pops, Forks, Merges, Learns}
use Rattle.adlb_unit.specs.declared.letters.Letter.{Letter}
use Rattle.rank_mail.specs.declared.posted.Known.{Known}
use Rattle.rank_mail.specs.declared.posted.Posted.{Posted}
use Rattle.rank_mail.specs.inside.{sender, receiver, spent, after_send, after_receive, after_split, after_join}
use Rattle.rank_mail.specs.inside.{Fits, Delivers, Compares}
use Rattle.rank_mail.specs.Mailboxes.{letters_of}

abbrev All : (ℕ → Known → Type 0) → List Known → Type 0
All F views = (i : ℕ) (v : Known) → get_elem? views i ≡ some v → F i v

at_end : (l : List Known) (a b : Known) (j : ℕ) → get_elem? l j ≢ some b → get_elem? (l ++ a ∷ []) j ≡ some b → j ≡ length l
at_end [] a b zero n e = refl
at_end [] a b (suc j) n e = absurd (some-ne-none b (sym e))
at_end (x ∷ xs) a b zero n e = absurd (n e)
at_end (x ∷ xs) a b (suc j) n e = ap suc (at_end xs a b j n e)

-- what holds of the changed view, and of each other one, holds of each
all_set : (F : ℕ → Known → Type 0) (views : List Known) (i : ℕ) (w : Known) → F i w
    → ((j : ℕ) (u : Known) → j ≢ i → get_elem? views j ≡ some u → F j u) → All F (set views i w)
all_set F views i w mine others j u e =
    ⊎_elim (λ (x : (j ≡ i) × (w ≡ u)). subst (λ (y : ℕ × Known). F y.0 y.1) (λ k. (sym x.0 k, x.1 k)) mine)
    (λ (x : (j ≢ i) × (get_elem? views j ≡ some u)). others j u x.0 x.1) (at_set views i j w u e)

letters-append : (p : ℕ) (xs ys : List Posted) → letters_of p (xs ++ ys) ≡ letters_of p xs ++ letters_of p ys
letters-append p xs ys =
    ap (map (λ m. m.letter)) (filter-append (λ m. m.from == p) xs ys)
    ∙ map-append (λ m. m.letter) (filter (λ m. m.from == p) xs) (filter (λ m. m.from == p) ys)

letters-own : (p : ℕ) (x : Posted) → x.from ≡ p → letters_of p (x ∷ []) ≡ x.letter ∷ []
letters-own p x e = let t : (x.from == p) ≡ true = eq-eqb x.from p e in rw t refl

letters-other : (p : ℕ) (x : Posted) → x.from ≢ p → letters_of p (x ∷ []) ≡ []
letters-other p x n = let t : (x.from == p) ≡ false = ne_eqb x.from p n in rw t refl

at_last_or : (l : List Known) (a b : Known) (j : ℕ) → get_elem? (l ++ a ∷ []) j ≡ some b
    → (get_elem? l j ≡ some b) ⊎ ((j ≡ length l) × (a ≡ b))
at_last_or [] a b zero e = inr (refl, some-injective a b e)
at_last_or [] a b (suc j) e = absurd (some-ne-none b (sym e))
at_last_or (x ∷ xs) a b zero e = inl e
at_last_or (x ∷ xs) a b (suc j) e = elim (at_last_or xs a b j e) [ inl o ↦ inl o | inr n ↦ inr (ap suc n.0, n.1) ]

-- a channel that holds nothing, with the receiver's pass alone
pub start_delivers : Delivers [] (receiver ∷ [])
start_delivers = (
  0,
  (λ p. 0),
  0,
  0,
  [],
  omega arith,
  (λ p h. refl),
  all_set (Fits 0 (λ p. 0) 0 0 [] []) (receiver ∷ []) 0 receiver
      ((λ p. absurd (true≢false (sym p))), λ p. (refl, refl, refl, refl, λ k h. absurd (omega (arith, h))))
      (λ j u other e. absurd (other (at_end [] _ u j (λ x. some-ne-none u (sym x)) e))),
)

-- a letter is sent
pub send_delivers : (n i : ℕ) (v : Known) (x : Posted) → v.sends ≡ true → x.from ≡ v.from
    → Pushes Delivers n i v x (λ w. w ≡ after_send v x.letter)
send_delivers n i v x may from items views _ h at =
    let seat = h.1 in let got = h.4 in let all = got ++ items in let all' = got ++ (items ++ x ∷ []) in
    let mine = h.7 i v at in let m = mine.0 may in
    let grown : (p : ℕ) → letters_of p all' ≡ letters_of p all ++ letters_of p (x ∷ []) =
    λ p. ap (letters_of p) (sym (append_assoc got items (x ∷ []))) ∙ letters-append p all (x ∷ []) in
    let other : (p : ℕ) → x.from ≢ p → letters_of p all' ≡ letters_of p all =
    λ p ne. grown p ∙ ap (λ l. letters_of p all ++ l) (letters-other p x ne) ∙ append-nil (letters_of p all) in
    let own : letters_of v.from all' ≡ letters_of v.from all ++ x.letter ∷ [] =
    grown v.from ∙ ap (λ l. letters_of v.from all ++ l) (letters-own v.from x from) in
    let past : (k : ℕ) → k < h.3 → letters_of k all' ≡ letters_of k all =
    λ k below. other k (λ same. omega (arith, below, m.2, from, same)) in (
      after_send v x.letter,
      (
        h.0,
        seat,
        h.2,
        h.3,
        got,
        h.5,
        (λ p above. other p (λ same. omega (arith, above, m.3, from, same)) ∙ h.6 p above),
        all_set (Fits h.0 seat h.2 h.3 got all') views i (after_send v x.letter) (
          (λ _. (m.0, ap (λ l. l ++ x.letter ∷ []) m.1 ∙ sym own, m.2, m.3)),
          λ g. let r = mine.1 g in (r.0, r.1, r.2, r.3, λ k below. r.4 k below ∙ sym (past k below)),
        )
            (λ j u ne e.
            let old = h.7 j u e in (
              (λ s.
                  let o = old.0 s in (o.0, o.1 ∙ sym (other u.from (λ same. ne (o.0 ∙ ap seat (sym same ∙ from) ∙ sym m.0))), o.2, o.3)),
              λ g. let r = old.1 g in (r.0, r.1, r.2, r.3, λ k below. r.4 k below ∙ sym (past k below)),
            )),
      ),
      refl,
    )

-- who is a sender has a number below the senders'
sender_within : (senders : ℕ) (x : Posted) (before after : List Posted)
    → ((p : ℕ) → senders ≤ p → letters_of p (before ++ x ∷ after) ≡ []) → x.from < senders
sender_within senders x before after none = elim (cases_lt x.from senders) [
  | inl below ↦ below
  | inr above ↦
      let at : letters_of x.from (before ++ x ∷ after) ≡ letters_of x.from before ++ x.letter ∷ letters_of x.from after =
      letters-append x.from before (x ∷ after)
      ∙ ap (λ l. letters_of x.from before ++ l)
      (letters-append x.from (x ∷ []) after ∙ ap (λ l. l ++ letters_of x.from after) (letters-own x.from x refl)) in
      let long : length (letters_of x.from (before ++ x ∷ after)) ≡ 0 = ap length (none x.from above) in
      absurd (omega (arith, long, ap length at, length-append (letters_of x.from before) (x.letter ∷ letters_of x.from after)))
]

-- a letter is received
pub receive_delivers : (i : ℕ) (v : Known) → v.gets ≡ true → Pops Delivers i v (λ x w. (w ≡ after_receive v x) × (x.from < v.senders))
receive_delivers i v may x items views h at =
    let got = h.4 ++ x ∷ [] in let mine = h.7 i v at in let r = mine.1 may in
    let keep : (p : ℕ) → letters_of p (h.4 ++ x ∷ items) ≡ letters_of p (got ++ items) =
    λ p. ap (letters_of p) (sym (append_assoc h.4 (x ∷ []) items)) in
    let within : x.from < h.2 = sender_within h.2 x h.4 items h.6 in (
      after_receive v x,
      (
        h.0,
        h.1,
        h.2,
        h.3,
        got,
        h.5,
        (λ p above. sym (keep p) ∙ h.6 p above),
        all_set (Fits h.0 h.1 h.2 h.3 got (got ++ items)) views i (after_receive v x) (
          (λ s. let o = mine.0 s in (o.0, o.1 ∙ keep v.from, o.2, o.3)),
          λ _. (r.0, ap (λ l. l ++ x ∷ []) r.1, r.2, r.3, λ k below. r.4 k below ∙ keep k),
        )
            (λ j u ne e.
            let old = h.7 j u e in (
              (λ s. let o = old.0 s in (o.0, o.1 ∙ keep u.from, o.2, o.3)),
              λ g. absurd (ne ((old.1 g).0 ∙ sym r.0)),
            )),
      ),
      (refl, omega (arith, within, r.2)),
    )

-- a sender is split off
pub split_delivers : (i : ℕ) (v : Known) → v.gets ≡ true → Forks Delivers i v (after_split v) (sender v.senders [])
split_delivers i v may items views h at =
    let senders = h.2 in let all = h.4 ++ items in let vs : List Known = set views i (after_split v) in let new = length vs in
    let mine = h.7 i v at in let r = mine.1 may in
    let seat : ℕ → ℕ = λ p. cond (p == senders) new (h.1 p) in
    let low : (p : ℕ) → p < senders → h.1 p ≡ seat p =
    λ p below. let t : (p == senders) ≡ false = ne_eqb p senders (λ e. omega (arith, e, below)) in rw t refl in
    let top : seat v.senders ≡ new = let t : (v.senders == senders) ≡ true = eq-eqb v.senders senders r.2 in rw t refl in
    let Now : ℕ → Known → Type 0 = Fits h.0 seat (senders + 1) h.3 h.4 all in
    let now : All Now vs = all_set Now views i (after_split v) (
      (λ s. let o = mine.0 s in (o.0 ∙ low v.from o.3, o.1, o.2, omega (arith, o.3))),
      λ _. (r.0, r.1, ap (λ n. n + 1) r.2, r.3, r.4),
    )
    (λ j u ne e.
    let old = h.7 j u e in (
      (λ s. let o = old.0 s in (o.0 ∙ low u.from o.3, o.1, o.2, omega (arith, o.3))),
      λ g. absurd (ne ((old.1 g).0 ∙ sym r.0)),
    )) in
    let fresh : Now new (sender v.senders []) = (
      (λ _. (sym top, sym (h.6 v.senders (omega (arith, r.2))), omega (arith, h.5, r.2), omega (arith, r.2))),
      λ g. absurd (true≢false (sym g)),
    ) in (
      h.0,
      seat,
      senders + 1,
      h.3,
      h.4,
      omega (arith, h.5),
      (λ p above. h.6 p (omega (arith, above))),
      λ j u e.
          elim (at_last_or vs (sender v.senders []) u j e) [
            | inl x ↦ now j u x
            | inr n ↦ subst (λ (y : ℕ × Known). Now y.0 y.1) (λ k. (sym n.0 k, n.1 k)) fresh
          ],
    )

-- the sender whose number is the next is closed
pub join_delivers : (i : ℕ) (v : Known) (o : ℕ) (u : Known) → v.gets ≡ true → u.sends ≡ true → u.from ≡ length v.closed
    → Merges Delivers i v o u (after_join v u) spent
join_delivers i v o u may sends next items views h at two at' =
    let all = h.4 ++ items in let closed = h.3 in let both : Known = after_join v u in let vs : List Known = set views i both in
    let mine = h.7 i v at in let r = mine.1 may in
    let was : get_elem? views o ≡ some u = ⊎_elim (λ x. absurd (two x.0)) (λ x. x.1) (at_set views i o both u at') in
    let theirs = (h.7 o u was).0 sends in
    let is : u.from ≡ closed = next ∙ r.3 in
    let later : (j : ℕ) (from : ℕ) → j ≢ o → j ≡ h.1 from → closed ≤ from → closed + 1 ≤ from =
    λ j from apart seat low.
    let ne : from ≢ u.from = λ same. apart (seat ∙ ap h.1 same ∙ sym theirs.0) in omega (arith, low, is, ne) in
    let known : (k : ℕ) → k < closed + 1 → slice_index_or (v.closed ++ u.sent ∷ []) k [] ≡ letters_of k all =
    below_more (λ k. slice_index_or (v.closed ++ u.sent ∷ []) k [] ≡ letters_of k all) closed
    (λ k below. get_or_append_left v.closed (u.sent ∷ []) [] k (omega (arith, below, r.3)) ∙ r.4 k below)
    (rw (sym r.3) (get_or-append_seam v.closed u.sent [] [] ∙ theirs.1 ∙ ap (λ p. letters_of p all) next)) in
    let Now : ℕ → Known → Type 0 = Fits h.0 h.1 h.2 (closed + 1) h.4 all in
    let now : All (λ j y. j ≢ o → Now j y) vs = all_set (λ j y. j ≢ o → Now j y) views i both
    (λ apart. (
      (λ s. let w = mine.0 s in (w.0, w.1, later i v.from apart w.0 w.2, w.3)),
      λ _. (r.0, r.1, r.2, omega (arith, r.3, length-append v.closed (u.sent ∷ [])), known),
    ))
    (λ j y ne e apart.
    let old = h.7 j y e in (
      (λ s. let w = old.0 s in (w.0, w.1, later j y.from apart w.0 w.2, w.3)),
      λ g. absurd (ne ((old.1 g).0 ∙ sym r.0)),
    )) in (
      h.0,
      h.1,
      h.2,
      closed + 1,
      h.4,
      omega (arith, is, theirs.3),
      h.6,
      all_set Now vs o spent ((λ p. absurd (true≢false (sym p))), λ p. absurd (true≢false (sym p))) (λ j y apart e. now j y e apart),
    )

-- the receiver learns how what it got and what the channel holds compare with what the closed senders sent
pub receiver_learns : (i : ℕ) (v : Known) → v.gets ≡ true → Learns Delivers i v (Compares v)
receiver_learns i v may items views h at k below =
    let r = (h.7 i v at).1 may in r.4 k (omega (arith, below, r.3)) ∙ ap (λ l. letters_of k (l ++ items)) (sym r.1)

-- so what was got of a closed sender is a prefix of what it sent
pub agrees_from : (v : Known) (items : List Posted) → Compares v items
    → (k : ℕ) (sent : List Letter) → slice_get v.closed k ≡ Some sent → IsPrefix (letters_of k v.got) sent
agrees_from v items compares k sent at = (
  letters_of k items,
  sym (letters-append k v.got items) ∙ sym (compares k (slice_get_within v.closed k sent at)) ∙ get_or_from_slice_get v.closed k sent [] at,
)
