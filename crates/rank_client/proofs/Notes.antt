-- The notes of units that are held, after one call more.
use Rattle.std.proofs.Common.{◌≡◌, ◌⊎◌, inl, inr, ◌↔◌, ◌||◌, not, Bool, true, false, List, [], ◌∷◌, ◌++◌, filter, Option, None, Some, refl}
use Rattle.std.proofs.Common.{sym, ap, ◌∙◌}
use Rattle.std.proofs.Common.{arith, subst}
use Rattle.std.proofs.lemmas.Bool.{or_parts}
use Rattle.std.proofs.lemmas.List.Elements.{Contains-push_cases}
use Rattle.std.proofs.lemmas.List.Folds.{find-append}
use Rattle.adlb_unit.proofs.Same.{same_unit_from, same_unit_is}
use Rattle.adlb_unit.specs.declared.names.UnitId.{UnitId}
use Rattle.adlb_unit.specs.declared.notes.UnitNote.{UnitNote}
use Rattle.adlb_unit.specs.Ids.{same_unit}
use Rattle.bag_ledger.specs.declared.entries.Answer.{Answer}
use Rattle.bag_ledger.specs.declared.entries.Answer.TheVariants as answers
use Rattle.bag_ledger.specs.declared.entries.Call.{Call}
use Rattle.bag_ledger.specs.declared.entries.Call.TheVariants as calls_to
use Rattle.bag_ledger.specs.declared.entries.Said.{Said}
use Rattle.bag_ledger.proofs.Lookups.{find_appended, find_before, find_filtered, find_unfiltered}
use Rattle.bag_ledger.proofs.Moves.{apart}
use Rattle.rank_client.specs.Calls.{fetches, granted, is_fetched, is_granted, plus}
use Rattle.rank_client.specs.Granted.{IsGrantedFirst}
use Rattle.rank_client.specs.Remembered.{AreHeld, IsTaken, note_with}
use Rattle.rank_client.specs.State.{ClientModel}
use Rattle.rank_client.proofs.Begins.{found_is}
use Rattle.rank_client.proofs.Entries.{some_is}
use Rattle.rank_client.proofs.Transcripts.{fetched_more, granted_before, granted_last}

granted_inner : (a b : UnitNote) → answers.Granted a ≡ answers.Granted b → a ≡ b
granted_inner a b is = cc

granted_is : (said : List Said) (s : Said) (note : UnitNote) → granted note (said ++ s ∷ [])
    → granted note said ⊎ (s.answer ≡ answers.Granted note)
unfolding granted
granted_is said s note g = elim (Contains-push_cases said s (record { call = g.0; answer = answers.Granted note }) g.1) [
  | inl before ↦ inl (g.0, before)
  | inr last ↦ inr (ap (λ (x : Said). x.answer) last)
]

none_granted : (note : UnitNote) → granted note [] → ⊥
unfolding granted
none_granted note g = absurd (omega (arith, g.1.1))

fetched_before : (id : UnitId) (said : List Said) (s : Said) → is_fetched id (said ++ s ∷ []) ≡ false
    → (is_fetched id said ≡ false) × (fetches id s.call ≡ false)
fetched_before id said s none = or_parts (is_fetched id said) (fetches id s.call) (sym (fetched_more id said s) ∙ none)

still_unfetched : (id : UnitId) (said : List Said) (s : Said) → is_fetched id said ≡ false → fetches id s.call ≡ false
    → is_fetched id (said ++ s ∷ []) ≡ false
still_unfetched id said s before now = fetched_more id said s ∙ ap (λ t. t || fetches id s.call) before ∙ now

-- a call that grants nothing
held_more : (said : List Said) (notes now : List UnitNote) (s : Said) → AreHeld said notes
    → ((note : UnitNote) → s.answer ≡ answers.Granted note → ⊥)
    → ((note : UnitNote) → fetches note.id s.call ≡ false → note_with note.id notes ≡ Some note → note_with note.id now ≡ Some note)
    → ((note : UnitNote) → note_with note.id now ≡ Some note
    → (note_with note.id notes ≡ Some note) × (fetches note.id s.call ≡ false))
    → AreHeld (said ++ s ∷ []) now
held_more said notes now s held no_note stays was note = (
  λ there.
      let before = was note there in
      let both = (held note).0 before.0 in
      (granted_before said s note both.0, still_unfetched note.id said s both.1 before.1),
  λ both. elim (granted_is said s note both.0) [
    | inl before ↦ let parts = fetched_before note.id said s both.1 in stays note parts.1 ((held note).1 (before, parts.0))
    | inr last ↦ absurd (no_note note last)
  ],
)

-- and fetches nothing
pub held_same : (said : List Said) (notes : List UnitNote) (call : Call) (answer : Answer) → AreHeld said notes
    → ((note : UnitNote) → answer ≡ answers.Granted note → ⊥) → ((id : UnitId) → fetches id call ≡ false)
    → AreHeld (plus said call (Some answer)) notes
held_same said notes call answer held no_note none =
    held_more said notes notes (record { call = call; answer = answer }) held no_note (λ note other is. is) (λ note is. (is, none note.id))

last_found : (id : UnitId) (notes : List UnitNote) (n : UnitNote) → note_with id notes ≡ None → n.id ≡ id
    → note_with id (notes ++ n ∷ []) ≡ Some n
last_found id notes n absent is =
    let same = same_unit_from n.id id is in rw (find-append (λ (m : UnitNote). same_unit m.id id) notes (n ∷ []), absent, same) refl

-- a unit is granted that was not granted before
pub held_granted : (said : List Said) (notes : List UnitNote) (call : Call) (new : UnitNote) → AreHeld said notes
    → note_with new.id notes ≡ None → is_fetched new.id said ≡ false → ((id : UnitId) → fetches id call ≡ false)
    → AreHeld (plus said call (Some (answers.Granted new))) (notes ++ new ∷ [])
held_granted said notes call new held absent unfetched none note =
    let s : Said = record { call = call; answer = answers.Granted new } in (
      λ there. elim (find_appended (λ m. same_unit m.id note.id) notes new note there) [
        | inl before ↦
            let both = (held note).0 before in
            (granted_before said s note both.0, still_unfetched note.id said s both.1 (none note.id))
        | inr last ↦
            subst (λ (n : UnitNote). granted n (said ++ s ∷ []) × (is_fetched n.id (said ++ s ∷ []) ≡ false)) last.1
            (granted_last said call new, still_unfetched new.id said s unfetched (none new.id))
      ],
      λ both. elim (granted_is said s note both.0) [
        | inl before ↦
            find_before (λ n. same_unit n.id note.id) notes (new ∷ []) note
            ((held note).1 (before, (fetched_before note.id said s both.1).0))
        | inr last ↦
            let same : new ≡ note = granted_inner new note last in
            subst (λ (n : UnitNote). note_with n.id (notes ++ new ∷ []) ≡ Some n) same (last_found new.id notes new absent refl)
      ],
    )

-- of a unit that was not granted no note is held
pub not_held : (s : ClientModel) (id : UnitId) → IsGrantedFirst s → is_granted id s.transcript ≡ false → note_with id s.handles ≡ None
not_held s id first none = by_found (note_with id s.handles) refl
  where
    by_found : (o : Option UnitNote) → note_with id s.handles ≡ o → note_with id s.handles ≡ None
    by_found None is = is
    by_found (Some n) is =
        let here = found_is (λ m. is_granted m.id s.transcript ≡ true) id s.handles n is first.held in
        let there : is_granted id s.transcript ≡ true = ap (λ i. is_granted i s.transcript) (sym here.0) ∙ here.1 in
        absurd (cc (there, none))

-- The unit that is fetched follows those that are held.

abbrev pub others : UnitId → List UnitNote → List UnitNote
others id notes = filter (λ n. not (same_unit n.id id)) notes

module _ (said : List Said) (notes : List UnitNote) (note : UnitNote) (held : AreHeld said notes)
    (found : note_with note.id notes ≡ Some note) where
  gone : note_with note.id (others note.id notes) ≡ None
  gone = find_filtered (λ m. same_unit m.id note.id) notes

  other_kept : (n : UnitNote) → same_unit note.id n.id ≡ false → note_with n.id (others note.id notes) ≡ note_with n.id notes
  other_kept n differs =
      find_unfiltered (λ m. same_unit m.id note.id) (λ m. same_unit m.id n.id) (λ m same. apart note.id n.id differs m.id same) notes

  same_note : (n : UnitNote) → note_with n.id notes ≡ Some n → n.id ≡ note.id → note ≡ n
  same_note n there is = some_is (sym found ∙ ap (λ i. note_with i notes) (sym is) ∙ there)

  moved : (n : UnitNote) → (note_with n.id (others note.id notes ++ note ∷ []) ≡ Some n) ↔ (note_with n.id notes ≡ Some n)
  moved n = (
    λ there. elim (find_appended (λ m. same_unit m.id n.id) (others note.id notes) note n there) [
      | inl before ↦ by_test (same_unit note.id n.id) refl before
      | inr last ↦ subst (λ (m : UnitNote). note_with m.id notes ≡ Some m) last.1 found
    ],
    λ there. into (same_unit note.id n.id) refl there,
  )
    where
      by_test : (b : Bool) → same_unit note.id n.id ≡ b → note_with n.id (others note.id notes) ≡ Some n → note_with n.id notes ≡ Some n
      by_test true same before =
          let is : note.id ≡ n.id = same_unit_is note.id n.id same in
          let none : note_with n.id (others note.id notes) ≡ None = ap (λ i. note_with i (others note.id notes)) (sym is) ∙ gone in
          absurd (cc (none, before))
      by_test false differs before = sym (other_kept n differs) ∙ before

      into : (b : Bool) → same_unit note.id n.id ≡ b → note_with n.id notes ≡ Some n
          → note_with n.id (others note.id notes ++ note ∷ []) ≡ Some n
      into true same there =
          let is : note.id ≡ n.id = same_unit_is note.id n.id same in
          let one : note ≡ n = same_note n there (sym is) in
          subst (λ (m : UnitNote). note_with m.id (others note.id notes ++ note ∷ []) ≡ Some m) one
          (last_found note.id (others note.id notes) note gone refl)
      into false differs there =
          find_before (λ m. same_unit m.id n.id) (others note.id notes) (note ∷ []) n (other_kept n differs ∙ there)

  pub held_taken : AreHeld said (others note.id notes ++ note ∷ [])
  held_taken n = (λ there. (held n).0 ((moved n).0 there), λ both. (moved n).1 ((held n).1 both))

  pub taken : IsTaken said (others note.id notes) note
  taken = record {
    only = λ n g is.
        let unfetched : is_fetched n.id said ≡ false = ap (λ i. is_fetched i said) is ∙ ((held note).0 found).1 in
        sym (same_note n ((held n).1 (g, unfetched)) is);
    gone = gone;
  }

-- its bytes have come
pub held_fetched : (said : List Said) (notes : List UnitNote) (note : UnitNote) (body : Answer)
    → ((n : UnitNote) → body ≡ answers.Granted n → ⊥) → AreHeld said (notes ++ note ∷ []) → note_with note.id notes ≡ None
    → AreHeld (plus said (calls_to.Fetch note.id) (Some body)) notes
held_fetched said notes note body no_note held absent =
    held_more said (notes ++ note ∷ []) notes (record { call = calls_to.Fetch note.id; answer = body }) held no_note stays was
  where
    stays : (n : UnitNote) → fetches n.id (calls_to.Fetch note.id) ≡ false → note_with n.id (notes ++ note ∷ []) ≡ Some n
        → note_with n.id notes ≡ Some n
    stays n other there = elim (find_appended (λ m. same_unit m.id n.id) notes note n there) [
      | inl before ↦ before
      | inr last ↦ absurd (cc (last.0, other))
    ]

    differs : (n : UnitNote) → note_with n.id notes ≡ Some n → (b : Bool) → same_unit note.id n.id ≡ b → b ≡ false
    differs n there true same =
        let is : note.id ≡ n.id = same_unit_is note.id n.id same in
        let none : note_with n.id notes ≡ None = ap (λ i. note_with i notes) (sym is) ∙ absent in
        absurd (cc (none, there))
    differs n there false same = refl

    was : (n : UnitNote) → note_with n.id notes ≡ Some n
        → (note_with n.id (notes ++ note ∷ []) ≡ Some n) × (fetches n.id (calls_to.Fetch note.id) ≡ false)
    was n there = (
      find_before (λ m. same_unit m.id n.id) notes (note ∷ []) n there,
      differs n there (same_unit note.id n.id) refl,
    )

-- none is held at the start
pub held_none : AreHeld [] []
held_none note = (λ there. absurd (cc), λ both. absurd (none_granted note both.0))
