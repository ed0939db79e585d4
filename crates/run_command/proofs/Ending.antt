-- How a run ends: with a fault before anything is written, or as the writing of what is told ended.
use Rattle.std.proofs.Common.{◌≡◌, ◌≤◌, ◌+◌, ◌==◌, ℕ, Bool, List, ◌++◌, length, take, Option, Some, None, IfSome, refl, sym, ap, ◌∙◌, subst}
use Rattle.std.proofs.Common.{inl, inr, arith, length-append, append-nil}
use Rattle.std.proofs.lemmas.List.{length-take-le}
use Rattle.std.proofs.lemmas.Bool.{cases_eq, cond-false, ne_eqb}
use Rattle.adlb_io.specs.Inputs.{IsAtEnd}
use Rattle.adlb_io.specs.Outside.{Rises, Takes}
use Rattle.adlb_io.specs.Whole.{TakesPrefix}
use Rattle.adlb_io.specs.declared.sinks.SinkFault.{SinkFault}
use Rattle.adlb_io.specs.declared.sinks.SinkFault.TheVariants as sinks
use Rattle.run_command.specs.Ends.{EndsBy, IsAnswered, IsKeptWhereBegun, Scene}
use Rattle.run_command.specs.inside.{Stops, Writes, fault_of, kept_of}
use Rattle.run_command.specs.declared.faults.Fault.{Fault}
use Rattle.run_command.specs.declared.faults.Fault.TheVariants.{Input, Read, Write, NoThread, Memory, TooLong, TooLarge}

-- no byte was taken
none_begun : (K : Type 0) (taken after : Option (List ℕ)) → after ≡ taken → IsKeptWhereBegun {K = K} taken after None
none_begun K taken after same before now was is =
    let e : Some now ≡ Some before = sym is ∙ same ∙ was in
    let n : now ≡ before = cc in
    let long : length now ≡ length before = ap length n in (λ some. absurd (cc), λ more. absurd (omega arith))

-- so much of the front of the text was taken
prefix_of : (before after : Option (List ℕ)) (text : List ℕ) (n : ℕ) → n ≤ length text → Takes before after (take n text)
    → TakesPrefix before after text
prefix_of None after text n part took = took
prefix_of (Some before) after text n part took = (n, part, took)

took_none : (before after : Option (List ℕ)) (text : List ℕ) → Takes before after (take 0 text) → after ≡ before
took_none None after text took = took
took_none (Some before) after text took = took ∙ ap Some (simp append-nil)

took_long : (before after : Option (List ℕ)) (text b a : List ℕ) (n : ℕ) → n ≤ length text → Takes before after (take n text)
    → before ≡ Some b → after ≡ Some a → length a ≡ length b + n
took_long None after text b a n part took was is = absurd (cc)
took_long (Some before) after text b a n part took was is =
    let e : Some a ≡ Some (before ++ take n text) = sym is ∙ took in
    let same : a ≡ before ++ take n text = cc in
    let first : before ≡ b = cc in
    let count : length (take n text) ≡ n = length-take-le n text part in
    ap length same ∙ omega (arith, length-append before (take n text), count, ap length first)

module _ {A W K : Type 0} (asks : List ℕ → A → Type 0) (refuses : List ℕ → ℕ → W → Type 0) (keeps : A → K → Type 0)
    (tells : A → K → List ℕ → Type 0) (long : A → Type 0) (before after : Scene)
  where
    -- a run that has no answer ends by the fault for which it has none
    pub ends_early : (fault : Fault W)
        → Stops asks refuses long before.left after.left before.reads after.reads before.refused after.refused fault →
        after.taken ≡ before.taken → EndsBy asks refuses keeps tells long before after (Some fault) None
    ends_early (Input line why) is same = (is.0, is.1, is.2, record { nothing = same; none_kept = refl })
    ends_early Read is same = (is, record { nothing = same; none_kept = refl })
    ends_early Write is same = absurd is
    ends_early NoThread is same = (is.0, is.1, record { nothing = same; none_kept = refl })
    ends_early Memory is same =
        record { nothing = λ e. same; front = λ some. absurd (cc); begun = none_begun K before.taken after.taken same }
    ends_early (TooLong stamp) is same = (is.0, is.1, record { nothing = same; none_kept = refl })
    ends_early (TooLarge taken) is same = (is.0, is.1, is.2, is.3, record { nothing = same; none_kept = refl })

    -- a run that stopped ends by its fault, with nothing written and no report
    pub ends_as_stopped : (fault : Fault W) (told : Option (Fault W)) (kept : Option K) → told ≡ Some fault → kept ≡ None →
        Stops asks refuses long before.left after.left before.reads after.reads before.refused after.refused fault →
        after.taken ≡ before.taken → EndsBy asks refuses keeps tells long before after told kept
    ends_as_stopped fault told kept is none stops same = rw (is, none) (ends_early fault stops same)

    -- there was an answer, to an input that was read to its end
    module _ (kept : K) (text : List ℕ) (answers : IsAnswered asks refuses keeps tells before.left kept text) (at_end : IsAtEnd after.left)
      where
        cut_memory : (n : ℕ) → n ≤ length text → Takes before.taken after.taken (take n text) →
            EndsBy asks refuses keeps tells long before after (Some Memory) (kept_of sinks.Memory n kept)
        cut_memory n part took = elim (cases_eq n 0) [
          | inl e ↦
              let keeps_none : kept_of sinks.Memory n kept ≡ None = rw e refl in
              let same : after.taken ≡ before.taken =
              took_none before.taken after.taken text (subst (λ k. Takes before.taken after.taken (take k text)) e took) in
              let none : EndsBy asks refuses keeps tells long before after (Some Memory) None = ends_early Memory tt same in
              subst (λ k. EndsBy asks refuses keeps tells long before after (Some Memory) k) (sym keeps_none) none
          | inr differs ↦
              let keeps_some : kept_of sinks.Memory n kept ≡ Some kept = cond-false (n == 0) None (Some kept) (ne_eqb n 0 differs) in
              let some : EndsBy asks refuses keeps tells long before after (Some Memory) (Some kept) = record {
                nothing = λ e. absurd (cc);
                front = λ is. (text, answers, prefix_of before.taken after.taken text n part took);
                begun = λ b a was is.
                    let long : length a ≡ length b + n = took_long before.taken after.taken text b a n part took was is in
                    (λ is. omega (arith, long, differs), λ more. refl);
              } in
              subst (λ k. EndsBy asks refuses keeps tells long before after (Some Memory) k) (sym keeps_some) some
        ]

        cut_off : (met : SinkFault) (n : ℕ) → n ≤ length text → Takes before.taken after.taken (take n text) →
            (met ≡ sinks.Failed → Rises before.writes after.writes) →
            EndsBy asks refuses keeps tells long before after (Some (fault_of met)) (kept_of met n kept)
        cut_off sinks.Failed n part took cause = (cause refl, (text, answers, prefix_of before.taken after.taken text n part took))
        cut_off sinks.Memory n part took cause = cut_memory n part took

        -- the run ends as its writing did
        pub ends_answered : (fault : Option (Fault W)) (keeps_it : Option K) →
            Writes kept text before.taken after.taken before.writes after.writes after.flushed fault keeps_it →
            EndsBy asks refuses keeps tells long before after fault keeps_it
        ends_answered fault keeps_it (inl w) = rw (w.fine, w.keeps_it) (at_end, (text, answers, w.taken), w.flush)
        ends_answered fault keeps_it (inr w) = rw (w.fails, w.keeps_it) (cut_off w.unwritten.fault w.unwritten.taken w.part w.taken w.cause)

-- the ends, if what is asked may be so long in a wider sense
pub ends_wider : {A W K : Type 0} (asks : List ℕ → A → Type 0) (refuses : List ℕ → ℕ → W → Type 0) (keeps : A → K → Type 0)
    (tells : A → K → List ℕ → Type 0) (long wider : A → Type 0) → ((asked : A) → long asked → wider asked) → (before after : Scene)
    (fault : Option (Fault W)) (kept : Option K) → EndsBy asks refuses keeps tells long before after fault kept →
    EndsBy asks refuses keeps tells wider before after fault kept
ends_wider asks refuses keeps tells long wider each before after (Some (TooLong stamp)) kept ends = (
  ends.0,
  λ bytes told.
      let a = ends.1 bytes told in (a.0, record { short = a.1.short; asked_is = (a.1.asked_is.0, each a.0 a.1.asked_is.1) }),
  ends.2,
)
ends_wider asks refuses keeps tells long wider each before after None kept ends = ends
ends_wider asks refuses keeps tells long wider each before after (Some (Input line why)) kept ends = ends
ends_wider asks refuses keeps tells long wider each before after (Some Read) kept ends = ends
ends_wider asks refuses keeps tells long wider each before after (Some Write) kept ends = ends
ends_wider asks refuses keeps tells long wider each before after (Some NoThread) kept ends = ends
ends_wider asks refuses keeps tells long wider each before after (Some Memory) kept ends = ends
ends_wider asks refuses keeps tells long wider each before after (Some (TooLarge taken)) kept ends = ends

-- what is so of an answer is so of what is kept
module _ {K : Type 0} (P : K → Type 0) (kept : K) (is : P kept) where
  kept_cut : (met : SinkFault) (n : ℕ) → IfSome (kept_of met n kept) P
  kept_cut sinks.Failed n = is
  kept_cut sinks.Memory n = elim (cases_eq n 0) [
    | inl e ↦ let none : kept_of sinks.Memory n kept ≡ None = rw e refl in subst (λ k. IfSome k P) (sym none) tt
    | inr differs ↦
        let some : kept_of sinks.Memory n kept ≡ Some kept = cond-false (n == 0) None (Some kept) (ne_eqb n 0 differs) in
        subst (λ k. IfSome k P) (sym some) is
  ]

  -- what is kept after the writing has the property of what was to be kept
  pub kept_has : {W : Type 0} (text : List ℕ) (before after : Option (List ℕ)) (faults now : ℕ) (flushed : Bool) (fault : Option (Fault W))
      (keeps : Option K) → Writes kept text before after faults now flushed fault keeps → IfSome keeps P
  kept_has text before after faults now flushed fault keeps (inl w) = subst (λ k. IfSome k P) (sym w.keeps_it) is
  kept_has text before after faults now flushed fault keeps (inr w) =
      subst (λ k. IfSome k P) (sym w.keeps_it) (kept_cut w.unwritten.fault w.unwritten.taken)
