-- All actors as one machine, and what its words mean here.
use Rattle.std.proofs.Common.{◌≡◌, ◌<◌, ◌-◌, ◌⊎◌, inl, inr, ℕ, true, false, cond, eqb, ltb, List, [], ◌∷◌, ◌++◌, map, filter, Option, Some}
use Rattle.std.proofs.Common.{None, option_to_list, refl, ap, ap₂}
use Rattle.std.specs.List.{AllByRecursion as Each}
use Rattle.std.proofs.lemmas.List.Elements.{recursion_from_All}
use Rattle.adlb_unit.specs.declared.configs.Config.{Config}
use Rattle.adlb_unit.specs.declared.letters.Letter.{Letter}
use Rattle.adlb_unit.specs.declared.letters.Sending.{Sending}
use Rattle.rank_client.specs.State.{ClientModel, start as new_client}
use Rattle.rank_client.specs.Step.{Made}
use Rattle.adlb_unit.specs.Links.{place_of}
use Rattle.server_law.specs.State.{ServerModel, start as new_pool}
use Rattle.server_law.specs.Carried.{Served}
use Rattle.core_run.specs.World.{actors, rank_named, server_named}
use Rattle.journal_law.specs.Orders.{of_actor}
use Rattle.journal_law.specs.Machines.{Machine}
use Rattle.journal_law.specs.Journals.{IsStamped, sent as sent_of, got as got_of, Walks as Walks_of}
use Rattle.merge_history.specs.declared.causes.Cause.{Cause}
use Rattle.merge_history.specs.declared.causes.Cause.TheVariants as causes
use Rattle.merge_history.specs.Events.{Event}
use Rattle.merge_history.specs.Merging.{stamp_of}
use Rattle.merge_history.specs.Own.{ClientWalks, PoolWalks, IsAbove, IsTimed, client_step, pool_step, letters_to, letter_from, sent, got}

-- the state of an actor: of a rank, or of a server
abbrev pub Being : Type 0
Being = ClientModel ⊎ ServerModel

abbrev pub cause_of : Config → Cause → Option (ℕ × Letter)
cause_of config (causes.Called call) = None
cause_of config (causes.Got from letter) = Some (place_of config from, letter)

abbrev pub sends_of : Config → List Sending → List (ℕ × Letter)
sends_of config sends = map (λ y. (place_of config y.to, y.letter)) sends

pub record IsRankStep (config : Config) (s : ClientModel) (e : Event) (t : Being) : Type 0 where
  pub x : Made
  pub step : client_step config s e.cause ≡ Some x
  pub sends : e.sends ≡ x.sends
  pub entries : e.entries ≡ x.entries
  pub is : t ≡ inl x.state

pub record IsServerStep (config : Config) (s : ServerModel) (e : Event) (t : Being) : Type 0 where
  pub x : Served
  pub step : pool_step config s e.cause ≡ Some x
  pub sends : e.sends ≡ x.sends
  pub entries : e.entries ≡ x.entries
  pub is : t ≡ inr x.state

abbrev pub Steps : Config → ℕ → Being → Event → Being → Type 0
Steps config a (inl s) e t = IsRankStep config s e t
Steps config a (inr s) e t = IsServerStep config s e t

-- the actor at a place: what is so of the rank, or of the server
abbrev pub at_place : {X : Type 0} → Config → (ℕ → X) → (ℕ → X) → ℕ → X
at_place config rank server a = cond (ltb a config.ranks) (rank a) (server (a - config.ranks))

abbrev pub begins : Config → ℕ → Being
begins config a = at_place config (λ n. inl (new_client config (rank_named n))) (λ n. inr (new_pool config (server_named n))) a

abbrev pub machine : Config → Machine Being Letter Event
machine config = record {
  actors = actors config;
  stamp = stamp_of;
  cause = λ e. cause_of config e.cause;
  sends = λ e. sends_of config e.sends;
  letter_stamp = λ l. l.stamp;
  start = begins config;
  Steps = Steps config;
}

module _ (config : Config) where
  pub client_walks : (a : ℕ) (s : ClientModel) (es : List Event) (last : ClientModel) → ClientWalks config s es last
      → Walks_of (machine config) a (inl s) es (inl last)
  client_walks a s [] last w = ap (λ t. inl t) w
  client_walks a s (e ∷ es) last w = (
    inl w.0.state,
    record { x = w.0; step = w.1; sends = w.3; entries = w.4; is = refl },
    client_walks a w.0.state es last w.5,
  )

  pub pool_walks : (a : ℕ) (s : ServerModel) (es : List Event) (last : ServerModel) → PoolWalks config s es last
      → Walks_of (machine config) a (inr s) es (inr last)
  pool_walks a s [] last w = ap (λ t. inr t) w
  pool_walks a s (e ∷ es) last w = (
    inr w.0.state,
    record { x = w.0; step = w.1; sends = w.3; entries = w.4; is = refl },
    pool_walks a w.0.state es last w.5,
  )

  letters_same : (to : ℕ) (sends : List Sending) → of_actor to (sends_of config sends) ≡ letters_to config to sends
  letters_same to [] = refl
  letters_same to (y ∷ ys) = elim (eqb (place_of config y.to) to) as
      (λ b. cond b (y.letter ∷ of_actor to (sends_of config ys)) (of_actor to (sends_of config ys))
      ≡ map (λ (z : Sending). z.letter)
      (cond b (y ∷ filter (λ z. eqb (place_of config z.to) to) ys) (filter (λ z. eqb (place_of config z.to) to) ys))) [
        | true ↦ ap (λ l. y.letter ∷ l) (letters_same to ys)
        | false ↦ letters_same to ys
      ]

  letter_same : (from : ℕ) (cause : Cause) → of_actor from (option_to_list (cause_of config cause)) ≡ letter_from config from cause
  letter_same from (causes.Called call) = refl
  letter_same from (causes.Got of letter) = refl

  pub sent_same : (to : ℕ) (es : List Event) → sent_of (machine config) to es ≡ sent config to es
  sent_same to [] = refl
  sent_same to (e ∷ es) = ap₂ (λ xs ys. xs ++ ys) (letters_same to e.sends) (sent_same to es)

  pub got_same : (from : ℕ) (es : List Event) → got_of (machine config) from es ≡ got config from es
  got_same from [] = refl
  got_same from (e ∷ es) = ap₂ (λ xs ys. xs ++ ys) (letter_same from e.cause) (got_same from es)

  bears : (stamp : ℕ) (sends : List Sending) → Each (λ y. y.letter.stamp ≡ stamp) sends
      → Each (λ x. x.1.stamp ≡ stamp) (sends_of config sends)
  bears stamp [] h = tt
  bears stamp (y ∷ ys) h = (h.0, bears stamp ys h.1)

  above : (stamp : ℕ) (cause : Cause) → IsAbove stamp cause → Each (λ x. x.1.stamp < stamp) (option_to_list (cause_of config cause))
  above stamp (causes.Called call) h = tt
  above stamp (causes.Got from letter) h = (h, tt)

  stamped : (e : Event) → IsTimed e → IsStamped (machine config) e
  stamped e timed = record {
    bears = bears e.stamp e.sends (recursion_from_All (λ y. y.letter.stamp ≡ e.stamp) e.sends timed.bears);
    above = above e.stamp e.cause timed.above;
  }

  pub all_stamped : (es : List Event) → Each IsTimed es → Each (IsStamped (machine config)) es
  all_stamped [] h = tt
  all_stamped (e ∷ es) h = (stamped e h.0, all_stamped es h.1)
