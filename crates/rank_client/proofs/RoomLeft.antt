-- What a call that goes to one server after the other has when it goes on.
use Rattle.std.proofs.Common.{All, ◌≡◌, ◌<◌, ◌+◌, ◌∙◌, List, ℕ, arith, subst, sym}
use Rattle.std.specs.Vec.{vec_len}
use Rattle.std.proofs.lemmas.List.Elements.{All-weaker}
use Rattle.adlb_unit.specs.declared.configs.Config.{Config}
use Rattle.adlb_unit.specs.declared.names.Server.{Server}
use Rattle.rank_client.specs.declared.pendings.Pending.{Pending}
use Rattle.rank_client.specs.declared.rooms.Room.{Room}
use Rattle.rank_client.specs.declared.rounds.Errand.{Errand}
use Rattle.rank_client.specs.declared.rounds.Errand.TheVariants as goes_to
use Rattle.rank_client.specs.declared.rounds.Round.{Round}
use Rattle.rank_client.specs.inside.{HasRoom, HasTries, IsOffer, IsShort, later, pending_at}

-- the room that is left after one more server was asked
pub room_left : (config : Config) (before after : Room) (round next : Round) (e : Errand) (pending : Pending)
    → HasRoom config before (pending_at round e)
    → ((body : List ℕ) → All (λ b. b ≡ body) before.tries.items → All (λ b. b ≡ body) after.tries.items)
    → vec_len after.tries + (round.tried + 1) + 1 ≡ config.servers → after ≡ record before { tries = after.tries } → next ≡ later round
    → pending ≡ pending_at next e → HasRoom config after pending
room_left config before after round next e pending has bodies left others next_is is =
    subst (λ (p : Pending). HasRoom config after p) (sym is)
    (subst (λ (r : Round). HasRoom config after (pending_at r e)) (sym next_is) (by_errand e has))
  where
    tries : HasTries config before round.tried → HasTries config after (round.tried + 1)
    tries had = left

    by_errand : (e : Errand) → HasRoom config before (pending_at round e) → HasRoom config after (pending_at (later round) e)
    by_errand (goes_to.Put unit) had = (tries had.0, bodies unit.body had.1, had.2)
    by_errand (goes_to.Keep request common) had = (tries had.0, bodies common had.1, had.2, had.3)
    by_errand (goes_to.Try request types) had = tries had
    by_errand (goes_to.SetDone request) had = tries had

-- the room with which a round begins
pub first_room : (config : Config) (room : Room) (first : Server) (e : Errand) (body : List ℕ) (pending : Pending)
    → IsOffer e body → IsShort e
    → first.0 < config.servers → vec_len room.tries + 1 ≡ config.servers → All (λ b. b ≡ body) room.tries.items
    → pending ≡ pending_at (record { first = first; tried = 0 }) e → HasRoom config room pending
first_room config room first e body pending offer short there tries bodies is =
    subst (λ (p : Pending). HasRoom config room p) (sym is) (by_errand e offer short)
  where
    has : HasTries config room 0
    has = omega (arith, tries)

    all : (other : List ℕ) → body ≡ other → All (λ b. b ≡ other) room.tries.items
    all other same = All-weaker (λ (b : List ℕ). b ≡ body) (λ b. b ≡ other) (λ b is_body. is_body ∙ same) room.tries.items bodies

    by_errand : (e : Errand) → IsOffer e body → IsShort e → HasRoom config room (pending_at (record { first = first; tried = 0 }) e)
    by_errand (goes_to.Put unit) same small = (has, all unit.body same, there)
    by_errand (goes_to.Keep request common) same small = (has, all common same, there, small)
    by_errand (goes_to.Try request types) same small = has
    by_errand (goes_to.SetDone request) same small = has
