-- What a step of a rank sends is what its rule says, with stamps and places.
use Rattle.std.proofs.Common.{◌≡◌, ℕ, ◌+◌, List, [], ◌∷◌, ◌++◌, refl, sym, ap, ◌∙◌, append-nil, append_assoc}
use Rattle.adlb_unit.specs.declared.actors.Actor.{Actor}
use Rattle.adlb_unit.specs.declared.actors.Actor.TheVariants as by
use Rattle.adlb_unit.specs.declared.letters.Sending.{Sending}
use Rattle.adlb_unit.specs.declared.messages.Message.{Message}
use Rattle.rank_client.specs.Rules.{ClientSaying}
use Rattle.rank_client.specs.State.{ClientModel}
use Rattle.rank_client.specs.Step.{Made, counted, post as post_requests, posted as request_posted}
use Rattle.core_law.specs.OnLinks.{Each}
use Rattle.core_law.specs.Measures.{weigh}

-- the letters of these sayings in order
abbrev pub lettered : ClientModel → List ClientSaying → List Sending
lettered s [] = []
lettered s (y ∷ ys) = request_posted s y ∷ lettered (counted s y.to) ys

-- what requests send comes after what was sent before
pub requests_sends : (says : List ClientSaying) (x : Made) → (post_requests x says).sends ≡ x.sends ++ lettered x.state says
requests_sends [] x = sym (append-nil x.sends)
requests_sends (y ∷ says) x =
    requests_sends says _ ∙ append_assoc x.sends (request_posted x.state y ∷ []) (lettered (counted x.state y.to) says)

-- requests weigh the same with stamps and places as without
pub requests_weight : (f : Actor → Message → ℕ) (s : ClientModel) (says : List ClientSaying)
    → weigh (λ x. f x.to x.letter.message) (lettered s says) ≡ weigh (λ y. f (by.Server y.to) y.message) says
requests_weight f s [] = refl
requests_weight f s (y ∷ says) = ap (λ n. f (by.Server y.to) y.message + n) (requests_weight f (counted s y.to) says)

-- what holds of each request holds of each letter
pub requests_each : (P : Actor → Message → Type 0) (s : ClientModel) (says : List ClientSaying)
    → Each (λ y. P (by.Server y.to) y.message) says → Each (λ x. P x.to x.letter.message) (lettered s says)
requests_each P s [] each = tt
requests_each P s (y ∷ says) each = (each.0, requests_each P (counted s y.to) says each.1)

-- only the count of letters changes
pub requests_state : (says : List ClientSaying) (x : Made)
    → (post_requests x says).state ≡ record x.state { sent = (post_requests x says).state.sent }
requests_state [] x = refl
requests_state (y ∷ says) x = requests_state says _

-- sending requests enters nothing
pub requests_entries : (says : List ClientSaying) (x : Made) → (post_requests x says).entries ≡ x.entries
requests_entries [] x = refl
requests_entries (y ∷ says) x = requests_entries says _
