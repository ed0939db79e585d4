-- What a step of a rank posts: letters in line, with the stamp of the event, which is past the rank's last one.
use Rattle.std.proofs.Common.{◌≡◌, ◌<◌, ℕ, ◌+◌, List, [], ◌∷◌, length, get_or, refl, sym, ap, ◌∙◌, subst, arith}
use Rattle.std.proofs.lemmas.List.{length-set}
use Rattle.adlb_unit.specs.declared.configs.Config.{Config}
use Rattle.adlb_unit.specs.declared.letters.Sending.{Sending}
use Rattle.rank_client.specs.Rules.{ClientResponse, ClientSaying}
use Rattle.rank_client.specs.State.{ClientModel}
use Rattle.rank_client.specs.Step.{Made, made, post as post_requests}
use Rattle.core_law.specs.Lines.{rank_sent}
use Rattle.core_law.proofs.Posting.{IsPosted, requests_posted}
use Rattle.core_law.proofs.Posts.{lettered, requests_sends, requests_state}
use Rattle.core_law.proofs.RankShapes.{IsMade}
use Rattle.core_law.proofs.Sums.{AreWithin}

requests_counts : (says : List ClientSaying) (x : Made) → length (post_requests x says).state.sent ≡ length x.state.sent
requests_counts [] x = refl
requests_counts (y ∷ says) x = requests_counts says _ ∙ length-set x.state.sent y.to.0 (get_or x.state.sent y.to.0 0 + 1)

-- what a step of a rank posts
pub record RankPosts (config : Config) (s : ClientModel) (x : Made) : Type 0 where
  pub posted : IsPosted config x.sends (rank_sent s) (rank_sent x.state) x.state.clock
  pub later : s.clock < x.state.clock
  pub counts : length x.state.sent ≡ config.servers

rule_posts : (config : Config) (s : ClientModel) (z : ClientResponse) → length s.sent ≡ config.servers → z.state.sent ≡ s.sent
    → s.clock < z.state.clock → AreWithin config (made z).sends → RankPosts config s (made z)
rule_posts config s z counts sent past are =
    let bare : Made = record { state = z.state; sends = []; entries = z.entries; answer = z.answer } in
    let still : (made z).state.clock ≡ z.state.clock = ap (λ (t : ClientModel). t.clock) (requests_state z.says bare) in
    let letters = lettered z.state z.says in
    let sends : (made z).sends ≡ letters = requests_sends z.says bare in
    let posted = requests_posted config z.says bare (ap length sent ∙ counts) (subst (AreWithin config) sends are) in
    let now = rank_sent (made z).state in
    let before = subst (λ (xs : List ℕ). IsPosted config letters (rank_sent (record s { sent = xs })) now z.state.clock) sent posted in
    let clock = subst (IsPosted config letters (rank_sent s) now) (sym still) before in
    record {
      posted = subst (λ (ys : List Sending). IsPosted config ys (rank_sent s) now (made z).state.clock) (sym sends) clock;
      later = omega arith;
      counts = requests_counts z.says bare ∙ ap length sent ∙ counts;
    }

-- a step by its rule posts letters in line
pub made_posts : (config : Config) (s : ClientModel) (x : Made) → length s.sent ≡ config.servers → IsMade s x → AreWithin config x.sends
    → RankPosts config s x
made_posts config s x counts m are =
    subst (RankPosts config s) (sym m.is) (rule_posts config s m.rule counts m.sent m.later
    (subst (λ (y : Made). AreWithin config y.sends) m.is are))
