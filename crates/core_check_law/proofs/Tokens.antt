-- Tokens under way, counted: through each act, and where none is.
use Rattle.std.proofs.Common.{◌≡◌, ◌≢◌, ◌<◌, ◌≤◌, ℕ, Bool, true, false, cond, refl, sym, ap, ◌∙◌, arith, eqb}
use Rattle.std.proofs.lemmas.Bool.{eqb-true, false_from_ne_true}
use Rattle.adlb_unit.specs.declared.actors.Actor.{Actor}
use Rattle.adlb_unit.specs.declared.actors.Actor.TheVariants as by
use Rattle.adlb_unit.specs.declared.configs.Config.{Config}
use Rattle.adlb_unit.specs.declared.letters.Letter.{Letter}
use Rattle.adlb_unit.specs.declared.messages.Message.{Message}
use Rattle.adlb_unit.specs.declared.messages.Message.TheVariants as tells
use Rattle.adlb_unit.specs.declared.names.Server.{Server}
use Rattle.adlb_unit.specs.declared.tokens.Token.{Token}
use Rattle.server_law.specs.Acts.{Act, Checks_alone, Fails, Finds, Finds_alone, Gives_up, Hears_failed, Shuts, Shuts_alone, Starts, does}
use Rattle.server_law.specs.Acts.{says, takes, zeroth}
use Rattle.server_law.specs.State.{ServerModel, start as new_pool}
use Rattle.server_law.specs.Sure.{Sure}
use Rattle.core_run.specs.World.{World, pool_of}
use Rattle.core_law.specs.Acting.{IsAct, taken_off}
use Rattle.core_law.specs.Letters.{no_rank, no_server, one}
use Rattle.core_law.specs.Measures.{ActKeeps, IsBalanced, due, heard_weight, links_weight, measure, said_weight, server_weight}
use Rattle.core_law.specs.OnLinks.{OnLinks}
use Rattle.core_law.specs.Own.{IsPool}
use Rattle.core_law.specs.Well.{IsShaped}
use Rattle.core_law.proofs.Acts.{taken_square, taken_weight}
use Rattle.core_law.proofs.Checking.{tested_runs}
use Rattle.core_law.proofs.OwnStates.{runs_alone}
use Rattle.core_law.proofs.Sums.{none_adds, one_adds, others_none}
use Rattle.core_law.proofs.UnderWay.{zero_on}
use Rattle.core_check_law.specs.OnWay.{OnFailed, OnToken}
use Rattle.core_check_law.specs.Tokens.{runs_at, token_letter, tokens}

-- One act.

abbrev Keeps : Act → ServerModel → Type 0
Keeps a s = ActKeeps tokens a s

-- an act that takes no token and says none, and that leaves whether a check runs
same_runs : (a : Act) (s : ServerModel) → heard_weight token_letter s.me (takes a) ≡ 0 → said_weight token_letter s.me (says a s) ≡ 0
    → (does a s).kept.ring.runs ≡ s.kept.ring.runs → Keeps a s
same_runs a s took said same =
    let runs : runs_at s.me.0 (does a s).kept ≡ runs_at s.me.0 s.kept = rw same refl in omega arith

-- the whole check of a server that is alone
alone_kept : (config : Config) (me : Server) (a : Act) (s : ServerModel) → me.0 < config.servers → IsPool config me s → Sure a s
    → s.config.servers ≡ 1 → heard_weight token_letter s.me (takes a) ≡ 0 → said_weight token_letter s.me (says a s) ≡ 0 → Keeps a s
alone_kept config me a s here own sure one_server took said =
    let alone : config.servers ≡ 1 = ap (λ (c : Config). c.servers) (sym own.config) ∙ one_server in
    let after = runs_alone config me a s here own sure alone in
    same_runs a s took said (after ∙ sym (own.alone alone))

-- each act keeps that tokens under way are as many as checks run
pub token_kept : (config : Config) (me : Server) (a : Act) (s : ServerModel) → me.0 < config.servers → IsPool config me s
    → Sure a s → Keeps a s
token_kept config me Starts s here own sure = rw (sure.0.zeroth, sure.0.alone) refl
token_kept config me (Fails from t why) s here own sure =
    let same = tested_runs t.wave s.kept.ring in
    let runs : runs_at s.me.0 (does (Fails from t why) s).kept ≡ runs_at s.me.0 s.kept = rw same refl in
    omega arith
token_kept config me (Gives_up from t) s here own sure = rw (sure.zeroth, sure.runs) refl
token_kept config me (Hears_failed from t why) s here own sure = rw (sure.zeroth, sure.runs) refl
token_kept config me (Finds from t) s here own sure =
    let all = others_none token_letter s.me s tells.Exhaust (λ to. refl) in
    let was : runs_at s.me.0 s.kept ≡ 1 = rw (sure.0.running.zeroth, sure.0.running.runs) refl in
    let now : runs_at s.me.0 (does (Finds from t) s).kept ≡ 0 = rw sure.0.running.zeroth refl in
    omega arith
token_kept config me (Shuts from t) s here own sure =
    let all = others_none token_letter s.me s tells.Shutdown (λ to. refl) in
    let was : runs_at s.me.0 s.kept ≡ 1 = rw (sure.0.running.zeroth, sure.0.running.runs) refl in
    let now : runs_at s.me.0 (does (Shuts from t) s).kept ≡ 0 = rw sure.0.running.zeroth refl in
    omega arith
token_kept config me Finds_alone s here own sure = alone_kept config me Finds_alone s here own sure sure.alone refl refl
token_kept config me Shuts_alone s here own sure = alone_kept config me Shuts_alone s here own sure sure.0 refl refl
token_kept config me Checks_alone s here own sure = alone_kept config me Checks_alone s here own sure sure refl refl
token_kept config me _ s here own sure = omega arith

-- of another number nothing is counted
pub not_here : (i n m : ℕ) → i ≢ n → cond (eqb i n) m 0 ≡ 0
not_here i n m differs =
    let no_one : eqb i n ≡ false = false_from_ne_true (eqb i n) (λ e. differs (eqb-true i n e)) in rw no_one refl

-- In a world.

-- the tokens under way are as many as checks run at server 0
pub token_count : (w : World) → IsShaped w → 0 < w.config.servers → IsBalanced tokens w
    → links_weight w.config tokens w.links ≡ one (pool_of w zeroth).kept.ring.runs
unfolding measure due
token_count w shape some even =
    let all = one_adds (server_weight runs_at) w.servers 0 (new_pool w.config zeroth) (let e = shape.servers in omega arith)
    (λ i s differs. not_here i 0 (one s.kept.ring.runs) differs) in
    let a = none_adds (server_weight no_server) w.servers (λ i s. refl) in
    let b = none_adds no_rank w.ranks (λ i s. refl) in
    let e = even.same in
    omega arith

-- the letter is no token
abbrev pub NoToken : Actor → Actor → Letter → Type 0
NoToken from to l = token_letter from to l.message ≡ 0

-- where no check runs none is
pub none_runs : (w : World) → IsShaped w → 0 < w.config.servers → IsBalanced tokens w → (pool_of w zeroth).kept.ring.runs ≡ false
    → OnLinks NoToken w.config w.links
none_runs w shape some even off =
    let count = token_count w shape some even in
    let here : one (pool_of w zeroth).kept.ring.runs ≡ 0 = rw off refl in
    zero_on tokens w.config w.links shape.square (omega arith)

-- a test counts one at most
pub at_most : (t : Bool) → one t ≤ 1
at_most true = omega arith
at_most false = omega arith

-- where one is taken none is left
pub none_left : (w : World) (k : Server) (a : Act) → IsShaped w → IsAct w k a → IsBalanced tokens w
    → heard_weight token_letter k (takes a) ≡ 1 → OnLinks NoToken w.config (taken_off w.config k w.links (takes a))
none_left w k a shape is even one_taken =
    let here = is.here in
    let count = token_count w shape (omega arith) even in
    let few = at_most (pool_of w zeroth).kept.ring.runs in
    let took = taken_weight w.config tokens k w.links (takes a) is.here is.front shape.square in
    zero_on tokens w.config (taken_off w.config k w.links (takes a))
    (taken_square w.config k w.links (takes a) is.here is.front shape.square) (omega arith)

-- What is said of tokens.

-- it is so of each other letter
pub not_token : (P : Server → Token → Type 0) (from to : Actor) (m : Message) → token_letter from to m ≡ 0 → OnToken P from to m
not_token P (by.Server from) (by.Server to) (tells.Token t) none = absurd (omega arith)
not_token P (by.Server from) (by.Server to) _ none = tt
not_token P (by.Server from) (by.Rank to) m none = tt
not_token P (by.Rank from) to m none = tt

-- what follows of each token
pub token_weaker : (P Q : Server → Token → Type 0) → ((to : Server) (t : Token) → P to t → Q to t) → (from to : Actor) (m : Message)
    → OnToken P from to m → OnToken Q from to m
token_weaker P Q f (by.Server from) (by.Server to) (tells.Token t) p = f to t p
token_weaker P Q f (by.Server from) (by.Server to) _ p = tt
token_weaker P Q f (by.Server from) (by.Rank to) m p = tt
token_weaker P Q f (by.Rank from) to m p = tt

-- of those that have failed
pub not_failed : (P : Token → Type 0) (from to : Actor) (m : Message) → token_letter from to m ≡ 0 → OnFailed P from to m
not_failed P (by.Server from) (by.Server to) (tells.Failed t why) none = absurd (omega arith)
not_failed P (by.Server from) (by.Server to) _ none = tt
not_failed P (by.Server from) (by.Rank to) m none = tt
not_failed P (by.Rank from) to m none = tt

-- what follows of each failed test
pub failed_weaker : (P Q : Token → Type 0) → ((t : Token) → P t → Q t) → (from to : Actor) (m : Message)
    → OnFailed P from to m → OnFailed Q from to m
failed_weaker P Q f (by.Server from) (by.Server to) (tells.Failed t why) p = f t p
failed_weaker P Q f (by.Server from) (by.Server to) _ p = tt
failed_weaker P Q f (by.Server from) (by.Rank to) m p = tt
failed_weaker P Q f (by.Rank from) to m p = tt
