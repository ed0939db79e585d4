-- Sums along an act of a server: what it takes, what it sends, and what it changes.
use Rattle.std.proofs.Common.{◌≡◌, ◌<◌, ◌+◌, true, List, [], ◌∷◌, length, map, refl, sym, ap, ◌∙◌, subst, arith}
use Rattle.std.proofs.lemmas.Bool.{lt-ltb}
use Rattle.std.proofs.lemmas.List.{length-set}
use Rattle.adlb_unit.specs.Links.{is_within, place_of}
use Rattle.adlb_unit.specs.Ring.{others}
use Rattle.adlb_unit.specs.declared.actors.Actor.{Actor}
use Rattle.adlb_unit.specs.declared.actors.Actor.TheVariants as by
use Rattle.adlb_unit.specs.declared.configs.Config.{Config}
use Rattle.adlb_unit.specs.declared.letters.Letter.{Letter}
use Rattle.adlb_unit.specs.declared.letters.Sending.{Sending}
use Rattle.adlb_unit.specs.declared.messages.Message.{Message}
use Rattle.adlb_unit.specs.declared.names.Server.{Server}
use Rattle.server_law.specs.Acts.{Act, Heard, ServerSaying, does, says, takes, to_others, to_server}
use Rattle.server_law.specs.Carried.{all_counted, counted, done, sends, stamped}
use Rattle.server_law.specs.State.{ServerModel, start as new_pool}
use Rattle.core_run.specs.World.{Links, World, actors, link, pool_of, put_link}
use Rattle.core_law.specs.Acting.{AreActs, AreFront, AreSaid, IsAct, IsOwn, acted, acted_all, behind_front, taken_off}
use Rattle.core_law.specs.OnLinks.{Each, OnLinks}
use Rattle.core_law.specs.Measures.{ActKeeps, IsBalanced, Weights, actor, due, heard_weight, links_weight, measure, said_weight}
use Rattle.core_law.specs.Measures.{sends_weight, server_weight}
use Rattle.core_law.specs.Well.{IsShaped, IsSquare}
use Rattle.core_law.proofs.Sums.{AreWithin, front_goes, place_actor, place_below, post_weight, square_post, square_put, weigh_at-set}
use Rattle.core_law.proofs.UnderWay.{AllLinks, taken_links}

-- What is sent.

-- counting letters that go off changes nothing that a server keeps
pub counted_kept : (s : ServerModel) (ys : List ServerSaying) → (all_counted s ys).kept ≡ s.kept
counted_kept s [] = refl
counted_kept s (y ∷ ys) = counted_kept (counted s y.to) ys

-- counting letters that go off leaves the run's numbers and the server's own
pub counted_own : (s : ServerModel) (ys : List ServerSaying) → ((all_counted s ys).config ≡ s.config) × ((all_counted s ys).me ≡ s.me)
counted_own s [] = (refl, refl)
counted_own s (y ∷ ys) = counted_own (counted s y.to) ys

-- letters weigh the same with stamps and places as without
pub sent_weight : (m : Weights) (me : Server) (s : ServerModel) (ys : List ServerSaying)
    → sends_weight m (by.Server me) (stamped s ys) ≡ said_weight m.letter me ys
sent_weight m me s [] = refl
sent_weight m me s (y ∷ ys) = ap (λ n. m.letter (by.Server me) y.to y.message + n) (sent_weight m me (counted s y.to) ys)

-- letters with stamps and places go to actors of the run
pub sent_within : (config : Config) (s : ServerModel) (ys : List ServerSaying) → AreSaid config ys → AreWithin config (stamped s ys)
sent_within config s [] are = tt
sent_within config s (y ∷ ys) are = (are.0, sent_within config (counted s y.to) ys are.1)

-- of each letter, whatever its stamp and place
pub sent_each : (P : Actor → Message → Type 0) (s : ServerModel) (ys : List ServerSaying) → Each (λ (y : ServerSaying). P y.to y.message) ys
    → Each (λ (x : Sending). P x.to x.letter.message) (stamped s ys)
sent_each P s [] each = tt
sent_each P s (y ∷ ys) each = (each.0, sent_each P (counted s y.to) ys each.1)

-- of what is told to each other server
pub others_told : (P : Actor → Message → Type 0) (s : ServerModel) (m : Message) → ((to : Server) → P (by.Server to) m)
    → Each (λ (y : ServerSaying). P y.to y.message) (to_others s m)
others_told P s m each = told (others s.config s.me)
  where
    told : (ts : List Server) → Each (λ (y : ServerSaying). P y.to y.message) (map (λ to. to_server to m) ts)
    told [] = tt
    told (to ∷ ts) = (each to, told ts)

-- What is taken.

-- the front letters go off one after the other: what each leaves holds at the end
off_keeps : (J : Links → Type 0) (config : Config) (me : Server)
    → ((links : Links) (from : Actor) (l : Letter) (rest : List Letter) → is_within config from ≡ true
    → link links (place_of config from) (place_of config (by.Server me)) ≡ l ∷ rest → J links
    → J (put_link links (place_of config from) (place_of config (by.Server me)) rest))
    → (links : Links) (heard : List Heard) → AreFront config me links heard → J links → J (taken_off config me links heard)
off_keeps J config me goes links [] are holds = holds
off_keeps J config me goes links (h ∷ more) are holds =
    let from = place_of config h.from in
    let to = place_of config (by.Server me) in
    let next = off_keeps J config me goes (put_link links from to are.1) more are.5 (goes links h.from are.0 are.1 are.2 are.3 holds) in
    subst (λ (rest : List Letter). J (taken_off config me (put_link links from to rest) more)) (ap behind_front (sym are.3)) next

-- links stay square where a server takes a letter off
pub taken_square : (config : Config) (me : Server) (links : Links) (heard : List Heard) → me.0 < config.servers
    → AreFront config me links heard → IsSquare (actors config) links → IsSquare (actors config) (taken_off config me links heard)
taken_square config me links heard here are sq =
    let t = place_below config (by.Server me) (lt-ltb me.0 config.servers here) in
    off_keeps (IsSquare (actors config)) config me
    (λ links from l rest f front sq. square_put (actors config) links (place_of config from) (place_of config (by.Server me)) rest
    (place_below config from f) t sq) links heard are sq

-- of each link, where a server takes a letter off
pub taken_off_links : (P : Actor → Actor → List Letter → Type 0) (config : Config) (me : Server) (links : Links) (heard : List Heard)
    → me.0 < config.servers → AreFront config me links heard → IsSquare (actors config) links
    → ((from : Actor) (l : Letter) (rest : List Letter) → P from (by.Server me) (l ∷ rest) → P from (by.Server me) rest)
    → AllLinks P config links → AllLinks P config (taken_off config me links heard)
taken_off_links P config me links heard here are sq goes all =
    let within = lt-ltb me.0 config.servers here in
    let t = place_below config (by.Server me) within in
    (off_keeps (λ links. IsSquare (actors config) links × AllLinks P config links) config me
    (λ links from l rest f front was. (
      square_put (actors config) links (place_of config from) (place_of config (by.Server me)) rest
          (place_below config from f) t was.0,
      taken_links P config links from (by.Server me) l rest was.0 f within front (goes from l rest) was.1,
    )) links heard are (sq, all)).1

-- of each letter, where a server takes a letter off
pub taken_off_on : (P : Actor → Actor → Letter → Type 0) (config : Config) (me : Server) (links : Links) (heard : List Heard)
    → me.0 < config.servers → AreFront config me links heard → IsSquare (actors config) links → OnLinks P config links
    → OnLinks P config (taken_off config me links heard)
taken_off_on P config me links heard here are sq on =
    record {
      each = taken_off_links (λ a b ls. Each (P a b) ls) config me links heard here are sq (λ from l rest was. was.1)
          (λ a b la lb. on.each a b la lb);
    }

-- the letters that are left and the one that was taken weigh what all weighed
pub taken_weight : (config : Config) (m : Weights) (me : Server) (links : Links) (heard : List Heard) → me.0 < config.servers
    → AreFront config me links heard → IsSquare (actors config) links
    → links_weight config m (taken_off config me links heard) + heard_weight m.letter me heard ≡ links_weight config m links
taken_weight config m me links [] here are sq = omega arith
taken_weight config m me links (h ∷ more) here are sq =
    let from = place_of config h.from in
    let to = place_of config (by.Server me) in
    let within : is_within config (by.Server me) ≡ true = lt-ltb me.0 config.servers here in
    let next = square_put (actors config) links from to are.1 (place_below config h.from are.2) (place_below config (by.Server me) within)
    sq in
    let later = taken_weight config m me (put_link links from to are.1) more here are.5 next in
    let took = front_goes config m links h.from (by.Server me) are.0 are.1 sq are.2 within are.3 in
    let one : m.letter h.from (by.Server me) (are.0).message ≡ m.letter h.from (by.Server me) h.message = ap
    (m.letter h.from (by.Server me)) are.4 in
    let off : behind_front (link links from to) ≡ are.1 = ap behind_front are.3 in
    rw off (omega arith)

-- One act.

-- what each act keeps is kept by acts one after the other
pub acts_keep : (J : World → Type 0) (me : Server) → ((w : World) (a : Act) → IsAct w me a → J w → J (acted w me a))
    → (w : World) (list : List Act) → AreActs w me list → J w → J (acted_all w me list)
acts_keep J me step w [] are holds = holds
acts_keep J me step w (a ∷ more) are holds = acts_keep J me step (acted w me a) more are.1 (step w a are.0 holds)

-- an act leaves a world of these actors
pub shape_kept : (w : World) (me : Server) (a : Act) → IsShaped w → IsAct w me a → AreSaid w.config (says a (pool_of w me))
    → IsShaped (acted w me a)
shape_kept w me a shape is said =
    let s = pool_of w me in
    let to = place_below w.config (by.Server me) (lt-ltb me.0 w.config.servers is.here) in
    record {
      ranks = shape.ranks;
      servers = length-set w.servers me.0 (done a s) ∙ shape.servers;
      square = square_post w.config (taken_off w.config me w.links (takes a)) (place_of w.config (by.Server me)) (sends a s) to
          (sent_within w.config (does a s) (says a s) said)
          (taken_square w.config me w.links (takes a) is.here is.front shape.square);
    }

-- an act that keeps a balance of weights leaves the world balanced
pub balance_kept : (m : Weights) (w : World) (me : Server) (a : Act) → IsShaped w → IsAct w me a → IsOwn w me a
    → ActKeeps m a (pool_of w me) → IsBalanced m w → IsBalanced m (acted w me a)
unfolding measure due
balance_kept m w me a shape is own keeps even =
    let s = pool_of w me in
    let place = place_of w.config (by.Server me) in
    let within : is_within w.config (by.Server me) ≡ true = lt-ltb me.0 w.config.servers is.here in
    let links = taken_off w.config me w.links (takes a) in
    let square = taken_square w.config me w.links (takes a) is.here is.front shape.square in
    let took = taken_weight w.config m me w.links (takes a) is.here is.front shape.square in
    let sent = post_weight w.config m links place (sends a s) (place_below w.config (by.Server me) within)
    (sent_within w.config (does a s) (says a s) own.said) square in
    let who : sends_weight m (actor w.config place) (sends a s) ≡ sends_weight m (by.Server me) (sends a s) = rw
    (place_actor w.config (by.Server me) within) refl in
    let said = sent_weight m me (does a s) (says a s) in
    let inside : me.0 < length w.servers = let e = shape.servers in let h = is.here in omega arith in
    let held = weigh_at-set (server_weight m.server) w.servers me.0 (done a s) (new_pool w.config me) inside in
    let owed = weigh_at-set (server_weight m.server_due) w.servers me.0 (done a s) (new_pool w.config me) inside in
    let kept = counted_kept (does a s) (says a s) in
    let h : m.server me.0 (done a s).kept ≡ m.server me.0 (does a s).kept = ap (m.server me.0) kept in
    let o : m.server_due me.0 (done a s).kept ≡ m.server_due me.0 (does a s).kept = ap (m.server_due me.0) kept in
    let law : heard_weight m.letter me (takes a) + m.server me.0 s.kept + m.server_due me.0 (does a s).kept
    ≡ said_weight m.letter me (says a s) + m.server me.0 (does a s).kept + m.server_due me.0 s.kept =
    subst (λ (k : Server). heard_weight m.letter k (takes a) + m.server k.0 s.kept + m.server_due k.0 (does a s).kept
    ≡ said_weight m.letter k (says a s) + m.server k.0 (does a s).kept + m.server_due k.0 s.kept) own.named keeps in
    let same = even.same in
    record { same = omega arith }
