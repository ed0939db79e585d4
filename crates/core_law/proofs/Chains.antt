-- An event of a server is a chain of acts.
use Rattle.std.proofs.Common.{◌≡◌, ◌<◌, ℕ, zero, suc, Bool, List, [], ◌∷◌, ◌++◌, length, set, refl, sym, ap, ◌∙◌, arith, append-nil}
use Rattle.std.proofs.Common.{append_assoc}
use Rattle.std.proofs.lemmas.List.{get_or-set_same, length-set, set-get_or}
use Rattle.adlb_unit.specs.Links.{place_of}
use Rattle.adlb_unit.specs.declared.actors.Actor.{Actor}
use Rattle.adlb_unit.specs.declared.actors.Actor.TheVariants as by
use Rattle.adlb_unit.specs.declared.configs.Config.{Config}
use Rattle.adlb_unit.specs.declared.letters.Letter.{Letter}
use Rattle.adlb_unit.specs.declared.letters.Sending.{Sending}
use Rattle.adlb_unit.specs.declared.names.Server.{Server}
use Rattle.bag_ledger.specs.declared.entries.Entry.{Entry}
use Rattle.server_law.specs.Acts.{Act, entries, takes}
use Rattle.server_law.specs.Carried.{Served, carried, done, joined, sends}
use Rattle.server_law.specs.State.{ServerModel, start as new_pool}
use Rattle.server_law.specs.Step.{ticked}
use Rattle.server_law.specs.Sure.{TakeNone}
use Rattle.core_run.specs.World.{Links, World, after_server, link, pool_of, post, put_link, taken}
use Rattle.core_law.specs.Acting.{acted, acted_all, behind_front, taken_off, ticks}

-- Lists.

set-set : {X : Type 0} (xs : List X) (i : ℕ) (a b : X) → set (set xs i a) i b ≡ set xs i b
set-set [] i a b = refl
set-set (x ∷ xs) zero a b = refl
set-set (x ∷ xs) (suc i) a b = ap (λ l. x ∷ l) (set-set xs i a b)

post-append : (config : Config) (links : Links) (a : ℕ) (xs ys : List Sending)
    → post config links a (xs ++ ys) ≡ post config (post config links a xs) a ys
unfolding post
post-append config links a [] ys = refl
post-append config links a (x ∷ xs) ys =
    post-append config (put_link links a (place_of config x.to) (link links a (place_of config x.to) ++ x.letter ∷ [])) a xs ys

-- Chains.

with_parts : World → List ServerModel → Links → List Entry → World
with_parts w servers links ledger = record w { servers = servers; links = links; ledger = ledger }

same_parts : (w : World) {s t : List ServerModel} {k l : Links} {es fs : List Entry} → s ≡ t → k ≡ l → es ≡ fs
    → with_parts w s k es ≡ with_parts w t l fs
same_parts w a b c = rw (a, b, c) refl

nothing_done : (w : World) (me : Server) → w ≡ after_server w me w.links (record { state = pool_of w me; sends = []; entries = [] })
unfolding post with_parts
nothing_done w me = same_parts w (sym (set-get_or w.servers me.0 (new_pool w.config me))) refl (sym (append-nil w.ledger))

-- the acting server
pub pool_is : (w : World) (me : Server) (a : Act) → me.0 < length w.servers → pool_of (acted w me a) me ≡ done a (pool_of w me)
pool_is w me a here = get_or-set_same w.servers me.0 (done a (pool_of w me)) (new_pool w.config me) here

-- a server is in the world after an act, too
pub inside_after : (w : World) (me : Server) (a : Act) → me.0 < length w.servers → me.0 < length (acted w me a).servers
inside_after w me a here = let same = length-set w.servers me.0 (done a (pool_of w me)) in omega arith

-- one act, and then all others at once, is all at once
one_joined : (w : World) (me : Server) (a : Act) (x : Served) → after_server (acted w me a) me (acted w me a).links x
    ≡ after_server w me (taken_off w.config me w.links (takes a)) (joined (sends a (pool_of w me)) (entries a (pool_of w me)) x)
unfolding with_parts
one_joined w me a x =
    same_parts w (set-set w.servers me.0 (done a (pool_of w me)) x.state)
    (sym (post-append w.config (taken_off w.config me w.links (takes a)) (place_of w.config (by.Server me)) (sends a (pool_of w me))
    x.sends))
    (append_assoc w.ledger (entries a (pool_of w me)) x.entries)

-- acts of which none takes a letter
quietly : (w : World) (me : Server) (list : List Act) → me.0 < length w.servers → TakeNone list
    → acted_all w me list ≡ after_server w me w.links (carried list (pool_of w me))
quietly w me [] here none = nothing_done w me
quietly w me (a ∷ more) here none =
    let v = acted w me a in
    let rest = quietly v me more (inside_after w me a here) none.1 ∙ ap (λ s. after_server v me v.links (carried more s))
    (pool_is w me a here) in
    rest ∙ one_joined w me a (carried more (done a (pool_of w me)))
    ∙ ap (λ h. after_server w me (taken_off w.config me w.links h) (carried (a ∷ more) (pool_of w me))) none.0

-- the first act takes what it takes, and the others nothing
chained : (w : World) (me : Server) (a : Act) (more : List Act) → me.0 < length w.servers → TakeNone more
    → acted_all w me (a ∷ more) ≡ after_server w me (taken_off w.config me w.links (takes a)) (carried (a ∷ more) (pool_of w me))
chained w me a more here none =
    let v = acted w me a in
    quietly v me more (inside_after w me a here) none ∙ ap (λ s. after_server v me v.links (carried more s)) (pool_is w me a here)
    ∙ one_joined w me a (carried more (done a (pool_of w me)))

-- An event: the server has its stamp, the first act takes the letter, and the others follow.
pub event_is_acts : (w : World) (from : Actor) (me : Server) (letter : Letter) (rest : List Letter) (stamp : ℕ) (up : Bool)
    (a : Act) (more : List Act)
    → me.0 < length w.servers → link w.links (place_of w.config from) (place_of w.config (by.Server me)) ≡ letter ∷ rest
    → takes a ≡ record { from = from; message = letter.message } ∷ [] → TakeNone more
    → after_server w me (taken w from (by.Server me) rest) (carried (a ∷ more) (ticked (pool_of w me) stamp up))
    ≡ acted_all (ticks w me stamp up) me (a ∷ more)
unfolding with_parts
event_is_acts w from me letter rest stamp up a more here front takes_it none =
    let v = ticks w me stamp up in
    let s = ticked (pool_of w me) stamp up in
    let inside : me.0 < length v.servers = let same = length-set w.servers me.0 s in omega arith in
    let pool : pool_of v me ≡ s = get_or-set_same w.servers me.0 s (new_pool w.config me) here in
    let off : taken_off w.config me w.links (takes a) ≡ taken w from (by.Server me) rest =
    ap (taken_off w.config me w.links) takes_it ∙ ap (λ ls. taken w from (by.Server me) (behind_front ls)) front in
    let x = carried (a ∷ more) s in
    let all : acted_all v me (a ∷ more) ≡ after_server v me (taken w from (by.Server me) rest) x =
    chained v me a more inside none ∙ ap (λ t. after_server v me (taken_off w.config me w.links (takes a)) (carried (a ∷ more) t)) pool
    ∙ ap (λ l. after_server v me l x) off in
    sym (all ∙ same_parts w (set-set w.servers me.0 s x.state) refl refl)
