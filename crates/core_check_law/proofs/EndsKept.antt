-- Server 0 tells each other server of an end once: in each world between acts.
use Rattle.std.proofs.Common.{◌≡◌, ◌≢◌, ◌<◌, ◌≤◌, inl, inr, ◌==◌, Bool, true, false, cond, not, List, [], ◌∷◌, length, refl, sym, ap, ◌∙◌}
use Rattle.std.proofs.Common.{subst, arith}
use Rattle.std.proofs.lemmas.Bool.{and_parts, eq-eqb, eqb-true, false_from_ne_true, lt-ltb}
use Rattle.adlb_unit.specs.declared.actors.Actor.TheVariants as by
use Rattle.adlb_unit.specs.declared.configs.Config.{Config}
use Rattle.adlb_unit.specs.declared.messages.Message.{Message}
use Rattle.adlb_unit.specs.declared.messages.Message.TheVariants as tells
use Rattle.adlb_unit.specs.declared.names.Server.{Server}
use Rattle.adlb_unit.specs.declared.messages.Why.{Why}
use Rattle.adlb_unit.specs.declared.tokens.Token.{Token}
use Rattle.server_law.specs.Acts.{Act, Checks_alone, Fails, Finds, Finds_alone, Gives_up, Hears_exhaust, Hears_failed, Hears_shutdown}
use Rattle.server_law.specs.Acts.{Heard, Shuts, Shuts_alone, Starts, does, of_server, ring_after, says, shut_after, takes, zeroth}
use Rattle.server_law.specs.Carried.{done}
use Rattle.server_law.specs.State.{Kept, ServerModel, start as new_pool}
use Rattle.server_law.specs.Sure.{IsFailing, Sure}
use Rattle.core_run.specs.World.{World, pool_of, server_named}
use Rattle.core_law.specs.Acting.{AreFront, IsAct, acted}
use Rattle.core_law.specs.Letters.{one}
use Rattle.core_law.specs.Measures.{IsBalanced, due, server_weight}
use Rattle.core_law.specs.Well.{IsWell}
use Rattle.core_law.proofs.Actors.{every_pool, pool_there}
use Rattle.core_law.proofs.Acts.{balance_kept, counted_kept}
use Rattle.core_law.proofs.Fifo.{front_beside}
use Rattle.core_law.proofs.OwedByRanks.{no_sum}
use Rattle.core_law.proofs.Sums.{one_adds}
use Rattle.core_law.proofs.LettersAndActors.{act_well, fit_of, inside_servers, own_of}
use Rattle.core_check_law.specs.Ends.{end_letter, ends, exhausts, flag_at, is_exhaust, is_exhausted, is_shut, is_shutdown, shuts}
use Rattle.core_check_law.proofs.Ending.{IsNewExhaust, IsNewShutdown, exhaust_kept, shut_kept}

-- no check runs where the end of the run was found
abbrev pub IsOpenAtZeroth : World → Type 0
IsOpenAtZeroth w = (pool_of w zeroth).kept.ring.runs ≡ true → (pool_of w zeroth).kept.shut ≡ false

-- of each other server
pub record AreEnding (w : World) : Type 0 where
  pub exhausts : (t : Server) → t.0 ≢ 0 → t.0 < w.config.servers → IsBalanced (exhausts t) w
  pub shuts : (t : Server) → t.0 ≢ 0 → t.0 < w.config.servers → IsBalanced (shuts t) w
  pub going : IsOpenAtZeroth w

one_few : (t : Bool) → one t ≤ 1
one_few true = omega arith
one_few false = omega arith

one_none : (t : Bool) → one t ≡ 0 → t ≡ false
one_none true none = absurd (omega arith)
one_none false none = refl

-- what is owed is what server 0 knows
pub zeroth_owed : (is : Message → Bool) (flag : Kept → Bool) (t : Server) (w : World) → 0 < length w.servers
    → due (ends is flag t) w ≡ one (flag (pool_of w zeroth).kept)
unfolding due
zeroth_owed is flag t w inside =
    let owed = one_adds (server_weight (flag_at flag 0)) w.servers 0 (new_pool w.config zeroth) inside
    (λ i x differs. ap (λ b. cond b (one (flag x.kept)) 0) (false_from_ne_true (i == 0) (λ e. differs (eqb-true i 0 e)))) in
    let none = no_sum w.ranks in
    omega arith

-- the letter at the front says an end that its receiver does not know
module _ (w : World) (k : Server) (a : Act) (well : IsWell w) (act : IsAct w k a) where
  abbrev s : ServerModel
  s = pool_of w k

  named : s.me ≡ k
  named = (own_of w k a well act).named

  in_run : (t : Server) → t.0 < w.config.servers → t.0 < s.config.servers
  in_run t low = let same = ap (λ (c : Config). c.servers) (own_of w k a well act).config in omega arith

  some : 0 < length w.servers
  some = let e = (well.shape).servers in let h = act.here in omega arith

  elsewhere : (from : Server) (m : Message) → takes a ≡ of_server from m ∷ [] → (from.0 == 0) ≡ true → (not (from.0 == k.0)) ≡ true
      → s.me.0 ≢ 0
  elsewhere from m it zero apart first =
      let same : from.0 ≡ k.0 = eqb-true from.0 0 zero ∙ sym first ∙ ap (λ (x : Server). x.0) named in
      let e = eq-eqb from.0 k.0 same in
      absurd (cc)

  unknown : (is : Message → Bool) (flag : Kept → Bool) (t from : Server) (m : Message) → takes a ≡ of_server from m ∷ [] → is m ≡ true
      → IsBalanced (ends is flag t) w → (s.me.0 == t.0) ≡ true → flag s.kept ≡ false
  unknown is flag t from m it told even here =
      let f = subst (λ (heard : List Heard). AreFront w.config k w.links heard) it act.front in
      let part = front_beside (ends is flag t) w (by.Server from) (by.Server k) f.0 f.1 k well.shape f.2
      (lt-ltb k.0 w.config.servers act.here) f.3 act.here in
      let at : (k.0 == t.0) ≡ true = ap (λ (x : Server). x.0 == t.0) (sym named) ∙ here in
      let weighs : end_letter is t (by.Server from) (by.Server k) (f.0).message ≡ 1 = rw (f.4, told, at) refl in
      let holds : flag_at flag t.0 k.0 s.kept ≡ one (flag s.kept) = rw at refl in
      let owed = zeroth_owed is flag t w some in
      let few = one_few (flag (pool_of w zeroth).kept) in
      let same = even.same in
      one_none (flag s.kept) (omega arith)

-- Each letter that says an end is the first to say it.

new_exhaust : (w : World) (k : Server) (a : Act) (well : IsWell w) (act : IsAct w k a) (t : Server) → IsBalanced (exhausts t) w
    → IsNewExhaust t a (pool_of w k)
new_exhaust w k (Hears_exhaust from) well act t even =
    let a = Hears_exhaust from in
    let fits = and_parts (not (from.0 == k.0)) (from.0 == 0) (fit_of w k a well act).0.1 in (
      elsewhere w k a well act from tells.Exhaust refl fits.1 fits.0,
      unknown w k a well act is_exhaust is_exhausted t from tells.Exhaust refl refl even,
    )
new_exhaust w k _ well act t even = tt

new_shutdown : (w : World) (k : Server) (a : Act) (well : IsWell w) (act : IsAct w k a) (t : Server) → IsBalanced (shuts t) w
    → (k.0 ≡ 0 → (pool_of w k).kept.ring.runs ≡ true → (pool_of w k).kept.shut ≡ false) → IsNewShutdown t a (pool_of w k)
new_shutdown w k (Hears_shutdown from) well act t even going =
    let a = Hears_shutdown from in
    let fits = and_parts (not (from.0 == k.0)) (from.0 == 0) (fit_of w k a well act).0.1 in (
      elsewhere w k a well act from tells.Shutdown refl fits.1 fits.0,
      unknown w k a well act is_shutdown is_shut t from tells.Shutdown refl refl even,
    )
new_shutdown w k (Shuts from u) well act t even going =
    let running = (act.sure).0.running in
    going (ap (λ (x : Server). x.0) (sym (named w k (Shuts from u) well act)) ∙ running.zeroth) running.runs
new_shutdown w k _ well act t even going = tt

-- No check runs where the end of the run was found.

-- while a check runs at server 0 it is not shut
abbrev pub IsGoing : Server → ServerModel → Type 0
IsGoing k s = k.0 ≡ 0 → s.kept.ring.runs ≡ true → s.kept.shut ≡ false

-- what is so of server 0 of a world, said of each server
pub going_at : (w : World) → IsOpenAtZeroth w → (t : Server) → IsGoing t (pool_of w t)
going_at w was t first = subst (λ (x : Server). (pool_of w x).kept.ring.runs ≡ true → (pool_of w x).kept.shut ≡ false)
    (ap server_named (sym first)) was

fails_elsewhere : (s : ServerModel) (t : Token) (why : Why) → IsFailing s t why → s.me.0 ≢ 0
fails_elsewhere s t why (inl marks) = marks.0.other
fails_elsewhere s t why (inr tests) = tests.0.other

going_after : (a : Act) (s : ServerModel) → s.me.0 ≡ 0 → Sure a s → ((from : Server) → a ≡ Hears_shutdown from → ⊥)
    → (s.config.servers ≡ 1 → (ring_after a s).runs ≡ false) → (s.kept.ring.runs ≡ true → s.kept.shut ≡ false)
    → (ring_after a s).runs ≡ true → shut_after a s.kept.shut ≡ false
going_after Starts s first sure other alone was now = (sure.0).going
going_after (Fails from t why) s first sure other alone was now = absurd (fails_elsewhere s t why sure.1 first)
going_after (Gives_up from t) s first sure other alone was now = absurd (cc)
going_after (Hears_failed from t why) s first sure other alone was now = absurd (cc)
going_after (Finds from t) s first sure other alone was now = absurd (cc)
going_after (Shuts from t) s first sure other alone was now = absurd (cc)
going_after (Hears_shutdown from) s first sure other alone was now = absurd (other from refl)
going_after Finds_alone s first sure other alone was now = let ended = alone sure.alone in absurd (cc)
going_after Shuts_alone s first sure other alone was now = let ended = alone sure.0 in absurd (cc)
going_after Checks_alone s first sure other alone was now = let ended = alone sure in absurd (cc)
going_after _ s first sure other alone was now = was now

-- server 0 is not told that it may end
pub no_shutdown : (w : World) (k : Server) (a : Act) (well : IsWell w) (act : IsAct w k a) → (pool_of w k).me.0 ≡ 0 → (from : Server)
    → a ≡ Hears_shutdown from → ⊥
no_shutdown w k a well act first from is =
    let b = Hears_shutdown from in
    let act_is = subst (λ (x : Act). IsAct w k x) is act in
    let fits = and_parts (not (from.0 == k.0)) (from.0 == 0) (fit_of w k b well act_is).0.1 in
    elsewhere w k b well act_is from tells.Shutdown refl fits.1 fits.0 first

-- server 0 is not told that all work is used up
pub no_exhaust : (w : World) (k : Server) (a : Act) (well : IsWell w) (act : IsAct w k a) → (pool_of w k).me.0 ≡ 0 → (from : Server)
    → a ≡ Hears_exhaust from → ⊥
no_exhaust w k a well act first from is =
    let b = Hears_exhaust from in
    let act_is = subst (λ (x : Act). IsAct w k x) is act in
    let fits = and_parts (not (from.0 == k.0)) (from.0 == 0) (fit_of w k b well act_is).0.1 in
    elsewhere w k b well act_is from tells.Exhaust refl fits.1 fits.0 first

act_going : (w : World) (k : Server) (a : Act) (well : IsWell w) (act : IsAct w k a) → IsGoing k (pool_of w k)
    → IsGoing k (done a (pool_of w k))
act_going w k a well act was first =
    let s = pool_of w k in
    let own = own_of w k a well act in
    let here : s.me.0 ≡ 0 = ap (λ (x : Server). x.0) own.named ∙ first in
    let next = (act_well w k a well act).own.servers k act.here in
    let kept = counted_kept (does a s) (says a s) in
    let ended : s.config.servers ≡ 1 → (ring_after a s).runs ≡ false = λ alone.
    let pool = pool_there w k (done a s) (inside_servers w k well act.here) in
    let run = ap (λ (c : Config). c.servers) (sym own.config) ∙ alone in
    sym (ap (λ (x : Kept). x.ring.runs) kept) ∙ ap (λ (x : ServerModel). x.kept.ring.runs) (sym pool) ∙ next.alone run in
    subst (λ (x : Kept). x.ring.runs ≡ true → x.shut ≡ false) (sym kept)
    (going_after a s here act.sure (no_shutdown w k a well act here) ended (was first))

-- Together.

-- each act keeps that server 0 tells each other server once
pub act_ends : (w : World) (k : Server) (a : Act) → IsWell w → IsAct w k a → AreEnding w → AreEnding (acted w k a)
act_ends w k a well act was =
    let s = pool_of w k in
    let own = own_of w k a well act in
    let here : IsGoing k s = going_at w was.going k in
    let now = every_pool IsGoing w k (done a s) (inside_servers w k well act.here) (act_going w k a well act here)
    (λ t there differs. going_at w was.going t) in
    record {
      exhausts = λ t other low. balance_kept (exhausts t) w k a well.shape act own
          (exhaust_kept t a s other (in_run w k a well act t low) act.sure (new_exhaust w k a well act t (was.exhausts t other low)))
          (was.exhausts t other low);
      shuts = λ t other low. balance_kept (shuts t) w k a well.shape act own
          (shut_kept t a s other (in_run w k a well act t low) act.sure (new_shutdown w k a well act t (was.shuts t other low) here))
          (was.shuts t other low);
      going = now zeroth w.config.servers_within.0 refl;
    }
