-- What a token says of the bag through the acts that follow the first of an event.
use Rattle.std.proofs.Common.{◌≡◌, ◌≢◌, ◌<◌, Bool, true, false, List, [], ◌∷◌, refl, sym, ap, ◌∙◌, subst, arith}
use Rattle.adlb_unit.specs.declared.configs.Config.{Config}
use Rattle.adlb_unit.specs.declared.names.Server.{Server}
use Rattle.bag_ledger.specs.Bag.{Bag, settled, start as empty_bag}
use Rattle.bag_ledger.specs.Runs.{IsRun, IsRunWhere}
use Rattle.bag_ledger.proofs.Legal.{joined_where}
use Rattle.server_law.specs.Acts.{Act, Checks_alone, Fails, Finds, Finds_alone, Gives_up, Hears_failed, Marks, Passes, Shuts, Shuts_alone}
use Rattle.server_law.specs.Acts.{Starts, entries, takes}
use Rattle.server_law.specs.State.{ServerModel}
use Rattle.server_law.specs.Sure.{Sure, TakeNone}
use Rattle.core_run.specs.World.{World, pool_of}
use Rattle.core_law.specs.Acting.{AreActs, IsAct, acted, acted_all}
use Rattle.core_law.specs.Found.{found_in}
use Rattle.core_law.specs.Lawful.{IsLawful}
use Rattle.core_law.specs.Measures.{IsBalanced}
use Rattle.core_law.specs.OnLinks.{Each}
use Rattle.core_law.specs.Well.{IsWell}
use Rattle.core_law.proofs.ActLawful.{act_lawful}
use Rattle.core_law.proofs.Acts.{balance_kept}
use Rattle.core_law.proofs.LettersAndActors.{act_well, own_of}
use Rattle.core_check_law.specs.Settling.{Settles}
use Rattle.core_check_law.specs.Tokens.{tokens}
use Rattle.core_check_law.proofs.Classes.{is_alone, is_turn}
use Rattle.core_check_law.proofs.NeverAtRest.{is_query}
use Rattle.core_check_law.proofs.Runs.{act_other, finds, run_other, split_run}
use Rattle.core_check_law.proofs.RestKept.{is_still}
use Rattle.core_check_law.proofs.LoudActs.{is_loud}
use Rattle.core_check_law.proofs.Tokens.{token_kept}
use Rattle.core_check_law.proofs.Turns.{marked_of}
use Rattle.core_check_law.proofs.VoidTokens.{Voids, void_settles, void_stays}
use Rattle.core_check_law.proofs.ThroughActs.{other_old, other_voids, starts_voids, still_old, still_settles}

-- What holds in each world between acts, with its bag.
pub record Holds (w : World) (b : Bag) : Type 0 where
  pub well : IsWell w
  pub lawful : IsLawful w b
  pub tokens : IsBalanced tokens w
  -- the ledger is a legal run of the bag
  pub legal : IsRun (empty_bag w.config) w.ledger b

-- where exhaustion is found the bag is settled
abbrev pub SettledFor : Act → Bag → Type 0
SettledFor (Finds from t) b = settled b ≡ true
SettledFor Finds_alone b = settled b ≡ true
SettledFor _ b = Unit {0}

-- the entries of an act that may find exhaustion are a legal run
pub run_settled : (a : Act) (s : ServerModel) (found : Bag → Bool) (b n : Bag) → SettledFor a b → IsRunWhere found b (entries a s) n
    → IsRun b (entries a s) n
run_settled (Finds from t) s found b n is run = (run.0, (run.1.0, (is, run.1.1.1), run.1.2), run.2)
run_settled Finds_alone s found b n is run = (run.0, (run.1.0, (is, run.1.1.1), run.1.2), run.2)
run_settled a s found b n is run = by_class a refl run
  where
    by_class : (a : Act) → finds a ≡ false → IsRunWhere found b (entries a s) n → IsRun b (entries a s) n
    by_class a other run = run_other found b n (entries a s) (act_other a s other) run

-- through an act
pub record Next (w : World) (b : Bag) (k : Server) (a : Act) : Type 0 where
  pub bag : Bag
  pub run : IsRunWhere (found_in w.config) b (entries a (pool_of w k)) bag
  pub holds : Holds (acted w k a) bag

-- an act that may find exhaustion leaves what holds of world and bag
pub act_holds : (w : World) (b : Bag) (k : Server) (a : Act) → Holds w b → IsAct w k a → SettledFor a b → Next w b k a
act_holds w b k a h is found =
    let s = pool_of w k in
    let es = entries a s in
    let l = act_lawful w k b h.well h.lawful a is in
    let run = split_run (found_in w.config) (empty_bag w.config) b l.0 w.ledger es (h.lawful).run (l.1).run in
    let own = own_of w k a h.well is in
    record {
      bag = l.0;
      run = run;
      holds = record {
        well = act_well w k a h.well is;
        lawful = l.1;
        tokens = balance_kept tokens w k a (h.well).shape is own
            (token_kept w.config k a s is.here ((h.well).own.servers k is.here) is.sure) h.tokens;
        legal = joined_where settled (empty_bag w.config) b l.0 w.ledger es h.legal (run_settled a s (found_in w.config) b l.0 found run);
      };
    }

-- Acts that follow.

not_alone : (a : Act) (s : ServerModel) → Sure a s → s.config.servers ≢ 1 → is_alone a ≡ false
not_alone Finds_alone s sure several = absurd (several sure.alone)
not_alone Shuts_alone s sure several = absurd (several sure.0)
not_alone Checks_alone s sure several = absurd (several sure)
not_alone _ s sure several = refl

-- the act starts a check
abbrev pub is_start : Act → Bool
is_start Starts = true
is_start _ = false

start_is : (a : Act) → is_start a ≡ true → a ≡ Starts
start_is Starts e = refl
start_is _ e = absurd (cc)

-- one that takes no letter begins a check, or is no turn
no_turn : (a : Act) → takes a ≡ [] → is_start a ≡ false → is_turn a ≡ false
no_turn Starts none other = absurd (cc)
no_turn (Marks from t) none other = absurd (cc)
no_turn (Passes from t) none other = absurd (cc)
no_turn (Fails from t why) none other = absurd (cc)
no_turn (Gives_up from t) none other = absurd (cc)
no_turn (Hears_failed from t why) none other = absurd (cc)
no_turn (Finds from t) none other = absurd (cc)
no_turn (Shuts from t) none other = absurd (cc)
no_turn _ none other = refl

nothing_found : (a : Act) (b : Bag) → takes a ≡ [] → is_alone a ≡ false → SettledFor a b
nothing_found (Finds from t) b none alone = absurd (cc)
nothing_found Finds_alone b none alone = absurd (cc)
nothing_found _ b none alone = tt

-- an act that is neither loud, nor of a turn, nor of a server alone leaves all that rests
pub quiet_or_still : (a : Act) → is_loud a ≡ false → is_turn a ≡ false → is_alone a ≡ false → is_still a ≡ true
quiet_or_still a quiet turn alone = by_act a quiet turn alone
  where
    by_act : (a : Act) → is_loud a ≡ false → is_turn a ≡ false → is_alone a ≡ false → is_still a ≡ true
    by_act Starts quiet turn alone = absurd (cc)
    by_act _ quiet turn alone = cc

-- it begins no push, and where the letter does not raise the activity it is one of the ring
abbrev pub Suits : Bool → Act → Type 0
Suits up a = (is_query a ≡ false) × (up ≡ false → is_loud a ≡ false)

-- it holds of the world and the bag to which its ledger leads
abbrev pub Behind : (World → Bag → Type 0) → World → Type 0
Behind P w = (n : Bag) × Holds w n × P w n

module _ (k : Server) where
  -- with several servers no act of a run is the whole check of a server that is alone
  pub alone_not : (w : World) (a : Act) → IsWell w → 1 < w.config.servers → IsAct w k a → is_alone a ≡ false
  alone_not w a well several is =
      let own = well.own.servers k is.here in
      not_alone a (pool_of w k) is.sure (λ e. let c = ap (λ (x : Config). x.servers) own.config in absurd (omega arith))

  -- tokens that say nothing of the bag say nothing through the acts that follow
  pub follow_voids : (list : List Act) (w : World) (b : Bag) → 1 < w.config.servers → Holds w b → TakeNone list → AreActs w k list
      → Voids w b
      → Behind Voids (acted_all w k list)
  follow_voids [] w b several h none are on = (b, h, on)
  follow_voids (a ∷ more) w b several h none are on =
      let is = are.0 in
      let alone = alone_not w a h.well several is in
      let x = act_holds w b k a h is (nothing_found a b none.0 alone) in
      follow_voids more (acted w k a) x.bag several x.holds none.1 are.1 (by_start (is_start a) refl x.bag x.run is alone)
    where
      by_start : (t : Bool) → is_start a ≡ t → (n : Bag) → IsRunWhere (found_in w.config) b (entries a (pool_of w k)) n → IsAct w k a
          → is_alone a ≡ false → Voids (acted w k a) n
      by_start true starts n run is alone =
          let it = start_is a starts in
          subst (λ (c : Act). Voids (acted w k c) n) (sym it) (starts_voids w b n k h.well (subst (IsAct w k) it is) h.tokens)
      by_start false other n run is alone =
          let old = other_old a (no_turn a none.0 other) alone in
          void_stays w b n k h.well a (found_in w.config) is run old.0 old.1 on

  -- the server has changed since its mark
  abbrev IsPast : World → Type 0
  IsPast v = (pool_of v k).kept.ring.mark < (pool_of v k).activity

  -- what tokens say of the bag stays so through the acts that follow
  pub follow_settles : (up : Bool) (list : List Act) (w : World) (b : Bag) → 1 < w.config.servers → Holds w b → TakeNone list
      → AreActs w k list → Each (Suits up) list → (up ≡ true → IsPast w) → Settles w b
      → Behind Settles (acted_all w k list)
  follow_settles up [] w b several h none are suits more on = (b, h, on)
  follow_settles up (a ∷ list) w b several h none are suits more on =
      by_start (λ x later. follow_settles up list (acted w k a) x several later none.1 are.1 suits.1) (is_start a) refl
    where
      is : IsAct w k a
      is = are.0

      alone : is_alone a ≡ false
      alone = alone_not w a h.well several is

      x : Next w b k a
      x = act_holds w b k a h is (nothing_found a b none.0 alone)

      Last : Type 0
      Last = Behind Settles (acted_all (acted w k a) k list)

      from_void : Voids (acted w k a) x.bag → Last
      from_void void =
          let l = follow_voids list (acted w k a) x.bag several x.holds none.1 are.1 void in
          (l.0, l.1, void_settles (acted_all (acted w k a) k list) l.0 l.2)

      is_up : (t : Bool) → up ≡ t → is_still a ≡ false → is_turn a ≡ false → up ≡ true
      is_up true e stirs turn = e
      is_up false e stirs turn =
          let it : true ≡ false = sym (quiet_or_still a (suits.0.1 e) turn alone) ∙ stirs in absurd (cc)

      still_more : is_still a ≡ true → up ≡ true → IsPast (acted w k a)
      still_more quiet raised =
          let m = marked_of w k h.well a is (still_old a quiet).0 k is.here in
          let mark = m.mark in
          let activity = m.activity in
          let was = more raised in
          omega arith

      by_still : ((n : Bag) → Holds (acted w k a) n → (up ≡ true → IsPast (acted w k a)) → Settles (acted w k a) n → Last)
          → is_turn a ≡ false → (t : Bool) → is_still a ≡ t → Last
      by_still later turn true quiet = later x.bag x.holds (still_more quiet) (still_settles w b x.bag k h.well a is x.run quiet on)
      by_still later turn false stirs =
          from_void (other_voids w b x.bag k h.well a is h.lawful x.run stirs turn alone suits.0.0 (more (is_up up refl stirs turn)) on)

      by_start : ((n : Bag) → Holds (acted w k a) n → (up ≡ true → IsPast (acted w k a)) → Settles (acted w k a) n → Last) → (t : Bool)
          → is_start a ≡ t → Last
      by_start later true starts =
          let it = start_is a starts in
          from_void (subst (λ (c : Act). Voids (acted w k c) x.bag) (sym it)
          (starts_voids w b x.bag k h.well (subst (IsAct w k) it is) h.tokens))
      by_start later false other = by_still later (no_turn a none.0 other) (is_still a) refl
