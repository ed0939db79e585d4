-- What a token says of the bag through the acts of an event: first through each act.
use Rattle.std.proofs.Common.{◌≡◌, ◌<◌, Bool, true, false, [], refl, sym, subst, arith}
use Rattle.adlb_unit.specs.declared.actors.Actor.TheVariants as by
use Rattle.adlb_unit.specs.declared.names.Server.{Server}
use Rattle.adlb_unit.specs.declared.tokens.Token.{Token}
use Rattle.bag_ledger.specs.Bag.{Bag}
use Rattle.bag_ledger.specs.Runs.{IsRunWhere}
use Rattle.exhaust_ring.specs.Ring.{token}
use Rattle.server_law.specs.Acts.{Act, Checks_alone, Fails, Finds, Finds_alone, Gives_up, Hears_failed, Marks, Passes, ServerSaying, Shuts}
use Rattle.server_law.specs.Acts.{Shuts_alone, Starts, entries, onward, says, takes}
use Rattle.server_law.specs.State.{ServerModel}
use Rattle.core_run.specs.World.{World, pool_of}
use Rattle.core_law.specs.Acting.{IsAct, acted, taken_off}
use Rattle.core_law.specs.Found.{found_in}
use Rattle.core_law.specs.Lawful.{IsLawful}
use Rattle.core_law.specs.Measures.{IsBalanced, heard_weight}
use Rattle.core_law.specs.OnLinks.{Each, OnLinks}
use Rattle.core_law.specs.Well.{IsWell}
use Rattle.core_law.proofs.Acts.{taken_off_on}
use Rattle.core_law.proofs.UnderWay.{weaker}
use Rattle.core_law.proofs.LettersAndActors.{own_of}
use Rattle.core_check_law.specs.OnWay.{IsRinged, OnToken, reach}
use Rattle.core_check_law.specs.Settling.{AreUnchanged, IsOpen, IsSettledBehind, IsSettling, Settles}
use Rattle.core_check_law.specs.Tokens.{token_letter, tokens}
use Rattle.core_check_law.proofs.Begins.{pass_settles}
use Rattle.core_check_law.proofs.Classes.{is_alone, is_turn, marks_new, said_none, says_token}
use Rattle.core_check_law.proofs.Letters.{letters_next}
use Rattle.core_check_law.proofs.NeverAtRest.{is_query, never}
use Rattle.core_check_law.proofs.Quiet.{AreTold}
use Rattle.core_check_law.proofs.RestKept.{as_was, is_still, settling_stays, still, still_enters}
use Rattle.core_check_law.proofs.Tokens.{NoToken, none_left, none_runs, not_token}
use Rattle.core_check_law.proofs.Turns.{token_front, unchanged_back, zeroth_here}
use Rattle.core_check_law.proofs.VoidTokens.{IsVoid, Voids, open_before, tokens_next}

-- the token goes on in wave 2
abbrev pub goes_on : Act → Bool
goes_on (Passes from t) = true
goes_on _ = false

-- an act that leaves all that rests takes no mark and says no token
pub still_old : (a : Act) → is_still a ≡ true → (marks_new a ≡ false) × (says_token a ≡ false)
still_old Starts e = absurd (cc)
still_old (Marks from t) e = absurd (cc)
still_old (Passes from t) e = absurd (cc)
still_old Finds_alone e = absurd (cc)
still_old Shuts_alone e = absurd (cc)
still_old Checks_alone e = absurd (cc)
still_old _ e = (refl, refl)

-- an act that is neither of a turn nor of a server alone takes no mark and says no token
pub other_old : (a : Act) → is_turn a ≡ false → is_alone a ≡ false → (marks_new a ≡ false) × (says_token a ≡ false)
other_old Starts e f = absurd (cc)
other_old (Marks from t) e f = absurd (cc)
other_old (Passes from t) e f = absurd (cc)
other_old Finds_alone e f = absurd (cc)
other_old Shuts_alone e f = absurd (cc)
other_old Checks_alone e f = absurd (cc)
other_old _ e f = (refl, refl)

module _ (w : World) (b n : Bag) (k : Server) (well : IsWell w) where
  abbrev s : ServerModel
  s = pool_of w k

  abbrev Runs : Act → Type 0
  Runs a = IsRunWhere (found_in w.config) b (entries a s) n

  -- where no token is left, and the act says one of wave 1 or none, nothing is said of the bag
  abbrev SaysFirst : Act → Type 0
  SaysFirst a = Each (λ (y : ServerSaying). OnToken (IsVoid (acted w k a) n) (by.Server k) y.to y.message) (says a s)

  voids_of : (a : Act) → IsAct w k a → OnLinks NoToken w.config (taken_off w.config k w.links (takes a)) → SaysFirst a
      → Voids (acted w k a) n
  voids_of a is none said =
      letters_next (λ from to m. OnToken (IsVoid (acted w k a) n) from to m) w k a well.shape is (own_of w k a well is)
      (weaker NoToken (λ from to l. OnToken (IsVoid (acted w k a) n) from to l.message) w.config (taken_off w.config k w.links (takes a))
      (λ from to l z. not_token (IsVoid (acted w k a) n) from to l.message z) none) said

  -- after the start of a check no token says anything of the bag
  pub starts_voids : IsAct w k Starts → IsBalanced tokens w → Voids (acted w k Starts) n
  starts_voids is even =
      let off = is.sure.0 in
      let it = zeroth_here w k well is.here off.zeroth in
      let none = none_runs w well.shape (let h = is.here in omega arith) even
      (subst (λ (c : Server). (pool_of w c).kept.ring.runs ≡ false) it off.alone) in
      voids_of Starts is (taken_off_on NoToken w.config k w.links [] is.here tt (well.shape).square none)
      ((λ second. absurd (omega arith)), tt)

  turn_voids : (a : Act) → IsAct w k a → IsBalanced tokens w → heard_weight token_letter k (takes a) ≡ 1 → SaysFirst a
      → Voids (acted w k a) n
  turn_voids a is even one_taken said = voids_of a is (none_left w k a well.shape is even one_taken) said

  -- an act of no check
  pub still_settles : (a : Act) → IsAct w k a → Runs a → is_still a ≡ true → Settles w b → Settles (acted w k a) n
  still_settles a is run quiet on =
      let old = still_old a quiet in
      let same : b ≡ n = subst (λ es. IsRunWhere (found_in w.config) b es n) (still_enters a s quiet) run in
      let v = acted w k a in
      tokens_next w b n k well (IsSettledBehind w b) (IsSettledBehind v n) a is old.1 (λ to t was second un going.
      let un_was : AreUnchanged w (reach w.config to) = λ c high there. unchanged_back w k well a is old.0 c there (un c high there) in
      let settling = was second un_was (subst (λ (x : Bag). IsOpen x t.asked) (sym same) going) in
      subst (λ (x : Bag). IsSettling v x (reach w.config to) t.asked) same
      (settling_stays w v.ranks v.servers v.links v.ledger b (reach w.config to) t.asked
      (as_was w k a well.shape is (still a s quiet)) settling)) on

  -- after an act of no token, at a server that has changed since its mark, no token says anything of the bag
  pub other_voids : (a : Act) → IsAct w k a → IsLawful w b → Runs a → is_still a ≡ false → is_turn a ≡ false → is_alone a ≡ false
      → is_query a ≡ false → s.kept.ring.mark < s.activity → Settles w b → Voids (acted w k a) n
  other_voids a is l run stirs turn alone query more on =
      let old = other_old a turn alone in
      tokens_next w b n k well (IsSettledBehind w b) (IsVoid (acted w k a) n) a is old.1 (λ to t was second un going.
      let un_was : AreUnchanged w (reach w.config to) = λ c high there. unchanged_back w k well a is old.0 c there (un c high there) in
      let was_open = open_before (found_in w.config) b n (entries a s) run t.asked going in
      never w b k (reach w.config to) t.asked well l un_was was_open (was second un_was was_open) a is stirs turn alone query more) on

  -- after a turn that does not go on no token says anything of the bag
  pub turns_void : (a : Act) → IsAct w k a → IsBalanced tokens w → is_turn a ≡ true → goes_on a ≡ false → Voids (acted w k a) n
  turns_void Starts is even turn other = starts_voids is even
  turns_void (Marks from t) is even turn other =
      let first = is.sure.1.wave in
      turn_voids (Marks from t) is even refl ((λ second. absurd (omega arith)), tt)
  turns_void (Passes from t) is even turn other = absurd (cc)
  turns_void (Fails from t why) is even turn other =
      turn_voids (Fails from t why) is even refl (said_none (IsVoid (acted w k (Fails from t why)) n) k (Fails from t why) s refl)
  turns_void (Gives_up from t) is even turn other =
      turn_voids (Gives_up from t) is even refl (said_none (IsVoid (acted w k (Gives_up from t)) n) k (Gives_up from t) s refl)
  turns_void (Hears_failed from t why) is even turn other =
      turn_voids (Hears_failed from t why) is even refl (said_none (IsVoid (acted w k (Hears_failed from t why)) n) k
      (Hears_failed from t why) s refl)
  turns_void (Finds from t) is even turn other =
      turn_voids (Finds from t) is even refl (said_none (IsVoid (acted w k (Finds from t)) n) k (Finds from t) s refl)
  turns_void (Shuts from t) is even turn other =
      turn_voids (Shuts from t) is even refl (said_none (IsVoid (acted w k (Shuts from t)) n) k (Shuts from t) s refl)
  turns_void _ is even turn other = absurd (cc)

  -- where the token goes on in wave 2
  pub pass_on : (from : Server) (t : Token) → IsAct w k (Passes from t) → IsLawful w b → IsRinged w → AreTold w → b ≡ n → Settles w b
      → Settles (acted w k (Passes from t)) n
  pass_on from t is l ring told same on =
      let a = Passes from t in
      let v = acted w k a in
      let was = token_front (IsSettledBehind w b) w k from t a is refl on in
      let next = pass_settles w b k from t well l ring is told was in
      let none = none_left w k a well.shape is ring.tokens refl in
      letters_next (λ from to m. OnToken (IsSettledBehind v n) from to m) w k a well.shape is (own_of w k a well is)
      (weaker NoToken (λ from to l. OnToken (IsSettledBehind v n) from to l.message) w.config (taken_off w.config k w.links (takes a))
      (λ from to l z. not_token (IsSettledBehind v n) from to l.message z) none)
      (subst (λ (x : Bag). IsSettledBehind v x (onward s) (token t.check 2 t.asked)) same next, tt)
