-- Where a token of wave 2 says nothing of the bag, since its condition does not hold; and that it does not come to hold.
use Rattle.std.proofs.Common.{◌≡◌, inl, inr, Bool, true, false, List, [], ◌∷◌, refl, sym, ap, ◌∙◌}
use Rattle.adlb_unit.specs.declared.names.Server.{Server}
use Rattle.adlb_unit.specs.declared.tokens.Token.{Token}
use Rattle.bag_ledger.specs.Bag.{Bag}
use Rattle.bag_ledger.specs.Runs.{IsRunWhere}
use Rattle.bag_ledger.specs.Steps.{after}
use Rattle.bag_ledger.specs.declared.entries.Entry.{Entry}
use Rattle.exhaust_ring.specs.Ring.{Asker}
use Rattle.server_law.specs.Acts.{Act, entries, takes}
use Rattle.core_run.specs.World.{World, pool_of}
use Rattle.core_law.specs.Acting.{IsAct, acted}
use Rattle.core_law.specs.Well.{IsWell}
use Rattle.core_law.proofs.Acts.{taken_off_on}
use Rattle.core_law.proofs.UnpushedUnits.{still_exhausted}
use Rattle.core_law.specs.OnLinks.{OnLinks}
use Rattle.core_law.proofs.UnderWay.{weaker}
use Rattle.core_law.proofs.LettersAndActors.{own_of}
use Rattle.core_check_law.specs.OnWay.{OnToken, reach}
use Rattle.core_check_law.specs.Settling.{AreUnchanged, IsOpen, IsSettledBehind, Settles}
use Rattle.core_check_law.proofs.Classes.{marks_new, said_none, says_token}
use Rattle.core_check_law.proofs.Letters.{letters_next}
use Rattle.core_check_law.proofs.Tokens.{token_weaker}
use Rattle.core_check_law.proofs.Turns.{unchanged_back}

-- What was found stays found.

is_found_after : (b : Bag) (e : Entry) → (after b e).exhausted ≡ false → b.exhausted ≡ false
is_found_after b e going = by_flag b.exhausted refl
  where
    by_flag : (t : Bool) → b.exhausted ≡ t → b.exhausted ≡ false
    by_flag false is = is
    by_flag true is = let it : true ≡ false = sym (still_exhausted b e is) ∙ going in absurd (cc)

found_back : (found : Bag → Bool) (b n : Bag) (es : List Entry) → IsRunWhere found b es n → n.exhausted ≡ false → b.exhausted ≡ false
found_back found b n [] run e = ap (λ (x : Bag). x.exhausted) run ∙ e
found_back found b n (x ∷ es) run e =
    let later = found_back found run.0 n es run.2 e in
    is_found_after b x (ap (λ (y : Bag). y.exhausted) (sym run.1.2) ∙ later)

-- what is open after entries was open before them
pub open_before : (found : Bag → Bool) (b n : Bag) (es : List Entry) → IsRunWhere found b es n → (asked : List Asker) → IsOpen n asked
    → IsOpen b asked
open_before found b n es run asked (inl nobody) = inl nobody
open_before found b n es run asked (inr fresh) = inr (found_back found b n es run fresh)

-- the condition does not hold
abbrev pub IsVoid : World → Bag → Server → Token → Type 0
IsVoid w b to t = t.wave ≡ 2 → AreUnchanged w (reach w.config to) → IsOpen b t.asked → ⊥

-- no token of wave 2 says anything of the bag, since its condition does not hold
abbrev pub Voids : World → Bag → Type 0
Voids w b = OnLinks (λ from to l. OnToken (IsVoid w b) from to l.message) w.config w.links

-- so all that tokens say of the bag is so
pub void_settles : (w : World) (b : Bag) → Voids w b → Settles w b
void_settles w b on =
    weaker (λ from to l. OnToken (IsVoid w b) from to l.message)
    (λ from to l. OnToken (IsSettledBehind w b) from to l.message) w.config w.links
    (λ from to l q. token_weaker (IsVoid w b) (IsSettledBehind w b) (λ to t v second un still. absurd (v second un still))
    from to l.message q) on

module _ (w : World) (b n : Bag) (k : Server) (well : IsWell w) where
  -- what each token said is said after an act that sends none
  pub tokens_next : (P Q : Server → Token → Type 0) (a : Act) → IsAct w k a → says_token a ≡ false
      → ((to : Server) (t : Token) → P to t → Q to t)
      → OnLinks (λ from to l. OnToken P from to l.message) w.config w.links
      → OnLinks (λ from to l. OnToken Q from to l.message) w.config (acted w k a).links
  tokens_next P Q a is silent f on =
      let weak = weaker (λ from to l. OnToken P from to l.message) (λ from to l. OnToken Q from to l.message) w.config w.links
      (λ from to l q. token_weaker P Q f from to l.message q) on in
      let left = taken_off_on (λ from to l. OnToken Q from to l.message) w.config k w.links (takes a) is.here is.front
      (well.shape).square weak in
      letters_next (λ from to m. OnToken Q from to m) w k a well.shape is (own_of w k a well is) left (said_none Q k a (pool_of w k) silent)

  -- void stays void
  pub void_stays : (a : Act) (found : Bag → Bool) → IsAct w k a → IsRunWhere found b (entries a (pool_of w k)) n → marks_new a ≡ false
      → says_token a ≡ false → Voids w b → Voids (acted w k a) n
  void_stays a found is run old silent on =
      tokens_next (IsVoid w b) (IsVoid (acted w k a) n) a is silent
      (λ to t v second un still. v second (λ c high there. unchanged_back w k well a is old c there (un c high there))
      (open_before found b n (entries a (pool_of w k)) run t.asked still)) on
