-- The ranks that wait, as a check names them.
use Rattle.std.proofs.Common.{◌≡◌, ◌≢◌, ◌<◌, ℕ, List, [], ◌++◌, length, map, take, None, sym, ap, ◌∙◌, subst, arith}
use Rattle.std.specs.List.{AllPairs}
use Rattle.std.proofs.Math.Seq.{take-append_seam}
use Rattle.std.proofs.lemmas.List.{get_or-map, length-map}
use Rattle.std.proofs.lemmas.List.Elements.{All-map, All-weaker}
use Rattle.adlb_unit.specs.Targets.{home_of}
use Rattle.adlb_unit.specs.declared.configs.Config.{Config}
use Rattle.adlb_unit.specs.declared.names.Server.{Server}
use Rattle.exhaust_ring.specs.Expected.{AreParked}
use Rattle.exhaust_ring.specs.Ring.{Asker, RingModel}
use Rattle.server_components.specs.Calls.{wants}
use Rattle.server_components.specs.Parked.{IsParked, IsWaiting, ParkedModel}
use Rattle.server_components.specs.declared.waits.Waiting.{Waiting}
use Rattle.server_law.specs.State.{ring_at}
use Rattle.server_core.specs.inside.{IsInside, parked_of, state_of}
use Rattle.server_core.specs.declared.states.ServerState.TheInside.{Inside}

-- each waits at its home, and once
pub are_parked : (m : ParkedModel) → IsParked m → AreParked m.config m.me (map wants m.parked.waiting)
are_parked m sound =
    let waiting = m.parked.waiting in
    let Each : Waiting → Type 0 = IsWaiting m.config m.me in
    let Within : Waiting → Type 0 = λ e. e.wish.rank.0 < m.config.ranks in
    let Here : Waiting → Type 0 = λ e. home_of m.config.servers e.wish.rank ≡ m.me.0 in
    let Inside : Asker → Type 0 = λ a. a.0.0 < m.config.ranks in
    let Home : Asker → Type 0 = λ a. home_of m.config.servers a.0 ≡ m.me.0 in
    record {
      named = record {
        inside = All-map Inside wants waiting (All-weaker Each Within (λ e is. is.here.0) waiting sound.each);
        once = apart;
      };
      home = All-map Home wants waiting (All-weaker Each Here (λ e is. is.here.1) waiting sound.each);
    }
  where
    apart : AllPairs (λ (a b : Asker). a.0.0 ≢ b.0.0) (map wants m.parked.waiting)
    apart i j d before within =
        let some : Waiting = record { wish = record { rank = d.0; request = 0; types = d.1 }; asked = None; to_ask = [] } in
        let long = length-map m.parked.waiting wants in
        let one = get_or-map wants m.parked.waiting i some d (omega (arith, before, within, long)) in
        let other = get_or-map wants m.parked.waiting j some d (omega (arith, within, long)) in
        λ same. sound.once i j some before (omega (arith, within, long))
        (sym (ap (λ (a : Asker). a.0.0) one) ∙ same ∙ ap (λ (a : Asker). a.0.0) other)

-- what is copied to the front of the room
pub in_front : {room : List Asker} {count : ℕ} (waiting : List Waiting) (rest : List Asker) → count ≡ length waiting
    → room ≡ map wants waiting ++ rest → take count room ≡ map wants waiting
in_front {room} waiting rest many is =
    ap (λ n. take n room) (many ∙ sym (length-map waiting wants)) ∙ ap (take (length (map wants waiting))) is
    ∙ take-append_seam (map wants waiting) rest

module _ {i : Inside} (inside : IsInside i) where
  -- the ring, at the server
  pub ring_seen : i.ring ≡ ring_at (state_of i)
  ring_seen =
      ap (λ config. let m : RingModel = record (i.ring) { config = config } in m) inside.ring_config
      ∙ ap (λ me. let m : RingModel = record (i.ring) { config = i.config; me = me } in m) inside.ring_me

  -- the ranks that a check names are those that wait
  pub askers_parked : {asked : List Asker} → asked ≡ map wants i.parked.parked.waiting → AreParked i.ring.config i.ring.me asked
  askers_parked {asked} is =
      let P : Config → Server → Type 0 = λ config me. AreParked config me asked in
      let own : P i.config i.me = subst (AreParked i.config i.me) (sym is) (are_parked (parked_of (state_of i)) inside.sound.parked) in
      subst (λ me. P i.ring.config me) (sym inside.ring_me) (subst (λ config. P config i.me) (sym inside.ring_config) own)
