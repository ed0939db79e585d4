-- One Finish letter after another.
use Rattle.std.proofs.Common.{◌≡◌, ◌≤◌, ◌<◌, ◌+◌, ◌-◌, ◌∷◌, ◌++◌, [], ℕ, suc, List, map, get_or, refl, arith, get_or-set_other, ◌≢◌}
use Rattle.std.specs.List.{range_with_len}
use Rattle.std.specs.Prelude.{slice_set, slice_index_or}
use Rattle.adlb_unit.specs.Links.{sending}
use Rattle.adlb_unit.specs.declared.actors.Actor.TheVariants as by
use Rattle.adlb_unit.specs.declared.letters.Sending.{Sending}
use Rattle.rank_client.specs.Rules.{farewell}
use Rattle.rank_client.specs.Step.{Made, post}

-- sending one Finish leaves those to the servers after it
pub one_more : (x : Made) (sent now : List ℕ) (sends all : List Sending) (letter : Sending) (stamp i n : ℕ) → x.state.clock ≡ stamp → i < n
    → now ≡ slice_set sent i (slice_index_or sent i 0 + 1)
    → letter ≡ sending stamp (slice_index_or sent i 0) (by.Server (farewell i).to) (farewell i).message → all ≡ sends ++ letter ∷ []
    → post (record x { state = record x.state { sent = sent }; sends = sends }) (map farewell (range_with_len i (n - i)))
    ≡ post (record x { state = record x.state { sent = now }; sends = all }) (map farewell (range_with_len (i + 1) (n - (i + 1))))
one_more x sent now sends all letter stamp i n clock below now_is letter_is all_is =
    let more : n - i ≡ suc (n - (i + 1)) = omega arith in
    rw (more, now_is, all_is, letter_is, ← clock) refl

-- the counts after this server are as they were
pub later_kept : (sent now : List ℕ) (stamp v i n : ℕ) → now ≡ slice_set sent i v → ((k : ℕ) → i ≤ k → k < n → get_or sent k 0 < stamp)
    → (k : ℕ) → i + 1 ≤ k → k < n → get_or now k 0 < stamp
later_kept sent now stamp v i n is later k above below =
    let apart : k ≢ i = omega arith in
    rw (is, get_or-set_other) (later k (omega arith) below)
