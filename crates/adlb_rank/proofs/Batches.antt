-- What a batch makes of a link, from what its parts make of it.
use Rattle.std.specs.Prelude.{Result, Ok, Err}
use Rattle.std.proofs.Common.{◌≡◌, ℕ, List, Some, false, refl, sym, ap, subst, ◌∙◌, inl, inr, arith}
use Rattle.adlb_unit.specs.declared.notes.Trouble.{Trouble}
use Rattle.adlb_unit.specs.declared.notes.Trouble.TheVariants.{TooLong}
use Rattle.bag_ledger.specs.declared.entries.Answer.TheVariants.{Fine}
use Rattle.bag_ledger.specs.declared.entries.Call.TheVariants.{BeginBatch, EndBatch}
use Rattle.rank_client.specs.Link.{Can, LinkModel, Made}
use Rattle.adlb_rank.specs.declared.replies.Batched.{Batched}
use Rattle.adlb_rank.specs.declared.replies.Batched.TheVariants.{Done}
use Rattle.adlb_rank.specs.declared.replies.Reply.{Reply}
use Rattle.adlb_rank.specs.declared.replies.Reply.TheVariants.{Accepted}
use Rattle.adlb_rank.specs.Calls.{Begins, HasBatched, Stays, answer_of}

-- an accepted beginning
pub begun : (old new : LinkModel) (common : List ℕ) (reply : Reply) → Made old new (BeginBatch common) (Ok (answer_of reply))
    → reply ≡ Accepted
    → Begins common old new
begun old new common reply made is = subst (λ (r : Reply). Made old new (BeginBatch common) (Ok (answer_of r))) is made

module _ {S T : Type 0} (link : S → LinkModel) (inside : S → Result T Trouble → S → Type 0) (common : List ℕ) (old a b : S)
    (stays : (a b : S) (r : Result T Trouble) → Begins common (link old) (link a) → inside a r b → Stays (link a) (link b) r)
    (closed : (link old).batch ≡ false) (begins : Begins common (link old) (link a)) where
  -- after what was done the batch can be ended
  pub can_end : (done : T) → inside a (Ok done) b → Can (link b) EndBatch
  can_end done post =
      let s = stays a b (Ok done) begins post in
      record { running = s.running; suits = s.batch ∙ begins.batch }

  -- what was done failed
  pub inside_failed : (trouble : Trouble) → inside a (Err trouble) b → HasBatched link inside common old b (Err trouble)
  inside_failed trouble post = inr (inl (a, begins, post))

  pub inside_failed_stays : (trouble : Trouble) → inside a (Err trouble) b → Stays {T = Batched T} (link old) (link b) (Err trouble)
  inside_failed_stays trouble post =
      let s = stays a b (Err trouble) begins post in
      record {
        running = s.running;
        seat = s.seat ∙ begins.seat;
        longer = omega (arith, s.longer, begins.longer);
        batch = tt;
        too_long = λ stamp e. let same : trouble ≡ TooLong stamp = cc in
            s.too_long stamp (ap (λ (t : Trouble). let r : Result T Trouble = Err t in r) same);
      }

  -- the batch could not be ended
  pub end_failed : (new : S) (done : T) (trouble : Trouble) → inside a (Ok done) b → Made (link b) (link new) EndBatch (Err trouble)
      → HasBatched link inside common old new (Err trouble)
  end_failed new done trouble post made = inr (inr (a, b, done, begins, post, made))

  pub end_failed_stays : (new : S) (done : T) (trouble : Trouble) → inside a (Ok done) b → Made (link b) (link new) EndBatch (Err trouble)
      → Stays {T = Batched T} (link old) (link new) (Err trouble)
  end_failed_stays new done trouble post made =
      let s = stays a b (Ok done) begins post in
      record {
        running = made.running refl;
        seat = made.seat ∙ s.seat ∙ begins.seat;
        longer = omega (arith, made.longer, s.longer, begins.longer);
        batch = tt;
        too_long = λ stamp e. let same : trouble ≡ TooLong stamp = cc in made.failed ∙ ap (λ (t : Trouble). Some t) same;
      }

  -- all of it was done
  pub done_stays : (new : S) (done : T) → inside a (Ok done) b → Made (link b) (link new) EndBatch (Ok Fine)
      → Stays (link old) (link new) (Ok (Done done))
  done_stays new done post made =
      let s = stays a b (Ok done) begins post in
      record {
        running = made.running refl;
        seat = made.seat ∙ s.seat ∙ begins.seat;
        longer = omega (arith, made.longer, s.longer, begins.longer);
        batch = made.batch ∙ sym closed;
        too_long = λ stamp e. cc;
      }
