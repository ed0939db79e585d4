-- Others that are told, one after the other.
use Rattle.std.proofs.Common.{◌≡◌, ◌≢◌, ◌<◌, ◌==◌, ◌+◌, ℕ, Bool, true, false, not, cond, List, [], ◌∷◌, ◌++◌}
use Rattle.std.proofs.Common.{map, filter, flat_map, refl, ap, sym, ◌∙◌, subst, append-nil, append_assoc, arith}
use Rattle.std.proofs.lemmas.Bool.Decides.{nat_tests}
use Rattle.std.specs.List.{range_with_len}
use Rattle.std.proofs.lemmas.List.Concat.{flat_map-append}
use Rattle.std.proofs.lemmas.List.FromFn.{filter_of_map_range_with_len_more}
use Rattle.std.proofs.lemmas.List.{map-append}
use Rattle.adlb_unit.specs.declared.configs.Config.{Config}
use Rattle.adlb_unit.specs.declared.letters.Sending.{Sending}
use Rattle.adlb_unit.specs.declared.names.Server.{Server}
use Rattle.adlb_unit.specs.declared.notes.Trouble.{Trouble}
use Rattle.rank_mail.specs.declared.posted.Posted.{Posted}
use Rattle.server_law.specs.State.{ServerModel}
use Rattle.merge_history.specs.Own.{letters_to}
use Rattle.actor_desk.specs.Desks.{DeskModel, sent_at}
use Rattle.actor_desk.proofs.Letters.{letters_to_more}
use Rattle.thread_actors.specs.World.{actors}
use Rattle.thread_actors.specs.ServerJobs.{all_told, told_by_answer, told_ranks, told_servers}
use Rattle.thread_actors.specs.inside.Serving.{AreTold}

-- Whether a number is a server's own.

pub is_other : (n a b : ℕ) → a ≡ b → n ≢ a → not (n == b) ≡ true
is_other n a b same other = grind (arith, nat_tests)

pub is_itself : (n a b : ℕ) → a ≡ b → n ≡ a → not (n == b) ≡ false
is_itself n a b same it = grind (arith, nat_tests)

-- The first of those that are told: by a test of their names.

-- each of the first n actors that passes is told
abbrev pub first_told : {A : Type 0} (told : A → Sending) (test : A → Bool) (named : ℕ → A) → ℕ → List Sending
first_told told test named n = map told (filter test (map named (range_with_len 0 n)))

first_more : {A : Type 0} (told : A → Sending) (test : A → Bool) (named : ℕ → A) (n : ℕ) (t : Bool) → test (named n) ≡ t
    → first_told told test named (n + 1) ≡ first_told told test named n ++ cond t (told (named n) ∷ []) []
first_more {A} told test named n t is =
    ap (map told) (filter_of_map_range_with_len_more test named 0 n n (omega arith))
    ∙ map-append told (filter test (map named (range_with_len 0 n))) (cond (test (named n)) (named n ∷ []) [])
    ∙ ap (λ l. first_told told test named n ++ l) (ap (λ b. map told (cond b (named n ∷ []) [])) is ∙ by_test t)
  where
    by_test : (b : Bool) → map told (cond b (named n ∷ []) []) ≡ cond b (told (named n) ∷ []) []
    by_test true = refl
    by_test false = refl

pub none_told : (d : DeskModel) → AreTold d [] d
none_told d = record { same = refl; told_are = λ to low. sym (append-nil (sent_at d to)) }

-- what is told then, and what was told before
pub told_more : (old now new : DeskModel) (xs ys : List Sending) → AreTold old xs now → AreTold now ys new → AreTold old (xs ++ ys) new
told_more old now new xs ys first then = record {
  same = then.same ∙ ap (λ (y : DeskModel). record y { sent = new.sent }) first.same;
  told_are = λ to low.
      let c : now.config ≡ old.config = ap (λ (y : DeskModel). y.config) first.same in
      then.told_are to (subst (λ (k : Config). to < actors k) (sym c) low)
      ∙ (λ i. first.told_are to low i ++ letters_to (c i) to ys)
      ∙ append_assoc (sent_at old to) (letters_to old.config to xs) (letters_to old.config to ys)
      ∙ ap (λ l. sent_at old to ++ l) (sym (letters_to_more old.config to xs ys));
}

-- one that passes
pub one_told : {A : Type 0} (told : A → Sending) (test : A → Bool) (named : ℕ → A) (n : ℕ) (old now new : DeskModel)
    → AreTold old (first_told told test named n) now → test (named n) ≡ true → AreTold now (told (named n) ∷ []) new
    → AreTold old (first_told told test named (n + 1)) new
one_told told test named n old now new was passes one =
    subst (λ (l : List Sending). AreTold old l new) (sym (first_more told test named n true passes))
    (told_more old now new (first_told told test named n) (told (named n) ∷ []) was one)

-- one that does not
pub one_left : {A : Type 0} (told : A → Sending) (test : A → Bool) (named : ℕ → A) (n : ℕ) (old now : DeskModel)
    → AreTold old (first_told told test named n) now → test (named n) ≡ false → AreTold old (first_told told test named (n + 1)) now
one_left told test named n old now was fails =
    subst (λ (l : List Sending). AreTold old l now)
    (sym (first_more told test named n false fails ∙ append-nil (first_told told test named n))) was

-- All that a broken server tells, where nothing came later, and with one letter more.

pub told_at_once : (config : Config) (me : Server) (s : ServerModel) (x : Posted) (trouble : Trouble)
    → told_servers config me trouble ++ told_ranks config s x trouble ≡ all_told config me s x [] trouble
told_at_once config me s x trouble =
    ap (λ l. told_servers config me trouble ++ l) (sym (append-nil (told_ranks config s x trouble)))

pub all_told_more : (config : Config) (me : Server) (s : ServerModel) (x : Posted) (later : List Posted) (y : Posted) (trouble : Trouble)
    → all_told config me s x (later ++ y ∷ []) trouble ≡ all_told config me s x later trouble ++ told_by_answer config trouble y
all_told_more config me s x later y trouble =
    let f = told_by_answer config trouble in
    let a = told_servers config me trouble in
    let b = told_ranks config s x trouble in
    ap (λ l. a ++ (b ++ l)) (flat_map-append f later (y ∷ []) ∙ ap (λ l. flat_map f later ++ l) (append-nil (f y)))
    ∙ sym (append_assoc a (b ++ flat_map f later) (f y) ∙ ap (λ l. a ++ l) (append_assoc b (flat_map f later) (f y)))
