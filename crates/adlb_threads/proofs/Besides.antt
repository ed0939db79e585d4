-- What an actor that failed tells others besides its events, and what the caller tells of a refused start.
use Rattle.std.proofs.Common.{◌≡◌, ◌+◌, ◌==◌, ℕ, zero, suc, Bool, true, false, cond, List, [], ◌∷◌, map, filter, Option, None, Some}
use Rattle.std.proofs.Common.{◌<◌, ◌++◌, append_assoc, append-nil, refl, ap, sym, ◌∙◌, subst, arith, not}
use Rattle.std.specs.Prelude.{nat_lt}
use Rattle.std.specs.List.{AllByRecursion as Each, range_with_len}
use Rattle.std.specs.Option.{option_map}
use Rattle.std.proofs.lemmas.Bool.{eqb-true, ltb-true}
use Rattle.std.proofs.lemmas.List.FromFn.{map-range_with_len_more}
use Rattle.adlb_unit.specs.Links.{is_within, place_of, sending}
use Rattle.adlb_unit.specs.declared.actors.Actor.{Actor}
use Rattle.adlb_unit.specs.declared.actors.Actor.TheVariants as by
use Rattle.adlb_unit.specs.declared.configs.Config.{Config}
use Rattle.adlb_unit.specs.declared.letters.Letter.{Letter}
use Rattle.adlb_unit.specs.declared.letters.Sending.{Sending}
use Rattle.adlb_unit.specs.declared.messages.Message.{Message}
use Rattle.adlb_unit.specs.declared.messages.Message.TheVariants as tells
use Rattle.adlb_unit.specs.declared.names.Rank.{Rank}
use Rattle.adlb_unit.specs.declared.names.Server.{Server}
use Rattle.adlb_unit.specs.declared.notes.Trouble.{Trouble}
use Rattle.adlb_unit.specs.declared.notes.Trouble.TheVariants.{Memory}
use Rattle.actor_desk.proofs.Letters.{letters_to_more, place_below}
use Rattle.actor_desk.specs.Desks.{DeskModel, IsNew, sent_at}
use Rattle.bag_ledger.specs.declared.entries.Call.{Call}
use Rattle.bag_ledger.specs.declared.entries.Said.{Said}
use Rattle.fallen_law.specs.Fallen.{TellsAfter, tells_trouble}
use Rattle.merge_history.specs.Own.{letters_to, sent}
use Rattle.thread_actors.specs.Faults.{told}
use Rattle.thread_actors.specs.RankJobs.{Ended, EndsAs, last_words}
use Rattle.thread_actors.proofs.ServerBegun.{tells_kind}
use Rattle.thread_actors.specs.ServerJobs.{Ended as Served, EndsAs as ServesAs, tells_of}
use Rattle.thread_actors.specs.World.{actors, server_named}
use Rattle.adlb_threads.specs.Ends.{HasTold, IsCaller, absences, tells_absent}

-- A rank.

-- the letters to an actor among these
letters_tell : (config : Config) (from to : Actor) (sends : List Sending)
    → Each (λ (y : Sending). place_of config y.to ≡ place_of config to → tells_trouble from to y.letter.message ≡ true) sends
    → Each (λ (l : Letter). tells_trouble from to l.message ≡ true) (letters_to config (place_of config to) sends)
letters_tell config from to [] all = tt
letters_tell config from to (y ∷ sends) all =
    by_test (place_of config y.to == place_of config to) refl (letters_tell config from to sends all.1)
  where
    others : List Sending
    others = filter (λ (z : Sending). place_of config z.to == place_of config to) sends

    by_test : (t : Bool) → (place_of config y.to == place_of config to) ≡ t
        → Each (λ (l : Letter). tells_trouble from to l.message ≡ true) (map (λ (z : Sending). z.letter) others)
        → Each (λ (l : Letter). tells_trouble from to l.message ≡ true) (map (λ (z : Sending). z.letter) (cond t (y ∷ others) others))
    by_test true is rest = (all.0 (eqb-true (place_of config y.to) (place_of config to) is), rest)
    by_test false is rest = rest

-- no rank has the number of a server
one_gone : (config : Config) (rank : Rank) (to : Actor) (trouble : Trouble) (k : ℕ) → is_within config to ≡ true
    → config.ranks + k ≡ place_of config to → tells_trouble (by.Rank rank) to (tells.Gone trouble) ≡ true
one_gone config rank (by.Rank to) trouble k within same =
    absurd (let low = ltb-true to.0 config.ranks within in omega (arith, low, same))
one_gone config rank (by.Server to) trouble k within same = refl

all_gone : (config : Config) (rank : Rank) (to : Actor) (trouble : Trouble) (from n : ℕ) → is_within config to ≡ true
    → Each (λ (y : Sending). place_of config y.to ≡ place_of config to → tells_trouble (by.Rank rank) to y.letter.message ≡ true)
    (map (λ k. sending 0 0 (by.Server (server_named k)) (tells.Gone trouble)) (range_with_len from n))
all_gone config rank to trouble from zero within = tt
all_gone config rank to trouble from (suc n) within =
    (one_gone config rank to trouble from within, all_gone config rank to trouble (from + 1) n within)

words_tell : (config : Config) (rank : Rank) (to : Actor) (o : Option Trouble) → is_within config to ≡ true
    → Each (λ (y : Sending). place_of config y.to ≡ place_of config to → tells_trouble (by.Rank rank) to y.letter.message ≡ true)
    (last_words config o)
words_tell config rank to None within = tt
words_tell config rank to (Some trouble) within = all_gone config rank to trouble 0 config.servers within

-- it tells servers that it is gone, and ranks nothing
pub rank_tells : {O : Type 0} (so_far : List Said → Option Call → Type 0) (follows : List Said → O → Type 0) (config : Config) (rank : Rank)
    (e : Ended O) → EndsAs so_far follows config rank e → (to : Actor) → is_within config to ≡ true
    → TellsAfter config e.desk (by.Rank rank) to
rank_tells so_far follows config rank e ends to within =
    let words = last_words config (option_map told e.fault) in (
      letters_to config (place_of config to) words,
      ends.sent (place_of config to) (place_below config to within),
      letters_tell config (by.Rank rank) to words (words_tell config rank to (option_map told e.fault) within),
    )

-- A server.

-- what it tells by the number of its receiver it tells by its name
kind_is : (config : Config) (me : Server) (to : Actor) (m : Message) → is_within config to ≡ true
    → tells_of config (place_of config to) m ≡ true → tells_trouble (by.Server me) to m ≡ true
kind_is config me (by.Rank to) (tells.Broken trouble) within is = refl
kind_is config me (by.Rank to) (tells.Abort trouble absent) within is =
    absurd (let no : false ≡ true = ap not (sym within) ∙ is in cc)
kind_is config me (by.Rank to) _ within is = absurd (cc)
kind_is config me (by.Server to) (tells.Broken trouble) within is =
    absurd (let low = ltb-true (config.ranks + to.0) config.ranks is in omega (arith, low))
kind_is config me (by.Server to) (tells.Abort trouble absent) within is = refl
kind_is config me (by.Server to) _ within is = absurd (cc)

all_kinds : (config : Config) (me : Server) (to : Actor) (ls : List Letter) → is_within config to ≡ true
    → Each (λ (l : Letter). tells_of config (place_of config to) l.message ≡ true) ls
    → Each (λ (l : Letter). tells_trouble (by.Server me) to l.message ≡ true) ls
all_kinds config me to [] within all = tt
all_kinds config me to (l ∷ ls) within all = (kind_is config me to l.message within all.0, all_kinds config me to ls within all.1)

-- it tells other servers to break too, and ranks that it broke
pub server_tells : (config : Config) (me : Server) (e : Served) → ServesAs config me e → (to : Actor) → is_within config to ≡ true
    → TellsAfter config e.desk (by.Server me) to
server_tells config me e ends to within =
    let more = tells_kind config me e ends (place_of config to) (place_below config to within) in
    (more.0, more.1, all_kinds config me to more.0 within more.2)

-- The caller.

abbrev absence : ℕ → ℕ → Sending
absence absent k = sending 0 0 (by.Server (server_named k)) (tells.Abort Memory absent)

-- what it tells of a refused start goes to servers
absences_tell : (config : Config) (to absent from n : ℕ)
    → Each (λ (l : Letter). tells_absent config to l.message ≡ true) (letters_to config to (map (absence absent) (range_with_len from n)))
absences_tell config to absent from zero = tt
absences_tell config to absent from (suc n) = by_test (config.ranks + from == to) refl (absences_tell config to absent (from + 1) n)
  where
    others : List Sending
    others = filter (λ (z : Sending). place_of config z.to == to) (map (absence absent) (range_with_len (from + 1) n))

    to_server : (t : Bool) → nat_lt to config.ranks ≡ t → config.ranks + from ≡ to → not t ≡ true
    to_server true is at = absurd (let low = ltb-true to config.ranks is in omega (arith, low, at))
    to_server false is at = refl

    by_test : (t : Bool) → (config.ranks + from == to) ≡ t
        → Each (λ (l : Letter). tells_absent config to l.message ≡ true) (map (λ (y : Sending). y.letter) others)
        → Each (λ (l : Letter). tells_absent config to l.message ≡ true)
        (map (λ (y : Sending). y.letter) (cond t (absence absent from ∷ others) others))
    by_test true is rest = (to_server (nat_lt to config.ranks) refl (eqb-true (config.ranks + from) to is), rest)
    by_test false is rest = rest

-- so nothing else went from its desk
pub told_caller : (config : Config) (servers absent : ℕ) (old new : DeskModel) → IsNew config (config.ranks + config.servers) old
    → HasTold servers absent old new → IsCaller config new
told_caller config servers absent old new was told = record {
  config_is = ap (λ (d : DeskModel). d.config) told.same ∙ was.config_is;
  number_is = ap (λ (d : DeskModel). d.number) told.same ∙ was.number_is;
  tells = λ to low.
      let below : to < actors old.config = subst (λ (c : Config). to < actors c) (sym was.config_is) low in
      let nothing : sent_at old to ≡ [] = was.tallies.sends to below ∙ ap (sent old.config to) was.empty in
      let all : sent_at new to ≡ letters_to config to (absences servers absent) =
      told.told to below ∙ ap (λ l. l ++ letters_to old.config to (absences servers absent)) nothing
      ∙ ap (λ (c : Config). letters_to c to (absences servers absent)) was.config_is in
      subst (λ (ls : List Letter). Each (λ (l : Letter). tells_absent config to l.message ≡ true) ls) (sym all)
      (absences_tell config to absent 0 servers);
}

-- before it told anything, and with one server more
pub none_told : (absent : ℕ) (d : DeskModel) → HasTold 0 absent d d
none_told absent d = record { same = refl; told = λ to low. sym (append-nil (sent_at d to)) }

pub one_told : (number absent : ℕ) (old d e : DeskModel) → HasTold number absent old d → e ≡ record d { sent = e.sent }
    → ((n : ℕ) → n < actors d.config → sent_at e n ≡ sent_at d n ++ letters_to d.config n (absence absent number ∷ []))
    → HasTold (number + 1) absent old e
one_told number absent old d e was same told =
    let configs : d.config ≡ old.config = ap (λ (x : DeskModel). x.config) was.same in
    let now : (n : ℕ) → n < actors old.config → sent_at e n ≡ sent_at d n ++ letters_to old.config n (absence absent number ∷ []) =
    subst (λ (k : Config). (n : ℕ) → n < actors k → sent_at e n ≡ sent_at d n ++ letters_to k n (absence absent number ∷ [])) configs
    told in
    record {
      same = same ∙ ap (λ (x : DeskModel). record x { sent = e.sent }) was.same;
      told = λ to low.
          let so_far = absences number absent in let more = absence absent number ∷ [] in
          now to low ∙ ap (λ l. l ++ letters_to old.config to more) (was.told to low)
          ∙ append_assoc (sent_at old to) (letters_to old.config to so_far) (letters_to old.config to more)
          ∙ ap (λ l. sent_at old to ++ l) (sym (letters_to_more old.config to so_far more))
          ∙ ap (λ l. sent_at old to ++ letters_to old.config to l)
          (sym (map-range_with_len_more (absence absent) 0 number number (omega arith)));
    }
