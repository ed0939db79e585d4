-- Each other server keeps the wish of a rank that waits, or is still to be asked, or a letter about it is under way.
use Rattle.adlb_unit.specs.Targets.{home, home_of}
use Rattle.adlb_unit.specs.declared.actors.Actor.{Actor}
use Rattle.adlb_unit.specs.declared.configs.Config.{Config}
use Rattle.adlb_unit.specs.declared.messages.Message.{Message}
use Rattle.adlb_unit.specs.declared.names.Rank.{Rank}
use Rattle.adlb_unit.specs.declared.names.Server.{Server}
use Rattle.core_check_law.proofs.Classes.{IsMine, IsOthers, now}
use Rattle.core_check_law.proofs.Homes.{each_of_all}
use Rattle.core_check_law.proofs.Lists.{each_has, has_there}
use Rattle.core_check_law.specs.Settling.{Has}
use Rattle.core_law.proofs.OnLinks.{links_next}
use Rattle.core_law.proofs.LettersAndActors.{own_of}
use Rattle.core_law.specs.Acting.{IsAct, acted}
use Rattle.core_law.specs.Letters.{about, no_rank, no_server}
use Rattle.core_law.specs.Measures.{Weights, heard_weight, links_weight, said_weight}
use Rattle.core_law.specs.Own.{IsEntry}
use Rattle.core_law.specs.Well.{IsWell}
use Rattle.core_wish_law.proofs.Having.{filter_has}
use Rattle.core_run.specs.World.{World, pool_of, server_named}
use Rattle.server_components.specs.Parked.{is_by}
use Rattle.server_components.specs.declared.waits.Waiting.{Waiting}
use Rattle.server_components.specs.declared.wishes.Wish.{Wish}
use Rattle.server_law.specs.Acts.{Acks, Act, Around, Asks_on, Checks_alone, Finds_alone, Gives, Hints, Notes_own, Notices, Queries}
use Rattle.server_law.specs.Acts.{Shuts_alone, Starts, Tells, around, comes, goes, says, takes, waiting_after, waiting_with, wishes_after}
use Rattle.server_law.specs.State.{Kept, ServerModel, awaiting, idle}
use Rattle.server_law.specs.Sure.{Sits, SitsIn}
use Rattle.std.proofs.Common.{Bool, List, None, Option, Some, [], ap, arith, false, inl, inr, length, not, refl, subst, sym, true, ℕ, ◌++◌}
use Rattle.std.proofs.Common.{◌+◌, ◌<◌, ◌∙◌, ◌∷◌, ◌≡◌, ◌≢◌, ◌⊎◌}
use Rattle.std.proofs.lemmas.Bool.{cases_eq, eq-eqb, eqb-true}
use Rattle.adlb_unit.specs.declared.actors.Actor.TheVariants as by
use Rattle.adlb_unit.specs.declared.messages.Message.TheVariants as tells

-- Letters: the home asks the server for the rank in this call; the server has a unit for it, or had none and has one by now.

-- the letters about a rank's call by which another server is covered
abbrev pub cover_about : Server → Server → Rank → ℕ → ℕ → ℕ → Message → ℕ
cover_about h t r q from to (tells.Ask of number types) = about h t r q from to of number
cover_about h t r q from to (tells.AskGrant of number note) = about h t r q to from of number
cover_about h t r q from to (tells.Hint of number) = about h t r q to from of number
cover_about h t r q from to _ = 0

-- a letter after which the server keeps the wish, or is to be asked: an ask, the answer that a unit is granted, or a hint
abbrev pub cover_letter : Server → Server → Rank → ℕ → Actor → Actor → Message → ℕ
cover_letter h t r q (by.Server from) (by.Server to) m = cover_about h t r q from.0 to.0 m
cover_letter h t r q (by.Server from) (by.Rank to) m = 0
cover_letter h t r q (by.Rank from) to m = 0

-- such letters between a home and a server, about one call of a rank
abbrev pub covers : Server → Server → Rank → ℕ → Weights
covers h t r q =
    record { letter = cover_letter h t r q; server = no_server; rank = no_rank; server_due = no_server; rank_due = no_rank }

-- how many there are
abbrev pub cover_weight : World → Server → Server → Waiting → ℕ
cover_weight w h t e = links_weight w.config (covers h t e.wish.rank e.wish.request) w.links

-- the server keeps the wish of the rank, or is still to be asked, or such a letter is under way
abbrev pub Covers : World → Server → Server → Waiting → Type 0
Covers w h t e = Has (pool_of w t).kept.parked.wishes e.wish ⊎ Has e.to_ask t ⊎ (0 < cover_weight w h t e)

-- of each rank that waits, and each other server
unfoldable pub AllCovered : World → Type 0
AllCovered w =
    (h t : Server) → h.0 < w.config.servers → t.0 < w.config.servers → t.0 ≢ h.0 → (e : Waiting) → Has (pool_of w h).kept.parked.waiting e
    → Covers w h t e

-- Lists.

-- what joined lists have, one of them has
pub has_parts : {X : Type 0} (xs ys : List X) (x : X) → Has (xs ++ ys) x → Has xs x ⊎ Has ys x
has_parts [] ys x has = inr has
has_parts (y ∷ xs) ys x (inl same) = inl (inl same)
has_parts (y ∷ xs) ys x (inr more) = by_part (has_parts xs ys x more)
  where
    by_part : Has xs x ⊎ Has ys x → Has (y ∷ xs) x ⊎ Has ys x
    by_part (inl a) = inl (inr a)
    by_part (inr b) = inr b

-- what is in the first of two lists
pub has_left : {X : Type 0} (xs ys : List X) (x : X) → Has xs x → Has (xs ++ ys) x
has_left [] ys x has = absurd has
has_left (y ∷ xs) ys x (inl same) = inl same
has_left (y ∷ xs) ys x (inr more) = inr (has_left xs ys x more)

-- what is in the second of two lists
pub has_right : {X : Type 0} (xs ys : List X) (x : X) → Has ys x → Has (xs ++ ys) x
has_right [] ys x has = has
has_right (y ∷ xs) ys x has = inr (has_right xs ys x has)

has_around : (o : Option Around) (waiting gone come : List Waiting) (e : Waiting) → Sits o waiting gone
    → Has (waiting_with o waiting come) e
    → Has waiting e ⊎ Has come e
has_around None waiting gone [] e sits has = inl has
has_around None waiting gone (c ∷ come) e sits has = has_parts waiting (c ∷ come) e has
has_around (Some at) waiting gone come e sits has = by_part (has_parts at.before (come ++ at.behind) e has)
  where
    by_rest : Has come e ⊎ Has at.behind e → Has waiting e ⊎ Has come e
    by_rest (inl a) = inr a
    by_rest (inr b) = inl (subst (λ l. Has l e) (sym sits) (has_right at.before (gone ++ at.behind) e (has_right gone at.behind e b)))

    by_part : Has at.before e ⊎ Has (come ++ at.behind) e → Has waiting e ⊎ Has come e
    by_part (inl a) = inl (subst (λ l. Has l e) (sym sits) (has_left at.before (gone ++ at.behind) e a))
    by_part (inr b) = by_rest (has_parts come at.behind e b)

-- who waits after an act waited before, or came
has_after : (a : Act) (s : ServerModel) (e : Waiting) → SitsIn a s → Has (waiting_after a s) e
    → Has s.kept.parked.waiting e ⊎ Has (comes a s) e
has_after a s e sits has = has_around (around a) s.kept.parked.waiting (goes a) (comes a s) e sits has

-- who goes waited before
pub has_gone : (at : Around) (waiting : List Waiting) (e : Waiting) → waiting ≡ at.before ++ (e ∷ [] ++ at.behind) → Has waiting e
has_gone at waiting e sits = subst (λ l. Has l e) (sym sits) (has_there at.before e at.behind)

-- One act, in a world.

module _ (w : World) (me : Server) (a : Act) (well : IsWell w) (is : IsAct w me a) (covered : AllCovered w) where
  abbrev s : ServerModel
  s = pool_of w me

  abbrev v : World
  v = acted w me a

  -- letters under way are no fewer but for what is taken
  pub letters_next : (h t : Server) (e : Waiting)
      → cover_weight v h t e + heard_weight (cover_letter h t e.wish.rank e.wish.request) me (takes a)
      ≡ cover_weight w h t e + said_weight (cover_letter h t e.wish.rank e.wish.request) me (says a s)
  letters_next h t e = links_next (covers h t e.wish.rank e.wish.request) w me a well.shape is (own_of w me a well is)

  -- an entry of before, at a server whose wishes keep what it wishes
  pub old_covered : (h t : Server) (e : Waiting) → h.0 < w.config.servers → t.0 < w.config.servers → t.0 ≢ h.0
      → Has (pool_of w h).kept.parked.waiting e
      → (Has (pool_of w t).kept.parked.wishes e.wish → Covers v h t e)
      → heard_weight (cover_letter h t e.wish.rank e.wish.request) me (takes a) ≡ 0 → Covers v h t e
  unfolding AllCovered
  old_covered h t e low there differs has wished none = by_cover (covered h t low there differs e has)
    where
      by_cover : Covers w h t e → Covers v h t e
      by_cover (inl keeps) = wished keeps
      by_cover (inr (inl to_ask)) = inr (inl to_ask)
      by_cover (inr (inr some)) = let next = letters_next h t e in inr (inr (omega arith))

  -- the wishes of a server after the act
  pub wishes_at : (t : Server) → t.0 < w.config.servers → (x : Wish) → Has (pool_of w t).kept.parked.wishes x
      → ((t ≡ me) → Has s.kept.parked.wishes x → Has (wishes_after a s.kept.parked.wishes) x)
      → Has (pool_of v t).kept.parked.wishes x
  wishes_at t there x has keeps = by_now (now w me a well.shape is.here t there)
    where
      by_now : IsMine w me a t ⊎ IsOthers w me a t → Has (pool_of v t).kept.parked.wishes x
      by_now (inl mine) =
          subst (λ (k : Kept). Has k.parked.wishes x) (sym mine.kept)
          (keeps mine.same (subst (λ (k : Server). Has (pool_of w k).kept.parked.wishes x) mine.same has))
      by_now (inr other) = subst (λ (k : Kept). Has k.parked.wishes x) (sym other.kept) has

  -- who waits at a server after the act
  pub waits_at : (h : Server) → h.0 < w.config.servers → (e : Waiting) → Has (pool_of v h).kept.parked.waiting e
      → Has (pool_of w h).kept.parked.waiting e ⊎ ((h ≡ me) × Has (comes a s) e)
  waits_at h low e has = by_now (now w me a well.shape is.here h low)
    where
      back : h ≡ me → Has s.kept.parked.waiting e ⊎ Has (comes a s) e
          → Has (pool_of w h).kept.parked.waiting e ⊎ ((h ≡ me) × Has (comes a s) e)
      back same (inl old) = inl (subst (λ (k : Server). Has (pool_of w k).kept.parked.waiting e) (sym same) old)
      back same (inr new) = inr (same, new)

      by_now : IsMine w me a h ⊎ IsOthers w me a h → Has (pool_of w h).kept.parked.waiting e ⊎ ((h ≡ me) × Has (comes a s) e)
      by_now (inl mine) = back mine.same (has_after a s e is.sits (subst (λ (k : Kept). Has k.parked.waiting e) mine.kept has))
      by_now (inr other) = inl (subst (λ (k : Kept). Has k.parked.waiting e) other.kept has)

  -- where nobody comes, no wish goes and no letter about a rank is taken
  pub plain_covered : comes a s ≡ [] → wishes_after a s.kept.parked.wishes ≡ s.kept.parked.wishes
      → ((h t : Server) (r : Rank) (q : ℕ) → heard_weight (cover_letter h t r q) me (takes a) ≡ 0) → AllCovered v
  unfolding AllCovered
  plain_covered nobody same none h t low there differs e has = by_waits (waits_at h low e has)
    where
      old : Has (pool_of w h).kept.parked.waiting e → Covers v h t e
      old was =
          old_covered h t e low there differs was
          (λ keeps. inl (wishes_at t there e.wish keeps (λ mine here. subst (λ l. Has l e.wish) (sym same) here)))
          (none h t e.wish.rank e.wish.request)

      by_waits : Has (pool_of w h).kept.parked.waiting e ⊎ ((h ≡ me) × Has (comes a s) e) → Covers v h t e
      by_waits (inl was) = old was
      by_waits (inr (mine, new)) = absurd (subst (λ l. Has l e) nobody new)

  -- where one comes in place of one that waited, with the same wish and no fewer servers to ask, but for one to whom a letter goes
  pub turned_covered : (e0 e1 : Waiting) → comes a s ≡ e1 ∷ [] → Has s.kept.parked.waiting e0 → e1.wish ≡ e0.wish
      → ((t : Server) → t.0 < w.config.servers → t.0 ≢ me.0 → Has e0.to_ask t
      → Has e1.to_ask t ⊎ (0 < said_weight (cover_letter me t e1.wish.rank e1.wish.request) me (says a s)))
      → wishes_after a s.kept.parked.wishes ≡ s.kept.parked.wishes
      → ((h t : Server) (r : Rank) (q : ℕ) → heard_weight (cover_letter h t r q) me (takes a) ≡ 0) → AllCovered v
  unfolding AllCovered
  turned_covered e0 e1 comes_is waited same_wish asks same none h t low there differs e has = by_waits (waits_at h low e has)
    where
      old : (x : Waiting) → Has (pool_of w h).kept.parked.waiting x → Covers v h t x
      old x was =
          old_covered h t x low there differs was
          (λ keeps. inl (wishes_at t there x.wish keeps (λ mine here. subst (λ l. Has l x.wish) (sym same) here)))
          (none h t x.wish.rank x.wish.request)

      from_old : h ≡ me → Covers w me t e0 → Covers v me t e1
      from_old mine (inl keeps) =
          inl (subst (λ (x : Wish). Has (pool_of v t).kept.parked.wishes x) (sym same_wish)
          (wishes_at t there e0.wish keeps (λ is_me here. subst (λ l. Has l e0.wish) (sym same) here)))
      from_old mine (inr (inl to_ask)) = by_asks (asks t there (λ e. differs (e ∙ ap (λ (k : Server). k.0) (sym mine))) to_ask)
        where
          by_asks : Has e1.to_ask t ⊎ (0 < said_weight (cover_letter me t e1.wish.rank e1.wish.request) me (says a s)) → Covers v me t e1
          by_asks (inl still) = inr (inl still)
          by_asks (inr some) =
              let next = letters_next me t e1 in let zero_heard = none me t e1.wish.rank e1.wish.request in inr (inr (omega arith))
      from_old mine (inr (inr some)) =
          let next = letters_next me t e1 in
          let zero_heard = none me t e1.wish.rank e1.wish.request in
          let was : cover_weight w me t e1 ≡ cover_weight w me t e0 =
          ap (λ (x : Wish). links_weight w.config (covers me t x.rank x.request) w.links) same_wish in
          inr (inr (omega arith))

      new : h ≡ me → Has (e1 ∷ []) e → Covers v h t e
      new mine (inl it) =
          let was : Covers w me t e0 = covered me t is.here there (λ e. differs (e ∙ ap (λ (k : Server). k.0) (sym mine))) e0 waited in
          subst (λ (x : Waiting). Covers v h t x) it (subst (λ (k : Server). Covers v k t e1) (sym mine) (from_old mine was))
      new mine (inr more) = absurd more

      by_waits : Has (pool_of w h).kept.parked.waiting e ⊎ ((h ≡ me) × Has (comes a s) e) → Covers v h t e
      by_waits (inl was) = old e was
      by_waits (inr (mine, came)) = new mine (subst (λ l. Has l e) comes_is came)

-- Acts that follow.

-- a letter about this rank and call counts 1
pub about_self : (h t : Server) (r : Rank) (q : ℕ) → about h t r q h.0 t.0 r q ≡ 1
about_self h t r q = rw (eq-eqb r.0 r.0 refl, eq-eqb q q refl, eq-eqb h.0 h.0 refl, eq-eqb t.0 t.0 refl) refl

-- a hint is of a wish that is kept, and of which no other is of its rank
abbrev pub HintsKept : Act → ServerModel → Type 0
HintsKept (Hints wish) s = (x : Wish) → Has s.kept.parked.wishes x → is_by wish.rank x ≡ true → x ≡ wish
HintsKept _ s = Unit {0}

module _ (w : World) (me : Server) (well : IsWell w) (covered : AllCovered w) (several : w.config.servers ≢ 1) where
  follow_asks : (at : Around) (wish : Wish) (to : Server) (rest : List Server) → IsAct w me (Asks_on at wish to rest)
      → AllCovered (acted w me (Asks_on at wish to rest))
  follow_asks at wish to rest is =
      turned_covered w me (Asks_on at wish to rest) well is covered (idle wish (to ∷ rest)) (awaiting wish to rest) refl
      (has_gone at (pool_of w me).kept.parked.waiting (idle wish (to ∷ rest)) is.sits) refl
      (λ t there differs has. by_ask t has) refl (λ h t r q. refl)
    where
      by_ask : (t : Server) → Has (to ∷ rest) t
          → Has rest t ⊎ (0 < said_weight (cover_letter me t wish.rank wish.request) me (says (Asks_on at wish to rest) (pool_of w me)))
      by_ask t (inl same) =
          let its : about me t wish.rank wish.request me.0 to.0 wish.rank wish.request ≡ 1 =
          ap (λ (k : Server). about me t wish.rank wish.request me.0 k.0 wish.rank wish.request) same
          ∙ about_self me t wish.rank wish.request in
          inr (omega arith)
      by_ask t (inr more) = inl more

  follow_hints : (wish : Wish) → IsAct w me (Hints wish) → HintsKept (Hints wish) (pool_of w me) → AllCovered (acted w me (Hints wish))
  unfolding AllCovered
  follow_hints wish is only h t low there differs e has = by_waits (waits_at w me (Hints wish) well is covered h low e has)
    where
      s : ServerModel
      s = pool_of w me

      hinted_it : Has (pool_of w h).kept.parked.waiting e → t ≡ me → Has (pool_of w me).kept.parked.wishes e.wish
          → is_by wish.rank e.wish ≡ true
          → Covers (acted w me (Hints wish)) h t e
      hinted_it waits mine keeps its =
          let same : e.wish ≡ wish = only e.wish keeps its in
          let entry = each_has (IsEntry w.config h) (pool_of w h).kept.parked.waiting e
          (each_of_all (IsEntry w.config h) (pool_of w h).kept.parked.waiting (well.own.servers h low).waiting) waits in
          let at_home : (home w.config wish.rank).0 ≡ h.0 =
          ap (λ (x : Wish). (home w.config x.rank).0) (sym same) ∙ eqb-true (home_of w.config.servers e.wish.rank) h.0 entry.here in
          let home_is : (home (pool_of w me).config wish.rank).0 ≡ h.0 =
          ap (λ (c : Config). (home c wish.rank).0) (own_of w me (Hints wish) well is).config ∙ at_home in
          let said : about h t e.wish.rank e.wish.request (home (pool_of w me).config wish.rank).0 me.0 wish.rank wish.request ≡ 1 =
          ap (λ n. about h t e.wish.rank e.wish.request n me.0 wish.rank wish.request) home_is
          ∙ ap (λ (k : Server). about h t e.wish.rank e.wish.request h.0 k.0 wish.rank wish.request) (sym mine)
          ∙ ap (λ (x : Wish). about h t e.wish.rank e.wish.request h.0 t.0 x.rank x.request) (sym same)
          ∙ about_self h t e.wish.rank e.wish.request in
          let next = letters_next w me (Hints wish) well is covered h t e in
          inr (inr (omega arith))

      kept_or : Has (pool_of w h).kept.parked.waiting e → Has (pool_of w t).kept.parked.wishes e.wish → (t.0 ≡ me.0) ⊎ (t.0 ≢ me.0)
          → (b : Bool)
          → is_by wish.rank e.wish ≡ b → Covers (acted w me (Hints wish)) h t e
      kept_or waits keeps (inl e_me) true its =
          let mine : t ≡ me = ap server_named e_me in
          hinted_it waits mine (subst (λ (k : Server). Has (pool_of w k).kept.parked.wishes e.wish) mine keeps) its
      kept_or waits keeps at false its =
          inl (wishes_at w me (Hints wish) well is covered t there e.wish keeps
          (λ mine here. filter_has (λ y. not (is_by wish.rank y)) (pool_of w me).kept.parked.wishes e.wish here (ap not its)))
      kept_or waits keeps (inr other) true its =
          inl (wishes_at w me (Hints wish) well is covered t there e.wish keeps
          (λ mine here. absurd (other (ap (λ (k : Server). k.0) mine))))

      by_waits : Has (pool_of w h).kept.parked.waiting e ⊎ ((h ≡ me) × Has (comes (Hints wish) (pool_of w me)) e)
          → Covers (acted w me (Hints wish)) h t e
      by_waits (inl was) =
          old_covered w me (Hints wish) well is covered h t e low there differs was
          (λ keeps. kept_or was keeps (cases_eq t.0 me.0) (is_by wish.rank e.wish) refl) refl
      by_waits (inr (mine, new)) = absurd new

  -- acts that follow keep it
  pub follow_covered : (a : Act) → IsAct w me a → takes a ≡ [] → HintsKept a (pool_of w me) → AllCovered (acted w me a)
  follow_covered (Asks_on at wish to rest) is none only = follow_asks at wish to rest is
  follow_covered (Hints wish) is none only = follow_hints wish is only
  follow_covered (Gives at wish rest unit) is none only = plain_covered w me _ well is covered refl refl (λ h t r q. refl)
  follow_covered (Tells at wish rest end) is none only = plain_covered w me _ well is covered refl refl (λ h t r q. refl)
  follow_covered (Queries to id length) is none only = plain_covered w me _ well is covered refl refl (λ h t r q. refl)
  follow_covered (Acks to id) is none only = plain_covered w me _ well is covered refl refl (λ h t r q. refl)
  follow_covered Notices is none only = plain_covered w me _ well is covered refl refl (λ h t r q. refl)
  follow_covered Notes_own is none only = plain_covered w me _ well is covered refl refl (λ h t r q. refl)
  follow_covered Starts is none only = plain_covered w me _ well is covered refl refl (λ h t r q. refl)
  follow_covered Finds_alone is none only = plain_covered w me _ well is covered refl refl (λ h t r q. refl)
  follow_covered Shuts_alone is none only = plain_covered w me _ well is covered refl refl (λ h t r q. refl)
  follow_covered Checks_alone is none only = plain_covered w me _ well is covered refl refl (λ h t r q. refl)
  follow_covered _ is none only = absurd (cc)
