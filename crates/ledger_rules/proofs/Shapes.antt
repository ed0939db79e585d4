-- Conditions one after the other are a list of conditions, of which the first says that what is looked up is there.
use Rattle.std.proofs.Common.{◌≡◌, Bool, true, false, ◌&&◌, Option, Some, None, refl}
use Rattle.bag_ledger.specs.Step.{has}

-- conditions alone, after one that each entry is under

-- two conditions as a list
pub two : (d a b : Bool) → (d && (a && b)) ≡ (d && (a && (b && true)))
two false a b = refl
two true false b = refl
two true true false = refl
two true true true = refl

-- three conditions as a list
pub three : (d a b c : Bool) → (d && (a && b && c)) ≡ (d && (a && (b && (c && true))))
three false a b c = refl
three true false b c = refl
three true true false c = refl
three true true true false = refl
three true true true true = refl

-- four conditions as a list
pub four : (d a b c e : Bool) → (d && (a && b && c && e)) ≡ (d && (a && (b && (c && (e && true)))))
four false a b c e = refl
four true false b c e = refl
four true true b c e = three true b c e

-- and where a later one says the second again

again_last : (a s n t : Bool) → (a && s && n && t) ≡ (a && (s && (n && ((s && t) && true))))
again_last false s n t = refl
again_last true false n t = refl
again_last true true false t = refl
again_last true true true false = refl
again_last true true true true = refl

again_fourth : (a s n u t : Bool) → (a && s && n && u && t) ≡ (a && (s && (n && ((s && u) && (t && true)))))
again_fourth false s n u t = refl
again_fourth true false n u t = refl
again_fourth true true false u t = refl
again_fourth true true true false t = refl
again_fourth true true true true false = refl
again_fourth true true true true true = refl

again_third : (a s h t : Bool) → (a && s && h && t) ≡ (a && (s && ((s && h) && (t && true))))
again_third false s h t = refl
again_third true false h t = refl
again_third true true false t = refl
again_third true true true false = refl
again_third true true true true = refl

again_sixth : (a s v e n f : Bool) → (a && s && v && e && n && f) ≡ (a && (s && (v && (e && (n && ((s && f) && true))))))
again_sixth false s v e n f = refl
again_sixth true false v e n f = refl
again_sixth true true v e n f = four true v e n f

-- a call that begins, with nothing more, and with a test more
pub begun_as : {X : Type 0} (d : Bool) (o : Option X) (p q : X → Bool)
    → (d && has o (λ r. p r && q r && true)) ≡ (d && (has o (λ r. true) && (has o p && (has o q && true))))
begun_as false o p q = refl
begun_as true None p q = refl
begun_as true (Some r) p q = three true (p r) (q r) true

-- the conditions on what is looked up as a list, of which the first is that it is there
pub begun_with : {X : Type 0} (d : Bool) (o : Option X) (p q t : X → Bool)
    → (d && has o (λ r. p r && q r && t r)) ≡ (d && (has o (λ r. true) && (has o p && (has o q && (has o t && true)))))
begun_with false o p q t = refl
begun_with true None p q t = refl
begun_with true (Some r) p q t = three true (p r) (q r) (t r)

-- and one with a condition that says nothing of the rank
pub begun_and : {X : Type 0} (d : Bool) (o : Option X) (p q : X → Bool) (u : Bool)
    → (d && (has o (λ r. p r && q r && true) && u)) ≡ (d && (has o (λ r. true) && (has o p && (has o q && (u && true)))))
begun_and false o p q u = refl
begun_and true None p q u = refl
begun_and true (Some r) p q u = by_tests (p r) (q r) u
  where
    by_tests : (a b u : Bool) → (a && b && true && u) ≡ (a && (b && (u && true)))
    by_tests false b u = refl
    by_tests true false u = refl
    by_tests true true false = refl
    by_tests true true true = refl

-- what is pending, with a test of the rank
pub pending_all : {X Y : Type 0} (d : Bool) (o : Option X) (f : X → Option Y) (p : Y → Bool) (n : X → Bool)
    → (d && has o (λ r. has (f r) (λ y. p y && n r))) ≡ (d && (has o (λ r. true) && (has o (λ r. has (f r) p) && (has o n && true))))
pending_all false o f p n = refl
pending_all true None f p n = refl
pending_all {Y = Y} true (Some r) f p n = inner (f r)
  where
    inner : (y : Option Y) → has y (λ y. p y && n r) ≡ (has y p && (n r && true))
    inner None = refl
    inner (Some y) = two true (p y) (n r)

-- what is pending, with a test that says nothing of the rank
pub pending_and : {X Y : Type 0} (d : Bool) (o : Option X) (f : X → Option Y) (p : Y → Bool) (u : Bool)
    → (d && (has o (λ r. has (f r) p) && u)) ≡ (d && (has o (λ r. true) && (has o (λ r. has (f r) p) && (u && true))))
pending_and false o f p u = refl
pending_and true None f p u = refl
pending_and true (Some r) f p u = two true (has (f r) p) u

-- what is pending, a server, what declined, and a test of what is pending
pub brought : {X Y : Type 0} (d : Bool) (o : Option X) (f : X → Option Y) (p : Y → Bool) (s : Bool) (n : X → Bool) (t : Y → Bool)
    → (d && has o (λ r. has (f r) (λ y. p y && s && n r && t y)))
    ≡ (d && (has o (λ r. true) && (has o (λ r. has (f r) p) && (s && (has o n && (has o (λ r. has (f r) (λ y. s && t y)) && true))))))
brought false o f p s n t = refl
brought true None f p s n t = refl
brought {Y = Y} true (Some r) f p s n t = inner (f r)
  where
    inner : (y : Option Y) → has y (λ y. p y && s && n r && t y) ≡ (has y p && (s && (n r && (has y (λ y. s && t y) && true))))
    inner None = refl
    inner (Some y) = again_last (p y) s (n r) (t y)

-- and one condition more
pub refused_as : {X Y : Type 0} (d : Bool) (o : Option X) (f : X → Option Y) (p : Y → Bool) (s : Bool) (n : X → Bool) (u : Bool)
    (t : Y → Bool) → (d && has o (λ r. has (f r) (λ y. p y && s && n r && u && t y)))
    ≡ (d && (has o (λ r. true) && (has o (λ r. has (f r) p) && (s && (has o n && ((s && u) && (has o (λ r. has (f r) t) && true)))))))
refused_as false o f p s n u t = refl
refused_as true None f p s n u t = refl
refused_as {Y = Y} true (Some r) f p s n u t = inner (f r)
  where
    inner : (y : Option Y) → has y (λ y. p y && s && n r && u && t y) ≡ (has y p && (s && (n r && ((s && u) && (has y t && true)))))
    inner None = refl
    inner (Some y) = again_fourth (p y) s (n r) u (t y)

-- what is pending, a server, and a test of what is pending
pub looked_as : {X Y : Type 0} (d : Bool) (o : Option X) (f : X → Option Y) (p : Y → Bool) (s : Bool) (t : Y → Bool)
    → (d && has o (λ r. has (f r) (λ y. p y && s && t y)))
    ≡ (d && (has o (λ r. true) && (has o (λ r. has (f r) p) && (s && (has o (λ r. has (f r) t) && true)))))
looked_as false o f p s t = refl
looked_as true None f p s t = refl
looked_as {Y = Y} true (Some r) f p s t = inner (f r)
  where
    inner : (y : Option Y) → has y (λ y. p y && s && t y) ≡ (has y p && (s && (has y t && true)))
    inner None = refl
    inner (Some y) = three true (p y) s (t y)

-- and one condition more
pub counted_as : {X Y : Type 0} (d : Bool) (o : Option X) (f : X → Option Y) (p : Y → Bool) (s h : Bool) (t : Y → Bool)
    → (d && has o (λ r. has (f r) (λ y. p y && s && h && t y)))
    ≡ (d && (has o (λ r. true) && (has o (λ r. has (f r) p) && (s && ((s && h) && (has o (λ r. has (f r) t) && true))))))
counted_as false o f p s h t = refl
counted_as true None f p s h t = refl
counted_as {Y = Y} true (Some r) f p s h t = inner (f r)
  where
    inner : (y : Option Y) → has y (λ y. p y && s && h && t y) ≡ (has y p && (s && ((s && h) && (has y t && true))))
    inner None = refl
    inner (Some y) = again_third (p y) s h (t y)

-- what is pending, a server, and two tests of a unit, of which the second sees what is pending
pub granted_as : {X Y Z : Type 0} (d : Bool) (o : Option X) (f : X → Option Y) (p : Y → Bool) (s : Bool) (u : Option Z) (a : Z → Bool)
    (t : Y → Z → Bool) → (d && has o (λ r. has (f r) (λ y. p y && s && has u (λ z. a z && t y z))))
    ≡ (d && (has o (λ r. true)
    && (has o (λ r. has (f r) p) && (s && (has u a && (has o (λ r. has (f r) (λ y. has u (λ z. t y z))) && true))))))
granted_as false o f p s u a t = refl
granted_as true None f p s u a t = refl
granted_as {Y = Y} {Z = Z} true (Some r) f p s u a t = inner (f r)
  where
    by_unit : (y : Y) (u : Option Z) → (p y && s && has u (λ z. a z && t y z)) ≡ (p y && (s && (has u a && (has u (λ z. t y z) && true))))
    by_unit y None = ends (p y) s
      where
        ends : (p s : Bool) → (p && s && false) ≡ (p && (s && false))
        ends false s = refl
        ends true false = refl
        ends true true = refl
    by_unit y (Some z) = parts (p y) s (a z) (t y z)
      where
        parts : (p s a t : Bool) → (p && s && (a && t)) ≡ (p && (s && (a && (t && true))))
        parts false s a t = refl
        parts true false a t = refl
        parts true true false t = refl
        parts true true true false = refl
        parts true true true true = refl

    inner : (y : Option Y)
        → has y (λ y. p y && s && has u (λ z. a z && t y z)) ≡ (has y p && (s && (has u a && (has y (λ y. has u (λ z. t y z)) && true))))
    inner None = refl
    inner (Some y) = by_unit y u

-- what is pending, a server, and one condition more
pub fetched_as : {X : Type 0} (d : Bool) (o : Option X) (q : X → Bool) (s u : Bool)
    → (d && (has o q && s && u)) ≡ (d && (has o (λ r. true) && (has o q && (s && (u && true)))))
fetched_as false o q s u = refl
fetched_as true None q s u = refl
fetched_as true (Some r) q s u = three true (q r) s u

-- and where the server keeps a part
pub closed_as : {X Y : Type 0} (d : Bool) (o : Option X) (q : X → Bool) (s : Bool) (part : Option Y) (k : Y → Bool)
    → (d && (has o q && (s && has part (λ p. k p && true)))) ≡ (d && (has o (λ r. true) && (has o q && (s && (has part k && true)))))
closed_as false o q s part k = refl
closed_as true None q s part k = refl
closed_as {Y = Y} true (Some r) q s part k = by_tests (q r) s part
  where
    by_tests : (a s : Bool) (part : Option Y) → (a && (s && has part (λ p. k p && true))) ≡ (a && (s && (has part k && true)))
    by_tests a s None = refl
    by_tests a s (Some p) = refl

-- a server keeps a part that passes a test
pub freed_as : {Y : Type 0} (s : Bool) (part : Option Y) (k t : Y → Bool)
    → (true && (s && has part (λ p. k p && t p))) ≡ (s && (has part k && (has part t && true)))
freed_as false part k t = refl
freed_as true None k t = refl
freed_as true (Some p) k t = two true (k p) (t p)

-- a unit that passes three tests, a server, and two conditions more
pub promised_as : {Z : Type 0} (d : Bool) (u : Option Z) (l : Z → Bool) (s : Bool) (v a : Z → Bool) (n f : Bool)
    → (d && has u (λ z. l z && s && v z && a z && n && f)) ≡ (d && (has u l && (s && (has u v && (has u a && (n && ((s && f) && true)))))))
promised_as false u l s v a n f = refl
promised_as true None l s v a n f = refl
promised_as true (Some z) l s v a n f = again_sixth (l z) s (v z) (a z) n f
