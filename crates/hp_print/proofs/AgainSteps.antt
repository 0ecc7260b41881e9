-- What holds behind a step: its names begin with those before, and where all names of a rule begin with its names, this
-- holds of its value, as that what is written of the value is read as the value again.
use Rattle.std.proofs.Common.{◌≡◌, ℕ, suc, ◌+◌, Bool, true, false, ◌||◌, not, cond, List, [], ◌∷◌, ◌++◌, map, Result, Ok, Err, refl, sym, subst, arith, append-nil, append_assoc, Decides, bytes_eq}
use Rattle.std.specs.List.{list_any, position_or_len}
use Rattle.std.proofs.lemmas.Slice.Eq.{bytes_eq-Decides}
use Rattle.hp_syntax.specs.declared.pattern.Span.{Span}
use Rattle.hp_syntax.specs.declared.form.What.{What}
use Rattle.hp_syntax.specs.Forest.{Node, Word, Numeral, Group, Forest, Bare, Grow}
use Rattle.hp_syntax.specs.Steps as steps
use Rattle.hp_syntax.specs.Steps.{◌>>=◌, ◌<$>◌}
use Rattle.hp_syntax.specs.Written.{name_of}
use Rattle.hp_print.proofs.CanSpell.{IsName, CanSpell, CanSpellAll}

-- ---- lists that begin with others

-- the second list begins with the first
pub record Begins (xs ys : steps.Names) : Type 0 where
  pub rest : steps.Names
  pub whole : ys ≡ xs ++ rest

-- a list begins with itself
pub begins_itself : (xs : steps.Names) → Begins xs xs
begins_itself xs = record { rest = []; whole = sym (append-nil xs) }

-- what begins with a list that begins with another begins with the other
pub begins_through : {xs ys zs : steps.Names} → Begins xs ys → Begins ys zs → Begins xs zs
begins_through {xs} {ys} {zs} a b =
    record { rest = a.rest ++ b.rest; whole = rw (b.whole, a.whole, append_assoc) refl }

-- a name behind the first of some names stands one place further
name_behind : (text x : List ℕ) (xs more : steps.Names) (b : Bool) (i : ℕ)
    → name_of (cond b xs (xs ++ text ∷ []) ++ more) i ≡ text
    → name_of (cond b (x ∷ xs) (x ∷ (xs ++ text ∷ [])) ++ more) (1 + i) ≡ text
name_behind text x xs more true i h = let e : 1 + i ≡ suc i = omega arith in rw e h
name_behind text x xs more false i h = let e : 1 + i ≡ suc i = omega arith in rw e h

-- the name of a variable stands where it is numbered
name_at : (text : List ℕ) (names more : steps.Names)
    → name_of (cond (list_any (bytes_eq text) names) names (names ++ text ∷ []) ++ more)
    (position_or_len (bytes_eq text) names) ≡ text
name_at text [] more = refl
name_at text (x ∷ xs) more = at (bytes_eq text x) (bytes_eq-Decides text x) (name_at text xs more)
  where
    at : (b : Bool) → Decides b (text ≡ x)
        → name_of (cond (list_any (bytes_eq text) xs) xs (xs ++ text ∷ []) ++ more)
        (position_or_len (bytes_eq text) xs) ≡ text
        → name_of (cond (b || list_any (bytes_eq text) xs) (x ∷ xs) (x ∷ (xs ++ text ∷ [])) ++ more)
        (cond (not b) (1 + position_or_len (bytes_eq text) xs) 0) ≡ text
    at true d h = sym (d.0 refl)
    at false d h = name_behind text x xs more (list_any (bytes_eq text) xs) (position_or_len (bytes_eq text) xs) h

-- names are numbered behind those before
begins_numbered : (text : List ℕ) (names : steps.Names)
    → Begins names (cond (list_any (bytes_eq text) names) names (names ++ text ∷ []))
begins_numbered text names = at (list_any (bytes_eq text) names)
  where
    at : (b : Bool) → Begins names (cond b names (names ++ text ∷ []))
    at true = begins_itself names
    at false = record { rest = text ∷ []; whole = refl }

-- ---- values that are read of written forests

-- a choice reads as its first step where its test holds
pub reads_true : {A : Type 0} {b : Bool} (p q : steps.Parse A) {names : steps.Names}
    {r : Result (A × steps.Names) steps.Misform}
    → b ≡ true → p names ≡ r → cond b p q names ≡ r
reads_true p q e h = rw e h

-- a choice reads as its second step where its test fails
pub reads_false : {A : Type 0} {b : Bool} (p q : steps.Parse A) {names : steps.Names}
    {r : Result (A × steps.Names) steps.Misform}
    → b ≡ false → q names ≡ r → cond b p q names ≡ r
reads_false p q e h = rw e h

-- a chain reads as what follows the value of its first step
pub reads_chain : {A B : Type 0} {r : Result (A × steps.Names) steps.Misform} {x : A} {names : steps.Names}
    {z : Result (B × steps.Names) steps.Misform} (f : A → steps.Parse B)
    → r ≡ Ok (x, names) → f x names ≡ z → steps.and_then r f ≡ z
reads_chain f e h = rw e h

-- what is written of a value is read as the value without places, from the same names to the same names, and can be
-- spelled if what was read can
pub record Again {A B : Type 0} (read : B → steps.Parse A) (Spells : B → Type 0) (u : A → A) (H : Type 0)
    (names : steps.Names)
    (written : B) (x : A) (after : steps.Names) : Type 0 where
  pub reads : read written names ≡ Ok (u x, after)
  pub spells : H → Spells written

-- what is read again can be spelled under any premise that gives the one before
pub again_from : {A B : Type 0} {read : B → steps.Parse A} {Spells : B → Type 0} {u : A → A} {H G : Type 0}
    {names end : steps.Names} {written : B} {x : A}
    → (G → H) → Again read Spells u H names written x end → Again read Spells u G names written x end
again_from f h = record { reads = h.reads; spells = λ g. h.spells (f g) }

-- ---- steps that leave the names as they are

abbrev pub StillResult : {A : Type 0} → (A → Type 0) → steps.Names → Result (A × steps.Names) steps.Misform → Type 0
StillResult P names (Ok x) = (x.1 ≡ names) × P x.0
StillResult P names (Err m) = Unit {0}

-- from these names a step gives these names, and a value of which this holds
pub record Still {A : Type 0} (names : steps.Names) (P : A → Type 0) (step : steps.Parse A) : Type 0 where
  pub still : StillResult P names (step names)

module _ {names : steps.Names} where
  -- a step that gives a value leaves the names
  pub still_pure : {A : Type 0} {P : A → Type 0} {x : A} → P x → Still names P (steps.pure x)
  still_pure h = record { still = (refl, h) }

  -- a refusal leaves the names
  pub still_refusal : {A : Type 0} {P : A → Type 0} (m : steps.Misform) → Still names P (steps.refuse m)
  still_refusal m = record { still = tt }

  -- a choice leaves the names where both its steps do
  pub still_choice : {A : Type 0} {P : A → Type 0} (b : Bool) {p q : steps.Parse A}
      → (b ≡ true → Still names P p) → (b ≡ false → Still names P q) → Still names P (cond b p q)
  still_choice true h k = h refl
  still_choice false h k = k refl

  -- that nothing is left over leaves the names
  pub still_ended : (f : Forest) → Still names (λ x. Unit {0}) (steps.ended f)
  still_ended Bare = still_pure tt
  still_ended (Grow n f) = still_refusal _

  -- the next item can be spelled if all can
  pub still_next : (what : What) (end : Span) (f : Forest)
      → Still names (λ x. CanSpellAll f → CanSpell x.0 × CanSpellAll x.1) (steps.next what end f)
  still_next what end Bare = still_refusal _
  still_next what end (Grow n f) = still_pure (λ h. h)

  -- what is left by any first name is left by that of a list
  pub still_begun : {A : Type 0} {P : A → Type 0} (n : Node) {by_name : List ℕ → Forest → steps.Parse A}
      (m : steps.Misform)
      → ((text : List ℕ) (rest : Forest) → (CanSpell n → IsName text × CanSpellAll rest)
      → Still names P (by_name text rest))
      → Still names P (steps.if_begun (steps.begun n) by_name (steps.refuse m))
  still_begun (Word s text) m h = still_refusal m
  still_begun (Numeral s n) m h = still_refusal m
  still_begun (Group s Bare) m h = still_refusal m
  still_begun (Group s (Grow (Word t text) rest)) m h = h text rest (λ k. k)
  still_begun (Group s (Grow (Numeral t n) rest)) m h = still_refusal m
  still_begun (Group s (Grow (Group t parts) rest)) m h = still_refusal m

-- ---- steps that add names

module _ (all : steps.Names) where
  abbrev pub AfterResult : {A : Type 0} → (A → steps.Names → Type 0) → steps.Names
      → Result (A × steps.Names) steps.Misform → Type 0
  AfterResult P names (Ok x) = Begins names x.1 × (Begins x.1 all → P x.0 x.1)
  AfterResult P names (Err m) = Unit {0}

  -- from these names a step gives names that begin with them, and if all begin with those, this holds of its value
  pub record After {A : Type 0} (names : steps.Names) (P : A → steps.Names → Type 0)
      (step : steps.Parse A) : Type 0 where
    pub after : AfterResult P names (step names)

module _ {all : steps.Names} where
  -- a fact behind two results, from the one behind the first
  then_after : {A B : Type 0} (P : A → steps.Names → Type 0) (Q : B → steps.Names → Type 0) (names : steps.Names)
      (x : A × steps.Names)
      (r : Result (B × steps.Names) steps.Misform)
      → AfterResult all P names (Ok x) → AfterResult all (λ y end. P x.0 x.1 → Q y end) x.1 r
      → AfterResult all Q names r
  then_after P Q names x (Ok y) h k =
      (begins_through h.0 k.0, λ (b : Begins y.1 all). k.1 b (h.1 (begins_through k.0 b)))
  then_after P Q names x (Err m) h k = tt

  -- a fact behind a chain is one behind its last step, given one behind the step before
  pub after_chain : {A B : Type 0} {P : A → steps.Names → Type 0} {Q : B → steps.Names → Type 0} {names : steps.Names}
      {p : steps.Parse A}
      {f : A → steps.Parse B}
      → After all names P p → ((x : A) (mid : steps.Names) → After all mid (λ y end. P x mid → Q y end) (f x))
      → After all names Q (p >>= f)
  after_chain {A} {B} {P} {Q} {names} {p} {f} h k = record { after = chained (p names) h.after }
    where
      chained : (r : Result (A × steps.Names) steps.Misform) → AfterResult all P names r
          → AfterResult all Q names (steps.and_then r f)
      chained (Ok x) u = then_after P Q names x (f x.0 x.1) u (k x.0 x.1).after
      chained (Err m) u = tt

  -- a chain whose first step leaves the names goes on from these names
  pub after_still : {A B : Type 0} {P : A → Type 0} {Q : B → steps.Names → Type 0} {names : steps.Names}
      {p : steps.Parse A}
      {f : A → steps.Parse B}
      → Still names P p → ((x : A) → After all names (λ y end. P x → Q y end) (f x)) → After all names Q (p >>= f)
  after_still {A} {B} {P} {Q} {names} {p} {f} h k = record { after = chained (p names) h.still }
    where
      given : (x : A) → P x → (r : Result (B × steps.Names) steps.Misform)
          → AfterResult all (λ y end. P x → Q y end) names r → AfterResult all Q names r
      given x h (Ok y) u = (u.0, λ b. u.1 b h)
      given x h (Err m) u = tt

      chained : (r : Result (A × steps.Names) steps.Misform) → StillResult P names r
          → AfterResult all Q names (steps.and_then r f)
      chained (Ok x) u =
          subst (λ (ns : steps.Names). AfterResult all Q names (f x.0 ns)) (sym u.0)
          (given x.0 u.1 (f x.0 names) (k x.0).after)
      chained (Err m) u = tt

  -- a step that gives a value leaves the names
  pub after_pure : {A : Type 0} {P : A → steps.Names → Type 0} {names : steps.Names} {x : A} → P x names
      → After all names P (steps.pure x)
  after_pure {A} {P} {names} h = record { after = (begins_itself names, λ b. h) }

  -- a refusal gives nothing
  pub after_refusal : {A : Type 0} {P : A → steps.Names → Type 0} {names : steps.Names} (m : steps.Misform)
      → After all names P (steps.refuse m)
  after_refusal m = record { after = tt }

  -- a step that leaves the names adds none
  pub after_left : {A : Type 0} {P : A → Type 0} {Q : A → steps.Names → Type 0} {names : steps.Names}
      {p : steps.Parse A}
      → Still names P p → ((x : A) → P x → Q x names) → After all names Q p
  after_left {A} {P} {Q} {names} {p} h k = record { after = left (p names) h.still }
    where
      left : (r : Result (A × steps.Names) steps.Misform) → StillResult P names r → AfterResult all Q names r
      left (Ok x) u =
          subst (λ (ns : steps.Names). Begins names ns × (Begins ns all → Q x.0 ns)) (sym u.0)
          (begins_itself names, λ b. k x.0 u.1)
      left (Err m) u = tt

  -- each consequence of a fact behind a step holds behind it
  pub after_so : {A : Type 0} {P Q : A → steps.Names → Type 0} {names : steps.Names} {p : steps.Parse A}
      → After all names P p
      → ((x : A) (end : steps.Names) → P x end → Q x end) → After all names Q p
  after_so {A} {P} {Q} {names} {p} h k = record { after = so (p names) h.after }
    where
      so : (r : Result (A × steps.Names) steps.Misform) → AfterResult all P names r → AfterResult all Q names r
      so (Ok x) u = (u.0, λ b. k x.0 x.1 (u.1 b))
      so (Err m) u = tt

  -- a fact of a value made of another follows from one of the other
  pub after_made : {A B : Type 0} {P : A → steps.Names → Type 0} {Q : B → steps.Names → Type 0} {names : steps.Names}
      (g : A → B)
      {p : steps.Parse A}
      → After all names P p → ((x : A) (end : steps.Names) → P x end → Q (g x) end) → After all names Q (g <$> p)
  after_made g h k = after_chain h (λ x mid. after_pure (k x mid))

  -- a fact behind both steps holds behind a choice of them
  pub after_choice : {A : Type 0} {P : A → steps.Names → Type 0} {names : steps.Names} (b : Bool) {p q : steps.Parse A}
      → (b ≡ true → After all names P p) → (b ≡ false → After all names P q) → After all names P (cond b p q)
  after_choice true h k = h refl
  after_choice false h k = k refl

  -- a fact by any first name holds by that of a list
  pub after_begun : {A : Type 0} {P : A → steps.Names → Type 0} {names : steps.Names} (n : Node)
      {by_name : List ℕ → Forest → steps.Parse A} (m : steps.Misform)
      → ((text : List ℕ) (rest : Forest) → (CanSpell n → IsName text × CanSpellAll rest)
      → After all names P (by_name text rest))
      → After all names P (steps.if_begun (steps.begun n) by_name (steps.refuse m))
  after_begun (Word s text) m h = after_refusal m
  after_begun (Numeral s n) m h = after_refusal m
  after_begun (Group s Bare) m h = after_refusal m
  after_begun (Group s (Grow (Word t text) rest)) m h = h text rest (λ k. k)
  after_begun (Group s (Grow (Numeral t n) rest)) m h = after_refusal m
  after_begun (Group s (Grow (Group t parts) rest)) m h = after_refusal m

  -- a value made of the names so far is made of the names behind the step
  pub after_names : {A : Type 0} {P : A → steps.Names → Type 0} {names : steps.Names} {f : steps.Names → A}
      → P (f names) names
      → After all names P (steps.names_so_far >>= (λ vars. steps.pure (f vars)))
  after_names {A} {P} {names} h = record { after = (begins_itself names, λ b. h) }

  -- a variable's number is that of its name
  pub after_numbered : {names : steps.Names} (text : List ℕ)
      → After all names (λ v end. (name_of all v ≡ text) × (steps.numbered text names ≡ Ok (v, end)))
      (steps.numbered text)
  after_numbered {names} text = record {
    after = (begins_numbered text names, λ b. (rw b.whole (name_at text names b.rest), refl));
  }

-- each item in turn is read again where each is
module _ {A : Type 0} (w : A → Node) (ws : List A → Forest) (u : A → A) (item : Node → steps.Parse A)
    (none : ws [] ≡ Bare) (more : (x : A) (xs : List A) → ws (x ∷ xs) ≡ Grow (w x) (ws xs)) where
  pub after_each : {all names : steps.Names} (f : Forest)
      → ((names : steps.Names) (n : Node)
      → After all names (λ x end. Again item CanSpell u (CanSpell n) names (w x) x end) (item n))
      → After all names (λ xs end. Again (steps.each item) CanSpellAll (map u) (CanSpellAll f) names (ws xs) xs end)
      (steps.each item f)
  after_each Bare h = after_pure (record { reads = rw none refl; spells = λ k. rw none tt })
  after_each {all} {names} (Grow n f) h =
      after_chain (h names n) (λ x mid.
      after_chain (after_each f h) (λ xs end.
      after_pure (λ a b. record {
        reads = rw more (reads_chain _ b.reads (reads_chain _ a.reads refl));
        spells = λ k. rw more (b.spells k.0, a.spells k.1);
      })))

-- a fact for all names behind a step from no names holds for the names at its end
pub after_none : {A : Type 0} (P : steps.Names → A → steps.Names → Type 0) (Q : A → Type 0) {p : steps.Parse A}
    → ((all : steps.Names) → After all [] (P all) p) → ((x : A) (names : steps.Names) → P names x names → Q x)
    → {names : steps.Names} → Still names Q (steps.by_itself p)
after_none {A} P Q {p} h k {names} = record { still = at (p []) (λ all. (h all).after) }
  where
    at : (r : Result (A × steps.Names) steps.Misform) → ((all : steps.Names) → AfterResult all (P all) [] r)
        → StillResult Q names (steps.and_then r (λ x _. steps.pure x names))
    at (Ok x) h = (refl, k x.0 x.1 ((h x.1).1 (begins_itself x.1)))
    at (Err m) h = tt

-- a fact of a step's value from no names on, for all names, holds for the names at its end
pub value_after : {A : Type 0} (P : steps.Names → A → steps.Names → Type 0) {p : steps.Parse A} (x : A)
    → ((all : steps.Names) → After all [] (P all) p) → steps.from_no_names p ≡ Ok x → (end : steps.Names) × P end x end
value_after {A} P {p} x h e = at (p []) (λ all. (h all).after) e
  where
    at : (r : Result (A × steps.Names) steps.Misform) → ((all : steps.Names) → AfterResult all (P all) [] r)
        → steps.value_in r ≡ Ok x
        → (end : steps.Names) × P end x end
    at (Ok y) h e =
        let same : y.0 ≡ x = cc in
        (y.1, subst (λ (z : A). P y.1 z y.1) same ((h y.1).1 (begins_itself y.1)))
    at (Err m) h e = absurd cc
