-- Steps on two forests that are alike up to an offset: what is refused up to there is refused on both.
use Rattle.std.proofs.Common.{◌≡◌, ℕ, ◌<◌, ◌≤◌, ℤ, Bool, true, false, cond, List, [], ◌∷◌, refl, sym, subst, ap, arith}
use Rattle.std.specs.Prelude.{Result, Ok, Err}
use Rattle.hp_syntax.specs.declared.pattern.Span.{Span}
use Rattle.hp_syntax.specs.declared.form.What.{What}
use Rattle.hp_syntax.specs.declared.form.What.TheVariants as wants
use Rattle.hp_syntax.specs.Forest.{Node, Word, Numeral, Group, Forest, Bare, Grow, span_of}
use Rattle.hp_syntax.specs.Steps as steps
use Rattle.hp_syntax.specs.Steps.{◌>>=◌, ◌<$>◌}
use Rattle.hp_syntax.specs.Misforms.{misform_span}

-- each node of a forest ends behind the offset
abbrev mutual
  pub NodeBeyond : ℕ → Node → Type 0
  NodeBeyond at (Word s name) = at < s.to
  NodeBeyond at (Numeral s n) = at < s.to
  NodeBeyond at (Group s parts) = (at < s.to) × Beyond at parts

  pub Beyond : ℕ → Forest → Type 0
  Beyond at Bare = Unit {0}
  Beyond at (Grow n f) = NodeBeyond at n × Beyond at f

-- two forests are alike up to the offset: the first has only nodes behind it, or both begin with the same node, or
-- both with a list that ends behind it in the first and is alike up to it
mutual
  pub data AlikeUpTo (at : ℕ) : Forest → Forest → Type 0 where
    PastPrefix : {f g : Forest} → Beyond at f → AlikeUpTo at f g
    SameNode : {n : Node} {f g : Forest} → AlikeUpTo at f g → AlikeUpTo at (Grow n f) (Grow n g)
    OpenList : {n m : Node} {f g : Forest} → NodeAlikeUpTo at n m → Beyond at f → AlikeUpTo at (Grow n f) (Grow m g)

  pub data NodeAlikeUpTo (at : ℕ) : Node → Node → Type 0 where
    OpenNode : {s t : Span} {p q : Forest} → at < s.to → AlikeUpTo at p q → NodeAlikeUpTo at (Group s p) (Group t q)

-- each refusal of a step is behind the offset
abbrev pub LateResult : {A : Type 0} → ℕ → Result (A × steps.Names) steps.Misform → Type 0
LateResult at (Ok x) = Unit {0}
LateResult at (Err e) = at < (misform_span e).to

pub record IsLate {A : Type 0} (at : ℕ) (p : steps.Parse A) : Type 0 where
  pub late : (names : steps.Names) → LateResult at (p names)

-- each refusal of a step up to the offset is one of another step
abbrev pub AlikeResult : {A : Type 0} → ℕ → Result (A × steps.Names) steps.Misform
    → Result (A × steps.Names) steps.Misform → Type 0
AlikeResult at (Ok x) r = Unit {0}
AlikeResult at (Err e) r = (misform_span e).to ≤ at → r ≡ Err e

pub record RefusesAlike {A : Type 0} (at : ℕ) (p q : steps.Parse A) : Type 0 where
  pub refused_alike : (names : steps.Names) → AlikeResult at (p names) (q names)

-- any result is alike to a late one
late_result : {A : Type 0} (at : ℕ) (r s : Result (A × steps.Names) steps.Misform) → LateResult at r
    → AlikeResult at r s
late_result at (Ok x) s u = tt
late_result at (Err e) s u = λ l. absurd (omega arith)

module _ {at : ℕ} where
  -- ---- steps

  -- a step that gives a value is late
  pub late_pure : {A : Type 0} {x : A} → IsLate at (steps.pure x)
  late_pure = record { late = λ names. tt }

  -- a step that numbers a variable is late
  pub late_numbered : (name : List ℕ) → IsLate at (steps.numbered name)
  late_numbered name = record { late = λ names. tt }

  -- a step that makes a value of the names so far is late
  pub late_names : {A : Type 0} {f : steps.Names → A} → IsLate at
      (steps.names_so_far >>= (λ names. steps.pure (f names)))
  late_names = record { late = λ names. tt }

  -- a refusal behind the offset is late
  pub late_refusal : {A : Type 0} {m : steps.Misform} → at < (misform_span m).to → IsLate at (steps.refuse {A = A} m)
  late_refusal l = record { late = λ names. l }

  -- a chain of late steps is late
  pub late_chain : {A B : Type 0} {p : steps.Parse A} {f : A → steps.Parse B} → IsLate at p
      → ((x : A) → IsLate at (f x))
      → IsLate at (p >>= f)
  late_chain {A} {B} {p} {f} h k = record { late = λ names. chained (p names) (h.late names) }
    where
      chained : (r : Result (A × steps.Names) steps.Misform) → LateResult at r → LateResult at (steps.and_then r f)
      chained (Ok x) u = (k x.0).late x.1
      chained (Err e) u = u

  -- a value made of what a late step gives is late
  pub late_made : {A B : Type 0} (g : A → B) {p : steps.Parse A} → IsLate at p → IsLate at (g <$> p)
  late_made g h = late_chain h (λ x. late_pure)

  -- a choice of late steps is late
  pub late_choice : {A : Type 0} (b : Bool) {p q : steps.Parse A} → IsLate at p → IsLate at q → IsLate at (cond b p q)
  late_choice true h k = h
  late_choice false h k = k

  -- a late step with variables of its own is late
  pub late_by_itself : {A : Type 0} {p : steps.Parse A} → IsLate at p → IsLate at (steps.by_itself p)
  late_by_itself {A} {p} h = record { late = λ names. own names (p []) (h.late []) }
    where
      own : (names : steps.Names) (r : Result (A × steps.Names) steps.Misform) → LateResult at r
          → LateResult at (steps.and_then r (λ x _. steps.pure x names))
      own names (Ok x) u = tt
      own names (Err e) u = u

  -- any step refuses alike what a late one refuses
  pub alike_late : {A : Type 0} {p q : steps.Parse A} → IsLate at p → RefusesAlike at p q
  alike_late {A} {p} {q} h = record { refused_alike = λ names. late_result at (p names) (q names) (h.late names) }

  -- a step refuses alike what it refuses
  pub alike_same : {A : Type 0} {p : steps.Parse A} → RefusesAlike at p p
  alike_same {A} {p} = record { refused_alike = λ names. same (p names) }
    where
      same : (r : Result (A × steps.Names) steps.Misform) → AlikeResult at r r
      same (Ok x) = tt
      same (Err e) = λ l. refl

  -- behind one and the same step, steps refuse as they do alone
  pub alike_behind : {A B : Type 0} (p : steps.Parse A) {f g : A → steps.Parse B}
      → ((x : A) → RefusesAlike at (f x) (g x))
      → RefusesAlike at (p >>= f) (p >>= g)
  alike_behind {A} {B} p {f} {g} h = record { refused_alike = λ names. behind (p names) }
    where
      behind : (r : Result (A × steps.Names) steps.Misform) → AlikeResult at (steps.and_then r f) (steps.and_then r g)
      behind (Ok x) = (h x.0).refused_alike x.1
      behind (Err e) = λ l. refl

  -- steps refuse alike whatever follows, if that is late
  pub alike_before : {A B : Type 0} {p q : steps.Parse A} {f : A → steps.Parse B} (g : A → steps.Parse B)
      → RefusesAlike at p q
      → ((x : A) → IsLate at (f x)) → RefusesAlike at (p >>= f) (q >>= g)
  alike_before {A} {B} {p} {q} {f} g h k =
      record { refused_alike = λ names. before (p names) (q names) (h.refused_alike names) }
    where
      before : (r s : Result (A × steps.Names) steps.Misform) → AlikeResult at r s
          → AlikeResult at (steps.and_then r f) (steps.and_then s g)
      before (Ok x) s u = late_result at (f x.0 x.1) (steps.and_then s g) ((k x.0).late x.1)
      before (Err e) s u = λ l. ap (λ z. steps.and_then z g) (u l)

  -- a choice of steps that refuse alike refuses alike
  pub alike_choice : {A : Type 0} (b : Bool) {p q r s : steps.Parse A} → RefusesAlike at p r → RefusesAlike at q s
      → RefusesAlike at (cond b p q) (cond b r s)
  alike_choice true h k = h
  alike_choice false h k = k

  -- so do two choices of which neither is taken
  alike_no : {A : Type 0} (b c : Bool) (p r : steps.Parse A) {q s : steps.Parse A} → b ≡ false → c ≡ false
      → RefusesAlike at q s
      → RefusesAlike at (cond b p q) (cond c r s)
  alike_no false false p r u v h = h
  alike_no true c p r u v h = absurd cc
  alike_no false true p r u v h = absurd cc

  -- steps that refuse alike do so with variables of their own
  pub alike_by_itself : {A : Type 0} {p q : steps.Parse A} → RefusesAlike at p q
      → RefusesAlike at (steps.by_itself p) (steps.by_itself q)
  alike_by_itself {A} {p} {q} h = record { refused_alike = λ names. own names (p []) (q []) (h.refused_alike []) }
    where
      own : (names : steps.Names) (r s : Result (A × steps.Names) steps.Misform) → AlikeResult at r s
          → AlikeResult at (steps.and_then r (λ x _. steps.pure x names)) (steps.and_then s (λ x _. steps.pure x names))
      own names (Ok x) s u = tt
      own names (Err e) s u = λ l. ap (λ z. steps.and_then z (λ x _. steps.pure x names)) (u l)

-- a step on a forest is late where the forest is beyond, and refuses alike what is alike up to the offset
pub record ReadsAlike {A : Type 0} (at : ℕ) (f : Forest) (K L : Forest → steps.Parse A) : Type 0 where
  pub beyond : Beyond at f → IsLate at (K f)
  pub alike : (g : Forest) → AlikeUpTo at f g → RefusesAlike at (K f) (L g)

-- the same for a step on a node
pub record ReadsNodeAlike {A : Type 0} (at : ℕ) (n : Node) (p : Node → steps.Parse A) : Type 0 where
  pub beyond : NodeBeyond at n → IsLate at (p n)
  pub alike : (m : Node) → NodeAlikeUpTo at n m → RefusesAlike at (p n) (p m)

-- the same for a step on a node and what follows it
pub record ReadsBothAlike {A : Type 0} (at : ℕ) (n : Node) (f : Forest)
    (S T : Node → Forest → steps.Parse A) : Type 0 where
  pub beyond : NodeBeyond at n → Beyond at f → IsLate at (S n f)
  pub same : (g : Forest) → AlikeUpTo at f g → RefusesAlike at (S n f) (T n g)
  pub cut : (m : Node) (g : Forest) → NodeAlikeUpTo at n m → Beyond at f → RefusesAlike at (S n f) (T m g)

module _ {at : ℕ} where
  -- ---- steps on forests

  -- a late step reads alike to any
  pub reads_late : {A : Type 0} {f : Forest} {K L : Forest → steps.Parse A} → IsLate at (K f) → ReadsAlike at f K L
  reads_late h = record { beyond = λ _. h; alike = λ g c. alike_late h }

  -- a choice that no forest decides reads alike if both steps do
  pub reads_choice : {A : Type 0} {f : Forest} (b : Bool) {K L K' L' : Forest → steps.Parse A} → ReadsAlike at f K K'
      → ReadsAlike at f L L'
      → ReadsAlike at f (λ g. cond b (K g) (L g)) (λ g. cond b (K' g) (L' g))
  reads_choice b h k = record {
    beyond = λ u. late_choice b (h.beyond u) (k.beyond u);
    alike = λ g c. alike_choice b (h.alike g c) (k.alike g c);
  }

  -- a step reads alike whatever follows it, if that is late
  pub reads_last : {A B : Type 0} {f : Forest} {K L : Forest → steps.Parse A} (Y Z : Forest → A → steps.Parse B)
      → ReadsAlike at f K L → ((x : A) → IsLate at (Y f x))
      → ReadsAlike at f (λ g. K g >>= Y g) (λ g. L g >>= Z g)
  reads_last Y Z h k = record {
    beyond = λ u. late_chain (h.beyond u) k;
    alike = λ g c. alike_before (Z g) (h.alike g c) k;
  }

  -- values made of what a step gives are read alike
  pub reads_made : {A B : Type 0} {f : Forest} {K L : Forest → steps.Parse A} (y z : A → B) → ReadsAlike at f K L
      → ReadsAlike at f (λ g. y <$> K g) (λ g. z <$> L g)
  reads_made y z h = reads_last (λ g x. steps.pure (y x)) (λ g x. steps.pure (z x)) h (λ x. late_pure)

  -- a step with variables of its own reads alike
  pub reads_by_itself : {A : Type 0} {f : Forest} {K L : Forest → steps.Parse A} → ReadsAlike at f K L
      → ReadsAlike at f (λ g. steps.by_itself (K g)) (λ g. steps.by_itself (L g))
  reads_by_itself h = record {
    beyond = λ u. late_by_itself (h.beyond u);
    alike = λ g c. alike_by_itself (h.alike g c);
  }

  -- a forest is read alike if its first node and the rest are
  pub reads_grow : {A : Type 0} {n : Node} {f : Forest} {K L : Forest → steps.Parse A}
      → ReadsBothAlike at n f (λ m g. K (Grow m g)) (λ m g. L (Grow m g)) → ReadsAlike at (Grow n f) K L
  reads_grow {A} {n} {f} {K} {L} h = record { beyond = λ u. h.beyond u.0 u.1; alike = alike n f h }
    where
      alike : (n : Node) (f : Forest) → ReadsBothAlike at n f (λ m g. K (Grow m g)) (λ m g. L (Grow m g)) → (g : Forest)
          → AlikeUpTo at (Grow n f) g
          → RefusesAlike at (K (Grow n f)) (L g)
      alike n f h g (PastPrefix b) = alike_late (h.beyond b.0 b.1)
      alike n f h g (SameNode c) = h.same _ c
      alike n f h g (OpenList c b) = h.cut _ _ c b

  -- a forest that begins with a name is read alike if what follows is, with that name in front
  pub reads_word_by : {A : Type 0} {s : Span} {text : List ℕ} {f : Forest} {K L : Forest → steps.Parse A}
      → (at < s.to → Beyond at f → IsLate at (K (Grow (Word s text) f)))
      → ((g : Forest) → AlikeUpTo at f g → RefusesAlike at (K (Grow (Word s text) f)) (L (Grow (Word s text) g)))
      → ReadsAlike at (Grow (Word s text) f) K L
  reads_word_by h k = reads_grow (record { beyond = h; same = k; cut = λ m g c. elim c [ ] })

  -- so is one that begins with a number
  pub reads_numeral_by : {A : Type 0} {s : Span} {n : ℤ} {f : Forest} {K L : Forest → steps.Parse A}
      → (at < s.to → Beyond at f → IsLate at (K (Grow (Numeral s n) f)))
      → ((g : Forest) → AlikeUpTo at f g → RefusesAlike at (K (Grow (Numeral s n) f)) (L (Grow (Numeral s n) g)))
      → ReadsAlike at (Grow (Numeral s n) f) K L
  reads_numeral_by h k = reads_grow (record { beyond = h; same = k; cut = λ m g c. elim c [ ] })

  -- so is one that begins with a name that is not refused
  pub reads_word : {A : Type 0} {s : Span} {text : List ℕ} {f : Forest} {K L : Forest → steps.Parse A}
      → ReadsAlike at f (λ g. K (Grow (Word s text) g)) (λ g. L (Grow (Word s text) g))
      → ReadsAlike at (Grow (Word s text) f) K L
  reads_word h = reads_word_by (λ _. h.beyond) h.alike

  -- a step on what follows the first node reads alike
  pub both_rest : {A : Type 0} {n : Node} {f : Forest} {K L : Forest → steps.Parse A} → ReadsAlike at f K L
      → ReadsBothAlike at n f (λ m g. K g) (λ m g. L g)
  both_rest h = record { beyond = λ _. h.beyond; same = h.alike; cut = λ m g c b. alike_late (h.beyond b) }

  -- a step on the first node, and then one on what follows, read alike if each does
  pub both_by : {A B : Type 0} {n : Node} {f : Forest} {p : Node → steps.Parse A}
      (K L : Node → A → Forest → steps.Parse B)
      → ReadsNodeAlike at n p
      → ((x : A) → ReadsAlike at f (K n x) (L n x))
      → ReadsBothAlike at n f (λ m g. p m >>= (λ x. K m x g)) (λ m g. p m >>= (λ x. L m x g))
  both_by {A} {B} {n} {f} {p} K L h k = record {
    beyond = λ u v. late_chain (h.beyond u) (λ x. (k x).beyond v);
    same = λ g c. alike_behind (p n) (λ x. (k x).alike g c);
    cut = λ m g c b. alike_before (λ x. L m x g) (h.alike m c) (λ x. (k x).beyond b);
  }

  -- the same where the node itself no longer matters
  pub both_then : {A B : Type 0} {n : Node} {f : Forest} {p : Node → steps.Parse A} {K L : A → Forest → steps.Parse B}
      → ReadsNodeAlike at n p
      → ((x : A) → ReadsAlike at f (K x) (L x))
      → ReadsBothAlike at n f (λ m g. p m >>= (λ x. K x g)) (λ m g. p m >>= (λ x. L x g))
  both_then {A} {B} {n} {f} {p} {K} {L} h k = both_by (λ m. K) (λ m. L) h k

  -- a choice by the first node reads alike if no list passes its test
  pub both_choice : {A : Type 0} {n : Node} {f : Forest} (test : Node → Bool)
      {S T S' T' : Node → Forest → steps.Parse A}
      → ((s : Span) (p : Forest) → test (Group s p) ≡ false) → ReadsBothAlike at n f S S' → ReadsBothAlike at n f T T'
      → ReadsBothAlike at n f (λ m g. cond (test m) (S m g) (T m g)) (λ m g. cond (test m) (S' m g) (T' m g))
  both_choice {A} {n} {f} test {S} {T} {S'} {T'} e h k = record {
    beyond = λ u v. late_choice (test n) (h.beyond u v) (k.beyond u v);
    same = λ g c. alike_choice (test n) (h.same g c) (k.same g c);
    cut = λ m g c b. alike_no (test n) (test m) (S n f) (S' m g) (left n m c) (right n m c) (k.cut m g c b);
  }
    where
      left : (n m : Node) → NodeAlikeUpTo at n m → test n ≡ false
      left n m (OpenNode l c) = e _ _

      right : (n m : Node) → NodeAlikeUpTo at n m → test m ≡ false
      right n m (OpenNode l c) = e _ _

  -- the next item and what follows it are read alike
  pub reads_next : {A : Type 0} {K L : Node × Forest → steps.Parse A} (what : What) {s t : Span} → at < s.to
      → ((n : Node) (f : Forest) → ReadsBothAlike at n f (λ m g. K (m, g)) (λ m g. L (m, g)))
      → (f : Forest) → ReadsAlike at f (λ g. steps.next what s g >>= K) (λ g. steps.next what t g >>= L)
  reads_next what l h Bare = reads_late (late_refusal l)
  reads_next what l h (Grow n f) = reads_grow (h n f)

  -- the first node is refused alike
  pub both_refused : {A : Type 0} {n : Node} {f : Forest} (m : Span → steps.Misform)
      → ((s : Span) → misform_span (m s) ≡ s)
      → ReadsBothAlike at n f (λ u g. steps.refuse {A = A} (m (span_of u))) (λ u g. steps.refuse (m (span_of u)))
  both_refused {A} {n} {f} m e = record {
    beyond = λ u v. late_refusal (placed n (ends n u));
    same = λ g c. alike_same;
    cut = λ u g c b. alike_late (late_refusal (placed n (cuts n u c)));
  }
    where
      placed : (n : Node) → at < (span_of n).to → at < (misform_span (m (span_of n))).to
      placed n l = subst (λ (s : Span). at < s.to) (sym (e (span_of n))) l

      ends : (n : Node) → NodeBeyond at n → at < (span_of n).to
      ends (Word s text) l = l
      ends (Numeral s n) l = l
      ends (Group s p) l = l.0

      cuts : (n m : Node) → NodeAlikeUpTo at n m → at < (span_of n).to
      cuts n m (OpenNode l c) = l

  -- that nothing is left over is read alike
  pub reads_ended : (f : Forest) → ReadsAlike at f steps.ended steps.ended
  reads_ended Bare = reads_late late_pure
  reads_ended (Grow n f) = reads_grow (both_refused (steps.Expected wants.End) (λ s. refl))

  -- ---- steps on nodes

  -- a name is read alike if it is refused late where it ends behind the offset
  pub node_word : {A : Type 0} {s : Span} {text : List ℕ} {p : Node → steps.Parse A}
      → (at < s.to → IsLate at (p (Word s text)))
      → ReadsNodeAlike at (Word s text) p
  node_word h = record { beyond = h; alike = λ m c. elim c [ ] }

  -- so is a number
  pub node_numeral : {A : Type 0} {s : Span} {n : ℤ} {p : Node → steps.Parse A}
      → (at < s.to → IsLate at (p (Numeral s n)))
      → ReadsNodeAlike at (Numeral s n) p
  node_numeral h = record { beyond = h; alike = λ m c. elim c [ ] }

  -- a list is read alike if its parts are
  pub node_group : {A : Type 0} {s : Span} {f : Forest} {p : Node → steps.Parse A}
      → ((t : Span) → at < s.to → ReadsAlike at f (λ g. p (Group s g)) (λ g. p (Group t g)))
      → ReadsNodeAlike at (Group s f) p
  node_group {A} {s} {f} {p} h = record { beyond = λ u. (h s u.0).beyond u.1; alike = alike s f h }
    where
      alike : (s : Span) (f : Forest)
          → ((t : Span) → at < s.to → ReadsAlike at f (λ g. p (Group s g)) (λ g. p (Group t g)))
          → (m : Node) → NodeAlikeUpTo at (Group s f) m → RefusesAlike at (p (Group s f)) (p m)
      alike s f h m (OpenNode l c) = (h _ l).alike _ c

  -- each item in turn is read alike if each item is
  pub reads_each : {A : Type 0} {item : Node → steps.Parse A} → ((n : Node) → ReadsNodeAlike at n item) → (f : Forest)
      → ReadsAlike at f (steps.each item) (steps.each item)
  reads_each h Bare = reads_late late_pure
  reads_each h (Grow n f) =
      reads_grow
      (both_then (h n)
      (λ x. reads_last (λ g xs. steps.pure (x ∷ xs)) (λ g xs. steps.pure (x ∷ xs)) (reads_each h f) (λ xs. late_pure)))

module _ {at : ℕ} where
  -- a forest that begins with a list is read alike if that list and what follows it are
  pub reads_group : {A : Type 0} {s : Span} {p f : Forest} {K L : Forest → steps.Parse A}
      (S T : Node → Forest → steps.Parse A)
      → K (Grow (Group s p) f) ≡ S (Group s p) f
      → ((t : Span) (q g : Forest) → L (Grow (Group t q) g) ≡ T (Group t q) g)
      → ReadsBothAlike at (Group s p) f S T → ReadsAlike at (Grow (Group s p) f) K L
  reads_group {A} {s} {p} {f} {K} {L} S T d e h = record {
    beyond = λ u. subst (IsLate at) (sym d) (h.beyond u.0 u.1);
    alike = λ g c. subst (λ x. RefusesAlike at x (L g)) (sym d) (alike g c);
  }
    where
      inside : (n m : Node) (f g : Forest) → NodeAlikeUpTo at n m → RefusesAlike at (S n f) (T m g)
          → RefusesAlike at (S n f) (L (Grow m g))
      inside n m f g (OpenNode {s = u} {t} {p = v} {q} l c) k =
          subst (RefusesAlike at (S (Group u v) f)) (sym (e t q g)) k

      grown : (n : Node) (f g : Forest) → ReadsBothAlike at n f S T → ((g : Forest) → L (Grow n g) ≡ T n g)
          → AlikeUpTo at (Grow n f) g → RefusesAlike at (S n f) (L g)
      grown n f g k d (PastPrefix b) = alike_late (k.beyond b.0 b.1)
      grown n f g k d (SameNode {g = g'} c) = subst (RefusesAlike at (S n f)) (sym (d g')) (k.same g' c)
      grown n f g k d (OpenList {m = m} {g = g'} c b) = inside n m f g' c (k.cut m g' c b)

      alike : (g : Forest) → AlikeUpTo at (Grow (Group s p) f) g → RefusesAlike at (S (Group s p) f) (L g)
      alike g c = grown (Group s p) f g h (e s p) c

  -- a step on a forest is one on its first node and what follows
  pub both_whole : {A : Type 0} {n : Node} {f : Forest} {K L : Forest → steps.Parse A} → ReadsAlike at (Grow n f) K L
      → ReadsBothAlike at n f (λ m g. K (Grow m g)) (λ m g. L (Grow m g))
  both_whole h = record {
    beyond = λ u v. h.beyond (u, v);
    same = λ g c. h.alike (Grow _ g) (SameNode c);
    cut = λ m g c b. h.alike (Grow m g) (OpenList c b);
  }

  -- the parts of a list are read alike by the name that it begins with
  begun_parts : {A : Type 0} {what : What} {s : Span} (by : Span → List ℕ → Forest → steps.Parse A)
      → ((text : List ℕ) (f : Forest) (t : Span) → at < s.to → ReadsAlike at f (by s text) (by t text))
      → (f : Forest) (t : Span) → at < s.to
      → ReadsAlike at f (λ g. steps.if_begun (steps.begun (Group s g)) (by s) (steps.expected what s))
      (λ g. steps.if_begun (steps.begun (Group t g)) (by t) (steps.expected what t))
  begun_parts by h Bare t l = reads_late (late_refusal l)
  begun_parts by h (Grow (Word u text) f) t l = reads_word (h text f t l)
  begun_parts by h (Grow (Numeral u n) f) t l = reads_late (late_refusal l)
  begun_parts by h (Grow (Group u p) f) t l = reads_late (late_refusal l)

  -- a list is read alike by the name that it begins with
  pub reads_begun : {A : Type 0} {what : What} (by : Span → List ℕ → Forest → steps.Parse A)
      → ((s : Span) (text : List ℕ) (f : Forest) (t : Span) → at < s.to → ReadsAlike at f (by s text) (by t text))
      → (n : Node)
      → ReadsNodeAlike at n (λ m. steps.if_begun (steps.begun m) (by (span_of m)) (steps.expected what (span_of m)))
  reads_begun by h (Word s text) = node_word (λ l. late_refusal l)
  reads_begun by h (Numeral s n) = node_numeral (λ l. late_refusal l)
  reads_begun by h (Group s f) = node_group (λ t l. begun_parts by (h s) f t l)
