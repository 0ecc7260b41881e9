-- What indexes know through changes.
use Rattle.std.proofs.Common.{◌≡◌, ℕ, zero, suc, ◌+◌, ◌-◌, ◌<◌, List, [], ◌∷◌, ◌++◌, Option, Some, None, length, get_or, set, take, slice_get, refl, sym, ap, ◌∙◌, subst, inl, inr, arith}
use Rattle.std.proofs.lemmas.List.{length_push, length-set, get_or-set_other, get_or-take, length-take}
use Rattle.std.proofs.lemmas.Bool.{cases_eq}
use Rattle.std.proofs.lemmas.List.Elements.{All-nil, All-cons, All-head, All-append, All-take, All-get_or, All-from_get_or, All-weaker}
use Rattle.std.proofs.lemmas.Option.{get_or_from_slice_get, slice_get-get_or, slice_get_within}
use Rattle.std.specs.List.{All, AllZip}
use Rattle.std.specs.Option.{IfSome}
use Rattle.hp_syntax.specs.Terms.{Term}
use Rattle.hp_cells.proofs.PlaceLemmas.{before_or_last, stood}
use Rattle.hp_chains.specs.Entries.{Entry, Bare, Standing, Loose, entry_at, new_entry, standing_again}
use Rattle.hp_world.specs.declared.part_index.Step.TheVariants.{Out, Back, More, Fewer}
use Rattle.hp_world.specs.Keyed.{Keyed, KnowsParts, AtomsBelow, Learns, Nothing, RightAt, RightFor, KeysRight, HasWaiting, IsAsRoomy, Awaits, Steps, key_of, waiting_at}
use Rattle.hp_world.proofs.ZipLemmas.{all_zipped}
use Rattle.hp_world.specs.Parts.{IsKnownBy}
use Rattle.hp_world.specs.Recorded.{Recorded, Knows, IndexedBelow}
use Rattle.hp_world.specs.Stages.{AllBelow}
use Rattle.hp_world.proofs.PartLemmas.{known_agrees}
use Rattle.hp_world.proofs.FollowingLemmas.{taken, entry_stays, last_entry, standing_twice}

-- an entry that stands again has the key that it had
same_key : (e f : Entry) → standing_again e ≡ standing_again f → key_of e ≡ key_of f
same_key Bare Bare h = refl
same_key Bare (Standing k) h = absurd (cc)
same_key Bare (Loose k p n) h = absurd (cc)
same_key (Standing k) Bare h = absurd (cc)
same_key (Standing k) (Standing j) h = cc
same_key (Standing k) (Loose j p n) h = cc
same_key (Loose k p n) Bare h = absurd (cc)
same_key (Loose k p n) (Standing j) h = cc
same_key (Loose k p n) (Loose j q m) h = cc

-- a new entry has its key
new_key : (key : Option ℕ) → key_of (new_entry key) ≡ key
new_key None = refl
new_key (Some k) = refl

-- where entries have the keys that they had, what is known stays
knows_still : (terms : List Term) (p : Keyed) (fs : List Entry)
    → ((j : ℕ) → key_of (entry_at fs j) ≡ key_of (entry_at p.entries j)) → KnowsParts terms p
    → KnowsParts terms (record p { entries = fs })
knows_still terms p fs same h = λ i a g. subst (λ (k : Option ℕ). IsKnownBy terms p.part a k) (sym (same i)) (h i a g)

-- what is learnt where only entries change, and keep their keys
learns_rekeyed : (p : Keyed) (fs : List Entry) → length fs ≡ length p.entries
    → ((j : ℕ) → key_of (entry_at fs j) ≡ key_of (entry_at p.entries j))
    → Learns Nothing [] 0 p (record p { entries = fs })
learns_rekeyed p fs count same = record {
  part = refl;
  keys = refl;
  room = refl;
  waiting = refl;
  longer = omega (arith, count);
  knows = λ terms r h. knows_still terms p fs same h;
  below = λ n l h. h;
}

-- where a place is taken out, what is known stays
pub learns_out : (i : ℕ) (p q : Keyed) → Steps (Out i) p q → Learns Nothing [] 0 p q
learns_out i p q step =
    let t = taken i p.entries q.entries step.0 in
    let same : (j : ℕ) → key_of (entry_at q.entries j) ≡ key_of (entry_at p.entries j) = λ j. elim (cases_eq j i) [
      | inl e ↦
          ap (λ k. key_of (entry_at q.entries k)) e ∙ same_key (entry_at q.entries i) (entry_at p.entries i) t.key
          ∙ ap (λ k. key_of (entry_at p.entries k)) (sym e)
      | inr n ↦ ap key_of (t.others j n)
    ] in
    subst (λ (x : Keyed). Learns Nothing [] 0 p x) (sym step.1) (learns_rekeyed p q.entries t.count same)

-- where a place is put back, what is known stays
pub learns_back : (i : ℕ) (p q : Keyed) → Steps (Back i) p q → Learns Nothing [] 0 p q
learns_back i p q step =
    let e = standing_again (entry_at p.entries i) in
    let fs = set p.entries i e in
    let same : (j : ℕ) → key_of (entry_at fs j) ≡ key_of (entry_at p.entries j) = λ j. elim (cases_eq j i) [
      | inl at ↦
          same_key (entry_at fs j) (entry_at p.entries j)
          (ap (λ k. standing_again (entry_at (set p.entries i e) k)) at ∙ again p.entries i
          ∙ ap (λ k. standing_again (entry_at p.entries k)) (sym at))
      | inr n ↦ ap key_of (get_or-set_other p.entries i j e Bare n)
    ] in
    subst (λ (x : Keyed). Learns Nothing [] 0 p x) (sym step) (learns_rekeyed p fs (length-set p.entries i e) same)
  where
    again : (es : List Entry) (i : ℕ)
        → standing_again (entry_at (set es i (standing_again (entry_at es i))) i) ≡ standing_again (entry_at es i)
    again [] i = refl
    again (x ∷ es) zero = standing_twice x
    again (x ∷ es) (suc i) = again es i

-- where the last place goes, what is known of the others stays
pub learns_fewer : (p q : Keyed) → Steps Fewer p q → Learns Nothing [] 0 p q
learns_fewer p q step =
    let n = length p.atoms - 1 in
    let fewer : Learns Nothing [] 0 p (record p { atoms = take n p.atoms; entries = take n p.entries }) = record {
      part = refl;
      keys = refl;
      room = refl;
      waiting = refl;
      longer = omega (arith, length-take n p.entries);
      knows = λ terms r h i a g.
          let was = stood n p.atoms i a g in
          subst (λ (e : Entry). IsKnownBy terms p.part a (key_of e)) (sym (get_or-take n p.entries i Bare was.0))
          (h i a was.1);
      below = λ m l h. All-take (λ c. c < m) n p.atoms h;
    } in
    subst (λ (x : Keyed). Learns Nothing [] 0 p x) (sym step) fewer

-- an atom that comes behind the others is known by the key that waited for it
pub learns_more : (a n : ℕ) (p q : Keyed) → length p.atoms ≡ length p.entries → Steps (More a n) p q
    → Learns (RightAt a n) (a ∷ []) 1 p q
learns_more a n p q aligned step =
    let key = waiting_at p n in
    let more : Learns (RightAt a n) (a ∷ []) 1 p
    (record p { atoms = p.atoms ++ a ∷ []; entries = p.entries ++ new_entry key ∷ [] }) = record {
      part = refl;
      keys = refl;
      room = refl;
      waiting = refl;
      longer = omega (arith, length_push p.entries (new_entry key));
      knows = λ terms right h i b g. elim (before_or_last p.atoms a i b g) [
        | inl was ↦
            let l = slice_get_within p.atoms i b was in
            subst (λ (e : Entry). IsKnownBy terms p.part b (key_of e))
            (sym (entry_stays p.entries (new_entry key) i (omega (arith, l, aligned)))) (h i b was)
        | inr last ↦
            let here : entry_at (p.entries ++ new_entry key ∷ []) i ≡ new_entry key =
            last_entry p.entries (new_entry key) i (last.0 ∙ aligned) in
            subst (λ (k : Option ℕ). IsKnownBy terms p.part b k) (sym (ap key_of here ∙ new_key key))
            (subst (λ c. IsKnownBy terms p.part c key) last.1 right)
      ];
      below = λ m l h. All-append (λ c. c < m) p.atoms (a ∷ []) h l;
    } in
    subst (λ (x : Keyed). Learns (RightAt a n) (a ∷ []) 1 p x) (sym step) more

-- nothing is learnt where nothing changes
pub learns_same : (Right : List Term → Keyed → Type 0) (added : List ℕ) (most : ℕ) (p : Keyed)
    → Learns Right added most p p
learns_same Right added most p = record {
  part = refl;
  keys = refl;
  room = refl;
  waiting = refl;
  longer = omega arith;
  knows = λ terms r h. h;
  below = λ n l h. h;
}

-- what is learnt by changes after others
pub learns_twice : (R S T : List Term → Keyed → Type 0) (as' bs cs : List ℕ) (n m : ℕ) (p q r : Keyed)
    → Learns R as' n p q → Learns S bs m q r
    → ((terms : List Term) → T terms p → R terms p) → ((terms : List Term) → T terms p → S terms q)
    → ((k : ℕ) → AllBelow k cs → AllBelow k as' × AllBelow k bs) → Learns T cs (n + m) p r
learns_twice R S T as' bs cs n m p q r f g to after few = record {
  part = g.part ∙ f.part;
  keys = g.keys ∙ f.keys;
  room = g.room ∙ f.room;
  waiting = g.waiting ∙ f.waiting;
  longer = omega (arith, f.longer, g.longer);
  knows = λ terms h k. g.knows terms (after terms h) (f.knows terms (to terms h) k);
  below = λ k l h. g.below k (few k l).1 (f.below k (few k l).0 h);
}

-- keys that wait stay right
pub right_still : (atoms : List ℕ) (terms : List Term) (p q : Keyed) → q.part ≡ p.part → q.waiting ≡ p.waiting
    → KeysRight terms atoms p → KeysRight terms atoms q
right_still atoms terms p q part waiting h = λ n a g.
    subst (λ k. IsKnownBy terms k a (get_or q.waiting n None)) (sym part)
    (subst (λ (ks : List (Option ℕ)). IsKnownBy terms p.part a (get_or ks n None)) (sym waiting) (h n a g))

-- room and keys that wait serve for fewer atoms behind changes
pub waits_still : (Right : List Term → Keyed → Type 0) (added : List ℕ) (count many more most : ℕ)
    → many ≡ more + most → (p q : Keyed) → HasWaiting count many p → Learns Right added most p q
    → HasWaiting count more q
waits_still Right added count many more most e p q h f = record {
  room = omega (arith, f.longer, f.room, h.room);
  number = ap length f.waiting ∙ h.number;
  below = λ n.
      subst (λ (o : Option ℕ). IfSome o (λ k. k < q.keys))
      (sym (ap (λ (ks : List (Option ℕ)). get_or ks n None) f.waiting))
      (subst (λ b. IfSome (waiting_at p n) (λ k. k < b)) (sym f.keys) (h.below n));
}

-- what was known before changes that ask nothing, and before others, is known
pub learns_on : (p q r : Keyed) → Learns Nothing [] 0 p q → Learns Nothing [] 0 q r → Learns Nothing [] 0 p r
learns_on p q r f g =
    learns_twice Nothing Nothing Nothing [] [] [] 0 0 p q r f g (λ terms h. tt) (λ terms h. tt) (λ k l. (l, l))

-- what is learnt from nothing is learnt from anything, and by more changes
pub learns_weaker : (Right : List Term → Keyed → Type 0) (added : List ℕ) (most : ℕ) (p q : Keyed)
    → Learns Nothing [] 0 p q → Learns Right added most p q
learns_weaker Right added most p q f = record {
  part = f.part;
  keys = f.keys;
  room = f.room;
  waiting = f.waiting;
  longer = omega (arith, f.longer);
  knows = λ terms h k. f.knows terms tt k;
  below = λ k l h. f.below k (All-nil (λ c. c < k)) h;
}

-- where atoms are below a count, each of them is
pub one_below : (k : ℕ) (atoms : List ℕ) (n a : ℕ) → AllBelow k atoms → slice_get atoms n ≡ Some a
    → AllBelow k (a ∷ [])
one_below k atoms n a l at =
    All-cons (λ c. c < k) a []
    (subst (λ c. c < k) (get_or_from_slice_get atoms n a 0 at)
    (All-get_or (λ c. c < k) atoms n 0 (slice_get_within atoms n a at) l)) (All-nil (λ c. c < k))

-- atoms are learnt one after another
pub learns_each : (atoms : List ℕ) (n a : ℕ) (p q r : Keyed) → slice_get atoms n ≡ Some a
    → Learns (RightFor atoms) atoms n p q → Learns (RightAt a n) (a ∷ []) 1 q r
    → Learns (RightFor atoms) atoms (n + 1) p r
learns_each atoms n a p q r at f g =
    learns_twice (RightFor atoms) (RightAt a n) (RightFor atoms) atoms (a ∷ []) atoms n 1 p q r f g (λ terms h. h)
    (λ terms h. right_still atoms terms p q f.part f.waiting h n a at) (λ k l. (l, one_below k atoms n a l at))

-- what is learnt from atoms behind changes that ask nothing
pub learns_then : (atoms : List ℕ) (most : ℕ) (p q r : Keyed) → Learns Nothing [] 0 p q
    → Learns (RightFor atoms) atoms most q r → Learns (RightFor atoms) atoms most p r
learns_then atoms most p q r f g = record {
  part = g.part ∙ f.part;
  keys = g.keys ∙ f.keys;
  room = g.room ∙ f.room;
  waiting = g.waiting ∙ f.waiting;
  longer = omega (arith, f.longer, g.longer);
  knows = λ terms h k.
      g.knows terms (right_still atoms terms p q f.part f.waiting h) (f.knows terms tt k);
  below = λ k l h. g.below k l (f.below k (All-nil (λ c. c < k)) h);
}

-- what indexes know stays where there is more room
pub known_roomier : (terms : List Term) (ps qs : List Keyed) → All (KnowsParts terms) ps → AllZip IsAsRoomy ps qs
    → All (KnowsParts terms) qs
known_roomier terms ps qs known roomier =
    all_zipped (KnowsParts terms) (KnowsParts terms) IsAsRoomy each ps qs known roomier
  where
    each : (p q : Keyed) → KnowsParts terms p → IsAsRoomy p q → KnowsParts terms q
    each p q h r = λ i a g.
        subst (λ k. IsKnownBy terms k a (key_of (entry_at q.entries i))) (sym r.part)
        (subst (λ (es : List Entry). IsKnownBy terms p.part a (key_of (entry_at es i))) (sym r.entries)
        (h i a (sym (ap (λ (xs : List ℕ). slice_get xs i) r.atoms) ∙ g)))

-- the atoms of indexes stay below a count where there is more room
pub below_roomier : (n : ℕ) (ps qs : List Keyed) → All (AtomsBelow n) ps → AllZip IsAsRoomy ps qs
    → All (AtomsBelow n) qs
below_roomier n ps qs h roomier =
    all_zipped (AtomsBelow n) (AtomsBelow n) IsAsRoomy (λ p q l r. subst (AllBelow n) (sym r.atoms) l) ps qs h roomier

-- the atoms of indexes are below a count where they and those that are added were
pub below_learnt : (Right : List Term → Keyed → Type 0) (added : List ℕ) (most n : ℕ) (ps qs : List Keyed)
    → AllBelow n added → All (AtomsBelow n) ps → AllZip (Learns Right added most) ps qs → All (AtomsBelow n) qs
below_learnt Right added most n ps qs l h learns =
    all_zipped (AtomsBelow n) (AtomsBelow n) (Learns Right added most) (λ p q b f. f.below n l b) ps qs h learns

-- indexes know what they knew, and the atoms whose right keys waited
pub all_known : (terms : List Term) (atoms : List ℕ) (ps qs : List Keyed) → All (KnowsParts terms) ps
    → All (Awaits terms atoms) ps → AllZip (Learns (RightFor atoms) atoms (length atoms)) ps qs
    → All (KnowsParts terms) qs
all_known terms atoms ps qs known awaits learns =
    all_zipped (λ p. KnowsParts terms p × Awaits terms atoms p) (KnowsParts terms)
    (Learns (RightFor atoms) atoms (length atoms)) (λ p q h f. f.knows terms h.1.right h.0) ps qs
    (λ k d l. (known k d l, awaits k d l)) learns

-- ---- what indexes know

-- the atoms that an index knows are below the number of cells
known_below : (terms : List Term) (p : Keyed) → KnowsParts terms p → AtomsBelow (length terms) p
known_below terms p h =
    All-from_get_or (λ c. c < length terms) p.atoms 0
    (λ i l. (h i (get_or p.atoms i 0) (slice_get-get_or p.atoms i 0 l)).is_cell)

-- the atoms of indexes that know them are below the number of cells
pub known_are_cells : (terms : List Term) (w : Recorded) → Knows terms w → IndexedBelow (length terms) w
known_are_cells terms w h = All-weaker (KnowsParts terms) (AtomsBelow (length terms)) (known_below terms) w.parts h

-- what an index knows it knows over all cells that agree below a count which its atoms are below
known_where_agreed : (n : ℕ) (c d : List Term) → take n c ≡ take n d → (p : Keyed) → AtomsBelow n p
    → KnowsParts c p → KnowsParts d p
known_where_agreed n c d same p below h = λ i a g.
    let l = All-head (λ x. x < n) a [] (one_below n p.atoms i a below g) in
    known_agrees n c d same p.part a (key_of (entry_at p.entries i)) l (h i a g)

-- what indexes know they know over all cells that agree below a count which their atoms are below
pub all_known_where_agreed : (n : ℕ) (c d : List Term) (w : Recorded) → IndexedBelow n w → Knows c w
    → take n c ≡ take n d → Knows d w
all_known_where_agreed n c d w below known same = λ i p l.
    known_where_agreed n c d same (get_or w.parts i p) (below i p l) (known i p l)
