-- The atoms that effects gather, one effect after another, and those of them that are put into changes.
use Rattle.std.proofs.Common.{append_assoc, ◌≡◌, ℕ, ◌+◌, ◌<◌, List, [], ◌∷◌, ◌++◌, length, drop, get_or, slice_get, Some, Result, Ok, Err, refl, sym, ◌∙◌, ap, ap₂, subst, arith}
use Rattle.std.proofs.lemmas.List.{map-append, append-nil}
use Rattle.hp_syntax.specs.declared.domain.Side.{Side}
use Rattle.hp_syntax.specs.declared.domain.Side.TheVariants.{Deletes, Adds}
use Rattle.hp_syntax.specs.declared.fault.RunFault.{RunFault}
use Rattle.hp_syntax.specs.declared.pattern.AtomPat.{AtomPat}
use Rattle.hp_syntax.specs.Syntax.{Atom}
use Rattle.hp_syntax.specs.Terms.{Term}
use Rattle.hp_syntax.specs.Values.{Bindings, atom_value}
use Rattle.hp_syntax.specs.Views.{atom_of, atoms_of}
use Rattle.hp_syntax.specs.Applying.{ChangesOf}
use Rattle.hp_syntax.specs.Events as plain
use Rattle.hp_syntax.specs.Changes.{Changes, Going, Went, CutShort, Failed, and_go, go_on, Gathered, both_gathered, of_atoms, of_protection, atom_values, values_for_each}
use Rattle.hp_eval.specs.declared.event.Event.TheVariants as events
use Rattle.hp_eval.specs.Events.{PlainEvent, event_of, left_after, AreOfFirst}
use Rattle.hp_eval.specs.GoalViews.{term_at}
use Rattle.hp_eval.specs.Growth.{Grows}
use Rattle.hp_eval.proofs.CellViews.{at_named}
use Rattle.hp_eval.proofs.GrowthLemmas.{all_below, terms_stay}
use Rattle.hp_eval.proofs.Loops.{left_more}
use Rattle.hp_world.specs.Stages.{terms_at, changes_of, ChangesBelow}
use Rattle.hp_effect.specs.declared.changes.Part.{Part}
use Rattle.hp_effect.specs.declared.obstacle.Obstacle.{Obstacle}
use Rattle.hp_effect.specs.declared.obstacle.Obstacle.TheVariants.{Cut, Fault, NoMemory}
use Rattle.hp_effect.specs.Puts.{with_last, Puts}
use Rattle.hp_effect.specs.Gathering.{part_of_atoms, part_of_protections, with_gathered, of_atom, of_guard, only_atoms, values_at, both, HasPut, StopsHere, each_going, PutsFirst}

-- ---- changes

-- changes of these four lists
abbrev changes_with : {A : Type 0} → List A → List A → List A → List A → ChangesOf A
changes_with u d a g = record { unguard = u; delete = d; add = a; guard = g }

-- changes are equal where their lists are
same_changes : {A : Type 0} (c d : ChangesOf A) → c.unguard ≡ d.unguard → c.delete ≡ d.delete → c.add ≡ d.add
    → c.guard ≡ d.guard → c ≡ d
same_changes c d u e a g =
    ap₂ (λ p q. changes_with p q c.add c.guard) u e ∙ ap₂ (λ p q. changes_with d.unguard d.delete p q) a g

-- with nothing gathered changes are as they were
with_nothing : (side : Side) (c : Changes) → c ≡ with_gathered side (of_atoms []) c
with_nothing Deletes c =
    same_changes c (with_gathered Deletes (of_atoms []) c) (sym (append-nil c.unguard)) (sym (append-nil c.delete)) refl
    refl
with_nothing Adds c =
    same_changes c (with_gathered Adds (of_atoms []) c) refl refl (sym (append-nil c.add)) (sym (append-nil c.guard))

-- atoms gathered later stand behind those gathered before
with_both : (side : Side) (x y : Gathered) (c : Changes)
    → with_gathered side y (with_gathered side x c) ≡ with_gathered side (both_gathered x y) c
with_both Deletes x y c =
    same_changes (with_gathered Deletes y (with_gathered Deletes x c)) (with_gathered Deletes (both_gathered x y) c)
    (append_assoc c.unguard x.protections y.protections) (append_assoc c.delete x.atoms y.atoms) refl refl
with_both Adds x y c =
    same_changes (with_gathered Adds y (with_gathered Adds x c)) (with_gathered Adds (both_gathered x y) c) refl refl
    (append_assoc c.add x.atoms y.atoms) (append_assoc c.guard x.protections y.protections)

module _ (old new : List Term) (g : Grows old new) (c : ChangesOf ℕ) (below : ChangesBelow (length old) c) where
  -- changes to cells of the terms before stand for the same
  pub changes_stay : changes_of new c ≡ changes_of old c
  changes_stay =
      same_changes (changes_of new c) (changes_of old c) (terms_stay old new g c.unguard below.unguard)
      (terms_stay old new g c.delete below.delete) (terms_stay old new g c.add below.add)
      (terms_stay old new g c.guard below.guard)

  -- they stay below the number of terms
  pub changes_grow : ChangesBelow (length new) c
  changes_grow = record {
    unguard = all_below old new g c.unguard below.unguard;
    delete = all_below old new g c.delete below.delete;
    add = all_below old new g c.add below.add;
    guard = all_below old new g c.guard below.guard;
  }

  -- the cell of a value was put behind others
  abbrev IsPut : Part → Result Term RunFault → ChangesOf ℕ → Type 0
  IsPut part r after = Puts {A = Unit {0}} part (Ok tt) r new c after

  module _ (cell : ℕ) (t : Term) (names : slice_get new cell ≡ Some t) where
    -- one more cell behind others stands for its term behind theirs
    last_term : (cells : List ℕ) → terms_at new cells ≡ terms_at old cells
        → terms_at new (cells ++ cell ∷ []) ≡ terms_at old cells ++ t ∷ []
    last_term cells stay =
        map-append (term_at new) cells (cell ∷ [])
        ∙ ap₂ (λ ts u. ts ++ u ∷ []) stay (at_named new cell t names)

    -- one more atom is put behind the others
    atom_put : (side : Side)
        → changes_of new (with_last (part_of_atoms side) cell c)
        ≡ with_gathered side (of_atoms (t ∷ [])) (changes_of old c)
    atom_put Deletes =
        same_changes (changes_of new (with_last (part_of_atoms Deletes) cell c))
        (with_gathered Deletes (of_atoms (t ∷ [])) (changes_of old c))
        (terms_stay old new g c.unguard below.unguard ∙ sym (append-nil (terms_at old c.unguard)))
        (last_term c.delete (terms_stay old new g c.delete below.delete)) (terms_stay old new g c.add below.add)
        (terms_stay old new g c.guard below.guard)
    atom_put Adds =
        same_changes (changes_of new (with_last (part_of_atoms Adds) cell c))
        (with_gathered Adds (of_atoms (t ∷ [])) (changes_of old c)) (terms_stay old new g c.unguard below.unguard)
        (terms_stay old new g c.delete below.delete) (last_term c.add (terms_stay old new g c.add below.add))
        (terms_stay old new g c.guard below.guard ∙ sym (append-nil (terms_at old c.guard)))

    -- one more protection is put behind the others
    guard_put : (side : Side)
        → changes_of new (with_last (part_of_protections side) cell c)
        ≡ with_gathered side (of_protection t) (changes_of old c)
    guard_put Deletes =
        same_changes (changes_of new (with_last (part_of_protections Deletes) cell c))
        (with_gathered Deletes (of_protection t) (changes_of old c))
        (last_term c.unguard (terms_stay old new g c.unguard below.unguard))
        (terms_stay old new g c.delete below.delete ∙ sym (append-nil (terms_at old c.delete)))
        (terms_stay old new g c.add below.add) (terms_stay old new g c.guard below.guard)
    guard_put Adds =
        same_changes (changes_of new (with_last (part_of_protections Adds) cell c))
        (with_gathered Adds (of_protection t) (changes_of old c)) (terms_stay old new g c.unguard below.unguard)
        (terms_stay old new g c.delete below.delete)
        (terms_stay old new g c.add below.add ∙ sym (append-nil (terms_at old c.add)))
        (last_term c.guard (terms_stay old new g c.guard below.guard))

  module _ (side : Side) (part : Part) (r : Result Term RunFault) (after : ChangesOf ℕ)
      (there : ChangesBelow (length new) after) where
    -- the effect gathers the value of the atom put there
    pub atom_gathered : part ≡ part_of_atoms side → IsPut part r after
        → HasPut side (of_atom r) new (changes_of old c) after
    atom_gathered e h = record {
      values = of_atoms (h.1 ∷ []);
      went = ap of_atom h.2;
      puts = ap (changes_of new) (h.4 ∙ ap (λ p. with_last p h.0 c) e) ∙ atom_put h.0 h.1 h.3 side;
      below = there;
    }

    -- the effect gathers the value of the protection put there
    pub guard_gathered : part ≡ part_of_protections side → IsPut part r after
        → HasPut side (of_guard r) new (changes_of old c) after
    guard_gathered e h = record {
      values = of_protection h.1;
      went = ap of_guard h.2;
      puts = ap (changes_of new) (h.4 ∙ ap (λ p. with_last p h.0 c) e) ∙ guard_put h.0 h.1 h.3 side;
      below = there;
    }

-- ---- one effect after another

-- so much of the whole was put, and this is left
pub record Along (side : Side) (whole left : Going Gathered) (terms : List Term) (old : Changes)
    (now : ChangesOf ℕ) : Type 0 where
  pub values : Gathered
  pub splits : whole ≡ both (Went values) left
  pub puts : changes_of terms now ≡ with_gathered side values old
  pub below : ChangesBelow (length terms) now

-- with nothing before it an effect gathers what it does
nothing_before : (left : Going Gathered) → left ≡ both (Went (of_atoms [])) left
nothing_before (Went h) = refl
nothing_before CutShort = refl
nothing_before (Failed f) = refl

-- the atoms gathered before an effect stand before its own
both_assoc : (x y : Gathered) (left : Going Gathered)
    → both (Went x) (both (Went y) left) ≡ both (Went (both_gathered x y)) left
both_assoc x y (Went h) =
    ap₂ (λ p q. Went (record { atoms = p; protections = q })) (sym (append_assoc x.atoms y.atoms h.atoms))
    (sym (append_assoc x.protections y.protections h.protections))
both_assoc x y CutShort = refl
both_assoc x y (Failed f) = refl

module _ (side : Side) (whole : Going Gathered) (old : Changes) where
  -- at first all is left
  pub along_none : (terms : List Term) (now : ChangesOf ℕ) → changes_of terms now ≡ old
      → ChangesBelow (length terms) now → Along side whole whole terms old now
  along_none terms now e below = record {
    values = of_atoms [];
    splits = nothing_before whole;
    puts = e ∙ with_nothing side old;
    below = below;
  }

  -- the atoms of an effect are put behind those before
  pub along_more : (terms later : List Term) (now after : ChangesOf ℕ) (first left rest : Going Gathered)
      → left ≡ both first rest → Along side whole left terms old now
      → HasPut side first later (changes_of terms now) after → Along side whole rest later old after
  along_more terms later now after first left rest e h p = record {
    values = both_gathered h.values p.values;
    splits =
        h.splits
        ∙ (ap (both (Went h.values)) (e ∙ ap (λ x. both x rest) p.went) ∙ both_assoc h.values p.values rest);
    puts = p.puts ∙ (ap (with_gathered side p.values) h.puts ∙ with_both side h.values p.values old);
    below = p.below;
  }

  -- where the remainder is put the whole is
  pub along_ends : (terms later : List Term) (now after : ChangesOf ℕ) (left : Going Gathered)
      → Along side whole left terms old now → HasPut side left later (changes_of terms now) after
      → HasPut side whole later old after
  along_ends terms later now after left h p = record {
    values = both_gathered h.values p.values;
    went = h.splits ∙ ap (both (Went h.values)) p.went;
    puts = p.puts ∙ (ap (with_gathered side p.values) h.puts ∙ with_both side h.values p.values old);
    below = p.below;
  }

  -- where the remainder stops the whole does
  pub along_halts : (terms : List Term) (now : ChangesOf ℕ) (left : Going Gathered) (obstacle : Obstacle)
      → Along side whole left terms old now → StopsHere obstacle left → StopsHere obstacle whole
  along_halts terms now left Cut h s = h.splits ∙ ap (both (Went h.values)) s
  along_halts terms now left (Fault f) h s = h.splits ∙ ap (both (Went h.values)) s
  along_halts terms now left NoMemory h s = tt

  -- where an effect stops the whole does
  pub along_stops : (terms : List Term) (now : ChangesOf ℕ) (first left rest : Going Gathered) (obstacle : Obstacle)
      → left ≡ both first rest → Along side whole left terms old now → StopsHere obstacle first
      → StopsHere obstacle whole
  along_stops terms now first left rest Cut e h s =
      h.splits ∙ ap (both (Went h.values)) (e ∙ ap (λ x. both x rest) s)
  along_stops terms now first left rest (Fault f) e h s =
      h.splits ∙ ap (both (Went h.values)) (e ∙ ap (λ x. both x rest) s)
  along_stops terms now first left rest NoMemory e h s = tt

-- ---- lists of effects

-- atoms are valued one after another
atoms_step : (r : Result Term RunFault) (w : Going (List Term))
    → only_atoms (and_go (go_on r) (λ t. and_go w (λ ts. Went (t ∷ ts)))) ≡ both (of_atom r) (only_atoms w)
atoms_step (Ok t) (Went ts) = refl
atoms_step (Ok t) CutShort = refl
atoms_step (Ok t) (Failed f) = refl
atoms_step (Err f) w = refl

-- so they are under one Sat after another
sats_step : (v w : Going (List Term))
    → only_atoms (and_go v (λ ts. and_go w (λ us. Went (ts ++ us)))) ≡ both (only_atoms v) (only_atoms w)
sats_step (Went ts) (Went us) = refl
sats_step (Went ts) CutShort = refl
sats_step (Went ts) (Failed f) = refl
sats_step CutShort w = refl
sats_step (Failed f) w = refl

each_step : (as' : List Atom) (x : PlainEvent) (xs : List PlainEvent)
    → only_atoms (values_for_each as' (x ∷ xs)) ≡ both (values_at as' x) (only_atoms (values_for_each as' xs))
each_step as' (plain.Sat e) xs = sats_step (atom_values as' e) (values_for_each as' xs)
each_step as' plain.Cut xs = refl
each_step as' (plain.Fault f) xs = refl

-- the outcome of the values of atoms
abbrev pub atoms_going : Bindings → List AtomPat → Going Gathered
atoms_going e atoms = only_atoms (atom_values (atoms_of atoms) e)

-- the next atom is valued before the remaining ones
pub atoms_left : (atoms : List AtomPat) (i : ℕ) (e : Bindings) (a : AtomPat) → i < length atoms → a ≡ get_or atoms i a
    → atoms_going e (drop i atoms)
    ≡ both (of_atom (atom_value (atom_of a) e)) (atoms_going e (drop (i + 1) atoms))
atoms_left atoms i e a l is =
    ap (atoms_going e) (left_more atoms i a l is)
    ∙ atoms_step (atom_value (atom_of a) e) (atom_values (atoms_of (drop (i + 1) atoms)) e)

-- ---- obstacles

-- an obstacle of the first of two outcomes is one of both
pub stops_go : {A B : Type 0} (obstacle : Obstacle) (x : Going A) (f : A → Going B) → StopsHere obstacle x
    → StopsHere obstacle (and_go x f)
stops_go Cut x f h = ap (λ y. and_go y f) h
stops_go (Fault k) x f h = ap (λ y. and_go y f) h
stops_go NoMemory x f h = tt

-- an obstacle of an outcome is one of an equal outcome
pub stops_same : {A : Type 0} (obstacle : Obstacle) (x y : Going A) → x ≡ y → StopsHere obstacle y
    → StopsHere obstacle x
stops_same obstacle x y e h = subst (StopsHere obstacle) (sym e) h

-- ---- the next event

-- nothing is put where nothing is gathered
pub nothing_put : (side : Side) (terms : List Term) (c : ChangesOf ℕ) → ChangesBelow (length terms) c
    → HasPut side (Went (of_atoms [])) terms (changes_of terms c) c
nothing_put side terms c below =
    record { values = of_atoms []; went = refl; puts = with_nothing side (changes_of terms c); below = below }

module _ (as' : List Atom) (b : Bindings) where
  -- under a Sat the values of the atoms come before what is left
  pub sat_first : (side : Side) (terms : List Term) (old : Changes) (new : ChangesOf ℕ) (xs : List PlainEvent)
      → events.Sat ≡ event_of xs → AreOfFirst xs b → HasPut side (only_atoms (atom_values as' b)) terms old new
      → PutsFirst side (each_going as' xs) (each_going as' (left_after xs)) terms old new
  sat_first side terms old new [] h k p = absurd cc
  sat_first side terms old new (plain.Sat e ∷ xs) h k p = record {
    first = values_at as' (plain.Sat e);
    splits = each_step as' (plain.Sat e) xs;
    puts = subst (λ c. HasPut side (only_atoms (atom_values as' c)) terms old new) k p;
  }
  sat_first side terms old new (plain.Cut ∷ xs) h k p = absurd cc
  sat_first side terms old new (plain.Fault f ∷ xs) h k p = absurd cc

  -- where the values under a Sat stop the whole does
  pub sat_stops : (obstacle : Obstacle) (xs : List PlainEvent) → events.Sat ≡ event_of xs → AreOfFirst xs b
      → StopsHere obstacle (only_atoms (atom_values as' b)) → StopsHere obstacle (each_going as' xs)
  sat_stops obstacle [] h k s = absurd cc
  sat_stops obstacle (plain.Sat e ∷ xs) h k s =
      stops_same obstacle (each_going as' (plain.Sat e ∷ xs)) _ (each_step as' (plain.Sat e) xs)
      (stops_go obstacle (only_atoms (atom_values as' e)) _
      (subst (λ c. StopsHere obstacle (only_atoms (atom_values as' c))) k s))
  sat_stops obstacle (plain.Cut ∷ xs) h k s = absurd cc
  sat_stops obstacle (plain.Fault f ∷ xs) h k s = absurd cc

-- at a Cut the whole is cut short
pub cut_next : (as' : List Atom) (xs : List PlainEvent) → events.Cut ≡ event_of xs → each_going as' xs ≡ CutShort
cut_next as' [] h = absurd cc
cut_next as' (plain.Sat e ∷ xs) h = absurd cc
cut_next as' (plain.Cut ∷ xs) h = refl
cut_next as' (plain.Fault f ∷ xs) h = absurd cc

-- at a fault the whole fails
pub fault_next : (as' : List Atom) (f : RunFault) (xs : List PlainEvent) → events.Fault f ≡ event_of xs
    → each_going as' xs ≡ Failed f
fault_next as' f [] h = absurd cc
fault_next as' f (plain.Sat e ∷ xs) h = absurd cc
fault_next as' f (plain.Cut ∷ xs) h = absurd cc
fault_next as' f (plain.Fault g ∷ xs) h = let e : g ≡ f = cc in ap Failed e

-- at the end the whole is nothing
pub end_next : (as' : List Atom) (xs : List PlainEvent) → events.End ≡ event_of xs
    → each_going as' xs ≡ Went (of_atoms [])
end_next as' [] h = refl
end_next as' (plain.Sat e ∷ xs) h = absurd cc
end_next as' (plain.Cut ∷ xs) h = absurd cc
end_next as' (plain.Fault f ∷ xs) h = absurd cc

-- behind a Sat fewer events are left
pub fewer_behind : (xs : List PlainEvent) → events.Sat ≡ event_of xs → length (left_after xs) < length xs
fewer_behind [] h = absurd cc
fewer_behind (plain.Sat e ∷ xs) h = omega arith
fewer_behind (plain.Cut ∷ xs) h = absurd cc
fewer_behind (plain.Fault f ∷ xs) h = absurd cc
