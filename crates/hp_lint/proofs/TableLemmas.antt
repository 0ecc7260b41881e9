-- Tables that are filled atom by atom.
use Rattle.std.proofs.Common.{◌≡◌, ℕ, ◌+◌, ◌<◌, Bool, true, false, ◌&&◌, ◌||◌, List, [], ◌∷◌, ◌++◌, length, get_or, take, refl, ap, ap₂, sym, ◌∙◌, bytes_eq, nat_le, arith}
use Rattle.std.specs.Borrow.{Bor}
use Rattle.std.specs.List.{flat_map, list_any}
use Rattle.std.proofs.lemmas.List.{take_more, map-append}
use Rattle.std.proofs.lemmas.List.Folds.{list_any-append}
use Rattle.std.proofs.lemmas.Bool.Decides.{nat_tests}
use Rattle.hp_syntax.specs.declared.pattern.Pat.{Pat}
use Rattle.hp_syntax.specs.declared.pattern.AtomPat.{AtomPat}
use Rattle.hp_syntax.specs.Checks.{count}
use Rattle.hp_syntax.specs.Syntax.{Atom}
use Rattle.hp_syntax.specs.Views.{patterns_of}
use Rattle.hp_lint.specs.declared.table.Width.{Width}
use Rattle.hp_lint.specs.declared.table.Table.{Table}
use Rattle.hp_lint.specs.Fitting.{agree, any_width, fits_any, fits_as, width}
use Rattle.hp_lint.specs.Asking.{has_name, on_asked}
use Rattle.hp_lint.specs.LintViews.{accepts, accepts_atom, accepts_name, lent, lent_atoms, Knows, Learns}

-- as many patterns are counted as there are
pub count-length : (ps : List Pat) → count (patterns_of ps) ≡ length ps
count-length [] = refl
count-length (p ∷ ps) = omega (arith, count-length ps)

or_assoc : (a b c : Bool) → ((a || b) || c) ≡ (a || (b || c))
or_assoc true b c = refl
or_assoc false b c = refl

-- what is learned of some atoms, and then of others, is learned of all of them
pub learn_both : (old mid new : Table) (xs ys : List Atom) → Learns xs old mid → Learns ys mid new
    → Learns (xs ++ ys) old new
learn_both old mid new xs ys h k name w =
    k name w
    ∙ (ap (λ b. b || list_any (fits_as name w) ys) (h name w)
    ∙ (or_assoc (accepts old name w) (list_any (fits_as name w) xs) (list_any (fits_as name w) ys)
    ∙ ap (λ b. accepts old name w || b) (sym (list_any-append (fits_as name w) xs ys))))

-- one more atom of a list is learned behind the first ones
pub learn_more : (xs : List (Bor AtomPat)) (i : ℕ) (x : Bor AtomPat) (old mid new : Table) → i < length xs
    → x ≡ get_or xs i x → Learns (lent_atoms (take i xs)) old mid → Learns (lent x ∷ []) mid new
    → Learns (lent_atoms (take (i + 1) xs)) old new
learn_more xs i x old mid new below at h k name w =
    learn_both old mid new (lent_atoms (take i xs)) (lent x ∷ []) h k name w
    ∙ ap (λ as'. accepts old name w || list_any (fits_as name w) as')
    (sym (ap lent_atoms (take_more xs i x below ∙ ap (λ y. take i xs ++ y ∷ []) (sym at))
    ∙ map-append lent (take i xs) (x ∷ [])))

-- a table that knows nothing knows what it learns
pub learned : (old new : Table) (atoms : List Atom) → ((name : List ℕ) (w : Width) → accepts old name w ≡ false)
    → Learns atoms old new → Knows atoms new
learned old new atoms h k name w = k name w ∙ ap (λ b. b || list_any (fits_as name w) atoms) (h name w)

agrees_with_all : (w : Width) → agree any_width w ≡ true
agrees_with_all w = by w.tailed w.count
  where
    by : (b : Bool) (n : ℕ) → (b || nat_le 0 n) ≡ true
    by true n = refl
    by false n = grind (arith, nat_tests)

and_true : (a b : Bool) → b ≡ true → (a && b) ≡ a
and_true true b h = h
and_true false b h = refl

named : (name : List ℕ) (atoms : List Atom) → list_any (fits_as name any_width) atoms ≡ has_name atoms name
named name [] = refl
named name (a ∷ as') =
    ap₂ (λ b c. b || c) (and_true (bytes_eq name a.name) (agree any_width (width a)) (agrees_with_all (width a)))
    (named name as')

-- a table that knows atoms accepts an atom where it fits one of them
pub accepts_atom-is : (atoms : List Atom) (table : Table) → Knows atoms table → accepts_atom table ≡ fits_any atoms
accepts_atom-is atoms table h = λ i a. h a.name (width a) i

-- and a name where one of them has it
pub accepts_name-is : (atoms : List Atom) (table : Table) → Knows atoms table → accepts_name table ≡ has_name atoms
accepts_name-is atoms table h = λ i name. (h name any_width ∙ named name atoms) i

-- what is told of atoms by a table of those that are given
pub asked_told : (atoms asked : List Atom) (table : Table) (some : List (Bor AtomPat)) → Knows atoms table
    → lent_atoms some ≡ asked
    → flat_map (on_asked (accepts_atom table) (accepts_name table)) (lent_atoms some)
    ≡ flat_map (on_asked (fits_any atoms) (has_name atoms)) asked
asked_told atoms asked table some h e =
    λ i. flat_map (on_asked (accepts_atom-is atoms table h i) (accepts_name-is atoms table h i)) (e i)
