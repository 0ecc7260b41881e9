-- The orders of numbers, and noted satisfiers in them.
use Rattle.std.proofs.Common.{◌≡◌, ℤ, Bool, true, false, cond, List, [], ◌∷◌, map, refl, ◌∙◌, ap, subst}
use Rattle.std.specs.Prelude.{int_lt}
use Rattle.std.specs.Borrow.{Bor}
use Rattle.std.specs.Cmp.{IsStrictWeakOrder}
use Rattle.std.specs.Fn.{Called, Mut}
use Rattle.std.specs.List.Sorted.{IsSortedBy, IsStableBy, IsSortedByClosure, IsStableByClosure}
use Rattle.std.specs.Ordering.{is_lt, int_cmp}
use Rattle.std.specs.declared.cmp.Ordering.{Ordering}
use Rattle.std.specs.declared.cmp.Ordering.TheVariants.{Less, Equal, Greater}
use Rattle.std.proofs.lemmas.Cmp.{int_cmp_total}
use Rattle.std.proofs.lemmas.List.Sorted.{ranks_by, IsStrictWeakOrder-flip, answers_always}
use Rattle.hp_syntax.specs.Syntax.{Order, Up, Down, Unknown}
use Rattle.hp_syntax.specs.Terms.{Term}
use Rattle.hp_syntax.specs.Preconditions.{sorts_before, put_in, sorted}
use Rattle.hp_pick.specs.declared.noted.Noted.{Noted}
use Rattle.hp_pick.specs.Noted.{entry_of}
use Rattle.hp_pick.proofs.StableLemmas.{inserted, in_order, sorted_in_order}

-- a number compares as less exactly where it is less
pub is_lt-int_cmp : (m n : ℤ) → is_lt (int_cmp m n) ≡ int_lt m n
is_lt-int_cmp m n = by (int_lt m n) (int_lt n m)
  where
    by : (b c : Bool) → is_lt (cond b Less (cond c Greater Equal)) ≡ b
    by true c = refl
    by false true = refl
    by false false = refl

module _ {X : Type 0} (key : X → ℤ) where
  -- the order by which keys rise is an order
  rises : IsStrictWeakOrder (λ x y. int_lt (key x) (key y))
  rises = subst IsStrictWeakOrder (λ i x y. is_lt-int_cmp (key x) (key y) i) (ranks_by int_cmp_total key)

  -- each order of keys is an order
  pub orders : (k : Order) → IsStrictWeakOrder (λ x y. sorts_before k (key x) (key y))
  orders Up = rises
  orders Down = IsStrictWeakOrder-flip (λ x y. int_lt (key x) (key y)) rises
  orders (Unknown name span) = rises

module _ (before : ℤ → ℤ → Bool) (c : List Term) where
  -- entries stand as the satisfiers do, with one put in
  map-inserted : (n : Noted) (ns : List Noted)
      → map (entry_of c) (inserted (λ x y. before x.number y.number) n ns)
      ≡ put_in before (entry_of c n) (map (entry_of c) ns)
  map-inserted n [] = refl
  map-inserted n (m ∷ ns) = by (before m.number n.number) (map-inserted n ns)
    where
      by : (b : Bool)
          → map (entry_of c) (inserted (λ x y. before x.number y.number) n ns)
          ≡ put_in before (entry_of c n) (map (entry_of c) ns)
          → map (entry_of c) (cond b (m ∷ inserted (λ x y. before x.number y.number) n ns) (n ∷ m ∷ ns))
          ≡ cond b (entry_of c m ∷ put_in before (entry_of c n) (map (entry_of c) ns))
          (entry_of c n ∷ entry_of c m ∷ map (entry_of c) ns)
      by true rest = ap (λ es. entry_of c m ∷ es) rest
      by false rest = refl

  -- entries stand as the satisfiers do, when each is put in
  map-in_order : (ns : List Noted)
      → map (entry_of c) (in_order (λ x y. before x.number y.number) ns) ≡ sorted before (map (entry_of c) ns)
  map-in_order [] = refl
  map-in_order (n ∷ ns) =
      map-inserted n (in_order (λ x y. before x.number y.number) ns)
      ∙ ap (put_in before (entry_of c n)) (map-in_order ns)

-- a stable sort of noted satisfiers by an order of their numbers puts their entries into that order
pub entries_in_order : (k : Order) (c : List Term) (ns ms : List Noted)
    → IsSortedBy (λ x y. sorts_before k x.number y.number) ms
    → IsStableBy (λ x y. sorts_before k x.number y.number) ns ms
    → map (entry_of c) ms ≡ sorted (sorts_before k) (map (entry_of c) ns)
entries_in_order k c ns ms up stable =
    ap (map (entry_of c))
    (sorted_in_order (λ x y. sorts_before k x.number y.number) (orders (λ (n : Noted). n.number) k) ns ms up stable)
    ∙ map-in_order (sorts_before k) c ns

-- the same of a sort by a closure, where each of its calls compares two numbers by the order
pub sort_by_order : {F : Type 0} {g : Mut F (Bor Noted × (Bor Noted × Unit {0})) Ordering} {f : F} (k : Order)
    (c : List Term) (ns ms : List Noted) → IsSortedByClosure g f ms → IsStableByClosure g f ns ms
    → ((q : F) (a : Bor Noted × (Bor Noted × Unit {0})) (r : Ordering) (q' : F) → Called g q a r q'
    → is_lt r ≡ sorts_before k a.0.now.number a.1.0.now.number)
    → map (entry_of c) ms ≡ sorted (sorts_before k) (map (entry_of c) ns)
sort_by_order {g = g} {f = f} k c ns ms up stable h =
    let lt : Noted → Noted → Bool = λ m n. sorts_before k m.number n.number in
    let o = orders (λ (n : Noted). n.number) k in
    let compares = answers_always g (λ a r. is_lt r ≡ lt a.0.now a.1.0.now) f h in
    entries_in_order k c ns ms (up lt o compares) (stable lt o compares)
