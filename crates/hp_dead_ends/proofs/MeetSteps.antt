-- One visit of a search for dead ends.
use Rattle.std.proofs.Common.{◌≡◌, ℕ, ◌+◌, ◌-◌, ◌^◌, ◌<◌, ◌≤◌, min, nat_le, nat_lt, Bool, true, false, ◌&&◌, ◌==◌, List, [], ◌∷◌, ◌++◌, length, length-append, Option, Some, MatchOption, refl, sym, ap, ap₂, ◌∙◌, subst, arith}
use Rattle.std.specs.Prelude.{not}
use Rattle.std.proofs.lemmas.Bool.Decides.{nat_tests}
use Rattle.std.proofs.lemmas.List.{append-nil, length-map}
use Rattle.hp_eval.specs.GoalViews.{term_at}
use Rattle.hp_world.specs.Stages.{terms_at}
use Rattle.hp_syntax.specs.Terms.{Term}
use Rattle.hp_after.specs.Stepping.{IsBeginning, StepsFrom, Follows}
use Rattle.hp_passes.specs.declared.passing.Turn.TheVariants.{On, Last}
use Rattle.hp_syntax.specs.Walk.{Node, Sight, Did, Plan, CutHere, FaultHere, Visit, begins, told, visit}
use Rattle.hp_dead_ends.specs.declared.searching.SearchEnd.{SearchEnd}
use Rattle.hp_dead_ends.specs.declared.searching.Seeking.{Seeking}
use Rattle.hp_dead_ends.specs.Searching.{Fits, Goes, Known, MeetsSeeking, Tells, any_known, closed, is_over, noted, turn_at, with_cut, with_did, with_end}
use Rattle.hp_dead_ends.proofs.DeadLemmas.{begins_itself, begins_on}

-- ---- whether the last decomposition is over

le_yes : (a b : ℕ) → a ≤ b → nat_le a b ≡ true
le_yes a b h = grind (arith, nat_tests)

le_no : (a b : ℕ) → b < a → nat_le a b ≡ false
le_no a b h = grind (arith, nat_tests)

lt_yes : (a b : ℕ) → a < b → nat_lt a b ≡ true
lt_yes a b h = grind (arith, nat_tests)

lt_no : (a b : ℕ) → b ≤ a → nat_lt a b ≡ false
lt_no a b h = grind (arith, nat_tests)

-- what a path begins goes on from it
pub rest_of : (p q : List ℕ) → begins p q ≡ true → (r : List ℕ) × (q ≡ p ++ r)
rest_of [] q h = (q, refl)
rest_of (i ∷ p) [] h = absurd (cc)
rest_of (i ∷ p) (j ∷ q) h = by (i == j) refl h (rest_of p q)
  where
    by : (b : Bool) → (i == j) ≡ b → (b && begins p q) ≡ true
        → (begins p q ≡ true → (r : List ℕ) × (q ≡ p ++ r)) → (r : List ℕ) × (j ∷ q ≡ (i ∷ p) ++ r)
    by true e k deep =
        let same : i ≡ j = grind arith in
        let r = deep k in
        (r.0, ap (λ x. x ∷ q) (sym same) ∙ ap (λ l. i ∷ l) r.1)
    by false e k deep = absurd (cc)

-- another path that a path begins is longer
longer : (p q r : List ℕ) → q ≡ p ++ r → (q ≡ p → ⊥) → length p < length q
longer p q [] e n = absurd (n (e ∙ append-nil p))
longer p q (i ∷ r) e n = omega (arith, ap length e, length-append p (i ∷ r))

-- a path that stands one number below a beginning of another one is no longer, where that doesn't begin it
no_longer : (p q : List ℕ) → StepsFrom q p → begins p q ≡ false → length q ≤ length p
no_longer p q s h = by s.beginning.behind s.beginning.whole
  where
    by : (r : List ℕ) → p ≡ s.above ++ r → length q ≤ length p
    by [] e =
        let here : q ≡ p ++ s.number ∷ [] =
        s.path ∙ ap (λ l. l ++ s.number ∷ []) (sym (e ∙ append-nil s.above)) in
        let k : true ≡ false = sym (ap (begins p) here ∙ begins_on p (s.number ∷ [])) ∙ h in absurd (cc)
    by (i ∷ r) e =
        omega (
          arith,
          ap length e,
          ap length s.path,
          length-append s.above (i ∷ r),
          length-append s.above (s.number ∷ []),
        )

-- a beginning of a path that doesn't begin it is shorter
shorter : (p q : List ℕ) → IsBeginning q p → begins p q ≡ false → length q < length p
shorter p q s h = by s.behind s.whole
  where
    by : (r : List ℕ) → p ≡ q ++ r → length q < length p
    by [] e =
        let k : true ≡ false = sym (ap (λ l. begins l q) (e ∙ append-nil q) ∙ begins_itself q) ∙ h in absurd (cc)
    by (i ∷ r) e = omega (arith, ap length e, length-append q (i ∷ r))

over_did : (p q : List ℕ) → StepsFrom q p → (q ≡ p → ⊥) → (b : Bool) → begins p q ≡ b
    → nat_le (length q) (length p) ≡ not b
over_did p q s n true h = let r = rest_of p q h in le_no (length q) (length p) (longer p q r.0 r.1 n)
over_did p q s n false h = le_yes (length q) (length p) (no_longer p q s h)

over_other : (p q : List ℕ) → IsBeginning q p → (b : Bool) → begins p q ≡ b → nat_lt (length q) (length p) ≡ not b
over_other p q s true h =
    let r = rest_of p q h in
    lt_no (length q) (length p) (omega (arith, ap length r.1, length-append p r.0))
over_other p q s false h = lt_yes (length q) (length p) (shorter p q s h)

pub over_by : (p q : List ℕ) (x : Sight) → Follows x q p → (x ≡ Did → q ≡ p → ⊥)
    → is_over x (length q) (length p) ≡ not (begins p q)
over_by p q Did s n = over_did p q s (n refl) (begins p q) refl
over_by p q Plan s n = over_other p q s (begins p q) refl
over_by p q CutHere s n = over_other p q s (begins p q) refl
over_by p q (FaultHere f) s n = over_other p q s (begins p q) refl

-- ---- the visit

-- as many steps are read as the node that is reached has
pub many_steps : (terms : List Term) (cells : List ℕ) (o : Option Node) (n : Node) → o ≡ Some n
    → MatchOption o ⊥ (λ m. terms_at terms cells ≡ m.steps) → length cells ≡ length n.steps
many_steps terms cells o n e h =
    sym (length-map cells (term_at terms))
    ∙ ap length (subst (λ x. MatchOption x ⊥ (λ m. terms_at terms cells ≡ m.steps)) e h)

noted_did : (v : Visit) (k : Known) → v.sight ≡ Did → noted v k ≡ with_did v k
noted_did v k e = rw e refl

noted_cut : (v : Visit) (k : Known) → v.sight ≡ CutHere → noted v k ≡ with_cut v k
noted_cut v k e = rw e refl

module _ (s t : Seeking) (q : List ℕ) (n : Node) (x : Sight) (over : Bool) (closing : Goes s t (closed over) any_known)
    (is : over ≡ is_over x (length (told q)) (length s.path.items)) where
  abbrev v : Visit
  v = visit q n x

  over_at : (k : Known) → Fits s v k → Tells s k → over ≡ not (begins k.last.path q)
  over_at k f h =
      is
      ∙ (ap₂ (is_over x) (length-map q (λ i. min i (2 ^ 64 - 1)))
      (ap length h.path ∙ length-map k.last.path (λ i. min i (2 ^ 64 - 1)))
      ∙ over_by k.last.path q x f.steps_on.follows f.steps_on.other)

  abbrev then_known : Known → Known
  then_known k = closed (not (begins k.last.path q)) k

  closes : (k : Known) → Fits s v k → Tells s k → Tells t (then_known k)
  closes k f h = subst (λ b. Tells t (closed b k)) (over_at k f h) (closing.tells k tt h)

  module _ (u : Seeking) (c d : Unit {0}) where
    pub meets_did : x ≡ Did → Goes t u (with_did v) (λ k. StepsFrom q k.last.path) → MeetsSeeking s c v On u d
    meets_did e g = record {
      turn = sym (ap turn_at e);
      goes = record {
        kept = record { depth = g.kept.depth ∙ closing.kept.depth; most = g.kept.most ∙ closing.kept.most };
        tells =
            λ k f h.
            subst (Tells u) (sym (noted_did v (then_known k) e))
            (g.tells (then_known k) (subst (λ y. Follows y q k.last.path) e f.steps_on.follows) (closes k f h));
      };
    }

    pub meets_cut : x ≡ CutHere → Goes t u (with_cut v) (λ k. n.depth + length q ≡ t.depth)
        → MeetsSeeking s c v On u d
    meets_cut e g = record {
      turn = sym (ap turn_at e);
      goes = record {
        kept = record { depth = g.kept.depth ∙ closing.kept.depth; most = g.kept.most ∙ closing.kept.most };
        tells =
            λ k f h.
            subst (Tells u) (sym (noted_cut v (then_known k) e))
            (g.tells (then_known k) (f.depth ∙ sym closing.kept.depth) (closes k f h));
      };
    }

  -- a visit that ends the search
  pub meets_end : (c d : Unit {0}) (y : SearchEnd) → turn_at x ≡ Last
      → ((k : Known) → noted v k ≡ with_end y k)
      → MeetsSeeking s c v Last (record t { found = record t.found { end = y } }) d
  meets_end c d y turn notes = record {
    turn = sym turn;
    goes = record {
      kept = record { depth = closing.kept.depth; most = closing.kept.most };
      tells =
          λ k f h.
          subst (Tells (record t { found = record t.found { end = y } })) (sym (notes (then_known k)))
          (ends (then_known k) y (closes k f h));
    };
  }
    where
      ends : (k : Known) (y : SearchEnd) → Tells t k
          → Tells (record t { found = record t.found { end = y } }) (with_end y k)
      ends k y h = record {
        path = h.path;
        steps = h.steps;
        is_open = h.is_open;
        best = h.best;
        found = record {
          furthest = h.found.furthest;
          as_far = h.found.as_far;
          all = h.found.all;
          depth_cut = h.found.depth_cut;
          level_cut = h.found.level_cut;
          end = refl;
          expansions = h.found.expansions;
        };
      }
