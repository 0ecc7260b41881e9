-- A pattern each variable of which stands for a term is filled with its value.
use Rattle.std.proofs.Common.{◌≡◌, ◌⊎◌, ℕ, Bool, true, false, Option, Some, None, Result, Ok, Err, refl, sym, ◌∙◌, ap, ap₂, inl, inr, ⊎_elim}
use Rattle.std.specs.Prelude.{◌&&◌, ◌↔◌, cond, nat_lt, is_some, option_map}
use Rattle.std.proofs.lemmas.Bool.{false≢true, and_cases, and_from, and_left, and_right}
use Rattle.std.proofs.lemmas.Option.{none-some, same_Some}
use Rattle.hp_syntax.specs.declared.limits.TheConstants.{DEEPEST_TERM}
use Rattle.hp_syntax.specs.declared.fault.FaultKind.TheVariants.{TooDeep}
use Rattle.hp_syntax.specs.declared.pattern.Span.{Span}
use Rattle.hp_syntax.specs.declared.pattern.Tail.{Tail}
use Rattle.hp_syntax.specs.declared.fault.RunFault.{RunFault}
use Rattle.hp_syntax.specs.Syntax.{Pattern, Patterns, Variable, Listing, Call, NoPattern, Before, Atom}
use Rattle.hp_syntax.specs.Syntax as syntax
use Rattle.hp_syntax.specs.Terms.{Term, Terms, Symbol, Listed, NoTerm, More, term_nesting}
use Rattle.hp_syntax.specs.Calls.{call, fault_at}
use Rattle.hp_syntax.specs.Values.{Bindings, bound, on_ok, value_of_variable, parts_of, list_of, value, values, atom_value}
use Rattle.hp_syntax.specs.Goals as goals
use Rattle.hp_syntax.specs.Events.{tail_is_bound, all_bound, parts_bound}
use Rattle.hp_laws.proofs.ResultLemmas.{map_some, on_ok_ok, on_ok_from, on_ok_twice, same_Ok}

-- a list that doesn't nest too deep is the list of its parts
pub list_of_ok : (s : Span) (ts : Terms) (t : Term) → list_of s ts ≡ Ok t → t ≡ Listed ts
list_of_ok s ts t h = of_test (nat_lt DEEPEST_TERM (term_nesting (Listed ts))) h
  where
    of_test : (b : Bool) → ◌≡◌ {A = Result Term RunFault} (cond b (Err (fault_at TooDeep s)) (Ok (Listed ts))) (Ok t)
        → t ≡ Listed ts
    of_test true k = absurd cc
    of_test false k = cc

-- ---- parts that are known

-- terms as parts of a goal without a free tail
abbrev pub listed : Terms → goals.Filling
listed ts = (goals.all_known ts, None)

-- parts that are known are ground
pub known_ground : (ts : Terms) → goals.ground_parts (goals.all_known ts) None ≡ Some ts
known_ground NoTerm = refl
known_ground (More t ts) = ap (option_map (More t)) (known_ground ts)

-- parts that are ground are known
pub ground_known : (fs : goals.Fillings) (tail : Option ℕ) (ts : Terms) → goals.ground_parts fs tail ≡ Some ts
    → ◌≡◌ {A = goals.Filling} (fs, tail) (listed ts)
ground_known goals.NoFilling None ts h = ap listed (same_Some NoTerm ts h)
ground_known goals.NoFilling (Some v) ts h = absurd (none-some ts h)
ground_known (goals.Then (goals.Known t) fs) tail ts h =
    let a = map_some (More t) (goals.ground_parts fs tail) ts h in
    let add : goals.Filling → goals.Filling = λ f. (goals.Then (goals.Known t) f.0, f.1) in
    ap add (ground_known fs tail a.0 a.1) ∙ ap listed a.2
ground_known (goals.Then (goals.Free v) fs) tail ts h = absurd (none-some ts h)
ground_known (goals.Then (goals.Partly ps t) fs) tail ts h = absurd (none-some ts h)

-- terms that are the same parts of a goal are equal
listed_same : (ts us : Terms) → listed ts ≡ listed us → ts ≡ us
listed_same ts us h =
    same_Some ts us (sym (known_ground ts) ∙ (ap (λ f. goals.ground_parts f.0 f.1) h ∙ known_ground us))

-- parts that are known have a known first part, and known others
then_listed : (x : goals.Filled) (f : goals.Filling) (ts : Terms)
    → ◌≡◌ {A = goals.Filling} (goals.Then x f.0, f.1) (listed ts)
    → (t : Term) × (us : Terms) × (x ≡ goals.Known t) × (f ≡ listed us)
then_listed x f NoTerm h = let q : goals.Then x f.0 ≡ goals.NoFilling = ap (λ g. g.0) h in absurd cc
then_listed x f (More t ts) h =
    let q : goals.Then x f.0 ≡ goals.Then (goals.Known t) (goals.all_known ts) = ap (λ g. g.0) h in
    let p : f.0 ≡ goals.all_known ts = cc in
    let r : f.1 ≡ None = ap (λ g. g.1) h in
    (t, ts, cc, λ i. (p i, r i))

-- ---- filling beside valuing

-- some variable stands for nothing, so that there is no value and what is filled isn't known
pub record IsOpen {A B : Type 0} (known : A → B) (bound : Bool) (v : Result A RunFault) (f : Result B RunFault)
    : Type 0 where
  pub unbound : bound ≡ false
  pub no_value : (x : A) → v ≡ Ok x → ⊥
  pub not_known : (x : A) → f ≡ Ok (known x) → ⊥

-- a filled pattern is the value, or open
abbrev pub Fills : {A B : Type 0} → (A → B) → Bool → Result A RunFault → Result B RunFault → Type 0
Fills known bound v f = (f ≡ on_ok v (λ x. Ok (known x))) ⊎ IsOpen known bound v f

-- a variable is filled with what it stands for
variable_filled : (s : Span) (v : ℕ) (o : Option Term)
    → Fills goals.Known (is_some o) (value_of_variable s o) (Ok (goals.fill_variable v o))
variable_filled s v None =
    inr (record { unbound = refl; no_value = λ x h. absurd cc; not_known = λ x h. absurd cc })
variable_filled s v (Some t) = inl refl

-- parts with a free tail aren't known
free_unlisted : (v : ℕ) (ts : Terms) → ◌≡◌ {A = Result goals.Filling RunFault} (Ok (goals.NoFilling, Some v))
    (Ok (listed ts)) → ⊥
free_unlisted v ts h =
    let p : ◌≡◌ {A = goals.Filling} (goals.NoFilling, Some v) (listed ts) = cc in none-some v (sym (ap (λ g. g.1) p))

-- a tail is filled with the parts of the list that it stands for
tail_filled : (t : Tail) (o : Option Term)
    → Fills listed (is_some o) (on_ok (value_of_variable t.span o) (parts_of t.span)) (goals.fill_bound_tail t o)
tail_filled t None =
    inr (record { unbound = refl; no_value = λ x h. absurd cc; not_known = λ ts h. free_unlisted t.var ts h })
tail_filled t (Some x) = inl refl

-- a list is filled with the list of its parts
list_filled_with : (s : Span) (b : Bool) (v : Result Terms RunFault) (f : Result goals.Filling RunFault)
    → Fills listed b v f
    → Fills goals.Known b (on_ok v (list_of s)) (on_ok f (λ g. goals.list_filled s g (goals.ground_parts g.0 g.1)))
list_filled_with s b v f (inl q) =
    inl (ap (λ r. on_ok r (λ g. goals.list_filled s g (goals.ground_parts g.0 g.1))) q ∙ of_value v)
  where
    of_value : (v : Result Terms RunFault)
        → on_ok (on_ok v (λ ts. Ok (listed ts))) (λ g. goals.list_filled s g (goals.ground_parts g.0 g.1))
        ≡ on_ok (on_ok v (list_of s)) (λ t. Ok (goals.Known t))
    of_value (Ok ts) = ap (goals.list_filled s (listed ts)) (known_ground ts)
    of_value (Err e) = refl
list_filled_with s b v f (inr n) = inr (record {
  unbound = n.unbound;
  no_value = λ t h. let a = on_ok_ok v (list_of s) t h in n.no_value a.0 a.1;
  not_known =
      λ t h. let a = on_ok_ok f (λ g. goals.list_filled s g (goals.ground_parts g.0 g.1)) (goals.Known t) h in
      of_ground t a.0 a.1 (goals.ground_parts a.0.0 a.0.1) refl a.2;
})
  where
    of_ground : (t : Term) (g : goals.Filling) → f ≡ Ok g → (o : Option Terms) → goals.ground_parts g.0 g.1 ≡ o
        → goals.list_filled s g o ≡ Ok (goals.Known t) → ⊥
    of_ground t g k None q h = absurd cc
    of_ground t g k (Some ts) q h = n.not_known ts (k ∙ ap Ok (ground_known g.0 g.1 ts q))

-- parts are known where the first is and the others are
known_parts : (f : Result goals.Filled RunFault) (fs : Result goals.Filling RunFault) (ts : Terms)
    → on_ok f (λ x. on_ok fs (λ g. Ok (goals.Then x g.0, g.1))) ≡ Ok (listed ts)
    → (t : Term) × (us : Terms) × (f ≡ Ok (goals.Known t)) × (fs ≡ Ok (listed us))
known_parts f fs ts h =
    let x = on_ok_ok f (λ x. on_ok fs (λ g. Ok (goals.Then x g.0, g.1))) (listed ts) h in
    let y = on_ok_ok fs (λ g. Ok (goals.Then x.0 g.0, g.1)) (listed ts) x.2 in
    let p : ◌≡◌ {A = goals.Filling} (goals.Then x.0 y.0.0, y.0.1) (listed ts) =
    same_Ok (goals.Then x.0 y.0.0, y.0.1) (listed ts) y.2 in
    let z = then_listed x.0 y.0 ts p in
    (z.0, z.1, x.1 ∙ ap Ok z.2, y.1 ∙ ap Ok z.3)

-- a first part that is known, put before others that are, is put before them as a value
known_values : (v : Result Term RunFault) (vs : Result Terms RunFault)
    → on_ok (on_ok v (λ t. Ok (goals.Known t))) (λ x. on_ok (on_ok vs (λ ts. Ok (listed ts)))
    (λ g. Ok (goals.Then x g.0, g.1)))
    ≡ on_ok (on_ok v (λ t. on_ok vs (λ ts. Ok (More t ts)))) (λ ts. Ok (listed ts))
known_values (Ok t) (Ok ts) = refl
known_values (Ok t) (Err e) = refl
known_values (Err e) vs = refl

-- a first part and then the rest are filled with their values
before_filled : (a b c : Bool) (v : Result Term RunFault) (f : Result goals.Filled RunFault)
    (vs : Result Terms RunFault)
    (fs : Result goals.Filling RunFault) → Fills goals.Known a v f → Fills listed (b && c) vs fs
    → Fills listed ((a && b) && c) (on_ok v (λ t. on_ok vs (λ ts. Ok (More t ts))))
    (on_ok f (λ x. on_ok fs (λ g. Ok (goals.Then x g.0, g.1))))
before_filled a b c v f vs fs (inr n) m = inr (record {
  unbound = and_left (a && b) c (and_left a b n.unbound);
  no_value = λ ts h. let x = on_ok_ok v (λ t. on_ok vs (λ ts. Ok (More t ts))) ts h in n.no_value x.0 x.1;
  not_known = λ ts h. let x = known_parts f fs ts h in n.not_known x.0 x.2;
})
before_filled a b c v f vs fs (inl q) (inr n) = inr (record {
  unbound =
      ⊎_elim (λ p. and_left (a && b) c (and_right a b p)) (λ p. and_right (a && b) c p) (and_cases b c n.unbound);
  no_value =
      λ ts h. let x = on_ok_ok v (λ t. on_ok vs (λ ts. Ok (More t ts))) ts h in
      let y = on_ok_ok vs (λ ts. Ok (More x.0 ts)) ts x.2 in n.no_value y.0 y.1;
  not_known = λ ts h. let x = known_parts f fs ts h in n.not_known x.1 x.3;
})
before_filled a b c v f vs fs (inl q) (inl r) =
    inl (ap₂ (λ x y. on_ok x (λ x. on_ok y (λ g. Ok (goals.Then x g.0, g.1)))) q r ∙ known_values v vs)

-- a pattern is filled with its value
mutual
  unfolding value values goals.fill goals.fill_parts all_bound parts_bound

  pub pattern_filled : (p : Pattern) (e : Bindings) → Fills goals.Known (all_bound p e) (value p e) (goals.fill p e)
  pattern_filled (Variable s v) e = variable_filled s v (bound e v)
  pattern_filled (syntax.Symbol s name) e = inl refl
  pattern_filled (syntax.Number s n) e = inl refl
  pattern_filled (Listing s ps tail) e =
      list_filled_with s (parts_bound ps e && tail_is_bound tail e) (values ps tail e) (goals.fill_parts ps tail e)
      (parts_filled ps tail e)
  pattern_filled (Call s name args) e =
      inl (on_ok_twice (values args None e) (λ ts. call name ts s) (λ t. Ok (goals.Known t)))

  -- the parts of a list are filled with their values
  pub parts_filled : (ps : Patterns) (tail : Option Tail) (e : Bindings)
      → Fills listed (parts_bound ps e && tail_is_bound tail e) (values ps tail e) (goals.fill_parts ps tail e)
  parts_filled NoPattern None e = inl refl
  parts_filled NoPattern (Some t) e = tail_filled t (bound e t.var)
  parts_filled (Before p ps) tail e =
      before_filled (all_bound p e) (parts_bound ps e) (tail_is_bound tail e) (value p e) (goals.fill p e)
      (values ps tail e) (goals.fill_parts ps tail e) (pattern_filled p e) (parts_filled ps tail e)

-- a filled pattern is known where there is a value
pub value_known : {A B : Type 0} (known : A → B) (b : Bool) (v : Result A RunFault) (f : Result B RunFault) (x : A)
    → Fills known b v f → v ≡ Ok x → f ≡ Ok (known x)
value_known known b v f x (inl q) h = q ∙ ap (λ r. on_ok r (λ y. Ok (known y))) h
value_known known b v f x (inr n) h = absurd (n.no_value x h)

-- there is a value where what is filled is known
pub known_value : {A B : Type 0} (known : A → B) (b : Bool) (v : Result A RunFault) (f : Result B RunFault) (x : A)
    → ((x y : A) → known x ≡ known y → x ≡ y) → Fills known b v f → f ≡ Ok (known x) → v ≡ Ok x
known_value known b v f x same (inl q) h =
    let a = on_ok_ok v (λ y. Ok (known y)) (known x) (sym q ∙ h) in
    a.1 ∙ ap Ok (same a.0 x (same_Ok (known a.0) (known x) a.2))
known_value known b v f x same (inr n) h = absurd (n.not_known x h)

-- a filled pattern is the value where each variable stands for something
pub bound_filled : {A B : Type 0} (known : A → B) (b : Bool) (v : Result A RunFault) (f : Result B RunFault)
    → Fills known b v f → b ≡ true → f ≡ on_ok v (λ x. Ok (known x))
bound_filled known b v f (inl q) h = q
bound_filled known b v f (inr n) h = absurd (false≢true (sym n.unbound ∙ h))

-- ---- goals

-- the goal of an atom's name with these parts
abbrev goal_with : Atom → goals.Filling → goals.Goal
goal_with a f = record { name = a.name; parts = f.0; tail = f.1 }

-- the list of an atom's name and its parts
abbrev named : Atom → Terms → Result Term RunFault
named a ts = list_of a.span (More (Symbol a.name) ts)

-- a goal has the atom's name and the parts that were filled
goal_of_ok : (a : Atom) (f : goals.Filling) (o : Option Terms) (q : goals.Goal) → goals.goal_of a f o ≡ Ok q → q
    ≡ goal_with a f
goal_of_ok a f None q h = sym (same_Ok (goal_with a f) q h)
goal_of_ok a f (Some ts) q h =
    let x = on_ok_ok (named a ts) (λ t. Ok (goal_with a f)) q h in sym (same_Ok (goal_with a f) q x.2)

-- a goal with known parts is there unless the list nests too deep
goal_of_known : (a : Atom) (ts : Terms)
    → goals.goal_of a (listed ts) (goals.ground_parts (goals.all_known ts) None)
    ≡ on_ok (named a ts) (λ t. Ok (goal_with a (listed ts)))
goal_of_known a ts = ap (goals.goal_of a (listed ts)) (known_ground ts)

-- the value of an atom is that of its goal where the goal is ground
pub goal_value : (a : Atom) (e : Bindings) (q : goals.Goal) (ts : Terms) → goals.fill_goal a e ≡ Ok q
    → goals.ground_parts q.parts q.tail ≡ Some ts → atom_value a e ≡ Ok (Listed (More (Symbol q.name) ts))
goal_value a e q ts h k =
    let x = on_ok_ok (goals.fill_parts a.args a.tail e) (λ f. goals.goal_of a f (goals.ground_parts f.0 f.1)) q h in
    let g : q ≡ goal_with a x.0 = goal_of_ok a x.0 (goals.ground_parts x.0.0 x.0.1) q x.2 in
    let l : goals.ground_parts x.0.0 x.0.1 ≡ Some ts = ap (λ (r : goals.Goal). goals.ground_parts r.parts r.tail)
    (sym g) ∙ k in
    let y = on_ok_ok (named a ts) (λ t. Ok (goal_with a x.0)) q (ap (goals.goal_of a x.0) (sym l) ∙ x.2) in
    on_ok_from (values a.args a.tail e) (named a) ts (Ok (Listed (More (Symbol q.name) ts)))
    (known_value listed (parts_bound a.args e && tail_is_bound a.tail e) (values a.args a.tail e)
    (goals.fill_parts a.args a.tail e) ts listed_same (parts_filled a.args a.tail e)
    (x.1 ∙ ap Ok (ground_known x.0.0 x.0.1 ts l)))
    (y.1 ∙ (ap Ok (list_of_ok a.span (More (Symbol a.name) ts) y.0 y.1)
    ∙ ap (λ (r : goals.Goal). Ok (Listed (More (Symbol r.name) ts))) (sym g)))

-- an atom that has a value has a ground goal
pub value_goal : (a : Atom) (e : Bindings) (t : Term) → atom_value a e ≡ Ok t
    → (q : goals.Goal) × (ts : Terms) × (goals.fill_goal a e ≡ Ok q) × (goals.ground_parts q.parts q.tail ≡ Some ts)
    × (t ≡ Listed (More (Symbol q.name) ts))
value_goal a e t h =
    let x = on_ok_ok (values a.args a.tail e) (named a) t h in
    let f = value_known listed (parts_bound a.args e && tail_is_bound a.tail e) (values a.args a.tail e)
    (goals.fill_parts a.args a.tail e) x.0 (parts_filled a.args a.tail e) x.1 in (
      goal_with a (listed x.0),
      x.0,
      on_ok_from (goals.fill_parts a.args a.tail e) (λ f. goals.goal_of a f (goals.ground_parts f.0 f.1)) (listed x.0)
          (Ok (goal_with a (listed x.0))) f
          (goal_of_known a x.0 ∙ ap (λ r. on_ok r (λ t. Ok (goal_with a (listed x.0)))) x.2),
      known_ground x.0,
      list_of_ok a.span (More (Symbol a.name) x.0) t x.2,
    )

-- a goal each variable of which stands for something has the atom's values as its parts
bound_goal : (a : Atom) (e : Bindings) → parts_bound a.args e ≡ true → tail_is_bound a.tail e ≡ true
    → goals.fill_goal a e
    ≡ on_ok (values a.args a.tail e) (λ ts. on_ok (named a ts) (λ t. Ok (goal_with a (listed ts))))
bound_goal a e h k =
    ap (λ r. on_ok r (λ f. goals.goal_of a f (goals.ground_parts f.0 f.1)))
    (bound_filled listed (parts_bound a.args e && tail_is_bound a.tail e) (values a.args a.tail e)
    (goals.fill_parts a.args a.tail e) (parts_filled a.args a.tail e)
    (and_from (parts_bound a.args e) (tail_is_bound a.tail e) h k)) ∙ of_values (values a.args a.tail e)
  where
    of_values : (v : Result Terms RunFault)
        → on_ok (on_ok v (λ ts. Ok (listed ts))) (λ f. goals.goal_of a f (goals.ground_parts f.0 f.1))
        ≡ on_ok v (λ ts. on_ok (named a ts) (λ t. Ok (goal_with a (listed ts))))
    of_values (Ok ts) = goal_of_known a ts
    of_values (Err x) = refl

-- going on to a value meets no further fault
same_faults : {A B C : Type 0} (v : Result A RunFault) (g : A → Result B RunFault) (c : A → C) (f : RunFault)
    → (on_ok v (λ x. on_ok (g x) (λ y. Ok (c x))) ≡ Err f) ↔ (on_ok v g ≡ Err f)
same_faults (Err x) g c f = (λ h. cc, λ h. cc)
same_faults {B = B} (Ok x) g c f = of_result (g x)
  where
    of_result : (r : Result B RunFault) → (on_ok r (λ y. Ok (c x)) ≡ Err f) ↔ (r ≡ Err f)
    of_result (Ok y) = (λ h. absurd cc, λ h. absurd cc)
    of_result (Err e) = (λ h. cc, λ h. cc)

-- a goal each variable of which stands for something meets the fault that its value meets
pub bound_goal_faults : (a : Atom) (e : Bindings) (f : RunFault) → parts_bound a.args e ≡ true
    → tail_is_bound a.tail e ≡ true → (goals.fill_goal a e ≡ Err f) ↔ (atom_value a e ≡ Err f)
bound_goal_faults a e f h k =
    let q = bound_goal a e h k in
    let s = same_faults (values a.args a.tail e) (named a) (λ ts. goal_with a (listed ts)) f in
    (λ x. s.0 (sym q ∙ x), λ x. q ∙ s.1 x)
