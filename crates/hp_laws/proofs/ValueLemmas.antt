-- A value depends only on what the variables of its pattern stand for.
use Rattle.std.proofs.Common.{◌≡◌, ℕ, Option, Some, None, Result, Ok, Err, refl, ◌∙◌, ap, inl, inr}
use Rattle.hp_syntax.specs.declared.pattern.Span.{Span}
use Rattle.hp_syntax.specs.declared.pattern.Tail.{Tail}
use Rattle.hp_syntax.specs.declared.fault.RunFault.{RunFault}
use Rattle.hp_syntax.specs.Syntax.{Pattern, Patterns, Variable, Listing, Call, NoPattern, Before, Atom}
use Rattle.hp_syntax.specs.Syntax as syntax
use Rattle.hp_syntax.specs.Terms.{Term, Terms, Symbol, Number, More}
use Rattle.hp_syntax.specs.Calls.{call}
use Rattle.hp_syntax.specs.Values.{Bindings, bound, on_ok, value_of_variable, parts_of, list_of, value, values, atom_value, Extends}
use Rattle.hp_laws.proofs.ResultLemmas.{on_ok_ok, on_ok_from}
use Rattle.hp_laws.specs.Readings.{Occurs, OccursAmong, Agree}

-- relations of two results
abbrev pub Relation : Type 1
Relation = (A : Type 0) → Result A RunFault → Result A RunFault → Type 0

-- a relation holds of equal results, and goes on from results to those that are made of them
pub record IsCarried (R : Relation) : Type 1 where
  pub same : (A : Type 0) (r : Result A RunFault) → R A r r
  pub on : (A B : Type 0) (r s : Result A RunFault) (f g : A → Result B RunFault) → R A r s
      → ((x : A) → R B (f x) (g x)) → R B (on_ok r f) (on_ok s g)

-- a relation of what variables stand for under two bindings
abbrev pub OfVariables : Relation → (ℕ → Type 0) → Bindings → Bindings → Type 0
OfVariables R P e b =
    (s : Span) (v : ℕ) → P v → R Term (value_of_variable s (bound e v)) (value_of_variable s (bound b v))

-- a relation that is carried holds of the values of a pattern if it holds of its variables
module _ (R : Relation) (c : IsCarried R) where
  mutual
    unfolding value values Occurs OccursAmong

    pub values_related : (p : Pattern) (e b : Bindings) → OfVariables R (λ v. Occurs v p) e b
        → R Term (value p e) (value p b)
    values_related (Variable s v) e b h = h s v refl
    values_related (syntax.Symbol s name) e b h = c.same Term (Ok (Symbol name))
    values_related (syntax.Number s n) e b h = c.same Term (Ok (Number n))
    values_related (Listing s ps tail) e b h =
        c.on Terms Term (values ps tail e) (values ps tail b) (list_of s) (list_of s)
        (parts_related ps tail e b h) (λ ts. c.same Term (list_of s ts))
    values_related (Call s name args) e b h =
        c.on Terms Term (values args None e) (values args None b) (λ ts. call name ts s) (λ ts. call name ts s)
        (parts_related args None e b h) (λ ts. c.same Term (call name ts s))

    -- and the values of the parts of a list
    pub parts_related : (ps : Patterns) (tail : Option Tail) (e b : Bindings)
        → OfVariables R (λ v. OccursAmong v ps tail) e b → R Terms (values ps tail e) (values ps tail b)
    parts_related NoPattern None e b h = c.same Terms (values NoPattern None e)
    parts_related NoPattern (Some t) e b h =
        c.on Term Terms (value_of_variable t.span (bound e t.var)) (value_of_variable t.span (bound b t.var))
        (parts_of t.span) (parts_of t.span) (h t.span t.var refl) (λ x. c.same Terms (parts_of t.span x))
    parts_related (Before p ps) tail e b h =
        c.on Term Terms (value p e) (value p b) (λ t. on_ok (values ps tail e) (λ ts. Ok (More t ts)))
        (λ t. on_ok (values ps tail b) (λ ts. Ok (More t ts))) (values_related p e b (λ s v o. h s v (inl o)))
        (λ t. c.on Terms Terms (values ps tail e) (values ps tail b) (λ ts. Ok (More t ts)) (λ ts. Ok (More t ts))
        (parts_related ps tail e b (λ s v o. h s v (inr o))) (λ ts. c.same Terms (Ok (More t ts))))

-- two results are equal
abbrev Equal : Relation
Equal A r s = r ≡ s

-- equal results go on to equal ones
equal_on : {A B : Type 0} (r : Result A RunFault) (f g : A → Result B RunFault) → ((x : A) → f x ≡ g x)
    → on_ok r f ≡ on_ok r g
equal_on (Ok x) f g h = h x
equal_on (Err e) f g h = refl

-- equality is carried
Equal-carried : IsCarried Equal
Equal-carried = record {
  same = λ A r. refl;
  on = λ A B r s f g p h. equal_on r f g h ∙ ap (λ r. on_ok r g) p;
}

-- the second result has the value that the first has
abbrev Kept : Relation
Kept A r s = (x : A) → r ≡ Ok x → s ≡ Ok x

-- keeping a value is carried
Kept-carried : IsCarried Kept
Kept-carried = record {
  same = λ A r x h. h;
  on =
      λ A B r s f g k h y q. let a = on_ok_ok r f y q in
      on_ok_from s g a.0 (Ok y) (k a.0 a.1) (h a.0 y a.2);
}

-- a variable that stands for a term keeps its value
variable_kept : (e b : Bindings) → Extends e b → OfVariables Kept (λ v. Unit {0}) e b
variable_kept e b g s v o t h = of_bound (bound e v) refl h
  where
    of_bound : (o : Option Term) → bound e v ≡ o → value_of_variable s o ≡ Ok t
        → value_of_variable s (bound b v) ≡ Ok t
    of_bound None q k = absurd cc
    of_bound (Some x) q k = ap (value_of_variable s) (g.keeps v x q) ∙ k

-- a value depends only on what its pattern's variables stand for
pub value_same : (p : Pattern) (e b : Bindings) → Agree (λ v. Occurs v p) e b → value p e ≡ value p b
value_same p e b h = values_related Equal Equal-carried p e b (λ s v o. ap (value_of_variable s) (h v o))

-- the values of parts depend only on what the parts' variables stand for
pub values_same : (ps : Patterns) (tail : Option Tail) (e b : Bindings) → Agree (λ v. OccursAmong v ps tail) e b
    → values ps tail e ≡ values ps tail b
values_same ps tail e b h =
    parts_related Equal Equal-carried ps tail e b (λ s v o. ap (value_of_variable s) (h v o))

-- a value stays when more variables stand for something
pub value_grows : (p : Pattern) (t : Term) (e b : Bindings) → Extends e b → value p e ≡ Ok t → value p b ≡ Ok t
value_grows p t e b g = values_related Kept Kept-carried p e b (λ s v o. variable_kept e b g s v tt) t

-- the values of parts stay when more variables stand for something
pub values_grow : (ps : Patterns) (tail : Option Tail) (ts : Terms) (e b : Bindings) → Extends e b
    → values ps tail e ≡ Ok ts → values ps tail b ≡ Ok ts
values_grow ps tail ts e b g =
    parts_related Kept Kept-carried ps tail e b (λ s v o. variable_kept e b g s v tt) ts

-- the value of an atom stays when more variables stand for something
pub atom_value_grows : (a : Atom) (t : Term) (e b : Bindings) → Extends e b → atom_value a e ≡ Ok t
    → atom_value a b ≡ Ok t
atom_value_grows a t e b g h =
    let f : Terms → Result Term RunFault = λ ts. list_of a.span (More (Symbol a.name) ts) in
    let x = on_ok_ok (values a.args a.tail e) f t h in
    on_ok_from (values a.args a.tail b) f x.0 (Ok t) (values_grow a.args a.tail x.0 e b g x.1) x.2
