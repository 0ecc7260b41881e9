-- Conclusions of an axiom on a goal.
use Rattle.std.proofs.Common.{◌≡◌, ℕ, ◌+◌, ◌<◌, ◌≤◌, Bool, true, false, ◌&&◌, cond, List, [], ◌∷◌, length, drop, get_or, Option, Ok, Err, ℤ, Vec, refl, sym, ◌∙◌, ap}
use Rattle.std.specs.Global.{Global}
use Rattle.std.proofs.lemmas.List.{drop_all}
use Rattle.hp_syntax.specs.declared.name.Name.{Name}
use Rattle.hp_syntax.specs.declared.pattern.Tail.{Tail}
use Rattle.hp_syntax.specs.declared.pattern.Pat.{Pat}
use Rattle.hp_syntax.specs.declared.pattern.PatKind.TheVariants as pats
use Rattle.hp_syntax.specs.declared.fault.FaultKind.TheVariants.{NotGround}
use Rattle.hp_syntax.specs.Syntax.{Atom}
use Rattle.hp_syntax.specs.Terms.{Term}
use Rattle.hp_syntax.specs.Calls.{fault_at}
use Rattle.hp_syntax.specs.Values.{Bindings, atom_value}
use Rattle.hp_syntax.specs.Goals.{Goal, match_goal}
use Rattle.hp_syntax.specs.Events.{Event, Fault, is_bound, tail_is_bound, all_bound, parts_bound, sat_if, concluded, concluded_value}
use Rattle.hp_syntax.specs.Views.{pattern_of, patterns_of}
use Rattle.hp_syntax.specs.ViewLaws.{pattern_of-var, pattern_of-sym, pattern_of-num, pattern_of-list, pattern_of-call}
use Rattle.hp_eval.specs.declared.event.EvalStop.{EvalStop}
use Rattle.hp_eval.specs.declared.event.EvalStop.TheVariants as stops
use Rattle.hp_eval.specs.Concluding.{head_bound, Concluded}
use Rattle.hp_eval.specs.Growth.{Gives}
use Rattle.hp_eval.specs.GoalViews.{term_at}
use Rattle.hp_eval.specs.Slotted.{Slotted, Matched}
use Rattle.hp_eval.proofs.CellViews.{at_named}
use Rattle.hp_eval.proofs.Loops.{left_more}

-- ---- bound variables

module _ (p : Pat) (e : Bindings) where
  -- a pattern that is a variable is bound where the variable is
  pub all_bound-var : (v : ℕ) → p.kind ≡ pats.Var v → all_bound (pattern_of p) e ≡ is_bound e v
  unfolding all_bound parts_bound
  all_bound-var v h = ap (λ q. all_bound q e) (pattern_of-var p v h)

  -- a symbol has no variable
  pub all_bound-sym : (name : Name) → p.kind ≡ pats.Sym name → all_bound (pattern_of p) e ≡ true
  unfolding all_bound parts_bound
  all_bound-sym name h = ap (λ q. all_bound q e) (pattern_of-sym p name h)

  -- a number has no variable
  pub all_bound-num : (n : ℤ) → p.kind ≡ pats.Num n → all_bound (pattern_of p) e ≡ true
  unfolding all_bound parts_bound
  all_bound-num n h = ap (λ q. all_bound q e) (pattern_of-num p n h)

  -- a list is bound where its parts and its tail are
  pub all_bound-list : (parts : Vec Pat Global) (tail : Option Tail) → p.kind ≡ pats.List parts tail
      → all_bound (pattern_of p) e ≡ (parts_bound (patterns_of parts.items) e && tail_is_bound tail e)
  unfolding all_bound parts_bound
  all_bound-list parts tail h = ap (λ q. all_bound q e) (pattern_of-list p parts tail h)

  -- a call is bound where its arguments are
  pub all_bound-call : (name : Name) (args : Vec Pat Global) → p.kind ≡ pats.Call name args
      → all_bound (pattern_of p) e ≡ parts_bound (patterns_of args.items) e
  unfolding all_bound parts_bound
  all_bound-call name args h = ap (λ q. all_bound q e) (pattern_of-call p name args h)

-- patterns are bound where the first and the others are
parts_step : (e : Bindings) (p : Pat) (ps : List Pat)
    → parts_bound (patterns_of (p ∷ ps)) e ≡ (all_bound (pattern_of p) e && parts_bound (patterns_of ps) e)
unfolding all_bound parts_bound
parts_step e p ps = refl

-- no pattern has a variable
parts_none : (e : Bindings) → parts_bound (patterns_of []) e ≡ true
unfolding all_bound parts_bound
parts_none e = refl

module _ (ps : List Pat) (i : ℕ) (e : Bindings) (whole : Bool)
    (so_far : whole ≡ parts_bound (patterns_of (drop i ps)) e) where
  -- the remainder is bound where its first and the others are
  first_left : (p : Pat) → i < length ps → p ≡ get_or ps i p
      → whole ≡ (all_bound (pattern_of p) e && parts_bound (patterns_of (drop (i + 1) ps)) e)
  first_left p l is =
      so_far ∙ (ap (λ qs. parts_bound (patterns_of qs) e) (left_more ps i p l is) ∙ parts_step e p (drop (i + 1) ps))

  -- patterns aren't bound where one of them isn't
  pub bound_fails : (p : Pat) → i < length ps → p ≡ get_or ps i p → all_bound (pattern_of p) e ≡ false → false ≡ whole
  bound_fails p l is h = sym (first_left p l is ∙ ap (λ b. b && parts_bound (patterns_of (drop (i + 1) ps)) e) h)

  -- behind a bound pattern they are bound where the others are
  pub bound_goes_on : (p : Pat) → i < length ps → p ≡ get_or ps i p → all_bound (pattern_of p) e ≡ true
      → whole ≡ parts_bound (patterns_of (drop (i + 1) ps)) e
  bound_goes_on p l is h = first_left p l is ∙ ap (λ b. b && parts_bound (patterns_of (drop (i + 1) ps)) e) h

  -- where none is left they are bound
  pub bound_to_the_end : length ps ≤ i → true ≡ whole
  bound_to_the_end l =
      sym (so_far ∙ (ap (λ qs. parts_bound (patterns_of qs) e) (drop_all i ps l) ∙ parts_none e))

-- ---- conclusions

module _ (h : Atom) (q : Goal) (e b : Bindings) where
  -- a head whose variables stand for terms concludes its value
  concluded_bound : head_bound h b ≡ true → concluded_value (atom_value h b) q e ≡ concluded h b q e
  concluded_bound k =
      ap (λ does. cond does (concluded_value (atom_value h b) q e) (Fault (fault_at NotGround h.span) ∷ [])) (sym k)

  -- the goal meets the value of such a head
  pub concluded_term : head_bound h b ≡ true → (terms : List Term) (cell : ℕ) → Gives (Ok cell) (atom_value h b) terms
      → sat_if (match_goal q (term_at terms cell) e) ≡ concluded h b q e
  concluded_term k terms cell g =
      ap (λ r. concluded_value r q e) (ap Ok (at_named terms cell g.0 g.2) ∙ sym g.1) ∙ concluded_bound k

  -- a head with a variable that stands for nothing is a fault
  pub concluded_unbound : head_bound h b ≡ false → concluded h b q e ≡ Fault (fault_at NotGround h.span) ∷ []
  concluded_unbound k =
      ap (λ does. cond does (concluded_value (atom_value h b) q e) (Fault (fault_at NotGround h.span) ∷ [])) k

  -- valuing such a head that stops concludes its fault, and for want of memory nothing is said
  pub concluded_stop : head_bound h b ≡ true → (stop : EvalStop) (terms : List Term) (s : Slotted)
      → Gives (Err stop) (atom_value h b) terms → Concluded (Err stop) (concluded h b q e) terms s s
  concluded_stop k (stops.Fault f) terms s g =
      (sym (concluded_bound k) ∙ ap (λ r. concluded_value r q e) g, refl)
  concluded_stop k stops.NoMemory terms s g = refl

-- matching a goal concludes what is met if it matches
pub matched_concludes : (does : Bool) (found : Option Bindings) (events : List Event) (terms : List Term)
    (old new : Slotted) → sat_if found ≡ events → Matched does found terms old new
    → Concluded (Ok does) events terms old new
matched_concludes true found events terms old new e h = (sym e ∙ ap sat_if h.0, h.1)
matched_concludes false found events terms old new e h = (sym e ∙ ap sat_if h.0, h.1)
