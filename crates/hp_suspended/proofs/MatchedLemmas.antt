-- What a goal that matches an atom says about the atom's parts.
use Rattle.std.proofs.Common.{◌≡◌, ℕ, zero, suc, Bool, true, false, List, [], ◌∷◌, slice_get, Option, Some, None, refl, sym, ap, ◌∙◌}
use Rattle.std.specs.Prelude.{bytes_eq, cond}
use Rattle.std.proofs.lemmas.Option.{none-some, same_Some, option_and_then_some}
use Rattle.std.proofs.lemmas.Slice.Eq.{bytes_eq-Decides}
use Rattle.hp_syntax.specs.Terms.{Term, Terms, Symbol, Number, Listed, NoTerm, More, same_term}
use Rattle.hp_syntax.specs.Values.{Bindings}
use Rattle.hp_syntax.specs.Goals.{Goal, match_filled, match_fillings, match_goal}
use Rattle.hp_syntax.proofs.TermEquality.{same_sound}
use Rattle.hp_eval.specs.declared.goals.Filled.{Filled}
use Rattle.hp_eval.specs.declared.goals.Filled.TheVariants as filled
use Rattle.hp_eval.specs.Attempts.{extended}
use Rattle.hp_eval.specs.GoalViews.{term_at, filled_of, fillings_of}
use Rattle.hp_eval.proofs.GoalMatchSteps.{matches_known}
use Rattle.hp_world.specs.Parts.{part_of_list}

-- a goal matches a list of its name and of parts that its own match
pub record MatchesParts (q : Goal) (t : Term) (e b : Bindings) : Type 0 where
  pub parts : Terms
  pub whole : t ≡ Listed (More (Symbol q.name) parts)
  pub matches : match_fillings q.parts q.tail parts e ≡ Some b

-- a goal that matches a term matches the parts behind its name
pub goal_matches : (q : Goal) (t : Term) (e b : Bindings) → match_goal q t e ≡ Some b → MatchesParts q t e b
goal_matches q (Symbol name) e b h = absurd (none-some b h)
goal_matches q (Number n) e b h = absurd (none-some b h)
goal_matches q (Listed NoTerm) e b h = absurd (none-some b h)
goal_matches q (Listed (More (Number n) ts)) e b h = absurd (none-some b h)
goal_matches q (Listed (More (Listed us) ts)) e b h = absurd (none-some b h)
goal_matches q (Listed (More (Symbol name) ts)) e b h = by (bytes_eq q.name name) refl h
  where
    by : (same : Bool) → bytes_eq q.name name ≡ same
        → cond same (match_fillings q.parts q.tail ts e) None ≡ Some b
        → MatchesParts q (Listed (More (Symbol name) ts)) e b
    by false is k = absurd (none-some b k)
    by true is k = record {
      parts = ts;
      whole = ap (λ n. Listed (More (Symbol n) ts)) (sym ((bytes_eq-Decides q.name name).0 is));
      matches = k;
    }

-- bindings that there are where a test is passed
pub extended_passed : (does : Bool) (e b : Bindings) → extended does e ≡ Some b → does ≡ true
extended_passed true e b h = refl
extended_passed false e b h = absurd (none-some b h)

module _ (terms : List Term) where
  -- a known part matches its term alone
  pub known_same : (cell : ℕ) (t : Term) (e b : Bindings)
      → match_filled (filled_of terms (filled.Known cell)) t e ≡ Some b → term_at terms cell ≡ t
  known_same cell t e b h =
      same_sound (term_at terms cell) t
      (extended_passed (same_term (term_at terms cell) t) e b
      (sym (matches_known terms (filled.Known cell) cell t e refl) ∙ h))

  -- a known part of a goal is the same part of a list that the goal's parts match
  pub known_argument : (fs : List Filled) (tail : Option ℕ) (ts : Terms) (e b : Bindings) (k cell : ℕ)
      → slice_get fs k ≡ Some (filled.Known cell) → match_fillings (fillings_of terms fs) tail ts e ≡ Some b
      → part_of_list k ts ≡ Some (term_at terms cell)
  unfolding match_fillings
  known_argument [] tail ts e b k cell known h = absurd (none-some (filled.Known cell) known)
  known_argument (f ∷ fs) tail NoTerm e b k cell known h = absurd (none-some b h)
  known_argument (f ∷ fs) tail (More t ts) e b zero cell known h =
      option_and_then_some (match_fillings (fillings_of terms fs) tail ts) (match_filled (filled_of terms f) t e) b h
      (λ x is rest.
      ap Some (sym (known_same cell t e x
      (ap (λ g. match_filled (filled_of terms g) t e) (sym (same_Some f (filled.Known cell) known)) ∙ is))))
  known_argument (f ∷ fs) tail (More t ts) e b (suc k) cell known h =
      option_and_then_some (match_fillings (fillings_of terms fs) tail ts) (match_filled (filled_of terms f) t e) b h
      (λ x is rest. known_argument fs tail ts x b k cell known rest)
