-- Matching a part of a goal by its kind, and its parts one after the other.
use Rattle.std.proofs.Common.{◌≡◌, ℕ, ◌+◌, ◌<◌, ◌≤◌, true, cond, List, ◌∷◌, length, drop, get_or, Option, None, refl, sym, ◌∙◌, ap, subst}
use Rattle.std.specs.Prelude.{Vec}
use Rattle.std.specs.Global.{Global}
use Rattle.std.specs.Option.{option_and_then}
use Rattle.std.proofs.lemmas.List.{drop_more, drop_all}
use Rattle.std.proofs.lemmas.List.Folds.{list_all-map}
use Rattle.std.proofs.lemmas.List.Sums.{AllPass-from_list_all}
use Rattle.hp_syntax.specs.Terms.{Term, Terms, Symbol, Number, Listed, NoTerm, More, same_term}
use Rattle.hp_syntax.specs.Values.{Bindings}
use Rattle.hp_syntax.specs.Matching.{meet}
use Rattle.hp_syntax.specs.Goals as plain
use Rattle.hp_syntax.specs.Goals.{match_free_tail, match_filled, match_fillings, match_goal}
use Rattle.hp_eval.specs.declared.goals.Filled.{Filled}
use Rattle.hp_eval.specs.declared.goals.Filled.TheVariants as filled
use Rattle.hp_eval.specs.GoalViews.{term_at, filled_of, fillings_of, is_below}
use Rattle.hp_eval.specs.Attempts.{extended}
use Rattle.hp_cells.specs.Keys.{parts_of}
use Rattle.hp_eval.specs.FillSteps.{AreFilledBelow}
use Rattle.hp_eval.specs.Steps.{is_list}
use Rattle.hp_eval.proofs.GoalViewLemmas.{filled_of-known, filled_of-free, filled_of-list, is_below-list}
use Rattle.hp_eval.proofs.MatchingSteps.{IsFoundBehind}

-- ---- kinds of parts

-- the parts of a list below a count are below it
pub below_parts : (n : ℕ) (f : Filled) (parts : Vec Filled Global) (tail : Option ℕ) → f ≡ filled.List parts tail
    → is_below n f ≡ true → AreFilledBelow n parts.items
below_parts n f parts tail h b =
    AllPass-from_list_all (is_below n) parts.items
    (sym (list_all-map (λ b. b) (is_below n) parts.items)
    ∙ (sym (is_below-list n parts tail) ∙ (ap (is_below n) (sym h) ∙ b)))

-- each part of a list below a count is below it
pub below_part : (n : ℕ) (f : Filled) (parts : Vec Filled Global) (tail : Option ℕ) (fs : List Filled) (k : ℕ)
    (d : Filled) → f ≡ filled.List parts tail → is_below n f ≡ true → fs ≡ parts.items → k < length fs
    → is_below n (get_or fs k d) ≡ true
below_part n f parts tail fs k d h b e l =
    subst (AreFilledBelow n) (sym e) (below_parts n f parts tail h b) k d l

-- a known part matches its term
pub matches_known : (terms : List Term) (f : Filled) (cell : ℕ) (t : Term) (e : Bindings) → f ≡ filled.Known cell
    → match_filled (filled_of terms f) t e ≡ extended (same_term (term_at terms cell) t) e
unfolding match_filled
matches_known terms f cell t e h =
    ap (λ p. match_filled p t e) (ap (filled_of terms) h ∙ filled_of-known terms cell)

-- a free variable is met
pub matches_free : (terms : List Term) (f : Filled) (v : ℕ) (t : Term) (e : Bindings) → f ≡ filled.Free v
    → match_filled (filled_of terms f) t e ≡ meet v t e
unfolding match_filled
matches_free terms f v t e h = ap (λ p. match_filled p t e) (ap (filled_of terms) h ∙ filled_of-free terms v)

-- a list matches a list where its parts match
pub matches_partly : (terms : List Term) (f : Filled) (parts : Vec Filled Global) (tail : Option ℕ) (t : Term)
    (e : Bindings) → f ≡ filled.List parts tail
    → match_filled (filled_of terms f) t e
    ≡ cond (is_list t) (match_fillings (fillings_of terms parts.items) tail (parts_of t) e) None
unfolding match_filled match_fillings
matches_partly terms f parts tail t e h =
    ap (λ p. match_filled p t e) (ap (filled_of terms) h ∙ filled_of-list terms parts tail) ∙ by t
  where
    by : (u : Term) → match_filled (plain.Partly (fillings_of terms parts.items) tail) u e
        ≡ cond (is_list u) (match_fillings (fillings_of terms parts.items) tail (parts_of u) e) None
    by (Symbol b) = refl
    by (Number m) = refl
    by (Listed ts) = refl

-- ---- parts one after the other

-- parts of which there is a first match no empty list
pub fillings_missing : (terms : List Term) (parts : List Filled) (i : ℕ) (f : Filled) (tail : Option ℕ) (ts : Terms)
    (e : Bindings) → i < length parts → ts ≡ NoTerm
    → match_fillings (fillings_of terms (drop i parts)) tail ts e ≡ None
unfolding match_fillings
fillings_missing terms parts i f tail ts e l h =
    ap (λ fs. match_fillings (fillings_of terms fs) tail ts e) (drop_more parts i f l)
    ∙ ap (λ us. match_fillings (fillings_of terms (get_or parts i f ∷ drop (i + 1) parts)) tail us e) h

-- the first part matches the first term, and then the others the others
pub fillings_step : (terms : List Term) (parts : List Filled) (i : ℕ) (f : Filled) (tail : Option ℕ) (t : Term)
    (ts us : Terms) (e : Bindings) → i < length parts → f ≡ get_or parts i f → us ≡ More t ts
    → match_fillings (fillings_of terms (drop i parts)) tail us e
    ≡ option_and_then (match_fillings (fillings_of terms (drop (i + 1) parts)) tail ts)
    (match_filled (filled_of terms f) t e)
unfolding match_fillings match_filled
fillings_step terms parts i f tail t ts us e l is h =
    ap (λ fs. match_fillings (fillings_of terms fs) tail us e)
    (drop_more parts i f l ∙ ap (λ g. g ∷ drop (i + 1) parts) (sym is))
    ∙ ap (λ xs. match_fillings (fillings_of terms (f ∷ drop (i + 1) parts)) tail xs e) h

-- behind the last part the tail matches what is left
pub fillings_end : (terms : List Term) (parts : List Filled) (i : ℕ) (tail : Option ℕ) (ts : Terms) (e : Bindings)
    → length parts ≤ i → match_fillings (fillings_of terms (drop i parts)) tail ts e ≡ match_free_tail tail ts e
unfolding match_fillings
fillings_end terms parts i tail ts e l =
    ap (λ fs. match_fillings (fillings_of terms fs) tail ts e) (drop_all i parts l)

-- ---- goals

-- a goal is found behind its name
pub goal_behind : (q : plain.Goal) (e : Bindings)
    → IsFoundBehind q.name (λ t. match_goal q t e) (λ ts. match_fillings q.parts q.tail ts e)
goal_behind q e = record { symbol = λ b ts. refl; number = λ n ts. refl; list = λ us ts. refl }
