-- The steps of filling: parts from left to right, the continuation behind them, and lists of known parts.
use Rattle.std.proofs.Common.{◌≡◌, ℕ, ◌+◌, ◌<◌, ◌≤◌, true, false, cond, max, List, [], ◌∷◌, ◌++◌, length, drop, get_or, Option, Some, None, Result, Ok, Err, option_map, refl, sym, ◌∙◌, ap, ap₂, subst, arith, ◌⊎◌, inl, inr}
use Rattle.std.specs.Prelude.{slice_get, nat_lt, Vec}
use Rattle.std.specs.Global.{Global}
use Rattle.std.specs.Result.{IfOk, OnErr}
use Rattle.std.proofs.lemmas.List.{drop_more, drop_all}
use Rattle.std.proofs.lemmas.Option.{none-some, same_Some}
use Rattle.hp_syntax.specs.declared.limits.TheConstants.{DEEPEST_TERM}
use Rattle.hp_syntax.specs.declared.pattern.Pat.{Pat}
use Rattle.hp_syntax.specs.declared.pattern.PatKind.{PatKind, out-PatKind, roll-out-PatKind}
use Rattle.hp_syntax.specs.declared.pattern.PatKind.TheOpen.{PatKind-F}
use Rattle.hp_syntax.specs.declared.pattern.PatKind.TheOpen as layers
use Rattle.hp_syntax.specs.declared.pattern.PatKind.TheVariants as pats
use Rattle.hp_syntax.specs.declared.pattern.PatKind.TheVariants.{rolls-Var, rolls-Sym, rolls-Num, rolls-List, rolls-Call}
use Rattle.hp_syntax.specs.declared.pattern.PatKind.TheViews.{roll-PatKind}
use Rattle.hp_syntax.specs.declared.pattern.Span.{Span}
use Rattle.hp_syntax.specs.declared.pattern.Tail.{Tail}
use Rattle.hp_syntax.specs.declared.fault.RunFault.{RunFault}
use Rattle.hp_syntax.specs.declared.fault.FaultKind.TheVariants.{TooDeep}
use Rattle.hp_syntax.specs.Syntax.{Pattern, Patterns, Variable, Listing, Call, NoPattern, Before, Atom}
use Rattle.hp_syntax.specs.Terms.{Term, Terms, Symbol, Listed, NoTerm, More, term_nesting, deepest}
use Rattle.hp_syntax.specs.Calls.{fault_at, call}
use Rattle.hp_syntax.specs.Values.{Bindings, bound, on_ok, list_of, value, values}
use Rattle.hp_syntax.specs.Goals as plain
use Rattle.hp_syntax.specs.Goals.{Fillings, NoFilling, Then, Filling, all_known, ground_parts, fill_variable, list_filled, fill, fill_parts, fill_tail, goal_of, fill_goal}
use Rattle.hp_syntax.specs.Views.{pattern_of, patterns_of}
use Rattle.hp_syntax.specs.ViewLaws.{pattern_of-sym, pattern_of-num, pattern_of-call}
use Rattle.hp_eval.specs.declared.goals.Filled.{Filled}
use Rattle.hp_eval.specs.declared.goals.Filled.TheVariants as filled
use Rattle.hp_eval.specs.GoalViews.{term_or_nil, term_at, is_below, filled_of, fillings_of}
use Rattle.hp_eval.specs.FillSteps.{joined, before_rest, parts_at, AreKnown, depth_of, ground_depth, too_deep}
use Rattle.hp_cells.specs.Cells.{NamesList, IsCons, Interns}
use Rattle.hp_cells.specs.Keys.{parts_of}
use Rattle.hp_cells.specs.Shows.{Shows}
use Rattle.hp_cells.specs.declared.keys.View.{View}
use Rattle.hp_cells.specs.declared.keys.View.TheVariants as views
use Rattle.hp_eval.specs.declared.event.EvalStop.{EvalStop}
use Rattle.hp_eval.specs.declared.event.EvalStop.TheVariants as stops
use Rattle.hp_eval.specs.Growth.{Grows, Gives, GivesBy}
use Rattle.hp_eval.specs.Slotted.{Slotted, AreBelow, flat, named, bindings_of}
use Rattle.hp_laws.proofs.FillLemmas.{known_ground}
use Rattle.hp_eval.proofs.CellViews.{named_at, at_named, names_parts}
use Rattle.hp_eval.proofs.ListSteps.{interns_grows}
use Rattle.hp_eval.proofs.GrowthLemmas.{grows_self}
use Rattle.hp_eval.proofs.ValueSteps.{bound_named}
use Rattle.hp_eval.proofs.GoalViewLemmas.{filled_of-known, filled_of-free, filled_of-list, filled_grows}

-- ---- results

-- a value gone on with as it is stays
pub on_ok_same : {A : Type 0} (r : Result A RunFault) → on_ok r (λ x. Ok x) ≡ r
on_ok_same (Ok x) = refl
on_ok_same (Err f) = refl

-- ---- parts put before others

-- parts with nothing behind them are the parts
pub joined-nil : (fs : Fillings) → joined fs NoFilling ≡ fs
joined-nil NoFilling = refl
joined-nil (Then f fs) = ap (Then f) (joined-nil fs)

-- parts with a free variable behind them
pub free_behind : (fs : Fillings) (v : ℕ) → ◌≡◌ {A = Filling} (joined fs NoFilling, Some v) (fs, Some v)
free_behind fs v = let add : Fillings → Filling = λ gs. (gs, Some v) in ap add (joined-nil fs)

-- a last part stands before what stands behind the parts
pub joined-push : (terms : List Term) (fs : List Filled) (f : Filled) (gs : Fillings)
    → joined (fillings_of terms (fs ++ f ∷ [])) gs ≡ joined (fillings_of terms fs) (Then (filled_of terms f) gs)
joined-push terms [] f gs = refl
joined-push terms (x ∷ fs) f gs = ap (Then (filled_of terms x)) (joined-push terms fs f gs)

-- ---- parts from left to right

-- a part in front of others
abbrev with_first : plain.Filled → Filling → Filling
with_first x f = (Then x f.0, f.1)

-- a first part goes before the others alone, or before them with their continuation
first_moved : (a : Result plain.Filled RunFault) (b c : Result Filling RunFault)
    → on_ok a (λ x. on_ok (on_ok b (λ f. on_ok c (λ r. Ok (before_rest f.0 r)))) (λ f. Ok (with_first x f)))
    ≡ on_ok (on_ok a (λ x. on_ok b (λ f. Ok (with_first x f)))) (λ f. on_ok c (λ r. Ok (before_rest f.0 r)))
first_moved (Err k) b c = refl
first_moved (Ok x) (Err k) c = refl
first_moved (Ok x) (Ok f) (Err k) = refl
first_moved (Ok x) (Ok f) (Ok r) = refl

-- the parts of a list are filled, and then what stands behind them
pub fill_parts_rest : (ps : Patterns) (tail : Option Tail) (e : Bindings)
    → fill_parts ps tail e
    ≡ on_ok (fill_parts ps None e) (λ f. on_ok (fill_tail tail e) (λ r. Ok (before_rest f.0 r)))
unfolding fill_parts
fill_parts_rest NoPattern tail e = sym (on_ok_same (fill_tail tail e))
fill_parts_rest (Before p ps) tail e =
    ap (λ b. on_ok (fill p e) (λ x. on_ok b (λ f. Ok (with_first x f)))) (fill_parts_rest ps tail e)
    ∙ first_moved (fill p e) (fill_parts ps None e) (fill_tail tail e)

-- the parts and the rest of a list are filled one behind the other
pub fill_parts_ok : (ps : Patterns) (tail : Option Tail) (e : Bindings) (f r : Filling) → fill_parts ps None e ≡ Ok f
    → fill_tail tail e ≡ Ok r → fill_parts ps tail e ≡ Ok (before_rest f.0 r)
fill_parts_ok ps tail e f r h k =
    fill_parts_rest ps tail e
    ∙ (ap (λ b. on_ok b (λ f. on_ok (fill_tail tail e) (λ r. Ok (before_rest f.0 r)))) h
    ∙ ap (λ c. on_ok c (λ r. Ok (before_rest f.0 r))) k)

-- a fault of the parts of a list is one of the list
pub fill_parts_fault : (ps : Patterns) (tail : Option Tail) (e : Bindings) (x : RunFault)
    → fill_parts ps None e ≡ Err x → fill_parts ps tail e ≡ Err x
fill_parts_fault ps tail e x h =
    fill_parts_rest ps tail e ∙ ap (λ b. on_ok b (λ f. on_ok (fill_tail tail e) (λ r. Ok (before_rest f.0 r)))) h

-- a fault of the rest of a list is one of the list, where the parts have none
pub fill_rest_fault : (ps : Patterns) (tail : Option Tail) (e : Bindings) (f : Filling) (x : RunFault)
    → fill_parts ps None e ≡ Ok f → fill_tail tail e ≡ Err x → fill_parts ps tail e ≡ Err x
fill_rest_fault ps tail e f x h k =
    fill_parts_rest ps tail e
    ∙ (ap (λ b. on_ok b (λ f. on_ok (fill_tail tail e) (λ r. Ok (before_rest f.0 r)))) h
    ∙ ap (λ c. on_ok c (λ r. Ok (before_rest f.0 r))) k)

-- some parts are filled, and those from a place on are left
abbrev pub AreFilledTo : List Pat → ℕ → Bindings → Fillings → Type 0
AreFilledTo ps i e fs =
    fill_parts (patterns_of ps) None e
    ≡ on_ok (fill_parts (patterns_of (drop i ps)) None e) (λ f. Ok (before_rest fs f))

-- at the start no part is filled
pub filled_none : (ps : List Pat) (e : Bindings) → AreFilledTo ps 0 e NoFilling
filled_none ps e = sym (on_ok_same (fill_parts (patterns_of ps) None e))

-- the parts from a place on are the one there and those behind it
patterns_from : (ps : List Pat) (i : ℕ) (p : Pat) → i < length ps → p ≡ get_or ps i p
    → patterns_of (drop i ps) ≡ Before (pattern_of p) (patterns_of (drop (i + 1) ps))
patterns_from ps i p l is =
    ap patterns_of (drop_more ps i p l)
    ∙ ap (λ q. Before (pattern_of q) (patterns_of (drop (i + 1) ps))) (sym is)

-- a further part is filled
pub filled_more : (terms : List Term) (ps : List Pat) (i : ℕ) (p : Pat) (e : Bindings) (fs : List Filled) (f : Filled)
    → i < length ps → p ≡ get_or ps i p → fill (pattern_of p) e ≡ Ok (filled_of terms f)
    → AreFilledTo ps i e (fillings_of terms fs) → AreFilledTo ps (i + 1) e (fillings_of terms (fs ++ f ∷ []))
unfolding fill_parts
filled_more terms ps i p e fs f l is h a =
    a
    ∙ (ap (λ qs. on_ok (fill_parts qs None e) (λ g. Ok (before_rest (fillings_of terms fs) g)))
    (patterns_from ps i p l is)
    ∙ (ap (λ r. on_ok (on_ok r (λ x. on_ok (fill_parts (patterns_of (drop (i + 1) ps)) None e)
    (λ g. Ok (with_first x g)))) (λ g. Ok (before_rest (fillings_of terms fs) g))) h
    ∙ moved (fill_parts (patterns_of (drop (i + 1) ps)) None e)))
  where
    moved : (r : Result Filling RunFault)
        → on_ok (on_ok r (λ g. Ok (with_first (filled_of terms f) g))) (λ g. Ok (before_rest (fillings_of terms fs) g))
        ≡ on_ok r (λ g. Ok (before_rest (fillings_of terms (fs ++ f ∷ [])) g))
    moved (Err x) = refl
    moved (Ok g) = ap (λ gs. Ok (gs, g.1)) (sym (joined-push terms fs f g.0))

-- a fault of a part is one of all
pub filled_fault : (ps : List Pat) (i : ℕ) (p : Pat) (e : Bindings) (fs : Fillings) (x : RunFault)
    → i < length ps → p ≡ get_or ps i p → fill (pattern_of p) e ≡ Err x → AreFilledTo ps i e fs
    → fill_parts (patterns_of ps) None e ≡ Err x
unfolding fill_parts
filled_fault ps i p e fs x l is h a =
    a
    ∙ (ap (λ qs. on_ok (fill_parts qs None e) (λ g. Ok (before_rest fs g))) (patterns_from ps i p l is)
    ∙ ap (λ r. on_ok (on_ok r (λ x. on_ok (fill_parts (patterns_of (drop (i + 1) ps)) None e)
    (λ g. Ok (with_first x g)))) (λ g. Ok (before_rest fs g))) h)

-- at the end all parts are filled
pub filled_all : (ps : List Pat) (i : ℕ) (e : Bindings) (fs : Fillings) → length ps ≤ i → AreFilledTo ps i e fs
    → fill_parts (patterns_of ps) None e ≡ Ok (fs, None)
unfolding fill_parts
filled_all ps i e fs l a =
    a
    ∙ (ap (λ qs. on_ok (fill_parts (patterns_of qs) None e) (λ g. Ok (before_rest fs g))) (drop_all i ps l)
    ∙ ap (λ gs. Ok (gs, None)) (joined-nil fs))

-- ---- ground parts

-- parts before a free variable aren't ground
pub free_not_ground : (fs : Fillings) (v : ℕ) → ground_parts fs (Some v) ≡ None
free_not_ground NoFilling v = refl
free_not_ground (Then (plain.Known t) fs) v = ap (option_map (More t)) (free_not_ground fs v)
free_not_ground (Then (plain.Free w) fs) v = refl
free_not_ground (Then (plain.Partly ps t) fs) v = refl

-- parts of which some aren't ground aren't ground with others behind them
pub joined_not_ground : (fs gs : Fillings) → ground_depth fs ≡ None → ground_parts (joined fs gs) None ≡ None
joined_not_ground NoFilling gs h = absurd cc
joined_not_ground (Then (plain.Known t) fs) gs h =
    ap (option_map (More t)) (joined_not_ground fs gs (of_rest (ground_parts fs None) h))
  where
    of_rest : (o : Option Terms) → option_map deepest (option_map (More t) o) ≡ None → option_map deepest o ≡ None
    of_rest None k = refl
    of_rest (Some ts) k = absurd cc
joined_not_ground (Then (plain.Free v) fs) gs h = refl
joined_not_ground (Then (plain.Partly ps t) fs) gs h = refl

-- parts that have a depth are ground
pub depth_known : (fs : Fillings) (d : ℕ) → ground_depth fs ≡ Some d → AreKnown fs
depth_known fs d h = of_ground (ground_parts fs None) refl h
  where
    of_ground : (o : Option Terms) → ground_parts fs None ≡ o → option_map deepest o ≡ Some d → AreKnown fs
    of_ground None q k = absurd cc
    of_ground (Some ts) q k = (ts, q)

-- behind a known part of known ones are known ones
rest_known : (t : Term) (fs : Fillings) → AreKnown (Then (plain.Known t) fs) → AreKnown fs
rest_known t fs k = of_rest (ground_parts fs None) refl k.1
  where
    of_rest : (o : Option Terms) → ground_parts fs None ≡ o → option_map (More t) o ≡ Some k.0 → AreKnown fs
    of_rest None q r = absurd cc
    of_rest (Some us) q r = (us, q)

-- a part that isn't ground isn't among ground ones
pub not_among_known : (fs gs : Fillings) (x : plain.Filled) → depth_of x ≡ None → AreKnown (joined fs (Then x gs)) → ⊥
not_among_known NoFilling gs (plain.Known t) h k = absurd cc
not_among_known NoFilling gs (plain.Free v) h k = none-some k.0 k.1
not_among_known NoFilling gs (plain.Partly ps t) h k = none-some k.0 k.1
not_among_known (Then (plain.Known t) fs) gs x h k =
    not_among_known fs gs x h (rest_known t (joined fs (Then x gs)) k)
not_among_known (Then (plain.Free v) fs) gs x h k = none-some k.0 k.1
not_among_known (Then (plain.Partly ps t) fs) gs x h k = none-some k.0 k.1

-- ---- depths of parts

-- a free variable or a list has no depth
pub free_depth : (terms : List Term) (f : Filled)
    → ((v : ℕ) × (f ≡ filled.Free v))
    ⊎ ((parts : Vec Filled Global) × (tail : Option ℕ) × (f ≡ filled.List parts tail))
    → None ≡ depth_of (filled_of terms f)
free_depth terms f (inl p) = sym (ap (λ g. depth_of (filled_of terms g)) p.1 ∙ ap depth_of (filled_of-free terms p.0))
free_depth terms f (inr p) =
    sym (ap (λ g. depth_of (filled_of terms g)) p.2 ∙ ap depth_of (filled_of-list terms p.0 p.1))

-- the deepest of no parts is as deep as what was seen
pub max_zero : (n : ℕ) → max n 0 ≡ n
max_zero n = omega arith

-- the deepest of parts is the deepest of those seen and those left
abbrev pub IsDeepestTo : Fillings → ℕ → Fillings → Type 0
IsDeepestTo fs most left = ground_depth fs ≡ option_map (max most) (ground_depth left)

-- at the start nothing is seen
pub deepest_none : (fs : Fillings) → IsDeepestTo fs 0 fs
deepest_none fs = of_depth (ground_depth fs)
  where
    of_depth : (o : Option ℕ) → o ≡ option_map (max 0) o
    of_depth None = refl
    of_depth (Some d) = let q : d ≡ max 0 d = omega arith in ap Some q

-- a further part is seen
pub deepest_more : (fs left : Fillings) (x : plain.Filled) (most d : ℕ) → depth_of x ≡ Some d
    → IsDeepestTo fs most (Then x left) → IsDeepestTo fs (max most d) left
deepest_more fs left (plain.Known t) most d h a =
    a ∙ of_ground (ground_parts left None)
  where
    of_ground : (o : Option Terms)
        → option_map (max most) (option_map deepest (option_map (More t) o))
        ≡ option_map (max (max most d)) (option_map deepest o)
    of_ground None = refl
    of_ground (Some ts) =
        let q : term_nesting t ≡ d = same_Some (term_nesting t) d h in
        let r : max most (max (term_nesting t) (deepest ts)) ≡ max (max most d) (deepest ts) = omega arith in ap Some r
deepest_more fs left (plain.Free v) most d h a = absurd cc
deepest_more fs left (plain.Partly ps t) most d h a = absurd cc

-- with a part that isn't ground there is no depth
pub deepest_open : (fs left : Fillings) (x : plain.Filled) (most : ℕ) → depth_of x ≡ None
    → IsDeepestTo fs most (Then x left) → ground_depth fs ≡ None
deepest_open fs left (plain.Known t) most h a = absurd cc
deepest_open fs left (plain.Free v) most h a = a
deepest_open fs left (plain.Partly ps t) most h a = a

-- at the end all parts are seen
pub deepest_all : (fs : Fillings) (most : ℕ) → IsDeepestTo fs most NoFilling → ground_depth fs ≡ Some most
deepest_all fs most a = a ∙ ap Some (max_zero most)

-- the parts from a place on are the one there and those behind it
pub fillings_from : (terms : List Term) (fs : List Filled) (i : ℕ) (f : Filled) → i < length fs → f ≡ get_or fs i f
    → fillings_of terms (drop i fs) ≡ Then (filled_of terms f) (fillings_of terms (drop (i + 1) fs))
fillings_from terms fs i f l is =
    ap (fillings_of terms) (drop_more fs i f l)
    ∙ ap (λ g. Then (filled_of terms g) (fillings_of terms (drop (i + 1) fs))) (sym is)

-- ---- lists by their cells

-- the parts of a list are the term of its first cell and the parts of the list of the others
pub parts_split : (terms : List Term) (cell head tail : ℕ) (t : Term) → slice_get terms cell ≡ Some t
    → IsCons terms head tail t → parts_at terms cell ≡ More (term_at terms head) (parts_at terms tail)
parts_split terms cell head tail t h k =
    ap (λ o. parts_of (term_or_nil o)) (h ∙ ap Some k.whole)
    ∙ ap₂ (λ x y. More (term_or_nil x) (parts_of (term_or_nil y))) (sym k.head_names) (sym k.tail_names)

-- the first part of a list is put behind others
pub list_appended : (terms : List Term) (gs : Fillings) (fs : List Filled) (cell head tail : ℕ) (t : Term)
    → slice_get terms cell ≡ Some t → IsCons terms head tail t
    → gs ≡ joined (fillings_of terms fs) (all_known (parts_at terms cell))
    → gs ≡ joined (fillings_of terms (fs ++ filled.Known head ∷ [])) (all_known (parts_at terms tail))
list_appended terms gs fs cell head tail t h k a =
    a
    ∙ (ap (λ ts. joined (fillings_of terms fs) (all_known ts)) (parts_split terms cell head tail t h k)
    ∙ (ap (λ x. joined (fillings_of terms fs) (Then x (all_known (parts_at terms tail))))
    (sym (filled_of-known terms head))
    ∙ sym (joined-push terms fs (filled.Known head) (all_known (parts_at terms tail)))))

-- a view of a list without a first part is that of the empty one
list_ended : (terms : List Term) (v : View) (ts : Terms) → Shows terms v (Listed ts)
    → ((head tail : ℕ) → v ≡ views.Cons head tail → ⊥) → ts ≡ NoTerm
list_ended terms views.Nil ts h n = cc
list_ended terms (views.Sym name) ts h n = absurd cc
list_ended terms (views.Num x) ts h n = absurd cc
list_ended terms (views.Cons head tail) ts h n = absurd (n head tail refl)

-- at the end all parts of a list are put behind others
pub list_all_appended : (terms : List Term) (gs : Fillings) (fs : List Filled) (cell : ℕ) (v : View) (ts : Terms)
    → slice_get terms cell ≡ Some (Listed ts) → Shows terms v (Listed ts)
    → ((head tail : ℕ) → v ≡ views.Cons head tail → ⊥)
    → gs ≡ joined (fillings_of terms fs) (all_known (parts_at terms cell)) → gs ≡ fillings_of terms fs
list_all_appended terms gs fs cell v ts h k n a =
    a
    ∙ (ap (λ o. joined (fillings_of terms fs) (all_known (parts_of (term_or_nil o)))) h
    ∙ (ap (λ us. joined (fillings_of terms fs) (all_known us)) (list_ended terms v ts k n)
    ∙ joined-nil (fillings_of terms fs)))

-- the list of a part and of the parts of another is interned
pub consed : (old new : List Term) (head list cell : ℕ) → head < length old → NamesList old list
    → ((x : Term) (xs : Terms) → slice_get old head ≡ Some x → slice_get old list ≡ Some (Listed xs)
    → Interns (Listed (More x xs)) cell old new)
    → Interns (Listed (More (term_at old head) (parts_at old list))) cell old new
consed old new head list cell l n h =
    h (term_at old head) (parts_at old list) (named_at old head l) (names_parts old list n)

-- the parts of a list that is interned are its first part and those of the list behind
pub interned_parts : (old new : List Term) (head list cell : ℕ) (t : Term)
    → Interns (Listed (More (term_at old head) (parts_at old list))) cell old new
    → plain.Known (term_at old head) ≡ plain.Known t → parts_at new cell ≡ More t (parts_at old list)
interned_parts old new head list cell t i h =
    ap (λ o. parts_of (term_or_nil o)) i.names
    ∙ ap (λ x. More x (parts_at old list)) (let q : term_at old head ≡ t = cc in q)

-- terms grow where a list is interned, or stay
pub cons_grows : {E : Type 0} (old new : List Term) (head list : ℕ) (r : Result ℕ E) → head < length old
    → NamesList old list → IfOk r (λ cell. (x : Term) (xs : Terms) → slice_get old head ≡ Some x
    → slice_get old list ≡ Some (Listed xs) → Interns (Listed (More x xs)) cell old new)
    → OnErr r (new ≡ old) → Grows old new
cons_grows old new head list (Ok cell) l n ok err =
    interns_grows _ cell old new (consed old new head list cell l n ok)
cons_grows old new head list (Err e) l n ok err = subst (Grows old) (sym err) (grows_self old)

-- a free variable or a list isn't known
pub free_unknown : (terms : List Term) (f : Filled) (t : Term)
    → ((v : ℕ) × (f ≡ filled.Free v))
    ⊎ ((parts : Vec Filled Global) × (tail : Option ℕ) × (f ≡ filled.List parts tail))
    → filled_of terms f ≡ plain.Known t → ⊥
free_unknown terms f t (inl p) k =
    let q : plain.Free p.0 ≡ plain.Known t = sym (ap (filled_of terms) p.1 ∙ filled_of-free terms p.0) ∙ k in cc
free_unknown terms f t (inr p) k =
    let q : plain.Partly (fillings_of terms p.0.items) p.1 ≡ plain.Known t =
    sym (ap (filled_of terms) p.2 ∙ filled_of-list terms p.0 p.1) ∙ k in cc

-- a last part is taken from known ones and put in front of the list behind them
pub part_consed : (init old new : List Term) (gs : Fillings) (fs : List Filled) (f : Filled) (list cell : ℕ)
    → Grows init old → is_below (length init) f ≡ true → AreKnown gs
    → ((t : Term) → filled_of old f ≡ plain.Known t → parts_at new cell ≡ More t (parts_at old list))
    → gs ≡ joined (fillings_of init (fs ++ f ∷ [])) (all_known (parts_at old list))
    → gs ≡ joined (fillings_of init fs) (all_known (parts_at new cell))
part_consed init old new gs fs f list cell g b k h a = of_part (filled_of init f) refl
  where
    moved : gs ≡ joined (fillings_of init fs) (Then (filled_of init f) (all_known (parts_at old list)))
    moved = a ∙ joined-push init fs f (all_known (parts_at old list))

    unknown : (x : plain.Filled) → filled_of init f ≡ x → depth_of x ≡ None → ⊥
    unknown x q n =
        not_among_known (fillings_of init fs) (all_known (parts_at old list)) x n
        (subst AreKnown (moved ∙ ap (λ y. joined (fillings_of init fs) (Then y (all_known (parts_at old list)))) q) k)

    of_part : (x : plain.Filled) → filled_of init f ≡ x
        → gs ≡ joined (fillings_of init fs) (all_known (parts_at new cell))
    of_part (plain.Known t) q =
        moved
        ∙ (ap (λ x. joined (fillings_of init fs) (Then x (all_known (parts_at old list)))) q
        ∙ ap (λ ts. joined (fillings_of init fs) (all_known ts)) (sym (h t (filled_grows init old f g b ∙ q))))
    of_part (plain.Free v) q = absurd (unknown (plain.Free v) q refl)
    of_part (plain.Partly ps tail) q = absurd (unknown (plain.Partly ps tail) q refl)

-- known parts with those of a list behind them are known
pub known_joined : (fs : Fillings) (ts : Terms) → AreKnown fs → AreKnown (joined fs (all_known ts))
known_joined NoFilling ts k = (ts, known_ground ts)
known_joined (Then (plain.Known t) fs) ts k =
    let m = known_joined fs ts (rest_known t fs k) in (More t m.0, ap (option_map (More t)) m.1)
known_joined (Then (plain.Free v) fs) ts k = absurd (none-some k.0 k.1)
known_joined (Then (plain.Partly ps t) fs) ts k = absurd (none-some k.0 k.1)

-- a list of known parts is the list that their cell names, unless it nests too deep
pub list_known : (terms : List Term) (s : Span) (gs : Fillings) (cell : ℕ) → gs ≡ all_known (parts_at terms cell)
    → list_filled s (gs, None) (ground_parts gs None)
    ≡ on_ok (list_of s (parts_at terms cell)) (λ t. Ok (plain.Known t))
list_known terms s gs cell h =
    ap (λ fs. list_filled s (fs, None) (ground_parts fs None)) h
    ∙ ap (list_filled s (all_known (parts_at terms cell), None)) (known_ground (parts_at terms cell))

-- a list with a free tail isn't known
pub list_free : (s : Span) (fs : Fillings) (v : ℕ)
    → list_filled s (joined fs NoFilling, Some v) (ground_parts (joined fs NoFilling) (Some v))
    ≡ Ok (plain.Partly fs (Some v))
list_free s fs v =
    ap (λ gs. list_filled s (gs, Some v) (ground_parts gs (Some v))) (joined-nil fs)
    ∙ ap (list_filled s (fs, Some v)) (free_not_ground fs v)

-- a list with a part that isn't ground isn't known
pub list_open : (s : Span) (fs gs hs : Fillings) → ground_depth fs ≡ None → joined fs gs ≡ hs
    → list_filled s (joined fs gs, None) (ground_parts (joined fs gs) None) ≡ Ok (plain.Partly hs None)
list_open s fs gs hs d h =
    ap (list_filled s (joined fs gs, None)) (joined_not_ground fs gs d) ∙ ap (λ ps. Ok (plain.Partly ps None)) h

-- ---- variables

-- the cell of a bound variable is below a count, where all are
pub bound_below : (n : ℕ) (s : Slotted) (v cell : ℕ) → AreBelow n s → flat (slice_get s.values v) ≡ Some cell → cell < n
bound_below n s v cell a h = of_place (slice_get s.values v) refl h
  where
    of_place : (o : Option (Option ℕ)) → slice_get s.values v ≡ o → flat o ≡ Some cell → cell < n
    of_place None q k = absurd cc
    of_place (Some None) q k = absurd cc
    of_place (Some (Some x)) q k = a v cell (q ∙ ap Some k)

-- a bound variable stands for the term of its cell
pub bound_cell_named : (terms : List Term) (s : Slotted) (v cell : ℕ) → AreBelow (length terms) s
    → flat (slice_get s.values v) ≡ Some cell → bound (bindings_of terms s) v ≡ Some (term_at terms cell)
bound_cell_named terms s v cell a h =
    bound_named terms s v ∙ (ap (named terms) h ∙ named_at terms cell (bound_below (length terms) s v cell a h))

-- a variable without a cell stands for nothing
pub unbound_named : (terms : List Term) (s : Slotted) (v : ℕ) → flat (slice_get s.values v) ≡ None
    → bound (bindings_of terms s) v ≡ None
unbound_named terms s v h = bound_named terms s v ∙ ap (named terms) h

-- a bound variable is filled with its term
pub fill_bound : (terms : List Term) (s : Slotted) (sp : Span) (v cell : ℕ) → AreBelow (length terms) s
    → flat (slice_get s.values v) ≡ Some cell
    → fill (Variable sp v) (bindings_of terms s) ≡ Ok (filled_of terms (filled.Known cell))
unfolding fill
fill_bound terms s sp v cell a h =
    ap (λ o. Ok (fill_variable v o)) (bound_cell_named terms s v cell a h) ∙ ap Ok (sym (filled_of-known terms cell))

-- another variable is free
pub fill_free : (terms : List Term) (s : Slotted) (sp : Span) (v : ℕ) → flat (slice_get s.values v) ≡ None
    → fill (Variable sp v) (bindings_of terms s) ≡ Ok (filled_of terms (filled.Free v))
unfolding fill
fill_free terms s sp v h =
    ap (λ o. Ok (fill_variable v o)) (unbound_named terms s v h) ∙ ap Ok (sym (filled_of-free terms v))

-- a call is filled with its value
pub fill_call : (e : Bindings) (s : Span) (name : List ℕ) (args : Patterns)
    → fill (Call s name args) e ≡ on_ok (value (Call s name args) e) (λ t. Ok (plain.Known t))
unfolding fill value
fill_call e s name args = of_args (values args None e)
  where
    of_args : (r : Result Terms RunFault)
        → on_ok r (λ ts. on_ok (call name ts s) (λ t. Ok (plain.Known t)))
        ≡ on_ok (on_ok r (λ ts. call name ts s)) (λ t. Ok (plain.Known t))
    of_args (Ok ts) = refl
    of_args (Err x) = refl

-- a pattern that is neither a variable nor a list is filled with its value
pub fill_valued : (p : Pat) (e : Bindings) → ((v : ℕ) → p.kind ≡ pats.Var v → ⊥)
    → ((parts : Vec Pat Global) (tail : Option Tail) → p.kind ≡ pats.List parts tail → ⊥)
    → fill (pattern_of p) e ≡ on_ok (value (pattern_of p) e) (λ t. Ok (plain.Known t))
unfolding fill value
fill_valued p e no_variable no_list = of_kind (out-PatKind p.kind) (sym (roll-out-PatKind p.kind))
  where
    of : (q : Pattern) → pattern_of p ≡ q → fill q e ≡ on_ok (value q e) (λ t. Ok (plain.Known t))
        → fill (pattern_of p) e ≡ on_ok (value (pattern_of p) e) (λ t. Ok (plain.Known t))
    of q is h = subst (λ q. fill q e ≡ on_ok (value q e) (λ t. Ok (plain.Known t))) (sym is) h

    of_kind : (x : PatKind-F PatKind Pat) → p.kind ≡ roll-PatKind x
        → fill (pattern_of p) e ≡ on_ok (value (pattern_of p) e) (λ t. Ok (plain.Known t))
    of_kind (layers.Var v) h = absurd (no_variable v (h ∙ rolls-Var v))
    of_kind (layers.Sym name) h = of _ (pattern_of-sym p name (h ∙ rolls-Sym name)) refl
    of_kind (layers.Num n) h = of _ (pattern_of-num p n (h ∙ rolls-Num n)) refl
    of_kind (layers.List parts tail) h = absurd (no_list parts tail (h ∙ rolls-List parts tail))
    of_kind (layers.Call name args) h =
        of _ (pattern_of-call p name args (h ∙ rolls-Call name args))
        (fill_call e p.span name (patterns_of args.items))

-- ---- answers of evaluations

-- a stop of one value is a stop of another that has its faults
pub stop_passes : {A B C D : Type 0} (f : A → B) (g : C → D) (stop : EvalStop) (x : Result B RunFault)
    (y : Result D RunFault) → ((k : RunFault) → x ≡ Err k → y ≡ Err k) → GivesBy f (Err stop) x → GivesBy g (Err stop) y
stop_passes f g (stops.Fault k) x y through h = through k h
stop_passes f g stops.NoMemory x y through h = h

module _ (p : Pattern) (sp : Span) (qs ps : List Pat) (tail : Option Tail) (e : Bindings)
    (is : p ≡ Listing sp (patterns_of ps) tail) (same : qs ≡ ps) where
  listing_is : fill p e ≡ on_ok (fill_parts (patterns_of ps) tail e) (λ f. list_filled sp f (ground_parts f.0 f.1))
  unfolding fill
  listing_is = ap (λ q. fill q e) is

  -- a list stops where its parts do
  pub list_parts_stop : {A C : Type 0} (f : A → Filling) (g : C → plain.Filled) (stop : EvalStop)
      → GivesBy f (Err stop) (fill_parts (patterns_of qs) None e) → GivesBy g (Err stop) (fill p e)
  list_parts_stop f g stop h =
      stop_passes f g stop _ _
      (λ k j. listing_is
      ∙ ap (λ r. on_ok r (λ f. list_filled sp f (ground_parts f.0 f.1)))
      (fill_parts_fault (patterns_of ps) tail e k (ap (λ xs. fill_parts (patterns_of xs) None e) (sym same) ∙ j))) h

  module _ (d : Bindings) (fs : Fillings) (there : d ≡ e)
      (parts : fill_parts (patterns_of qs) None e ≡ Ok (fs, None)) where
    parts_are : fill_parts (patterns_of ps) None e ≡ Ok (fs, None)
    parts_are = ap (λ xs. fill_parts (patterns_of xs) None e) (sym same) ∙ parts

    -- a list stops where its tail does
    pub list_rest_stop : {A C : Type 0} (f : A → Filling) (g : C → plain.Filled) (stop : EvalStop)
        → GivesBy f (Err stop) (fill_tail tail d) → GivesBy g (Err stop) (fill p e)
    list_rest_stop f g stop h =
        stop_passes f g stop _ _
        (λ k j. listing_is
        ∙ ap (λ r. on_ok r (λ f. list_filled sp f (ground_parts f.0 f.1)))
        (fill_rest_fault (patterns_of ps) tail e (fs, None) k parts_are (ap (fill_tail tail) (sym there) ∙ j))) h

    -- a list is made of its parts and of its tail
    pub list_is_filled : (r : Filling) → fill_tail tail d ≡ Ok r
        → fill p e ≡ list_filled sp (before_rest fs r) (ground_parts (joined fs r.0) r.1)
    list_is_filled r h =
        listing_is
        ∙ ap (λ x. on_ok x (λ f. list_filled sp f (ground_parts f.0 f.1)))
        (fill_parts_ok (patterns_of ps) tail e (fs, None) r parts_are (ap (fill_tail tail) (sym there) ∙ h))

module _ (p : Pattern) (e : Bindings) (valued : fill p e ≡ on_ok (value p e) (λ t. Ok (plain.Known t))) where
  -- a pattern that is filled with its value is filled where it has one
  pub valued_filled : (terms : List Term) (cell : ℕ) (t : Term) → value p e ≡ Ok t → slice_get terms cell ≡ Some t
      → fill p e ≡ Ok (filled_of terms (filled.Known cell))
  valued_filled terms cell t h k =
      valued
      ∙ (ap (λ r. on_ok r (λ t. Ok (plain.Known t))) h
      ∙ (ap (λ t. Ok (plain.Known t)) (sym (at_named terms cell t k)) ∙ ap Ok (sym (filled_of-known terms cell))))

  -- it stops where its value does
  pub valued_stop : {C : Type 0} (g : C → plain.Filled) (stop : EvalStop) (terms : List Term)
      → Gives (Err stop) (value p e) terms → GivesBy g (Err stop) (fill p e)
  valued_stop g (stops.Fault k) terms h = valued ∙ ap (λ r. on_ok r (λ t. Ok (plain.Known t))) h
  valued_stop g stops.NoMemory terms h = h

-- ---- goals

-- a goal stops where its parts do
pub goal_stop : {A C : Type 0} (f : A → Filling) (g : C → plain.Goal) (stop : EvalStop) (a : Atom) (e : Bindings)
    → GivesBy f (Err stop) (fill_parts a.args None e) → GivesBy g (Err stop) (fill_goal a e)
goal_stop f g stop a e h =
    stop_passes f g stop _ _
    (λ k j. ap (λ r. on_ok r (λ f. goal_of a f (ground_parts f.0 f.1))) (fill_parts_fault a.args a.tail e k j)) h

-- a goal stops where its tail does
pub goal_rest_stop : {A C : Type 0} (f : A → Filling) (g : C → plain.Goal) (stop : EvalStop) (a : Atom)
    (d e : Bindings) (fs : Fillings) → d ≡ e → fill_parts a.args None e ≡ Ok (fs, None)
    → GivesBy f (Err stop) (fill_tail a.tail d) → GivesBy g (Err stop) (fill_goal a e)
goal_rest_stop f g stop a d e fs there parts h =
    stop_passes f g stop _ _
    (λ k j. ap (λ r. on_ok r (λ f. goal_of a f (ground_parts f.0 f.1)))
    (fill_rest_fault a.args a.tail e (fs, None) k parts (ap (fill_tail a.tail) (sym there) ∙ j))) h

-- a goal is made of its parts and of its tail
pub goal_is : (a : Atom) (d e : Bindings) (fs : Fillings) (r f : Filling) → d ≡ e
    → fill_parts a.args None e ≡ Ok (fs, None) → fill_tail a.tail d ≡ Ok r → before_rest fs r ≡ f
    → fill_goal a e ≡ goal_of a f (ground_parts f.0 f.1)
goal_is a d e fs r f there parts rest h =
    ap (λ x. on_ok x (λ f. goal_of a f (ground_parts f.0 f.1)))
    (fill_parts_ok a.args a.tail e (fs, None) r parts (ap (fill_tail a.tail) (sym there) ∙ rest))
    ∙ ap (λ f. goal_of a f (ground_parts f.0 f.1)) h

abbrev goal_with : Atom → Filling → plain.Goal
goal_with a f = record { name = a.name; parts = f.0; tail = f.1 }

-- a name in front of the parts doesn't make their list deeper
named_depth : (a : Atom) (ts : Terms)
    → nat_lt DEEPEST_TERM (term_nesting (Listed (More (Symbol a.name) ts))) ≡ too_deep (Some ts)
named_depth a ts = let q : max 0 (deepest ts) ≡ deepest ts = omega arith in ap (λ n. nat_lt DEEPEST_TERM (1 + n)) q

-- a goal whose parts are ground and nest too deep is a fault
pub goal_too_deep : (a : Atom) (f : Filling) (o : Option Terms) → too_deep o ≡ true
    → goal_of a f o ≡ Err (fault_at TooDeep a.span)
goal_too_deep a f None h = absurd cc
goal_too_deep a f (Some ts) h =
    ap (λ b. on_ok (cond b (Err (fault_at TooDeep a.span)) (Ok (Listed (More (Symbol a.name) ts))))
    (λ t. Ok (goal_with a f))) (named_depth a ts ∙ h)

-- another has the atom's name and its parts
pub goal_fits : (a : Atom) (f : Filling) (o : Option Terms) → too_deep o ≡ false → goal_of a f o ≡ Ok (goal_with a f)
goal_fits a f None h = refl
goal_fits a f (Some ts) h =
    ap (λ b. on_ok (cond b (Err (fault_at TooDeep a.span)) (Ok (Listed (More (Symbol a.name) ts))))
    (λ t. Ok (goal_with a f))) (named_depth a ts ∙ h)
