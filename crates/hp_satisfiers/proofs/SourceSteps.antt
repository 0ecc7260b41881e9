-- Items whose events follow one another.
use Rattle.std.proofs.Common.{◌≡◌, ℕ, ◌+◌, ◌<◌, List, [], ◌∷◌, ◌++◌, length, drop, get_or, map, Some, sym, ◌∙◌, ap, ap₂, subst, arith}
use Rattle.std.specs.Prelude.{flat_map}
use Rattle.std.proofs.lemmas.List.{length-map, get_or-map}
use Rattle.std.proofs.lemmas.List.Folds.{flat_map-map}
use Rattle.std.proofs.lemmas.Simd.{map-map}
use Rattle.hp_syntax.specs.declared.expression.Expr.{Expr}
use Rattle.hp_syntax.specs.Syntax.{Axiom, Rule}
use Rattle.hp_syntax.specs.Terms.{Term}
use Rattle.hp_syntax.specs.Values.{Bindings}
use Rattle.hp_syntax.specs.Goals.{Goal}
use Rattle.hp_syntax.specs.Events.{Event, State, Below, through, in_place, sat, concluded, axiom_events}
use Rattle.hp_syntax.specs.Views.{atom_of, expression_of}
use Rattle.hp_eval.specs.GoalViews.{goal_of}
use Rattle.hp_eval.specs.Growth.{Grows}
use Rattle.hp_eval.specs.Slotted.{Slotted, AreBelow, bindings_of}
use Rattle.hp_eval.proofs.GrowthLemmas.{bindings_stay}
use Rattle.hp_eval.proofs.GoalViewLemmas.{goal_below_grows, goal_stays}
use Rattle.hp_world.specs.Stages.{StageBelow}
use Rattle.hp_answers.specs.declared.answer.Answer.{Answer}
use Rattle.hp_answers.specs.AnswerViews.{answer_event, answer_events, Hears, HearsUpTo}
use Rattle.hp_answers.specs.RuleIndexes.{axiom_at}
use Rattle.hp_answers.proofs.AnswerLemmas.{all_fit_grow, all_bind_below, events_stay, found_stays, state_stays}
use Rattle.hp_satisfiers.specs.declared.expressions.Scene.{Scene}
use Rattle.hp_satisfiers.specs.declared.expressions.Source.{Source}
use Rattle.hp_satisfiers.specs.declared.expressions.Source.TheVariants.{Parts, Sats, Axioms, Branches}
use Rattle.hp_satisfiers.specs.Scenes.{rules_in, axioms_in, stage_in, state_in, below_at, placed_events}
use Rattle.hp_satisfiers.specs.Sources.{item_count, pieces, joined, SourceBelow}
use Rattle.hp_satisfiers.proofs.HeardLemmas.{hears_piece}
use Rattle.hp_satisfiers.proofs.SearchSteps.{any_of, any_step, any_none}
use Rattle.hp_satisfiers.proofs.SceneGrowth.{turned_sat}

-- ---- the pieces of a source

-- each item has a piece
pub pieces_count : (scene : Scene) (level : ℕ) (terms : List Term) (s : Slotted) (source : Source)
    → length (pieces scene level terms s source) ≡ item_count source
pieces_count scene level terms s (Parts parts) = length-map parts.now _
pieces_count scene level terms s (Sats found part negate) =
    length-map (answer_events terms found.now) _ ∙ length-map found.now (answer_event terms)
pieces_count scene level terms s (Axioms places goal) = length-map places.now _
pieces_count scene level terms s (Branches found head goal) =
    length-map (answer_events terms found.now) _ ∙ length-map found.now (answer_event terms)

-- the piece of an item has its events
pub piece_is : {X : Type 0} (f : X → List Event) (xs : List X) (i : ℕ) (x : X) (ps : List (List Event)) → ps ≡ map f xs
    → i < length xs → x ≡ get_or xs i x → f x ≡ get_or ps i []
piece_is f xs i x ps whole l is = ap f is ∙ (sym (get_or-map f xs i x [] l) ∙ ap (λ qs. get_or qs i []) (sym whole))

-- the piece of an answer has the events that take its place
pub replaced_piece : (terms : List Term) (f : Bindings → List Event) (found : List Answer) (i : ℕ) (x : Answer)
    (ps : List (List Event)) → ps ≡ map (in_place f) (answer_events terms found) → i < length found
    → x ≡ get_or found i x → in_place f (answer_event terms x) ≡ get_or ps i []
replaced_piece terms f found i x ps whole l is =
    piece_is (λ y. in_place f (answer_event terms y)) found i x ps
    (whole ∙ map-map (in_place f) (answer_event terms) found) l is

module _ (old new : List Term) (g : Grows old new) where
  -- what a source names goes on to be below the number of terms
  pub source_grows : (vars : ℕ) (source : Source) → SourceBelow vars (length old) source
      → SourceBelow vars (length new) source
  source_grows vars (Parts parts) h = h
  source_grows vars (Sats found part negate) h = all_fit_grow old new g vars found.now h
  source_grows vars (Axioms places goal) h = goal_below_grows old new g goal.now h
  source_grows vars (Branches found head goal) h =
      (goal_below_grows old new g goal.now h.0, all_bind_below old new g found.now h.1)

  module _ (scene : Scene) (level : ℕ) (there : StageBelow (length old) (stage_in scene)) (s : Slotted)
      (below : AreBelow (length old) s) where
    -- the pieces stay where terms are added
    pub pieces_stay : (source : Source) → SourceBelow (length s.values) (length old) source
        → pieces scene level new s source ≡ pieces scene level old s source
    pieces_stay (Parts parts) h =
        ap₂ (λ st e. map (λ p. sat (axioms_in scene) level st (expression_of p) e) parts.now)
        (state_stays old new g (stage_in scene) there) (bindings_stay old new g s below)
    pieces_stay (Sats found part negate) h =
        ap₂ (λ st xs. map (in_place (turned_sat (axioms_in scene) level st part.now negate)) xs)
        (state_stays old new g (stage_in scene) there) (events_stay old new g (length s.values) found.now h)
    pieces_stay (Axioms places goal) h =
        let placed : State → Goal → Bindings → List (List Event)
        = λ st q e.
        map (λ place. placed_events (below_at (axioms_in scene) level st) (axiom_at (rules_in scene) place) q e)
        places.now in
        ap (λ st. placed st (goal_of new goal.now) (bindings_of new s)) (state_stays old new g (stage_in scene) there)
        ∙ ap₂ (placed (state_in old scene)) (goal_stays old new g goal.now h) (bindings_stay old new g s below)
    pieces_stay (Branches found head goal) h =
        ap₂ (λ q e. map (in_place (λ b. concluded (atom_of head.now) b q e)) (answer_events new found.now))
        (goal_stays old new g goal.now h.0) (bindings_stay old new g s below)
        ∙ ap
        (map (in_place (λ b. concluded (atom_of head.now) b (goal_of old goal.now) (bindings_of old s))))
        (found_stays old new g found.now h.1)

    -- the events of the next item go behind those of the items before
    pub source_next : (source : Source) → SourceBelow (length s.values) (length old) source → (last : List Term)
        → Grows new last → (found more items : List Answer) (whole : List Event) (i : ℕ) → i < item_count source
        → HearsUpTo new (length s.values) found whole (joined (drop i (pieces scene level old s source)))
        → Hears last (length s.values) more (get_or (pieces scene level new s source) i [])
        → items ≡ found ++ more
        → HearsUpTo last (length s.values) items whole (joined (drop (i + 1) (pieces scene level old s source)))
    source_next source h last grown found more items whole i l so_far next is =
        hears_piece new last grown (length s.values) found more items whole (pieces scene level old s source) i
        (omega (arith, l, pieces_count scene level old s source)) so_far
        (subst (λ ps. Hears last (length s.values) more (get_or ps i [])) (pieces_stay source h) next) is

-- ---- what the pieces come to

-- the pieces of answers come to what takes the place of each Sat
pub sats_joined : (xs : List Event) (f : Bindings → List Event) → joined (map (in_place f) xs) ≡ through xs f
sats_joined xs f = flat_map-map (λ ys. ys) (in_place f) xs

-- the pieces of parts come to the events of any of them
pub parts_joined : (axioms : List Axiom) (n : ℕ) (st : State) (e : Bindings) (parts : List Expr)
    → joined (map (λ p. sat axioms n st (expression_of p) e) parts) ≡ any_of axioms n st parts e
parts_joined axioms n st e [] = sym (any_none axioms n st e)
parts_joined axioms n st e (p ∷ ps) =
    ap (λ xs. sat axioms n st (expression_of p) e ++ xs) (parts_joined axioms n st e ps)
    ∙ sym (any_step axioms n st p ps e)

-- the pieces of places come to the events of the axioms that stand there
pub axioms_joined : (lower : Below) (q : Goal) (e : Bindings) (rules : List Rule) (places : List ℕ)
    (named : List Axiom) → map (axiom_at rules) places ≡ map Some named
    → joined (map (λ place. placed_events lower (axiom_at rules place) q e) places)
    ≡ flat_map (λ x. axiom_events lower x q e) named
axioms_joined lower q e rules places named listed =
    flat_map-map (λ xs. xs) (λ place. placed_events lower (axiom_at rules place) q e) places
    ∙ (sym (flat_map-map (λ o. placed_events lower o q e) (axiom_at rules) places)
    ∙ (ap (flat_map (λ o. placed_events lower o q e)) listed
    ∙ flat_map-map (λ o. placed_events lower o q e) Some named))
