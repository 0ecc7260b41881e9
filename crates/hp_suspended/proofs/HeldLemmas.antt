-- Atoms whose parts all stand for terms: what they match, and what they meet.
use Rattle.std.proofs.Common.{◌≡◌, ℕ, ◌+◌, ◌<◌, ◌++◌, Bool, true, false, List, [], ◌∷◌, length, slice_get, Option, Some, None, is_some, Ok, arith, refl, sym, ap, ap₂, subst, ◌∙◌}
use Rattle.std.specs.Prelude.{◌&&◌, ◌==◌, bytes_eq, cond, not, option_map}
use Rattle.std.specs.Option.{option_and_then}
use Rattle.std.proofs.Math.Path.{fun_ext}
use Rattle.std.proofs.lemmas.Bool.{and_from}
use Rattle.std.proofs.lemmas.Bool.Decides.{nat_tests}
use Rattle.std.proofs.lemmas.List.{append-nil}
use Rattle.std.proofs.lemmas.Option.{get_or_from_slice_get, same_Some}
use Rattle.hp_cells.specs.Cells.{LooksUp}
use Rattle.hp_syntax.specs.declared.limits.TheConstants.{DEEPEST_TERM}
use Rattle.hp_syntax.specs.declared.pattern.AtomPat.{AtomPat}
use Rattle.hp_syntax.specs.declared.pattern.Pat.{Pat}
use Rattle.hp_syntax.specs.Syntax.{Atom, Pattern, Patterns, Variable, Listing, Call, NoPattern, Before}
use Rattle.hp_syntax.specs.Syntax as syntax
use Rattle.hp_syntax.specs.Terms.{Term, Terms, Symbol, Number, Listed, NoTerm, More, deepest, same_term, same_terms}
use Rattle.hp_syntax.specs.Values.{Bindings, on_ok}
use Rattle.hp_syntax.specs.Goals as plain
use Rattle.hp_syntax.specs.Goals.{Known, Free, fill_goal, fill_parts, ground_parts, match_filled, match_fillings, match_goal}
use Rattle.hp_syntax.specs.Events.{Sat, filled_events, sat_if}
use Rattle.hp_syntax.specs.Views.{atom_of, patterns_of}
use Rattle.hp_syntax.proofs.TermEquality.{same_self, same_sound}
use Rattle.hp_code.specs.CodeViews.{IsCode, rules_in}
use Rattle.hp_eval.specs.FillSteps.{too_deep}
use Rattle.hp_eval.specs.GoalViews.{term_at}
use Rattle.hp_eval.specs.Growth.{Grows}
use Rattle.hp_eval.specs.Slotted.{Slotted, AreBelow, bindings_of}
use Rattle.hp_eval.proofs.CellViews.{at_named, named_at}
use Rattle.hp_eval.proofs.FillStepLemmas.{goal_fits}
use Rattle.hp_eval.proofs.GrowthLemmas.{bindings_stay, still_names}
use Rattle.hp_world.specs.Stages.{AllBelow, live_atoms}
use Rattle.hp_world.proofs.StageLemmas.{atom_below}
use Rattle.hp_suspended.specs.declared.scene.Scene.{Scene}
use Rattle.hp_suspended.specs.Filtered.{sats_from}
use Rattle.hp_suspended.specs.HeldAtoms.{HoldsAt, IsHeld, IsListOf, StandFor}
use Rattle.hp_suspended.specs.SceneViews.{code_in, setting_of}
use Rattle.hp_suspended.specs.Settings.{Setting, atoms_at, axioms_from, axioms_in, below_at, places_from, state_in}
use Rattle.hp_suspended.specs.SimpleAtoms.{are_simple, is_simple, part_filled}
use Rattle.hp_suspended.proofs.AxiomNodes.{axioms_ended}
use Rattle.hp_suspended.proofs.NamedAxioms.{goal_begins}
use Rattle.hp_suspended.proofs.SatPlaces.{GivesNone, sats_next, sats_none}
use Rattle.hp_suspended.proofs.SimpleFillings.{fill_all, goal_filled, parts_filled}

-- ---- filling

-- what is filled to a term is a variable, a symbol or a number
known_simple : (p : Pattern) (e : Bindings) (t : Term) → part_filled p e ≡ Known t → is_simple p ≡ true
known_simple (Variable s v) e t h = refl
known_simple (syntax.Symbol s name) e t h = refl
known_simple (syntax.Number s n) e t h = refl
known_simple (Listing s ps tail) e t h = absurd cc
known_simple (Call s name args) e t h = absurd cc

-- so are those that stand for terms
stand_simple : (ps : Patterns) (e : Bindings) (ts : Terms) → StandFor ps e ts → are_simple ps ≡ true
stand_simple NoPattern e ts h = refl
stand_simple (Before p ps) e NoTerm h = absurd h
stand_simple (Before p ps) e (More t ts) h =
    and_from (is_simple p) (are_simple ps) (known_simple p e t h.0) (stand_simple ps e ts h.1)

-- and they are filled to ground parts
stand_ground : (ps : Patterns) (e : Bindings) (ts : Terms) → StandFor ps e ts
    → ground_parts (parts_filled ps e) None ≡ Some ts
stand_ground NoPattern e NoTerm h = refl
stand_ground NoPattern e (More t ts) h = absurd h
stand_ground (Before p ps) e NoTerm h = absurd h
stand_ground (Before p ps) e (More t ts) h =
    ap (λ x. ground_parts (plain.Then x (parts_filled ps e)) None) h.0
    ∙ ap (option_map (More t)) (stand_ground ps e ts h.1)

-- terms that nest less deep than terms may make no list that is too deep
fits_list : (ts : Terms) → deepest ts < DEEPEST_TERM → too_deep (Some ts) ≡ false
fits_list ts h = grind (arith, nat_tests)

-- an atom of such parts is filled to their goal
pub stand_fills : (a : Atom) (e : Bindings) (ts : Terms) → a.tail ≡ None → StandFor a.args e ts
    → deepest ts < DEEPEST_TERM → fill_goal a e ≡ Ok (goal_filled a e)
stand_fills a e ts untailed stand shallow =
    ap (λ t. on_ok (fill_parts a.args t e) (λ f. plain.goal_of a f (ground_parts f.0 f.1))) untailed
    ∙ (ap (λ r. on_ok r (λ f. plain.goal_of a f (ground_parts f.0 f.1)))
    (fill_all a.args e (stand_simple a.args e ts stand))
    ∙ goal_fits a (parts_filled a.args e, None) (ground_parts (parts_filled a.args e) None)
    (ap too_deep (stand_ground a.args e ts stand) ∙ fits_list ts shallow))

-- ---- matching

-- a part that stands for a term matches that term alone, and binds nothing
one_matches : (p : Pattern) (e d : Bindings) (t u : Term) → part_filled p e ≡ Known t
    → match_filled (part_filled p e) u d ≡ cond (same_term t u) (Some d) None
unfolding match_filled
one_matches p e d t u h = ap (λ x. match_filled x u d) h

-- so do several
all_match : (ps : Patterns) (e d : Bindings) (ts us : Terms) → StandFor ps e ts
    → match_fillings (parts_filled ps e) None us d ≡ cond (same_terms ts us) (Some d) None
unfolding match_fillings
all_match NoPattern e d NoTerm NoTerm h = refl
all_match NoPattern e d NoTerm (More u us) h = refl
all_match NoPattern e d (More t ts) us h = absurd h
all_match (Before p ps) e d NoTerm us h = absurd h
all_match (Before p ps) e d (More t ts) NoTerm h = refl
all_match (Before p ps) e d (More t ts) (More u us) h =
    ap (option_and_then (match_fillings (parts_filled ps e) None us)) (one_matches p e d t u h.0)
    ∙ by (same_term t u) (all_match ps e d ts us h.1)
  where
    by : (same : Bool) → match_fillings (parts_filled ps e) None us d ≡ cond (same_terms ts us) (Some d) None
        → option_and_then (match_fillings (parts_filled ps e) None us) (cond same (Some d) None)
        ≡ cond (same && same_terms ts us) (Some d) None
    by true k = k
    by false k = refl

-- the atom of a name and of parts
abbrev pub atom_with : List ℕ → Terms → Term
atom_with name ts = Listed (More (Symbol name) ts)

-- a goal whose parts stand for terms matches the atom of its name and of these alone, and binds nothing
goal_matches : (a : Atom) (e : Bindings) (ts : Terms) → StandFor a.args e ts → (u : Term)
    → match_goal (goal_filled a e) u e ≡ cond (same_term (atom_with a.name ts) u) (Some e) None
goal_matches a e ts h (Symbol name) = refl
goal_matches a e ts h (Number n) = refl
goal_matches a e ts h (Listed NoTerm) = refl
goal_matches a e ts h (Listed (More (Number n) us)) = refl
goal_matches a e ts h (Listed (More (Listed xs) us)) = refl
goal_matches a e ts h (Listed (More (Symbol name) us)) = by (bytes_eq a.name name) (all_match a.args e e ts us h)
  where
    by : (same : Bool) → match_fillings (parts_filled a.args e) None us e ≡ cond (same_terms ts us) (Some e) None
        → cond same (match_fillings (parts_filled a.args e) None us e) None
        ≡ cond (same && same_terms ts us) (Some e) None
    by true k = k
    by false k = refl

-- ---- places

-- what equals a term is matched, and nothing else is
abbrev same_found : Term → Bindings → Term → Option Bindings
same_found t e u = cond (same_term t u) (Some e) None

module _ (s : Scene) (cells terms : List Term) (g : Grows cells terms)
    (atoms : AllBelow (length cells) (live_atoms s.world.now.places)) (t : Term) (e : Bindings) where
  -- an atom of a place is the same over terms that are added
  atom_named : (i atom : ℕ) → slice_get s.world.now.places i ≡ Some (Some atom)
      → slice_get cells atom ≡ Some (term_at terms atom)
  atom_named i atom stands =
      let within =
      atom_below (length cells) s.world.now.places i atom atoms
      (get_or_from_slice_get s.world.now.places i (Some atom) None stands) in
      let here = named_at cells atom within in
      here
      ∙ ap Some (sym (at_named terms atom (term_at cells atom) (still_names cells terms g atom (term_at cells atom) here)))

  -- a place without the atom of a term gives nothing
  none_held : (i : ℕ) → (HoldsAt cells s.world.now.places t i → ⊥) → GivesNone (setting_of s terms) (same_found t e) i
  none_held i not = λ atom stands. by atom stands (same_term t (term_at terms atom)) refl
    where
      by : (atom : ℕ) → slice_get s.world.now.places i ≡ Some (Some atom) → (same : Bool)
          → same_term t (term_at terms atom) ≡ same → cond same (Some e) None ≡ None
      by atom stands false is = refl
      by atom stands true is =
          absurd (not (
            atom,
            stands,
            atom_named i atom stands ∙ ap Some (sym (same_sound t (term_at terms atom) is)),
          ))

  -- its place gives the bindings
  one_held : (i : ℕ) (h : HoldsAt cells s.world.now.places t i) → same_found t e (term_at terms h.0) ≡ Some e
  one_held i h =
      let is : t ≡ term_at terms h.0 = same_Some t (term_at terms h.0) (sym h.2 ∙ atom_named i h.0 h.1) in
      ap (λ u. cond (same_term t u) (Some e) None) (sym is) ∙ ap (λ b. cond b (Some e) None) (same_self t)

  -- so the places give one satisfier where one of them has the atom, and else none
  held_sats : (held : Bool) → IsHeld held cells s.world.now.places t
      → sats_from (setting_of s terms) 0 (same_found t e) ≡ cond held (Sat e ∷ []) []
  held_sats true h =
      let w = setting_of s terms in
      sats_next w (same_found t e) 0 h.0 h.1.0 (omega arith)
      (λ j l m. none_held j (λ there. absurd (let same : j ≡ h.0 = h.2 j there in omega (arith, same, m)))) h.1.1
      ∙ ap₂ ◌++◌ (ap sat_if (one_held h.0 h.1))
      (sats_none w (same_found t e) (h.0 + 1)
      (λ j l. none_held j (λ there. absurd (let same : j ≡ h.0 = h.2 j there in omega (arith, same, l)))))
  held_sats false h = sats_none (setting_of s terms) (same_found t e) 0 (λ j l. none_held j (h j))

-- the events of a goal by places are what it matches there
places_matched : (w : Setting) (q : plain.Goal) (e : Bindings) (found : Term → Option Bindings)
    → ((u : Term) → match_goal q u e ≡ found u) → places_from w 0 q e ≡ sats_from w 0 found
unfolding places_from sats_from
places_matched w q e found same = ap (sats_from w 0) (fun_ext same)

-- an atom that is filled meets what its goal meets by the atoms of the places, and then by the axioms of its name
filled_meets : (w : Setting) (n : ℕ) (a : Atom) (e : Bindings) (q : plain.Goal) → fill_goal a e ≡ Ok q
    → atoms_at (axioms_in w) n (state_in w) a e ≡ places_from w 0 q e ++ axioms_from w n 0 q e
unfolding places_from axioms_from
filled_meets w n a e q filled =
    ap (λ r. filled_events (axioms_in w) (below_at (axioms_in w) n (state_in w)) (state_in w) r e) filled
    ∙ goal_begins (below_at (axioms_in w) n (state_in w)) q e (state_in w) (rules_in w.code)

-- ---- the event

-- an atom whose parts all stand for terms and whose name no axiom concludes meets one satisfier where a place has it,
-- and else nothing
pub held_meets : (s : Scene) → IsCode (code_in s) → (cells : List Term)
    → AllBelow (length cells) (live_atoms s.world.now.places) → (e : Slotted) → AreBelow (length cells) e → (a : Atom)
    → a.tail ≡ None → length ((code_in s).axiom_rules a.name) ≡ 0 → (list : Option ℕ)
    → (h : IsListOf cells (bindings_of cells e) a.args list) → (held : Bool)
    → IsHeld held cells s.world.now.places (atom_with a.name h.parts) → (n : ℕ) (terms : List Term)
    → Grows cells terms
    → atoms_at (axioms_in (setting_of s terms)) n (state_in (setting_of s terms)) a (bindings_of terms e)
    ≡ cond held (Sat (bindings_of terms e) ∷ []) []
held_meets s code cells atoms e below a untailed none list h held is n terms g =
    let w = setting_of s terms in
    let b = bindings_of terms e in
    let stand : StandFor a.args b h.parts =
    subst (λ d. StandFor a.args d h.parts) (sym (bindings_stay cells terms g e below)) h.stand in
    let q = goal_filled a b in
    filled_meets w n a b q (stand_fills a b h.parts untailed stand h.shallow)
    ∙ ap₂ ◌++◌
    (places_matched w q b (same_found (atom_with a.name h.parts) b) (goal_matches a b h.parts stand)
    ∙ held_sats s cells terms g atoms (atom_with a.name h.parts) b held is)
    (axioms_ended w n 0 q code (omega (arith, none)) b)
    ∙ append-nil (cond held (Sat b ∷ []) [])

-- what is not there
none_there : {A : Type 0} (o : Option A) (there : Bool) → there ≡ is_some o → there ≡ false → o ≡ None
none_there None there is h = refl
none_there (Some x) there is h = absurd cc

-- the same at the values that the code holds
pub held_gives : (s : Scene) → IsCode (code_in s) → (cells : List Term)
    → AllBelow (length cells) (live_atoms s.world.now.places) → (e : Slotted) → AreBelow (length cells) e → (p : AtomPat)
    → (tailed : Bool) → tailed ≡ is_some p.tail → tailed ≡ false
    → (concluded : Bool) → concluded ≡ not (length ((code_in s).axiom_rules p.name) == 0) → concluded ≡ false → (args : List Pat) → args ≡ p.args.items → (list : Option ℕ)
    → IsListOf cells (bindings_of cells e) (patterns_of args) list → (held : Bool)
    → ((ts : Terms) → LooksUp (Listed ts) cells list → IsHeld held cells s.world.now.places (atom_with p.name ts))
    → (n : ℕ) (terms : List Term) → Grows cells terms
    → atoms_at (axioms_in (setting_of s terms)) n (state_in (setting_of s terms)) (atom_of p) (bindings_of terms e)
    ≡ cond held (Sat (bindings_of terms e) ∷ []) []
held_gives s code cells atoms e below p tailed t untailed concluded tells none args same list h held is n terms g =
    let whole : IsListOf cells (bindings_of cells e) (patterns_of p.args.items) list =
    subst (λ xs. IsListOf cells (bindings_of cells e) (patterns_of xs) list) same h in
    let none_named : length ((code_in s).axiom_rules p.name) ≡ 0 = grind (arith, nat_tests) in
    held_meets s code cells atoms e below (atom_of p) (none_there p.tail tailed t untailed) none_named list whole held (is whole.parts whole.names) n terms g
