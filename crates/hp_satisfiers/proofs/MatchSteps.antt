-- The events of single values and atoms.
use Rattle.std.proofs.Common.{◌≡◌, ℕ, ℤ, Bor, ◌<◌, Bool, true, false, List, [], ◌∷◌, ◌++◌, length, map, slice_get, Option, Some, None, Result, Ok, refl, sym, ◌∙◌, ap}
use Rattle.std.specs.List.{All}
use Rattle.std.proofs.lemmas.Option.{get_or_from_slice_get}
use Rattle.hp_cells.specs.declared.keys.View.{View}
use Rattle.hp_cells.specs.declared.keys.View.TheVariants.{Nil, Sym, Num, Cons}
use Rattle.hp_cells.specs.Shows.{Shows}
use Rattle.hp_syntax.specs.declared.fault.RunFault.{RunFault}
use Rattle.hp_syntax.specs.Terms.{Term}
use Rattle.hp_syntax.specs.Values.{Bindings}
use Rattle.hp_syntax.specs.Goals.{Goal}
use Rattle.hp_syntax.specs.Matching.{meet}
use Rattle.hp_syntax.specs.Events as plain
use Rattle.hp_syntax.specs.Events.{Sat, sat_if, assigned, tested}
use Rattle.hp_eval.specs.Growth.{Grows, Gives}
use Rattle.hp_eval.specs.GoalViews.{term_at}
use Rattle.hp_eval.specs.Attempts.{extended, Tries}
use Rattle.hp_eval.specs.Slotted.{Slotted, AreBelow, Binds, named, bindings_of}
use Rattle.hp_answers.specs.declared.answer.Answer.TheVariants as plain_found
use Rattle.hp_answers.proofs.AnswerLemmas.{finds_none, finds_one, finds_same}
use Rattle.hp_eval.proofs.CellViews.{at_named}
use Rattle.hp_eval.proofs.GrowthLemmas.{bindings_stay}
use Rattle.hp_eval.proofs.SlotLemmas.{binds_vars}
use Rattle.hp_world.specs.Stages.{live_atoms, terms_at}
use Rattle.hp_world.proofs.StageLemmas.{atom_below}
use Rattle.hp_answers.specs.declared.answer.Answer.{Answer}
use Rattle.hp_answers.specs.AnswerViews.{Finds}
use Rattle.hp_satisfiers.specs.Places.{place_events, IsAtomBelow}

-- ---- values

-- a view other than the empty list isn't the empty list, of a symbol, of a number and of a list with a first part
pub sym_not_nil : (v : View) (x : Bor (List ℕ)) → v ≡ Sym x → v ≡ Nil → ⊥
sym_not_nil v x h n = cc

pub num_not_nil : (v : View) (k : ℤ) → v ≡ Num k → v ≡ Nil → ⊥
num_not_nil v k h n = cc

pub cons_not_nil : (v : View) (head tail : ℕ) → v ≡ Cons head tail → v ≡ Nil → ⊥
cons_not_nil v head tail h n = cc

-- a term that is shown as a symbol, a number or a list with a first part is true
pub shown_true : (terms : List Term) (v : View) (t : Term) (e : Bindings) → Shows terms v t → (v ≡ Nil → ⊥)
    → Sat e ∷ [] ≡ tested (Ok t) e
shown_true terms Nil t e h n = absurd (n refl)
shown_true terms (Sym name) t e h n = ap (λ x. tested (Ok x) e) (sym h)
shown_true terms (Num k) t e h n = ap (λ x. tested (Ok x) e) (sym h)
shown_true terms (Cons head tail) t e h n = ap (λ x. tested (Ok x) e) (sym h.whole)

module _ (old new : List Term) (g : Grows old new) (s : Slotted) (below : AreBelow (length old) s) (cell : ℕ)
    (r : Result Term RunFault) (gives : Gives (Ok cell) r new) where
  -- a value is that of the cell that an evaluation gave
  value_given : r ≡ Ok (term_at new cell)
  value_given = gives.1 ∙ ap Ok (sym (at_named new cell gives.0 gives.2))

  -- the events of an assignment are those of its variable with the cell
  pub assigned_given : (v : ℕ)
      → sat_if (meet v (term_at new cell) (bindings_of new s)) ≡ assigned r v (bindings_of old s)
  assigned_given v =
      ap (λ e. sat_if (meet v (term_at new cell) e)) (bindings_stay old new g s below)
      ∙ ap (λ x. assigned x v (bindings_of old s)) (sym value_given)

  -- the events of a call are those of its cell's truth
  pub tested_given : tested (Ok (term_at new cell)) (bindings_of new s) ≡ tested r (bindings_of old s)
  tested_given =
      ap (tested (Ok (term_at new cell))) (bindings_stay old new g s below)
      ∙ ap (λ x. tested x (bindings_of old s)) (sym value_given)

-- ---- places

-- where all atoms are below a number, so is the atom of a place
pub live_at : (n : ℕ) (places : List (Option ℕ)) (i : ℕ) (atom : Option ℕ) → All (λ c. c < n) (live_atoms places)
    → slice_get places i ≡ Some atom → IsAtomBelow n atom
live_at n places i None h k = tt
live_at n places i (Some a) h k = atom_below n places i a h (get_or_from_slice_get places i (Some a) None k)

-- the events of a goal at places are those at the first and at the others
pub places_step : (terms : List Term) (q : Goal) (e : Bindings) (atom : Option ℕ) (places : List (Option ℕ))
    → plain.state_events (terms_at terms (live_atoms (atom ∷ places))) q e
    ≡ place_events terms q e atom ++ plain.state_events (terms_at terms (live_atoms places)) q e
places_step terms q e None places = refl
places_step terms q e (Some a) places = refl

-- ---- variables that meet a term

-- a Sat of slots that bind above a copy stands for their bindings
pub bound_copy : (terms : List Term) (s copy made : Slotted) (found : List Answer) → copy.values ≡ s.values
    → Binds copy made → AreBelow (length terms) made → found ≡ plain_found.Sat made ∷ []
    → Finds terms (length s.values) found (Sat (bindings_of terms made) ∷ [])
bound_copy terms s copy made found e b below is =
    finds_one terms (length s.values) (plain_found.Sat made) found is (binds_vars copy made b ∙ ap length e, below)

module _ (terms : List Term) (s copy made : Slotted) (values : copy.values ≡ s.values)
    (find : Bindings → Option Bindings) (does : Bool)
    (tried : Tries does (find (bindings_of terms copy)) terms copy made) where
  found_alike : find (bindings_of terms s) ≡ extended does (bindings_of terms made)
  found_alike = ap (λ vs. find (map (named terms) vs)) (sym values) ∙ tried.answers

  -- the events in a copy of slots are those in them
  pub met_in_copy : (found : List Answer) → does ≡ true → found ≡ plain_found.Sat made ∷ []
      → Finds terms (length s.values) found (sat_if (find (bindings_of terms s)))
  met_in_copy found h is =
      finds_same terms (length s.values) found _ _
      (sym (ap sat_if (found_alike ∙ ap (λ b. extended b (bindings_of terms made)) h)))
      (bound_copy terms s copy made found values tried.binds tried.below is)

  -- where nothing is met in a copy of slots, nothing is met in them
  pub none_in_copy : (found : List Answer) → does ≡ false → found ≡ []
      → Finds terms (length s.values) found (sat_if (find (bindings_of terms s)))
  none_in_copy found h is =
      finds_none terms (length s.values) found _ is
      (ap sat_if (found_alike ∙ ap (λ b. extended b (bindings_of terms made)) h))
