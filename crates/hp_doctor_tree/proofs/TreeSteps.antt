-- What is known of files that are accepted, and of their pairs.
use Rattle.std.proofs.Common.{◌≡◌, ℕ, zero, suc, ◌-◌, ◌<◌, Bool, List, [], ◌∷◌, ◌++◌, length, slice_get, Option, Some, None, Ok, ap, ap₂, subst, ◌∙◌, arith}
use Rattle.std.specs.List.{All}
use Rattle.std.proofs.lemmas.List.Elements.{All-head, All-tail}
use Rattle.std.proofs.lemmas.Option.{none-some, same_Some}
use Rattle.hp_syntax.specs.Checks.{domain_faults, first_of, problem_faults}
use Rattle.hp_syntax.specs.Forest.{Forest}
use Rattle.hp_syntax.specs.Grammar.{domain_form, problem_form}
use Rattle.hp_syntax.specs.GroundPatterns.{IsGroundPair}
use Rattle.hp_syntax.specs.Numbered.{IsNumberedDomain}
use Rattle.hp_syntax.specs.Syntax.{Domain, Pair, Problem, Rule}
use Rattle.hp_syntax.specs.TextForms.{IsRead}
use Rattle.hp_doctor.specs.Accepting.{Has, IsAccepted}
use Rattle.hp_changes.specs.Changes.{Changed}
use Rattle.hp_code.specs.CodeViews.{CodeView, or_empty, rules_in, rules_of}
use Rattle.hp_derivation.specs.declared.roll.Stood.{Stood}
use Rattle.hp_derivation.specs.Derived.{derived}
use Rattle.hp_way.specs.Ways.{Deed}
use Rattle.hp_doctor.specs.Texts.{File, Texts}
use Rattle.hp_doctor_tree.specs.Deeds.{steps_from}
use Rattle.hp_doctor_tree.specs.Drawings.{drawing_text}
use Rattle.hp_doctor_tree.specs.TreeTold.{Accepted, IsTreeOf, TellsOf, TellsTree, Told, Unknown, pair_at, parts_or_none, parts_text, plan_text}
use Rattle.hp_doctor_tree.specs.declared.trees.Asked.{Asked}
use Rattle.hp_out.specs.Writing.{SinkRun}
use Rattle.hp_syntax.specs.declared.status.Status.{Status}

-- what holds of all holds of the one at a place
all_there : {X : Type 0} (P : X → Type 0) (xs : List X) (i : ℕ) (x : X) → All P xs → slice_get xs i ≡ Some x → P x
all_there P [] i x h e = absurd (none-some x e)
all_there P (y ∷ xs) zero x h e = subst P (same_Some y x e) (All-head P y xs h)
all_there P (y ∷ xs) (suc i) x h e = all_there P xs i x (All-tail P y xs h) e

-- a domain that is read is numbered
pub has_numbered : ((len : ℕ) (f : Forest) (d : Domain) → domain_form len f ≡ Ok d → IsNumberedDomain d)
    → (text : Option (List ℕ)) (d : Domain) → Has domain_form text d → IsNumberedDomain d
has_numbered law None d h = absurd h
has_numbered law (Some text) d h = law (length text) h.forest d h.form_is

-- the pairs of a problem that is read and checked are ground
has_ground : ((text : List ℕ) (d : Domain) (p : Problem) → IsRead problem_form text p
    → first_of (domain_faults d ++ problem_faults d p) ≡ None → All IsGroundPair p.pairs)
    → (text : Option (List ℕ)) (d : Domain) (p : Problem) → Has problem_form text p
    → first_of (domain_faults d ++ problem_faults d p) ≡ None → All IsGroundPair p.pairs
has_ground law None d p h c = absurd h
has_ground law (Some text) d p h c = law text d p h c

-- so is the pair of a number
pub pair_ground : ((text : List ℕ) (d : Domain) (p : Problem) → IsRead problem_form text p
    → first_of (domain_faults d ++ problem_faults d p) ≡ None → All IsGroundPair p.pairs)
    → (t : Texts) (d : Domain) (p : Problem) → IsAccepted t d p → (number : ℕ) (pair : Pair)
    → pair_at number p.pairs ≡ Some pair → IsGroundPair pair
pair_ground law t d p a zero pair e = absurd (none-some pair e)
pair_ground law t d p a (suc i) pair e =
    all_there IsGroundPair p.pairs i pair (has_ground law t.problem.text d p a.problem a.checked) e

-- what is drawn of a plan is what its deeds have
pub plan_is : (f : File) (rules : List Rule) (pair : Pair) (ds : List Deed) (cs : List Changed) (dot : Bool)
    (steps : List ℕ) (tasks : List Stood) (order : List ℕ) (o : Option (List Stood × List ℕ))
    → steps ≡ steps_from rules 0 ds → tasks ≡ (parts_or_none o).0 → order ≡ (parts_or_none o).1
    → o ≡ derived rules pair ds
    → drawing_text f
    (record { rules = rules; deeds = ds; steps = steps; changes = cs; tasks = tasks; dot = dot }) order
    ≡ plan_text f rules pair ds cs dot
plan_is f rules pair ds cs dot steps tasks order o s t r e =
    let text : List ℕ → List Stood → List ℕ → List ℕ =
    λ ss ts os. drawing_text f
    (record { rules = rules; deeds = ds; steps = ss; changes = cs; tasks = ts; dot = dot }) os in
    ap (λ ss. text ss tasks order) s
    ∙ (ap₂ (λ ts os. text (steps_from rules 0 ds) ts os) t r
    ∙ ap (λ p. parts_text f rules ds cs dot (parts_or_none p)) e)

-- a code whose rules read back as these has them
pub rules_known : (c : CodeView) (rules : List Rule) → rules_of c ≡ Some rules → rules_in c ≡ rules
rules_known c rules e = ap or_empty e

-- the pair of a number that isn't 0 is the one before it from 0 on
pub pair_known : (number : ℕ) (ps : List Pair) → 0 < number → slice_get ps (number - 1) ≡ pair_at number ps
pair_known zero ps h = absurd (omega (arith, h))
pair_known (suc i) ps h = ap (slice_get ps) (let e : suc i - 1 ≡ i = omega arith in e)

-- what is told of the pair of a number is what is told of the files
pub tells_accepted : (t : Texts) (a : Asked) (d : Domain) (p : Problem) (pair : Pair) (s : Status) (r : SinkRun)
    → IsAccepted t d p → pair_at a.pair p.pairs ≡ Some pair → TellsOf (IsTreeOf t a d.rules pair) s r
    → TellsTree t a s r
tells_accepted t a d p pair s r acc e (Told answer is tells) = Told answer (Accepted d p pair acc e is) tells
tells_accepted t a d p pair s r acc e (Unknown x y) = Unknown x y
