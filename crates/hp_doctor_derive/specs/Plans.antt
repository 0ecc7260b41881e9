-- The plan that is given.
use Rattle.std.specs.Prelude.{◌≡◌, ℕ, zero, suc, List, map, Option, Some, None, Ok, option_map}
use Rattle.std.specs.Option.{option_and_then}
use Rattle.hp_doctor.specs.Accepting.{Refuses}
use Rattle.hp_doctor.specs.declared.accepting.Stop.{Stop}
use Rattle.hp_doctor.specs.declared.accepting.Stop.TheVariants as stops
use Rattle.hp_doctor.specs.Mending.{steps_form}
use Rattle.hp_doctor.specs.Texts.{Texts}
use Rattle.hp_doctor_derive.specs.Blanked.{blanked}
use Rattle.hp_doctor_derive.specs.declared.plans.Plan as held
use Rattle.hp_forms.specs.PlanForms.{plan_form}
use Rattle.hp_io.specs.declared.folder.Input.TheVariants as inputs
use Rattle.hp_out.specs.declared.refusal.Refusal.{Refusal}
use Rattle.hp_syntax.specs.declared.pattern.Span.{Span}
use Rattle.hp_syntax.specs.Forest.{Forest, Bare, Grow, IsForest, span_of}
use Rattle.hp_syntax.specs.GroundViews.{ground_of}
use Rattle.hp_syntax.specs.Terms.{Term}
use Rattle.hp_text.specs.Nodes.{forest_of}

-- the forest of a plan's text, and its steps
pub record Plan : Type 0 where
  pub forest : Forest
  pub steps : List Term

abbrev pub plan_of : held.Plan → Plan
plan_of p = record { forest = forest_of p.forest; steps = map ground_of p.steps.items }

-- a text is read as a plan
pub record IsPlan (text : List ℕ) (p : Plan) : Type 0 where
  pub spelled : IsForest text p.forest
  pub form_is : plan_form p.forest ≡ Ok p.steps

abbrev pub HasPlan : Option (List ℕ) → Plan → Type 0
HasPlan None p = ⊥
HasPlan (Some text) p = IsPlan text p

-- a text is refused as a plan for this reason
abbrev pub RefusesPlan : Option (List ℕ) → Refusal → Type 0
RefusesPlan text r = Refuses inputs.Plan steps_form text r

-- a plan is read of the text as it is, or, where that is refused, without the planner's own lines
pub data IsPlanIf (text : Option (List ℕ)) (p : Plan) : Type 0 where
  AsItIs : HasPlan text p → IsPlanIf text p
  Without : (r : Refusal) → RefusesPlan text r → HasPlan (option_map blanked text) p → IsPlanIf text p

-- no plan is read: the text as it is is refused for this reason, and without the planner's own lines it is refused too
pub record IsNoPlan (text : Option (List ℕ)) (r : Refusal) : Type 0 where
  pub other : Refusal
  pub as_it_is : RefusesPlan text r
  pub without : RefusesPlan (option_map blanked text) other

-- no plan is read for this reason; out of memory, nothing is known
abbrev pub StopsPlan : Option (List ℕ) → Stop → Type 0
StopsPlan text (stops.Refused r) = IsNoPlan text r
StopsPlan text stops.NoMemory = Unit {0}

-- the text of the plan, where it could be read
abbrev pub text_given : Texts → Option (List ℕ)
text_given t = option_and_then (λ f. f.text) t.plan

-- where a node of a forest stands, by its number from 0 on
abbrev pub span_in : ℕ → Forest → Option Span
span_in i Bare = None
span_in zero (Grow n f) = Some (span_of n)
span_in (suc i) (Grow n f) = span_in i f
