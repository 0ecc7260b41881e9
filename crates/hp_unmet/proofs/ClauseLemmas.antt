-- A branch of an axiom, by the parts that it asks for and the atom from which its head starts.
use Rattle.std.proofs.Common.{◌≡◌, ℕ, ◌-◌, false, List, Option, Some, None, option_map, sym, ap, ◌∙◌}
use Rattle.hp_choice.specs.FirstSatisfier.{first_sat}
use Rattle.hp_syntax.specs.Events.{State}
use Rattle.hp_syntax.specs.Syntax as syntax
use Rattle.hp_syntax.specs.Terms.{Term}
use Rattle.hp_unmet.specs.Clauses.{Clause, atom_at, clause_answer, clause_by, start_of, started_under}
use Rattle.hp_unmet.specs.Conjunctions.{Conjunction, answer_where, first_events}
use Rattle.hp_unmet.specs.Said.{is_atom}
use Rattle.hp_unmet.specs.declared.unmet.Unmet.TheVariants as unmets
use Rattle.hp_unmet.proofs.AnswerLemmas.{no_match}
use Rattle.std.specs.Option.{option_and_then}

-- ---- what a branch is made of

made_for : (asking own : Conjunction) (o : Option syntax.Atom) (x : Clause)
    → option_map (λ a. record { own = own; asking = asking; atom = a }) o ≡ Some x
    → (own ≡ x.own) × (asking ≡ x.asking)
made_for asking own None x e = absurd cc
made_for asking own (Some a) x e =
    let made : Clause = record { own = own; asking = asking; atom = a } in
    let same : made ≡ x = cc in
    (ap (λ (y : Clause). y.own) same, ap (λ (y : Clause). y.asking) same)

made_by : (place : ℕ) (o : Option Conjunction) (asking : Conjunction) (x : Clause) → clause_by place o asking ≡ Some x
    → (o ≡ Some x.own) × (asking ≡ x.asking)
made_by place None asking x e = absurd cc
made_by place (Some own) asking x e =
    let h = made_for asking own (atom_at asking place) x e in (ap Some h.0, h.1)

-- a branch has the parts of its own rule, and those that ask for it
pub made_of : (place : ℕ) (o p : Option Conjunction) (x : Clause) → option_and_then (clause_by place o) p ≡ Some x
    → (o ≡ Some x.own) × (p ≡ Some x.asking)
made_of place o None x e = absurd cc
made_of place o (Some asking) x e = let h = made_by place o asking x e in (h.0, ap Some h.1)

-- ---- tasks that are no atoms

module _ (rules : List syntax.Rule) (nest : ℕ) (state : State) (task : Term) (place : ℕ) where
  -- no head starts for one
  not_started : (x : Clause) → is_atom task ≡ false → start_of rules nest state task place x ≡ None
  not_started x h =
      ap (λ o. started_under x.own x.atom (first_sat (first_events rules nest state x.asking o place)))
      (no_match x.asking task h)

  pub unstarted_head : (o : Option Clause) (x : Clause) → Some x ≡ o → is_atom task ≡ false
      → unmets.Head ≡ clause_answer rules nest state task place o
  unstarted_head o x is h =
      sym (ap (clause_answer rules nest state task place) (sym is)
      ∙ ap (answer_where rules (nest - 1) state x.own) (not_started x h))

  pub no_clause : (o : Option Clause) → None ≡ o → unmets.None ≡ clause_answer rules nest state task place o
  no_clause o is = ap (clause_answer rules nest state task place) is
