-- The first of some branches that has events.
use Rattle.std.proofs.Common.{◌≡◌, ℕ, zero, suc, ◌+◌, ◌-◌, ◌<◌, List, [], ◌∷◌, length, map, drop, get_or, Option, Some, refl, ap, arith}
use Rattle.hp_syntax.specs.Syntax.{Axiom}
use Rattle.hp_syntax.specs.Values.{Bindings}
use Rattle.hp_syntax.specs.Events.{Event, State, sat, branch_events, chosen, chosen_or, chosen_events}
use Rattle.hp_eval.proofs.Loops.{left_more}
use Rattle.hp_satisfiers.specs.Scenes.{below_at}

-- a branch that meets anything is chosen
pub chosen_here : {A : Type 0} (x : A) (xs : List Event) (other : Option (A × List Event)) → 0 < length xs
    → chosen_or x xs other ≡ Some (x, xs)
chosen_here x [] other l = absurd (omega (arith, l))
chosen_here x (y ∷ ys) other l = refl

-- one that meets nothing is passed over
pub chosen_passes : {A : Type 0} (x : A) (xs : List Event) (other : Option (A × List Event)) → length xs ≡ 0
    → chosen_or x xs other ≡ other
chosen_passes x [] other e = refl
chosen_passes x (y ∷ ys) other e = absurd (omega (arith, e))

-- of the branches that are left the first is looked at first
pub chosen_left : {A B : Type 0} (events : B → List Event) (f : A → B) (xs : List A) (i : ℕ) (x : A) → i < length xs
    → x ≡ get_or xs i x
    → chosen events (map f (drop i xs)) ≡ chosen_or (f x) (events (f x)) (chosen events (map f (drop (i + 1) xs)))
chosen_left events f xs i x l is = ap (λ ys. chosen events (map f ys)) (left_more xs i x l is)

-- where a level is left, the events of an axiom's branches are those of the branch that is chosen, one level down
pub branches_begin : (axioms : List Axiom) (level : ℕ) (st : State) (x : Axiom) (e : Bindings) → 0 < level
    → branch_events (below_at axioms level st) x e
    ≡ chosen_events (chosen (λ c. sat axioms (level - 1) st c.body e) x.clauses)
branches_begin axioms zero st x e l = absurd (omega arith)
branches_begin axioms (suc level) st x e l =
    let one : level ≡ suc level - 1 = omega arith in
    ap (λ n. chosen_events (chosen (λ c. sat axioms n st c.body e) x.clauses)) one
