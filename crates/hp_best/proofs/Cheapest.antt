-- A whole search for a cheapest plan.
use Rattle.std.proofs.Common.{◌≡◌, Bool, true, List, [], Option, Some, None, refl, sym, subst}
use Rattle.std.specs.List.{All}
use Rattle.hp_laws.proofs.PathLemmas.{visits_in_tree}
use Rattle.hp_laws.specs.TreeLaws.{IsFaultless}
use Rattle.hp_net.specs.Standings.{Tree, Standing, IsAtItsNode, tree_visits}
use Rattle.hp_passes.proofs.PassingLemmas.{passed}
use Rattle.hp_passes.specs.Passing.{Passes}
use Rattle.hp_syntax.specs.Report.{nothing_seen}
use Rattle.hp_syntax.specs.Walk.{Visit}
use Rattle.hp_best.specs.declared.bounding.Chosen.{Chosen}
use Rattle.hp_best.specs.declared.bounding.Bounding.{Bounding}
use Rattle.hp_best.specs.declared.bounding.Found.{Found}
use Rattle.hp_best.specs.Bounded.{bounded, bounded_turn, chosen_plan, last_of, NeverFalls, IsChosen, IsFound, ChosenIsCheapest, IsCheapestOf}
use Rattle.hp_best.specs.Searching.{meets_bounding}
use Rattle.hp_best.proofs.BoundedSteps.{Holds, IsOutcome, Over, outcome, turns}
use Rattle.hp_best.proofs.ChoiceLemmas.{same_chosen, chosen_is_cheapest}

-- the visits of a tree are at their nodes
pub at_nodes : (t : Tree) (vs : List Visit) → vs ≡ tree_visits t → All (IsAtItsNode t) vs
at_nodes t vs e = subst (All (IsAtItsNode t)) (sym e) (visits_in_tree t.rules t.nest t.root)

-- a whole search has found what a bounded walk finds
pub search_found : (priced : Bool) (s u : Bounding) (c e : Unit {0}) (vs : List Visit) (there : Standing)
    → s.priced ≡ priced → IsOutcome s.found None (last_of nothing_seen []) → Passes meets_bounding s c vs u e there
    → IsFound priced u.found vs
search_found priced s u c e vs there p h walk =
    let holds : Holds priced None s c vs =
    record { priced_too = p; chosen = None; held = h.best; cost = refl } in
    let made =
    (passed meets_bounding (bounded_turn priced) (Holds priced) Over (turns priced) None s u c e vs there holds walk).made
    in
    let found = outcome s u c e (bounded priced vs) None nothing_seen made h in
    record { best = found.best; plans = found.plans; expansions = found.expansions; ending = found.ending }

-- a plan that is the chosen one is the cheapest
chosen_cheapest : (c : Option Chosen) (o : Option Visit) (vs : List Visit) → IsChosen c o → ChosenIsCheapest o vs
    → IsCheapestOf c vs
chosen_cheapest None None vs h k = k
chosen_cheapest None (Some v) vs h k = absurd h
chosen_cheapest (Some c) None vs h k = absurd h
chosen_cheapest (Some c) (Some v) vs h k = (v, h, k)

-- so what was found is the cheapest, where no fault is there
pub found_cheapest : (priced : Bool) (f : Found) (vs : List Visit) → (priced ≡ true → NeverFalls vs)
    → IsFound priced f vs → All (λ v. IsFaultless v.sight) vs → IsCheapestOf f.best vs
found_cheapest priced f vs falls h faultless =
    chosen_cheapest f.best (chosen_plan vs) vs (subst (IsChosen f.best) (same_chosen priced vs falls faultless) h.best)
    (chosen_is_cheapest vs)
