-- What is told of a bounded walk where there is no fault.
use Rattle.std.proofs.Common.{◌≡◌, ℕ, Bool, true, false, List, [], ◌∷◌, ◌++◌, None, refl, ap, ◌∙◌}
use Rattle.std.specs.List.{All}
use Rattle.std.proofs.lemmas.List.Elements.{All-nil, All-cons, All-head, All-tail}
use Rattle.hp_best.specs.Bounded.{ChosenIsCheapest, bounded, bounded_turn, chosen_plan, last_of}
use Rattle.hp_laws.specs.TreeLaws.{IsFaultless}
use Rattle.hp_passes.specs.Passes.{ComesFrom, Nothing, Takes, Leaves}
use Rattle.hp_passes.proofs.PassLemmas.{made_from}
use Rattle.hp_syntax.specs.Report.{Tally, ending_text, nothing_seen, quiet_ending, with_cut, with_did, with_plan}
use Rattle.hp_syntax.specs.Walk.{Node, Sight, Visit, Did, Plan, CutHere, FaultHere, count_told, visit}
use Rattle.hp_telling.specs.BestReports.{TellsTheCheapest, chosen_text, unless_fault}

-- a fact of all visits holds of those that come from them
comes_all : (P : Visit → Type 0) (ws vs : List Visit) → ComesFrom ws vs → All P vs → All P ws
comes_all P _ _ (Nothing vs) h = All-nil P
comes_all P _ _ (Takes v ws vs c) h =
    All-cons P v ws (All-head P v vs h) (comes_all P ws vs c (All-tail P v vs h))
comes_all P _ _ (Leaves v ws vs c) h = comes_all P ws vs c (All-tail P v vs h)

-- an ending without a fault keeps what is told
quiet_keeps : (b : Bool) (text : List ℕ) → unless_fault (quiet_ending b) text ≡ text
quiet_keeps true text = refl
quiet_keeps false text = refl

-- the ending from a visit on is no fault, where none is there
last_at : (text : List ℕ) (t : Tally) (q : List ℕ) (n : Node) (x : Sight) (vs : List Visit)
    → ((u : Tally) → unless_fault (last_of u vs).ending text ≡ text) → IsFaultless x
    → unless_fault (last_of t (visit q n x ∷ vs)).ending text ≡ text
last_at text t q n Did vs others h = others (with_did t)
last_at text t q n Plan vs others h = others (with_plan t)
last_at text t q n CutHere vs others h = others (with_cut t)
last_at text t q n (FaultHere f) vs others h = cc

last_keeps : (text : List ℕ) (t : Tally) (vs : List Visit) → All (λ v. IsFaultless v.sight) vs
    → unless_fault (last_of t vs).ending text ≡ text
last_keeps text t [] h = quiet_keeps t.is_cut text
last_keeps text t (v ∷ vs) h =
    last_at text t v.path v.node v.sight vs (λ u. last_keeps text u vs (All-tail (λ w. IsFaultless w.sight) v vs h))
    (All-head (λ w. IsFaultless w.sight) v vs h)

-- what is told of a bounded walk over visits without a fault is the cheapest of their plans
pub tells_the_cheapest : (priced : Bool) (vs : List Visit) → chosen_plan (bounded priced vs) ≡ chosen_plan vs
    → ChosenIsCheapest (chosen_plan vs) vs → All (λ v. IsFaultless v.sight) vs → TellsTheCheapest priced vs
tells_the_cheapest priced vs same cheapest faultless =
    let made = bounded priced vs in
    let quiet = comes_all (λ v. IsFaultless v.sight) made vs (made_from (bounded_turn priced) None None vs) faultless in
    let e = last_of nothing_seen made in
    let ending = ending_text e.ending (count_told e.tally.plans) e.tally.expansions in
    record {
      chosen = chosen_plan vs;
      cheapest = cheapest;
      text =
          ap (λ t. t ++ ending) (last_keeps (chosen_text (chosen_plan made)) nothing_seen made quiet)
          ∙ ap (λ o. chosen_text o ++ ending) same;
    }
